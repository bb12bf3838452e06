-- What a shelf tells of itself, and what a load does to it.
use Rattle.std.specs.Prelude.{◌≡◌, ◌<◌, ◌⊎◌, ℕ, ◌+◌, ◌-◌, ◌^◌, nat_lt, if◌then◌else◌, List, Contains, Option, Some, None, Result, Ok, Err, IfOk, IsErrOf, Vec, find, option_map}
use Rattle.std.specs.Str.{bytes_eq}
use Rattle.std.specs.declared.alloc.Global.{Global}
use Rattle.outside_edge.specs.Told.{Tells}
use Rattle.outside_edge.specs.declared.shelf.LoadFault.{LoadFault}
use Rattle.outside_edge.specs.declared.shelf.LoadFault.TheVariants.{Failed, Memory}

-- the files as names with their bytes, how many loads there were, and the numbers, from 1, of the loads that fail
pub record ShelfTold : Type 0 where
  pub files : List (List ℕ × List ℕ)
  pub calls : ℕ
  pub failing : List ℕ

-- the bytes of the first file of this name
abbrev pub file_of : List (List ℕ × List ℕ) → List ℕ → Option (List ℕ)
file_of files name = option_map (λ f. f.1) (find (λ f. bytes_eq f.0 name) files)

-- the next load, of this name, fails: the name is missing, or the load's number is among those
abbrev pub LoadFails : ShelfTold → List ℕ → Type 0
LoadFails before name = (file_of before.files name ≡ None) ⊎ Contains before.failing (before.calls + 1)

-- the count of faults rises exactly in a load that answers Failed
abbrev pub CountsLoad : {T : Type 0} → ℕ → ℕ → Result T LoadFault → Type 0
CountsLoad before now (Ok x) = now ≡ before
CountsLoad before now (Err Failed) = before < now
CountsLoad before now (Err Memory) = now ≡ before

-- what a load answers that fails: Failed, and Memory where the count of faults stands at the end of its type
abbrev pub fault_at : ℕ → LoadFault
fault_at faults = if nat_lt faults (2 ^ 64 - 1) then Failed else Memory

-- what a load answered, with the bytes as a list
abbrev pub bytes_of : Result (Vec ℕ Global) LoadFault → Result (List ℕ) LoadFault
bytes_of (Ok v) = Ok v.items
bytes_of (Err e) = Err e

-- What one load does to what is told. Whatever it answers, it is counted, and files and failing numbers stay. Ok gives
-- the file's bytes, at a load that doesn't fail; Failed comes at one that does.
pub record LoadStep (name : List ℕ) (result : Result (List ℕ) LoadFault) (before after : ShelfTold) : Type 0 where
  pub files : after.files ≡ before.files
  pub failing : after.failing ≡ before.failing
  pub calls : after.calls ≡ before.calls + 1
  pub ok : IfOk result (λ bytes. file_of before.files name ≡ Some bytes)
  pub not_failing : IfOk result (λ _. ¬ Contains before.failing (before.calls + 1))
  pub failed : IsErrOf result Failed → LoadFails before name

-- one load, over what the shelf tells
pub record Loads (name : List ℕ) (old new : Option ShelfTold) (result : Result (List ℕ) LoadFault) : Type 0 where
  pub tells : Tells old new (LoadStep name result)
