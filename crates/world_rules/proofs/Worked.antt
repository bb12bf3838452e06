-- What a small program writes, computed.
use Rattle.std.proofs.Common.{◌≡◌, ℕ, ℤ, pos, negsuc, Bool, true, false, List, [], ◌∷◌, ◌++◌, codes, Option, Some, None, is_some, refl, ap, arith}
use denote.Hole.Carrier
use Rattle.std.specs.Fmt.{decimal}
use Rattle.std.proofs.lemmas.Fmt.{decimal-digits_of}
use Rattle.clu_tree.specs.declared.value.Value.TheVariants as value
use Rattle.clu_tree.specs.declared.tree.Expr.{out-Expr}
use Rattle.clu_tree.specs.declared.tree.Expr.TheVariants as e
use Rattle.clu_tree.specs.declared.tree.Stmt.{out-Stmt}
use Rattle.clu_tree.specs.declared.tree.Stmt.TheVariants as s
use Rattle.clu_tree.specs.declared.program.NodePart.TheVariants as part
use Rattle.clu_tree.specs.declared.program.Program.{Program}
use Rattle.world_types.specs.declared.event.Event.TheVariants as event
use Rattle.world_types.specs.declared.event.PlainEvent.{PlainEvent}
use Rattle.world_types.specs.declared.event.PlainEvent.TheVariants as plain_event
use Rattle.world_types.specs.declared.effects.Effects.{Effects}
use Rattle.world_rules.specs.Plain.{World, plain}
use Rattle.world_rules.specs.Node.{NodeState, first_of_program, rules_of}
use Rattle.world_rules.specs.Transcript.{transcript}

-- what is written for one turn of four steps with these effects
abbrev written_for : Option (World NodeState × Effects) → List ℕ
written_for None = []
written_for (Some after) = transcript (record { stamp = 0; event = event.Turn 1 4 0; effects = after.1 } ∷ [])

-- a routine that prints `hi`, started at the node 1
abbrev greeting : Program
greeting = record {
  equates = [];
  node_vars = [];
  routines = record { name = codes "hello"; params = []; result = None; signals = []; body = s.PutLine (e.Literal (value.Str (codes "hi")) 2) 2 ∷ []; line = 1 } ∷ [];
  clusters = [];
  nodes = record { number = pos 1; parts = part.Start (codes "hello") [] 4 ∷ []; line = 4 } ∷ [];
}

-- a routine that sleeps for so many ms and prints `up`, started at the node 1
abbrev pub napping : ℤ → Program
napping ms = record {
  equates = [];
  node_vars = [];
  routines = record { name = codes "nap"; params = []; result = None; signals = []; body = s.Sleep (e.Literal (value.Int ms) 2) 2 ∷ s.PutLine (e.Literal (value.Str (codes "up")) 3) 3 ∷ []; line = 1 } ∷ [];
  clusters = [];
  nodes = record { number = pos 1; parts = part.Start (codes "nap") [] 5 ∷ []; line = 5 } ∷ [];
}

-- the events are possible, each after those before it, where the sleep is of so many ms
abbrev sleeping : ℤ → List PlainEvent → Bool
sleeping ms events = is_some (plain (rules_of (napping ms)) (first_of_program (napping ms)) events)

abbrev can : List PlainEvent → Bool
can = sleeping (pos 100)

one : decimal 1 ≡ codes "1"
one = decimal-digits_of 1 (omega arith) (omega arith)

hello : written_for (plain (rules_of greeting) (first_of_program greeting) (plain_event.Turn 1 4 0 ∷ [])) ≡ codes "1: hi" ++ 10 ∷ []
unfolding out-Expr out-Stmt Carrier.out
hello = ap (λ digits. ((digits ++ codes ": " ++ codes "hi") ++ 10 ∷ []) ++ []) one

-- three steps until it sleeps, a tick at its limit, and four steps
nap : can (plain_event.Turn 1 3 0 ∷ plain_event.Tick 1 100 ∷ plain_event.Turn 1 4 100 ∷ []) ≡ true
unfolding out-Expr out-Stmt Carrier.out
nap = refl

-- no fourth step before it has slept, no tick before its limit, no turn while the limit is due, and no second tick
four : can (plain_event.Turn 1 4 0 ∷ []) ≡ false
unfolding out-Expr out-Stmt Carrier.out
four = refl

early : can (plain_event.Turn 1 3 0 ∷ plain_event.Tick 1 99 ∷ []) ≡ false
unfolding out-Expr out-Stmt Carrier.out
early = refl

due : can (plain_event.Turn 1 3 0 ∷ plain_event.Turn 1 1 100 ∷ []) ≡ false
unfolding out-Expr out-Stmt Carrier.out
due = refl

twice : can (plain_event.Turn 1 3 0 ∷ plain_event.Tick 1 100 ∷ plain_event.Tick 1 100 ∷ []) ≡ false
unfolding out-Expr out-Stmt Carrier.out
twice = refl

-- a sleep of 0 ms, or of less, has no limit: the process goes on in the same turn, and nothing is due
none : sleeping (pos 0) (plain_event.Turn 1 7 0 ∷ []) ≡ true
unfolding out-Expr out-Stmt Carrier.out
none = refl

less : sleeping (negsuc 4) (plain_event.Turn 1 7 0 ∷ []) ≡ true
unfolding out-Expr out-Stmt Carrier.out
less = refl

no_limit : sleeping (pos 0) (plain_event.Turn 1 3 0 ∷ plain_event.Tick 1 0 ∷ []) ≡ false
unfolding out-Expr out-Stmt Carrier.out
no_limit = refl
