-- Reading from left to right: a part's value with the bytes behind it, or `None` where none is at the front.
-- No public clause cites this file.
use Rattle.std.specs.Prelude.{◌≡◌, ℕ, zero, suc, ◌||◌, List, [], ◌∷◌, length, take, drop, Option, Some, None, Result, Ok, Err, nat_lt, ◌==◌, if◌then◌else◌}
use Rattle.std.specs.Int.{Width, w16, w64, byte_len, from_be_bytes}
use Rattle.world_types.specs.declared.effects.Outcome.{Outcome}
use Rattle.world_types.specs.declared.effects.Outcome.TheVariants.{Value, Raised}
use Rattle.packet_wire.specs.declared.packet.Packet.{Packet}
use Rattle.packet_wire.specs.declared.packet.Packet.TheVariants.{Call, Reply, MaybeCall, MaybeReply}
use Rattle.packet_wire.specs.declared.reading.Head.{Head}
use Rattle.packet_wire.specs.declared.reading.Request.{Request}
use Rattle.packet_wire.specs.declared.fault.WireFault.{WireFault}
use Rattle.packet_wire.specs.declared.fault.WireFault.TheVariants as faults

infixl 10 ◌>>=◌
abbrev pub ◌>>=◌ : {A B : Type 0} → Option A → (A → Option B) → Option B
(Some x) >>= f = f x
None >>= f = None

-- what was read is bad, unless memory ran out
abbrev pub Fails : {Y : Type 0} → WireFault → Option Y → Type 0
Fails faults.Bad read = read ≡ None
Fails faults.Memory read = Unit {0}

-- what a function returned, seen by view, is what reading gives, unless memory ran out
abbrev pub Gives : {X Y : Type 0} → (X → Y) → Result X WireFault → Option Y → Type 0
Gives view (Ok x) read = read ≡ Some (view x)
Gives view (Err e) read = Fails e read

abbrev pub number_at : Width → List ℕ → Option (ℕ × List ℕ)
number_at w bytes = if nat_lt (length bytes) (byte_len w) then None else Some (from_be_bytes w (take (byte_len w) bytes), drop (byte_len w) bytes)

-- so many bytes
abbrev pub bytes_at : ℕ → List ℕ → Option (List ℕ × List ℕ)
bytes_at n bytes = if nat_lt (length bytes) n then None else Some (take n bytes, drop n bytes)

unfoldable pub node_at : List ℕ → Option (ℕ × List ℕ)
node_at [] = None
node_at (n ∷ rest) = if nat_lt n 1 || nat_lt 8 n then None else Some (n, rest)

unfoldable pub piece_at : List ℕ → Option (List ℕ × List ℕ)
piece_at bytes = do
  n ← number_at w16 bytes
  if nat_lt 16384 n.0 then None else bytes_at n.0 n.1

unfoldable pub name_at : List ℕ → Option (List ℕ × List ℕ)
name_at [] = None
name_at (n ∷ rest) = if nat_lt n 1 || nat_lt 64 n then None else bytes_at n rest

unfoldable pub optional_at : List ℕ → Option (Option (List ℕ) × List ℕ)
optional_at [] = None
optional_at (zero ∷ rest) = Some (None, rest)
optional_at (suc zero ∷ rest) = do
  value ← piece_at rest
  Some (Some value.0, value.1)
optional_at (suc (suc n) ∷ rest) = None

unfoldable pub outcome_at : List ℕ → Option (Outcome × List ℕ)
outcome_at [] = None
outcome_at (zero ∷ rest) = do
  value ← piece_at rest
  Some (Value value.0, value.1)
outcome_at (suc zero ∷ rest) = do
  called ← name_at rest
  value ← optional_at called.1
  Some (Raised called.0 value.0, value.1)
outcome_at (suc (suc n) ∷ rest) = None

unfoldable pub head_at : List ℕ → Option (Head × List ℕ)
head_at bytes = do
  from ← node_at bytes
  to ← node_at from.1
  seq ← number_at w64 to.1
  if nat_lt seq.0 1 then None else Some (record { from = from.0; to = to.0; seq = seq.0 }, seq.1)

unfoldable pub request_at : List ℕ → Option (Request × List ℕ)
request_at bytes = do
  routine ← number_at w16 bytes
  args ← piece_at routine.1
  Some (record { routine = routine.0; args = args.0 }, args.1)

unfoldable pub call_at : List ℕ → Option (Packet × List ℕ)
call_at bytes = do
  h ← head_at bytes
  floor ← number_at w64 h.1
  if nat_lt floor.0 1 || nat_lt h.0.seq floor.0 then None else (do
    r ← request_at floor.1
    Some (Call h.0.from h.0.to h.0.seq floor.0 r.0.routine r.0.args, r.1))

unfoldable pub reply_at : List ℕ → Option (Packet × List ℕ)
reply_at bytes = do
  h ← head_at bytes
  ended ← outcome_at h.1
  Some (Reply h.0.from h.0.to h.0.seq ended.0, ended.1)

unfoldable pub maybe_call_at : List ℕ → Option (Packet × List ℕ)
maybe_call_at bytes = do
  h ← head_at bytes
  r ← request_at h.1
  Some (MaybeCall h.0.from h.0.to h.0.seq r.0.routine r.0.args, r.1)

unfoldable pub maybe_reply_at : List ℕ → Option (Packet × List ℕ)
maybe_reply_at bytes = do
  h ← head_at bytes
  ended ← outcome_at h.1
  Some (MaybeReply h.0.from h.0.to h.0.seq ended.0, ended.1)

-- by the first byte
unfoldable pub packet_at : List ℕ → Option (Packet × List ℕ)
packet_at [] = None
packet_at (kind ∷ rest) = if kind == 1 then call_at rest else if kind == 2 then reply_at rest else if kind == 3 then maybe_call_at rest else if kind == 4 then maybe_reply_at rest else None

-- all of the bytes
unfoldable pub whole : List ℕ → Option Packet
whole bytes = do
  packet ← packet_at bytes
  if length packet.1 == 0 then Some packet.0 else None
