-- Packets and their one spelling. Numbers go with their greatest byte first.
use Rattle.std.specs.Prelude.{◌≡◌, ℕ, ◌≤◌, ◌<◌, ◌^◌, List, [], ◌∷◌, ◌++◌, length, Option, Some, None, IfSome}
use Rattle.std.specs.Int.{w16, w64, to_be_bytes}
use Rattle.world_types.specs.declared.effects.Outcome.{Outcome}
use Rattle.world_types.specs.declared.effects.Outcome.TheVariants.{Value, Raised}
use Rattle.packet_wire.specs.declared.packet.Packet.{Packet}
use Rattle.packet_wire.specs.declared.packet.Packet.TheVariants.{Call, Reply, MaybeCall, MaybeReply}

-- a piece of bytes behind its length, which takes two bytes
abbrev pub piece : List ℕ → List ℕ
piece bytes = to_be_bytes w16 (length bytes) ++ bytes

-- 0 where there is no piece, and 1 with the piece where there is one
abbrev pub optional : Option (List ℕ) → List ℕ
optional None = 0 ∷ []
optional (Some bytes) = 1 ∷ piece bytes

-- a name behind its length, which takes one byte
abbrev pub name : List ℕ → List ℕ
name bytes = length bytes ∷ bytes

-- 0 with the value, or 1 with the exception's name and its value, where it has one
abbrev pub outcome : Outcome → List ℕ
outcome (Value bytes) = 0 ∷ piece bytes
outcome (Raised called value) = 1 ∷ (name called ++ optional value)

-- who sends a packet to whom, and the number of its call
abbrev pub head : ℕ → ℕ → ℕ → List ℕ
head from to seq = from ∷ to ∷ to_be_bytes w64 seq

-- the routine that is called, and the arguments
abbrev pub request : ℕ → List ℕ → List ℕ
request routine args = to_be_bytes w16 routine ++ piece args

-- the one spelling of a packet: its kind, and then its parts in order
abbrev pub spelling : Packet → List ℕ
spelling (Call from to seq floor routine args) = 1 ∷ (head from to seq ++ to_be_bytes w64 floor ++ request routine args)
spelling (Reply from to seq ended) = 2 ∷ (head from to seq ++ outcome ended)
spelling (MaybeCall from to seq routine args) = 3 ∷ (head from to seq ++ request routine args)
spelling (MaybeReply from to seq ended) = 4 ∷ (head from to seq ++ outcome ended)

-- nodes are numbered 1 to 8
abbrev pub IsNode : ℕ → Type 0
IsNode n = (1 ≤ n) × (n ≤ 8)

-- arguments, and a value, are at most 16,384 bytes
abbrev pub IsPiece : List ℕ → Type 0
IsPiece bytes = length bytes ≤ 16384

-- a name has 1 to 64 bytes
abbrev pub IsName : List ℕ → Type 0
IsName bytes = (1 ≤ length bytes) × (length bytes ≤ 64)

abbrev pub IsOutcome : Outcome → Type 0
IsOutcome (Value bytes) = IsPiece bytes
IsOutcome (Raised called value) = IsName called × IfSome value IsPiece

-- a packet between nodes, of a call that is numbered from 1
pub record IsHead (from to seq : ℕ) : Type 0 where
  pub sender : IsNode from
  pub receiver : IsNode to
  pub number : 1 ≤ seq

-- within the wire's bounds. A call's floor is from 1 to the call's number
abbrev pub IsWithin : Packet → Type 0
IsWithin (Call from to seq floor routine args) = IsHead from to seq × (1 ≤ floor) × (floor ≤ seq) × IsPiece args
IsWithin (Reply from to seq ended) = IsHead from to seq × IsOutcome ended
IsWithin (MaybeCall from to seq routine args) = IsHead from to seq × IsPiece args
IsWithin (MaybeReply from to seq ended) = IsHead from to seq × IsOutcome ended

-- the numbers fit their fields of eight and of two bytes
abbrev pub HasWidths : Packet → Type 0
HasWidths (Call from to seq floor routine args) = (seq < 2 ^ 64) × (floor < 2 ^ 64) × (routine < 2 ^ 16)
HasWidths (Reply from to seq ended) = seq < 2 ^ 64
HasWidths (MaybeCall from to seq routine args) = (seq < 2 ^ 64) × (routine < 2 ^ 16)
HasWidths (MaybeReply from to seq ended) = seq < 2 ^ 64

-- the bytes spell the packet
pub record Spells (bytes : List ℕ) (packet : Packet) : Type 0 where
  pub within : IsWithin packet
  pub widths : HasWidths packet
  pub spelled : bytes ≡ spelling packet
