-- The packet that asks for a pending call.
use Rattle.std.specs.Prelude.{ℕ, List, Option}
use Rattle.std.specs.FinMap as map
use Rattle.std.specs.Option.{option_map}
use Rattle.numbered_calls.specs.Calls.{Calls, floor_of}
use Rattle.packet_wire.specs.declared.packet.Packet.{Packet}
use Rattle.packet_wire.specs.declared.packet.Packet.TheVariants.{Call}

-- the packet of a pending call, with the client's floor; none where the call isn't pending
abbrev pub packet_of : Calls (List ℕ) → ℕ → ℕ → Option Packet
packet_of calls me seq = option_map (λ call. Call me call.to seq (floor_of calls) call.routine call.args) (map.get calls.pending seq)
