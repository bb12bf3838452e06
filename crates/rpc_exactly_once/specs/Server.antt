-- What a server keeps of the calls of its clients, and what it does with a call: by the greatest floor seen and the row of the call.
use Rattle.std.specs.Prelude.{◌≡◌, ℕ, ◌<◌, ◌≤◌, ◌⊎◌, Bool, true, false, if◌then◌else◌, nat_le, nat_lt, max, List, Option, Some, None, IsSome, refl}
use Rattle.std.specs.Coded.{Coded, code_by, coded×, coded_ℕ, coded_list, coded_option}
use Rattle.std.specs.FinMap as map
use Rattle.std.specs.Option.{unwrap_or}
use Rattle.std.specs.Ordering.{nat_cmp}
use Rattle.rpc_exactly_once.specs.declared.row.Arrival.{Arrival}
use Rattle.rpc_exactly_once.specs.declared.row.Arrival.TheVariants.{Begin, Resend, Nothing}
use Rattle.rpc_exactly_once.specs.declared.row.Row.{Row}
use Rattle.rpc_exactly_once.specs.declared.row.Row.TheVariants.{Running, Done}

-- of one client: the greatest floor seen, or 0 where none was seen, and the rows of its calls, by number
pub record Table : Type 0 where
  pub floor : ℕ
  pub rows : map.FinMap nat_cmp Row

-- the tables, by client
abbrev pub Server : Type 0
Server = map.FinMap nat_cmp Table

-- the table of a client that was never heard from
abbrev pub unheard : Table
unheard = record { floor = 0; rows = map.empty }

abbrev pub table_of : Server → ℕ → Table
table_of server client = unwrap_or (map.get server client) unheard

abbrev pub row_of : Table → ℕ → Option Row
row_of table seq = map.get table.rows seq

-- a floor is seen: rows below the greatest one are dropped
abbrev pub raised : Table → ℕ → Table
raised table floor = let greatest = max table.floor floor in record { floor = greatest; rows = map.retain_keys table.rows (λ seq. nat_le greatest seq) }

-- the call has this row
abbrev pub with_row : Table → ℕ → Row → Table
with_row table seq row = record { floor = table.floor; rows = map.insert table.rows seq row }

-- what is done with a call that isn't below the floor, by its row
abbrev pub by_row : Option Row → Arrival
by_row None = Begin
by_row (Some Running) = Nothing
by_row (Some (Done reply)) = Resend reply

-- what is done with a call, once its floor is seen
abbrev pub arrival : Table → ℕ → Arrival
arrival table seq = if nat_lt seq table.floor then Nothing else by_row (row_of table seq)

abbrev pub is_running : Option Row → Bool
is_running (Some Running) = true
is_running _ = false

-- no row is below the floor
abbrev pub NoneBelow : Table → Type 0
NoneBelow table = (seq : ℕ) → IsSome (row_of table seq) → table.floor ≤ seq

-- of no client a row is below the floor
pub record AreAboveFloors (server : Server) : Type 0 where
  pub none_below : (client : ℕ) → NoneBelow (table_of server client)

-- a body may begin for the call: it isn't below the floor, and has no row
pub record MayBegin (table : Table) (seq : ℕ) : Type 0 where
  pub absent : row_of table seq ≡ None
  pub not_below : table.floor ≤ seq

-- what holds where the body is to begin
abbrev pub IfBegin : Arrival → Type 0 → Type 0
IfBegin Begin P = P
IfBegin _ P = Unit

-- no body begins for the call from here on: it is below the floor, or it has a row
abbrev pub IsPast : Table → ℕ → Type 0
IsPast table seq = (seq < table.floor) ⊎ IsSome (row_of table seq)

-- what was past is past
abbrev pub StaysPast : Server → Server → Type 0
StaysPast old new = (client seq : ℕ) → IsPast (table_of old client) seq → IsPast (table_of new client) seq

-- ---- how it is stored

-- the reply of a call that is done
abbrev pub reply_of : Row → Option (List ℕ)
reply_of Running = None
reply_of (Done reply) = Some reply

abbrev pub row_of_reply : Option (List ℕ) → Row
row_of_reply None = Running
row_of_reply (Some reply) = Done reply

abbrev pub same_row : (row : Row) → row_of_reply (reply_of row) ≡ row
same_row Running = refl
same_row (Done reply) = refl

-- a row is stored as its reply, if it has one
abbrev pub row_code : Coded Row
row_code = code_by (Option (List ℕ)) (coded_option (coded_list coded_ℕ)) reply_of row_of_reply same_row

-- a table is stored as the pair of its fields
abbrev pub table_code : Coded Table
table_code =
    code_by (ℕ × map.FinMap nat_cmp Row) (coded× coded_ℕ (map.code coded_ℕ row_code)) (λ t. (t.floor, t.rows)) (λ p. record { floor = p.0; rows = p.1 }) (λ _. refl)
