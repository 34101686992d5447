-- Tokens of light fences: which lot has its token queued. This project's own.
use Rattle.std.specs.Prelude.{◌≡◌, ◌==◌, ◌&&◌, ◌||◌, not, Bool, true, false, if◌then◌else◌, List, [], ◌∷◌, length, filter}
use Rattle.std.specs.List.{list_any}
use Rattle.nc_queue.specs.declared.entry.Entry.{Entry}
use Rattle.nc_queue.specs.declared.entry.Entry.TheVariants as entries
use Rattle.nc_rules.specs.declared.lots.Lot.{Lot}
use Rattle.nc_rules.specs.declared.lots.LotId.{LotId}
use Rattle.nc_rules.specs.declared.lots.Side.{Side}
use Rattle.nc_rules.specs.declared.lots.Side.TheVariants as sides
use Rattle.nc_rules.specs.declared.steps.Step.{Step}
use Rattle.nc_rows.specs.Ahead.{gives_lot, settles_lot, tokens_lot, stores_io}

-- the token of a lot
abbrev pub lot_token : Lot → Entry
lot_token lot = entries.Lend lot.id.label lot.id.first (length lot.list.entries)

abbrev pub is_lot_token : LotId → Entry → Bool
is_lot_token id (entries.Lend label first count) = label.0 == id.label.0 && first == id.first
is_lot_token id (entries.Store span bytes kind) = false
is_lot_token id (entries.Cbo block op) = false
is_lot_token id (entries.Reg chan off width value) = false
is_lot_token id (entries.Mail buf to) = false
is_lot_token id (entries.Mark pred succ) = false

abbrev pub is_lending_side : Side → Bool
is_lending_side sides.Lending = true
is_lending_side sides.Wanted = false
is_lending_side sides.Device = false
is_lending_side sides.Returning = false
is_lending_side sides.Synced = false
is_lending_side sides.Own = false

-- the step ends a lending of the lot: it gives it or settles it, or queues its token; a stay may end in other ways
abbrev pub ends_lending : LotId → Step → Bool
ends_lending id s = gives_lot id s.last || (settles_lot id s.last || stores_io (tokens_lot id) s.act)

-- the lot is being lent, and nothing of the rest ends that: its token is queued
abbrev pub is_sent : List Step → Lot → Bool
is_sent rest lot = is_lending_side lot.side && not (list_any (ends_lending lot.id) rest)

-- its one token is queued exactly where it is sent
abbrev pub TokenStands : List Step → List Entry → Lot → Type 0
TokenStands rest q lot = filter (is_lot_token lot.id) q ≡ (if is_sent rest lot then lot_token lot ∷ [] else [])
