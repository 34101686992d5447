-- What a turn does: to the lots of a hart, to owners, grants, slots and pages. This project's own.
use Rattle.std.specs.Prelude.{ℕ, ◌&&◌, not, Bool, true, false, if◌then◌else◌, List, [], ◌∷◌, ◌++◌, map, flat_map, filter, Option, Some}
use Rattle.nc_num.specs.declared.names.HartNo.{HartNo}
use Rattle.nc_num.specs.declared.names.MapId.{MapId}
use Rattle.nc_num.specs.declared.places.Span.{Span}
use Rattle.nc_model.specs.declared.owners.Grant.{Grant}
use Rattle.nc_model.specs.declared.owners.Owner.{Owner}
use Rattle.nc_model.specs.declared.owners.Owner.TheVariants as owners
use Rattle.nc_rules.specs.declared.answers.Answer.{Answer}
use Rattle.nc_rules.specs.declared.lots.Kind.{Kind}
use Rattle.nc_rules.specs.declared.lots.Kind.TheVariants as kinds
use Rattle.nc_rules.specs.declared.lots.Lot.{Lot}
use Rattle.nc_rules.specs.declared.lots.LotId.{LotId}
use Rattle.nc_rules.specs.declared.lots.Side.{Side}
use Rattle.nc_rules.specs.declared.lots.Side.TheVariants as sides
use Rattle.nc_rules.specs.declared.steps.PageMove.{PageMove}
use Rattle.nc_rules.specs.declared.steps.PageMove.TheVariants as pages
use Rattle.nc_rules.specs.declared.steps.Turn.{Turn}
use Rattle.nc_rules.specs.declared.steps.Turn.TheVariants as turns
use Rattle.nc_rules.specs.Lots.{DriverConfig, is_lot, is_wanted, only_entry, each_entry, grant_of, owner_of_side, slots_held}

-- what a call of a driver changes beside the driver: owners and grants, mappings that end, slots given back, pages,
-- and the answer of the operation where it ends with one
pub record Moved : Type 0 where
  pub transfers : List (Span × Owner)
  pub grants : List Grant
  pub ended : List MapId
  pub backs : List ℕ
  pub pages : PageMove
  pub answer : Option Answer

abbrev pub moved : List (Span × Owner) → Option Answer → Moved
moved transfers answer = record { transfers = transfers; grants = []; ended = []; backs = []; pages = pages.Stay; answer = answer }

-- ---- one lot

abbrev pub is_area : Kind → Bool
is_area kinds.Single = false
is_area kinds.List = false
is_area kinds.Area = true
is_area kinds.Copy = false

-- the owner of its bytes behind its end
abbrev pub last_owner : HartNo → Lot → Owner
last_owner me lot = if is_area lot.kind then owners.Pool else owners.Thread me

-- the bytes of each entry get this owner
abbrev pub to_side : HartNo → Side → Lot → List (Span × Owner)
to_side me side lot = each_entry me lot (λ id e. (e.span, owner_of_side id side))

abbrev pub to_end : HartNo → Lot → List (Span × Owner)
to_end me lot = map (λ e. (e.span, last_owner me lot)) lot.list.entries

-- a lot that was not lent before is granted to its channel
abbrev pub granted : HartNo → ℕ → Lot → List Grant
granted me slots_at lot = if is_wanted lot.side then each_entry me lot (grant_of slots_at lot) else []

abbrev pub ids : HartNo → Lot → List MapId
ids me lot = each_entry me lot (λ id e. id)

-- the pages of an area that was not lent before
abbrev pub pages_taken : Lot → PageMove
pages_taken lot = if is_area lot.kind && is_wanted lot.side then pages.Take (only_entry lot).span else pages.Stay

abbrev pub pages_given : Lot → PageMove
pages_given lot = if is_area lot.kind then pages.Give (only_entry lot).span else pages.Stay

-- ---- the lots of a name

abbrev pub those : LotId → List Lot → List Lot
those id lots = filter (is_lot id) lots

-- the same for each lot of the name
abbrev pub of_those : {A : Type 0} → (Lot → List A) → LotId → List Lot → List A
of_those f id lots = flat_map f (those id lots)

abbrev pub with_side : Side → LotId → Lot → Lot
with_side side id lot = if is_lot id lot then record lot { side = side } else lot

abbrev pub set_side : Side → LotId → List Lot → List Lot
set_side side id lots = map (with_side side id) lots

-- the first of two page moves that is one
abbrev pub page_move : PageMove → PageMove → PageMove
page_move pages.Stay later = later
page_move (pages.Take span) later = pages.Take span
page_move (pages.Give span) later = pages.Give span

abbrev pub page_moves : (Lot → PageMove) → List Lot → PageMove
page_moves f [] = pages.Stay
page_moves f (lot ∷ lots) = page_move (f lot) (page_moves f lots)

-- ---- a turn

-- the lots after it
abbrev pub lots_after : Turn → List Lot → List Lot
lots_after turns.Stay lots = lots
lots_after (turns.Pass range to) lots = lots
lots_after (turns.Own range) lots = lots
lots_after (turns.Lend id) lots = set_side sides.Lending id lots
lots_after (turns.Give id) lots = set_side sides.Device id lots
lots_after (turns.Return id) lots = set_side sides.Returning id lots
lots_after (turns.Sync id) lots = set_side sides.Synced id lots
lots_after (turns.Settle id) lots = set_side sides.Own id lots
lots_after (turns.End id) lots = filter (λ lot. not (is_lot id lot)) lots

-- the changes of owners, in order of entries
abbrev pub transfers_of : HartNo → List Lot → Turn → List (Span × Owner)
transfers_of me lots turns.Stay = []
transfers_of me lots (turns.Pass range to) = (range, owners.Passing me to) ∷ []
transfers_of me lots (turns.Own range) = (range, owners.Thread me) ∷ []
transfers_of me lots (turns.Lend id) = of_those (to_side me sides.Lending) id lots
transfers_of me lots (turns.Give id) = of_those (to_side me sides.Device) id lots
transfers_of me lots (turns.Return id) = of_those (to_side me sides.Returning) id lots
transfers_of me lots (turns.Sync id) = of_those (to_side me sides.Synced) id lots
transfers_of me lots (turns.Settle id) = of_those (to_side me sides.Own) id lots
transfers_of me lots (turns.End id) = of_those (to_end me) id lots

-- the new grants
abbrev pub grants_of : HartNo → ℕ → List Lot → Turn → List Grant
grants_of me slots_at lots turns.Stay = []
grants_of me slots_at lots (turns.Pass range to) = []
grants_of me slots_at lots (turns.Own range) = []
grants_of me slots_at lots (turns.Lend id) = of_those (granted me slots_at) id lots
grants_of me slots_at lots (turns.Give id) = []
grants_of me slots_at lots (turns.Return id) = []
grants_of me slots_at lots (turns.Sync id) = []
grants_of me slots_at lots (turns.Settle id) = []
grants_of me slots_at lots (turns.End id) = []

-- the mappings whose grants end
abbrev pub ended_of : HartNo → List Lot → Turn → List MapId
ended_of me lots turns.Stay = []
ended_of me lots (turns.Pass range to) = []
ended_of me lots (turns.Own range) = []
ended_of me lots (turns.Lend id) = []
ended_of me lots (turns.Give id) = []
ended_of me lots (turns.Return id) = []
ended_of me lots (turns.Sync id) = []
ended_of me lots (turns.Settle id) = []
ended_of me lots (turns.End id) = of_those (ids me) id lots

-- the slots that are given back, in order of entries
abbrev pub backs_of : List Lot → Turn → List ℕ
backs_of lots turns.Stay = []
backs_of lots (turns.Pass range to) = []
backs_of lots (turns.Own range) = []
backs_of lots (turns.Lend id) = []
backs_of lots (turns.Give id) = []
backs_of lots (turns.Return id) = []
backs_of lots (turns.Sync id) = []
backs_of lots (turns.Settle id) = []
backs_of lots (turns.End id) = of_those slots_held id lots

abbrev pub pages_of : List Lot → Turn → PageMove
pages_of lots turns.Stay = pages.Stay
pages_of lots (turns.Pass range to) = pages.Stay
pages_of lots (turns.Own range) = pages.Stay
pages_of lots (turns.Lend id) = page_moves pages_taken (those id lots)
pages_of lots (turns.Give id) = pages.Stay
pages_of lots (turns.Return id) = pages.Stay
pages_of lots (turns.Sync id) = pages.Stay
pages_of lots (turns.Settle id) = pages.Stay
pages_of lots (turns.End id) = page_moves pages_given (those id lots)

-- ---- two turns, one after the other, and an answer

abbrev pub lots_after_both : Turn → Turn → List Lot → List Lot
lots_after_both first last lots = lots_after last (lots_after first lots)

unfoldable pub turned_by : HartNo → ℕ → List Lot → Turn → Turn → Option Answer → Moved
turned_by me slots_at lots first last answer = record {
  transfers = transfers_of me lots first ++ transfers_of me (lots_after first lots) last;
  grants = grants_of me slots_at lots first ++ grants_of me slots_at (lots_after first lots) last;
  ended = ended_of me lots first ++ ended_of me (lots_after first lots) last;
  backs = backs_of lots first ++ backs_of (lots_after first lots) last;
  pages = page_move (pages_of lots first) (pages_of (lots_after first lots) last);
  answer = answer;
}

abbrev pub turned : DriverConfig → List Lot → Turn → Turn → Option Answer → Moved
turned f lots first last answer = turned_by f.me f.slots_at lots first last answer

-- ---- giving up before anything is lent

-- the slots of the lots that are not lent, in order
abbrev pub slots_wanted : List Lot → List ℕ
slots_wanted lots = flat_map slots_held (filter (λ lot. is_wanted lot.side) lots)

abbrev pub without_wanted : List Lot → List Lot
without_wanted lots = filter (λ lot. not (is_wanted lot.side)) lots

abbrev pub given_up : List Lot → Answer → Moved
given_up lots answer = record { transfers = []; grants = []; ended = []; backs = slots_wanted lots; pages = pages.Stay; answer = Some answer }
