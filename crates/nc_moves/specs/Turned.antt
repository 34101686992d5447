-- Moves one behind another, and what a turn moves lot by lot.
use Rattle.std.specs.Prelude.{ℕ, Bool, false, List, [], ◌∷◌, ◌++◌, Option, Some, None, if◌then◌else◌}
use Rattle.nc_num.specs.declared.names.HartNo.{HartNo}
use Rattle.nc_rules.specs.declared.lots.Lot.{Lot}
use Rattle.nc_rules.specs.declared.lots.LotId.{LotId}
use Rattle.nc_rules.specs.declared.lots.Side.{Side}
use Rattle.nc_rules.specs.declared.lots.Side.TheVariants as sides
use Rattle.nc_rules.specs.declared.steps.Turn.{Turn}
use Rattle.nc_rules.specs.declared.steps.Turn.TheVariants as turns
use Rattle.nc_rules.specs.Lots.{is_lot, slots_held}
use Rattle.nc_rules.specs.Turns.{Moved, moved, to_side, to_end, granted, ids, pages_taken, pages_given, with_side, page_move, transfers_of, grants_of, ended_of, backs_of, pages_of}

abbrev pub nothing : Moved
nothing = moved [] None

-- the one and then the other, with the answer of the one
abbrev pub joined : Moved → Moved → Moved
joined a b = record {
  transfers = a.transfers ++ b.transfers;
  grants = a.grants ++ b.grants;
  ended = a.ended ++ b.ended;
  backs = a.backs ++ b.backs;
  pages = page_move a.pages b.pages;
  answer = a.answer;
}

-- what a turn is over these lots
abbrev pub of_turn : HartNo → ℕ → List Lot → Turn → Moved
of_turn me slots_at lots t = record {
  transfers = transfers_of me lots t;
  grants = grants_of me slots_at lots t;
  ended = ended_of me lots t;
  backs = backs_of lots t;
  pages = pages_of lots t;
  answer = None;
}

-- ---- one lot

-- it is of the name of this turn
abbrev pub is_of : Turn → Lot → Bool
is_of turns.Stay lot = false
is_of (turns.Pass range to) lot = false
is_of (turns.Own range) lot = false
is_of (turns.Lend id) lot = is_lot id lot
is_of (turns.Give id) lot = is_lot id lot
is_of (turns.Return id) lot = is_lot id lot
is_of (turns.Sync id) lot = is_lot id lot
is_of (turns.Settle id) lot = is_lot id lot
is_of (turns.End id) lot = is_lot id lot

-- a lot behind a turn; None where it is gone
abbrev pub after : Turn → Lot → Option Lot
after turns.Stay lot = Some lot
after (turns.Pass range to) lot = Some lot
after (turns.Own range) lot = Some lot
after (turns.Lend id) lot = Some (with_side sides.Lending id lot)
after (turns.Give id) lot = Some (with_side sides.Device id lot)
after (turns.Return id) lot = Some (with_side sides.Returning id lot)
after (turns.Sync id) lot = Some (with_side sides.Synced id lot)
after (turns.Settle id) lot = Some (with_side sides.Own id lot)
after (turns.End id) lot = if is_lot id lot then None else Some lot

-- the side of a lot behind a change of those of this name
abbrev pub side_to : Side → LotId → Lot → Side
side_to side id lot = if is_lot id lot then side else lot.side

-- the side of a lot behind a turn; None where it is gone
abbrev pub side_after : Turn → Lot → Option Side
side_after turns.Stay lot = Some lot.side
side_after (turns.Pass range to) lot = Some lot.side
side_after (turns.Own range) lot = Some lot.side
side_after (turns.Lend id) lot = Some (side_to sides.Lending id lot)
side_after (turns.Give id) lot = Some (side_to sides.Device id lot)
side_after (turns.Return id) lot = Some (side_to sides.Returning id lot)
side_after (turns.Sync id) lot = Some (side_to sides.Synced id lot)
side_after (turns.Settle id) lot = Some (side_to sides.Own id lot)
side_after (turns.End id) lot = if is_lot id lot then None else Some lot.side

-- it is being lent
abbrev pub lent_lot : HartNo → ℕ → Lot → Moved
lent_lot me slots_at lot = record (moved (to_side me sides.Lending lot) None) { grants = granted me slots_at lot; pages = pages_taken lot }

-- it is gone
abbrev pub ended_lot : HartNo → Lot → Moved
ended_lot me lot = record (moved (to_end me lot) None) { ended = ids me lot; backs = slots_held lot; pages = pages_given lot }

-- what a turn of its name moves of a lot
abbrev pub of_lot : HartNo → ℕ → Lot → Turn → Moved
of_lot me slots_at lot turns.Stay = nothing
of_lot me slots_at lot (turns.Pass range to) = nothing
of_lot me slots_at lot (turns.Own range) = nothing
of_lot me slots_at lot (turns.Lend id) = lent_lot me slots_at lot
of_lot me slots_at lot (turns.Give id) = moved (to_side me sides.Device lot) None
of_lot me slots_at lot (turns.Return id) = moved (to_side me sides.Returning lot) None
of_lot me slots_at lot (turns.Sync id) = moved (to_side me sides.Synced lot) None
of_lot me slots_at lot (turns.Settle id) = moved (to_side me sides.Own lot) None
of_lot me slots_at lot (turns.End id) = ended_lot me lot

-- what a turn moves of a lot that exists
abbrev pub of_one : HartNo → ℕ → Turn → Option Lot → Moved
of_one me slots_at t None = nothing
of_one me slots_at t (Some lot) = if is_of t lot then of_lot me slots_at lot t else nothing

-- what the second turn moves of these lots, behind the first one
abbrev pub of_lots : HartNo → ℕ → Turn → Turn → List Lot → Moved
of_lots me slots_at first t [] = nothing
of_lots me slots_at first t (lot ∷ lots) = joined (of_one me slots_at t (after first lot)) (of_lots me slots_at first t lots)
