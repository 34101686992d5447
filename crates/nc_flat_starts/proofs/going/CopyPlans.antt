-- The plan of a copy goes through: both ends are lent with its claim, each is given in turn, the channel is set up, started,
-- polled and released, and each end is taken back.
use Rattle.std.specs.Prelude.{Some, All, if◌then◌else◌, ◌||◌, ◌/◌, ◌==◌, not, Bool, true, false, map, flat_map, slice_get}
use Rattle.std.specs.List.{list_any}
use Rattle.std.proofs.Common.{◌≡◌, ◌⊎◌, ℕ, zero, suc, ◌<◌, List, [], ◌∷◌, ◌++◌, refl, sym, ap, ◌∙◌, inl, inr, subst, arith}
use Rattle.std.proofs.lemmas.Bool.{both_ways, cases_Bool, cond-true, cond-false, or_from, or_left, or_right, and_right, not_from_true, not_from_false, false_from_ne_true, eqb-true}
use Rattle.std.proofs.lemmas.List.{append-nil}
use Rattle.std.proofs.lemmas.List.Elements.{All-nil, All-cons, All-head, All-tail}
use Rattle.std.proofs.lemmas.List.Folds.{list_any-append}
use Rattle.nc_num.specs.Sizes.{IsBlockSize}
use Rattle.nc_num.specs.Places.{covers}
use Rattle.nc_num.specs.declared.names.ChanNo.{ChanNo}
use Rattle.nc_num.specs.declared.names.Dir.{Dir}
use Rattle.nc_num.specs.declared.names.Dir.TheVariants.{ToDev, FromDev}
use Rattle.nc_num.specs.declared.names.MapId.{MapId}
use Rattle.nc_num.specs.declared.names.MemType.TheVariants.{Pma}
use Rattle.nc_queue.specs.Entries.{has_op, gives_in}
use Rattle.nc_queue.specs.Laws.{Stands}
use Rattle.nc_queue.specs.declared.entry.Entry.{Entry as QueueEntry}
use Rattle.nc_queue.specs.declared.entry.Entry.TheVariants as entries
use Rattle.nc_lines.specs.Lines.{gives_at}
use Rattle.nc_model.proofs.Faults.{covers-from, covers-low, covers-high}
use Rattle.nc_calls.specs.PlaceLaws.{drops_copies}
use Rattle.nc_pdma_regs.specs.Config.{repeat_of}
use Rattle.nc_plan.specs.Parts.{comes_back}
use Rattle.nc_plan.specs.Plans.{In, full, dropped, return_op, blocks, cbo}
use Rattle.nc_plan.specs.declared.effects.Effects.{Effects}
use Rattle.nc_plan.specs.declared.ops.HartOp.{HartOp}
use Rattle.nc_plan.specs.declared.ops.HartOp.TheVariants as hart
use Rattle.nc_plan.specs.declared.ops.IoTarget.TheVariants as io
use Rattle.nc_plan.specs.declared.parts.Part.{Part}
use Rattle.nc_plan.proofs.PlanLaws.{blocks_are_met, in_map, in_flat_map}
use Rattle.nc_memcpy.specs.Copy.{bus_of, transfer}
use Rattle.nc_sg.specs.Lists as sg
use Rattle.nc_sg.specs.declared.list.Entry.{Entry}
use Rattle.nc_rules.specs.declared.lots.Kind.TheVariants.{Copy}
use Rattle.nc_rules.specs.declared.lots.Lot.{Lot}
use Rattle.nc_rules.specs.declared.lots.LotId.{LotId}
use Rattle.nc_rules.specs.declared.lots.Side.{Side}
use Rattle.nc_rules.specs.declared.lots.Side.TheVariants as sides
use Rattle.nc_rules.specs.declared.steps.Step.{Step}
use Rattle.nc_rules.specs.declared.steps.Turn.{Turn}
use Rattle.nc_rules.specs.declared.steps.Turn.TheVariants as turns
use Rattle.nc_rules.specs.Copies.{source, target, copy_step, claim_step, back_steps, end_part, copy_steps}
use Rattle.nc_rules.specs.Lots.{DriverConfig, is_lot, parts}
use Rattle.nc_rules.specs.Machine.{MachineState}
use Rattle.nc_rules.specs.Plans.{hart_step, op_steps, turning, beginning, ending, lend_steps, return_steps}
use Rattle.nc_rules.specs.Turns.{is_area, with_side, set_side, lots_after}
use Rattle.nc_scripts.specs.Drivers.{AreApart}
use Rattle.nc_scripts.proofs.Lists.{all_in, all_to, all_filtered}
use Rattle.nc_scripts.proofs.LotLaws.{its_name}
use Rattle.nc_holds.proofs.lists.Members.{all_at, at_get, in_filter}
use Rattle.nc_holds.proofs.owners.Lots.{same_named}
use Rattle.nc_rows.specs.Ahead.{same_lot, ends, posts, is_full, token, act_coming, coming}
use Rattle.nc_rows.specs.Parts.{rest_last}
use Rattle.nc_rows.proofs.Steps.{next, last}
use Rattle.nc_row_plans.specs.Plans.{WritesBack, DropsBlocks}
use Rattle.nc_row_plans.proofs.ReturningPlans.{plans_return}
use Rattle.nc_flatness.specs.Copying.{is_poll, polls, claims, transfers}
use Rattle.nc_flatness.specs.Tokens.{is_lending_side, ends_lending}
use Rattle.nc_flatness.proofs.plans.Rests.{turn_name}
use Rattle.nc_flatness.specs.Plans.{IsStill, StillDevice, StillSent, IsBeside, IsInHand, IsQuiet, HasEnd, IsEndName, given_now, LoadsFirst, IsCopyEnd, Claims, Registers, Polls, TakesTarget, TakesSource, PlanGoes, device_of}
use Rattle.nc_flat_starts.proofs.going.PlanComes.{EndsOnly, plain_ends, ends_behind, store_gives, append_steps}
use Rattle.nc_flat_starts.proofs.going.Pieces.{Move, stored, IsMove, stored_in}
use Rattle.nc_flat_starts.proofs.going.NoBytes.{IsOfBytes, of_place, of_block, all_coming, none_comes}
use Rattle.nc_flat_starts.proofs.going.PlanOps.{in_cut, out_cut, IsPlanned, in_even, out_even, IsDropping, dropped_are, cbo_last, dropping_plain}
use Rattle.nc_flat_starts.proofs.going.PlansGo.{drop_at, drops_go, lots_lent, IsBehindToken, lend_goes, lend_first, lend_silent, lend_only, lend_unlent, lend_none}
use Rattle.nc_flat_starts.proofs.going.ReturnsGo.{back_turns, IsBehind, drops_of, IsReturn, Straight, CopiedOut, return_is, ReturnTail, tail_so, return_plan, return_none, return_unlent}
use Rattle.nc_flat_starts.proofs.turning.Sides.{Others, turned_lot, set_here, hand_beside, without_all}

-- ---- the lots, of which two are the ends

-- it is the source or the target, which have these sides, or it is still
pub data IsRole (f : DriverConfig) (src dst : Lot) (a b : Side) (lot : Lot) : Type 0 where
  IsSource : lot ≡ turned_lot a src → IsRole f src dst a b lot
  IsTarget : lot ≡ turned_lot b dst → IsRole f src dst a b lot
  IsOther : is_lot src.id lot ≡ false → is_lot dst.id lot ≡ false → IsStill f lot → IsRole f src dst a b lot

pub record AreEndsIn (f : DriverConfig) (src dst : Lot) (a b : Side) (lots : List Lot) : Type 0 where
  pub source_in : In (turned_lot a src) lots
  pub target_in : In (turned_lot b dst) lots
  pub roles : All (IsRole f src dst a b) lots

-- the two ends, by their names
pub record AreTwo (src dst : Lot) : Type 0 where
  pub source_is : src.id ≡ source
  pub target_is : dst.id ≡ target

other_name : (src dst : Lot) → AreTwo src dst → is_lot dst.id src ≡ false
other_name src dst two = ap (λ (i : LotId). is_lot i src) two.target_is ∙ by_id src.id two.source_is
  where
    by_id : (id : LotId) → id ≡ source → same_lot id target ≡ false
    by_id id is = ap (λ (i : LotId). same_lot i target) is

name_other : (src dst : Lot) → AreTwo src dst → is_lot src.id dst ≡ false
name_other src dst two = ap (λ (i : LotId). is_lot i dst) two.source_is ∙ by_id dst.id two.target_is
  where
    by_id : (id : LotId) → id ≡ target → same_lot id source ≡ false
    by_id id is = ap (λ (i : LotId). same_lot i source) is

kept_here : (side : Side) (id : LotId) (lots : List Lot) (lot : Lot) → In lot lots → is_lot id lot ≡ false → In lot (set_side side id lots)
kept_here side id lots lot here off = subst (λ (l : Lot). In l (set_side side id lots)) (cond-false (is_lot id lot) (turned_lot side lot) lot off) (in_map (with_side side id) lot lots here)

set_each : (P Q : Lot → Type 0) (side : Side) (id : LotId) (lots : List Lot) → All P lots → ((lot : Lot) → P lot → is_lot id lot ≡ true → Q (turned_lot side lot)) → ((lot : Lot) → P lot → is_lot id lot ≡ false → Q lot) → All Q (set_side side id lots)
set_each P Q side id [] all hit miss = All-nil Q
set_each P Q side id (lot ∷ lots) all hit miss =
    let p = All-head P lot lots all in
    let now : Q (with_side side id lot) = elim (cases_Bool (is_lot id lot)) [
      | inl is ↦ subst Q (sym (cond-true (is_lot id lot) (turned_lot side lot) lot is)) (hit lot p is)
      | inr off ↦ subst Q (sym (cond-false (is_lot id lot) (turned_lot side lot) lot off)) (miss lot p off)
    ] in
    All-cons Q (with_side side id lot) (set_side side id lots) now (set_each P Q side id lots (All-tail P lot lots all) hit miss)

-- an end that is found by its name
is_source : (src : Lot) (a : Side) (lot : Lot) → lot ≡ turned_lot a src → is_lot src.id lot ≡ true
is_source src a lot is = its_name lot src.id (ap (λ (l : Lot). l.id) is)

-- a turn of the source, and one of the target
pub source_turn : (f : DriverConfig) (src dst : Lot) (a b side : Side) (lots : List Lot) → AreTwo src dst → AreEndsIn f src dst a b lots → AreEndsIn f src dst side b (set_side side src.id lots)
source_turn f src dst a b side lots two e = record {
  source_in = set_here side lots (turned_lot a src) e.source_in;
  target_in = kept_here side src.id lots (turned_lot b dst) e.target_in (name_other src dst two);
  roles = set_each (IsRole f src dst a b) (IsRole f src dst side b) side src.id lots e.roles hit miss;
}
  where
    hit : (lot : Lot) → IsRole f src dst a b lot → is_lot src.id lot ≡ true → IsRole f src dst side b (turned_lot side lot)
    hit lot (IsSource is) named = IsSource (ap (turned_lot side) is)
    hit lot (IsTarget is) named = absurd (both_ways (is_lot src.id lot) (ap (is_lot src.id) is ∙ name_other src dst two) named)
    hit lot (IsOther off beside still) named = absurd (both_ways (is_lot src.id lot) off named)

    miss : (lot : Lot) → IsRole f src dst a b lot → is_lot src.id lot ≡ false → IsRole f src dst side b lot
    miss lot (IsSource is) off = absurd (both_ways (is_lot src.id lot) off (is_source src a lot is))
    miss lot (IsTarget is) off = IsTarget is
    miss lot (IsOther far beside still) off = IsOther far beside still

pub target_turn : (f : DriverConfig) (src dst : Lot) (a b side : Side) (lots : List Lot) → AreTwo src dst → AreEndsIn f src dst a b lots → AreEndsIn f src dst a side (set_side side dst.id lots)
target_turn f src dst a b side lots two e = record {
  source_in = kept_here side dst.id lots (turned_lot a src) e.source_in (other_name src dst two);
  target_in = set_here side lots (turned_lot b dst) e.target_in;
  roles = set_each (IsRole f src dst a b) (IsRole f src dst a side) side dst.id lots e.roles hit miss;
}
  where
    hit : (lot : Lot) → IsRole f src dst a b lot → is_lot dst.id lot ≡ true → IsRole f src dst a side (turned_lot side lot)
    hit lot (IsSource is) named = absurd (both_ways (is_lot dst.id lot) (ap (is_lot dst.id) is ∙ other_name src dst two) named)
    hit lot (IsTarget is) named = IsTarget (ap (turned_lot side) is)
    hit lot (IsOther far off still) named = absurd (both_ways (is_lot dst.id lot) off named)

    miss : (lot : Lot) → IsRole f src dst a b lot → is_lot dst.id lot ≡ false → IsRole f src dst a side lot
    miss lot (IsSource is) off = IsSource is
    miss lot (IsTarget is) off = absurd (both_ways (is_lot dst.id lot) off (is_source dst b lot is))
    miss lot (IsOther far beside still) off = IsOther far beside still

-- ---- hands

abbrev IsEndKind : Lot → Type 0
IsEndKind lot = lot.kind ≡ Copy

-- while the source is lent the target waits
source_hand : (f : DriverConfig) (src dst : Lot) (lots : List Lot) → AreTwo src dst → IsEndKind src → IsEndKind dst → AreEndsIn f src dst sides.Lending sides.Lending lots → IsInHand f lots (turned_lot sides.Lending src) false sides.Lending
source_hand f src dst lots two kind its_kind e = record {
  here = e.source_in;
  area_is = ap is_area kind;
  side_is = refl;
  others = all_to (IsRole f src dst sides.Lending sides.Lending) (λ (other : Lot). is_lot src.id other ≡ false → IsBeside f (turned_lot sides.Lending src) other) lots e.roles beside;
}
  where
    beside : (other : Lot) → IsRole f src dst sides.Lending sides.Lending other → is_lot src.id other ≡ false → IsBeside f (turned_lot sides.Lending src) other
    beside other (IsSource is) off = absurd (both_ways (is_lot src.id other) off (is_source src sides.Lending other is))
    beside other (IsTarget is) off = inr (record { source_is = two.source_is; lent = refl; target_is = ap (λ (l : Lot). l.id) is ∙ two.target_is; kind = ap (λ (l : Lot). l.kind) is ∙ its_kind; waits = ap (λ (l : Lot). l.side) is })
    beside other (IsOther far off_too still) off = inl still

-- the side of an end that was lent: with light fences its token may be queued
abbrev side_lent : DriverConfig → Side
side_lent f = if f.light then sides.Lending else sides.Device

lent_still : (f : DriverConfig) (lot : Lot) → lot.side ≡ side_lent f → IsStill f lot
lent_still f lot is = by f.light refl is
  where
    by : (t : Bool) → f.light ≡ t → lot.side ≡ (if t then sides.Lending else sides.Device) → IsStill f lot
    by true light is = StillSent is light
    by false light is = StillDevice is

-- the target is in hand while the source, of side a, is still
target_hand : (f : DriverConfig) (src dst : Lot) (a side : Side) (lots : List Lot) → ((lot : Lot) → lot.side ≡ a → IsStill f lot) → IsEndKind dst → AreEndsIn f src dst a side lots → IsInHand f lots (turned_lot side dst) false side
target_hand f src dst a side lots still_at kind e = record {
  here = e.target_in;
  area_is = ap is_area kind;
  side_is = refl;
  others = all_to (IsRole f src dst a side) (λ (other : Lot). is_lot dst.id other ≡ false → IsBeside f (turned_lot side dst) other) lots e.roles beside;
}
  where
    beside : (other : Lot) → IsRole f src dst a side other → is_lot dst.id other ≡ false → IsBeside f (turned_lot side dst) other
    beside other (IsSource is) off = inl (still_at other (ap (λ (l : Lot). l.side) is))
    beside other (IsTarget is) off = absurd (both_ways (is_lot dst.id other) off (is_source dst side other is))
    beside other (IsOther far off_too still) off = inl still

-- both have a side with which a lot is still
all_still : (f : DriverConfig) (src dst : Lot) (a : Side) (lots : List Lot) → ((lot : Lot) → lot.side ≡ a → IsStill f lot) → AreEndsIn f src dst a a lots → All (IsStill f) lots
all_still f src dst a lots still_at e = all_to (IsRole f src dst a a) (IsStill f) lots e.roles still
  where
    still : (lot : Lot) → IsRole f src dst a a lot → IsStill f lot
    still lot (IsSource is) = still_at lot (ap (λ (l : Lot). l.side) is)
    still lot (IsTarget is) = still_at lot (ap (λ (l : Lot). l.side) is)
    still lot (IsOther far off is) = is

-- ---- ends that are lent

source_lent : (f : DriverConfig) (src dst : Lot) (b : Side) (lots : List Lot) → AreTwo src dst → AreEndsIn f src dst sides.Lending b lots → AreEndsIn f src dst (side_lent f) b (lots_lent f src.id lots)
source_lent f src dst b lots two e = by f.light
  where
    by : (t : Bool) → AreEndsIn f src dst (if t then sides.Lending else sides.Device) b (if t then lots else lots_after (turns.Give src.id) lots)
    by true = e
    by false = source_turn f src dst sides.Lending b sides.Device lots two e

target_lent : (f : DriverConfig) (src dst : Lot) (a : Side) (lots : List Lot) → AreTwo src dst → AreEndsIn f src dst a sides.Lending lots → AreEndsIn f src dst a (side_lent f) (lots_lent f dst.id lots)
target_lent f src dst a lots two e = by f.light
  where
    by : (t : Bool) → AreEndsIn f src dst a (if t then sides.Lending else sides.Device) (if t then lots else lots_after (turns.Give dst.id) lots)
    by true = e
    by false = target_turn f src dst a sides.Lending sides.Device lots two e

-- behind the poll both are the channel's
lent_given : (f : DriverConfig) (lot : Lot) → given_now (turned_lot (side_lent f) lot) ≡ turned_lot sides.Device lot
lent_given f lot = by f.light
  where
    by : (t : Bool) → given_now (turned_lot (if t then sides.Lending else sides.Device) lot) ≡ turned_lot sides.Device lot
    by true = refl
    by false = refl

given_each : (P Q : Lot → Type 0) (lots : List Lot) → All P lots → ((lot : Lot) → P lot → Q (given_now lot)) → All Q (map given_now lots)
given_each P Q [] all step = All-nil Q
given_each P Q (lot ∷ lots) all step = All-cons Q (given_now lot) (map given_now lots) (step lot (All-head P lot lots all)) (given_each P Q lots (All-tail P lot lots all) step)

given_role : (f : DriverConfig) (src dst lot : Lot) → IsRole f src dst (side_lent f) (side_lent f) lot → IsRole f src dst sides.Device sides.Device (given_now lot)
given_role f src dst lot (IsSource is) = IsSource (ap given_now is ∙ lent_given f src)
given_role f src dst lot (IsTarget is) = IsTarget (ap given_now is ∙ lent_given f dst)
given_role f src dst lot (IsOther far off still) = elim (cases_Bool (is_lending_side lot.side)) [
  | inl is ↦ subst (IsRole f src dst sides.Device sides.Device) (sym (cond-true (is_lending_side lot.side) (turned_lot sides.Device lot) lot is)) (IsOther far off (StillDevice refl))
  | inr is_not ↦ subst (IsRole f src dst sides.Device sides.Device) (sym (cond-false (is_lending_side lot.side) (turned_lot sides.Device lot) lot is_not)) (IsOther far off still)
]

ends_given : (f : DriverConfig) (src dst : Lot) (lots : List Lot) → AreEndsIn f src dst (side_lent f) (side_lent f) lots → AreEndsIn f src dst sides.Device sides.Device (map given_now lots)
ends_given f src dst lots e = record {
  source_in = subst (λ (l : Lot). In l (map given_now lots)) (lent_given f src) (in_map given_now (turned_lot (side_lent f) src) lots e.source_in);
  target_in = subst (λ (l : Lot). In l (map given_now lots)) (lent_given f dst) (in_map given_now (turned_lot (side_lent f) dst) lots e.target_in);
  roles = given_each (IsRole f src dst (side_lent f) (side_lent f)) (IsRole f src dst sides.Device sides.Device) lots e.roles (given_role f src dst);
}

-- ---- the ends

-- what is known of both
pub record AreCopied (f : DriverConfig) (chan : ChanNo) (src dst : Lot) : Type 0 where
  pub two : AreTwo src dst
  pub source_kind : src.kind ≡ Copy
  pub target_kind : dst.kind ≡ Copy
  pub source_dir : src.list.dir ≡ ToDev
  pub target_dir : dst.list.dir ≡ FromDev
  pub source_chan : src.chan ≡ chan
  pub target_chan : dst.chan ≡ chan
  pub source_planned : IsPlanned f src
  pub target_planned : IsPlanned f dst
  pub entry : Entry
  pub only : dst.list.entries ≡ entry ∷ []

planned_turned : (f : DriverConfig) (lot : Lot) (side : Side) → IsPlanned f lot → IsPlanned f (turned_lot side lot)
planned_turned f lot side is = record { size = is.size; some = is.some; off = is.off; slots = is.slots; buffers = is.buffers }

source_end : (f : DriverConfig) (chan : ChanNo) (src dst : Lot) (a b : Side) (lots : List Lot) → AreCopied f chan src dst → AreEndsIn f src dst a b lots → IsCopyEnd lots (turned_lot a src) source ToDev chan
source_end f chan src dst a b lots c e = record { here = e.source_in; id_is = c.two.source_is; kind = c.source_kind; dir_is = c.source_dir; chan_is = c.source_chan }

target_end : (f : DriverConfig) (chan : ChanNo) (src dst : Lot) (a b : Side) (lots : List Lot) → AreCopied f chan src dst → AreEndsIn f src dst a b lots → IsCopyEnd lots (turned_lot b dst) target FromDev chan
target_end f chan src dst a b lots c e = record { here = e.target_in; id_is = c.two.target_is; kind = c.target_kind; dir_is = c.target_dir; chan_is = c.target_chan }

-- ---- the source comes back, with one step

no_drops : (e : Effects) (size : ℕ) (dir : Dir) (slots_at : ℕ) (es : List Entry) → comes_back dir ≡ false → flat_map (dropped e size) (map (sg.part_of dir slots_at) es) ≡ []
unfolding dropped
no_drops e size dir slots_at [] stays = refl
no_drops e size dir slots_at (x ∷ es) stays =
    ap (λ (ops : List HartOp). ops ++ flat_map (dropped e size) (map (sg.part_of dir slots_at) es)) (cond-false (comes_back dir) _ [] stays) ∙ no_drops e size dir slots_at es stays

one_step : (f : DriverConfig) (lot : Lot) (turn : Turn) → comes_back lot.list.dir ≡ false → IsReturn f lot turn → ending turn (return_steps f lot) ≡ turning turn (hart_step full) ∷ []
one_step f lot turn stays (Straight whole straight) = whole ∙ ap (λ (ops : List HartOp). op_steps ops ++ turning turn (hart_step full) ∷ []) (no_drops f.effects f.size lot.list.dir f.slots_at lot.list.entries stays)
one_step f lot turn stays (CopiedOut init m comes ms whole) = absurd (both_ways (comes_back lot.list.dir) stays comes)

-- its step
abbrev source_back : LotId → Step
source_back id = record (turning (turns.End id) (hart_step full)) { first = turns.Return id }

source_steps : (f : DriverConfig) (lot : Lot) → IsPlanned f lot → comes_back lot.list.dir ≡ false → back_steps f lot ≡ source_back lot.id ∷ []
source_steps f lot is stays = ap (beginning (turns.Return lot.id)) (one_step f lot (turns.End lot.id) stays (return_is f lot (turns.End lot.id) is))

-- the target is there no more
record IsLastEnd (f : DriverConfig) (src : Lot) (lots : List Lot) : Type 0 where
  here : In (turned_lot sides.Device src) lots
  still : Others (IsStill f) src.id lots

source_goes : (f : DriverConfig) (src : Lot) (lots : List Lot) → src.kind ≡ Copy → IsPlanned f src → comes_back src.list.dir ≡ false → IsLastEnd f src lots → PlanGoes f lots (back_steps f src)
source_goes f src lots kind is stays e =
    let now = turned_lot sides.Returning src in
    let beside : Others (IsBeside f now) src.id lots = all_to (λ (other : Lot). is_lot src.id other ≡ false → IsStill f other) (λ (other : Lot). is_lot src.id other ≡ false → IsBeside f now other) lots e.still (λ other still off. inl (still off)) in
    let lots_now = set_side sides.Returning src.id lots in
    let hand : IsInHand f lots_now now false sides.Returning = hand_beside f sides.Returning false lots (turned_lot sides.Device src) e.here (ap is_area kind) beside in
    let still : Others (IsStill f) src.id lots_now = set_each (λ (other : Lot). is_lot src.id other ≡ false → IsStill f other) (λ (other : Lot). is_lot src.id other ≡ false → IsStill f other) sides.Returning src.id lots e.still
    (λ other was named off. absurd (both_ways (is_lot src.id other) off named)) (λ other was miss. was) in
    subst (λ (ss : List Step). PlanGoes f lots ss) (sym (source_steps f src is stays)) (
      TakesSource (record {
        lot = turned_lot sides.Device src;
        taken = record { here = e.here; kind = kind; side = refl; first = refl };
        goes = record { lot = now; hand = hand; turn = turns.End src.id; is_back = inr refl; step = refl; next = refl; straight = λ comes. absurd (both_ways (comes_back src.list.dir) stays comes) };
        same = refl;
        stays = stays;
        last = refl;
      }),
      without_all (IsStill f) src.id lots_now still,
    )

-- ---- the target comes back

some_drops : (f : DriverConfig) (lot : Lot) (e : Entry) → lot.list.entries ≡ e ∷ [] → comes_back lot.list.dir ≡ true → IsBlockSize f.size → 0 < (device_of f e).len → (o : HartOp) × In o (drops_of f lot)
unfolding dropped
some_drops f lot e only comes size some =
    let range = device_of f e in
    let met : In (range.at / f.size) (blocks f.size range) = (blocks_are_met f.size range size).all range.at (omega arith) (omega (arith, some)) in
    let p : Part = sg.part_of lot.list.dir f.slots_at e in
    let o = cbo (return_op f.effects) (range.at / f.size) in
    let there : In p (parts f lot) = subst (λ (es : List Entry). In p (map (sg.part_of lot.list.dir f.slots_at) es)) (sym only) (inl refl) in
    let here : In o (dropped f.effects f.size p) = subst (λ (os : List HartOp). In o os) (sym (cond-true (comes_back lot.list.dir) (map (cbo (return_op f.effects)) (blocks f.size range)) [] comes)) (in_map (cbo (return_op f.effects)) (range.at / f.size) (blocks f.size range) met) in
    (o, in_flat_map (dropped f.effects f.size) p o (parts f lot) there here)

-- what comes of a prefix that ends the lot's stay
pub coming_front : (n : MapId) (id : LotId) (front more : List Step) → list_any (ends id) front ≡ true → coming n id (front ++ more) ≡ coming n id front
coming_front n id [] more ended = absurd cc
coming_front n id (s ∷ front) more ended = elim (cases_Bool (ends id s)) [
  | inl is ↦ last n id s (front ++ more) is ∙ sym (last n id s front is)
  | inr off ↦
      let later : list_any (ends id) front ≡ true = sym (ap (λ (t : Bool). t || list_any (ends id) front) off) ∙ ended in
      let both : list_any (ends id) (front ++ more) ≡ true = list_any-append (ends id) front more ∙ or_left (list_any (ends id) front) (list_any (ends id) more) later in
      next n id s (front ++ more) off both ∙ ap (λ (es : List QueueEntry). act_coming s.act ++ es) (coming_front n id front more later) ∙ sym (next n id s front off later)
]

-- the turn with which a step begins is none of it
coming_begun : (n : MapId) (id : LotId) (turn : Turn) (o : HartOp) (rest : List Step) → ends id (hart_step o) ≡ false → list_any (ends id) rest ≡ true → coming n id (record (hart_step o) { first = turn } ∷ rest) ≡ coming n id (hart_step o ∷ rest)
coming_begun n id turn o rest off ended = next n id (record (hart_step o) { first = turn }) rest off ended ∙ sym (next n id (hart_step o) rest off ended)

-- the machine's blocks are the driver's
record IsSized (f : DriverConfig) (m : MachineState) : Type 0 where
  block : IsBlockSize m.size
  size : f.size ≡ m.size

target_drops : (f : DriverConfig) (m : MachineState) (lot : Lot) (n : MapId) (i : ℕ) (e : Entry) (y : ℕ) → IsSized f m → DropsBlocks f.effects → comes_back lot.list.dir ≡ true → slice_get lot.list.entries i ≡ Some e → covers (device_of f e) y ≡ true
    → Stands (has_op drops_copies (y / f.size)) is_full (coming n lot.id (ending (turns.End lot.id) (return_steps f lot)))
target_drops f m lot n i e y sized drops comes there on =
    let p : Part = sg.part_of lot.list.dir f.slots_at e in
    subst (λ (s : ℕ). Stands (has_op drops_copies (y / s)) is_full (coming n lot.id (ending (turns.End lot.id) (return_steps f lot)))) (sym sized.size)
    (plans_return.drops f lot n (turns.End lot.id) p m y sized.block sized.size drops comes (back_turns lot.id (turns.End lot.id) (inr refl))
    (record { part = in_map (sg.part_of lot.list.dir f.slots_at) e lot.list.entries (at_get lot.list.entries i e there); from = covers-low (device_of f e) y on; before = covers-high (device_of f e) y on }))

-- it goes, and begins with no store
abbrev GoesFirst : DriverConfig → List Lot → List Step → Type 0
GoesFirst f lots steps = PlanGoes f lots steps × LoadsFirst steps

target_by : (f : DriverConfig) (m : MachineState) (src dst : Lot) (lots : List Lot) (more : List Step) (ops : List HartOp) → IsSized f m → DropsBlocks f.effects → dst.kind ≡ Copy → IsPlanned f (turned_lot sides.Returning dst) → comes_back dst.list.dir ≡ true → AreEndsIn f src dst sides.Device sides.Device lots
    → IsInHand f (set_side sides.Returning dst.id lots) (turned_lot sides.Returning dst) false sides.Returning → ReturnTail f (set_side sides.Returning dst.id lots) (turned_lot sides.Returning dst) (turns.End dst.id) more → drops_of f (turned_lot sides.Returning dst) ≡ ops
    → All (IsDropping f (turned_lot sides.Returning dst)) ops → (o : HartOp) → In o ops → GoesFirst f lots (back_steps f dst ++ more)
unfolding drop_at
target_by f m src dst lots more [] sized drops kind is comes e hand t same all o here = absurd here
target_by f m src dst lots more (d ∷ ops) sized drops kind is comes e hand t same all o here =
    let id = dst.id in
    let now = turned_lot sides.Returning dst in
    let lots_now = set_side sides.Returning id lots in
    let plan = ending (turns.End id) (return_steps f now) in
    let s = record (hart_step d) { first = turns.Return id } in
    let rest = op_steps ops ++ (t.tail ++ more) in
    let first = All-head (IsDropping f now) d ops all in
    let later = All-tail (IsDropping f now) d ops all in
    let ending_is : plan ≡ hart_step d ∷ (op_steps ops ++ t.tail) = t.is ∙ ap (λ (k : List HartOp). op_steps k ++ t.tail) same in
    let whole : back_steps f dst ++ more ≡ s ∷ rest = ap (λ (ss : List Step). beginning (turns.Return id) ss ++ more) ending_is ∙ ap (λ (ss : List Step). s ∷ ss) (append_steps (op_steps ops) t.tail more) in
    let plain_whole : plan ++ more ≡ hart_step d ∷ rest = ap (λ (ss : List Step). ss ++ more) ending_is ∙ ap (λ (ss : List Step). hart_step d ∷ ss) (append_steps (op_steps ops) t.tail more) in
    let chain : (n : MapId) → coming n id (s ∷ rest) ≡ coming n id plan =
    λ n.
    coming_begun n id (turns.Return id) d rest (plain_ends id d (dropping_plain f now d first)) (ends_behind id ops (t.tail ++ more) t.ended) ∙ ap (λ (ss : List Step). coming n id ss) (sym plain_whole)
    ∙ coming_front n id plan more (return_plan f now (turns.End id) is drops (inr refl)).ended in
    subst (λ (ss : List Step). GoesFirst f lots ss) (sym whole) (
      (
        TakesTarget (record {
          lot = turned_lot sides.Device dst;
          taken = record { here = e.target_in; kind = kind; side = refl; first = refl };
          goes = drop_at f lots_now now d ops (t.tail ++ more) hand first later t.ended t.fenced t.first;
          same = refl;
          drops = λ n i x y there on. subst (λ (es : List QueueEntry). Stands (has_op drops_copies (y / f.size)) is_full es) (sym (chain n)) (target_drops f m now n i x y sized drops comes there on);
        }),
        drops_go f lots_now now ops (t.tail ++ more) hand later t.ended t.fenced t.first t.goes,
      ),
      cbo_last d first.op first.block rest first.is,
    )

-- and then the source
backs_go : (f : DriverConfig) (m : MachineState) (chan : ChanNo) (src dst : Lot) (lots : List Lot) → IsSized f m → DropsBlocks f.effects → AreCopied f chan src dst → AreEndsIn f src dst sides.Device sides.Device lots → GoesFirst f lots (back_steps f dst ++ back_steps f src)
backs_go f m chan src dst lots sized drops c e =
    let id = dst.id in
    let now = turned_lot sides.Returning dst in
    let lots_now = set_side sides.Returning id lots in
    let turned = target_turn f src dst sides.Device sides.Device sides.Returning lots c.two e in
    let hand = target_hand f src dst sides.Device sides.Returning lots_now (λ lot side. StillDevice side) c.target_kind turned in
    let is = planned_turned f dst sides.Returning c.target_planned in
    let stays : comes_back src.list.dir ≡ false = ap comes_back c.source_dir in
    let comes : comes_back dst.list.dir ≡ true = ap comes_back c.target_dir in
    let left = lots_after (turns.End id) lots_now in
    let gone : IsLastEnd f src left = record {
      here = in_filter (λ (lot : Lot). not (is_lot id lot)) (turned_lot sides.Device src) lots_now turned.source_in (not_from_false (is_lot id src) (other_name src dst c.two));
      still = all_filtered (IsRole f src dst sides.Device sides.Returning) (λ (other : Lot). is_lot src.id other ≡ false → IsStill f other) (λ (lot : Lot). not (is_lot id lot)) lots_now turned.roles left_still;
    } in
    let behind : IsBehind f id left (back_steps f src) = record {
      goes = source_goes f src left c.source_kind c.source_planned stays gone;
      first = ap rest_last (source_steps f src c.source_planned stays);
      unended = ap (list_any (ends id)) (source_steps f src c.source_planned stays) ∙ or_from (ends id (source_back src.id)) false (or_from (same_lot id src.id) false (not_same src dst c.two) refl) refl;
    } in
    let t = tail_so f lots_now now (turns.End id) (back_steps f src) hand is (inr refl) behind in
    let there : slice_get dst.list.entries 0 ≡ Some c.entry = ap (λ (es : List Entry). slice_get es 0) c.only in
    let some = some_drops f now c.entry c.only comes is.size (omega (arith, in_even f c.entry, c.target_planned.some 0 c.entry there)) in
    target_by f m src dst lots (back_steps f src) (drops_of f now) sized drops c.target_kind is comes e hand t refl (dropped_are f now is.size drops) some.0 some.1
  where
    left_still : (other : Lot) → IsRole f src dst sides.Device sides.Returning other → not (is_lot dst.id other) ≡ true → is_lot src.id other ≡ false → IsStill f other
    left_still other (IsSource is) kept off = absurd (both_ways (is_lot src.id other) off (is_source src sides.Device other is))
    left_still other (IsTarget is) kept off = absurd (both_ways (not (is_lot dst.id other)) (not_from_true (is_lot dst.id other) (is_source dst sides.Returning other is)) kept)
    left_still other (IsOther far beside still) kept off = still

    not_same : (src dst : Lot) → AreTwo src dst → same_lot dst.id src.id ≡ false
    not_same src dst two = ap (λ (i : LotId). same_lot i src.id) two.target_is ∙ ap (λ (i : LotId). same_lot target i) two.source_is

-- ---- the channel

reg_goes : (f : DriverConfig) (lots : List Lot) (chan : ChanNo) (off width value : ℕ) (rest : List Step) → All (IsStill f) lots → LoadsFirst rest → PlanGoes f lots rest → PlanGoes f lots (hart_step (hart.IoStore (io.Reg chan off width value)) ∷ rest)
reg_goes f lots chan off width value rest still first go = (Registers (record { chan = chan; off = off; width = width; value = value; step = refl; still = still; next = first }), go)

abbrev transfer_steps : DriverConfig → ChanNo → ℕ → Lot → Lot → List Step
transfer_steps f chan cfg src dst = map (copy_step chan) (transfer chan (end_part f src) (end_part f dst) cfg)

transfer_goes : (f : DriverConfig) (chan : ChanNo) (cfg : ℕ) (src dst : Lot) (lots : List Lot) (rest : List Step) → AreCopied f chan src dst → AreEndsIn f src dst (side_lent f) (side_lent f) lots → ((id : LotId) → list_any (ends_lending id) rest ≡ false) → LoadsFirst rest → PlanGoes f (map given_now lots) rest
    → PlanGoes f lots (transfer_steps f chan cfg src dst ++ rest)
transfer_goes f chan cfg src dst lots rest c e unlent first go =
    let p = end_part f src in
    let q = end_part f dst in
    let side = side_lent f in
    let still = all_still f src dst side lots (lent_still f) e in
    let given = all_still f src dst sides.Device (map given_now lots) (λ lot is. StillDevice is) (ends_given f src dst lots e) in
    let release = reg_goes f (map given_now lots) chan 0 4 0 rest given first go in
    reg_goes f lots chan 0x004 4 cfg _ still refl
    (reg_goes f lots chan 0x008 8 p.device.len _ still refl
    (reg_goes f lots chan 0x010 8 (bus_of q.device) _ still refl
    (reg_goes f lots chan 0x018 8 (bus_of p.device) _ still refl
    (reg_goes f lots chan 0 4 3 _ still refl (
      Polls (record {
        chan = chan;
        step = refl;
        still = still;
        reads = turned_lot side src;
        writes = turned_lot side dst;
        source_is = source_end f chan src dst side side lots c e;
        target_is = target_end f chan src dst side side lots c e;
        more = rest;
        release = refl;
        lent = unlent;
      }),
      release,
    )))))

-- its stores are of no byte
transfer_none : (f : DriverConfig) (chan : ChanNo) (cfg : ℕ) (src dst : Lot) (rest : List Step) (p : QueueEntry → Bool) → IsOfBytes p → list_any p (all_coming rest) ≡ false → list_any p (all_coming (transfer_steps f chan cfg src dst ++ rest)) ≡ false
transfer_none f chan cfg src dst rest p of none =
    let reg : (off width value : ℕ) (b : Bool) → b ≡ false → (p (entries.Reg chan off width value) || b) ≡ false = λ off width value b off_b. or_from (p (entries.Reg chan off width value)) b (of.registers chan off width value) off_b in
    reg _ _ _ _ (reg _ _ _ _ (reg _ _ _ _ (reg _ _ _ _ (reg _ _ _ _ (reg _ _ _ _ none)))))

-- ---- beside each other

-- where the channel sees one end, the plan of the copy stores nothing: neither into the destination's slot nor out of it,
-- where no block of the slot is one of the buffer
pub record AreBeside (f : DriverConfig) (src dst : Lot) : Type 0 where
  pub ins : (i j : ℕ) (d e : Entry) (y : ℕ) → slice_get src.list.entries i ≡ Some d → slice_get dst.list.entries j ≡ Some e → e.bounced ≡ true → covers (device_of f d) y ≡ true → covers (device_of f e) y ≡ true → ⊥
  pub outs : (i j : ℕ) (d e : Entry) (y : ℕ) → slice_get src.list.entries i ≡ Some d → slice_get dst.list.entries j ≡ Some e → e.bounced ≡ true → covers (device_of f d) y ≡ true → covers e.span y ≡ true → ⊥
  pub blocks : (j : ℕ) (e : Entry) (y x : ℕ) → slice_get dst.list.entries j ≡ Some e → e.bounced ≡ true → covers (device_of f e) y ≡ true → covers e.span x ≡ true → x / f.size ≡ y / f.size → ⊥

begin_coming : (turn : Turn) (steps more : List Step) → all_coming (beginning turn steps ++ more) ≡ all_coming (steps ++ more)
begin_coming turn [] more = refl
begin_coming turn (s ∷ rest) more = refl

begin_lends : (id : LotId) (turn : Turn) (steps more : List Step) → list_any (ends_lending id) (beginning turn steps ++ more) ≡ list_any (ends_lending id) (steps ++ more)
begin_lends id turn [] more = refl
begin_lends id turn (s ∷ rest) more = refl

back_none : (f : DriverConfig) (lot : Lot) (more : List Step) (p : QueueEntry → Bool) → IsPlanned f lot → DropsBlocks f.effects → IsOfBytes p → (comes_back lot.list.dir ≡ true → (m : Move) → IsMove (out_cut f) lot.list.entries m → p (entries.Store (stored (out_cut f) m) [] Pma) ≡ false) → list_any p (all_coming more) ≡ false
    → list_any p (all_coming (back_steps f lot ++ more)) ≡ false
back_none f lot more p is drops of stores none = ap (list_any p) (begin_coming (turns.Return lot.id) (ending (turns.End lot.id) (return_steps f lot)) more) ∙ return_none f lot (turns.End lot.id) more p is drops of stores none

back_unlent : (f : DriverConfig) (lot : Lot) (more : List Step) (id : LotId) → IsPlanned f lot → DropsBlocks f.effects → list_any (ends_lending id) more ≡ false → list_any (ends_lending id) (back_steps f lot ++ more) ≡ false
back_unlent f lot more id is drops none = begin_lends id (turns.Return lot.id) (ending (turns.End lot.id) (return_steps f lot)) more ∙ return_unlent f lot more id is drops none

-- both ways back, one behind the other
backs_none : (f : DriverConfig) (chan : ChanNo) (src dst : Lot) (p : QueueEntry → Bool) → AreCopied f chan src dst → DropsBlocks f.effects → IsOfBytes p → ((m : Move) → IsMove (out_cut f) dst.list.entries m → p (entries.Store (stored (out_cut f) m) [] Pma) ≡ false) → list_any p (all_coming (back_steps f dst ++ back_steps f src)) ≡ false
backs_none f chan src dst p c drops of stores =
    back_none f dst (back_steps f src) p c.target_planned drops of (λ comes. stores)
    (ap (λ (ss : List Step). list_any p (all_coming ss)) (sym (append-nil (back_steps f src)))
    ∙ back_none f src [] p c.source_planned drops of (λ comes m is. absurd (both_ways (comes_back src.list.dir) (ap comes_back c.source_dir) comes)) refl)

backs_unlent : (f : DriverConfig) (chan : ChanNo) (src dst : Lot) (id : LotId) → AreCopied f chan src dst → DropsBlocks f.effects → list_any (ends_lending id) (back_steps f dst ++ back_steps f src) ≡ false
backs_unlent f chan src dst id c drops =
    back_unlent f dst (back_steps f src) id c.target_planned drops (ap (list_any (ends_lending id)) (sym (append-nil (back_steps f src))) ∙ back_unlent f src [] id c.source_planned drops refl)

-- behind the token of the source
source_quiet : (f : DriverConfig) (chan : ChanNo) (cfg : ℕ) (src dst : Lot) → AreCopied f chan src dst → AreBeside f src dst → WritesBack f.effects → DropsBlocks f.effects → IsQuiet f (turned_lot sides.Lending src) (lend_steps f dst ++ (transfer_steps f chan cfg src dst ++ (back_steps f dst ++ back_steps f src)))
source_quiet f chan cfg src dst c beside writes drops =
    let third = transfer_steps f chan cfg src dst ++ (back_steps f dst ++ back_steps f src) in
    record {
      bytes = λ i d y there on n.
          let p = gives_at f.size y in
          let of = of_place f.size y in
          none_comes p n src.id (lend_steps f dst ++ third) refl
          (lend_none f dst third p c.target_planned writes of
          (λ m is. store_gives f.size y (stored (in_cut f) m) ∙ false_from_ne_true (covers (stored (in_cut f) m) y) (λ over. beside.ins i is.i d m.entry y there is.entry is.bounced on (stored_in (in_cut f) m y (in_even f) is.within over)))
          (transfer_none f chan cfg src dst (back_steps f dst ++ back_steps f src) p of
          (backs_none f chan src dst p c drops of
          (λ m is. store_gives f.size y (stored (out_cut f) m) ∙ false_from_ne_true (covers (stored (out_cut f) m) y) (λ over. beside.outs i is.i d m.entry y there is.entry is.bounced on (stored_in (out_cut f) m y (out_even f) is.within over))))));
      blocks = λ comes. absurd (both_ways (comes_back src.list.dir) (ap comes_back c.source_dir) comes);
    }

-- the destination has one entry
one_entry : (es : List Entry) (e d : Entry) (i : ℕ) → es ≡ e ∷ [] → slice_get es i ≡ Some d → d ≡ e
one_entry es e d i only there = by i (ap (λ (xs : List Entry). slice_get xs i) (sym only) ∙ there)
  where
    by : (i : ℕ) → slice_get (e ∷ []) i ≡ Some d → d ≡ e
    by zero is = let same : Some e ≡ Some d = is in cc
    by (suc i) is = absurd cc

-- behind its token
target_quiet : (f : DriverConfig) (chan : ChanNo) (cfg : ℕ) (src dst : Lot) → AreCopied f chan src dst → AreBeside f src dst → DropsBlocks f.effects → IsQuiet f (turned_lot sides.Lending dst) (transfer_steps f chan cfg src dst ++ (back_steps f dst ++ back_steps f src))
target_quiet f chan cfg src dst c beside drops =
    let backs = back_steps f dst ++ back_steps f src in
    let third = transfer_steps f chan cfg src dst ++ backs in
    let none : (p : QueueEntry → Bool) (n : MapId) → p (token n) ≡ false → IsOfBytes p → ((m : Move) → IsMove (out_cut f) dst.list.entries m → p (entries.Store (stored (out_cut f) m) [] Pma) ≡ false) → list_any p (coming n dst.id third) ≡ false =
    λ p n off of stores. none_comes p n dst.id third off (transfer_none f chan cfg src dst backs p of (backs_none f chan src dst p c drops of stores)) in
    let same : (i : ℕ) (e : Entry) (m : Move) → slice_get dst.list.entries i ≡ Some e → IsMove (out_cut f) dst.list.entries m → e ≡ m.entry =
    λ i e m there is. one_entry dst.list.entries c.entry e i c.only there ∙ sym (one_entry dst.list.entries c.entry m.entry is.i c.only is.entry) in
    record {
      bytes = λ i e y there on n.
          none (gives_at f.size y) n refl (of_place f.size y)
          (λ m is.
          store_gives f.size y (stored (out_cut f) m)
          ∙ false_from_ne_true (covers (stored (out_cut f) m) y) (λ over. beside.blocks is.i m.entry y y is.entry is.bounced (subst (λ (d : Entry). covers (device_of f d) y ≡ true) (same i e m there is) on) (stored_in (out_cut f) m y (out_even f) is.within over) refl));
      blocks = λ comes i e y there on n.
          none (gives_in f.size (y / f.size)) n refl (of_block f.size (y / f.size))
          (λ m is.
          let span = stored (out_cut f) m in
          or_from (span.at / f.size == y / f.size) false
          (false_from_ne_true (span.at / f.size == y / f.size)
          (λ met. beside.blocks is.i m.entry y span.at is.entry is.bounced (subst (λ (d : Entry). covers (device_of f d) y ≡ true) (same i e m there is) on) (stored_in (out_cut f) m span.at (out_even f) is.within (covers-from span span.at (omega arith) (omega (arith, is.some))))
          (eqb-true (span.at / f.size) (y / f.size) met)))
          refl);
    }

-- ---- the whole

any_behind : (p : Step → Bool) (xs ys : List Step) → list_any p ys ≡ true → list_any p (xs ++ ys) ≡ true
any_behind p xs ys some = list_any-append p xs ys ∙ or_right (list_any p xs) (list_any p ys) some

begin_posts : (b : ℕ) (turn : Turn) (steps : List Step) → list_any (posts b) (beginning turn steps) ≡ list_any (posts b) steps
begin_posts b turn [] = refl
begin_posts b turn (s ∷ rest) = refl

back_silent : (f : DriverConfig) (lot : Lot) (b : ℕ) → IsPlanned f lot → DropsBlocks f.effects → list_any (posts b) (back_steps f lot) ≡ false
back_silent f lot b is drops = begin_posts b (turns.Return lot.id) (ending (turns.End lot.id) (return_steps f lot)) ∙ (return_plan f lot (turns.End lot.id) is drops (inr refl)).silent b

wanted_same : (lot : Lot) → lot.side ≡ sides.Wanted → lot ≡ turned_lot sides.Wanted lot
wanted_same lot is = ap (λ (s : Side). turned_lot s lot) is

-- what is asked of the hart's lots at its start
pub record MayCopy (f : DriverConfig) (m : MachineState) (chan : ChanNo) (src dst : Lot) (lots : List Lot) : Type 0 where
  pub block : IsBlockSize m.size
  pub size : f.size ≡ m.size
  pub writes : WritesBack f.effects
  pub drops : DropsBlocks f.effects
  pub ends : AreCopied f chan src dst
  pub apart : AreApart lots
  pub source_in : In src lots
  pub target_in : In dst lots
  pub source_wanted : src.side ≡ sides.Wanted
  pub target_wanted : dst.side ≡ sides.Wanted
  pub others : All (λ other. is_lot source other ≡ false → is_lot target other ≡ false → IsStill f other) lots
  pub beside : AreBeside f src dst

start_ends : (f : DriverConfig) (m : MachineState) (chan : ChanNo) (src dst : Lot) (lots : List Lot) → MayCopy f m chan src dst lots → AreEndsIn f src dst sides.Wanted sides.Wanted lots
start_ends f m chan src dst lots c = record {
  source_in = subst (λ (l : Lot). In l lots) (wanted_same src c.source_wanted) c.source_in;
  target_in = subst (λ (l : Lot). In l lots) (wanted_same dst c.target_wanted) c.target_in;
  roles = all_in (IsRole f src dst sides.Wanted sides.Wanted) lots (λ lot here. elim (cases_Bool (is_lot src.id lot)) [
    | inl is ↦ IsSource (same_named lots src.id lot src c.apart here c.source_in is (its_name src src.id refl) ∙ wanted_same src c.source_wanted)
    | inr off ↦ elim (cases_Bool (is_lot dst.id lot)) [
      | inl is ↦ IsTarget (same_named lots dst.id lot dst c.apart here c.target_in is (its_name dst dst.id refl) ∙ wanted_same dst c.target_wanted)
      | inr beside ↦
          IsOther off beside
          (all_at (λ (other : Lot). is_lot source other ≡ false → is_lot target other ≡ false → IsStill f other) lots lot c.others here (ap (λ (i : LotId). is_lot i lot) (sym c.ends.two.source_is) ∙ off) (ap (λ (i : LotId). is_lot i lot) (sym c.ends.two.target_is) ∙ beside))
    ]
  ]);
}

pub record CopyGoes (f : DriverConfig) (lots : List Lot) (steps : List Step) : Type 0 where
  pub goes : PlanGoes f lots steps
  pub silent : (b : ℕ) → list_any (posts b) steps ≡ false
  -- it ends the stays of the two ends alone
  pub ends : (id : LotId) → HasEnd id steps → IsEndName id
  pub polled : polls steps ≡ true
  pub unclaimed : transfers steps ≡ false

steps_whole : (f : DriverConfig) (chan : ChanNo) (cfg : ℕ) (src dst : Lot)
    → lend_steps f src ++ lend_steps f dst ++ transfer_steps f chan cfg src dst ++ back_steps f dst ++ back_steps f src ≡ lend_steps f src ++ (lend_steps f dst ++ (transfer_steps f chan cfg src dst ++ (back_steps f dst ++ back_steps f src)))
steps_whole f chan cfg src dst =
    let third = transfer_steps f chan cfg src dst ++ (back_steps f dst ++ back_steps f src) in
    append_steps (lend_steps f src ++ lend_steps f dst ++ transfer_steps f chan cfg src dst) (back_steps f dst) (back_steps f src)
    ∙ append_steps (lend_steps f src ++ lend_steps f dst) (transfer_steps f chan cfg src dst) (back_steps f dst ++ back_steps f src) ∙ append_steps (lend_steps f src) (lend_steps f dst) third

either : (a b : Bool) → (a || b) ≡ true → (a ≡ true) ⊎ (b ≡ true)
either true b is = inl refl
either false b is = inr is

begin_ends : (id : LotId) (turn : Turn) (steps : List Step) → list_any (ends id) (beginning turn steps) ≡ list_any (ends id) steps
begin_ends id turn [] = refl
begin_ends id turn (s ∷ rest) = refl

back_only : (f : DriverConfig) (lot : Lot) → IsPlanned f lot → DropsBlocks f.effects → EndsOnly lot.id (back_steps f lot)
back_only f lot is drops b ended = (return_plan f lot (turns.End lot.id) is drops (inr refl)).only b (sym (begin_ends b (turns.Return lot.id) (ending (turns.End lot.id) (return_steps f lot))) ∙ ended)

-- it ends the stays of its two ends alone
pub copy_two : (f : DriverConfig) (chan : ChanNo) (cfg : ℕ) (src dst : Lot) (id : LotId) → AreTwo src dst → IsPlanned f src → IsPlanned f dst → WritesBack f.effects → DropsBlocks f.effects → list_any (ends id) (copy_steps f chan cfg src dst) ≡ true → IsEndName id
copy_two f chan cfg src dst id two is_src is_dst writes drops ended =
    let backs = back_steps f dst ++ back_steps f src in
    let third = transfer_steps f chan cfg src dst ++ backs in
    let second = lend_steps f dst ++ third in
    let first = lend_steps f src ++ second in
    let whole : (ends id (claim_step chan) || list_any (ends id) first) ≡ true = sym (ap (λ (ss : List Step). list_any (ends id) (claim_step chan ∷ ss)) (steps_whole f chan cfg src dst)) ∙ ended in
    let at : (xs ys : List Step) → list_any (ends id) (xs ++ ys) ≡ true → (list_any (ends id) xs ≡ true) ⊎ (list_any (ends id) ys ≡ true) = λ xs ys some. either (list_any (ends id) xs) (list_any (ends id) ys) (sym (list_any-append (ends id) xs ys) ∙ some) in
    let of_source : same_lot id src.id ≡ true → IsEndName id = λ same. inl (turn_name id src.id same ∙ two.source_is) in
    let of_target : same_lot id dst.id ≡ true → IsEndName id = λ same. inr (turn_name id dst.id same ∙ two.target_is) in
    elim (either (ends id (claim_step chan)) (list_any (ends id) first) whole) [
      | inl claimed ↦ elim (either (same_lot id target) false claimed) [ inl same ↦ inr (turn_name id target same) | inr never ↦ absurd (both_ways false refl never) ]
      | inr later ↦
          elim (at (lend_steps f src) second later) [
            | inl here ↦ of_source (lend_only f src is_src writes id here)
            | inr more ↦
                elim (at (lend_steps f dst) third more) [
                  | inl here ↦ of_target (lend_only f dst is_dst writes id here)
                  | inr back ↦ elim (at (back_steps f dst) (back_steps f src) back) [ inl here ↦ of_target (back_only f dst is_dst drops id here) | inr here ↦ of_source (back_only f src is_src drops id here) ]
                ]
          ]
    ]

-- it has no message
pub copy_silent : (f : DriverConfig) (chan : ChanNo) (cfg : ℕ) (src dst : Lot) (b : ℕ) → IsPlanned f src → IsPlanned f dst → WritesBack f.effects → DropsBlocks f.effects → list_any (posts b) (copy_steps f chan cfg src dst) ≡ false
copy_silent f chan cfg src dst b is_src is_dst writes drops =
    let backs = back_steps f dst ++ back_steps f src in
    let third = transfer_steps f chan cfg src dst ++ backs in
    ap (list_any (posts b)) (steps_whole f chan cfg src dst)
    ∙ lend_silent f src (lend_steps f dst ++ third) b is_src writes
    (lend_silent f dst third b is_dst writes
    (list_any-append (posts b) (back_steps f dst) (back_steps f src) ∙ or_from (list_any (posts b) (back_steps f dst)) (list_any (posts b) (back_steps f src)) (back_silent f dst b is_dst drops) (back_silent f src b is_src drops)))

pub copy_goes : (f : DriverConfig) (m : MachineState) (chan : ChanNo) (cfg : ℕ) (src dst : Lot) (lots : List Lot) → repeat_of cfg ≡ false → MayCopy f m chan src dst lots → CopyGoes f lots (copy_steps f chan cfg src dst)
copy_goes f m chan cfg src dst lots once c =
    let two = c.ends.two in
    let lent_src = set_side sides.Lending src.id lots in
    let lent = set_side sides.Lending dst.id lent_src in
    let lots_two = lots_lent f src.id lent in
    let lots_three = lots_lent f dst.id lots_two in
    let e0 = start_ends f m chan src dst lots c in
    let e1 = target_turn f src dst sides.Lending sides.Wanted sides.Lending lent_src two (source_turn f src dst sides.Wanted sides.Wanted sides.Lending lots two e0) in
    let e2 = source_lent f src dst sides.Lending lent two e1 in
    let e3 = target_lent f src dst (side_lent f) lots_two two e2 in
    let is_src = planned_turned f src sides.Lending c.ends.source_planned in
    let is_dst = planned_turned f dst sides.Lending c.ends.target_planned in
    let backs = back_steps f dst ++ back_steps f src in
    let unlent : (id : LotId) → list_any (ends_lending id) backs ≡ false = λ id. backs_unlent f chan src dst id c.ends c.drops in
    let last_go = backs_go f m chan src dst (map given_now lots_three) (record { block = c.block; size = c.size }) c.drops c.ends (ends_given f src dst lots_three e3) in
    let third = transfer_steps f chan cfg src dst ++ backs in
    let third_goes = transfer_goes f chan cfg src dst lots_three backs c.ends e3 unlent last_go.1 last_go.0 in
    let second = lend_steps f dst ++ third in
    let behind_dst : f.light ≡ true → IsBehindToken f (turned_lot sides.Lending dst) third = λ light. record { lent = unlent dst.id; quiet = target_quiet f chan cfg src dst c.ends c.beside c.drops } in
    let second_goes : PlanGoes f lots_two second = lend_goes f lots_two (turned_lot sides.Lending dst) third (target_hand f src dst (side_lent f) sides.Lending lots_two (lent_still f) c.ends.target_kind e2) is_dst c.writes behind_dst refl third_goes in
    let second_first : LoadsFirst second = lend_first f dst third c.ends.target_planned c.writes in
    let behind_src : f.light ≡ true → IsBehindToken f (turned_lot sides.Lending src) second =
    λ light. record { lent = lend_unlent f dst third src.id c.ends.target_planned c.writes light (name_other src dst two) (unlent src.id); quiet = source_quiet f chan cfg src dst c.ends c.beside c.writes c.drops } in
    let first = lend_steps f src ++ second in
    let first_goes : PlanGoes f lent first = lend_goes f lent (turned_lot sides.Lending src) second (source_hand f src dst lent two c.ends.source_kind c.ends.target_kind e1) is_src c.writes behind_src second_first second_goes in
    let named : PlanGoes f (set_side sides.Lending target (set_side sides.Lending source lots)) first =
    subst (λ (i : LotId). PlanGoes f (set_side sides.Lending target (set_side sides.Lending i lots)) first) two.source_is (subst (λ (i : LotId). PlanGoes f (set_side sides.Lending i lent_src) first) two.target_is first_goes) in
    let whole : lend_steps f src ++ lend_steps f dst ++ transfer_steps f chan cfg src dst ++ back_steps f dst ++ back_steps f src ≡ first = steps_whole f chan cfg src dst in
    subst (λ (ss : List Step). CopyGoes f lots (claim_step chan ∷ ss)) (sym whole) (record {
      goes = (
        Claims (record {
          chan = chan;
          config = cfg;
          once = once;
          reads = src;
          writes = dst;
          source_is = record { here = c.source_in; id_is = two.source_is; kind = c.ends.source_kind; dir_is = c.ends.source_dir; chan_is = c.ends.source_chan };
          target_is = record { here = c.target_in; id_is = two.target_is; kind = c.ends.target_kind; dir_is = c.ends.target_dir; chan_is = c.ends.target_chan };
          wanted = (c.source_wanted, c.target_wanted);
          others = c.others;
          steps = ap (λ (ss : List Step). claim_step chan ∷ ss) (sym whole);
          next = lend_first f src second c.ends.source_planned c.writes;
        }),
        named,
      );
      silent = λ b. sym (ap (λ (ss : List Step). list_any (posts b) (claim_step chan ∷ ss)) whole) ∙ copy_silent f chan cfg src dst b c.ends.source_planned c.ends.target_planned c.writes c.drops;
      ends = λ id ended. copy_two f chan cfg src dst id two c.ends.source_planned c.ends.target_planned c.writes c.drops (ap (λ (ss : List Step). list_any (ends id) (claim_step chan ∷ ss)) whole ∙ ended);
      polled = any_behind (λ (s : Step). is_poll s.act) (lend_steps f src) second (any_behind (λ (s : Step). is_poll s.act) (lend_steps f dst) third refl);
      unclaimed = and_right (polls (claim_step chan ∷ first)) (not (claims (claim_step chan ∷ first))) refl;
    })
