-- What the rest of a plan is still to do: the end of each lot that is not still, a store of a last load's bytes as it comes
-- next, and the lot that its next step is of.
use Rattle.std.proofs.Common.{◌≡◌, ℕ, ◌≤◌, cond, Bool, true, false, List, [], ◌∷◌, ◌++◌, length, refl, sym, ap, ◌∙◌, inl, inr, subst, Option, Some, None}
use Rattle.std.specs.Prelude.{◌≢◌, All, not, ◌==◌, ◌||◌, find, map}
use Rattle.std.specs.List.{list_any}
use Rattle.std.proofs.lemmas.Bool.{cases_Bool, and_parts, and_from, or_parts, or_left, or_right, or_from, true_from_ne_false, cond-true, cond-false, eqb-true, eq-eqb, false_from_ne_true, false≢true}
use Rattle.std.proofs.lemmas.List.{get_or_past}
use Rattle.std.proofs.lemmas.List.Elements.{All-head, All-tail}
use Rattle.std.proofs.lemmas.List.Folds.{list_any-append}
use Rattle.nc_num.specs.declared.names.ChanNo.{ChanNo}
use Rattle.nc_num.specs.declared.names.HartNo.{HartNo}
use Rattle.nc_num.specs.declared.places.Span.{Span}
use Rattle.nc_plan.specs.Plans.{In, full, moved}
use Rattle.nc_memcpy.specs.Copy.{transfer}
use Rattle.nc_ops.specs.declared.ops.Op.{Op}
use Rattle.nc_ops.specs.declared.ops.Op.TheVariants as ops
use Rattle.nc_rules.specs.declared.lots.Lot.{Lot}
use Rattle.nc_rules.specs.declared.lots.LotId.{LotId}
use Rattle.nc_rules.specs.declared.lots.Side.{Side}
use Rattle.nc_rules.specs.declared.lots.Side.TheVariants as sides
use Rattle.nc_rules.specs.declared.steps.Act.{Act}
use Rattle.nc_rules.specs.declared.steps.Act.TheVariants as acts
use Rattle.nc_rules.specs.declared.steps.Phase.{Phase}
use Rattle.nc_rules.specs.declared.steps.Phase.TheVariants.{Steps, Search, Work}
use Rattle.nc_rules.specs.declared.steps.Step.{Step}
use Rattle.nc_rules.specs.declared.steps.Turn.{Turn}
use Rattle.nc_rules.specs.declared.steps.Turn.TheVariants as turns
use Rattle.nc_rules.specs.Driver.{DriverState, in_hand}
use Rattle.nc_rules.specs.Copies.{source, copy_step, claim_step, back_steps, end_part, copy_steps}
use Rattle.nc_rules.specs.Lots.{DriverConfig, is_lot, map_id, parts}
use Rattle.nc_rules.specs.Plans.{hart_step, op_steps, turning, carried, token_steps, lending_end, lend_steps}
use Rattle.nc_rules.specs.Turns.{with_side, set_side, lots_after, lots_after_both}
use Rattle.nc_rules.specs.World.{WorldState, no_driver, driver_of}
use Rattle.nc_holds.proofs.lists.Members.{all_at, in_filter, same_some}
use Rattle.nc_holds.specs.Rests.{RestAt}
use Rattle.nc_rows.specs.Ahead.{same_lot, turns_lot, gives_lot, settles_lot, stores_io, tokens_lot, ends, is_settling, settling, is_full}
use Rattle.nc_rows.specs.Parts.{act_last, rest_last}
use Rattle.nc_rows.proofs.Steps.{steps_ahead}
use Rattle.nc_flatness.specs.Flatness.{IsHanding, PlanLeft, PlanIs, PlanOf, StandsAt, Drives}
use Rattle.nc_flatness.specs.Plans.{IsStill, StillDevice, StillSynced, StillOwn, StillSent, HasFull, HasEnd, HasLend, token_step, IsStore, IsPoll, StepGoes, Loads, Stores, WritesBack, Drops, Gives, Fences, Ends, Zeroes, Flushes, Settles, GivesArea, TakesBack, Marks, Posts, Claims, Registers, Polls, TakesTarget, TakesSource, given_now, lots_behind, PlanGoes, IsEndName, EndsOne}
use Rattle.nc_flatness.specs.Copying.{is_poll}
use Rattle.nc_flatness.specs.Tokens.{is_lending_side, ends_lending}

-- ---- the end of a lot

pub kept_in : (side : Side) (id : LotId) (lots : List Lot) (lot : Lot) → is_lot id lot ≡ false → In lot lots → In lot (set_side side id lots)
kept_in side id [] lot off k = elim k [ ]
kept_in side id (l ∷ lots) lot off (inl e) = inl (ap (with_side side id) e ∙ (rw off refl))
kept_in side id (l ∷ lots) lot off (inr k) = inr (kept_in side id lots lot off k)

-- a lot that a turn is not of is there behind it
pub stays_in : (t : Turn) (lots : List Lot) (lot : Lot) → turns_lot lot.id t ≡ false → In lot lots → In lot (lots_after t lots)
stays_in turns.Stay lots lot off here = here
stays_in (turns.Pass range to) lots lot off here = here
stays_in (turns.Own range) lots lot off here = here
stays_in (turns.Lend id) lots lot off here = kept_in sides.Lending id lots lot off here
stays_in (turns.Give id) lots lot off here = kept_in sides.Device id lots lot off here
stays_in (turns.Return id) lots lot off here = kept_in sides.Returning id lots lot off here
stays_in (turns.Sync id) lots lot off here = kept_in sides.Synced id lots lot off here
stays_in (turns.Settle id) lots lot off here = kept_in sides.Own id lots lot off here
stays_in (turns.End id) lots lot off here = in_filter (λ (l : Lot). not (is_lot id l)) lot lots here (ap not off)

later_by : (a b : Bool) → (a ≡ false → b ≡ true) → (a || b) ≡ true
later_by true b more = refl
later_by false b more = more refl

-- ---- the end of a stay

settles_by : (id : LotId) (s : Step) (rest : List Step) (t : Bool) → is_settling id (cond t (Some s) (find (ends id) rest)) ≡ true → (settling id rest ≡ true → HasEnd id rest) → (t || list_any (ends id) rest) ≡ true
settles_by id s rest true is more = refl
settles_by id s rest false is more = more is

-- the step with which an area that is allocated is its hart's ends its stay
pub settling_ends : (id : LotId) (rest : List Step) → settling id rest ≡ true → HasEnd id rest
settling_ends id [] is = absurd (false≢true is)
settling_ends id (s ∷ rest) is = settles_by id s rest (ends id s) is (settling_ends id rest)

-- ---- the end of a lending, which is one of a stay

gives_turn : (id : LotId) (t : Turn) → gives_lot id t ≡ true → turns_lot id t ≡ true
gives_turn id turns.Stay on = on
gives_turn id (turns.Pass range to) on = on
gives_turn id (turns.Own range) on = on
gives_turn id (turns.Lend to) on = absurd (false≢true on)
gives_turn id (turns.Give to) on = on
gives_turn id (turns.Return to) on = absurd (false≢true on)
gives_turn id (turns.Sync to) on = absurd (false≢true on)
gives_turn id (turns.Settle to) on = absurd (false≢true on)
gives_turn id (turns.End to) on = absurd (false≢true on)

settles_turn : (id : LotId) (t : Turn) → settles_lot id t ≡ true → turns_lot id t ≡ true
settles_turn id turns.Stay on = on
settles_turn id (turns.Pass range to) on = on
settles_turn id (turns.Own range) on = on
settles_turn id (turns.Lend to) on = absurd (false≢true on)
settles_turn id (turns.Give to) on = absurd (false≢true on)
settles_turn id (turns.Return to) on = absurd (false≢true on)
settles_turn id (turns.Sync to) on = absurd (false≢true on)
settles_turn id (turns.Settle to) on = on
settles_turn id (turns.End to) on = absurd (false≢true on)

-- a step that is of no turn of the lot and queues no token of it ends no lending of it
pub lending_off : (id : LotId) (s : Step) → turns_lot id s.last ≡ false → stores_io (tokens_lot id) s.act ≡ false → ends_lending id s ≡ false
lending_off id s turn token =
    or_from (gives_lot id s.last) (settles_lot id s.last || stores_io (tokens_lot id) s.act) (false_from_ne_true (gives_lot id s.last) (λ on. false≢true (sym turn ∙ gives_turn id s.last on)))
    (or_from (settles_lot id s.last) (stores_io (tokens_lot id) s.act) (false_from_ne_true (settles_lot id s.last) (λ on. false≢true (sym turn ∙ settles_turn id s.last on))) token)

pub plain_unlent : (id : LotId) (s : Step) → ends id s ≡ false → ends_lending id s ≡ false
plain_unlent id s off = let both = or_parts (turns_lot id s.last) (stores_io (tokens_lot id) s.act) off in lending_off id s both.0 both.1

pub unended_unlent : (id : LotId) (rest : List Step) → list_any (ends id) rest ≡ false → list_any (ends_lending id) rest ≡ false
unended_unlent id [] none = refl
unended_unlent id (s ∷ rest) none =
    let off = or_parts (ends id s) (list_any (ends id) rest) none in
    or_from (ends_lending id s) (list_any (ends_lending id) rest) (plain_unlent id s off.0) (unended_unlent id rest off.1)

pub lend_has_end : (id : LotId) (rest : List Step) → HasLend id rest → HasEnd id rest
lend_has_end id rest lends = true_from_ne_false (list_any (ends id) rest) (λ none. false≢true (sym (unended_unlent id rest none) ∙ lends))

pub lend_behind : (id : LotId) (s : Step) (rest : List Step) → HasLend id rest → HasLend id (s ∷ rest)
lend_behind id s rest lends = or_right (ends_lending id s) (list_any (ends_lending id) rest) lends

lend_before : (id : LotId) (steps more : List Step) → HasLend id steps → HasLend id (steps ++ more)
lend_before id steps more lends = list_any-append (ends_lending id) steps more ∙ or_left (list_any (ends_lending id) steps) (list_any (ends_lending id) more) lends

lend_after : (id : LotId) (steps more : List Step) → HasLend id more → HasLend id (steps ++ more)
lend_after id steps more lends = list_any-append (ends_lending id) steps more ∙ or_right (list_any (ends_lending id) steps) (list_any (ends_lending id) more) lends

settles_lends : (id : LotId) (s : Step) (rest : List Step) (t : Bool) → is_settling id (cond t (Some s) (find (ends id) rest)) ≡ true → (settling id rest ≡ true → HasLend id rest) → HasLend id (s ∷ rest)
settles_lends id s rest true is more =
    or_left (ends_lending id s) (list_any (ends_lending id) rest) (or_right (gives_lot id s.last) (settles_lot id s.last || stores_io (tokens_lot id) s.act) (or_left (settles_lot id s.last) (stores_io (tokens_lot id) s.act) is))
settles_lends id s rest false is more = lend_behind id s rest (more is)

-- and so does the step with which an area that is allocated is its hart's
pub settling_lends : (id : LotId) (rest : List Step) → settling id rest ≡ true → HasLend id rest
settling_lends id [] is = absurd (false≢true is)
settling_lends id (s ∷ rest) is = settles_lends id s rest (ends id s) is (settling_lends id rest)

pub unlent_settling : (id : LotId) (rest : List Step) → list_any (ends_lending id) rest ≡ false → settling id rest ≡ false
unlent_settling id rest none = false_from_ne_true (settling id rest) (λ is. false≢true (sym none ∙ settling_lends id rest is))

pub ends_one_next : (s : Step) (rest : List Step) → EndsOne (s ∷ rest) → EndsOne rest
ends_one_next s rest one a b here there = one a b (or_right (ends a s) (list_any (ends a) rest) here) (or_right (ends b s) (list_any (ends b) rest) there)

pub behind : (id : LotId) (s : Step) (rest : List Step) → HasEnd id rest → HasEnd id (s ∷ rest)
behind id s rest ended = or_right (ends id s) (list_any (ends id) rest) ended

pub same_id : (id : LotId) → same_lot id id ≡ true
same_id id = and_from (id.label.0 == id.label.0) (id.first == id.first) (eq-eqb id.label.0 id.label.0 refl) (eq-eqb id.first id.first refl)

pub by_turn : (id : LotId) (s : Step) (rest : List Step) (t : Turn) → s.last ≡ t → turns_lot id t ≡ true → HasEnd id (s ∷ rest)
by_turn id s rest t last is = or_left (ends id s) (list_any (ends id) rest) (or_left (turns_lot id s.last) (stores_io (tokens_lot id) s.act) (ap (turns_lot id) last ∙ is))

pub by_token : (lot : Lot) → ends lot.id (token_step lot) ≡ true
by_token lot = same_id lot.id

pub token_lends : (lot : Lot) → ends_lending lot.id (token_step lot) ≡ true
token_lends lot = same_id lot.id

pub give_lends : (id : LotId) (s : Step) (rest : List Step) → s.last ≡ turns.Give id → HasLend id (s ∷ rest)
give_lends id s rest last =
    or_left (ends_lending id s) (list_any (ends_lending id) rest) (or_left (gives_lot id s.last) (settles_lot id s.last || stores_io (tokens_lot id) s.act) (ap (gives_lot id) last ∙ same_id id))

pub settle_lends : (id : LotId) (s : Step) (rest : List Step) → s.last ≡ turns.Settle id → HasLend id (s ∷ rest)
settle_lends id s rest last =
    or_left (ends_lending id s) (list_any (ends_lending id) rest)
    (or_right (gives_lot id s.last) (settles_lot id s.last || stores_io (tokens_lot id) s.act) (or_left (settles_lot id s.last) (stores_io (tokens_lot id) s.act) (ap (settles_lot id) last ∙ same_id id)))

-- ---- the first turn of a step

pub turn_name : (a b : LotId) → same_lot a b ≡ true → a ≡ b
turn_name a b is =
    let both = and_parts (a.label.0 == b.label.0) (a.first == b.first) is in
    let label = eqb-true a.label.0 b.label.0 both.0 in
    let first = eqb-true a.first b.first both.1 in
    λ i. record { label = record { 0 = label i }; first = first i }

stay_turns : (id : LotId) (t : Turn) → t ≡ turns.Stay → turns_lot id t ≡ false
stay_turns id t is = ap (turns_lot id) is

pub before : (id : LotId) (steps more : List Step) → HasEnd id steps → HasEnd id (steps ++ more)
before id steps more ended = list_any-append (ends id) steps more ∙ or_left (list_any (ends id) steps) (list_any (ends id) more) ended

-- the steps that lend a lot end its lending
pub lend_lends : (f : DriverConfig) (lot : Lot) → HasLend lot.id (lend_steps f lot)
lend_lends f lot = lend_after lot.id (op_steps (carried f.effects f.size (parts f lot))) (lending_end f lot) (by_light f.light refl)
  where
    by_light : (t : Bool) → f.light ≡ t → HasLend lot.id (lending_end f lot)
    by_light true is =
        ap (list_any (ends_lending lot.id)) (cond-true f.light (token_steps lot) (turning (turns.Give lot.id) (hart_step full) ∷ []) is) ∙ or_left (ends_lending lot.id (token_step lot)) false (token_lends lot)
    by_light false is =
        ap (list_any (ends_lending lot.id)) (cond-false f.light (token_steps lot) (turning (turns.Give lot.id) (hart_step full) ∷ []) is) ∙ give_lends lot.id (turning (turns.Give lot.id) (hart_step full)) [] refl

-- and so its stay with its hart
pub lend_ends : (f : DriverConfig) (lot : Lot) → HasEnd lot.id (lend_steps f lot)
lend_ends f lot = lend_has_end lot.id (lend_steps f lot) (lend_lends f lot)

-- a full fence that is to come is before the end of the lot's stay
pub full_ends : (id : LotId) (rest : List Step) → HasFull id rest true → HasEnd id rest
full_ends id rest full = elim (cases_Bool (list_any (ends id) rest)) [
  | inl some ↦ some
  | inr none ↦ let n = map_id (record { 0 = 0 }) id 0 in absurd (false≢true (sym (ap (list_any is_full) (steps_ahead.none n id rest none)) ∙ full n))
]

-- the plan of a copy lends both ends
pub copy_lends : (f : DriverConfig) (chan : ChanNo) (config : ℕ) (src dst : Lot) → HasLend src.id (copy_steps f chan config src dst) × HasLend dst.id (copy_steps f chan config src dst)
copy_lends f chan config src dst =
    let lends = claim_step chan ∷ lend_steps f src in
    let both = lends ++ lend_steps f dst in
    let moves = map (copy_step chan) (transfer chan (end_part f src) (end_part f dst) config) in
    let all : (id : LotId) → HasLend id both → HasLend id (copy_steps f chan config src dst) =
    λ id some. lend_before id (both ++ moves ++ back_steps f dst) (back_steps f src) (lend_before id (both ++ moves) (back_steps f dst) (lend_before id both moves some)) in
    (all src.id (lend_before src.id lends (lend_steps f dst) (lend_behind src.id (claim_step chan) (lend_steps f src) (lend_lends f src))), all dst.id (lend_after dst.id lends (lend_steps f dst) (lend_lends f dst)))

-- behind its claim it does so too
pub claim_lends : (f : DriverConfig) (chan : ChanNo) (config : ℕ) (src dst : Lot) (s : Step) (rest : List Step) → s ∷ rest ≡ copy_steps f chan config src dst → HasLend src.id rest × HasLend dst.id rest
claim_lends f chan config src dst s rest steps =
    let both = copy_lends f chan config src dst in
    (next src.id (ap (list_any (ends_lending src.id)) steps ∙ both.0), next dst.id (ap (list_any (ends_lending dst.id)) steps ∙ both.1))
  where
    first_lends : LotId → List Step → Bool
    first_lends id [] = false
    first_lends id (t ∷ ts) = ends_lending id t

    next : (id : LotId) → HasLend id (s ∷ rest) → HasLend id rest
    next id some = sym (ap (λ (b : Bool). b || list_any (ends_lending id) rest) (ap (first_lends id) steps)) ∙ some

-- the plan of a copy ends the stay of its source
pub copy_ends : (f : DriverConfig) (chan : ChanNo) (config : ℕ) (src dst : Lot) → HasEnd src.id (copy_steps f chan config src dst)
copy_ends f chan config src dst = lend_has_end src.id (copy_steps f chan config src dst) (copy_lends f chan config src dst).0

-- a lot that a step's first turn is of has its end to come
pub first_ends : (f : DriverConfig) (lots : List Lot) (s : Step) (rest : List Step) (id : LotId) → StepGoes f lots s rest → turns_lot id s.first ≡ true → HasEnd id (s ∷ rest)
first_ends f lots s rest id (Loads is) on = absurd (false≢true (sym (stay_turns id s.first (ap (λ (t : Step). t.first) is.step)) ∙ on))
first_ends f lots s rest id (Stores is) on = absurd (false≢true (sym (stay_turns id s.first is.first) ∙ on))
first_ends f lots s rest id (WritesBack is) on = absurd (false≢true (sym (stay_turns id s.first (ap (λ (t : Step). t.first) is.step)) ∙ on))
first_ends f lots s rest id (Drops is) on = absurd (false≢true (sym (stay_turns id s.first (ap (λ (t : Step). t.first) is.step)) ∙ on))
first_ends f lots s rest id (Gives is) on = absurd (false≢true (sym (stay_turns id s.first (ap (λ (t : Step). t.first) is.step)) ∙ on))
first_ends f lots s rest id (Fences is) on = absurd (false≢true (sym (stay_turns id s.first (ap (λ (t : Step). t.first) is.step)) ∙ on))
first_ends f lots s rest id (Ends is) on = absurd (false≢true (sym (stay_turns id s.first (ap (λ (t : Step). t.first) is.step)) ∙ on))
first_ends f lots s rest id (Zeroes is) on = absurd (false≢true (sym (stay_turns id s.first (ap (λ (t : Step). t.first) is.step)) ∙ on))
first_ends f lots s rest id (Flushes is) on = absurd (false≢true (sym (stay_turns id s.first (ap (λ (t : Step). t.first) is.step)) ∙ on))
first_ends f lots s rest id (Settles is) on = absurd (false≢true (sym (stay_turns id s.first (ap (λ (t : Step). t.first) is.step)) ∙ on))
first_ends f lots s rest id (GivesArea is) on = absurd (false≢true (sym (stay_turns id s.first (ap (λ (t : Step). t.first) is.step)) ∙ on))
first_ends f lots s rest id (TakesBack is) on = absurd (false≢true (sym (stay_turns id s.first (ap (λ (t : Step). t.first) is.step)) ∙ on))
first_ends f lots s rest id (Marks is) on = absurd (false≢true (sym (stay_turns id s.first (ap (λ (t : Step). t.first) is.step)) ∙ on))
first_ends f lots s rest id (Posts is) on = absurd (false≢true (sym (stay_turns id s.first (ap (λ (t : Step). t.first) is.step)) ∙ on))
first_ends f lots s rest id (Registers is) on = absurd (false≢true (sym (stay_turns id s.first (ap (λ (t : Step). t.first) is.step)) ∙ on))
first_ends f lots s rest id (Polls is) on = absurd (false≢true (sym (stay_turns id s.first (ap (λ (t : Step). t.first) is.step)) ∙ on))
first_ends f lots s rest id (Claims is) on =
    let steps = is.steps in
    let first : s.first ≡ turns.Lend source = ap first_of steps in
    let name : id ≡ is.reads.id = turn_name id source (sym (ap (turns_lot id) first) ∙ on) ∙ sym is.source_is.id_is in
    subst (λ (k : LotId). HasEnd k (s ∷ rest)) (sym name) (subst (λ (r : List Step). HasEnd is.reads.id r) (sym steps) (copy_ends f is.chan is.config is.reads is.writes))
  where
    first_of : List Step → Turn
    first_of [] = turns.Stay
    first_of (t ∷ ts) = t.first
first_ends f lots s rest id (TakesTarget is) on =
    let name : id ≡ is.lot.id = turn_name id is.lot.id (sym (ap (turns_lot id) is.taken.first) ∙ on) in
    let ended = full_ends is.goes.lot.id rest is.goes.ahead in
    behind id s rest (subst (λ (k : LotId). HasEnd k rest) (ap (λ (l : Lot). l.id) is.same ∙ sym name) ended)
first_ends f lots s rest id (TakesSource is) on =
    let name : id ≡ is.lot.id = turn_name id is.lot.id (sym (ap (turns_lot id) is.taken.first) ∙ on) in
    let last : s.last ≡ is.goes.turn = ap (λ (t : Step). t.last) is.goes.step in
    let ended : HasEnd is.goes.lot.id (s ∷ rest) = elim is.goes.is_back [
      | inl sync ↦ by_turn is.goes.lot.id s rest (turns.Sync is.goes.lot.id) (last ∙ sync) (same_id is.goes.lot.id)
      | inr end ↦ by_turn is.goes.lot.id s rest (turns.End is.goes.lot.id) (last ∙ end) (same_id is.goes.lot.id)
    ] in
    subst (λ (k : LotId). HasEnd k (s ∷ rest)) (ap (λ (l : Lot). l.id) is.same ∙ sym name) ended

-- ---- a poll, behind which each token is out of the queue

act_polls : (s t : Step) → s ≡ t → is_poll s.act ≡ true → is_poll t.act ≡ true
act_polls s t is on = sym (ap (λ (k : Step). is_poll k.act) is) ∙ on

pub poll_step : (f : DriverConfig) (lots : List Lot) (s : Step) (rest : List Step) → StepGoes f lots s rest → is_poll s.act ≡ true → IsPoll f lots s rest
poll_step f lots s rest (Polls is) on = is
poll_step f lots s rest (Loads is) on = absurd (false≢true (act_polls s _ is.step on))
poll_step f lots s rest (WritesBack is) on = absurd (false≢true (act_polls s _ is.step on))
poll_step f lots s rest (Drops is) on = absurd (false≢true (act_polls s _ is.step on))
poll_step f lots s rest (Gives is) on = absurd (false≢true (act_polls s _ is.step on))
poll_step f lots s rest (Fences is) on = absurd (false≢true (act_polls s _ is.step on))
poll_step f lots s rest (Ends is) on = absurd (false≢true (act_polls s _ is.step on))
poll_step f lots s rest (Zeroes is) on = absurd (false≢true (act_polls s _ is.step on))
poll_step f lots s rest (Flushes is) on = absurd (false≢true (act_polls s _ is.step on))
poll_step f lots s rest (Settles is) on = absurd (false≢true (act_polls s _ is.step on))
poll_step f lots s rest (GivesArea is) on = absurd (false≢true (act_polls s _ is.step on))
poll_step f lots s rest (TakesBack is) on = absurd (false≢true (act_polls s _ is.step on))
poll_step f lots s rest (Marks is) on = absurd (false≢true (act_polls s _ is.step on))
poll_step f lots s rest (Posts is) on = absurd (false≢true (act_polls s _ is.step on))
poll_step f lots s rest (Registers is) on = absurd (false≢true (act_polls s _ is.step on))
poll_step f lots s rest (Stores is) on = absurd (false≢true (sym (ap is_poll is.act) ∙ on))
poll_step f lots s rest (Claims is) on = absurd (false≢true (sym (ap first_polls is.steps) ∙ on))
  where
    first_polls : List Step → Bool
    first_polls [] = false
    first_polls (t ∷ ts) = is_poll t.act
poll_step f lots s rest (TakesTarget is) on = absurd (false≢true (sym (ap (λ (k : Step). is_poll k.act) is.goes.step) ∙ on))
poll_step f lots s rest (TakesSource is) on = absurd (false≢true (sym (ap (λ (k : Step). is_poll k.act) is.goes.step) ∙ on))

pub lots_unpolled : (a : Act) (lots : List Lot) → is_poll a ≡ false → lots_behind a lots ≡ lots
lots_unpolled (acts.Op op) lots off = refl
lots_unpolled (acts.Claim chan) lots off = refl
lots_unpolled (acts.Take buf) lots off = refl
lots_unpolled (acts.Poll chan) lots off = absurd (false≢true (sym off))

pub lots_polled : (a : Act) (lots : List Lot) → is_poll a ≡ true → lots_behind a lots ≡ map given_now lots
lots_polled (acts.Op op) lots on = absurd (false≢true on)
lots_polled (acts.Claim chan) lots on = absurd (false≢true on)
lots_polled (acts.Take buf) lots on = absurd (false≢true on)
lots_polled (acts.Poll chan) lots on = refl

-- what is left behind a step that is no poll
pub plan_next : (f : DriverConfig) (lots : List Lot) (s : Step) (rest : List Step) → PlanGoes f lots (s ∷ rest) → is_poll s.act ≡ false → PlanGoes f (lots_after_both s.first s.last lots) rest
plan_next f lots s rest goes off = subst (λ (ls : List Lot). PlanGoes f (lots_after_both s.first s.last ls) rest) (lots_unpolled s.act lots off) goes.1

-- where no lot is being lent nothing is given
pub given_same : (lots : List Lot) → All (λ lot. is_lending_side lot.side ≡ false) lots → map given_now lots ≡ lots
given_same [] all = refl
given_same (lot ∷ lots) all =
    ap (λ (l : Lot). l ∷ map given_now lots) (cond-false (is_lending_side lot.side) (record lot { side = sides.Device }) lot (All-head (λ (l : Lot). is_lending_side l.side ≡ false) lot lots all))
    ∙ ap (λ (ls : List Lot). lot ∷ ls) (given_same lots (All-tail (λ (l : Lot). is_lending_side l.side ≡ false) lot lots all))

-- a lot that is not still has its end in the rest
pub ends_later : (f : DriverConfig) (lots : List Lot) (rest : List Step) (lot : Lot) → PlanGoes f lots rest → In lot lots → (IsStill f lot → ⊥) → list_any (ends lot.id) rest ≡ true
ends_later f lots [] lot goes here moves = absurd (moves (all_at (IsStill f) lots lot goes here))
ends_later f lots (s ∷ rest) lot goes here moves = elim (cases_Bool (is_poll s.act)) [
  | inl polls ↦ absurd (moves (all_at (IsStill f) lots lot (poll_step f lots s rest goes.0 polls).still here))
  | inr unpolled ↦ elim (cases_Bool (turns_lot lot.id s.first)) [
    | inl first ↦ first_ends f lots s rest lot.id goes.0 first
    | inr off ↦
        later_by (ends lot.id s) (list_any (ends lot.id) rest) (λ none.
        ends_later f (lots_after_both s.first s.last lots) rest lot (plan_next f lots s rest goes unpolled) (stays_in s.last (lots_after s.first lots) lot (or_parts (turns_lot lot.id s.last) _ none).0 (stays_in s.first lots lot off here)) moves)
  ]
]

-- a lot that is taken back is not still, and one that is lent is so with light fences alone
pub back_moves : (f : DriverConfig) (lot : Lot) → lot.side ≡ sides.Returning → IsStill f lot → ⊥
back_moves f lot is (StillDevice side) = let both = sym side ∙ is in absurd (cc)
back_moves f lot is (StillSynced side kind) = let both = sym side ∙ is in absurd (cc)
back_moves f lot is (StillOwn side kind) = let both = sym side ∙ is in absurd (cc)
back_moves f lot is (StillSent side light) = let both = sym side ∙ is in absurd (cc)

pub lend_light : (f : DriverConfig) (lot : Lot) → lot.side ≡ sides.Lending → IsStill f lot → f.light ≡ true
lend_light f lot is (StillDevice side) = let both = sym side ∙ is in absurd (cc)
lend_light f lot is (StillSynced side kind) = let both = sym side ∙ is in absurd (cc)
lend_light f lot is (StillOwn side kind) = let both = sym side ∙ is in absurd (cc)
lend_light f lot is (StillSent side light) = light

pub lend_moves : (f : DriverConfig) (lot : Lot) → lot.side ≡ sides.Lending → f.light ≡ false → IsStill f lot → ⊥
lend_moves f lot is full still = false≢true (sym full ∙ lend_light f lot is still)

-- ---- what a rest ends

-- of two names it ends the stay of both where they are those of a copy
pub ends_two : (steps : List Step) (a b : LotId) → EndsOne steps → HasEnd a steps → HasEnd b steps → a ≢ b → IsEndName a × IsEndName b
ends_two steps a b one ended too other = elim (one a b ended too) [
  | inl same ↦ absurd (other same)
  | inr both ↦ both
]

-- ---- a store of a last load's bytes

-- the step that comes next is one, of a piece
pub record IsNextStore (f : DriverConfig) (lots : List Lot) (span : Span) : Type 0 where
  pub step : Step
  pub rest : List Step
  pub is : IsStore f lots step rest
  pub span_is : span ≡ moved is.from.at is.to.at is.span

none_some : {A : Type 0} (o : Option A) (a : A) → o ≡ None → o ≡ Some a → ⊥
none_some o a none some = let both = sym none ∙ some in absurd (cc)

store_of : (f : DriverConfig) (lots : List Lot) (s : Step) (rest : List Step) (span : Span) → StepGoes f lots s rest → act_last s.act ≡ Some span → IsNextStore f lots span
store_of f lots s rest span (Loads is) e = absurd (none_some (act_last s.act) span (ap (λ (t : Step). act_last t.act) is.step) e)
store_of f lots s rest span (Stores is) e =
    record { step = s; rest = rest; is = is; span_is = same_some span (moved is.from.at is.to.at is.span) (sym e ∙ ap act_last is.act) }
store_of f lots s rest span (WritesBack is) e = absurd (none_some (act_last s.act) span (ap (λ (t : Step). act_last t.act) is.step) e)
store_of f lots s rest span (Drops is) e = absurd (none_some (act_last s.act) span (ap (λ (t : Step). act_last t.act) is.step) e)
store_of f lots s rest span (Gives is) e = absurd (none_some (act_last s.act) span (ap (λ (t : Step). act_last t.act) is.step) e)
store_of f lots s rest span (Fences is) e = absurd (none_some (act_last s.act) span (ap (λ (t : Step). act_last t.act) is.step) e)
store_of f lots s rest span (Ends is) e = absurd (none_some (act_last s.act) span (ap (λ (t : Step). act_last t.act) is.step) e)
store_of f lots s rest span (Zeroes is) e = absurd (none_some (act_last s.act) span (ap (λ (t : Step). act_last t.act) is.step) e)
store_of f lots s rest span (Flushes is) e = absurd (none_some (act_last s.act) span (ap (λ (t : Step). act_last t.act) is.step) e)
store_of f lots s rest span (Settles is) e = absurd (none_some (act_last s.act) span (ap (λ (t : Step). act_last t.act) is.step) e)
store_of f lots s rest span (GivesArea is) e = absurd (none_some (act_last s.act) span (ap (λ (t : Step). act_last t.act) is.step) e)
store_of f lots s rest span (TakesBack is) e = absurd (none_some (act_last s.act) span (ap (λ (t : Step). act_last t.act) is.step) e)
store_of f lots s rest span (Marks is) e = absurd (none_some (act_last s.act) span (ap (λ (t : Step). act_last t.act) is.step) e)
store_of f lots s rest span (Posts is) e = absurd (none_some (act_last s.act) span (ap (λ (t : Step). act_last t.act) is.step) e)
store_of f lots s rest span (Claims is) e = absurd (none_some (act_last s.act) span (ap rest_last is.steps) e)
store_of f lots s rest span (Registers is) e = absurd (none_some (act_last s.act) span (ap (λ (t : Step). act_last t.act) is.step) e)
store_of f lots s rest span (Polls is) e = absurd (none_some (act_last s.act) span (ap (λ (t : Step). act_last t.act) is.step) e)
store_of f lots s rest span (TakesTarget is) e = absurd (none_some (act_last s.act) span (ap (λ (t : Step). act_last t.act) is.goes.step) e)
store_of f lots s rest span (TakesSource is) e = absurd (none_some (act_last s.act) span (ap (λ (t : Step). act_last t.act) is.goes.step) e)

goes_store : (f : DriverConfig) (lots : List Lot) (rest : List Step) (span : Span) → PlanGoes f lots rest → rest_last rest ≡ Some span → IsNextStore f lots span
goes_store f lots [] span goes e = absurd (cc)
goes_store f lots (s ∷ rest) span goes e = store_of f lots s rest span goes.0 e

hand_last : (d : DriverState) (buf : ℕ) (to : HartNo) → IsHanding d buf to → rest_last d.rest ≡ None
hand_last d buf to is = elim is.left [
  | inl e ↦ ap rest_last e
  | inr e ↦ ap rest_last e
]

op_store : (d : DriverState) (o : Op) (span : Span) → PlanIs d o → rest_last d.rest ≡ Some span → IsNextStore d.fixed d.lots span
op_store d (ops.Hand buf to) span is e = absurd (none_some (rest_last d.rest) span (hand_last d buf to is) e)
op_store d (ops.Map label buf off len dir chan) span is e = goes_store d.fixed d.lots d.rest span is.goes e
op_store d (ops.Unmap label) span is e = goes_store d.fixed d.lots d.rest span is.goes e
op_store d (ops.ToCpu label) span is e = goes_store d.fixed d.lots d.rest span is.goes e
op_store d (ops.ToDev label) span is e = goes_store d.fixed d.lots d.rest span is.goes e
op_store d (ops.MapSg label entries dir chan) span is e = goes_store d.fixed d.lots d.rest span is.goes e
op_store d (ops.UnmapSg label count) span is e = goes_store d.fixed d.lots d.rest span is.goes e
op_store d (ops.Ld spot off len) span is e = absurd is
op_store d (ops.St spot off bytes) span is e = absurd is
op_store d (ops.Cbo op buf off) span is e = absurd is
op_store d (ops.Fence pred succ) span is e = absurd is
op_store d (ops.Take buf) span is e = absurd is
op_store d (ops.Claim chan) span is e = absurd is
op_store d (ops.Free chan) span is e = absurd is
op_store d (ops.Regs chan src dst len cfg) span is e = absurd is
op_store d (ops.Run chan) span is e = absurd is
op_store d (ops.Poll chan) span is e = absurd is
op_store d (ops.Regr chan off width) span is e = absurd is
op_store d (ops.Regw chan off width value) span is e = absurd is
op_store d (ops.Calloc label pages chan) span is e = goes_store d.fixed d.lots d.rest span is.goes e
op_store d (ops.Cgive label) span is e = goes_store d.fixed d.lots d.rest span is.goes e
op_store d (ops.Ctake label) span is e = goes_store d.fixed d.lots d.rest span is.goes e
op_store d (ops.Cfree label) span is e = goes_store d.fixed d.lots d.rest span is.goes e
op_store d (ops.Copy chan src src_off dst dst_off len cfg) span is e = goes_store d.fixed d.lots d.rest span is.goes e

hand_store : (d : DriverState) (o : Option Op) (span : Span) → PlanOf d o → rest_last d.rest ≡ Some span → IsNextStore d.fixed d.lots span
hand_store d None span is e = absurd is
hand_store d (Some o) span is e = op_store d o span is e

phase_store : (d : DriverState) (p : Phase) (span : Span) → StandsAt d p → RestAt p d.rest → rest_last d.rest ≡ Some span → IsNextStore d.fixed d.lots span
phase_store d (Steps n) span is none e = absurd (none_some (rest_last d.rest) span (ap rest_last none) e)
phase_store d (Search k) span is none e = absurd (none_some (rest_last d.rest) span (ap rest_last none) e)
phase_store d Work span is none e = hand_store d (in_hand d) span is e

pub next_store : (d : DriverState) (span : Span) → Drives d → rest_last d.rest ≡ Some span → IsNextStore d.fixed d.lots span
next_store d span is e = phase_store d d.phase span is.stands is.idle e

-- ---- a rest that ends the stay of a lot

-- is of a plan that lends or takes back
pub record IsAtPlan (d : DriverState) : Type 0 where
  pub phase : d.phase ≡ Work
  pub left : PlanLeft d

hand_ends : (d : DriverState) (id : LotId) (buf : ℕ) (to : HartNo) → IsHanding d buf to → list_any (ends id) d.rest ≡ false
hand_ends d id buf to is = elim is.left [
  | inl e ↦ ap (list_any (ends id)) e
  | inr e ↦ ap (list_any (ends id)) e
]

op_left : (d : DriverState) (o : Op) (id : LotId) → PlanIs d o → HasEnd id d.rest → PlanLeft d
op_left d (ops.Hand buf to) id is e = absurd (false≢true (sym (hand_ends d id buf to is) ∙ e))
op_left d (ops.Map label buf off len dir chan) id is e = is
op_left d (ops.Unmap label) id is e = is
op_left d (ops.ToCpu label) id is e = is
op_left d (ops.ToDev label) id is e = is
op_left d (ops.MapSg label entries dir chan) id is e = is
op_left d (ops.UnmapSg label count) id is e = is
op_left d (ops.Calloc label pages chan) id is e = is
op_left d (ops.Cgive label) id is e = is
op_left d (ops.Ctake label) id is e = is
op_left d (ops.Cfree label) id is e = is
op_left d (ops.Ld spot off len) id is e = absurd is
op_left d (ops.St spot off bytes) id is e = absurd is
op_left d (ops.Cbo op buf off) id is e = absurd is
op_left d (ops.Fence pred succ) id is e = absurd is
op_left d (ops.Take buf) id is e = absurd is
op_left d (ops.Claim chan) id is e = absurd is
op_left d (ops.Free chan) id is e = absurd is
op_left d (ops.Regs chan src dst len cfg) id is e = absurd is
op_left d (ops.Run chan) id is e = absurd is
op_left d (ops.Poll chan) id is e = absurd is
op_left d (ops.Regr chan off width) id is e = absurd is
op_left d (ops.Regw chan off width value) id is e = absurd is
op_left d (ops.Copy chan src src_off dst dst_off len cfg) id is e = is

plan_of : (d : DriverState) (o : Option Op) (id : LotId) → PlanOf d o → HasEnd id d.rest → PlanLeft d
plan_of d None id is e = absurd is
plan_of d (Some o) id is e = op_left d o id is e

phase_plan : (d : DriverState) (p : Phase) (id : LotId) → d.phase ≡ p → StandsAt d p → RestAt p d.rest → HasEnd id d.rest → IsAtPlan d
phase_plan d (Steps n) id at is none e = absurd (false≢true (sym (ap (list_any (ends id)) none) ∙ e))
phase_plan d (Search k) id at is none e = absurd (false≢true (sym (ap (list_any (ends id)) none) ∙ e))
phase_plan d Work id at is none e = record { phase = at; left = plan_of d (in_hand d) id is e }

pub at_plan : (d : DriverState) (id : LotId) → Drives d → HasEnd id d.rest → IsAtPlan d
at_plan d id is e = phase_plan d d.phase id refl is.stands is.idle e

-- a hart that is not there has none
pub no_rest : (w : WorldState) (h : ℕ) → length w.drivers ≤ h → (driver_of w h).rest ≡ []
no_rest w h past = ap (λ (d : DriverState). d.rest) (get_or_past w.drivers h no_driver past)
