-- The last steps of a plan: a full fence that makes the turn of a lot, or, where a lot is lent with light fences, a marker
-- and its token.
use Rattle.std.specs.Prelude.{Some, None, ◌==◌, ◌&&◌, ◌||◌, Bool, true, false, if◌then◌else◌}
use Rattle.std.specs.List.{list_any, find}
use Rattle.std.proofs.Common.{◌≡◌, ℕ, List, [], ◌∷◌, ◌++◌, refl, sym, ap, ◌∙◌, inl, subst}
use Rattle.std.proofs.lemmas.Bool.{and_from, and_parts, eq-eqb, eqb-true, or_left, false≢true, cond-true}
use Rattle.nc_num.specs.declared.names.MapId.{MapId}
use Rattle.nc_queue.specs.Entries.{is_wo}
use Rattle.nc_queue.specs.Laws.{Stands}
use Rattle.nc_queue.specs.declared.entry.Entry.{Entry as QueueEntry}
use Rattle.nc_queue.specs.declared.entry.Entry.TheVariants as entries
use Rattle.nc_lines.specs.Lines.{gives_at}
use Rattle.nc_hart.specs.Issue.{marker}
use Rattle.nc_plan.specs.Plans.{full}
use Rattle.nc_plan.specs.declared.ops.HartOp.{HartOp}
use Rattle.nc_plan.specs.declared.ops.HartOp.TheVariants as hart
use Rattle.nc_rules.specs.declared.lots.Lot.{Lot}
use Rattle.nc_rules.specs.declared.lots.LotId.{LotId}
use Rattle.nc_rules.specs.declared.lots.Side.TheVariants as sides
use Rattle.nc_rules.specs.declared.steps.Act.TheVariants as acts
use Rattle.nc_rules.specs.declared.steps.Turn.{Turn}
use Rattle.nc_rules.specs.declared.steps.Turn.TheVariants as turns
use Rattle.nc_rules.specs.Areas.{fenced}
use Rattle.nc_rules.specs.Lots.{DriverConfig}
use Rattle.nc_rules.specs.Plans.{hart_step, turning, token_steps, lending_end}
use Rattle.nc_rules.specs.Turns.{is_area}
use Rattle.nc_rules.specs.declared.steps.Step.{Step}
use Rattle.nc_rows.specs.Ahead.{same_lot, turns_lot, gives_lot, settles_lot, tokens_lot, stores_io, is_settling, ends, names, token, settling, coming}
use Rattle.nc_rows.proofs.Steps.{next, last}
use Rattle.nc_flatness.specs.Plans.{IsStill, IsInHand, HasLend, token_step, Gives, GivesArea, Marks, Posts, PlanGoes}
use Rattle.nc_flatness.specs.Tokens.{lot_token, ends_lending}
use Rattle.nc_flatness.proofs.plans.Rests.{by_token, token_lends, give_lends}
use Rattle.nc_flat_starts.proofs.going.PlanComes.{EndsOnly}
use Rattle.nc_flat_starts.proofs.going.PlanOps.{IsPlan, same_id}
use Rattle.nc_flat_starts.proofs.turning.Sides.{Others, NamesLent, given_still, sent_still}

-- ---- a step with a turn of the lot

abbrev pub EndsIn : LotId → Turn → Type 0
EndsIn id turn = turns_lot id turn ≡ true

turn_alone : (id : LotId) (turn : Turn) → EndsIn id turn → ends id (turning turn (hart_step full)) ≡ true
turn_alone id turn is = or_left (turns_lot id turn) false is

pub alone_ends : (id : LotId) (turn : Turn) → EndsIn id turn → list_any (ends id) (fenced turn) ≡ true
alone_ends id turn is = or_left (ends id (turning turn (hart_step full))) false (turn_alone id turn is)

pub alone_settles : (id : LotId) (turn : Turn) → EndsIn id turn → settling id (fenced turn) ≡ settles_lot id turn
alone_settles id turn is = ap (is_settling id) (cond-true (ends id (turning turn (hart_step full))) (Some (turning turn (hart_step full))) (find (ends id) []) (turn_alone id turn is))

pub alone_comes : (n : MapId) (id : LotId) (turn : Turn) → EndsIn id turn → coming n id (fenced turn) ≡ entries.Mark 15 15 ∷ (if gives_lot id turn then token n ∷ [] else [])
alone_comes n id turn is = last n id (turning turn (hart_step full)) [] (turn_alone id turn is)

first_so : (a b : Bool) → b ≡ false → ((a || b) || false) ≡ true → a ≡ true
first_so true b off is = refl
first_so false true off is = absurd (false≢true (sym off))
first_so false false off is = is

some_so : (a : Bool) → (a || false) ≡ true → a ≡ true
some_so true is = refl
some_so false is = is

-- the turn is of this lot alone
pub only_turn : (id : LotId) (turn : Turn) (o : HartOp) → ((b : LotId) → turns_lot b turn ≡ same_lot b id) → ((b : LotId) → stores_io (tokens_lot b) (acts.Op o) ≡ false) → EndsOnly id (turning turn (hart_step o) ∷ [])
only_turn id turn o turns off b ended = sym (turns b) ∙ first_so (turns_lot b turn) (stores_io (tokens_lot b) (acts.Op o)) (off b) ended

-- ---- a marker and the token

-- with more behind them
pub token_lent : (lot : Lot) (more : List Step) → HasLend lot.id (token_steps lot ++ more)
token_lent lot more = or_left (ends_lending lot.id (token_step lot)) (list_any (ends_lending lot.id) more) (token_lends lot)

token_ended : (lot : Lot) → list_any (ends lot.id) (token_steps lot) ≡ true
token_ended lot = or_left (ends lot.id (token_step lot)) false (by_token lot)

token_only : (lot : Lot) → EndsOnly lot.id (token_steps lot)
token_only lot b ended =
    let is : (lot.id.label.0 == b.label.0 && lot.id.first == b.first) ≡ true = some_so (lot.id.label.0 == b.label.0 && lot.id.first == b.first) ended in
    let both = and_parts (lot.id.label.0 == b.label.0) (lot.id.first == b.first) is in
    and_from (b.label.0 == lot.id.label.0) (b.first == lot.id.first) (eq-eqb b.label.0 lot.id.label.0 (sym (eqb-true lot.id.label.0 b.label.0 both.0))) (eq-eqb b.first lot.id.first (sym (eqb-true lot.id.first b.first both.1)))

token_comes : (lot : Lot) (n : MapId) → coming n lot.id (token_steps lot) ≡ marker 1 4 ∷ lot_token lot ∷ []
token_comes lot n = next n lot.id (hart_step (hart.Mark 1 4)) (token_step lot ∷ []) refl (token_ended lot) ∙ ap (λ (es : List QueueEntry). marker 1 4 ∷ es) (last n lot.id (token_step lot) [] (by_token lot))

token_goes : (f : DriverConfig) (lots : List Lot) (lot : Lot) (area : Bool) → IsInHand f lots lot area sides.Lending → Others (IsStill f) lot.id lots → f.light ≡ true → NamesLent lot.id lots → PlanGoes f lots (token_steps lot)
token_goes f lots lot area hand others light named =
    let its : IsInHand f lots lot (is_area lot.kind) sides.Lending = record { here = hand.here; area_is = refl; side_is = hand.side_is; others = hand.others } in
    (Marks (record { lot = lot; hand = its; light = light; step = refl; more = []; left = refl }), (Posts (record { lot = lot; hand = its; light = light; step = refl; lent = refl; next = refl; quiet = record { bytes = λ i e y there on n. refl; blocks = λ comes i e y there on n. refl }; over = λ area. refl }), sent_still f lot.id lots light named others))

-- ---- the end of a lending

-- it ends the stay of no other lot
pub lending_only : (f : DriverConfig) (lot : Lot) → EndsOnly lot.id (lending_end f lot)
lending_only f lot = by f.light
  where
    by : (t : Bool) → EndsOnly lot.id (if t then token_steps lot else fenced (turns.Give lot.id))
    by true = token_only lot
    by false = only_turn lot.id (turns.Give lot.id) full (λ b. refl) (λ b. refl)

pub record LendingEnd (f : DriverConfig) (lots : List Lot) (lot : Lot) (steps : List Step) : Type 0 where
  pub goes : PlanGoes f lots steps
  pub plan : IsPlan lot.id steps
  pub lends : HasLend lot.id steps
  pub settles : settling lot.id steps ≡ false
  pub byte : (s x : ℕ) (n : MapId) → list_any (gives_at s x) (coming n lot.id steps) ≡ false
  pub stands : (n : MapId) → Stands is_wo (names n) (coming n lot.id steps)

give_goes : (f : DriverConfig) (lots : List Lot) (lot : Lot) (area : Bool) → IsInHand f lots lot area sides.Lending → Others (IsStill f) lot.id lots → PlanGoes f lots (fenced (turns.Give lot.id))
give_goes f lots lot false hand others = (Gives (record { lot = lot; hand = hand; step = refl; next = refl }), given_still f lot.id lots others)
give_goes f lots lot true hand others = (GivesArea (record { lot = lot; hand = hand; step = refl; over = refl }), given_still f lot.id lots others)

pub fence_byte : (s x : ℕ) (n : MapId) (t : Bool) → list_any (gives_at s x) (entries.Mark 15 15 ∷ (if t then token n ∷ [] else [])) ≡ false
fence_byte s x n true = refl
fence_byte s x n false = refl

full_end : (f : DriverConfig) (lots : List Lot) (lot : Lot) (area : Bool) → IsInHand f lots lot area sides.Lending → Others (IsStill f) lot.id lots → LendingEnd f lots lot (fenced (turns.Give lot.id))
full_end f lots lot area hand others =
    let id = lot.id in
    let turn = turns.Give id in
    record {
      goes = give_goes f lots lot area hand others;
      plan = record { ended = alone_ends id turn (same_id id); only = only_turn id turn full (λ b. refl) (λ b. refl); silent = λ b. refl; first = refl };
      lends = give_lends id (turning turn (hart_step full)) [] refl;
      settles = alone_settles id turn (same_id id);
      byte = λ s x n. ap (list_any (gives_at s x)) (alone_comes n id turn (same_id id)) ∙ fence_byte s x n (gives_lot id turn);
      stands = λ n. subst (λ (es : List QueueEntry). Stands is_wo (names n) es) (sym (alone_comes n id turn (same_id id))) (inl refl);
    }

token_end : (f : DriverConfig) (lots : List Lot) (lot : Lot) (area : Bool) → IsInHand f lots lot area sides.Lending → Others (IsStill f) lot.id lots → f.light ≡ true → NamesLent lot.id lots → LendingEnd f lots lot (token_steps lot)
token_end f lots lot area hand others light named = record {
  goes = token_goes f lots lot area hand others light named;
  plan = record { ended = token_ended lot; only = token_only lot; silent = λ b. refl; first = refl };
  lends = token_lent lot [];
  settles = ap (is_settling lot.id) (cond-true (ends lot.id (token_step lot)) (Some (token_step lot)) None (by_token lot));
  byte = λ s x n. ap (list_any (gives_at s x)) (token_comes lot n);
  stands = λ n. subst (λ (es : List QueueEntry). Stands is_wo (names n) es) (sym (token_comes lot n)) (inl refl);
}

pub lending_end_so : (f : DriverConfig) (lots : List Lot) (lot : Lot) (area : Bool) → IsInHand f lots lot area sides.Lending → Others (IsStill f) lot.id lots → NamesLent lot.id lots → LendingEnd f lots lot (lending_end f lot)
lending_end_so f lots lot area hand others named = by_light f.light refl
  where
    by_light : (t : Bool) → f.light ≡ t → LendingEnd f lots lot (if t then token_steps lot else fenced (turns.Give lot.id))
    by_light true light = token_end f lots lot area hand others light named
    by_light false light = full_end f lots lot area hand others
