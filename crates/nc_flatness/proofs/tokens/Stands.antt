-- How the tokens of lots stand as their hart goes on: behind a turn, behind the step that queues one, and behind the drain of
-- one.
use Rattle.std.proofs.Common.{◌≡◌, ℕ, Bool, true, false, List, [], ◌∷◌, ◌++◌, refl, sym, ap, ◌∙◌, inl, inr, subst, Some}
use Rattle.std.specs.Prelude.{◌==◌, ◌&&◌, ◌||◌, not, if◌then◌else◌, All, filter, remove, slice_get}
use Rattle.std.specs.List.{list_any}
use Rattle.std.proofs.lemmas.Bool.{and_parts, and_from, or_left, cond-true, cond-false, eqb-true, eq-eqb, false_from_ne_true, false≢true}
use Rattle.nc_plan.specs.Plans.{In}
use Rattle.nc_queue.specs.declared.entry.Entry.{Entry}
use Rattle.nc_queue.specs.declared.entry.Entry.TheVariants as entries
use Rattle.nc_queue.proofs.TestLaws.{filter-push}
use Rattle.nc_rules.specs.declared.lots.Lot.{Lot}
use Rattle.nc_rules.specs.declared.lots.LotId.{LotId}
use Rattle.nc_rules.specs.declared.lots.Side.{Side}
use Rattle.nc_rules.specs.declared.lots.Side.TheVariants as sides
use Rattle.nc_rules.specs.declared.steps.Step.{Step}
use Rattle.nc_rules.specs.declared.steps.Turn.{Turn}
use Rattle.nc_rules.specs.declared.steps.Turn.TheVariants as turns
use Rattle.nc_rules.specs.Lots.{DriverConfig, is_lot, lot_id}
use Rattle.nc_rules.specs.Turns.{set_side, lots_after}
use Rattle.nc_scripts.specs.Drivers.{AreApart}
use Rattle.nc_scripts.proofs.Lists.{all_in, all_to, all_filtered}
use Rattle.nc_scripts.proofs.LotLaws.{its_name}
use Rattle.nc_holds.specs.Tokens.{token_of}
use Rattle.nc_holds.proofs.lists.Members.{all_at, at_get}
use Rattle.nc_holds.proofs.owners.Lots.{same_named}
use Rattle.nc_rows.specs.Ahead.{same_lot, turns_lot}
use Rattle.nc_flatness.specs.Plans.{IsStill, HasLend, token_step}
use Rattle.nc_flatness.specs.Tokens.{lot_token, is_lot_token, is_lending_side, ends_lending, is_sent, TokenStands}
use Rattle.nc_flatness.proofs.tokens.Tokens.{sent_side, lent_sent, ended_unsent, unlent_unsent, queued_sent, sent_queued, push_stands, pass_stands, filter_gone}
use Rattle.nc_flatness.proofs.plans.Rests.{same_id, lend_light}
use Rattle.nc_flatness.proofs.tokens.Lents.{all_sided, lent, AreLending}

-- a lot of another side, by another rest and queue
pub stands_by : (rest more : List Step) (q r : List Entry) (lot : Lot) (side : Side) → filter (is_lot_token lot.id) r ≡ filter (is_lot_token lot.id) q → is_sent more (record lot { side = side }) ≡ is_sent rest lot → TokenStands rest q lot
    → TokenStands more r (record lot { side = side })
stands_by rest more q r lot side same sent stands = same ∙ stands ∙ ap (λ (t : Bool). if t then lot_token lot ∷ [] else []) (sym sent)

none_filtered : {X : Type 0} (p : X → Bool) (xs : List X) → ((x : X) → In x xs → p x ≡ false) → filter p xs ≡ []
none_filtered p [] none = refl
none_filtered p (x ∷ xs) none = cond-false (p x) (x ∷ filter p xs) (filter p xs) (none x (inl refl)) ∙ none_filtered p xs (λ y here. none y (inr here))

-- a lot that is not sent, of which no token is queued
pub none_stands : (rest : List Step) (q : List Entry) (lot : Lot) → ((e : Entry) → In e q → is_lot_token lot.id e ≡ false) → is_sent rest lot ≡ false → TokenStands rest q lot
none_stands rest q lot none off = none_filtered (is_lot_token lot.id) q none ∙ sym (cond-false (is_sent rest lot) (lot_token lot ∷ []) [] off)

-- ---- a turn

-- the lot as it stands before a turn: one that the turn is of is not sent
pub record BeforeTurn (t : Turn) (rest : List Step) (q : List Entry) (lot : Lot) : Type 0 where
  pub stands : TokenStands rest q lot
  pub turned : turns_lot lot.id t ≡ true → is_sent rest lot ≡ false

-- what the turn leaves: the same tokens; no other lot is sent that was not, or not any more that was; and the rest is
-- still to lend one that it begins to
pub record TurnKeeps (t : Turn) (rest more : List Step) (q r : List Entry) : Type 0 where
  pub tokens : (id : LotId) → filter (is_lot_token id) r ≡ filter (is_lot_token id) q
  pub others : (id : LotId) → turns_lot id t ≡ false → list_any (ends_lending id) more ≡ list_any (ends_lending id) rest
  pub lends : (id : LotId) → t ≡ turns.Lend id → HasLend id more

kept_stands : (t : Turn) (rest more : List Step) (q r : List Entry) (lot : Lot) → TurnKeeps t rest more q r → BeforeTurn t rest q lot → turns_lot lot.id t ≡ false → TokenStands more r lot
kept_stands t rest more q r lot keeps before off = stands_by rest more q r lot lot.side (keeps.tokens lot.id) (ap (λ (b : Bool). is_lending_side lot.side && not b) (keeps.others lot.id off)) before.stands

side_stands : (side : Side) (to : LotId) (t : Turn) (rest more : List Step) (q r : List Entry) (lots : List Lot) → ((id : LotId) → turns_lot id t ≡ same_lot id to) → ((lot : Lot) → is_lot to lot ≡ true → is_sent more (record lot { side = side }) ≡ false)
    → TurnKeeps t rest more q r → All (BeforeTurn t rest q) lots → All (TokenStands more r) (set_side side to lots)
side_stands side to t rest more q r lots same off keeps all =
    all_sided (BeforeTurn t rest q) (TokenStands more r) side to lots all
    (λ lot before hit. stands_by rest more q r lot side (keeps.tokens lot.id) (off lot hit ∙ sym (before.turned (same lot.id ∙ hit))) before.stands)
    (λ lot before miss. kept_stands t rest more q r lot keeps before (same lot.id ∙ miss))

unlent_side : (side : Side) (more : List Step) → is_lending_side side ≡ false → (lot : Lot) → is_sent more (record lot { side = side }) ≡ false
unlent_side side more off lot = unlent_unsent more (record lot { side = side }) off

named_end : (to : LotId) (more : List Step) (lot : Lot) → HasLend to more → is_lot to lot ≡ true → HasLend lot.id more
named_end to more lot ended is =
    let both = and_parts (lot.id.label.0 == to.label.0) (lot.id.first == to.first) is in
    let label : lot.id.label.0 ≡ to.label.0 = eqb-true lot.id.label.0 to.label.0 both.0 in
    let first : lot.id.first ≡ to.first = eqb-true lot.id.first to.first both.1 in
    let id : lot.id ≡ to = λ i. record { label = record { 0 = label i }; first = first i } in
    subst (λ (k : LotId). HasLend k more) (sym id) ended

pub turn_stands : (t : Turn) (rest more : List Step) (q r : List Entry) (lots : List Lot) → TurnKeeps t rest more q r → All (BeforeTurn t rest q) lots → All (TokenStands more r) (lots_after t lots)
turn_stands turns.Stay rest more q r lots keeps all = all_to (BeforeTurn turns.Stay rest q) (TokenStands more r) lots all (λ lot before. kept_stands turns.Stay rest more q r lot keeps before refl)
turn_stands (turns.Pass range to) rest more q r lots keeps all = all_to (BeforeTurn (turns.Pass range to) rest q) (TokenStands more r) lots all (λ lot before. kept_stands (turns.Pass range to) rest more q r lot keeps before refl)
turn_stands (turns.Own range) rest more q r lots keeps all = all_to (BeforeTurn (turns.Own range) rest q) (TokenStands more r) lots all (λ lot before. kept_stands (turns.Own range) rest more q r lot keeps before refl)
turn_stands (turns.Lend to) rest more q r lots keeps all =
    side_stands sides.Lending to (turns.Lend to) rest more q r lots (λ id. refl) (λ lot hit. ended_unsent more (record lot { side = sides.Lending }) (named_end to more lot (keeps.lends to refl) hit)) keeps all
turn_stands (turns.Give to) rest more q r lots keeps all = side_stands sides.Device to (turns.Give to) rest more q r lots (λ id. refl) (λ lot hit. unlent_side sides.Device more refl lot) keeps all
turn_stands (turns.Return to) rest more q r lots keeps all = side_stands sides.Returning to (turns.Return to) rest more q r lots (λ id. refl) (λ lot hit. unlent_side sides.Returning more refl lot) keeps all
turn_stands (turns.Sync to) rest more q r lots keeps all = side_stands sides.Synced to (turns.Sync to) rest more q r lots (λ id. refl) (λ lot hit. unlent_side sides.Synced more refl lot) keeps all
turn_stands (turns.Settle to) rest more q r lots keeps all = side_stands sides.Own to (turns.Settle to) rest more q r lots (λ id. refl) (λ lot hit. unlent_side sides.Own more refl lot) keeps all
turn_stands (turns.End to) rest more q r lots keeps all =
    all_filtered (BeforeTurn (turns.End to) rest q) (TokenStands more r) (λ lot. not (is_lot to lot)) lots all
    (λ lot before stays. kept_stands (turns.End to) rest more q r lot keeps before (not_true (is_lot to lot) stays))
  where
    not_true : (b : Bool) → not b ≡ true → b ≡ false
    not_true true e = absurd (false≢true e)
    not_true false e = refl

-- ---- a token is queued

its_token : (lot other : Lot) → is_lot_token other.id (lot_token lot) ≡ is_lot lot.id other
its_token lot other = both_by (is_lot lot.id other) refl
  where
    both_by : (t : Bool) → is_lot lot.id other ≡ t → is_lot_token other.id (lot_token lot) ≡ t
    both_by true is =
        let both = and_parts (other.id.label.0 == lot.id.label.0) (other.id.first == lot.id.first) is in
        and_from (lot.id.label.0 == other.id.label.0) (lot.id.first == other.id.first)
        (eq-eqb lot.id.label.0 other.id.label.0 (sym (eqb-true other.id.label.0 lot.id.label.0 both.0))) (eq-eqb lot.id.first other.id.first (sym (eqb-true other.id.first lot.id.first both.1)))
    both_by false off =
        false_from_ne_true (is_lot_token other.id (lot_token lot))
        (λ is.
        let both = and_parts (lot.id.label.0 == other.id.label.0) (lot.id.first == other.id.first) is in
        false≢true
        (sym off
        ∙ and_from (other.id.label.0 == lot.id.label.0) (other.id.first == lot.id.first) (eq-eqb other.id.label.0 lot.id.label.0 (sym (eqb-true lot.id.label.0 other.id.label.0 both.0)))
        (eq-eqb other.id.first lot.id.first (sym (eqb-true lot.id.first other.id.first both.1)))))

post_by : (lot other : Lot) (more : List Step) (q : List Entry) (t : Bool) → is_lot lot.id other ≡ t → (t ≡ true → other ≡ lot) → lot.side ≡ sides.Lending → list_any (ends_lending lot.id) more ≡ false → TokenStands (token_step lot ∷ more) q other
    → TokenStands more (q ++ lot_token lot ∷ []) other
post_by lot other more q false miss same side lent stands =
    let none : ends_lending other.id (token_step lot) ≡ false = its_token lot other ∙ miss in
    let sent : is_sent more other ≡ is_sent (token_step lot ∷ more) other = ap (λ (b : Bool). is_lending_side other.side && not (b || list_any (ends_lending other.id) more)) (sym none) in
    stands_by (token_step lot ∷ more) more (q ++ lot_token lot ∷ []) (q ++ lot_token lot ∷ []) other other.side refl sent (push_stands (token_step lot ∷ more) q (lot_token lot) other (its_token lot other ∙ miss) stands)
post_by lot other more q true hit same side lent stands =
    let its = its_token lot other ∙ hit in
    let lends : HasLend other.id (token_step lot ∷ more) = or_left (ends_lending other.id (token_step lot)) (list_any (ends_lending other.id) more) its in
    let none : filter (is_lot_token other.id) q ≡ [] = stands ∙ cond-false (is_sent (token_step lot ∷ more) other) (lot_token other ∷ []) [] (ended_unsent (token_step lot ∷ more) other lends) in
    let sent : is_sent more other ≡ true = lent_sent more other (ap (λ (l : Lot). l.side) (same refl) ∙ side) (ap (λ (l : Lot). list_any (ends_lending l.id) more) (same refl) ∙ lent) in
    filter-push (is_lot_token other.id) q (lot_token lot) its ∙ ap (λ (es : List Entry). es ++ lot_token lot ∷ []) none ∙ ap (λ (l : Lot). lot_token l ∷ []) (sym (same refl))
    ∙ sym (cond-true (is_sent more other) (lot_token other ∷ []) [] sent)

-- the step that queues the token of a lot is its last that lends it
pub post_stands : (lots : List Lot) (lot : Lot) (more : List Step) (q : List Entry) → AreApart lots → In lot lots → lot.side ≡ sides.Lending → list_any (ends_lending lot.id) more ≡ false → All (TokenStands (token_step lot ∷ more) q) lots → All (TokenStands more (q ++ lot_token lot ∷ [])) lots
post_stands lots lot more q apart here side lent all =
    all_in (TokenStands more (q ++ lot_token lot ∷ [])) lots
    (λ other there. post_by lot other more q (is_lot lot.id other) refl (λ named. same_named lots lot.id other lot apart there here named (its_name lot lot.id refl)) side lent (all_at (TokenStands (token_step lot ∷ more) q) lots other all there))

-- ---- a poll waits for the tokens

-- behind which nothing is lent: no lot is being lent where no token is queued
pub poll_unlent : (f : DriverConfig) (rest : List Step) (q : List Entry) (lots : List Lot) → All (IsStill f) lots → ((id : LotId) → list_any (ends_lending id) rest ≡ false) → ((id : LotId) (e : Entry) → In e q → is_lot_token id e ≡ false)
    → (f.light ≡ true → All (TokenStands rest q) lots) → All (λ lot. is_lending_side lot.side ≡ false) lots
poll_unlent f rest q lots still none untokened stands =
    all_in (λ (lot : Lot). is_lending_side lot.side ≡ false) lots
    (λ lot here. side_off (is_lending_side lot.side) (λ lending.
    let side = lending_side lot.side lending in
    let light = lend_light f lot side (all_at (IsStill f) lots lot still here) in
    let queued = sent_queued rest q lot (all_at (TokenStands rest q) lots lot (stands light) here) (lent_sent rest lot side (none lot.id)) in
    false≢true (sym (untokened lot.id (lot_token lot) queued) ∙ same_id lot.id)))
  where
    side_off : (t : Bool) → (t ≡ true → ⊥) → t ≡ false
    side_off t never = false_from_ne_true t never

    lending_side : (side : Side) → is_lending_side side ≡ true → side ≡ sides.Lending
    lending_side sides.Lending e = refl
    lending_side sides.Wanted e = absurd (false≢true e)
    lending_side sides.Device e = absurd (false≢true e)
    lending_side sides.Returning e = absurd (false≢true e)
    lending_side sides.Synced e = absurd (false≢true e)
    lending_side sides.Own e = absurd (false≢true e)

-- ---- a token drains

token_is : (lot : Lot) (e : Entry) (id : LotId) → token_of e ≡ Some id → is_lot_token lot.id e ≡ is_lot id lot
token_is lot (entries.Lend label first count) id e =
    let same : lot_id label first ≡ id = cc in
    let other : is_lot (lot_id label first) lot ≡ is_lot id lot = ap (λ (k : LotId). is_lot k lot) same in
    both_by (is_lot (lot_id label first) lot) refl ∙ other
  where
    both_by : (t : Bool) → is_lot (lot_id label first) lot ≡ t → is_lot_token lot.id (entries.Lend label first count) ≡ is_lot (lot_id label first) lot
    both_by true is =
        let both = and_parts (lot.id.label.0 == label.0) (lot.id.first == first) is in
        and_from (label.0 == lot.id.label.0) (first == lot.id.first) (eq-eqb label.0 lot.id.label.0 (sym (eqb-true lot.id.label.0 label.0 both.0))) (eq-eqb first lot.id.first (sym (eqb-true lot.id.first first both.1))) ∙ sym is
    both_by false off =
        false_from_ne_true (is_lot_token lot.id (entries.Lend label first count))
        (λ is.
        let both = and_parts (label.0 == lot.id.label.0) (first == lot.id.first) is in
        false≢true
        (sym off ∙ and_from (lot.id.label.0 == label.0) (lot.id.first == first) (eq-eqb lot.id.label.0 label.0 (sym (eqb-true label.0 lot.id.label.0 both.0))) (eq-eqb lot.id.first first (sym (eqb-true first lot.id.first both.1)))))
        ∙ sym off
token_is lot (entries.Store span bytes kind) id e = absurd cc
token_is lot (entries.Cbo block op) id e = absurd cc
token_is lot (entries.Reg chan off width value) id e = absurd cc
token_is lot (entries.Mail buf to) id e = absurd cc
token_is lot (entries.Mark pred succ) id e = absurd cc

-- the lots of a queued token are sent
pub token_sent : (rest : List Step) (q : List Entry) (lots : List Lot) (e : Entry) (id : LotId) → In e q → token_of e ≡ Some id → All (TokenStands rest q) lots → All (λ lot. is_lot id lot ≡ true → is_sent rest lot ≡ true) lots
token_sent rest q lots e id here is all =
    all_to (TokenStands rest q) (λ (lot : Lot). is_lot id lot ≡ true → is_sent rest lot ≡ true) lots all (λ lot stands named. (queued_sent rest q lot e stands here (token_is lot e id is ∙ named)).0)

pub token_lending : (rest : List Step) (q : List Entry) (lots : List Lot) (e : Entry) (id : LotId) → In e q → token_of e ≡ Some id → All (TokenStands rest q) lots → AreLending id lots
token_lending rest q lots e id here is all =
    all_to (λ (lot : Lot). is_lot id lot ≡ true → is_sent rest lot ≡ true) (λ (lot : Lot). is_lot id lot ≡ true → lot.side ≡ sides.Lending) lots (token_sent rest q lots e id here is all) (λ lot sent named. sent_side rest lot (sent named))

pub drain_stands : (rest : List Step) (q : List Entry) (i : ℕ) (e : Entry) (id : LotId) (lots : List Lot) → slice_get q i ≡ Some e → token_of e ≡ Some id → All (TokenStands rest q) lots → All (TokenStands rest (remove q i)) (lent id lots)
drain_stands rest q i e id lots at is all =
    all_sided (TokenStands rest q) (TokenStands rest (remove q i)) sides.Device id lots all
    (λ lot stands hit.
    let its = token_is lot e id is ∙ hit in
    let sent = (queued_sent rest q lot e stands (at_get q i e at) its).0 in
    let one : filter (is_lot_token lot.id) q ≡ lot_token lot ∷ [] = stands ∙ cond-true (is_sent rest lot) (lot_token lot ∷ []) [] sent in
    filter_gone (is_lot_token lot.id) q i e (lot_token lot) at its one ∙ sym (cond-false (is_sent rest (record lot { side = sides.Device })) (lot_token lot ∷ []) [] (unlent_side sides.Device rest refl lot)))
    (λ lot stands miss. pass_stands rest q i e lot at (token_is lot e id is ∙ miss) stands)
