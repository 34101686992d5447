-- The calls of a driver that passes a buffer on: its start, and the steps of its plan.
use Rattle.std.specs.Prelude.{Option, Some, Result, Ok, Err, Bool, false, if◌then◌else◌, All}
use Rattle.std.specs.List.{list_any}
use Rattle.std.proofs.Common.{◌≡◌, ◌⊎◌, ℕ, List, [], ◌∷◌, refl, sym, ap, ◌∙◌, inl, inr, subst}
use Rattle.std.proofs.lemmas.Bool.{or_from}
use Rattle.std.proofs.lemmas.List.{append-nil}
use Rattle.std.proofs.lemmas.List.Elements.{All-head, All-tail}
use Rattle.nc_num.specs.declared.names.HartNo.{HartNo}
use Rattle.nc_num.specs.declared.places.Span.{Span}
use Rattle.nc_model.specs.declared.owners.Owner.{Owner}
use Rattle.nc_model.specs.declared.owners.Owner.TheVariants.{Passing}
use Rattle.nc_ops.specs.declared.ops.Op.{Op}
use Rattle.nc_ops.specs.declared.ops.Op.TheVariants as ops
use Rattle.nc_coherent.specs.Pages.{PageMap}
use Rattle.nc_rules.specs.declared.answers.Refusal.{Refusal}
use Rattle.nc_rules.specs.declared.lots.Lot.{Lot}
use Rattle.nc_rules.specs.declared.steps.Phase.{Phase}
use Rattle.nc_rules.specs.declared.steps.Phase.TheVariants.{Work}
use Rattle.nc_rules.specs.declared.steps.Seen.TheVariants as seen
use Rattle.nc_rules.specs.declared.steps.Step.{Step}
use Rattle.nc_rules.specs.Lots.{lot_waits, some_lot_waits}
use Rattle.nc_rules.specs.Refusals.{◌>>=◌, buffer_of, owned}
use Rattle.nc_rules.specs.Turns.{turned_by}
use Rattle.nc_rules.specs.Handing.{hand_steps}
use Rattle.nc_rules.specs.Handing as handing
use Rattle.nc_rules.specs.Operations.{meaning, begin, opening, plan_of}
use Rattle.nc_rules.specs.Driver.{DriverState, Went, in_hand, stays, searches, opened, placed, with_lots, begun, started, started_of, started_op, worked, done, done_of, done_in}
use Rattle.nc_holds.specs.Rests.{RestAt}
use Rattle.nc_scripts.specs.Drivers.{IsSettled}
use Rattle.nc_flatness.specs.Flatness.{mail_step, PlanOf, StandsAt, Drives}
use Rattle.nc_flatness.specs.Plans.{IsStill}
use Rattle.nc_flat_scripts.proofs.steps.ScriptCalls.{GoesIdle, gives_up}

-- a driver that passes a buffer on, with this left of its plan
pub record Hands (d e : DriverState) (buf : ℕ) (to : HartNo) (left : List Step) : Type 0 where
  pub fixed : e.fixed ≡ d.fixed
  pub lots : e.lots ≡ d.lots
  pub rest : e.rest ≡ left
  pub phase : e.phase ≡ Work
  pub hand : in_hand e ≡ Some (ops.Hand buf to)

pub record GoesHanding (d : DriverState) (w : Went) (buf : ℕ) (to : HartNo) (left : List Step) (ts : List (Span × Owner)) : Type 0 where
  pub driver : Hands d w.driver buf to left
  pub transfers : w.moves.transfers ≡ ts

pub hands_drives : (d e : DriverState) (buf : ℕ) (to : HartNo) (left : List Step) → Drives d → All (IsStill d.fixed) d.lots → Hands d e buf to left → (left ≡ hand_steps buf to) ⊎ (left ≡ mail_step buf to ∷ []) → Drives e
hands_drives d e buf to left is still hands which = record {
  lots = rw hands.lots is.lots;
  stands = subst (λ (p : Phase). StandsAt e p) (sym hands.phase)
      (subst (λ (o : Option Op). PlanOf e o) (sym hands.hand)
      (record { left = elim which [ inl all ↦ inl (hands.rest ∙ all) | inr one ↦ inr (hands.rest ∙ one) ]; still = rw (hands.fixed, hands.lots) still }));
  idle = subst (λ (p : Phase). RestAt p e.rest) (sym hands.phase) tt;
}

-- ---- the start

none_waits : (lots : List Lot) → All IsSettled lots → some_lot_waits lots ≡ false
none_waits [] settled = refl
none_waits (lot ∷ lots) settled = or_from (lot_waits lot) (list_any lot_waits lots) (All-head IsSettled lot lots settled).placed (none_waits lots (All-tail IsSettled lot lots settled))

abbrev pub handed : DriverState → ℕ → HartNo → Result (Unit {0}) Refusal → Went
handed d buf to r = begun d (ops.Hand buf to) (r >>= λ _. Ok [])

handed_is : (d : DriverState) (owners : List Owner) (pages : PageMap) (buf : ℕ) (to : HartNo) → started_op d owners pages (ops.Hand buf to) ≡ handed d buf to (owned d.fixed.me owners (buffer_of d.fixed buf))
unfolding begin meaning handing.hand
handed_is d owners pages buf to = refl

opened_hand : (d : DriverState) (buf : ℕ) (to : HartNo) → All IsSettled d.lots → handed d buf to (Ok tt) ≡ opened (with_lots d d.lots) (ops.Hand buf to)
opened_hand d buf to settled =
    ap (λ (lots : List Lot). placed (with_lots d lots) (ops.Hand buf to)) (append-nil d.lots)
    ∙ ap (λ (t : Bool). if t then stays (searches (with_lots d d.lots) 0) else opened (with_lots d d.lots) (ops.Hand buf to)) (none_waits d.lots settled)

open_hands : (d : DriverState) (buf : ℕ) (to : HartNo) → in_hand d ≡ Some (ops.Hand buf to) → GoesHanding d (opened (with_lots d d.lots) (ops.Hand buf to)) buf to (hand_steps buf to) ((buffer_of d.fixed buf, Passing d.fixed.me to) ∷ [])
unfolding plan_of opening meaning handing.hand turned_by
open_hands d buf to hand = record { driver = record { fixed = refl; lots = refl; rest = refl; phase = refl; hand = hand }; transfers = refl }

-- the buffer is not the hart's own, or it is passed on
pub data Starts (d : DriverState) (owners : List Owner) (buf : ℕ) (to : HartNo) (w : Went) : Type 0 where
  Refuses : GoesIdle d w [] → Starts d owners buf to w
  Begins : owned d.fixed.me owners (buffer_of d.fixed buf) ≡ Ok tt → GoesHanding d w buf to (hand_steps buf to) ((buffer_of d.fixed buf, Passing d.fixed.me to) ∷ []) → Starts d owners buf to w

starts_by : (d : DriverState) (owners : List Owner) (buf : ℕ) (to : HartNo) (r : Result (Unit {0}) Refusal) → All IsSettled d.lots → All (IsStill d.fixed) d.lots → in_hand d ≡ Some (ops.Hand buf to) → owned d.fixed.me owners (buffer_of d.fixed buf) ≡ r → Starts d owners buf to (handed d buf to r)
starts_by d owners buf to (Err r) settled still hand is = Refuses (gives_up d (ops.Hand buf to) r still)
starts_by d owners buf to (Ok u) settled still hand is = Begins is (subst (λ (w : Went). GoesHanding d w buf to (hand_steps buf to) ((buffer_of d.fixed buf, Passing d.fixed.me to) ∷ [])) (sym (opened_hand d buf to settled)) (open_hands d buf to hand))

started_is : (d : DriverState) (owners : List Owner) (pages : PageMap) (buf : ℕ) (to : HartNo) → in_hand d ≡ Some (ops.Hand buf to) → started d owners pages ≡ handed d buf to (owned d.fixed.me owners (buffer_of d.fixed buf))
unfolding started
started_is d owners pages buf to hand = ap (λ (k : Option Op). started_of d owners pages k) hand ∙ handed_is d owners pages buf to

pub hand_starts : (d : DriverState) (owners : List Owner) (pages : PageMap) (buf : ℕ) (to : HartNo) → All IsSettled d.lots → All (IsStill d.fixed) d.lots → in_hand d ≡ Some (ops.Hand buf to) → Starts d owners buf to (started d owners pages)
hand_starts d owners pages buf to settled still hand = subst (Starts d owners buf to) (sym (started_is d owners pages buf to hand)) (starts_by d owners buf to (owned d.fixed.me owners (buffer_of d.fixed buf)) settled still hand refl)

-- ---- the marker and the message

done_works : (d : DriverState) (o : Op) (rest : List Step) → in_hand d ≡ Some o → d.phase ≡ Work → d.rest ≡ rest → done d seen.Nothing ≡ worked d o d.saw rest
unfolding done
done_works d o rest hand phase is = ap (λ (k : Option Op). done_of d seen.Nothing k) hand ∙ ap (λ (p : Phase). done_in d o d.saw p) phase ∙ ap (λ (r : List Step). worked d o d.saw r) is

pub done_trace : (d : DriverState) (buf : ℕ) (to : HartNo) → in_hand d ≡ Some (ops.Hand buf to) → d.phase ≡ Work → d.rest ≡ hand_steps buf to → GoesHanding d (done d seen.Nothing) buf to (mail_step buf to ∷ []) []
unfolding turned_by
done_trace d buf to hand phase is =
    subst (λ (w : Went). GoesHanding d w buf to (mail_step buf to ∷ []) []) (sym (done_works d (ops.Hand buf to) (hand_steps buf to) hand phase is))
    (record { driver = record { fixed = refl; lots = refl; rest = refl; phase = refl; hand = hand }; transfers = refl })

pub done_mails : (d : DriverState) (buf : ℕ) (to : HartNo) → in_hand d ≡ Some (ops.Hand buf to) → d.phase ≡ Work → d.rest ≡ mail_step buf to ∷ [] → GoesIdle d (done d seen.Nothing) []
unfolding turned_by
done_mails d buf to hand phase is =
    subst (λ (w : Went). GoesIdle d w []) (sym (done_works d (ops.Hand buf to) (mail_step buf to ∷ []) hand phase is))
    (record { driver = record { fixed = refl; lots = refl; rest = refl; count = 0; phase = refl }; transfers = refl })
