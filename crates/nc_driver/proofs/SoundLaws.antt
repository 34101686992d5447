-- What a driver's calls leave is a driver, and what they move is there.
use Rattle.std.proofs.Common.{arith, ◌≡◌, ℕ, ◌<◌, true, List, ◌++◌, length, sym, ap, subst, ◌∙◌, Option, Some, Ok, Err, Result}
use Rattle.std.specs.Prelude.{All, Bool, IfOk, OnErr}
use Rattle.std.proofs.lemmas.List.Elements.{All-append}
use Rattle.nc_num.specs.declared.names.HartNo.{HartNo}
use Rattle.nc_num.specs.declared.names.Label.{Label}
use Rattle.nc_model.specs.declared.owners.Owner.{Owner}
use Rattle.nc_coherent.specs.Pages.{PageMap}
use Rattle.nc_ops.specs.declared.ops.Op.{Op}
use Rattle.nc_scen.specs.Accepted.{IsAccepted}
use Rattle.nc_scen.specs.declared.scenario.Scenario.{Scenario}
use Rattle.nc_rules.specs.declared.answers.Refusal.{Refusal}
use Rattle.nc_rules.specs.declared.lots.Lot.{Lot}
use Rattle.nc_rules.specs.declared.steps.Next.TheVariants as nexts
use Rattle.nc_rules.specs.declared.steps.Phase.{Phase}
use Rattle.nc_rules.specs.declared.steps.Phase.TheVariants.{Steps, Search, Work}
use Rattle.nc_rules.specs.declared.steps.Seen.{Seen}
use Rattle.nc_rules.specs.declared.steps.Step.{Step}
use Rattle.nc_rules.specs.declared.lots.Kind.{Kind}
use Rattle.nc_rules.specs.declared.lots.Kind.TheVariants as kinds
use Rattle.nc_rules.specs.declared.lots.LotId.{LotId}
use Rattle.nc_sg.specs.declared.list.Entry.{Entry}
use Rattle.nc_num.specs.declared.places.Span.{Span}
use Rattle.nc_rules.specs.Operations.{begin}
use Rattle.nc_rules.specs.Lots.{DriverConfig, lot_id, slot_given}
use Rattle.nc_rules.specs.Driver.{DriverState, Went, in_hand, next_of, started, told, done, lent}
use Rattle.nc_rules.specs.Start.{first_driver}
use Rattle.nc_scripts.specs.Scripts.{is_act}
use Rattle.nc_scripts.specs.Drivers.{IsDriver, ArePagesOf, AreThere, IsSettled, IsPhase, IsSearching, IsLotIn, FitsKind, IsSeenAt, IsLentAt, Keeps}
use Rattle.nc_scripts.proofs.Lists.{all_to}
use Rattle.nc_scripts.proofs.LotLaws.{IsPlaced}
use Rattle.nc_scripts.proofs.NewLots.{new_is}
use Rattle.nc_scripts.proofs.SlotLaws.{lots_given}
use Rattle.nc_scripts.proofs.EveryDriver.{in_hand_is, first_drivers, started_is, told_is, done_is, lent_is}
use Rattle.nc_driver.specs.Kept.{DriverInvariant, IsSound, IsDue, IsReady, IsFit, ArePlaced, AreNamed}
use Rattle.nc_driver.proofs.FitLaws.{fit_of}
use Rattle.nc_driver.proofs.KeptLaws.{same_op, start_at}

pub first_kept : (sc : Scenario) (me : HartNo) → IsAccepted sc → me.0 < length sc.harts → DriverInvariant (first_driver sc me)
first_kept sc me a lt = record { ram = sc.ram; harts = length sc.harts; driver = first_drivers sc me a lt }

pub kept_fit : (d : DriverState) → DriverInvariant d → IsFit d.fixed
kept_fit d k = fit_of k.ram k.harts d.fixed k.driver.fixed

-- ---- the four calls

sound_of : (ram harts : ℕ) (d : DriverState) (g : ℕ → ℕ) (w : Went) → Keeps ram harts d g w → IsSound w
sound_of ram harts d g w k = record { ram = ram; harts = harts; driver = k.driver; moves = subst (λ (f : DriverConfig). AreThere ram f w.moves) (sym k.fixed) k.moves }

pub started_sound : (d : DriverState) (ws : List Owner) (pages : PageMap) → DriverInvariant d → next_of d ≡ nexts.Start → ArePagesOf d.fixed pages → IsSound (started d ws pages)
started_sound d ws pages k start of = sound_of k.ram k.harts d (λ n. n) (started d ws pages) (started_is k.ram k.harts d ws pages k.driver start of)

-- it is the start of the operation in hand
pub started_as : (d : DriverState) (ws : List Owner) (pages : PageMap) (o p : Op) (of : Op → Went) → DriverInvariant d → next_of d ≡ nexts.Start → ArePagesOf d.fixed pages → in_hand d ≡ Some o
    → in_hand d ≡ Some p → started d ws pages ≡ of p → IsSound (of o)
started_as d ws pages o p of k start at e hand is = subst (λ (q : Op). IsSound (of q)) (same_op d p o hand e) (subst (λ (w : Went). IsSound w) is (started_sound d ws pages k start at))

pub told_sound : (d : DriverState) (got : Bool) → DriverInvariant d → IsSound (told d got)
told_sound d got k = sound_of k.ram k.harts d (λ n. n) (told d got) (told_is k.ram k.harts d got k.driver)

pub done_sound : (d : DriverState) (saw : Seen) → DriverInvariant d → is_act (next_of d) ≡ true → IsSeenAt (next_of d) saw → IsSound (done d saw)
done_sound d saw k act at = sound_of k.ram k.harts d _ (done d saw) (done_is k.ram k.harts d saw k.driver act at)

pub lent_sound : (d : DriverState) (label : Label) (first : ℕ) → DriverInvariant d → IsLentAt d.lots (lot_id label first) → IsSound (lent d label first)
lent_sound d label first k at = sound_of k.ram k.harts d (λ n. n) (lent d label first) (lent_is k.ram k.harts d label first k.driver at)

-- what is known from the start stays
pub started_fixed : (d : DriverState) (ws : List Owner) (pages : PageMap) → DriverInvariant d → next_of d ≡ nexts.Start → ArePagesOf d.fixed pages → (started d ws pages).driver.fixed ≡ d.fixed
started_fixed d ws pages k start of = (started_is k.ram k.harts d ws pages k.driver start of).fixed

pub told_fixed : (d : DriverState) (got : Bool) → DriverInvariant d → (told d got).driver.fixed ≡ d.fixed
told_fixed d got k = (told_is k.ram k.harts d got k.driver).fixed

pub done_fixed : (d : DriverState) (saw : Seen) → DriverInvariant d → is_act (next_of d) ≡ true → IsSeenAt (next_of d) saw → (done d saw).driver.fixed ≡ d.fixed
done_fixed d saw k act at = (done_is k.ram k.harts d saw k.driver act at).fixed

pub lent_fixed : (d : DriverState) (label : Label) (first : ℕ) → DriverInvariant d → IsLentAt d.lots (lot_id label first) → (lent d label first).driver.fixed ≡ d.fixed
lent_fixed d label first k at = (lent_is k.ram k.harts d label first k.driver at).fixed

-- ---- the lots

-- where steps are counted all lots have their slots
placed_in : (d : DriverState) (n : ℕ) (p : Phase) → p ≡ Steps n → IsPhase d p → ArePlaced d.lots
placed_in d n (Steps m) e h = all_to IsSettled IsPlaced d.lots h.settled (λ lot s. s.placed)
placed_in d n (Search k) e h = absurd (cc)
placed_in d n Work e h = absurd (cc)

pub steps_placed : (d : DriverState) (n : ℕ) → DriverInvariant d → d.phase ≡ Steps n → ArePlaced d.lots
steps_placed d n k e = placed_in d n d.phase e k.driver.phase

searching_in : (d : DriverState) (n : ℕ) (p : Phase) → p ≡ Search n → IsPhase d p → IsSearching d n
searching_in d n (Steps m) e h = absurd (cc)
searching_in d n (Search m) e h = let same : m ≡ n = cc in subst (λ (k : ℕ). IsSearching d k) same h
searching_in d n Work e h = absurd (cc)

pub searching_at : (d : DriverState) (n : ℕ) → DriverInvariant d → d.phase ≡ Search n → IsSearching d n
searching_at d n k e = searching_in d n d.phase e k.driver.phase

pub steps_settled : (d : DriverState) (n : ℕ) → DriverInvariant d → d.phase ≡ Steps n → All IsSettled d.lots
steps_settled d n k e = settled_in d n d.phase e k.driver.phase
  where
    settled_in : (d : DriverState) (n : ℕ) (p : Phase) → p ≡ Steps n → IsPhase d p → All IsSettled d.lots
    settled_in d n (Steps m) e h = h.settled
    settled_in d n (Search k) e h = absurd (cc)
    settled_in d n Work e h = absurd (cc)

-- ---- their names

kind_named : (pool : Span) (k : Kind) (id : LotId) (es : List Entry) → FitsKind pool k id es → id.first < 2
kind_named pool kinds.Single id es h = omega (arith, h.0.first)
kind_named pool kinds.List id es h = omega (arith, h.0.first)
kind_named pool kinds.Area id es h = omega (arith, h.0.first)
kind_named pool kinds.Copy id es h = h.0.first

lots_named : (ram : ℕ) (f : DriverConfig) (lots : List Lot) → All (IsLotIn ram f) lots → AreNamed lots
lots_named ram f lots all = all_to (IsLotIn ram f) (λ (lot : Lot). lot.id.first < 2) lots all (λ lot h. kind_named f.pool lot.kind lot.id lot.list.entries h.kind)

pub given_named : (d : DriverState) (n : ℕ) → DriverInvariant d → n < d.fixed.slots → AreNamed (slot_given n d.lots)
given_named d n k lt = lots_named k.ram d.fixed (slot_given n d.lots) (lots_given k.ram d.fixed n d.lots lt k.driver.lots)

pub begun_named : (d : DriverState) (o : Op) (ws : List Owner) (pages : PageMap) (new : List Lot) → DriverInvariant d → in_hand d ≡ Some o → next_of d ≡ nexts.Start → ArePagesOf d.fixed pages
    → begin d.fixed d.lots ws pages o ≡ Ok new → AreNamed (d.lots ++ new)
begun_named d o ws pages new k e start of is =
    let at = start_at d o k e start in
    let made = new_is k.ram k.harts d.fixed d.lots new ws pages o k.driver.fixed (steps_settled d at.0 k at.1) k.driver.apart of (in_hand_is k.ram k.harts d o k.driver.fixed e).fits is in
    lots_named k.ram d.fixed (d.lots ++ new) (All-append (IsLotIn k.ram d.fixed) d.lots new k.driver.lots made.each)

-- ---- what a call leaves is ready

pub ready_after : {A E : Type 0} (d now : DriverState) (w : Went) (r : Result A E) (due : Result (Option Step) Refusal) → DriverInvariant d → IsSound w → IfOk r (λ m. now ≡ w.driver) → OnErr r (now ≡ d) → IsDue now due → IsReady now due
ready_after d now w (Ok m) due k s is stays at = record { kept = record { ram = s.ram; harts = s.harts; driver = subst (λ (x : DriverState). IsDriver s.ram s.harts x) (sym is) s.driver }; due = at }
ready_after d now w (Err e) due k s is stays at = record { kept = subst (λ (x : DriverState). DriverInvariant x) (sym stays) k; due = at }

pub fixed_after : {A E : Type 0} (d now : DriverState) (w : Went) (r : Result A E) → w.driver.fixed ≡ d.fixed → IfOk r (λ m. now ≡ w.driver) → OnErr r (now ≡ d) → now.fixed ≡ d.fixed
fixed_after d now w (Ok m) f is stays = ap (λ (x : DriverState). x.fixed) is ∙ f
fixed_after d now w (Err e) f is stays = ap (λ (x : DriverState). x.fixed) stays
