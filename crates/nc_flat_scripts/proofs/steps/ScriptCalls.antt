-- What the calls of a driver that has no plan change: neither its lots nor the rest of a plan.
use Rattle.std.specs.Prelude.{Option, Some, None, Result, Ok, Err, if◌then◌else◌, Bool, false, not, All}
use Rattle.std.proofs.Common.{◌≡◌, ℕ, ◌+◌, List, [], ◌∷◌, refl, sym, ap, ◌∙◌, subst}
use Rattle.std.proofs.lemmas.List.Elements.{All-head, All-tail}
use Rattle.nc_num.specs.declared.places.Span.{Span}
use Rattle.nc_model.specs.declared.owners.Owner.{Owner}
use Rattle.nc_model.specs.declared.owners.Owner.TheVariants.{Thread}
use Rattle.nc_ops.specs.declared.ops.Op.{Op}
use Rattle.nc_ops.specs.declared.ops.Op.TheVariants as ops
use Rattle.nc_coherent.specs.Pages.{PageMap}
use Rattle.nc_rules.specs.declared.answers.Refusal.{Refusal}
use Rattle.nc_rules.specs.declared.lots.Lot.{Lot}
use Rattle.nc_rules.specs.declared.steps.Phase.{Phase}
use Rattle.nc_rules.specs.declared.steps.Phase.TheVariants.{Steps}
use Rattle.nc_rules.specs.declared.steps.Seen.{Seen}
use Rattle.nc_rules.specs.declared.steps.Seen.TheVariants as seen
use Rattle.nc_rules.specs.declared.steps.Step.{Step}
use Rattle.nc_rules.specs.Lots.{DriverConfig, is_wanted}
use Rattle.nc_rules.specs.Refusals.{buffer_of}
use Rattle.nc_rules.specs.Turns.{lots_after_both, turned, turned_by, without_wanted}
use Rattle.nc_rules.specs.Handing.{take_step}
use Rattle.nc_rules.specs.Operations.{step_at, has_start}
use Rattle.nc_rules.specs.Driver.{DriverState, Went, in_hand, over, stands, kept, give_up, refused_step, started, started_of, started_op, busy, stepped_to, stepped, done, done_of, done_unless, done_in}
use Rattle.nc_flatness.specs.Plans.{IsStill, StillDevice, StillSynced, StillOwn, StillSent}
use Rattle.nc_flat_scripts.proofs.accesses.ScriptSteps.{IsOwn}

-- it has no plan, as before, and its lots
pub record Idles (d e : DriverState) : Type 0 where
  pub fixed : e.fixed ≡ d.fixed
  pub lots : e.lots ≡ d.lots
  pub rest : e.rest ≡ []
  pub count : ℕ
  pub phase : e.phase ≡ Steps count

-- it goes on so, and these owners change
pub record GoesIdle (d : DriverState) (w : Went) (ts : List (Span × Owner)) : Type 0 where
  pub driver : Idles d w.driver
  pub transfers : w.moves.transfers ≡ ts

-- a driver without a plan
pub record IsIdle (d : DriverState) : Type 0 where
  pub count : ℕ
  pub phase : d.phase ≡ Steps count
  pub rest : d.rest ≡ []
  pub still : All (IsStill d.fixed) d.lots

-- ---- lots

still_lent : (f : DriverConfig) (lot : Lot) → IsStill f lot → is_wanted lot.side ≡ false
still_lent f lot (StillDevice is) = ap is_wanted is
still_lent f lot (StillSynced is single) = ap is_wanted is
still_lent f lot (StillOwn is area) = ap is_wanted is
still_lent f lot (StillSent is light) = ap is_wanted is

pub all_lent : (f : DriverConfig) (lots : List Lot) → All (IsStill f) lots → without_wanted lots ≡ lots
all_lent f [] still = refl
all_lent f (lot ∷ lots) still =
    let rest = all_lent f lots (All-tail (IsStill f) lot lots still) in
    ap (λ (t : Bool). if not t then lot ∷ without_wanted lots else without_wanted lots) (still_lent f lot (All-head (IsStill f) lot lots still)) ∙ ap (λ (k : List Lot). lot ∷ k) rest

over_idles : (d : DriverState) (lots : List Lot) → lots ≡ d.lots → Idles d (over d lots)
over_idles d lots same = record { fixed = refl; lots = same; rest = refl; count = 0; phase = refl }

counted_idles : (d : DriverState) (n : ℕ) (lots : List Lot) (saw : Seen) → lots ≡ d.lots → Idles d (stands d (Steps n) [] lots saw)
counted_idles d n lots saw same = record { fixed = refl; lots = same; rest = refl; count = n; phase = refl }

stepped_idles : (d : DriverState) (n : ℕ) (lots : List Lot) (saw : Seen) (r : Result (Option Step) Refusal) → lots ≡ d.lots → Idles d (stepped_to d n lots saw r)
stepped_idles d n lots saw (Err r) same = counted_idles d n lots saw same
stepped_idles d n lots saw (Ok (Some s)) same = counted_idles d n lots saw same
stepped_idles d n lots saw (Ok None) same = over_idles d lots same

pub gives_up : (d : DriverState) (o : Op) (r : Refusal) → All (IsStill d.fixed) d.lots → GoesIdle d (give_up d o r) []
gives_up d o r still = record { driver = over_idles d (without_wanted d.lots) (all_lent d.fixed d.lots still); transfers = refl }

-- ---- a step

-- what a step changes that was made
abbrev pub turned_when : DriverState → Step → List (Span × Owner)
turned_when d s = (turned d.fixed d.lots s.first s.last None).transfers

in_idles : (d : DriverState) (o : Op) (n : ℕ) (s : Step) (saw : Seen) → d.phase ≡ Steps n → step_at d.fixed d.lots o n ≡ Ok (Some s) → lots_after_both s.first s.last d.lots ≡ d.lots → GoesIdle d (done_in d o saw d.phase) (turned_when d s)
unfolding turned_by
in_idles d o n s saw phase is same =
    let next = step_at d.fixed d.lots o (n + 1) in
    subst (λ (p : Phase). GoesIdle d (done_in d o saw p) (turned_when d s)) (sym phase)
    (subst (λ (r : Result (Option Step) Refusal). GoesIdle d (stepped d o (n + 1) saw r next) (turned_when d s)) (sym is)
    (record { driver = stepped_idles d (n + 1) (lots_after_both s.first s.last d.lots) saw next same; transfers = refl }))

unless_idles : (d : DriverState) (o : Op) (n : ℕ) (s : Step) (saw : Seen) (r : Option Refusal) → All (IsStill d.fixed) d.lots → d.phase ≡ Steps n → step_at d.fixed d.lots o n ≡ Ok (Some s) → lots_after_both s.first s.last d.lots ≡ d.lots → turned_when d s ≡ []
    → GoesIdle d (done_unless d o saw r) []
unless_idles d o n s saw (Some r) still phase is same none = gives_up d o r still
unless_idles d o n s saw None still phase is same none =
    subst (λ (ts : List (Span × Owner)). GoesIdle d (done_in d o (kept d.saw saw) d.phase) ts) none (in_idles d o n s (kept d.saw saw) phase is same)

none_turned : (d : DriverState) (s : Step) → IsOwn d.fixed s → turned_when d s ≡ []
unfolding turned_by
none_turned d s own = rw (own.first, own.last) refl

same_lots : (d : DriverState) (s : Step) → IsOwn d.fixed s → lots_after_both s.first s.last d.lots ≡ d.lots
same_lots d s own = rw (own.first, own.last) refl

pub done_idles : (d : DriverState) (saw : Seen) (o : Op) (n : ℕ) (s : Step) → All (IsStill d.fixed) d.lots → in_hand d ≡ Some o → d.phase ≡ Steps n → step_at d.fixed d.lots o n ≡ Ok (Some s) → IsOwn d.fixed s → GoesIdle d (done d saw) []
unfolding done
done_idles d saw o n s still hand phase is own =
    subst (λ (k : Option Op). GoesIdle d (done_of d saw k) []) (sym hand) (unless_idles d o n s saw (busy saw) still phase is (same_lots d s own) (none_turned d s own))

pub done_takes : (d : DriverState) (buf n : ℕ) → in_hand d ≡ Some (ops.Take buf) → d.phase ≡ Steps n → step_at d.fixed d.lots (ops.Take buf) n ≡ Ok (Some (take_step d.fixed buf))
    → GoesIdle d (done d seen.Nothing) ((buffer_of d.fixed buf, Thread d.fixed.me) ∷ [])
unfolding done turned_by
done_takes d buf n hand phase is =
    subst (λ (k : Option Op). GoesIdle d (done_of d seen.Nothing k) ((buffer_of d.fixed buf, Thread d.fixed.me) ∷ [])) (sym hand)
    (in_idles d (ops.Take buf) n (take_step d.fixed buf) d.saw phase is refl)

-- ---- the refusal of a step

refused_idles : (d : DriverState) (o : Op) (r : Result (Option Step) Refusal) → IsIdle d → GoesIdle d (refused_step d o r) []
refused_idles d o (Err r) idle = gives_up d o r idle.still
refused_idles d o (Ok s) idle = record { driver = record { fixed = refl; lots = refl; rest = idle.rest; count = idle.count; phase = idle.phase }; transfers = refl }

started_is : (d : DriverState) (owners : List Owner) (pages : PageMap) (o : Op) → in_hand d ≡ Some o → started d owners pages ≡ started_op d owners pages o
unfolding started
started_is d owners pages o hand = ap (λ (k : Option Op). started_of d owners pages k) hand

pub bare_idles : (d : DriverState) (owners : List Owner) (pages : PageMap) (o : Op) → IsIdle d → in_hand d ≡ Some o → has_start o ≡ false → GoesIdle d (started d owners pages) []
bare_idles d owners pages o idle hand none = rw (started_is d owners pages o hand, none) (refused_idles d o _ idle)
