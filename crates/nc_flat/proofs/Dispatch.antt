-- Every event goes, by its kind.
use Rattle.std.proofs.Common.{◌≡◌, ℕ, Bool, true, false, List, refl, sym, ap, ◌∙◌, Option, Some, None}
use Rattle.std.proofs.lemmas.Bool.{and_parts, false≢true}
use Rattle.nc_num.specs.declared.names.HartNo.{HartNo}
use Rattle.nc_ops.specs.declared.ops.Op.{Op}
use Rattle.nc_scen.specs.declared.events.Event.TheVariants as events
use Rattle.nc_scen.specs.declared.scenario.Scenario.{Scenario}
use Rattle.nc_rules.specs.declared.steps.Next.{Next}
use Rattle.nc_rules.specs.declared.steps.Next.TheVariants as nexts
use Rattle.nc_rules.specs.declared.steps.Phase.{Phase}
use Rattle.nc_rules.specs.declared.steps.Phase.TheVariants.{Steps, Search, Work}
use Rattle.nc_rules.specs.Driver.{DriverState, in_hand, next_in, next_of_op, next_of, waits_for}
use Rattle.nc_rules.specs.Events.{enabled, may_go_on, is_out}
use Rattle.nc_rules.specs.World.{WorldState, driver_of}
use Rattle.nc_flatness.specs.Lending.{is_lending}
use Rattle.nc_flatness.specs.Steps.{IsNow, Goes, StepKind, OfClaim, OfChannel, OfLots, kind_of_next, MovesAreFlat, StepsAreFlat, StartsAreFlat, PlansAreFlat, ClaimsAreFlat, TransfersAreFlat, EachGoes}

-- ---- a driver that makes no step: at its end, and where it searches for a slot

may_next : (w : WorldState) (h : HartNo) (next : Next) → next_of (driver_of w h.0) ≡ next → enabled w (events.Issue h) ≡ true → may_go_on w h next ≡ true
unfolding enabled
may_next w h next is may = ap (may_go_on w h) (sym is) ∙ (and_parts (is_out w.machine h (waits_for (driver_of w h.0))) (may_go_on w h (next_of (driver_of w h.0))) may).1

end_next : (d : DriverState) → in_hand d ≡ None → next_of d ≡ nexts.End
unfolding next_of
end_next d e = ap (next_of_op d) e

end_stays : (w : WorldState) (h : HartNo) → in_hand (driver_of w h.0) ≡ None → enabled w (events.Issue h) ≡ true → ⊥
end_stays w h e may = false≢true (may_next w h nexts.End (end_next (driver_of w h.0) e) may)

search_next : (d : DriverState) (o : Op) (k : ℕ) → in_hand d ≡ Some o → d.phase ≡ Search k → next_of d ≡ nexts.Search k
unfolding next_of
search_next d o k hand phase = ap (next_of_op d) hand ∙ ap (next_in d o) phase

search_stays : (w : WorldState) (h : HartNo) (o : Op) (k : ℕ) → in_hand (driver_of w h.0) ≡ Some o → (driver_of w h.0).phase ≡ Search k → enabled w (events.Issue h) ≡ true → ⊥
search_stays w h o k hand phase may = false≢true (may_next w h (nexts.Search k) (search_next (driver_of w h.0) o k hand phase) may)

-- ---- by kind

-- what is proved of a hart's own steps
pub record IssuesAreFlat : Type 0 where
  pub steps : StepsAreFlat
  pub starts : StartsAreFlat
  pub plans : PlansAreFlat
  pub claims : ClaimsAreFlat
  pub transfers : TransfersAreFlat

-- a step of a plan
plan_by : (sc : Scenario) (f : List ℕ) (w : WorldState) (h : HartNo) (o : Op) (k : StepKind) → IssuesAreFlat → IsNow sc f w (events.Issue h) → in_hand (driver_of w h.0) ≡ Some o → is_lending o ≡ true → (driver_of w h.0).phase ≡ Work
    → kind_of_next (driver_of w h.0).rest ≡ k → Goes sc f w (events.Issue h)
plan_by sc f w h o OfClaim laws now hand is phase kind = laws.claims sc f w h o now hand is phase kind
plan_by sc f w h o OfChannel laws now hand is phase kind = laws.transfers sc f w h o now hand is phase kind
plan_by sc f w h o OfLots laws now hand is phase kind = laws.plans sc f w h o now hand is phase kind

-- an operation that lends or takes back
lending_in : (sc : Scenario) (f : List ℕ) (w : WorldState) (h : HartNo) (o : Op) (p : Phase) → IssuesAreFlat → IsNow sc f w (events.Issue h) → in_hand (driver_of w h.0) ≡ Some o → is_lending o ≡ true → (driver_of w h.0).phase ≡ p → Goes sc f w (events.Issue h)
lending_in sc f w h o (Steps n) laws now hand is phase = laws.starts.start sc f w h o n now hand is phase
lending_in sc f w h o (Search k) laws now hand is phase = absurd (search_stays w h o k hand phase now.may)
lending_in sc f w h o Work laws now hand is phase = plan_by sc f w h o (kind_of_next (driver_of w h.0).rest) laws now hand is phase refl

issue_by : (sc : Scenario) (f : List ℕ) (w : WorldState) (h : HartNo) (o : Op) (t : Bool) → IssuesAreFlat → IsNow sc f w (events.Issue h) → in_hand (driver_of w h.0) ≡ Some o → is_lending o ≡ t → Goes sc f w (events.Issue h)
issue_by sc f w h o false laws now hand is = laws.steps sc f w h o now hand is
issue_by sc f w h o true laws now hand is = lending_in sc f w h o (driver_of w h.0).phase laws now hand is refl

issue_of : (sc : Scenario) (f : List ℕ) (w : WorldState) (h : HartNo) (o : Option Op) → IssuesAreFlat → IsNow sc f w (events.Issue h) → in_hand (driver_of w h.0) ≡ o → Goes sc f w (events.Issue h)
issue_of sc f w h None laws now hand = absurd (end_stays w h hand now.may)
issue_of sc f w h (Some o) laws now hand = issue_by sc f w h o (is_lending o) laws now hand refl

pub each_goes : MovesAreFlat → IssuesAreFlat → EachGoes
each_goes moves laws sc f w (events.Issue h) now = issue_of sc f w h (in_hand (driver_of w h.0)) laws now refl
each_goes moves laws sc f w (events.Try h) now = laws.starts.tried sc f w h now
each_goes moves laws sc f w (events.Told h got) now = laws.starts.told sc f w h got now
each_goes moves laws sc f w (events.Drain h i) now = moves.drain sc f w h i now
each_goes moves laws sc f w (events.Fill h b) now = moves.fill sc f w h b now
each_goes moves laws sc f w (events.Evict h b) now = moves.evict sc f w h b now
each_goes moves laws sc f w (events.ChanRead chan) now = moves.read sc f w chan now
each_goes moves laws sc f w (events.ChanWrite chan) now = moves.write sc f w chan now
