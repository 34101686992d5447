-- The claim of a copy's channel, as an event.
use Rattle.std.specs.Prelude.{Option, Some, None, true}
use Rattle.std.proofs.Common.{◌≡◌, ℕ, ◌<◌, List, [], ◌∷◌, refl, sym, ap, ◌∙◌, subst}
use Rattle.nc_num.specs.declared.names.ChanNo.{ChanNo}
use Rattle.nc_num.specs.declared.names.HartNo.{HartNo}
use Rattle.nc_ops.specs.declared.ops.Op.{Op}
use Rattle.nc_scen.specs.declared.events.Event.TheVariants as events
use Rattle.nc_scen.specs.declared.scenario.Scenario.{Scenario}
use Rattle.nc_rules.specs.declared.answers.Refusal.TheVariants as refusals
use Rattle.nc_rules.specs.declared.lots.Lot.{Lot}
use Rattle.nc_rules.specs.declared.steps.Next.TheVariants as nexts
use Rattle.nc_rules.specs.declared.steps.Seen.TheVariants as seen
use Rattle.nc_rules.specs.declared.steps.Step.{Step}
use Rattle.nc_rules.specs.declared.steps.Turn.TheVariants as turns
use Rattle.nc_rules.specs.declared.steps.Phase.TheVariants.{Work}
use Rattle.nc_rules.specs.Calls.{claim_next}
use Rattle.nc_rules.specs.Driver.{Went, in_hand, next_act, next_of, done, done_of, give_up}
use Rattle.nc_rules.specs.Lots.{DriverConfig}
use Rattle.nc_rules.specs.Machine.{grantee_of, queue_of}
use Rattle.nc_rules.specs.Outcomes.{claim_seen, goes, claim_outcome, step_outcome, outcome}
use Rattle.nc_rules.specs.World.{WorldState, driver_of}
use Rattle.nc_calls.proofs.CallProofs.{channels_by_place}
use Rattle.nc_calls.proofs.SoundLaws.{calls_keep_shape}
use Rattle.nc_flatness.specs.Copying.{is_poll, registers}
use Rattle.nc_flatness.specs.Lending.{is_lending}
use Rattle.nc_flatness.specs.Flatness.{BytesStand}
use Rattle.nc_flatness.specs.Plans.{StepGoes, Loads, Stores, WritesBack, Drops, Gives, Fences, Ends, Zeroes, Flushes, Settles, GivesArea, TakesBack, Marks, Posts, Claims, Registers, Polls, TakesTarget, TakesSource, IsClaim, PlanGoes, EndsOne}
use Rattle.nc_flatness.specs.Steps.{OfClaim, OfChannel, OfLots, kind_of_act, kind_of_next, Goes, ClaimsAreFlat}
use Rattle.nc_flatness.proofs.worlds.Outcomes.{gone, goes_go, goes_silent}
use Rattle.nc_flatness.proofs.plans.Rests.{plan_next}
use Rattle.nc_flat_scripts.proofs.copies.OtherCopies.{claim_keeps}
use Rattle.nc_flat_scripts.proofs.accesses.ScriptEvents.{IsHere, here_by, outcome_is}
use Rattle.nc_flat_scripts.proofs.handing.SendEvents.{next_work}
use Rattle.nc_flat_scripts.proofs.copies.TransferDrivers.{at_work}
use Rattle.nc_flat_scripts.proofs.copies.TransferPolls.{none_registers}
use Rattle.nc_flat_starts.proofs.opening.Bases.{member_lot}
use Rattle.nc_flat_claims.proofs.Claimings.{IsClaiming, its_member, its_quiet}
use Rattle.nc_flat_claims.proofs.ClaimBytes.{claimed_bytes}
use Rattle.nc_flat_claims.proofs.ClaimDrivers.{lent_so}
use Rattle.nc_flat_claims.proofs.ClaimRests.{step_is}
use Rattle.nc_flat_claims.proofs.ClaimMachines.{IsClaimNext}
use Rattle.nc_flat_claims.proofs.Refused.{refused_bytes}

-- ---- the machine

next_so : (w : WorldState) (h : HartNo) (chan : ChanNo) → IsClaimNext w (claim_next w.machine h chan.0)
next_so w h chan = record { shape = calls_keep_shape.of_claim w.machine h chan.0; stays = channels_by_place.claim_stays w.machine h chan.0; keeps = λ k. claim_keeps w.machine h chan.0 k.0 }

-- ---- what the claim finds

claim_is : (w : WorldState) (h : HartNo) (chan : ChanNo) → step_outcome w h (nexts.Claim chan) ≡ goes w h (claim_next w.machine h chan.0) (done (driver_of w h.0) (claim_seen (grantee_of w.machine chan.0))) w.slots None []
unfolding step_outcome claim_outcome
claim_is w h chan = refl

busy_is : (sc : Scenario) (f : List ℕ) (w : WorldState) (h : HartNo) (o : Op) (s : Step) (rest : List Step) (g : HartNo) → IsClaiming sc f w h o s rest → done (driver_of w h.0) (seen.Busy g) ≡ give_up (driver_of w h.0) o (refusals.ChannelBusy g)
unfolding done
busy_is sc f w h o s rest g k = ap (λ (p : Option Op). done_of (driver_of w h.0) (seen.Busy g) p) k.hand

found_bytes : (sc : Scenario) (f : List ℕ) (w : WorldState) (h : HartNo) (o : Op) (s : Step) (rest : List Step) → (k : IsClaiming sc f w h o s rest) → k.claim.chan.0 < 4 → (g : Option HartNo) → grantee_of w.machine k.claim.chan.0 ≡ g
    → outcome w (events.Issue h) ≡ goes w h (claim_next w.machine h k.claim.chan.0) (done (driver_of w h.0) (claim_seen g)) w.slots None []
    → BytesStand sc f (gone w h (claim_next w.machine h k.claim.chan.0) (done (driver_of w h.0) (claim_seen g)))
found_bytes sc f w h o s rest k few (Some g) granted is =
    let m = claim_next w.machine h k.claim.chan.0 in
    subst (λ (went : Went). BytesStand sc f (gone w h m went)) (sym (busy_is sc f w h o s rest g k)) (refused_bytes sc f w h o s rest m (refusals.ChannelBusy g) k (next_so w h k.claim.chan))
found_bytes sc f w h o s rest k few None free is =
    let m = claim_next w.machine h k.claim.chan.0 in
    let next = next_so w h k.claim.chan in
    let channel = channels_by_place.claim w.machine h k.claim.chan.0 k.here.now.flat.world.machine few free in
    claimed_bytes sc f w h o s rest m (done (driver_of w h.0) seen.Claimed) k next (record {
      was = free;
      few = few;
      channel = channel.channel;
      grantee = channel.grantee;
      unset = ap registers (next.stays.queues h.0) ∙ none_registers (queue_of w.machine h.0) (its_quiet sc f w h o s rest k);
    }) (lent_so sc f w h o s rest k) is

-- ---- the event

claim_goes : (sc : Scenario) (f : List ℕ) (w : WorldState) (h : HartNo) (o : Op) (s : Step) (rest : List Step) → IsClaiming sc f w h o s rest → Goes sc f w (events.Issue h)
claim_goes sc f w h o s rest k =
    let d = driver_of w h.0 in
    let c = k.claim in
    let chan = c.chan in
    let m = claim_next w.machine h chan.0 in
    let went = done d (claim_seen (grantee_of w.machine chan.0)) in
    let nx : next_of d ≡ nexts.Claim chan = next_work d o (s ∷ rest) k.hand k.phase k.rest_is ∙ ap (λ (t : Step). next_act t.act) (step_is d.fixed d.lots s rest c) in
    let is : outcome w (events.Issue h) ≡ goes w h m went w.slots None [] = outcome_is w h (nexts.Claim chan) nx ∙ claim_is w h chan in
    let src = its_member sc f w h o s rest c.reads k c.source_is.here in
    let few : chan.0 < 4 = subst (λ (n : ChanNo). n.0 < 4) c.source_is.chan_is (member_lot sc f w h d.lots c.reads src).channel in
    goes_go sc f w (events.Issue h) h m went w.slots None [] k.here.now.may is
    (λ none. goes_silent sc f [] (gone w h m went) refl (found_bytes sc f w h o s rest k few (grantee_of w.machine chan.0) refl is))

-- ---- whichever it is

lots_claim : OfLots ≡ OfClaim → ⊥
lots_claim e = absurd cc

channel_claim : OfChannel ≡ OfClaim → ⊥
channel_claim e = absurd cc

lots_kind : {A : Type 0} (s t : Step) → s ≡ t → kind_of_act s.act ≡ OfClaim → kind_of_act t.act ≡ OfLots → A
lots_kind s t same is lots = absurd (lots_claim (sym lots ∙ ap (λ (k : Step). kind_of_act k.act) (sym same) ∙ is))

channel_kind : {A : Type 0} (s t : Step) → s ≡ t → kind_of_act s.act ≡ OfClaim → kind_of_act t.act ≡ OfChannel → A
channel_kind s t same is channel = absurd (channel_claim (sym channel ∙ ap (λ (k : Step). kind_of_act k.act) (sym same) ∙ is))

claiming_step : (f : DriverConfig) (lots : List Lot) (s : Step) (rest : List Step) → kind_of_act s.act ≡ OfClaim → StepGoes f lots s rest → IsClaim f lots s rest
claiming_step f lots s rest kind (Claims is) = is
claiming_step f lots s rest kind (Registers is) = channel_kind s _ is.step kind refl
claiming_step f lots s rest kind (Polls is) = channel_kind s _ is.step kind refl
claiming_step f lots s rest kind (Stores is) = absurd (lots_claim (ap kind_of_act (sym is.act) ∙ kind))
claiming_step f lots s rest kind (TakesTarget is) = lots_kind (record s { first = turns.Stay }) _ is.goes.step kind refl
claiming_step f lots s rest kind (TakesSource is) = lots_kind (record s { first = turns.Stay }) _ is.goes.step kind refl
claiming_step f lots s rest kind (Loads is) = lots_kind s _ is.step kind refl
claiming_step f lots s rest kind (WritesBack is) = lots_kind s _ is.step kind refl
claiming_step f lots s rest kind (Drops is) = lots_kind s _ is.step kind refl
claiming_step f lots s rest kind (Gives is) = lots_kind s _ is.step kind refl
claiming_step f lots s rest kind (Fences is) = lots_kind s _ is.step kind refl
claiming_step f lots s rest kind (Ends is) = lots_kind s _ is.step kind refl
claiming_step f lots s rest kind (Zeroes is) = lots_kind s _ is.step kind refl
claiming_step f lots s rest kind (Flushes is) = lots_kind s _ is.step kind refl
claiming_step f lots s rest kind (Settles is) = lots_kind s _ is.step kind refl
claiming_step f lots s rest kind (GivesArea is) = lots_kind s _ is.step kind refl
claiming_step f lots s rest kind (TakesBack is) = lots_kind s _ is.step kind refl
claiming_step f lots s rest kind (Marks is) = lots_kind s _ is.step kind refl
claiming_step f lots s rest kind (Posts is) = lots_kind s _ is.step kind refl

rest_by : (sc : Scenario) (f : List ℕ) (w : WorldState) (h : HartNo) (o : Op) (rest : List Step) → IsHere sc f w h → in_hand (driver_of w h.0) ≡ Some o → is_lending o ≡ true → (driver_of w h.0).phase ≡ Work → (driver_of w h.0).rest ≡ rest
    → PlanGoes (driver_of w h.0).fixed (driver_of w h.0).lots rest → ((driver_of w h.0).fixed.light ≡ true → EndsOne rest) → kind_of_next rest ≡ OfClaim → Goes sc f w (events.Issue h)
rest_by sc f w h o [] here hand lends phase all plan one kind = absurd (lots_claim kind)
rest_by sc f w h o (s ∷ rest) here hand lends phase all plan one kind = claim_goes sc f w h o s rest (record {
  here = here;
  hand = hand;
  lends = lends;
  phase = phase;
  rest_is = all;
  claim = its_claim;
  left = plan_next (driver_of w h.0).fixed (driver_of w h.0).lots s rest plan (ap (λ (t : Step). is_poll t.act) (step_is (driver_of w h.0).fixed (driver_of w h.0).lots s rest its_claim));
  one = one;
})
  where
    its_claim : IsClaim (driver_of w h.0).fixed (driver_of w h.0).lots s rest
    its_claim = claiming_step (driver_of w h.0).fixed (driver_of w h.0).lots s rest kind plan.0

pub claims_go : ClaimsAreFlat
claims_go sc f w h o now hand lends phase kind =
    let here = here_by sc f w h now in
    let d = driver_of w h.0 in
    let plan = at_work d o (now.flat.bytes.drives h.0 here.lt) hand lends phase in
    rest_by sc f w h o d.rest here hand lends phase refl plan.goes plan.one kind
