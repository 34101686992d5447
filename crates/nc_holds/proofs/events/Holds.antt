-- The world behind an event holds what worlds hold, and what an event moves may be moved.
use Rattle.std.proofs.Common.{◌≡◌, ℕ, ◌<◌, Bool, true, false, List, [], length, refl, sym, ap, ◌∙◌, subst, arith, Option, Some, None}
use Rattle.std.specs.Prelude.{if◌then◌else◌}
use Rattle.std.proofs.lemmas.Bool.{false≢true}
use Rattle.std.proofs.lemmas.List.Elements.{All-nil}
use Rattle.nc_num.specs.declared.names.HartNo.{HartNo}
use Rattle.nc_num.specs.declared.places.Span.{Span}
use Rattle.nc_model.specs.declared.owners.Owner.{Owner}
use Rattle.nc_model.specs.declared.touches.Touch.{Touch}
use Rattle.nc_scen.specs.Events.{IsThere}
use Rattle.nc_scen.specs.declared.events.Event.{Event}
use Rattle.nc_rules.specs.Machine.{MachineState}
use Rattle.nc_rules.specs.Turns.{moved}
use Rattle.nc_rules.specs.Driver.{DriverState, Went}
use Rattle.nc_rules.specs.Events.{enabled}
use Rattle.nc_rules.specs.Next.{touched_by, after_outcome, performed, counted, next}
use Rattle.nc_rules.specs.Outcomes.{Outcome, outcome}
use Rattle.nc_rules.specs.Sound.{IsMachine}
use Rattle.nc_rules.specs.World.{WorldState, driver_of, with_moves, one_more}
use Rattle.nc_calls.specs.MachineLaws.{SameShape}
use Rattle.nc_scripts.specs.Scripts.{IsRangeIn}
use Rattle.nc_scripts.proofs.Lists.{all_to}
use Rattle.nc_holds.specs.Holds.{DriverHolds, IsHeldGrant, Holds, held_of, AreBack, MayMove, mover}
use Rattle.nc_holds.proofs.events.Given.{OwnerLaws, IsEvent, EventLaws}
use Rattle.nc_holds.proofs.events.Calls.{call_moves}
use Rattle.nc_holds.proofs.events.From.{OwnHolds, OwnWorld, GoesOn, gone_on, everyone_from, fixed_in, lots_in, goes_stays}
use Rattle.nc_holds.proofs.events.Steps.{OutcomeIs, Runs, Goes, outcome_is}

-- ---- counts

own_counted : (w : WorldState) (d : DriverState) (h a b : ℕ) → OwnHolds w d h → OwnHolds (record w { events = a; touches = b }) d h
own_counted w d h a b k = record {
  driver = k.driver;
  me = k.me;
  setting = record { block = k.setting.block; pool = k.setting.pool; boxes = k.setting.boxes; pages = k.setting.pages; words = k.setting.words };
  regions = k.regions;
  turns = k.turns;
  waits = k.waits;
  agrees = k.agrees;
}

world_counted : (w : WorldState) (a b : ℕ) → OwnWorld w → OwnWorld (record w { events = a; touches = b })
world_counted w a b k = record {
  drivers = k.drivers;
  owners = k.owners;
  each = λ h lt. own_counted w (driver_of w h) h a b (k.each h lt);
  alike = k.alike;
  grants = all_to (IsHeldGrant w) (IsHeldGrant (record w { events = a; touches = b })) w.grants k.grants (λ x is. record { hart = is.hart; is = is.is });
}

touched : (w : WorldState) (t : Option Touch) → OwnWorld w → OwnWorld (counted (touched_by w t))
touched w None k = world_counted w (one_more w.events) w.touches k
touched w (Some t) k = world_counted w (one_more w.events) (one_more w.touches) k

-- ---- the machine alone

own_run : (w : WorldState) (machine : MachineState) (h : ℕ) → SameShape w.machine machine → DriverHolds w h → OwnHolds (with_moves (record w { machine = machine }) (moved [] None)) (driver_of w h) h
own_run w machine h s k = record {
  driver = rw (s.ram, s.harts) k.driver;
  me = k.me;
  setting = record { block = s.size ∙ k.setting.block; pool = s.pool ∙ k.setting.pool; boxes = s.boxes ∙ k.setting.boxes; pages = k.setting.pages; words = k.setting.words };
  regions = k.regions;
  turns = k.turns;
  waits = k.waits;
  agrees = k.agrees;
}

runs_stays : (w : WorldState) (machine : MachineState) → Holds w → SameShape w.machine machine → OwnWorld (with_moves (record w { machine = machine }) (moved [] None))
runs_stays w machine k s = record {
  drivers = k.drivers ∙ sym s.harts;
  owners = k.owners ∙ sym s.ram;
  each = λ h lt. own_run w machine h s (k.each h (subst (λ (n : ℕ). h < n) s.harts lt));
  alike = λ a b a_lt b_lt. k.alike a b (subst (λ (n : ℕ). a < n) s.harts a_lt) (subst (λ (n : ℕ). b < n) s.harts b_lt);
  grants = all_to (IsHeldGrant w) (IsHeldGrant (with_moves (record w { machine = machine }) (moved [] None))) w.grants k.grants (λ x is. record { hart = rw s.harts is.hart; is = is.is });
}

-- ---- every event

outcome_stays : (laws : OwnerLaws) (w : WorldState) (by : Option HartNo) (o : Outcome) → Holds w → OutcomeIs w by o → OwnWorld (counted (after_outcome w o))
outcome_stays laws w by o k (Runs machine touch records s e) =
    subst (λ (x : Outcome). OwnWorld (counted (after_outcome w x))) (sym e) (touched (with_moves (record w { machine = machine }) (moved [] None)) touch (runs_stays w machine k s))
outcome_stays laws w by o k (Goes h machine went now touch records is go e) =
    subst (λ (x : Outcome). OwnWorld (counted (after_outcome w x))) (sym e) (touched (gone_on w h.0 machine now went) touch (goes_stays laws w h.0 machine now went k go))

next_if : (w : WorldState) (x : WorldState) (t : Bool) → t ≡ true → (if t then x else w) ≡ x
next_if w x true e = refl
next_if w x false e = absurd (false≢true e)

pub next_is : (w : WorldState) (e : Event) → enabled w e ≡ true → next w e ≡ counted (after_outcome w (outcome w e))
unfolding next performed
next_is w e may = next_if w (counted (after_outcome w (outcome w e))) (enabled w e) may

same_if : (w : WorldState) (x : WorldState) (t : Bool) → t ≡ false → (if t then x else w) ≡ w
same_if w x true e = absurd (false≢true (sym e))
same_if w x false e = refl

pub next_same : (w : WorldState) (e : Event) → enabled w e ≡ false → next w e ≡ w
unfolding next
next_same w e off = same_if w (counted (performed w e)) (enabled w e) off

own_next : (laws : OwnerLaws) (w : WorldState) (e : Event) → IsEvent w e → OwnWorld (next w e)
own_next laws w e is = subst (λ (x : WorldState). OwnWorld x) (sym (next_is w e is.may)) (outcome_stays laws w (mover e) (outcome w e) is.holds (outcome_is w e is))

-- an event changes no number of harts
harts_after : (w : WorldState) (by : Option HartNo) (o : Outcome) → OutcomeIs w by o → length (counted (after_outcome w o)).machine.harts ≡ length w.machine.harts
harts_after w by o (Runs machine touch records s e) =
    ap (λ (x : Outcome). length (counted (after_outcome w x)).machine.harts) e ∙ harts_touched (with_moves (record w { machine = machine }) (moved [] None)) touch ∙ s.harts
  where
    harts_touched : (v : WorldState) (t : Option Touch) → length (counted (touched_by v t)).machine.harts ≡ length v.machine.harts
    harts_touched v None = refl
    harts_touched v (Some t) = refl
harts_after w by o (Goes h machine went now touch records is go e) =
    ap (λ (x : Outcome). length (counted (after_outcome w x)).machine.harts) e ∙ harts_touched (gone_on w h.0 machine now went) touch ∙ go.shape.harts
  where
    harts_touched : (v : WorldState) (t : Option Touch) → length (counted (touched_by v t)).machine.harts ≡ length v.machine.harts
    harts_touched v None = refl
    harts_touched v (Some t) = refl

harts_next : (w : WorldState) (e : Event) → IsEvent w e → length (next w e).machine.harts ≡ length w.machine.harts
harts_next w e is = ap (λ (x : WorldState). length x.machine.harts) (next_is w e is.may) ∙ harts_after w (mover e) (outcome w e) (outcome_is w e is)

pub event_holds : (laws : OwnerLaws) (more : EventLaws) (w : WorldState) (e : Event) → IsEvent w e → Holds (next w e)
event_holds laws more w e is =
    let own = own_next laws w e is in
    let n = harts_next w e is in
    record {
      drivers = own.drivers;
      owners = own.owners;
      each = λ h lt. each_by h (own.each h lt) (subst (λ (k : ℕ). h < k) n lt);
      alike = own.alike;
      grants = own.grants;
      messages = more.messages w e is;
    }
  where
    each_by : (h : ℕ) → OwnHolds (next w e) (driver_of (next w e) h) h → h < length w.machine.harts → DriverHolds (next w e) h
    each_by h k lt = record {
      driver = k.driver;
      me = k.me;
      setting = k.setting;
      regions = k.regions;
      loads = more.loads w e h is lt;
      turns = k.turns;
      waits = k.waits;
      agrees = k.agrees;
      tokens = more.tokens w e h is lt;
      rest = more.rests w e h is lt;
    }

holds_if : (laws : OwnerLaws) (more : EventLaws) (w : WorldState) (e : Event) (t : Bool) → enabled w e ≡ t → IsMachine w.machine → Holds w → IsThere (length w.machine.harts) w.machine.size (length w.machine.cache.ram) e → Holds (next w e)
holds_if laws more w e true may sound k there = event_holds laws more w e (record { sound = sound; holds = k; there = there; may = may })
holds_if laws more w e false off sound k there = subst (λ (x : WorldState). Holds x) (sym (next_same w e off)) k

pub next_holds : (laws : OwnerLaws) (more : EventLaws) (w : WorldState) (e : Event) → IsMachine w.machine → Holds w → IsThere (length w.machine.harts) w.machine.size (length w.machine.cache.ram) e → Holds (next w e)
next_holds laws more w e sound k there = holds_if laws more w e (enabled w e) refl sound k there

-- ---- what it moves

none_moves : (w : WorldState) (h : HartNo) (slots : List (Option HartNo)) → MayMove w h slots (moved [] None)
none_moves w h slots = record {
  transfers = All-nil (λ (t : Span × Owner). IsRangeIn (length w.owners) t.0);
  transfers_few = omega arith;
  grants = tt;
  grants_few = omega arith;
  ended_few = omega arith;
  backs = tt;
  backs_few = omega arith;
  pages = tt;
}

goes_moves : (laws : OwnerLaws) (w : WorldState) (h : HartNo) (machine : MachineState) (now : List (Option HartNo)) (went : Went) → Holds w → GoesOn w h.0 machine now went → MayMove w h now went.moves
goes_moves laws w h machine now went k go =
    let m = call_moves laws (length w.machine.cache.ram) (length w.machine.harts) h.0 (fixed_in w h.0) (fixed_in w) (lots_in w) (held_of w h.0) now went (everyone_from w h.0 k go.there) go.call in
    let me : (fixed_in w h.0).me ≡ h = (let n = (k.each h.0 go.there).me in λ i. record { 0 = n i }) in
    let t = go.moves in
    record {
      transfers = rw k.owners t.transfers;
      transfers_few = t.transfers_few;
      grants = rw k.owners m.grants;
      grants_few = t.grants_few;
      ended_few = t.ended_few;
      backs = subst (λ (x : HartNo). AreBack x now went.moves.backs) me m.backs;
      backs_few = t.backs_few;
      pages = m.pages;
    }

same_some : (g h : HartNo) → ◌≡◌ {A = Option HartNo} (Some g) (Some h) → g ≡ h
same_some g h e = cc

outcome_moves : (laws : OwnerLaws) (w : WorldState) (by : Option HartNo) (h : HartNo) (o : Outcome) → Holds w → OutcomeIs w by o → by ≡ Some h → MayMove w h o.slots o.moves
outcome_moves laws w by h o k (Runs machine touch records s e) at = subst (λ (x : Outcome). MayMove w h x.slots x.moves) (sym e) (none_moves w h w.slots)
outcome_moves laws w by h o k (Goes g machine went now touch records is go e) at =
    subst (λ (x : Outcome). MayMove w h x.slots x.moves) (sym e)
    (subst (λ (x : HartNo). MayMove w x now went.moves) (same_some g h (sym is ∙ at)) (goes_moves laws w g machine now went k go))

pub moves_may : (laws : OwnerLaws) (w : WorldState) (e : Event) (h : HartNo) → IsMachine w.machine → Holds w → IsThere (length w.machine.harts) w.machine.size (length w.machine.cache.ram) e → enabled w e ≡ true → mover e ≡ Some h
    → MayMove w h (outcome w e).slots (outcome w e).moves
moves_may laws w e h sound k there may at =
    outcome_moves laws w (mover e) h (outcome w e) k (outcome_is w e (record { sound = sound; holds = k; there = there; may = may })) at
