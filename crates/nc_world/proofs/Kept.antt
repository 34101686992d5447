-- What a world keeps through each event, and what may be moved by it.
use Rattle.std.proofs.Common.{◌≡◌, ℕ, List, length, refl, sym, ap, ◌∙◌, subst}
use Rattle.std.specs.Prelude.{All, Option, Some, Result, Ok, Err}
use Rattle.nc_num.specs.declared.names.HartNo.{HartNo}
use Rattle.nc_num.specs.declared.names.NoMemory.{NoMemory}
use Rattle.nc_num.specs.declared.places.Span.{Span}
use Rattle.nc_model.specs.declared.owners.Grant.{Grant}
use Rattle.nc_model.specs.declared.owners.Owner.{Owner}
use Rattle.nc_model.specs.declared.touches.Touch.{Touch}
use Rattle.nc_coherent.specs.Pages.{PageMap}
use Rattle.nc_scen.specs.declared.events.Event.{Event}
use Rattle.nc_scen.specs.declared.scenario.Scenario.{Scenario}
use Rattle.nc_scen.specs.Accepted.{IsAccepted}
use Rattle.nc_scen.specs.Events.{IsThere}
use Rattle.nc_scen.specs.Regions.{pool_of}
use Rattle.nc_rules.specs.declared.records.Record.{Record}
use Rattle.nc_rules.specs.Driver.{Went}
use Rattle.nc_rules.specs.Machine.{MachineState}
use Rattle.nc_rules.specs.Next.{next}
use Rattle.nc_rules.specs.Outcomes.{Outcome, outcome}
use Rattle.nc_rules.specs.Sound.{IsMachine}
use Rattle.nc_rules.specs.Start.{first_machine}
use Rattle.nc_rules.specs.Turns.{Moved}
use Rattle.nc_rules.specs.World.{WorldState, start}
use Rattle.nc_calls.specs.MachineLaws.{SameShape}
use Rattle.nc_scripts.specs.Drivers.{EachStaysDriver}
use Rattle.nc_scripts.specs.Scripts.{IsRangeIn}
use Rattle.nc_holds.specs.Holds.{MayMove, MayMovePages, CanAddAll, StartHolds, EventsKeepHolding, MovesMayBeMade, mover}
use Rattle.nc_world.specs.declared.parts.Parts.{Parts}
use Rattle.nc_world.specs.declared.world.Stepped.{Stepped}
use Rattle.nc_world.specs.Inside.{state_of, IsSound, IsStepped}
use Rattle.nc_world.specs.State.{WorldInvariant}
use Rattle.nc_world.specs.WorldView.{WorldView}
use Rattle.nc_world.proofs.Outcomes.{Goes}
use Rattle.nc_world.proofs.Shapes.{next_shape}

-- ---- what an event moves

moved_by : {w : WorldState} {e : Event} {h : HartNo} {machine : MachineState} {went : Went} {slots : List (Option HartNo)} {touch : Option Touch} {recorded : List Record}
    → Goes w e h machine went slots touch recorded → MayMove w h (outcome w e).slots (outcome w e).moves → MayMove w h slots went.moves
moved_by {w = w} {h = h} by may = subst (λ (o : Outcome). MayMove w h o.slots o.moves) by.is may

-- what hart h's driver moves may be moved in a world with these owners, grants, slot words and pages
pub may_carry : (p : Parts) {b : WorldState} {e : Event} {h : HartNo} {machine : MachineState} {went : Went} {slots words : List (Option HartNo)} {touch : Option Touch}
    {recorded : List Record} {m : Moved} → MovesMayBeMade → IsMachine p.machine.machine → IsSound p
    → IsThere (length p.machine.machine.harts) p.machine.machine.size (length p.machine.machine.cache.ram) e
    → mover e ≡ Some h → Goes (state_of p) e h machine went slots touch recorded → m ≡ went.moves → b.owners ≡ p.book.owners → b.grants ≡ p.book.grants → words ≡ slots
    → b.pages ≡ p.pages → MayMove b h words m
may_carry p {b = b} {e = e} {h = h} {slots = slots} {m = m} law machine sound there hart by moves owners grants words pages =
    let w = state_of p in
    let may : MayMove w h slots m = subst (λ (x : Moved). MayMove w h slots x) (sym moves) (moved_by by (law w e h machine sound.holds there by.may hart)) in
    record {
      transfers = subst (λ (os : List Owner). All (λ t. IsRangeIn (length os) t.0) m.transfers) (sym owners) may.transfers;
      transfers_few = may.transfers_few;
      grants = subst (λ (gs : List Grant). CanAddAll (length b.owners) gs m.grants) (sym grants) (subst (λ (os : List Owner). CanAddAll (length os) p.book.grants m.grants) (sym owners) may.grants);
      grants_few = may.grants_few;
      ended_few = may.ended_few;
      backs = rw words may.backs;
      backs_few = may.backs_few;
      pages = subst (λ (x : PageMap). MayMovePages x m.pages) (sym pages) may.pages;
    }

-- ---- the world after an event

kept_next : (p : Parts) (e : Event) → EventsKeepHolding → EachStaysDriver → IsMachine p.machine.machine → IsSound p
    → IsThere (length p.machine.machine.harts) p.machine.machine.size (length p.machine.machine.cache.ram) e → WorldInvariant (next (state_of p) e) p.size p.pool
kept_next p e law stays machine is there =
    let w = state_of p in
    let shape : SameShape w.machine (next w e).machine = next_shape w e stays machine is.holds there in
    record {
      holds = law w e machine is.holds there;
      size = is.size ∙ sym shape.size;
      pool = is.pool ∙ sym shape.pool;
    }

kept_by : (p q : Parts) (v : WorldState) → WorldInvariant v p.size p.pool → state_of q ≡ v → q.size ≡ p.size → q.pool ≡ p.pool → IsSound q
kept_by p q v is same size pool =
    subst (λ (w : WorldState). WorldInvariant w q.size q.pool) (sym same) (subst (λ (s : ℕ). WorldInvariant v s q.pool) (sym size) (subst (λ (x : Span). WorldInvariant v p.size x) (sym pool) is))

pub kept : {p q : Parts} {e : Event} (r : Result Stepped NoMemory) → EventsKeepHolding → EachStaysDriver → IsMachine p.machine.machine → IsSound p
    → IsThere (length p.machine.machine.harts) p.machine.machine.size (length p.machine.machine.cache.ram) e → IsStepped p q e r → IsSound q
kept {p = p} {q = q} {e = e} (Ok s) law stays machine is there step = kept_by p q (next (state_of p) e) (kept_next p e law stays machine is there) step.next step.size step.pool
kept {p = p} {q = q} {e = e} (Err s) law stays machine is there step = kept_by p q (state_of p) is (ap (λ (v : WorldView). v.state) step.err) step.size step.pool

-- ---- the start

machine_first : (sc : Scenario) → (start sc).machine ≡ first_machine sc
unfolding start
machine_first sc = refl

size_first : (sc : Scenario) → (first_machine sc).size ≡ sc.block_size
unfolding first_machine
size_first sc = refl

pool_first : (sc : Scenario) → (first_machine sc).pool ≡ pool_of sc
unfolding first_machine
pool_first sc = refl

pub kept_first : (sc : Scenario) (u : WorldState) (pool : Span) → StartHolds → IsAccepted sc → u ≡ start sc → pool ≡ pool_of sc → WorldInvariant u sc.block_size pool
kept_first sc u pool law accepted same is =
    subst (λ (v : WorldState). WorldInvariant v sc.block_size pool) (sym same) (record {
      holds = law sc accepted;
      size = sym (ap (λ (m : MachineState). m.size) (machine_first sc) ∙ size_first sc);
      pool = is ∙ sym (ap (λ (m : MachineState). m.pool) (machine_first sc) ∙ pool_first sc);
    })
