-- Finishing rounds behind a history, as they are made.
use Rattle.std.proofs.Common.{◌≡◌, ℕ, zero, suc, ◌+◌, ◌-◌, ◌≤◌, ◌<◌, Bool, true, false, List, [], ◌∷◌, ◌++◌, length, take, Some, None, refl, sym, ap, ◌∙◌, arith, length-append, append_assoc, append-nil}
use Rattle.std.specs.Prelude.{if◌then◌else◌, Option}
use Rattle.nc_scen.specs.declared.events.Event.{Event}
use Rattle.nc_scen.specs.declared.scenario.Scenario.{Scenario}
use Rattle.nc_rules.specs.Events.{enabled}
use Rattle.nc_rules.specs.Next.{next}
use Rattle.nc_rules.specs.Run.{after}
use Rattle.nc_rules.specs.Schedule.{begun, rounds, sched}
use Rattle.nc_rules.specs.Start.{first_machine, first_driver, memory}
use Rattle.nc_rules.specs.World.{WorldState, start, first_owners}
use Rattle.nc_sched.specs.declared.sched.Phase.TheVariants as phases
use Rattle.nc_sched.specs.Stands.{Stand, to_come, is_done, harts_of}
use Rattle.nc_sched.proofs.Coming.{to_come-rounds}
use Rattle.nc_world.specs.WorldView.{answer}
use Rattle.nc_world.specs.declared.world.Stepped.{Stepped}
use Rattle.nc_world.specs.declared.world.Stepped.TheVariants.{Done, Skipped}
use Rattle.nc_turns.specs.Played.{finished}
use Rattle.nc_turns.specs.Threads.{world_of}
use Rattle.nc_turns.proofs.Runs.{world-push}

start_finished : (sc : Scenario) (es : List Event) → start (finished sc es) ≡ start sc
unfolding start first_machine first_owners memory first_driver
start_finished sc es = refl

take-onto : (n : ℕ) (es fs : List Event) → length es ≤ n → take n (es ++ fs) ≡ es ++ take (n - length es) fs
take-onto n [] fs le = let same : n - 0 ≡ n = omega arith in ap (λ k. take k fs) (sym same)
take-onto zero (e ∷ es) fs le = absurd (omega (arith, le))
take-onto (suc n) (e ∷ es) fs le =
    let same : suc n - length (e ∷ es) ≡ n - length es = omega arith in
    ap (λ xs. e ∷ xs) (take-onto n es fs (omega (arith, le))) ∙ ap (λ k. e ∷ (es ++ take k fs)) (sym same)

-- the schedule of a history with finishing rounds: the rounds follow the history's run
sched_finished : (sc : Scenario) (es : List Event) → length es ≤ sc.limit → sched (finished sc es) ≡ es ++ take (sc.limit - length es) (rounds (length sc.harts) sc.limit (world_of sc es))
unfolding sched
sched_finished sc es le =
    take-onto sc.limit es (rounds (length sc.harts) sc.limit (after (start (finished sc es)) es)) le
    ∙ ap (λ (w : WorldState). es ++ take (sc.limit - length es) (rounds (length sc.harts) sc.limit (after w es))) (start_finished sc es)

-- what is made so far of the history with its rounds, and what is to come
pub record Adding (sc : Scenario) (old es : List Event) (s : Stand) (last : Option Stepped) : Type 0 where
  pub whole : es ++ to_come sc s (world_of sc es) (is_done last) ≡ sched (finished sc old)
  pub room : length es + s.left ≤ sc.limit

pub adding_start : (sc : Scenario) (es : List Event) (s : Stand) (limit turns : ℕ) → limit ≡ sc.limit → length es ≡ turns → length es ≤ sc.limit
    → s ≡ record { left = limit - turns; phase = phases.Round 0 false; generator = begun 0 } → Adding sc es es s None
adding_start sc es s limit turns is fresh le at =
    let left : limit - turns ≡ sc.limit - length es = ap (λ n. n - turns) is ∙ ap (λ n. sc.limit - n) (sym fresh) in
    let come : to_come sc s (world_of sc es) false ≡ take (limit - turns) (rounds (harts_of sc) sc.limit (world_of sc es)) =
    ap (λ (v : Stand). to_come sc v (world_of sc es) false) at ∙ to_come-rounds sc (limit - turns) sc.limit (begun 0) (world_of sc es) (omega (arith, left)) in
    record {
      whole = ap (λ fs. es ++ fs) (come ∙ ap (λ k. take k (rounds (length sc.harts) sc.limit (world_of sc es))) left) ∙ sym (sched_finished sc es le);
      room = omega (arith, ap (λ (v : Stand). v.left) at, left, le);
    }

done_is : (t : Bool) → is_done (Some (if t then Done else Skipped)) ≡ t
done_is true = refl
done_is false = refl

pub adding_on : (sc : Scenario) (old es fs : List Event) (s t : Stand) (last : Option Stepped) (a : Stepped) (e : Event)
    → to_come sc s (world_of sc es) (is_done last) ≡ e ∷ to_come sc t (next (world_of sc es) e) (enabled (world_of sc es) e)
    → t.left < s.left → fs ≡ es ++ e ∷ [] → a ≡ answer (world_of sc es) e → Adding sc old es s last → Adding sc old fs t (Some a)
adding_on sc old es fs s t last a e come fewer grown answered h =
    let w = world_of sc es in
    let done : is_done (Some a) ≡ enabled w e = ap (λ b. is_done (Some b)) answered ∙ done_is (enabled w e) in
    let world : world_of sc fs ≡ next w e = ap (world_of sc) grown ∙ world-push sc es e in
    let rest : to_come sc t (world_of sc fs) (is_done (Some a)) ≡ to_come sc t (next w e) (enabled w e) =
    ap (λ (v : WorldState). to_come sc t v (is_done (Some a))) world ∙ ap (to_come sc t (next w e)) done in
    record {
      whole = ap (λ gs. fs ++ gs) rest ∙ ap (λ gs. gs ++ to_come sc t (next w e) (enabled w e)) grown ∙ append_assoc es (e ∷ []) (to_come sc t (next w e) (enabled w e)) ∙ ap (λ gs. es ++ gs) (sym come) ∙ h.whole;
      room = omega (arith, ap (λ gs. length gs) grown, length-append es (e ∷ []), fewer, h.room);
    }
