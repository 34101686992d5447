use Rattle.std.proofs.Common.{◌≡◌, ◌≤◌, ◌∷◌, refl, length, sym, ap, ◌∙◌, subst, arith}
use Rattle.nc_scen.specs.declared.scenario.Scenario.{Scenario}
use Rattle.nc_rules.specs.Events.{enabled}
use Rattle.nc_rules.specs.Next.{next}
use Rattle.nc_rules.specs.World.{WorldState}
use Rattle.nc_sched.specs.Stands.{to_come, is_done}
use Rattle.nc_turns.specs.States.{Past}
use Rattle.nc_turns.specs.Threads.{world_of}
use Rattle.nc_turns.proofs.Rounds.{adding_start, adding_on}
use Rattle.nc_turns.proofs.done.DoneState.add_rounds.Goals as goal

pub adding-init : goal.adding-init
adding-init g c =
    let sc = g.N.SceneName.scene in
    let old = c.args.self.now in
    let done = c.self.invariant in
    let few : length old.events ≤ sc.limit = omega (arith, done.run.few, ap (λ (p : Past). length p.events) c.self.view_is) in (
      adding_start sc old.events c.rounds-rounds.result c.self.inside.limit c.self.inside.turns done.limit_is (c.requires.fresh ∙ sym (ap (λ (p : Past). p.turns) c.self.view_is)) few c.rounds-rounds.ensures,
      refl,
    )

pub adding-preserved : goal.adding-preserved
adding-preserved g c =
    let sc = g.N.SceneName.scene in
    let es = c.adding.self.events in
    let w = world_of sc es in
    let s = c.adding.rounds in
    let t = c.next.new.self in
    let last = c.adding.last in
    let e = c.in-Some.e in
    let here = subst (λ (v : WorldState). to_come c.args.sc.now s v (is_done last) ≡ e ∷ to_come c.args.sc.now t (next v e) (enabled v e)) c.world.ensures.state c.in-Some.ensures.event in
    let come = subst (λ (x : Scenario). to_come x s w (is_done last) ≡ e ∷ to_come x t (next w e) (enabled w e)) c.requires.scene here in (
      adding_on sc c.args.self.now.events es c.append.new.self.events s t last c.in_ok-stepped.stepped e come c.in-Some.ensures.fewer c.in_ok-stepped.ensures.events c.in_ok-stepped.ensures.answer c.adding.invariant.0,
      c.in_ok-stepped.ensures.turns ∙ c.adding.invariant.1,
    )
