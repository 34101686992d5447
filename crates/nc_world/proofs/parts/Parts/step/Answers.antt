use Rattle.std.proofs.Common.{◌≡◌, sym, subst}
use Rattle.nc_calls.specs.MachineLaws.{SameShape}
use Rattle.nc_rules.specs.Next.{next}
use Rattle.nc_rules.specs.World.{WorldState}
use Rattle.nc_world.specs.Inside.{state_of}
use Rattle.nc_world.proofs.Kept.{kept}
use Rattle.nc_world.proofs.Shapes.{next_shape, on_ok}
use Rattle.nc_world.proofs.parts.Parts.step.Goals as goal

pub returns-clause-sound : goal.returns-clause-sound
returns-clause-sound c = kept c.dispatch.result c.events_keep_holding.ensures c.laws.ensures.stays c.laws.ensures.machine c.requires.sound c.requires.there c.dispatch.ensures

pub returns-clause-shape : goal.returns-clause-shape
returns-clause-shape c =
    let w = state_of c.args.self.now in
    let v = state_of c.dispatch.new.self in
    on_ok c.dispatch.result (v ≡ next w c.args.e) (SameShape w.machine v.machine)
    (λ is. subst (λ (u : WorldState). SameShape w.machine u.machine) (sym is)
    (next_shape w c.args.e c.laws.ensures.stays c.laws.ensures.machine c.requires.sound.holds c.requires.there)) c.dispatch.ensures.next
