use Rattle.std.proofs.Common.{ap, ◌∙◌}
use Rattle.nc_model.specs.Touches.{piece_touch}
use Rattle.nc_num.specs.declared.places.Span.{Span}
use Rattle.nc_rules.specs.EventTouches.{owner_of}
use Rattle.nc_world.specs.Inside.{state_of}
use Rattle.nc_world.proofs.parts.Parts.piece_touch.Goals as goal

pub returns : goal.returns
returns c =
    let w = state_of c.args.self.now in
    c.hart_touch.ensures ∙ ap (λ (pool : Span). piece_touch (owner_of w) w.grants pool c.args.h c.args.access c.args.span c.args.kind) c.requires.sound.pool
