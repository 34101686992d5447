use Rattle.std.proofs.Common.{ℕ, sym, ap, ◌∙◌}
use Rattle.std.specs.Prelude.{Some}
use Rattle.nc_env.specs.declared.CboOp.{CboOp}
use Rattle.nc_model.specs.Touches.{discard_touch, zero_touch}
use Rattle.nc_rules.specs.EventTouches.{owner_of, block_span, cbo_touch}
use Rattle.nc_world.specs.Inside.{state_of}
use Rattle.nc_world.proofs.parts.Parts.cbo_touch.Goals as goal

pub returns-in-Inval : goal.returns-in-Inval
returns-in-Inval c =
    let w = state_of c.args.self.now in
    c.hart_touch.ensures ∙ ap (λ (size : ℕ). Some (discard_touch (owner_of w) c.args.h (block_span size c.args.block.0))) c.requires.sound.size
    ∙ ap (λ (op : CboOp). cbo_touch w c.args.h op c.args.block.0) (sym c.in-Inval.is)

pub returns-in-Zero : goal.returns-in-Zero
returns-in-Zero c =
    let w = state_of c.args.self.now in
    c.hart_touch-in-Zero.ensures ∙ ap (λ (size : ℕ). zero_touch (owner_of w) w.grants c.args.h (block_span size c.args.block.0)) c.requires.sound.size
    ∙ ap (λ (op : CboOp). cbo_touch w c.args.h op c.args.block.0) (sym c.in-Zero.is)
