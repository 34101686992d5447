use Rattle.std.proofs.Common.{◌∷◌, [], ◌++◌, sym, ap, ◌∙◌, arith}
use Rattle.std.specs.Prelude.{map}
use Rattle.std.specs.List.{range_with_len}
use Rattle.std.proofs.lemmas.List.FromFn.{map-range_with_len_more}
use Rattle.nc_scen.specs.declared.scenario.HartSpec.{HartSpec}
use Rattle.nc_gen.specs.Generator.{hart}
use Rattle.nc_gen.proofs.generator.hart_list.Goals as goal

pub loop-h-preserved : goal.loop-h-preserved
loop-h-preserved c =
    c.in_ok-push.ensures.items
    ∙ ap (λ hs. hs ++ c.in_ok-hart.field-0 ∷ []) c.loop-h.invariant
    ∙ ap (λ (x : HartSpec). map (hart c.args.harts) (range_with_len 0 c.loop-h.h) ++ x ∷ []) c.in_ok-hart.ensures
    ∙ sym (map-range_with_len_more (hart c.args.harts) 0 c.loop-h.h c.loop-h.h (omega arith))
