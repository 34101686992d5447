use Rattle.std.proofs.Common.{ℕ, List, [], ◌∷◌, ◌++◌, map, ap, sym, ◌∙◌, arith}
use Rattle.std.specs.List.{range_with_len}
use Rattle.std.proofs.lemmas.List.FromFn.{map-range_with_len_more}
use Rattle.nc_rules.specs.Driver.{DriverState}
use Rattle.nc_rules.specs.Start.{first_driver}
use Rattle.nc_rules.specs.World.{hart}
use Rattle.nc_world.proofs.setup.drivers_of.Goals as goal

pub loop-h-preserved : goal.loop-h-preserved
loop-h-preserved c =
    let f = λ (h : ℕ). first_driver c.args.sc.now (hart h) in
    let n = c.loop-h.h in
    c.in_ok-push.ensures.items ∙ ap (λ (ds : List DriverState). ds ++ c.in_ok-new.field-0 ∷ []) c.loop-h.invariant
    ∙ ap (λ (d : DriverState). map f (range_with_len 0 n) ++ d ∷ []) c.in_ok-new.ensures ∙ sym (map-range_with_len_more f 0 n n (omega arith))
