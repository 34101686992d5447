use Rattle.std.proofs.Common.{◌<◌, sym, subst, arith}
use Rattle.nc_dmapool.specs.Layouts.{Layout, place_count}
use Rattle.nc_dmapool.proofs.Offsets.{raw_within}
use Rattle.nc_dmapool.proofs.layout.Layout.offset.Goals as goal

pub overflow_add-result : goal.overflow_add-result
overflow_add-result c =
    omega (arith, raw_within _ c.self.inside.step c.self.inside.count c.args.n c.self.invariant (subst (λ (l : Layout). c.args.n < place_count l) (sym c.self.view_is) c.requires))

pub returns-clause-within : goal.returns-clause-within
returns-clause-within c =
    raw_within _ c.self.inside.step c.self.inside.count c.args.n c.self.invariant (subst (λ (l : Layout). c.args.n < place_count l) (sym c.self.view_is) c.requires)
