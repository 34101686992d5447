use Rattle.std.proofs.Common.{◌∙◌, ap, sym, subst}
use Rattle.std.specs.FinMap as map
use Rattle.nc_cache.specs.Directory.{DirectoryState}
use Rattle.nc_cache.specs.Rows.{IsGap}
use Rattle.nc_cache.proofs.RowMaps.{get-gap, without-absent}
use Rattle.nc_cache.proofs.directory.Directory.remove.Goals as goal

pub returns-in_default-clause-lines : goal.returns-in_default-clause-lines
returns-in_default-clause-lines c =
    let rows = c.self.inside.rows.items in
    let gap : IsGap rows c.args.block.0 c.in_default.field-0 = subst (λ rs. IsGap rs c.args.block.0 c.in_default.field-0) c.deref.ensures.value c.in_default.ensures.absent in
    without-absent c.args.self.now.lines c.args.block.0 (ap (λ (d : DirectoryState). map.get d.lines c.args.block.0) (sym c.self.view_is) ∙ get-gap c.self.inside.slab.cells rows c.args.block.0 c.in_default.field-0 gap)
