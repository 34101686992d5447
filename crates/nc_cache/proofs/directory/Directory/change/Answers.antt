use Rattle.std.proofs.Common.{◌≡◌, ◌∙◌, ap, sym, subst, true, false}
use Rattle.std.specs.Prelude.{is_some}
use Rattle.std.specs.FinMap as map
use Rattle.nc_cache.specs.Directory.{DirectoryState}
use Rattle.nc_cache.specs.Rows.{IsGap}
use Rattle.nc_cache.proofs.RowMaps.{get-gap}
use Rattle.nc_cache.proofs.directory.Directory.change.Goals as goal

pub unreachable-requires : goal.unreachable-requires
unreachable-requires c =
    let rows = c.self.inside.rows.items in
    let gap : IsGap rows c.args.block.0 c.in-Err.field-0 = subst (λ rs. IsGap rs c.args.block.0 c.in-Err.field-0) c.deref.ensures.value c.in-Err.ensures.absent in
    let none = ap (λ (d : DirectoryState). map.get d.lines c.args.block.0) (sym c.self.view_is) ∙ get-gap c.self.inside.slab.cells rows c.args.block.0 c.in-Err.field-0 gap in
    let p : false ≡ true = sym (ap is_some none) ∙ c.requires.there in cc
