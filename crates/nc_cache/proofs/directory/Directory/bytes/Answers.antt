use Rattle.std.proofs.Common.{◌<◌, length, sym, subst}
use Rattle.std.proofs.lemmas.List.{get_or_read}
use Rattle.nc_cache.specs.declared.directory.Row.{Row}
use Rattle.nc_cache.specs.Directory.{no_row}
use Rattle.nc_cache.specs.Rows.{IsAt, IsGap}
use Rattle.nc_cache.proofs.RowCells.{line_below}
use Rattle.nc_cache.proofs.RowMaps.{get-at, get-gap}
use Rattle.nc_cache.proofs.directory.Directory.bytes.Goals as goal

pub get-requires : goal.get-requires
get-requires c =
    let rows = c.self.inside.rows.items in
    let cells = c.self.inside.slab.cells in
    let at : IsAt rows c.args.block.0 c.in-Ok.at = subst (λ rs. IsAt rs c.args.block.0 c.in-Ok.at) c.deref.ensures.value c.in-Ok.ensures.found in
    let e = get_or_read rows c.in-Ok.at c.index-row.result.now at.within c.index-row.ensures no_row in
    subst (λ (k : Row). k.line < length cells) (sym e) (line_below rows c.self.inside.slab.free (length cells) c.self.invariant.cells c.in-Ok.at at.within)

pub returns-in-Ok-clause-some : goal.returns-in-Ok-clause-some
returns-in-Ok-clause-some c =
    let rows = c.self.inside.rows.items in
    let cells = c.self.inside.slab.cells in
    let at : IsAt rows c.args.block.0 c.in-Ok.at = subst (λ rs. IsAt rs c.args.block.0 c.in-Ok.at) c.deref.ensures.value c.in-Ok.ensures.found in
    let e = get_or_read rows c.in-Ok.at c.index-row.result.now at.within c.index-row.ensures no_row in
    rw (c.get.ensures, e, ← c.self.view_is) (_, get-at cells rows c.args.block.0 c.in-Ok.at c.self.invariant.rising at)

pub returns-in-Err-clause-none : goal.returns-in-Err-clause-none
returns-in-Err-clause-none c =
    let rows = c.self.inside.rows.items in
    let gap : IsGap rows c.args.block.0 c.in-Err.field-0 = subst (λ rs. IsGap rs c.args.block.0 c.in-Err.field-0) c.deref.ensures.value c.in-Err.ensures.absent in
    rw (← c.self.view_is) (get-gap c.self.inside.slab.cells rows c.args.block.0 c.in-Err.field-0 gap)
