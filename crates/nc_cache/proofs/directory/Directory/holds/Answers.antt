use Rattle.std.specs.Prelude.{Option}
use Rattle.std.proofs.Common.{sym, ap, subst}
use Rattle.std.proofs.lemmas.List.{get_or_read}
use Rattle.nc_cache.specs.declared.line.Line.{Line}
use Rattle.nc_cache.specs.Cache.{held_by}
use Rattle.nc_cache.specs.Directory.{no_row}
use Rattle.nc_cache.specs.Rows.{IsAt, IsGap}
use Rattle.nc_cache.proofs.RowMaps.{get-at, get-gap}
use Rattle.nc_cache.proofs.directory.Directory.holds.Goals as goal

pub returns-in-Ok : goal.returns-in-Ok
returns-in-Ok c =
    let rows = c.self.inside.rows.items in
    let cells = c.self.inside.slab.cells in
    let at : IsAt rows c.args.block.0 c.in-Ok.at = subst (λ rs. IsAt rs c.args.block.0 c.in-Ok.at) c.deref.ensures.value c.in-Ok.ensures.found in
    let e = get_or_read rows c.in-Ok.at c.index.result.now at.within c.index.ensures no_row in
    rw (c.holds.ensures, c.held_of.ensures, e, ← c.self.view_is) (ap (λ (o : Option Line). held_by o c.args.h.0) (sym (get-at cells rows c.args.block.0 c.in-Ok.at c.self.invariant.rising at)))

pub returns-in-Err : goal.returns-in-Err
returns-in-Err c =
    let rows = c.self.inside.rows.items in
    let gap : IsGap rows c.args.block.0 c.in-Err.field-0 = subst (λ rs. IsGap rs c.args.block.0 c.in-Err.field-0) c.deref.ensures.value c.in-Err.ensures.absent in
    rw (← c.self.view_is) (ap (λ (o : Option Line). held_by o c.args.h.0) (sym (get-gap c.self.inside.slab.cells rows c.args.block.0 c.in-Err.field-0 gap)))
