use Rattle.std.proofs.Common.{◌<◌, length, sym, subst}
use Rattle.std.proofs.lemmas.List.{get_or_read}
use Rattle.nc_cache.specs.declared.directory.Row.{Row}
use Rattle.nc_cache.specs.Directory.{no_row}
use Rattle.nc_cache.proofs.RowCells.{line_below}
use Rattle.nc_cache.proofs.RowEdits.{kept-change, lines-change}
use Rattle.nc_cache.proofs.directory.change_row.Goals as goal

pub set-requires : goal.set-requires
set-requires c =
    let e = get_or_read c.args.rows.now.items c.args.at c.index-row.result.now c.requires.within c.index-row.ensures no_row in
    subst (λ (k : Row). k.line < length c.args.slab.now.cells) (sym e) (line_below c.args.rows.now.items c.args.slab.now.free (length c.args.slab.now.cells) c.requires.kept.cells c.args.at c.requires.within)

pub returns-clause-kept : goal.returns-clause-kept
returns-clause-kept c =
    rw c.row_of.ensures
    (kept-change c.args.rows.now.items c.args.slab.now c.set.new.self c.args.at c.index-row.result.now c.args.line.now.held c.args.line.now.bytes
    c.requires.kept c.requires.within c.index-row.ensures c.requires.held c.set.ensures.cells c.set.ensures.free)

pub returns-clause-lines : goal.returns-clause-lines
returns-clause-lines c =
    rw c.row_of.ensures
    (lines-change c.args.rows.now.items c.args.slab.now c.set.new.self c.args.at c.index-row.result.now c.args.line.now.held c.args.line.now.bytes
    c.requires.kept c.requires.within c.index-row.ensures c.requires.held c.set.ensures.cells)
