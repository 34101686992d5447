use Rattle.std.proofs.Common.{arith}
use Rattle.nc_cache.proofs.RowEdits.{room_for, free_within, kept-add, lines-add}
use Rattle.nc_cache.proofs.directory.add_row.Goals as goal

pub take-cell-requires-clause-few : goal.take-cell-requires-clause-few
take-cell-requires-clause-few c = λ none. room_for c.args.rows.now.items c.args.slab.now c.args.number c.args.at c.requires.kept c.requires.gap (omega arith) none

pub take-cell-requires-clause-within : goal.take-cell-requires-clause-within
take-cell-requires-clause-within c = free_within c.args.rows.now.items c.args.slab.now c.requires.kept

pub returns-clause-kept : goal.returns-clause-kept
returns-clause-kept c =
    rw (c.in-Ok.ensures.items, c.row_of-row.ensures)
    (kept-add c.args.rows.now.items c.args.slab.now c.take-cell.new.self c.args.at c.args.number c.take-cell.result c.args.line.now.held c.args.line.now.bytes
    c.requires.kept c.requires.gap (omega arith) c.requires.held c.take-cell.ensures.taken)

pub returns-clause-lines : goal.returns-clause-lines
returns-clause-lines c =
    rw (c.in-Ok.ensures.items, c.row_of-row.ensures)
    (lines-add c.args.rows.now.items c.args.slab.now c.take-cell.new.self c.args.at c.args.number c.take-cell.result c.args.line.now.held c.args.line.now.bytes c.requires.kept c.requires.gap c.requires.held c.take-cell.ensures.taken)
