use Rattle.nc_cache.proofs.RowEdits.{room_to_free, kept-remove, lines-less}
use Rattle.nc_cache.proofs.directory.remove_row.Goals as goal

pub release-requires : goal.release-requires
release-requires c = room_to_free c.args.rows.now.items c.args.slab.now c.args.at c.requires.kept c.requires.within

pub returns-clause-kept : goal.returns-clause-kept
returns-clause-kept c =
    rw c.remove-row.ensures.items
    (kept-remove c.args.rows.now.items c.args.slab.now c.release.new.self c.args.at c.remove-row.result c.requires.kept c.requires.within c.remove-row.ensures.value c.release.ensures.cells c.release.ensures.free)

pub returns-clause-lines : goal.returns-clause-lines
returns-clause-lines c = rw c.remove-row.ensures.items (lines-less c.args.rows.now.items c.args.slab.now c.release.new.self c.args.at c.requires.kept c.requires.within c.release.ensures.cells)
