use Rattle.std.specs.Prelude.{remove}
use Rattle.std.proofs.Common.{◌∙◌, ap, sym, arith}
use Rattle.nc_queue.specs.Ring.{window}
use Rattle.nc_queue.proofs.Rings.{window-pop}
use Rattle.nc_queue.proofs.ring.take_out.Goals as goal

pub returns-then-i-eq0-clause-entries : goal.returns-then-i-eq0-clause-entries
returns-then-i-eq0-clause-entries c =
    window-pop _ _ _ c.requires.start c.requires.few c.requires.room (omega arith) ∙ ap (remove (window c.args.start c.args.len c.args.cells.now)) (sym c.if-i-eq0.true)
