use Rattle.std.proofs.Common.{append-nil}
use Rattle.nc_model.specs.declared.owners.Owner.TheVariants.{Pool}
use Rattle.nc_own.specs.Tiles.{run}
use Rattle.nc_own.proofs.Views.{one_interval}
use Rattle.nc_own.proofs.book.Book.new.Goals as goal

pub returns-clause-owners : goal.returns-clause-owners
returns-clause-owners c = rw (c.insert_run.ensures.items, c.in_ok-intervals.ensures.items, append-nil (run 0 c.args.ram Pool)) (one_interval _).3
