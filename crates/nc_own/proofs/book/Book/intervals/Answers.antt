use Rattle.nc_own.proofs.Views.{shown_intervals}
use Rattle.nc_own.proofs.book.Book.intervals.Goals as goal

pub returns : goal.returns
returns c = rw c.deref.ensures.value (shown_intervals _ _ _ _ _ _ _ _ c.self.view_is c.self.invariant)
