use Rattle.std.proofs.Common.{arith}
use Rattle.nc_own.proofs.Views.{shown_size}
use Rattle.nc_own.proofs.book.Book.end_of.Goals as goal

pub overflow_add-result : goal.overflow_add-result
overflow_add-result c = omega (arith, shown_size _ _ _ _ _ c.self.view_is, c.self.invariant.size, c.requires)
