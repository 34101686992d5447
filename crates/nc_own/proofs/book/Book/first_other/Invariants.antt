use Rattle.std.proofs.Common.{◌≡◌, ℕ, ◌-◌}
use Rattle.nc_model.specs.Rights.{is_thread}
use Rattle.nc_model.specs.Touches.{first_fault}
use Rattle.nc_own.specs.Books.{owner_in}
use Rattle.nc_own.proofs.book.Book.first_other.Given as goal

abbrev pub invariant-loop-at : goal.invariant-loop-at
invariant-loop-at l =
    let may = λ (x : ℕ). is_thread l.me (owner_in l.self.owners x) in
    first_fault may (record { at = l.at; len = l.end - l.at }) ≡ first_fault may l.fn.span

abbrev pub decreases-loop-at : goal.decreases-loop-at
decreases-loop-at l = l.end - l.at
