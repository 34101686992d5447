use Rattle.std.proofs.Common.{◌≡◌, ℕ, ◌-◌}
use Rattle.nc_model.specs.Rights.{is_thread}
use Rattle.nc_model.specs.Touches.{first_fault}
use Rattle.nc_own.specs.Books.{owner_in}
use Rattle.nc_touch.proofs.looks.first_foreign.Given as goal

abbrev pub invariant-loop-x : goal.invariant-loop-x
invariant-loop-x l =
    let own = λ (x : ℕ). is_thread l.h (owner_in l.book.owners x) in
    first_fault own (record { at = l.x; len = l.x-end - l.x }) ≡ first_fault own l.fn.block
