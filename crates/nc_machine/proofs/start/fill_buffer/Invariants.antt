use Rattle.std.proofs.Common.{◌≡◌, ◌+◌, ◌*◌, ◌%◌, length, map}
use Rattle.std.specs.List.{range_with_len}
use Rattle.nc_num.specs.Memory.{splice}
use Rattle.nc_machine.proofs.start.fill_buffer.Given as goal

abbrev pub invariant-loop-i : goal.invariant-loop-i
invariant-loop-i l = (l.ram ≡ splice l.fn.ram l.fn.b.span.at (map (λ i. (l.fn.b.fill + i * l.fn.b.step) % 256) (range_with_len 0 l.i))) × (length l.ram ≡ length l.fn.ram)
