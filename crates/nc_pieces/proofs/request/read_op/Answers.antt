use Rattle.std.proofs.Common.{length, sym, arith, ap}
use Rattle.nc_pieces.proofs.Lists.{op_not_two}
use Rattle.nc_pieces.proofs.request.read_op.Goals as goal

pub returns-in_default-clause-value : goal.returns-in_default-clause-value
returns-in_default-clause-value c = sym (op_not_two _ c.in_ok-list.field-0.now.items c.in_ok-list.ensures (omega (arith, c.in_default.len_below, c.as_slice.ensures.len, ap length c.as_slice.ensures.value)))

pub returns-in_default-2-clause-value : goal.returns-in_default-2-clause-value
returns-in_default-2-clause-value c = sym (op_not_two _ c.in_ok-list.field-0.now.items c.in_ok-list.ensures (omega (arith, c.in_default.len_at_least, c.as_slice.ensures.len, ap length c.as_slice.ensures.value)))
