use Rattle.std.proofs.Common.{length, ap, sym, arith}
use Rattle.nc_ops.proofs.Items.{entry_numbers-not_three}
use Rattle.nc_ops.proofs.arguments.entry_numbers.Goals as goal

pub returns-in_default : goal.returns-in_default
returns-in_default c = sym (entry_numbers-not_three _ c.in_ok-list.field-0.now.items c.in_ok-list.ensures (λ e. omega (arith, e, ap length c.as_slice.ensures.value, c.in_default.len_below)))

pub returns-in_default-2 : goal.returns-in_default-2
returns-in_default-2 c = sym (entry_numbers-not_three _ c.in_ok-list.field-0.now.items c.in_ok-list.ensures (λ e. omega (arith, e, ap length c.as_slice.ensures.value, c.in_default.len_at_least)))
