use Rattle.std.proofs.Common.{sym, ◌∙◌, arith, rules, tests}
use Rattle.nc_ops.proofs.Items.{op_named-six, op_named-seven, op_named-none, op_named-many}
use Rattle.nc_ops.proofs.operations.read_named.Goals as goal
use Rattle.nc_ops.proofs.operations.read_named.Goals.{in_default-via-then-arguments-lt1, in_default-via-else-arguments-lt1+else-arguments-lt2+else-arguments-lt3+else-arguments-lt4+else-arguments-lt5+else-arguments-lt6+else-arguments-lt7+else-arguments-lt8}

pub returns-in_ok-read_5-in-len5-clause-fits : goal.returns-in_ok-read_5-in-len5-clause-fits
returns-in_ok-read_5-in-len5-clause-fits c = c.in_ok-read_5-in-len5.ensures.fits c.args.counts.harts c.args.counts.buffers

pub returns-in_ok-read_6-in-len6-clause-gives : goal.returns-in_ok-read_6-in-len6-clause-gives
returns-in_ok-read_6-in-len6-clause-gives c =
    op_named-six c.args.counts c.args.name.now c.args.arguments.now c.a-item-then-arguments-lt7.result c.b-item-then-arguments-lt7.result c.c-item-then-arguments-lt7.result c.d-item-then-arguments-lt7.result c.e-item-then-arguments-lt7.result c.f-item.result (omega (arith, c.in-len6.len_at_least, c.in-len6.len_below)) c.a-item-then-arguments-lt7.is c.b-item-then-arguments-lt7.is c.c-item-then-arguments-lt7.is c.d-item-then-arguments-lt7.is c.e-item-then-arguments-lt7.is c.f-item.is ∙ sym c.in_ok-read_6-in-len6.ensures.value

pub returns-in_ok-read_7-in-len7-clause-gives : goal.returns-in_ok-read_7-in-len7-clause-gives
returns-in_ok-read_7-in-len7-clause-gives c =
    op_named-seven c.args.counts c.args.name.now c.args.arguments.now c.a-item-then-arguments-lt8.result c.b-item-then-arguments-lt8.result c.c-item-then-arguments-lt8.result c.d-item-then-arguments-lt8.result c.e-item-then-arguments-lt8.result c.f-item-then-arguments-lt8.result c.g-item.result (omega (arith, c.in-len7.len_at_least, c.in-len7.len_below)) c.a-item-then-arguments-lt8.is c.b-item-then-arguments-lt8.is c.c-item-then-arguments-lt8.is c.d-item-then-arguments-lt8.is c.e-item-then-arguments-lt8.is c.f-item-then-arguments-lt8.is c.g-item.is ∙ sym c.in_ok-read_7-in-len7.ensures.value

pub returns-in_default-clause-gives : goal.returns-in_default-clause-gives
returns-in_default-clause-gives c = elim c.in_default.branch [
  | in_default-via-then-arguments-lt1 w ↦ op_named-none c.args.counts c.args.name.now c.args.arguments.now (search (rules, tests))
  | in_default-via-else-arguments-lt1+else-arguments-lt2+else-arguments-lt3+else-arguments-lt4+else-arguments-lt5+else-arguments-lt6+else-arguments-lt7+else-arguments-lt8 w ↦ op_named-many c.args.counts c.args.name.now c.args.arguments.now (search (rules, tests))
]
