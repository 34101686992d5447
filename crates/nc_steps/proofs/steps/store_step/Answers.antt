use Rattle.std.proofs.Common.{length}
use Rattle.nc_steps.proofs.StepLaws.{in_hand}
use Rattle.nc_steps.proofs.steps.store_step.Goals as goal

pub placed-requires : goal.placed-requires
placed-requires c = (in_hand c.args.to c.args.table.now (length c.args.bytes.now) c.args.n c.range-range.result c.in-Some.piece c.range-range.ensures c.requires.mapped c.in-Some.ensures).findable

pub overflow_sub-piece : goal.overflow_sub-piece
overflow_sub-piece c = (in_hand c.args.to c.args.table.now (length c.args.bytes.now) c.args.n c.range-range.result c.in-Some.piece c.range-range.ensures c.requires.mapped c.in-Some.ensures).starts

pub part-given-requires-clause-within : goal.part-given-requires-clause-within
part-given-requires-clause-within c = (in_hand c.args.to c.args.table.now (length c.args.bytes.now) c.args.n c.range-range.result c.in-Some.piece c.range-range.ensures c.requires.mapped c.in-Some.ensures).within

pub part-given-requires-clause-short : goal.part-given-requires-clause-short
part-given-requires-clause-short c = (in_hand c.args.to c.args.table.now (length c.args.bytes.now) c.args.n c.range-range.result c.in-Some.piece c.range-range.ensures c.requires.mapped c.in-Some.ensures).short
