use Rattle.nc_steps.proofs.StepLaws.{in_hand}
use Rattle.nc_steps.proofs.steps.load_step.Goals as goal

pub placed-requires : goal.placed-requires
placed-requires c = (in_hand c.args.to c.args.table.now c.args.len c.args.n c.range.result c.in-Some.piece c.range.ensures c.requires.mapped c.in-Some.ensures).findable
