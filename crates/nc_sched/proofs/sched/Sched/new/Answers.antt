use Rattle.nc_sched.proofs.Coming.{to_come-start}
use Rattle.nc_sched.proofs.sched.Sched.new.Goals as goal

pub returns-clause-whole : goal.returns-clause-whole
returns-clause-whole c = rw (c.first_phase.ensures, c.new.ensures, c.seed_of.ensures) (to_come-start c.args.sc.now)
