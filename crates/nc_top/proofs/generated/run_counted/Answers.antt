use Rattle.std.proofs.Common.{ap}
use Rattle.nc_world.specs.WorldView.{WorldView}
use Rattle.nc_top.proofs.Counted.{count_start, count_on, count_end}
use Rattle.nc_top.proofs.generated.run_counted.Goals as goal

pub running-init : goal.running-init
running-init c = count_start c.args.sc.now c.in_ok-w.w c.new-sched.result c.requires.accepted c.in_ok-w.ensures.state c.in_ok-w.ensures.records c.new-sched.ensures.first c.new-sched.ensures.whole

pub running-preserved : goal.running-preserved
running-preserved c =
    count_on c.args.sc.now c.running.w c.step_counted.new.w c.running.sched c.next.new.self c.running.last c.in_ok-stepped.stepped c.in-Some.e c.running.tally c.in_ok-stepped.more
    c.in-Some.ensures.event (ap (λ (s : WorldView). s.state) c.in_ok-stepped.ensures.world) (ap (λ (s : WorldView). s.records) c.in_ok-stepped.ensures.world) c.in_ok-stepped.ensures.shape
    c.in_ok-stepped.ensures.answer c.in_ok-stepped.ensures.tally c.in-Some.ensures.fewer c.running.invariant

pub returns-clause-state : goal.returns-clause-state
returns-clause-state c = (count_end c.args.sc.now c.running.w c.running.sched c.running.last c.running.tally c.in_default.ensures.event c.running.invariant).0

pub returns-clause-tally : goal.returns-clause-tally
returns-clause-tally c = (count_end c.args.sc.now c.running.w c.running.sched c.running.last c.running.tally c.in_default.ensures.event c.running.invariant).1
