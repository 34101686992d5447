use Rattle.machine_tests.proofs.Benches.{bench_accepted}
use Rattle.machine_tests.proofs.machine.scenario.Goals as goal

pub returns-clause-accepted : goal.returns-clause-accepted
returns-clause-accepted c =
    rw (c.new.ensures, c.in_ok-harts.ensures.items, c.hart.ensures, c.hart-2.ensures, c.new-3.ensures, c.new-2.ensures.items, c.new-4.ensures, c.in_ok-buffers.ensures.items, c.new-6.ensures, c.new-5.ensures.items) bench_accepted
