use Rattle.std.proofs.Common.{◌≡◌, length}
use Rattle.report_tests.proofs.sched.a_seed_draws_the_events_of_its_stream.Given as goal

abbrev pub invariant-loop-event : goal.invariant-loop-event
invariant-loop-event g l = (length l.w.state.machine.harts ≡ length l.sc.harts) × (l.w.state.machine.size ≡ l.sc.block_size) × (length l.w.state.machine.cache.ram ≡ l.sc.ram)
