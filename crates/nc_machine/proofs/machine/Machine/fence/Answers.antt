use Rattle.std.proofs.Common.{◌≡◌, ◌<◌, ◌≤◌, ap, length, refl, arith}
use Rattle.nc_rules.specs.Machine.{MachineState, queue_of}
use Rattle.nc_machine.proofs.machine.Machine.fence.Goals as goal
use Rattle.nc_plan.specs.declared.ops.HartOp.TheVariants.{Fence}
use Rattle.nc_rules.specs.Calls.{issue_next}
use Rattle.nc_machine.proofs.Fences.{fence_queued, fence_passed}

pub returns-then-queued-before-clause-answer : goal.returns-then-queued-before-clause-answer
returns-then-queued-before-clause-answer c =
    let m = c.args.self.now.machine in
    let h = c.args.h.0 in
    let after : length (queue_of c.put.new.self.machine h) ≡ length (queue_of (issue_next m h (Fence c.args.pred c.args.succ)) h) = ap (λ (t : MachineState). length (queue_of t h)) c.put.ensures.state in
    let more : length (queue_of m h) < length (queue_of (issue_next m h (Fence c.args.pred c.args.succ)) h) = omega (arith, after, c.if-queued-before.true, c.queued.ensures.value, c.queued-before.ensures.value) in
    rw (fence_queued m h c.args.pred c.args.succ c.requires.hart more) refl

pub returns-else-queued-before-clause-answer : goal.returns-else-queued-before-clause-answer
returns-else-queued-before-clause-answer c =
    let m = c.args.self.now.machine in
    let h = c.args.h.0 in
    let after : length (queue_of c.put.new.self.machine h) ≡ length (queue_of (issue_next m h (Fence c.args.pred c.args.succ)) h) = ap (λ (t : MachineState). length (queue_of t h)) c.put.ensures.state in
    let same : length (queue_of (issue_next m h (Fence c.args.pred c.args.succ)) h) ≤ length (queue_of m h) = omega (arith, after, c.if-queued-before.false, c.queued.ensures.value, c.queued-before.ensures.value) in
    rw (fence_passed m h c.args.pred c.args.succ c.requires.hart same) refl
