-- A fence puts a marker exactly where the queue has grown.
use Rattle.std.specs.Prelude.{Some, None, if◌then◌else◌}
use Rattle.std.proofs.Common.{◌≡◌, ℕ, ◌<◌, ◌≤◌, Bool, true, false, [], ◌∷◌, length, refl, ap, arith, length-append}
use Rattle.nc_queue.specs.QueueState.{QueueState}
use Rattle.nc_queue.specs.declared.entry.Entry.{Entry}
use Rattle.nc_plan.specs.declared.ops.HartOp.TheVariants.{Fence}
use Rattle.nc_hart.specs.HartState.{HartState}
use Rattle.nc_hart.specs.Issue.{marks, marker, pushed, issued}
use Rattle.nc_rules.specs.Machine.{MachineState, hart_of, queue_of}
use Rattle.nc_rules.specs.Calls.{issue_next}
use Rattle.nc_calls.proofs.MachineParts.{hart_here}

grown : (q : QueueState) (e : Entry) (b : Bool) → length q.entries < length (pushed q (if b then Some e else None)).entries → b ≡ true
grown q e true lt = refl
grown q e false lt = absurd (omega arith)

not_grown : (q : QueueState) (e : Entry) (b : Bool) → length (pushed q (if b then Some e else None)).entries ≤ length q.entries → b ≡ false
not_grown q e true le = absurd (omega (arith, length-append q.entries (e ∷ [])))
not_grown q e false le = refl

-- the queue of a hart that has issued a fence
queue_fenced : (m : MachineState) (h pred succ : ℕ) → h < length m.harts → queue_of (issue_next m h (Fence pred succ)) h ≡ (pushed (hart_of m h).queue (if marks pred succ then Some (marker pred succ) else None)).entries
unfolding issue_next issued
queue_fenced m h pred succ lt = ap (λ (s : HartState). s.queue.entries) (hart_here m h h (issued (hart_of m h) (Fence pred succ)) lt refl)

pub fence_queued : (m : MachineState) (h pred succ : ℕ) → h < length m.harts → length (queue_of m h) < length (queue_of (issue_next m h (Fence pred succ)) h) → marks pred succ ≡ true
fence_queued m h pred succ lt more = grown (hart_of m h).queue (marker pred succ) (marks pred succ) (omega (arith, ap length (queue_fenced m h pred succ lt)))

pub fence_passed : (m : MachineState) (h pred succ : ℕ) → h < length m.harts → length (queue_of (issue_next m h (Fence pred succ)) h) ≤ length (queue_of m h) → marks pred succ ≡ false
fence_passed m h pred succ lt same = not_grown (hart_of m h).queue (marker pred succ) (marks pred succ) (omega (arith, ap length (queue_fenced m h pred succ lt)))
