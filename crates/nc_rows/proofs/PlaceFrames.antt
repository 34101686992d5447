-- What a row says of one place stands where neither a queue nor a byte there changes.
use Rattle.std.specs.Prelude.{Option, unwrap_or}
use Rattle.std.proofs.Common.{◌≡◌, ℕ, refl, sym, ap, ◌∙◌, subst}
use Rattle.nc_num.specs.Memory.{byte}
use Rattle.nc_rules.specs.Machine.{MachineState}
use Rattle.nc_calls.specs.PlaceLaws.{SameAt, KeepsAt}
use Rattle.nc_rules.specs.View.{middle, seen, view}
use Rattle.nc_rows.specs.Places.{given, ThreadRow, QuietRow, PoolRow, CalmRow, OpenRow, Alone}
use Rattle.nc_rows.specs.Laws.{FrameAt, SameQueues}

pub view_is : (m : MachineState) (h x : ℕ) → view m h x ≡ unwrap_or (given m h x) (middle m x)
unfolding seen
view_is m h x = refl

pub of_same : (m k : MachineState) (x : ℕ) → SameAt m k x → FrameAt m k x
of_same m k x same = record { fresh = λ f. (same.fresh f, same.copy); clear = λ c. (same.clear c, same.memory); both = same.both }

pub of_keeps : (m k : MachineState) (x : ℕ) → KeepsAt m k x → FrameAt m k x
of_keeps m k x keeps = record { fresh = keeps.fresh; clear = keeps.clear; both = keeps.both }

pub given_same : (m k : MachineState) (g x : ℕ) → SameQueues m k → given k g x ≡ given m g x
given_same m k g x q = rw (q.size, q.queues g) refl

pub quiet_same : (m k : MachineState) (h x : ℕ) → SameQueues m k → FrameAt m k x → QuietRow h m x → QuietRow h k x
quiet_same m k h x q frame row = record { fresh = (frame.fresh row.fresh).0; others = λ g ne. given_same m k g x q ∙ row.others g ne }

pub thread_same : (m k : MachineState) (h v x : ℕ) → SameQueues m k → FrameAt m k x → ThreadRow h v m x → ThreadRow h v k x
thread_same m k h v x q frame row = record {
  shows =
      view_is k h x ∙ ap (λ (o : Option ℕ). unwrap_or o (middle k x)) (given_same m k h x q) ∙ ap (λ (d : ℕ). unwrap_or (given m h x) d) (frame.fresh row.quiet.fresh).1
      ∙ sym (view_is m h x) ∙ row.shows;
  quiet = quiet_same m k h x q frame row.quiet;
}

pub pool_same : (m k : MachineState) (v x : ℕ) → SameQueues m k → FrameAt m k x → PoolRow v m x → PoolRow v k x
pool_same m k v x q frame row = record { both = frame.both v row.both; none = λ g. given_same m k g x q ∙ row.none g }

pub calm_same : (m k : MachineState) (x : ℕ) → SameQueues m k → FrameAt m k x → CalmRow m x → CalmRow k x
calm_same m k x q frame row =
    let kept = pool_same m k (byte m.cache.ram x) x q frame row in
    subst (λ (v : ℕ). PoolRow v k x) (sym kept.both.memory) kept

pub open_same : (m k : MachineState) (v x : ℕ) → SameQueues m k → FrameAt m k x → OpenRow v m x → OpenRow v k x
open_same m k v x q frame row = record {
  clear = (frame.clear row.clear).0;
  memory = (frame.clear row.clear).1 ∙ row.memory;
  none = λ g. rw (q.size, q.queues g) (row.none g);
}

pub alone_same : (m k : MachineState) (h x : ℕ) → SameQueues m k → Alone h m x → Alone h k x
alone_same m k h x q alone = λ g ne. rw (q.size, q.queues g) (alone g ne)
