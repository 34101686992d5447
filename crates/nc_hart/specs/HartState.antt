-- What a hart is seen as.
use Rattle.std.specs.Prelude.{ℕ, List}
use Rattle.nc_queue.specs.QueueState.{QueueState}

-- its store queue, and the bytes of its last load
pub record HartState : Type 0 where
  pub queue : QueueState
  pub last : List ℕ
