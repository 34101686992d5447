use Rattle.std.proofs.Common.{◌≡◌, ℕ, ◌+◌, ◌<◌, get_or, length, vec_len, vec_items}
use Rattle.std.specs.Vec.Iter.{into_iter_items, into_iter_len}
use Rattle.nc_live.proofs.threads.gather.Given as goal

abbrev pub invariant-loop-worker : goal.invariant-loop-worker
invariant-loop-worker g l =
    let done = vec_len l.workers in let rest = l.worker-iterator in
    (done + into_iter_len rest ≡ length g.N.SceneName.scene.harts)
    × ((k : ℕ) (w : _) → k < into_iter_len rest → (get_or (into_iter_items rest) k w).me.0 ≡ done + k)
    × ((k : ℕ) (w : _) → k < done → (get_or (vec_items l.workers) k w).me.0 ≡ k)
