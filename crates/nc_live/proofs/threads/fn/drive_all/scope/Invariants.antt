use Rattle.std.proofs.Common.{◌≡◌, ℕ, ◌+◌, ◌<◌, get_or, length, vec_len, vec_items}
use Rattle.std.specs.Vec.Iter.{into_iter_items, into_iter_len}
use Rattle.nc_live.proofs.threads.fn.drive_all.scope.Given as goal

abbrev pub invariant-starting : goal.invariant-starting
invariant-starting g l =
    let started = vec_len l.handles in let made = vec_len l.here in let rest = l.worker-iterator in
    (started + made + into_iter_len rest ≡ length g.N.SceneName.scene.harts)
    × ((k : ℕ) (h : _) → k < started → (get_or (vec_items l.handles) k h).promise.0.0 ≡ k)
    × ((k : ℕ) (w : _) → k < made → (get_or (vec_items l.here) k w).me.0 ≡ started + k)
    × ((k : ℕ) (w : _) → k < into_iter_len rest → (get_or (into_iter_items rest) k w).me.0 ≡ started + made + k)
