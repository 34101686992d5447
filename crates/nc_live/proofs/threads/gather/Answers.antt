use Rattle.std.proofs.Common.{◌≡◌, ◌∙◌, ap, ◌+◌, get_or, vec_len, vec_items, rules, arith, below_more}
use Rattle.nc_live.proofs.threads.gather.Goals as goal

-- The worker that is put behind the others stood first among the rest, so it is that of the next hart.
pub loop-worker-preserved : goal.loop-worker-preserved
loop-worker-preserved g c =
    let was = c.loop-worker.invariant in
    let step = c.in-Some.ensures.steps in
    let done = vec_len c.loop-worker.workers in
    let all = vec_items c.push.new.self in
    let next : c.in-Some.worker.me.0 ≡ done = let h = was.1 0 c.in-Some.worker in grind rules in
    let grown : vec_len c.push.new.self ≡ done + 1 = search rules in (
      search rules,
      (λ k w below. let h = was.1 (k + 1) w in grind rules),
      λ k w below. below_more (λ i. (get_or all i w).me.0 ≡ i) done (λ i low. ap (λ v. v.me.0) (c.push.ensures.by_index.0 i w low) ∙ was.2 i w low) (ap (λ v. v.me.0) (c.push.ensures.by_index.1 w (search rules)) ∙ next) k (omega arith),
    )
