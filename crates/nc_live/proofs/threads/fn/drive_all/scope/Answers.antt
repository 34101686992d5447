use Rattle.std.proofs.Common.{◌≡◌, ◌∙◌, ap, ◌+◌, get_or, vec_len, vec_items, rules, arith, below_more}
use Rattle.nc_live.proofs.threads.fn.drive_all.scope.Goals as goal

-- The worker of this turn stood first among the rest, so it is that of the next hart: it goes behind those that worked here,
-- or its thread behind the threads.
pub starting-preserved-then-not-is_empty : goal.starting-preserved-then-not-is_empty
starting-preserved-then-not-is_empty g c =
    let was = c.starting.invariant in
    let step = c.in-Some.ensures.steps in
    let started = vec_len c.starting.handles in
    let made = vec_len c.starting.here in
    let all = vec_items c.push.new.self in
    let next : c.in-Some.worker.me.0 ≡ started + made = let h = was.3 0 c.in-Some.worker in grind rules in
    let grown : vec_len c.push.new.self ≡ made + 1 = search rules in (
      search rules,
      was.1,
      (λ k w below. below_more (λ i. (get_or all i w).me.0 ≡ started + i) made (λ i low. ap (λ v. v.me.0) (c.push.ensures.by_index.0 i w low) ∙ was.2 i w low) (ap (λ v. v.me.0) (c.push.ensures.by_index.1 w (search rules)) ∙ (ap (λ h. h.0) c.drive.ensures ∙ next)) k (omega arith)),
      λ k w below. let h = was.3 (k + 1) w in grind rules,
    )

pub starting-preserved-in-Ok : goal.starting-preserved-in-Ok
starting-preserved-in-Ok g c =
    let was = c.starting.invariant in
    let step = c.in-Some.ensures.steps in
    let started = vec_len c.starting.handles in
    let made = vec_len c.starting.here in
    let all = vec_items c.push-in-Ok.new.self in
    let none : made ≡ 0 = search rules in
    let next : c.in-Some.worker.me.0 ≡ started + made = let h = was.3 0 c.in-Some.worker in grind rules in
    let promised : c.in-Ok.handle.promise.0.0 ≡ c.in-Some.worker.me.0 = ap (λ p. p.0.0) c.in-Ok.ensures.ok ∙ ap (λ h. h.0) c.me.ensures in
    let here : c.in-Ok.handle.promise.0.0 ≡ started = omega arith in
    let grown : vec_len c.push-in-Ok.new.self ≡ started + 1 = search rules in (
      search rules,
      (λ k h below. below_more (λ i. (get_or all i h).promise.0.0 ≡ i) started (λ i low. ap (λ v. v.promise.0.0) (c.push-in-Ok.ensures.by_index.0 i h low) ∙ was.1 i h low) (ap (λ v. v.promise.0.0) (c.push-in-Ok.ensures.by_index.1 h (search rules)) ∙ here) k (omega arith)),
      (λ k w below. absurd (omega arith)),
      λ k w below. let h = was.3 (k + 1) w in grind rules,
    )

pub starting-preserved : goal.starting-preserved
starting-preserved g c =
    let was = c.starting.invariant in
    let step = c.in-Some.ensures.steps in
    let started = vec_len c.starting.handles in
    let made = vec_len c.starting.here in
    let all = vec_items c.push-in-Err.new.self in
    let next : c.in-Some.worker.me.0 ≡ started + made = let h = was.3 0 c.in-Some.worker in grind rules in
    let same : c.spawn_with-in-Err.result.me ≡ c.in-Some.worker.me = search rules in
    let grown : vec_len c.push-in-Err.new.self ≡ made + 1 = search rules in (
      search rules,
      was.1,
      (λ k w below. below_more (λ i. (get_or all i w).me.0 ≡ started + i) made (λ i low. ap (λ v. v.me.0) (c.push-in-Err.ensures.by_index.0 i w low) ∙ was.2 i w low) (ap (λ v. v.me.0) (c.push-in-Err.ensures.by_index.1 w (search rules)) ∙ (ap (λ h. h.0) same ∙ next)) k (omega arith)),
      λ k w below. let h = was.3 (k + 1) w in grind rules,
    )
