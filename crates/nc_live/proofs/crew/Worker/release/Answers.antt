use Rattle.std.proofs.Common.{◌≡◌, ◌∙◌, ◌+◌, sym, ap, subst, ◌&&◌, not, true, false, ℕ, Bool}
use Rattle.nc_pool.specs.Views.{has}
use Rattle.nc_live.specs.Names.{is_held_by}
use Rattle.nc_live.proofs.Held.{Sifted, sifted_give, sifted_keep, left_fails}
use Rattle.nc_live.proofs.crew.Worker.release.Goals.{then-is_left, else-is_left}
use Rattle.nc_live.proofs.crew.Worker.release.Goals as goal

pub loop-k-preserved : goal.loop-k-preserved
loop-k-preserved g c =
    let k = c.loop-k.k in
    let slots = c.args.world.now.state.slots in
    let me = c.args.self.now.me in
    let f : ℕ → Bool = λ j. is_held_by slots j me in
    let ys = c.args.self.now.mine.items in
    let xs = c.loop-k.self.mine.items in
    let tested : c.is_left.result ≡ (has k xs && not (f k)) = c.is_left.ensures ∙ ap (λ h. has k xs && not (is_held_by slots k h)) c.loop-k.invariant.hart in
    elim c.if-is_left.branch [
      | then-is_left w ↦ record {
        hart = ap (λ v. v.me) w.self-is ∙ (w.give.ensures.hart ∙ c.loop-k.invariant.hart);
        slots = subst (Sifted (k + 1) f ys) (sym (ap (λ v. v.mine.items) w.self-is ∙ w.give.ensures.slots)) (sifted_give k f ys xs c.loop-k.invariant.slots (left_fails (has k xs) (f k) (sym tested ∙ w.if-is_left.true)));
      }
      | else-is_left w ↦ record {
        hart = ap (λ v. v.me) w.self-is ∙ c.loop-k.invariant.hart;
        slots = subst (Sifted (k + 1) f ys) (sym (ap (λ v. v.mine.items) w.self-is)) (sifted_keep k f ys xs c.loop-k.invariant.slots (sym tested ∙ w.if-is_left.false));
      }
    ]
