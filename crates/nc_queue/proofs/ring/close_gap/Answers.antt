use Rattle.std.proofs.Common.{◌≡◌, ℕ, ◌+◌, ◌-◌, get_or, arith, ap, ◌∙◌, sym, subst}
use Rattle.std.specs.Prelude.{slice_set}
use Rattle.nc_queue.proofs.Rings.{Moved, moved_none, moved_more, moved_all}
use Rattle.nc_queue.proofs.ring.close_gap.Goals as goal

pub loop-k-init : goal.loop-k-init
loop-k-init c = moved_none _ _ _ c.requires.room

pub loop-k-preserved : goal.loop-k-preserved
loop-k-preserved c =
    subst (λ (n : ℕ). Moved c.args.start c.args.i (c.loop-k.k + 1) c.args.cells.now (slice_set c.loop-k.cells n c.index-cells-place.result)) (sym c.place-in-loop-k.ensures.place)
    (moved_more _ _ _ _ _ c.index-cells-place.result c.requires.room c.requires.start (omega arith) c.loop-k.invariant
    (c.index-cells-place.is ∙ ap (λ (n : ℕ). get_or c.loop-k.cells n c.index-cells-place.result) c.place.ensures.place))

pub returns : goal.returns
returns c =
    let last : c.loop-k.k ≡ c.args.len - 1 = omega (arith, c.loop-k.auto.k-end) in
    moved_all _ _ _ _ _ c.requires.start c.requires.few c.requires.room c.requires.there
    (subst (λ (n : ℕ). Moved c.args.start c.args.i n c.args.cells.now c.loop-k.cells) last c.loop-k.invariant)
