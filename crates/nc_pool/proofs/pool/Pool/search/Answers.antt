use Rattle.std.proofs.Common.{◌∙◌, ◌++◌, ◌∷◌, [], ap}
use Rattle.nc_pool.specs.declared.pool.PoolTry.TheVariants.{Held}
use Rattle.nc_pool.proofs.Misses.{one_more}
use Rattle.nc_pool.proofs.pool.Pool.search.Goals as goal

pub loop-k-preserved : goal.loop-k-preserved
loop-k-preserved c =
    let i = c.loop-k.invariant in
    let e = c.in-Held.ensures in
    let ts = i.3 in
    (e.same.0 ∙ i.0, e.same.1 ∙ i.1, e.held ∙ i.2, one_more c.loop-k.k c.in-Held.field-0 ts.0 c.args.seat.now.log c.try_slot.new.seat.log ts.1 (λ z. e.answer (ap Held z)) (e.log ∙ ap (λ l. l ++ (c.loop-k.k, c.in-Held.field-0) ∷ []) ts.2))
