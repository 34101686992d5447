use Rattle.std.proofs.Common.{◌≡◌, ◌∙◌, sym, ap, [], ◌∷◌, ◌++◌}
use Rattle.nc_pool.specs.Views.{has, is_distinct, without}
use Rattle.nc_pool.proofs.Without.{has-last, distinct-front, without-push}
use Rattle.nc_live.proofs.crew.Worker.give_all.Goals as goal

pub give-requires-clause-holds : goal.give-requires-clause-holds
give-requires-clause-holds g c =
    let k = c.in-Some.k in
    ap (has k) (c.loop-k.invariant.same ∙ c.in-Some.ensures.items) ∙ has-last k c.pop.new.self.items

pub loop-k-preserved : goal.loop-k-preserved
loop-k-preserved g c =
    let k = c.in-Some.k in
    let rest = c.pop.new.self.items in
    let whole : c.loop-k.mine.items ≡ rest ++ k ∷ [] = c.in-Some.ensures.items in
    let parts = distinct-front k rest (ap is_distinct (sym whole) ∙ c.loop-k.invariant.distinct) in
    record {
      named = ap (λ s. s.pool) c.give.ensures ∙ c.loop-k.invariant.named;
      same = ap (λ s. s.held) c.give.ensures ∙ (ap (without k) (c.loop-k.invariant.same ∙ whole) ∙ without-push k rest parts.1);
      distinct = parts.0;
    }
