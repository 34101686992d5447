use Rattle.std.proofs.Common.{◌≡◌, ◌∙◌, sym, ap, rules}
use Rattle.std.proofs.lemmas.Fn.{filter_same}
use Rattle.nc_pool.specs.Views.{is_distinct, without}
use Rattle.nc_pool.proofs.Without.{distinct-without, without_is_filter}
use Rattle.nc_live.proofs.crew.Worker.give.Goals as goal

pub invariant_of-self : goal.invariant_of-self
invariant_of-self g c =
    let old = c.args.self.now in
    let k = c.args.k in
    let items : c.retain.new.self.items ≡ without k old.mine.items = filter_same _ _ _ (λ x b f' h. search rules) _ _ c.retain.ensures.filtered ∙ sym (without_is_filter k old.mine.items) in
    record {
      hart = old.hart;
      named = ap (λ s. s.pool) c.give.ensures ∙ old.named;
      same = ap (λ s. s.held) c.give.ensures ∙ (ap (without k) old.same ∙ sym items);
      distinct = ap is_distinct items ∙ distinct-without k old.mine.items old.distinct;
    }

pub returns-clause-slots : goal.returns-clause-slots
returns-clause-slots g c = filter_same _ _ _ (λ x b f' h. search rules) _ _ c.retain.ensures.filtered ∙ sym (without_is_filter c.args.k c.args.self.now.mine.items)
