use Rattle.std.proofs.Common.{◌≡◌, ◌∙◌, sym, ap, [], ◌∷◌, ◌++◌, false, refl}
use Rattle.nc_pool.specs.Views.{has, is_distinct}
use Rattle.nc_pool.proofs.Without.{distinct-push}
use Rattle.nc_live.proofs.crew.Worker.try_slot.Goals as goal

pub invariant_of-self-in-Got : goal.invariant_of-self-in-Got
invariant_of-self-in-Got g c =
    let old = c.args.self.now in
    let k = c.args.k in
    let items : c.push_reserved.new.self.items ≡ old.mine.items ++ k ∷ [] = c.push_reserved.ensures.items ∙ ap (λ xs. xs ++ k ∷ []) c.in_ok-reserve.ensures.items in
    let fresh : has k old.mine.items ≡ false = ap (has k) (sym old.same) ∙ c.in-Got.ensures.fresh refl in
    record {
      hart = old.hart;
      named = c.in-Got.ensures.same.0 ∙ old.named;
      same = c.in-Got.ensures.held ∙ (ap (λ xs. xs ++ k ∷ []) old.same ∙ sym items);
      distinct = ap is_distinct items ∙ distinct-push k old.mine.items old.distinct fresh;
    }
