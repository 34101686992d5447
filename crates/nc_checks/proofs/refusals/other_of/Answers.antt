use Rattle.std.proofs.Common.{◌+◌, ◌≤◌, List, take, refl, sym, subst}
use Rattle.nc_model.specs.declared.owners.Owner.{Owner}
use Rattle.nc_checks.proofs.Others.{lent_more, length-lent_all}
use Rattle.nc_checks.specs.Owned.{lent_all, IsOther}
use Rattle.nc_checks.proofs.refusals.other_of.Goals as goal

pub loop-i-preserved : goal.loop-i-preserved
loop-i-preserved c =
    let before = lent_all c.args.me c.args.id 0 c.args.book.now.owners (take c.loop-i.i c.args.lent.now) in
    subst (λ (owners : List Owner). IsOther c.args.me owners c.args.range c.nearer-found.result)
    (sym (lent_more c.args.me c.args.id c.args.book.now.owners c.args.lent.now c.loop-i.i (record { at = 0; len = 0 }) c.loop-i-test.true))
    (c.nearer-found.ensures c.args.me before refl
    (subst (λ n. c.args.range.at + c.args.range.len ≤ n) (sym (length-lent_all c.args.me c.args.id 0 c.args.book.now.owners (take c.loop-i.i c.args.lent.now))) c.requires.inside)
    c.loop-i.invariant)
