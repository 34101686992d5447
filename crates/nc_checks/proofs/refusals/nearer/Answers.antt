use Rattle.nc_checks.proofs.Others.{other_apart, other_kept, other_lent, apart_by, both_cover}
use Rattle.nc_checks.proofs.refusals.nearer.Goals as goal

pub returns-then-end-at : goal.returns-then-end-at
returns-then-end-at c = λ me owners foreign inside h.
    other_apart me owners c.args.range c.args.lent c.args.owner c.args.found inside
    (apart_by c.args.range c.args.lent c.max-at.result c.min-end.result c.max-at.ensures c.min-end.ensures c.if-end-at.true) h

pub returns-then-is_behind : goal.returns-then-is_behind
returns-then-is_behind c = λ me owners foreign inside h.
    let both = both_cover c.args.range c.args.lent c.max-at.result c.min-end.result c.max-at.ensures c.min-end.ensures c.if-end-at.false in
    other_lent me owners c.args.range c.args.lent c.args.owner c.args.found (record { 0 = c.max-at.result }) inside foreign c.max-at.ensures both.0 both.1 (c.is_behind.ensures.behind c.if-is_behind.true) h

pub returns-else-is_behind : goal.returns-else-is_behind
returns-else-is_behind c = λ me owners foreign inside h.
    other_kept me owners c.args.range c.args.lent c.args.owner c.args.found c.max-at.result inside c.max-at.ensures
    (c.is_behind.ensures.before c.if-is_behind.false) (c.is_behind.ensures.some c.if-is_behind.false) h
