use Rattle.std.proofs.Common.{◌≡◌, ◌-◌, ◌≤◌, suc, leb, arith, rules, subst}
use Rattle.std.proofs.lemmas.List.Sorted.{IsPartitionPoint-from_clause, IsPartitionedBy-leb}
use Rattle.nc_own.specs.declared.intervals.Interval.{Interval}
use Rattle.nc_own.proofs.Tilings.{IsPoint, starts_rise, point_some, point_has}
use Rattle.nc_own.proofs.intervals.index_of.Goals as goal

is_point : (c : goal.After-partition_point) → IsPoint c.args.intervals.now c.args.at c.partition_point.result
is_point c =
    IsPartitionPoint-from_clause (λ (i : Interval). leb i.span.at c.args.at) _ _ c.partition_point.ensures.partitioned
    (IsPartitionedBy-leb (λ (i : Interval). i.span.at) _ c.args.at (λ i j d le lt. starts_rise 0 _ i j d c.requires.tile le lt)) (λ a r q k. search rules)

pub overflow_sub-result : goal.overflow_sub-result
overflow_sub-result c = point_some _ _ _ c.requires.tile c.requires.inside (is_point c)

pub returns-clause-has : goal.returns-clause-has
returns-clause-has c =
    let some : 1 ≤ c.partition_point.result = point_some _ _ _ c.requires.tile c.requires.inside (is_point c) in
    let next : c.partition_point.result ≡ suc (c.partition_point.result - 1) = omega arith in
    λ d. point_has _ _ _ d c.requires.tile c.requires.inside (subst (IsPoint c.args.intervals.now c.args.at) next (is_point c)) (omega (arith, c.partition_point.ensures.bound))
