use Rattle.std.proofs.Common.{◌≡◌, ◌∙◌, sym, ap, arith, ◌+◌, ◌-◌, ℕ, [], true}
use Rattle.atomic_table.specs.Table.{Me}
use Rattle.nc_pool.specs.declared.view.PoolView.{PoolView}
use Rattle.nc_pool.specs.declared.view.PoolView.TheVariants.{Live}
use Rattle.nc_pool.specs.Views.{has, without, held_of, log_of, given}
use Rattle.nc_pool.proofs.Steps.{gives_as}
use Rattle.nc_pool.proofs.Without.{has_of_without}
use Rattle.nc_pool.proofs.pool.Pool.give.Goals as goal

pub swap-requires : goal.swap-requires
swap-requires c =
    let seat = c.seat.inside.seat in
    let k = c.args.k in
    let holds : has k (held_of seat.me.0) ≡ true = ap (λ v. has k v.held) c.seat.view_is ∙ c.requires.holds in
    let pool : seat.table_id ≡ c.self.inside.table.shared.table_id = ap (λ v. v.pool) c.seat.view_is ∙ (c.requires.pool ∙ sym (ap (λ v. v.id) c.self.view_is)) in (
      pool,
      omega (arith, c.seat.invariant.2 k holds, ap (λ i. i.words) pool),
      gives_as c.self.inside.table.shared.key c.self.inside.table.shared.table_id.slots seat.id c.seat.inside.number k seat.me (held_of seat.me.0) (log_of seat.me.0) c.seat.invariant.0 holds,
    )

pub invariant_of-seat : goal.invariant_of-seat
invariant_of-seat c =
    let seat = c.seat.inside.seat in
    let k = c.args.k in
    let n = c.seat.inside.number in
    let held = held_of seat.me.0 in
    let log = log_of seat.me.0 in
    let place : k + 1 - 1 ≡ k = omega arith in
    let me : c.swap.new.seat.me ≡ (Live n (without k held) log, []) = c.swap.ensures.2 ∙ (ap (λ (m : Me ℕ PoolView). (given m.0 (k + 1 - 1), m.1)) c.seat.invariant.0 ∙ (λ i. (Live n (without (place i) held) log, []))) in (
      me ∙ sym (ap (λ (m : Me ℕ PoolView). (Live n (held_of m.0) (log_of m.0), [])) me),
      c.seat.invariant.1,
      λ j h. omega (arith, ap (λ i. i.words) c.swap.ensures.0, c.seat.invariant.2 j (has_of_without j k held (sym (ap (λ (m : Me ℕ PoolView). has j (held_of m.0)) me) ∙ h))),
    )
