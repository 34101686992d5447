use Rattle.std.proofs.Common.{◌≡◌, ◌∙◌, sym, ap, arith, ℕ, List, []}
use Rattle.nc_pool.specs.declared.view.PoolView.TheVariants.{Live}
use Rattle.nc_pool.specs.Views.{held_of, log_of}
use Rattle.nc_pool.proofs.Seats.{joins_as}
use Rattle.nc_pool.proofs.pool.Pool.join.Goals as goal

pub join_seat-requires : goal.join_seat-requires
join_seat-requires c =
    let seat = c.seat.inside.seat in
    let root = c.root.inside.seat in
    let none : held_of seat.me.0 ≡ [] = ap (λ v. v.held) c.seat.view_is ∙ c.requires.nothing in (
      ap (λ v. v.pool) c.root.view_is ∙ (c.requires.root ∙ sym (ap (λ v. v.id) c.self.view_is)),
      ap (λ v. v.pool) c.seat.view_is ∙ (c.requires.seat ∙ sym (ap (λ v. v.id) c.self.view_is)),
      ap (λ m. m.1) c.seat.invariant.0,
      omega (arith, c.self.invariant.1),
      joins_as c.self.inside.table.shared.key root.id seat.id c.seat.inside.number root.me.0 seat.me (log_of seat.me.0) (c.seat.invariant.0 ∙ ap (λ (h : List ℕ). (Live c.seat.inside.number h (log_of seat.me.0), [])) none),
    )
