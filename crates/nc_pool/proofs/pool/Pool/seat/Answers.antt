use Rattle.std.proofs.Common.{◌≡◌, ◌∙◌, sym, ap, arith}
use Rattle.nc_pool.proofs.Seats.{seats_as}
use Rattle.nc_pool.proofs.pool.Pool.seat.Goals as goal

pub split_seat-seat-requires : goal.split_seat-seat-requires
split_seat-seat-requires c =
    let key : c.self.inside.table.shared.key.seats ≡ c.self.inside.seats = ap (λ k. k.seats) c.self.invariant.0 in (
      ap (λ v. v.pool) c.root.view_is ∙ (c.requires ∙ sym (ap (λ v. v.id) c.self.view_is)),
      omega (arith, c.self.invariant.1),
      seats_as c.self.inside.table.shared.key c.root.inside.seat.id c.root.inside.next c.root.inside.seat.me c.root.invariant.0 (omega arith),
    )
