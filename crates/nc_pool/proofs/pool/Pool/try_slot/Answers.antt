use Rattle.std.proofs.Common.{◌≡◌, ◌∙◌, sym, ap, arith, ◌<◌, ◌+◌, ◌-◌, ◌==◌, ◌++◌, ◌∷◌, [], ℕ}
use Rattle.std.specs.Prelude.{if◌then◌else◌}
use Rattle.atomic_table.specs.Table.{Me}
use Rattle.nc_pool.specs.declared.view.PoolView.{PoolView}
use Rattle.nc_pool.specs.declared.view.PoolView.TheVariants.{Live}
use Rattle.nc_pool.specs.Views.{has, held_of, log_of, tried}
use Rattle.nc_pool.proofs.Steps.{tries_as, bounds_after}
use Rattle.nc_pool.proofs.pool.Pool.try_slot.Goals as goal

pub compare_exchange-found-requires : goal.compare_exchange-found-requires
compare_exchange-found-requires c =
    let seat = c.seat.inside.seat in
    let slots : c.self.inside.slots ≡ c.args.self.now.slots = ap (λ v. v.slots) c.self.view_is in
    let key : c.self.inside.table.shared.key.slots ≡ c.self.inside.slots = ap (λ k. k.slots) c.self.invariant.0 in (
      ap (λ v. v.pool) c.seat.view_is ∙ (c.requires.pool ∙ sym (ap (λ v. v.id) c.self.view_is)),
      omega (arith, c.self.invariant.1, c.requires.slot),
      tries_as c.self.inside.table.shared.key c.self.inside.table.shared.table_id.slots seat.id c.seat.inside.number c.args.k seat.me (held_of seat.me.0) (log_of seat.me.0) c.seat.invariant.0 (omega (arith, c.requires.slot)),
    )

pub invariant_of-seat : goal.invariant_of-seat
invariant_of-seat c =
    let seat = c.seat.inside.seat in
    let e = c.compare_exchange-found.ensures in
    let k = c.args.k in
    let n = c.seat.inside.number in
    let found = c.compare_exchange-found.result in
    let held = held_of seat.me.0 in
    let log = log_of seat.me.0 in
    let slots : c.self.inside.slots ≡ c.args.self.now.slots = ap (λ v. v.slots) c.self.view_is in
    let pool : seat.table_id ≡ c.self.inside.table.shared.table_id = ap (λ v. v.pool) c.seat.view_is ∙ (c.requires.pool ∙ sym (ap (λ v. v.id) c.self.view_is)) in
    let place : k + 1 - 1 ≡ k = omega arith in
    let me : c.compare_exchange-found.new.seat.me ≡ (Live n (if found == 0 then held ++ k ∷ [] else held) (log ++ (k, found) ∷ []), [])
    = e.2.0 ∙ (ap (λ (m : Me ℕ PoolView). (tried m.0 (k + 1 - 1) found, m.1)) c.seat.invariant.0 ∙ (λ i. (Live n (if found == 0 then held ++ place i ∷ [] else held) (log ++ (place i, found) ∷ []), []))) in
    let room : k + 1 < seat.table_id.words = omega (arith, ap (λ i. i.words) pool, c.self.invariant.1, c.requires.slot) in (
      me ∙ sym (ap (λ (m : Me ℕ PoolView). (Live n (held_of m.0) (log_of m.0), [])) me),
      c.seat.invariant.1,
      λ j h. omega (arith, ap (λ i. i.words) e.0, bounds_after seat.table_id.words k found held room c.seat.invariant.2 (found == 0) j (sym (ap (λ (m : Me ℕ PoolView). has j (held_of m.0)) me) ∙ h)),
    )
