-- What an end of a copy leaves behind where it is gone. This project's own.
use Rattle.std.specs.Prelude.{ℕ, ◌≡◌, Some, None, slice_get, true, false}
use Rattle.nc_num.specs.Places.{covers}
use Rattle.nc_num.specs.declared.names.HartNo.{HartNo}
use Rattle.nc_model.specs.declared.owners.Grant.{Grant}
use Rattle.nc_model.specs.declared.owners.Owner.TheVariants.{Thread}
use Rattle.nc_own.specs.Books.{owner_in}
use Rattle.nc_plan.specs.Plans.{In}
use Rattle.nc_sg.specs.declared.list.Entry.{Entry}
use Rattle.nc_slots.specs.SlotWords.{holder_of}
use Rattle.nc_rules.specs.declared.lots.Lot.{Lot}
use Rattle.nc_rules.specs.Lots.{is_wanted, map_id}
use Rattle.nc_rules.specs.World.{WorldState, driver_of}
use Rattle.nc_scripts.specs.Drivers.{IsEndName}

-- hart h has this lot, an end of a copy that is lent or was
pub record HasLentEnd (w : WorldState) (h : HartNo) (lot : Lot) : Type 0 where
  pub here : In lot (driver_of w h.0).lots
  pub end : IsEndName lot.id
  pub lent : is_wanted lot.side ≡ false

-- hart h has no lot of its name
abbrev pub IsGone : WorldState → HartNo → Lot → Type 0
IsGone v h lot = (now : Lot) → In now (driver_of v h.0).lots → now.id ≡ lot.id → ⊥

-- each byte of its entries is hart h's own, no grant of them is left, and the word of each of their slots is free
pub record IsReturned (v : WorldState) (h : HartNo) (lot : Lot) : Type 0 where
  pub bytes : (i : ℕ) (e : Entry) (x : ℕ) → slice_get lot.list.entries i ≡ Some e → covers e.span x ≡ true → owner_in v.owners x ≡ Thread h
  pub grants : (i : ℕ) (e : Entry) (g : Grant) → slice_get lot.list.entries i ≡ Some e → In g v.grants → g.id ≡ map_id h lot.id i → ⊥
  pub slots : (i : ℕ) (e : Entry) (k : ℕ) → slice_get lot.list.entries i ≡ Some e → e.slot ≡ Some k → holder_of v.slots k ≡ None
