-- The slot word that a search tries next is a slot's.
use Rattle.std.proofs.Common.{◌≡◌, ℕ, ◌<◌, length, Option, Some, None, sym, subst, arith}
use Rattle.std.specs.Prelude.{IfSome}
use Rattle.nc_num.specs.declared.names.HartNo.{HartNo}
use Rattle.nc_scen.specs.declared.scenario.Scenario.{Scenario}
use Rattle.nc_rules.specs.declared.steps.Next.{Next}
use Rattle.nc_rules.specs.declared.steps.Next.TheVariants as nexts
use Rattle.nc_rules.specs.Driver.{DriverState, next_of, searched, searching}
use Rattle.nc_rules.specs.Lots.{DriverConfig}
use Rattle.nc_rules.specs.World.{WorldState, driver_of}
use Rattle.nc_scripts.specs.Drivers.{NextIsThere, StaysDriver}
use Rattle.nc_scripts.proofs.EveryDriver.{drivers_stay}
use Rattle.nc_flatness.specs.Flatness.{IsWorldOf}

searched_is : (n : Next) (k : ℕ) → searched n ≡ Some k → n ≡ nexts.Search k
searched_is (nexts.Search j) k is = cc
searched_is nexts.End k is = absurd (cc)
searched_is nexts.Start k is = absurd (cc)
searched_is (nexts.Op op) k is = absurd (cc)
searched_is (nexts.Claim chan) k is = absurd (cc)
searched_is (nexts.Poll chan) k is = absurd (cc)
searched_is (nexts.Take buf) k is = absurd (cc)

next_is : (d : DriverState) (k : ℕ) → searching d ≡ Some k → next_of d ≡ nexts.Search k
unfolding searching
next_is d k is = searched_is (next_of d) k is

pub slot_below : (sc : Scenario) (w : WorldState) (h : HartNo) (k : ℕ) → IsWorldOf sc w → h.0 < length sc.harts → searching (driver_of w h.0) ≡ Some k → k < sc.slots
slot_below sc w h k is lt at =
    let d = driver_of w h.0 in
    let ram = length w.machine.cache.ram in
    let harts = length w.machine.harts in
    let stays : StaysDriver ram harts d = drivers_stay ram harts d (is.holds.each h.0 (omega (arith, lt, is.of_scenario.harts))).driver in
    let few : k < d.fixed.slots = subst (NextIsThere ram harts d.fixed) (next_is d k at) stays.next_there in
    subst (λ (f : DriverConfig). k < f.slots) (is.fixed h.0 lt) few

pub slots_below : (sc : Scenario) (w : WorldState) (h : HartNo) (o : Option ℕ) → IsWorldOf sc w → h.0 < length sc.harts → o ≡ searching (driver_of w h.0) → IfSome o (λ k. k < sc.slots)
slots_below sc w h (Some k) is lt at = slot_below sc w h k is lt (sym at)
slots_below sc w h None is lt at = tt
