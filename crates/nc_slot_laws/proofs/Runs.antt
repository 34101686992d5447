-- The world after a run is one of its scenario.
use Rattle.std.proofs.Common.{◌≡◌, Bool, true, false, List, [], ◌∷◌, length, refl, sym, subst}
use Rattle.std.proofs.lemmas.List.Elements.{All-head, All-tail}
use Rattle.nc_scen.specs.Accepted.{IsAccepted}
use Rattle.nc_scen.specs.Events.{IsThere}
use Rattle.nc_scen.specs.declared.events.Event.{Event}
use Rattle.nc_scen.specs.declared.scenario.Scenario.{Scenario}
use Rattle.nc_rules.specs.Events.{enabled}
use Rattle.nc_rules.specs.Flat.{AreThere}
use Rattle.nc_rules.specs.Next.{next}
use Rattle.nc_rules.specs.Run.{after}
use Rattle.nc_rules.specs.World.{WorldState, start}
use Rattle.nc_holds.proofs.events.Given.{IsEvent}
use Rattle.nc_holds.proofs.events.Holds.{next_same}
use Rattle.nc_flatness.specs.Flatness.{IsWorldOf}
use Rattle.nc_flatness.proofs.worlds.Worlds.{worlds_start, worlds_stay, event_now}

-- what each event keeps that may happen is kept by each run
keeps_if : (sc : Scenario) (P : WorldState → Type 0) → ((w : WorldState) (e : Event) → IsWorldOf sc w → IsEvent w e → P w → P (next w e))
    → (w : WorldState) (e : Event) (t : Bool) → enabled w e ≡ t → IsWorldOf sc w → IsThere (length sc.harts) sc.block_size sc.ram e → P w → P (next w e)
keeps_if sc P keeps w e true may is there p = keeps w e is (event_now sc w e is there may) p
keeps_if sc P keeps w e false off is there p = subst P (sym (next_same w e off)) p

pub kept_from : (sc : Scenario) (P : WorldState → Type 0) → ((w : WorldState) (e : Event) → IsWorldOf sc w → IsEvent w e → P w → P (next w e))
    → (w : WorldState) (es : List Event) → IsWorldOf sc w → AreThere sc es → P w → P (after w es)
unfolding after
kept_from sc P keeps w [] is there p = p
kept_from sc P keeps w (e ∷ es) is there p =
    let here = All-head (IsThere (length sc.harts) sc.block_size sc.ram) e es there in
    kept_from sc P keeps (next w e) es (worlds_stay sc w e is here) (All-tail (IsThere (length sc.harts) sc.block_size sc.ram) e es there) (keeps_if sc P keeps w e (enabled w e) refl is here p)

world_from : (sc : Scenario) (w : WorldState) (es : List Event) → IsWorldOf sc w → AreThere sc es → IsWorldOf sc (after w es)
unfolding after
world_from sc w [] is there = is
world_from sc w (e ∷ es) is there =
    world_from sc (next w e) es (worlds_stay sc w e is (All-head (IsThere (length sc.harts) sc.block_size sc.ram) e es there)) (All-tail (IsThere (length sc.harts) sc.block_size sc.ram) e es there)

pub world_after : (sc : Scenario) (es : List Event) → IsAccepted sc → AreThere sc es → IsWorldOf sc (after (start sc) es)
world_after sc es a there = world_from sc (start sc) es (worlds_start sc a) there
