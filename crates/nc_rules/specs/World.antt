-- The world: the machine, the drivers of its scripts, who owns each byte, and what has been counted. This project's own.
use Rattle.std.specs.Prelude.{ℕ, ◌+◌, ◌-◌, ◌^◌, min, true, false, List, [], ◌∷◌, ◌++◌, length, map, replicate, Option, None, slice_index_or, slice_set}
use Rattle.std.specs.List.{range_with_len}
use Rattle.nc_num.specs.declared.names.HartNo.{HartNo}
use Rattle.nc_num.specs.declared.places.Span.{Span}
use Rattle.nc_env.specs.declared.Mode.TheVariants.{M}
use Rattle.nc_plan.specs.Effects.{effects_of}
use Rattle.nc_model.specs.declared.owners.Grant.{Grant}
use Rattle.nc_model.specs.declared.owners.Owner.{Owner}
use Rattle.nc_model.specs.declared.owners.Owner.TheVariants.{Thread, Pool}
use Rattle.nc_own.specs.Books.{transferred}
use Rattle.nc_model.specs.Grants.{without}
use Rattle.nc_num.specs.declared.names.MapId.{MapId}
use Rattle.nc_coherent.specs.Pages.{PageMap, with_pages}
use Rattle.nc_rules.specs.declared.steps.PageMove.{PageMove}
use Rattle.nc_rules.specs.declared.steps.PageMove.TheVariants.{Stay, Take, Give}
use Rattle.nc_rules.specs.declared.steps.Seen.TheVariants.{Nothing}
use Rattle.nc_scen.specs.declared.scenario.BufferSpec.{BufferSpec}
use Rattle.nc_scen.specs.declared.scenario.Scenario.{Scenario}
use Rattle.nc_rules.specs.declared.steps.Phase.TheVariants.{Steps}
use Rattle.nc_rules.specs.Machine.{MachineState}
use Rattle.nc_rules.specs.Turns.{Moved}
use Rattle.nc_rules.specs.Driver.{DriverState}
use Rattle.nc_rules.specs.Start.{first_machine, first_driver}

pub record WorldState : Type 0 where
  pub machine : MachineState
  -- the drivers, by hart
  pub drivers : List DriverState
  -- the owner of each place of RAM
  pub owners : List Owner
  -- what is granted to the channels, in order of adding
  pub grants : List Grant
  -- the hart that holds each slot word
  pub slots : List (Option HartNo)
  -- the pages of the coherent pool
  pub pages : PageMap
  -- how many events were done, and how many touches there were
  pub events : ℕ
  pub touches : ℕ

-- a driver that is not there
abbrev pub no_driver : DriverState
no_driver = record {
  fixed = record {
    me = record { 0 = 0 };
    effects = effects_of M 0 0;
    pbmte = false;
    table = [];
    buffers = [];
    size = 0;
    zero_size = 0;
    reach = [];
    slots_at = 0;
    slots = 0;
    pool = record { at = 0; len = 0 };
    light = false;
    script = [];
  };
  op = 0;
  phase = Steps 0;
  rest = [];
  lots = [];
  saw = Nothing;
}

abbrev pub driver_of : WorldState → ℕ → DriverState
driver_of w h = slice_index_or w.drivers h no_driver

abbrev pub with_driver : WorldState → ℕ → DriverState → WorldState
with_driver w h d = record w { drivers = slice_set w.drivers h d }

abbrev pub with_machine : WorldState → MachineState → WorldState
with_machine w m = record w { machine = m }

-- ---- counts, which stand still at their end

abbrev pub one_more : ℕ → ℕ
one_more n = min (n + 1) (2 ^ 64 - 1)

-- ---- what a driver's call moves

abbrev pub owners_moved : List Owner → List (Span × Owner) → List Owner
owners_moved owners [] = owners
owners_moved owners (t ∷ ts) = owners_moved (transferred owners t.0 t.1) ts

-- the new grants are behind those that stand
abbrev pub grants_added : List Grant → List Grant → List Grant
grants_added grants [] = grants
grants_added grants (g ∷ gs) = grants_added (grants ++ g ∷ []) gs

abbrev pub grants_ended : List Grant → List MapId → List Grant
grants_ended grants [] = grants
grants_ended grants (id ∷ ids) = grants_ended (without grants id) ids

abbrev pub slots_back : List (Option HartNo) → List ℕ → List (Option HartNo)
slots_back slots [] = slots
slots_back slots (k ∷ ks) = slots_back (slice_set slots k None) ks

abbrev pub pages_moved : PageMap → PageMove → PageMap
pages_moved pages Stay = pages
pages_moved pages (Take span) = with_pages pages span false
pages_moved pages (Give span) = with_pages pages span true

-- what a driver's call moves is moved: owners, then new grants, then grants that end, slots and pages
abbrev pub with_moves : WorldState → Moved → WorldState
with_moves w m = record w {
  owners = owners_moved w.owners m.transfers;
  grants = grants_ended (grants_added w.grants m.grants) m.ended;
  slots = slots_back w.slots m.backs;
  pages = pages_moved w.pages m.pages;
}

-- ---- the start

-- a buffer's bytes are its hart's own, and all others the pool's
abbrev pub owned_by_harts : List Owner → List BufferSpec → List Owner
owned_by_harts owners [] = owners
owned_by_harts owners (b ∷ bs) = owned_by_harts (transferred owners b.span (Thread b.owner)) bs

unfoldable pub first_owners : Scenario → List Owner
first_owners sc = owned_by_harts (replicate sc.ram Pool) sc.buffers

abbrev pub hart : ℕ → HartNo
hart h = record { 0 = h }

unfoldable pub start : Scenario → WorldState
start sc = record {
  machine = first_machine sc;
  drivers = map (λ h. first_driver sc (hart h)) (range_with_len 0 (length sc.harts));
  owners = first_owners sc;
  grants = [];
  slots = replicate sc.slots None;
  pages = record { at = sc.pool_at; free = replicate sc.pages true };
  events = 0;
  touches = 0;
}
