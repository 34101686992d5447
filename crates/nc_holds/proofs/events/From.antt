-- All that is held in a world, as seen from the hart whose driver goes on.
use Rattle.std.proofs.Common.{◌≡◌, ℕ, ◌<◌, List, length, sym, ap, ◌∙◌, subst, inl, inr, Option}
use Rattle.std.specs.Prelude.{All, ◌≢◌, slice_set}
use Rattle.std.proofs.lemmas.Bool.{cases_eq}
use Rattle.std.proofs.lemmas.List.{get_or-set_same, get_or-set_other, length-set}
use Rattle.nc_num.specs.declared.names.HartNo.{HartNo}
use Rattle.nc_num.specs.declared.places.Span.{Span}
use Rattle.nc_plan.specs.Plans.{In}
use Rattle.nc_model.specs.declared.owners.Grant.{Grant}
use Rattle.nc_coherent.specs.Pages.{PageMap}
use Rattle.nc_rules.specs.declared.lots.Lot.{Lot}
use Rattle.nc_rules.specs.Lots.{DriverConfig}
use Rattle.nc_rules.specs.Machine.{MachineState}
use Rattle.nc_rules.specs.Driver.{DriverState, Went}
use Rattle.nc_rules.specs.World.{WorldState, no_driver, driver_of, with_moves}
use Rattle.nc_calls.specs.MachineLaws.{SameShape}
use Rattle.nc_scripts.specs.Drivers.{IsDriver, ArePagesOf, AreThere}
use Rattle.nc_scripts.proofs.Lists.{all_in}
use Rattle.nc_holds.specs.Held.{Held, AreRegions, IsGrantOf, HartAgrees}
use Rattle.nc_holds.specs.Changes.{WaitsUnlent}
use Rattle.nc_holds.specs.Holds.{IsSetting, KnowsAlike, held_of, DriverHolds, IsHeldGrant, Holds}
use Rattle.nc_holds.proofs.lists.Members.{all_at}
use Rattle.nc_holds.proofs.owners.Facts.{Knows, Mine}
use Rattle.nc_holds.proofs.calls.Plans.{ArePlanSteps}
use Rattle.nc_holds.proofs.calls.Shapes.{IsCall}
use Rattle.nc_holds.proofs.events.Given.{OwnerLaws}
use Rattle.nc_holds.proofs.events.Hart.{HasTheirs, Everyone, agrees_mine, agrees_theirs}
use Rattle.nc_holds.proofs.events.Calls.{after_call, call_stays}

-- ---- from a world

abbrev pub fixed_in : WorldState → ℕ → DriverConfig
fixed_in w g = (driver_of w g).fixed

abbrev pub lots_in : WorldState → ℕ → List Lot
lots_in w g = (driver_of w g).lots

abbrev pub EveryoneIn : WorldState → ℕ → Held → Type 0
EveryoneIn w h s = Everyone (length w.machine.cache.ram) (length w.machine.harts) h (fixed_in w h) (fixed_in w) (lots_in w) s

knows_from : (w : WorldState) (h : ℕ) → Holds w → DriverHolds w h → Knows (length w.machine.cache.ram) (length w.machine.harts) (fixed_in w h) (held_of w h)
knows_from w h all d = record {
  fixed = d.driver.fixed;
  regions = d.regions;
  lots = d.driver.lots;
  names = d.driver.apart;
  long = all.owners;
  pool = d.setting.pages;
}

mine_grant : (w : WorldState) (h : ℕ) (x : Grant) → IsHeldGrant w x → x.id.hart.0 ≡ h → IsGrantOf (fixed_in w h) (lots_in w h) x
mine_grant w h x is e = subst (λ (g : ℕ). IsGrantOf (fixed_in w g) (lots_in w g) x) e is.is

mine_from : (w : WorldState) (h : ℕ) → Holds w → DriverHolds w h → Mine (fixed_in w h) (held_of w h)
mine_from w h all d = record {
  sides = d.agrees.sides;
  apart = d.agrees.apart;
  owners = d.agrees.owners;
  granted = d.agrees.granted;
  pages = d.agrees.pages;
  held = λ x here_x e. mine_grant w h x (all_at (IsHeldGrant w) w.grants x all.grants here_x) (e ∙ d.me);
}

theirs_from : (w : WorldState) (h g : ℕ) → KnowsAlike (fixed_in w h) (fixed_in w g) → DriverHolds w h → DriverHolds w g → g ≢ h → HasTheirs (length w.machine.cache.ram) (fixed_in w h) (fixed_in w g) (lots_in w g) g (held_of w h)
theirs_from w h g alike d t ne = record {
  theirs = record {
    alike = alike;
    other = λ e. ne (sym t.me ∙ e ∙ d.me);
    each = t.driver.lots;
    sides = t.agrees.sides;
    owners = t.agrees.owners;
    granted = t.agrees.granted;
    pages = t.agrees.pages;
  };
  me = t.me;
  names = t.driver.apart;
  apart = t.agrees.apart;
  words = t.agrees.words;
  waits = t.waits;
}

pub everyone_from : (w : WorldState) (h : ℕ) → Holds w → h < length w.machine.harts → EveryoneIn w h (held_of w h)
everyone_from w h all lt =
    let d = all.each h lt in
    record {
      knows = knows_from w h all d;
      me = d.me;
      mine = mine_from w h all d;
      words = d.agrees.words;
      long = d.setting.words;
      waits = d.waits;
      theirs = λ g g_lt ne. theirs_from w h g (all.alike h g lt g_lt) d (all.each g g_lt) ne;
      grants = λ x here_x ne. let is = all_at (IsHeldGrant w) w.grants x all.grants here_x in record { hart = is.hart; is = is.is };
    }

-- ---- to a world

-- a driver and what it holds, but for loads, messages and tokens
pub record OwnHolds (w : WorldState) (d : DriverState) (h : ℕ) : Type 0 where
  pub driver : IsDriver (length w.machine.cache.ram) (length w.machine.harts) d
  pub me : d.fixed.me.0 ≡ h
  pub setting : IsSetting d.fixed w
  pub regions : AreRegions d.fixed
  pub turns : ArePlanSteps d.lots d.rest
  pub waits : WaitsUnlent d.lots
  pub agrees : HartAgrees d.fixed (record { lots = d.lots; owners = w.owners; grants = w.grants; slots = w.slots; pages = w.pages })

pub record OwnWorld (w : WorldState) : Type 0 where
  pub drivers : length w.drivers ≡ length w.machine.harts
  pub owners : length w.owners ≡ length w.machine.cache.ram
  pub each : (h : ℕ) → h < length w.machine.harts → OwnHolds w (driver_of w h) h
  pub alike : (h g : ℕ) → h < length w.machine.harts → g < length w.machine.harts → KnowsAlike (driver_of w h).fixed (driver_of w g).fixed
  pub grants : All (IsHeldGrant w) w.grants

-- hart h's driver goes on to this one, over such a machine, where the slot words are these before any is given back
pub record GoesOn (w : WorldState) (h : ℕ) (machine : MachineState) (now : List (Option HartNo)) (went : Went) : Type 0 where
  pub there : h < length w.machine.harts
  pub shape : SameShape w.machine machine
  pub call : IsCall (length w.machine.cache.ram) (fixed_in w h) (held_of w h) now went
  pub driver : IsDriver (length w.machine.cache.ram) (length w.machine.harts) went.driver
  pub fixed : went.driver.fixed ≡ fixed_in w h
  pub moves : AreThere (length w.machine.cache.ram) (fixed_in w h) went.moves

-- the world behind it
abbrev pub gone_on : WorldState → ℕ → MachineState → List (Option HartNo) → Went → WorldState
gone_on w h machine now went = with_moves (record w { machine = machine; drivers = slice_set w.drivers h went.driver; slots = now }) went.moves

driver_away : (w : WorldState) (h g : ℕ) (d : DriverState) → g ≢ h → driver_of (record w { drivers = slice_set w.drivers h d }) g ≡ driver_of w g
driver_away w h g d ne = get_or-set_other w.drivers h g d no_driver ne

alike_pages : (f g : DriverConfig) (pool : PageMap) → KnowsAlike f g → ArePagesOf f pool → ArePagesOf g pool
alike_pages f g pool a h = record { at = h.at ∙ ap (λ (s : Span). s.at) a.pool; len = h.len ∙ ap (λ (s : Span). s.len) a.pool }

-- the setting of a driver in the world behind
setting_behind : (w : WorldState) (h g : ℕ) (machine : MachineState) (now : List (Option HartNo)) (went : Went) → Holds w → GoesOn w h machine now went → EveryoneIn w h (after_call (held_of w h) now went) → g < length w.machine.harts → IsSetting (fixed_in w g) (gone_on w h machine now went)
unfolding after_call
setting_behind w h g machine now went all go every lt =
    let a = all.alike h g go.there lt in
    let s = (all.each g lt).setting in
    record {
      block = go.shape.size ∙ s.block;
      pool = go.shape.pool ∙ s.pool;
      boxes = go.shape.boxes ∙ s.boxes;
      pages = alike_pages (fixed_in w h) (fixed_in w g) _ a every.knows.pool;
      words = every.long ∙ a.slots;
    }

own_behind : (w : WorldState) (h : ℕ) (machine : MachineState) (now : List (Option HartNo)) (went : Went) → Holds w → GoesOn w h machine now went → EveryoneIn w h (after_call (held_of w h) now went) → OwnHolds (gone_on w h machine now went) went.driver h
unfolding after_call
own_behind w h machine now went all go every =
    let s = setting_behind w h h machine now went all go every go.there in
    record {
      driver = rw (go.shape.ram, go.shape.harts) go.driver;
      me = ap (λ (f : DriverConfig). f.me.0) go.fixed ∙ every.me;
      setting = subst (λ (f : DriverConfig). IsSetting f (gone_on w h machine now went)) (sym go.fixed) s;
      regions = subst (λ (f : DriverConfig). AreRegions f) (sym go.fixed) every.knows.regions;
      turns = go.call.plan;
      waits = every.waits;
      agrees = subst (λ (f : DriverConfig). HartAgrees f (after_call (held_of w h) now went)) (sym go.fixed) (agrees_mine (fixed_in w h) (after_call (held_of w h) now went) every.mine every.words);
    }

other_behind : (w : WorldState) (h g : ℕ) (machine : MachineState) (now : List (Option HartNo)) (went : Went) → Holds w → GoesOn w h machine now went → EveryoneIn w h (after_call (held_of w h) now went) → g < length w.machine.harts → g ≢ h
    → OwnHolds (gone_on w h machine now went) (driver_of w g) g
unfolding after_call
other_behind w h g machine now went all go every lt ne =
    let d = all.each g lt in
    record {
      driver = rw (go.shape.ram, go.shape.harts) d.driver;
      me = d.me;
      setting = setting_behind w h g machine now went all go every lt;
      regions = d.regions;
      turns = d.turns;
      waits = d.waits;
      agrees = agrees_theirs (length w.machine.cache.ram) (fixed_in w h) (fixed_in w g) (lots_in w g) g (after_call (held_of w h) now went) (every.theirs g lt ne);
    }

each_behind : (w : WorldState) (h g : ℕ) (machine : MachineState) (now : List (Option HartNo)) (went : Went) → Holds w → GoesOn w h machine now went → EveryoneIn w h (after_call (held_of w h) now went) → g < length w.machine.harts
    → OwnHolds (gone_on w h machine now went) (driver_of (gone_on w h machine now went) g) g
each_behind w h g machine now went all go every lt = elim (cases_eq g h) [
  | inl same ↦
      let at : h < length w.drivers = subst (λ n. h < n) (sym all.drivers) go.there in
      subst (λ (k : ℕ). OwnHolds (gone_on w h machine now went) (driver_of (gone_on w h machine now went) k) k) (sym same)
      (subst (λ (d : DriverState). OwnHolds (gone_on w h machine now went) d h) (sym (get_or-set_same w.drivers h went.driver no_driver at)) (own_behind w h machine now went all go every))
  | inr ne ↦ subst (λ (d : DriverState). OwnHolds (gone_on w h machine now went) d g) (sym (driver_away w h g went.driver ne)) (other_behind w h g machine now went all go every lt ne)
]

fixed_behind : (w : WorldState) (h g : ℕ) (machine : MachineState) (now : List (Option HartNo)) (went : Went) → Holds w → GoesOn w h machine now went → (driver_of (gone_on w h machine now went) g).fixed ≡ fixed_in w g
fixed_behind w h g machine now went all go = elim (cases_eq g h) [
  | inl same ↦
      let at : h < length w.drivers = subst (λ n. h < n) (sym all.drivers) go.there in
      subst (λ (k : ℕ). (driver_of (gone_on w h machine now went) k).fixed ≡ fixed_in w k) (sym same) (ap (λ (d : DriverState). d.fixed) (get_or-set_same w.drivers h went.driver no_driver at) ∙ go.fixed)
  | inr ne ↦ ap (λ (d : DriverState). d.fixed) (driver_away w h g went.driver ne)
]

grant_behind : (w : WorldState) (h : ℕ) (machine : MachineState) (now : List (Option HartNo)) (went : Went) (x : Grant) → Holds w → GoesOn w h machine now went → EveryoneIn w h (after_call (held_of w h) now went) → In x (gone_on w h machine now went).grants
    → IsHeldGrant (gone_on w h machine now went) x
unfolding after_call
grant_behind w h machine now went x all go every here_x = elim (cases_eq x.id.hart.0 h) [
  | inl same ↦
      let at : h < length w.drivers = subst (λ n. h < n) (sym all.drivers) go.there in
      let is = every.mine.held x here_x (same ∙ sym every.me) in
      let mine = subst (λ (d : DriverState). IsGrantOf d.fixed d.lots x) (sym (get_or-set_same w.drivers h went.driver no_driver at)) (subst (λ (f : DriverConfig). IsGrantOf f went.driver.lots x) (sym go.fixed) is) in
      record {
        hart = rw go.shape.harts (subst (λ (k : ℕ). k < length w.machine.harts) (sym same) go.there);
        is = subst (λ (k : ℕ). IsGrantOf (driver_of (gone_on w h machine now went) k).fixed (driver_of (gone_on w h machine now went) k).lots x) (sym same) mine;
      }
  | inr ne ↦
      let is = every.grants x here_x ne in
      record {
        hart = rw go.shape.harts is.hart;
        is = subst (λ (d : DriverState). IsGrantOf d.fixed d.lots x) (sym (driver_away w h x.id.hart.0 went.driver ne)) is.is;
      }
]

pub goes_stays : (laws : OwnerLaws) (w : WorldState) (h : ℕ) (machine : MachineState) (now : List (Option HartNo)) (went : Went) → Holds w → GoesOn w h machine now went → OwnWorld (gone_on w h machine now went)
unfolding after_call
goes_stays laws w h machine now went all go =
    let n = length w.machine.harts in
    let every = call_stays laws (length w.machine.cache.ram) (length w.machine.harts) h (fixed_in w h) (fixed_in w) (lots_in w) (held_of w h) now went (everyone_from w h all go.there) go.call in
    record {
      drivers = length-set w.drivers h went.driver ∙ all.drivers ∙ sym go.shape.harts;
      owners = every.knows.long ∙ sym go.shape.ram;
      each = λ g lt. each_behind w h g machine now went all go every (subst (λ (k : ℕ). g < k) go.shape.harts lt);
      alike = λ a b a_lt b_lt. alike_by a b (all.alike a b (subst (λ (k : ℕ). a < k) go.shape.harts a_lt) (subst (λ (k : ℕ). b < k) go.shape.harts b_lt));
      grants = all_in (IsHeldGrant (gone_on w h machine now went)) (gone_on w h machine now went).grants (λ x here_x. grant_behind w h machine now went x all go every here_x);
    }
  where
    alike_by : (a b : ℕ) → KnowsAlike (fixed_in w a) (fixed_in w b) → KnowsAlike (driver_of (gone_on w h machine now went) a).fixed (driver_of (gone_on w h machine now went) b).fixed
    alike_by a b k =
        subst (λ (f : DriverConfig). KnowsAlike f (driver_of (gone_on w h machine now went) b).fixed) (sym (fixed_behind w h a machine now went all go))
        (subst (λ (f : DriverConfig). KnowsAlike (fixed_in w a) f) (sym (fixed_behind w h b machine now went all go)) k)
