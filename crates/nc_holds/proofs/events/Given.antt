-- What the laws of owners, grants and pages say of one change, and those of messages, tokens and loads of one event, each
-- in one record.
use Rattle.std.specs.Prelude.{ℕ, ◌≡◌, ◌<◌, true, false, List, [], ◌∷◌, ◌++◌, length, All}
use Rattle.nc_plan.specs.Plans.{In}
use Rattle.nc_model.specs.declared.owners.Grant.{Grant}
use Rattle.nc_rules.specs.declared.lots.Lot.{Lot}
use Rattle.nc_rules.specs.declared.lots.LotId.{LotId}
use Rattle.nc_rules.specs.declared.steps.Turn.{Turn}
use Rattle.nc_rules.specs.declared.steps.Turn.TheVariants as turns
use Rattle.nc_rules.specs.Lots.{DriverConfig, lot_waits}
use Rattle.nc_rules.specs.Turns.{is_area, grants_of, pages_of}
use Rattle.nc_rules.specs.Events.{enabled}
use Rattle.nc_rules.specs.Machine.{hart_of}
use Rattle.nc_rules.specs.Next.{next}
use Rattle.nc_rules.specs.Sound.{IsMachine}
use Rattle.nc_rules.specs.World.{WorldState, driver_of}
use Rattle.nc_scen.specs.Events.{IsThere}
use Rattle.nc_scen.specs.declared.events.Event.{Event}
use Rattle.nc_scripts.specs.Drivers.{LoadsFit}
use Rattle.nc_holds.specs.Held.{Held, WordsAgree}
use Rattle.nc_holds.specs.Changes.{Change, Made, Turned, WaitsUnlent, changed, changed_by}
use Rattle.nc_holds.specs.Holds.{CanAddAll, MayMovePages, Holds}
use Rattle.nc_holds.specs.Messages.{MessagesAgree}
use Rattle.nc_holds.specs.Rests.{RestAgrees}
use Rattle.nc_holds.specs.Tokens.{TokensAgree}
use Rattle.nc_holds.proofs.owners.Facts.{Knows, Mine, Fits, Theirs, EachIsHeld, IsMaking}

-- an area that is made and lent
abbrev pub area_made : DriverConfig → Held → Lot → Held
area_made f s lot = changed_by f s (Made (lot ∷ []) ∷ Turned (turns.Lend lot.id) ∷ [])

pub record OwnerLaws : Type 0 where
  pub knows_stay : (ram harts : ℕ) (f : DriverConfig) (s : Held) (c : Change) → Knows ram harts f s → Fits ram f s c → Knows ram harts f (changed f s c)
  pub mine_stays : (ram harts : ℕ) (f : DriverConfig) (s : Held) (c : Change) → Knows ram harts f s → Mine f s → Fits ram f s c → Mine f (changed f s c)
  pub theirs_stay : (ram harts : ℕ) (f g : DriverConfig) (s : Held) (lots : List Lot) (c : Change) → Knows ram harts f s → Mine f s → Theirs ram f g s lots → Fits ram f s c → Theirs ram f g (changed f s c) lots
  pub grants_of_others : (f : DriverConfig) (s : Held) (c : Change) (g : Grant) → In g (changed f s c).grants → (g.id.hart.0 ≡ f.me.0 → ⊥) → In g s.grants
  pub area_knows_stay : (ram harts : ℕ) (f : DriverConfig) (s : Held) (lot : Lot) → Knows ram harts f s → Mine f s → IsMaking ram f s (lot ∷ []) → is_area lot.kind ≡ true → Knows ram harts f (area_made f s lot)
  pub area_mine_stays : (ram harts : ℕ) (f : DriverConfig) (s : Held) (lot : Lot) → Knows ram harts f s → Mine f s → IsMaking ram f s (lot ∷ []) → is_area lot.kind ≡ true → Mine f (area_made f s lot)
  pub area_theirs_stay : (ram harts : ℕ) (f g : DriverConfig) (s : Held) (lots : List Lot) (lot : Lot) → Knows ram harts f s → Mine f s → Theirs ram f g s lots → IsMaking ram f s (lot ∷ []) → is_area lot.kind ≡ true → Theirs ram f g (area_made f s lot) lots
  pub area_grants_of_others : (f : DriverConfig) (s : Held) (lot : Lot) (g : Grant) → In g (area_made f s lot).grants → (g.id.hart.0 ≡ f.me.0 → ⊥) → In g s.grants
  pub waits_stay : (ram : ℕ) (f : DriverConfig) (s : Held) (c : Change) → Fits ram f s c → WaitsUnlent s.lots → WaitsUnlent (changed f s c).lots
  pub area_waits : (ram : ℕ) (f : DriverConfig) (s : Held) (lot : Lot) → IsMaking ram f s (lot ∷ []) → is_area lot.kind ≡ true → WaitsUnlent s.lots → WaitsUnlent (area_made f s lot).lots
  pub can_add_all : (ram harts : ℕ) (f : DriverConfig) (s : Held) (id : LotId) → Knows ram harts f s → Mine f s → WordsAgree f.me s.slots s.lots → EachIsHeld ram f s → All (λ lot. lot_waits lot ≡ false) s.lots
      → CanAddAll ram s.grants (grants_of f.me f.slots_at s.lots (turns.Lend id))
  pub area_can_add_all : (ram harts : ℕ) (f : DriverConfig) (s : Held) (lot : Lot) → Knows ram harts f s → Mine f s → EachIsHeld ram f s → IsMaking ram f s (lot ∷ []) → is_area lot.kind ≡ true
      → CanAddAll ram s.grants (grants_of f.me f.slots_at (s.lots ++ lot ∷ []) (turns.Lend lot.id))
  pub may_move_pages : (ram harts : ℕ) (f : DriverConfig) (s : Held) (t : Turn) → Knows ram harts f s → Mine f s → Fits ram f s (Turned t) → MayMovePages s.pages (pages_of s.lots t)
  pub area_may_move_pages : (ram harts : ℕ) (f : DriverConfig) (s : Held) (lot : Lot) → Knows ram harts f s → Mine f s → IsMaking ram f s (lot ∷ []) → is_area lot.kind ≡ true
      → MayMovePages s.pages (pages_of (s.lots ++ lot ∷ []) (turns.Lend lot.id))

-- what an event is of that may happen
pub record IsEvent (w : WorldState) (e : Event) : Type 0 where
  pub sound : IsMachine w.machine
  pub holds : Holds w
  pub there : IsThere (length w.machine.harts) w.machine.size (length w.machine.cache.ram) e
  pub may : enabled w e ≡ true

pub record EventLaws : Type 0 where
  pub messages : (w : WorldState) (e : Event) → IsEvent w e → MessagesAgree (next w e)
  pub tokens : (w : WorldState) (e : Event) (g : ℕ) → IsEvent w e → g < length w.machine.harts → TokensAgree (next w e) g
  pub loads : (w : WorldState) (e : Event) (g : ℕ) → IsEvent w e → g < length w.machine.harts → LoadsFit (length (hart_of (next w e).machine g).last) (driver_of (next w e) g).rest
  pub rests : (w : WorldState) (e : Event) (g : ℕ) → IsEvent w e → g < length w.machine.harts → RestAgrees (driver_of (next w e) g)
