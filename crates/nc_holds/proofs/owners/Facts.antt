-- What is known of a hart whose driver changes what is held, of another hart, and of a grant.
use Rattle.std.specs.Prelude.{ℕ, ◌≡◌, ◌≢◌, ◌<◌, ◌⊎◌, false, List, length, All}
use Rattle.nc_num.specs.Places.{covers}
use Rattle.nc_num.specs.declared.names.HartNo.{HartNo}
use Rattle.nc_plan.specs.Plans.{In}
use Rattle.nc_model.specs.declared.owners.Grant.{Grant}
use Rattle.nc_model.specs.declared.owners.Owner.{Owner}
use Rattle.nc_model.specs.declared.owners.Owner.TheVariants as owners
use Rattle.nc_own.specs.Books.{owner_in}
use Rattle.nc_ops.specs.declared.ops.Op.{Op}
use Rattle.nc_rules.specs.declared.lots.Lot.{Lot}
use Rattle.nc_rules.specs.declared.steps.Turn.{Turn}
use Rattle.nc_rules.specs.declared.steps.Turn.TheVariants as turns
use Rattle.nc_rules.specs.Lots.{DriverConfig, is_wanted}
use Rattle.nc_rules.specs.Turns.{is_area}
use Rattle.nc_scripts.specs.Drivers.{IsFixed, ArePagesOf, IsLotIn, AreApart}
use Rattle.nc_scripts.proofs.NewLots.{AreNew}
use Rattle.nc_holds.specs.Held.{Held, AreRegions, FitsSide, EntriesAreApart, OwnersAgree, AreGranted, IsGrantOf, PagesAgree, HartAgrees}
use Rattle.nc_holds.specs.Changes.{Change, Made, Got, Turned, Dropped, WaitsUnlent, MayTurn, MayMake}
use Rattle.nc_holds.specs.Holds.{KnowsAlike}

-- ---- the hart whose driver changes what is held

pub record Knows (ram harts : ℕ) (f : DriverConfig) (s : Held) : Type 0 where
  pub fixed : IsFixed ram harts f
  pub regions : AreRegions f
  pub lots : All (IsLotIn ram f) s.lots
  pub names : AreApart s.lots
  pub long : length s.owners ≡ ram
  pub pool : ArePagesOf f s.pages

pub record Mine (f : DriverConfig) (s : Held) : Type 0 where
  pub sides : All (FitsSide f) s.lots
  pub apart : EntriesAreApart s.lots
  pub owners : OwnersAgree f.me s.owners s.lots
  pub granted : AreGranted f s.grants s.lots
  pub pages : PagesAgree s.pages s.lots
  pub held : (g : Grant) → In g s.grants → g.id.hart.0 ≡ f.me.0 → IsGrantOf f s.lots g

-- ---- when a change fits

abbrev pub AllLent : List Lot → Type 0
AllLent lots = All (λ lot. is_wanted lot.side ≡ false) lots

abbrev pub NoAreas : List Lot → Type 0
NoAreas lots = All (λ lot. is_area lot.kind ≡ false) lots

abbrev pub TurnFits : List Lot → Turn → Type 0
TurnFits lots (turns.Pass range to) = AllLent lots
TurnFits lots turns.Stay = Unit {0}
TurnFits lots (turns.Own range) = Unit {0}
TurnFits lots (turns.Lend id) = Unit {0}
TurnFits lots (turns.Give id) = Unit {0}
TurnFits lots (turns.Return id) = Unit {0}
TurnFits lots (turns.Sync id) = Unit {0}
TurnFits lots (turns.Settle id) = Unit {0}
TurnFits lots (turns.End id) = Unit {0}

pub record IsMaking (ram : ℕ) (f : DriverConfig) (s : Held) (new : List Lot) : Type 0 where
  pub may : MayMake f s new
  pub op : Op
  pub each : AreNew ram f op s.lots new

abbrev pub Fits : ℕ → DriverConfig → Held → Change → Type 0
Fits ram f s (Made new) = IsMaking ram f s new × NoAreas new
Fits ram f s (Got word) = WaitsUnlent s.lots × (word < f.slots)
Fits ram f s (Turned t) = MayTurn f s t × TurnFits s.lots t
Fits ram f s Dropped = Unit {0}

-- ---- another hart

pub record Theirs (ram : ℕ) (f g : DriverConfig) (s : Held) (lots : List Lot) : Type 0 where
  pub alike : KnowsAlike f g
  pub other : g.me.0 ≢ f.me.0
  pub each : All (IsLotIn ram g) lots
  pub sides : All (FitsSide g) lots
  pub owners : OwnersAgree g.me s.owners lots
  pub granted : AreGranted g s.grants lots
  pub pages : PagesAgree s.pages lots

-- ---- a grant that some hart holds, this one or another

pub record IsHeldBy (ram : ℕ) (f : DriverConfig) (s : Held) (g : Grant) : Type 0 where
  pub other : DriverConfig
  pub lots : List Lot
  pub alike : KnowsAlike f other
  pub each : All (IsLotIn ram other) lots
  pub names : AreApart lots
  pub waits : WaitsUnlent lots
  pub agrees : HartAgrees other (record s { lots = lots })
  pub mine : other.me.0 ≡ f.me.0 → lots ≡ s.lots
  pub is : IsGrantOf other lots g

abbrev pub EachIsHeld : ℕ → DriverConfig → Held → Type 0
EachIsHeld ram f s = (g : Grant) → In g s.grants → IsHeldBy ram f s g

-- ---- what becomes of the owner of a byte

-- the hart's own, or of a mapping of it
abbrev pub IsOf : HartNo → Owner → Type 0
IsOf me (owners.Thread g) = g.0 ≡ me.0
IsOf me (owners.Passing g h) = ⊥
IsOf me (owners.Lending m) = m.hart.0 ≡ me.0
IsOf me (owners.Device m) = m.hart.0 ≡ me.0
IsOf me (owners.Returning m) = m.hart.0 ≡ me.0
IsOf me (owners.Synced m) = m.hart.0 ≡ me.0
IsOf me owners.Pool = ⊥

-- it stays, or was the hart's
abbrev pub StaysOrMine : HartNo → List Owner → List Owner → ℕ → Type 0
StaysOrMine me before after x = (owner_in after x ≡ owner_in before x) ⊎ IsOf me (owner_in before x)

-- but for the range that is taken
abbrev pub IsOutside : Change → ℕ → Type 0
IsOutside (Turned (turns.Own range)) x = covers range x ≡ false
IsOutside (Turned turns.Stay) x = Unit {0}
IsOutside (Turned (turns.Pass range to)) x = Unit {0}
IsOutside (Turned (turns.Lend id)) x = Unit {0}
IsOutside (Turned (turns.Give id)) x = Unit {0}
IsOutside (Turned (turns.Return id)) x = Unit {0}
IsOutside (Turned (turns.Sync id)) x = Unit {0}
IsOutside (Turned (turns.Settle id)) x = Unit {0}
IsOutside (Turned (turns.End id)) x = Unit {0}
IsOutside (Made new) x = Unit {0}
IsOutside (Got word) x = Unit {0}
IsOutside Dropped x = Unit {0}
