-- What holds of every world before the first touch: where the bytes of flat memory stand, and where its drivers do. This
-- project's own.
use Rattle.std.specs.Prelude.{ℕ, ◌≡◌, ◌≢◌, ◌⊎◌, ◌<◌, Bool, true, false, List, [], ◌∷◌, length, All, Option, Some, None}
use Rattle.std.specs.List.{list_any}
use Rattle.nc_num.specs.Memory.{byte}
use Rattle.nc_num.specs.Places.{covers}
use Rattle.nc_num.specs.declared.names.HartNo.{HartNo}
use Rattle.nc_num.specs.declared.names.MapId.{MapId}
use Rattle.nc_num.specs.declared.places.Span.{Span}
use Rattle.nc_plan.specs.declared.ops.HartOp.TheVariants as hart_ops
use Rattle.nc_plan.specs.declared.ops.IoTarget.TheVariants as io
use Rattle.nc_model.specs.declared.owners.Owner.{Owner}
use Rattle.nc_model.specs.declared.owners.Owner.TheVariants.{Pool}
use Rattle.nc_ops.specs.declared.ops.Op.{Op}
use Rattle.nc_ops.specs.declared.ops.Op.TheVariants as ops
use Rattle.nc_scen.specs.Regions.{pool_of, slots_of}
use Rattle.nc_scen.specs.declared.scenario.Scenario.{Scenario}
use Rattle.nc_rules.specs.declared.lots.Kind.{Kind}
use Rattle.nc_rules.specs.declared.lots.Kind.TheVariants as kinds
use Rattle.nc_rules.specs.declared.lots.Lot.{Lot}
use Rattle.nc_rules.specs.declared.lots.Side.TheVariants as sides
use Rattle.nc_rules.specs.declared.steps.Phase.{Phase}
use Rattle.nc_rules.specs.declared.steps.Phase.TheVariants.{Steps, Search, Work}
use Rattle.nc_rules.specs.declared.steps.Step.{Step}
use Rattle.nc_rules.specs.Machine.{MachineState, queue_of}
use Rattle.nc_rules.specs.Lots.{DriverConfig, same_kind}
use Rattle.nc_rules.specs.Handing.{hand_steps}
use Rattle.nc_rules.specs.Plans.{hart_step}
use Rattle.nc_rules.specs.Driver.{DriverState, in_hand}
use Rattle.nc_rules.specs.Sound.{IsMachine}
use Rattle.nc_rules.specs.Start.{fixed_of, hart_spec}
use Rattle.nc_rules.specs.EventTouches.{owner_of}
use Rattle.nc_rules.specs.World.{WorldState, driver_of, hart}
use Rattle.nc_holds.specs.Rests.{RestAt}
use Rattle.nc_holds.specs.Holds.{Holds}
use Rattle.nc_rows.specs.Ahead.{is_full}
use Rattle.nc_rows.specs.Laws.{seen_at}
use Rattle.nc_rows.specs.Places.{CalmRow}
use Rattle.nc_rows.specs.Rows.{Book, Row}
use Rattle.nc_rows.specs.Parts.{Queued, Uncached, Lasts}
use Rattle.nc_flatness.specs.Books.{book_of, mapping_in, LiesIn, IsPooled}
use Rattle.nc_flatness.specs.Plans.{IsStill, PlanGoes, EndsOne}
use Rattle.nc_flatness.specs.Copying.{CopyStands}
use Rattle.nc_flatness.specs.Tokens.{TokenStands}

-- ---- the world

-- a machine of this scenario
pub record IsOf (sc : Scenario) (m : MachineState) : Type 0 where
  pub size : m.size ≡ sc.block_size
  pub pool : m.pool ≡ pool_of sc
  pub ram : length m.cache.ram ≡ sc.ram
  pub harts : length m.harts ≡ length sc.harts
  pub boxes : length m.boxes ≡ length sc.buffers

-- a world of this scenario, with touches or without
pub record IsWorldOf (sc : Scenario) (w : WorldState) : Type 0 where
  pub machine : IsMachine w.machine
  pub of_scenario : IsOf sc w.machine
  pub holds : Holds w
  pub fixed : (h : ℕ) → h < length sc.harts → (driver_of w h).fixed ≡ fixed_of sc (hart h) (hart_spec sc h)

-- ---- the drivers

abbrev pub is_mapping : Kind → Bool
is_mapping kinds.Single = true
is_mapping kinds.List = true
is_mapping kinds.Area = true
is_mapping kinds.Copy = true

pub record IsMapping (lot : Lot) : Type 0 where
  pub kind : is_mapping lot.kind ≡ true

-- it is still, or waits for its slots
abbrev pub IsStillOrWanted : DriverConfig → Lot → Type 0
IsStillOrWanted f lot = IsStill f lot ⊎ (lot.side ≡ sides.Wanted)

-- the operation makes lots of this kind
abbrev pub makes_kind : Op → Kind → Bool
makes_kind (ops.Map label buf off len dir chan) kind = same_kind kinds.Single kind
makes_kind (ops.MapSg label entries dir chan) kind = same_kind kinds.List kind
makes_kind (ops.Calloc label pages chan) kind = same_kind kinds.Area kind
makes_kind (ops.Copy chan src src_off dst dst_off len cfg) kind = same_kind kinds.Copy kind
makes_kind _ kind = false

abbrev pub IsMadeBy : Option Op → Lot → Type 0
IsMadeBy None lot = ⊥
IsMadeBy (Some o) lot = makes_kind o lot.kind ≡ true

-- the same, where what waits is what the operation in hand makes
abbrev pub IsStillOrMade : DriverConfig → Option Op → Lot → Type 0
IsStillOrMade f o lot = IsStill f lot ⊎ ((lot.side ≡ sides.Wanted) × IsMadeBy o lot)

abbrev pub mail_step : ℕ → HartNo → Step
mail_step buf to = hart_step (hart_ops.IoStore (io.Mail buf to))

-- the marker and the message of a buffer are left, or the message alone, while each lot is still
pub record IsHanding (d : DriverState) (buf : ℕ) (to : HartNo) : Type 0 where
  pub left : (d.rest ≡ hand_steps buf to) ⊎ (d.rest ≡ mail_step buf to ∷ [])
  pub still : All (IsStill d.fixed) d.lots

-- what is left goes through; with light fences it ends the stay of lots of one label alone
pub record PlanLeft (d : DriverState) : Type 0 where
  pub goes : PlanGoes d.fixed d.lots d.rest
  pub one : d.fixed.light ≡ true → EndsOne d.rest

abbrev pub PlanIs : DriverState → Op → Type 0
PlanIs d (ops.Hand buf to) = IsHanding d buf to
PlanIs d (ops.Map label buf off len dir chan) = PlanLeft d
PlanIs d (ops.Unmap label) = PlanLeft d
PlanIs d (ops.ToCpu label) = PlanLeft d
PlanIs d (ops.ToDev label) = PlanLeft d
PlanIs d (ops.MapSg label entries dir chan) = PlanLeft d
PlanIs d (ops.UnmapSg label count) = PlanLeft d
PlanIs d (ops.Ld spot off len) = ⊥
PlanIs d (ops.St spot off bytes) = ⊥
PlanIs d (ops.Cbo op buf off) = ⊥
PlanIs d (ops.Fence pred succ) = ⊥
PlanIs d (ops.Take buf) = ⊥
PlanIs d (ops.Claim chan) = ⊥
PlanIs d (ops.Free chan) = ⊥
PlanIs d (ops.Regs chan src dst len cfg) = ⊥
PlanIs d (ops.Run chan) = ⊥
PlanIs d (ops.Poll chan) = ⊥
PlanIs d (ops.Regr chan off width) = ⊥
PlanIs d (ops.Regw chan off width value) = ⊥
PlanIs d (ops.Calloc label pages chan) = PlanLeft d
PlanIs d (ops.Cgive label) = PlanLeft d
PlanIs d (ops.Ctake label) = PlanLeft d
PlanIs d (ops.Cfree label) = PlanLeft d
PlanIs d (ops.Copy chan src src_off dst dst_off len cfg) = PlanLeft d

abbrev pub PlanOf : DriverState → Option Op → Type 0
PlanOf d None = ⊥
PlanOf d (Some o) = PlanIs d o

-- while slots are searched for, the lots that are made wait, and no other is lent or taken back
abbrev pub StandsAt : DriverState → Phase → Type 0
StandsAt d (Steps n) = All (IsStill d.fixed) d.lots
StandsAt d (Search k) = All (IsStillOrMade d.fixed (in_hand d)) d.lots
StandsAt d Work = PlanOf d (in_hand d)

pub record Drives (d : DriverState) : Type 0 where
  pub lots : All IsMapping d.lots
  pub stands : StandsAt d d.phase
  pub idle : RestAt d.phase d.rest

-- ---- the bytes

-- no place of a mapping is seen by its channel at place z
abbrev pub IsUnseen : Book → (ℕ → Owner) → Span → ℕ → Type 0
IsUnseen a owner slots z = (x : ℕ) → covers slots x ≡ false → seen_at a (owner x) x ≢ z

-- flat memory is f: its bytes stand where the rows say
pub record BytesStand (sc : Scenario) (f : List ℕ) (w : WorldState) : Type 0 where
  pub flat_size : length f ≡ sc.ram
  pub drives : (h : ℕ) → h < length sc.harts → Drives (driver_of w h)
  -- a mapping's places are those of its buffer
  pub placed : (x : ℕ) (n : MapId) → x < sc.ram → mapping_in (owner_of w x) ≡ Some n → LiesIn ((book_of w).loan n) x
  -- what no area has of the coherent pool is nobody's, and so are the slots
  pub pooled : (x : ℕ) → covers (pool_of sc) x ≡ true → IsPooled (book_of w) (owner_of w x) x
  pub slotted : (x : ℕ) → covers (slots_of sc) x ≡ true → owner_of w x ≡ Pool
  pub rows : (x : ℕ) → x < sc.ram → covers (slots_of sc) x ≡ false → Row (book_of w) (owner_of w x) (byte f x) w.machine x
  -- where no channel uses a byte of a slot, every copy of it is as memory
  pub calm : (z : ℕ) → covers (slots_of sc) z ≡ true → IsUnseen (book_of w) (owner_of w) (slots_of sc) z → CalmRow w.machine z
  pub queued : Queued (book_of w) (owner_of w) w.machine
  -- a full fence waits, and is never queued
  pub unfenced : (h : ℕ) → list_any is_full (queue_of w.machine h) ≡ false
  pub uncached : Uncached (book_of w) (owner_of w) w.machine
  pub lasts : Lasts (book_of w) f w.machine
  -- with light fences alone there are tokens
  pub tokens : (h : ℕ) → h < length sc.harts → (driver_of w h).fixed.light ≡ true → All (TokenStands (driver_of w h).rest (queue_of w.machine h)) (driver_of w h).lots
  -- a copy that is in hand
  pub copying : (h : ℕ) → h < length sc.harts → CopyStands sc f w h

pub record Flatness (sc : Scenario) (f : List ℕ) (w : WorldState) : Type 0 where
  pub world : IsWorldOf sc w
  pub bytes : BytesStand sc f w
