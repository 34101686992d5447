-- What holds of every driver of an accepted scenario, whatever its script: what it knows, the lots that it has, where it
-- stands and what is left of its plan; and what it does next and changes is there. This project's own.
use Rattle.std.specs.Prelude.{Option, None, ℕ, ◌≡◌, ◌+◌, ◌-◌, ◌*◌, ◌%◌, ◌<◌, ◌≤◌, ◌⊎◌, ◌&&◌, not, Bool, true, false, List, [], ◌∷◌, ◌++◌, length, map, filter, Some, All, EachIndex, slice_index}
use Rattle.nc_num.specs.Sizes.{IsBlockSize}
use Rattle.nc_num.specs.declared.names.ChanNo.{ChanNo}
use Rattle.nc_num.specs.declared.names.Dir.{Dir}
use Rattle.nc_num.specs.declared.names.HartNo.{HartNo}
use Rattle.nc_num.specs.declared.names.Label.{Label}
use Rattle.nc_num.specs.declared.places.Span.{Span}
use Rattle.nc_pte.specs.Words.{IsPteWord}
use Rattle.nc_values.specs.Values.{FitsLabel}
use Rattle.nc_model.specs.declared.owners.Grant.{Grant}
use Rattle.nc_model.specs.declared.owners.Owner.{Owner}
use Rattle.nc_plan.specs.Parts.{bounces, is_too_big}
use Rattle.nc_plan.specs.Plans.{In}
use Rattle.nc_plan.specs.declared.ops.HartOp.{HartOp}
use Rattle.nc_plan.specs.declared.ops.HartOp.TheVariants as hart
use Rattle.nc_plan.specs.declared.ops.Payload.TheVariants as payloads
use Rattle.nc_coherent.specs.Pages.{PageMap}
use Rattle.nc_sg.specs.declared.list.Entry.{Entry}
use Rattle.nc_ops.specs.Fits.{FitsOp}
use Rattle.nc_ops.specs.declared.ops.Op.{Op}
use Rattle.nc_ops.specs.declared.ops.Op.TheVariants as ops
use Rattle.nc_scen.specs.Accepted.{IsAccepted}
use Rattle.nc_scen.specs.declared.scenario.Scenario.{Scenario}
use Rattle.nc_rules.specs.declared.lots.Kind.{Kind}
use Rattle.nc_rules.specs.declared.lots.Kind.TheVariants as kinds
use Rattle.nc_rules.specs.declared.lots.Lot.{Lot}
use Rattle.nc_rules.specs.declared.lots.LotId.{LotId}
use Rattle.nc_rules.specs.declared.steps.Act.{Act}
use Rattle.nc_rules.specs.declared.steps.Act.TheVariants as acts
use Rattle.nc_rules.specs.declared.steps.Next.{Next}
use Rattle.nc_rules.specs.declared.steps.Next.TheVariants as nexts
use Rattle.nc_rules.specs.declared.steps.PageMove.{PageMove}
use Rattle.nc_rules.specs.declared.steps.PageMove.TheVariants as pages
use Rattle.nc_rules.specs.declared.steps.Phase.{Phase}
use Rattle.nc_rules.specs.declared.steps.Phase.TheVariants.{Steps, Search, Work}
use Rattle.nc_rules.specs.declared.steps.Seen.{Seen}
use Rattle.nc_rules.specs.declared.steps.Seen.TheVariants as seen
use Rattle.nc_rules.specs.declared.steps.Step.{Step}
use Rattle.nc_rules.specs.declared.steps.Turn.{Turn}
use Rattle.nc_rules.specs.declared.steps.Turn.TheVariants as turns
use Rattle.nc_rules.specs.Machine.{MachineState, hart_of}
use Rattle.nc_rules.specs.Calls.{issue_next}
use Rattle.nc_rules.specs.Lots.{DriverConfig, reach_of, lot_id, is_lot, is_wanted, lot_waits, some_lot_waits}
use Rattle.nc_rules.specs.Turns.{Moved, is_area, those}
use Rattle.nc_rules.specs.Copies.{source, target}
use Rattle.nc_rules.specs.Driver.{DriverState, Went, in_hand, next_of, started, told, done, lent}
use Rattle.nc_rules.specs.Sound.{OpIsThere}
use Rattle.nc_rules.specs.Start.{first_driver}
use Rattle.nc_scripts.specs.Scripts.{IsRangeIn, IsDriven, is_act}

-- ---- what a driver knows from the start

-- in a scenario of so many bytes of RAM and so many harts
pub record IsFixed (ram harts : ℕ) (f : DriverConfig) : Type 0 where
  pub ram_small : ram ≤ 1048576
  pub ram_whole : ram % 4096 ≡ 0
  pub me : f.me.0 < harts
  pub sized : IsBlockSize f.size
  pub zero_sized : IsBlockSize f.zero_size
  pub zero_wide : f.size ≤ f.zero_size
  pub zero_whole : f.zero_size % f.size ≡ 0
  pub pages : length f.table ≤ 256
  pub table : EachIndex f.table (λ k. IsPteWord ram (slice_index f.table k))
  pub boxes : length f.buffers ≤ 64
  pub buffers : All (IsRangeIn ram) f.buffers
  pub short : length f.script ≤ 4096
  pub script : All (FitsOp harts (length f.buffers)) f.script
  pub channels : length f.reach ≡ 4
  pub reach : All (λ r. r ≤ ram) f.reach
  pub slots_few : f.slots ≤ 64
  pub slots_whole : f.slots_at % 2048 ≡ 0
  pub slots_end : f.slots_at + 2048 * f.slots ≤ ram
  pub reaches_slots : 0 < f.slots → All (λ r. f.slots_at + 2048 * f.slots ≤ r) f.reach
  pub pool_whole : f.pool.at % 4096 ≡ 0
  pub pool_paged : f.pool.len % 4096 ≡ 0
  pub pool_end : f.pool.at + f.pool.len ≤ ram
  pub reaches_pool : 0 < f.pool.len → All (λ r. f.pool.at + f.pool.len ≤ r) f.reach

-- the pages are those of the driver's pool
pub record ArePagesOf (f : DriverConfig) (pool : PageMap) : Type 0 where
  pub at : pool.at ≡ f.pool.at
  pub len : 4096 * length pool.free ≡ f.pool.len

-- ---- lots

-- it is one of so many slots, and its entry bounces
pub record IsSlotOf (slots : ℕ) (e : Entry) (k : ℕ) : Type 0 where
  pub few : k < slots
  pub bounced : e.bounced ≡ true

-- an entry in so many bytes of RAM, with so many bounce slots: one that bounces finds room in a slot
pub record IsEntryIn (ram slots : ℕ) (e : Entry) : Type 0 where
  pub range : IsRangeIn ram e.span
  pub slot : (k : ℕ) → e.slot ≡ Some k → IsSlotOf slots e k
  pub small : e.bounced ≡ true → is_too_big e.span ≡ false

-- whole pages of the pool
pub record IsInPool (pool span : Span) : Type 0 where
  pub starts : pool.at ≤ span.at
  pub aligned : (span.at - pool.at) % 4096 ≡ 0
  pub whole : span.len % 4096 ≡ 0
  pub ends : span.at + span.len ≤ pool.at + pool.len

-- a name that a script can use
pub record IsNamed (id : LotId) : Type 0 where
  pub label : FitsLabel id.label
  pub first : id.first ≡ 0

-- the name of an end of a copy, which no script can use
abbrev pub IsEndName : LotId → Type 0
IsEndName id = id.label.0 ≡ 1000

pub record IsEnd (id : LotId) : Type 0 where
  pub label : IsEndName id
  pub first : id.first < 2

-- what its kind says of the name of a lot, and of its entries
abbrev pub FitsKind : Span → Kind → LotId → List Entry → Type 0
FitsKind pool kinds.Single id entries = IsNamed id × (length entries ≡ 1)
FitsKind pool kinds.List id entries = IsNamed id × (1 ≤ length entries)
FitsKind pool kinds.Area id entries = IsNamed id × (length entries ≡ 1) × All (λ e. IsInPool pool e.span) entries
FitsKind pool kinds.Copy id entries = IsEnd id × (length entries ≡ 1)

-- an entry of a lot bounces where the rule says so, and one of an area never
abbrev pub BouncesSo : DriverConfig → Kind → Dir → ChanNo → Entry → Type 0
BouncesSo f kind dir chan e = e.bounced ≡ (not (is_area kind) && bounces e.span dir f.size (reach_of f chan))

pub record IsLotIn (ram : ℕ) (f : DriverConfig) (lot : Lot) : Type 0 where
  pub few : length lot.list.entries ≤ 16
  pub entries : All (IsEntryIn ram f.slots) lot.list.entries
  pub bounce : All (BouncesSo f lot.kind lot.list.dir lot.chan) lot.list.entries
  pub channel : lot.chan.0 < 4
  pub kind : FitsKind f.pool lot.kind lot.id lot.list.entries

-- no two lots have one name
abbrev pub AreApart : List Lot → Type 0
AreApart lots = (id : LotId) → length (those id lots) ≤ 1

-- a lot that stays behind an operation: its name is a script's, each entry that bounces has its slot, and it is lent or
-- was
pub record IsSettled (lot : Lot) : Type 0 where
  pub named : IsNamed lot.id
  pub placed : lot_waits lot ≡ false
  pub lent : is_wanted lot.side ≡ false

-- the names of the lots that an operation makes
abbrev pub made_names : Op → List LotId
made_names (ops.Map label buf off len dir chan) = lot_id label 0 ∷ []
made_names (ops.MapSg label entries dir chan) = lot_id label 0 ∷ []
made_names (ops.Calloc label pages chan) = lot_id label 0 ∷ []
made_names (ops.Copy chan src src_off dst dst_off len cfg) = source ∷ target ∷ []
made_names _ = []

-- behind the lots that the hart had, those that the operation made, none of which is lent yet
pub record AreMade (o : Op) (lots : List Lot) : Type 0 where
  pub old : List Lot
  pub new : List Lot
  pub all : lots ≡ old ++ new
  pub settled : All IsSettled old
  pub names : map (λ lot. lot.id) new ≡ made_names o
  pub wanted : All (λ lot. is_wanted lot.side ≡ true) new

-- ---- steps

-- what an operation needs of a hart whose last load gave so many bytes: a store of its bytes is as long
abbrev pub FitsLast : ℕ → HartOp → Type 0
FitsLast n (hart.Store span kind payloads.Last) = n ≡ span.len
FitsLast n (hart.Store span kind (payloads.Given bytes)) = Unit {0}
FitsLast n (hart.Load span kind) = Unit {0}
FitsLast n (hart.Cbo op block) = Unit {0}
FitsLast n (hart.Fence pred succ) = Unit {0}
FitsLast n (hart.IoLoad chan off width) = Unit {0}
FitsLast n (hart.IoStore to) = Unit {0}
FitsLast n (hart.Mark pred succ) = Unit {0}

-- how many bytes the last load gave behind it
abbrev pub last_after : HartOp → ℕ → ℕ
last_after (hart.Load span kind) n = span.len
last_after (hart.Store span kind bytes) n = n
last_after (hart.Cbo op block) n = n
last_after (hart.Fence pred succ) n = n
last_after (hart.IoLoad chan off width) n = n
last_after (hart.IoStore to) n = n
last_after (hart.Mark pred succ) n = n

abbrev pub ActFitsLast : ℕ → Act → Type 0
ActFitsLast n (acts.Op op) = FitsLast n op
ActFitsLast n (acts.Claim chan) = Unit {0}
ActFitsLast n (acts.Poll chan) = Unit {0}
ActFitsLast n (acts.Take buf) = Unit {0}

abbrev pub loaded_by : Act → ℕ → ℕ
loaded_by (acts.Op op) n = last_after op n
loaded_by (acts.Claim chan) n = n
loaded_by (acts.Poll chan) n = n
loaded_by (acts.Take buf) n = n

-- each store of the last load's bytes comes behind a load of as many, where the last load before gave so many
abbrev pub LoadsFit : ℕ → List Step → Type 0
LoadsFit n [] = Unit {0}
LoadsFit n (s ∷ rest) = ActFitsLast n s.act × LoadsFit (loaded_by s.act n) rest

-- an operation is there in every machine of the scenario's size, for a hart whose last load fits it
abbrev pub HartOpIsThere : ℕ → ℕ → DriverConfig → HartOp → Type 0
HartOpIsThere ram harts f op =
    (m : MachineState) (h : ℕ) → IsDriven ram harts f m → FitsLast (length (hart_of m h).last) op → OpIsThere m h op

abbrev pub ActIsThere : ℕ → ℕ → DriverConfig → Act → Type 0
ActIsThere ram harts f (acts.Op op) = HartOpIsThere ram harts f op
ActIsThere ram harts f (acts.Claim chan) = chan.0 < 4
ActIsThere ram harts f (acts.Poll chan) = chan.0 < 4
ActIsThere ram harts f (acts.Take buf) = buf < length f.buffers

-- a turn of a range is of some bytes of RAM; one of lots needs nothing
abbrev pub TurnIsThere : ℕ → Turn → Type 0
TurnIsThere ram turns.Stay = Unit {0}
TurnIsThere ram (turns.Pass range to) = IsRangeIn ram range
TurnIsThere ram (turns.Own range) = IsRangeIn ram range
TurnIsThere ram (turns.Lend id) = Unit {0}
TurnIsThere ram (turns.Give id) = Unit {0}
TurnIsThere ram (turns.Return id) = Unit {0}
TurnIsThere ram (turns.Sync id) = Unit {0}
TurnIsThere ram (turns.Settle id) = Unit {0}
TurnIsThere ram (turns.End id) = Unit {0}

pub record StepIsThere (ram harts : ℕ) (f : DriverConfig) (s : Step) : Type 0 where
  pub act : ActIsThere ram harts f s.act
  pub first : TurnIsThere ram s.first
  pub last : TurnIsThere ram s.last

-- ---- what a rest still does

abbrev pub turns_of : List Step → List Turn
turns_of [] = []
turns_of (s ∷ rest) = s.first ∷ s.last ∷ turns_of rest

-- the name of the lots that a turn is of
abbrev pub lots_of : Turn → Option LotId
lots_of turns.Stay = None
lots_of (turns.Pass range to) = None
lots_of (turns.Own range) = None
lots_of (turns.Lend id) = Some id
lots_of (turns.Give id) = Some id
lots_of (turns.Return id) = Some id
lots_of (turns.Sync id) = Some id
lots_of (turns.Settle id) = Some id
lots_of (turns.End id) = Some id

-- the first turn of this name lends
abbrev pub LendsFirst : LotId → List Turn → Type 0
LendsFirst id [] = ⊥
LendsFirst id (t ∷ ts) = (t ≡ turns.Lend id) ⊎ ((lots_of t ≡ Some id → ⊥) × LendsFirst id ts)

-- a lot that is not lent yet is still to be lent, before any other turn of it, and an end of a copy is still to be ended
pub record IsOwed (ts : List Turn) (lot : Lot) : Type 0 where
  pub lends : is_wanted lot.side ≡ true → LendsFirst lot.id ts
  pub ends : IsEndName lot.id → In (turns.End lot.id) ts

abbrev pub is_claim : Act → Bool
is_claim (acts.Op op) = false
is_claim (acts.Claim chan) = true
is_claim (acts.Poll chan) = false
is_claim (acts.Take buf) = false

abbrev pub ClaimsNothing : List Step → Type 0
ClaimsNothing rest = All (λ s. is_claim s.act ≡ false) rest

-- no end of a copy is lent yet
abbrev pub NoEndIsLent : List Lot → Type 0
NoEndIsLent lots = All (λ lot. IsEndName lot.id → is_wanted lot.side ≡ true) lots

-- a claim comes first, before an end of a copy is lent, or not at all
abbrev pub ClaimsFirst : List Lot → List Step → Type 0
ClaimsFirst lots [] = Unit {0}
ClaimsFirst lots (s ∷ rest) = (is_claim s.act ≡ true → NoEndIsLent lots) × ClaimsNothing rest

abbrev pub wanted_lots : List Lot → List Lot
wanted_lots lots = filter (λ lot. is_wanted lot.side) lots

-- ---- drivers

-- so many steps of an operation are done
pub record IsAtSteps (d : DriverState) (n : ℕ) : Type 0 where
  pub few : n ≤ 4096
  pub settled : All IsSettled d.lots

-- it tries this slot word next
pub record IsSearching (d : DriverState) (k : ℕ) : Type 0 where
  pub slot : k < d.fixed.slots
  pub waits : some_lot_waits d.lots ≡ true
  pub made : (o : Op) → in_hand d ≡ Some o → AreMade o d.lots

-- a rest of its plan is left
pub record IsAtWork (d : DriverState) : Type 0 where
  pub some : 0 < length d.rest
  pub placed : All (λ lot. lot_waits lot ≡ false) d.lots
  pub owed : All (IsOwed (turns_of d.rest)) d.lots
  pub claims : ClaimsFirst d.lots d.rest
  pub few : length (wanted_lots d.lots) ≤ 2

abbrev pub IsPhase : DriverState → Phase → Type 0
IsPhase d (Steps n) = IsAtSteps d n
IsPhase d (Search k) = IsSearching d k
IsPhase d Work = IsAtWork d

pub record IsDriver (ram harts : ℕ) (d : DriverState) : Type 0 where
  pub fixed : IsFixed ram harts d.fixed
  pub op : d.op ≤ length d.fixed.script
  pub lots : All (IsLotIn ram d.fixed) d.lots
  pub apart : AreApart d.lots
  pub rest : All (StepIsThere ram harts d.fixed) d.rest
  pub phase : IsPhase d d.phase

-- ---- what comes next

abbrev pub NextIsThere : ℕ → ℕ → DriverConfig → Next → Type 0
NextIsThere ram harts f nexts.End = Unit {0}
NextIsThere ram harts f nexts.Start = Unit {0}
NextIsThere ram harts f (nexts.Search k) = k < f.slots
NextIsThere ram harts f (nexts.Op op) = HartOpIsThere ram harts f op
NextIsThere ram harts f (nexts.Claim chan) = chan.0 < 4
NextIsThere ram harts f (nexts.Poll chan) = chan.0 < 4
NextIsThere ram harts f (nexts.Take buf) = buf < length f.buffers

-- a store of the last load's bytes fits a last load of so many
abbrev pub NextFitsLast : ℕ → Next → Type 0
NextFitsLast n nexts.End = Unit {0}
NextFitsLast n nexts.Start = Unit {0}
NextFitsLast n (nexts.Search k) = Unit {0}
NextFitsLast n (nexts.Op op) = FitsLast n op
NextFitsLast n (nexts.Claim chan) = Unit {0}
NextFitsLast n (nexts.Poll chan) = Unit {0}
NextFitsLast n (nexts.Take buf) = Unit {0}

-- how many bytes the last load gave behind it
abbrev pub loaded_next : Next → ℕ → ℕ
loaded_next nexts.End n = n
loaded_next nexts.Start n = n
loaded_next (nexts.Search k) n = n
loaded_next (nexts.Op op) n = last_after op n
loaded_next (nexts.Claim chan) n = n
loaded_next (nexts.Poll chan) n = n
loaded_next (nexts.Take buf) n = n

-- only a claim sees that a channel is granted already
abbrev pub IsSeenAt : Next → Seen → Type 0
IsSeenAt next (seen.Busy g) = (chan : ℕ) × (next ≡ nexts.Claim (record { 0 = chan }))
IsSeenAt next seen.Nothing = Unit {0}
IsSeenAt next (seen.Control control) = Unit {0}
IsSeenAt next seen.Claimed = Unit {0}
IsSeenAt next (seen.Value value) = Unit {0}

-- ---- what is changed

pub record GrantIsIn (ram : ℕ) (me : HartNo) (g : Grant) : Type 0 where
  pub buffer : IsRangeIn ram g.buffer
  pub device : IsRangeIn ram g.device
  pub lengths : g.buffer.len ≡ g.device.len
  pub channel : g.chan.0 < 4
  pub hart : g.id.hart ≡ me

abbrev pub PageMoveIsIn : Span → PageMove → Type 0
PageMoveIsIn pool pages.Stay = Unit {0}
PageMoveIsIn pool (pages.Take span) = IsInPool pool span × (0 < span.len)
PageMoveIsIn pool (pages.Give span) = IsInPool pool span × (0 < span.len)

-- all that is moved is there, and is little enough to make room for before it
pub record AreThere (ram : ℕ) (f : DriverConfig) (moves : Moved) : Type 0 where
  pub transfers : All (λ t. IsRangeIn ram t.0) moves.transfers
  pub transfers_few : length moves.transfers ≤ 32
  pub grants : All (GrantIsIn ram f.me) moves.grants
  pub grants_few : length moves.grants ≤ 32
  pub ended_few : length moves.ended ≤ 32
  pub backs : All (λ k. k < f.slots) moves.backs
  pub backs_few : length moves.backs ≤ 32
  pub pages : PageMoveIsIn f.pool moves.pages

-- a call of a driver that keeps it one, where the hart's last load gives so many bytes behind so many before
pub record Keeps (ram harts : ℕ) (d : DriverState) (loaded : ℕ → ℕ) (went : Went) : Type 0 where
  pub driver : IsDriver ram harts went.driver
  pub moves : AreThere ram d.fixed went.moves
  pub fixed : went.driver.fixed ≡ d.fixed
  pub loads : (n : ℕ) → LoadsFit n d.rest → LoadsFit (loaded n) went.driver.rest

-- ---- the laws

-- no lot of this name is still to be lent
abbrev pub IsLentAt : List Lot → LotId → Type 0
IsLentAt lots id = All (λ lot. is_lot id lot ≡ true → is_wanted lot.side ≡ false) lots

-- what a driver keeps, and what it does and changes is there
pub record StaysDriver (ram harts : ℕ) (d : DriverState) : Type 0 where
  pub next_there : NextIsThere ram harts d.fixed (next_of d)
  pub next_fits : (n : ℕ) → LoadsFit n d.rest → NextFitsLast n (next_of d)
  pub start : (owners : List Owner) (pages : PageMap) → next_of d ≡ nexts.Start → ArePagesOf d.fixed pages → Keeps ram harts d (λ n. n) (started d owners pages)
  pub hears : (got : Bool) → Keeps ram harts d (λ n. n) (told d got)
  pub goes_on : (saw : Seen) → is_act (next_of d) ≡ true → IsSeenAt (next_of d) saw → Keeps ram harts d (loaded_next (next_of d)) (done d saw)
  pub lends : (label : Label) (first : ℕ) → IsLentAt d.lots (lot_id label first) → Keeps ram harts d (λ n. n) (lent d label first)

-- how many bytes the last load of a hart gave behind its operation, in every machine
abbrev pub LastLoadsFollow : Type 0
LastLoadsFollow =
    (m : MachineState) (h : ℕ) (op : HartOp) → h < length m.harts → length (hart_of (issue_next m h op) h).last ≡ last_after op (length (hart_of m h).last)

abbrev pub EachStaysDriver : Type 0
EachStaysDriver = (ram harts : ℕ) (d : DriverState) → IsDriver ram harts d → StaysDriver ram harts d

-- the drivers of an accepted scenario
abbrev pub FirstDrivers : Type 0
FirstDrivers =
    (sc : Scenario) (me : HartNo) → IsAccepted sc → me.0 < length sc.harts → IsDriver sc.ram (length sc.harts) (first_driver sc me)
