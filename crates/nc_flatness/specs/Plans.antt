-- What is left of the plan of a mapping, an area or a copy, step by step: what each step is for, and that behind all of them
-- each lot of the hart is still. This project's own.
use Rattle.std.specs.Prelude.{ℕ, ◌≡◌, ◌⊎◌, ◌≤◌, ◌+◌, ◌/◌, Bool, true, false, if◌then◌else◌, List, [], ◌∷◌, length, map, Some, None, All, slice_get}
use Rattle.std.specs.List.{list_any}
use Rattle.nc_num.specs.Places.{covers}
use Rattle.nc_num.specs.declared.names.ChanNo.{ChanNo}
use Rattle.nc_num.specs.declared.names.Dir.{Dir}
use Rattle.nc_num.specs.declared.names.Dir.TheVariants.{ToDev, FromDev}
use Rattle.nc_num.specs.declared.names.MapId.{MapId}
use Rattle.nc_num.specs.declared.names.MemType.TheVariants.{Pma}
use Rattle.nc_num.specs.declared.places.Block.{Block}
use Rattle.nc_num.specs.declared.places.Span.{Span}
use Rattle.nc_env.specs.declared.CboOp.{CboOp}
use Rattle.nc_env.specs.declared.CboOp.TheVariants as cbos
use Rattle.nc_queue.specs.Entries.{has_op, gives_in, is_zero, writes_back}
use Rattle.nc_queue.specs.Laws.{Stands}
use Rattle.nc_lines.specs.Lines.{gives_at}
use Rattle.nc_plan.specs.Parts.{comes_back}
use Rattle.nc_plan.specs.Plans.{In, full, moved}
use Rattle.nc_plan.specs.declared.ops.HartOp.TheVariants as hart_ops
use Rattle.nc_plan.specs.declared.ops.IoTarget.TheVariants as io
use Rattle.nc_plan.specs.declared.ops.Payload.TheVariants.{Last}
use Rattle.nc_pdma_regs.specs.Config.{repeat_of}
use Rattle.nc_sg.specs.Lists as sg
use Rattle.nc_sg.specs.declared.list.Entry.{Entry}
use Rattle.nc_rules.specs.declared.lots.Kind.TheVariants.{Single, Area, Copy}
use Rattle.nc_rules.specs.declared.lots.Lot.{Lot}
use Rattle.nc_rules.specs.declared.lots.LotId.{LotId}
use Rattle.nc_rules.specs.declared.lots.Side.{Side}
use Rattle.nc_rules.specs.declared.lots.Side.TheVariants as sides
use Rattle.nc_rules.specs.declared.steps.Act.{Act}
use Rattle.nc_rules.specs.declared.steps.Act.TheVariants as acts
use Rattle.nc_rules.specs.declared.steps.Step.{Step}
use Rattle.nc_rules.specs.declared.steps.Turn.{Turn}
use Rattle.nc_rules.specs.declared.steps.Turn.TheVariants as turns
use Rattle.nc_rules.specs.Lots.{DriverConfig, is_lot}
use Rattle.nc_rules.specs.Copies.{source, target, copy_steps}
use Rattle.nc_rules.specs.Plans.{hart_step, turning, control_step}
use Rattle.nc_rules.specs.Plans.{step as no_turn}
use Rattle.nc_rules.specs.Turns.{is_area, set_side, lots_after_both}
use Rattle.nc_calls.specs.PlaceLaws.{drops_copies}
use Rattle.nc_holds.specs.Held.{IsEntryOf}
use Rattle.nc_rows.specs.Ahead.{ends, settling, coming, is_full}
use Rattle.nc_rows.specs.Parts.{rest_last}
use Rattle.nc_flatness.specs.Tokens.{is_lending_side, ends_lending}

-- ---- the lots of a hart

-- no plan is at it: it is with its channel; a single mapping is synced, or an area is the hart's own; or, with light
-- fences, its token is queued
pub data IsStill (f : DriverConfig) (lot : Lot) : Type 0 where
  StillDevice : lot.side ≡ sides.Device → IsStill f lot
  StillSynced : lot.side ≡ sides.Synced → lot.kind ≡ Single → IsStill f lot
  StillOwn : lot.side ≡ sides.Own → lot.kind ≡ Area → IsStill f lot
  StillSent : lot.side ≡ sides.Lending → f.light ≡ true → IsStill f lot

-- both ends of a copy are lent with its claim: the destination waits while the source is being lent
pub record IsWaiting (lot other : Lot) : Type 0 where
  pub source_is : lot.id ≡ source
  pub lent : lot.side ≡ sides.Lending
  pub target_is : other.id ≡ target
  pub kind : other.kind ≡ Copy
  pub waits : other.side ≡ sides.Lending

-- a lot beside the one in hand is still, or it waits for it
abbrev pub IsBeside : DriverConfig → Lot → Lot → Type 0
IsBeside f lot other = IsStill f other ⊎ IsWaiting lot other

-- the plan is of this lot, which is an area or none and has this side, and nothing is done to another
pub record IsInHand (f : DriverConfig) (lots : List Lot) (lot : Lot) (area : Bool) (side : Side) : Type 0 where
  pub here : In lot lots
  pub area_is : is_area lot.kind ≡ area
  pub side_is : lot.side ≡ side
  pub others : All (λ other. is_lot lot.id other ≡ false → IsBeside f lot other) lots

-- the range by which the channel sees an entry
abbrev pub device_of : DriverConfig → Entry → Span
device_of f e = sg.device f.slots_at e

-- ---- what is to come for a lot, whichever of its mappings is asked for

-- a store of the last load's bytes comes behind its load alone
abbrev pub LoadsFirst : List Step → Type 0
LoadsFirst rest = rest_last rest ≡ None

abbrev pub HasFull : LotId → List Step → Bool → Type 0
HasFull id rest t = (n : MapId) → list_any is_full (coming n id rest) ≡ t

abbrev pub HasZero : LotId → List Step → ℕ → Bool → Type 0
HasZero id rest b t = (n : MapId) → list_any (has_op is_zero b) (coming n id rest) ≡ t

-- the step that ends the stay of the lot is still to come
abbrev pub HasEnd : LotId → List Step → Type 0
HasEnd id rest = list_any (ends id) rest ≡ true

-- the step that ends a lending of it is
abbrev pub HasLend : LotId → List Step → Type 0
HasLend id rest = list_any (ends_lending id) rest ≡ true

abbrev pub HasByte : DriverConfig → LotId → List Step → ℕ → Bool → Type 0
HasByte f id rest x t = (n : MapId) → list_any (gives_at f.size x) (coming n id rest) ≡ t

-- an entry that gives a byte of block b
abbrev pub HasBlock : DriverConfig → LotId → List Step → ℕ → Bool → Type 0
HasBlock f id rest b t = (n : MapId) → list_any (gives_in f.size b) (coming n id rest) ≡ t

-- ---- copies

abbrev pub IsWithin : Span → Span → Type 0
IsWithin span range = (range.at ≤ span.at) × (span.at + span.len ≤ range.at + range.len)

-- a range of the lot goes into its slot before the lot is lent, and comes out of it again behind the full fence
pub record GoesIn (f : DriverConfig) (lots : List Lot) (lot : Lot) (e : Entry) (rest : List Step) (from to : Span) : Type 0 where
  pub hand : IsInHand f lots lot false sides.Lending
  pub later : HasLend lot.id rest
  pub from_is : from ≡ e.span
  pub to_is : to ≡ device_of f e

pub record ComesOut (f : DriverConfig) (lots : List Lot) (lot : Lot) (e : Entry) (rest : List Step) (from to : Span) : Type 0 where
  pub hand : IsInHand f lots lot false sides.Returning
  pub back : comes_back lot.list.dir ≡ true
  pub fenced : HasFull lot.id rest false
  pub from_is : from ≡ device_of f e
  pub to_is : to ≡ e.span

-- entry i of the lot bounces, and is copied from the first range to the second
pub record IsCopied (f : DriverConfig) (lots : List Lot) (rest : List Step) (from to : Span) : Type 0 where
  pub lot : Lot
  pub i : ℕ
  pub entry : Entry
  pub here : IsEntryOf lots lot i entry
  pub bounced : entry.bounced ≡ true
  pub way : GoesIn f lots lot entry rest from to ⊎ ComesOut f lots lot entry rest from to

-- a piece is loaded, of which the store comes next
pub record IsLoad (f : DriverConfig) (lots : List Lot) (s : Step) (rest : List Step) : Type 0 where
  pub from : Span
  pub to : Span
  pub copied : IsCopied f lots rest from to
  pub span : Span
  pub step : s ≡ hart_step (hart_ops.Load span Pma)
  pub within : IsWithin span from
  pub next : rest_last rest ≡ Some (moved from.at to.at span)

-- the turn with which a lot has come back
abbrev pub IsBack : LotId → Turn → Type 0
IsBack id turn = (turn ≡ turns.Sync id) ⊎ (turn ≡ turns.End id)

-- a piece is stored, and no later store of the plan gives its bytes; with the last piece that comes out the lot is back
pub record IsStore (f : DriverConfig) (lots : List Lot) (s : Step) (rest : List Step) : Type 0 where
  pub from : Span
  pub to : Span
  pub copied : IsCopied f lots rest from to
  pub span : Span
  pub act : s.act ≡ acts.Op (hart_ops.Store (moved from.at to.at span) Pma Last)
  pub first : s.first ≡ turns.Stay
  pub within : IsWithin span from
  pub once : (y : ℕ) → covers (moved from.at to.at span) y ≡ true → HasByte f copied.lot.id rest y false
  pub next : LoadsFirst rest
  pub last : (s.last ≡ turns.Stay) ⊎ (IsBack copied.lot.id s.last × (copied.lot.side ≡ sides.Returning))

-- ---- cache operations

-- a block is written back before the lot is lent
pub record IsWriteBack (f : DriverConfig) (lots : List Lot) (s : Step) (rest : List Step) : Type 0 where
  pub lot : Lot
  pub hand : IsInHand f lots lot false sides.Lending
  pub op : CboOp
  pub block : Block
  pub step : s ≡ hart_step (hart_ops.Cbo op block)
  pub writes : writes_back op ≡ true
  pub later : HasLend lot.id rest
  pub next : LoadsFirst rest

-- a block that the device may have written is dropped before the full fence
pub record IsDrop (f : DriverConfig) (lots : List Lot) (s : Step) (rest : List Step) : Type 0 where
  pub lot : Lot
  pub hand : IsInHand f lots lot false sides.Returning
  pub back : comes_back lot.list.dir ≡ true
  pub op : CboOp
  pub block : Block
  pub step : s ≡ hart_step (hart_ops.Cbo op block)
  pub drops : drops_copies op ≡ true
  pub i : ℕ
  pub entry : Entry
  pub here : IsEntryOf lots lot i entry
  pub place : ℕ
  pub covered : covers (device_of f entry) place ≡ true
  pub met : place / f.size ≡ block.0
  pub ahead : HasFull lot.id rest true
  pub next : LoadsFirst rest

-- ---- full fences

-- the lot is its channel's
pub record IsGive (f : DriverConfig) (lots : List Lot) (s : Step) (rest : List Step) : Type 0 where
  pub lot : Lot
  pub hand : IsInHand f lots lot false sides.Lending
  pub step : s ≡ turning (turns.Give lot.id) (hart_step full)
  pub next : LoadsFirst rest

-- what bounces comes out of its slot behind it
pub record IsFence (f : DriverConfig) (lots : List Lot) (s : Step) (rest : List Step) : Type 0 where
  pub lot : Lot
  pub hand : IsInHand f lots lot false sides.Returning
  pub step : s ≡ hart_step full
  pub only : HasFull lot.id rest false
  pub next : LoadsFirst rest
  pub out : (i : ℕ) (e : Entry) (x : ℕ) → IsEntryOf lots lot i e → e.bounced ≡ true → comes_back lot.list.dir ≡ true → covers e.span x ≡ true → HasByte f lot.id rest x true

-- nothing comes out of a slot, and the lot is back
pub record IsEnd (f : DriverConfig) (lots : List Lot) (s : Step) (rest : List Step) : Type 0 where
  pub lot : Lot
  pub hand : IsInHand f lots lot false sides.Returning
  pub turn : Turn
  pub is_back : IsBack lot.id turn
  pub step : s ≡ turning turn (hart_step full)
  pub next : LoadsFirst rest
  pub straight : comes_back lot.list.dir ≡ true → All (λ e. e.bounced ≡ false) lot.list.entries

-- ---- areas

-- a block of an area that is allocated is zeroed, and not again: flat memory has zeros there
pub record IsZero (f : DriverConfig) (lots : List Lot) (s : Step) (rest : List Step) : Type 0 where
  pub lot : Lot
  pub hand : IsInHand f lots lot true sides.Lending
  pub block : Block
  pub step : s ≡ hart_step (hart_ops.Cbo cbos.Zero block)
  pub i : ℕ
  pub entry : Entry
  pub here : IsEntryOf lots lot i entry
  pub whole : (x : ℕ) → x / f.size ≡ block.0 → covers entry.span x ≡ true
  pub once : HasZero lot.id rest block.0 false
  pub settles : settling lot.id rest ≡ true
  pub next : LoadsFirst rest

-- a block of it is flushed, behind the zeros
pub record IsFlush (f : DriverConfig) (lots : List Lot) (s : Step) (rest : List Step) : Type 0 where
  pub lot : Lot
  pub hand : IsInHand f lots lot true sides.Lending
  pub block : Block
  pub step : s ≡ hart_step (hart_ops.Cbo cbos.Flush block)
  pub settles : settling lot.id rest ≡ true
  pub next : LoadsFirst rest

-- the area that was allocated is its hart's
pub record IsSettle (f : DriverConfig) (lots : List Lot) (s : Step) (rest : List Step) : Type 0 where
  pub lot : Lot
  pub hand : IsInHand f lots lot true sides.Lending
  pub step : s ≡ turning (turns.Settle lot.id) (hart_step full)
  pub over : rest ≡ []

-- an area is its channel's
pub record IsAreaGive (f : DriverConfig) (lots : List Lot) (s : Step) (rest : List Step) : Type 0 where
  pub lot : Lot
  pub hand : IsInHand f lots lot true sides.Lending
  pub step : s ≡ turning (turns.Give lot.id) (hart_step full)
  pub over : rest ≡ []

-- the turn with which an area has come back: it is its hart's, or there is none any more
abbrev pub IsAreaBack : LotId → Turn → Type 0
IsAreaBack id turn = (turn ≡ turns.Settle id) ⊎ (turn ≡ turns.End id)

-- an area has come back
pub record IsTakeBack (f : DriverConfig) (lots : List Lot) (s : Step) (rest : List Step) : Type 0 where
  pub lot : Lot
  pub hand : IsInHand f lots lot true sides.Returning
  pub turn : Turn
  pub is_back : IsAreaBack lot.id turn
  pub step : s ≡ turning turn (hart_step full)
  pub over : rest ≡ []

-- ---- light fences

-- the step that queues the token of a lot
abbrev pub token_step : Lot → Step
token_step lot = hart_step (hart_ops.IoStore (io.Lend lot.id.label lot.id.first (length lot.list.entries)))

-- a marker is queued, behind which the token comes next
pub record IsMark (f : DriverConfig) (lots : List Lot) (s : Step) (rest : List Step) : Type 0 where
  pub lot : Lot
  pub hand : IsInHand f lots lot (is_area lot.kind) sides.Lending
  pub light : f.light ≡ true
  pub step : s ≡ hart_step (hart_ops.Mark 1 4)
  pub more : List Step
  pub left : rest ≡ token_step lot ∷ more

-- what is still to come for a lot behind its token gives no byte where the channel sees it, and where the channel may
-- write it none of its blocks
pub record IsQuiet (f : DriverConfig) (lot : Lot) (rest : List Step) : Type 0 where
  pub bytes : (i : ℕ) (e : Entry) (y : ℕ) → slice_get lot.list.entries i ≡ Some e → covers (device_of f e) y ≡ true → HasByte f lot.id rest y false
  pub blocks : comes_back lot.list.dir ≡ true → (i : ℕ) (e : Entry) (y : ℕ) → slice_get lot.list.entries i ≡ Some e → covers (device_of f e) y ≡ true → HasBlock f lot.id rest (y / f.size) false

-- the token is queued: the plan is over, or that of a copy goes on, which lends the lot no more
pub record IsPost (f : DriverConfig) (lots : List Lot) (s : Step) (rest : List Step) : Type 0 where
  pub lot : Lot
  pub hand : IsInHand f lots lot (is_area lot.kind) sides.Lending
  pub light : f.light ≡ true
  pub step : s ≡ token_step lot
  pub lent : list_any (ends_lending lot.id) rest ≡ false
  pub next : LoadsFirst rest
  pub quiet : IsQuiet f lot rest
  -- an area is lent by a plan of its own
  pub over : is_area lot.kind ≡ true → rest ≡ []

-- ---- copies by a channel

-- the lot is this end of a copy by the channel
pub record IsCopyEnd (lots : List Lot) (lot : Lot) (id : LotId) (dir : Dir) (chan : ChanNo) : Type 0 where
  pub here : In lot lots
  pub id_is : lot.id ≡ id
  pub kind : lot.kind ≡ Copy
  pub dir_is : lot.list.dir ≡ dir
  pub chan_is : lot.chan ≡ chan

-- the channel is claimed, and both ends are lent with it; the rest of the copy's plan comes behind it
pub record IsClaim (f : DriverConfig) (lots : List Lot) (s : Step) (rest : List Step) : Type 0 where
  pub chan : ChanNo
  pub config : ℕ
  -- the transfer does not start again
  pub once : repeat_of config ≡ false
  pub reads : Lot
  pub writes : Lot
  pub source_is : IsCopyEnd lots reads source ToDev chan
  pub target_is : IsCopyEnd lots writes target FromDev chan
  pub wanted : (reads.side ≡ sides.Wanted) × (writes.side ≡ sides.Wanted)
  pub others : All (λ other. is_lot source other ≡ false → is_lot target other ≡ false → IsStill f other) lots
  pub steps : s ∷ rest ≡ copy_steps f chan config reads writes
  pub next : LoadsFirst rest

-- a register of the channel is stored to
pub record IsRegister (f : DriverConfig) (lots : List Lot) (s : Step) (rest : List Step) : Type 0 where
  pub chan : ChanNo
  pub off : ℕ
  pub width : ℕ
  pub value : ℕ
  pub step : s ≡ hart_step (hart_ops.IoStore (io.Reg chan off width value))
  pub still : All (IsStill f) lots
  pub next : LoadsFirst rest

-- the channel, which has both ends, is polled, and released next
pub record IsPoll (f : DriverConfig) (lots : List Lot) (s : Step) (rest : List Step) : Type 0 where
  pub chan : ChanNo
  pub step : s ≡ no_turn (acts.Poll chan)
  pub still : All (IsStill f) lots
  pub reads : Lot
  pub writes : Lot
  pub source_is : IsCopyEnd lots reads source ToDev chan
  pub target_is : IsCopyEnd lots writes target FromDev chan
  pub more : List Step
  pub release : rest ≡ control_step chan 0 ∷ more
  -- nothing is lent behind it
  pub lent : (id : LotId) → list_any (ends_lending id) rest ≡ false

-- an end is taken back with this step, which goes on with it as that of a lot that is taken back
pub record IsTaken (lots : List Lot) (lot : Lot) (s : Step) : Type 0 where
  pub here : In lot lots
  pub kind : lot.kind ≡ Copy
  pub side : lot.side ≡ sides.Device
  pub first : s.first ≡ turns.Return lot.id

-- the destination, with the drop of its first block
pub record IsTakeTarget (f : DriverConfig) (lots : List Lot) (s : Step) (rest : List Step) : Type 0 where
  pub lot : Lot
  pub taken : IsTaken lots lot s
  pub goes : IsDrop f (set_side sides.Returning lot.id lots) (record s { first = turns.Stay }) rest
  pub same : goes.lot ≡ record lot { side = sides.Returning }
  -- each of its blocks is dropped before the full fence
  pub drops : (n : MapId) (i : ℕ) (e : Entry) (y : ℕ) → slice_get lot.list.entries i ≡ Some e → covers (device_of f e) y ≡ true → Stands (has_op drops_copies (y / f.size)) is_full (coming n lot.id (s ∷ rest))

-- the source, which ends with the same step
pub record IsTakeSource (f : DriverConfig) (lots : List Lot) (s : Step) (rest : List Step) : Type 0 where
  pub lot : Lot
  pub taken : IsTaken lots lot s
  pub goes : IsEnd f (set_side sides.Returning lot.id lots) (record s { first = turns.Stay }) rest
  pub same : goes.lot ≡ record lot { side = sides.Returning }
  -- the device read it only
  pub stays : comes_back lot.list.dir ≡ false
  pub last : s.last ≡ turns.End lot.id

-- ---- all steps

pub data StepGoes (f : DriverConfig) (lots : List Lot) (s : Step) (rest : List Step) : Type 0 where
  Loads : IsLoad f lots s rest → StepGoes f lots s rest
  Stores : IsStore f lots s rest → StepGoes f lots s rest
  WritesBack : IsWriteBack f lots s rest → StepGoes f lots s rest
  Drops : IsDrop f lots s rest → StepGoes f lots s rest
  Gives : IsGive f lots s rest → StepGoes f lots s rest
  Fences : IsFence f lots s rest → StepGoes f lots s rest
  Ends : IsEnd f lots s rest → StepGoes f lots s rest
  Zeroes : IsZero f lots s rest → StepGoes f lots s rest
  Flushes : IsFlush f lots s rest → StepGoes f lots s rest
  Settles : IsSettle f lots s rest → StepGoes f lots s rest
  GivesArea : IsAreaGive f lots s rest → StepGoes f lots s rest
  TakesBack : IsTakeBack f lots s rest → StepGoes f lots s rest
  Marks : IsMark f lots s rest → StepGoes f lots s rest
  Posts : IsPost f lots s rest → StepGoes f lots s rest
  Claims : IsClaim f lots s rest → StepGoes f lots s rest
  Registers : IsRegister f lots s rest → StepGoes f lots s rest
  Polls : IsPoll f lots s rest → StepGoes f lots s rest
  TakesTarget : IsTakeTarget f lots s rest → StepGoes f lots s rest
  TakesSource : IsTakeSource f lots s rest → StepGoes f lots s rest

-- a token that is queued is out of the queue, and its lot is the channel's
abbrev pub given_now : Lot → Lot
given_now lot = if is_lending_side lot.side then record lot { side = sides.Device } else lot

-- the lots as the act leaves them: a poll waits for each token
abbrev pub lots_behind : Act → List Lot → List Lot
lots_behind (acts.Poll chan) lots = map given_now lots
lots_behind (acts.Op op) lots = lots
lots_behind (acts.Claim chan) lots = lots
lots_behind (acts.Take buf) lots = lots

abbrev pub PlanGoes : DriverConfig → List Lot → List Step → Type 0
PlanGoes f lots [] = All (IsStill f) lots
PlanGoes f lots (s ∷ rest) = StepGoes f lots s rest × PlanGoes f (lots_after_both s.first s.last (lots_behind s.act lots)) rest

-- an end of a copy, which no script names
abbrev pub IsEndName : LotId → Type 0
IsEndName id = (id ≡ source) ⊎ (id ≡ target)

-- it ends the stay of the lots of one name alone, or of the two ends of a copy
abbrev pub EndsOne : List Step → Type 0
EndsOne rest = (a b : LotId) → HasEnd a rest → HasEnd b rest → (a ≡ b) ⊎ (IsEndName a × IsEndName b)
