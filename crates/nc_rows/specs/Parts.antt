-- What holds beside the rows before the first touch. This project's own.
use Rattle.std.specs.Prelude.{ℕ, ◌≡◌, ◌⊎◌, ◌/◌, ◌≤◌, ◌+◌, true, false, List, [], ◌∷◌, Option, Some, None, All}
use Rattle.std.specs.List.{list_any}
use Rattle.nc_num.specs.Memory as memory
use Rattle.nc_num.specs.Places.{covers}
use Rattle.nc_num.specs.declared.names.MapId.{MapId}
use Rattle.nc_num.specs.declared.names.MemType.{MemType}
use Rattle.nc_num.specs.declared.names.MemType.TheVariants.{Pma, Nc, Io}
use Rattle.nc_num.specs.declared.places.Span.{Span}
use Rattle.nc_env.specs.declared.CboOp.{CboOp}
use Rattle.nc_env.specs.declared.CboOp.TheVariants as cbos
use Rattle.nc_queue.specs.declared.entry.Entry.{Entry}
use Rattle.nc_queue.specs.declared.entry.Entry.TheVariants as entries
use Rattle.nc_plan.specs.Parts.{comes_back}
use Rattle.nc_plan.specs.declared.ops.HartOp.{HartOp}
use Rattle.nc_plan.specs.declared.ops.HartOp.TheVariants as hart
use Rattle.nc_plan.specs.declared.ops.Payload.{Payload}
use Rattle.nc_plan.specs.declared.ops.Payload.TheVariants.{Given, Last}
use Rattle.nc_model.specs.declared.owners.Owner.{Owner}
use Rattle.nc_model.specs.declared.owners.Owner.TheVariants.{Lending, Returning}
use Rattle.nc_rules.specs.declared.steps.Act.{Act}
use Rattle.nc_rules.specs.declared.steps.Act.TheVariants as acts
use Rattle.nc_rules.specs.declared.steps.Step.{Step}
use Rattle.nc_rules.specs.Machine.{MachineState, hart_of, queue_of}
use Rattle.nc_calls.specs.PlaceLaws.{NotHeld}
use Rattle.nc_rows.specs.Ahead.{is_full, settling}
use Rattle.nc_rows.specs.Rows.{Loan, Book, device_place, ahead_of}

-- ---- what stands in the queues

-- block b is one that hart h drops for its mapping n, of which the full fence is still to come
pub record IsDropped (a : Book) (owner : ℕ → Owner) (s h b : ℕ) : Type 0 where
  pub id : MapId
  pub loan : Loan
  pub lent : a.loan id ≡ Some loan
  pub own : id.hart.0 ≡ h
  pub back : comes_back loan.grant.dir ≡ true
  pub ahead : list_any is_full (ahead_of a id loan) ≡ true
  pub place : ℕ
  pub owned : owner place ≡ Returning id
  pub here : device_place loan place / s ≡ b

-- a store past the caches lies in the coherent pool, and one through them beside it
abbrev pub StoreIsQueued : Span → MemType → Span → Type 0
StoreIsQueued pool Pma span = (x : ℕ) → covers span x ≡ true → covers pool x ≡ false
StoreIsQueued pool Nc span = (x : ℕ) → covers span x ≡ true → covers pool x ≡ true
StoreIsQueued pool Io span = ⊥

-- block b is one of an area that hart h allocates, of which the full fence is still to come
pub record IsZeroed (a : Book) (owner : ℕ → Owner) (s h b : ℕ) : Type 0 where
  pub id : MapId
  pub loan : Loan
  pub lent : a.loan id ≡ Some loan
  pub own : id.hart.0 ≡ h
  pub area : loan.area ≡ true
  pub ahead : settling loan.lot (a.rest id.hart.0) ≡ true
  pub owned : (x : ℕ) → x / s ≡ b → owner x ≡ Lending id

-- no place of block b is in the pool
abbrev pub IsBeside : Span → ℕ → ℕ → Type 0
IsBeside pool s b = (x : ℕ) → x / s ≡ b → covers pool x ≡ false

abbrev pub OpIsQueued : Book → (ℕ → Owner) → Span → ℕ → ℕ → CboOp → ℕ → Type 0
OpIsQueued a owner pool s h cbos.Inval b = IsDropped a owner s h b
OpIsQueued a owner pool s h cbos.Clean b = Unit {0}
OpIsQueued a owner pool s h cbos.Flush b = Unit {0}
OpIsQueued a owner pool s h cbos.Zero b = IsBeside pool s b ⊎ IsZeroed a owner s h b

abbrev pub IsQueued : Book → (ℕ → Owner) → Span → ℕ → ℕ → Entry → Type 0
IsQueued a owner pool s h (entries.Store span bytes kind) = StoreIsQueued pool kind span
IsQueued a owner pool s h (entries.Cbo block op) = OpIsQueued a owner pool s h op block.0
IsQueued a owner pool s h (entries.Reg chan off width value) = Unit {0}
IsQueued a owner pool s h (entries.Mail buf to) = Unit {0}
IsQueued a owner pool s h (entries.Lend label first count) = Unit {0}
IsQueued a owner pool s h (entries.Mark pred succ) = Unit {0}

abbrev pub Queued : Book → (ℕ → Owner) → MachineState → Type 0
Queued a owner m = (h : ℕ) → All (IsQueued a owner m.pool m.size h) (queue_of m h)

-- ---- the coherent pool

-- it is being allocated: the one time when copies of it are there
abbrev pub IsAllocating : Book → MapId → Option Loan → Type 0
IsAllocating a n None = ⊥
IsAllocating a n (Some l) = (l.area ≡ true) × (settling l.lot (a.rest n.hart.0) ≡ true)

abbrev pub MayBeHeld : Book → Owner → Type 0
MayBeHeld a (Lending n) = IsAllocating a n (a.loan n)
MayBeHeld a _ = ⊥

abbrev pub Uncached : Book → (ℕ → Owner) → MachineState → Type 0
Uncached a owner m = (x : ℕ) → covers m.pool x ≡ true → NotHeld m x ⊎ MayBeHeld a (owner x)

-- ---- a copy between a load and its store

-- the store of the last load's bytes that comes next
abbrev pub last_at : Payload → Span → Option Span
last_at Last span = Some span
last_at (Given bytes) span = None

abbrev pub op_last : HartOp → Option Span
op_last (hart.Store span kind bytes) = last_at bytes span
op_last (hart.Load span kind) = None
op_last (hart.Cbo op block) = None
op_last (hart.Fence pred succ) = None
op_last (hart.IoLoad chan off width) = None
op_last (hart.IoStore target) = None
op_last (hart.Mark pred succ) = None

abbrev pub act_last : Act → Option Span
act_last (acts.Op op) = op_last op
act_last (acts.Claim chan) = None
act_last (acts.Poll chan) = None
act_last (acts.Take buf) = None

abbrev pub rest_last : List Step → Option Span
rest_last [] = None
rest_last (s ∷ rest) = act_last s.act

-- the bytes are those of flat memory f at the buffer's places of a mapping of the hart, of which the span is a piece,
-- in its slot or in its buffer
pub record IsPiece (a : Book) (f : List ℕ) (h : ℕ) (span : Span) (bytes : List ℕ) : Type 0 where
  pub id : MapId
  pub loan : Loan
  pub lent : a.loan id ≡ Some loan
  pub own : id.hart.0 ≡ h
  pub from : ℕ
  pub inside : (loan.grant.buffer.at ≤ from) × (from + span.len ≤ loan.grant.buffer.at + loan.grant.buffer.len)
  pub here : (span.at ≡ from) ⊎ (span.at ≡ device_place loan from)
  pub bytes_are : bytes ≡ memory.span f from span.len

abbrev pub LastIs : Book → List ℕ → ℕ → List ℕ → Option Span → Type 0
LastIs a f h bytes None = Unit {0}
LastIs a f h bytes (Some span) = IsPiece a f h span bytes

abbrev pub Lasts : Book → List ℕ → MachineState → Type 0
Lasts a f m = (h : ℕ) → LastIs a f h (hart_of m h).last (rest_last (a.rest h))
