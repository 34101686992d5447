-- What a log of records is seen as, and what a step adds to it by what the machine answered.
use Rattle.std.specs.Prelude.{ℕ, ◌*◌, ◌^◌, ◌<◌, Bool, List, [], ◌∷◌, ◌++◌, Option, Some, None, All}
use Rattle.nc_num.specs.declared.names.HartNo.{HartNo}
use Rattle.nc_cache.specs.declared.line.BusRec.{BusRec}
use Rattle.nc_cache.specs.declared.line.BusRec.TheVariants as bus
use Rattle.nc_plan.specs.declared.ops.HartOp.{HartOp}
use Rattle.nc_plan.specs.declared.ops.HartOp.TheVariants.{Load, Store, Cbo, Fence, IoLoad, IoStore, Mark}
use Rattle.nc_hart.specs.Issue.{payload}
use Rattle.nc_queue.specs.declared.entry.Entry.{Entry}
use Rattle.nc_queue.specs.declared.entry.Entry.TheVariants as entries
use Rattle.nc_rules.specs.declared.answers.Issued.{Issued}
use Rattle.nc_rules.specs.declared.answers.Issued.TheVariants.{Loaded, Queued, Passed, Value}
use Rattle.nc_rules.specs.declared.records.Record.{Record}
use Rattle.nc_rules.specs.declared.records.Record.TheVariants as records
use Rattle.nc_rules.specs.Records.{start_of, transfer_records, load_record, store_record, mark_record}

-- the records, and for how many more there is room
pub record LogView : Type 0 where
  pub records : List Record
  pub room : ℕ

-- the block of a transfer
abbrev pub block_of : BusRec → ℕ
block_of (bus.Fill h b from) = b.0
block_of (bus.Own h b from) = b.0
block_of (bus.WriteBack h b bytes) = b.0
block_of (bus.Drop h b) = b.0

-- the block's start is a place
abbrev pub HasPlace : ℕ → BusRec → Type 0
HasPlace size t = size * block_of t < 2 ^ 32

-- a load, by its answer
abbrev pub loaded_records : ℕ → HartNo → Bool → ℕ → Issued → List Record
loaded_records size h by_script at (Loaded bytes bus) = transfer_records size bus ++ load_record by_script h at bytes ∷ []
loaded_records size h by_script at Queued = []
loaded_records size h by_script at Passed = []
loaded_records size h by_script at (Value value) = []

-- a fence, by its answer
abbrev pub fence_record : HartNo → ℕ → ℕ → Issued → Record
fence_record h pred succ Queued = mark_record h pred succ
fence_record h pred succ (Loaded bytes bus) = records.Fence h pred succ
fence_record h pred succ Passed = records.Fence h pred succ
fence_record h pred succ (Value value) = records.Fence h pred succ

-- an operation of a hart whose last load gave these bytes, by its answer
abbrev pub issued_records : ℕ → HartNo → Bool → HartOp → List ℕ → Issued → List Record
issued_records size h by_script (Load span kind) last i = loaded_records size h by_script span.at i
issued_records size h by_script (Store span kind bytes) last i = store_record by_script h span.at (payload last bytes) ∷ []
issued_records size h by_script (Cbo op block) last i = records.Cbo h op (start_of size block.0) ∷ []
issued_records size h by_script (Fence pred succ) last i = fence_record h pred succ i ∷ []
issued_records size h by_script (IoLoad chan off width) last i = []
issued_records size h by_script (IoStore target) last i = records.Io h target ∷ []
issued_records size h by_script (Mark pred succ) last i = mark_record h pred succ ∷ []

-- the blocks that it names start at places
abbrev pub IssuedHasPlaces : ℕ → Issued → Type 0
IssuedHasPlaces size (Loaded bytes bus) = All (HasPlace size) bus
IssuedHasPlaces size Queued = Unit {0}
IssuedHasPlaces size Passed = Unit {0}
IssuedHasPlaces size (Value value) = Unit {0}

abbrev pub OpHasPlace : ℕ → HartOp → Type 0
OpHasPlace size (Cbo op block) = size * block.0 < 2 ^ 32
OpHasPlace size (Load span kind) = Unit {0}
OpHasPlace size (Store span kind bytes) = Unit {0}
OpHasPlace size (Fence pred succ) = Unit {0}
OpHasPlace size (IoLoad chan off width) = Unit {0}
OpHasPlace size (IoStore target) = Unit {0}
OpHasPlace size (Mark pred succ) = Unit {0}

-- the block of an entry starts at a place
abbrev pub EntryHasPlace : ℕ → Entry → Type 0
EntryHasPlace size (entries.Cbo block op) = size * block.0 < 2 ^ 32
EntryHasPlace size (entries.Store span bytes kind) = Unit {0}
EntryHasPlace size (entries.Reg chan off width value) = Unit {0}
EntryHasPlace size (entries.Mail buf to) = Unit {0}
EntryHasPlace size (entries.Lend label first count) = Unit {0}
EntryHasPlace size (entries.Mark pred succ) = Unit {0}
