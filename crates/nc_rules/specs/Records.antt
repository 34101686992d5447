-- What an event records, in order: the event, the touch, the drain, the transfers of a load, the operation, the
-- transfers of a drain, the channel's transaction, the try of a slot word, the changes of owners, the slots given back,
-- the answer. This project's own.
use Rattle.std.specs.Prelude.{ℕ, ◌*◌, Bool, true, false, if◌then◌else◌, List, [], ◌∷◌, ◌++◌, map, Option, Some, None}
use Rattle.nc_num.specs.declared.names.ChanNo.{ChanNo}
use Rattle.nc_num.specs.declared.names.HartNo.{HartNo}
use Rattle.nc_num.specs.declared.places.Place.{Place}
use Rattle.nc_num.specs.declared.places.Span.{Span}
use Rattle.nc_cache.specs.declared.line.BusRec.{BusRec}
use Rattle.nc_cache.specs.declared.line.BusRec.TheVariants as bus
use Rattle.nc_queue.specs.declared.entry.Entry.{Entry}
use Rattle.nc_queue.specs.declared.entry.Entry.TheVariants as entries
use Rattle.nc_plan.specs.declared.ops.HartOp.{HartOp}
use Rattle.nc_plan.specs.declared.ops.HartOp.TheVariants.{Load, Store, Cbo, Fence, IoLoad, IoStore, Mark}
use Rattle.nc_plan.specs.declared.ops.IoTarget.TheVariants as io
use Rattle.nc_hart.specs.Issue.{cut, marks, payload}
use Rattle.nc_pdma.specs.declared.channel.ChanStep.{ChanStep}
use Rattle.nc_pdma.specs.declared.channel.ChanStep.TheVariants.{Idle, Moved as moved_bytes, Error}
use Rattle.nc_slots.specs.SlotWords.{answer_to}
use Rattle.nc_model.specs.declared.owners.Owner.{Owner}
use Rattle.nc_model.specs.declared.touches.Touch.{Touch}
use Rattle.nc_rules.specs.declared.answers.Answer.{Answer}
use Rattle.nc_rules.specs.declared.records.Record.{Record}
use Rattle.nc_rules.specs.declared.records.Record.TheVariants as records
use Rattle.nc_rules.specs.declared.records.ToldAnswer.{ToldAnswer}
use Rattle.nc_rules.specs.declared.records.ToldAnswer.TheVariants as tolds
use Rattle.nc_rules.specs.Machine.{MachineState, hart_of}
use Rattle.nc_rules.specs.View.{bytes_seen}
use Rattle.nc_rules.specs.Calls.{load_transfers, drain_transfers}
use Rattle.nc_rules.specs.Turns.{Moved}

abbrev pub place : ℕ → Place
place x = record { 0 = x }

-- a block is told by the place of its start
abbrev pub start_of : ℕ → ℕ → Place
start_of size b = place (size * b)

abbrev pub touch_records : Option Touch → List Record
touch_records None = []
touch_records (Some t) = records.Touched t ∷ []

-- ---- transfers

abbrev pub transfer_record : ℕ → BusRec → Record
transfer_record size (bus.Fill h b from) = records.Fill h (start_of size b.0) from
transfer_record size (bus.Own h b from) = records.Own h (start_of size b.0) from
transfer_record size (bus.WriteBack h b bytes) = records.Wb h (start_of size b.0) bytes
transfer_record size (bus.Drop h b) = records.Drop h (start_of size b.0)

abbrev pub transfer_records : ℕ → List BusRec → List Record
transfer_records size bs = map (transfer_record size) bs

abbrev pub answer_records : ℕ → Option (List BusRec) → List Record
answer_records size None = []
answer_records size (Some bs) = transfer_records size bs

-- ---- an operation of a hart

-- a load and a store of a script, and of a plan
abbrev pub load_record : Bool → HartNo → ℕ → List ℕ → Record
load_record true h at bytes = records.Ld h (place at) bytes
load_record false h at bytes = records.Pl h (place at) bytes

abbrev pub store_record : Bool → HartNo → ℕ → List ℕ → Record
store_record true h at bytes = records.St h (place at) bytes
store_record false h at bytes = records.Ps h (place at) bytes

-- a marker is told with its sets cut to W and O, another fence as it was issued
abbrev pub mark_record : HartNo → ℕ → ℕ → Record
mark_record h pred succ = records.Mark h (cut pred) (cut succ)

-- the operation of a hart, with the transfers of a load in front
unfoldable pub op_records : MachineState → HartNo → Bool → HartOp → List Record
op_records m h by_script (Load span kind) = transfer_records m.size (load_transfers m h.0 span kind) ++ load_record by_script h span.at (bytes_seen m h.0 kind span) ∷ []
op_records m h by_script (Store span kind bytes) = store_record by_script h span.at (payload (hart_of m h.0).last bytes) ∷ []
op_records m h by_script (Cbo op block) = records.Cbo h op (start_of m.size block.0) ∷ []
op_records m h by_script (Fence pred succ) = (if marks pred succ then mark_record h pred succ else records.Fence h pred succ) ∷ []
op_records m h by_script (IoLoad chan off width) = []
op_records m h by_script (IoStore target) = records.Io h target ∷ []
op_records m h by_script (Mark pred succ) = mark_record h pred succ ∷ []

-- ---- a drain

abbrev pub entry_record : ℕ → HartNo → Entry → Record
entry_record size h (entries.Store span bytes kind) = records.DrStore h (place span.at) bytes
entry_record size h (entries.Cbo block op) = records.DrCbo h op (start_of size block.0)
entry_record size h (entries.Reg chan off width value) = records.DrIo h (io.Reg chan off width value)
entry_record size h (entries.Mail buf to) = records.DrIo h (io.Mail buf to)
entry_record size h (entries.Lend label first count) = records.DrIo h (io.Lend label first count)
entry_record size h (entries.Mark pred succ) = records.DrMark h

-- an entry that leaves hart h's queue, with the transfers that it makes behind it
abbrev pub drain_records : MachineState → HartNo → Entry → List Record
drain_records m h e = entry_record m.size h e ∷ transfer_records m.size (drain_transfers m h.0 e)

-- ---- channels

abbrev pub done_records : ChanNo → Bool → List Record
done_records chan true = records.Cd chan ∷ []
done_records chan false = []

abbrev pub read_records : ChanNo → ChanStep → List Record
read_records chan Idle = []
read_records chan (moved_bytes span bytes done) = records.Cr chan (place span.at) bytes ∷ []
read_records chan (Error bus len) = records.Ce chan bus len ∷ []

abbrev pub write_records : ChanNo → ChanStep → List Record
write_records chan Idle = []
write_records chan (moved_bytes span bytes done) = records.Cw chan (place span.at) bytes ∷ done_records chan done
write_records chan (Error bus len) = records.Ce chan bus len ∷ []

-- ---- slot words

-- a try of word k, which it found held by this hart, or free
abbrev pub try_records : HartNo → ℕ → Option HartNo → List Record
try_records h k holder = records.Try h k (answer_to holder) ∷ []

-- an answer that a search was told, by who holds the word: a word that is held is not got, whatever was told
abbrev pub told_answer : Bool → Option HartNo → ToldAnswer
told_answer true None = tolds.Got
told_answer true (Some g) = tolds.Held g
told_answer false holder = tolds.Miss

abbrev pub told_records : HartNo → ℕ → Bool → Option HartNo → List Record
told_records h k got holder = records.Told h k (told_answer got holder) ∷ []

-- ---- what a driver's call moves

abbrev pub owner_records : List (Span × Owner) → List Record
owner_records ts = map (λ t. records.Ow t.0 t.1) ts

abbrev pub back_records : HartNo → List ℕ → List Record
back_records h ks = map (λ k. records.Back h k) ks

abbrev pub answered : HartNo → ℕ → Option Answer → List Record
answered h op None = []
answered h op (Some a) = records.Ans h op a ∷ []

-- with the answer of the operation of this number
abbrev pub moves_records : HartNo → ℕ → Moved → List Record
moves_records h op m = owner_records m.transfers ++ back_records h m.backs ++ answered h op m.answer
