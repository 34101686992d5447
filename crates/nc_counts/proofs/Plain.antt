-- Records that are plain: none of an event, a touch, a change of owners, a look at a slot word or an answer.
use Rattle.std.proofs.Common.{◌≡◌, ℕ, Bool, true, false, List, [], ◌∷◌, ◌++◌, map, Option, Some, None, refl}
use Rattle.std.specs.Prelude.{All, if◌then◌else◌}
use Rattle.std.proofs.lemmas.List.Elements.{All-nil, All-cons, All-append}
use Rattle.nc_num.specs.declared.names.ChanNo.{ChanNo}
use Rattle.nc_num.specs.declared.names.HartNo.{HartNo}
use Rattle.nc_cache.specs.declared.line.BusRec.{BusRec}
use Rattle.nc_cache.specs.declared.line.BusRec.TheVariants as bus
use Rattle.nc_queue.specs.declared.entry.Entry.{Entry}
use Rattle.nc_queue.specs.declared.entry.Entry.TheVariants as entries
use Rattle.nc_plan.specs.declared.ops.HartOp.{HartOp}
use Rattle.nc_plan.specs.declared.ops.HartOp.TheVariants as ops
use Rattle.nc_pdma.specs.declared.channel.ChanStep.{ChanStep}
use Rattle.nc_pdma.specs.declared.channel.ChanStep.TheVariants as steps
use Rattle.nc_hart.specs.Issue.{marks, payload}
use Rattle.nc_rules.specs.declared.records.Record.{Record}
use Rattle.nc_rules.specs.declared.records.Record.TheVariants as records
use Rattle.nc_rules.specs.Machine.{MachineState, hart_of}
use Rattle.nc_rules.specs.View.{bytes_seen}
use Rattle.nc_rules.specs.Calls.{load_transfers, drain_transfers}
use Rattle.nc_rules.specs.Records.{place, start_of, mark_record, transfer_record, transfer_records, answer_records, load_record, store_record, op_records, entry_record, drain_records, done_records, read_records, write_records, back_records}

abbrev pub is_plain : Record → Bool
is_plain (records.Event e) = false
is_plain (records.Touched t) = false
is_plain (records.Ow span owner) = false
is_plain (records.Try h k a) = false
is_plain (records.Told h k a) = false
is_plain (records.Ans h op a) = false
is_plain _ = true

abbrev pub ArePlain : List Record → Type 0
ArePlain rs = All (λ r. is_plain r ≡ true) rs

pub plain_nil : ArePlain []
plain_nil = All-nil (λ (r : Record). is_plain r ≡ true)

pub plain_cons : (r : Record) (rs : List Record) → is_plain r ≡ true → ArePlain rs → ArePlain (r ∷ rs)
plain_cons r rs e all = All-cons (λ (r : Record). is_plain r ≡ true) r rs e all

plain_one : (r : Record) → is_plain r ≡ true → ArePlain (r ∷ [])
plain_one r e = plain_cons r [] e plain_nil

pub plain_append : (rs ss : List Record) → ArePlain rs → ArePlain ss → ArePlain (rs ++ ss)
plain_append rs ss a b = All-append (λ (r : Record). is_plain r ≡ true) rs ss a b

plain_map : {X : Type 0} (f : X → Record) → ((x : X) → is_plain (f x) ≡ true) → (xs : List X) → ArePlain (map f xs)
plain_map f each [] = plain_nil
plain_map f each (x ∷ xs) = plain_cons (f x) (map f xs) (each x) (plain_map f each xs)

transfer_is : (size : ℕ) (b : BusRec) → is_plain (transfer_record size b) ≡ true
transfer_is size (bus.Fill h b from) = refl
transfer_is size (bus.Own h b from) = refl
transfer_is size (bus.WriteBack h b bytes) = refl
transfer_is size (bus.Drop h b) = refl

plain_transfers : (size : ℕ) (bs : List BusRec) → ArePlain (transfer_records size bs)
plain_transfers size bs = plain_map (transfer_record size) (transfer_is size) bs

pub plain_backs : (h : HartNo) (ks : List ℕ) → ArePlain (back_records h ks)
plain_backs h ks = plain_map (λ (k : ℕ). records.Back h k) (λ k. refl) ks

-- ---- an operation of a hart, and a drain

load_is : (by_script : Bool) (h : HartNo) (at : ℕ) (bytes : List ℕ) → is_plain (load_record by_script h at bytes) ≡ true
load_is true h at bytes = refl
load_is false h at bytes = refl

store_is : (by_script : Bool) (h : HartNo) (at : ℕ) (bytes : List ℕ) → is_plain (store_record by_script h at bytes) ≡ true
store_is true h at bytes = refl
store_is false h at bytes = refl

either_is : (t : Bool) (r s : Record) → is_plain r ≡ true → is_plain s ≡ true → is_plain (if t then r else s) ≡ true
either_is true r s a b = a
either_is false r s a b = b

pub plain_op : (m : MachineState) (h : HartNo) (by_script : Bool) (op : HartOp) → ArePlain (op_records m h by_script op)
unfolding op_records
plain_op m h by_script (ops.Load span kind) =
    let r = load_record by_script h span.at (bytes_seen m h.0 kind span) in
    plain_append (transfer_records m.size (load_transfers m h.0 span kind)) (r ∷ []) (plain_transfers m.size (load_transfers m h.0 span kind)) (plain_one r (load_is by_script h span.at (bytes_seen m h.0 kind span)))
plain_op m h by_script (ops.Store span kind bytes) = plain_one _ (store_is by_script h span.at (payload (hart_of m h.0).last bytes))
plain_op m h by_script (ops.Cbo op block) = plain_one (records.Cbo h op (start_of m.size block.0)) refl
plain_op m h by_script (ops.Fence pred succ) = plain_one _ (either_is (marks pred succ) (mark_record h pred succ) (records.Fence h pred succ) refl refl)
plain_op m h by_script (ops.IoLoad chan off width) = plain_nil
plain_op m h by_script (ops.IoStore target) = plain_one (records.Io h target) refl
plain_op m h by_script (ops.Mark pred succ) = plain_one (mark_record h pred succ) refl

entry_is : (size : ℕ) (h : HartNo) (e : Entry) → is_plain (entry_record size h e) ≡ true
entry_is size h (entries.Store span bytes kind) = refl
entry_is size h (entries.Cbo block op) = refl
entry_is size h (entries.Reg chan off width value) = refl
entry_is size h (entries.Mail buf to) = refl
entry_is size h (entries.Lend label first count) = refl
entry_is size h (entries.Mark pred succ) = refl

pub plain_drain : (m : MachineState) (h : HartNo) (e : Entry) → ArePlain (drain_records m h e)
plain_drain m h e = plain_cons (entry_record m.size h e) (transfer_records m.size (drain_transfers m h.0 e)) (entry_is m.size h e) (plain_transfers m.size (drain_transfers m h.0 e))

pub plain_answer : (size : ℕ) (o : Option (List BusRec)) → ArePlain (answer_records size o)
plain_answer size None = plain_nil
plain_answer size (Some bs) = plain_transfers size bs

-- ---- channels

pub plain_read : (chan : ChanNo) (s : ChanStep) → ArePlain (read_records chan s)
plain_read chan steps.Idle = plain_nil
plain_read chan (steps.Moved span bytes done) = plain_one (records.Cr chan (place span.at) bytes) refl
plain_read chan (steps.Error at len) = plain_one (records.Ce chan at len) refl

plain_done : (chan : ChanNo) (done : Bool) → ArePlain (done_records chan done)
plain_done chan true = plain_one (records.Cd chan) refl
plain_done chan false = plain_nil

pub plain_write : (chan : ChanNo) (s : ChanStep) → ArePlain (write_records chan s)
plain_write chan steps.Idle = plain_nil
plain_write chan (steps.Moved span bytes done) = plain_cons (records.Cw chan (place span.at) bytes) (done_records chan done) refl (plain_done chan done)
plain_write chan (steps.Error at len) = plain_one (records.Ce chan at len) refl
