-- The trace of records: transfers, changes of owners and answers have no item in it.
use Rattle.std.specs.Prelude.{Option, Some, None, Bool, true, false, if◌then◌else◌}
use Rattle.std.proofs.Common.{◌≡◌, ℕ, List, [], ◌∷◌, ◌++◌, refl, sym, ap, ◌∙◌}
use Rattle.nc_num.specs.declared.names.HartNo.{HartNo}
use Rattle.nc_num.specs.declared.places.Span.{Span}
use Rattle.nc_cache.specs.declared.line.BusRec.{BusRec}
use Rattle.nc_cache.specs.declared.line.BusRec.TheVariants as bus
use Rattle.nc_queue.specs.declared.entry.Entry.{Entry}
use Rattle.nc_queue.specs.declared.entry.Entry.TheVariants as entries
use Rattle.nc_model.specs.Flat.{TraceItem}
use Rattle.nc_model.specs.declared.owners.Grant.{Grant}
use Rattle.nc_model.specs.declared.owners.Owner.{Owner}
use Rattle.nc_rules.specs.declared.answers.Answer.{Answer}
use Rattle.nc_rules.specs.declared.records.Record.{Record}
use Rattle.nc_rules.specs.declared.records.Record.TheVariants as records
use Rattle.nc_rules.specs.Flat.{record_trace, records_trace}
use Rattle.nc_rules.specs.Records.{transfer_record, transfer_records, answer_records, owner_records, back_records, answered, moves_records, entry_record}
use Rattle.nc_rules.specs.Turns.{Moved}

append_assoc : (a b c : List TraceItem) → (a ++ b) ++ c ≡ a ++ (b ++ c)
append_assoc [] b c = refl
append_assoc (m ∷ a) b c = ap (λ (ms : List TraceItem). m ∷ ms) (append_assoc a b c)

pub append_none : (a : List TraceItem) → a ++ [] ≡ a
append_none [] = refl
append_none (m ∷ a) = ap (λ (ms : List TraceItem). m ∷ ms) (append_none a)

pub trace-append : (s : ℕ) (grants : List Grant) (rs us : List Record) → records_trace s grants (rs ++ us) ≡ records_trace s grants rs ++ records_trace s grants us
trace-append s grants [] us = refl
trace-append s grants (r ∷ rs) us = ap (λ (ms : List TraceItem). record_trace s grants r ++ ms) (trace-append s grants rs us) ∙ sym (append_assoc (record_trace s grants r) (records_trace s grants rs) (records_trace s grants us))

transfer_silent : (s size : ℕ) (grants : List Grant) (b : BusRec) → record_trace s grants (transfer_record size b) ≡ []
transfer_silent s size grants (bus.Fill h b from) = refl
transfer_silent s size grants (bus.Own h b from) = refl
transfer_silent s size grants (bus.WriteBack h b bytes) = refl
transfer_silent s size grants (bus.Drop h b) = refl

pub transfers_silent : (s size : ℕ) (grants : List Grant) (bs : List BusRec) → records_trace s grants (transfer_records size bs) ≡ []
transfers_silent s size grants [] = refl
transfers_silent s size grants (b ∷ bs) = rw (transfer_silent s size grants b) (transfers_silent s size grants bs)

pub answer_silent : (s size : ℕ) (grants : List Grant) (o : Option (List BusRec)) → records_trace s grants (answer_records size o) ≡ []
answer_silent s size grants None = refl
answer_silent s size grants (Some bs) = transfers_silent s size grants bs

owners_silent : (s : ℕ) (grants : List Grant) (ts : List (Span × Owner)) → records_trace s grants (owner_records ts) ≡ []
owners_silent s grants [] = refl
owners_silent s grants (t ∷ ts) = owners_silent s grants ts

answered_silent : (s : ℕ) (grants : List Grant) (h : HartNo) (op : ℕ) (a : Option Answer) → records_trace s grants (answered h op a) ≡ []
answered_silent s grants h op None = refl
answered_silent s grants h op (Some a) = refl

backs_silent : (s : ℕ) (grants : List Grant) (h : HartNo) (ks : List ℕ) → records_trace s grants (back_records h ks) ≡ []
backs_silent s grants h [] = refl
backs_silent s grants h (k ∷ ks) = backs_silent s grants h ks

both_silent : (s : ℕ) (grants : List Grant) (rs us : List Record) → records_trace s grants rs ≡ [] → records_trace s grants us ≡ [] → records_trace s grants (rs ++ us) ≡ []
both_silent s grants rs us p q = trace-append s grants rs us ∙ ap (λ (ms : List TraceItem). ms ++ records_trace s grants us) p ∙ q

pub moves_silent : (s : ℕ) (grants : List Grant) (h : HartNo) (op : ℕ) (m : Moved) → records_trace s grants (moves_records h op m) ≡ []
moves_silent s grants h op m =
    both_silent s grants (owner_records m.transfers ++ back_records h m.backs) (answered h op m.answer)
    (both_silent s grants (owner_records m.transfers) (back_records h m.backs) (owners_silent s grants m.transfers) (backs_silent s grants h m.backs))
    (answered_silent s grants h op m.answer)

pub entry_silent : (s size : ℕ) (grants : List Grant) (h : HartNo) (e : Entry) → record_trace s grants (entry_record size h e) ≡ []
entry_silent s size grants h (entries.Store span bytes kind) = refl
entry_silent s size grants h (entries.Cbo block op) = refl
entry_silent s size grants h (entries.Reg chan off width value) = refl
entry_silent s size grants h (entries.Mail buf to) = refl
entry_silent s size grants h (entries.Lend label first count) = refl
entry_silent s size grants h (entries.Mark pred succ) = refl

pub fence_silent : (s : ℕ) (grants : List Grant) (b : Bool) (h : HartNo) (p q c d : ℕ) → record_trace s grants (if b then records.Mark h p q else records.Fence h c d) ≡ []
fence_silent s grants true h p q c d = refl
fence_silent s grants false h p q c d = refl
