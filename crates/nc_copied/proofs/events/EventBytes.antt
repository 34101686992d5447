-- An event that is no touch leaves the bytes of a copy's ranges in flat memory, but where the copy's own channel writes.
use Rattle.std.specs.Prelude.{is_none, Option, Some, None, Bool, true, false, if◌then◌else◌, ◌≢◌}
use Rattle.std.proofs.Common.{◌≡◌, ◌⊎◌, ℕ, ◌<◌, List, [], ◌∷◌, ◌++◌, refl, sym, ap, ◌∙◌, subst, inl, inr}
use Rattle.std.proofs.lemmas.Bool.{false≢true, cases_eq}
use Rattle.nc_num.specs.Places.{covers}
use Rattle.nc_num.specs.declared.bytes.Bytes.{Bytes}
use Rattle.nc_num.specs.declared.names.ChanNo.{ChanNo}
use Rattle.nc_num.specs.declared.names.HartNo.{HartNo}
use Rattle.nc_num.specs.declared.places.Place.{Place}
use Rattle.nc_num.specs.declared.places.Span.{Span}
use Rattle.nc_queue.specs.declared.entry.Entry.{Entry}
use Rattle.nc_queue.specs.declared.entry.Entry.TheVariants as entries
use Rattle.nc_plan.specs.Plans.{In}
use Rattle.nc_pdma.specs.declared.channel.ChanStep.{ChanStep}
use Rattle.nc_pdma.specs.declared.channel.ChanStep.TheVariants.{Idle, Moved, Error}
use Rattle.nc_slots.specs.SlotWords.{holder_of, tried}
use Rattle.nc_model.specs.Flat.{TraceItem, Did, Untouched, flat, named_from, channel_name}
use Rattle.nc_model.specs.declared.deeds.Deed.TheVariants as marks
use Rattle.nc_model.specs.declared.owners.Access.TheVariants.{Read, Write}
use Rattle.nc_model.specs.declared.owners.Grant.{Grant}
use Rattle.nc_model.specs.declared.owners.Owner.TheVariants.{Device}
use Rattle.nc_scen.specs.declared.events.Event.{Event}
use Rattle.nc_scen.specs.declared.events.Event.TheVariants as events
use Rattle.nc_scen.specs.declared.scenario.Scenario.{Scenario}
use Rattle.nc_rules.specs.declared.records.Record.{Record}
use Rattle.nc_rules.specs.declared.records.Record.TheVariants as records
use Rattle.nc_rules.specs.declared.steps.Next.{Next}
use Rattle.nc_rules.specs.declared.steps.Next.TheVariants as nexts
use Rattle.nc_rules.specs.declared.steps.Phase.TheVariants.{Steps}
use Rattle.nc_rules.specs.Calls.{issue_next, issue_answer, claim_next, control_of, take_next, leaving, fill_next, fill_answer, evict_next, evict_answer, chan_read_next, chan_read_step, chan_write_step, chan_write_next, drain_transfers}
use Rattle.nc_rules.specs.declared.steps.Seen.TheVariants as seen
use Rattle.nc_rules.specs.Driver.{next_of, searching, is_script, started, told, done, lent}
use Rattle.nc_rules.specs.Events.{enabled}
use Rattle.nc_rules.specs.Flat.{records_trace, event_trace}
use Rattle.nc_rules.specs.Machine.{MachineState, grantee_of}
use Rattle.nc_rules.specs.Next.{event_records}
use Rattle.nc_rules.specs.Outcomes.{Outcome, runs, at_word, leaves, outcome, step_outcome, start_outcome, op_outcome, claim_outcome, poll_outcome, take_outcome, try_outcome, told_outcome, drain_outcome, seen_of, claim_seen, told_slots, got_word}
use Rattle.nc_rules.specs.Records.{op_records, try_records, told_records, drain_records, transfer_records, read_records, write_records, place, answer_records}
use Rattle.nc_rules.specs.EventTouches.{owner_of, issue_touch, poll_touch, transaction_touch}
use Rattle.nc_rules.specs.World.{WorldState, driver_of}
use Rattle.nc_calls.specs.PlaceLaws.{RamAfter}
use Rattle.nc_calls.proofs.SoundSteps.{shape_chan_write}
use Rattle.nc_calls.proofs.StepPlaces.{chan_write_ram}
use Rattle.nc_flatness.specs.Books.{book_of, mapping_in}
use Rattle.nc_flatness.specs.Copying.{CopyOp, IsItsOwn, IsCopyNow}
use Rattle.nc_flatness.specs.Flatness.{Flatness}
use Rattle.nc_flatness.specs.Steps.{IsNow}
use Rattle.nc_flatness.proofs.worlds.Trace.{answer_silent, entry_silent, transfers_silent}
use Rattle.nc_flatness.proofs.books.Owned.{mapped, owned_ram}
use Rattle.nc_flat_moves.proofs.channels.ChannelBytes.{IsWrite, byte_beside}
use Rattle.nc_flat_moves.proofs.channels.Granted.{IsUsed, used}
use Rattle.nc_flat_moves.proofs.drains.Pooled.{one_loan}
use Rattle.nc_flat_scripts.proofs.accesses.ScriptEvents.{IsHere, here_by}
use Rattle.nc_copied.proofs.events.EventTrace.{Leaves, leaves_as, trace_on, goes_trace, runs_trace}
use Rattle.nc_copied.proofs.events.IssueBytes.{op_leaves}
use Rattle.nc_copied.proofs.polls.EndLots.{end_chan}

-- hart h has a copy in hand, of which x is a place
pub record IsOfCopy (sc : Scenario) (f : List ℕ) (w : WorldState) (h : ℕ) (k : CopyOp) (x : ℕ) : Type 0 where
  pub now : IsCopyNow sc f w h k
  pub on : (covers now.from x ≡ true) ⊎ (covers now.to x ≡ true)
  -- it is in no script's step
  pub plan : (n : ℕ) → (driver_of w h).phase ≡ Steps n → ⊥

-- ---- a hart's step

step_leaves : (sc : Scenario) (f : List ℕ) (w : WorldState) (g : HartNo) (h : ℕ) (k : CopyOp) (x : ℕ) (nx : Next) → IsHere sc f w g → IsOfCopy sc f w h k x → next_of (driver_of w g.0) ≡ nx → Untouched (records_trace w.machine.size w.grants (step_outcome w g nx).records)
    → Leaves f (records_trace w.machine.size w.grants (step_outcome w g nx).records) x
unfolding step_outcome start_outcome op_outcome claim_outcome poll_outcome take_outcome
step_leaves sc f w g h k x nexts.End here of is untouched = refl
step_leaves sc f w g h k x (nexts.Search n) here of is untouched = refl
step_leaves sc f w g h k x nexts.Start here of is untouched = leaves_as f _ _ x (goes_trace w w.machine.size w.grants g w.machine (started (driver_of w g.0) w.owners w.pages) w.slots None [] untouched).same refl
step_leaves sc f w g h k x (nexts.Claim chan) here of is untouched =
    leaves_as f _ _ x (goes_trace w w.machine.size w.grants g (claim_next w.machine g chan.0) (done (driver_of w g.0) (claim_seen (grantee_of w.machine chan.0))) w.slots None [] untouched).same refl
step_leaves sc f w g h k x (nexts.Poll chan) here of is untouched =
    leaves_as f _ _ x (goes_trace w w.machine.size w.grants g w.machine (done (driver_of w g.0) (seen.Control (control_of w.machine chan.0))) w.slots (poll_touch w g chan) [] untouched).same refl
step_leaves sc f w g h k x (nexts.Take buf) here of is untouched =
    leaves_as f _ _ x (goes_trace w w.machine.size w.grants g (take_next w.machine g.0 buf) (done (driver_of w g.0) seen.Nothing) w.slots None [] untouched).same refl
step_leaves sc f w g h k x (nexts.Op op) here of is untouched =
    let d = driver_of w g.0 in
    let plain = goes_trace w w.machine.size w.grants g (issue_next w.machine g.0 op) (done d (seen_of (issue_answer w.machine g.0 op))) w.slots (issue_touch w g (is_script d.phase) op) (op_records w.machine g (is_script d.phase) op) untouched in
    leaves_as f _ _ x plain.same (op_leaves sc f w g h x op here is plain.none (λ same n steps. of.plan n (ap (λ (j : ℕ). (driver_of w j).phase) same ∙ steps)) (of.now.owned x of.on))

-- ---- a search for a slot

word_leaves : (f : List ℕ) (w : WorldState) (x : ℕ) (o : ℕ → Outcome) (word : Option ℕ) → ((n : ℕ) → Untouched (records_trace w.machine.size w.grants (o n).records) → Leaves f (records_trace w.machine.size w.grants (o n).records) x)
    → Untouched (records_trace w.machine.size w.grants (at_word w o word).records) → Leaves f (records_trace w.machine.size w.grants (at_word w o word).records) x
word_leaves f w x o None each untouched = refl
word_leaves f w x o (Some n) each untouched = each n untouched

try_leaves : (f : List ℕ) (w : WorldState) (g : HartNo) (x n : ℕ) → Untouched (records_trace w.machine.size w.grants (try_outcome w g n).records) → Leaves f (records_trace w.machine.size w.grants (try_outcome w g n).records) x
unfolding try_outcome
try_leaves f w g x n untouched =
    leaves_as f _ _ x (goes_trace w w.machine.size w.grants g w.machine (told (driver_of w g.0) (is_none (holder_of w.slots n))) (tried w.slots g n) None (try_records g n (holder_of w.slots n)) untouched).same refl

told_leaves : (f : List ℕ) (w : WorldState) (g : HartNo) (got : Bool) (x n : ℕ) → Untouched (records_trace w.machine.size w.grants (told_outcome w g got n).records) → Leaves f (records_trace w.machine.size w.grants (told_outcome w g got n).records) x
unfolding told_outcome
told_leaves f w g got x n untouched =
    leaves_as f _ _ x (goes_trace w w.machine.size w.grants g w.machine (told (driver_of w g.0) (got_word got (holder_of w.slots n))) (told_slots got w.slots g n) None (told_records g n got (holder_of w.slots n)) untouched).same refl

-- ---- a drain

drained_silent : (s : ℕ) (grants : List Grant) (m : MachineState) (g : HartNo) (e : Entry) → records_trace s grants (drain_records m g e) ≡ []
drained_silent s grants m g e =
    ap (λ (ms : List TraceItem). ms ++ records_trace s grants (transfer_records m.size (drain_transfers m g.0 e))) (entry_silent s m.size grants g e) ∙ transfers_silent s m.size grants (drain_transfers m g.0 e)

out_leaves : (f : List ℕ) (w : WorldState) (g : HartNo) (m : MachineState) (touch : Option _) (rs : List Record) (e : Entry) (x : ℕ) → records_trace w.machine.size w.grants rs ≡ [] → Untouched (records_trace w.machine.size w.grants (leaves w g m touch rs e).records)
    → Leaves f (records_trace w.machine.size w.grants (leaves w g m touch rs e).records) x
out_leaves f w g m touch rs (entries.Lend label first count) x silent untouched = leaves_as f _ _ x ((goes_trace w w.machine.size w.grants g m (lent (driver_of w g.0) label first) w.slots touch rs untouched).same ∙ silent) refl
out_leaves f w g m touch rs (entries.Store span bytes kind) x silent untouched = leaves_as f _ _ x ((runs_trace w w.machine.size w.grants m touch rs untouched).same ∙ silent) refl
out_leaves f w g m touch rs (entries.Cbo block op) x silent untouched = leaves_as f _ _ x ((runs_trace w w.machine.size w.grants m touch rs untouched).same ∙ silent) refl
out_leaves f w g m touch rs (entries.Reg chan off width value) x silent untouched = leaves_as f _ _ x ((runs_trace w w.machine.size w.grants m touch rs untouched).same ∙ silent) refl
out_leaves f w g m touch rs (entries.Mail buf to) x silent untouched = leaves_as f _ _ x ((runs_trace w w.machine.size w.grants m touch rs untouched).same ∙ silent) refl
out_leaves f w g m touch rs (entries.Mark pred succ) x silent untouched = leaves_as f _ _ x ((runs_trace w w.machine.size w.grants m touch rs untouched).same ∙ silent) refl

drain_leaves : (f : List ℕ) (w : WorldState) (g : HartNo) (i x : ℕ) (o : Option Entry) → Untouched (records_trace w.machine.size w.grants (drain_outcome w g i o).records) → Leaves f (records_trace w.machine.size w.grants (drain_outcome w g i o).records) x
unfolding drain_outcome
drain_leaves f w g i x None untouched = refl
drain_leaves f w g i x (Some e) untouched = out_leaves f w g _ _ (drain_records w.machine g e) e x (drained_silent w.machine.size w.grants w.machine g e) untouched

-- ---- a channel's transaction

read_leaves : (f : List ℕ) (s : ℕ) (grants : List Grant) (chan : ChanNo) (x : ℕ) (t : ChanStep) → Leaves f (records_trace s grants (read_records chan t)) x
read_leaves f s grants chan x Idle = refl
read_leaves f s grants chan x (Moved span bytes done) = refl
read_leaves f s grants chan x (Error bus len) = refl

-- the channel wrote
pub record Writes (w : WorldState) (e : Event) (chan : ChanNo) : Type 0 where
  pub at : Place
  pub bytes : Bytes
  pub told : In (records.Cw chan at bytes) (event_records w e)

write_trace : (s : ℕ) (grants : List Grant) (chan : ChanNo) (span : Span) (bytes : List ℕ) (done : Bool) → records_trace s grants (write_records chan (Moved span bytes done)) ≡ Did (marks.Write (named_from (channel_name grants chan) span.at bytes)) ∷ []
write_trace s grants chan span bytes true = refl
write_trace s grants chan span bytes false = refl

-- another channel uses no place of the copy
other_channel : (sc : Scenario) (f : List ℕ) (w : WorldState) (h : ℕ) (k : CopyOp) (c : ChanNo) (x z : ℕ) → Flatness sc f w → IsOfCopy sc f w h k x → c.0 ≢ k.chan.0 → (u : IsUsed w c Write z) → u.place ≡ x → ⊥
other_channel sc f w h k c x z flat of other u same =
    let own : IsItsOwn h (Device u.id) = subst (IsItsOwn h) (ap (owner_of w) (sym same) ∙ u.owner) (of.now.owned x of.on) in
    let mine = ap mapping_in u.owner in
    let m = mapped sc f w u.id u.place flat (owned_ram sc f w u.place u.id flat mine) mine in
    let chan : u.loan.grant.chan ≡ m.is.lot.chan = ap (λ (l : _). l.grant.chan) (sym (one_loan ((book_of w).loan u.id) m.loan u.loan m.known u.known)) ∙ m.is.chan in
    let here : In m.is.lot (driver_of w h).lots = subst (λ (j : ℕ). In m.is.lot (driver_of w j).lots) own.0 m.is.here.lot_in in
    let its = end_chan sc f w h k of.now.from of.now.to m.is.lot flat of.now.ends here (m.is.label ∙ own.1) in
    other (sym u.chan ∙ ap (λ (d : ChanNo). d.0) (chan ∙ its))

write_by : (sc : Scenario) (f : List ℕ) (w : WorldState) (h : ℕ) (k : CopyOp) (c : ChanNo) (x : ℕ) (t : ChanStep) → Flatness sc f w → c.0 < 4 → IsOfCopy sc f w h k x → c.0 ≢ k.chan.0 → chan_write_step w.machine c.0 ≡ t → transaction_touch w c Write t ≡ None
    → Leaves f (records_trace w.machine.size w.grants (write_records c t)) x
write_by sc f w h k c x Idle flat four of other is none = refl
write_by sc f w h k c x (Error bus len) flat four of other is none = refl
write_by sc f w h k c x (Moved span bytes done) flat four of other is none =
    let m = w.machine in
    let sound = flat.world.machine in
    let write : IsWrite sc f w (chan_write_next m c.0) c span bytes = record {
      flat = flat;
      shape = shape_chan_write m c.0 sound four;
      writes = subst (λ (t : ChanStep). RamAfter m (chan_write_next m c.0) t) is (chan_write_ram m c.0 sound four);
      uses = λ z over. used sc f w c Write span z flat none over;
    } in
    leaves_as f _ _ x (write_trace m.size w.grants c span bytes done) (byte_beside sc f w (chan_write_next m c.0) c span bytes x write (λ z on u same. other_channel sc f w h k c x z flat of other u same))

same_chan : (c d : ChanNo) → c.0 ≡ d.0 → c ≡ d
same_chan c d e = λ i. record { 0 = e i }

-- the record of a write
written_in : (chan : ChanNo) (t : ChanStep) (touch : Option _) (w : WorldState) (m : MachineState) (f : List ℕ) (x : ℕ) → Untouched (records_trace w.machine.size w.grants (runs w m touch (write_records chan t)).records)
    → Leaves f (records_trace w.machine.size w.grants (write_records chan t)) x ⊎ ((at : Place) × (bytes : Bytes) × In (records.Cw chan at bytes) (runs w m touch (write_records chan t)).records)
written_in chan Idle touch w m f x untouched = inl refl
written_in chan (Error bus len) touch w m f x untouched = inl refl
written_in chan (Moved span bytes done) (Some t) w m f x untouched = absurd untouched
written_in chan (Moved span bytes done) None w m f x untouched = inr (place span.at, bytes, inl refl)

record_in : (w : WorldState) (e : Event) (r : Record) (t : Bool) → t ≡ true → In r (outcome w e).records → In r (if t then records.Event e ∷ (outcome w e).records else [])
record_in w e r true may here = inr here
record_in w e r false may here = absurd (false≢true may)

pub outcome_record : (w : WorldState) (e : Event) (r : Record) → enabled w e ≡ true → In r (outcome w e).records → In r (event_records w e)
unfolding event_records
outcome_record w e r may here = record_in w e r (enabled w e) may here

write_leaves : (sc : Scenario) (f : List ℕ) (w : WorldState) (h : ℕ) (k : CopyOp) (c : ChanNo) (x : ℕ) → Flatness sc f w → c.0 < 4 → IsOfCopy sc f w h k x → enabled w (events.ChanWrite c) ≡ true → Untouched (records_trace w.machine.size w.grants (outcome w (events.ChanWrite c)).records)
    → Leaves f (records_trace w.machine.size w.grants (outcome w (events.ChanWrite c)).records) x ⊎ Writes w (events.ChanWrite c) k.chan
unfolding outcome
write_leaves sc f w h k c x flat four of may untouched =
    let m = w.machine in
    let t = chan_write_step m c.0 in
    let next = chan_write_next m c.0 in
    let plain = runs_trace w m.size w.grants next (transaction_touch w c Write t) (write_records c t) untouched in
    elim (cases_eq c.0 k.chan.0) [
      | inl same ↦ elim (written_in c t (transaction_touch w c Write t) w next f x untouched) [
        | inl left ↦ inl (leaves_as f _ _ x plain.same left)
        | inr wrote ↦ inr (subst (λ (d : ChanNo). Writes w (events.ChanWrite c) d) (same_chan c k.chan same) (record { at = wrote.0; bytes = wrote.1; told = outcome_record w (events.ChanWrite c) (records.Cw c wrote.0 wrote.1) may wrote.2 }))
      ]
      | inr other ↦ inl (leaves_as f _ _ x plain.same (write_by sc f w h k c x t flat four of other refl plain.none))
    ]

-- ---- every event

on_by : (sc : Scenario) (f : List ℕ) (w : WorldState) (e : Event) (h : ℕ) (k : CopyOp) (x : ℕ) → IsNow sc f w e → IsOfCopy sc f w h k x → Untouched (records_trace w.machine.size w.grants (outcome w e).records)
    → Leaves f (records_trace w.machine.size w.grants (outcome w e).records) x ⊎ Writes w e k.chan
unfolding outcome
on_by sc f w (events.Issue g) h k x now of untouched = inl (step_leaves sc f w g h k x (next_of (driver_of w g.0)) (here_by sc f w g now) of refl untouched)
on_by sc f w (events.Try g) h k x now of untouched = inl (word_leaves f w x (try_outcome w g) (searching (driver_of w g.0)) (λ n. try_leaves f w g x n) untouched)
on_by sc f w (events.Told g got) h k x now of untouched = inl (word_leaves f w x (told_outcome w g got) (searching (driver_of w g.0)) (λ n. told_leaves f w g got x n) untouched)
on_by sc f w (events.Drain g i) h k x now of untouched = inl (drain_leaves f w g i x (leaving w.machine g.0 i) untouched)
on_by sc f w (events.Fill g b) h k x now of untouched =
    inl (leaves_as f _ _ x ((runs_trace w w.machine.size w.grants (fill_next w.machine g.0 b.0) None (answer_records w.machine.size (fill_answer w.machine g.0 b.0)) untouched).same ∙ answer_silent w.machine.size w.machine.size w.grants (fill_answer w.machine g.0 b.0)) refl)
on_by sc f w (events.Evict g b) h k x now of untouched =
    inl (leaves_as f _ _ x ((runs_trace w w.machine.size w.grants (evict_next w.machine g.0 b.0) None (answer_records w.machine.size (evict_answer w.machine g.0 b.0)) untouched).same ∙ answer_silent w.machine.size w.machine.size w.grants (evict_answer w.machine g.0 b.0)) refl)
on_by sc f w (events.ChanRead c) h k x now of untouched =
    inl (leaves_as f _ _ x (runs_trace w w.machine.size w.grants (chan_read_next w.machine c.0) (transaction_touch w c Read (chan_read_step w.machine c.0)) (read_records c (chan_read_step w.machine c.0)) untouched).same (read_leaves f w.machine.size w.grants c x (chan_read_step w.machine c.0)))
on_by sc f w (events.ChanWrite c) h k x now of untouched = write_leaves sc f w h k c x now.flat now.there of now.may untouched

-- an event that may happen
pub event_leaves : (sc : Scenario) (f : List ℕ) (w : WorldState) (e : Event) (h : ℕ) (k : CopyOp) (x : ℕ) → IsNow sc f w e → IsOfCopy sc f w h k x → Untouched (event_trace w e) → Leaves f (event_trace w e) x ⊎ Writes w e k.chan
event_leaves sc f w e h k x now of untouched =
    let same = trace_on w e now.may in
    elim (on_by sc f w e h k x now of (subst Untouched same untouched)) [
      | inl left ↦ inl (leaves_as f (event_trace w e) _ x same left)
      | inr wrote ↦ inr wrote
    ]
