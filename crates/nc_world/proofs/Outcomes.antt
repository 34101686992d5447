-- What each event does where it may happen, by what its calls answered.
use Rattle.std.proofs.Common.{◌≡◌, ℕ, Bool, true, false, List, refl, sym, ap, subst, ◌∙◌, Option, Some, None}
use Rattle.std.specs.Prelude.{not, is_some, is_none}
use Rattle.std.proofs.lemmas.Bool.{and_parts}
use Rattle.nc_num.specs.declared.names.ChanNo.{ChanNo}
use Rattle.nc_num.specs.declared.names.HartNo.{HartNo}
use Rattle.nc_num.specs.declared.names.Label.{Label}
use Rattle.nc_num.specs.declared.places.Block.{Block}
use Rattle.nc_cache.specs.declared.line.BusRec.{BusRec}
use Rattle.nc_queue.specs.declared.entry.Entry.{Entry}
use Rattle.nc_queue.specs.declared.entry.Entry.TheVariants as entries
use Rattle.nc_pdma.specs.declared.channel.ChanStep.{ChanStep}
use Rattle.nc_pdma.specs.declared.channel.ChanStep.TheVariants.{Idle, Moved, Error}
use Rattle.nc_slots.specs.SlotWords.{holder_of, tried}
use Rattle.nc_model.specs.declared.owners.Access.{Access}
use Rattle.nc_model.specs.declared.owners.Access.TheVariants.{Read, Write}
use Rattle.nc_model.specs.declared.owners.Owner.{Owner}
use Rattle.nc_model.specs.declared.touches.Touch.{Touch}
use Rattle.nc_scen.specs.declared.events.Event.{Event}
use Rattle.nc_scen.specs.declared.events.Event.TheVariants as events
use Rattle.nc_rules.specs.declared.records.Record.{Record}
use Rattle.nc_rules.specs.declared.steps.Next.{Next}
use Rattle.nc_rules.specs.declared.steps.Next.TheVariants as nexts
use Rattle.nc_rules.specs.declared.steps.Seen.{Seen}
use Rattle.nc_rules.specs.Calls.{leaving, drain_next, fill_next, fill_answer, evict_next, evict_answer}
use Rattle.nc_rules.specs.Driver.{Went, next_of, searching, is_script, told, lent}
use Rattle.nc_rules.specs.Events.{may_go_on, may_issue_step, is_idle_step, enabled}
use Rattle.nc_rules.specs.EventTouches.{drain_touch, transaction_touch}
use Rattle.nc_rules.specs.Machine.{MachineState}
use Rattle.nc_rules.specs.Outcomes.{goes, runs, leaves, outcome, step_outcome, start_outcome, op_outcome, claim_outcome, poll_outcome, take_outcome, drain_outcome, try_outcome, told_outcome, at_word, got_word, told_slots}
use Rattle.nc_rules.specs.Records.{drain_records, transfer_records, answer_records, try_records, told_records}
use Rattle.nc_rules.specs.World.{WorldState, driver_of}
use Rattle.nc_world.specs.Looks.{is_token, transaction, chan_step, chan_next, chan_records, transaction_touch_in}
use Rattle.nc_world.specs.Steps.{step_seen, step_machine, step_touch, act_records, is_going, went_on}
use Rattle.nc_world.proofs.Disabled.{fill_may, fill_may_not, evict_held, evict_not_held}

-- an event of hart h's driver that may happen: the machine after it, the driver that goes on with what it moves, the slot
-- words, the touch that it is, and the records of the machine and the words
pub record Goes (w : WorldState) (e : Event) (h : HartNo) (machine : MachineState) (went : Went) (slots : List (Option HartNo)) (touch : Option Touch) (recorded : List Record) : Type 0 where
  pub may : enabled w e ≡ true
  pub is : outcome w e ≡ goes w h machine went slots touch recorded

-- an event of the machine alone
pub record Runs (w : WorldState) (e : Event) (machine : MachineState) (touch : Option Touch) (recorded : List Record) : Type 0 where
  pub may : enabled w e ≡ true
  pub is : outcome w e ≡ runs w machine touch recorded

-- ---- a driver's step

going : (w : WorldState) (h : HartNo) (n : Next) → may_go_on w h n ≡ true → is_going n ≡ true
going w h nexts.End may = absurd (cc)
going w h nexts.Start may = refl
going w h (nexts.Search k) may = absurd (cc)
going w h (nexts.Op op) may = refl
going w h (nexts.Claim chan) may = refl
going w h (nexts.Poll chan) may = refl
going w h (nexts.Take buf) may = refl

step_is : (w : WorldState) (h : HartNo) (n : Next) → is_going n ≡ true
    → step_outcome w h n
    ≡ goes w h (step_machine w.machine h n) (went_on (driver_of w h.0) w.owners w.pages n (step_seen w.machine h n)) w.slots (step_touch w h n)
    (act_records w.machine h (is_script (driver_of w h.0).phase) n)
unfolding step_outcome start_outcome op_outcome claim_outcome poll_outcome take_outcome
step_is w h nexts.End going = absurd (cc)
step_is w h (nexts.Search k) going = absurd (cc)
step_is w h nexts.Start going = refl
step_is w h (nexts.Op op) going = refl
step_is w h (nexts.Claim chan) going = refl
step_is w h (nexts.Poll chan) going = refl
step_is w h (nexts.Take buf) going = refl

pub issue_goes : (w : WorldState) (h : HartNo) (n : Next) {may by : Bool} {machine : MachineState} {owners : List Owner} {saw : Seen} {touch : Option Touch}
    → n ≡ next_of (driver_of w h.0) → may ≡ may_issue_step w h → may ≡ true → machine ≡ w.machine → owners ≡ w.owners
    → saw ≡ step_seen w.machine h n → touch ≡ step_touch w h n → by ≡ is_script (driver_of w h.0).phase
    → Goes w (events.Issue h) h (step_machine machine h n) (went_on (driver_of w h.0) owners w.pages n saw) w.slots touch (act_records machine h by n)
unfolding enabled outcome
issue_goes w h n next issue may machine owners saw touch by =
    let allowed : may_issue_step w h ≡ true = sym issue ∙ may in
    let on : may_go_on w h n ≡ true = subst (λ (m : Next). may_go_on w h m ≡ true) (sym next) (and_parts _ _ allowed).1 in
    record {
      may = allowed;
      is = rw (machine, owners, saw, touch, by) (ap (step_outcome w h) (sym next) ∙ step_is w h n (going w h n on));
    }

-- ---- a slot search

pub try_goes : (w : WorldState) (h : HartNo) (k : ℕ) {at : Option ℕ} {holder : Option HartNo} {free : Bool}
    → at ≡ searching (driver_of w h.0) → at ≡ Some k → holder ≡ holder_of w.slots k → free ≡ is_none holder
    → Goes w (events.Try h) h w.machine (told (driver_of w h.0) free) (tried w.slots h k) None (try_records h k holder)
unfolding enabled outcome try_outcome
try_goes w h k at found held free =
    let here : searching (driver_of w h.0) ≡ Some k = sym at ∙ found in
    record {
      may = ap is_some here;
      is = rw (free, held) (ap (at_word w (try_outcome w h)) here);
    }

pub tell_goes : (w : WorldState) (h : HartNo) (k : ℕ) {at : Option ℕ} {holder : Option HartNo} {got free : Bool}
    → at ≡ searching (driver_of w h.0) → at ≡ Some k → holder ≡ holder_of w.slots k → free ≡ got_word got holder
    → Goes w (events.Told h got) h w.machine (told (driver_of w h.0) free) (told_slots got w.slots h k) None (told_records h k got holder)
unfolding enabled outcome told_outcome
tell_goes w h k {got = got} at found held free =
    let here : searching (driver_of w h.0) ≡ Some k = sym at ∙ found in
    record {
      may = ap is_some here;
      is = rw (free, held) (ap (at_word w (told_outcome w h got)) here);
    }

-- ---- a drain

pub token_goes : (w : WorldState) (h : HartNo) (i : ℕ) (label : Label) (first count : ℕ) {machine : MachineState}
    → leaving w.machine h.0 i ≡ Some (entries.Lend label first count) → machine ≡ w.machine
    → Goes w (events.Drain h i) h (drain_next machine h.0 i) (lent (driver_of w h.0) label first) w.slots None (drain_records machine h (entries.Lend label first count))
unfolding enabled outcome drain_outcome
token_goes w h i label first count out machine = record { may = ap is_some out; is = rw machine (ap (drain_outcome w h i) out) }

leaves_plain : (w : WorldState) (h : HartNo) (m : MachineState) (t : Option Touch) (rs : List Record) (e : Entry) → is_token e ≡ false → leaves w h m t rs e ≡ runs w m t rs
leaves_plain w h m t rs (entries.Lend label first count) plain = absurd (cc)
leaves_plain w h m t rs (entries.Store span bytes kind) plain = refl
leaves_plain w h m t rs (entries.Cbo block op) plain = refl
leaves_plain w h m t rs (entries.Reg chan off width value) plain = refl
leaves_plain w h m t rs (entries.Mail buf to) plain = refl
leaves_plain w h m t rs (entries.Mark pred succ) plain = refl

pub entry_runs : (w : WorldState) (h : HartNo) (i : ℕ) (e : Entry) {machine : MachineState} {touch : Option Touch}
    → leaving w.machine h.0 i ≡ Some e → is_token e ≡ false → machine ≡ w.machine → touch ≡ drain_touch w h e
    → Runs w (events.Drain h i) (drain_next machine h.0 i) touch (drain_records machine h e)
unfolding enabled outcome drain_outcome
entry_runs w h i e out plain machine touch = record {
  may = ap is_some out;
  is = rw (machine, touch) (ap (drain_outcome w h i) out ∙ leaves_plain w h (drain_next w.machine h.0 i) (drain_touch w h e) (drain_records w.machine h e) e plain);
}

-- ---- caches

-- the transfers that are answered, with this size of a block
told_transfers : (s : ℕ) (r : Option (List BusRec)) (bus : List BusRec) → r ≡ Some bus → answer_records s r ≡ transfer_records s bus
told_transfers s r bus is = ap (answer_records s) is

pub fill_runs : (w : WorldState) (h : HartNo) (b : Block) {machine : MachineState} {size : ℕ} {r : Option (List BusRec)} {bus ts : List BusRec}
    → machine ≡ w.machine → r ≡ fill_answer machine h.0 b.0 → r ≡ Some bus → size ≡ w.machine.size → ts ≡ bus
    → Runs w (events.Fill h b) (fill_next machine h.0 b.0) None (transfer_records size ts)
unfolding enabled outcome
fill_runs w h b {bus = bus} machine answer some size ts =
    let is : fill_answer w.machine h.0 b.0 ≡ Some bus = ap (λ (m : MachineState). fill_answer m h.0 b.0) (sym machine) ∙ sym answer ∙ some in
    record {
      may = fill_may w.machine h.0 b.0 bus is;
      is = rw (machine, size, ts) (ap (λ (rs : List Record). runs w (fill_next w.machine h.0 b.0) None rs) (told_transfers w.machine.size _ bus is));
    }

pub evict_runs : (w : WorldState) (h : HartNo) (b : Block) {size : ℕ} {r : Option (List BusRec)} {bus ts : List BusRec}
    → r ≡ evict_answer w.machine h.0 b.0 → r ≡ Some bus → size ≡ w.machine.size → ts ≡ bus
    → Runs w (events.Evict h b) (evict_next w.machine h.0 b.0) None (transfer_records size ts)
unfolding enabled outcome
evict_runs w h b {bus = bus} answer some size ts =
    let is : evict_answer w.machine h.0 b.0 ≡ Some bus = sym answer ∙ some in
    record {
      may = evict_held w.machine h.0 b.0 bus is;
      is = rw (size, ts) (ap (λ (rs : List Record). runs w (evict_next w.machine h.0 b.0) None rs) (told_transfers w.machine.size _ bus is));
    }

pub fill_off : (w : WorldState) (h : HartNo) (b : Block) {machine : MachineState} {r : Option (List BusRec)}
    → machine ≡ w.machine → r ≡ fill_answer machine h.0 b.0 → r ≡ None → enabled w (events.Fill h b) ≡ false
unfolding enabled
fill_off w h b machine answer none = fill_may_not w.machine h.0 b.0 (ap (λ (m : MachineState). fill_answer m h.0 b.0) (sym machine) ∙ sym answer ∙ none)

pub evict_off : (w : WorldState) (h : HartNo) (b : Block) {r : Option (List BusRec)} → r ≡ evict_answer w.machine h.0 b.0 → r ≡ None → enabled w (events.Evict h b) ≡ false
unfolding enabled
evict_off w h b answer none = evict_not_held w.machine h.0 b.0 (sym answer ∙ none)

-- ---- channels

-- the touch of a transaction depends on owners and grants alone
transaction_is : (w : WorldState) (c : ChanNo) (access : Access) (t : ChanStep) → transaction_touch w c access t ≡ transaction_touch_in w.owners w.grants c access t
transaction_is w c access Idle = refl
transaction_is w c access (Moved span bytes done) = refl
transaction_is w c access (Error bus len) = refl

moves_by : (w : WorldState) (c : ChanNo) (access : Access) → enabled w (transaction c access) ≡ not (is_idle_step (chan_step w.machine c.0 access))
unfolding enabled
moves_by w c Read = refl
moves_by w c Write = refl

runs_by : (w : WorldState) (c : ChanNo) (access : Access)
    → outcome w (transaction c access)
    ≡ runs w (chan_next w.machine c.0 access) (transaction_touch w c access (chan_step w.machine c.0 access)) (chan_records c access (chan_step w.machine c.0 access))
unfolding outcome
runs_by w c Read = refl
runs_by w c Write = refl

pub transact_runs : (w : WorldState) (c : ChanNo) (access : Access) {t : ChanStep} {idle : Bool} {touch : Option Touch}
    → t ≡ chan_step w.machine c.0 access → idle ≡ is_idle_step t → idle ≡ false → touch ≡ transaction_touch_in w.owners w.grants c access t
    → Runs w (transaction c access) (chan_next w.machine c.0 access) touch (chan_records c access t)
transact_runs w c access {t = t} step idle moved touch = record {
  may = moves_by w c access ∙ ap (λ (s : ChanStep). not (is_idle_step s)) (sym step) ∙ ap not (sym idle ∙ moved);
  is = rw (touch, ← transaction_is w c access t, step) (runs_by w c access);
}

pub transact_off : (w : WorldState) (c : ChanNo) (access : Access) {t : ChanStep} {idle : Bool}
    → t ≡ chan_step w.machine c.0 access → idle ≡ is_idle_step t → idle ≡ true → enabled w (transaction c access) ≡ false
transact_off w c access step idle still = moves_by w c access ∙ ap (λ (s : ChanStep). not (is_idle_step s)) (sym step) ∙ ap not (sym idle ∙ still)
