-- The world after an event, by the parts that it has left.
use Rattle.std.proofs.Common.{◌≡◌, ℕ, Bool, true, false, List, [], ◌∷◌, ◌++◌, refl, sym, ap, ◌∙◌, append_assoc, Option, Some, None}
use Rattle.std.specs.Prelude.{if◌then◌else◌, Ok, slice_set}
use Rattle.std.proofs.lemmas.List.{append-nil}
use Rattle.nc_num.specs.declared.names.HartNo.{HartNo}
use Rattle.nc_model.specs.declared.touches.Touch.{Touch}
use Rattle.nc_own.specs.Books.{BookView}
use Rattle.nc_machine.specs.State.{MachineView}
use Rattle.nc_log.specs.Logs.{LogView}
use Rattle.nc_scen.specs.declared.events.Event.{Event}
use Rattle.nc_rules.specs.declared.records.Record.{Record}
use Rattle.nc_rules.specs.declared.records.Record.TheVariants as records
use Rattle.nc_rules.specs.Driver.{Went}
use Rattle.nc_rules.specs.Events.{enabled}
use Rattle.nc_rules.specs.Machine.{MachineState}
use Rattle.nc_rules.specs.Next.{touched_by, after_outcome, performed, counted, next, event_records}
use Rattle.nc_rules.specs.Outcomes.{Outcome, goes, runs, outcome}
use Rattle.nc_rules.specs.Records.{touch_records, moves_records}
use Rattle.nc_rules.specs.Turns.{Moved}
use Rattle.nc_rules.specs.World.{WorldState, driver_of, with_moves, one_more}
use Rattle.nc_world.specs.declared.parts.Parts.{Parts}
use Rattle.nc_world.specs.declared.world.Stepped.TheVariants.{Done, Skipped}
use Rattle.nc_world.specs.Inside.{state_of, IsStepped, IsCarried}
use Rattle.nc_world.specs.Looks.{touches_after}
use Rattle.nc_world.proofs.Outcomes.{Goes, Runs}

-- worlds are the same that have the same parts
pub same_world : (u v : WorldState) → u.machine ≡ v.machine → u.drivers ≡ v.drivers → u.owners ≡ v.owners → u.grants ≡ v.grants
    → u.events ≡ v.events → u.touches ≡ v.touches → u.slots ≡ v.slots → u.pages ≡ v.pages → u ≡ v
same_world u v machine drivers owners grants events touches slots pages =
    ap (λ x. record u { machine = x }) machine
    ∙ ap (λ x. record u { machine = v.machine; drivers = x }) drivers
    ∙ ap (λ x. record u { machine = v.machine; drivers = v.drivers; owners = x }) owners
    ∙ ap (λ x. record u { machine = v.machine; drivers = v.drivers; owners = v.owners; grants = x }) grants
    ∙ ap (λ x. record u { machine = v.machine; drivers = v.drivers; owners = v.owners; grants = v.grants; events = x }) events
    ∙ ap (λ x. record u { machine = v.machine; drivers = v.drivers; owners = v.owners; grants = v.grants; events = v.events; touches = x }) touches
    ∙ ap (λ x. record u { machine = v.machine; drivers = v.drivers; owners = v.owners; grants = v.grants; events = v.events; touches = v.touches; slots = x }) slots
    ∙ ap (λ x. record u { machine = v.machine; drivers = v.drivers; owners = v.owners; grants = v.grants; events = v.events; touches = v.touches; slots = v.slots; pages = x }) pages

-- ---- an event that may not happen

pub skipped : {p : Parts} {machine : MachineView} {book : BookView} {log : LogView} {e : Event} → enabled (state_of p) e ≡ false
    → machine.machine ≡ p.machine.machine → book.owners ≡ p.book.owners → book.grants ≡ p.book.grants → log.records ≡ p.log.records
    → IsStepped p (record p { machine = machine; book = book; log = log }) e (Ok Skipped)
unfolding next event_records
skipped {p = p} {e = e} off machine owners grants log =
    let w = state_of p in
    let same = same_world _ w machine refl owners grants refl refl refl refl in
    record {
      answer = sym (ap (λ (t : Bool). if t then Done else Skipped) off);
      next = same ∙ sym (ap (λ (t : Bool). if t then counted (performed w e) else w) off);
      records = log ∙ sym (ap (λ (t : Bool). p.log.records ++ (if t then records.Event e ∷ (outcome w e).records else [])) off ∙ append-nil p.log.records);
      err = tt;
      size = refl;
      pool = refl;
    }

-- ---- one that may

-- with this outcome
made : {p q : Parts} {e : Event} (o : Outcome) → enabled (state_of p) e ≡ true → outcome (state_of p) e ≡ o
    → state_of q ≡ counted (after_outcome (state_of p) o) → q.log.records ≡ p.log.records ++ records.Event e ∷ o.records → q.size ≡ p.size → q.pool ≡ p.pool → IsStepped p q e (Ok Done)
unfolding next performed event_records
made {p = p} {e = e} o may is after recorded size pool =
    let w = state_of p in
    record {
      answer = sym (ap (λ (t : Bool). if t then Done else Skipped) may);
      next = after ∙ sym (ap (λ (t : Bool). if t then counted (performed w e) else w) may ∙ ap (λ (x : Outcome). counted (after_outcome w x)) is);
      records = recorded
          ∙ sym (ap (λ (t : Bool). p.log.records ++ (if t then records.Event e ∷ (outcome w e).records else [])) may ∙ ap (λ (x : Outcome). p.log.records ++ records.Event e ∷ x.records) is);
      err = tt;
      size = size;
      pool = pool;
    }

-- one more touch, where there is one
touched_is : (v : WorldState) (t : Option Touch) → record v { touches = touches_after v.touches t } ≡ touched_by v t
touched_is v None = refl
touched_is v (Some t) = refl

-- an event of the machine alone
pub ran : {p : Parts} {machine : MachineView} {book : BookView} {log : LogView} {events touches : ℕ} {e : Event} {after : MachineState} {touch : Option Touch}
    {recorded : List Record} → Runs (state_of p) e after touch recorded
    → machine.machine ≡ after → book.owners ≡ p.book.owners → book.grants ≡ p.book.grants → touches ≡ touches_after p.touches touch → events ≡ one_more p.events
    → log.records ≡ p.log.records ++ records.Event e ∷ (touch_records touch ++ recorded)
    → IsStepped p (record p { machine = machine; book = book; log = log; events = events; touches = touches }) e (Ok Done)
ran {p = p} {after = after} {touch = touch} {recorded = recorded} by machine owners grants touches events log =
    let w = state_of p in
    let is = same_world _ (counted (record w { machine = after; touches = touches_after w.touches touch })) machine refl owners grants events touches refl refl
    ∙ ap counted (touched_is (record w { machine = after }) touch) in
    made (runs w after touch recorded) by.may by.is is log refl refl

-- an event of hart h's driver, by the parts before what it moves is moved
pub carried : {p b q : Parts} {e : Event} {h : HartNo} {machine : MachineState} {went : Went} {slots : List (Option HartNo)} {touch : Option Touch} {recorded : List Record} {m : Moved} {n : ℕ}
    → Goes (state_of p) e h machine went slots touch recorded → m ≡ went.moves → n ≡ (driver_of (state_of p) h.0).op
    → b.machine.machine ≡ machine → b.drivers.items ≡ slice_set p.drivers.items h.0 went.driver
    → b.book.owners ≡ p.book.owners → b.book.grants ≡ p.book.grants → b.slots ≡ slots → b.touches ≡ touches_after p.touches touch
    → b.log.records ≡ p.log.records ++ records.Event e ∷ (touch_records touch ++ recorded)
    → b.pages ≡ p.pages → b.events ≡ p.events → b.size ≡ p.size → b.pool ≡ p.pool → IsCarried b q h n m → IsStepped p q e (Ok Done)
carried {p = p} {b = b} {q = q} {e = e} {h = h} {machine = machine} {went = went} {slots = slots} {touch = touch} {recorded = recorded} {m = m} {n = n}
    by moves number machine_is drivers owners grants slots_are touches log pages events size pool is =
    let w = state_of p in
    let o = goes w h machine went slots touch recorded in
    let ready = record w { machine = machine; drivers = o.drivers; slots = slots } in
    let before = same_world (state_of b) (record ready { touches = touches_after w.touches touch }) machine_is drivers owners grants events touches slots_are pages in
    let after = is.state ∙ ap (λ (u : WorldState). counted (with_moves u m)) before ∙ ap (λ (x : Moved). counted (with_moves (record ready { touches = touches_after w.touches touch }) x)) moves
    ∙ ap counted (touched_is (with_moves ready went.moves) touch) in
    let all : q.log.records ≡ p.log.records ++ records.Event e ∷ o.records =
    is.records ∙ ap (λ (k : ℕ). b.log.records ++ moves_records h k m) number ∙ ap (λ (x : Moved). b.log.records ++ moves_records h (driver_of w h.0).op x) moves
    ∙ ap (λ (l : List Record). l ++ moves_records h (driver_of w h.0).op went.moves) log ∙ simp append_assoc in
    made o by.may by.is after all (is.size ∙ size) (is.pool ∙ pool)

-- ---- records that are added one after another

pub logged : {start room pushed all : List Record} (x : Record) (recorded : List Record) → room ≡ start → pushed ≡ room ++ x ∷ [] → all ≡ pushed ++ recorded → all ≡ start ++ x ∷ recorded
logged {start = start} x recorded same push add = add ∙ ap (λ (l : List Record). l ++ recorded) (push ∙ ap (λ (l : List Record). l ++ x ∷ []) same) ∙ simp append_assoc

pub touch_logged : {start room pushed touched all : List Record} (x : Record) (touch : Option Touch) (recorded : List Record) → room ≡ start → pushed ≡ room ++ x ∷ []
    → touched ≡ pushed ++ touch_records touch → all ≡ touched ++ recorded → all ≡ start ++ x ∷ (touch_records touch ++ recorded)
touch_logged x touch recorded same push touches add = add ∙ ap (λ (l : List Record). l ++ recorded) (logged x (touch_records touch) same push touches) ∙ simp append_assoc
