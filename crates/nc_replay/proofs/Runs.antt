-- The text of a report gives the events that are done, and these give the report.
use Rattle.std.proofs.Common.{◌≡◌, ℕ, ◌+◌, ◌/◌, ◌<◌, ◌≤◌, Bool, true, false, List, [], ◌∷◌, ◌++◌, map, length, Option, Some, None, refl, sym, ap, ◌∙◌, arith, append-nil, cond}
use Rattle.std.specs.Prelude.{All, flat_map, is_some, if◌then◌else◌}
use Rattle.std.specs.List.{count_by}
use Rattle.std.proofs.lemmas.Grind.{flat_map-append}
use Rattle.std.proofs.lemmas.List.{length-take}
use Rattle.std.proofs.lemmas.List.Elements.{All-nil, All-cons, All-head, All-tail}
use Rattle.std.proofs.lemmas.Option.{slice_get_within}
use Rattle.nc_queue.specs.declared.entry.Entry.{Entry}
use Rattle.nc_queue.proofs.FenceLaws.{drained-some}
use Rattle.nc_scen.specs.Accepted.{IsAccepted}
use Rattle.nc_scen.specs.Events.{IsThere}
use Rattle.nc_scen.specs.Tokens.{token_in}
use Rattle.nc_scen.specs.declared.events.Event.{Event}
use Rattle.nc_scen.specs.declared.events.Event.TheVariants as events
use Rattle.nc_scen.specs.declared.scenario.Scenario.{Scenario}
use Rattle.nc_rules.specs.declared.records.Record.{Record}
use Rattle.nc_rules.specs.declared.records.Record.TheVariants as records
use Rattle.nc_rules.specs.Calls.{leaving}
use Rattle.nc_rules.specs.Events.{enabled}
use Rattle.nc_rules.specs.Flat.{AreThere}
use Rattle.nc_rules.specs.Lines.{line, token, tail, text_of, report}
use Rattle.nc_rules.specs.Machine.{MachineState, queue_of}
use Rattle.nc_rules.specs.Next.{next, event_records}
use Rattle.nc_rules.specs.Outcomes.{outcome}
use Rattle.nc_rules.specs.Run as run
use Rattle.nc_rules.specs.Schedule.{plan_events, finishing, sched}
use Rattle.nc_rules.specs.Sound.{IsMachine}
use Rattle.nc_rules.specs.World.{WorldState, start}
use Rattle.nc_counts.specs.Counts.{is_event}
use Rattle.nc_counts.proofs.Tells.{count-cons, outcome_tells}
use Rattle.nc_holds.proofs.events.Given.{IsEvent}
use Rattle.nc_holds.proofs.events.Holds.{next_same}
use Rattle.nc_flatness.specs.Flatness.{IsWorldOf}
use Rattle.nc_flatness.proofs.worlds.Worlds.{worlds_start, worlds_stay, event_now}
use Rattle.nc_sched.specs.Replay.{done_events, done_of, scheduled}
use Rattle.nc_sched.proofs.Again.{each_replays}
use Rattle.nc_sched.proofs.There.{schedule_is_there}
use Rattle.nc_replay.specs.Texts.{event_tokens}
use Rattle.nc_replay.specs.Laws.{EachReportTells, GivesAgain, EachReportReplays}
use Rattle.nc_replay.proofs.Lines.{told, lines_tell, tail_tells}
use Rattle.nc_replay.proofs.Tokens.{HasEntry, token_reads}

-- ---- what an event's records tell

none_told : (r : Record) → is_event r ≡ false → told r ≡ []
none_told (records.Event e) p = absurd (cc)
none_told _ p = refl

count_none : (t : Bool) (n : ℕ) → cond t 1 0 + n ≡ 0 → (t ≡ false) × (n ≡ 0)
count_none true n none = absurd (omega (arith, none))
count_none false n none = (refl, omega (arith, none))

silent : (rs : List Record) → count_by is_event rs ≡ 0 → flat_map told rs ≡ []
silent [] none = refl
silent (r ∷ rs) none =
    let p = count_none (is_event r) (count_by is_event rs) (sym (count-cons is_event r rs) ∙ none) in
    ap (λ (ts : List (List ℕ)). ts ++ flat_map told rs) (none_told r p.0) ∙ silent rs p.1

event_told : (w : WorldState) (e : Event) → enabled w e ≡ true → flat_map told (event_records w e) ≡ token e ∷ []
unfolding event_records
event_told w e may = rw may (ap (λ (ts : List (List ℕ)). token e ∷ ts) (silent (outcome w e).records (outcome_tells w e).of_events))

nothing_told : (w : WorldState) (e : Event) → enabled w e ≡ false → flat_map told (event_records w e) ≡ []
unfolding event_records
nothing_told w e off = rw off refl

-- ---- an entry that drains has a number below 8

entry_below : (m : MachineState) (h i : ℕ) (o : Option Entry) → IsMachine m → h < length m.harts → leaving m h i ≡ o → is_some o ≡ true → i < 8
entry_below m h i None sound lt is some = absurd (cc)
entry_below m h i (Some e) sound lt is some =
    let within = slice_get_within (queue_of m h) i e (drained-some m.size (queue_of m h) i e is).0 in
    omega (arith, within, (sound.queues h lt).few)

has_entry : (w : WorldState) (e : Event) → IsEvent w e → HasEntry e
unfolding enabled
has_entry w (events.Drain h i) is = entry_below w.machine h.0 i (leaving w.machine h.0 i) is.sound is.there refl is.may
has_entry w _ is = tt

-- ---- what a run's records tell

-- read for the machine of a scenario
abbrev reads : Scenario → List (List ℕ) → List (Option Event)
reads sc tokens = map (token_in (length sc.harts) (sc.ram / sc.block_size)) tokens

one_reads : (sc : Scenario) (w : WorldState) (e : Event) (es : List Event) (t : Bool) → enabled w e ≡ t → IsAccepted sc → IsWorldOf sc w → IsThere (length sc.harts) sc.block_size sc.ram e
    → reads sc (flat_map told (run.records (next w e) es)) ≡ map Some (done_events (next w e) es)
    → reads sc (flat_map told (event_records w e ++ run.records (next w e) es)) ≡ map Some (if t then e ∷ done_events (next w e) es else done_events w es)
one_reads sc w e es true may a is there more =
    let rs = run.records (next w e) es in
    let read = token_reads sc e a there (has_entry w e (event_now sc w e is there may)) in
    ap (reads sc) (flat_map-append told (event_records w e) rs ∙ ap (λ (ts : List (List ℕ)). ts ++ flat_map told rs) (event_told w e may)) ∙ (λ i. read i ∷ more i)
one_reads sc w e es false off a is there more =
    let rs = run.records (next w e) es in
    ap (reads sc) (flat_map-append told (event_records w e) rs ∙ ap (λ (ts : List (List ℕ)). ts ++ flat_map told rs) (nothing_told w e off)) ∙ more
    ∙ ap (λ (v : WorldState). map Some (done_events v es)) (next_same w e off)

run_reads : (sc : Scenario) (w : WorldState) (es : List Event) → IsAccepted sc → IsWorldOf sc w → AreThere sc es → reads sc (flat_map told (run.records w es)) ≡ map Some (done_events w es)
unfolding run.records done_events
run_reads sc w [] a is there = refl
run_reads sc w (e ∷ es) a is there =
    let here = All-head (IsThere (length sc.harts) sc.block_size sc.ram) e es there in
    let more = run_reads sc (next w e) es a (worlds_stay sc w e is here) (All-tail (IsThere (length sc.harts) sc.block_size sc.ram) e es there) in
    one_reads sc w e es (enabled w e) refl a is here more

pub each_report_tells : EachReportTells
unfolding report text_of
each_report_tells sc es a there =
    let rs = run.records (start sc) es in
    let end = tail sc (run.after (start sc) es) in
    let tokens : event_tokens (flat_map line rs ++ end) ≡ flat_map told rs =
    lines_tell rs end ∙ ap (λ (ts : List (List ℕ)). flat_map told rs ++ ts) (tail_tells sc (run.after (start sc) es)) ∙ append-nil (flat_map told rs) in
    ap (reads sc) tokens ∙ run_reads sc (start sc) es a (worlds_start sc a) there

-- ---- the events that are done, as a schedule

-- no more of them, and each of these
abbrev Part : (Event → Type 0) → List Event → List Event → Type 0
Part P ds es = (length ds ≤ length es) × All P ds

part_if : (P : Event → Type 0) (e : Event) (es ds fs : List Event) (t : Bool) → P e → Part P ds es → Part P fs es → Part P (if t then e ∷ ds else fs) (e ∷ es)
part_if P e es ds fs true p a b = (omega (arith, a.0), All-cons P e ds p a.1)
part_if P e es ds fs false p a b = (omega (arith, b.0), b.1)

done_part : (P : Event → Type 0) (w : WorldState) (es : List Event) → All P es → Part P (done_events w es) es
unfolding done_events
done_part P w [] all = (omega arith, All-nil P)
done_part P w (e ∷ es) all =
    part_if P e es (done_events (next w e) es) (done_events w es) (enabled w e) (All-head P e es all) (done_part P (next w e) es (All-tail P e es all)) (done_part P w es (All-tail P e es all))

limited : (sc : Scenario) → length (sched sc) ≤ sc.limit
unfolding sched
limited sc = let all = plan_events sc ++ finishing sc.finish (length sc.harts) sc.limit (run.after (start sc) (plan_events sc)) in omega (arith, length-take sc.limit all)

-- a scenario stays accepted under any schedule that fits
accepted_with : (sc : Scenario) (ds : List Event) → IsAccepted sc → length ds ≤ 400000 → AreThere sc ds → IsAccepted (scheduled sc ds)
accepted_with sc ds a few there = record {
  version = a.version;
  old = λ e. let o = a.old e in record { block = o.block; zero = o.zero; full = o.full };
  sized = a.sized;
  zero_sized = a.zero_sized;
  zero_wide = a.zero_wide;
  zero_whole = a.zero_whole;
  ram_whole = a.ram_whole;
  ram_some = a.ram_some;
  ram_small = a.ram_small;
  harts_some = a.harts_some;
  harts_few = a.harts_few;
  harts = a.harts;
  ptes_few = a.ptes_few;
  ptes = a.ptes;
  buffers_few = a.buffers_few;
  buffers = a.buffers;
  slots_whole = a.slots_whole;
  slots_few = a.slots_few;
  slots_end = a.slots_end;
  pool_whole = a.pool_whole;
  pages_few = a.pages_few;
  pool_end = a.pool_end;
  channels = a.channels;
  reach = a.reach;
  reaches_slots = a.reaches_slots;
  reaches_pool = a.reaches_pool;
  buffers_apart = a.buffers_apart;
  buffers_off_slots = a.buffers_off_slots;
  buffers_off_pool = a.buffers_off_pool;
  slots_off_pool = a.slots_off_pool;
  plan = (few, there);
  limit = a.limit;
}

done_fits : (sc : Scenario) → IsAccepted sc → (length (done_of sc (sched sc)) ≤ 400000) × AreThere sc (done_of sc (sched sc))
done_fits sc a =
    let p = done_part (IsThere (length sc.harts) sc.block_size sc.ram) (start sc) (sched sc) (schedule_is_there sc a) in
    (omega (arith, p.0, limited sc, a.limit), p.1)

pub each_report_replays : EachReportReplays
each_report_replays sc a =
    let ds = done_of sc (sched sc) in
    let fits = done_fits sc a in
    let again = each_replays sc in
    let gives : GivesAgain sc ds = record {
      told = each_report_tells sc (sched sc) a (schedule_is_there sc a);
      accepted = accepted_with sc ds a fits.0 fits.1;
      text = again.own_text;
      answer = again.own_answer;
    } in
    (ds, gives)
