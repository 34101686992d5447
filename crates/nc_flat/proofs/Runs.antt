-- Whole runs, where each event goes.
use Rattle.std.specs.Prelude.{Bool, true, false, List, take, is_some, unwrap_or, Option, Some, None}
use Rattle.std.specs.List.{list_any, range_with_len}
use Rattle.std.proofs.Common.{◌≡◌, ℕ, zero, suc, ◌+◌, ◌<◌, ◌≤◌, [], ◌∷◌, ◌++◌, length, refl, sym, ap, ◌∙◌, inl, inr, arith, subst}
use Rattle.std.proofs.lemmas.Bool.{or_parts, cases_eq, cases_lt, false≢true}
use Rattle.std.proofs.lemmas.List.{get_or_past}
use Rattle.std.proofs.lemmas.List.Elements.{All-head, All-tail, All-take}
use Rattle.nc_num.specs.Memory.{byte}
use Rattle.nc_num.specs.declared.names.MapId.{MapId}
use Rattle.nc_queue.specs.Rules.{gives}
use Rattle.nc_hart.specs.HartState.{HartState}
use Rattle.nc_model.specs.Flat.{TraceItem, Did, Touched, Latest, Untouched, flat, deeds}
use Rattle.nc_model.specs.Kept.{is_kept}
use Rattle.nc_model.proofs.FlatLaws.{in_order}
use Rattle.nc_model.proofs.LatestLaws.{Latest-append, deeds-append}
use Rattle.nc_model.specs.declared.owners.Owner.{Owner}
use Rattle.nc_model.specs.declared.owners.Owner.TheVariants.{Thread, Passing, Lending, Device, Returning, Synced, Pool}
use Rattle.nc_scen.specs.Accepted.{IsAccepted}
use Rattle.nc_scen.specs.Events.{IsThere}
use Rattle.nc_scen.specs.declared.events.Event.{Event}
use Rattle.nc_scen.specs.declared.scenario.Scenario.{Scenario}
use Rattle.nc_rules.specs.Events.{enabled}
use Rattle.nc_rules.specs.Flat.{event_trace, run_trace, is_given, flat_after, AreThere, IsLatest, IsKept, IsKeptAfter}
use Rattle.nc_rules.specs.Machine.{MachineState, no_hart}
use Rattle.nc_rules.specs.Next.{next, event_records}
use Rattle.nc_rules.specs.Run.{after}
use Rattle.nc_rules.specs.Start.{memory}
use Rattle.nc_rules.specs.View.{middle, view, seen}
use Rattle.nc_rules.specs.EventTouches.{owner_of}
use Rattle.nc_rules.specs.World.{WorldState, start}
use Rattle.nc_rows.specs.Places.{given, ThreadRow, PoolRow}
use Rattle.nc_rows.specs.Rows.{Book, Loan, SyncedRow, Row}
use Rattle.nc_flatness.specs.Books.{book_of}
use Rattle.nc_flatness.specs.Flatness.{Flatness}
use Rattle.nc_flatness.specs.Steps.{IsTouch, GoesTo, Goes, EachGoes}
use Rattle.nc_flatness.proofs.worlds.Starts.{start_flat}
use Rattle.nc_flatness.proofs.worlds.Worlds.{worlds_stay}

-- ---- one event

-- one that may not happen has an empty trace, and changes nothing
off_trace : (w : WorldState) (e : Event) (t : Bool) → enabled w e ≡ t → t ≡ false → event_trace w e ≡ []
unfolding event_trace event_records
off_trace w e true on off = absurd (false≢true (sym off))
off_trace w e false on off = rw on refl

off_next : (w : WorldState) (e : Event) → enabled w e ≡ false → next w e ≡ w
unfolding next
off_next w e off = rw off refl

off_goes : (sc : Scenario) (f : List ℕ) (w : WorldState) (e : Event) → enabled w e ≡ false → Flatness sc f w → Goes sc f w e
off_goes sc f w e off flat =
    inr (subst (λ (v : WorldState). GoesTo sc f (event_trace w e) v) (sym (off_next w e off))
    (subst (λ (ms : List TraceItem). GoesTo sc f ms w) (sym (off_trace w e (enabled w e) refl off)) (record { untouched = tt; latest = tt; bytes = flat.bytes })))

event_if : (sc : Scenario) (f : List ℕ) (w : WorldState) (e : Event) (t : Bool) → EachGoes → enabled w e ≡ t → IsAccepted sc → Flatness sc f w → IsThere (length sc.harts) sc.block_size sc.ram e → Goes sc f w e
event_if sc f w e true law may a flat there = law sc f w e (record { accepted = a; flat = flat; there = there; may = may })
event_if sc f w e false law may a flat there = off_goes sc f w e may flat

pub event_goes : (sc : Scenario) (f : List ℕ) (w : WorldState) (e : Event) → EachGoes → IsAccepted sc → Flatness sc f w → IsThere (length sc.harts) sc.block_size sc.ram e → Goes sc f w e
event_goes sc f w e law a flat there = event_if sc f w e (enabled w e) law refl a flat there

flat_next : (sc : Scenario) (f : List ℕ) (w : WorldState) (e : Event) → Flatness sc f w → IsThere (length sc.harts) sc.block_size sc.ram e → GoesTo sc f (event_trace w e) (next w e) → Flatness sc (flat f (deeds (event_trace w e))) (next w e)
flat_next sc f w e flat there goes = record { world = worlds_stay sc w e flat.world there; bytes = goes.bytes }

-- ---- all of them

touched_latest : (f : List ℕ) (ms ns : List TraceItem) → IsTouch ms → Latest f (ms ++ ns)
touched_latest f ms ns touch = subst (λ (k : List TraceItem). Latest f (k ++ ns)) (sym touch.first) tt

touched_not : (ms ns : List TraceItem) → IsTouch ms → Untouched (ms ++ ns) → ⊥
touched_not ms ns touch none = subst (λ (k : List TraceItem). Untouched (k ++ ns)) touch.first none

untouched_rest : (ms ns : List TraceItem) → Untouched ms → Untouched (ms ++ ns) → Untouched ns
untouched_rest [] ns u v = v
untouched_rest (Did d ∷ ms) ns u v = untouched_rest ms ns u v
untouched_rest (Touched ∷ ms) ns u v = absurd u

pub latest_run : (sc : Scenario) (f : List ℕ) (w : WorldState) (es : List Event) → EachGoes → IsAccepted sc → Flatness sc f w → AreThere sc es → Latest f (run_trace w es)
unfolding run_trace
latest_run sc f w [] law a now there = tt
latest_run sc f w (e ∷ es) law a now there =
    let here = All-head (IsThere (length sc.harts) sc.block_size sc.ram) e es there in
    elim (event_goes sc f w e law a now here) [
      | inl touch ↦ touched_latest f (event_trace w e) (run_trace (next w e) es) touch
      | inr goes ↦
          Latest-append f (event_trace w e) (run_trace (next w e) es) goes.latest
          (λ _. latest_run sc (flat f (deeds (event_trace w e))) (next w e) es law a (flat_next sc f w e now here goes) (All-tail (IsThere (length sc.harts) sc.block_size sc.ram) e es there))
    ]

flat_on : (f : List ℕ) (ms ns : List TraceItem) → flat f (deeds (ms ++ ns)) ≡ flat (flat f (deeds ms)) (deeds ns)
flat_on f ms ns = ap (flat f) (deeds-append ms ns) ∙ in_order f (deeds ms) (deeds ns)

pub flat_run : (sc : Scenario) (f : List ℕ) (w : WorldState) (es : List Event) → EachGoes → IsAccepted sc → Flatness sc f w → AreThere sc es → Untouched (run_trace w es) → Flatness sc (flat f (deeds (run_trace w es))) (after w es)
unfolding run_trace after
flat_run sc f w [] law a flat there none = flat
flat_run sc f w (e ∷ es) law a now there none =
    let here = All-head (IsThere (length sc.harts) sc.block_size sc.ram) e es there in
    elim (event_goes sc f w e law a now here) [
      | inl touch ↦ absurd (touched_not (event_trace w e) (run_trace (next w e) es) touch none)
      | inr goes ↦
          subst (λ (k : List ℕ). Flatness sc k (after (next w e) es)) (sym (flat_on f (event_trace w e) (run_trace (next w e) es)))
          (flat_run sc (flat f (deeds (event_trace w e))) (next w e) es law a (flat_next sc f w e now here goes) (All-tail (IsThere (length sc.harts) sc.block_size sc.ram) e es there)
          (untouched_rest (event_trace w e) (run_trace (next w e) es) goes.untouched none))
    ]

-- ---- where no queue has a byte

none_in : (p : ℕ → Bool) (at n x : ℕ) → list_any p (range_with_len at n) ≡ false → at ≤ x → x < at + n → p x ≡ false
none_in p at zero x none le lt = absurd (omega (arith, le, lt))
none_in p at (suc n) x none le lt =
    let parts = or_parts (p at) (list_any p (range_with_len (at + 1) n)) none in
    elim (cases_eq x at) [ inl e ↦ rw e parts.0 | inr ne ↦ none_in p (at + 1) n x parts.1 (omega (arith, le, ne)) (omega (arith, lt)) ]

none_if : (o : Option ℕ) → is_some o ≡ false → o ≡ None
none_if None none = refl
none_if (Some v) none = absurd cc

given_none : (m : MachineState) (h x : ℕ) → is_given m x ≡ false → given m h x ≡ None
unfolding gives
given_none m h x none = elim (cases_lt h (length m.harts)) [
  | inl lt ↦ none_if (given m h x) (none_in (λ g. is_some (given m g x)) 0 (length m.harts) h none (omega arith) (omega (arith, lt)))
  | inr past ↦ ap (λ (s : HartState). gives m.size s.queue.entries x) (get_or_past m.harts h no_hart past)
]

view_is : (m : MachineState) (h x : ℕ) → view m h x ≡ unwrap_or (given m h x) (middle m x)
unfolding seen
view_is m h x = refl

below : (m : MachineState) (h v x : ℕ) → is_given m x ≡ false → ThreadRow h v m x → middle m x ≡ v
below m h v x none row = sym (ap (λ (o : Option ℕ). unwrap_or o (middle m x)) (given_none m h x none)) ∙ sym (view_is m h x) ∙ row.shows

pool_below : (m : MachineState) (v x : ℕ) → PoolRow v m x → middle m x ≡ v
unfolding middle
pool_below m v x row = row.both.copy

synced_below : (m : MachineState) (n : MapId) (o : Option Loan) (v x : ℕ) → is_given m x ≡ false → SyncedRow n o v m x → middle m x ≡ v
synced_below m n None v x none row = absurd row
synced_below m n (Some l) v x none row = below m n.hart.0 v x none row

kept_by : (a : Book) (o : Owner) (v : ℕ) (m : MachineState) (x : ℕ) → is_kept o ≡ true → is_given m x ≡ false → Row a o v m x → middle m x ≡ v
kept_by a (Thread h) v m x kept none row = below m h.0 v x none row
kept_by a (Passing h g) v m x kept none row = below m h.0 v x none row.giver
kept_by a (Synced n) v m x kept none row = synced_below m n (a.loan n) v x none row
kept_by a Pool v m x kept none row = pool_below m v x row
kept_by a (Lending n) v m x kept none row = absurd (false≢true kept)
kept_by a (Device n) v m x kept none row = absurd (false≢true kept)
kept_by a (Returning n) v m x kept none row = absurd (false≢true kept)

-- ---- the laws

pub latest_of : EachGoes → (sc : Scenario) → IsAccepted sc → (es : List Event) → AreThere sc es → IsLatest sc es
latest_of law sc a es there = latest_run sc (memory sc) (start sc) es law a (start_flat sc a) there

pub flat_of : EachGoes → (sc : Scenario) (es : List Event) → IsAccepted sc → AreThere sc es → Untouched (run_trace (start sc) es) → Flatness sc (flat (memory sc) (deeds (run_trace (start sc) es))) (after (start sc) es)
flat_of law sc es a there none = flat_run sc (memory sc) (start sc) es law a (start_flat sc a) there none

kept_after : EachGoes → (sc : Scenario) → IsAccepted sc → (es : List Event) → AreThere sc es → IsKeptAfter sc es
kept_after law sc a es there untouched =
    let w = after (start sc) es in
    let flat = flat_of law sc es a there untouched in
    record { at = λ x lt off kept none. kept_by (book_of w) (owner_of w x) (byte (flat_after sc es) x) w.machine x kept none (flat.bytes.rows x lt off) }

-- a prefix of a run is a run
pub kept_of : EachGoes → (sc : Scenario) → IsAccepted sc → (es : List Event) → AreThere sc es → IsKept sc es
kept_of law sc a es there n = kept_after law sc a (take n es) (All-take (IsThere (length sc.harts) sc.block_size sc.ram) n es there)
