-- The status of a run, its records of touches, and its trace.
use Rattle.std.proofs.Common.{◌≡◌, ℕ, zero, suc, ◌+◌, ◌≤◌, Bool, true, false, List, [], ◌∷◌, ◌++◌, refl, sym, ◌∙◌, arith, cond}
use Rattle.std.specs.Prelude.{◌≢◌, ◌||◌, ◌↔◌, nat_lt, if◌then◌else◌}
use Rattle.std.specs.List.{count_by, list_any}
use Rattle.std.proofs.lemmas.Bool.{false≢true, cond-true, lt-ltb}
use Rattle.std.proofs.lemmas.List.Folds.{list_any-append}
use Rattle.nc_env.specs.declared.CboOp.{CboOp}
use Rattle.nc_env.specs.declared.CboOp.TheVariants as cbos
use Rattle.nc_model.specs.Flat.{TraceItem, Did, Touched, Untouched}
use Rattle.nc_model.proofs.LatestLaws.{Untouched-append}
use Rattle.nc_model.specs.declared.owners.Grant.{Grant}
use Rattle.nc_scen.specs.declared.events.Event.{Event}
use Rattle.nc_scen.specs.declared.scenario.Scenario.{Scenario}
use Rattle.nc_rules.specs.declared.records.Record.{Record}
use Rattle.nc_rules.specs.declared.records.Record.TheVariants as records
use Rattle.nc_rules.specs.Flat.{cbo_trace, record_trace, records_trace, event_trace, run_trace}
use Rattle.nc_rules.specs.Lines.{status, status_at, at_end}
use Rattle.nc_rules.specs.Next.{next, event_records}
use Rattle.nc_rules.specs.Run as run
use Rattle.nc_rules.specs.World.{WorldState, start}
use Rattle.nc_counts.specs.Counts.{is_touch, up_to_end}
use Rattle.nc_counts.specs.Touches.{EachStatusTells}
use Rattle.nc_counts.proofs.CountLaws.{counts_always}
use Rattle.nc_counts.proofs.Tells.{count-cons}

-- ---- records and the trace

cbo_is : (s : ℕ) (op : CboOp) (at : ℕ) → Untouched (cbo_trace s op at)
cbo_is s cbos.Zero at = record {}
cbo_is s cbos.Clean at = record {}
cbo_is s cbos.Flush at = record {}
cbo_is s cbos.Inval at = record {}

-- a record that is no touch makes no trace item of one
record_is : (s : ℕ) (grants : List Grant) (r : Record) → is_touch r ≡ false → Untouched (record_trace s grants r)
record_is s grants (records.Touched t) absent = absurd (false≢true (sym absent))
record_is s grants (records.Event e) absent = record {}
record_is s grants (records.Ld h at bytes) absent = record {}
record_is s grants (records.St h at bytes) absent = record {}
record_is s grants (records.Pl h at bytes) absent = record {}
record_is s grants (records.Ps h at bytes) absent = record {}
record_is s grants (records.Cbo h op at) absent = cbo_is s op at.0
record_is s grants (records.Fence h pred succ) absent = record {}
record_is s grants (records.Mark h pred succ) absent = record {}
record_is s grants (records.Io h target) absent = record {}
record_is s grants (records.DrStore h at bytes) absent = record {}
record_is s grants (records.DrCbo h op at) absent = record {}
record_is s grants (records.DrIo h target) absent = record {}
record_is s grants (records.DrMark h) absent = record {}
record_is s grants (records.Fill h at from) absent = record {}
record_is s grants (records.Own h at from) absent = record {}
record_is s grants (records.Wb h at bytes) absent = record {}
record_is s grants (records.Drop h at) absent = record {}
record_is s grants (records.Cr chan at bytes) absent = record {}
record_is s grants (records.Cw chan at bytes) absent = record {}
record_is s grants (records.Cd chan) absent = record {}
record_is s grants (records.Ce chan at len) absent = record {}
record_is s grants (records.Ow span owner) absent = record {}
record_is s grants (records.Try h k a) absent = record {}
record_is s grants (records.Told h k a) absent = record {}
record_is s grants (records.Back h k) absent = record {}
record_is s grants (records.Ans h op a) absent = record {}

untouched_rest : (ms ns : List TraceItem) → Untouched (ms ++ ns) → Untouched ns
untouched_rest [] ns u = u
untouched_rest (Did d ∷ ms) ns u = untouched_rest ms ns u
untouched_rest (Touched ∷ ms) ns u = absurd u

untouched_front : (ms ns : List TraceItem) → Untouched (ms ++ ns) → Untouched ms
untouched_front [] ns u = record {}
untouched_front (Did d ∷ ms) ns u = untouched_front ms ns u
untouched_front (Touched ∷ ms) ns u = absurd u

touch_is : (s : ℕ) (grants : List Grant) (r : Record) → is_touch r ≡ true → Untouched (record_trace s grants r) → ⊥
touch_is s grants (records.Touched t) present u = u
touch_is s grants (records.Event e) present u = false≢true present
touch_is s grants (records.Ld h at bytes) present u = false≢true present
touch_is s grants (records.St h at bytes) present u = false≢true present
touch_is s grants (records.Pl h at bytes) present u = false≢true present
touch_is s grants (records.Ps h at bytes) present u = false≢true present
touch_is s grants (records.Cbo h op at) present u = false≢true present
touch_is s grants (records.Fence h pred succ) present u = false≢true present
touch_is s grants (records.Mark h pred succ) present u = false≢true present
touch_is s grants (records.Io h target) present u = false≢true present
touch_is s grants (records.DrStore h at bytes) present u = false≢true present
touch_is s grants (records.DrCbo h op at) present u = false≢true present
touch_is s grants (records.DrIo h target) present u = false≢true present
touch_is s grants (records.DrMark h) present u = false≢true present
touch_is s grants (records.Fill h at from) present u = false≢true present
touch_is s grants (records.Own h at from) present u = false≢true present
touch_is s grants (records.Wb h at bytes) present u = false≢true present
touch_is s grants (records.Drop h at) present u = false≢true present
touch_is s grants (records.Cr chan at bytes) present u = false≢true present
touch_is s grants (records.Cw chan at bytes) present u = false≢true present
touch_is s grants (records.Cd chan) present u = false≢true present
touch_is s grants (records.Ce chan at len) present u = false≢true present
touch_is s grants (records.Ow span owner) present u = false≢true present
touch_is s grants (records.Try h k a) present u = false≢true present
touch_is s grants (records.Told h k a) present u = false≢true present
touch_is s grants (records.Back h k) present u = false≢true present
touch_is s grants (records.Ans h op a) present u = false≢true present

-- ---- a run

-- trace and records tell of a touch alike
record Alike (ms : List TraceItem) (rs : List Record) : Type 0 where
  none : list_any is_touch rs ≡ false → Untouched ms
  some : list_any is_touch rs ≡ true → Untouched ms → ⊥

nothing : Alike [] []
nothing = record { none = λ absent. record {}; some = λ present u. false≢true present }

any_front : (a b c : Bool) → c ≡ (a || b) → c ≡ false → a ≡ false
any_front false b c e absent = refl
any_front true b c e absent = absurd (false≢true (sym absent ∙ e))

any_rest : (a b c : Bool) → c ≡ (a || b) → c ≡ false → b ≡ false
any_rest false b c e absent = sym e ∙ absent
any_rest true b c e absent = absurd (false≢true (sym absent ∙ e))

some_of : (a b c : Bool) (P : Type 0) → c ≡ (a || b) → c ≡ true → (a ≡ true → P) → (b ≡ true → P) → P
some_of true b c P e present f g = f refl
some_of false b c P e present f g = g (sym e ∙ present)

both : (ms ns : List TraceItem) (rs ss : List Record) → Alike ms rs → Alike ns ss → Alike (ms ++ ns) (rs ++ ss)
both ms ns rs ss a b =
    let any = list_any-append is_touch rs ss in
    record {
      none = λ absent. Untouched-append ms ns (a.none (any_front _ _ _ any absent)) (b.none (any_rest _ _ _ any absent));
      some = λ present u. some_of _ _ _ ⊥ any present (λ y. a.some y (untouched_front ms ns u)) (λ y. b.some y (untouched_rest ms ns u));
    }

or_false : (t : Bool) → (t || false) ≡ t
or_false true = refl
or_false false = refl

one_is : (s : ℕ) (grants : List Grant) (r : Record) → Alike (record_trace s grants r) (r ∷ [])
one_is s grants r = record {
  none = λ absent. record_is s grants r (sym (or_false (is_touch r)) ∙ absent);
  some = λ present. touch_is s grants r (sym (or_false (is_touch r)) ∙ present);
}

all_are : (s : ℕ) (grants : List Grant) (rs : List Record) → Alike (records_trace s grants rs) rs
all_are s grants [] = nothing
all_are s grants (r ∷ rs) = both (record_trace s grants r) (records_trace s grants rs) (r ∷ []) rs (one_is s grants r) (all_are s grants rs)

event_is : (w : WorldState) (e : Event) → Alike (event_trace w e) (event_records w e)
unfolding event_trace
event_is w e = all_are w.machine.size w.grants (event_records w e)

run_is : (w : WorldState) (es : List Event) → Alike (run_trace w es) (run.records w es)
unfolding run_trace run.records
run_is w [] = nothing
run_is w (e ∷ es) = both (event_trace w e) (run_trace (next w e) es) (event_records w e) (run.records (next w e) es) (event_is w e) (run_is (next w e) es)

-- ---- the count, and the status

none_more : (t a : Bool) (n : ℕ) → (t || a) ≡ false → (a ≡ false → n ≡ 0) → cond t 1 0 + n ≡ 0
none_more true a n absent f = absurd (false≢true (sym absent))
none_more false a n absent f = omega (arith, f absent)

none_counted : (rs : List Record) → list_any is_touch rs ≡ false → count_by is_touch rs ≡ 0
none_counted [] absent = refl
none_counted (r ∷ rs) absent = count-cons is_touch r rs ∙ none_more (is_touch r) (list_any is_touch rs) (count_by is_touch rs) absent (none_counted rs)

some_more : (t a : Bool) (n : ℕ) → (t || a) ≡ true → (a ≡ true → 1 ≤ n) → 1 ≤ cond t 1 0 + n
some_more true a n present f = omega arith
some_more false a n present f = omega (arith, f present)

some_counted : (rs : List Record) → list_any is_touch rs ≡ true → 1 ≤ count_by is_touch rs
some_counted [] present = absurd (false≢true present)
some_counted (r ∷ rs) present = rw (count-cons is_touch r rs) (some_more (is_touch r) (list_any is_touch rs) (count_by is_touch rs) present (some_counted rs))

-- the status of so many touches
abbrev status_of : ℕ → Bool → ℕ
status_of n ended = if nat_lt 0 n then 1 else (if ended then 0 else 7)

no_touch : (n : ℕ) (ended : Bool) → n ≡ 0 → status_of n ended ≢ 1
no_touch zero true e one = absurd (cc)
no_touch zero false e one = absurd (cc)
no_touch (suc n) ended e one = absurd (cc)

a_touch : (n : ℕ) (ended : Bool) → 1 ≤ n → status_of n ended ≡ 1
a_touch n ended le = cond-true (nat_lt 0 n) 1 (if ended then 0 else 7) (lt-ltb 0 n le)

-- by whether a record is a touch
tells_by : (ms : List TraceItem) (rs : List Record) (n : ℕ) (ended t : Bool) → list_any is_touch rs ≡ t → Alike ms rs → n ≡ up_to_end (count_by is_touch rs)
    → ((status_of n ended ≡ 1) ↔ (list_any is_touch rs ≡ true)) × (status_of n ended ≡ 1 → Untouched ms → ⊥) × (status_of n ended ≢ 1 → Untouched ms)
tells_by ms rs n ended true any alike e =
    let one : status_of n ended ≡ 1 = a_touch n ended (omega (arith, e, some_counted rs any)) in
    ((λ p. any, λ p. one), λ p. alike.some any, λ p. absurd (p one))
tells_by ms rs n ended false any alike e =
    let none : status_of n ended ≢ 1 = no_touch n ended (omega (arith, e, none_counted rs any)) in
    ((λ p. absurd (none p), λ p. absurd (false≢true (sym any ∙ p))), λ p. absurd (none p), λ p. alike.none any)

pub status_always : EachStatusTells
unfolding status
status_always sc es =
    let all = tells_by (run_trace (start sc) es) (run.records (start sc) es) (run.after (start sc) es).touches (at_end (run.after (start sc) es)) (list_any is_touch (run.records (start sc) es)) refl (run_is (start sc) es) (counts_always sc es).touches in
    record { line = all.0; touched = all.1; untouched = all.2 }
