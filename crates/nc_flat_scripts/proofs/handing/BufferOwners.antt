-- A buffer changes its owner: what its places were, and what they are.
use Rattle.std.specs.Prelude.{Option, Some, None, Ok, true, false, slice_index_or}
use Rattle.std.specs.List.{list_any}
use Rattle.std.proofs.Common.{◌≡◌, ◌≢◌, ℕ, ◌<◌, ◌≤◌, List, length, refl, sym, ap, ◌∙◌, inl, inr, subst, arith}
use Rattle.std.proofs.lemmas.Bool.{cases_lt, cases_Bool, cond-true, cond-false, eqb-true}
use Rattle.std.proofs.lemmas.List.{get_or_past}
use Rattle.nc_num.specs.Places.{covers}
use Rattle.nc_num.specs.declared.names.HartNo.{HartNo}
use Rattle.nc_num.specs.declared.places.Span.{Span}
use Rattle.nc_model.proofs.Faults.{passes}
use Rattle.nc_model.specs.Rights.{is_thread}
use Rattle.nc_model.specs.Touches.{first_fault}
use Rattle.nc_model.specs.declared.owners.Owner.{Owner}
use Rattle.nc_model.specs.declared.owners.Owner.TheVariants.{Thread, Passing, Lending, Device, Returning, Synced, Pool}
use Rattle.nc_own.specs.Books.{owner_in, transferred}
use Rattle.nc_own.proofs.Follows.{length-transferred, owner_in-transferred}
use Rattle.nc_scen.specs.Regions.{pool_of, slots_of}
use Rattle.nc_scen.specs.declared.scenario.Scenario.{Scenario}
use Rattle.nc_rules.specs.Machine.{queue_of}
use Rattle.nc_rules.specs.Refusals.{buffer_of, owned, owned_but}
use Rattle.nc_rules.specs.EventTouches.{owner_of}
use Rattle.nc_rules.specs.World.{WorldState, driver_of}
use Rattle.nc_scripts.specs.Scripts.{IsRangeIn}
use Rattle.nc_holds.specs.Messages.{Status, Still, Passed}
use Rattle.nc_rows.specs.Ahead.{is_mail}
use Rattle.nc_flatness.specs.Books.{book_of}
use Rattle.nc_flatness.specs.Flatness.{Flatness}
use Rattle.nc_flatness.proofs.books.BookReads.{number_of}
use Rattle.nc_flat_scripts.proofs.handing.MailFacts.{none_queued, number_covers}

-- ---- owners after a transfer

past_is : (os : List Owner) (x : ℕ) → length os ≤ x → owner_in os x ≡ Pool
unfolding owner_in
past_is os x past = get_or_past os x Pool past

pub moved_in : (os : List Owner) (span : Span) (o : Owner) (x : ℕ) → x < length os → covers span x ≡ true → owner_in (transferred os span o) x ≡ o
moved_in os span o x lt over = owner_in-transferred os span o x lt ∙ cond-true (covers span x) o (owner_in os x) over

pub moved_out : (os : List Owner) (span : Span) (o : Owner) (x : ℕ) → covers span x ≡ false → owner_in (transferred os span o) x ≡ owner_in os x
moved_out os span o x off = elim (cases_lt x (length os)) [
  | inl lt ↦ owner_in-transferred os span o x lt ∙ cond-false (covers span x) o (owner_in os x) off
  | inr past ↦ past_is (transferred os span o) x (omega (arith, length-transferred os span o, past)) ∙ sym (past_is os x past)
]

-- ---- the test before a hand

thread_is : (me : HartNo) (o : Owner) → is_thread me o ≡ true → o ≡ Thread me
thread_is me (Thread g) e = ap (λ n. Thread (record { 0 = n })) (eqb-true g.0 me.0 e)
thread_is me (Passing g k) e = absurd cc
thread_is me (Lending n) e = absurd cc
thread_is me (Device n) e = absurd cc
thread_is me (Returning n) e = absurd cc
thread_is me (Synced n) e = absurd cc
thread_is me Pool e = absurd cc

but_none : (os : List Owner) (o : Option ℕ) (u : Unit {0}) → owned_but os o ≡ Ok u → o ≡ None
but_none os None u e = refl
but_none os (Some x) u e = absurd cc

pub owned_is : (me : HartNo) (os : List Owner) (span : Span) (x : ℕ) → owned me os span ≡ Ok tt → covers span x ≡ true → owner_in os x ≡ Thread me
owned_is me os span x ok over =
    thread_is me (owner_in os x) (passes (λ y. is_thread me (owner_in os y)) span x (but_none os (first_fault (λ y. is_thread me (owner_in os y)) span) tt ok) over)

-- ---- the buffers of the world

abbrev pub range_of : WorldState → ℕ → ℕ → Span
range_of w h b = buffer_of (driver_of w h).fixed b

pub ranges_alike : (sc : Scenario) (f : List ℕ) (w : WorldState) (h b : ℕ) → Flatness sc f w → h < length w.machine.harts → range_of w 0 b ≡ range_of w h b
ranges_alike sc f w h b flat lt = ap (λ (bs : List Span). slice_index_or bs b (record { at = 0; len = 0 })) (flat.world.holds.alike 0 h (omega (arith, lt)) lt).buffers

-- buffer b has this number, and no other place has it
pub number_here : (sc : Scenario) (f : List ℕ) (w : WorldState) (h b x : ℕ) → Flatness sc f w → h < length w.machine.harts → b < length (driver_of w h).fixed.buffers → covers (range_of w h b) x ≡ true → (book_of w).buffer x ≡ b
number_here sc f w h b x flat lt few over =
    let first : 0 < length w.machine.harts = omega (arith, lt) in
    let holds = flat.world.holds.each 0 first in
    number_of (driver_of w 0).fixed b x holds.regions (subst (λ (bs : List Span). b < length bs) (sym (flat.world.holds.alike 0 h first lt).buffers) few)
    (subst (λ (s : Span). covers s x ≡ true) (sym (ranges_alike sc f w h b flat lt)) over)

pub number_away : (sc : Scenario) (f : List ℕ) (w : WorldState) (h b x : ℕ) → Flatness sc f w → h < length w.machine.harts → b < length (driver_of w h).fixed.buffers → covers (range_of w h b) x ≡ false → (book_of w).buffer x ≢ b
number_away sc f w h b x flat lt few off is =
    let first : 0 < length w.machine.harts = omega (arith, lt) in
    let over = number_covers (driver_of w 0).fixed.buffers x b is (subst (λ (bs : List Span). b < length bs) (sym (flat.world.holds.alike 0 h first lt).buffers) few) in
    let no : true ≡ false = sym (subst (λ (s : Span). covers s x ≡ true) (ranges_alike sc f w h b flat lt) over) ∙ off in
    absurd cc

pub range_in : (sc : Scenario) (f : List ℕ) (w : WorldState) (h b : ℕ) → Flatness sc f w → h < length w.machine.harts → b < length (driver_of w h).fixed.buffers → IsRangeIn (length w.machine.cache.ram) (range_of w h b)
range_in sc f w h b flat lt few = (flat.world.holds.each h lt).driver.fixed.buffers b (record { at = 0; len = 0 }) few

-- a buffer lies beside the coherent pool
pub off_pool : (sc : Scenario) (f : List ℕ) (w : WorldState) (h b x : ℕ) → Flatness sc f w → h < length w.machine.harts → covers (range_of w h b) x ≡ true → covers (pool_of sc) x ≡ false
off_pool sc f w h b x flat lt over =
    let holds = flat.world.holds.each h lt in
    elim (cases_Bool (covers (pool_of sc) x)) [
      | inl on ↦ absurd (holds.regions.buffers_off_pool b x over (subst (λ (s : Span). covers s x ≡ true) (sym flat.world.of_scenario.pool ∙ holds.setting.pool) on))
      | inr off ↦ off
    ]

-- a place that is somebody's is of no slot
pub off_slots : (sc : Scenario) (f : List ℕ) (w : WorldState) (x : ℕ) → Flatness sc f w → (owner_of w x ≡ Pool → ⊥) → covers (slots_of sc) x ≡ false
off_slots sc f w x flat some = elim (cases_Bool (covers (slots_of sc) x)) [
  | inl on ↦ absurd (some (flat.bytes.slotted x on))
  | inr off ↦ off
]

-- ---- its messages

-- a buffer that is a hart's own has none
pub unsent : (w : WorldState) (b g x : ℕ) (me : HartNo) → Status w b → covers (range_of w 0 b) x ≡ true → owner_of w x ≡ Thread me → list_any (is_mail b) (queue_of w.machine g) ≡ false
unsent w b g x me (Still none) over own = none_queued b (queue_of w.machine g) (none.quiet g).queue
unsent w b g x me (Passed h to passed) over own = let no : Thread me ≡ Passing h to = sym own ∙ passed.owners x over in absurd cc
