-- The regions of a scenario, and owners after a transfer.
use Rattle.std.specs.Prelude.{true, false}
use Rattle.std.proofs.Common.{◌≡◌, ℕ, ◌<◌, List, length, ◌∙◌, inl, inr}
use Rattle.std.proofs.lemmas.Bool.{cases_Bool, cond-true, cond-false}
use Rattle.std.specs.Prelude.{slice_index_or}
use Rattle.nc_num.specs.Places.{covers}
use Rattle.nc_num.specs.declared.places.Span.{Span}
use Rattle.nc_model.proofs.Faults.{covers-low, covers-high}
use Rattle.nc_model.specs.declared.owners.Owner.{Owner}
use Rattle.nc_own.specs.Books.{owner_in, transferred}
use Rattle.nc_own.proofs.Follows.{owner_in-transferred}
use Rattle.nc_scen.specs.Accepted.{IsAccepted}
use Rattle.nc_scen.specs.Regions.{IsIn, slots_of, pool_of}
use Rattle.nc_scen.specs.declared.scenario.BufferSpec.{BufferSpec}
use Rattle.nc_scen.specs.declared.scenario.Scenario.{Scenario}

abbrev pub no_buffer : BufferSpec
no_buffer = record { span = record { at = 0; len = 0 }; fill = 0; step = 0; owner = record { 0 = 0 } }

-- the bytes of buffer b
abbrev pub buffer_at : Scenario → ℕ → Span
buffer_at sc b = (slice_index_or sc.buffers b no_buffer).span

pub covers_in : (span : Span) (x : ℕ) → covers span x ≡ true → IsIn span x
covers_in span x over = record { from = covers-low span x over; before = covers-high span x over }

off_by : (a b : Span) (x : ℕ) → (IsIn a x → IsIn b x → ⊥) → IsIn b x → covers a x ≡ false
off_by a b x apart here = elim (cases_Bool (covers a x)) [ inl over ↦ absurd (apart (covers_in a x over) here) | inr off ↦ off ]

pub pool_off : (sc : Scenario) (b x : ℕ) → IsAccepted sc → b < length sc.buffers → covers (pool_of sc) x ≡ true → covers (buffer_at sc b) x ≡ false
pool_off sc b x a lt over = off_by (buffer_at sc b) (pool_of sc) x (a.buffers_off_pool b no_buffer lt x) (covers_in (pool_of sc) x over)

pub slots_off : (sc : Scenario) (b x : ℕ) → IsAccepted sc → b < length sc.buffers → covers (slots_of sc) x ≡ true → covers (buffer_at sc b) x ≡ false
slots_off sc b x a lt over = off_by (buffer_at sc b) (slots_of sc) x (a.buffers_off_slots b no_buffer lt x) (covers_in (slots_of sc) x over)

-- ---- owners after a transfer

pub moved_in : (os : List Owner) (span : Span) (o : Owner) (x : ℕ) → x < length os → covers span x ≡ true → owner_in (transferred os span o) x ≡ o
moved_in os span o x lt over = owner_in-transferred os span o x lt ∙ cond-true (covers span x) o (owner_in os x) over

pub moved_out : (os : List Owner) (span : Span) (o : Owner) (x : ℕ) → x < length os → covers span x ≡ false → owner_in (transferred os span o) x ≡ owner_in os x
moved_out os span o x lt off = owner_in-transferred os span o x lt ∙ cond-false (covers span x) o (owner_in os x) off
