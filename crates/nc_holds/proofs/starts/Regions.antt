-- The regions of an accepted scenario share no byte, as each driver knows them.
use Rattle.std.proofs.Common.{◌≡◌, ℕ, ◌<◌, true, length, map, subst, arith, inl, inr}
use Rattle.std.specs.Prelude.{All, ◌≢◌, slice_index_or}
use Rattle.std.proofs.lemmas.Bool.{cases_lt}
use Rattle.std.proofs.lemmas.Bool.Decides.{nat_tests}
use Rattle.std.proofs.lemmas.List.{get_or_past}
use Rattle.std.proofs.Math.ListN.{get_or-map}
use Rattle.nc_num.specs.Places.{covers}
use Rattle.nc_num.specs.declared.names.HartNo.{HartNo}
use Rattle.nc_num.specs.declared.places.Span.{Span}
use Rattle.nc_scen.specs.Accepted.{IsAccepted}
use Rattle.nc_scen.specs.Regions.{IsIn, AreApart, slots_of, pool_of}
use Rattle.nc_scen.specs.declared.scenario.BufferSpec.{BufferSpec}
use Rattle.nc_scen.specs.declared.scenario.Scenario.{Scenario}
use Rattle.nc_rules.specs.Start.{first_driver}
use Rattle.nc_holds.specs.Held.{AreRegions, SharesNone}

is_in : (s : Span) (x : ℕ) → covers s x ≡ true → IsIn s x
is_in s x e = record { from = grind (arith, nat_tests); before = grind (arith, nat_tests) }

apart_none : (a b : Span) → AreApart a b → SharesNone a b
apart_none a b h x in_a in_b = h x (is_in a x in_a) (is_in b x in_b)

abbrev no_buffer : BufferSpec
no_buffer = record { span = record { at = 0; len = 0 }; fill = 0; step = 0; owner = record { 0 = 0 } }

abbrev nth : Scenario → ℕ → BufferSpec
nth sc b = slice_index_or sc.buffers b no_buffer

-- a buffer as a driver knows it
buffer_is : (sc : Scenario) (b : ℕ) → slice_index_or (map (λ (b : BufferSpec). b.span) sc.buffers) b (record { at = 0; len = 0 }) ≡ (nth sc b).span
buffer_is sc b = get_or-map (λ (b : BufferSpec). b.span) sc.buffers b no_buffer

no_byte : (x : ℕ) → covers (record { at = 0; len = 0 }) x ≡ true → ⊥
no_byte x e = absurd (omega (arith, (is_in (record { at = 0; len = 0 }) x e).before))

-- a buffer that has a byte is one of the scenario's
there : (sc : Scenario) (b x : ℕ) → covers (nth sc b).span x ≡ true → b < length sc.buffers
there sc b x e = elim (cases_lt b (length sc.buffers)) [
  | inl lt ↦ lt
  | inr past ↦ absurd (no_byte x (subst (λ (s : BufferSpec). covers s.span x ≡ true) (get_or_past sc.buffers b no_buffer past) e))
]

two_apart : (sc : Scenario) (b c : ℕ) → IsAccepted sc → b ≢ c → SharesNone (nth sc b).span (nth sc c).span
two_apart sc b c a ne x in_b in_c = elim (cases_lt b c) [
  | inl lt ↦ a.buffers_apart b c no_buffer no_buffer lt (there sc c x in_c) x (is_in (nth sc b).span x in_b) (is_in (nth sc c).span x in_c)
  | inr le ↦ a.buffers_apart c b no_buffer no_buffer (omega (arith, le, ne)) (there sc b x in_b) x (is_in (nth sc c).span x in_c) (is_in (nth sc b).span x in_b)
]

off_by : (sc : Scenario) (r : Span) (b : ℕ) → All (λ (b : BufferSpec). AreApart b.span r) sc.buffers → SharesNone (nth sc b).span r
off_by sc r b all x in_b in_r = all b no_buffer (there sc b x in_b) x (is_in (nth sc b).span x in_b) (is_in r x in_r)

pub regions_of_scenario : (sc : Scenario) (me : HartNo) → IsAccepted sc → AreRegions (first_driver sc me).fixed
unfolding first_driver
regions_of_scenario sc me a = record {
  buffers = λ b c ne. rw (buffer_is sc b, buffer_is sc c) (two_apart sc b c a ne);
  buffers_off_slots = λ b. rw (buffer_is sc b) (off_by sc (slots_of sc) b a.buffers_off_slots);
  buffers_off_pool = λ b. rw (buffer_is sc b) (off_by sc (pool_of sc) b a.buffers_off_pool);
  slots_off_pool = apart_none (slots_of sc) (pool_of sc) a.slots_off_pool;
}
