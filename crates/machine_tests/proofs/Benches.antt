-- The scenario of the tests is accepted.
use Rattle.std.specs.Prelude.{All, false}
use Rattle.std.proofs.Common.{◌≤◌, ℕ, List, [], ◌∷◌, refl, inl, inr, arith}
use Rattle.std.proofs.lemmas.List.Elements.{All-nil, All-cons}
use Rattle.nc_env.specs.declared.Mode.TheVariants.{S}
use Rattle.nc_scen.specs.declared.scenario.BufferSpec.{BufferSpec}
use Rattle.nc_scen.specs.declared.scenario.HartSpec.{HartSpec}
use Rattle.nc_scen.specs.declared.scenario.Plan.TheVariants as plans
use Rattle.nc_scen.specs.declared.scenario.Scenario.{Scenario}
use Rattle.nc_scen.specs.Accepted.{IsAccepted, FitsHart, FitsBuffer}
use Rattle.nc_ops.specs.Fits.{FitsOp}
use Rattle.nc_scen.specs.Events.{IsThere}
use Rattle.nc_scen.specs.Regions.{AreApart, slots_of, pool_of}

abbrev a_hart : HartSpec
a_hart = record { mode = S; menvcfg = 0; senvcfg = 0; script = [] }

abbrev a_buffer : BufferSpec
a_buffer = record { span = record { at = 128; len = 64 }; fill = 33; step = 1; owner = record { 0 = 0 } }

abbrev reach : List ℕ
reach = 8192 ∷ 8192 ∷ 8192 ∷ 8192 ∷ []

abbrev pub bench : Scenario
bench = record {
  version = 2;
  block_size = 64;
  zero_size = 64;
  light = false;
  ram = 8192;
  harts = a_hart ∷ a_hart ∷ [];
  ptes = [];
  buffers = a_buffer ∷ [];
  slots_at = 0;
  slots = 0;
  pool_at = 4096;
  pages = 1;
  reach = reach;
  plan = plans.List [];
  finish = false;
  limit = 0;
}

hart_fits : FitsHart 2 1 a_hart
hart_fits = record { menvcfg_fits = omega arith; menvcfg_known = λ e. omega arith; senvcfg_fits = omega arith; senvcfg_known = λ e. omega arith; short = omega arith; script = All-nil (FitsOp 2 1) }

buffer_fits : FitsBuffer 8192 2 a_buffer
buffer_fits = record { some = omega arith; short = omega arith; ends = omega arith; fill = omega arith; step = omega arith; owner = omega arith }

all_reach : (P : ℕ → Type 0) → P 8192 → All P reach
all_reach P is = All-cons P 8192 (8192 ∷ 8192 ∷ 8192 ∷ []) is (All-cons P 8192 (8192 ∷ 8192 ∷ []) is (All-cons P 8192 (8192 ∷ []) is (All-cons P 8192 [] is (All-nil P))))

pub bench_accepted : IsAccepted bench
bench_accepted = record {
  version = inr refl;
  old = λ e. absurd (omega arith);
  sized = record { one_of = inr (inl refl) };
  zero_sized = record { one_of = inr (inl refl) };
  zero_wide = omega arith;
  zero_whole = refl;
  ram_whole = refl;
  ram_some = omega arith;
  ram_small = omega arith;
  harts_some = omega arith;
  harts_few = omega arith;
  harts = All-cons (FitsHart 2 1) a_hart (a_hart ∷ []) hart_fits (All-cons (FitsHart 2 1) a_hart [] hart_fits (All-nil (FitsHart 2 1)));
  ptes_few = omega arith;
  ptes = λ k d lt. absurd (omega arith);
  buffers_few = omega arith;
  buffers = All-cons (FitsBuffer 8192 2) a_buffer [] buffer_fits (All-nil (FitsBuffer 8192 2));
  slots_whole = refl;
  slots_few = omega arith;
  slots_end = omega arith;
  pool_whole = refl;
  pages_few = omega arith;
  pool_end = omega arith;
  channels = refl;
  reach = all_reach (λ r. r ≤ 8192) (omega arith);
  reaches_slots = λ some. absurd (omega arith);
  reaches_pool = λ some. all_reach (λ r. 8192 ≤ r) (omega arith);
  buffers_apart = λ i j d e lt few. absurd (omega arith);
  buffers_off_slots = All-cons (λ b. AreApart b.span (slots_of bench)) a_buffer [] (λ x a b. omega (arith, b.from, b.before)) (All-nil (λ b. AreApart b.span (slots_of bench)));
  buffers_off_pool = All-cons (λ b. AreApart b.span (pool_of bench)) a_buffer [] (λ x a b. omega (arith, a.before, b.from)) (All-nil (λ b. AreApart b.span (pool_of bench)));
  slots_off_pool = λ x a b. omega (arith, a.before, a.from);
  plan = (omega arith, All-nil (IsThere 2 64 8192));
  limit = omega arith;
}
