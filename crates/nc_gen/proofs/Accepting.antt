-- Each scenario of a number is accepted.
use Rattle.std.proofs.Common.{◌≡◌, ◌<◌, ◌≤◌, ◌+◌, ◌*◌, ◌/◌, ◌%◌, ◌^◌, ℕ, [], ◌∷◌, ◌++◌, map, length, get_or, inl, inr, refl, subst, arith, sym}
use Rattle.std.specs.Prelude.{All}
use Rattle.std.specs.List.{range_with_len}
use Rattle.std.proofs.lemmas.Nat.{mod_below}
use Rattle.std.proofs.lemmas.List.Elements.{All-nil, All-append, All-map, All-from_get_or, All-from_recursion}
use Rattle.std.proofs.lemmas.List.FromFn.{length-range_with_len, get_or-range_with_len, length-map-range_with_len, get_or-map-range_with_len}
use Rattle.nc_ops.specs.Fits.{FitsOp}
use Rattle.nc_scen.specs.declared.scenario.BufferSpec.{BufferSpec}
use Rattle.nc_scen.specs.Accepted.{FitsBuffer, FitsHart, IsAccepted}
use Rattle.nc_scen.specs.Regions.{AreApart, HasBuffersApart, slots_span, pool_span}
use Rattle.nc_gen.specs.Generator.{harts, buffer, buffers, copied, before, round, script, hart, hart_list, scenario}

-- what holds of each number below n holds of all that a list of that range gives
all_of_range : {X : Type 0} (P : X → Type 0) (f : ℕ → X) (n : ℕ) → ((i : ℕ) → i < n → P (f i)) → All P (map f (range_with_len 0 n))
all_of_range P f n h = All-map P f (range_with_len 0 n) (All-from_get_or (λ i. P (f i)) (range_with_len 0 n) 0 (λ i lt.
    let below : i < n = omega (arith, lt, length-range_with_len 0 n) in
    let is : get_or (range_with_len 0 n) i 0 ≡ i = omega (arith, get_or-range_with_len 0 n i 0 below) in
    rw is (h i below)))

-- ---- buffers

buffer_fits : (n m i : ℕ) → m ≤ 4 → i < 4 * m → FitsBuffer 262144 m (buffer n (i / 4) (i % 4))
buffer_fits n m i few lt = record {
  some = omega arith;
  short = omega arith;
  ends = omega (arith, few, lt);
  fill = omega (arith, few, lt);
  step = omega arith;
  owner = omega (arith, lt);
}

apart_at : (n i j : ℕ) → i < j → AreApart (buffer n (i / 4) (i % 4)).span (buffer n (j / 4) (j % 4)).span
apart_at n i j lt x a b = omega (arith, lt, a.from, a.before, b.from, b.before)

-- ---- scripts

copied_fits : (m h src dst : ℕ) → h < 4 → src < 4 * m → dst < 4 * m → FitsOp m (4 * m) (copied h src dst)
copied_fits m h src dst chan from to = (chan, from, omega arith, to, omega arith, omega arith, omega arith, omega arith)

round_fits : (m h r : ℕ) → 0 < m → m ≤ 4 → h < m → All (FitsOp m (4 * m)) (round m h r)
round_fits m h r some few there =
    let P = FitsOp m (4 * m) in
    let held : before m h r < m = mod_below _ m some in
    let comes : before m h (r + 1) < m = mod_below _ m some in
    All-from_recursion P (round m h r) (
      copied_fits m h (4 * h) (4 * h + 1) (omega (arith, few, there)) (omega (arith, there)) (omega (arith, there)),
      (
        copied_fits m h (4 * h + 2) (4 * before m h r + 3) (omega (arith, few, there)) (omega (arith, there)) (omega (arith, held)),
        (
          (omega (arith, there), omega arith, omega arith),
          (
            (omega (arith, held), mod_below (h + 1) m some),
            (omega (arith, comes), tt),
          ),
        ),
      ),
    )

script_fits : (m h : ℕ) → 0 < m → m ≤ 4 → h < m → All (FitsOp m (4 * m)) (script m h)
script_fits m h some few there =
    let P = FitsOp m (4 * m) in
    All-append P (round m h 0) (round m h 1 ++ round m h 2) (round_fits m h 0 some few there)
    (All-append P (round m h 1) (round m h 2) (round_fits m h 1 some few there) (round_fits m h 2 some few there))

hart_fits : (m h : ℕ) → 0 < m → m ≤ 4 → h < m → FitsHart m (4 * m) (hart m h)
hart_fits m h some few there = record {
  menvcfg_fits = omega arith;
  menvcfg_known = λ e. omega (arith, e);
  senvcfg_fits = omega arith;
  senvcfg_known = λ e. omega (arith, e);
  short = omega arith;
  script = script_fits m h some few there;
}

-- ---- the whole

buffers_apart : (n m : ℕ) → HasBuffersApart (buffers n m)
buffers_apart n m i j d e lt in_list =
    let f : ℕ → BufferSpec = λ i. buffer n (i / 4) (i % 4) in
    let count : length (buffers n m) ≡ 4 * m = length-map-range_with_len f 0 (4 * m) in
    rw (
      get_or-map-range_with_len f 0 (4 * m) i i d (omega (arith, lt, in_list, count)) (omega arith),
      get_or-map-range_with_len f 0 (4 * m) j j e (omega (arith, in_list, count)) (omega arith),
    ) (apart_at n i j lt)

module _ (n m : ℕ) (some : 2 ≤ m) (few : m ≤ 4) where
  buffers_fit : All (FitsBuffer 262144 m) (buffers n m)
  buffers_fit = all_of_range (FitsBuffer 262144 m) (λ i. buffer n (i / 4) (i % 4)) (4 * m) (λ i lt. buffer_fits n m i few lt)

  off_slots : All (λ (b : BufferSpec). AreApart b.span (slots_span 131072 2)) (buffers n m)
  off_slots = all_of_range (λ (b : BufferSpec). AreApart b.span (slots_span 131072 2)) (λ i. buffer n (i / 4) (i % 4)) (4 * m)
      (λ i lt x a b. omega (arith, few, lt, a.before, b.from))

  off_pool : All (λ (b : BufferSpec). AreApart b.span (pool_span 196608 2)) (buffers n m)
  off_pool = all_of_range (λ (b : BufferSpec). AreApart b.span (pool_span 196608 2)) (λ i. buffer n (i / 4) (i % 4)) (4 * m)
      (λ i lt x a b. omega (arith, few, lt, a.before, b.from))

  harts_fit : All (FitsHart m (4 * m)) (hart_list m)
  harts_fit = all_of_range (FitsHart m (4 * m)) (hart m) m (λ h lt. hart_fits m h (omega (arith, some)) few lt)

reach_of : (P : ℕ → Type 0) → P 262144 → All P (262144 ∷ 262144 ∷ 262144 ∷ 262144 ∷ [])
reach_of P p = All-from_recursion P (262144 ∷ 262144 ∷ 262144 ∷ 262144 ∷ []) (p, (p, (p, (p, tt))))

pub accepted : (n : ℕ) → n < 2 ^ 64 → IsAccepted (scenario n)
unfolding scenario
accepted n seed =
    let m = harts n in
    let some : 2 ≤ m = omega arith in
    let few : m ≤ 4 = omega arith in
    let count : length (buffers n m) ≡ 4 * m = length-map-range_with_len (λ i. buffer n (i / 4) (i % 4)) 0 (4 * m) in
    let all : length (hart_list m) ≡ m = length-map-range_with_len (hart m) 0 m in
    record {
      version = inl refl;
      old = λ e. record { block = refl; zero = refl; full = refl };
      sized = record { one_of = inr (inl refl) };
      zero_sized = record { one_of = inr (inl refl) };
      zero_wide = omega arith;
      zero_whole = refl;
      ram_whole = refl;
      ram_some = omega arith;
      ram_small = omega arith;
      harts_some = omega (arith, all, some);
      harts_few = omega (arith, all, few);
      harts = subst (λ k. All (FitsHart k (length (buffers n m))) (hart_list m)) (sym all) (subst (λ k. All (FitsHart m k) (hart_list m)) (sym count) (harts_fit n m some few));
      ptes_few = omega arith;
      ptes = All-nil _;
      buffers_few = omega (arith, count, few);
      buffers = subst (λ k. All (FitsBuffer 262144 k) (buffers n m)) (sym all) (buffers_fit n m some few);
      slots_whole = refl;
      slots_few = omega arith;
      slots_end = omega arith;
      pool_whole = refl;
      pages_few = omega arith;
      pool_end = omega arith;
      channels = refl;
      reach = reach_of (λ r. r ≤ 262144) (omega arith);
      reaches_slots = λ h. reach_of (λ r. 131072 + 2048 * 2 ≤ r) (omega arith);
      reaches_pool = λ h. reach_of (λ r. 196608 + 4096 * 2 ≤ r) (omega arith);
      buffers_apart = buffers_apart n m;
      buffers_off_slots = off_slots n m some few;
      buffers_off_pool = off_pool n m some few;
      slots_off_pool = λ x a b. omega (arith, a.before, b.from);
      plan = (seed, omega arith);
      limit = omega arith;
    }

pub count_harts : (n : ℕ) → length (scenario n).harts ≡ harts n
unfolding scenario
count_harts n = length-map-range_with_len (hart (harts n)) 0 (harts n)
