-- What follows from the tests of size, alignment and boundary.
use Rattle.std.proofs.Common.{◌≡◌, ℕ, zero, suc, ◌+◌, ◌-◌, ◌*◌, ◌/◌, ◌%◌, ◌^◌, ◌<◌, ◌≤◌, Bool, true, false, [], ◌∷◌, inl, inr, refl, sym, ap, ◌∙◌, arith}
use Rattle.std.specs.Prelude.{◌⊎◌, ◌&&◌, nat_le, nat_lt}
use Rattle.std.specs.Int.{next_multiple_of}
use Rattle.std.proofs.lemmas.Bool.{cases_lt}
use Rattle.std.proofs.lemmas.Bool.Decides.{nat_tests}
use Rattle.std.proofs.lemmas.Nat.{pow_pos, pow-add, pow_below, div-add-mod', mod_below, div-mul-add, mul-le, le-div}
use Rattle.std.proofs.Math.Nat.{mod-eq_of_lt, mod_self, div-mul-le_self}
use Rattle.nc_plan.specs.Plans.{In}
use Rattle.nc_dmapool.specs.Layouts.{Layout, is_power, IsLayout, Cuts, stride}
use Rattle.nc_dmapool.proofs.Among.{any_in}

-- a power of two up to 4,096, by its exponent
exponent : (x : ℕ) → In x (1 ∷ 2 ∷ 4 ∷ 8 ∷ 16 ∷ 32 ∷ 64 ∷ 128 ∷ 256 ∷ 512 ∷ 1024 ∷ 2048 ∷ 4096 ∷ []) → (k : ℕ) × (k ≤ 12) × (x ≡ 2 ^ k)
exponent x (inl e) = (0, omega arith, sym e)
exponent x (inr (inl e)) = (1, omega arith, sym e)
exponent x (inr (inr (inl e))) = (2, omega arith, sym e)
exponent x (inr (inr (inr (inl e)))) = (3, omega arith, sym e)
exponent x (inr (inr (inr (inr (inl e))))) = (4, omega arith, sym e)
exponent x (inr (inr (inr (inr (inr (inl e)))))) = (5, omega arith, sym e)
exponent x (inr (inr (inr (inr (inr (inr (inl e))))))) = (6, omega arith, sym e)
exponent x (inr (inr (inr (inr (inr (inr (inr (inl e)))))))) = (7, omega arith, sym e)
exponent x (inr (inr (inr (inr (inr (inr (inr (inr (inl e))))))))) = (8, omega arith, sym e)
exponent x (inr (inr (inr (inr (inr (inr (inr (inr (inr (inl e)))))))))) = (9, omega arith, sym e)
exponent x (inr (inr (inr (inr (inr (inr (inr (inr (inr (inr (inl e))))))))))) = (10, omega arith, sym e)
exponent x (inr (inr (inr (inr (inr (inr (inr (inr (inr (inr (inr (inl e)))))))))))) = (11, omega arith, sym e)
exponent x (inr (inr (inr (inr (inr (inr (inr (inr (inr (inr (inr (inr (inl e))))))))))))) = (12, omega arith, sym e)
exponent x (inr (inr (inr (inr (inr (inr (inr (inr (inr (inr (inr (inr (inr k))))))))))))) = elim k [ ]

pub power : (x : ℕ) → is_power x ≡ true → (k : ℕ) × (k ≤ 12) × (x ≡ 2 ^ k)
power x e = exponent x (any_in x (1 ∷ 2 ∷ 4 ∷ 8 ∷ 16 ∷ 32 ∷ 64 ∷ 128 ∷ 256 ∷ 512 ∷ 1024 ∷ 2048 ∷ 4096 ∷ []) e)

-- one power of two that is not above another divides it
divides : (j k : ℕ) → j ≤ k → 2 ^ k ≡ 2 ^ (k - j) * 2 ^ j
divides j k le = ap (λ n. 2 ^ n) (let e : k ≡ (k - j) + j = omega arith in e) ∙ pow-add 2 (k - j) j

not_above : (j k : ℕ) → 2 ^ j ≤ 2 ^ k → j ≤ k
not_above j k le = elim (cases_lt k j) [ inl lt ↦ absurd (omega (arith, pow_below k j lt)) | inr ge ↦ ge ]

pub power_divides : (x y : ℕ) → is_power x ≡ true → is_power y ≡ true → x ≤ y → (q : ℕ) × (y ≡ q * x)
power_divides x y px py le =
    let a = power x px in
    let b = power y py in
    let under : a.0 ≤ b.0 = not_above a.0 b.0 (omega (arith, a.2, b.2)) in
    (2 ^ (b.0 - a.0), b.2 ∙ divides a.0 b.0 under ∙ ap (λ n. 2 ^ (b.0 - a.0) * n) (sym a.2))

power_page : (k x : ℕ) → k ≤ 12 → x ≡ 2 ^ k → x ≤ 4096
power_page k x le e =
    let parts : 2 ^ 12 ≡ 2 ^ (12 - k) * 2 ^ k = divides k 12 le in
    let fits : 1 * 2 ^ k ≤ 2 ^ (12 - k) * 2 ^ k = mul-le 1 (2 ^ k) (2 ^ (12 - k)) (2 ^ k) (pow_pos (12 - k)) (omega arith) in
    omega (arith, parts, fits, e)

pub power_pos : (x : ℕ) → is_power x ≡ true → (0 < x) × (x ≤ 4096)
power_pos x px =
    let a = power x px in
    (omega (arith, pow_pos a.0, a.2), power_page a.0 x a.1 a.2)

multiple_by : (x y : ℕ) → 0 < y → (0 < x % y) ⊎ (x % y ≤ 0) → (q : ℕ) × (next_multiple_of x y ≡ q * y)
multiple_by x y some (inl rest) =
    let parts : x / y * y + x % y ≡ x = div-add-mod' x y in
    let below : x % y < y = mod_below x y some in
    let pad : (y - x % y) % y ≡ y - x % y = mod-eq_of_lt (omega arith) in
    (x / y + 1, ap (λ p. x + p) pad ∙ omega arith)
multiple_by x y some (inr whole) =
    let parts : x / y * y + x % y ≡ x = div-add-mod' x y in
    let none : x % y ≡ 0 = omega arith in
    let rest : y - x % y ≡ y = omega arith in
    let pad : (y - x % y) % y ≡ 0 = ap (λ r. r % y) rest ∙ mod_self y in
    (x / y, ap (λ p. x + p) pad ∙ omega arith)

-- the stride is a multiple of the alignment, and at least the size
pub next_multiple : (x y : ℕ) → 0 < y → (q : ℕ) × (next_multiple_of x y ≡ q * y)
next_multiple x y some = multiple_by x y some (cases_lt 0 (x % y))

pub next_bounds : (x y : ℕ) → x ≤ next_multiple_of x y
next_bounds x y = omega arith

both_left : (a b : Bool) → (a && b) ≡ true → a ≡ true
both_left true b e = refl
both_left false b e = absurd cc

both_right : (a b : Bool) → (a && b) ≡ true → b ≡ true
both_right true b e = e
both_right false b e = absurd cc

le_of : (a b : ℕ) → nat_le a b ≡ true → a ≤ b
le_of a b e = grind (arith, nat_tests)

lt_of : (a b : ℕ) → nat_lt a b ≡ true → a < b
lt_of a b e = grind (arith, nat_tests)

whole_page : (g q : ℕ) → 0 < g → 4096 ≡ q * g → 4096 / g * g ≡ 4096
whole_page g q some e =
    let back : q * g / g ≡ q = ap (λ k. k / g) (let z : q * g ≡ q * g + 0 = omega arith in z) ∙ div-mul-add q g 0 some in
    ap (λ k. k / g * g) e ∙ ap (λ k. k * g) back ∙ sym e

-- a multiple that is not 0 is not below
align_below : (m a q g : ℕ) → 0 < m → m ≡ q * a → m ≤ g → a ≤ g
align_below m a zero g some e le = absurd (omega (arith, e))
align_below m a (suc q) g some e le = let more : suc q * a ≡ q * a + a = omega arith in omega (arith, e, more)

pub cuts : (l : Layout) → IsLayout l → Cuts l
cuts l is =
    let some : 0 < l.size = lt_of 0 l.size (both_left _ _ is.size) in
    let power_align : is_power l.align ≡ true = both_right (nat_le 4 l.align) (is_power l.align) is.align in
    let power_range : is_power l.range ≡ true = both_left (is_power l.range) (nat_le (stride l) l.range) is.range in
    let within : stride l ≤ l.range = le_of (stride l) l.range (both_right (is_power l.range) (nat_le (stride l) l.range) is.range) in
    let align : 0 < l.align = (power_pos l.align power_align).0 in
    let range : 0 < l.range = (power_pos l.range power_range).0 in
    let size : l.size ≤ stride l = next_bounds l.size l.align in
    let multiple = next_multiple l.size l.align align in
    let step : 0 < stride l = omega arith in
    record {
      some = some;
      size = size;
      step = step;
      count = le-div 1 l.range (stride l) step (omega arith);
      fits = div-mul-le_self l.range (stride l);
      within = within;
      range = range;
      page = (power_pos l.range power_range).1;
      ranges = (let q = power_divides l.range 4096 power_range refl (power_pos l.range power_range).1 in whole_page l.range q.0 range q.1);
      align = align;
      range_aligned = power_divides l.align l.range power_align power_range (align_below (stride l) l.align multiple.0 l.range step multiple.1 within);
      step_aligned = multiple;
    }
