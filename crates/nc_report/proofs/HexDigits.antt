-- The hexadecimal digits of a number, one by one.
use Rattle.std.proofs.Common.{◌≡◌, ℕ, zero, suc, ◌+◌, ◌-◌, ◌/◌, ◌%◌, ◌^◌, ◌<◌, ◌≤◌, Bool, false, List, [], ◌∷◌, ◌++◌, length, drop, inl, inr, refl, sym, ap, ◌∙◌, arith}
use Rattle.std.specs.Prelude.{replicate}
use Rattle.std.proofs.Math.ListN.{set}
use Rattle.std.proofs.Math.Bool.{cond}
use Rattle.std.proofs.lemmas.Bool.{cases_lt, eq-eqb, ne_eqb}
use Rattle.std.proofs.lemmas.List.{drop-set}
use Rattle.std.specs.Fmt.{digit_glyph, digits, digits_onto}
use Rattle.nc_rules.specs.Lines.{hex_digits}

-- the last k digits of n, followed by acc
abbrev pub exactly : ℕ → ℕ → List ℕ → List ℕ
exactly zero n acc = acc
exactly (suc k) n acc = exactly k (n / 16) (digit_glyph false (n % 16) ∷ acc)

-- the cells from k on have the digit at k put before those behind it
pub one_more : (k n g : ℕ) (cells : List ℕ) → k < length cells → g ≡ digit_glyph false (n % 16)
    → exactly k (n / 16) (drop k (set cells k g)) ≡ exactly (suc k) n (drop (suc k) cells)
one_more k n g cells h is =
    let next : k + 1 ≡ suc k = omega arith in
    ap (exactly k (n / 16)) (drop-set cells k g h ∙ ap (λ d. d ∷ drop (k + 1) cells) is ∙ ap (λ m. digit_glyph false (n % 16) ∷ drop m cells) next)

zeros_behind : (k : ℕ) (acc : List ℕ) → replicate k 48 ++ 48 ∷ acc ≡ 48 ∷ replicate k 48 ++ acc
zeros_behind zero acc = refl
zeros_behind (suc k) acc = ap (λ xs. 48 ∷ xs) (zeros_behind k acc)

zeros : (k : ℕ) (acc : List ℕ) → exactly k 0 acc ≡ replicate k 48 ++ acc
zeros zero acc = refl
zeros (suc k) acc = zeros k (48 ∷ acc) ∙ zeros_behind k acc

last_digit : (j n : ℕ) (acc : List ℕ) → n < 16 → digits_onto (suc j) 16 false n acc ≡ digit_glyph false (n % 16) ∷ acc
last_digit j n acc h =
    let g = digit_glyph false (n % 16) in
    ap (λ (t : Bool). cond t (g ∷ acc) (digits_onto j 16 false (n / 16) (g ∷ acc))) (eq-eqb (n / 16) 0 (omega arith))

next_digit : (j n : ℕ) (acc : List ℕ) → 16 ≤ n → digits_onto (suc j) 16 false n acc ≡ digits_onto j 16 false (n / 16) (digit_glyph false (n % 16) ∷ acc)
next_digit j n acc h =
    let g = digit_glyph false (n % 16) in
    ap (λ (t : Bool). cond t (g ∷ acc) (digits_onto j 16 false (n / 16) (g ∷ acc))) (ne_eqb (n / 16) 0 (λ e. omega arith))

unfoldable padded : ℕ → List ℕ → List ℕ
padded k ds = replicate (k - length ds) 48 ++ ds

one_digit : (k j n : ℕ) (acc : List ℕ) → n < 16 → padded (suc k + length acc) (digits_onto (suc j) 16 false n acc) ≡ exactly (suc k) n acc
unfolding padded
one_digit k j n acc h =
    let rest = digit_glyph false (n % 16) ∷ acc in
    let count : suc k + length acc - suc (length acc) ≡ k = omega arith in
    let none : 0 ≡ n / 16 = omega arith in
    ap (padded (suc k + length acc)) (last_digit j n acc h) ∙ ap (λ c. replicate c 48 ++ rest) count ∙ sym (zeros k rest) ∙ ap (λ m. exactly k m rest) none

digits_exactly : (k j n : ℕ) (acc : List ℕ) → n < 16 ^ suc k → k ≤ j → padded (suc k + length acc) (digits_onto (suc j) 16 false n acc) ≡ exactly (suc k) n acc
digits_exactly zero j n acc h le = one_digit zero j n acc (omega arith)
digits_exactly (suc k) zero n acc h le = absurd (omega arith)
digits_exactly (suc k) (suc j) n acc h le = elim (cases_lt n 16) [
  | inl small ↦ one_digit (suc k) (suc j) n acc small
  | inr large ↦
      let rest = digit_glyph false (n % 16) ∷ acc in
      let count : suc (suc k) + length acc ≡ suc k + suc (length acc) = omega arith in
      ap (padded (suc (suc k) + length acc)) (next_digit (suc j) n acc large) ∙ ap (λ c. padded c (digits_onto (suc j) 16 false (n / 16) rest)) count
      ∙ digits_exactly k j (n / 16) rest (omega arith) (omega arith)
]

-- a number below 16 ^ k has k digits
pub digits_are : (k n : ℕ) → 0 < k → k ≤ 16 → n < 16 ^ k → hex_digits k n ≡ exactly k n []
unfolding digits padded
digits_are zero n some few h = absurd (omega arith)
digits_are (suc k) n some few h =
    let count : suc k ≡ suc k + length {A = ℕ} [] = omega arith in
    ap (λ c. padded c (digits 16 false n)) count ∙ digits_exactly k 63 n [] h (omega arith)

-- and no fewer, where it is at least 16 ^ (k - 1)
count_is : (k j n : ℕ) (acc : List ℕ) → 16 ^ k ≤ n → n < 16 ^ suc k → k ≤ j → length (digits_onto (suc j) 16 false n acc) ≡ suc k + length acc
count_is zero j n acc low h le =
    let count : suc (length acc) ≡ 1 + length acc = omega arith in
    ap length (last_digit j n acc (omega arith)) ∙ count
count_is (suc k) zero n acc low h le = absurd (omega arith)
count_is (suc k) (suc j) n acc low h le =
    let rest = digit_glyph false (n % 16) ∷ acc in
    let count : suc k + length rest ≡ suc (suc k) + length acc = omega arith in
    ap length (next_digit (suc j) n acc (omega arith)) ∙ count_is k j (n / 16) rest (omega arith) (omega arith) (omega arith) ∙ count

pub more_digits : (least k n : ℕ) → 16 ^ k ≤ n → n < 16 ^ suc k → k ≤ 15 → least ≤ suc k → hex_digits least n ≡ hex_digits (suc k) n
unfolding digits
more_digits least k n low h few le =
    let ds = digits 16 false n in
    let count : length ds ≡ suc k + 0 = count_is k 63 n [] low h (omega arith) in
    let same : least - length ds ≡ suc k - length ds = omega arith in
    ap (λ c. replicate c 48 ++ ds) same
