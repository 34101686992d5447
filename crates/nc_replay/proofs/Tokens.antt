-- A token that was written can be read.
use Rattle.std.proofs.Common.{◌≡◌, inl, inr, ℕ, zero, suc, ◌+◌, ◌-◌, ◌*◌, ◌/◌, ◌%◌, ◌^◌, ◌<◌, ◌≤◌, Bool, true, false, List, [], ◌∷◌, ◌++◌, length, get_or, Some, None, refl, ap, ◌∙◌, arith}
use Rattle.std.specs.Prelude.{◌&&◌, decimal, nat_lt, option_and_then, option_map, if◌then◌else◌}
use Rattle.std.proofs.lemmas.Bool.{ne_eqb, lt-ltb, le-leb}
use Rattle.std.proofs.lemmas.Fmt.{decimal_digit, decimal_by_steps, first_decimal}
use Rattle.nc_num.specs.Sizes.{IsBlockSize}
use Rattle.nc_values.specs.Numbers.{is_digit, number_from, number_in, kept_below, number_below, digit_below}
use Rattle.nc_scen.specs.Accepted.{IsAccepted}
use Rattle.nc_scen.specs.Events.{IsThere}
use Rattle.nc_scen.specs.Tokens.{short_token, long_token, token_in}
use Rattle.nc_scen.specs.declared.events.Event.{Event}
use Rattle.nc_scen.specs.declared.events.Event.TheVariants.{Issue, Try, Told, Drain, Fill, Evict, ChanRead, ChanWrite}
use Rattle.nc_scen.specs.declared.scenario.Scenario.{Scenario}
use Rattle.nc_rules.specs.Lines.{token}

-- ---- a number

digit_is : (m d : ℕ) → d < 10 → 10 * m + d < 2 ^ 64 → number_from m ((48 + d) ∷ []) ≡ Some (10 * m + d)
digit_is m d less fits =
    let same : 48 + d - 48 ≡ d = omega arith in
    rw (le-leb 48 (48 + d) (omega arith), le-leb (48 + d) 57 (omega (arith, less)), same, lt-ltb (10 * m + d) (2 ^ 64) fits) refl

from_if : (t : Bool) (n : ℕ) (xs ys : List ℕ) → ((k : ℕ) → number_from k (xs ++ ys) ≡ option_and_then (λ k. number_from k ys) (number_from k xs))
    → (if t then number_from n (xs ++ ys) else None) ≡ option_and_then (λ k. number_from k ys) (if t then number_from n xs else None)
from_if true n xs ys more = more n
from_if false n xs ys more = refl

-- the digits of a text and those behind it
from_append : (n : ℕ) (xs ys : List ℕ) → number_from n (xs ++ ys) ≡ option_and_then (λ k. number_from k ys) (number_from n xs)
from_append n [] ys = refl
from_append n (x ∷ xs) ys = from_if (is_digit x && nat_lt (10 * n + (x - 48)) (2 ^ 64)) (10 * n + (x - 48)) xs ys (λ k. from_append k xs ys)

Reads : ℕ → List ℕ → Type 0
Reads n ds = n < 2 ^ 64 → number_from 0 ds ≡ Some n

reads_digit : (n : ℕ) → n < 10 → Reads n ((48 + n) ∷ [])
unfolding Reads
reads_digit n less fits = let same : 10 * 0 + n ≡ n = omega arith in digit_is 0 n less (omega (arith, fits)) ∙ ap Some same

reads_more : (n : ℕ) (ds : List ℕ) → 10 ≤ n → Reads (n / 10) ds → Reads n (ds ++ (48 + n % 10) ∷ [])
unfolding Reads
reads_more n ds le reads fits =
    let last : number_from (n / 10) ((48 + n % 10) ∷ []) ≡ Some (10 * (n / 10) + n % 10) = digit_is (n / 10) (n % 10) (omega arith) (omega (arith, fits)) in
    let same : 10 * (n / 10) + n % 10 ≡ n = omega arith in
    from_append 0 ds ((48 + n % 10) ∷ []) ∙ ap (option_and_then (λ k. number_from k ((48 + n % 10) ∷ []))) (reads (omega (arith, fits))) ∙ last ∙ ap Some same

digits_read : (n : ℕ) → n < 2 ^ 64 → number_from 0 (decimal n) ≡ Some n
unfolding Reads
digits_read n fits = decimal_by_steps Reads reads_digit reads_more n fits fits

-- no zero leads
lead : (ds : List ℕ) → 48 < get_or ds 0 0 → number_in ds ≡ number_from 0 ds
lead [] first = absurd (omega (arith, first))
lead (c ∷ []) first = refl
lead (c ∷ d ∷ ds) first = rw (ne_eqb c 48 (λ e. omega (arith, e, first))) refl

pub number_reads : (n : ℕ) → n < 2 ^ 64 → number_in (decimal n) ≡ Some n
number_reads zero fits = ap number_in (decimal_digit 0 (omega arith))
number_reads (suc n) fits = lead (decimal (suc n)) (first_decimal (suc n) (omega arith) fits) ∙ digits_read (suc n) fits

pub below_reads : (bound n : ℕ) → n < bound → n < 2 ^ 64 → number_below bound (decimal n) ≡ Some n
below_reads bound n less fits = ap (option_and_then (kept_below bound)) (number_reads n fits) ∙ rw (lt-ltb n bound less) refl

digit_reads : (bound d : ℕ) → d < bound → digit_below bound (48 + d) ≡ Some d
digit_reads bound d less =
    let same : 48 + d - 48 ≡ d = omega arith in
    rw (le-leb 48 (48 + d) (omega arith), lt-ltb (48 + d) (48 + bound) (omega (arith, less)), same) refl

-- ---- a token

short_is : (harts blocks c n bound : ℕ) (f : ℕ → Event) → n < bound → bound ≤ 4 → short_token harts c (48 + n) ≡ option_map f (digit_below bound (48 + n))
    → token_in harts blocks (c ∷ decimal n) ≡ Some (f n)
short_is harts blocks c n bound f less few is =
    ap (λ (ds : List ℕ). token_in harts blocks (c ∷ ds)) (decimal_digit n (omega (arith, less, few))) ∙ is ∙ ap (option_map f) (digit_reads bound n less)

long_is : (harts blocks c n k bound : ℕ) (f : ℕ → ℕ → Event) → n < harts → harts ≤ 4 → k < bound → k < 2 ^ 64
    → long_token harts blocks c (48 + n) (decimal k) ≡ option_and_then (λ h. option_map (f h) (number_below bound (decimal k))) (digit_below harts (48 + n))
    → token_in harts blocks (c ∷ decimal n ++ 46 ∷ decimal k) ≡ Some (f n k)
long_is harts blocks c n k bound f less few under fits is =
    ap (λ (ds : List ℕ). token_in harts blocks (c ∷ ds ++ 46 ∷ decimal k)) (decimal_digit n (omega (arith, less, few)))
    ∙ is ∙ ap (option_and_then (λ h. option_map (f h) (number_below bound (decimal k)))) (digit_reads harts n less) ∙ ap (option_map (f n)) (below_reads bound k under fits)

-- a block in RAM has a number below the number of blocks
pub block_below : (size ram b : ℕ) → IsBlockSize size → size * b + size ≤ ram → b < ram / size
block_below size ram b sized le = elim sized.one_of as (λ _. b < ram / size) [
  | inl e ↦ rw e (omega (arith, rw e at le))
  | inr (inl e) ↦ rw e (omega (arith, rw e at le))
  | inr (inr e) ↦ rw e (omega (arith, rw e at le))
]

small_block : (size ram b : ℕ) → IsBlockSize size → ram ≤ 1048576 → size * b + size ≤ ram → b < 2 ^ 64
small_block size ram b sized small le = elim sized.one_of as (λ _. b < 2 ^ 64) [
  | inl e ↦ omega (arith, rw e at le, small)
  | inr (inl e) ↦ omega (arith, rw e at le, small)
  | inr (inr e) ↦ omega (arith, rw e at le, small)
]

-- a token names an entry of a queue by a number below 8; whether an entry has such a number the event does not say
abbrev pub HasEntry : Event → Type 0
HasEntry (Drain h i) = i < 8
HasEntry _ = Unit {0}

pub token_reads : (sc : Scenario) (e : Event) → IsAccepted sc → IsThere (length sc.harts) sc.block_size sc.ram e → HasEntry e → token_in (length sc.harts) (sc.ram / sc.block_size) (token e) ≡ Some e
token_reads sc (Issue h) a there has = short_is (length sc.harts) (sc.ram / sc.block_size) 105 h.0 (length sc.harts) (λ n. Issue (record { 0 = n })) there a.harts_few refl
token_reads sc (Try h) a there has = short_is (length sc.harts) (sc.ram / sc.block_size) 116 h.0 (length sc.harts) (λ n. Try (record { 0 = n })) there a.harts_few refl
token_reads sc (Told h true) a there has = short_is (length sc.harts) (sc.ram / sc.block_size) 103 h.0 (length sc.harts) (λ n. Told (record { 0 = n }) true) there a.harts_few refl
token_reads sc (Told h false) a there has = short_is (length sc.harts) (sc.ram / sc.block_size) 110 h.0 (length sc.harts) (λ n. Told (record { 0 = n }) false) there a.harts_few refl
token_reads sc (Drain h i) a there has = long_is (length sc.harts) (sc.ram / sc.block_size) 100 h.0 i 8 (λ n k. Drain (record { 0 = n }) k) there a.harts_few has (omega (arith, has)) refl
token_reads sc (Fill h b) a there has =
    long_is (length sc.harts) (sc.ram / sc.block_size) 102 h.0 b.0 (sc.ram / sc.block_size) (λ n k. Fill (record { 0 = n }) (record { 0 = k })) there.0 a.harts_few
    (block_below sc.block_size sc.ram b.0 a.sized there.1) (small_block sc.block_size sc.ram b.0 a.sized a.ram_small there.1) refl
token_reads sc (Evict h b) a there has =
    long_is (length sc.harts) (sc.ram / sc.block_size) 101 h.0 b.0 (sc.ram / sc.block_size) (λ n k. Evict (record { 0 = n }) (record { 0 = k })) there.0 a.harts_few
    (block_below sc.block_size sc.ram b.0 a.sized there.1) (small_block sc.block_size sc.ram b.0 a.sized a.ram_small there.1) refl
token_reads sc (ChanRead c) a there has = short_is (length sc.harts) (sc.ram / sc.block_size) 114 c.0 4 (λ n. ChanRead (record { 0 = n })) there (omega arith) refl
token_reads sc (ChanWrite c) a there has = short_is (length sc.harts) (sc.ram / sc.block_size) 119 c.0 4 (λ n. ChanWrite (record { 0 = n })) there (omega arith) refl
