-- What memory has at a place after a write, and what a span of it is.
use Rattle.std.proofs.Common.{◌≡◌, ℕ, ◌+◌, ◌-◌, ◌<◌, ◌≤◌, List, length, refl, sym, ◌∙◌, arith, map}
use Rattle.std.proofs.lemmas.List.{places}
use Rattle.std.proofs.lemmas.Grind.{common_steps}
use Rattle.std.proofs.lemmas.List.{ext_get_or}
use Rattle.std.proofs.lemmas.List.FromFn.{get_or-map-range_with_len, length-map-range_with_len}
use Rattle.std.specs.List.{range_with_len}
use Rattle.nc_num.specs.Memory.{byte, splice, span}

pub length-splice : (m : List ℕ) (at : ℕ) (bs : List ℕ) → at + length bs ≤ length m → length (splice m at bs) ≡ length m
unfolding splice
length-splice m at bs fits = grind (arith, common_steps)

pub byte-splice_below : (m : List ℕ) (at : ℕ) (bs : List ℕ) (x : ℕ) → at + length bs ≤ length m → x < at → byte (splice m at bs) x ≡ byte m x
unfolding splice
byte-splice_below m at bs x fits lt = grind (arith, common_steps, places)

pub byte-splice_in : (m : List ℕ) (at : ℕ) (bs : List ℕ) (x : ℕ) → at + length bs ≤ length m → at ≤ x → x < at + length bs → byte (splice m at bs) x ≡ byte bs (x - at)
unfolding splice
byte-splice_in m at bs x fits le lt = grind (arith, common_steps, places)

pub byte-splice_above : (m : List ℕ) (at : ℕ) (bs : List ℕ) (x : ℕ) → at + length bs ≤ length m → at + length bs ≤ x → byte (splice m at bs) x ≡ byte m x
unfolding splice
byte-splice_above m at bs x fits le = grind (arith, common_steps, places)

pub byte-span : (m : List ℕ) (at n k : ℕ) → k < n → byte (span m at n) k ≡ byte m (at + k)
unfolding span
byte-span m at n k lt = grind (arith, common_steps, places)

pub length-span : (m : List ℕ) (at n : ℕ) → at + n ≤ length m → length (span m at n) ≡ n
unfolding span
length-span m at n fits = grind (arith, common_steps)

-- a list of bytes is the span of its bytes, place by place
pub same_bytes : (a b : List ℕ) → length a ≡ length b → ((x : ℕ) → x < length a → byte a x ≡ byte b x) → a ≡ b
same_bytes a b e each = ext_get_or 0 a b e each

pub span-by_place : (m : List ℕ) (f : ℕ → ℕ) (at n : ℕ) → at + n ≤ length m → ((x : ℕ) → at ≤ x → x < at + n → f x ≡ byte m x) → map f (range_with_len at n) ≡ span m at n
span-by_place m f at n fits each =
    let long : length (map f (range_with_len at n)) ≡ n = length-map-range_with_len f at n in
    same_bytes (map f (range_with_len at n)) (span m at n) (long ∙ sym (length-span m at n fits))
    (λ i lt. let short : i < n = omega arith in get_or-map-range_with_len f at n i (at + i) 0 short refl ∙ each (at + i) (omega arith) (omega arith) ∙ sym (byte-span m at n i short))
