-- Texts without a line feed.
use Rattle.std.proofs.Common.{◌≡◌, ℕ, zero, suc, ◌+◌, ◌-◌, ◌/◌, ◌%◌, Bool, true, false, List, [], ◌∷◌, ◌++◌, length, get_or, refl, sym, ap, ◌∙◌, arith, append_assoc, cond}
use Rattle.std.specs.Prelude.{◌==◌, not, replicate, decimal, nat_lt}
use Rattle.std.specs.Fmt.{digits, digits_onto, digit_glyph}
use Rattle.std.specs.List.{list_all, All}
use Rattle.std.proofs.lemmas.Bool.{and_parts, and_from, ne_eqb}
use Rattle.std.proofs.lemmas.List.Folds.{list_all-append}
use Rattle.std.proofs.lemmas.List.Sums.{AllPass-from_list_all}
use Rattle.hex.specs.Hex.{encode_with, encode_lower, lower_digits}
use Rattle.nc_rules.specs.Lines.{words, phrase, hex_digits}

-- not a line feed
abbrev pub is_plain_code : ℕ → Bool
is_plain_code c = not (c == 10)

abbrev pub IsPlain : List ℕ → Type 0
IsPlain text = list_all is_plain_code text ≡ true

abbrev pub ArePlain : List (List ℕ) → Type 0
ArePlain [] = Unit {0}
ArePlain (x ∷ xs) = IsPlain x × ArePlain xs

none_feeds : (c : ℕ) (t : Bool) → (c == 10) ≡ t → not t ≡ true → (c == 10) ≡ false
none_feeds c true e p = absurd (cc)
none_feeds c false e p = e

pub no_feeds : (text : List ℕ) → IsPlain text → All (λ c. (c == 10) ≡ false) text
no_feeds text plain k d less = none_feeds (get_or text k d) (get_or text k d == 10) refl (AllPass-from_list_all is_plain_code text plain k d less)

pub plain_append : (a b : List ℕ) → IsPlain a → IsPlain b → IsPlain (a ++ b)
plain_append a b p q = list_all-append is_plain_code a b ∙ and_from (list_all is_plain_code a) (list_all is_plain_code b) p q

plain_cons : (c : ℕ) (cs : List ℕ) → is_plain_code c ≡ true → IsPlain cs → IsPlain (c ∷ cs)
plain_cons c cs p q = and_from (is_plain_code c) (list_all is_plain_code cs) p q

other_code : (c : ℕ) → (c ≡ 10 → ⊥) → is_plain_code c ≡ true
other_code c ne = ap not (ne_eqb c 10 ne)

-- ---- numbers

glyph_is : (upper : Bool) (d : ℕ) → is_plain_code (digit_glyph upper d) ≡ true
glyph_is upper d = by (nat_lt d 10) upper
  where
    by : (s t : Bool) → is_plain_code (cond s (48 + d) (cond t (55 + d) (87 + d))) ≡ true
    by true t = other_code (48 + d) (λ e. omega (arith, e))
    by false true = other_code (55 + d) (λ e. omega (arith, e))
    by false false = other_code (87 + d) (λ e. omega (arith, e))

either_plain : (t : Bool) (a b : List ℕ) → IsPlain a → IsPlain b → IsPlain (cond t a b)
either_plain true a b p q = p
either_plain false a b p q = q

onto_plain : (k base : ℕ) (upper : Bool) (n : ℕ) (text : List ℕ) → IsPlain text → IsPlain (digits_onto k base upper n text)
onto_plain zero base upper n text p = p
onto_plain (suc k) base upper n text p =
    let more = digit_glyph upper (n % base) ∷ text in
    let plain = plain_cons (digit_glyph upper (n % base)) text (glyph_is upper (n % base)) p in
    either_plain (n / base == 0) more (digits_onto k base upper (n / base) more) plain (onto_plain k base upper (n / base) more plain)

plain_digits : (base : ℕ) (upper : Bool) (n : ℕ) → IsPlain (digits base upper n)
unfolding digits
plain_digits base upper n = onto_plain 64 base upper n [] refl

pub plain_decimal : (n : ℕ) → IsPlain (decimal n)
plain_decimal n = plain_digits 10 false n

zeros_plain : (n : ℕ) → IsPlain (replicate n 48)
zeros_plain zero = refl
zeros_plain (suc n) = zeros_plain n

pub plain_hex : (most n : ℕ) → IsPlain (hex_digits most n)
plain_hex most n = plain_append (replicate (most - length (digits 16 false n)) 48) (digits 16 false n) (zeros_plain (most - length (digits 16 false n))) (plain_digits 16 false n)

-- ---- bytes

-- past the end of the table stands 0
at_plain : (table : List ℕ) (i : ℕ) → IsPlain table → is_plain_code (get_or table i 0) ≡ true
at_plain [] i p = refl
at_plain (c ∷ cs) zero p = (and_parts (is_plain_code c) (list_all is_plain_code cs) p).0
at_plain (c ∷ cs) (suc i) p = at_plain cs i (and_parts (is_plain_code c) (list_all is_plain_code cs) p).1

with_plain : (table bytes : List ℕ) → IsPlain table → IsPlain (encode_with table bytes)
unfolding encode_with
with_plain table [] p = refl
with_plain table (b ∷ bytes) p =
    plain_cons (get_or table (b / 16) 0) (get_or table (b % 16) 0 ∷ encode_with table bytes) (at_plain table (b / 16) p)
    (plain_cons (get_or table (b % 16) 0) (encode_with table bytes) (at_plain table (b % 16) p) (with_plain table bytes p))

pub plain_bytes : (bytes : List ℕ) → IsPlain (encode_lower bytes)
plain_bytes bytes = with_plain lower_digits bytes refl

-- ---- words

pub plain_phrase : (ws : List (List ℕ)) → ArePlain ws → IsPlain (phrase ws)
plain_phrase [] p = refl
plain_phrase (x ∷ []) p = p.0
plain_phrase (x ∷ y ∷ ws) p = plain_append x (32 ∷ phrase (y ∷ ws)) p.0 (plain_phrase (y ∷ ws) p.1)

-- a line of words is a phrase and a line feed
pub words_are : (ws : List (List ℕ)) (rest : List ℕ) → words ws ++ rest ≡ phrase ws ++ 10 ∷ rest
words_are [] rest = refl
words_are (x ∷ []) rest = append_assoc x (10 ∷ []) rest
words_are (x ∷ y ∷ ws) rest =
    append_assoc x (32 ∷ words (y ∷ ws)) rest ∙ ap (λ (text : List ℕ). x ++ 32 ∷ text) (words_are (y ∷ ws) rest) ∙ sym (append_assoc x (32 ∷ phrase (y ∷ ws)) (10 ∷ rest))
