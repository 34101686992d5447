-- The pieces of a span by their number.
use Rattle.std.proofs.Common.{◌≡◌, ◌⊎◌, ℕ, zero, suc, ◌+◌, ◌-◌, ◌*◌, ◌%◌, ◌<◌, ◌≤◌, true, false, inl, inr, refl, sym, ap, subst, ◌∙◌, arith, slice_get, Some, None, List, [], ◌∷◌, length, add-one}
use Rattle.std.specs.Prelude.{◌==◌, if◌then◌else◌}
use Rattle.std.proofs.lemmas.Bool.{cases_eq}
use Rattle.std.proofs.lemmas.Bool.Decides.{nat_tests}
use Rattle.nc_num.specs.declared.places.Span.{Span}
use Rattle.nc_num.specs.Places.{piece, piece_len, pieces, pieces_within, rest, IsPieceLen, IsPiece, Tiles}
use Rattle.nc_num.proofs.Blocks.{piece_in_block}
use Rattle.nc_num.proofs.Tiling.{tiles}
use Rattle.nc_plan.proofs.PieceLaws.{pieces-none, pieces-some}
use Rattle.nc_steps.specs.Laws.{IsNatural, IsWithin, PiecesFollow, behind, first, left}

-- one more piece is passed
pub slice_get-pieces : (s : Span) (m n : ℕ) → m ≡ suc n → 0 < s.len → slice_get (pieces s) m ≡ slice_get (pieces (rest s)) n
slice_get-pieces s m n e h = ap (λ k. slice_get (pieces s) k) e ∙ ap (λ ps. slice_get ps (suc n)) (pieces-some s h)

pub first_piece_is : (s : Span) → 0 < s.len → slice_get (pieces s) 0 ≡ Some (piece s)
first_piece_is s h = ap (λ ps. slice_get ps 0) (pieces-some s h)

pub no_piece : (s : Span) (n : ℕ) → s.len ≡ 0 → slice_get (pieces s) n ≡ None
no_piece s n h = ap (λ ps. slice_get ps n) (pieces-none s h)

-- behind a piece of 8 bytes comes another one, where there are so many bytes
eight_again : (s : Span) → piece_len s ≡ 8 → 16 ≤ s.len → piece_len (rest s) ≡ 8
eight_again s e h = grind (arith, nat_tests)

-- the span behind k pieces of so many bytes
abbrev pub far : Span → ℕ → ℕ → Span
far s k size = record { at = s.at + k * size; len = s.len - k * size }

span_is : (s t : Span) → s.at ≡ t.at → s.len ≡ t.len → s ≡ t
span_is s t p q = λ i. record { at = p i; len = q i }

pub eights_passed : (k n : ℕ) (s : Span) → 0 < k → piece_len s ≡ 8 → k * 8 ≤ s.len → slice_get (pieces s) (k + n) ≡ slice_get (pieces (far s k 8)) n
eights_passed zero n s some e h = absurd (omega arith)
eights_passed (suc zero) n s some e h =
    slice_get-pieces s (1 + n) n (omega arith) (omega arith)
    ∙ ap (λ t. slice_get (pieces t) n) (span_is (rest s) (far s 1 8) (omega (arith, e)) (omega (arith, e)))
eights_passed (suc (suc k)) n s some e h =
    slice_get-pieces s (suc (suc k) + n) (suc k + n) (omega arith) (omega arith)
    ∙ eights_passed (suc k) n (rest s) (omega arith) (eight_again s e (omega arith)) (omega (arith, e))
    ∙ ap (λ t. slice_get (pieces t) n) (span_is (far (rest s) (suc k) 8) (far s (suc (suc k)) 8) (omega (arith, e)) (omega (arith, e)))

-- so many pieces of one length
pub passed : (k n size : ℕ) (s : Span) → 0 < s.len → 0 < k → size ≡ piece_len s → (k ≡ 1) ⊎ (size ≡ 8) → k * size ≤ s.len → slice_get (pieces s) (k + n) ≡ slice_get (pieces (far s k size)) n
passed k n size s some more is (inl e) h =
    let one : k * size ≡ size = omega (arith, ap (λ j. j * size) e) in
    slice_get-pieces s (k + n) n (omega arith) some
    ∙ ap (λ t. slice_get (pieces t) n) (span_is (rest s) (far s k size) (omega arith) (omega arith))
passed k n size s some more is (inr e) h = rw e (eights_passed k n s more (omega arith) (omega (arith, ap (λ j. k * j) e)))

-- step n is the first of what is left behind n pieces

step_behind : (s : Span) (k : ℕ) → slice_get (pieces s) (suc k) ≡ slice_get (pieces (behind s)) k
step_behind s k = elim (cases_eq s.len 0) [
  | inl e ↦ no_piece s (suc k) e ∙ sym (no_piece (behind s) k (grind (arith, nat_tests)))
  | inr ne ↦ slice_get-pieces s (suc k) k refl (omega arith) ∙ ap (λ t. slice_get (pieces t) k) (grind (arith, nat_tests))
]

pub steps_left : (s : Span) (n m k : ℕ) → m ≡ n + k → slice_get (pieces s) m ≡ slice_get (pieces (left s n)) k
unfolding left
steps_left s zero m k e = let same : m ≡ k = omega arith in ap (λ i. slice_get (pieces s) i) same
steps_left s (suc n) m k e = steps_left s n m (suc k) (omega arith) ∙ step_behind (left s n) k

first_of : (s : Span) → slice_get (pieces s) 0 ≡ first s
first_of s = elim (cases_eq s.len 0) [
  | inl e ↦ no_piece s 0 e ∙ grind (arith, nat_tests)
  | inr ne ↦ first_piece_is s (omega arith) ∙ grind (arith, nat_tests)
]

behind_ends : (s : Span) → (behind s).at + (behind s).len ≡ s.at + s.len
behind_ends s = grind (arith, nat_tests)

left_ends : (s : Span) (n : ℕ) → (left s n).at + (left s n).len ≡ s.at + s.len
unfolding left
left_ends s zero = refl
left_ends s (suc n) = behind_ends (left s n) ∙ left_ends s n

few_within : (n : ℕ) (s : Span) → length (pieces_within n s) ≤ n
unfolding pieces_within
few_within zero s = omega arith
few_within (suc n) s = elim (s.len == 0) as (λ t. length (if t then [] else piece s ∷ pieces_within n (rest s)) ≤ suc n) [
  | true ↦ omega arith
  | false ↦ omega (arith, few_within n (rest s))
]

left_more : (s : Span) (n : ℕ) → left s (n + 1) ≡ behind (left s n)
unfolding left
left_more s n = rw add-one refl

left_none : (s : Span) → left s 0 ≡ s
unfolding left
left_none s = refl

pub pieces_follow : PiecesFollow
pieces_follow s n = record {
  start = left_none s;
  next = left_more s n;
  step = steps_left s n n 0 (omega arith) ∙ first_of (left s n);
  ends = left_ends s n;
  few = few_within s.len s;
}

-- each piece lies in the span

natural : (at : ℕ) (p : Span) → p.at ≡ at → IsPieceLen p.len → at % p.len ≡ 0 → IsNatural p
natural at p e size aligned =
    let here : p.at % p.len ≡ 0 = rw e aligned in
    record { size = size; aligned = here; one_block = λ s z. piece_in_block p.at p.len z size here }

-- piece n of those that cover a range
pub record IsOf (at len : ℕ) (p : Span) : Type 0 where
  pub within : IsWithin (record { at = at; len = len }) p
  pub natural : IsNatural p

of_more : (at len n : ℕ) (p : Span) → n ≤ len → IsOf (at + n) (len - n) p → IsOf at len p
of_more at len n p h k = record { within = record { starts = omega (arith, k.within.starts); ends = omega (arith, k.within.ends) }; natural = k.natural }

of_first : (at len : ℕ) (q p : Span) → IsPiece at len q → q ≡ p → IsOf at len p
of_first at len q p k e = subst (λ (r : Span). IsOf at len r) e (record {
  within = record { starts = omega (arith, k.starts_here); ends = omega (arith, k.starts_here, k.within) };
  natural = natural at q k.starts_here k.size k.aligned;
})

some_same : {X : Type 0} (a b : X) → Some a ≡ Some b → a ≡ b
some_same a b e = cc

of_tiles : (at len : ℕ) (ps : List Span) (n : ℕ) (p : Span) → Tiles at len ps → slice_get ps n ≡ Some p → IsOf at len p
of_tiles at len [] n p k e = absurd (cc)
of_tiles at len (q ∷ qs) zero p k e = of_first at len q p k.0 (some_same q p e)
of_tiles at len (q ∷ qs) (suc n) p k e = of_more at len q.len p k.0.within (of_tiles (at + q.len) (len - q.len) qs n p k.1 e)

pub is_of : (s : Span) (n : ℕ) (p : Span) → slice_get (pieces s) n ≡ Some p → IsOf s.at s.len p
is_of s n p e = of_tiles s.at s.len (pieces s) n p (tiles s) e
