-- The pieces of a span, one at a time.
use Rattle.std.proofs.Common.{◌≡◌, ℕ, zero, suc, ◌+◌, ◌-◌, ◌<◌, ◌≤◌, Bool, true, false, List, [], ◌∷◌, ◌++◌, refl, arith, ap, ◌∙◌, sym, if◌then◌else◌, append_assoc, flat_map, map}
use Rattle.std.specs.List.{range_with_len}
use Rattle.std.proofs.lemmas.List.{append-nil}
use Rattle.std.specs.Prelude.{◌==◌}
use Rattle.std.proofs.lemmas.Bool.Decides.{nat_tests}
use Rattle.nc_num.specs.Places.{pieces_within, pieces, piece, rest, piece_len}
use Rattle.nc_num.specs.declared.places.Span.{Span}

-- a piece has a byte
pub piece_len-some : (s : Span) → 1 ≤ piece_len s
piece_len-some s = grind (arith, nat_tests)

pub piece_len-fits : (s : Span) → 0 < s.len → piece_len s ≤ s.len
piece_len-fits s h = grind (arith, nat_tests)

pub piece_len-short : (s : Span) → piece_len s ≤ 8
piece_len-short s = grind (arith, nat_tests)

pub pieces_within-none : (n : ℕ) (s : Span) → s.len ≡ 0 → pieces_within n s ≡ []
unfolding pieces_within
pieces_within-none zero s h = refl
pieces_within-none (suc n) s h = rw h refl

-- any bound that is enough finds the same pieces
pub enough : (n m : ℕ) (s : Span) → s.len ≤ n → s.len ≤ m → pieces_within n s ≡ pieces_within m s
unfolding pieces_within
enough zero m s h k = sym (pieces_within-none m s (omega arith))
enough (suc n) zero s h k = pieces_within-none (suc n) s (omega arith)
enough (suc n) (suc m) s h k =
    let more : pieces_within n (rest s) ≡ pieces_within m (rest s) = enough n m (rest s) (omega (arith, piece_len-some s)) (omega (arith, piece_len-some s)) in
    elim (s.len == 0) as (λ t. (if t then [] else piece s ∷ pieces_within n (rest s)) ≡ (if t then [] else piece s ∷ pieces_within m (rest s))) [ true ↦ refl | false ↦ ap (λ ps. piece s ∷ ps) more ]

within_more : (n : ℕ) (s : Span) → s.len ≡ suc n → pieces_within (suc n) s ≡ piece s ∷ pieces_within n (rest s)
unfolding pieces_within
within_more n s h = grind (arith, nat_tests)

pub pieces_more : (n : ℕ) (s : Span) → s.len ≡ suc n → pieces s ≡ piece s ∷ pieces (rest s)
pieces_more n s h = ap (λ k. pieces_within k s) h ∙ within_more n s h ∙ ap (λ ps. piece s ∷ ps) (enough n (rest s).len (rest s) (omega (arith, piece_len-some s)) (omega arith))

-- some bytes: a piece, and the pieces of the rest
pub pieces-some : (s : Span) → 0 < s.len → pieces s ≡ piece s ∷ pieces (rest s)
pieces-some s h = pieces_more (s.len - 1) s (omega arith)

pub pieces-none : (s : Span) → s.len ≡ 0 → pieces s ≡ []
pieces-none s h = pieces_within-none s.len s h

-- one more piece is pushed
pub pushed : {X : Type 0} (old new all : List X) (f : Span → List X) (s : Span) → 0 < s.len → new ≡ old ++ f (piece s) → old ++ flat_map f (pieces s) ≡ all → new ++ flat_map f (pieces (rest s)) ≡ all
pushed old new all f s h e k = rw (e, append_assoc) (ap (λ ps. old ++ flat_map f ps) (sym (pieces-some s h)) ∙ k)

pub pushed_all : {X : Type 0} (old all : List X) (f : Span → List X) (s : Span) → s.len ≡ 0 → old ++ flat_map f (pieces s) ≡ all → old ≡ all
pushed_all old all f s h k = sym (append-nil old) ∙ ap (λ ps. old ++ flat_map f ps) (sym (pieces-none s h)) ∙ k

-- one more block is pushed
more_blocks : (b e : ℕ) → b < e → range_with_len b (e - b) ≡ b ∷ range_with_len (b + 1) (e - (b + 1))
more_blocks b e h = let k : e - b ≡ suc (e - (b + 1)) = omega arith in ap (λ n. range_with_len b n) k

pub pushed_block : {X : Type 0} (old new all : List X) (f : ℕ → X) (b e : ℕ) → b < e → new ≡ old ++ f b ∷ [] → old ++ map f (range_with_len b (e - b)) ≡ all → new ++ map f (range_with_len (b + 1) (e - (b + 1))) ≡ all
pushed_block old new all f b e h q k = rw (q, append_assoc) (ap (λ xs. old ++ map f xs) (sym (more_blocks b e h)) ∙ k)

pub ruleset piece_rules = (arith, pieces-some, pieces-none, piece_len-some, piece_len-fits, piece_len-short)
