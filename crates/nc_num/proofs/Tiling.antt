-- The pieces of a span cover it.
use Rattle.std.proofs.Common.{◌≡◌, ℕ, zero, suc, ◌+◌, ◌%◌, ◌≤◌, ◌<◌, Bool, true, false, eqb, cond, [], ◌∷◌, inl, inr, refl, arith}
use Rattle.std.proofs.lemmas.Bool.Decides.{nat_tests}
use Rattle.nc_num.specs.Sizes.{IsBlockSize}
use Rattle.nc_num.specs.declared.places.Span.{Span}
use Rattle.nc_num.specs.Places.{starts, piece_len, piece, rest, pieces, pieces_within, IsPieceLen, IsPiece, Tiles}

starts_is : (n : ℕ) (span : Span) → starts n span ≡ true → (span.at % n ≡ 0) × (n ≤ span.len)
starts_is n span h = (grind (arith, nat_tests), grind (arith, nat_tests))

by_tests : (span : Span) (b8 b4 b2 : Bool) → 0 < span.len → starts 8 span ≡ b8 → starts 4 span ≡ b4 → starts 2 span ≡ b2
    → let n = cond {A = ℕ} b8 8 (cond b4 4 (cond b2 2 1)) in IsPieceLen n × (span.at % n ≡ 0) × (n ≤ span.len)
by_tests span true b4 b2 h e8 e4 e2 = let p = starts_is 8 span e8 in (inl refl, p.0, p.1)
by_tests span false true b2 h e8 e4 e2 = let p = starts_is 4 span e4 in (inr (inl refl), p.0, p.1)
by_tests span false false true h e8 e4 e2 = let p = starts_is 2 span e2 in (inr (inr (inl refl)), p.0, p.1)
by_tests span false false false h e8 e4 e2 = (inr (inr (inr refl)), omega arith, omega arith)

-- a naturally aligned piece lies in one block of each size
in_one_block : (at n s : ℕ) → IsPieceLen n → at % n ≡ 0 → IsBlockSize s → at % s + n ≤ s
in_one_block at n s is e size = grind arith

is_piece : (span : Span) → 0 < span.len → IsPiece span.at span.len (piece span)
is_piece span h =
    let p = by_tests span (starts 8 span) (starts 4 span) (starts 2 span) h refl refl refl in
    record { starts_here = refl; size = p.0; aligned = p.1; within = p.2; one_block = λ s size. in_one_block span.at (piece_len span) s p.0 p.1 size }

no_less : (n : ℕ) → IsPieceLen n → 0 < n
no_less n (inl e) = omega arith
no_less n (inr (inl e)) = omega arith
no_less n (inr (inr (inl e))) = omega arith
no_less n (inr (inr (inr e))) = omega arith

tile_by : (n : ℕ) (span : Span) → span.len ≤ suc n → (b : Bool) → eqb span.len 0 ≡ b → ((s : Span) → s.len ≤ n → Tiles s.at s.len (pieces_within n s))
    → Tiles span.at span.len (cond b [] (piece span ∷ pieces_within n (rest span)))
tile_by n span h true e ih = grind (arith, nat_tests)
tile_by n span h false e ih =
    let some : 0 < span.len = grind (arith, nat_tests) in
    let p = is_piece span some in
    (p, ih (rest span) (omega (arith, no_less (piece_len span) p.size)))

tile : (n : ℕ) (span : Span) → span.len ≤ n → Tiles span.at span.len (pieces_within n span)
unfolding pieces_within
tile zero span h = omega arith
tile (suc n) span h = tile_by n span h (eqb span.len 0) refl (tile n)

pub tiles : (span : Span) → Tiles span.at span.len (pieces span)
tiles span = tile span.len span (omega arith)
