-- Places of RAM, blocks, and the pieces of a span.
use Rattle.std.specs.Prelude.{◌≡◌, ◌⊎◌, ◌≤◌, ℕ, zero, suc, ◌+◌, ◌-◌, ◌/◌, ◌%◌, ◌&&◌, ◌==◌, Bool, List, [], ◌∷◌, nat_le, nat_lt, if◌then◌else◌}
use Rattle.nc_num.specs.Sizes.{IsBlockSize}
use Rattle.nc_num.specs.declared.places.Span.{Span}

-- the block of a place, divided whole (CMO 1.0: blocks are naturally aligned)
abbrev pub block_at : ℕ → ℕ → ℕ
block_at place size = place / size

-- whether a place lies in a span
abbrev pub covers : Span → ℕ → Bool
covers span x = nat_le span.at x && nat_lt x (span.at + span.len)

-- a piece of n bytes may start the span: it is naturally aligned and ends in the span
abbrev pub starts : ℕ → Span → Bool
starts n span = span.at % n == 0 && nat_le n span.len

-- the length of the first piece
abbrev pub piece_len : Span → ℕ
piece_len span = if starts 8 span then 8 else (if starts 4 span then 4 else (if starts 2 span then 2 else 1))

-- the first piece, and what is left behind it
abbrev pub piece : Span → Span
piece span = record { at = span.at; len = piece_len span }

abbrev pub rest : Span → Span
rest span = record { at = span.at + piece_len span; len = span.len - piece_len span }

-- the pieces of a span, of which there are at most n
unfoldable pub pieces_within : ℕ → Span → List Span
pieces_within zero span = []
pieces_within (suc n) span = if span.len == 0 then [] else piece span ∷ pieces_within n (rest span)

abbrev pub pieces : Span → List Span
pieces span = pieces_within span.len span

-- a length of 8, 4, 2 or 1
abbrev pub IsPieceLen : ℕ → Type 0
IsPieceLen n = (n ≡ 8) ⊎ (n ≡ 4) ⊎ (n ≡ 2) ⊎ (n ≡ 1)

-- one piece: naturally aligned, within what is left, and in one block of each size
pub record IsPiece (at len : ℕ) (p : Span) : Type 0 where
  pub starts_here : p.at ≡ at
  pub size : IsPieceLen p.len
  pub aligned : at % p.len ≡ 0
  pub within : p.len ≤ len
  pub one_block : (s : ℕ) → IsBlockSize s → at % s + p.len ≤ s

-- the pieces cover len bytes from a place on, in order
abbrev pub Tiles : ℕ → ℕ → List Span → Type 0
Tiles at len [] = len ≡ 0
Tiles at len (p ∷ ps) = IsPiece at len p × Tiles (at + p.len) (len - p.len) ps
