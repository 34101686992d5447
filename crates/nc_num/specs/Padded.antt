-- Cells with zeros behind the bytes.
use Rattle.std.specs.Prelude.{◌≡◌, ℕ, ◌-◌, ◌≤◌, List, ◌++◌, length, take, drop, replicate}
use Rattle.std.proofs.Common.{sym, ap, ◌∙◌, refl, arith, length-append}
use Rattle.std.proofs.lemmas.List.{take-append-drop, length-take-le, drop_at, length-replicate}

abbrev pub padded : List ℕ → List ℕ
padded v = v ++ replicate (128 - length v) 0

pub record IsPadded (cells : List ℕ) (len : ℕ) : Type 0 where
  pub fits : len ≤ 128
  pub whole : length cells ≡ 128
  pub zeros : drop len cells ≡ replicate (128 - len) 0

pub IsPadded-padded : (v : List ℕ) → length v ≤ 128 → IsPadded (padded v) (length v)
IsPadded-padded v h = record {
  fits = h;
  whole = omega (arith, length-append v (replicate (128 - length v) 0), length-replicate {A = ℕ} (128 - length v) 0);
  zeros = drop_at v (replicate (128 - length v) 0) (length v) refl;
}

pub len_back : (cells : List ℕ) (len : ℕ) → IsPadded cells len → length (take len cells) ≡ len
len_back cells len h = length-take-le len cells (omega (arith, h.whole, h.fits))

pub cells_back : (cells : List ℕ) (len : ℕ) → IsPadded cells len → padded (take len cells) ≡ cells
cells_back cells len h = ap (λ n. take len cells ++ replicate (128 - n) 0) (len_back cells len h) ∙ ap (λ zs. take len cells ++ zs) (sym h.zeros) ∙ take-append-drop len cells
