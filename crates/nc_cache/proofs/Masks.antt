-- Four harts as the bits of a number.
use Rattle.std.specs.Prelude.{Option, Some, None, slice_index_or, ◌==◌, ◌*◌, not, bit_and}
use Rattle.std.specs.Int.{bit_at}
use Rattle.std.proofs.Common.{◌≡◌, ℕ, zero, suc, ◌+◌, ◌<◌, ◌≤◌, ◌^◌, Bool, true, false, List, [], ◌∷◌, length, refl, inl, inr, sym, ap, ◌∙◌, arith}
use Rattle.std.proofs.lemmas.Bool.{cases_eq}
use Rattle.std.proofs.lemmas.Bool.Decides.{nat_tests}
use Rattle.std.proofs.lemmas.List.{get_or-set_same, get_or-set_other, length-set}
use Rattle.std.proofs.lemmas.Nat.Bits.{bit_at_above, bit_at-lt}
use Rattle.nc_num.specs.declared.names.HartNo.{HartNo}
use Rattle.nc_cache.specs.declared.line.Held.{Held}
use Rattle.nc_cache.specs.declared.line.Held.TheVariants.{Shared, Dirty}
use Rattle.nc_cache.specs.declared.directory.Row.{Row}
use Rattle.nc_cache.specs.Harts.{only}
use Rattle.nc_cache.specs.Cache.{holds, holders}
use Rattle.nc_cache.specs.Facts.{IsHeld}
use Rattle.nc_cache.specs.Directory.{bit, dirty_holder, Tells}
use Rattle.nc_cache.proofs.Holders.{nobody}
use Rattle.nc_cache.specs.Rows.{mask, has_bit, harts_in, held_in, row_for, line_of, IsRow}

-- the harts of a mask are those that it was made of
harts-mask : (by : List Bool) → length by ≡ 4 → harts_in (mask by) ≡ by
harts-mask [] len = absurd (omega arith)
harts-mask (p ∷ []) len = absurd (omega arith)
harts-mask (p ∷ q ∷ []) len = absurd (omega arith)
harts-mask (p ∷ q ∷ r ∷ []) len = absurd (omega arith)
harts-mask (false ∷ false ∷ false ∷ false ∷ []) len = refl
harts-mask (true ∷ false ∷ false ∷ false ∷ []) len = refl
harts-mask (false ∷ true ∷ false ∷ false ∷ []) len = refl
harts-mask (true ∷ true ∷ false ∷ false ∷ []) len = refl
harts-mask (false ∷ false ∷ true ∷ false ∷ []) len = refl
harts-mask (true ∷ false ∷ true ∷ false ∷ []) len = refl
harts-mask (false ∷ true ∷ true ∷ false ∷ []) len = refl
harts-mask (true ∷ true ∷ true ∷ false ∷ []) len = refl
harts-mask (false ∷ false ∷ false ∷ true ∷ []) len = refl
harts-mask (true ∷ false ∷ false ∷ true ∷ []) len = refl
harts-mask (false ∷ true ∷ false ∷ true ∷ []) len = refl
harts-mask (true ∷ true ∷ false ∷ true ∷ []) len = refl
harts-mask (false ∷ false ∷ true ∷ true ∷ []) len = refl
harts-mask (true ∷ false ∷ true ∷ true ∷ []) len = refl
harts-mask (false ∷ true ∷ true ∷ true ∷ []) len = refl
harts-mask (true ∷ true ∷ true ∷ true ∷ []) len = refl
harts-mask (p ∷ q ∷ r ∷ s ∷ t ∷ by) len = absurd (omega arith)

bit_lt : (b : Bool) → bit b < 2
bit_lt true = omega arith
bit_lt false = omega arith

mask_lt : (by : List Bool) → mask by < 2 ^ 4
mask_lt by = omega (arith, bit_lt (slice_index_or by 0 false), bit_lt (slice_index_or by 1 false), bit_lt (slice_index_or by 2 false), bit_lt (slice_index_or by 3 false))

-- four bits, each at its place
four : (p q r s : Bool) → (bit_at (bit p + 2 * bit q + 4 * bit r + 8 * bit s) 0 ≡ bit p) × (bit_at (bit p + 2 * bit q + 4 * bit r + 8 * bit s) 1 ≡ bit q) × (bit_at (bit p + 2 * bit q + 4 * bit r + 8 * bit s) 2 ≡ bit r) × (bit_at (bit p + 2 * bit q + 4 * bit r + 8 * bit s) 3 ≡ bit s)
four p q r s = let a = bit_lt p in let b = bit_lt q in let c = bit_lt r in let d = bit_lt s in (omega arith, omega arith, omega arith, omega arith)

past : (by : List Bool) (h : ℕ) → length by ≡ 4 → 4 ≤ h → slice_index_or by h false ≡ false
past [] h len le = refl
past (p ∷ []) h len le = absurd (omega arith)
past (p ∷ q ∷ []) h len le = absurd (omega arith)
past (p ∷ q ∷ r ∷ []) h len le = absurd (omega arith)
past (p ∷ q ∷ r ∷ s ∷ []) zero len le = absurd (omega arith)
past (p ∷ q ∷ r ∷ s ∷ []) (suc zero) len le = absurd (omega arith)
past (p ∷ q ∷ r ∷ s ∷ []) (suc (suc zero)) len le = absurd (omega arith)
past (p ∷ q ∷ r ∷ s ∷ []) (suc (suc (suc zero))) len le = absurd (omega arith)
past (p ∷ q ∷ r ∷ s ∷ []) (suc (suc (suc (suc h)))) len le = refl
past (p ∷ q ∷ r ∷ s ∷ t ∷ by) h len le = absurd (omega arith)

-- bit h of a mask is hart h's
bit-mask : (by : List Bool) (h : ℕ) → length by ≡ 4 → bit_at (mask by) h ≡ bit (slice_index_or by h false)
bit-mask by zero len = (four (slice_index_or by 0 false) (slice_index_or by 1 false) (slice_index_or by 2 false) (slice_index_or by 3 false)).0
bit-mask by (suc zero) len = (four (slice_index_or by 0 false) (slice_index_or by 1 false) (slice_index_or by 2 false) (slice_index_or by 3 false)).1
bit-mask by (suc (suc zero)) len = (four (slice_index_or by 0 false) (slice_index_or by 1 false) (slice_index_or by 2 false) (slice_index_or by 3 false)).2
bit-mask by (suc (suc (suc zero))) len = (four (slice_index_or by 0 false) (slice_index_or by 1 false) (slice_index_or by 2 false) (slice_index_or by 3 false)).3
bit-mask by (suc (suc (suc (suc h)))) len = bit_at_above (mask by) 4 (suc (suc (suc (suc h)))) (mask_lt by) (omega arith) ∙ ap bit (sym (past by (suc (suc (suc (suc h)))) len (omega arith)))

-- one hart is among four where it is that one
among_only : (g h : ℕ) → g < 4 → slice_index_or (only g) h false ≡ (g == h)
among_only g h lt = elim (cases_eq h g) [
  | inl e ↦ let here : slice_index_or (only g) h false ≡ true = rw e (get_or-set_same (false ∷ false ∷ false ∷ false ∷ []) g true false lt) in here ∙ grind (arith, nat_tests)
  | inr ne ↦ get_or-set_other (false ∷ false ∷ false ∷ false ∷ []) g h true false ne ∙ (nobody h ∙ grind (arith, nat_tests))
]

bit-holders : (d : Held) (h : ℕ) → IsHeld 4 d → bit_at (mask (holders d)) h ≡ bit (holds d h)
bit-holders (Shared by) h is = bit-mask by h is.four
bit-holders (Dirty g) h is = bit-mask (only g.0) h (length-set (false ∷ false ∷ false ∷ false ∷ []) g.0 true) ∙ ap bit (among_only g.0 h is)

dirty-held_in : (m : ℕ) (o : Option HartNo) → o ≡ dirty_holder (held_in m o)
dirty-held_in m None = refl
dirty-held_in m (Some g) = refl

-- a row tells what its line is
pub row_tells : (cells : List (List ℕ)) (row : Row) → IsRow row → Tells row (line_of cells row)
row_tells cells row is = record {
  holders = λ h. ap (λ m. bit_at m h) is.holders ∙ bit-holders (held_in row.holders row.dirty) h is.held;
  dirty = dirty-held_in row.holders row.dirty;
}

-- who holds the block of a row that was made so
pub held-row_for : (b cell : ℕ) (d : Held) → IsHeld 4 d → held_in (row_for b d cell).holders (row_for b d cell).dirty ≡ d
held-row_for b cell (Shared by) is = ap Shared (harts-mask by is.four)
held-row_for b cell (Dirty g) is = refl

pub is_row-row_for : (b cell : ℕ) (d : Held) → b < 2 ^ 32 → IsHeld 4 d → IsRow (row_for b d cell)
is_row-row_for b cell d small is = record { block = small; held = rw (held-row_for b cell d is) is; holders = rw (held-row_for b cell d is) refl }

-- the code's test of a bit
pub has-and : (m k p : ℕ) → bit_and m p ≡ bit_at m k * p → 0 < p → not (bit_and m p == 0) ≡ has_bit m k
has-and m k p is some = elim (cases_eq (bit_at m k) 1) [
  | inl e ↦ let whole : bit_and m p ≡ p = is ∙ (ap (λ (b : ℕ). b * p) e ∙ omega arith) in grind (arith, nat_tests)
  | inr ne ↦ let lt = bit_at-lt m k in let none : bit_at m k ≡ 0 = omega arith in let clear : bit_and m p ≡ 0 = is ∙ (ap (λ (b : ℕ). b * p) none ∙ omega arith) in grind (arith, nat_tests)
]
