-- Bytes that are written and read under the names of other places.
use Rattle.std.specs.Prelude.{◌≢◌, ◌-◌, slice_set, map}
use Rattle.std.specs.List.{range_with_len}
use Rattle.std.proofs.Common.{◌≡◌, ℕ, zero, suc, ◌+◌, ◌<◌, ◌≤◌, false, List, [], ◌∷◌, length, refl, sym, ap, ◌∙◌, inl, inr, subst, arith}
use Rattle.std.proofs.lemmas.Bool.{cases_eq, ne_eqb}
use Rattle.std.proofs.lemmas.List.{length-set, get_or-set_same}
use Rattle.nc_num.specs.Memory.{byte}
use Rattle.nc_model.specs.Flat.{named_from, written, Shows}
use Rattle.nc_model.specs.Laws.{names}
use Rattle.nc_model.proofs.FlatLaws.{byte-written_other}

-- ---- writes

not_named : (name : ℕ → ℕ) (at : ℕ) (bytes : List ℕ) (x : ℕ) → ((z : ℕ) → at ≤ z → z < at + length bytes → name z ≢ x) → names x (named_from name at bytes) ≡ false
not_named name at [] x other = refl
not_named name at (b ∷ bytes) x other =
    rw (ne_eqb (name at) x (other at (omega arith) (omega arith))) (not_named name (at + 1) bytes x (λ z low high. other z (omega (arith, low)) (omega (arith, high))))

-- a place that none of the names is keeps its byte
pub byte_kept : (m : List ℕ) (name : ℕ → ℕ) (at : ℕ) (bytes : List ℕ) (x : ℕ) → ((z : ℕ) → at ≤ z → z < at + length bytes → name z ≢ x) → byte (written m (named_from name at bytes)) x ≡ byte m x
byte_kept m name at bytes x other = byte-written_other m (named_from name at bytes) x (not_named name at bytes x other)

-- where a name is of one place alone it gets the byte of that
pub byte_there : (m : List ℕ) (name : ℕ → ℕ) (at : ℕ) (bytes : List ℕ) (z : ℕ) → at ≤ z → z < at + length bytes → name z < length m → ((y : ℕ) → at ≤ y → y < at + length bytes → name y ≡ name z → y ≡ z)
    → byte (written m (named_from name at bytes)) (name z) ≡ byte bytes (z - at)
byte_there m name at [] z low high fits apart = absurd (omega (arith, low, high))
byte_there m name at (b ∷ bytes) z low high fits apart =
    let k = slice_set m (name at) b in
    elim (cases_eq z at) [
      | inl same ↦
          let first : z - at ≡ 0 = omega (arith, same) in
          byte_kept k name (at + 1) bytes (name z) (λ y from before e. let is = apart y (omega (arith, from)) (omega (arith, before)) e in omega (arith, from, is, same))
          ∙ ap (λ (y : ℕ). byte k (name y)) same ∙ get_or-set_same m (name at) b 0 (subst (λ (y : ℕ). name y < length m) same fits) ∙ sym (ap (λ (i : ℕ). byte (b ∷ bytes) i) first)
      | inr ne ↦
          let later : suc (z - (at + 1)) ≡ z - at = omega (arith, low, ne) in
          byte_there k name (at + 1) bytes z (omega (arith, low, ne)) (omega (arith, high)) (omega (arith, fits, length-set m (name at) b)) (λ y from before e. apart y (omega (arith, from)) (omega (arith, before)) e)
          ∙ ap (λ (i : ℕ). byte (b ∷ bytes) i) later
    ]

-- ---- reads

pub shows_under : (f : List ℕ) (name seen : ℕ → ℕ) (at n : ℕ) → ((z : ℕ) → at ≤ z → z < at + n → seen z ≡ byte f (name z)) → Shows f (named_from name at (map seen (range_with_len at n)))
shows_under f name seen at zero same = tt
shows_under f name seen at (suc n) same = (sym (same at (omega arith) (omega arith)), shows_under f name seen (at + 1) n (λ z low high. same z (omega (arith, low)) (omega (arith, high))))
