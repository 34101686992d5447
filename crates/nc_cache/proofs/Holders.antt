-- The harts that hold a block, after one more or one less.
use Rattle.std.specs.Prelude.{Option, Some, None, slice_set, slice_index_or}
use Rattle.std.specs.List.{list_any}
use Rattle.std.proofs.Common.{◌≡◌, ◌≢◌, ℕ, zero, suc, ◌<◌, ◌≤◌, Bool, true, false, ◌||◌, List, [], ◌∷◌, length, refl, inl, inr, sym, ap, ◌∙◌, arith}
use Rattle.std.proofs.lemmas.Bool.{cases_Bool, cases_lt}
use Rattle.std.proofs.lemmas.Bool.Decides.{nat_tests}
use Rattle.std.proofs.lemmas.List.{get_or-set_other, length-set}
use Rattle.nc_cache.specs.declared.line.Held.{Held}
use Rattle.nc_cache.specs.declared.line.Held.TheVariants.{Shared, Dirty}
use Rattle.nc_cache.specs.declared.line.Line.{Line}
use Rattle.nc_cache.specs.Harts.{only}
use Rattle.nc_cache.specs.Cache.{holds, holders, shared, without}
use Rattle.nc_cache.specs.Facts.{IsShared, IsHeld, IsLine, IsLineOf}

or_true : (b : Bool) → (b || true) ≡ true
or_true true = refl
or_true false = refl

any_set : (by : List Bool) (h : ℕ) → h < length by → list_any (λ x. x) (slice_set by h true) ≡ true
any_set [] h lt = absurd (omega arith)
any_set (b ∷ by) zero lt = refl
any_set (b ∷ by) (suc h) lt = ap (λ t. b || t) (any_set by h (omega arith)) ∙ or_true b

pub nobody : (g : ℕ) → slice_index_or (false ∷ false ∷ false ∷ false ∷ []) g false ≡ false
nobody zero = refl
nobody (suc zero) = refl
nobody (suc (suc zero)) = refl
nobody (suc (suc (suc zero))) = refl
nobody (suc (suc (suc (suc g)))) = refl

pub shared_only : (harts h : ℕ) → harts ≤ 4 → h < harts → IsShared harts (only h)
shared_only harts h few lt = record {
  four = length-set (false ∷ false ∷ false ∷ false ∷ []) h true;
  some = any_set (false ∷ false ∷ false ∷ false ∷ []) h (omega arith);
  below = λ g le. let ne : g ≢ h = omega arith in get_or-set_other (false ∷ false ∷ false ∷ false ∷ []) h g true false ne ∙ nobody g;
}

pub shared_with : (harts h : ℕ) (by : List Bool) → harts ≤ 4 → h < harts → IsShared harts by → IsShared harts (slice_set by h true)
shared_with harts h by few lt is = record {
  four = length-set by h true ∙ is.four;
  some = any_set by h (omega (arith, is.four));
  below = λ g le. let ne : g ≢ h = omega arith in get_or-set_other by h g true false ne ∙ is.below g le;
}

pub shared_holders : (harts : ℕ) (d : Held) → harts ≤ 4 → IsHeld harts d → IsShared harts (holders d)
shared_holders harts (Shared by) few is = is
shared_holders harts (Dirty g) few is = shared_only harts g.0 few is

pub line_shared : (s harts h : ℕ) (bs : List ℕ) (by : List Bool) → length bs ≡ s → h < harts → IsShared harts by → IsLineOf s harts (shared bs (slice_set by h false))
line_shared s harts h bs by len lt is =
    elim (cases_Bool (list_any (λ x. x) (slice_set by h false))) [
      | inl some ↦ rw some (record {
        bytes = len;
        held = record { four = length-set by h false ∙ is.four; some = some; below = λ g le. let ne : g ≢ h = omega arith in get_or-set_other by h g false false ne ∙ is.below g le };
      })
      | inr none ↦ rw none tt
    ]

pub line_without : (s harts h : ℕ) (bs : List ℕ) (d : Held) → length bs ≡ s → h < harts → IsHeld harts d → IsLineOf s harts (without h bs d)
line_without s harts h bs (Shared by) len lt is = line_shared s harts h bs by len lt is
line_without s harts h bs (Dirty g) len lt is = tt

-- each line has a holder
first_of : (by : List Bool) → list_any (λ x. x) by ≡ true → (h : ℕ) × (slice_index_or by h false ≡ true)
first_of [] any = absurd cc
first_of (true ∷ by) any = (0, refl)
first_of (false ∷ by) any = let r = first_of by any in (suc r.0, r.1)

holder_below : (harts h : ℕ) (by : List Bool) → IsShared harts by → slice_index_or by h false ≡ true → h < harts
holder_below harts h by is e = elim (cases_lt h harts) [ inl lt ↦ lt | inr le ↦ absurd (let p : true ≡ false = sym e ∙ is.below h le in cc) ]

held_holder : (harts : ℕ) (d : Held) → IsHeld harts d → (h : ℕ) × (h < harts) × (holds d h ≡ true)
held_holder harts (Shared by) is = let r = first_of by is.some in (r.0, holder_below harts r.0 by is r.1, r.1)
held_holder harts (Dirty g) is = (g.0, is, grind (arith, nat_tests))

pub line_holder : (s harts : ℕ) (l : Line) → IsLine s harts l → (h : ℕ) × (h < harts) × (holds l.held h ≡ true)
line_holder s harts l is = held_holder harts l.held is.held

-- one of so many harts is one of four
pub held_in_four : (harts : ℕ) (d : Held) → harts ≤ 4 → IsHeld harts d → IsHeld 4 d
held_in_four harts (Shared by) few is = record { four = is.four; some = is.some; below = λ g le. is.below g (omega arith) }
held_in_four harts (Dirty g) few is = omega arith

pub line_in_four : (s harts : ℕ) (o : Option Line) → harts ≤ 4 → IsLineOf s harts o → IsLineOf s 4 o
line_in_four s harts None few is = tt
line_in_four s harts (Some l) few is = record { bytes = is.bytes; held = held_in_four harts l.held few is.held }
