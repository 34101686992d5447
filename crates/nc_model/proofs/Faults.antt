-- The first place of a span at fault.
use Rattle.std.proofs.Common.{◌≡◌, ℕ, zero, suc, ◌+◌, ◌-◌, ◌<◌, ◌≤◌, Bool, true, false, not, Option, Some, None, refl, sym, ap, ◌∙◌, inl, inr, arith, cond, subst}
use Rattle.std.proofs.lemmas.Bool.{and_parts, leb-true, ltb-true, le-leb, lt-ltb, and_from, cases_eq, cases_order}
use Rattle.std.proofs.lemmas.Bool.Decides.{nat_tests}
use Rattle.std.specs.List.{find, range_with_len}
use Rattle.nc_num.specs.Places.{covers}
use Rattle.nc_num.specs.declared.places.Span.{Span}
use Rattle.nc_model.specs.Laws.{IsFault}
use Rattle.nc_model.specs.Touches.{first_fault}

pub covers-from : (s : Span) (x : ℕ) → s.at ≤ x → x < s.at + s.len → covers s x ≡ true
covers-from s x le lt = and_from _ _ (le-leb s.at x le) (lt-ltb x (s.at + s.len) lt)

pub covers-low : (s : Span) (x : ℕ) → covers s x ≡ true → s.at ≤ x
covers-low s x e = leb-true s.at x (and_parts _ _ e).0

pub covers-high : (s : Span) (x : ℕ) → covers s x ≡ true → x < s.at + s.len
covers-high s x e = ltb-true x (s.at + s.len) (and_parts _ _ e).1

pub covers-below : (s : Span) (x : ℕ) → x < s.at → covers s x ≡ false
covers-below s x lt = grind (arith, nat_tests)

pub covers-above : (s : Span) (x : ℕ) → s.at + s.len ≤ x → covers s x ≡ false
covers-above s x le = grind (arith, nat_tests)

-- the same over n places from a place on
abbrev FaultIn : (ℕ → Bool) → ℕ → ℕ → Option ℕ → Type 0
FaultIn may at n None = (x : ℕ) → at ≤ x → x < at + n → may x ≡ true
FaultIn may at n (Some x) = (at ≤ x) × (x < at + n) × (may x ≡ false) × ((y : ℕ) → at ≤ y → y < x → may y ≡ true)

later : (may : ℕ → Bool) (at n : ℕ) (o : Option ℕ) → may at ≡ true → FaultIn may (at + 1) n o → FaultIn may at (suc n) o
later may at n None e h =
    λ x le lt. elim (cases_eq x at) [ inl same ↦ subst (λ (k : ℕ). may k ≡ true) (sym same) e | inr ne ↦ h x (omega arith) (omega arith) ]
later may at n (Some x) e h =
    (omega (arith, h.0), omega (arith, h.1), h.2, λ y le lt. elim (cases_eq y at) [ inl same ↦ subst (λ (k : ℕ). may k ≡ true) (sym same) e | inr ne ↦ h.3 y (omega arith) lt ])

fault_by : (may : ℕ → Bool) (at n : ℕ) (b : Bool) → may at ≡ b → (o : Option ℕ) → FaultIn may (at + 1) n o → FaultIn may at (suc n) (cond (not b) (Some at) o)
fault_by may at n true e o h = later may at n o e h
fault_by may at n false e o h = (omega arith, omega arith, e, λ y le lt. absurd (omega arith))

fault_in : (may : ℕ → Bool) (at n : ℕ) → FaultIn may at n (find (λ x. not (may x)) (range_with_len at n))
fault_in may at zero = λ x le lt. absurd (omega arith)
fault_in may at (suc n) = fault_by may at n (may at) refl _ (fault_in may (at + 1) n)

of_span : (may : ℕ → Bool) (s : Span) (o : Option ℕ) → FaultIn may s.at s.len o → IsFault may s o
of_span may s None h = λ x e. h x (covers-low s x e) (covers-high s x e)
of_span may s (Some x) h = (covers-from s x h.0 h.1, h.2, h.3)

pub is_fault : (may : ℕ → Bool) (s : Span) → IsFault may s (first_fault may s)
unfolding first_fault
is_fault may s = of_span may s _ (fault_in may s.at s.len)

-- the parts, each by itself
pub passes : (may : ℕ → Bool) (s : Span) (x : ℕ) → first_fault may s ≡ None → covers s x ≡ true → may x ≡ true
passes may s x e = subst (IsFault may s) e (is_fault may s) x

pub fails : (may : ℕ → Bool) (s : Span) (x : ℕ) → first_fault may s ≡ Some x → (covers s x ≡ true) × (may x ≡ false) × ((y : ℕ) → s.at ≤ y → y < x → may y ≡ true)
fails may s x e = subst (IsFault may s) e (is_fault may s)

-- what is the first fault is the one found
same_by : (may : ℕ → Bool) (s : Span) (o p : Option ℕ) → IsFault may s o → IsFault may s p → o ≡ p
same_by may s None None h k = refl
same_by may s None (Some y) h k = let e : may y ≡ true = h y k.0 in cc (k.1)
same_by may s (Some x) None h k = let e : may x ≡ true = k x h.0 in cc (h.1)
same_by may s (Some x) (Some y) h k =
    elim (cases_order x y) [
      | inl same ↦ ap Some same
      | inr apart ↦ elim apart [
        | inl lt ↦ let e : may x ≡ true = k.2 x (covers-low s x h.0) lt in cc (h.1)
        | inr gt ↦ let e : may y ≡ true = h.2 y (covers-low s y k.0) gt in cc (k.1)
      ]
    ]

pub first_fault-is : (may : ℕ → Bool) (s : Span) (o : Option ℕ) → IsFault may s o → first_fault may s ≡ o
first_fault-is may s o h = same_by may s _ o (is_fault may s) h

agree_by : (may also : ℕ → Bool) (s : Span) (o : Option ℕ) → ((x : ℕ) → covers s x ≡ true → may x ≡ also x) → IsFault also s o → IsFault may s o
agree_by may also s None h f = λ x e. h x e ∙ f x e
agree_by may also s (Some x) h f =
    (f.0, h x f.0 ∙ f.1, λ y le lt. h y (covers-from s y le (omega (arith, covers-high s x f.0))) ∙ f.2 y le lt)

-- tests that agree over the span have one first fault
pub first_fault-same : (may also : ℕ → Bool) (s : Span) → ((x : ℕ) → covers s x ≡ true → may x ≡ also x) → first_fault may s ≡ first_fault also s
first_fault-same may also s h = first_fault-is may s _ (agree_by may also s _ h (is_fault also s))

-- a loop over the places of a span
pub fault_here : (may : ℕ → Bool) (at n : ℕ) → 0 < n → may at ≡ false → first_fault may (record { at = at; len = n }) ≡ Some at
unfolding first_fault
fault_here may at zero some e = absurd (omega arith)
fault_here may at (suc n) some e = rw e refl

pub fault_next : (may : ℕ → Bool) (at n : ℕ) → 0 < n → may at ≡ true → first_fault may (record { at = at; len = n }) ≡ first_fault may (record { at = at + 1; len = n - 1 })
unfolding first_fault
fault_next may at zero some e = absurd (omega arith)
fault_next may at (suc n) some e = rw e (let less : suc n - 1 ≡ n = omega arith in rw less refl)

pub fault_end : (may : ℕ → Bool) (at n : ℕ) → n ≡ 0 → first_fault may (record { at = at; len = n }) ≡ None
unfolding first_fault
fault_end may at n e = rw e refl

-- its steps: nothing before x is at fault
pub fault_found : (may : ℕ → Bool) (s : Span) (x end : ℕ) → first_fault may (record { at = x; len = end - x }) ≡ first_fault may s → x < end → may x ≡ false → Some x ≡ first_fault may s
fault_found may s x end all lt e = sym (fault_here may x (end - x) (omega arith) e) ∙ all

pub fault_passed : (may : ℕ → Bool) (s : Span) (x end : ℕ) → first_fault may (record { at = x; len = end - x }) ≡ first_fault may s → x < end → may x ≡ true
    → first_fault may (record { at = x + 1; len = end - (x + 1) }) ≡ first_fault may s
fault_passed may s x end all lt e =
    ap (λ n. first_fault may (record { at = x + 1; len = n })) (omega arith) ∙ sym (fault_next may x (end - x) (omega arith) e) ∙ all

pub fault_none : (may : ℕ → Bool) (s : Span) (x end : ℕ) → first_fault may (record { at = x; len = end - x }) ≡ first_fault may s → end ≤ x → None ≡ first_fault may s
fault_none may s x end all le = sym (fault_end may x (end - x) (omega arith)) ∙ all
