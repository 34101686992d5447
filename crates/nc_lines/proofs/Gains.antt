-- An entry comes into a line.
use Rattle.std.specs.Prelude.{map, ◌||◌}
use Rattle.std.specs.List.{list_any}
use Rattle.std.proofs.Common.{◌≡◌, ◌⊎◌, Bool, true, false, List, [], ◌∷◌, ◌++◌, refl, sym, ap, ◌∙◌, inl, inr, subst}
use Rattle.std.proofs.lemmas.Bool.{or_parts, or_from, or_cases, cases_Bool, both_ways}
use Rattle.nc_queue.specs.Entries.{is_wo}
use Rattle.nc_queue.specs.Laws.{Stands, Covered}
use Rattle.nc_queue.specs.declared.entry.Entry.{Entry}
use Rattle.nc_lines.specs.Lines.{bare, line, Marked}
use Rattle.nc_lines.specs.Laws.{LineGains, LinesGain}

pub push_line : (q r : List Entry) (e : Entry) → line (q ++ e ∷ []) r ≡ line q (bare e ∷ r)
push_line [] r e = refl
push_line (a ∷ q) r e = ap (λ (l : List Entry). bare a ∷ l) (push_line q r e)

stands_in : (w t : Entry → Bool) (l r : List Entry) (e : Entry) → t e ≡ false → Stands w t (l ++ r) → Stands w t (l ++ e ∷ r)
stands_in w t [] r e other stands = inr (other, stands)
stands_in w t (a ∷ l) r e other (inl here) = inl here
stands_in w t (a ∷ l) r e other (inr later) = inr (later.0, stands_in w t l r e other later.1)

none_in : (p : Entry → Bool) (l r : List Entry) (e : Entry) → p e ≡ false → list_any p (l ++ r) ≡ false → list_any p (l ++ e ∷ r) ≡ false
none_in p [] r e other lacks = or_from (p e) (list_any p r) other lacks
none_in p (a ∷ l) r e other lacks = let parts = or_parts (p a) (list_any p (l ++ r)) lacks in or_from (p a) (list_any p (l ++ e ∷ r)) parts.0 (none_in p l r e other parts.1)

covered_in : (p w t : Entry → Bool) (l r : List Entry) (e : Entry) → p e ≡ false → t e ≡ false → Covered p w t (l ++ r) → Covered p w t (l ++ e ∷ r)
covered_in p w t [] r e not_p not_t covered = (λ pe. absurd (both_ways (p e) not_p pe), λ te. absurd (both_ways (t e) not_t te), covered)
covered_in p w t (a ∷ l) r e not_p not_t covered =
    (λ pa. stands_in w t l r e not_t (covered.0 pa), λ ta. none_in p l r e not_p (covered.1 ta), covered_in p w t l r e not_p not_t covered.2)

marked_in : (w t : Entry → Bool) (l r : List Entry) (e : Entry) → t e ≡ false → (w e ≡ false) ⊎ (list_any t l ≡ true) → Marked w t (l ++ r) → Marked w t (l ++ e ∷ r)
marked_in w t [] r e not_t (inl not_w) marked = inr (λ we. absurd (both_ways (w e) not_w we), marked)
marked_in w t [] r e not_t (inr some) marked = absurd cc
marked_in w t (a ∷ l) r e not_t why (inl ends) = inl ends
marked_in w t (a ∷ l) r e not_t why (inr later) = elim (cases_Bool (t a)) [
  | inl ends ↦ inl ends
  | inr on ↦
      let rest : (w e ≡ false) ⊎ (list_any t l ≡ true) = elim why [
        | inl not_w ↦ inl not_w
        | inr some ↦ elim (or_cases (t a) (list_any t l) some) [ inl ends ↦ absurd (both_ways (t a) on ends) | inr behind ↦ inr behind ]
      ] in
      inr (λ wa. stands_in is_wo t l r e not_t (later.0 wa), marked_in w t l r e not_t rest later.1)
]

was_none : (p : Entry → Bool) (l r : List Entry) (e : Entry) → list_any p (l ++ e ∷ r) ≡ false → list_any p (l ++ r) ≡ false
was_none p [] r e lacks = (or_parts (p e) (list_any p r) lacks).1
was_none p (a ∷ l) r e lacks = let parts = or_parts (p a) (list_any p (l ++ e ∷ r)) lacks in or_from (p a) (list_any p (l ++ r)) parts.0 (was_none p l r e parts.1)

pub line_gains : (q r : List Entry) (e : Entry) → LineGains q r e
line_gains q r e =
    let same = push_line q r e in
    let l = map bare q in
    record {
      same = same;
      still_stands = λ w t other stands. subst (λ (k : List Entry). Stands w t k) (sym same) (stands_in w t l r (bare e) other stands);
      still_covered = λ p w t not_p not_t covered. subst (λ (k : List Entry). Covered p w t k) (sym same) (covered_in p w t l r (bare e) not_p not_t covered);
      still_marked = λ w t not_t why marked. subst (λ (k : List Entry). Marked w t k) (sym same) (marked_in w t l r (bare e) not_t why marked);
      was_none = λ p lacks. was_none p l r (bare e) (ap (list_any p) (sym same) ∙ lacks);
    }

pub lines_gain : LinesGain
lines_gain = record { entry = line_gains }
