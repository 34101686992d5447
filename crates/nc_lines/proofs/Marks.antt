-- What stands before a token, and what a drain leaves of it.
use Rattle.std.specs.Prelude.{Option, Some, None, slice_get, remove, map}
use Rattle.std.specs.List.{list_any}
use Rattle.std.proofs.Common.{◌≡◌, ◌⊎◌, ℕ, zero, suc, Bool, true, false, List, [], ◌∷◌, take, refl, sym, ap, ◌∙◌, inl, inr, subst}
use Rattle.std.proofs.lemmas.Bool.{or_parts, or_from, cases_Bool, both_ways, eqb-true}
use Rattle.std.proofs.lemmas.List.Elements.{All-head, All-tail}
use Rattle.nc_queue.specs.Entries.{has_block, is_w, is_o, is_wo, block_of, is_block}
use Rattle.nc_queue.specs.Rules.{held_back, orders, drained}
use Rattle.nc_queue.specs.Laws.{Stands, Covered}
use Rattle.nc_queue.specs.declared.entry.Entry.{Entry}
use Rattle.nc_queue.proofs.DrainLaws.{leaves_first}
use Rattle.nc_queue.proofs.FenceLaws.{drained-some, leaves_free, o_is_no_mark, wo_is_mark, wo_orders, wo_leaves, stands-remove, stands_before, covered-remove}
use Rattle.nc_queue.proofs.TestLaws.{some_of_class, none_of_class}
use Rattle.nc_lines.specs.Lines.{bare, line, Marked}
use Rattle.nc_lines.specs.Laws.{OfW, OfBlock, InBlock, Apart}
use Rattle.nc_lines.proofs.Bared.{bare_block, get_line, take_line}

pub stands_or_not : (w t : Entry → Bool) (l : List Entry) → Stands w t l ⊎ (Stands w t l → ⊥)
stands_or_not w t [] = inr (λ no. no)
stands_or_not w t (a ∷ l) = elim (cases_Bool (w a)) [
  | inl is ↦ inl (inl is)
  | inr other ↦ elim (cases_Bool (t a)) [
    | inl ends ↦ inr (λ stands. elim stands [ inl is ↦ both_ways (w a) other is | inr later ↦ both_ways (t a) later.0 ends ])
    | inr on ↦ elim (stands_or_not w t l) [
      | inl later ↦ inl (inr (on, later))
      | inr none ↦ inr (λ stands. elim stands [ inl is ↦ both_ways (w a) other is | inr later ↦ none later.1 ])
    ]
  ]
]

pub uncovered : (p w t : Entry → Bool) (l : List Entry) → Apart p t → Covered p w t l → (Stands w t l → ⊥) → list_any p l ≡ false
uncovered p w t [] apart covered none = refl
uncovered p w t (a ∷ l) apart covered none = elim (cases_Bool (t a)) [
  | inl ends ↦
      let here : p a ≡ false = elim (cases_Bool (p a)) [ inl pa ↦ absurd (both_ways (t a) (apart a pa) ends) | inr other ↦ other ] in
      or_from (p a) (list_any p l) here (covered.1 ends)
  | inr on ↦
      let here : p a ≡ false = elim (cases_Bool (p a)) [ inl pa ↦ absurd (none (inr (on, covered.0 pa))) | inr other ↦ other ] in
      or_from (p a) (list_any p l) here (uncovered p w t l apart covered.2 (λ later. none (inr (on, later))))
]

-- ---- an entry drains

is_one : (b : ℕ) (o : Option ℕ) → is_block b o ≡ true → o ≡ Some b
is_one b None is = absurd cc
is_one b (Some c) is = ap (λ (k : ℕ). Some k) (eqb-true c b is)

is_its : (s b : ℕ) (e : Entry) → has_block s b e ≡ true → block_of s e ≡ Some b
is_its s b e here = is_one b (block_of s e) here

-- one of a block has none of its block before it
first_of_block : (s b : ℕ) (l : List Entry) (i : ℕ) (e : Entry) → drained s l i ≡ Some e → has_block s b e ≡ true → list_any (has_block s b) (take i l) ≡ false
first_of_block s b l i e is here = leaves_first s (take i l) e b (drained-some s l i e is).1 (is_its s b e here)

none_taken : (s b : ℕ) (p : Entry → Bool) (q : List Entry) (i : ℕ) → InBlock s b p q → list_any (has_block s b) (take i q) ≡ false → list_any p (map bare (take i q)) ≡ false
none_taken s b p [] zero all lacks = refl
none_taken s b p [] (suc i) all lacks = refl
none_taken s b p (a ∷ q) zero all lacks = refl
none_taken s b p (a ∷ q) (suc i) all lacks =
    let parts = or_parts (has_block s b a) (list_any (has_block s b) (take i q)) lacks in
    let here : p (bare a) ≡ false = elim (cases_Bool (p (bare a))) [
      | inl is ↦ absurd (both_ways (has_block s b a) parts.0 (All-head (λ (c : Entry). p (bare c) ≡ true → has_block s b c ≡ true) a q all is))
      | inr other ↦ other
    ] in
    or_from (p (bare a)) (list_any p (map bare (take i q))) here (none_taken s b p q i (All-tail (λ (c : Entry). p (bare c) ≡ true → has_block s b c ≡ true) a q all) parts.1)

pub block_cover : (s : ℕ) (q r : List Entry) (i : ℕ) (e : Entry) (p w t : Entry → Bool) (b : ℕ) → drained s q i ≡ Some e → InBlock s b p q → OfBlock s b w → Covered p w t (line q r) → Covered p w t (remove (line q r) i)
block_cover s q r i e p w t b is of_p of_w covered =
    let at = (drained-some s q i e is).0 in
    covered-remove p w t (line q r) i (bare e) (get_line q r i e at)
    (λ we. ap (list_any p) (take_line q r i e at) ∙ none_taken s b p q i of_p (first_of_block s b q i e is (sym (bare_block s b e) ∙ of_w (bare e) we))) covered

marked-remove : (w t : Entry → Bool) (l : List Entry) (i : ℕ) (e : Entry) → slice_get l i ≡ Some e → (is_wo e ≡ true → list_any w (take i l) ≡ false) → t e ≡ false → Marked w t l → Marked w t (remove l i)
marked-remove w t [] i e is first on marked = absurd cc
marked-remove w t (a ∷ l) zero e is first on (inl ends) = let same : e ≡ a = cc in absurd (both_ways (t a) (subst (λ (b : Entry). t b ≡ false) same on) ends)
marked-remove w t (a ∷ l) zero e is first on (inr later) = later.1
marked-remove w t (a ∷ l) (suc i) e is first on (inl ends) = inl ends
marked-remove w t (a ∷ l) (suc i) e is first on (inr later) =
    let kept : w a ≡ true → Stands is_wo t (remove l i) = λ wa. elim (cases_Bool (is_wo e)) [
      | inl wo ↦ absurd (both_ways (w a) (or_parts (w a) (list_any w (take i l)) (first wo)).0 wa)
      | inr other ↦ stands-remove is_wo t l i e is other (later.0 wa)
    ] in
    inr (kept, marked-remove w t l i e is (λ wo. (or_parts (w a) (list_any w (take i l)) (first wo)).1) on later.1)

pub still_marked : (s : ℕ) (l : List Entry) (i : ℕ) (e : Entry) (w t : Entry → Bool) → drained s l i ≡ Some e → OfW w → t e ≡ false → Marked w t l → Marked w t (remove l i)
still_marked s l i e w t is of_w on marked =
    let out = drained-some s l i e is in
    marked-remove w t l i e out.0 (λ wo. none_of_class w is_w of_w (take i l) (wo_leaves s (take i l) e out.1 wo)) on marked

-- a token that no marker holds back has nothing marked before it
before_token : (w t : Entry → Bool) (l : List Entry) (i : ℕ) (e : Entry) → OfW w → Apart w t → slice_get l i ≡ Some e → t e ≡ true → is_o e ≡ true → held_back (take i l) e ≡ false → Marked w t l → Stands w t l → ⊥
unfolding held_back
before_token w t [] i e of_w apart is te oe free marked stands = stands
before_token w t (a ∷ l) zero e of_w apart is te oe free marked stands =
    let same : e ≡ a = cc in
    let ends : t a ≡ true = subst (λ (b : Entry). t b ≡ true) same te in
    elim stands [ inl wa ↦ both_ways (t a) (apart a wa) ends | inr later ↦ both_ways (t a) later.0 ends ]
before_token w t (a ∷ l) (suc i) e of_w apart is te oe free (inl ends) stands = elim stands [ inl wa ↦ both_ways (t a) (apart a wa) ends | inr later ↦ both_ways (t a) later.0 ends ]
before_token w t (a ∷ l) (suc i) e of_w apart is te oe free (inr marks) stands =
    let parts = or_parts (list_any (λ m. orders m a e) (take i l)) (held_back (take i l) e) free in
    elim stands [
      | inl wa ↦
          let wo = stands_before is_wo t l i e (marks.0 wa) is te (wo_is_mark e (o_is_no_mark e oe)) in
          both_ways (list_any (λ m. orders m a e) (take i l)) parts.0 (some_of_class is_wo (λ m. orders m a e) (λ m is_marker. wo_orders m a e is_marker (of_w a wa) oe) (take i l) wo)
      | inr later ↦ before_token w t l i e of_w apart is te oe parts.1 marks.1 later.1
    ]

pub none_before : (s : ℕ) (l : List Entry) (i : ℕ) (e : Entry) (w t : Entry → Bool) → drained s l i ≡ Some e → OfW w → Apart w t → t e ≡ true → is_o e ≡ true → Marked w t l → Stands w t l → ⊥
none_before s l i e w t is of_w apart te oe marked stands =
    let out = drained-some s l i e is in
    before_token w t l i e of_w apart out.0 te oe (leaves_free s (take i l) e out.1 (o_is_no_mark e oe)).not_held marked stands
