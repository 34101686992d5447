-- What the marks show: the pages and the places in use.
use Rattle.std.proofs.Common.{◌≡◌, ℕ, zero, suc, ◌+◌, ◌<◌, Bool, true, false, not, List, [], ◌∷◌, map, length, get_or, inl, inr, refl, sym, ap, subst, ◌∙◌, arith, set, get_or-set_same, get_or-set_other}
use Rattle.std.specs.Prelude.{◌⊎◌, ◌≢◌, ◌&&◌, ◌||◌, if◌then◌else◌}
use Rattle.std.specs.List.{flat_map, range_with_len}
use Rattle.std.specs.Ordering.{nat_cmp, eq_by_cmp}
use Rattle.std.specs.Cmp.{nat_cmp_total}
use Rattle.std.specs.FinSet as fin
use Rattle.std.specs.FinSet.{contains-insert, contains-remove, same_set, nat_cmp-IsAntisymmetric}
use Rattle.std.proofs.lemmas.Bool.{cases_eq}
use Rattle.std.proofs.lemmas.Bool.Decides.{nat_tests}
use Rattle.std.proofs.lemmas.List.{get_or_default, length-set}
use Rattle.nc_plan.specs.Plans.{In}
use Rattle.nc_plan.proofs.PlanLaws.{in_flat_map, in_range, range_of_in}
use Rattle.nc_dmapool.specs.Layouts.{Layout, offset_of}
use Rattle.nc_dmapool.specs.Pieces.{with_piece, without_piece, empty_pool}
use Rattle.nc_dmapool.specs.Marks.{Marks, ArePages, IsSpot, used_of, used_set, shown, with_mark, no_page, page_at, mark_at}
use Rattle.nc_dmapool.proofs.Among.{of_flat_map, in_at, at_in, set_in, in_set}
use Rattle.nc_dmapool.proofs.SameSpot.{same_spot}

-- a spot with a mark
pub record IsUsed (l : Layout) (ps : List Marks) (x : ℕ) : Type 0 where
  pub page : ℕ
  pub number : ℕ
  pub spot : IsSpot l ps page number x
  pub used : mark_at ps page number ≡ true

one_in : (x y : ℕ) (b : Bool) → In x (if b then y ∷ [] else []) → (b ≡ true) × (y ≡ x)
one_in x y true (inl e) = (refl, e)
one_in x y true (inr k) = elim k [ ]
one_in x y false k = elim k [ ]

in_one : (x y : ℕ) (b : Bool) → b ≡ true → y ≡ x → In x (if b then y ∷ [] else [])
in_one x y true t e = inl e
in_one x y false t e = absurd cc

pub used_is : (l : Layout) (ps : List Marks) (x : ℕ) → fin.contains (used_set l ps) x ≡ true → IsUsed l ps x
unfolding used_set
used_is l ps x e =
    let a = of_flat_map (used_of l) x ps (set_in x (flat_map (used_of l) ps) e) in
    let p : Marks = a.0 in
    let i = at_in p ps no_page a.1 in
    let b = of_flat_map (λ n. if get_or p.marks n false then (p.at + offset_of l n) ∷ [] else []) x (range_with_len 0 (length p.marks)) a.2 in
    let n : ℕ = b.0 in
    let lt : n < length p.marks = (let r = range_of_in 0 (length p.marks) n b.1 in omega (arith, r.1)) in
    let o = one_in x (p.at + offset_of l n) (get_or p.marks n false) b.2 in
    record {
      page = i.0;
      number = n;
      spot = record {
        page = i.1;
        there = subst (λ (q : Marks). n < length q.marks) (sym i.2) lt;
        is = sym o.1 ∙ ap (λ (q : Marks). q.at + offset_of l n) (sym i.2);
      };
      used = ap (λ (q : Marks). get_or q.marks n true) i.2 ∙ get_or_default p.marks n true false lt ∙ o.0;
    }

pub is_used : (l : Layout) (ps : List Marks) (x : ℕ) → IsUsed l ps x → fin.contains (used_set l ps) x ≡ true
unfolding used_set
is_used l ps x u =
    let p : Marks = page_at ps u.page in
    let n : ℕ = u.number in
    in_set x (flat_map (used_of l) ps)
    (in_flat_map (used_of l) p x ps (in_at ps u.page no_page u.spot.page)
    (in_flat_map (λ n. if get_or p.marks n false then (p.at + offset_of l n) ∷ [] else []) n x (range_with_len 0 (length p.marks)) (in_range 0 (length p.marks) n (omega arith) (omega (arith, u.spot.there)))
    (in_one x (p.at + offset_of l n) (get_or p.marks n false) (get_or_default p.marks n false true u.spot.there ∙ u.used) (sym u.spot.is))))

-- sets with the same members

bool_same : (b c : Bool) → (b ≡ true → c ≡ true) → (c ≡ true → b ≡ true) → b ≡ c
bool_same true c f g = sym (f refl)
bool_same false true f g = g refl
bool_same false false f g = refl

pub sets_same : (s t : fin.FinSet nat_cmp) → ((x : ℕ) → fin.contains s x ≡ true → fin.contains t x ≡ true) → ((x : ℕ) → fin.contains t x ≡ true → fin.contains s x ≡ true) → s ≡ t
sets_same s t f g = same_set nat_cmp_total nat_cmp-IsAntisymmetric s t (λ x. bool_same (fin.contains s x) (fin.contains t x) (f x) (g x))

tied : (x y : ℕ) → eq_by_cmp nat_cmp x y ≡ true → x ≡ y
tied x y e = grind (arith, nat_tests)

untied : (x : ℕ) → eq_by_cmp nat_cmp x x ≡ true
untied x = grind (arith, nat_tests)

or_of : (b c : Bool) → (b || c) ≡ true → (b ≡ true) ⊎ (c ≡ true)
or_of true c e = inl refl
or_of false c e = inr e

or_true : (b c : Bool) → (b ≡ true) ⊎ (c ≡ true) → (b || c) ≡ true
or_true true c o = refl
or_true false c (inl e) = absurd cc
or_true false c (inr e) = e

pub of_insert : (s : fin.FinSet nat_cmp) (y x : ℕ) → fin.contains (fin.insert s y) x ≡ true → (x ≡ y) ⊎ (fin.contains s x ≡ true)
of_insert s y x e = elim (or_of (eq_by_cmp nat_cmp x y) (fin.contains s x) (sym (contains-insert nat_cmp_total s y x) ∙ e)) [ inl t ↦ inl (tied x y t) | inr k ↦ inr k ]

pub in_insert : (s : fin.FinSet nat_cmp) (y x : ℕ) → (x ≡ y) ⊎ (fin.contains s x ≡ true) → fin.contains (fin.insert s y) x ≡ true
in_insert s y x (inl e) = contains-insert nat_cmp_total s y x ∙ or_true (eq_by_cmp nat_cmp x y) (fin.contains s x) (inl (ap (λ z. eq_by_cmp nat_cmp x z) (sym e) ∙ untied x))
in_insert s y x (inr k) = contains-insert nat_cmp_total s y x ∙ or_true (eq_by_cmp nat_cmp x y) (fin.contains s x) (inr k)

not_and : (b c : Bool) → (not b && c) ≡ true → (b ≡ false) × (c ≡ true)
not_and true c e = absurd cc
not_and false c e = (refl, e)

pub of_remove : (s : fin.FinSet nat_cmp) (y x : ℕ) → fin.contains (fin.remove s y) x ≡ true → (x ≡ y → ⊥) × (fin.contains s x ≡ true)
of_remove s y x e =
    let r = not_and (eq_by_cmp nat_cmp x y) (fin.contains s x) (sym (contains-remove nat_cmp_total s y x) ∙ e) in
    (λ same. let t : true ≡ false = sym (ap (λ z. eq_by_cmp nat_cmp x z) (sym same) ∙ untied x) ∙ r.0 in cc, r.1)

apart : (x y : ℕ) → (x ≡ y → ⊥) → eq_by_cmp nat_cmp x y ≡ false
apart x y ne = grind (arith, nat_tests)

and_not : (b c : Bool) → b ≡ false → c ≡ true → (not b && c) ≡ true
and_not true c e k = absurd cc
and_not false c e k = k

pub in_remove : (s : fin.FinSet nat_cmp) (y x : ℕ) → (x ≡ y → ⊥) → fin.contains s x ≡ true → fin.contains (fin.remove s y) x ≡ true
in_remove s y x ne k = contains-remove nat_cmp_total s y x ∙ and_not (eq_by_cmp nat_cmp x y) (fin.contains s x) (apart x y ne) k

-- one place is marked

pub bool_cases : (b : Bool) → (b ≡ true) ⊎ (b ≡ false)
bool_cases true = inl refl
bool_cases false = inr refl

marked_page : (ps : List Marks) (i n : ℕ) (b : Bool) → i < length ps → page_at (with_mark ps i n b) i ≡ record (page_at ps i) { marks = set (page_at ps i).marks n b }
marked_page ps i n b lt = get_or-set_same ps i (record (page_at ps i) { marks = set (page_at ps i).marks n b }) no_page lt

other_page : (ps : List Marks) (i n : ℕ) (b : Bool) (j : ℕ) → j ≢ i → page_at (with_mark ps i n b) j ≡ page_at ps j
other_page ps i n b j ne = get_or-set_other ps i j (record (page_at ps i) { marks = set (page_at ps i).marks n b }) no_page ne

marked_length : (ps : List Marks) (i n : ℕ) (b : Bool) → length (with_mark ps i n b) ≡ length ps
marked_length ps i n b = length-set ps i (record (page_at ps i) { marks = set (page_at ps i).marks n b })

marked_at : (ps : List Marks) (i n : ℕ) (b : Bool) → i < length ps → (j : ℕ) → (page_at (with_mark ps i n b) j).at ≡ (page_at ps j).at
marked_at ps i n b lt j =
    elim (cases_eq j i) [
      | inl same ↦ ap (λ k. (page_at (with_mark ps i n b) k).at) same ∙ ap (λ (p : Marks). p.at) (marked_page ps i n b lt) ∙ ap (λ k. (page_at ps k).at) (sym same)
      | inr ne ↦ ap (λ (p : Marks). p.at) (other_page ps i n b j ne)
    ]

marked_count : (ps : List Marks) (i n : ℕ) (b : Bool) → i < length ps → (j : ℕ) → length (page_at (with_mark ps i n b) j).marks ≡ length (page_at ps j).marks
marked_count ps i n b lt j =
    elim (cases_eq j i) [
      | inl same ↦ ap (λ k. length (page_at (with_mark ps i n b) k).marks) same ∙ ap (λ (p : Marks). length p.marks) (marked_page ps i n b lt) ∙ length-set (page_at ps i).marks n b ∙ ap (λ k. length (page_at ps k).marks) (sym same)
      | inr ne ↦ ap (λ (p : Marks). length p.marks) (other_page ps i n b j ne)
    ]

marked_here : (ps : List Marks) (i n : ℕ) (b : Bool) → i < length ps → n < length (page_at ps i).marks → mark_at (with_mark ps i n b) i n ≡ b
marked_here ps i n b lt there = ap (λ (p : Marks). get_or p.marks n true) (marked_page ps i n b lt) ∙ get_or-set_same (page_at ps i).marks n b true there

marked_there : (ps : List Marks) (i n : ℕ) (b : Bool) (j m : ℕ) → i < length ps → ((j ≡ i) × (m ≡ n) → ⊥) → mark_at (with_mark ps i n b) j m ≡ mark_at ps j m
marked_there ps i n b j m lt ne =
    elim (cases_eq j i) [
      | inl same ↦ (
          let other : m ≢ n = λ e. ne (same, e) in
          ap (λ k. mark_at (with_mark ps i n b) k m) same ∙ ap (λ (p : Marks). get_or p.marks m true) (marked_page ps i n b lt) ∙ get_or-set_other (page_at ps i).marks n m b true other ∙ ap (λ k. mark_at ps k m) (sym same)
          )
      | inr off ↦ ap (λ (p : Marks). get_or p.marks m true) (other_page ps i n b j off)
    ]

pub kept_mark : (l : Layout) (ps : List Marks) (i n : ℕ) (b : Bool) → i < length ps → ArePages l ps → ArePages l (with_mark ps i n b)
kept_mark l ps i n b lt is =
    record {
      layout = is.layout;
      each = λ j there. let p = is.each j (omega (arith, marked_length ps i n b, there)) in record {
        whole = omega (arith, marked_at ps i n b lt j, p.whole);
        ends = omega (arith, marked_at ps i n b lt j, p.ends);
        marks = marked_count ps i n b lt j ∙ p.marks;
      };
      apart = λ j k lt' lt'' e. is.apart j k (omega (arith, marked_length ps i n b, lt')) (omega (arith, marked_length ps i n b, lt'')) (sym (marked_at ps i n b lt j) ∙ e ∙ marked_at ps i n b lt k);
    }

spot_mark : (l : Layout) (ps : List Marks) (i n : ℕ) (b : Bool) (j m x : ℕ) → i < length ps → IsSpot l ps j m x → IsSpot l (with_mark ps i n b) j m x
spot_mark l ps i n b j m x lt s =
    record {
      page = omega (arith, marked_length ps i n b, s.page);
      there = omega (arith, marked_count ps i n b lt j, s.there);
      is = s.is ∙ ap (λ a. a + offset_of l m) (sym (marked_at ps i n b lt j));
    }

spot_unmark : (l : Layout) (ps : List Marks) (i n : ℕ) (b : Bool) (j m x : ℕ) → i < length ps → IsSpot l (with_mark ps i n b) j m x → IsSpot l ps j m x
spot_unmark l ps i n b j m x lt s =
    record {
      page = omega (arith, marked_length ps i n b, s.page);
      there = omega (arith, marked_count ps i n b lt j, s.there);
      is = s.is ∙ ap (λ a. a + offset_of l m) (marked_at ps i n b lt j);
    }

at_spot : (l : Layout) (ps : List Marks) (i j n m x y : ℕ) → IsSpot l ps i n x → IsSpot l ps j m y → (j ≡ i) × (m ≡ n) → y ≡ x
at_spot l ps i j n m x y s t e = t.is ∙ (λ k. (page_at ps (e.0 k)).at + offset_of l (e.1 k)) ∙ sym s.is

same_or_not : (i j n m : ℕ) → ((j ≡ i) × (m ≡ n)) ⊎ ((j ≡ i) × (m ≡ n) → ⊥)
same_or_not i j n m =
    elim (cases_eq j i) [
      | inl e ↦ elim (cases_eq m n) [ inl f ↦ inl (e, f) | inr off ↦ inr (λ p. off p.1) ]
      | inr off ↦ inr (λ p. off p.0)
    ]

pub used_more : (l : Layout) (ps : List Marks) (i n x : ℕ) → IsSpot l ps i n x → used_set l (with_mark ps i n true) ≡ fin.insert (used_set l ps) x
used_more l ps i n x s =
    sets_same (used_set l (with_mark ps i n true)) (fin.insert (used_set l ps) x)
    (λ y e. let u = used_is l (with_mark ps i n true) y e in
    let t = spot_unmark l ps i n true u.page u.number y s.page u.spot in
    in_insert (used_set l ps) x y
    (elim (same_or_not i u.page n u.number) [
      | inl same ↦ inl (at_spot l ps i u.page n u.number x y s t same)
      | inr off ↦ inr (is_used l ps y (record { page = u.page; number = u.number; spot = t; used = sym (marked_there ps i n true u.page u.number s.page off) ∙ u.used }))
    ]))
    (λ y e. elim (of_insert (used_set l ps) x y e) [
      | inl same ↦ is_used l (with_mark ps i n true) y (record { page = i; number = n; spot = spot_mark l ps i n true i n y s.page (subst (IsSpot l ps i n) (sym same) s); used = marked_here ps i n true s.page s.there })
      | inr old ↦ (
          let u = used_is l ps y old in
          is_used l (with_mark ps i n true) y (record {
            page = u.page;
            number = u.number;
            spot = spot_mark l ps i n true u.page u.number y s.page u.spot;
            used = elim (same_or_not i u.page n u.number) [
              | inl same ↦ (λ k. mark_at (with_mark ps i n true) (same.0 k) (same.1 k)) ∙ marked_here ps i n true s.page s.there
              | inr off ↦ marked_there ps i n true u.page u.number s.page off ∙ u.used
            ];
          })
          )
    ])

pub used_less : (l : Layout) (ps : List Marks) (i n x : ℕ) → ArePages l ps → IsSpot l ps i n x → used_set l (with_mark ps i n false) ≡ fin.remove (used_set l ps) x
used_less l ps i n x is s =
    sets_same (used_set l (with_mark ps i n false)) (fin.remove (used_set l ps) x)
    (λ y e. let u = used_is l (with_mark ps i n false) y e in
    let t = spot_unmark l ps i n false u.page u.number y s.page u.spot in
    elim (same_or_not i u.page n u.number) [
      | inl same ↦ absurd (let no : false ≡ true = sym ((λ k. mark_at (with_mark ps i n false) (same.0 k) (same.1 k)) ∙ marked_here ps i n false s.page s.there) ∙ u.used in cc)
      | inr off ↦ in_remove (used_set l ps) x y
          (λ same. off (same_spot l ps u.page i u.number n y is t (subst (IsSpot l ps i n) (sym same) s)))
          (is_used l ps y (record { page = u.page; number = u.number; spot = t; used = sym (marked_there ps i n false u.page u.number s.page off) ∙ u.used }))
    ])
    (λ y e. let r = of_remove (used_set l ps) x y e in
    let u = used_is l ps y r.1 in
    is_used l (with_mark ps i n false) y (record {
      page = u.page;
      number = u.number;
      spot = spot_mark l ps i n false u.page u.number y s.page u.spot;
      used = marked_there ps i n false u.page u.number s.page (λ same. r.0 (at_spot l ps i u.page n u.number x y s u.spot same)) ∙ u.used;
    }))

-- the pages are as before

ats_set : (ps : List Marks) (i : ℕ) (q : Marks) → q.at ≡ (page_at ps i).at → map (λ (p : Marks). p.at) (set ps i q) ≡ map (λ (p : Marks). p.at) ps
ats_set [] i q e = refl
ats_set (p ∷ ps) zero q e = ap (λ a. a ∷ map (λ (p : Marks). p.at) ps) e
ats_set (p ∷ ps) (suc i) q e = ap (λ ats. p.at ∷ ats) (ats_set ps i q e)

pub ats_mark : (ps : List Marks) (i n : ℕ) (b : Bool) → map (λ (p : Marks). p.at) (with_mark ps i n b) ≡ map (λ (p : Marks). p.at) ps
ats_mark ps i n b = ats_set ps i (record (page_at ps i) { marks = set (page_at ps i).marks n b }) refl

pub shown_more : (l : Layout) (ps : List Marks) (i n x : ℕ) → IsSpot l ps i n x → shown l (with_mark ps i n true) ≡ with_piece (shown l ps) x
shown_more l ps i n x s = λ k. record { layout = l; pages = ats_mark ps i n true k; used = used_more l ps i n x s k }

pub shown_less : (l : Layout) (ps : List Marks) (i n x : ℕ) → ArePages l ps → IsSpot l ps i n x → shown l (with_mark ps i n false) ≡ without_piece (shown l ps) x
shown_less l ps i n x is s = λ k. record { layout = l; pages = ats_mark ps i n false k; used = used_less l ps i n x is s k }

pub shown_none : (l : Layout) → shown l [] ≡ empty_pool l
unfolding used_set
shown_none l = refl
