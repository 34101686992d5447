-- The lowest spot, page by page.
use Rattle.std.proofs.Common.{◌≡◌, ℕ, ◌+◌, ◌<◌, ◌≤◌, Bool, true, List, length, get_or, inl, inr, refl, sym, ap, subst, ◌∙◌, arith, Option, Some, None}
use Rattle.std.specs.Prelude.{◌⊎◌}
use Rattle.std.proofs.lemmas.Bool.{cases_lt}
use Rattle.nc_dmapool.specs.declared.spots.Spot.{Spot}
use Rattle.nc_dmapool.specs.Layouts.{Layout, IsLayout, offset_of}
use Rattle.nc_dmapool.specs.Marks.{Marks, IsFirstMark, HasNoMark, IsFirstOn, IsLower, Lowers, IsLowest, HasNone, Finds, IsSpot, no_page, page_at, mark_at}
use Rattle.std.proofs.lemmas.List.{get_or_default}
use Rattle.nc_dmapool.proofs.Powers.{cuts}
use Rattle.nc_dmapool.proofs.Offsets.{offset_grows}

-- the first place of a page that is marked so is the lowest
first_is_lowest : (l : Layout) (p : Marks) (mark : Bool) (k : ℕ) → IsLayout l → IsFirstMark mark p.marks k → (n : ℕ) → get_or p.marks n true ≡ mark → p.at + offset_of l k ≤ p.at + offset_of l n
first_is_lowest l p mark k is f n e =
    elim (cases_lt n k) [
      | inl lt ↦ absurd (f.lowest n lt e)
      | inr ge ↦ elim (cases_lt k n) [
        | inl gt ↦ omega (arith, offset_grows l (cuts l is) k n gt)
        | inr le ↦ (let same : k ≡ n = omega arith in omega (arith, ap (offset_of l) same))
      ]
    ]

pub lower_than : (best : Option Spot) (s : Spot) (at : ℕ) → best ≡ Some s → at ≤ s.at → (r : Spot) → best ≡ Some r → at ≤ r.at
lower_than best s at was le r e = let same : Some s ≡ Some r = sym was ∙ e in let t : s ≡ r = cc in omega (arith, ap (λ (q : Spot). q.at) t)

pub none_yet : (best : Option Spot) (at : ℕ) → best ≡ None → (r : Spot) → best ≡ Some r → at ≤ r.at
none_yet best at was r e = let same : None ≡ Some r = sym was ∙ e in absurd cc

pub lower_keeps : (l : Layout) (p : Marks) (mark : Bool) (best : Option Spot) (i k at : ℕ) (s : Spot) → IsLayout l → IsFirstMark mark p.marks k → at ≡ p.at + offset_of l k → best ≡ Some s → s.at < at → IsLower l mark best i p s
lower_keeps l p mark best i k at s is f e was lt =
    record {
      from = inl was;
      low = λ r e'. let same : Some s ≡ Some r = sym was ∙ e' in let t : s ≡ r = cc in omega (arith, ap (λ (q : Spot). q.at) t);
      lowest = λ n there m. omega (arith, first_is_lowest l p mark k is f n m, e);
    }

pub lower_takes : (l : Layout) (p : Marks) (mark : Bool) (best : Option Spot) (i k at : ℕ) → IsLayout l → IsFirstMark mark p.marks k → at ≡ p.at + offset_of l k → ((r : Spot) → best ≡ Some r → at ≤ r.at) → IsLower l mark best i p (record { at = at; page = i; number = k })
lower_takes l p mark best i k at is f e low =
    record {
      from = inr (record { page = refl; there = f.there; is = f.is; at = e });
      low = low;
      lowest = λ n there m. omega (arith, first_is_lowest l p mark k is f n m, e);
    }

-- the lowest of k pages and one more

pub page_is : (ps : List Marks) (k : ℕ) (p : Marks) → k < length ps → p ≡ get_or ps k p → page_at ps k ≡ p
page_is ps k p lt e = get_or_default ps k no_page p lt ∙ sym e

here_or_before : (i k : ℕ) → i < k + 1 → (i < k) ⊎ (i ≡ k)
here_or_before i k lt = elim (cases_lt i k) [ inl less ↦ inl less | inr ge ↦ inr (omega arith) ]

-- a spot of the page, as one of all pages
spot_on : (l : Layout) (mark : Bool) (ps : List Marks) (k : ℕ) (p : Marks) (s : Spot) → k < length ps → page_at ps k ≡ p → IsFirstOn l mark k p s → IsSpot l ps s.page s.number s.at × (mark_at ps s.page s.number ≡ mark)
spot_on l mark ps k p s lt e f =
    let at_page : page_at ps s.page ≡ p = ap (page_at ps) f.page ∙ e in (
      record {
        page = omega (arith, f.page);
        there = subst (λ (q : Marks). s.number < length q.marks) (sym at_page) f.there;
        is = f.at ∙ ap (λ (q : Marks). q.at + offset_of l s.number) (sym at_page);
      },
      ap (λ (q : Marks). get_or q.marks s.number true) at_page ∙ f.is,
    )

spot_from : (l : Layout) (mark : Bool) (ps : List Marks) (k : ℕ) (p : Marks) (last : Option Spot) (s : Spot) → k < length ps → page_at ps k ≡ p → Finds l mark ps k last → (last ≡ Some s) ⊎ IsFirstOn l mark k p s → IsSpot l ps s.page s.number s.at × (mark_at ps s.page s.number ≡ mark)
spot_from l mark ps k p last s lt e f (inl was) = let g : IsLowest l mark ps k s = subst (Finds l mark ps k) was f in (g.spot, g.is)
spot_from l mark ps k p last s lt e f (inr on) = spot_on l mark ps k p s lt e on

lower_before : (l : Layout) (mark : Bool) (ps : List Marks) (k : ℕ) (last : Option Spot) (s : Spot) → Finds l mark ps k last → ((r : Spot) → last ≡ Some r → s.at ≤ r.at) → (i n : ℕ) → i < k → n < length (page_at ps i).marks → mark_at ps i n ≡ mark → s.at ≤ (page_at ps i).at + offset_of l n
lower_before l mark ps k None s f low i n lt there m = absurd (f i n lt there m)
lower_before l mark ps k (Some r) s f low i n lt there m = omega (arith, low r refl, f.lowest i n lt there m)

lower_here : (l : Layout) (mark : Bool) (ps : List Marks) (k : ℕ) (p : Marks) (s : Spot) → page_at ps k ≡ p → ((n : ℕ) → n < length p.marks → get_or p.marks n true ≡ mark → s.at ≤ p.at + offset_of l n) → (i n : ℕ) → i ≡ k → n < length (page_at ps i).marks → mark_at ps i n ≡ mark → s.at ≤ (page_at ps i).at + offset_of l n
lower_here l mark ps k p s e low i n same there m =
    let at_page : page_at ps i ≡ p = ap (page_at ps) same ∙ e in
    subst (λ (q : Marks). s.at ≤ q.at + offset_of l n) (sym at_page)
    (low n (subst (λ (q : Marks). n < length q.marks) at_page there) (sym (ap (λ (q : Marks). get_or q.marks n true) at_page) ∙ m))

none_more : (l : Layout) (mark : Bool) (ps : List Marks) (k : ℕ) (p : Marks) → page_at ps k ≡ p → HasNone mark ps k → HasNoMark mark p.marks → HasNone mark ps (k + 1)
none_more l mark ps k p e before here i n lt there m =
    elim (here_or_before i k lt) [
      | inl less ↦ before i n less there m
      | inr same ↦ (
          let at_page : page_at ps i ≡ p = ap (page_at ps) same ∙ e in
          here n (subst (λ (q : Marks). n < length q.marks) at_page there) (sym (ap (λ (q : Marks). get_or q.marks n true) at_page) ∙ m)
          )
    ]

pub best_more : (l : Layout) (mark : Bool) (ps : List Marks) (k : ℕ) (p : Marks) → k < length ps → page_at ps k ≡ p → (last next : Option Spot) → Finds l mark ps k last → Lowers l mark last k p next → Finds l mark ps (k + 1) next
best_more l mark ps k p lt e last None f g = none_more l mark ps k p e (subst (Finds l mark ps k) g.0 f) g.1
best_more l mark ps k p lt e last (Some s) f g =
    let from = spot_from l mark ps k p last s lt e f g.from in
    record {
      spot = from.0;
      is = from.1;
      lowest = λ i n more there m. elim (here_or_before i k more) [
        | inl less ↦ lower_before l mark ps k last s f g.low i n less there m
        | inr same ↦ lower_here l mark ps k p s e g.lowest i n same there m
      ];
    }
