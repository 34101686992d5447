-- One page of the pages: found, taken, and given back.
use Rattle.std.proofs.Common.{◌≡◌, ℕ, zero, suc, ◌+◌, ◌-◌, ◌*◌, ◌/◌, ◌<◌, ◌≤◌, Bool, true, false, List, [], ◌∷◌, ◌++◌, map, length, get_or, take, drop, replicate, set, inl, inr, refl, sym, ap, subst, ◌∙◌, arith, Option, Some, None, get_or-set_same, get_or-set_other}
use Rattle.std.specs.Prelude.{◌≢◌, ◌&&◌, nat_le, slice_range}
use Rattle.std.specs.List.{list_all}
use Rattle.std.proofs.lemmas.Bool.{cases_eq}
use Rattle.std.proofs.lemmas.Bool.Decides.{nat_tests}
use Rattle.std.proofs.lemmas.List.{length-set, drop_more}
use Rattle.nc_num.specs.declared.places.Span.{Span}
use Rattle.nc_coherent.specs.Pages.{PageMap, is_run, lowest_run, lowest_span, run_span, span_of_run, IsPages, pages_of, page_count, marked, with_pages, IsLowest}
use Rattle.nc_coherent.proofs.Runs.{lowest_is_lowest}
use Rattle.nc_dmapool.specs.Pieces.{IsTaken, page_span}

-- a page of these, by its number, and whether it is free
pub record IsPageOf (map : PageMap) (free : Bool) (x : ℕ) : Type 0 where
  pub number : ℕ
  pub there : number < length map.free
  pub starts : x ≡ map.at + 4096 * number
  pub is : get_or map.free number true ≡ free

both : (a b : Bool) → (a && b) ≡ true → (a ≡ true) × (b ≡ true)
both true b e = (refl, e)
both false b e = absurd cc

slice_one : (xs : List Bool) (p : ℕ) (d : Bool) → p < length xs → slice_range xs p (p + 1) ≡ get_or xs p d ∷ []
slice_one xs p d lt = let one : p + 1 - p ≡ 1 = omega arith in ap (λ n. take n (drop p xs)) one ∙ ap (take 1) (drop_more xs p d lt)

all_one : (b : Bool) (xs : List Bool) → xs ≡ b ∷ [] → list_all (λ b. b) xs ≡ true → b ≡ true
all_one true xs e all = refl
all_one false xs e all = sym (ap (list_all (λ b. b)) e) ∙ all

run_is_free : (free : List Bool) (p : ℕ) → is_run free 1 p ≡ true → (p < length free) × (get_or free p true ≡ true)
run_is_free free p e =
    let r = both (nat_le (p + 1) (length free)) (list_all (λ b. b) (slice_range free p (p + 1))) e in
    let le : p + 1 ≤ length free = grind (arith, nat_tests) in
    let lt : p < length free = omega arith in
    (lt, all_one (get_or free p true) (slice_range free p (p + 1)) (slice_one free p true lt) r.1)

found_by : (map : PageMap) (span : Span) (o : Option ℕ) → IsLowest map.free 1 o → span_of_run map 1 o ≡ Some span → IsPageOf map true span.at × (span ≡ page_span span.at)
found_by map span None f e = absurd cc
found_by map span (Some p) f e =
    let same : run_span map 1 p ≡ span = cc in
    let r = run_is_free map.free p f.starts in (
      record { number = p; there = r.0; starts = ap (λ (s : Span). s.at) (sym same); is = r.1 },
      sym same ∙ ap page_span (ap (λ (s : Span). s.at) same),
    )

pub found : (map : PageMap) (span : Span) → lowest_span map 1 ≡ Some span → IsPageOf map true span.at × (span ≡ page_span span.at)
found map span e = found_by map span (lowest_run map.free 1) (lowest_is_lowest map.free 1 (omega arith)) e

first_is : (at p : ℕ) → (at + 4096 * p - at) / 4096 ≡ p
first_is at p = omega arith

pub are_pages : (map : PageMap) (b : Bool) (x : ℕ) → IsPageOf map b x → IsPages map (page_span x)
are_pages map b x is =
    record { some = omega arith; starts = omega (arith, is.starts); aligned = omega (arith, is.starts); whole = refl; ends = omega (arith, is.starts, is.there) }

pub pages_are : (map : PageMap) (b : Bool) (x : ℕ) → IsPageOf map b x → pages_of map (page_span x) ≡ replicate (page_count (page_span x)) b
pages_are map b x is =
    let first : (x - map.at) / 4096 ≡ is.number = omega (arith, is.starts) in
    ap (λ f. slice_range map.free f (f + 1)) first ∙ slice_one map.free is.number true is.there ∙ ap (λ b. b ∷ []) is.is

marked_is : (free : List Bool) (p : ℕ) (b : Bool) → p < length free → marked free p 1 b ≡ set free p b
unfolding marked
marked_is [] p b lt = absurd (omega arith)
marked_is (x ∷ xs) zero b lt = refl
marked_is (x ∷ xs) (suc p) b lt = let up : suc p + 1 ≡ suc (p + 1) = omega arith in ap (λ n. (x ∷ take p xs) ++ b ∷ [] ++ drop n (x ∷ xs)) up ∙ ap (λ ys. x ∷ ys) (marked_is xs p b (omega arith))

pub with_page_is : (map : PageMap) (c b : Bool) (x : ℕ) (is : IsPageOf map c x) → with_pages map (page_span x) b ≡ record map { free = set map.free is.number b }
with_page_is map c b x is =
    let first : (x - map.at) / 4096 ≡ is.number = omega (arith, is.starts) in
    ap (λ f. let m : PageMap = record map { free = marked map.free f 1 b } in m) first
    ∙ ap (λ fs. let m : PageMap = record map { free = fs } in m) (marked_is map.free is.number b is.there)

-- where it stands afterwards

pub page_taken : (map : PageMap) (x : ℕ) → IsTaken map x → IsPageOf map false x
page_taken map x is = record { number = is.number; there = is.there; starts = is.starts; is = is.taken }

pub taken_now : (map : PageMap) (c : Bool) (x : ℕ) → IsPageOf map c x → IsTaken (with_pages map (page_span x) false) x
taken_now map c x is =
    subst (λ (m : PageMap). IsTaken m x) (sym (with_page_is map c false x is))
    (record { number = is.number; there = omega (arith, length-set map.free is.number false, is.there); starts = is.starts; taken = get_or-set_same map.free is.number false true is.there })

set_false : (free : List Bool) (p q : ℕ) → q < length free → get_or free q true ≡ false → get_or (set free p false) q true ≡ false
set_false free p q lt e =
    elim (cases_eq q p) [
      | inl same ↦ ap (λ k. get_or (set free k false) q true) (sym same) ∙ get_or-set_same free q false true lt
      | inr ne ↦ get_or-set_other free p q false true ne ∙ e
    ]

pub taken_still : (map : PageMap) (c : Bool) (y x : ℕ) → IsPageOf map c y → IsTaken map x → IsTaken (with_pages map (page_span y) false) x
taken_still map c y x is t =
    subst (λ (m : PageMap). IsTaken m x) (sym (with_page_is map c false y is))
    (record { number = t.number; there = omega (arith, length-set map.free is.number false, t.there); starts = t.starts; taken = set_false map.free is.number t.number t.there t.taken })

pub taken_beside : (map : PageMap) (c : Bool) (y x : ℕ) → IsPageOf map c y → IsTaken map x → x ≢ y → IsTaken (with_pages map (page_span y) true) x
taken_beside map c y x is t off =
    let ne : t.number ≢ is.number = λ e. off (omega (arith, t.starts, is.starts, e)) in
    subst (λ (m : PageMap). IsTaken m x) (sym (with_page_is map c true y is))
    (record { number = t.number; there = omega (arith, length-set map.free is.number true, t.there); starts = t.starts; taken = get_or-set_other map.free is.number t.number true true ne ∙ t.taken })

-- a free page is none of those taken
pub free_apart : (map : PageMap) (y x : ℕ) → IsPageOf map true y → IsTaken map x → x ≢ y
free_apart map y x is t e =
    let same : t.number ≡ is.number = omega (arith, t.starts, is.starts, e) in
    let no : false ≡ true = sym t.taken ∙ ap (λ k. get_or map.free k true) same ∙ is.is in
    cc
