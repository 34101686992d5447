-- Each place of RAM is at most one spot.
use Rattle.std.proofs.Common.{◌≡◌, ℕ, ◌+◌, ◌-◌, ◌<◌, ◌≤◌, Bool, true, false, List, length, get_or, inl, inr, sym, ap, ◌∙◌, arith, None}
use Rattle.std.specs.Prelude.{◌&&◌, nat_le, nat_lt}
use Rattle.std.proofs.lemmas.Bool.{cases_lt}
use Rattle.std.proofs.lemmas.Bool.Decides.{nat_tests}
use Rattle.std.proofs.lemmas.List.{get_or_default, get_or_past}
use Rattle.nc_dmapool.specs.Layouts.{Layout, offset_of, place_count}
use Rattle.nc_dmapool.specs.Marks.{Marks, ArePages, IsSpot, FindsUsed, is_on, page_at, mark_at}
use Rattle.nc_dmapool.proofs.Powers.{cuts}
use Rattle.nc_dmapool.proofs.Offsets.{offset_within, offset_same}

on_by : (at x : ℕ) → at ≤ x → x < at + 4096 → (nat_le at x && nat_lt (x - at) 4096) ≡ true
on_by at x le lt = let under : x - at < 4096 = omega arith in grind (arith, nat_tests)

of_on : (at x : ℕ) → (nat_le at x && nat_lt (x - at) 4096) ≡ true → (at ≤ x) × (x < at + 4096)
of_on at x e = let le : at ≤ x = grind (arith, nat_tests) in let under : x - at < 4096 = grind (arith, nat_tests) in (le, omega arith)

number_there : (l : Layout) (ps : List Marks) (i n x : ℕ) → ArePages l ps → IsSpot l ps i n x → n < place_count l
number_there l ps i n x is s = omega (arith, s.there, (is.each i s.page).marks)

pub spot_is_on : (l : Layout) (ps : List Marks) (i n x : ℕ) → ArePages l ps → IsSpot l ps i n x → is_on (page_at ps i) x ≡ true
spot_is_on l ps i n x is s =
    let below : offset_of l n < 4096 = offset_within l (cuts l is.layout) n (number_there l ps i n x is s) in
    on_by (page_at ps i).at x (omega (arith, s.is)) (omega (arith, s.is))

pub same_page : (l : Layout) (ps : List Marks) (i j x : ℕ) → ArePages l ps → i < length ps → j < length ps → is_on (page_at ps i) x ≡ true → is_on (page_at ps j) x ≡ true → i ≡ j
same_page l ps i j x is lt lt' on on' =
    let a = of_on (page_at ps i).at x on in
    let b = of_on (page_at ps j).at x on' in
    is.apart i j lt lt' (omega (arith, a.0, a.1, b.0, b.1, (is.each i lt).whole, (is.each j lt').whole))

-- a place is one spot
pub same_spot : (l : Layout) (ps : List Marks) (i j n m x : ℕ) → ArePages l ps → IsSpot l ps i n x → IsSpot l ps j m x → (i ≡ j) × (n ≡ m)
same_spot l ps i j n m x is s t =
    let page : i ≡ j = same_page l ps i j x is s.page t.page (spot_is_on l ps i n x is s) (spot_is_on l ps j m x is t) in
    let at : (page_at ps i).at ≡ (page_at ps j).at = ap (λ k. (page_at ps k).at) page in
    (page, offset_same l (cuts l is.layout) n m (omega (arith, at, s.is, t.is)))

pub used_nowhere : (l : Layout) (ps : List Marks) (x : ℕ) → ArePages l ps → ((i : ℕ) → i < length ps → is_on (page_at ps i) x ≡ true → ⊥) → FindsUsed l ps x None
used_nowhere l ps x is off = λ i n s m. off i s.page (spot_is_on l ps i n x is s)

pub used_no_number : (l : Layout) (ps : List Marks) (k x : ℕ) → ArePages l ps → k < length ps → is_on (page_at ps k) x ≡ true → ((n : ℕ) → n < place_count l → offset_of l n ≡ x - (page_at ps k).at → ⊥) → FindsUsed l ps x None
used_no_number l ps k x is lt on off = λ i n s m.
    let page : i ≡ k = same_page l ps i k x is s.page lt (spot_is_on l ps i n x is s) on in
    let at : (page_at ps i).at ≡ (page_at ps k).at = ap (λ k. (page_at ps k).at) page in
    off n (number_there l ps i n x is s) (omega (arith, at, s.is))

spot_here : (l : Layout) (ps : List Marks) (k n x : ℕ) → k < length ps → is_on (page_at ps k) x ≡ true → offset_of l n ≡ x - (page_at ps k).at → n < length (page_at ps k).marks → IsSpot l ps k n x
spot_here l ps k n x lt on e there = let a = of_on (page_at ps k).at x on in record { page = lt; there = there; is = omega (arith, a.0, e) }

marked_there : (marks : List Bool) (n : ℕ) → get_or marks n false ≡ true → n < length marks
marked_there marks n e = elim (cases_lt n (length marks)) [ inl lt ↦ lt | inr ge ↦ absurd (let none : false ≡ true = sym (get_or_past marks n false ge) ∙ e in cc) ]

pub used_here : (l : Layout) (ps : List Marks) (k n x : ℕ) → k < length ps → is_on (page_at ps k) x ≡ true → offset_of l n ≡ x - (page_at ps k).at → get_or (page_at ps k).marks n false ≡ true → IsSpot l ps k n x × (mark_at ps k n ≡ true)
used_here l ps k n x lt on e m =
    let there : n < length (page_at ps k).marks = marked_there (page_at ps k).marks n m in
    (spot_here l ps k n x lt on e there, get_or_default (page_at ps k).marks n true false there ∙ m)

pub used_not_here : (l : Layout) (ps : List Marks) (k n x : ℕ) → ArePages l ps → k < length ps → is_on (page_at ps k) x ≡ true → offset_of l n ≡ x - (page_at ps k).at → get_or (page_at ps k).marks n false ≡ false → FindsUsed l ps x None
used_not_here l ps k n x is lt on e m = λ i n' s m'.
    let page : i ≡ k = same_page l ps i k x is s.page lt (spot_is_on l ps i n' x is s) on in
    let at : (page_at ps i).at ≡ (page_at ps k).at = ap (λ k. (page_at ps k).at) page in
    let a = of_on (page_at ps k).at x on in
    let number : n' ≡ n = offset_same l (cuts l is.layout) n' n (omega (arith, at, s.is, e, a.0)) in
    let there : n' < length (page_at ps i).marks = s.there in
    let yes : get_or (page_at ps i).marks n' false ≡ true = get_or_default (page_at ps i).marks n' false true there ∙ m' in
    let no : get_or (page_at ps i).marks n' false ≡ false = (λ q. get_or (page_at ps (page q)).marks (number q) false) ∙ m in
    let both : true ≡ false = sym yes ∙ no in absurd cc
