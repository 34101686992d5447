-- One page more, with a piece in use at its first place.
use Rattle.std.proofs.Common.{◌≡◌, ℕ, ◌+◌, ◌*◌, ◌%◌, ◌<◌, ◌≤◌, true, false, List, [], ◌∷◌, ◌++◌, map, length, get_or, replicate, set, inl, inr, refl, sym, ap, subst, ◌∙◌, arith, Option, Some, None, get_or-set_same, get_or-set_other, length-append}
use Rattle.std.specs.Prelude.{◌⊎◌, ◌≢◌}
use Rattle.std.specs.FinSet as fin
use Rattle.std.proofs.lemmas.Bool.{cases_lt, cases_eq}
use Rattle.std.proofs.lemmas.List.{get_or-map, get_or-replicate, length-set, length-replicate, get_or_append_left, get_or_push, length-map, map-append}
use Rattle.std.proofs.Math.Nat.{zero-div, zero-mod}
use Rattle.nc_num.specs.declared.places.Span.{Span}
use Rattle.nc_coherent.specs.Pages.{PageMap, lowest_span, with_pages}
use Rattle.nc_dmapool.specs.Layouts.{Layout, Cuts, stride, each, offset_of, place_count}
use Rattle.nc_dmapool.specs.Pieces.{Pieces, HasTaken, IsTaken, given, given_at, given_on, lowest_free, with_piece, with_page, page_span}
use Rattle.nc_dmapool.specs.Marks.{Marks, IsPage, ArePages, IsSpot, AreTaken, used_set, shown, fresh_page, no_page, page_at, mark_at}
use Rattle.nc_dmapool.proofs.Powers.{cuts}
use Rattle.nc_dmapool.proofs.Offsets.{count_some, offset_within}
use Rattle.nc_dmapool.proofs.Shown.{IsUsed, used_is, is_used, bool_cases, sets_same, of_insert, in_insert}
use Rattle.nc_dmapool.proofs.Taking.{IsPageOf, free_apart, taken_now, taken_still}

none_of : (g s : ℕ) → 0 * g + 0 * s ≡ 0
none_of g s = omega arith

-- the first place of a page is its start
pub first_offset : (l : Layout) → offset_of l 0 ≡ 0
first_offset l = (λ k. zero-div (each l) k * l.range + zero-mod (each l) k * stride l) ∙ none_of l.range (stride l)

old_page : (ps : List Marks) (q : Marks) (i : ℕ) → i < length ps → page_at (ps ++ q ∷ []) i ≡ page_at ps i
old_page ps q i lt = get_or_append_left ps (q ∷ []) no_page i lt

new_page : (ps : List Marks) (q : Marks) (i : ℕ) → i ≡ length ps → page_at (ps ++ q ∷ []) i ≡ q
new_page ps q i e = get_or_push ps q no_page i (sym e)

one_more : (ps : List Marks) (q : Marks) → length (ps ++ q ∷ []) ≡ length ps + 1
one_more ps q = length-append ps (q ∷ [])

old_or_new : (ps : List Marks) (q : Marks) (i : ℕ) → i < length (ps ++ q ∷ []) → (i < length ps) ⊎ (i ≡ length ps)
old_or_new ps q i lt = elim (cases_lt i (length ps)) [ inl old ↦ inl old | inr ge ↦ inr (omega (arith, one_more ps q, lt)) ]

page_push : (l : Layout) (ps : List Marks) (q : Marks) → ArePages l ps → IsPage l q → (i : ℕ) → i < length (ps ++ q ∷ []) → IsPage l (page_at (ps ++ q ∷ []) i)
page_push l ps q is page i lt =
    elim (old_or_new ps q i lt) [
      | inl old ↦ subst (IsPage l) (sym (old_page ps q i old)) (is.each i old)
      | inr new ↦ subst (IsPage l) (sym (new_page ps q i new)) page
    ]

apart_push : (ps : List Marks) (q : Marks) → ((i j : ℕ) → i < length ps → j < length ps → (page_at ps i).at ≡ (page_at ps j).at → i ≡ j) → ((i : ℕ) → i < length ps → (page_at ps i).at ≢ q.at) → (i j : ℕ) → i < length (ps ++ q ∷ []) → j < length (ps ++ q ∷ []) → (page_at (ps ++ q ∷ []) i).at ≡ (page_at (ps ++ q ∷ []) j).at → i ≡ j
apart_push ps q apart off i j lt lt' e =
    let at_old : (k : ℕ) → k < length ps → (page_at (ps ++ q ∷ []) k).at ≡ (page_at ps k).at = λ k old. ap (λ (p : Marks). p.at) (old_page ps q k old) in
    let at_new : (k : ℕ) → k ≡ length ps → (page_at (ps ++ q ∷ []) k).at ≡ q.at = λ k new. ap (λ (p : Marks). p.at) (new_page ps q k new) in
    elim (old_or_new ps q i lt) [
      | inl old ↦ elim (old_or_new ps q j lt') [
        | inl old' ↦ apart i j old old' (sym (at_old i old) ∙ e ∙ at_old j old')
        | inr new' ↦ absurd (off i old (sym (at_old i old) ∙ e ∙ at_new j new'))
      ]
      | inr new ↦ elim (old_or_new ps q j lt') [
        | inl old' ↦ absurd (off j old' (sym (at_old j old') ∙ sym e ∙ at_new i new))
        | inr new' ↦ new ∙ sym new'
      ]
    ]

pub kept_push : (l : Layout) (ps : List Marks) (q : Marks) → ArePages l ps → IsPage l q → ((i : ℕ) → i < length ps → (page_at ps i).at ≢ q.at) → ArePages l (ps ++ q ∷ [])
kept_push l ps q is page off = record { layout = is.layout; each = page_push l ps q is page; apart = apart_push ps q is.apart off }

pub fresh_is_page : (l : Layout) (at : ℕ) → at % 4096 ≡ 0 → at + 4096 ≤ 1048576 → IsPage l (fresh_page l at)
fresh_is_page l at whole ends =
    record { whole = whole; ends = ends; marks = length-set (replicate (place_count l) false) 0 true ∙ length-replicate (place_count l) false }

-- only the first place of it is in use
fresh_first : (l : Layout) (n : ℕ) → n < place_count l → get_or (set (replicate (place_count l) false) 0 true) n true ≡ true → n ≡ 0
fresh_first l n lt e =
    elim (cases_eq n 0) [
      | inl same ↦ same
      | inr ne ↦ absurd (let both : false ≡ true = sym (get_or-set_other (replicate (place_count l) false) 0 n true true ne ∙ get_or-replicate (place_count l) n false true lt) ∙ e in cc)
    ]

fresh_count : (l : Layout) → length (set (replicate (place_count l) false) 0 true) ≡ place_count l
fresh_count l = length-set (replicate (place_count l) false) 0 true ∙ length-replicate (place_count l) false

of_new : (l : Layout) (ps : List Marks) (at i n y : ℕ) → i ≡ length ps → IsSpot l (ps ++ fresh_page l at ∷ []) i n y → mark_at (ps ++ fresh_page l at ∷ []) i n ≡ true → y ≡ at
of_new l ps at i n y new s m =
    let page = new_page ps (fresh_page l at) i new in
    let there : n < place_count l = omega (arith, subst (λ (p : Marks). n < length p.marks) page s.there, fresh_count l) in
    let first : n ≡ 0 = fresh_first l n there (sym (ap (λ (p : Marks). get_or p.marks n true) page) ∙ m) in
    let start : offset_of l n ≡ 0 = ap (offset_of l) first ∙ first_offset l in
    omega (arith, s.is, ap (λ (p : Marks). p.at) page, start)

of_old : (l : Layout) (ps : List Marks) (q : Marks) (i n y : ℕ) → i < length ps → IsSpot l (ps ++ q ∷ []) i n y → mark_at (ps ++ q ∷ []) i n ≡ true → IsUsed l ps y
of_old l ps q i n y old s m =
    let page = old_page ps q i old in
    record {
      page = i;
      number = n;
      spot = record { page = old; there = subst (λ (p : Marks). n < length p.marks) page s.there; is = s.is ∙ ap (λ (p : Marks). p.at + offset_of l n) page };
      used = sym (ap (λ (p : Marks). get_or p.marks n true) page) ∙ m;
    }

to_old : (l : Layout) (ps : List Marks) (q : Marks) (y : ℕ) → IsUsed l ps y → IsUsed l (ps ++ q ∷ []) y
to_old l ps q y u =
    let page = old_page ps q u.page u.spot.page in
    record {
      page = u.page;
      number = u.number;
      spot = record {
        page = omega (arith, one_more ps q, u.spot.page);
        there = subst (λ (p : Marks). u.number < length p.marks) (sym page) u.spot.there;
        is = u.spot.is ∙ ap (λ (p : Marks). p.at + offset_of l u.number) (sym page);
      };
      used = ap (λ (p : Marks). get_or p.marks u.number true) page ∙ u.used;
    }

to_new : (l : Layout) (ps : List Marks) (at y : ℕ) → Cuts l → y ≡ at → IsUsed l (ps ++ fresh_page l at ∷ []) y
to_new l ps at y is e =
    let page = new_page ps (fresh_page l at) (length ps) refl in
    let some : 0 < place_count l = count_some l is in
    let there : 0 < length (replicate (place_count l) false) = omega (arith, length-replicate (place_count l) false) in
    record {
      page = length ps;
      number = 0;
      spot = record {
        page = omega (arith, one_more ps (fresh_page l at));
        there = subst (λ (p : Marks). 0 < length p.marks) (sym page) (omega (arith, fresh_count l));
        is = omega (arith, e, ap (λ (p : Marks). p.at) page, first_offset l);
      };
      used = ap (λ (p : Marks). get_or p.marks 0 true) page ∙ get_or-set_same (replicate (place_count l) false) 0 true true there;
    }

pub used_push : (l : Layout) (ps : List Marks) (at : ℕ) → Cuts l → used_set l (ps ++ fresh_page l at ∷ []) ≡ fin.insert (used_set l ps) at
used_push l ps at is =
    let q : Marks = fresh_page l at in
    sets_same (used_set l (ps ++ q ∷ [])) (fin.insert (used_set l ps) at)
    (λ y e. let u = used_is l (ps ++ q ∷ []) y e in
    in_insert (used_set l ps) at y
    (elim (old_or_new ps q u.page u.spot.page) [
      | inl old ↦ inr (is_used l ps y (of_old l ps q u.page u.number y old u.spot u.used))
      | inr new ↦ inl (of_new l ps at u.page u.number y new u.spot u.used)
    ]))
    (λ y e. is_used l (ps ++ q ∷ []) y
    (elim (of_insert (used_set l ps) at y e) [
      | inl same ↦ to_new l ps at y is same
      | inr old ↦ to_old l ps q y (used_is l ps y old)
    ]))

pub shown_push : (l : Layout) (ps : List Marks) (at : ℕ) → Cuts l → shown l (ps ++ fresh_page l at ∷ []) ≡ with_piece (with_page (shown l ps) at) at
shown_push l ps at is = λ k. record { layout = l; pages = map-append (λ (p : Marks). p.at) ps (fresh_page l at ∷ []) k; used = used_push l ps at is k }

-- what `alloc` gives

pub given_free : (p : Pieces) (map : PageMap) (x : ℕ) → lowest_free p ≡ Some x → given p map ≡ Some (record { at = x; pool = with_piece p x; pages = map })
given_free p map x e = ap (given_at p map) e

pub given_more : (p : Pieces) (map : PageMap) (at : ℕ) → lowest_free p ≡ None → lowest_span map 1 ≡ Some (page_span at) → given p map ≡ Some (record { at = at; pool = with_piece (with_page p at) at; pages = with_pages map (page_span at) false })
given_more p map at e f = ap (given_at p map) e ∙ ap (given_on p map) f

pub given_none : (p : Pieces) (map : PageMap) → lowest_free p ≡ None → given p map ≡ given_on p map (lowest_span map 1)
given_none p map e = ap (given_at p map) e

-- the pages taken stand by number in both

pub taken_pages : (l : Layout) (ps : List Marks) (map' : PageMap) → HasTaken map' (shown l ps) → ArePages l ps → AreTaken map' ps
taken_pages l ps map' has is =
    record {
      taken = λ i lt. subst (IsTaken map') (get_or-map (λ (p : Marks). p.at) ps i no_page 0 lt) (has.taken i (omega (arith, length-map ps (λ (p : Marks). p.at), lt)));
      apart = is.apart;
    }

pub has_taken : (l : Layout) (ps : List Marks) (map' : PageMap) → ((i : ℕ) → i < length ps → IsTaken map' (page_at ps i).at) → HasTaken map' (shown l ps)
has_taken l ps map' taken =
    record {
      taken = λ i lt. let there : i < length ps = omega (arith, length-map ps (λ (p : Marks). p.at), lt) in subst (IsTaken map') (sym (get_or-map (λ (p : Marks). p.at) ps i no_page 0 there)) (taken i there);
    }

pub taken_push : (l : Layout) (ps : List Marks) (m : PageMap) (at : ℕ) → AreTaken m ps → IsPageOf m true at → HasTaken (with_pages m (page_span at) false) (shown l (ps ++ fresh_page l at ∷ []))
taken_push l ps m at are page =
    has_taken l (ps ++ fresh_page l at ∷ []) (with_pages m (page_span at) false)
    (λ i lt. elim (old_or_new ps (fresh_page l at) i lt) [
      | inl old ↦ subst (λ (p : Marks). IsTaken (with_pages m (page_span at) false) p.at) (sym (old_page ps (fresh_page l at) i old)) (taken_still m true at (page_at ps i).at page (are.taken i old))
      | inr new ↦ subst (λ (p : Marks). IsTaken (with_pages m (page_span at) false) p.at) (sym (new_page ps (fresh_page l at) i new)) (taken_now m true at page)
    ])

pub push_apart : (ps : List Marks) (m : PageMap) (at : ℕ) → AreTaken m ps → IsPageOf m true at → (i : ℕ) → i < length ps → (page_at ps i).at ≢ at
push_apart ps m at are page i lt = free_apart m at (page_at ps i).at page (are.taken i lt)

none_on : (p : Pieces) (m : PageMap) (o : Option Span) → given_on p m o ≡ None → o ≡ None
none_on p m None e = refl
none_on p m (Some s) e = absurd cc

pub no_page_given : (p : Pieces) (m : PageMap) → lowest_free p ≡ None → given p m ≡ None → lowest_span m 1 ≡ None
no_page_given p m none e = none_on p m (lowest_span m 1) (sym (given_none p m none) ∙ e)

pub given_no_page : (p : Pieces) (m : PageMap) → lowest_free p ≡ None → lowest_span m 1 ≡ None → given p m ≡ None
given_no_page p m none e = given_none p m none ∙ ap (given_on p m) e

pub taken_same : (m : PageMap) (p q : Pieces) → q.pages ≡ p.pages → HasTaken m p → HasTaken m q
taken_same m p q e has =
    record { taken = subst (λ (xs : List ℕ). (i : ℕ) → i < length xs → IsTaken m (get_or xs i 0)) (sym e) has.taken }

-- no piece in use starts at a page that is none of those taken

on_none : (l : Layout) (ps : List Marks) (at : ℕ) → ArePages l ps → at % 4096 ≡ 0 → ((i : ℕ) → i < length ps → (page_at ps i).at ≢ at) → IsUsed l ps at → ⊥
on_none l ps at is whole off u =
    let page = is.each u.page u.spot.page in
    let n : u.number < place_count l = omega (arith, u.spot.there, page.marks) in
    let below : offset_of l u.number < 4096 = offset_within l (cuts l is.layout) u.number n in
    off u.page u.spot.page (omega (arith, u.spot.is, below, page.whole, whole))

pub page_unused : (l : Layout) (ps : List Marks) (m : PageMap) (at : ℕ) → ArePages l ps → at % 4096 ≡ 0 → AreTaken m ps → IsPageOf m true at → fin.contains (used_set l ps) at ≡ false
page_unused l ps m at is whole are page =
    elim (bool_cases (fin.contains (used_set l ps) at)) [
      | inl used ↦ absurd (on_none l ps at is whole (push_apart ps m at are page) (used_is l ps at used))
      | inr free ↦ free
    ]
