-- Pieces in use are apart, after any calls.
use Rattle.std.proofs.Common.{◌≡◌, ℕ, ◌+◌, ◌*◌, ◌/◌, ◌%◌, ◌<◌, ◌≤◌, Bool, true, false, not, List, [], ◌∷◌, ◌++◌, map, inl, inr, refl, sym, ap, subst, ◌∙◌, arith, Option, Some, None, Result, Ok, Err}
use Rattle.std.specs.Prelude.{if◌then◌else◌}
use Rattle.std.specs.List.{filter}
use Rattle.std.specs.FinSet as fin
use Rattle.std.specs.FinSet.{contains-empty}
use Rattle.std.specs.Ordering.{nat_cmp}
use Rattle.std.proofs.lemmas.Bool.{cases_lt}
use Rattle.std.proofs.lemmas.Nat.{row_fits, mod-mul-add, mul-le, div-add-mod', le-div}
use Rattle.std.proofs.Math.Nat.{mul-mod_left}
use Rattle.nc_num.specs.declared.places.Span.{Span}
use Rattle.nc_coherent.specs.Pages.{PageMap, lowest_span}
use Rattle.nc_plan.specs.Plans.{In}
use Rattle.nc_plan.proofs.PlanLaws.{in_left, in_right, in_flat_map}
use Rattle.nc_dmapool.specs.declared.layout.PoolBad.{PoolBad}
use Rattle.nc_dmapool.specs.declared.layout.PoolBad.TheVariants.{Size, Align, Boundary}
use Rattle.nc_dmapool.specs.Layouts.{Layout, IsLayout, Cuts, stride, each, places, layout_of, ranged, range_of, is_size, is_align, is_range}
use Rattle.nc_dmapool.specs.Pieces.{Pieces, Given, CanServe, all_places, lowest_free, given_at, given_on, pool_of, empty_pool, with_piece, without_piece, with_page}
use Rattle.nc_dmapool.specs.Apart.{Apart, Call, Alloc, Free, after_alloc, after_free, after_one, after, CanCall, CanRun, PiecesAreApart}
use Rattle.nc_dmapool.proofs.Among.{of_append, of_flat_map, of_filter, lowest_in}
use Rattle.nc_dmapool.proofs.Powers.{cuts}
use Rattle.nc_dmapool.proofs.Cutting.{piece_in_range}
use Rattle.nc_dmapool.proofs.Shown.{of_insert, of_remove}
use Rattle.nc_dmapool.proofs.Found.{IsPlace, of_places, in_places}
use Rattle.nc_dmapool.proofs.Taking.{found}

-- what holds of a pool after any calls
record IsPool (p : Pieces) : Type 0 where
  layout : IsLayout p.layout
  pages : (x : ℕ) → In x p.pages → x % 4096 ≡ 0
  used : (x : ℕ) → fin.contains p.used x ≡ true → In x (all_places p.layout p.pages)

-- a place, by its range in RAM and the piece in it
record IsCutAt (l : Layout) (x : ℕ) : Type 0 where
  top : ℕ
  piece : ℕ
  is_piece : piece < each l
  is : x ≡ top * l.range + piece * stride l

tops : (p c r g page s i : ℕ) → c * g ≡ 4096 → page ≡ p * 4096 → page + r * g + i * s ≡ (p * c + r) * g + i * s
tops p c r g page s i e f = let ranges : p * (c * g) ≡ p * 4096 = ap (λ n. p * n) e in omega arith

cut_at : (l : Layout) → Cuts l → (page x : ℕ) → page % 4096 ≡ 0 → IsPlace l page x → IsCutAt l x
cut_at l is page x whole p =
    let parts : page / 4096 * 4096 + page % 4096 ≡ page = div-add-mod' page 4096 in
    record {
      top = page / 4096 * (4096 / l.range) + p.range;
      piece = p.piece;
      is_piece = p.is_piece;
      is = p.is ∙ tops (page / 4096) (4096 / l.range) p.range l.range page (stride l) p.piece is.ranges (omega arith);
    }

used_page : (p : Pieces) → IsPool p → (x : ℕ) → fin.contains p.used x ≡ true → (page : ℕ) × In page p.pages × IsPlace p.layout page x
used_page p is x e = let a = of_flat_map (places p.layout) x p.pages (is.used x e) in (a.0, a.1, of_places p.layout a.0 x a.2)

used_cut : (p : Pieces) → IsPool p → (x : ℕ) → fin.contains p.used x ≡ true → IsCutAt p.layout x
used_cut p is x e = let a = used_page p is x e in cut_at p.layout (cuts p.layout is.layout) a.0 x (is.pages a.0 a.1) a.2

-- of two pieces of which one starts first
later_range : (e g s t u i j : ℕ) → e * s ≤ g → i < e → t < u → t * g + i * s + s ≤ u * g + j * s
later_range e g s t u i j fits lt later = omega (arith, piece_in_range e g s i fits lt, row_fits t g u g later (omega arith))

later_piece : (s t i j g : ℕ) → i < j → t * g + i * s + s ≤ t * g + j * s
later_piece s t i j g lt = omega (arith, row_fits i s j s lt (omega arith))

not_later : (s t i j g : ℕ) → j ≤ i → t * g + j * s ≤ t * g + i * s
not_later s t i j g le = omega (arith, mul-le j s i s le (omega arith))

same_top : (l : Layout) (x y t i j : ℕ) → x ≡ t * l.range + i * stride l → y ≡ t * l.range + j * stride l → x < y → x + stride l ≤ y
same_top l x y t i j e f lt =
    elim (cases_lt i j) [
      | inl less ↦ omega (arith, e, f, later_piece (stride l) t i j l.range less)
      | inr le ↦ absurd (omega (arith, e, f, lt, not_later (stride l) t i j l.range le))
    ]

cut_apart : (l : Layout) → Cuts l → (x y : ℕ) → IsCutAt l x → IsCutAt l y → x < y → x + stride l ≤ y
cut_apart l is x y a b lt =
    elim (cases_lt a.top b.top) [
      | inl later ↦ omega (arith, a.is, b.is, later_range (each l) l.range (stride l) a.top b.top a.piece b.piece is.fits a.is_piece later)
      | inr ge ↦ elim (cases_lt b.top a.top) [
        | inl less ↦ absurd (omega (arith, a.is, b.is, lt, later_range (each l) l.range (stride l) b.top a.top b.piece a.piece is.fits b.is_piece less))
        | inr le ↦ (let same : b.top ≡ a.top = omega arith in same_top l x y a.top a.piece b.piece a.is (b.is ∙ ap (λ t. t * l.range + b.piece * stride l) same) lt)
      ]
    ]

aligned_by : (t i g s a q r x : ℕ) → g ≡ q * a → s ≡ r * a → x ≡ t * g + i * s → x % a ≡ 0
aligned_by t i g s a q r x e f h =
    let first : t * g ≡ t * (q * a) = ap (λ n. t * n) e in
    let second : i * s ≡ i * (r * a) = ap (λ n. i * n) f in
    let whole : x ≡ (t * q + i * r) * a = omega arith in
    ap (λ n. n % a) whole ∙ mul-mod_left (t * q + i * r) a

within_by : (l : Layout) → Cuts l → (x : ℕ) → IsCutAt l x → x % l.range + l.size ≤ l.range
within_by l is x a =
    let ends : a.piece * stride l + stride l ≤ l.range = piece_in_range (each l) l.range (stride l) a.piece is.fits a.is_piece in
    let low : x % l.range ≡ a.piece * stride l = ap (λ n. n % l.range) a.is ∙ mod-mul-add a.top l.range (a.piece * stride l) (omega (arith, is.step)) in
    omega (arith, is.size)

on_page : (l : Layout) → Cuts l → (page x : ℕ) → IsPlace l page x → (page ≤ x) × (x + l.size ≤ page + 4096)
on_page l is page x p =
    let ends : p.piece * stride l + stride l ≤ l.range = piece_in_range (each l) l.range (stride l) p.piece is.fits p.is_piece in
    let last : p.range * l.range + l.range ≤ 4096 / l.range * l.range = row_fits p.range l.range (4096 / l.range) l.range p.is_range (omega arith) in
    (omega (arith, p.is), omega (arith, p.is, is.size, is.ranges))

pool_apart : (p : Pieces) → IsPool p → Apart p
pool_apart p is =
    let k = cuts p.layout is.layout in
    record {
      apart = λ x y e f lt. omega (arith, cut_apart p.layout k x y (used_cut p is x e) (used_cut p is y f) lt, k.size);
      aligned = λ x e. let a = used_cut p is x e in aligned_by a.top a.piece p.layout.range (stride p.layout) p.layout.align k.range_aligned.0 k.step_aligned.0 x k.range_aligned.1 k.step_aligned.1 a.is;
      within = λ x e. within_by p.layout k x (used_cut p is x e);
      on = λ x e. let a = used_page p is x e in let o = on_page p.layout k a.0 x a.2 in (a.0, a.1, o.0, o.1);
    }

-- it holds at the start, and each call keeps it

none_used : (x : ℕ) → fin.contains (fin.empty {R = nat_cmp}) x ≡ true → ⊥
none_used x e = let no : false ≡ true = sym (contains-empty nat_cmp x) ∙ e in cc

empty_is : (l : Layout) → IsLayout l → IsPool (empty_pool l)
empty_is l is = record { layout = is; pages = λ x k. elim k [ ]; used = λ x e. absurd (none_used x e) }

with_is : (p : Pieces) (x : ℕ) → IsPool p → In x (all_places p.layout p.pages) → IsPool (with_piece p x)
with_is p x is k =
    record {
      layout = is.layout;
      pages = is.pages;
      used = λ y e. elim (of_insert p.used x y e) [ inl same ↦ subst (λ z. In z (all_places p.layout p.pages)) (sym same) k | inr old ↦ is.used y old ];
    }

without_is : (p : Pieces) (x : ℕ) → IsPool p → IsPool (without_piece p x)
without_is p x is = record { layout = is.layout; pages = is.pages; used = λ y e. is.used y (of_remove p.used x y e).1 }

more_places : (l : Layout) (page y : ℕ) (pages : List ℕ) → In y (all_places l pages) → In y (all_places l (pages ++ page ∷ []))
more_places l page y pages k =
    let a = of_flat_map (places l) y pages k in
    in_flat_map (places l) a.0 y (pages ++ page ∷ []) (in_left a.0 pages (page ∷ []) a.1) a.2

page_is : (p : Pieces) (page : ℕ) → IsPool p → page % 4096 ≡ 0 → IsPool (with_page p page)
page_is p page is whole =
    record {
      layout = is.layout;
      pages = λ y k. elim (of_append y p.pages (page ∷ []) k) [
        | inl old ↦ is.pages y old
        | inr new ↦ elim new [ inl same ↦ subst (λ z. z % 4096 ≡ 0) same whole | inr none ↦ elim none [ ] ]
      ];
      used = λ y e. more_places p.layout page y p.pages (is.used y e);
    }

no_offset : (page g s : ℕ) → page ≡ page + 0 * g + 0 * s
no_offset page g s = omega arith

first_place : (l : Layout) → Cuts l → (page : ℕ) (pages : List ℕ) → In page (all_places l (pages ++ page ∷ []))
first_place l is page pages =
    in_flat_map (places l) page page (pages ++ page ∷ []) (in_right page pages (page ∷ []) (inl refl))
    (in_places l page page (record { range = 0; piece = 0; is_range = le-div 1 4096 l.range is.range (omega (arith, is.page)); is_piece = is.count; is = no_offset page l.range (stride l) }))

some_is : (g h : Given) → Some g ≡ Some h → g ≡ h
some_is g h e = cc

whole_page : (map : PageMap) (span : Span) → map.at % 4096 ≡ 0 → lowest_span map 1 ≡ Some span → span.at % 4096 ≡ 0
whole_page map span whole e = let f = (found map span e).0 in omega (arith, f.starts, whole)

on_is : (p : Pieces) (map : PageMap) (o : Option Span) → lowest_span map 1 ≡ o → IsPool p → CanServe map p → IsPool (after_alloc p (given_on p map o))
on_is p map None e is can = is
on_is p map (Some span) e is can =
    with_is (with_page p span.at) span.at (page_is p span.at is (whole_page map span can.whole e)) (first_place p.layout (cuts p.layout is.layout) span.at p.pages)

at_is : (p : Pieces) (map : PageMap) (o : Option ℕ) → lowest_free p ≡ o → IsPool p → CanServe map p → IsPool (after_alloc p (given_at p map o))
at_is p map None e is can = on_is p map (lowest_span map 1) refl is can
at_is p map (Some x) e is can =
    with_is p x is (of_filter (λ y. not (fin.contains p.used y)) x (all_places p.layout p.pages) (lowest_in (filter (λ y. not (fin.contains p.used y)) (all_places p.layout p.pages)) x e)).0

free_is : (p : Pieces) (x : ℕ) (b : Bool) → IsPool p → IsPool (after_free p x b)
free_is p x true is = without_is p x is
free_is p x false is = is

one_is : (p : Pieces) (c : Call) → IsPool p → CanCall p c → IsPool (after_one p c)
one_is p (Alloc map) is can = at_is p map (lowest_free p) refl is can
one_is p (Free x) is can = free_is p x (fin.contains p.used x) is

after_is : (p : Pieces) (cs : List Call) → IsPool p → CanRun p cs → IsPool (after p cs)
after_is p [] is can = is
after_is p (c ∷ cs) is can = after_is (after_one p c) cs (one_is p c is can.0) can.1

-- the layout of a pool that `new` made

ranged_by : (l k : Layout) (b : Bool) → is_range l.range (stride l) ≡ b → is_size l.size ≡ true → is_align l.align ≡ true → (if b then Ok l else Err Boundary) ≡ Ok k → IsLayout k
ranged_by l k true e size align is = let same : l ≡ k = cc in subst IsLayout same (record { size = size; align = align; range = e })
ranged_by l k false e size align is = absurd cc

layout_by : (l k : Layout) (b c : Bool) → is_size l.size ≡ b → is_align l.align ≡ c → (if b then (if c then ranged l else Err Align) else Err Size) ≡ Ok k → IsLayout k
layout_by l k true true size align is = ranged_by l k (is_range l.range (stride l)) refl size align is
layout_by l k true false size align is = absurd cc
layout_by l k false c size align is = absurd cc

layout_is : (size align boundary : ℕ) (k : Layout) → layout_of size align boundary ≡ Ok k → IsLayout k
layout_is size align boundary k is =
    layout_by (record { size = size; align = align; range = range_of boundary }) k (is_size size) (is_align align) refl refl is

pool_by : (size align boundary : ℕ) (p : Pieces) (r : Result Layout PoolBad) → layout_of size align boundary ≡ r → pool_of r ≡ Ok p → IsPool p
pool_by size align boundary p (Ok l) e is = let same : empty_pool l ≡ p = cc in subst IsPool same (empty_is l (layout_is size align boundary l e))
pool_by size align boundary p (Err bad) e is = absurd cc

pub apart_after : PiecesAreApart
apart_after size align boundary p is cs can = pool_apart (after p cs) (after_is p cs (pool_by size align boundary p (layout_of size align boundary) refl is) can)
