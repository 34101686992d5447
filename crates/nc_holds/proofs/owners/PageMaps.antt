-- The pages of a span, page by page.
use Rattle.std.proofs.Common.{◌≡◌, ℕ, ◌+◌, ◌-◌, ◌*◌, ◌/◌, ◌<◌, ◌≤◌, Bool, List, length, inl, inr, sym, ap, ◌∙◌, arith}
use Rattle.std.specs.Prelude.{◌⊎◌, replicate, slice_index_or, slice_range}
use Rattle.std.proofs.lemmas.Bool.{cases_lt}
use Rattle.std.proofs.lemmas.List.{same_lists, length-replicate, get_or-replicate, places}
use Rattle.std.proofs.lemmas.List.Edits.{length-between, get_or-between}
use Rattle.std.proofs.lemmas.Grind.{common_steps}
use Rattle.nc_num.specs.declared.places.Span.{Span}
use Rattle.nc_coherent.specs.Pages.{PageMap, IsPages, first_page, page_count, marked}

-- ---- a list of pages

pub length-marked : (free : List Bool) (p n : ℕ) (to : Bool) → p + n ≤ length free → length (marked free p n to) ≡ length free
unfolding marked
length-marked free p n to le = grind (arith, common_steps, places)

marked_in : (free : List Bool) (p n : ℕ) (to : Bool) (k : ℕ) (d : Bool) → p + n ≤ length free → p ≤ k → k < p + n → slice_index_or (marked free p n to) k d ≡ to
unfolding marked
marked_in free p n to k d le low high = grind (arith, common_steps, places)

marked_below : (free : List Bool) (p n : ℕ) (to : Bool) (k : ℕ) (d : Bool) → p + n ≤ length free → k < p → slice_index_or (marked free p n to) k d ≡ slice_index_or free k d
unfolding marked
marked_below free p n to k d le low = grind (arith, common_steps, places)

marked_above : (free : List Bool) (p n : ℕ) (to : Bool) (k : ℕ) (d : Bool) → p + n ≤ length free → p + n ≤ k → slice_index_or (marked free p n to) k d ≡ slice_index_or free k d
unfolding marked
marked_above free p n to k d le high = grind (arith, common_steps, places)

-- n pages from page q on are all marked so
abbrev pub AreSo : List Bool → ℕ → ℕ → Bool → Type 0
AreSo free q n to = (k : ℕ) (d : Bool) → q ≤ k → k < q + n → slice_index_or free k d ≡ to

pub so_list : (free : List Bool) (q n : ℕ) (to : Bool) → q + n ≤ length free → AreSo free q n to → slice_range free q (q + n) ≡ replicate n to
so_list free q n to le so =
    let long : length (slice_range free q (q + n)) ≡ n = omega (arith, length-between free q (q + n) le) in
    same_lists (slice_range free q (q + n)) (replicate n to) (long ∙ sym (length-replicate n to))
    (λ k d lt. get_or-between free q (q + n) k d (omega (arith, long, lt)) ∙ so (q + k) d (omega arith) (omega (arith, long, lt)) ∙ sym (get_or-replicate n k to d (omega (arith, long, lt))))

pub list_so : (free : List Bool) (q n : ℕ) (to : Bool) → q + n ≤ length free → slice_range free q (q + n) ≡ replicate n to → AreSo free q n to
list_so free q n to le e k d low high =
    let j : q + (k - q) ≡ k = omega arith in
    let at = get_or-between free q (q + n) (k - q) d (omega arith) in
    sym (ap (λ m. slice_index_or free m d) j) ∙ sym at ∙ ap (λ (xs : List Bool). slice_index_or xs (k - q) d) e ∙ get_or-replicate n (k - q) to d (omega arith)

-- what is marked is so, and what is apart stays
pub so_marked : (free : List Bool) (p n : ℕ) (to : Bool) → p + n ≤ length free → AreSo (marked free p n to) p n to
so_marked free p n to le k d low high = marked_in free p n to k d le low high

pub so_apart : (free : List Bool) (p n q m : ℕ) (to so : Bool) → p + n ≤ length free → (q + m ≤ p) ⊎ (p + n ≤ q) → AreSo free q m so → AreSo (marked free p n to) q m so
so_apart free p n q m to so le (inl before) h k d low high = marked_below free p n to k d le (omega arith) ∙ h k d low high
so_apart free p n q m to so le (inr behind) h k d low high = marked_above free p n to k d le (omega arith) ∙ h k d low high

-- ranges that share no number
pub ranges_apart : (p n q m : ℕ) → ((k : ℕ) → p ≤ k → k < p + n → q ≤ k → k < q + m → ⊥) → (n ≡ 0) ⊎ (m ≡ 0) ⊎ (q + m ≤ p) ⊎ (p + n ≤ q)
ranges_apart p n q m off = elim (cases_lt p (q + m)) [
  | inr before ↦ inr (inr (inl before))
  | inl lt ↦ elim (cases_lt q (p + n)) [
    | inr behind ↦ inr (inr (inr behind))
    | inl lt' ↦ elim (cases_lt p q) [
      | inl less ↦ elim (cases_lt 0 m) [ inl some ↦ absurd (off q (omega arith) lt' (omega arith) (omega arith)) | inr none ↦ inr (inl (omega arith)) ]
      | inr more ↦ elim (cases_lt 0 n) [ inl some ↦ absurd (off p (omega arith) (omega arith) more lt) | inr none ↦ inl (omega arith) ]
    ]
  ]
]

-- ---- spans of whole pages

pub pages_end : (pool : PageMap) (span : Span) → IsPages pool span → first_page pool span + page_count span ≤ length pool.free
pages_end pool span h = omega (arith, h.starts, h.aligned, h.whole, h.ends)

pub pages_some : (pool : PageMap) (span : Span) → IsPages pool span → 0 < page_count span
pages_some pool span h = omega (arith, h.some, h.whole)

-- the place where one of its pages starts
pub page_place : (pool : PageMap) (span : Span) (k : ℕ) → IsPages pool span → first_page pool span ≤ k → k < first_page pool span + page_count span → (span.at ≤ pool.at + 4096 * k) × (pool.at + 4096 * k < span.at + span.len)
page_place pool span k h low high = (omega (arith, h.starts, h.aligned, h.whole, low, high), omega (arith, h.starts, h.aligned, h.whole, low, high))

-- the page of a byte
pub byte_page : (pool : PageMap) (span : Span) (x : ℕ) → IsPages pool span → span.at ≤ x → x < span.at + span.len → (first_page pool span ≤ (x - pool.at) / 4096) × ((x - pool.at) / 4096 < first_page pool span + page_count span)
byte_page pool span x h low high = (omega (arith, h.starts, h.aligned, h.whole, low, high), omega (arith, h.starts, h.aligned, h.whole, low, high))
