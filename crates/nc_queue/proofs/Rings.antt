-- The cells of a ring that hold entries.
use Rattle.std.specs.Prelude.{remove, slice_set, min}
use Rattle.std.proofs.Common.{◌≡◌, ℕ, ◌+◌, ◌-◌, ◌%◌, ◌<◌, ◌≤◌, ◌≢◌, List, [], ◌∷◌, ◌++◌, length, get_or, take, drop, set, refl, sym, ap, ◌∙◌, inl, inr, arith, length-append, length-drop, length-set, length-take-le, get_or-drop, get_or-take, get_or-set_same, get_or-set_other}
use Rattle.std.proofs.lemmas.Bool.{cases_lt, cases_eq}
use Rattle.std.proofs.lemmas.List.{same_lists, get_or_append_left, get_or-append_right, get_or_default, append-nil, take_all, take-append-le, take-take}
use Rattle.std.proofs.lemmas.List.Edits.{length-remove, get_or-remove_below, get_or-remove_above}
use Rattle.std.proofs.Math.Seq.{take-append-add}
use Rattle.nc_queue.specs.Ring.{window}
use Rattle.nc_queue.specs.declared.entry.Entry.{Entry}

pub length-window : (start len : ℕ) (xs : List Entry) → start < 8 → len ≤ 8 → length xs ≡ 8 → length (window start len xs) ≡ len
unfolding window
length-window start len xs lt le eight = length-take-le len _ (simp (length-append, length-drop) (omega (arith, length-take-le start xs (omega arith))))

-- entry i is in the cell that is i behind the start, around the end
pub get_or-window : (start len : ℕ) (xs : List Entry) (i : ℕ) (d : Entry) → start < 8 → len ≤ 8 → length xs ≡ 8 → i < len → get_or (window start len xs) i d ≡ get_or xs ((start + i) % 8) d
unfolding window
get_or-window start len xs i d lt le eight here =
    let tail : length (drop start xs) ≡ 8 - start = length-drop start xs ∙ omega arith in
    get_or-take len _ i d here ∙ elim (cases_lt (start + i) 8) [
      | inl low ↦ get_or_append_left _ _ d i (omega arith) ∙ get_or-drop start xs i d ∙ ap (λ j. get_or xs j d) (omega arith)
      | inr high ↦ get_or-append_right _ _ (8 - start) i d (omega arith) (omega arith) ∙ get_or-take start xs _ d (omega arith) ∙ ap (λ j. get_or xs j d) (omega arith)
    ]

-- the first n of two lists
pub take_both : (n : ℕ) (xs ys : List Entry) → take (min n (length xs)) xs ++ take (n - min n (length xs)) ys ≡ take n (xs ++ ys)
take_both n xs ys =
    elim (cases_lt n (length xs)) [
      | inl lt ↦
          let all : min n (length xs) ≡ n = omega arith in
          let none : n - min n (length xs) ≡ 0 = omega arith in
          ap (λ k. take k xs ++ take (n - min n (length xs)) ys) all ∙ ap (λ k. take n xs ++ take k ys) none ∙ append-nil (take n xs) ∙ sym (take-append-le n xs ys (omega arith))
      | inr ge ↦
          let part : min n (length xs) ≡ length xs = omega arith in
          let rest : length xs + (n - length xs) ≡ n = omega arith in
          ap (λ k. take k xs ++ take (n - k) ys) part ∙ ap (λ zs. zs ++ take (n - length xs) ys) (take_all (length xs) xs (omega arith))
          ∙ sym (take-append-add xs ys (n - length xs)) ∙ ap (λ k. take k (xs ++ ys)) rest
    ]

-- the two parts of a ring
pub window_parts : (start len : ℕ) (xs : List Entry) → start < 8 → len ≤ 8 → length xs ≡ 8
    → take (min (start + len) 8 - start) (drop start xs) ++ take (start + len - 8) xs ≡ window start len xs
unfolding window
window_parts start len xs lt le eight =
    let tail : length (drop start xs) ≡ 8 - start = length-drop start xs ∙ omega arith in
    let first : min (start + len) 8 - start ≡ min len (length (drop start xs)) = omega arith in
    let second : start + len - 8 ≡ len - min len (length (drop start xs)) = omega arith in
    ap (λ k. take k (drop start xs) ++ take (start + len - 8) xs) first
    ∙ ap (λ zs. take (min len (length (drop start xs))) (drop start xs) ++ zs) (sym (take-take (start + len - 8) start xs (omega arith)) ∙ ap (λ k. take k (take start xs)) second)
    ∙ take_both len (drop start xs) (take start xs)

-- one more behind the others
pub window-push : (start len : ℕ) (xs : List Entry) (e : Entry) → start < 8 → len < 8 → length xs ≡ 8 → window start (len + 1) (slice_set xs ((start + len) % 8) e) ≡ window start len xs ++ e ∷ []
window-push start len xs e lt room eight =
    let ys = set xs ((start + len) % 8) e in
    let long : length ys ≡ 8 = length-set xs ((start + len) % 8) e ∙ eight in
    let old : length (window start len xs) ≡ len = length-window start len xs lt (omega arith) eight in
    let new : length (window start (len + 1) ys) ≡ len + 1 = length-window start (len + 1) ys lt (omega arith) long in
    same_lists _ _ (new ∙ sym (length-append (window start len xs) (e ∷ []) ∙ ap (λ n. n + 1) old)) (λ i d here.
    get_or-window start (len + 1) ys i d lt (omega arith) long (omega arith) ∙ elim (cases_lt i len) [
      | inl less ↦
          let other : (start + i) % 8 ≢ (start + len) % 8 = omega arith in
          get_or-set_other xs ((start + len) % 8) ((start + i) % 8) e d other ∙ sym (get_or-window start len xs i d lt (omega arith) eight less)
          ∙ sym (get_or_append_left (window start len xs) (e ∷ []) d i (omega arith))
      | inr last ↦
          let same : i ≡ len = omega arith in
          ap (λ n. get_or ys ((start + n) % 8) d) same ∙ get_or-set_same xs ((start + len) % 8) e d (omega arith)
          ∙ sym (get_or-append_right (window start len xs) (e ∷ []) len i d old last ∙ ap (λ n. get_or (e ∷ []) n d) {y = 0} (omega arith))
    ])

-- without the entry i: the others by their cells
from_cells : (start from i len : ℕ) (xs ys : List Entry) → start < 8 → from < 8 → len ≤ 8 → length xs ≡ 8 → length ys ≡ 8 → i < len
    → ((j : ℕ) (d : Entry) → j < i → get_or ys ((from + j) % 8) d ≡ get_or xs ((start + j) % 8) d)
    → ((j : ℕ) (d : Entry) → i ≤ j → j + 1 < len → get_or ys ((from + j) % 8) d ≡ get_or xs ((start + (j + 1)) % 8) d)
    → window from (len - 1) ys ≡ remove (window start len xs) i
from_cells start from i len xs ys lt lt' le eight long inside low high =
    let old : length (window start len xs) ≡ len = length-window start len xs lt le eight in
    let new : length (window from (len - 1) ys) ≡ len - 1 = length-window from (len - 1) ys lt' (omega arith) long in
    same_lists _ _ (omega (arith, new, length-remove (window start len xs) i (omega arith), old)) (λ j d here.
    get_or-window from (len - 1) ys j d lt' (omega arith) long (omega arith) ∙ elim (cases_lt j i) [
      | inl less ↦ low j d less ∙ sym (get_or-window start len xs j d lt le eight (omega arith)) ∙ sym (get_or-remove_below (window start len xs) i d j less (omega arith))
      | inr ge ↦ high j d ge (omega arith) ∙ sym (get_or-window start len xs (j + 1) d lt le eight (omega arith)) ∙ sym (get_or-remove_above (window start len xs) i d j ge (omega arith))
    ])

pub window-pop : (start len : ℕ) (xs : List Entry) → start < 8 → len ≤ 8 → length xs ≡ 8 → 0 < len → window ((start + 1) % 8) (len - 1) xs ≡ remove (window start len xs) 0
window-pop start len xs lt le eight some =
    from_cells start ((start + 1) % 8) 0 len xs xs lt (omega arith) le eight eight some (λ j d less. absurd (omega arith))
    (λ j d ge less. ap (λ n. get_or xs n d) (omega arith))

-- those behind entry i moved up, as far as the k-th
pub record Moved (start i k : ℕ) (xs ys : List Entry) : Type 0 where
  pub long : length ys ≡ 8
  pub within : i ≤ k
  pub moved : (j : ℕ) (d : Entry) → i ≤ j → j < k → get_or ys ((start + j) % 8) d ≡ get_or xs ((start + (j + 1)) % 8) d
  pub low : (j : ℕ) (d : Entry) → j < i → get_or ys ((start + j) % 8) d ≡ get_or xs ((start + j) % 8) d
  pub high : (j : ℕ) (d : Entry) → k ≤ j → j < 8 → get_or ys ((start + j) % 8) d ≡ get_or xs ((start + j) % 8) d

pub moved_none : (start i : ℕ) (xs : List Entry) → length xs ≡ 8 → Moved start i i xs xs
moved_none start i xs eight = record { long = eight; within = omega arith; moved = λ j d le lt. absurd (omega arith); low = λ j d lt. refl; high = λ j d le lt. refl }

pub moved_more : (start i k : ℕ) (xs ys : List Entry) (e : Entry) → length xs ≡ 8 → start < 8 → k + 1 < 8 → Moved start i k xs ys → e ≡ get_or ys ((start + (k + 1)) % 8) e
    → Moved start i (k + 1) xs (slice_set ys ((start + k) % 8) e)
moved_more start i k xs ys e eight lt room m is =
    let within = m.within in
    let long = m.long in
    let others : (j : ℕ) (d : Entry) → j < 8 → j ≢ k → get_or (set ys ((start + k) % 8) e) ((start + j) % 8) d ≡ get_or ys ((start + j) % 8) d =
    λ j d less ne. get_or-set_other ys ((start + k) % 8) ((start + j) % 8) e d (omega arith) in
    record {
      long = length-set ys ((start + k) % 8) e ∙ m.long;
      within = omega arith;
      moved = λ j d le less. elim (cases_eq j k) [
        | inl same ↦
            ap (λ n. get_or (set ys ((start + k) % 8) e) ((start + n) % 8) d) same ∙ get_or-set_same ys ((start + k) % 8) e d (omega arith)
            ∙ is ∙ m.high (k + 1) e (omega arith) room ∙ get_or_default xs ((start + (k + 1)) % 8) e d (omega arith) ∙ ap (λ n. get_or xs ((start + (n + 1)) % 8) d) (sym same)
        | inr ne ↦ others j d (omega arith) ne ∙ m.moved j d le (omega arith)
      ];
      low = λ j d less. others j d (omega arith) (omega arith) ∙ m.low j d less;
      high = λ j d le less. others j d less (omega arith) ∙ m.high j d (omega arith) less;
    }

pub moved_all : (start i len : ℕ) (xs ys : List Entry) → start < 8 → len ≤ 8 → length xs ≡ 8 → i < len → Moved start i (len - 1) xs ys → window start (len - 1) ys ≡ remove (window start len xs) i
moved_all start i len xs ys lt le eight inside m = from_cells start start i len xs ys lt lt le eight m.long inside m.low (λ j d ge less. m.moved j d ge (omega arith))
