-- Each cell is the line of one row, or free: before and after an edit.
use Rattle.std.specs.Prelude.{map as list_map}
use Rattle.std.specs.List.{insert, remove, All, range_with_len, IsDistinct}
use Rattle.std.specs.List.Sorted.{IsPermutation}
use Rattle.std.proofs.Common.{◌≡◌, ◌≢◌, ℕ, zero, suc, ◌+◌, ◌-◌, ◌<◌, eqb, List, [], ◌∷◌, ◌++◌, length, get_or, set, refl, inl, inr, sym, ap, subst, ◌∙◌, arith, append_assoc, length-append}
use Rattle.std.proofs.lemmas.Bool.{cases_lt}
use Rattle.std.proofs.lemmas.Bool.Decides.{nat_tests}
use Rattle.std.proofs.lemmas.List.{get_or_append_left, get_or-append_right, length-map, map-id}
use Rattle.std.proofs.lemmas.List.FromFn.{map-range_with_len_more}
use Rattle.std.proofs.lemmas.List.FromFn.{length-range_with_len, get_or-range_with_len}
use Rattle.std.proofs.lemmas.List.Sorted.{All-permutation, IsPermutation-sym, IsPermutation-trans, IsPermutation-to_front, IsPermutation-append_left, IsPermutation-insert, IsPermutation-remove, length_permutation}
use Rattle.std.proofs.lemmas.Map.Keys.{IsDistinct-from_apart, IsDistinct-IsPermutation, apart_from_distinct}
use Rattle.nc_cache.specs.declared.directory.Row.{Row}
use Rattle.nc_cache.specs.Directory.{row_at}

-- the lines of the rows
abbrev pub used : List Row → List ℕ
used rows = list_map (λ row. row.line) rows

abbrev pub AreCells : List Row → List ℕ → ℕ → Type 0
AreCells rows free n = IsPermutation (used rows ++ free) (range_with_len 0 n)

used-at : (rows : List Row) (i d : ℕ) → i < length rows → get_or (used rows) i d ≡ (row_at rows i).line
used-at [] i d lt = absurd (omega arith)
used-at (row ∷ rows) zero d lt = refl
used-at (row ∷ rows) (suc i) d lt = used-at rows i d (omega arith)

used-set : (rows : List Row) (i : ℕ) (row : Row) → i < length rows → row.line ≡ (row_at rows i).line → used (set rows i row) ≡ used rows
used-set [] i row lt same = absurd (omega arith)
used-set (r ∷ rows) zero row lt same = ap (λ n. n ∷ used rows) same
used-set (r ∷ rows) (suc i) row lt same = ap (λ ns. r.line ∷ ns) (used-set rows i row (omega arith) same)

used-insert : (rows : List Row) (i : ℕ) (row : Row) → used (insert rows i row) ≡ insert (used rows) i row.line
used-insert rows zero row = refl
used-insert [] (suc i) row = refl
used-insert (r ∷ rows) (suc i) row = ap (λ ns. r.line ∷ ns) (used-insert rows i row)

used-remove : (rows : List Row) (i : ℕ) → used (remove rows i) ≡ remove (used rows) i
used-remove [] zero = refl
used-remove [] (suc i) = refl
used-remove (r ∷ rows) zero = refl
used-remove (r ∷ rows) (suc i) = ap (λ ns. r.line ∷ ns) (used-remove rows i)

-- numbers that are those below n, in some order
all_below : (ns : List ℕ) (n : ℕ) → IsPermutation ns (range_with_len 0 n) → All (λ k. k < n) ns
all_below ns n is = All-permutation (λ k. k < n) (range_with_len 0 n) ns (IsPermutation-sym ns (range_with_len 0 n) is) (λ k d lt. let len = length-range_with_len 0 n in let e = get_or-range_with_len 0 n k d (omega arith) in omega arith)

range_apart : (n : ℕ) → IsDistinct eqb (range_with_len 0 n)
range_apart n = IsDistinct-from_apart eqb (range_with_len 0 n) (λ i j d lt within.
    let len = length-range_with_len 0 n in
    let a = get_or-range_with_len 0 n i d (omega arith) in
    let b = get_or-range_with_len 0 n j d (omega arith) in
    grind (arith, nat_tests))

all_apart : (ns : List ℕ) (n i j d : ℕ) → IsPermutation ns (range_with_len 0 n) → i < j → j < length ns → get_or ns i d ≢ get_or ns j d
all_apart ns n i j d is lt within same =
    let e = apart_from_distinct eqb ns i j d (IsDistinct-IsPermutation eqb (λ x y. grind (arith, nat_tests)) (range_with_len 0 n) ns (IsPermutation-sym ns (range_with_len 0 n) is) (range_apart n)) lt within in
    grind (arith, nat_tests)

module _ (rows : List Row) (free : List ℕ) (n : ℕ) (are : AreCells rows free n) where
  pub cell_count : length rows + length free ≡ n
  cell_count = let e = length_permutation (used rows ++ free) (range_with_len 0 n) are in let len = length-range_with_len 0 n in let a = length-append (used rows) free in let b = length-map rows (λ (row : Row). row.line) in omega arith

  pub line_below : (i : ℕ) → i < length rows → (row_at rows i).line < n
  line_below i lt =
      let b = length-map rows (λ (row : Row). row.line) in
      let a = length-append (used rows) free in
      let e = get_or_append_left (used rows) free 0 i (omega arith) ∙ used-at rows i 0 lt in
      subst (λ k. k < n) e (all_below (used rows ++ free) n are i 0 (omega arith))

  pub free_below : All (λ k. k < n) free
  free_below k d lt =
      let a = length-append (used rows) free in
      let there : length (used rows) + k - length (used rows) ≡ k = omega arith in
      let e = get_or-append_right (used rows) free (length (used rows)) (length (used rows) + k) d refl (omega arith) ∙ ap (λ i. get_or free i d) there in
      subst (λ x. x < n) e (all_below (used rows ++ free) n are (length (used rows) + k) d (omega arith))

  pub lines_apart : (i j : ℕ) → i < j → j < length rows → (row_at rows i).line ≢ (row_at rows j).line
  lines_apart i j lt within same =
      let b = length-map rows (λ (row : Row). row.line) in
      let a = length-append (used rows) free in
      let e = get_or_append_left (used rows) free 0 i (omega arith) ∙ used-at rows i 0 (omega arith) in
      let f = get_or_append_left (used rows) free 0 j (omega arith) ∙ used-at rows j 0 within in
      all_apart (used rows ++ free) n i j 0 are lt (omega arith) (e ∙ (same ∙ sym f))

  pub lines_differ : (i j : ℕ) → i ≢ j → i < length rows → j < length rows → (row_at rows i).line ≢ (row_at rows j).line
  lines_differ i j ne i_lt j_lt same = elim (cases_lt i j) [ inl lt ↦ lines_apart i j lt j_lt same | inr le ↦ lines_apart j i (omega arith) i_lt (sym same) ]

  pub line_not_free : (i j d : ℕ) → i < length rows → j < length free → (row_at rows i).line ≢ get_or free j d
  line_not_free i j d lt within same =
      let b = length-map rows (λ (row : Row). row.line) in
      let a = length-append (used rows) free in
      let there : length (used rows) + j - length (used rows) ≡ j = omega arith in
      let e = get_or_append_left (used rows) free d i (omega arith) ∙ used-at rows i d lt in
      let f = get_or-append_right (used rows) free (length (used rows)) (length (used rows) + j) d refl (omega arith) ∙ ap (λ k. get_or free k d) there in
      all_apart (used rows ++ free) n i (length (used rows) + j) d are (omega arith) (omega arith) (e ∙ (same ∙ sym f))

  -- a row with the same line
  pub cells-set : (i : ℕ) (row : Row) → i < length rows → row.line ≡ (row_at rows i).line → AreCells (set rows i row) free n
  cells-set i row lt same = rw (used-set rows i row lt same) are

  -- a row goes, and its line is free
  pub cells-remove : (i x : ℕ) → i < length rows → x ≡ (row_at rows i).line → AreCells (remove rows i) (free ++ x ∷ []) n
  cells-remove i x lt is =
      let ns = used rows in
      let len = length-map rows (λ (row : Row). row.line) in
      let here : x ≡ get_or ns i x = is ∙ sym (used-at rows i x lt) in
      let out = IsPermutation-append_left free ns (x ∷ remove ns i) (IsPermutation-remove ns i x (omega arith) here) in
      let back = IsPermutation-to_front (remove ns i ++ free) x in
      rw (used-remove rows i, ← append_assoc (remove ns i) free (x ∷ []))
      (IsPermutation-trans _ _ _ back (IsPermutation-trans _ _ _ (IsPermutation-sym _ _ out) are))

-- a new row's line moves to the end of the free ones
moved : (rows : List Row) (free : List ℕ) (i : ℕ) (row : Row) → IsPermutation (used (insert rows i row) ++ free) ((used rows ++ free) ++ row.line ∷ [])
moved rows free i row =
    let ns = used rows in
    let put = IsPermutation-append_left free (row.line ∷ ns) (insert ns i row.line) (IsPermutation-insert ns i row.line) in
    rw (used-insert rows i row) (IsPermutation-trans _ _ _ (IsPermutation-sym _ _ put) (IsPermutation-sym _ _ (IsPermutation-to_front (ns ++ free) row.line)))

pub cells-reuse : (rows : List Row) (free : List ℕ) (n i : ℕ) (row : Row) → AreCells rows (free ++ row.line ∷ []) n → AreCells (insert rows i row) free n
cells-reuse rows free n i row are = IsPermutation-trans _ _ _ (moved rows free i row) (rw (append_assoc (used rows) free (row.line ∷ [])) are)

range_more : (n : ℕ) → range_with_len 0 (n + 1) ≡ range_with_len 0 n ++ n ∷ []
range_more n = sym (map-id (range_with_len 0 (n + 1))) ∙ (map-range_with_len_more (λ x. x) 0 n n (omega arith) ∙ ap (λ ks. ks ++ n ∷ []) (map-id (range_with_len 0 n)))

pub cells-grow : (rows : List Row) (n i : ℕ) (row : Row) → AreCells rows [] n → row.line ≡ n → AreCells (insert rows i row) [] (n + 1)
cells-grow rows n i row are last =
    IsPermutation-trans _ _ _ (moved rows [] i row) (rw (last, range_more n) (IsPermutation-append_left (n ∷ []) (used rows ++ []) (range_with_len 0 n) are))
