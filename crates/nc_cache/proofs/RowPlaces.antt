-- Where a search among the rows ends, and how the rows rise after an edit.
use Rattle.std.specs.Prelude.{None, Result, Ok, Err, IfOk, IfErr}
use Rattle.std.proofs.Common.{◌≡◌, ℕ, zero, suc, ◌+◌, ◌-◌, ◌<◌, ◌≤◌, ◌^◌, List, length, set, inl, inr, sym, ap, subst, ◌∙◌, arith}
use Rattle.std.specs.List.{insert, remove, All}
use Rattle.std.specs.List.Sorted.{IsSearchInRange, IsBinarySearchResult, IsNonDecreasingBy}
use Rattle.std.specs.Ordering.{nat_cmp, ordering_index}
use Rattle.std.proofs.lemmas.Bool.{cases_eq}
use Rattle.std.proofs.lemmas.Cmp.{ranked}
use Rattle.std.proofs.lemmas.List.{get_or-set_same, get_or-set_other, length-set}
use Rattle.std.proofs.lemmas.List.Sorted.{IsNonDecreasingBy-from_default}
use Rattle.std.proofs.lemmas.List.Edits.{length-insert, get_or-insert_below, get_or-insert_at, get_or-insert_above, length-remove, get_or-remove_below, get_or-remove_above}
use Rattle.std.proofs.lemmas.Bool.Decides.{nat_tests}
use Rattle.nc_cache.specs.declared.directory.Row.{Row}
use Rattle.nc_cache.specs.Directory.{no_row, block_at, IsRising}
use Rattle.nc_cache.specs.Rows.{IsAt, IsGap, IsRow}

-- the comparisons with b rise along the rows, as a binary search asks
comparisons_rise : (rows : List Row) (b : ℕ) → IsRising rows → IsNonDecreasingBy (λ row. ordering_index (nat_cmp row.block.0 b)) rows
comparisons_rise rows b rising = IsNonDecreasingBy-from_default (λ row. ordering_index (nat_cmp row.block.0 b)) rows no_row (λ i j le within.
    let blocks_rise : block_at rows i ≤ block_at rows j = grind (arith, rising i j, λ (same : i ≡ j). ap (block_at rows) same) in
    grind (arith, nat_tests))

-- a binary search by block ends at its row, or where it belongs
pub searched : (rows : List Row) (b : ℕ) (r : Result ℕ ℕ) → IsRising rows → IsSearchInRange r (length rows) → IsBinarySearchResult (λ row. nat_cmp row.block.0 b) rows r → record { found : IfOk r (IsAt rows b); absent : IfErr r (IsGap rows b) }
searched rows b (Ok at) rising within equal = record { found = record { within = within; is = ranked _ b _ (sym (equal no_row)) }; absent = tt }
searched rows b (Err at) rising within parted = record {
  found = tt;
  absent = record {
    within = within;
    below = λ k lt. ranked _ b _ (sym ((parted (comparisons_rise rows b rising)).0 k no_row (omega arith) lt));
    above = λ k le lt. ranked _ b _ (sym ((parted (comparisons_rise rows b rising)).1 k no_row le lt));
  };
}

-- the blocks after an edit
pub rising-set : (rows : List Row) (i : ℕ) (row : Row) → i < length rows → IsRising rows → row.block.0 ≡ block_at rows i → IsRising (set rows i row)
rising-set rows i row lt rising same j k jk within =
    let len = length-set rows i row in
    let at : (n : ℕ) → block_at (set rows i row) n ≡ block_at rows n = λ n. elim (cases_eq n i) [
      | inl e ↦ rw e (ap (λ (r : Row). r.block.0) (get_or-set_same rows i row no_row lt) ∙ same)
      | inr ne ↦ ap (λ (r : Row). r.block.0) (get_or-set_other rows i n row no_row ne)
    ] in
    rw (at j, at k) (rising j k jk (omega arith))

pub rising-insert : (rows : List Row) (i : ℕ) (row : Row) → IsGap rows row.block.0 i → IsRising rows → IsRising (insert rows i row)
rising-insert rows i row gap rising j k jk within =
    let new = insert rows i row in
    let len = length-insert rows i row gap.within in
    let block_below : (n : ℕ) → n < i → block_at new n ≡ block_at rows n = λ n below. ap (λ (r : Row). r.block.0) (get_or-insert_below rows i row no_row n below gap.within) in
    let block_here : (n : ℕ) → n ≡ i → block_at new n ≡ row.block.0 = λ n here. rw here (ap (λ (r : Row). r.block.0) (get_or-insert_at rows i row no_row gap.within)) in
    let block_above : (n : ℕ) → i < n → block_at new n ≡ block_at rows (n - 1) = λ n above. subst (λ q. block_at new q ≡ block_at rows (n - 1)) {x = n - 1 + 1} (omega arith) (ap (λ (r : Row). r.block.0) (get_or-insert_above rows i row no_row (n - 1) (omega arith) gap.within)) in
    grind (arith, block_below j, block_here j, block_above j, block_below k, block_here k, block_above k, rising j k, rising j (k - 1), rising (j - 1) (k - 1), gap.below j, gap.above (k - 1))

pub rising-remove : (rows : List Row) (i : ℕ) → i < length rows → IsRising rows → IsRising (remove rows i)
rising-remove rows i lt rising j k jk within =
    let new = remove rows i in
    let len = length-remove rows i lt in
    let block_below : (n : ℕ) → n < i → block_at new n ≡ block_at rows n = λ n below. ap (λ (r : Row). r.block.0) (get_or-remove_below rows i no_row n below lt) in
    let block_above : (n : ℕ) → i ≤ n → block_at new n ≡ block_at rows (n + 1) = λ n above. ap (λ (r : Row). r.block.0) (get_or-remove_above rows i no_row n above lt) in
    grind (arith, block_below j, block_above j, block_below k, block_above k, rising j k, rising j (k + 1), rising (j + 1) (k + 1))

-- rows that rise are no more than their blocks can be
low : (rows : List Row) → IsRising rows → (i : ℕ) → i < length rows → i ≤ block_at rows i
low rows rising zero lt = omega arith
low rows rising (suc i) lt = omega (arith, low rows rising i (omega arith), rising i (suc i) (omega arith) lt)

pub few_rows : (rows : List Row) (b i : ℕ) → IsRising rows → All IsRow rows → b < 2 ^ 32 → IsGap rows b i → length rows < 2 ^ 32
few_rows rows b i rising each small gap =
    let row : Row = record { block = record { 0 = b }; holders = 0; dirty = None; line = 0 } in
    let up = rising-insert rows i row gap rising in
    let len = length-insert rows i row gap.within in
    let last = low (insert rows i row) up (length rows) (omega arith) in
    let block_below : (n : ℕ) → n < i → block_at (insert rows i row) n ≡ block_at rows n = λ n below. ap (λ (r : Row). r.block.0) (get_or-insert_below rows i row no_row n below gap.within) in
    let here : length rows ≡ i → block_at (insert rows i row) (length rows) ≡ b = λ e. rw e (ap (λ (r : Row). r.block.0) (get_or-insert_at rows i row no_row gap.within)) in
    let above : i < length rows → block_at (insert rows i row) (length rows - 1 + 1) ≡ block_at rows (length rows - 1) = λ lt. ap (λ (r : Row). r.block.0) (get_or-insert_above rows i row no_row (length rows - 1) (omega arith) gap.within) in
    let highest : i < length rows → block_at (insert rows i row) (length rows) < 2 ^ 32 = λ lt.
    subst (λ q. block_at (insert rows i row) q < 2 ^ 32) {x = length rows - 1 + 1} (omega arith) (rw (above lt) ((each (length rows - 1) no_row (omega arith)).block)) in
    elim (cases_eq (length rows) i) [
      | inl e ↦ let h = here e in omega arith
      | inr ne ↦ let le = gap.within in let h = highest (omega arith) in omega arith
    ]
