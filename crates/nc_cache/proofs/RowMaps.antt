-- The rows as one map, before and after an edit.
use Rattle.std.specs.Prelude.{Option, Some, None, if◌then◌else◌, ◌==◌, cond, map as list_map}
use Rattle.std.specs.Ordering.{nat_cmp, eq_by_cmp}
use Rattle.std.specs.Cmp.{nat_cmp_total}
use Rattle.std.specs.FinMap.{FinMap, nat_cmp-IsAntisymmetric}
use Rattle.std.specs.FinMap as map
use Rattle.std.specs.List.{insert, remove}
use Rattle.std.proofs.Common.{Less, ◌≡◌, ◌≢◌, ℕ, zero, suc, ◌<◌, List, [], ◌∷◌, length, get_or, set, refl, inl, inr, sym, ap, ◌∙◌, arith}
use Rattle.std.proofs.lemmas.Bool.{cases_eq}
use Rattle.std.proofs.lemmas.Bool.Decides.{nat_tests}
use Rattle.nc_cache.specs.declared.line.Line.{Line}
use Rattle.nc_cache.specs.declared.directory.Row.{Row}
use Rattle.nc_cache.specs.Cache.{with_line}
use Rattle.nc_cache.specs.Directory.{row_at, block_at, IsRising}
use Rattle.nc_cache.specs.Rows.{line_of, lines_of, IsAt, IsGap}

-- the line of the first row of a block
abbrev pub line_for : List (List ℕ) → List Row → ℕ → Option Line
line_for cells [] q = None
line_for cells (row ∷ rows) q = if row.block.0 == q then Some (line_of cells row) else line_for cells rows q

test : (a b : ℕ) → eq_by_cmp nat_cmp a b ≡ (b == a)
test a b = grind (arith, nat_tests)

find-rows : (cells : List (List ℕ)) (rows : List Row) (q : ℕ) → map.find nat_cmp q (list_map (λ row. (row.block.0, line_of cells row)) rows) ≡ line_for cells rows q
find-rows cells [] q = refl
find-rows cells (row ∷ rows) q = rw (test q row.block.0, find-rows cells rows q) refl

pub get-lines : (cells : List (List ℕ)) (rows : List Row) (q : ℕ) → map.get (lines_of rows cells) q ≡ line_for cells rows q
unfolding lines_of
get-lines cells rows q = map.get-from_entries nat_cmp_total (list_map (λ row. (row.block.0, line_of cells row)) rows) q ∙ find-rows cells rows q

get-with_line : (m : FinMap nat_cmp Line) (b q : ℕ) (o : Option Line) → map.get (with_line m b o) q ≡ (if b == q then o else map.get m q)
unfolding with_line
get-with_line m b q None = map.get-remove nat_cmp_total m b q ∙ ap (λ t. cond t None (map.get m q)) (test q b)
get-with_line m b q (Some l) = map.get-insert nat_cmp_total m b l q ∙ ap (λ t. cond t (Some l) (map.get m q)) (test q b)

-- no row before place i is the block's
abbrev NoneBefore : List Row → ℕ → ℕ → Type 0
NoneBefore rows b i = (k : ℕ) → k < i → block_at rows k ≢ b

none_tail : (row : Row) (rows : List Row) (b i : ℕ) → NoneBefore (row ∷ rows) b (suc i) → NoneBefore rows b i
none_tail row rows b i none k lt = none (suc k) (omega arith)

at_none : (rows : List Row) (b i : ℕ) → IsRising rows → IsAt rows b i → NoneBefore rows b i
at_none rows b i rising at k lt same = omega (arith, rising k i lt at.within, at.is)

-- what stands where
for_absent : (cells : List (List ℕ)) (rows : List Row) (b : ℕ) → NoneBefore rows b (length rows) → line_for cells rows b ≡ None
for_absent cells [] b none = refl
for_absent cells (row ∷ rows) b none = grind (arith, nat_tests, none 0 (omega arith), for_absent cells rows b (none_tail row rows b (length rows) none))

for_present : (cells : List (List ℕ)) (rows : List Row) (b i : ℕ) → i < length rows → block_at rows i ≡ b → NoneBefore rows b i → line_for cells rows b ≡ Some (line_of cells (row_at rows i))
for_present cells [] b i lt is none = absurd (omega arith)
for_present cells (row ∷ rows) b zero lt is none = grind (arith, nat_tests)
for_present cells (row ∷ rows) b (suc i) lt is none = grind (arith, nat_tests, none 0 (omega arith), for_present cells rows b i (omega arith) is (none_tail row rows b i none))

-- other cells, with the same bytes at the rows of the block
for_same : (cells cells' : List (List ℕ)) (rows : List Row) (q : ℕ) → ((k : ℕ) → k < length rows → block_at rows k ≡ q → get_or cells' (row_at rows k).line [] ≡ get_or cells (row_at rows k).line []) → line_for cells' rows q ≡ line_for cells rows q
for_same cells cells' [] q same = refl
for_same cells cells' (row ∷ rows) q same = elim (cases_eq row.block.0 q) [
  | inl e ↦ let here : get_or cells' row.line [] ≡ get_or cells row.line [] = same 0 (omega arith) e in grind (arith, nat_tests)
  | inr ne ↦ grind (arith, nat_tests, for_same cells cells' rows q (λ k lt e. same (suc k) (omega arith) e))
]

-- after an edit
for_set : (cells : List (List ℕ)) (rows : List Row) (i : ℕ) (row : Row) (q : ℕ) → i < length rows → block_at rows i ≡ row.block.0 → NoneBefore rows row.block.0 i → line_for cells (set rows i row) q ≡ (if row.block.0 == q then Some (line_of cells row) else line_for cells rows q)
for_set cells [] i row q lt is none = absurd (omega arith)
for_set cells (r ∷ rows) zero row q lt is none = grind (arith, nat_tests)
for_set cells (r ∷ rows) (suc i) row q lt is none = grind (arith, nat_tests, none 0 (omega arith), for_set cells rows i row q (omega arith) is (none_tail r rows row.block.0 i none))

for_insert : (cells : List (List ℕ)) (rows : List Row) (i : ℕ) (row : Row) (q : ℕ) → NoneBefore rows row.block.0 i → line_for cells (insert rows i row) q ≡ (if row.block.0 == q then Some (line_of cells row) else line_for cells rows q)
for_insert cells rows zero row q none = refl
for_insert cells [] (suc i) row q none = refl
for_insert cells (r ∷ rows) (suc i) row q none = grind (arith, nat_tests, none 0 (omega arith), for_insert cells rows i row q (none_tail r rows row.block.0 i none))

rising_tail : (row : Row) (rows : List Row) → IsRising (row ∷ rows) → IsRising rows
rising_tail row rows rising j k jk lt = rising (suc j) (suc k) (omega arith) (omega arith)

for_remove : (cells : List (List ℕ)) (rows : List Row) (i q : ℕ) → IsRising rows → i < length rows → line_for cells (remove rows i) q ≡ (if block_at rows i == q then None else line_for cells rows q)
for_remove cells [] i q rising lt = absurd (omega arith)
for_remove cells (row ∷ rows) zero q rising lt = elim (cases_eq row.block.0 q) [
  | inl e ↦ for_absent cells rows q (λ k k_lt same. omega (arith, rising 0 (suc k) (omega arith) (omega arith))) ∙ grind (arith, nat_tests)
  | inr ne ↦ grind (arith, nat_tests)
]
for_remove cells (row ∷ rows) (suc i) q rising lt = grind (arith, nat_tests, rising 0 (suc i) (omega arith) lt, for_remove cells rows i q (rising_tail row rows rising) (omega arith))

-- the map at a row, and where there is none
pub get-at : (cells : List (List ℕ)) (rows : List Row) (b i : ℕ) → IsRising rows → IsAt rows b i → map.get (lines_of rows cells) b ≡ Some (line_of cells (row_at rows i))
get-at cells rows b i rising at = get-lines cells rows b ∙ for_present cells rows b i at.within at.is (at_none rows b i rising at)

pub get-gap : (cells : List (List ℕ)) (rows : List Row) (b i : ℕ) → IsGap rows b i → map.get (lines_of rows cells) b ≡ None
get-gap cells rows b i gap = get-lines cells rows b ∙ for_absent cells rows b (λ k lt same. grind (arith, gap.below k, gap.above k))

-- the map after an edit
pub lines-set : (cells cells' : List (List ℕ)) (rows : List Row) (i : ℕ) (row : Row) → IsRising rows → IsAt rows row.block.0 i
    → ((k : ℕ) → k < length rows → k ≢ i → get_or cells' (row_at rows k).line [] ≡ get_or cells (row_at rows k).line [])
    → lines_of (set rows i row) cells' ≡ with_line (lines_of rows cells) row.block.0 (Some (line_of cells' row))
lines-set cells cells' rows i row rising at others =
    map.same_map nat_cmp_total nat_cmp-IsAntisymmetric _ _ (λ q.
    get-lines cells' (set rows i row) q ∙ (for_set cells' rows i row q at.within at.is (at_none rows row.block.0 i rising at) ∙ (elsewhere q ∙ sym (get-with_line (lines_of rows cells) row.block.0 q (Some (line_of cells' row))))))
  where
    kept : (q : ℕ) → row.block.0 ≢ q → line_for cells' rows q ≡ map.get (lines_of rows cells) q
    kept q ne = for_same cells cells' rows q (λ k lt e. others k lt (λ (here : k ≡ i). ne (sym at.is ∙ (sym (ap (block_at rows) here) ∙ e)))) ∙ sym (get-lines cells rows q)

    elsewhere : (q : ℕ) → (if row.block.0 == q then Some (line_of cells' row) else line_for cells' rows q) ≡ (if row.block.0 == q then Some (line_of cells' row) else map.get (lines_of rows cells) q)
    elsewhere q = elim (cases_eq row.block.0 q) [ inl e ↦ grind (arith, nat_tests) | inr ne ↦ rw (kept q ne) refl ]

pub lines-insert : (cells cells' : List (List ℕ)) (rows : List Row) (i : ℕ) (row : Row) → IsGap rows row.block.0 i
    → ((k : ℕ) → k < length rows → get_or cells' (row_at rows k).line [] ≡ get_or cells (row_at rows k).line [])
    → lines_of (insert rows i row) cells' ≡ with_line (lines_of rows cells) row.block.0 (Some (line_of cells' row))
lines-insert cells cells' rows i row gap others =
    map.same_map nat_cmp_total nat_cmp-IsAntisymmetric _ _ (λ q.
    get-lines cells' (insert rows i row) q ∙ (for_insert cells' rows i row q (λ k lt same. omega (arith, gap.below k lt))
    ∙ (ap (λ o. if row.block.0 == q then Some (line_of cells' row) else o) (for_same cells cells' rows q (λ k lt e. others k lt) ∙ sym (get-lines cells rows q))
    ∙ sym (get-with_line (lines_of rows cells) row.block.0 q (Some (line_of cells' row))))))

pub lines-remove : (cells : List (List ℕ)) (rows : List Row) (i : ℕ) → IsRising rows → i < length rows → lines_of (remove rows i) cells ≡ with_line (lines_of rows cells) (block_at rows i) None
lines-remove cells rows i rising lt =
    map.same_map nat_cmp_total nat_cmp-IsAntisymmetric _ _ (λ q.
    get-lines cells (remove rows i) q ∙ (for_remove cells rows i q rising lt ∙ (ap (λ o. if block_at rows i == q then None else o) (sym (get-lines cells rows q)) ∙ sym (get-with_line (lines_of rows cells) (block_at rows i) q None))))

-- the blocks of the rows are the keys of the map
no_entries : {A : Type 0} → (es : List A) → length es ≡ 0 → es ≡ []
no_entries [] e = refl
no_entries (x ∷ es) e = absurd (omega arith)

put_first : (cells : List (List ℕ)) (row : Row) (rows : List Row) → IsRising (row ∷ rows) → map.put nat_cmp row.block.0 (line_of cells row) (list_map (λ r. (r.block.0, line_of cells r)) rows) ≡ list_map (λ r. (r.block.0, line_of cells r)) (row ∷ rows)
put_first cells row [] rising = refl
put_first cells row (r ∷ rows) rising = let lt : row.block.0 < r.block.0 = rising 0 1 (omega arith) (omega arith) in let less : nat_cmp row.block.0 r.block.0 ≡ Less = grind (arith, nat_tests) in rw less refl

entries-lines : (cells : List (List ℕ)) (rows : List Row) → IsRising rows → map.entries (map.from_entries {R = nat_cmp} (list_map (λ r. (r.block.0, line_of cells r)) rows)) ≡ list_map (λ r. (r.block.0, line_of cells r)) rows
entries-lines cells [] rising = no_entries _ (sym (map.len-entries (map.empty {X = Line} {R = nat_cmp})) ∙ map.len-empty nat_cmp Line)
entries-lines cells (row ∷ rows) rising =
    map.entries-insert nat_cmp_total (map.from_entries (list_map (λ r. (r.block.0, line_of cells r)) rows)) row.block.0 (line_of cells row)
    ∙ (ap (map.put nat_cmp row.block.0 (line_of cells row)) (entries-lines cells rows (rising_tail row rows rising)) ∙ put_first cells row rows rising)

keys-entries : (cells : List (List ℕ)) (rows : List Row) → list_map (λ (e : ℕ × Line). e.0) (list_map (λ (r : Row). (r.block.0, line_of cells r)) rows) ≡ list_map (λ r. r.block.0) rows
keys-entries cells [] = refl
keys-entries cells (row ∷ rows) = ap (λ ks. row.block.0 ∷ ks) (keys-entries cells rows)

pub keys-lines : (cells : List (List ℕ)) (rows : List Row) → IsRising rows → list_map (λ row. row.block.0) rows ≡ map.keys (lines_of rows cells)
unfolding lines_of
keys-lines cells rows rising = sym (ap (list_map (λ (e : ℕ × Line). e.0)) (entries-lines cells rows rising) ∙ keys-entries cells rows)

pub lines-empty : (cells : List (List ℕ)) → lines_of [] cells ≡ map.empty
unfolding lines_of
lines-empty cells = refl

-- to take away what is not there changes nothing
pub without-absent : (m : FinMap nat_cmp Line) (b : ℕ) → map.get m b ≡ None → m ≡ with_line m b None
without-absent m b none = map.same_map nat_cmp_total nat_cmp-IsAntisymmetric _ _ (λ q. at q ∙ sym (get-with_line m b q None))
  where
    at : (q : ℕ) → map.get m q ≡ (if b == q then None else map.get m q)
    at q = elim (cases_eq q b) [ inl e ↦ let here : map.get m q ≡ None = ap (map.get m) e ∙ none in grind (arith, nat_tests) | inr ne ↦ grind (arith, nat_tests) ]
