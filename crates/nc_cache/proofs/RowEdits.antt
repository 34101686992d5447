-- The rows and the cells of their lines after an edit: they are kept, and what the map is.
use Rattle.std.specs.Prelude.{Some, None}
use Rattle.std.specs.List.{insert, remove, All}
use Rattle.std.proofs.Common.{◌≡◌, ◌⊎◌, ℕ, suc, ◌+◌, ◌<◌, ◌^◌, List, [], ◌∷◌, ◌++◌, length, get_or, set, take, drop, refl, inl, inr, sym, ap, subst, ◌∙◌, arith, length-append}
use Rattle.std.proofs.lemmas.List.{get_or_read, get_or_at, get_or_append_left, get_or-set_same, get_or-set_other, length-set}
use Rattle.std.proofs.lemmas.List.Elements.{All-set, All-append, All-cons, All-take, All-drop}
use Rattle.nc_cache.specs.declared.line.Held.{Held}
use Rattle.nc_cache.specs.declared.directory.Row.{Row}
use Rattle.nc_cache.specs.Cache.{with_line}
use Rattle.nc_cache.specs.Facts.{IsHeld}
use Rattle.nc_cache.specs.Slab.{SlabState, Reused, Grown}
use Rattle.nc_cache.specs.Directory.{no_row, row_at, block_at, IsDirectory}
use Rattle.nc_cache.specs.Rows.{row_for, line_of, lines_of, IsGap, IsRow, AreRowsOf}
use Rattle.nc_cache.proofs.Masks.{row_tells, held-row_for, is_row-row_for}
use Rattle.nc_cache.proofs.RowPlaces.{rising-set, rising-insert, rising-remove, few_rows}
use Rattle.nc_cache.proofs.RowMaps.{get-at, lines-set, lines-insert, lines-remove, keys-lines}
use Rattle.nc_cache.proofs.RowCells.{cell_count, line_below, free_below, lines_apart, lines_differ, line_not_free, cells-set, cells-remove, cells-reuse, cells-grow}

-- the line of a row that was made so
line_of-row_for : (cells : List (List ℕ)) (b cell : ℕ) (d : Held) (bytes : List ℕ) → IsHeld 4 d → get_or cells cell [] ≡ bytes → line_of cells (row_for b d cell) ≡ record { bytes = bytes; held = d }
line_of-row_for cells b cell d bytes is here = rw (held-row_for b cell d is, here) refl

-- another line at a row
pub kept-change : (rows : List Row) (s t : SlabState) (i : ℕ) (row : Row) (d : Held) (bytes : List ℕ) → AreRowsOf rows s → i < length rows → row ≡ get_or rows i row → IsHeld 4 d → t.cells ≡ set s.cells row.line bytes → t.free ≡ s.free
    → AreRowsOf (set rows i (row_for row.block.0 d row.line)) t
kept-change rows s t i row d bytes kept lt read held cells free =
    let e : row ≡ row_at rows i = get_or_read rows i row lt read no_row in
    let small : row.block.0 < 2 ^ 32 = rw e ((kept.each i no_row lt).block) in
    let len : length t.cells ≡ length s.cells = ap length cells ∙ length-set s.cells row.line bytes in
    record {
      rising = rising-set rows i (row_for row.block.0 d row.line) lt kept.rising (ap (λ (r : Row). r.block.0) e);
      each = All-set IsRow rows i (row_for row.block.0 d row.line) (is_row-row_for row.block.0 row.line d small held) kept.each;
      cells = rw (free, len) (cells-set rows s.free (length s.cells) kept.cells i (row_for row.block.0 d row.line) lt (ap (λ (r : Row). r.line) e));
    }

pub lines-change : (rows : List Row) (s t : SlabState) (i : ℕ) (row : Row) (d : Held) (bytes : List ℕ) → AreRowsOf rows s → i < length rows → row ≡ get_or rows i row → IsHeld 4 d → t.cells ≡ set s.cells row.line bytes
    → lines_of (set rows i (row_for row.block.0 d row.line)) t.cells ≡ with_line (lines_of rows s.cells) (block_at rows i) (Some (record { bytes = bytes; held = d }))
lines-change rows s t i row d bytes kept lt read held cells =
    let e : row ≡ row_at rows i = get_or_read rows i row lt read no_row in
    let same_line : row.line ≡ (row_at rows i).line = ap (λ (r : Row). r.line) e in
    let same_block : row.block.0 ≡ block_at rows i = ap (λ (r : Row). r.block.0) e in
    let below : row.line < length s.cells = subst (λ k. k < length s.cells) (sym same_line) (line_below rows s.free (length s.cells) kept.cells i lt) in
    let here : get_or t.cells row.line [] ≡ bytes = ap (λ cs. get_or cs row.line []) cells ∙ get_or-set_same s.cells row.line bytes [] below in
    lines-set s.cells t.cells rows i (row_for row.block.0 d row.line) kept.rising (record { within = lt; is = sym same_block })
    (λ k k_lt ne. ap (λ cs. get_or cs (row_at rows k).line []) cells
    ∙ get_or-set_other s.cells row.line (row_at rows k).line bytes [] (λ (same : (row_at rows k).line ≡ row.line). lines_differ rows s.free (length s.cells) kept.cells k i ne k_lt lt (same ∙ same_line)))
    ∙ (ap (λ l. with_line (lines_of rows s.cells) row.block.0 (Some l)) (line_of-row_for t.cells row.block.0 row.line d bytes held here)
    ∙ ap (λ b. with_line (lines_of rows s.cells) b (Some (record { bytes = bytes; held = d }))) same_block)

-- one more row
pub room_for : (rows : List Row) (s : SlabState) (b i : ℕ) → AreRowsOf rows s → IsGap rows b i → b < 2 ^ 32 → s.free ≡ [] → length s.cells < 2 ^ 32
room_for rows s b i kept gap small none =
    let count = cell_count rows s.free (length s.cells) kept.cells in
    let len : length s.free ≡ 0 = ap length none in
    let few = few_rows rows b i kept.rising kept.each small gap in
    omega arith

pub free_within : (rows : List Row) (s : SlabState) → AreRowsOf rows s → All (λ k. k < length s.cells) s.free
free_within rows s kept = free_below rows s.free (length s.cells) kept.cells

all-insert : (rows : List Row) (i : ℕ) (row : Row) → All IsRow rows → IsRow row → All IsRow (insert rows i row)
all-insert rows i row each is = All-append IsRow (take i rows) (row ∷ drop i rows) (All-take IsRow i rows each) (All-cons IsRow row (drop i rows) is (All-drop IsRow i rows each))

pub kept-add : (rows : List Row) (s t : SlabState) (i b cell : ℕ) (d : Held) (bytes : List ℕ) → AreRowsOf rows s → IsGap rows b i → b < 2 ^ 32 → IsHeld 4 d → Reused s t cell bytes ⊎ Grown s t cell bytes → AreRowsOf (insert rows i (row_for b d cell)) t
kept-add rows s t i b cell d bytes kept gap small held (inl reused) = record {
  rising = rising-insert rows i (row_for b d cell) gap kept.rising;
  each = all-insert rows i (row_for b d cell) kept.each (is_row-row_for b cell d small held);
  cells =
      let len : length t.cells ≡ length s.cells = ap length reused.cells ∙ length-set s.cells cell bytes in
      rw len (cells-reuse rows t.free (length s.cells) i (row_for b d cell) (rw (← reused.free) kept.cells));
}
kept-add rows s t i b cell d bytes kept gap small held (inr grown) = record {
  rising = rising-insert rows i (row_for b d cell) gap kept.rising;
  each = all-insert rows i (row_for b d cell) kept.each (is_row-row_for b cell d small held);
  cells =
      let len : length t.cells ≡ length s.cells + 1 = ap length grown.cells ∙ length-append s.cells (bytes ∷ []) in
      rw (len, grown.free) (cells-grow rows (length s.cells) i (row_for b d cell) (rw (← grown.none) kept.cells) grown.last);
}

-- the new cell has the bytes, and the cells of the rows have theirs
new_cell : (rows : List Row) (s t : SlabState) (cell : ℕ) (bytes : List ℕ) → AreRowsOf rows s → Reused s t cell bytes ⊎ Grown s t cell bytes → get_or t.cells cell [] ≡ bytes
new_cell rows s t cell bytes kept (inl reused) =
    let len : length s.free ≡ length t.free + 1 = ap length reused.free ∙ length-append t.free (cell ∷ []) in
    let last : get_or s.free (length t.free) 0 ≡ cell = ap (λ f. get_or f (length t.free) 0) reused.free ∙ get_or_at t.free cell [] 0 (length t.free) refl in
    let below : cell < length s.cells = subst (λ k. k < length s.cells) last (free_within rows s kept (length t.free) 0 (omega arith)) in
    ap (λ cs. get_or cs cell []) reused.cells ∙ get_or-set_same s.cells cell bytes [] below
new_cell rows s t cell bytes kept (inr grown) = ap (λ cs. get_or cs cell []) grown.cells ∙ get_or_at s.cells bytes [] [] cell (sym grown.last)

old_cells : (rows : List Row) (s t : SlabState) (cell : ℕ) (bytes : List ℕ) → AreRowsOf rows s → Reused s t cell bytes ⊎ Grown s t cell bytes → (k : ℕ) → k < length rows → get_or t.cells (row_at rows k).line [] ≡ get_or s.cells (row_at rows k).line []
old_cells rows s t cell bytes kept (inl reused) k lt =
    let len : length s.free ≡ length t.free + 1 = ap length reused.free ∙ length-append t.free (cell ∷ []) in
    let last : get_or s.free (length t.free) 0 ≡ cell = ap (λ f. get_or f (length t.free) 0) reused.free ∙ get_or_at t.free cell [] 0 (length t.free) refl in
    ap (λ cs. get_or cs (row_at rows k).line []) reused.cells
    ∙ get_or-set_other s.cells cell (row_at rows k).line bytes [] (λ (same : (row_at rows k).line ≡ cell). line_not_free rows s.free (length s.cells) kept.cells k (length t.free) 0 lt (omega arith) (same ∙ sym last))
old_cells rows s t cell bytes kept (inr grown) k lt =
    ap (λ cs. get_or cs (row_at rows k).line []) grown.cells ∙ get_or_append_left s.cells (bytes ∷ []) [] (row_at rows k).line (line_below rows s.free (length s.cells) kept.cells k lt)

pub lines-add : (rows : List Row) (s t : SlabState) (i b cell : ℕ) (d : Held) (bytes : List ℕ) → AreRowsOf rows s → IsGap rows b i → IsHeld 4 d → Reused s t cell bytes ⊎ Grown s t cell bytes
    → lines_of (insert rows i (row_for b d cell)) t.cells ≡ with_line (lines_of rows s.cells) b (Some (record { bytes = bytes; held = d }))
lines-add rows s t i b cell d bytes kept gap held taken =
    lines-insert s.cells t.cells rows i (row_for b d cell) gap (old_cells rows s t cell bytes kept taken)
    ∙ ap (λ l. with_line (lines_of rows s.cells) b (Some l)) (line_of-row_for t.cells b cell d bytes held (new_cell rows s t cell bytes kept taken))

-- one row less
pub room_to_free : (rows : List Row) (s : SlabState) (i : ℕ) → AreRowsOf rows s → i < length rows → length s.free < length s.cells
room_to_free rows s i kept lt = let count = cell_count rows s.free (length s.cells) kept.cells in omega arith

pub kept-remove : (rows : List Row) (s t : SlabState) (i : ℕ) (row : Row) → AreRowsOf rows s → i < length rows → row ≡ get_or rows i row → t.cells ≡ s.cells → t.free ≡ s.free ++ row.line ∷ [] → AreRowsOf (remove rows i) t
kept-remove rows s t i row kept lt read cells free =
    let e : row ≡ row_at rows i = get_or_read rows i row lt read no_row in
    record {
      rising = rising-remove rows i lt kept.rising;
      each = All-append IsRow (take i rows) (drop (suc i) rows) (All-take IsRow i rows kept.each) (All-drop IsRow (suc i) rows kept.each);
      cells = rw (cells, free) (cells-remove rows s.free (length s.cells) kept.cells i row.line lt (ap (λ (r : Row). r.line) e));
    }

pub lines-less : (rows : List Row) (s t : SlabState) (i : ℕ) → AreRowsOf rows s → i < length rows → t.cells ≡ s.cells → lines_of (remove rows i) t.cells ≡ with_line (lines_of rows s.cells) (block_at rows i) None
lines-less rows s t i kept lt cells = rw cells (lines-remove s.cells rows i kept.rising lt)

-- what the rows tell
pub is_directory : (rows : List Row) (s : SlabState) → AreRowsOf rows s → IsDirectory rows (lines_of rows s.cells)
is_directory rows s kept = record {
  blocks = keys-lines s.cells rows kept.rising;
  ascending = kept.rising;
  tells = λ i lt. (line_of s.cells (row_at rows i), get-at s.cells rows (block_at rows i) i kept.rising (record { within = lt; is = refl }), row_tells s.cells (row_at rows i) (kept.each i no_row lt));
  lines_differ = lines_apart rows s.free (length s.cells) kept.cells;
}
