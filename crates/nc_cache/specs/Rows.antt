-- Rows beside the cells of their lines, seen as the map of blocks.
use Rattle.std.specs.Prelude.{ℕ, ◌≡◌, ◌+◌, ◌*◌, ◌<◌, ◌≤◌, ◌==◌, ◌^◌, Bool, false, List, [], ◌∷◌, ◌++◌, length, map as list_map, Option, Some, None, slice_index_or}
use Rattle.std.specs.Int.{bit_at}
use Rattle.std.specs.List.{All, range_with_len}
use Rattle.std.specs.List.Sorted.{IsPermutation}
use Rattle.std.specs.Ordering.{nat_cmp}
use Rattle.std.specs.FinMap.{FinMap}
use Rattle.std.specs.FinMap as map
use Rattle.nc_num.specs.declared.names.HartNo.{HartNo}
use Rattle.nc_cache.specs.declared.line.Held.{Held}
use Rattle.nc_cache.specs.declared.line.Held.TheVariants.{Shared, Dirty}
use Rattle.nc_cache.specs.declared.line.Line.{Line}
use Rattle.nc_cache.specs.declared.directory.Row.{Row}
use Rattle.nc_cache.specs.Cache.{holders}
use Rattle.nc_cache.specs.Bus.{block}
use Rattle.nc_cache.specs.Facts.{IsHeld}
use Rattle.nc_cache.specs.Slab.{SlabState}
use Rattle.nc_cache.specs.Directory.{block_at, bit, dirty_holder, IsRising}

-- four harts as a mask, and back
abbrev pub mask : List Bool → ℕ
mask by = bit (slice_index_or by 0 false) + 2 * bit (slice_index_or by 1 false) + 4 * bit (slice_index_or by 2 false) + 8 * bit (slice_index_or by 3 false)

abbrev pub has_bit : ℕ → ℕ → Bool
has_bit m h = bit_at m h == 1

abbrev pub harts_in : ℕ → List Bool
harts_in m = has_bit m 0 ∷ has_bit m 1 ∷ has_bit m 2 ∷ has_bit m 3 ∷ []

-- who holds a block, by its row
abbrev pub held_in : ℕ → Option HartNo → Held
held_in m None = Shared (harts_in m)
held_in m (Some g) = Dirty g

-- the row of a block that is held so
abbrev pub row_for : ℕ → Held → ℕ → Row
row_for b held cell = record { block = block b; holders = mask (holders held); dirty = dirty_holder held; line = cell }

-- the line of a row
abbrev pub line_of : List (List ℕ) → Row → Line
line_of cells row = record { bytes = slice_index_or cells row.line []; held = held_in row.holders row.dirty }

-- the rows as one map
unfoldable pub lines_of : List Row → List (List ℕ) → FinMap nat_cmp Line
lines_of rows cells = map.from_entries (list_map (λ row. (row.block.0, line_of cells row)) rows)

-- the row at place i is the block's
pub record IsAt (rows : List Row) (b i : ℕ) : Type 0 where
  pub within : i < length rows
  pub is : block_at rows i ≡ b

-- no row is the block's, and it belongs at place i
pub record IsGap (rows : List Row) (b i : ℕ) : Type 0 where
  pub within : i ≤ length rows
  pub below : (k : ℕ) → k < i → block_at rows k < b
  pub above : (k : ℕ) → i ≤ k → k < length rows → b < block_at rows k

-- what a row is made of
pub record IsRow (row : Row) : Type 0 where
  pub block : row.block.0 < 2 ^ 32
  pub held : IsHeld 4 (held_in row.holders row.dirty)
  pub holders : row.holders ≡ mask (holders (held_in row.holders row.dirty))

-- the rows rise, and each cell is the line of one row, or free
pub record AreRowsOf (rows : List Row) (slab : SlabState) : Type 0 where
  pub rising : IsRising rows
  pub each : All IsRow rows
  pub cells : IsPermutation (list_map (λ row. row.line) rows ++ slab.free) (range_with_len 0 (length slab.cells))
