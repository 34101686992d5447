-- The directory of the domain: a row for each block that some hart holds.
use Rattle.std.specs.Prelude.{ℕ, ◌≡◌, ◌≢◌, ◌<◌, Bool, true, false, List, length, map as list_map, Option, Some, None, slice_index_or}
use Rattle.std.specs.Int.{bit_at}
use Rattle.std.specs.Ordering.{nat_cmp}
use Rattle.std.specs.FinMap.{FinMap}
use Rattle.std.specs.FinMap as map
use Rattle.std.specs.Coded.{Coded, code_by, coded×, coded_ℕ}
use Rattle.std.specs.Prelude.{refl}
use Rattle.nc_num.specs.declared.names.HartNo.{HartNo}
use Rattle.nc_cache.specs.declared.line.Held.{Held}
use Rattle.nc_cache.specs.declared.line.Held.TheVariants.{Shared, Dirty}
use Rattle.nc_cache.specs.declared.line.Line.{Line}
use Rattle.nc_cache.specs.declared.directory.Row.{Row}
use Rattle.nc_cache.specs.Cache.{holds}
use Rattle.nc_cache.specs.Bus.{block}

-- what stands where there is no row
abbrev pub no_row : Row
no_row = record { block = block 0; holders = 0; dirty = None; line = 0 }

abbrev pub row_at : List Row → ℕ → Row
row_at rows i = slice_index_or rows i no_row

abbrev pub block_at : List Row → ℕ → ℕ
block_at rows i = let row = row_at rows i in row.block.0

abbrev pub bit : Bool → ℕ
bit false = 0
bit true = 1

abbrev pub dirty_holder : Held → Option HartNo
dirty_holder (Shared by) = None
dirty_holder (Dirty g) = Some g

-- the row has bit h exactly where hart h holds the line, and the dirty holder
pub record Tells (row : Row) (line : Line) : Type 0 where
  pub holders : (h : ℕ) → bit_at row.holders h ≡ bit (holds line.held h)
  pub dirty : row.dirty ≡ dirty_holder line.held

-- a line of these bytes, whoever holds it
abbrev pub HasBytes : Option Line → List ℕ → Type 0
HasBytes line bytes = (held : Held) × (line ≡ Some (record { bytes = bytes; held = held }))

-- the blocks rise from row to row
abbrev pub IsRising : List Row → Type 0
IsRising rows = (i j : ℕ) → i < j → j < length rows → block_at rows i < block_at rows j

-- one row for each block of the map, ascending, each of what its line is, with lines that differ
pub record IsDirectory (rows : List Row) (lines : FinMap nat_cmp Line) : Type 0 where
  pub blocks : list_map (λ row. row.block.0) rows ≡ map.keys lines
  pub ascending : IsRising rows
  pub tells : (i : ℕ) → i < length rows → (line : Line) × (map.get lines (block_at rows i) ≡ Some line) × Tells (row_at rows i) line
  pub lines_differ : (i j : ℕ) → i < j → j < length rows → (row_at rows i).line ≢ (row_at rows j).line

-- the blocks that some hart holds, and for how many more there is room
pub record DirectoryState : Type 0 where
  pub lines : FinMap nat_cmp Line
  pub spare : ℕ

-- how a proof tells the states apart
abbrev pub directory_code : Coded Line → Coded DirectoryState
directory_code line = code_by (FinMap nat_cmp Line × ℕ) (coded× (map.code coded_ℕ line) coded_ℕ) (λ d. (d.lines, d.spare)) (λ p. record { lines = p.0; spare = p.1 }) (λ _. refl)
