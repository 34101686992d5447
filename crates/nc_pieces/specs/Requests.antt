-- What is asked of a pool of pieces: its pages, its layout, and operations by label.
use Rattle.std.specs.Prelude.{◌≡◌, ℕ, ◌+◌, ◌*◌, ◌%◌, ◌≤◌, List, length, All}
use Rattle.nc_pieces.specs.declared.request.PieceOp.{PieceOp}
use Rattle.nc_pieces.specs.declared.request.PieceOp.TheVariants.{Alloc, Free}

pub record Request : Type 0 where
  pub at : ℕ
  pub pages : ℕ
  pub size : ℕ
  pub align : ℕ
  pub boundary : ℕ
  pub ops : List PieceOp

abbrev pub label_of : PieceOp → ℕ
label_of (Alloc label) = label
label_of (Free label) = label

-- a label is a number of at most three digits
abbrev pub FitsOp : PieceOp → Type 0
FitsOp op = label_of op ≤ 999

-- what holds of each request that is read
pub record FitsRequest (r : Request) : Type 0 where
  pub whole : r.at % 4096 ≡ 0
  pub ends : r.at + 4096 * r.pages ≤ 1048576
  pub few : length r.ops ≤ 4096
  pub labels : All FitsOp r.ops
