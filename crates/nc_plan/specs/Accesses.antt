-- The steps of a script's access: its pieces in order, each translated by itself where the access is virtual. Pieces
-- are this project's own; translation is the RISC-V Privileged Architecture's (Svpbmt).
use Rattle.std.specs.Prelude.{ℕ, ◌-◌, ◌/◌, Bool, List, length, Option, Some, None, Result, Ok, Err, slice_get, slice_index}
use Rattle.nc_num.specs.Memory.{span}
use Rattle.nc_num.specs.Places.{pieces}
use Rattle.nc_num.specs.declared.places.Place.{Place}
use Rattle.nc_num.specs.declared.places.Span.{Span}
use Rattle.nc_num.specs.declared.names.MemType.{MemType}
use Rattle.nc_pte.specs.Translation.{translated}
use Rattle.nc_pte.specs.declared.translation.PageFault.{PageFault}
use Rattle.nc_plan.specs.declared.access.At.{At}
use Rattle.nc_plan.specs.declared.access.At.TheVariants.{Ram, Virtual}
use Rattle.nc_plan.specs.declared.ops.Payload.TheVariants.{Given}
use Rattle.nc_plan.specs.declared.ops.HartOp.{HartOp}
use Rattle.nc_plan.specs.declared.ops.HartOp.TheVariants.{Load, Store}

-- the places, or the virtual addresses, of an access of so many bytes
abbrev pub range : At → ℕ → Span
range (Ram at kind) len = record { at = at; len = len }
range (Virtual va) len = record { at = va; len = len }

-- the type and the place of a place or virtual address of the access
abbrev pub found : At → Bool → List ℕ → ℕ → Result (MemType × Place) PageFault
found (Ram at kind) pbmte table x = Ok (kind, record { 0 = x })
found (Virtual va) pbmte table x = translated pbmte (slice_index table (x / 4096)) x

-- the operation of a piece that lies there, or its fault
abbrev pub piece_op : (Span → MemType → HartOp) → ℕ → Result (MemType × Place) PageFault → Result (Option HartOp) PageFault
piece_op op len (Ok there) = Ok (Some (op (record { at = there.1.0; len = len }) there.0))
piece_op op len (Err fault) = Err fault

-- what a piece of the range loads or stores there
abbrev pub load_op : Span → Span → MemType → HartOp
load_op piece there kind = Load there kind

abbrev pub store_op : ℕ → List ℕ → Span → Span → MemType → HartOp
store_op start bytes piece there kind = Store there kind (Given (span bytes (piece.at - start) piece.len))

-- the step of a piece, where there is one
abbrev pub step_of : (Span → Span → MemType → HartOp) → At → Bool → List ℕ → Option Span → Result (Option HartOp) PageFault
step_of op to pbmte table None = Ok None
step_of op to pbmte table (Some piece) = piece_op (op piece) piece.len (found to pbmte table piece.at)

-- step n of a load of len bytes, and of a store of these bytes, counted from 0
unfoldable pub load_step : At → Bool → List ℕ → ℕ → ℕ → Result (Option HartOp) PageFault
load_step to pbmte table len n = step_of load_op to pbmte table (slice_get (pieces (range to len)) n)

unfoldable pub store_step : At → Bool → List ℕ → List ℕ → ℕ → Result (Option HartOp) PageFault
store_step to pbmte table bytes n =
    step_of (store_op (range to (length bytes)).at bytes) to pbmte table (slice_get (pieces (range to (length bytes))) n)
