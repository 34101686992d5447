-- The lending and the returning plan of a list of parts. This project's own, after the Linux DMA API: a mapping is
-- written back before the device sees it, and is invalidated before the processor sees what the device wrote.
use Rattle.std.specs.Prelude.{◌≡◌, ℕ, ◌+◌, ◌-◌, ◌/◌, ◌==◌, ◌<◌, ◌≤◌, ◌&&◌, true, List, [], ◌∷◌, ◌++◌, map, flat_map, if◌then◌else◌, ◌%◌, ◌⊎◌}
use Rattle.std.specs.List.Sorted.{IsStrictlyIncreasing}
use Rattle.std.specs.Result.{result_unwrap_or}
use Rattle.std.specs.List.{range_with_len}
use Rattle.nc_num.specs.Sizes.{IsBlockSize}
use Rattle.nc_num.specs.declared.places.Span.{Span}
use Rattle.nc_num.specs.declared.names.Dir.{Dir}
use Rattle.nc_num.specs.declared.names.Dir.TheVariants.{Both, ToDev, FromDev}
use Rattle.nc_num.specs.declared.names.MemType.TheVariants.{Pma}
use Rattle.nc_num.specs.Places.{pieces}
use Rattle.nc_env.specs.declared.CboOp.{CboOp}
use Rattle.nc_env.specs.declared.CboOp.TheVariants.{Clean, Flush, Inval}
use Rattle.nc_plan.specs.declared.ops.HartOp.{HartOp}
use Rattle.nc_plan.specs.declared.ops.HartOp.TheVariants.{Load, Store, Cbo, Fence}
use Rattle.nc_plan.specs.declared.ops.Payload.TheVariants.{Last}
use Rattle.nc_plan.specs.declared.effects.Effects.{Effects}
use Rattle.nc_plan.specs.declared.parts.Part.{Part}
use Rattle.nc_plan.specs.Parts.{is_bounced, comes_back}

-- the blocks that a span meets, ascending
abbrev pub blocks : ℕ → Span → List ℕ
blocks size span = if span.len == 0 then [] else range_with_len (span.at / size) ((span.at + span.len - 1) / size + 1 - span.at / size)

-- one cache operation
abbrev pub cbo : CboOp → ℕ → HartOp
cbo op b = Cbo op (record { 0 = b })

-- the cache operation on each block of a span
abbrev pub cbos : CboOp → ℕ → Span → List HartOp
cbos op size span = map (cbo op) (blocks size span)

-- FENCE iorw, iorw
abbrev pub full : HartOp
full = Fence 15 15

-- the span as far from `to` as this one lies from `from`
abbrev pub moved : ℕ → ℕ → Span → Span
moved from to p = record { at = to + (p.at - from); len = p.len }

-- a piece is loaded, and stored as far from `to` as it lies from `from`
abbrev pub copy_piece : ℕ → ℕ → Span → List HartOp
copy_piece from to p = Load p Pma ∷ Store (moved from to p) Pma Last ∷ []

-- a span is copied piece by piece to one of equal length
abbrev pub copies : Span → Span → List HartOp
copies from to = flat_map (copy_piece from.at to.at) (pieces from)

-- what the hart performs to write a block back: a clean where the device only reads it, a flush else
abbrev pub lend_op : Effects → Dir → CboOp
lend_op e ToDev = result_unwrap_or e.clean Clean
lend_op e Both = result_unwrap_or e.flush Flush
lend_op e FromDev = result_unwrap_or e.flush Flush

-- what it performs to drop a block: by its enables, an invalidate may be a flush
abbrev pub return_op : Effects → CboOp
return_op e = result_unwrap_or e.inval Inval

unfoldable pub copied_in : Part → List HartOp
copied_in p = if is_bounced p then copies p.buffer p.device else []

unfoldable pub written_back : Effects → ℕ → Part → List HartOp
written_back e size p = cbos (lend_op e p.dir) size p.device

unfoldable pub dropped : Effects → ℕ → Part → List HartOp
dropped e size p = if comes_back p.dir then cbos (return_op e) size p.device else []

unfoldable pub copied_back : Part → List HartOp
copied_back p = if comes_back p.dir && is_bounced p then copies p.device p.buffer else []

-- the lending plan: the bounced parts go into their slots, then each block is written back, then all is fenced
unfoldable pub lending : Effects → ℕ → List Part → List HartOp
lending e size ps = flat_map copied_in ps ++ flat_map (written_back e size) ps ++ full ∷ []

-- the returning plan: each block that the device may have written is dropped, then all is fenced, then the bounced
-- parts come back out of their slots
unfoldable pub returning : Effects → ℕ → List Part → List HartOp
returning e size ps = flat_map (dropped e size) ps ++ full ∷ [] ++ flat_map copied_back ps

-- x stands in the list
abbrev pub In : {X : Type 0} → X → List X → Type 0
In x [] = ⊥
In x (y ∷ ys) = (y ≡ x) ⊎ In x ys

-- each block that the span meets is one of its blocks, and no other is; they ascend, so none stands twice
pub record AreItsBlocks (size : ℕ) (span : Span) (bs : List ℕ) : Type 0 where
  pub all : (x : ℕ) → span.at ≤ x → x < span.at + span.len → In (x / size) bs
  pub only : (b : ℕ) → In b bs → (x : ℕ) × (span.at ≤ x) × (x < span.at + span.len) × (x / size ≡ b)
  pub ascend : IsStrictlyIncreasing bs

-- the law of the blocks of a span
abbrev pub BlocksAreMet : Type 0
BlocksAreMet = (size : ℕ) (span : Span) → IsBlockSize size → AreItsBlocks size span (blocks size span)

-- the law of the pieces of a copy: moved to a span of equal length and equal start mod 8, they are its pieces. So the
-- loads of a copy cover the one range, and its stores the other
abbrev pub PiecesMove : Type 0
PiecesMove = (from to : Span) → from.len ≡ to.len → from.at % 8 ≡ to.at % 8 → map (moved from.at to.at) (pieces from) ≡ pieces to

-- the lending plan is operations and then the fence, and the cache operation of each block of each part stands
-- before it
pub record IsWrittenBack (e : Effects) (size : ℕ) (ps : List Part) : Type 0 where
  pub before : List HartOp
  pub fenced : lending e size ps ≡ before ++ full ∷ []
  pub each : (p : Part) → In p ps → (b : ℕ) → In b (blocks size p.device) → In (cbo (lend_op e p.dir) b) before

-- the returning plan is operations, the fence and then more, and the cache operation of each block of each part that
-- the device may have written stands before the fence
pub record IsDropped (e : Effects) (size : ℕ) (ps : List Part) : Type 0 where
  pub before : List HartOp
  pub after : List HartOp
  pub fenced : returning e size ps ≡ before ++ full ∷ after
  pub each : (p : Part) → In p ps → comes_back p.dir ≡ true → (b : ℕ) → In b (blocks size p.device) → In (cbo (return_op e) b) before

-- the law of the two plans
abbrev pub PlansAreFenced : Type 0
PlansAreFenced = (e : Effects) (size : ℕ) (ps : List Part) → IsWrittenBack e size ps × IsDropped e size ps
