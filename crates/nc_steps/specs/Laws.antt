-- What the operation of a step is like, when there is none, and how step n + 1 follows step n.
use Rattle.std.specs.Prelude.{◌≡◌, ◌↔◌, ℕ, zero, suc, ◌+◌, ◌-◌, ◌*◌, ◌%◌, ◌==◌, ◌≤◌, Bool, List, length, Option, Some, None, Result, Ok, Err, slice_get, slice_index, EachIndex, if◌then◌else◌}
use Rattle.nc_num.specs.Memory.{span}
use Rattle.nc_num.specs.Places.{pieces, piece, rest, IsPieceLen}
use Rattle.nc_num.specs.Sizes.{IsBlockSize}
use Rattle.nc_num.specs.declared.names.ChanNo.{ChanNo}
use Rattle.nc_num.specs.declared.names.MemType.{MemType}
use Rattle.nc_num.specs.declared.places.Span.{Span}
use Rattle.nc_pte.specs.Words.{IsPteWord}
use Rattle.nc_pte.specs.declared.translation.PageFault.{PageFault}
use Rattle.nc_plan.specs.Accesses.{found, load_step, range, store_step}
use Rattle.nc_plan.specs.Registers.{regs_step}
use Rattle.nc_plan.specs.declared.access.At.{At}
use Rattle.nc_plan.specs.declared.access.At.TheVariants.{Ram, Virtual}
use Rattle.nc_plan.specs.declared.ops.HartOp.{HartOp}
use Rattle.nc_plan.specs.declared.ops.HartOp.TheVariants.{Load, Store}
use Rattle.nc_plan.specs.declared.ops.Payload.TheVariants.{Given}
use Rattle.nc_steps.specs.Mapped.{IsMapped}

-- 8, 4, 2 or 1 bytes, naturally aligned, and in one block of each size
pub record IsNatural (p : Span) : Type 0 where
  pub size : IsPieceLen p.len
  pub aligned : p.at % p.len ≡ 0
  pub one_block : (s : ℕ) → IsBlockSize s → p.at % s + p.len ≤ s

pub record IsWithin (range p : Span) : Type 0 where
  pub starts : range.at ≤ p.at
  pub ends : p.at + p.len ≤ range.at + range.len

-- where the places of an access lie: in its range, or in RAM where it is virtual
abbrev pub home : ℕ → At → ℕ → Span
home ram (Ram at kind) len = record { at = at; len = len }
home ram (Virtual va) len = record { at = 0; len = ram }

-- piece n of an access, and the places and the type that are found for it
pub record IsPlaced (ram : ℕ) (to : At) (pbmte : Bool) (table : List ℕ) (len n : ℕ) (piece there : Span) (kind : MemType) : Type 0 where
  pub numbered : slice_get (pieces (range to len)) n ≡ Some piece
  pub within : IsWithin (range to len) piece
  pub found : found to pbmte table piece.at ≡ Ok (kind, record { 0 = there.at })
  pub length : there.len ≡ piece.len
  pub natural : IsNatural there
  pub lies : IsWithin (home ram to len) there

-- an operation that loads piece n
pub record IsLoad (ram : ℕ) (to : At) (pbmte : Bool) (table : List ℕ) (len n : ℕ) (op : HartOp) : Type 0 where
  pub piece : Span
  pub there : Span
  pub kind : MemType
  pub loads : op ≡ Load there kind
  pub placed : IsPlaced ram to pbmte table len n piece there kind

-- an operation that stores piece n, with its part of the bytes
pub record IsStore (ram : ℕ) (to : At) (pbmte : Bool) (table bytes : List ℕ) (n : ℕ) (op : HartOp) : Type 0 where
  pub piece : Span
  pub there : Span
  pub kind : MemType
  pub given : List ℕ
  pub stores : op ≡ Store there kind (Given given)
  pub its_part : given ≡ span bytes (piece.at - (range to (length bytes)).at) piece.len
  pub whole : length given ≡ there.len
  pub placed : IsPlaced ram to pbmte table (length bytes) n piece there kind

-- the law of loads, and that of stores, for a table whose words are valid for a RAM of so many bytes
abbrev pub LoadsArePieces : Type 0
LoadsArePieces =
    (ram : ℕ) (to : At) (pbmte : Bool) (table : List ℕ) (len n : ℕ) (op : HartOp)
    → IsMapped ram to table len → load_step to pbmte table len n ≡ Ok (Some op) → IsLoad ram to pbmte table len n op

abbrev pub StoresArePieces : Type 0
StoresArePieces =
    (ram : ℕ) (to : At) (pbmte : Bool) (table bytes : List ℕ) (n : ℕ) (op : HartOp)
    → IsMapped ram to table (length bytes) → store_step to pbmte table bytes n ≡ Ok (Some op) → IsStore ram to pbmte table bytes n op

-- piece n is there, and its first address is refused with this fault
pub record Faults (to : At) (pbmte : Bool) (table : List ℕ) (len n : ℕ) (fault : PageFault) : Type 0 where
  pub piece : Span
  pub numbered : slice_get (pieces (range to len)) n ≡ Some piece
  pub refused : found to pbmte table piece.at ≡ Err fault

-- a step of an access is none exactly where there is no piece n, and a fault exactly where piece n is there and is
-- refused
pub record Stops (to : At) (pbmte : Bool) (table : List ℕ) (len n : ℕ) (step : Result (Option HartOp) PageFault) : Type 0 where
  pub none : (step ≡ Ok None) ↔ (length (pieces (range to len)) ≤ n)
  pub fault : (fault : PageFault) → (step ≡ Err fault) ↔ Faults to pbmte table len n fault

-- the law of the three; the stores to a channel's registers are four
pub record StepsStop : Type 0 where
  pub load : (to : At) (pbmte : Bool) (table : List ℕ) (len n : ℕ) → Stops to pbmte table len n (load_step to pbmte table len n)
  pub store : (to : At) (pbmte : Bool) (table bytes : List ℕ) (n : ℕ) → Stops to pbmte table (length bytes) n (store_step to pbmte table bytes n)
  pub regs : (chan : ChanNo) (source destination bytes config n : ℕ) → (regs_step chan source destination bytes config n ≡ None) ↔ (4 ≤ n)

-- what is left of a span behind its first piece, if it has one, and behind its first n pieces
abbrev pub behind : Span → Span
behind span = if span.len == 0 then span else rest span

unfoldable pub left : Span → ℕ → Span
left span zero = span
left span (suc n) = behind (left span n)

abbrev pub first : Span → Option Span
first span = if span.len == 0 then None else Some (piece span)

-- piece n is the first of what is left behind n pieces, and there are at most as many pieces as bytes
pub record Follows (range : Span) (n : ℕ) : Type 0 where
  pub start : left range 0 ≡ range
  pub next : left range (n + 1) ≡ behind (left range n)
  pub step : slice_get (pieces range) n ≡ first (left range n)
  pub ends : (left range n).at + (left range n).len ≡ range.at + range.len
  pub few : length (pieces range) ≤ range.len

abbrev pub PiecesFollow : Type 0
PiecesFollow = (range : Span) (n : ℕ) → Follows range n

-- a table of words that are valid for a RAM serves each virtual access that ends in its pages
abbrev pub TablesServe : Type 0
TablesServe =
    (ram : ℕ) (table : List ℕ) (va len : ℕ)
    → ram ≤ 1048576 → EachIndex table (λ k. IsPteWord ram (slice_index table k)) → va + len ≤ 4096 * length table
    → IsMapped ram (Virtual va) table len × IsMapped 1048576 (Virtual va) table len
