-- Where the byte v of flat memory stands at one place, as a hart, nobody or a channel may use it. This project's own.
use Rattle.std.specs.Prelude.{ℕ, ◌≡◌, ◌≢◌, ◌/◌, false, Option, None}
use Rattle.std.specs.List.{list_any}
use Rattle.nc_num.specs.Memory.{byte}
use Rattle.nc_queue.specs.Entries.{gives_in}
use Rattle.nc_queue.specs.Rules.{gives}
use Rattle.nc_rules.specs.Machine.{MachineState, queue_of}
use Rattle.nc_calls.specs.PlaceLaws.{FreshAt, ClearAt, BothAt}
use Rattle.nc_rules.specs.View.{view}

-- what hart h's queue gives at a place
abbrev pub given : MachineState → ℕ → ℕ → Option ℕ
given m h x = gives m.size (queue_of m h) x

-- no copy is stale, and no other hart than h has a byte for the place in its queue
pub record QuietRow (h : ℕ) (m : MachineState) (x : ℕ) : Type 0 where
  pub fresh : FreshAt m x
  pub others : (g : ℕ) → g ≢ h → given m g x ≡ None

-- hart h sees the byte besides
pub record ThreadRow (h v : ℕ) (m : MachineState) (x : ℕ) : Type 0 where
  pub shows : view m h x ≡ v
  pub quiet : QuietRow h m x

-- memory has the byte, and every copy in the caches, though another place of the block may be dirty; no queue has one
pub record PoolRow (v : ℕ) (m : MachineState) (x : ℕ) : Type 0 where
  pub both : BothAt m v x
  pub none : (g : ℕ) → given m g x ≡ None

-- memory and every copy have the same byte, whatever it is
abbrev pub CalmRow : MachineState → ℕ → Type 0
CalmRow m x = PoolRow (byte m.cache.ram x) m x

-- no queue of a hart but h's has a byte of the place's block
abbrev pub Alone : ℕ → MachineState → ℕ → Type 0
Alone h m x = (g : ℕ) → g ≢ h → list_any (gives_in m.size (x / m.size)) (queue_of m g) ≡ false

-- memory has the byte, nobody has the block dirty, and no queue has a byte of it: copies may be stale
pub record OpenRow (v : ℕ) (m : MachineState) (x : ℕ) : Type 0 where
  pub clear : ClearAt m x
  pub memory : byte m.cache.ram x ≡ v
  pub none : (g : ℕ) → list_any (gives_in m.size (x / m.size)) (queue_of m g) ≡ false
