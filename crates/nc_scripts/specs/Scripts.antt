-- What a step of an operation that goes step by step names is there in every machine of the scenario's size. This
-- project's own.
use Rattle.std.specs.Prelude.{ℕ, ◌≡◌, ◌+◌, ◌<◌, ◌≤◌, Bool, true, false, length}
use Rattle.nc_num.specs.declared.places.Span.{Span}
use Rattle.nc_rules.specs.declared.steps.Act.{Act}
use Rattle.nc_rules.specs.declared.steps.Act.TheVariants as acts
use Rattle.nc_rules.specs.declared.steps.Next.{Next}
use Rattle.nc_rules.specs.declared.steps.Next.TheVariants as nexts
use Rattle.nc_rules.specs.declared.steps.Step.{Step}
use Rattle.nc_rules.specs.declared.steps.Turn.{Turn}
use Rattle.nc_rules.specs.declared.steps.Turn.TheVariants as turns
use Rattle.nc_rules.specs.Machine.{MachineState}
use Rattle.nc_rules.specs.Lots.{DriverConfig}
use Rattle.nc_rules.specs.Sound.{OpIsThere}

-- some bytes of a RAM of so many
pub record IsRangeIn (ram : ℕ) (range : Span) : Type 0 where
  pub some : 0 < range.len
  pub ends : range.at + range.len ≤ ram

-- a machine that the operations of a driver which knows this are for
pub record IsDriven (ram harts : ℕ) (f : DriverConfig) (m : MachineState) : Type 0 where
  pub memory : length m.cache.ram ≡ ram
  pub block : m.size ≡ f.size
  pub processors : length m.harts ≡ harts
  pub boxes : length m.boxes ≡ length f.buffers

-- what a step names is there
abbrev pub ActIsThere : ℕ → ℕ → DriverConfig → Act → Type 0
ActIsThere ram harts f (acts.Op op) = (m : MachineState) (h : ℕ) → IsDriven ram harts f m → OpIsThere m h op
ActIsThere ram harts f (acts.Claim chan) = chan.0 < 4
ActIsThere ram harts f (acts.Poll chan) = chan.0 < 4
ActIsThere ram harts f (acts.Take buf) = buf < length f.buffers

-- a range of RAM; no operation that goes step by step has a lot
abbrev pub TurnIsThere : ℕ → Turn → Type 0
TurnIsThere ram turns.Stay = Unit {0}
TurnIsThere ram (turns.Pass range to) = IsRangeIn ram range
TurnIsThere ram (turns.Own range) = IsRangeIn ram range
TurnIsThere ram (turns.Lend id) = ⊥
TurnIsThere ram (turns.Give id) = ⊥
TurnIsThere ram (turns.Return id) = ⊥
TurnIsThere ram (turns.Sync id) = ⊥
TurnIsThere ram (turns.Settle id) = ⊥
TurnIsThere ram (turns.End id) = ⊥

pub record StepIsThere (ram harts : ℕ) (f : DriverConfig) (s : Step) : Type 0 where
  pub act : ActIsThere ram harts f s.act
  pub first : TurnIsThere ram s.first
  pub last : TurnIsThere ram s.last

-- it is a step that `done` ends
abbrev pub is_act : Next → Bool
is_act nexts.End = false
is_act nexts.Start = false
is_act (nexts.Search k) = false
is_act (nexts.Op op) = true
is_act (nexts.Claim chan) = true
is_act (nexts.Poll chan) = true
is_act (nexts.Take buf) = true
