-- The steps of operations, and the plans by which lots are lent and taken back. This project's own, after the Linux
-- DMA API; fences are the RISC-V ISA's.
use Rattle.std.specs.Prelude.{ℕ, zero, suc, if◌then◌else◌, List, [], ◌∷◌, ◌++◌, length, map, flat_map, Option, Some, None}
use Rattle.nc_num.specs.declared.names.ChanNo.{ChanNo}
use Rattle.nc_plan.specs.Plans.{copied_in, written_back, full, returning}
use Rattle.nc_plan.specs.declared.effects.Effects.{Effects}
use Rattle.nc_plan.specs.declared.ops.HartOp.{HartOp}
use Rattle.nc_plan.specs.declared.ops.HartOp.TheVariants as hart
use Rattle.nc_plan.specs.declared.ops.IoTarget.TheVariants as io
use Rattle.nc_plan.specs.declared.parts.Part.{Part}
use Rattle.nc_rules.specs.declared.lots.Lot.{Lot}
use Rattle.nc_rules.specs.declared.steps.Act.{Act}
use Rattle.nc_rules.specs.declared.steps.Act.TheVariants as acts
use Rattle.nc_rules.specs.declared.steps.Step.{Step}
use Rattle.nc_rules.specs.declared.steps.Turn.{Turn}
use Rattle.nc_rules.specs.declared.steps.Turn.TheVariants as turns
use Rattle.nc_rules.specs.Lots.{DriverConfig, parts}

-- ---- steps

abbrev pub step : Act → Step
step act = record { act = act; first = turns.Stay; last = turns.Stay }

abbrev pub hart_step : HartOp → Step
hart_step op = step (acts.Op op)

abbrev pub op_steps : List HartOp → List Step
op_steps ops = map hart_step ops

-- a step with a turn
abbrev pub turning : Turn → Step → Step
turning turn s = record s { last = turn }

-- step n of an operation that has one
abbrev pub single : Step → ℕ → Option Step
single s zero = Some s
single s (suc n) = None

-- a store to a channel's Control
abbrev pub control_step : ChanNo → ℕ → Step
control_step chan value = hart_step (hart.IoStore (io.Reg chan 0 4 value))

-- the last step makes this turn
abbrev pub ending : Turn → List Step → List Step
ending turn [] = []
ending turn (s ∷ []) = turning turn s ∷ []
ending turn (s ∷ t ∷ rest) = s ∷ ending turn (t ∷ rest)

-- the first step makes this turn
abbrev pub beginning : Turn → List Step → List Step
beginning turn [] = []
beginning turn (s ∷ rest) = record s { first = turn } ∷ rest

-- ---- the lending of a lot

-- what is done before the lot may be lent: its bounced ranges are copied into their slots, and each of its blocks is
-- written back
abbrev pub carried : Effects → ℕ → List Part → List HartOp
carried e size ps = flat_map copied_in ps ++ flat_map (written_back e size) ps

-- a marker of W before O, and a token of the lot: what stands in the queue is out before the token is
abbrev pub token_steps : Lot → List Step
token_steps lot =
    hart_step (hart.Mark 1 4) ∷ hart_step (hart.IoStore (io.Lend lot.id.label lot.id.first (length lot.list.entries))) ∷ []

-- the end of a lending: a full fence, with which the lot is the device's, or with light fences a token, with whose
-- drain it is
abbrev pub lending_end : DriverConfig → Lot → List Step
lending_end f lot = if f.light then token_steps lot else turning (turns.Give lot.id) (hart_step full) ∷ []

abbrev pub lend_steps : DriverConfig → Lot → List Step
lend_steps f lot = op_steps (carried f.effects f.size (parts f lot)) ++ lending_end f lot

-- ---- the taking back of a lot

abbrev pub return_steps : DriverConfig → Lot → List Step
return_steps f lot = op_steps (returning f.effects f.size (parts f lot))
