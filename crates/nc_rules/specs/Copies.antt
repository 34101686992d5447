-- Copies by a channel. This project's own.
use Rattle.std.specs.Prelude.{ℕ, List, [], ◌∷◌, ◌++◌, map, if◌then◌else◌, ◌/◌, ◌%◌, ◌^◌, ◌==◌, Option, Some, None, Result, slice_index_or}
use Rattle.std.specs.List.{find}
use Rattle.nc_num.specs.declared.names.ChanNo.{ChanNo}
use Rattle.nc_num.specs.declared.names.Dir.TheVariants.{ToDev, FromDev}
use Rattle.nc_num.specs.declared.places.Span.{Span}
use Rattle.nc_plan.specs.declared.parts.Part.{Part}
use Rattle.nc_model.specs.declared.owners.Owner.{Owner}
use Rattle.nc_memcpy.specs.Copy.{transfer}
use Rattle.nc_memcpy.specs.declared.copy.CopyStep.{CopyStep}
use Rattle.nc_memcpy.specs.declared.copy.CopyStep.TheVariants as copies
use Rattle.nc_sg.specs.Lists.{part_of}
use Rattle.nc_ops.specs.declared.ops.SgEntry.{SgEntry}
use Rattle.nc_rules.specs.declared.answers.Answer.{Answer}
use Rattle.nc_rules.specs.declared.answers.Answer.TheVariants as answers
use Rattle.nc_rules.specs.declared.answers.Refusal.{Refusal}
use Rattle.nc_rules.specs.declared.lots.Kind.TheVariants.{Copy}
use Rattle.nc_rules.specs.declared.lots.Lot.{Lot}
use Rattle.nc_rules.specs.declared.lots.LotId.{LotId}
use Rattle.nc_rules.specs.declared.steps.Act.TheVariants as acts
use Rattle.nc_rules.specs.declared.steps.Seen.{Seen}
use Rattle.nc_rules.specs.declared.steps.Seen.TheVariants as seen
use Rattle.nc_rules.specs.declared.steps.Step.{Step}
use Rattle.nc_rules.specs.declared.steps.Turn.TheVariants as turns
use Rattle.nc_rules.specs.Lots.{DriverConfig, is_lot, lot_id, ranges_lot, only_entry}
use Rattle.nc_rules.specs.Refusals.{◌>>=◌, all_some, ranges_of, owned_from, lendable, placeable}
use Rattle.nc_rules.specs.Plans.{step, hart_step, beginning, ending, lend_steps, return_steps}
use Rattle.nc_rules.specs.Meanings.{Meaning, ByPlan}

-- the two ends, which no script can name: a label of a script is at most 999
abbrev pub source : LotId
source = lot_id (record { 0 = 1000 }) 0

abbrev pub target : LotId
target = lot_id (record { 0 = 1000 }) 1

abbrev pub no_span : Span
no_span = record { at = 0; len = 0 }

-- the device reads the first range and writes the second
abbrev pub ends_of : DriverConfig → ChanNo → List Span → List Lot
ends_of f chan ranges =
    ranges_lot f source Copy ToDev chan (slice_index_or ranges 0 no_span ∷ [])
    ∷ ranges_lot f target Copy FromDev chan (slice_index_or ranges 1 no_span ∷ [])
    ∷ []

-- each check goes over the source, then the destination, before the next check
abbrev pub copy_begin : DriverConfig → SgEntry → SgEntry → ChanNo → List Owner → Result (List Lot) Refusal
copy_begin f src dst chan owners =
    all_some (src ∷ dst ∷ [])
    >>= λ _. ranges_of f (src ∷ dst ∷ [])
    >>= λ ranges. owned_from f.me source 0 owners ranges
    >>= λ _. lendable f.effects ToDev
    >>= λ _. lendable f.effects FromDev
    >>= λ _. placeable f (ends_of f chan ranges)

-- a step of the transfer
abbrev pub copy_step : ChanNo → CopyStep → Step
copy_step chan (copies.Op op) = hart_step op
copy_step chan copies.Poll = step (acts.Poll chan)

-- the claim, with which both ends are being lent
abbrev pub claim_step : ChanNo → Step
claim_step chan = record { act = acts.Claim chan; first = turns.Lend source; last = turns.Lend target }

-- the way back of an end: its first step takes it back, and its last one ends it
abbrev pub back_steps : DriverConfig → Lot → List Step
back_steps f lot = beginning (turns.Return lot.id) (ending (turns.End lot.id) (return_steps f lot))

abbrev pub end_part : DriverConfig → Lot → Part
end_part f lot = part_of lot.list.dir f.slots_at (only_entry lot)

-- claimed, the source lent, the destination lent, the channel set, started, waited for and released, the destination
-- back, the source back
abbrev pub copy_steps : DriverConfig → ChanNo → ℕ → Lot → Lot → List Step
copy_steps f chan cfg src dst =
    claim_step chan
    ∷ lend_steps f src
    ++ lend_steps f dst
    ++ map (copy_step chan) (transfer chan (end_part f src) (end_part f dst) cfg)
    ++ back_steps f dst
    ++ back_steps f src

abbrev pub copy_steps_of : DriverConfig → ChanNo → ℕ → Option Lot → Option Lot → List Step
copy_steps_of f chan cfg None dst = []
copy_steps_of f chan cfg (Some src) None = []
copy_steps_of f chan cfg (Some src) (Some dst) = copy_steps f chan cfg src dst

-- failed where the poll saw bit 31 of Control set
abbrev pub copied : ℕ → Answer
copied control = if control / 2 ^ 31 % 2 == 1 then answers.CopyFailed control else answers.CopyDone

abbrev pub copy_answer : Seen → Option Answer
copy_answer (seen.Control control) = Some (copied control)
copy_answer seen.Nothing = None
copy_answer seen.Claimed = None
copy_answer (seen.Busy g) = None
copy_answer (seen.Value value) = None

unfoldable pub copy : DriverConfig → List Lot → ChanNo → SgEntry → SgEntry → ℕ → Meaning
copy f lots chan src dst cfg = record {
  way = ByPlan (λ owners pages. copy_begin f src dst chan owners) turns.Stay (copy_steps_of f chan cfg (find (is_lot source) lots) (find (is_lot target) lots));
  good = copy_answer;
  bad = λ r. answers.Refused r;
}
