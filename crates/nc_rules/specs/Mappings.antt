-- Single mappings (Linux DMA API: dma_map_single, dma_unmap_single, dma_sync_single_for_cpu and _for_device). The order
-- of the refusals and the plans are this project's own.
use Rattle.std.specs.Prelude.{if◌then◌else◌, List, [], ◌∷◌, Option, Some, None, Result, Ok}
use Rattle.nc_num.specs.declared.names.ChanNo.{ChanNo}
use Rattle.nc_num.specs.declared.names.Dir.{Dir}
use Rattle.nc_num.specs.declared.names.Label.{Label}
use Rattle.nc_model.specs.declared.owners.Owner.{Owner}
use Rattle.nc_ops.specs.declared.ops.SgEntry.{SgEntry}
use Rattle.nc_rules.specs.declared.answers.Answer.{Answer}
use Rattle.nc_rules.specs.declared.answers.Answer.TheVariants as answers
use Rattle.nc_rules.specs.declared.answers.Refusal.{Refusal}
use Rattle.nc_rules.specs.declared.lots.Kind.TheVariants.{Single}
use Rattle.nc_rules.specs.declared.lots.Lot.{Lot}
use Rattle.nc_rules.specs.declared.steps.Step.{Step}
use Rattle.nc_rules.specs.declared.steps.Turn.{Turn}
use Rattle.nc_rules.specs.declared.steps.Turn.TheVariants as turns
use Rattle.nc_rules.specs.Lots.{DriverConfig, lot_id, lot_named, ranges_lot, bus_of_lot, is_synced}
use Rattle.nc_rules.specs.Refusals.{◌>>=◌, all_some, ranges_of, unused, named, owned_from, lendable, placeable}
use Rattle.nc_rules.specs.Plans.{lend_steps, return_steps, ending}
use Rattle.nc_rules.specs.Meanings.{Meaning, ByPlan, answer_with}

-- the lot of a label, which an operation goes on with where it is there
abbrev pub with_lot : {A : Type 0} → A → (Lot → A) → Option Lot → A
with_lot none go None = none
with_lot none go (Some lot) = go lot

-- ---- map

abbrev pub map_begin : DriverConfig → List Lot → Label → SgEntry → Dir → ChanNo → List Owner → Result (List Lot) Refusal
map_begin f lots label entry dir chan owners =
    all_some (entry ∷ [])
    >>= λ _. ranges_of f (entry ∷ [])
    >>= λ ranges. unused lots label
    >>= λ _. owned_from f.me (lot_id label 0) 0 owners ranges
    >>= λ _. lendable f.effects dir
    >>= λ _. placeable f (ranges_lot f (lot_id label 0) Single dir chan ranges ∷ [])

abbrev pub mapped_answer : DriverConfig → Option Lot → Option Answer
mapped_answer f None = None
mapped_answer f (Some lot) = Some (answers.Mapped (bus_of_lot f lot))

unfoldable pub map_single : DriverConfig → List Lot → Label → SgEntry → Dir → ChanNo → Meaning
map_single f lots label entry dir chan = record {
  way = ByPlan (λ owners pages. map_begin f lots label entry dir chan owners) (turns.Lend (lot_id label 0)) (with_lot [] (lend_steps f) (lot_named lots label Single));
  good = λ saw. mapped_answer f (lot_named lots label Single);
  bad = λ r. answers.Refused r;
}

-- ---- unmap, and the syncs

-- it needs a mapping of this label, and makes no lot
abbrev pub needs_lot : Result Lot Refusal → Result (List Lot) Refusal
needs_lot there = there >>= λ lot. Ok []

-- a mapping that is synced ends at once; the device's is taken back first
abbrev pub unmap_turn : Lot → Turn
unmap_turn lot = if is_synced lot.side then turns.End lot.id else turns.Return lot.id

abbrev pub unmap_steps : DriverConfig → Lot → List Step
unmap_steps f lot = if is_synced lot.side then [] else ending (turns.End lot.id) (return_steps f lot)

unfoldable pub unmap_single : DriverConfig → List Lot → Label → Meaning
unmap_single f lots label = record {
  way = ByPlan (λ owners pages. needs_lot (named lots label Single)) (with_lot turns.Stay unmap_turn (lot_named lots label Single)) (with_lot [] (unmap_steps f) (lot_named lots label Single));
  good = answer_with answers.Unmapped;
  bad = λ r. answers.Refused r;
}

-- a mapping that is synced already stays as it is
abbrev pub to_cpu_turn : Lot → Turn
to_cpu_turn lot = if is_synced lot.side then turns.Stay else turns.Return lot.id

abbrev pub to_cpu_steps : DriverConfig → Lot → List Step
to_cpu_steps f lot = if is_synced lot.side then [] else ending (turns.Sync lot.id) (return_steps f lot)

unfoldable pub sync_for_cpu : DriverConfig → List Lot → Label → Meaning
sync_for_cpu f lots label = record {
  way = ByPlan (λ owners pages. needs_lot (named lots label Single)) (with_lot turns.Stay to_cpu_turn (lot_named lots label Single)) (with_lot [] (to_cpu_steps f) (lot_named lots label Single));
  good = answer_with answers.Cpu;
  bad = λ r. answers.Refused r;
}

-- a mapping that is the device's already stays as it is
abbrev pub to_dev_turn : Lot → Turn
to_dev_turn lot = if is_synced lot.side then turns.Lend lot.id else turns.Stay

abbrev pub to_dev_steps : DriverConfig → Lot → List Step
to_dev_steps f lot = if is_synced lot.side then lend_steps f lot else []

unfoldable pub sync_for_device : DriverConfig → List Lot → Label → Meaning
sync_for_device f lots label = record {
  way = ByPlan (λ owners pages. needs_lot (named lots label Single)) (with_lot turns.Stay to_dev_turn (lot_named lots label Single)) (with_lot [] (to_dev_steps f) (lot_named lots label Single));
  good = answer_with answers.Dev;
  bad = λ r. answers.Refused r;
}
