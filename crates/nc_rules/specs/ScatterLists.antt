-- Scatter lists (Linux DMA API: dma_map_sg, dma_unmap_sg). The order of the refusals and the plans are this project's
-- own.
use Rattle.std.specs.Prelude.{ℕ, ◌==◌, not, List, [], ◌∷◌, length, Option, Some, None, Result, Ok}
use Rattle.nc_num.specs.declared.names.ChanNo.{ChanNo}
use Rattle.nc_num.specs.declared.names.Dir.{Dir}
use Rattle.nc_num.specs.declared.names.Label.{Label}
use Rattle.nc_model.specs.declared.owners.Owner.{Owner}
use Rattle.nc_sg.specs.Lists.{segments}
use Rattle.nc_ops.specs.declared.ops.SgEntry.{SgEntry}
use Rattle.nc_rules.specs.declared.answers.Answer.{Answer}
use Rattle.nc_rules.specs.declared.answers.Answer.TheVariants as answers
use Rattle.nc_rules.specs.declared.answers.Refusal.{Refusal}
use Rattle.nc_rules.specs.declared.answers.Refusal.TheVariants as refusals
use Rattle.nc_rules.specs.declared.lots.Kind.TheVariants.{List as ScatterList}
use Rattle.nc_rules.specs.declared.lots.Lot.{Lot}
use Rattle.nc_rules.specs.declared.steps.Step.{Step}
use Rattle.nc_rules.specs.declared.steps.Turn.{Turn}
use Rattle.nc_rules.specs.declared.steps.Turn.TheVariants as turns
use Rattle.nc_rules.specs.Lots.{DriverConfig, lot_id, lot_named, ranges_lot}
use Rattle.nc_rules.specs.Refusals.{◌>>=◌, wanted, all_some, ranges_of, unused, named, owned_from, lendable, placeable}
use Rattle.nc_rules.specs.Plans.{lend_steps, return_steps, ending}
use Rattle.nc_rules.specs.Meanings.{Meaning, ByPlan, answer_with}
use Rattle.nc_rules.specs.Mappings.{with_lot}

abbrev pub some_entries : List SgEntry → Result (Unit {0}) Refusal
some_entries entries = wanted refusals.Empty (not (length entries == 0))

-- each check goes over all entries before the next check
abbrev pub map_sg_begin : DriverConfig → List Lot → Label → List SgEntry → Dir → ChanNo → List Owner → Result (List Lot) Refusal
map_sg_begin f lots label entries dir chan owners =
    some_entries entries
    >>= λ _. all_some entries
    >>= λ _. ranges_of f entries
    >>= λ ranges. unused lots label
    >>= λ _. owned_from f.me (lot_id label 0) 0 owners ranges
    >>= λ _. lendable f.effects dir
    >>= λ _. placeable f (ranges_lot f (lot_id label 0) ScatterList dir chan ranges ∷ [])

abbrev pub segments_answer : DriverConfig → Option Lot → Option Answer
segments_answer f None = None
segments_answer f (Some lot) = Some (answers.Segments (segments f.slots_at lot.list.entries))

-- a list that is refused has no segments, and says why
unfoldable pub map_sg : DriverConfig → List Lot → Label → List SgEntry → Dir → ChanNo → Meaning
map_sg f lots label entries dir chan = record {
  way = ByPlan (λ owners pages. map_sg_begin f lots label entries dir chan owners) (turns.Lend (lot_id label 0)) (with_lot [] (lend_steps f) (lot_named lots label ScatterList));
  good = λ saw. segments_answer f (lot_named lots label ScatterList);
  bad = λ r. answers.NoSegments r;
}

-- it names the number of entries that were mapped
abbrev pub unmap_sg_begin : List Lot → Label → ℕ → Result (List Lot) Refusal
unmap_sg_begin lots label count =
    named lots label ScatterList >>= λ lot. wanted (refusals.BadCount (length lot.list.entries)) (length lot.list.entries == count) >>= λ _. Ok []

abbrev pub unmap_sg_turn : Lot → Turn
unmap_sg_turn lot = turns.Return lot.id

abbrev pub unmap_sg_steps : DriverConfig → Lot → List Step
unmap_sg_steps f lot = ending (turns.End lot.id) (return_steps f lot)

unfoldable pub unmap_sg : DriverConfig → List Lot → Label → ℕ → Meaning
unmap_sg f lots label count = record {
  way = ByPlan (λ owners pages. unmap_sg_begin lots label count) (with_lot turns.Stay unmap_sg_turn (lot_named lots label ScatterList)) (with_lot [] (unmap_sg_steps f) (lot_named lots label ScatterList));
  good = answer_with answers.Unmapped;
  bad = λ r. answers.Refused r;
}
