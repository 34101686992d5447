-- Coherent areas (Linux DMA API: dma_alloc_coherent, dma_free_coherent). That an area is given to its channel and taken
-- back, the order of the refusals and the plans are this project's own.
use Rattle.std.specs.Prelude.{ℕ, ◌==◌, not, if◌then◌else◌, List, [], ◌∷◌, Option, Some, None, Result, Ok}
use Rattle.nc_num.specs.declared.names.ChanNo.{ChanNo}
use Rattle.nc_num.specs.declared.names.Label.{Label}
use Rattle.nc_plan.specs.Effects.{both}
use Rattle.nc_plan.specs.Effects as effects
use Rattle.nc_plan.specs.Plans.{full}
use Rattle.nc_model.specs.declared.owners.Owner.{Owner}
use Rattle.nc_coherent.specs.Areas.{allocating}
use Rattle.nc_coherent.specs.Pages.{PageMap, lowest_span}
use Rattle.nc_rules.specs.declared.answers.Answer.{Answer}
use Rattle.nc_rules.specs.declared.answers.Answer.TheVariants as answers
use Rattle.nc_rules.specs.declared.answers.Refusal.{Refusal}
use Rattle.nc_rules.specs.declared.answers.Refusal.TheVariants as refusals
use Rattle.nc_rules.specs.declared.lots.Kind.TheVariants.{Area}
use Rattle.nc_rules.specs.declared.lots.Lot.{Lot}
use Rattle.nc_rules.specs.declared.steps.Step.{Step}
use Rattle.nc_rules.specs.declared.steps.Turn.{Turn}
use Rattle.nc_rules.specs.declared.steps.Turn.TheVariants as turns
use Rattle.nc_rules.specs.Lots.{DriverConfig, lot_id, lot_named, area_lot, only_entry, bus_of_lot, is_own}
use Rattle.nc_rules.specs.Refusals.{◌>>=◌, wanted, some_or, unused, named, owned, planned}
use Rattle.nc_rules.specs.Plans.{hart_step, op_steps, turning, ending, lending_end}
use Rattle.nc_rules.specs.Meanings.{Meaning, ByPlan, answer_with}
use Rattle.nc_rules.specs.Mappings.{with_lot, needs_lot}

-- ---- allocation

-- an area is zeroed and flushed; a hart without memory types has no way to it past the caches (Svpbmt)
abbrev pub calloc_begin : DriverConfig → List Lot → Label → ℕ → ChanNo → PageMap → Result (List Lot) Refusal
calloc_begin f lots label count chan pages =
    wanted refusals.Empty (not (count == 0))
    >>= λ _. unused lots label
    >>= λ _. wanted refusals.NoPbmt f.pbmte
    >>= λ _. planned (both (effects.legal f.effects.zero) (effects.legal f.effects.flush))
    >>= λ _. some_or refusals.NoPage (lowest_span pages count)
    >>= λ span. Ok (area_lot (lot_id label 0) chan span ∷ [])

-- each block is zeroed, then each is flushed, then all is fenced, also where fences are light
abbrev pub calloc_steps : DriverConfig → Lot → List Step
calloc_steps f lot = ending (turns.Settle lot.id) (op_steps (allocating f.effects f.size (only_entry lot).span))

abbrev pub allocated_answer : DriverConfig → Option Lot → Option Answer
allocated_answer f None = None
allocated_answer f (Some lot) = Some (answers.Allocated (bus_of_lot f lot))

unfoldable pub calloc : DriverConfig → List Lot → Label → ℕ → ChanNo → Meaning
calloc f lots label count chan = record {
  way = ByPlan (λ owners pages. calloc_begin f lots label count chan pages) (turns.Lend (lot_id label 0)) (with_lot [] (calloc_steps f) (lot_named lots label Area));
  good = λ saw. allocated_answer f (lot_named lots label Area);
  bad = λ r. answers.Refused r;
}

-- ---- to the channel and back

-- an area that the channel has already stays as it is
abbrev pub give_turn : Lot → Turn
give_turn lot = if is_own lot.side then turns.Lend lot.id else turns.Stay

abbrev pub give_steps : DriverConfig → Lot → List Step
give_steps f lot = if is_own lot.side then lending_end f lot else []

unfoldable pub give_area : DriverConfig → List Lot → Label → Meaning
give_area f lots label = record {
  way = ByPlan (λ owners pages. needs_lot (named lots label Area)) (with_lot turns.Stay give_turn (lot_named lots label Area)) (with_lot [] (give_steps f) (lot_named lots label Area));
  good = answer_with answers.Given;
  bad = λ r. answers.Refused r;
}

-- a full fence alone, which makes this turn
abbrev pub fenced : Turn → List Step
fenced turn = turning turn (hart_step full) ∷ []

-- an area that the hart has already stays as it is
abbrev pub take_turn : Lot → Turn
take_turn lot = if is_own lot.side then turns.Stay else turns.Return lot.id

abbrev pub take_steps : Lot → List Step
take_steps lot = if is_own lot.side then [] else fenced (turns.Settle lot.id)

unfoldable pub take_area : DriverConfig → List Lot → Label → Meaning
take_area f lots label = record {
  way = ByPlan (λ owners pages. needs_lot (named lots label Area)) (with_lot turns.Stay take_turn (lot_named lots label Area)) (with_lot [] take_steps (lot_named lots label Area));
  good = answer_with answers.Taken;
  bad = λ r. answers.Refused r;
}

-- ---- the end

abbrev pub cfree_begin : DriverConfig → List Lot → Label → List Owner → Result (List Lot) Refusal
cfree_begin f lots label owners = named lots label Area >>= λ lot. owned f.me owners (only_entry lot).span >>= λ _. Ok []

abbrev pub free_turn : Lot → Turn
free_turn lot = turns.Return lot.id

abbrev pub free_steps : Lot → List Step
free_steps lot = fenced (turns.End lot.id)

unfoldable pub free_area : DriverConfig → List Lot → Label → Meaning
free_area f lots label = record {
  way = ByPlan (λ owners pages. cfree_begin f lots label owners) (with_lot turns.Stay free_turn (lot_named lots label Area)) (with_lot [] free_steps (lot_named lots label Area));
  good = answer_with answers.Freed;
  bad = λ r. answers.Refused r;
}
