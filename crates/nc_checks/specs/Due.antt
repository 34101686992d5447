-- The step that is due in a script, and what the start step of a list of ranges makes.
use Rattle.std.specs.Prelude.{ℕ, ◌≡◌, ◌+◌, ◌<◌, ◌≤◌, ◌==◌, not, List, [], ◌∷◌, length, All, Option, Some, None, Result, Ok, Err, slice_get}
use Rattle.nc_num.specs.declared.names.ChanNo.{ChanNo}
use Rattle.nc_num.specs.declared.names.Dir.{Dir}
use Rattle.nc_num.specs.declared.names.Dir.TheVariants.{ToDev, FromDev}
use Rattle.nc_num.specs.declared.names.Label.{Label}
use Rattle.nc_num.specs.declared.places.Span.{Span}
use Rattle.nc_model.specs.declared.owners.Owner.{Owner}
use Rattle.nc_plan.specs.Effects.{both, legal}
use Rattle.nc_coherent.specs.Pages.{PageMap, lowest_span}
use Rattle.nc_ops.specs.declared.ops.Op.{Op}
use Rattle.nc_ops.specs.declared.ops.SgEntry.{SgEntry}
use Rattle.nc_rules.specs.declared.answers.Refusal.{Refusal}
use Rattle.nc_rules.specs.declared.answers.Refusal.TheVariants as refusals
use Rattle.nc_rules.specs.declared.steps.Step.{Step}
use Rattle.nc_rules.specs.declared.lots.Kind.{Kind}
use Rattle.nc_rules.specs.declared.lots.Lot.{Lot}
use Rattle.nc_rules.specs.declared.lots.LotId.{LotId}
use Rattle.nc_rules.specs.Lots.{DriverConfig, lot_id, ranges_lot}
use Rattle.nc_rules.specs.Copies.{source}
use Rattle.nc_rules.specs.Operations.{step_at}
use Rattle.nc_rules.specs.Refusals.{◌>>=◌, wanted, some_or, planned, all_some, ranges_of, unused, owned_from, lendable, placeable}

abbrev pub step_of : DriverConfig → List Lot → ℕ → Option Op → Result (Option Step) Refusal
step_of f lots n None = Ok None
step_of f lots n (Some o) = step_at f lots o n

-- where the hart has these lots and n steps of operation k are done: none at the script's end
abbrev pub step_due : DriverConfig → List Lot → ℕ → ℕ → Result (Option Step) Refusal
step_due f lots k n = step_of f lots n (slice_get f.script k)

-- what was made, seen by a function of it
abbrev pub ok_as : {A B E : Type 0} → Result A E → (A → B) → Result B E
ok_as (Ok x) f = Ok (f x)
ok_as (Err e) f = Err e

-- tests that passed, of an operation that makes no lot
abbrev pub makes_none : Result (Unit {0}) Refusal → Result (List Lot) Refusal
makes_none (Ok _) = Ok []
makes_none (Err r) = Err r

-- so many ranges, each with bytes, and each ending where its buffer does or before
pub record AreParts (f : DriverConfig) (n : ℕ) (ranges : List Span) : Type 0 where
  pub count : length ranges ≡ n
  pub some : All (λ range. 0 < range.len) ranges
  pub ends : (end : ℕ) → All (λ b. b.at + b.len ≤ end) f.buffers → All (λ range. range.at + range.len ≤ end) ranges

-- the tests of ranges that are to be lent together, but for slots: the label is not in use, the ranges are the hart's
-- own, and their plans are enabled
abbrev pub may_lend : DriverConfig → List Lot → LotId → Dir → List Owner → List Span → Result (Unit {0}) Refusal
may_lend f lots id dir owners ranges = unused lots id.label >>= λ _. owned_from f.me id 0 owners ranges >>= λ _. lendable f.effects dir

-- all tests of a mapping or a list, and the lot that it makes
abbrev pub list_begin : DriverConfig → List Lot → Label → Kind → List SgEntry → Dir → ChanNo → List Owner → Result (List Lot) Refusal
list_begin f lots label kind entries dir chan owners =
    all_some entries
    >>= λ _. ranges_of f entries
    >>= λ ranges. may_lend f lots (lot_id label 0) dir owners ranges
    >>= λ _. placeable f (ranges_lot f (lot_id label 0) kind dir chan ranges ∷ [])

-- the tests of an allocation, up to its pages
abbrev pub calloc_tests : DriverConfig → List Lot → Label → ℕ → PageMap → Result Span Refusal
calloc_tests f lots label count pages =
    wanted refusals.Empty (not (count == 0))
    >>= λ _. unused lots label
    >>= λ _. wanted refusals.NoPbmt f.pbmte
    >>= λ _. planned (both (legal f.effects.zero) (legal f.effects.flush))
    >>= λ _. some_or refusals.NoPage (lowest_span pages count)

-- the tests of a copy between its ranges and its ends
abbrev pub may_copy : DriverConfig → List Owner → List Span → Result (Unit {0}) Refusal
may_copy f owners ranges = owned_from f.me source 0 owners ranges >>= λ _. lendable f.effects ToDev >>= λ _. lendable f.effects FromDev
