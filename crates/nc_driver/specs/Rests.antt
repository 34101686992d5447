-- Looks at the rest of a plan and at a step.
use Rattle.std.specs.Prelude.{Bool, true, false, List, [], ◌∷◌, Option, Some, None, Result, Ok, Err}
use Rattle.nc_rules.specs.declared.answers.Refusal.{Refusal}
use Rattle.nc_rules.specs.declared.steps.Step.{Step}
use Rattle.nc_rules.specs.declared.steps.Turn.{Turn}
use Rattle.nc_rules.specs.declared.steps.Turn.TheVariants.{Stay}

abbrev pub is_nil : List Step → Bool
is_nil [] = true
is_nil (s ∷ rest) = false

-- there is such a step, be it refused
abbrev pub is_more : Result (Option Step) Refusal → Bool
is_more (Err r) = true
is_more (Ok (Some s)) = true
is_more (Ok None) = false

-- the two turns of a step, where there is one
abbrev pub made_first : Result (Option Step) Refusal → Turn
made_first (Ok (Some s)) = s.first
made_first (Ok None) = Stay
made_first (Err r) = Stay

abbrev pub made_last : Result (Option Step) Refusal → Turn
made_last (Ok (Some s)) = s.last
made_last (Ok None) = Stay
made_last (Err r) = Stay
