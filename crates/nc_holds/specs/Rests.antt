-- What is left of a plan: nothing while no plan is made, tokens with light fences alone, and no message behind a claim.
-- This project's own.
use Rattle.std.specs.Prelude.{ℕ, ◌≡◌, Bool, true, List, [], ◌∷◌, Some, All}
use Rattle.nc_rules.specs.declared.lots.LotId.{LotId}
use Rattle.nc_rules.specs.declared.steps.Phase.{Phase}
use Rattle.nc_rules.specs.declared.steps.Phase.TheVariants.{Steps, Search, Work}
use Rattle.nc_rules.specs.declared.steps.Step.{Step}
use Rattle.nc_rules.specs.Driver.{DriverState}
use Rattle.nc_scripts.specs.Drivers.{is_claim}
use Rattle.nc_holds.specs.Messages.{mail_steps}
use Rattle.nc_holds.specs.Tokens.{token_act}

-- a step queues a token with light fences alone
abbrev pub TokenIsLight : Bool → Step → Type 0
TokenIsLight light s = (id : LotId) → token_act s.act ≡ Some id → light ≡ true

-- a plan that begins with a claim has no message
abbrev pub ClaimsAlone : List Step → Type 0
ClaimsAlone [] = Unit {0}
ClaimsAlone (s ∷ rest) = is_claim s.act ≡ true → (b : ℕ) → mail_steps b (s ∷ rest) ≡ []

-- only a plan has a rest
abbrev pub RestAt : Phase → List Step → Type 0
RestAt (Steps n) rest = rest ≡ []
RestAt (Search k) rest = rest ≡ []
RestAt Work rest = Unit {0}

pub record RestAgrees (d : DriverState) : Type 0 where
  pub idle : RestAt d.phase d.rest
  pub tokens : All (TokenIsLight d.fixed.light) d.rest
  pub claims : ClaimsAlone d.rest
