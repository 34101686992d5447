-- What a reader of the code answers, beside what the definition of reading answers.
use Rattle.std.specs.Prelude.{◌≡◌, ℕ, ◌+◌, Result, Ok, Err, Option, Some, None, ⊤, List, [], ◌∷◌}
use Rattle.serde_json.specs.Data.{Data, Items, no_items, item}
use Rattle.nc_values.specs.declared.refused.Refused.{Refused}
use Rattle.nc_values.specs.declared.refused.Refused.TheVariants.{Shape, Limit}
use Rattle.nc_values.specs.declared.refused.ScenFault.{ScenFault}
use Rattle.nc_values.specs.declared.refused.ScenFault.TheVariants as faults
use Rattle.nc_values.specs.declared.wrong.Wrong.{Wrong}
use Rattle.nc_values.specs.declared.wrong.Wrong.TheVariants as wrongs
use Rattle.nc_values.specs.declared.wrong.OpFault.{OpFault}
use Rattle.nc_values.specs.declared.wrong.OpFault.TheVariants as op_faults

infixl 10 ◌>>=◌
abbrev pub ◌>>=◌ : {A B E : Type 0} → Result A E → (A → Result B E) → Result B E
(Ok x) >>= f = f x
(Err e) >>= f = Err e

-- that memory runs out is the one free answer
abbrev pub Fails : {Y : Type 0} → ScenFault → Result Y Refused → Type 0
Fails faults.NoMemory read = Unit {0}
Fails (faults.Refused r) read = read ≡ Err r

-- What a function returned, seen by view, is what the definition gives, unless memory ran out.
abbrev pub Gives : {X Y : Type 0} → (X → Y) → Result X ScenFault → Result Y Refused → Type 0
Gives view (Ok x) read = read ≡ Ok (view x)
Gives view (Err e) read = Fails e read

-- the same of an operation, which does not know where it stands
abbrev pub FailsOp : {Y : Type 0} → OpFault → Result Y Wrong → Type 0
FailsOp op_faults.NoMemory read = Unit {0}
FailsOp (op_faults.Wrong w) read = read ≡ Err w

abbrev pub GivesOp : {X Y : Type 0} → (X → Y) → Result X OpFault → Result Y Wrong → Type 0
GivesOp view (Ok x) read = read ≡ Ok (view x)
GivesOp view (Err e) read = FailsOp e read

-- what is wrong with a value, at a path
abbrev pub wrong_at : List ℕ → Wrong → Refused
wrong_at path wrongs.Shape = Shape path
wrong_at path (wrongs.Limit n) = Limit path n

abbrev pub placed : {A : Type 0} → List ℕ → Result A Wrong → Result A Refused
placed path (Ok x) = Ok x
placed path (Err w) = Err (wrong_at path w)

-- a wrong shape where there is no value
abbrev pub shaped : {A : Type 0} → Option A → Result A Wrong
shaped None = Err wrongs.Shape
shaped (Some x) = Ok x

-- one after another with its position, up to the first refusal: all their values, or that there is none
unfoldable pub each : {X E : Type 0} → (ℕ → Data → Result X E) → ℕ → Items → Result (List X) E
each f i no_items = Ok []
each f i (item d ds) = f i d >>= λ x. each f (i + 1) ds >>= λ xs. Ok (x ∷ xs)

unfoldable pub check_each : {X E : Type 0} → (ℕ → Data → Result X E) → ℕ → Items → Result ⊤ E
check_each f i no_items = Ok tt
check_each f i (item d ds) = f i d >>= λ x. check_each f (i + 1) ds
