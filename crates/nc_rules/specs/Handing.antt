-- Buffers that are passed from hart to hart. This project's own.
use Rattle.std.specs.Prelude.{ℕ, List, [], ◌∷◌, Ok}
use Rattle.nc_num.specs.declared.names.HartNo.{HartNo}
use Rattle.nc_plan.specs.declared.ops.HartOp.TheVariants as hart
use Rattle.nc_plan.specs.declared.ops.IoTarget.TheVariants as io
use Rattle.nc_rules.specs.declared.answers.Answer.TheVariants as answers
use Rattle.nc_rules.specs.declared.steps.Act.TheVariants as acts
use Rattle.nc_rules.specs.declared.steps.Step.{Step}
use Rattle.nc_rules.specs.declared.steps.Turn.TheVariants as turns
use Rattle.nc_rules.specs.Lots.{DriverConfig}
use Rattle.nc_rules.specs.Refusals.{◌>>=◌, buffer_of, owned}
use Rattle.nc_rules.specs.Plans.{step, hart_step, turning, single}
use Rattle.nc_rules.specs.Meanings.{Meaning, ByNumber, ByPlan, answer_with}

-- a marker of W before O, so that the hart's stores are out before its message is
abbrev pub hand_steps : ℕ → HartNo → List Step
hand_steps buf to = hart_step (hart.Mark 1 4) ∷ hart_step (hart.IoStore (io.Mail buf to)) ∷ []

unfoldable pub hand : DriverConfig → ℕ → HartNo → Meaning
hand f buf to = record {
  way = ByPlan (λ owners pages. owned f.me owners (buffer_of f buf) >>= λ _. Ok []) (turns.Pass (buffer_of f buf) to) (hand_steps buf to);
  good = answer_with answers.Handed;
  bad = λ r. answers.Refused r;
}

abbrev pub take_step : DriverConfig → ℕ → Step
take_step f buf = turning (turns.Own (buffer_of f buf)) (step (acts.Take buf))

unfoldable pub take : DriverConfig → ℕ → Meaning
take f buf = record {
  way = ByNumber (λ n. Ok (single (take_step f buf) n));
  good = answer_with answers.Took;
  bad = λ r. answers.Refused r;
}
