-- Cache-block operations (CMO 1.0) and fences (FENCE) of a script.
use Rattle.std.specs.Prelude.{ℕ, ◌*◌, ◌/◌, List, [], ◌∷◌, Result, Ok, slice_get, option_map}
use Rattle.std.specs.List.{range_with_len}
use Rattle.nc_num.specs.Places.{block_at}
use Rattle.nc_env.specs.declared.CboOp.{CboOp}
use Rattle.nc_env.specs.declared.CboOp.TheVariants as cbos
use Rattle.nc_env.specs.declared.Illegal.{Illegal}
use Rattle.nc_plan.specs.declared.effects.Effects.{Effects}
use Rattle.nc_plan.specs.declared.ops.HartOp.TheVariants as hart
use Rattle.nc_rules.specs.declared.answers.Answer.TheVariants as answers
use Rattle.nc_rules.specs.declared.steps.Step.{Step}
use Rattle.nc_rules.specs.Lots.{DriverConfig}
use Rattle.nc_rules.specs.Refusals.{◌>>=◌, buffer_of, part_of, legal}
use Rattle.nc_rules.specs.Plans.{hart_step, single}
use Rattle.nc_rules.specs.Meanings.{Meaning, ByNumber, no_answer}

-- the effect of a script's cache operation
abbrev pub effect_of : Effects → CboOp → Result CboOp Illegal
effect_of e cbos.Clean = e.clean
effect_of e cbos.Flush = e.flush
effect_of e cbos.Inval = e.inval
effect_of e cbos.Zero = e.zero

-- the blocks of a script's cache operation on the byte at a place: its block, and for a zero each block of the
-- naturally aligned range of zero_size bytes that has the byte, ascending
abbrev pub cbo_blocks : DriverConfig → CboOp → ℕ → List ℕ
cbo_blocks f cbos.Clean x = block_at x f.size ∷ []
cbo_blocks f cbos.Flush x = block_at x f.size ∷ []
cbo_blocks f cbos.Inval x = block_at x f.size ∷ []
cbo_blocks f cbos.Zero x = range_with_len (block_at x f.zero_size * (f.zero_size / f.size)) (f.zero_size / f.size)

abbrev pub cbo_step : CboOp → ℕ → Step
cbo_step effect b = hart_step (hart.Cbo effect (record { 0 = b }))

-- one step a block
unfoldable pub cache_operation : DriverConfig → CboOp → ℕ → ℕ → Meaning
cache_operation f op buf off = record {
  way = ByNumber (λ n. part_of (buffer_of f buf) off 1 >>= λ byte. legal (effect_of f.effects op) >>= λ effect. Ok (option_map (cbo_step effect) (slice_get (cbo_blocks f op byte.at) n)));
  good = no_answer;
  bad = λ r. answers.Refused r;
}

unfoldable pub fence : ℕ → ℕ → Meaning
fence pred succ = record {
  way = ByNumber (λ n. Ok (single (hart_step (hart.Fence pred succ)) n));
  good = no_answer;
  bad = λ r. answers.Refused r;
}
