-- A channel by its registers. This project's own, but that the registers are after the SiFive FU540 PDMA.
use Rattle.std.specs.Prelude.{ℕ, ◌/◌, ◌%◌, ◌^◌, ◌==◌, if◌then◌else◌, List, Option, Some, None, Result, Ok, slice_get, is_some, option_map}
use Rattle.nc_num.specs.declared.names.ChanNo.{ChanNo}
use Rattle.nc_plan.specs.Registers as registers
use Rattle.nc_plan.specs.declared.ops.HartOp.TheVariants as hart
use Rattle.nc_plan.specs.declared.ops.IoTarget.TheVariants as io
use Rattle.nc_pdma_regs.specs.Table.{register_at}
use Rattle.nc_sg.specs.Lists.{segments}
use Rattle.nc_ops.specs.declared.ops.BusArg.{BusArg}
use Rattle.nc_ops.specs.declared.ops.BusArg.TheVariants as bus
use Rattle.nc_rules.specs.declared.answers.Answer.{Answer}
use Rattle.nc_rules.specs.declared.answers.Answer.TheVariants as answers
use Rattle.nc_rules.specs.declared.answers.Refusal.{Refusal}
use Rattle.nc_rules.specs.declared.answers.Refusal.TheVariants as refusals
use Rattle.nc_rules.specs.declared.lots.Kind.TheVariants.{Single, List as ScatterList, Area}
use Rattle.nc_rules.specs.declared.lots.Lot.{Lot}
use Rattle.nc_rules.specs.declared.steps.Act.TheVariants as acts
use Rattle.nc_rules.specs.declared.steps.Seen.{Seen}
use Rattle.nc_rules.specs.declared.steps.Seen.TheVariants as seen
use Rattle.nc_rules.specs.Lots.{DriverConfig, bus_of_lot}
use Rattle.nc_rules.specs.Refusals.{◌>>=◌, wanted, some_or, named}
use Rattle.nc_rules.specs.Plans.{step, hart_step, single, control_step}
use Rattle.nc_rules.specs.Meanings.{Meaning, ByNumber, answer_with}

-- what a channel's address register is set to
abbrev pub bus_of : DriverConfig → List Lot → BusArg → Result ℕ Refusal
bus_of f lots (bus.At n) = Ok n
bus_of f lots (bus.Map label) = named lots label Single >>= λ lot. Ok (bus_of_lot f lot)
bus_of f lots (bus.Segment label n) =
    named lots label ScatterList >>= λ lot. some_or refusals.NoLabel (slice_get (segments f.slots_at lot.list.entries) n) >>= λ segment. Ok segment.bus
bus_of f lots (bus.Area label) = named lots label Area >>= λ lot. Ok (bus_of_lot f lot)

abbrev pub known : ℕ → ℕ → Result (Unit {0}) Refusal
known off width = wanted (refusals.BadMmio off width) (is_some (register_at off width))

-- error where bit 31 of Control is set, else done
abbrev pub polled : ℕ → Answer
polled control = if control / 2 ^ 31 % 2 == 1 then answers.Error control else answers.Done control

abbrev pub poll_answer : Seen → Option Answer
poll_answer (seen.Control control) = Some (polled control)
poll_answer seen.Nothing = None
poll_answer seen.Claimed = None
poll_answer (seen.Busy g) = None
poll_answer (seen.Value value) = None

abbrev pub value_answer : Seen → Option Answer
value_answer (seen.Value value) = Some (answers.Value value)
value_answer seen.Nothing = None
value_answer seen.Claimed = None
value_answer (seen.Busy g) = None
value_answer (seen.Control control) = None

unfoldable pub claim : ChanNo → Meaning
claim chan = record {
  way = ByNumber (λ n. Ok (single (step (acts.Claim chan)) n));
  good = answer_with answers.Claimed;
  bad = λ r. answers.Refused r;
}

unfoldable pub free : ChanNo → Meaning
free chan = record {
  way = ByNumber (λ n. Ok (single (control_step chan 0) n));
  good = answer_with answers.Released;
  bad = λ r. answers.Refused r;
}

unfoldable pub set_up : DriverConfig → List Lot → ChanNo → BusArg → BusArg → ℕ → ℕ → Meaning
set_up f lots chan src dst len cfg = record {
  way = ByNumber (λ n. bus_of f lots src >>= λ source. bus_of f lots dst >>= λ target. Ok (option_map hart_step (registers.regs_step chan source target len cfg n)));
  good = answer_with answers.Set;
  bad = λ r. answers.Refused r;
}

unfoldable pub run : ChanNo → Meaning
run chan = record {
  way = ByNumber (λ n. Ok (single (control_step chan 3) n));
  good = answer_with answers.Started;
  bad = λ r. answers.Refused r;
}

unfoldable pub poll : ChanNo → Meaning
poll chan = record {
  way = ByNumber (λ n. Ok (single (step (acts.Poll chan)) n));
  good = poll_answer;
  bad = λ r. answers.Refused r;
}

unfoldable pub read_register : ChanNo → ℕ → ℕ → Meaning
read_register chan off width = record {
  way = ByNumber (λ n. known off width >>= λ _. Ok (single (hart_step (hart.IoLoad chan off width)) n));
  good = value_answer;
  bad = λ r. answers.Refused r;
}

unfoldable pub write_register : ChanNo → ℕ → ℕ → ℕ → Meaning
write_register chan off width value = record {
  way = ByNumber (λ n. known off width >>= λ _. Ok (single (hart_step (hart.IoStore (io.Reg chan off width value))) n));
  good = answer_with answers.Wrote;
  bad = λ r. answers.Refused r;
}
