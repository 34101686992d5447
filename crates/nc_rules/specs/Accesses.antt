-- Loads and stores of a script (Svpbmt for the memory types, the Privileged Architecture for translation).
use Rattle.std.specs.Prelude.{ℕ, ◌+◌, ◌*◌, nat_le, List, length, Option, Some, None, Result, Ok, Err}
use Rattle.nc_num.specs.declared.names.MemType.TheVariants.{Pma, Nc}
use Rattle.nc_pte.specs.declared.translation.PageFault.{PageFault}
use Rattle.nc_plan.specs.Accesses as accesses
use Rattle.nc_plan.specs.declared.access.At.{At}
use Rattle.nc_plan.specs.declared.access.At.TheVariants as at
use Rattle.nc_plan.specs.declared.ops.HartOp.{HartOp}
use Rattle.nc_ops.specs.declared.ops.Spot.{Spot}
use Rattle.nc_ops.specs.declared.ops.Spot.TheVariants as spots
use Rattle.nc_rules.specs.declared.answers.Answer.TheVariants as answers
use Rattle.nc_rules.specs.declared.answers.Refusal.{Refusal}
use Rattle.nc_rules.specs.declared.answers.Refusal.TheVariants as refusals
use Rattle.nc_rules.specs.declared.lots.Kind.TheVariants.{Area}
use Rattle.nc_rules.specs.declared.lots.Lot.{Lot}
use Rattle.nc_rules.specs.declared.steps.Step.{Step}
use Rattle.nc_rules.specs.Lots.{DriverConfig, only_entry}
use Rattle.nc_rules.specs.Refusals.{◌>>=◌, wanted, some_bytes, buffer_of, part_of, named}
use Rattle.nc_rules.specs.Plans.{hart_step}
use Rattle.nc_rules.specs.Meanings.{Meaning, ByNumber, no_answer}

-- where an access of so many bytes starts; one of a coherent area is of type NC
abbrev pub spot_at : DriverConfig → List Lot → Spot → ℕ → ℕ → Result At Refusal
spot_at f lots (spots.Buffer buf) off len = some_bytes len >>= λ _. part_of (buffer_of f buf) off len >>= λ range. Ok (at.Ram range.at Pma)
spot_at f lots spots.Virtual off len = some_bytes len >>= λ _. wanted refusals.BadRange (nat_le (off + len) (4096 * length f.table)) >>= λ _. Ok (at.Virtual off)
spot_at f lots (spots.Area label) off len =
    some_bytes len >>= λ _. named lots label Area >>= λ lot. part_of (only_entry lot).span off len >>= λ range. Ok (at.Ram range.at Nc)

-- a piece of an access, or its page fault
abbrev pub piece_step : Result (Option HartOp) PageFault → Result (Option Step) Refusal
piece_step (Ok None) = Ok None
piece_step (Ok (Some op)) = Ok (Some (hart_step op))
piece_step (Err fault) = Err (refusals.PageFault fault.va fault.bits)

-- one step a piece; only a page fault can come later than with the first
unfoldable pub load : DriverConfig → List Lot → Spot → ℕ → ℕ → Meaning
load f lots spot off len = record {
  way = ByNumber (λ n. spot_at f lots spot off len >>= λ to. piece_step (accesses.load_step to f.pbmte f.table len n));
  good = no_answer;
  bad = λ r. answers.Refused r;
}

unfoldable pub store : DriverConfig → List Lot → Spot → ℕ → List ℕ → Meaning
store f lots spot off bytes = record {
  way = ByNumber (λ n. spot_at f lots spot off (length bytes) >>= λ to. piece_step (accesses.store_step to f.pbmte f.table bytes n));
  good = no_answer;
  bad = λ r. answers.Refused r;
}
