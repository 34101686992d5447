use Rattle.std.proofs.Common.{ℕ, sym}
use Rattle.std.proofs.lemmas.Result.{err_from_is_err_and}
use Rattle.serde_json.specs.Data.{Data}
use Rattle.nc_ops.specs.Operations.{entry_numbers}
use Rattle.nc_values.proofs.Loops.{check_goes_on, check_ends, check_done}
use Rattle.nc_ops.proofs.arguments.check_entries.Goals as goal

pub returns-in_err-entry_numbers : goal.returns-in_err-entry_numbers
returns-in_err-entry_numbers c =
    let p = err_from_is_err_and c.from_residual.result c.from_residual.ensures.1 in
    rw (p.1, p.2) (sym (check_ends (λ (i : ℕ) (d : Data). entry_numbers d) c.in_err-entry_numbers.field-0.0 c.args.items.now c.loop-value.value-index c.value-item.result _ c.loop-value-test.true c.value-item.is (sym c.in_err-entry_numbers.ensures) c.loop-value.invariant))

pub loop-value-preserved : goal.loop-value-preserved
loop-value-preserved c = check_goes_on (λ (i : ℕ) (d : Data). entry_numbers d) c.args.items.now c.loop-value.value-index c.value-item.result _ _ c.loop-value-test.true c.value-item.is (sym c.in_ok-entry_numbers.ensures) c.loop-value.invariant

pub returns : goal.returns
returns c = sym (check_done (λ (i : ℕ) (d : Data). entry_numbers d) c.args.items.now c.loop-value.value-index _ c.loop-value-test.false c.loop-value.invariant)
