use Rattle.std.proofs.Common.{ℕ, sym}
use Rattle.std.proofs.lemmas.Result.{err_from_is_err_and}
use Rattle.std.proofs.lemmas.List.Elements.{All-push}
use Rattle.serde_json.specs.Data.{Data}
use Rattle.nc_values.proofs.Loops.{goes_on, ends, is_done, length_push}
use Rattle.nc_pieces.specs.Requests.{FitsOp}
use Rattle.nc_pieces.specs.Reading.{op_of}
use Rattle.nc_pieces.proofs.request.read_ops.Goals as goal

pub returns-in_err-op-clause-gives : goal.returns-in_err-op-clause-gives
returns-in_err-op-clause-gives c =
    let p = err_from_is_err_and c.from_residual.result c.from_residual.ensures.1 in
    rw (p.1, p.2) (ends (λ (i : ℕ) (d : Data). op_of d) c.in_err-op.field-0.0 c.loop-value.ops.items c.args.items.now c.loop-value.value-index c.value-item.result _ c.loop-value-test.true c.value-item.is (sym c.in_err-op.ensures.value) c.loop-value.invariant.0)

pub loop-value-preserved : goal.loop-value-preserved
loop-value-preserved c =
    rw c.in_ok-push.ensures.items (goes_on (λ (i : ℕ) (d : Data). op_of d) c.loop-value.ops.items c.args.items.now c.loop-value.value-index c.value-item.result c.in_ok-op.op _ c.loop-value-test.true c.value-item.is (sym c.in_ok-op.ensures.value) c.loop-value.invariant.0, All-push FitsOp c.loop-value.ops.items c.in_ok-op.op c.loop-value.invariant.1 c.in_ok-op.ensures.fits, length_push c.loop-value.ops.items c.in_ok-op.op c.loop-value.value-index c.loop-value.invariant.2)

pub returns-clause-gives : goal.returns-clause-gives
returns-clause-gives c = is_done (λ (i : ℕ) (d : Data). op_of d) c.loop-value.ops.items c.args.items.now c.loop-value.value-index _ c.loop-value-test.false c.loop-value.invariant.0
