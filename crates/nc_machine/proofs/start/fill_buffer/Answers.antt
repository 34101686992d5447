use Rattle.std.proofs.Common.{◌+◌, ◌*◌, ◌%◌, ◌≡◌, ◌∙◌, length, arith}
use Rattle.nc_machine.proofs.Starts.{filled_more}
use Rattle.nc_machine.proofs.start.fill_buffer.Goals as goal

pub loop-i-preserved : goal.loop-i-preserved
loop-i-preserved c =
    let byte : (c.from.result + c.from-in-loop-i.result * c.from-in-loop-i-2.result) % 256 ≡ (c.args.b.now.fill + c.loop-i.i * c.args.b.now.step) % 256 = rw (c.from.ensures, c.from-in-loop-i.ensures, c.from-in-loop-i-2.ensures) in
    let old : length c.loop-i.ram ≡ length c.args.ram.now = c.loop-i.invariant.1 in (
      c.write.ensures.value
          ∙ filled_more c.args.ram.now c.loop-i.ram (λ i. (c.args.b.now.fill + i * c.args.b.now.step) % 256) c.args.b.now.span.at c.loop-i.i _ c.loop-i.invariant.0 (omega arith) byte,
      c.write.ensures.len ∙ old,
    )
