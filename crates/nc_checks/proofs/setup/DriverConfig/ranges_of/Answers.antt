use Rattle.std.proofs.Common.{◌+◌, get_or, ap, ◌∙◌, arith}
use Rattle.nc_num.specs.declared.places.Span.{Span}
use Rattle.nc_rules.specs.Refusals.{part_of}
use Rattle.nc_checks.proofs.RangeLaws.{ranges_on, parts_more, buffer_ends}
use Rattle.nc_checks.proofs.setup.DriverConfig.ranges_of.Goals as goal

pub loop-entry-preserved : goal.loop-entry-preserved
loop-entry-preserved c =
    let e = get_or c.args.entries.now c.loop-entry.entry-index (record { buf = 0; off = 0; len = 0 }) in
    rw c.in_ok-push-in-Ok.ensures.items (
      ranges_on c.args.self.now c.args.entries.now c.loop-entry.entry-index (record { buf = 0; off = 0; len = 0 }) c.loop-entry.ranges.items c.in-Ok.range _ c.loop-entry-test.true
          (c.in-Ok.ensures.value ∙ ap (λ (b : Span). part_of b e.off e.len) c.buffer.ensures) c.loop-entry.invariant.0,
      parts_more c.args.self.now c.loop-entry.entry-index c.loop-entry.ranges.items c.in-Ok.range c.loop-entry.invariant.1
          (omega (arith, c.in-Ok.ensures.len, c.requires.some c.loop-entry.entry-index (record { buf = 0; off = 0; len = 0 }) c.loop-entry-test.true))
          (λ end all. omega (arith, c.in-Ok.ensures.ends, ap (λ (b : Span). b.at + b.len) c.buffer.ensures, buffer_ends c.args.self.now e.buf end all)),
    )
