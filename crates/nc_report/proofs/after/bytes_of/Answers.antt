use Rattle.std.proofs.Common.{◌≡◌, ◌+◌, ◌∙◌, arith}
use Rattle.nc_report.proofs.Parts.{read_more}
use Rattle.nc_report.proofs.after.bytes_of.Goals as goal

pub loop-rest-preserved : goal.loop-rest-preserved
loop-rest-preserved c =
    let first = c.split.result.0 in
    let behind = c.split.result.1 in
    let rest = c.loop-rest.rest in
    let to : behind.at ≡ rest.at + first.len = c.split.ensures.rest in (
      read_more c.args.w.now.state.machine c.loop-rest.bytes.items c.extend_from_slice.new.self.items c.as_slice.result.now _ first behind rest
          c.in_ok-extend_from_slice.ensures.items (c.as_slice.ensures.value ∙ c.bytes.ensures.value) c.split.ensures.first to c.split.ensures.whole c.loop-rest.invariant.0,
      omega (arith, c.loop-rest.invariant.1, c.split.ensures.rest, c.split.ensures.whole),
    )
