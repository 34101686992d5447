use Rattle.std.proofs.Common.{ap, ◌∙◌, length, List}
use Rattle.nc_scen.specs.declared.scenario.HartSpec.{HartSpec}
use Rattle.nc_top.proofs.Counted.{status_is, line_is}
use Rattle.nc_top.proofs.generated.run_generated.Goals as goal

pub returns-clause-status : goal.returns-clause-status
returns-clause-status c = c.status_of.ensures.value ∙ status_is c.args.n c.in_ok-sc.sc c.in_ok-w.w.state c.in_ok-sc.ensures.gives c.in_ok-w.ensures.state

pub returns-clause-line : goal.returns-clause-line
returns-clause-line c =
    let all = ap (λ (hs : List HartSpec). length hs) c.as_slice.ensures in
    c.in_ok-line.ensures ∙ line_is c.args.n (length c.as_slice.result.now) c.in_ok-sc.sc c.in_ok-w.w.state c.in_ok-w.tally c.in_ok-sc.ensures.gives all c.in_ok-w.ensures.state c.in_ok-w.ensures.tally
