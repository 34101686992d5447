use Rattle.std.proofs.Common.{◌≡◌, ◌<◌, ap, sym, subst, length}
use Rattle.nc_rules.specs.Machine.{MachineState, hart_of, with_hart}
use Rattle.nc_machine.specs.Inside.{machine_of}
use Rattle.nc_machine.specs.State.{MachineView}
use Rattle.nc_machine.proofs.machine.Machine.put.Goals as goal
use Rattle.nc_hart.specs.Issue.{issued}
use Rattle.nc_rules.specs.Sound.{OpIsThere, IsMachine}
use Rattle.nc_rules.specs.Calls.{may_issue, issue_next}
use Rattle.nc_calls.proofs.SoundIssue.{sound_issue}
use Rattle.nc_machine.proofs.Keeps.{kept_harts}
use Rattle.std.specs.Prelude.{IsTrue}

pub invariant_of-self : goal.invariant_of-self
invariant_of-self c =
    let m = machine_of c.self.inside in
    let h = c.args.h.0 in
    let op = c.args.op in
    let same : c.args.self.now.machine ≡ m = ap (λ (s : MachineView). s.machine) (sym c.self.view_is) in
    let lt = subst (λ (t : MachineState). h < length t.harts) same c.requires.hart in
    let there = subst (λ (t : MachineState). OpIsThere t h op) same c.requires.there in
    let can = subst (λ (t : MachineState). IsTrue (may_issue t h op)) same c.requires.can in
    let next = subst (λ (t : MachineState). issue_next t h op ≡ with_hart t h (issued (hart_of t h) op)) same c.requires.no_load in
    let sound : IsMachine (with_hart m h (issued (hart_of m h) op)) = subst IsMachine next (sound_issue m h op c.self.invariant.machine lt there can) in
    kept_harts m c.self.inside.domain h (issued (hart_of m h) op) c.put.new.harts.items c.self.invariant c.put.ensures sound
