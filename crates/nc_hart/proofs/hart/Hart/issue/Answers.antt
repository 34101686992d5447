use Rattle.std.proofs.Common.{◌≡◌, true, sym, ◌∙◌, subst}
use Rattle.nc_hart.specs.HartState.{HartState}
use Rattle.nc_hart.specs.Issue.{can_issue}
use Rattle.nc_hart.proofs.Issued.{finds_room, issued-some, issued-none}
use Rattle.nc_hart.proofs.hart.Hart.issue.Goals as goal

pub put-requires-clause-room : goal.put-requires-clause-room
put-requires-clause-room c =
    let can = subst (λ (h : HartState). can_issue h c.args.op ≡ true) (sym c.self.view_is) c.requires.can in
    finds_room (record { queue = c.self.inside.queue; last = c.self.inside.last }) c.args.op c.in-Some.e can (sym c.entry_of.ensures ∙ c.in-Some.is)

pub returns-in-Some : goal.returns-in-Some
returns-in-Some c =
    rw (← c.self.view_is)
    (issued-some (record { queue = c.self.inside.queue; last = c.self.inside.last }) c.args.op c.in-Some.e c.put.new.queue (sym c.entry_of.ensures ∙ c.in-Some.is) c.put.ensures)

pub returns-in_default : goal.returns-in_default
returns-in_default c =
    rw (← c.self.view_is) (issued-none (record { queue = c.self.inside.queue; last = c.self.inside.last }) c.args.op (sym c.entry_of.ensures ∙ c.in_default.is))
