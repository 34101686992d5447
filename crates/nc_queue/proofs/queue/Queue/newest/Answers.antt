use Rattle.std.specs.Prelude.{Some, None}
use Rattle.std.proofs.Common.{◌≡◌, sym, ◌∙◌, ap}
use Rattle.nc_queue.specs.QueueState.{QueueState}
use Rattle.nc_queue.specs.Rules.{newest}
use Rattle.nc_queue.proofs.Newest.{some_is_given, none_is_given, given}
use Rattle.nc_queue.proofs.queue.Queue.newest.Goals as goal

pub returns-in-Some-clause-none : goal.returns-in-Some-clause-none
returns-in-Some-clause-none c =
    let size = ap (λ (q : QueueState). q.size) c.self.view_is in
    let found : newest c.args.self.now.size c.args.self.now.entries c.args.at.0 ≡ Some c.in-Some.i = rw (← size, ← c.entries.ensures.entries) (sym c.newest.ensures.value ∙ c.in-Some.is) in
    some_is_given c.args.self.now.size c.args.self.now.entries c.args.at.0 c.in-Some.i found

pub returns-in-Some-clause-byte : goal.returns-in-Some-clause-byte
returns-in-Some-clause-byte c =
    let size = ap (λ (q : QueueState). q.size) c.self.view_is in
    let found : newest c.args.self.now.size c.args.self.now.entries c.args.at.0 ≡ Some c.in-Some.i = rw (← size, ← c.entries.ensures.entries) (sym c.newest.ensures.value ∙ c.in-Some.is) in
    given c.args.self.now.size c.args.self.now.entries c.args.at.0 c.in-Some.i found

pub returns-in-None-clause-none : goal.returns-in-None-clause-none
returns-in-None-clause-none c =
    let size = ap (λ (q : QueueState). q.size) c.self.view_is in
    let missed : newest c.args.self.now.size c.args.self.now.entries c.args.at.0 ≡ None = rw (← size, ← c.entries.ensures.entries) (sym c.newest.ensures.value ∙ c.in-None.is) in
    none_is_given c.args.self.now.size c.args.self.now.entries c.args.at.0 missed
