use Rattle.std.proofs.Common.{sym, ap, ◌∙◌}
use Rattle.nc_sg.specs.Lists.{next_waiting}
use Rattle.nc_sg.proofs.ListLaws.{gives_at}
use Rattle.nc_sg.proofs.list.give.Goals as goal

pub returns-in-Some : goal.returns-in-Some
returns-in-Some c = gives_at c.args.slot c.args.entries.now.items c.in-Some.i c.index_mut.result.now (ap next_waiting (sym c.deref.ensures.value) ∙ sym c.in-Some.ensures.first) c.index_mut.ensures.value
