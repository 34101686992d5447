use Rattle.std.proofs.Common.{◌∙◌, ◌+◌, ◌++◌, take, drop, sym, ap, subst, arith, append_assoc, false, None}
use Rattle.std.proofs.lemmas.List.{at_drop_more}
use Rattle.std.specs.Option.{option_to_list}
use Rattle.nc_sg.specs.declared.list.Entry.{Entry}
use Rattle.nc_sg.specs.Lists.{IsEntry, run_on}
use Rattle.nc_sg.proofs.ListLaws.{all_after}
use Rattle.nc_sg.proofs.list.merged.Goals as goal

abbrev blank : Entry
blank = record { span = record { at = 0; len = 0 }; bounced = false; slot = None }

pub go_on-ended-requires-clause-entry : goal.go_on-ended-requires-clause-entry
go_on-ended-requires-clause-entry c = all_after c.args.entries.now c.in-Some.rest.now c.in-Some.first.now c.in-Some.ensures.cases.0 c.requires.entries c.loop-entry.entry-index blank c.loop-entry-test.true

pub loop-entry-preserved : goal.loop-entry-preserved
loop-entry-preserved c =
    let i = c.loop-entry.entry-index in
    let rest = c.in-Some.rest.now in
    let run = c.loop-entry.run in
    let next = c.go_on-ended.result.1 in
    let went = c.go_on-ended.ensures in
    let inv = c.loop-entry.invariant in
    record {
      few = omega (arith, c.add-done.ensures.few, inv.few);
      whole = c.add-done.array_long;
      last = subst IsEntry (sym went.last) (all_after c.args.entries.now rest c.in-Some.first.now c.in-Some.ensures.cases.0 c.requires.entries i blank c.loop-entry-test.true);
      len = omega (arith, went.len, inv.len);
      all = ap (λ xs. xs ++ run_on c.args.slots_at next.segment next.last (drop (i + 1) rest)) c.add-done.ensures.cells
          ∙ append_assoc (take c.loop-entry.done c.loop-entry.cells) (option_to_list c.go_on-ended.result.0) (run_on c.args.slots_at next.segment next.last (drop (i + 1) rest))
          ∙ ap (λ xs. take c.loop-entry.done c.loop-entry.cells ++ xs) (went.all (drop (i + 1) rest))
          ∙ sym (at_drop_more (λ es. take c.loop-entry.done c.loop-entry.cells ++ run_on c.args.slots_at run.segment run.last es) rest i blank c.loop-entry-test.true)
          ∙ inv.all;
    }
