use Rattle.std.proofs.Common.{ℕ, List, ◌++◌, sym, ap, ◌∙◌, subst}
use Rattle.nc_rules.specs.declared.answers.Issued.{Issued}
use Rattle.nc_rules.specs.declared.records.Record.{Record}
use Rattle.nc_rules.specs.Machine.{hart_of}
use Rattle.nc_log.specs.Logs.{OpHasPlace, IssuedHasPlaces, issued_records}
use Rattle.nc_world.proofs.Issued.{issued_places, op_place, op_records_is}
use Rattle.nc_world.proofs.acts.issue.Goals as goal

pub issued-requires-clause-block : goal.issued-requires-clause-block
issued-requires-clause-block c =
    let m = c.args.machine.now.machine in
    subst (λ (size : ℕ). OpHasPlace size c.args.op.now) (sym c.requires.size) (op_place m c.args.h c.args.op.now c.sound.ensures c.requires.there)

pub issued-requires-clause-places : goal.issued-requires-clause-places
issued-requires-clause-places c =
    let m = c.args.machine.now.machine in
    subst (λ (size : ℕ). IssuedHasPlaces size c.issue-issued.result) (sym c.requires.size)
    (subst (λ (i : Issued). IssuedHasPlaces m.size i) (sym c.issue-issued.ensures.answer) (issued_places m c.args.h c.args.op.now c.sound.ensures c.requires.there))

pub returns-clause-records : goal.returns-clause-records
returns-clause-records c =
    let m = c.args.machine.now.machine in
    let h = c.args.h in
    let b = c.args.by_script in
    let op = c.args.op.now in
    let old = c.args.log.now.records in
    let last = (hart_of m h.0).last in
    c.issued.ensures.records ∙ ap (λ (size : ℕ). old ++ issued_records size h b op c.last.result.now c.issue-issued.result) c.requires.size
    ∙ ap (λ (l : List ℕ). old ++ issued_records m.size h b op l c.issue-issued.result) c.last.ensures.value
    ∙ ap (λ (i : Issued). old ++ issued_records m.size h b op last i) c.issue-issued.ensures.answer
    ∙ ap (λ (l : List Record). old ++ l) (sym (op_records_is m h b op))
