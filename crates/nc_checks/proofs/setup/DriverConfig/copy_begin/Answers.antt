use Rattle.std.proofs.Common.{◌∷◌, [], List, get_or, sym, ap, ◌∙◌, arith}
use Rattle.std.proofs.lemmas.List.{get_or_default}
use Rattle.nc_num.specs.declared.places.Span.{Span}
use Rattle.nc_rules.specs.Copies.{ends_of, no_span}
use Rattle.nc_checks.specs.Due.{may_copy, AreParts}
use Rattle.nc_checks.proofs.RangeLaws.{copy_done}
use Rattle.nc_checks.proofs.setup.DriverConfig.copy_begin.Goals as goal

pub returns : goal.returns
returns c =
    let f = c.args.self.now in
    let ranges = c.in-Ok.ranges.items in
    let parts : AreParts f 2 ranges = rw c.in-Ok.is at c.in_ok-ranges.ensures.parts in
    let two = parts.count in
    copy_done f c.args.src c.args.dst c.args.chan c.args.book.now.owners ranges c.in_default.field-0 c.in_default-may_copy.field-0 c.in_ok-ends.ends.items _
    c.in_default.ensures.value
    (rw c.in-Ok.is at c.in_ok-ranges.ensures.value)
    (c.in_default-may_copy.ensures ∙ ap (λ (rs : List Span). may_copy f c.args.book.now.owners rs) c.deref.ensures.value)
    (c.in_ok-ends.ensures
    ∙ ap (λ (r : Span). ends_of f c.args.chan (r ∷ c.index-2.result.now ∷ [])) (c.index.ensures ∙ get_or_default ranges 0 c.index.result.now no_span (omega arith))
    ∙ ap (λ (r : Span). ends_of f c.args.chan (get_or ranges 0 no_span ∷ r ∷ [])) (c.index-2.ensures ∙ get_or_default ranges 1 c.index-2.result.now no_span (omega arith)))
    (c.placeable.ensures f (sym c.slots.ensures))
