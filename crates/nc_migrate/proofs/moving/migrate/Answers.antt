use Rattle.std.proofs.Common.{◌≡◌, ◌++◌, ◌∷◌, [], false, Ok, ap, sym, ◌∙◌, subst, List}
use Rattle.serde_json.specs.Data.{Data}
use Rattle.serde_json.specs.View.{view}
use Rattle.serde_json.specs.Written.{has_float}
use Rattle.nc_migrate.specs.Migrating.{KeepsReading, line, moved}
use Rattle.nc_migrate.proofs.Law.{IsInput, IsText, input, migrated_is, moved_whole, keeps_reading}
use Rattle.nc_migrate.proofs.moving.migrate.Goals as goal

pub returns-clause-gives : goal.returns-clause-gives
returns-clause-gives c =
    let sc = c.in_ok-sc.sc in
    let d : Data = view c.in_ok-value.value in
    let i : IsInput c.args.bytes.now sc d = input c.args.bytes.now sc d c.in_ok-sc.ensures.gives c.in_ok-value.ensures in
    let whole : has_float (view c.in_ok-value-2.value) ≡ false = ap has_float c.in_ok-value-2.ensures ∙ moved_whole c.args.bytes.now sc d i in
    migrated_is c.args.bytes.now sc d c.in_ok-sc.ensures.gives c.in_ok-value.ensures
    ∙ ap (λ (m : Data). Ok (line m)) (sym c.in_ok-value-2.ensures)
    ∙ ap (λ (s : List _). Ok (s ++ 10 ∷ [])) (sym (c.in_ok-text.ensures.text whole))
    ∙ ap Ok (sym c.in_ok-push.ensures.items)

pub returns-clause-law : goal.returns-clause-law
returns-clause-law c =
    let sc = c.in_ok-sc.sc in
    let d : Data = view c.in_ok-value.value in
    let i : IsInput c.args.bytes.now sc d = input c.args.bytes.now sc d c.in_ok-sc.ensures.gives c.in_ok-value.ensures in
    let text : IsText c.in_ok-text.text.items (moved sc.version d) =
    subst (IsText c.in_ok-text.text.items) c.in_ok-value-2.ensures (record { is = c.in_ok-text.ensures.text; utf8 = c.in_ok-text.ensures.utf8; back = c.in_ok-text.ensures.reads_back }) in
    subst (KeepsReading c.args.bytes.now) (sym c.in_ok-push.ensures.items)
    (keeps_reading c.args.bytes.now c.in_ok-text.text.items sc d c.in_ok-sc.ensures.gives i c.in_ok-sc.ensures.accepted.version text)
