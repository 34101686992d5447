use Rattle.std.proofs.Common.{ℕ, [], ◌∷◌, ◌++◌, refl, sym, ap, ◌∙◌, subst}
use Rattle.nc_scen.specs.declared.events.Event.{Event}
use Rattle.nc_rules.specs.declared.records.Record.TheVariants as records
use Rattle.nc_world.specs.Inside.{state_of}
use Rattle.nc_world.specs.Looks.{IsTransactionIn}
use Rattle.nc_world.proofs.Answered.{transaction_inside}
use Rattle.nc_world.proofs.Disabled.{transact_none}
use Rattle.nc_world.proofs.Outcomes.{transact_runs, transact_off}
use Rattle.nc_world.proofs.Events.{ran, skipped, touch_logged}
use Rattle.nc_world.proofs.parts.Parts.transact.Goals as goal

pub transaction_touch-touch-requires : goal.transaction_touch-touch-requires
transaction_touch-touch-requires c =
    subst (λ (ram : ℕ). IsTransactionIn ram c.transact-moved.result) (sym c.requires.sound.holds.owners)
    (transaction_inside c.args.self.now.machine.machine c.args.c.0 c.args.access c.transact-moved.result c.sound.ensures c.requires.chan c.transact-moved.ensures.step)

pub returns-then-is_idle : goal.returns-then-is_idle
returns-then-is_idle c =
    let m = c.args.self.now.machine.machine in
    skipped (transact_off (state_of c.args.self.now) c.args.c c.args.access c.transact-moved.ensures.step c.is_idle.ensures c.if-is_idle.true)
    (transact_none m c.transact-moved.new.machine.machine c.args.c.0 c.args.access c.transact-moved.result c.transact-moved.ensures.step (sym c.is_idle.ensures ∙ c.if-is_idle.true)
    c.transact-moved.ensures.state) refl refl c.in_ok-reserve.ensures.records

pub returns : goal.returns
returns c =
    ran (transact_runs (state_of c.args.self.now) c.args.c c.args.access c.transact-moved.ensures.step c.is_idle.ensures c.if-is_idle.false c.transaction_touch-touch.ensures)
    c.transact-moved.ensures.state refl refl c.touches_after-self.ensures c.one_more-self.ensures
    (touch_logged _ _ _ c.in_ok-reserve.ensures.records (c.push.ensures.records ∙ ap (λ (e : Event). c.reserve.new.self.records ++ records.Event e ∷ []) c.transaction.ensures)
    c.touch.ensures.records c.transacted.ensures)
