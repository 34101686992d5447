use Rattle.std.proofs.Common.{◌/◌, length, ap, ◌∙◌, subst, ℕ}
use Rattle.nc_rules.specs.Schedule.{begun}
use Rattle.nc_scen.specs.declared.scenario.Scenario.{Scenario}
use Rattle.nc_turns.specs.Draws.{draw_from}
use Rattle.nc_turns.specs.States.{IsLive}
use Rattle.nc_turns.proofs.Begins.{live_start}
use Rattle.nc_turns.proofs.live.LiveState.new.Goals as goal

pub invariant_of-result : goal.invariant_of-result
invariant_of-result g c =
    let sc = c.args.sc.now in
    let harts = length c.as_slice.result.now in
    let w = c.in_ok-new.field-0 in
    let es = c.new-3.result.items in
    subst (λ (s : Scenario). IsLive s sc.limit harts (sc.ram / sc.block_size) c.none.result c.new.result w es) c.requires.scene
    (live_start sc harts c.none.result c.new.result w es c.requires.accepted c.worlds_start.ensures (ap (λ hs. length hs) c.as_slice.ensures) c.none.ensures
    (c.new.ensures ∙ ap (λ (n : ℕ). draw_from (begun n)) c.seed_of.ensures) c.in_ok-new.ensures.state c.in_ok-new.ensures.records c.new-3.ensures.items)
