-- A scenario that is moved to version 2 runs as before: of a scenario's fields, its run looks at all but the version.
use Rattle.std.proofs.Common.{◌≡◌, ℕ, List, ◌++◌, length, take, Ok, refl, sym, ap, ◌∙◌}
use Rattle.nc_scen.specs.declared.events.Event.{Event}
use Rattle.nc_scen.specs.declared.scenario.Scenario.{Scenario}
use Rattle.nc_scen.specs.Reading.{reading}
use Rattle.nc_rules.specs.Start.{memory, first_machine, first_driver}
use Rattle.nc_rules.specs.World.{WorldState, start, first_owners}
use Rattle.nc_rules.specs.Run.{after}
use Rattle.nc_rules.specs.Schedule.{size_of, planned, finishing, sched}
use Rattle.nc_rules.specs.Lines.{text_of, tail, report, status, status_at}
use Rattle.nc_migrate.specs.Migrating.{KeepsReading, as_version_2, migrated, moved_value}
use Rattle.nc_migrate.proofs.Binds.{ok_first}
use Rattle.nc_top.specs.Due.{Due, due_for, run_of}
use Rattle.nc_top.specs.Inputs.{KeepsScenario}

start_same : (sc : Scenario) → start (as_version_2 sc) ≡ start sc
unfolding start first_machine memory first_driver first_owners
start_same sc = refl

-- the schedule, from a state
sched_from : Scenario → WorldState → List Event
sched_from sc w = take sc.limit (planned (size_of sc) sc.plan w ++ finishing sc.finish (length sc.harts) sc.limit (after w (planned (size_of sc) sc.plan w)))

sched_same : (sc : Scenario) → sched (as_version_2 sc) ≡ sched sc
unfolding sched sched_from
sched_same sc = ap (sched_from sc) (start_same sc)

report_same : (sc : Scenario) (es : List Event) → report (as_version_2 sc) es ≡ report sc es
unfolding report tail
report_same sc es = ap (λ (w : WorldState). text_of w es ++ tail sc (after w es)) (start_same sc)

status_same : (sc : Scenario) (es : List Event) → status (as_version_2 sc) es ≡ status sc es
unfolding status
status_same sc es = ap (λ (w : WorldState). status_at (after w es)) (start_same sc)

run_same : (sc : Scenario) → run_of (as_version_2 sc) ≡ run_of sc
run_same sc =
    let code = status_same sc (sched (as_version_2 sc)) ∙ ap (status sc) (sched_same sc) in
    let text = report_same sc (sched (as_version_2 sc)) ∙ ap (report sc) (sched_same sc) in
    λ k. let d : Due = record { status = code k; text = text k } in d

pub keeps_scenario : (bytes text : List ℕ) → migrated bytes ≡ Ok text → KeepsReading bytes text → KeepsScenario bytes text
unfolding KeepsScenario
keeps_scenario bytes text e keeps =
    let a = ok_first (moved_value bytes) _ text e in
    let b = ok_first (reading bytes) _ a.0 a.1 in
    (keeps, λ le. ap due_for (keeps.reads le b.0 b.1) ∙ run_same b.0 ∙ ap due_for (sym b.1))
