-- The laws of flat memory.
use Rattle.std.proofs.Common.{◌≡◌, true, subst, sym}
use Rattle.nc_num.specs.Places.{covers}
use Rattle.nc_num.specs.declared.places.Span.{Span}
use Rattle.nc_flatness.specs.Steps.{EachGoes}
use Rattle.nc_flat_moves.proofs.MoveLaws.{moves_go_law}
use Rattle.nc_flat_claims.proofs.ClaimEvents as claims
use Rattle.nc_flat_scripts.proofs.accesses.IssueEvents as scripts
use Rattle.nc_flat_scripts.proofs.copies.TransferEvents as transfers
use Rattle.nc_flat_starts.proofs.opening.Events as starts
use Rattle.nc_flat_plans.proofs.drivers.PlanEvents as plans
use Rattle.nc_flat.specs.Laws.{EachRunIsLatest, EachRunIsKept, EachEventIsFlat, EachRunIsFlat, EachPoolIsUncached}
use Rattle.nc_flat.proofs.Dispatch.{each_goes}
use Rattle.nc_flat.proofs.Runs.{event_goes, latest_of, flat_of, kept_of}

goes_always : EachGoes
goes_always = each_goes moves_go_law (record { steps = scripts.steps_go; starts = starts.starts_go; plans = plans.plans_go; claims = claims.claims_go; transfers = transfers.transfers_go })

pub event_always : EachEventIsFlat
event_always sc f w e a flat there = event_goes sc f w e goes_always a flat there

pub latest_always : EachRunIsLatest
latest_always = latest_of goes_always

pub flat_always : EachRunIsFlat
flat_always = flat_of goes_always

pub kept_always : EachRunIsKept
kept_always = kept_of goes_always

pub uncached_always : EachPoolIsUncached
uncached_always sc es a there none x on =
    let flat = flat_always sc es a there none in
    flat.bytes.uncached x (subst (λ (pool : Span). covers pool x ≡ true) (sym flat.world.of_scenario.pool) on)
