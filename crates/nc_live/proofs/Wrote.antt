-- What was written of a history, once its run is due.
use Rattle.std.proofs.Common.{◌≡◌, ℕ, List, Option, subst, inr}
use Rattle.std.specs.Io.KnownBytes.{Appends}
use Rattle.nc_io.specs.Streams.{GrowsByPrefix}
use Rattle.nc_scen.specs.Accepted.{IsAccepted}
use Rattle.nc_scen.specs.declared.events.Event.{Event}
use Rattle.nc_scen.specs.declared.scenario.Scenario.{Scenario}
use Rattle.nc_copied.specs.Laws.{EachCopyIsDone}
use Rattle.nc_flat.specs.Laws.{EachRunIsLatest, EachRunIsKept}
use Rattle.nc_rules.specs.Flat.{AreThere}
use Rattle.nc_rules.specs.Lines.{status}
use Rattle.nc_turns.specs.Played.{IsLiveRun, live_text}
use Rattle.nc_live.specs.Due.{WroteLive, GrewByLive}

pub wrote : (before now : Option (List ℕ)) (sc : Scenario) (answered : ℕ) (es shown : List Event) → IsLiveRun sc es → shown ≡ es → answered ≡ status sc shown → Appends before now (live_text sc shown)
    → IsAccepted sc → EachRunIsLatest → EachRunIsKept → EachCopyIsDone → AreThere sc es → WroteLive before now sc answered
wrote before now sc answered es shown run same is text accepted latest kept copied there = record {
  history = es;
  run = run;
  status = subst (λ (xs : List Event). answered ≡ status sc xs) same is;
  text = subst (λ (xs : List Event). Appends before now (live_text sc xs)) same text;
  flat = (latest sc accepted es there, kept sc accepted es there, copied sc accepted es there);
}

pub grew : (before now : Option (List ℕ)) (sc : Scenario) (es shown : List Event) → IsLiveRun sc es → shown ≡ es → GrowsByPrefix before now (live_text sc shown) → GrewByLive before now sc
grew before now sc es shown run same prefix = inr (es, run, subst (λ (xs : List Event). GrowsByPrefix before now (live_text sc xs)) same prefix)
