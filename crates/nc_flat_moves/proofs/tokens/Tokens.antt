-- Queued tokens behind an event: each lot has its own where it had it, until it drains.
use Rattle.std.specs.Prelude.{All, Some, None, slice_get, remove}
use Rattle.std.proofs.Common.{◌≡◌, ℕ, ◌<◌, true, List, length, sym, ap, ◌∙◌, inl, inr, subst}
use Rattle.std.proofs.lemmas.Bool.{cases_eq}
use Rattle.nc_queue.specs.declared.entry.Entry.{Entry}
use Rattle.nc_scen.specs.declared.scenario.Scenario.{Scenario}
use Rattle.nc_rules.specs.declared.lots.Lot.{Lot}
use Rattle.nc_rules.specs.declared.steps.Step.{Step}
use Rattle.nc_rules.specs.Machine.{MachineState, queue_of}
use Rattle.nc_rules.specs.World.{WorldState, driver_of}
use Rattle.nc_calls.specs.PlaceLaws.{QueueLoses}
use Rattle.nc_scripts.proofs.Lists.{all_to}
use Rattle.nc_holds.specs.Tokens.{token_of}
use Rattle.nc_flatness.specs.Flatness.{Flatness}
use Rattle.nc_flatness.specs.Tokens.{TokenStands}
use Rattle.nc_flatness.proofs.worlds.Outcomes.{ran}
use Rattle.nc_flatness.proofs.tokens.Tokens.{pass_stands, token_none}

-- each lot of hart h has its token queued exactly where it is sent
abbrev pub TokensStand : WorldState → ℕ → Type 0
TokensStand w h = All (TokenStands (driver_of w h).rest (queue_of w.machine h)) (driver_of w h).lots

-- ---- no queue changes

tokens_in : (w : WorldState) (k : MachineState) (h : ℕ) → queue_of k h ≡ queue_of w.machine h → TokensStand w h → TokensStand (ran w k) h
tokens_in w k h same stand = subst (λ (q : List Entry). All (TokenStands (driver_of w h).rest q) (driver_of w h).lots) (sym same) stand

pub tokens_same : (sc : Scenario) (f : List ℕ) (w : WorldState) (k : MachineState) → Flatness sc f w → ((h : ℕ) → queue_of k h ≡ queue_of w.machine h) → (h : ℕ) → h < length sc.harts → (driver_of w h).fixed.light ≡ true → TokensStand (ran w k) h
tokens_same sc f w k flat same h lt light = tokens_in w k h (same h) (flat.bytes.tokens h lt light)

-- ---- an entry that is no token drains

tokens_left : (rest : List Step) (q : List Entry) (i : ℕ) (e : Entry) (lots : List Lot) → slice_get q i ≡ Some e → token_of e ≡ None → All (TokenStands rest q) lots → All (TokenStands rest (remove q i)) lots
tokens_left rest q i e lots stood none all =
    all_to (TokenStands rest q) (TokenStands rest (remove q i)) lots all (λ lot stands. pass_stands rest q i e lot stood (token_none lot.id e none) stands)

pub tokens_drained : (sc : Scenario) (f : List ℕ) (w : WorldState) (k : MachineState) (h i : ℕ) (e : Entry) → Flatness sc f w → QueueLoses w.machine k h i e → token_of e ≡ None
    → (g : ℕ) → g < length sc.harts → (driver_of w g).fixed.light ≡ true → TokensStand (ran w k) g
tokens_drained sc f w k h i e flat loses none g lt light =
    let stand = flat.bytes.tokens g lt light in
    elim (cases_eq g h) [
      | inl same ↦
          let d = driver_of w g in
          let own : queue_of k g ≡ remove (queue_of w.machine g) i = ap (queue_of k) same ∙ loses.own ∙ ap (λ (j : ℕ). remove (queue_of w.machine j) i) (sym same) in
          let stood : slice_get (queue_of w.machine g) i ≡ Some e = ap (λ (j : ℕ). slice_get (queue_of w.machine j) i) same ∙ loses.stood in
          subst (λ (q : List Entry). All (TokenStands d.rest q) d.lots) (sym own) (tokens_left d.rest (queue_of w.machine g) i e d.lots stood none stand)
      | inr ne ↦ tokens_in w k g (loses.others g ne) stand
    ]
