-- The starts of operations on a mapping that the hart has: unmap and the syncs.
use Rattle.std.specs.Prelude.{Result, Ok, ◌==◌, false}
use Rattle.std.proofs.Common.{◌≡◌, ◌⊎◌, ℕ, List, [], length, refl, sym, ap, ◌∙◌, inl, inr}
use Rattle.std.proofs.lemmas.Bool.{both_ways}
use Rattle.nc_num.specs.declared.names.HartNo.{HartNo}
use Rattle.nc_num.specs.declared.names.Label.{Label}
use Rattle.nc_ops.specs.declared.ops.Op.TheVariants as ops
use Rattle.nc_scen.specs.declared.scenario.Scenario.{Scenario}
use Rattle.nc_rules.specs.declared.answers.Refusal.{Refusal}
use Rattle.nc_rules.specs.declared.answers.Refusal.TheVariants as refusals
use Rattle.nc_rules.specs.declared.lots.Kind.TheVariants as kinds
use Rattle.nc_rules.specs.declared.lots.Lot.{Lot}
use Rattle.nc_rules.specs.declared.lots.Side.TheVariants as sides
use Rattle.nc_rules.specs.declared.steps.Turn.TheVariants as turns
use Rattle.nc_rules.specs.Lots.{DriverConfig, lot_named, is_synced}
use Rattle.nc_rules.specs.Turns.{is_area}
use Rattle.nc_rules.specs.Refusals.{◌>>=◌, wanted, named}
use Rattle.nc_rules.specs.Plans.{lend_steps, return_steps, ending}
use Rattle.nc_rules.specs.Mappings as mappings
use Rattle.nc_rules.specs.ScatterLists as lists
use Rattle.nc_rules.specs.ScatterLists.{unmap_sg_begin, unmap_sg_turn, unmap_sg_steps}
use Rattle.nc_rules.specs.Operations.{meaning, begin, opening, plan_of}
use Rattle.nc_rules.specs.Driver.{begun}
use Rattle.nc_rules.specs.World.{WorldState, driver_of}
use Rattle.nc_scripts.proofs.DriverSteps.{passed}
use Rattle.nc_scripts.proofs.NewLots.{sg_none, some_is}
use Rattle.nc_flatness.specs.Flatness.{BytesStand}
use Rattle.nc_flatness.specs.Plans.{IsStill, StillDevice, StillSynced, StillOwn, StillSent}
use Rattle.nc_flatness.proofs.worlds.Outcomes.{gone}
use Rattle.nc_flat_starts.proofs.opening.Starts.{IsStart, Finds, found_bytes, sided_bytes, stays_bytes, lends_bytes, returns_bytes, ends_bytes}

-- ---- each of them

-- a mapping is its channel's, or synced
mapping_still : (f : DriverConfig) (lot : Lot) → is_area lot.kind ≡ false → (lot.side ≡ sides.Lending → ⊥) → IsStill f lot → (lot.side ≡ sides.Device) ⊎ (lot.side ≡ sides.Synced)
mapping_still f lot plain unsent (StillDevice is) = inl is
mapping_still f lot plain unsent (StillSynced is kind) = inr is
mapping_still f lot plain unsent (StillOwn is kind) = absurd (both_ways (is_area lot.kind) plain (ap is_area kind))
mapping_still f lot plain unsent (StillSent is light) = absurd (unsent is)

-- one of a list is its channel's
list_unsynced : (f : DriverConfig) (lot : Lot) → lot.kind ≡ kinds.List → IsStill f lot → lot.side ≡ sides.Synced → ⊥
list_unsynced f lot list (StillDevice is) synced = let no : sides.Device ≡ sides.Synced = sym is ∙ synced in cc
list_unsynced f lot list (StillSynced is kind) synced = let no : kinds.Single ≡ kinds.List = sym kind ∙ list in cc
list_unsynced f lot list (StillOwn is kind) synced = let no : sides.Own ≡ sides.Synced = sym is ∙ synced in cc
list_unsynced f lot list (StillSent is light) synced = let no : sides.Lending ≡ sides.Synced = sym is ∙ synced in cc

list_begins : (lots new : List Lot) (label : Label) (count : ℕ) → unmap_sg_begin lots label count ≡ Ok new → Finds lots new label kinds.List (λ lot. Unit {0})
list_begins lots new label count e =
    let p = passed (named lots label kinds.List) (λ lot. wanted (refusals.BadCount (length lot.list.entries)) (length lot.list.entries == count) >>= λ _. Ok []) new e in
    record { lot = p.value; is = some_is refusals.NoLabel (lot_named lots label kinds.List) p.value p.first; none = sg_none lots new label count e; so = tt }

pub dev_bytes : (sc : Scenario) (f : List ℕ) (w : WorldState) (h : HartNo) (label : Label) (r : Result (List Lot) Refusal) → IsStart sc f w h (ops.ToDev label) → begin (driver_of w h.0).fixed (driver_of w h.0).lots w.owners w.pages (ops.ToDev label) ≡ r
    → BytesStand sc f (gone w h w.machine (begun (driver_of w h.0) (ops.ToDev label) r))
unfolding begin opening plan_of meaning mappings.sync_for_device
dev_bytes sc f w h label r s e =
    let o = ops.ToDev label in
    let fx = (driver_of w h.0).fixed in
    sided_bytes sc f w h o label kinds.Single sides.Synced is_synced (λ lot. turns.Stay) (λ lot. turns.Lend lot.id) (λ lot. []) (lend_steps fx) r s refl refl refl refl e
    (λ lot t. mapping_still fx lot (ap is_area t.its_kind) t.unsent t.still) (record { turn_is = refl; plan_is = refl })
    (λ lot t its by. stays_bytes sc f w h o s by)
    (λ lot t its by. lends_bytes sc f w h o lot label kinds.Single s refl t refl its by)

pub cpu_bytes : (sc : Scenario) (f : List ℕ) (w : WorldState) (h : HartNo) (label : Label) (r : Result (List Lot) Refusal) → IsStart sc f w h (ops.ToCpu label) → begin (driver_of w h.0).fixed (driver_of w h.0).lots w.owners w.pages (ops.ToCpu label) ≡ r
    → BytesStand sc f (gone w h w.machine (begun (driver_of w h.0) (ops.ToCpu label) r))
unfolding begin opening plan_of meaning mappings.sync_for_cpu
cpu_bytes sc f w h label r s e =
    let o = ops.ToCpu label in
    let fx = (driver_of w h.0).fixed in
    sided_bytes sc f w h o label kinds.Single sides.Synced is_synced (λ lot. turns.Return lot.id) (λ lot. turns.Stay)
    (λ lot. ending (turns.Sync lot.id) (return_steps fx lot)) (λ lot. []) r s refl refl refl refl e
    (λ lot t. mapping_still fx lot (ap is_area t.its_kind) t.unsent t.still) (record { turn_is = refl; plan_is = refl })
    (λ lot t its by. returns_bytes sc f w h o lot label kinds.Single (turns.Sync lot.id) s refl t refl its (inl refl) (λ sync. refl) by)
    (λ lot t its by. stays_bytes sc f w h o s by)

pub unmap_bytes : (sc : Scenario) (f : List ℕ) (w : WorldState) (h : HartNo) (label : Label) (r : Result (List Lot) Refusal) → IsStart sc f w h (ops.Unmap label) → begin (driver_of w h.0).fixed (driver_of w h.0).lots w.owners w.pages (ops.Unmap label) ≡ r
    → BytesStand sc f (gone w h w.machine (begun (driver_of w h.0) (ops.Unmap label) r))
unfolding begin opening plan_of meaning mappings.unmap_single
unmap_bytes sc f w h label r s e =
    let o = ops.Unmap label in
    let fx = (driver_of w h.0).fixed in
    sided_bytes sc f w h o label kinds.Single sides.Synced is_synced (λ lot. turns.Return lot.id) (λ lot. turns.End lot.id)
    (λ lot. ending (turns.End lot.id) (return_steps fx lot)) (λ lot. []) r s refl refl refl refl e
    (λ lot t. mapping_still fx lot (ap is_area t.its_kind) t.unsent t.still) (record { turn_is = refl; plan_is = refl })
    (λ lot t its by. returns_bytes sc f w h o lot label kinds.Single (turns.End lot.id) s refl t refl its (inr refl) (λ sync. refl) by)
    (λ lot t its by. ends_bytes sc f w h o lot label kinds.Single s t refl its by)

pub list_bytes : (sc : Scenario) (f : List ℕ) (w : WorldState) (h : HartNo) (label : Label) (count : ℕ) (r : Result (List Lot) Refusal) → IsStart sc f w h (ops.UnmapSg label count) → begin (driver_of w h.0).fixed (driver_of w h.0).lots w.owners w.pages (ops.UnmapSg label count) ≡ r
    → BytesStand sc f (gone w h w.machine (begun (driver_of w h.0) (ops.UnmapSg label count) r))
unfolding begin opening plan_of meaning lists.unmap_sg
list_bytes sc f w h label count r s e =
    let d = driver_of w h.0 in
    let o = ops.UnmapSg label count in
    found_bytes sc f w h o label kinds.List (λ lot. Unit {0}) unmap_sg_turn (unmap_sg_steps d.fixed) r s refl refl
    (λ new is. list_begins d.lots new label count (e ∙ is)) (record { turn_is = refl; plan_is = refl })
    (λ lot t so by. elim (mapping_still d.fixed lot (ap is_area t.its_kind) t.unsent t.still) [
      | inl device ↦ returns_bytes sc f w h o lot label kinds.List (turns.End lot.id) s refl t refl device (inr refl) (λ sync. absurd cc) by
      | inr synced ↦ absurd (list_unsynced d.fixed lot t.its_kind t.still synced)
    ])
