-- The starts of operations on an area that the hart has: it is given to its channel, taken back, or ends.
use Rattle.std.specs.Prelude.{Option, Some, None, Result, Ok, true, false}
use Rattle.std.proofs.Common.{◌≡◌, ℕ, List, [], length, refl, sym, ap, ◌∙◌, inl, inr, subst, arith}
use Rattle.nc_num.specs.Places.{covers}
use Rattle.nc_num.specs.declared.names.HartNo.{HartNo}
use Rattle.nc_num.specs.declared.names.Label.{Label}
use Rattle.nc_num.specs.declared.places.Span.{Span}
use Rattle.nc_model.proofs.Faults.{covers-from, passes}
use Rattle.nc_model.specs.Rights.{is_thread}
use Rattle.nc_model.specs.Touches.{first_fault}
use Rattle.nc_model.specs.declared.owners.Owner.{Owner}
use Rattle.nc_model.specs.declared.owners.Owner.TheVariants.{Device}
use Rattle.nc_own.specs.Books.{owner_in}
use Rattle.nc_ops.specs.declared.ops.Op.{Op}
use Rattle.nc_ops.specs.declared.ops.Op.TheVariants as ops
use Rattle.nc_scen.specs.declared.scenario.Scenario.{Scenario}
use Rattle.nc_rules.specs.declared.answers.Refusal.{Refusal}
use Rattle.nc_rules.specs.declared.answers.Refusal.TheVariants as refusals
use Rattle.nc_rules.specs.declared.lots.Kind.TheVariants as kinds
use Rattle.nc_rules.specs.declared.lots.Lot.{Lot}
use Rattle.nc_rules.specs.declared.lots.Side.TheVariants as sides
use Rattle.nc_rules.specs.declared.steps.Turn.{Turn}
use Rattle.nc_rules.specs.declared.steps.Turn.TheVariants as turns
use Rattle.nc_rules.specs.Areas as areas
use Rattle.nc_rules.specs.Areas.{fenced, free_turn, free_steps, cfree_begin}
use Rattle.nc_rules.specs.Lots.{DriverConfig, lot_named, only_entry, is_own, is_wanted, map_id, owner_of_side}
use Rattle.nc_rules.specs.Operations.{meaning, begin, opening, plan_of}
use Rattle.nc_rules.specs.Plans.{lending_end}
use Rattle.nc_rules.specs.Refusals.{◌>>=◌, named, owned_but, owned}
use Rattle.nc_rules.specs.Turns.{is_area}
use Rattle.nc_rules.specs.Driver.{with_lots, opened, begun}
use Rattle.nc_rules.specs.EventTouches.{owner_of}
use Rattle.nc_rules.specs.World.{WorldState, driver_of}
use Rattle.nc_scripts.proofs.DriverSteps.{passed}
use Rattle.nc_scripts.proofs.NewLots.{free_none, some_is}
use Rattle.nc_holds.proofs.owners.Lots.{entry_in}
use Rattle.nc_holds.proofs.owners.Pages.{area_entry}
use Rattle.nc_flatness.specs.Flatness.{BytesStand}
use Rattle.nc_flatness.specs.Plans.{IsStill, StillDevice, StillSynced, StillOwn, StillSent, IsAreaBack}
use Rattle.nc_flatness.proofs.plans.Copies.{is_copy}
use Rattle.nc_flatness.proofs.worlds.Outcomes.{gone}
use Rattle.nc_flat_starts.proofs.areas.AreaRows.{IsTakenSide, give_opens, take_opens}
use Rattle.nc_flat_starts.proofs.opening.Bases.{base_lot}
use Rattle.nc_flat_starts.proofs.opening.Calls.{opened_so}
use Rattle.nc_flat_starts.proofs.opening.Opens.{opens_bytes, base_owner}
use Rattle.nc_flat_starts.proofs.opening.Starts.{IsStart, IsThere, OpensSo, OpenStands, Finds, found_bytes, sided_bytes, known_now, stays_bytes}

-- ---- the area that it finds

-- its channel has it, or its hart
area_still : (f : DriverConfig) (lot : Lot) → lot.kind ≡ kinds.Area → (lot.side ≡ sides.Lending → ⊥) → IsStill f lot → IsTakenSide lot
area_still f lot area unsent (StillDevice is) = inl is
area_still f lot area unsent (StillSynced is kind) = let both : kinds.Single ≡ kinds.Area = sym kind ∙ area in absurd cc
area_still f lot area unsent (StillOwn is kind) = inr is
area_still f lot area unsent (StillSent is light) = absurd (unsent is)

taken_lent : (lot : Lot) → IsTakenSide lot → is_wanted lot.side ≡ false
taken_lent lot (inl is) = ap is_wanted is
taken_lent lot (inr is) = ap is_wanted is

-- ---- the ways in which its operation opens

gives_area : (sc : Scenario) (f : List ℕ) (w : WorldState) (h : HartNo) (o : Op) (lot : Lot) (label : Label) → IsStart sc f w h o → is_copy o ≡ false → IsThere sc f w h lot label kinds.Area
    → lot.side ≡ sides.Own → OpensSo w h o (turns.Lend lot.id) (lending_end (driver_of w h.0).fixed lot) → OpenStands sc f w h o
gives_area sc f w h o lot label s no_copy t own by =
    let d = driver_of w h.0 in
    let went = opened (with_lots d d.lots) o in
    let plan = lending_end d.fixed lot in
    let so = opened_so d d.lots o (turns.Lend lot.id) plan by in
    opens_bytes sc f w h o went d.lots lot sides.Lending plan
    (give_opens sc f w h o went d.lots lot t.base (ap is_area t.its_kind) own (record { hand = s.hand; lends = s.lends; no_copy = no_copy; lent = refl; driver = so.driver; transfers = so.transfers }))

takes_area : (sc : Scenario) (f : List ℕ) (w : WorldState) (h : HartNo) (o : Op) (lot : Lot) (label : Label) (turn : Turn) → IsStart sc f w h o → is_copy o ≡ false → IsThere sc f w h lot label kinds.Area → IsTakenSide lot → IsAreaBack lot.id turn
    → OpensSo w h o (turns.Return lot.id) (fenced turn) → OpenStands sc f w h o
takes_area sc f w h o lot label turn s no_copy t side back by =
    let d = driver_of w h.0 in
    let went = opened (with_lots d d.lots) o in
    let plan = fenced turn in
    let so = opened_so d d.lots o (turns.Return lot.id) plan by in
    opens_bytes sc f w h o went d.lots lot sides.Returning plan
    (take_opens sc f w h o went d.lots lot turn t.base (ap is_area t.its_kind) side (known_now sc f w h lot t.base (taken_lent lot side)) back
    (record { hand = s.hand; lends = s.lends; no_copy = no_copy; lent = refl; driver = so.driver; transfers = so.transfers }))

-- ---- each of them

pub give_bytes : (sc : Scenario) (f : List ℕ) (w : WorldState) (h : HartNo) (label : Label) (r : Result (List Lot) Refusal) → IsStart sc f w h (ops.Cgive label) → begin (driver_of w h.0).fixed (driver_of w h.0).lots w.owners w.pages (ops.Cgive label) ≡ r
    → BytesStand sc f (gone w h w.machine (begun (driver_of w h.0) (ops.Cgive label) r))
unfolding begin opening plan_of meaning areas.give_area
give_bytes sc f w h label r s e =
    let o = ops.Cgive label in
    let fx = (driver_of w h.0).fixed in
    sided_bytes sc f w h o label kinds.Area sides.Own is_own (λ lot. turns.Stay) (λ lot. turns.Lend lot.id) (λ lot. []) (lending_end fx) r s refl refl refl refl e
    (λ lot t. area_still fx lot t.its_kind t.unsent t.still) (record { turn_is = refl; plan_is = refl })
    (λ lot t its by. stays_bytes sc f w h o s by)
    (λ lot t its by. gives_area sc f w h o lot label s refl t its by)

pub take_bytes : (sc : Scenario) (f : List ℕ) (w : WorldState) (h : HartNo) (label : Label) (r : Result (List Lot) Refusal) → IsStart sc f w h (ops.Ctake label) → begin (driver_of w h.0).fixed (driver_of w h.0).lots w.owners w.pages (ops.Ctake label) ≡ r
    → BytesStand sc f (gone w h w.machine (begun (driver_of w h.0) (ops.Ctake label) r))
unfolding begin opening plan_of meaning areas.take_area
take_bytes sc f w h label r s e =
    let o = ops.Ctake label in
    let fx = (driver_of w h.0).fixed in
    sided_bytes sc f w h o label kinds.Area sides.Own is_own (λ lot. turns.Return lot.id) (λ lot. turns.Stay) (λ lot. fenced (turns.Settle lot.id)) (λ lot. []) r s refl refl refl refl e
    (λ lot t. area_still fx lot t.its_kind t.unsent t.still) (record { turn_is = refl; plan_is = refl })
    (λ lot t its by. takes_area sc f w h o lot label (turns.Settle lot.id) s refl t (inl its) (inl refl) by)
    (λ lot t its by. stays_bytes sc f w h o s by)

-- an area ends only while each byte of it is the hart's
no_fault : (os : List Owner) (o : Option ℕ) → owned_but os o ≡ Ok tt → o ≡ None
no_fault os None e = refl
no_fault os (Some x) e = absurd cc

range_owned : (me : HartNo) (os : List Owner) (range : Span) (x : ℕ) → owned me os range ≡ Ok tt → covers range x ≡ true → is_thread me (owner_in os x) ≡ true
range_owned me os range x e on = passes (λ y. is_thread me (owner_in os y)) range x (no_fault os (first_fault (λ y. is_thread me (owner_in os y)) range) e) on

free_begins : (f : DriverConfig) (lots new : List Lot) (label : Label) (os : List Owner) → cfree_begin f lots label os ≡ Ok new
    → Finds lots new label kinds.Area (λ lot. owned f.me os (only_entry lot).span ≡ Ok tt)
free_begins f lots new label os e =
    let p = passed (named lots label kinds.Area) (λ lot. owned f.me os (only_entry lot).span >>= λ _. Ok []) new e in
    let q = passed (owned f.me os (only_entry p.value).span) (λ _. Ok []) new p.rest in
    record { lot = p.value; is = some_is refusals.NoLabel (lot_named lots label kinds.Area) p.value p.first; none = free_none f lots new label os e; so = q.first }

owned_side : (sc : Scenario) (f : List ℕ) (w : WorldState) (h : HartNo) (lot : Lot) (label : Label) → IsThere sc f w h lot label kinds.Area → owned (driver_of w h.0).fixed.me w.owners (only_entry lot).span ≡ Ok tt → IsTakenSide lot → lot.side ≡ sides.Own
owned_side sc f w h lot label t own (inr is) = is
owned_side sc f w h lot label t own (inl device) =
    let fx = (driver_of w h.0).fixed in
    let ram = length w.machine.cache.ram in
    let is = base_lot sc f w h (driver_of w h.0).lots lot t.base in
    let span = (only_entry lot).span in
    let entry = area_entry ram fx lot is (ap is_area t.its_kind) in
    let some = (entry_in ram fx lot 0 (only_entry lot) is entry).range.some in
    let on = covers-from span span.at (omega arith) (omega (arith, some)) in
    let owner : owner_of w span.at ≡ Device (map_id h lot.id 0) = base_owner sc f w h (driver_of w h.0).lots lot 0 (only_entry lot) span.at t.base (record { entry = entry; on = on }) ∙ ap (owner_of_side (map_id h lot.id 0)) device in
    let no : is_thread fx.me (Device (map_id h lot.id 0)) ≡ true = subst (λ (k : Owner). is_thread fx.me k ≡ true) owner (range_owned fx.me w.owners span span.at own on) in
    absurd cc

pub free_bytes : (sc : Scenario) (f : List ℕ) (w : WorldState) (h : HartNo) (label : Label) (r : Result (List Lot) Refusal) → IsStart sc f w h (ops.Cfree label) → begin (driver_of w h.0).fixed (driver_of w h.0).lots w.owners w.pages (ops.Cfree label) ≡ r
    → BytesStand sc f (gone w h w.machine (begun (driver_of w h.0) (ops.Cfree label) r))
unfolding begin opening plan_of meaning areas.free_area
free_bytes sc f w h label r s e =
    let d = driver_of w h.0 in
    let o = ops.Cfree label in
    found_bytes sc f w h o label kinds.Area (λ lot. owned d.fixed.me w.owners (only_entry lot).span ≡ Ok tt) free_turn free_steps r s refl refl
    (λ new is. free_begins d.fixed d.lots new label w.owners (e ∙ is)) (record { turn_is = refl; plan_is = refl })
    (λ lot t so by.
    let own = owned_side sc f w h lot label t so (area_still d.fixed lot t.its_kind t.unsent t.still) in
    takes_area sc f w h o lot label (turns.End lot.id) s refl t (inr own) (inr refl) by)
