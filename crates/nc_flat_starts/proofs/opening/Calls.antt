-- A call at a start or in a search: it opens the operation, searches for a slot, or gives up.
use Rattle.std.specs.Prelude.{Option, Some, All, ◌==◌, ◌&&◌, not, Bool, true, false, if◌then◌else◌, option_map}
use Rattle.std.specs.List.{list_any, find}
use Rattle.std.proofs.Common.{◌≡◌, ℕ, ◌<◌, List, [], ◌∷◌, length, map, refl, sym, ap, ◌∙◌, inl, inr, subst}
use Rattle.std.proofs.lemmas.Bool.{both_ways, cases_Bool, false_from_ne_true, and_from, eq-eqb}
use Rattle.std.proofs.lemmas.List.{append-nil}
use Rattle.nc_num.specs.declared.names.ChanNo.{ChanNo}
use Rattle.nc_num.specs.declared.names.Dir.{Dir}
use Rattle.nc_num.specs.declared.names.Dir.TheVariants.{ToDev, FromDev}
use Rattle.nc_num.specs.declared.names.HartNo.{HartNo}
use Rattle.nc_num.specs.declared.names.Label.{Label}
use Rattle.nc_num.specs.declared.names.MapId.{MapId}
use Rattle.nc_pdma_regs.specs.Config.{repeat_of}
use Rattle.nc_plan.specs.Plans.{In}
use Rattle.nc_plan.proofs.PlanLaws.{in_right}
use Rattle.nc_ops.specs.declared.ops.Op.{Op}
use Rattle.nc_ops.specs.declared.ops.Op.TheVariants as ops
use Rattle.nc_ops.specs.declared.ops.SgEntry.{SgEntry}
use Rattle.nc_scen.specs.declared.scenario.Scenario.{Scenario}
use Rattle.nc_rules.specs.declared.answers.Refusal.{Refusal}
use Rattle.nc_rules.specs.declared.lots.Kind.{Kind}
use Rattle.nc_rules.specs.declared.lots.Kind.TheVariants as kinds
use Rattle.nc_rules.specs.declared.lots.Lot.{Lot}
use Rattle.nc_rules.specs.declared.lots.LotId.{LotId}
use Rattle.nc_rules.specs.declared.lots.Side.{Side}
use Rattle.nc_rules.specs.declared.lots.Side.TheVariants as sides
use Rattle.nc_rules.specs.declared.steps.Phase.TheVariants.{Work}
use Rattle.nc_rules.specs.declared.steps.Step.{Step}
use Rattle.nc_rules.specs.declared.steps.Turn.{Turn}
use Rattle.nc_rules.specs.declared.steps.Turn.TheVariants as turns
use Rattle.nc_rules.specs.Machine.{queue_of}
use Rattle.nc_rules.specs.Lots.{DriverConfig, lot_id, lot_named, is_lot, is_named, is_labelled, is_wanted, same_kind, lot_waits, some_lot_waits}
use Rattle.nc_rules.specs.Turns.{is_area, lots_after, transfers_of, turned_by}
use Rattle.nc_rules.specs.Plans.{lend_steps}
use Rattle.nc_rules.specs.Copies as copies
use Rattle.nc_rules.specs.Copies.{source, target, copy_steps, copy_steps_of}
use Rattle.nc_rules.specs.Mappings as mappings
use Rattle.nc_rules.specs.Mappings.{with_lot}
use Rattle.nc_rules.specs.ScatterLists as lists
use Rattle.nc_rules.specs.Operations.{meaning, opening, plan_of}
use Rattle.nc_rules.specs.Driver.{DriverState, Went, in_hand, stands, stays, searches, with_lots, opened, placed, give_up, went_to}
use Rattle.nc_rules.specs.EventTouches.{owner_of}
use Rattle.nc_rules.specs.World.{WorldState, driver_of}
use Rattle.nc_scripts.specs.Drivers.{IsSettled, AreMade, made_names}
use Rattle.nc_scripts.proofs.EveryDriver.{in_hand_is}
use Rattle.nc_scripts.proofs.Lists.{all_in, all_filtered, none_any}
use Rattle.nc_scripts.proofs.LotLaws.{its_name}
use Rattle.nc_holds.proofs.events.From.{EveryoneIn}
use Rattle.nc_holds.proofs.lists.Members.{of_append, all_at}
use Rattle.nc_holds.proofs.owners.Ends.{left_all}
use Rattle.nc_holds.proofs.owners.Lots.{same_named}
use Rattle.nc_rows.specs.Ahead.{ends, posts, settling, coming}
use Rattle.nc_rows.proofs.Steps.{steps_ahead}
use Rattle.nc_rows.specs.Parts.{rest_last}
use Rattle.nc_flatness.specs.Books.{loan_by, loan_of}
use Rattle.nc_flatness.specs.Copying.{CopyOp, copy_op, polls, transfers, IsOneRange}
use Rattle.nc_flatness.specs.Lending.{is_lending}
use Rattle.nc_flatness.specs.Flatness.{IsMapping, IsStillOrWanted, makes_kind, IsStillOrMade, PlanOf, Drives, BytesStand, Flatness}
use Rattle.nc_flatness.specs.Plans.{IsEndName, IsStill, StillDevice, StillSynced, StillOwn, StillSent}
use Rattle.nc_flatness.specs.Tokens.{lot_token, is_lending_side, ends_lending, is_sent, TokenStands}
use Rattle.nc_flatness.proofs.books.Loans.{loan_is}
use Rattle.nc_flatness.proofs.plans.Rests.{lend_has_end}
use Rattle.nc_flatness.proofs.tokens.Tokens.{unlent_unsent, unended_settling}
use Rattle.nc_flatness.proofs.plans.Copies.{is_copy}
use Rattle.nc_flatness.proofs.worlds.Outcomes.{gone}
use Rattle.nc_flat_starts.proofs.opening.Bases.{IsBase, with_these, kind_is, label_one, IsMember, member_planned}
use Rattle.nc_flat_starts.proofs.opening.Befores.{driven}
use Rattle.nc_flat_starts.proofs.going.CopyBesides.{ends_beside}
use Rattle.nc_flat_starts.proofs.going.CopyPlans.{CopyGoes, copy_goes}
use Rattle.nc_flat_starts.proofs.going.CopyRanges.{AreRanged, ranged_stands}
use Rattle.nc_flat_starts.proofs.turning.Frames.{SameRest}
use Rattle.nc_flat_starts.proofs.turning.Lots.{loan_in, find_only, kept_loans}
use Rattle.nc_flat_starts.proofs.turning.OpenRows.{writing, dropping, sizes, lend_opens}
use Rattle.nc_flat_starts.proofs.opening.Opens.{opens_bytes}
use Rattle.nc_flat_starts.proofs.opening.Quiets.{quiet_bytes, none_aside, idle_copy}
use Rattle.nc_flat_starts.proofs.turning.Sides.{Others}
use Rattle.nc_flat_starts.proofs.opening.Tokens.{AreKept, WereLent, lots_stand}

-- ---- the hart with the lots that a call goes on with

pub record IsCall (sc : Scenario) (f : List ℕ) (w : WorldState) (h : HartNo) (o : Op) (lots : List Lot) : Type 0 where
  pub flat : Flatness sc f w
  pub lt : h.0 < length sc.harts
  pub slots : List (Option HartNo)
  pub each : EveryoneIn w h.0 (with_these w h.0 lots slots)
  pub mappings : All IsMapping lots
  pub loans : (k : MapId) → loan_in (driver_of w h.0).fixed lots k ≡ loan_of (driver_of w h.0) k
  pub kept : AreKept w h lots
  pub lent : WereLent w h lots
  pub still : All (IsStillOrWanted (driver_of w h.0).fixed) (driver_of w h.0).lots
  pub now : All (IsStillOrMade (driver_of w h.0).fixed (Some o)) lots
  pub hand : in_hand (driver_of w h.0) ≡ Some o
  pub lends : is_lending o ≡ true
  pub idle : (driver_of w h.0).rest ≡ []
  -- of a copy its ranges are known
  pub copy : (k : CopyOp) → o ≡ copy_op k → AreRanged w h.0 k lots

pub call_base : (sc : Scenario) (f : List ℕ) (w : WorldState) (h : HartNo) (o : Op) (lots : List Lot) (lot : Lot) → IsCall sc f w h o lots → In lot lots → lot_waits lot ≡ false → Others (IsStill (driver_of w h.0).fixed) lot.id lots → IsBase sc f w h lots lot
call_base sc f w h o lots lot c here placed_so others = record {
  flat = c.flat;
  lt = c.lt;
  slots = c.slots;
  each = c.each;
  mappings = c.mappings;
  here = here;
  placed = placed_so;
  loans = c.loans;
  kept = c.kept;
  lent = c.lent;
  others = others;
  idle = c.idle;
}

-- the lot of a label and a kind is found
pub call_named : (sc : Scenario) (f : List ℕ) (w : WorldState) (h : HartNo) (o : Op) (lots : List Lot) (lot : Lot) (label : Label) (kind : Kind) → IsCall sc f w h o lots → same_kind kinds.Copy kind ≡ false → In lot lots → is_named label kind lot ≡ true → lot_named lots label kind ≡ Some lot
call_named sc f w h o lots lot label kind c plain here named =
    find_only (is_named label kind) lots lot here named (λ other there is. label_one (length w.machine.cache.ram) (driver_of w h.0).fixed lots other lot label kind c.each.knows.lots c.each.knows.names plain there here is named)

-- ---- giving up, and searching

still_lent : (f : DriverConfig) (lot : Lot) → IsStillOrWanted f lot → not (is_wanted lot.side) ≡ true → IsStill f lot
still_lent f lot (inl still) lent = still
still_lent f lot (inr is) lent = let no : not true ≡ true = subst (λ (s : Side). not (is_wanted s) ≡ true) is lent in absurd cc

-- a driver that gives up has the lots that are lent
pub gives_bytes : (sc : Scenario) (f : List ℕ) (w : WorldState) (h : HartNo) (o : Op) (r : Refusal) → Flatness sc f w → h.0 < length sc.harts → (driver_of w h.0).rest ≡ [] → All (IsStillOrWanted (driver_of w h.0).fixed) (driver_of w h.0).lots → BytesStand sc f (gone w h w.machine (give_up (driver_of w h.0) o r))
gives_bytes sc f w h o r flat lt idle still =
    let d = driver_of w h.0 in
    let fx = d.fixed in
    let went = give_up d o r in
    quiet_bytes sc f w h went (record {
      flat = flat;
      lt = lt;
      idle = idle;
      silent = λ b. refl;
      first = refl;
      aside = λ x k there is own. none_aside w h went (owner_of w x) k idle refl;
      transfers = refl;
      fixed = refl;
      loans = λ k. ap (option_map (loan_by fx k)) (kept_loans k d.lots);
      drives = record {
        lots = left_all IsMapping (λ lot. not (is_wanted lot.side)) d.lots (flat.bytes.drives h.0 lt).lots;
        stands = all_filtered (IsStillOrWanted fx) (IsStill fx) (λ (lot : Lot). not (is_wanted lot.side)) d.lots still (still_lent fx);
        idle = refl;
      };
      tokens = λ light. left_all (TokenStands [] (queue_of w.machine h.0)) (λ lot. not (is_wanted lot.side)) d.lots (subst (λ (rest : List Step). All (TokenStands rest (queue_of w.machine h.0)) d.lots) idle (flat.bytes.tokens h.0 lt light));
      copying = idle_copy sc f w h w.machine went 0 (driven sc f w h flat lt) refl;
    })

-- it tries this slot word next
pub search_bytes : (sc : Scenario) (f : List ℕ) (w : WorldState) (h : HartNo) (o : Op) (lots : List Lot) (k : ℕ) → IsCall sc f w h o lots → BytesStand sc f (gone w h w.machine (stays (searches (with_lots (driver_of w h.0) lots) k)))
search_bytes sc f w h o lots k c =
    let d = driver_of w h.0 in
    let went = stays (searches (with_lots d lots) k) in
    quiet_bytes sc f w h went (record {
      flat = c.flat;
      lt = c.lt;
      idle = c.idle;
      silent = λ b. refl;
      first = refl;
      aside = λ x n there is own. none_aside w h went (owner_of w x) n c.idle refl;
      transfers = refl;
      fixed = refl;
      loans = c.loans;
      drives = record { lots = c.mappings; stands = subst (λ (p : Option Op). All (IsStillOrMade d.fixed p) lots) (sym c.hand) c.now; idle = refl };
      tokens = λ light. lots_stand sc f w h lots c.flat c.lt c.idle c.each.knows.names c.kept c.lent light;
      copying = ranged_stands sc f w h went o lots (driven sc f w h c.flat c.lt) c.copy c.hand refl refl refl refl (λ work. absurd cc);
    })

-- ---- an opening

-- an operation opens with this turn and goes on with this plan
pub record OpensBy (d : DriverState) (lots : List Lot) (o : Op) (turn : Turn) (plan : List Step) : Type 0 where
  pub turn_is : opening d.fixed lots o ≡ turn
  pub plan_is : plan_of d.fixed lots o ≡ plan

pub record IsOpened (d : DriverState) (lots : List Lot) (turn : Turn) (plan : List Step) (went : Went) : Type 0 where
  pub driver : went.driver ≡ went_to (with_lots d lots) (lots_after turn lots) d.saw plan
  pub transfers : went.moves.transfers ≡ transfers_of d.fixed.me lots turn

pub opened_so : (d : DriverState) (lots : List Lot) (o : Op) (turn : Turn) (plan : List Step) → OpensBy d lots o turn plan → IsOpened d lots turn plan (opened (with_lots d lots) o)
unfolding turned_by
opened_so d lots o turn plan by = record {
  driver = ap (λ (t : Turn). went_to (with_lots d lots) (lots_after t lots) d.saw (plan_of d.fixed lots o)) by.turn_is
      ∙ ap (λ (ss : List Step). went_to (with_lots d lots) (lots_after turn lots) d.saw ss) by.plan_is;
  transfers = append-nil (transfers_of d.fixed.me lots (opening d.fixed lots o)) ∙ ap (λ (t : Turn). transfers_of d.fixed.me lots t) by.turn_is;
}

-- ---- what map makes

-- it is the one lot that is not lent yet
pub record IsNew (f : DriverConfig) (o : Op) (lots : List Lot) (lot : Lot) : Type 0 where
  pub here : In lot lots
  pub wanted : lot.side ≡ sides.Wanted
  pub others : Others (IsStill f) lot.id lots

pub wanted_side : (side : Side) → is_wanted side ≡ true → side ≡ sides.Wanted
wanted_side sides.Wanted e = refl
wanted_side sides.Lending e = absurd cc
wanted_side sides.Device e = absurd cc
wanted_side sides.Returning e = absurd cc
wanted_side sides.Synced e = absurd cc
wanted_side sides.Own e = absurd cc

one_made : (new : List Lot) (id : LotId) → map (λ (l : Lot). l.id) new ≡ id ∷ [] → (x : Lot) × (new ≡ x ∷ []) × (x.id ≡ id)
one_made [] id e = absurd cc
one_made (x ∷ []) id e = (x, refl, let same : x.id ∷ [] ≡ id ∷ [] = e in cc)
one_made (x ∷ y ∷ new) id e = absurd cc

still_of : (f : DriverConfig) (o : Option Op) (lot : Lot) → IsStillOrMade f o lot → is_wanted lot.side ≡ false → IsStill f lot
still_of f o lot (inl still) lent = still
still_of f o lot (inr is) lent = absurd (both_ways (is_wanted lot.side) lent (ap is_wanted is.0))

lent_still : (f : DriverConfig) (lot : Lot) → IsStillOrWanted f lot → is_wanted lot.side ≡ false → IsStill f lot
lent_still f lot (inl still) lent = still
lent_still f lot (inr is) lent = absurd (both_ways (is_wanted lot.side) lent (ap is_wanted is))

still_unwanted : (f : DriverConfig) (lot : Lot) → IsStill f lot → is_wanted lot.side ≡ false
still_unwanted f lot (StillDevice is) = ap is_wanted is
still_unwanted f lot (StillSynced is kind) = ap is_wanted is
still_unwanted f lot (StillOwn is kind) = ap is_wanted is
still_unwanted f lot (StillSent is light) = ap is_wanted is

pub kind_of : (f : DriverConfig) (o : Op) (lot : Lot) → IsStillOrMade f (Some o) lot → is_wanted lot.side ≡ true → makes_kind o lot.kind ≡ true
kind_of f o lot (inl still) wanted = absurd (both_ways (is_wanted lot.side) (still_unwanted f lot still) wanted)
kind_of f o lot (inr is) wanted = is.1

pub made_lot : (sc : Scenario) (f : List ℕ) (w : WorldState) (h : HartNo) (o : Op) (lots : List Lot) (id : LotId) → IsCall sc f w h o lots → AreMade o lots → made_names o ≡ id ∷ [] → (lot : Lot) × IsNew (driver_of w h.0).fixed o lots lot × (lot.id ≡ id) × (makes_kind o lot.kind ≡ true)
made_lot sc f w h o lots id c made names =
    let fx = (driver_of w h.0).fixed in
    let one = one_made made.new id (made.names ∙ names) in
    let lot = one.0 in
    let here_new : In lot made.new = subst (λ (ls : List Lot). In lot ls) (sym one.1) (inl refl) in
    let here : In lot lots = subst (λ (ls : List Lot). In lot ls) (sym made.all) (in_right lot made.old made.new here_new) in
    let wanted = all_at (λ (l : Lot). is_wanted l.side ≡ true) made.new lot made.wanted here_new in (
      lot,
      record {
        here = here;
        wanted = wanted_side lot.side wanted;
        others = all_in (λ other. is_lot lot.id other ≡ false → IsStill fx other) lots
            (λ other there off. elim (of_append other made.old made.new (subst (λ (ls : List Lot). In other ls) made.all there)) [
              | inl old ↦ still_of fx (Some o) other (all_at (IsStillOrMade fx (Some o)) lots other c.now there) (all_at IsSettled made.old other made.settled old).lent
              | inr new ↦
                  let same : lot ≡ other = elim (subst (λ (ls : List Lot). In other ls) one.1 new) [ inl is ↦ is | inr none ↦ absurd none ] in
                  absurd (both_ways (is_lot lot.id other) off (its_name other lot.id (ap (λ (l : Lot). l.id) (sym same))))
            ]);
      },
      one.2,
      kind_of fx o lot (all_at (IsStillOrMade fx (Some o)) lots lot c.now here) wanted,
    )

-- the operation opens: its lot is lent
new_opens : (sc : Scenario) (f : List ℕ) (w : WorldState) (h : HartNo) (o : Op) (lots : List Lot) (lot : Lot) → IsCall sc f w h o lots → IsNew (driver_of w h.0).fixed o lots lot → is_copy o ≡ false
    → is_area lot.kind ≡ false → some_lot_waits lots ≡ false → OpensBy (driver_of w h.0) lots o (turns.Lend lot.id) (lend_steps (driver_of w h.0).fixed lot)
    → BytesStand sc f (gone w h w.machine (opened (with_lots (driver_of w h.0) lots) o))
new_opens sc f w h o lots lot c new no_copy plain none by =
    let d = driver_of w h.0 in
    let fx = d.fixed in
    let went = opened (with_lots d lots) o in
    let so = opened_so d lots o (turns.Lend lot.id) (lend_steps fx lot) by in
    let placed_so = all_at (λ (l : Lot). lot_waits l ≡ false) lots lot (none_any lot_waits lots none) new.here in
    opens_bytes sc f w h o went lots lot sides.Lending (lend_steps fx lot) (lend_opens sc f w h o went lots lot (call_base sc f w h o lots lot c new.here placed_so new.others) plain (inl new.wanted)
    (record { hand = c.hand; lends = c.lends; no_copy = no_copy; lent = refl; driver = so.driver; transfers = so.transfers }))

map_opening : (f : DriverConfig) (lots : List Lot) (label : Label) (buf off len : ℕ) (dir : Dir) (chan : ChanNo) → opening f lots (ops.Map label buf off len dir chan) ≡ turns.Lend (lot_id label 0)
unfolding opening meaning mappings.map_single
map_opening f lots label buf off len dir chan = refl

map_plan : (f : DriverConfig) (lots : List Lot) (label : Label) (buf off len : ℕ) (dir : Dir) (chan : ChanNo) → plan_of f lots (ops.Map label buf off len dir chan) ≡ with_lot [] (lend_steps f) (lot_named lots label kinds.Single)
unfolding plan_of meaning mappings.map_single
map_plan f lots label buf off len dir chan = refl

list_opening : (f : DriverConfig) (lots : List Lot) (label : Label) (es : List SgEntry) (dir : Dir) (chan : ChanNo) → opening f lots (ops.MapSg label es dir chan) ≡ turns.Lend (lot_id label 0)
unfolding opening meaning lists.map_sg
list_opening f lots label es dir chan = refl

list_plan : (f : DriverConfig) (lots : List Lot) (label : Label) (es : List SgEntry) (dir : Dir) (chan : ChanNo) → plan_of f lots (ops.MapSg label es dir chan) ≡ with_lot [] (lend_steps f) (lot_named lots label kinds.List)
unfolding plan_of meaning lists.map_sg
list_plan f lots label es dir chan = refl

new_named : (label : Label) (kind : Kind) (lot : Lot) → lot.id ≡ lot_id label 0 → same_kind kind lot.kind ≡ true → is_named label kind lot ≡ true
new_named label kind lot is same = and_from (is_labelled label lot) (same_kind kind lot.kind) (eq-eqb lot.id.label.0 label.0 (ap (λ (i : LotId). i.label.0) is)) same

single_plain : (kind : Kind) → same_kind kinds.Single kind ≡ true → is_area kind ≡ false
single_plain kinds.Single is = refl
single_plain kinds.List is = absurd cc
single_plain kinds.Area is = absurd cc
single_plain kinds.Copy is = absurd cc

list_plain : (kind : Kind) → same_kind kinds.List kind ≡ true → is_area kind ≡ false
list_plain kinds.List is = refl
list_plain kinds.Single is = absurd cc
list_plain kinds.Area is = absurd cc
list_plain kinds.Copy is = absurd cc

-- an operation that makes a lot of buffers
pub data Makes (o : Op) : Type 0 where
  OneMap : (label : Label) (buf off len : ℕ) (dir : Dir) (chan : ChanNo) → o ≡ ops.Map label buf off len dir chan → Makes o
  ListMap : (label : Label) (es : List SgEntry) (dir : Dir) (chan : ChanNo) → o ≡ ops.MapSg label es dir chan → Makes o
  TwoEnds : (k : CopyOp) → o ≡ copy_op k → Makes o

-- ---- what a copy makes

copy_opening : (f : DriverConfig) (lots : List Lot) (k : CopyOp) → opening f lots (copy_op k) ≡ turns.Stay
unfolding opening meaning copies.copy
copy_opening f lots k = refl

copy_plan : (f : DriverConfig) (lots : List Lot) (k : CopyOp) → plan_of f lots (copy_op k) ≡ copy_steps_of f k.chan k.config (find (is_lot source) lots) (find (is_lot target) lots)
unfolding plan_of meaning copies.copy
copy_plan f lots k = refl

-- the two lots that are not lent yet
record AreEnds (f : DriverConfig) (lots : List Lot) (src dst : Lot) : Type 0 where
  source_in : In src lots
  target_in : In dst lots
  source_id : src.id ≡ source
  target_id : dst.id ≡ target
  source_wanted : src.side ≡ sides.Wanted
  target_wanted : dst.side ≡ sides.Wanted
  source_kind : src.kind ≡ kinds.Copy
  target_kind : dst.kind ≡ kinds.Copy
  others : All (λ other. is_lot source other ≡ false → is_lot target other ≡ false → IsStill f other) lots

two_made : (new : List Lot) → map (λ (l : Lot). l.id) new ≡ source ∷ target ∷ [] → (s : Lot) × (t : Lot) × (new ≡ s ∷ t ∷ []) × (s.id ≡ source) × (t.id ≡ target)
two_made [] e = absurd cc
two_made (s ∷ []) e = absurd cc
two_made (s ∷ t ∷ []) e = (s, t, refl, let same : s.id ∷ t.id ∷ [] ≡ source ∷ target ∷ [] = e in cc, let same : s.id ∷ t.id ∷ [] ≡ source ∷ target ∷ [] = e in cc)
two_made (s ∷ t ∷ u ∷ new) e = absurd cc

made_ends : (sc : Scenario) (f : List ℕ) (w : WorldState) (h : HartNo) (k : CopyOp) (lots : List Lot) → IsCall sc f w h (copy_op k) lots → AreMade (copy_op k) lots → (src : Lot) × (dst : Lot) × AreEnds (driver_of w h.0).fixed lots src dst
made_ends sc f w h k lots c made =
    let fx = (driver_of w h.0).fixed in
    let o = copy_op k in
    let two = two_made made.new made.names in
    let s = two.0 in
    let t = two.1 in
    let s_new : In s made.new = subst (λ (ls : List Lot). In s ls) (sym two.2) (inl refl) in
    let t_new : In t made.new = subst (λ (ls : List Lot). In t ls) (sym two.2) (inr (inl refl)) in
    let here : (l : Lot) → In l made.new → In l lots = λ l new. subst (λ (ls : List Lot). In l ls) (sym made.all) (in_right l made.old made.new new) in
    let wanted : (l : Lot) → In l made.new → is_wanted l.side ≡ true = λ l new. all_at (λ (l : Lot). is_wanted l.side ≡ true) made.new l made.wanted new in
    let kind : (l : Lot) → In l made.new → l.kind ≡ kinds.Copy = λ l new. kind_is kinds.Copy l.kind (kind_of fx o l (all_at (IsStillOrMade fx (Some o)) lots l c.now (here l new)) (wanted l new)) in (
      s,
      t,
      record {
        source_in = here s s_new;
        target_in = here t t_new;
        source_id = two.3;
        target_id = two.4;
        source_wanted = wanted_side s.side (wanted s s_new);
        target_wanted = wanted_side t.side (wanted t t_new);
        source_kind = kind s s_new;
        target_kind = kind t t_new;
        others = all_in (λ other. is_lot source other ≡ false → is_lot target other ≡ false → IsStill fx other) lots
            (λ other there off beside. elim (of_append other made.old made.new (subst (λ (ls : List Lot). In other ls) made.all there)) [
              | inl old ↦ still_of fx (Some o) other (all_at (IsStillOrMade fx (Some o)) lots other c.now there) (all_at IsSettled made.old other made.settled old).lent
              | inr new ↦
                  elim (subst (λ (ls : List Lot). In other ls) two.2 new) [
                    | inl is ↦ absurd (both_ways (is_lot source other) off (its_name other source (ap (λ (l : Lot). l.id) (sym is) ∙ two.3)))
                    | inr more ↦ elim more [ inl is ↦ absurd (both_ways (is_lot target other) beside (its_name other target (ap (λ (l : Lot). l.id) (sym is) ∙ two.4))) | inr none ↦ absurd none ]
                  ]
            ]);
      },
    )

copy_opens : (sc : Scenario) (f : List ℕ) (w : WorldState) (h : HartNo) (k : CopyOp) (lots : List Lot) → IsCall sc f w h (copy_op k) lots → AreMade (copy_op k) lots → some_lot_waits lots ≡ false → BytesStand sc f (gone w h w.machine (opened (with_lots (driver_of w h.0) lots) (copy_op k)))
copy_opens sc f w h k lots c made none =
    let o = copy_op k in
    let m = w.machine in
    let d = driver_of w h.0 in
    let fx = d.fixed in
    let made_two = made_ends sc f w h k lots c made in
    let src = made_two.0 in
    let dst = made_two.1 in
    let e = made_two.2 in
    let r = c.copy k refl in
    let names = c.each.knows.names in
    let member : (lot : Lot) → In lot lots → IsMember sc f w h lots lot = λ lot here. record { flat = c.flat; lt = c.lt; slots = c.slots; each = c.each; here = here; placed = all_at (λ (l : Lot). lot_waits l ≡ false) lots lot (none_any lot_waits lots none) here } in
    let its_name_s = its_name src source e.source_id in
    let its_name_t = its_name dst target e.target_id in
    let ends_at : (lot : Lot) → In lot lots → (is_lot source lot ≡ true → IsOneRange lot ToDev k.chan r.from) × (is_lot target lot ≡ true → IsOneRange lot FromDev k.chan r.to) =
    λ lot here. all_at (λ (lot : Lot). (is_lot source lot ≡ true → IsOneRange lot ToDev k.chan r.from) × (is_lot target lot ≡ true → IsOneRange lot FromDev k.chan r.to)) lots lot r.ends here in
    let one_s = (ends_at src e.source_in).0 its_name_s in
    let one_t = (ends_at dst e.target_in).1 its_name_t in
    let found_s : find (is_lot source) lots ≡ Some src = find_only (is_lot source) lots src e.source_in its_name_s (λ other there is. same_named lots source other src names there e.source_in is its_name_s) in
    let found_t : find (is_lot target) lots ≡ Some dst = find_only (is_lot target) lots dst e.target_in its_name_t (λ other there is. same_named lots target other dst names there e.target_in is its_name_t) in
    let plan = copy_steps fx k.chan k.config src dst in
    let steps : plan_of fx lots o ≡ plan = copy_plan fx lots k ∙ ap (λ (q : Option Lot). copy_steps_of fx k.chan k.config q (find (is_lot target) lots)) found_s ∙ ap (copy_steps_of fx k.chan k.config (Some src)) found_t in
    let so = opened_so d lots o turns.Stay plan (record { turn_is = copy_opening fx lots k; plan_is = steps }) in
    let went = opened (with_lots d lots) o in
    let behind = stands (with_lots d lots) Work plan lots d.saw in
    let its_driver : went.driver ≡ behind = so.driver in
    let once : repeat_of k.config ≡ false = ap (λ (n : ℕ). n == 1) (in_hand_is (length m.cache.ram) (length m.harts) d o c.each.knows.fixed c.hand).fits.7 in
    let goes : CopyGoes fx lots plan =
    copy_goes fx m k.chan k.config src dst lots once (record {
      block = c.flat.world.machine.block_size;
      size = sizes sc f w h c.flat c.lt;
      writes = writing sc f w h c.flat c.lt;
      drops = dropping sc f w h c.flat c.lt;
      ends = record {
        two = record { source_is = e.source_id; target_is = e.target_id };
        source_kind = e.source_kind;
        target_kind = e.target_kind;
        source_dir = one_s.dir_is;
        target_dir = one_t.dir_is;
        source_chan = one_s.chan_is;
        target_chan = one_t.chan_is;
        source_planned = member_planned sc f w h lots src (member src e.source_in) (ap is_area e.source_kind);
        target_planned = member_planned sc f w h lots dst (member dst e.target_in) (ap is_area e.target_kind);
        entry = one_t.entry;
        only = one_t.only;
      };
      apart = names;
      source_in = e.source_in;
      target_in = e.target_in;
      source_wanted = e.source_wanted;
      target_wanted = e.target_wanted;
      others = e.others;
      beside = ends_beside sc f w h lots src dst (member src e.source_in) (member dst e.target_in) (ap is_area e.source_kind) (ap is_area e.target_kind) e.source_id e.target_id;
    }) in
    let end_wanted : (lot : Lot) → In lot lots → IsEndName lot.id → lot.side ≡ sides.Wanted =
    λ lot here is. elim is [
      | inl of_source ↦ ap (λ (l : Lot). l.side) (same_named lots source lot src names here e.source_in (its_name lot source of_source) its_name_s) ∙ e.source_wanted
      | inr of_target ↦ ap (λ (l : Lot). l.side) (same_named lots target lot dst names here e.target_in (its_name lot target of_target) its_name_t) ∙ e.target_wanted
    ] in
    let apart : (lot : Lot) → In lot d.lots → is_wanted lot.side ≡ false → list_any (ends lot.id) plan ≡ false =
    λ lot here lent. false_from_ne_true (list_any (ends lot.id) plan) (λ ended. both_ways (is_wanted lot.side) lent (ap is_wanted (end_wanted lot (c.kept lot here lent) (goes.ends lot.id ended)))) in
    let same_sent : (lot : Lot) → In lot lots → is_sent plan lot ≡ is_sent [] lot =
    λ lot here. elim (cases_Bool (list_any (ends_lending lot.id) plan)) [
      | inl lends ↦ let wanted : is_lending_side lot.side ≡ false = ap is_lending_side (end_wanted lot here (goes.ends lot.id (lend_has_end lot.id plan lends))) in unlent_unsent plan lot wanted ∙ sym (unlent_unsent [] lot wanted)
      | inr off ↦ ap (λ (t : Bool). is_lending_side lot.side && not t) off
    ] in
    let rest : went.driver.rest ≡ plan = ap (λ (j : DriverState). j.rest) its_driver in
    quiet_bytes sc f w h went (record {
      flat = c.flat;
      lt = c.lt;
      idle = c.idle;
      silent = λ b. ap (list_any (posts b)) rest ∙ goes.silent b;
      first = ap rest_last rest;
      aside = λ x n there is own. inr (λ l known.
          let q = loan_is sc f w n l c.flat (ap (λ (g : ℕ). loan_of (driver_of w g) n) own ∙ known) in
          let here : In q.lot d.lots = subst (λ (g : ℕ). In q.lot (driver_of w g).lots) own q.here.lot_in in
          let unended = apart q.lot here q.lent in
          subst (λ (id : LotId). SameRest n id d.rest went.driver.rest) (sym q.lot_is)
          (record { comes = ap (coming n q.lot.id) rest ∙ steps_ahead.none n q.lot.id plan unended ∙ sym (ap (coming n q.lot.id) c.idle); settles = ap (settling q.lot.id) rest ∙ unended_settling q.lot.id plan unended ∙ sym (ap (settling q.lot.id) c.idle) }));
      transfers = so.transfers;
      fixed = ap (λ (j : DriverState). j.fixed) its_driver;
      loans = λ n. ap (λ (j : DriverState). loan_of j n) its_driver ∙ c.loans n;
      drives = subst (λ (j : DriverState). Drives j) (sym its_driver) (record {
        lots = c.mappings;
        stands = subst (λ (q : Option Op). PlanOf behind q) (sym c.hand) (record { goes = goes.goes; one = λ light a b ended too. inr (goes.ends a ended, goes.ends b too) });
        idle = tt;
      });
      tokens = subst (λ (j : DriverState). j.fixed.light ≡ true → All (TokenStands j.rest (queue_of m h.0)) j.lots) (sym its_driver)
          (λ light.
          let stood = lots_stand sc f w h lots c.flat c.lt c.idle names c.kept c.lent light in
          all_in (TokenStands plan (queue_of m h.0)) lots (λ lot here. all_at (TokenStands [] (queue_of m h.0)) lots lot stood here ∙ ap (λ (t : Bool). if t then lot_token lot ∷ [] else []) (sym (same_sent lot here))));
      copying = ranged_stands sc f w h went o lots (driven sc f w h c.flat c.lt) c.copy (ap in_hand its_driver ∙ c.hand) (ap (λ (j : DriverState). j.fixed) its_driver) (ap (λ (j : DriverState). j.lots) its_driver) so.transfers (ap transfers rest ∙ goes.unclaimed)
          (λ work. ap polls rest ∙ goes.polled);
    })

pub placed_bytes : (sc : Scenario) (f : List ℕ) (w : WorldState) (h : HartNo) (o : Op) (lots : List Lot) → Makes o → IsCall sc f w h o lots → AreMade o lots → BytesStand sc f (gone w h w.machine (placed (with_lots (driver_of w h.0) lots) o))
placed_bytes sc f w h o lots makes c made = by_waits (some_lot_waits lots) refl
  where
    new_goes : Makes o → some_lot_waits lots ≡ false → BytesStand sc f (gone w h w.machine (opened (with_lots (driver_of w h.0) lots) o))
    new_goes (OneMap label buf off len dir chan is) none =
        let r = made_lot sc f w h o lots (lot_id label 0) c made (ap made_names is) in
        let kind : same_kind kinds.Single r.0.kind ≡ true = subst (λ (p : Op). makes_kind p r.0.kind ≡ true) is r.3 in
        let named = new_named label kinds.Single r.0 r.2 kind in
        new_opens sc f w h o lots r.0 c r.1 (ap is_copy is) (single_plain r.0.kind kind) none (record {
          turn_is = ap (opening (driver_of w h.0).fixed lots) is ∙ map_opening (driver_of w h.0).fixed lots label buf off len dir chan ∙ ap turns.Lend (sym r.2);
          plan_is = ap (plan_of (driver_of w h.0).fixed lots) is ∙ map_plan (driver_of w h.0).fixed lots label buf off len dir chan
              ∙ ap (with_lot [] (lend_steps (driver_of w h.0).fixed)) (call_named sc f w h o lots r.0 label kinds.Single c refl r.1.here named);
        })
    new_goes (ListMap label es dir chan is) none =
        let r = made_lot sc f w h o lots (lot_id label 0) c made (ap made_names is) in
        let kind : same_kind kinds.List r.0.kind ≡ true = subst (λ (p : Op). makes_kind p r.0.kind ≡ true) is r.3 in
        let named = new_named label kinds.List r.0 r.2 kind in
        new_opens sc f w h o lots r.0 c r.1 (ap is_copy is) (list_plain r.0.kind kind) none (record {
          turn_is = ap (opening (driver_of w h.0).fixed lots) is ∙ list_opening (driver_of w h.0).fixed lots label es dir chan ∙ ap turns.Lend (sym r.2);
          plan_is = ap (plan_of (driver_of w h.0).fixed lots) is ∙ list_plan (driver_of w h.0).fixed lots label es dir chan
              ∙ ap (with_lot [] (lend_steps (driver_of w h.0).fixed)) (call_named sc f w h o lots r.0 label kinds.List c refl r.1.here named);
        })
    new_goes (TwoEnds k is) none =
        subst (λ (p : Op). BytesStand sc f (gone w h w.machine (opened (with_lots (driver_of w h.0) lots) p))) (sym is)
        (copy_opens sc f w h k lots (subst (λ (p : Op). IsCall sc f w h p lots) is c) (subst (λ (p : Op). AreMade p lots) is made) none)

    by_waits : (t : Bool) → some_lot_waits lots ≡ t → BytesStand sc f (gone w h w.machine (if t then stays (searches (with_lots (driver_of w h.0) lots) 0) else opened (with_lots (driver_of w h.0) lots) o))
    by_waits true waits = search_bytes sc f w h o lots 0 c
    by_waits false none = new_goes makes none
