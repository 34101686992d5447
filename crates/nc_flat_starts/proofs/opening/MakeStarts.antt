-- The starts of operations that make a mapping, a scatter list or the ends of a copy.
use Rattle.std.specs.Prelude.{Some, All, Result, Ok, Err, true, option_map, flat_map}
use Rattle.std.proofs.Common.{◌≡◌, ℕ, List, [], ◌∷◌, ◌++◌, length, refl, sym, ap, ◌∙◌, inl, inr, subst}
use Rattle.std.proofs.lemmas.Bool.{both_ways}
use Rattle.std.proofs.lemmas.List.Elements.{All-nil, All-cons, All-append}
use Rattle.nc_num.specs.declared.names.ChanNo.{ChanNo}
use Rattle.nc_num.specs.declared.names.Dir.{Dir}
use Rattle.nc_num.specs.declared.names.Dir.TheVariants.{ToDev, FromDev}
use Rattle.nc_num.specs.declared.names.HartNo.{HartNo}
use Rattle.nc_num.specs.declared.names.Label.{Label}
use Rattle.nc_queue.specs.Rules.{lends}
use Rattle.nc_plan.proofs.PlanLaws.{in_left}
use Rattle.nc_model.specs.declared.owners.Owner.{Owner}
use Rattle.nc_coherent.specs.Pages.{PageMap}
use Rattle.nc_ops.specs.declared.ops.Op.{Op}
use Rattle.nc_ops.specs.declared.ops.Op.TheVariants as ops
use Rattle.nc_ops.specs.declared.ops.SgEntry.{SgEntry}
use Rattle.nc_scen.specs.declared.scenario.Scenario.{Scenario}
use Rattle.nc_rules.specs.declared.answers.Refusal.{Refusal}
use Rattle.nc_rules.specs.declared.lots.Kind.{Kind}
use Rattle.nc_rules.specs.declared.lots.Kind.TheVariants as kinds
use Rattle.nc_rules.specs.declared.lots.Lot.{Lot}
use Rattle.nc_rules.specs.Lots.{DriverConfig, lot_id, is_wanted, slots_held, ranges_lot}
use Rattle.nc_rules.specs.Refusals.{◌>>=◌, all_some, ranges_of, unused, owned_from, lendable, placeable}
use Rattle.nc_rules.specs.Copies.{source, target}
use Rattle.nc_rules.specs.Mappings as mappings
use Rattle.nc_rules.specs.ScatterLists as lists
use Rattle.nc_rules.specs.ScatterLists.{some_entries}
use Rattle.nc_rules.specs.Operations.{meaning, begin}
use Rattle.nc_rules.specs.Driver.{begun}
use Rattle.nc_rules.specs.World.{WorldState, driver_of}
use Rattle.nc_scripts.specs.Drivers.{AreMade}
use Rattle.nc_scripts.proofs.DriverSteps.{passed}
use Rattle.nc_scripts.proofs.EveryDriver.{in_hand_is}
use Rattle.nc_scripts.proofs.Lists.{all_in, all_to}
use Rattle.nc_scripts.proofs.NewLots.{ranges_begin, behind_ranges, placeable_is, new_is}
use Rattle.nc_holds.specs.Changes.{Made, MayMake}
use Rattle.nc_holds.specs.Holds.{held_of}
use Rattle.nc_holds.proofs.calls.New.{NewIs, Plain, OneArea, new_lots}
use Rattle.nc_holds.proofs.events.From.{everyone_from}
use Rattle.nc_holds.proofs.events.Hart.{change_stays}
use Rattle.nc_holds.proofs.lists.Members.{all_at, of_append}
use Rattle.nc_holds.proofs.owners.Facts.{NoAreas}
use Rattle.nc_holds.proofs.owners.Given.{owner_laws}
use Rattle.nc_flatness.specs.Books.{loan_by}
use Rattle.nc_flatness.specs.Copying.{CopyOp, copy_op}
use Rattle.nc_flatness.specs.Flatness.{is_mapping, IsMapping, makes_kind, IsStillOrMade, BytesStand}
use Rattle.nc_flatness.specs.Plans.{IsStill}
use Rattle.nc_flatness.specs.Tokens.{is_lending_side}
use Rattle.nc_flatness.proofs.worlds.Outcomes.{gone}
use Rattle.nc_flat_starts.proofs.opening.Calls.{wanted_side, IsCall, Makes, OneMap, ListMap, TwoEnds, placed_bytes}
use Rattle.nc_flat_starts.proofs.going.CopyRanges.{copy_begun, ranged_begun}
use Rattle.nc_flat_starts.proofs.turning.Lots.{more_wanted}
use Rattle.nc_flat_starts.proofs.opening.Tokens.{WereLent}
use Rattle.nc_flat_starts.proofs.opening.Starts.{IsStart, short, holds_here, as_wanted, refused_bytes}

-- ---- the lots that it makes

ranges_kind : (f : DriverConfig) (lots : List Lot) (label : Label) (kind : Kind) (dir : Dir) (chan : ChanNo) (os : List Owner) (es : List SgEntry) (new : List Lot) → ranges_begin f lots label kind dir chan os es ≡ Ok new → All (λ lot. lot.kind ≡ kind) new
ranges_kind f lots label kind dir chan os es new e =
    let p1 = passed (all_some es) (λ _. ranges_of f es >>= λ ranges. behind_ranges f lots label kind dir chan os ranges) new e in
    let p2 = passed (ranges_of f es) (λ ranges. behind_ranges f lots label kind dir chan os ranges) new p1.rest in
    let lot = ranges_lot f (lot_id label 0) kind dir chan p2.value in
    let p3 = passed (unused lots label) (λ _. owned_from f.me (lot_id label 0) 0 os p2.value >>= λ _. lendable f.effects dir >>= λ _. placeable f (lot ∷ [])) new p2.rest in
    let p4 = passed (owned_from f.me (lot_id label 0) 0 os p2.value) (λ _. lendable f.effects dir >>= λ _. placeable f (lot ∷ [])) new p3.rest in
    let p5 = passed (lendable f.effects dir) (λ _. placeable f (lot ∷ [])) new p4.rest in
    let there = placeable_is f (lot ∷ []) new p5.rest in
    subst (λ (ls : List Lot). All (λ lot. lot.kind ≡ kind) ls) there.same (All-cons (λ (l : Lot). l.kind ≡ kind) lot [] refl (All-nil (λ (l : Lot). l.kind ≡ kind)))

map_kinds : (f : DriverConfig) (lots new : List Lot) (os : List Owner) (pages : PageMap) (label : Label) (buf off len : ℕ) (dir : Dir) (chan : ChanNo) → begin f lots os pages (ops.Map label buf off len dir chan) ≡ Ok new → All (λ lot. lot.kind ≡ kinds.Single) new
unfolding begin meaning mappings.map_single
map_kinds f lots new os pages label buf off len dir chan e = ranges_kind f lots label kinds.Single dir chan os (record { buf = buf; off = off; len = len } ∷ []) new e

list_kinds : (f : DriverConfig) (lots new : List Lot) (os : List Owner) (pages : PageMap) (label : Label) (es : List SgEntry) (dir : Dir) (chan : ChanNo) → begin f lots os pages (ops.MapSg label es dir chan) ≡ Ok new → All (λ lot. lot.kind ≡ kinds.List) new
unfolding begin meaning lists.map_sg
list_kinds f lots new os pages label es dir chan e =
    let p = passed (some_entries es) (λ _. ranges_begin f lots label kinds.List dir chan os es) new e in
    ranges_kind f lots label kinds.List dir chan os es new p.rest

copy_kinds : (f : DriverConfig) (lots new : List Lot) (os : List Owner) (pages : PageMap) (k : CopyOp) → begin f lots os pages (copy_op k) ≡ Ok new → All (λ lot. lot.kind ≡ kinds.Copy) new
copy_kinds f lots new os pages k e =
    let b = copy_begun f lots new os pages k e in
    let s = ranges_lot f source kinds.Copy ToDev k.chan (b.from ∷ []) in
    let t = ranges_lot f target kinds.Copy FromDev k.chan (b.to ∷ []) in
    subst (λ (ls : List Lot). All (λ lot. lot.kind ≡ kinds.Copy) ls) b.new_is (All-cons (λ (l : Lot). l.kind ≡ kinds.Copy) s (t ∷ []) refl (All-cons (λ (l : Lot). l.kind ≡ kinds.Copy) t [] refl (All-nil (λ (l : Lot). l.kind ≡ kinds.Copy))))

-- of which kind they are
pub record NewKinds (o : Op) (new : List Lot) : Type 0 where
  pub made : All (λ lot. makes_kind o lot.kind ≡ true) new
  pub mapping : (f : DriverConfig) → All IsMapping new

every_mapping : (kind : Kind) → is_mapping kind ≡ true
every_mapping kinds.Single = refl
every_mapping kinds.List = refl
every_mapping kinds.Area = refl
every_mapping kinds.Copy = refl

kinds_so : (o : Op) (new : List Lot) (kind : Kind) → All (λ lot. lot.kind ≡ kind) new → makes_kind o kind ≡ true → NewKinds o new
kinds_so o new kind all makes = record {
  made = all_to (λ (lot : Lot). lot.kind ≡ kind) (λ (lot : Lot). makes_kind o lot.kind ≡ true) new all (λ lot is. ap (makes_kind o) is ∙ makes);
  mapping = λ f. all_to (λ (lot : Lot). lot.kind ≡ kind) IsMapping new all (λ lot is. record { kind = every_mapping lot.kind });
}

new_kinds : (o : Op) (f : DriverConfig) (lots new : List Lot) (os : List Owner) (pages : PageMap) → Makes o → begin f lots os pages o ≡ Ok new → NewKinds o new
new_kinds o f lots new os pages (OneMap label buf off len dir chan is) e =
    kinds_so o new kinds.Single (map_kinds f lots new os pages label buf off len dir chan (subst (λ (p : Op). begin f lots os pages p ≡ Ok new) is e)) (ap (λ (p : Op). makes_kind p kinds.Single) is)
new_kinds o f lots new os pages (ListMap label es dir chan is) e =
    kinds_so o new kinds.List (list_kinds f lots new os pages label es dir chan (subst (λ (p : Op). begin f lots os pages p ≡ Ok new) is e)) (ap (λ (p : Op). makes_kind p kinds.List) is)
new_kinds o f lots new os pages (TwoEnds k is) e =
    kinds_so o new kinds.Copy (copy_kinds f lots new os pages k (subst (λ (p : Op). begin f lots os pages p ≡ Ok new) is e)) (ap (λ (p : Op). makes_kind p kinds.Copy) is)

no_area_op : (o : Op) (label : Label) (count : ℕ) (chan : ChanNo) → Makes o → o ≡ ops.Calloc label count chan → ⊥
no_area_op o label count chan (OneMap l buf off len dir c is) e = let no : ops.Map l buf off len dir c ≡ ops.Calloc label count chan = sym is ∙ e in absurd cc
no_area_op o label count chan (TwoEnds k is) e = let no : copy_op k ≡ ops.Calloc label count chan = sym is ∙ e in absurd cc
no_area_op o label count chan (ListMap l es dir c is) e = let no : ops.MapSg l es dir c ≡ ops.Calloc label count chan = sym is ∙ e in absurd cc

plain_new : (o : Op) (new : List Lot) → Makes o → NewIs o new → (flat_map slots_held new ≡ []) × NoAreas new
plain_new o new makes (Plain unplaced areas) = (unplaced, areas)
plain_new o new makes (OneArea label count chan span is same) = absurd (no_area_op o label count chan makes is)

-- of its lots with new ones it had those that are being lent
pub new_lent : (w : WorldState) (h : HartNo) (new : List Lot) → All (λ lot. is_wanted lot.side ≡ true) new → WereLent w h ((driver_of w h.0).lots ++ new)
new_lent w h new wanted other there lends = elim (of_append other (driver_of w h.0).lots new there) [
  | inl here ↦ here
  | inr made ↦ absurd (both_ways (is_lending_side other.side) (ap is_lending_side (wanted_side other.side (all_at (λ (l : Lot). is_wanted l.side ≡ true) new other wanted made))) lends)
]

made_call : (sc : Scenario) (f : List ℕ) (w : WorldState) (h : HartNo) (o : Op) (new : List Lot) → IsStart sc f w h o → Makes o → begin (driver_of w h.0).fixed (driver_of w h.0).lots w.owners w.pages o ≡ Ok new
    → IsCall sc f w h o ((driver_of w h.0).lots ++ new) × AreMade o ((driver_of w h.0).lots ++ new)
made_call sc f w h o new s makes e =
    let d = driver_of w h.0 in
    let fx = d.fixed in
    let ram = length w.machine.cache.ram in
    let harts = length w.machine.harts in
    let k = holds_here sc f w h s.flat s.lt in
    let n = new_is ram harts fx d.lots new w.owners w.pages o k.driver.fixed s.settled k.driver.apart k.setting.pages (in_hand_is ram harts d o k.driver.fixed s.hand).fits e in
    let plain = plain_new o new makes (new_lots fx d.lots new w.owners w.pages o e) in
    let may : MayMake fx (held_of w h.0) new = record { op = o; begins = e; settled = s.settled } in
    let its = new_kinds o fx d.lots new w.owners w.pages makes e in (
      record {
        flat = s.flat;
        lt = s.lt;
        slots = w.slots;
        each = change_stays owner_laws ram harts h.0 fx _ _ (held_of w h.0) (Made new) (everyone_from w h.0 s.flat.world.holds (short sc f w h s.flat s.lt)) ((record { may = may; op = o; each = n }, plain.1), may, plain.0);
        mappings = All-append IsMapping d.lots new (s.flat.bytes.drives h.0 s.lt).lots (its.mapping fx);
        loans = λ k. ap (option_map (loan_by fx k)) (more_wanted k d.lots new n.wanted);
        kept = λ other there lent. in_left other d.lots new there;
        lent = new_lent w h new n.wanted;
        still = as_wanted fx d.lots s.still;
        now = All-append (IsStillOrMade fx (Some o)) d.lots new (all_to (IsStill fx) (IsStillOrMade fx (Some o)) d.lots s.still (λ lot is. inl is))
            (all_in (IsStillOrMade fx (Some o)) new (λ lot there. inr (wanted_side lot.side (all_at (λ (l : Lot). is_wanted l.side ≡ true) new lot n.wanted there), all_at (λ (l : Lot). makes_kind o l.kind ≡ true) new lot its.made there)));
        hand = s.hand;
        lends = s.lends;
        idle = s.idle;
        copy = λ c is. ranged_begun w h.0 d.lots new c k.me s.settled (subst (λ (p : Op). begin fx d.lots w.owners w.pages p ≡ Ok new) is e);
      },
      record { old = d.lots; new = new; all = refl; settled = s.settled; names = n.names; wanted = n.wanted },
    )

pub map_bytes : (sc : Scenario) (f : List ℕ) (w : WorldState) (h : HartNo) (o : Op) (r : Result (List Lot) Refusal) → IsStart sc f w h o → Makes o → begin (driver_of w h.0).fixed (driver_of w h.0).lots w.owners w.pages o ≡ r → BytesStand sc f (gone w h w.machine (begun (driver_of w h.0) o r))
map_bytes sc f w h o (Err r) s makes e = refused_bytes sc f w h o r s
map_bytes sc f w h o (Ok new) s makes e = let c = made_call sc f w h o new s makes e in placed_bytes sc f w h o ((driver_of w h.0).lots ++ new) makes c.0 c.1
