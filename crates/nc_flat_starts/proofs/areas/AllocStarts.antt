-- The start of an allocation: a new area is lent with its plan in hand, over free pages.
use Rattle.std.specs.Prelude.{Option, Some, Result, Ok, Err, ◌==◌, not, true, false, option_map}
use Rattle.std.proofs.Common.{◌≡◌, ℕ, List, [], ◌∷◌, ◌++◌, length, refl, sym, ap, ◌∙◌, inl, inr, subst}
use Rattle.std.proofs.lemmas.Bool.{cases_Bool, both_ways, and_from, eq-eqb, cond-true, cond-false}
use Rattle.std.proofs.lemmas.List.Folds.{list_any_none}
use Rattle.std.proofs.lemmas.List.Elements.{All-nil, All-cons, All-append, All-head}
use Rattle.nc_num.specs.Places.{covers}
use Rattle.nc_num.specs.declared.names.ChanNo.{ChanNo}
use Rattle.nc_num.specs.declared.names.HartNo.{HartNo}
use Rattle.nc_num.specs.declared.names.Label.{Label}
use Rattle.nc_num.specs.declared.places.Span.{Span}
use Rattle.nc_queue.specs.declared.entry.Entry.{Entry as QueueEntry}
use Rattle.nc_model.specs.declared.owners.Owner.TheVariants.{Pool}
use Rattle.nc_plan.specs.Effects.{both}
use Rattle.nc_plan.specs.Effects as effects
use Rattle.nc_plan.specs.Plans.{In}
use Rattle.nc_plan.proofs.PlanLaws.{in_left, in_right, in_map}
use Rattle.nc_coherent.specs.Pages.{PageMap, lowest_span}
use Rattle.nc_sg.specs.declared.list.Entry.{Entry}
use Rattle.nc_ops.specs.declared.ops.Op.{Op}
use Rattle.nc_ops.specs.declared.ops.Op.TheVariants as ops
use Rattle.nc_model.specs.declared.owners.Owner.{Owner}
use Rattle.nc_scen.specs.declared.scenario.Scenario.{Scenario}
use Rattle.nc_rules.specs.declared.answers.Refusal.{Refusal}
use Rattle.nc_rules.specs.declared.answers.Refusal.TheVariants as refusals
use Rattle.nc_rules.specs.declared.lots.Kind.TheVariants as kinds
use Rattle.nc_rules.specs.declared.lots.Lot.{Lot}
use Rattle.nc_rules.specs.declared.lots.LotId.{LotId}
use Rattle.nc_rules.specs.declared.lots.Side.{Side}
use Rattle.nc_rules.specs.declared.lots.Side.TheVariants as sides
use Rattle.nc_rules.specs.declared.steps.Step.{Step}
use Rattle.nc_rules.specs.declared.steps.Turn.TheVariants as turns
use Rattle.nc_rules.specs.Areas as areas
use Rattle.nc_rules.specs.Areas.{calloc_steps}
use Rattle.nc_rules.specs.Lots.{DriverConfig, lot_id, lot_named, area_lot, only_entry, is_lot, is_named, is_labelled, is_wanted, same_kind, map_id, lot_waits, some_lot_waits}
use Rattle.nc_rules.specs.Mappings.{with_lot}
use Rattle.nc_rules.specs.Operations.{meaning, begin, opening, plan_of}
use Rattle.nc_rules.specs.Refusals.{◌>>=◌, wanted, some_or, unused, planned}
use Rattle.nc_rules.specs.Start.{hart_spec}
use Rattle.nc_rules.specs.Turns.{is_area, with_side, set_side}
use Rattle.nc_rules.specs.Driver.{Went, stays, searches, with_lots, opened, placed, begun}
use Rattle.nc_rules.specs.World.{WorldState, driver_of}
use Rattle.nc_scripts.specs.Drivers.{IsSettled}
use Rattle.nc_scripts.proofs.DriverSteps.{passed}
use Rattle.nc_scripts.proofs.EveryDriver.{in_hand_is}
use Rattle.nc_scripts.proofs.Lists.{all_in, all_to}
use Rattle.nc_scripts.proofs.LotLaws.{its_name}
use Rattle.nc_scripts.proofs.NewLots.{area_is, AreNew, new_is}
use Rattle.nc_holds.specs.Held.{EntriesAreApart}
use Rattle.nc_holds.specs.Holds.{held_of}
use Rattle.nc_holds.proofs.events.From.{everyone_from}
use Rattle.nc_holds.proofs.lists.Members.{of_append, all_at}
use Rattle.nc_holds.proofs.owners.Areas.{new_area, area_mine}
use Rattle.nc_holds.proofs.owners.Facts.{IsMaking}
use Rattle.nc_holds.proofs.owners.Lots.{area_only, SameSpans, apart_from, same_spans}
use Rattle.nc_holds.proofs.owners.Pages.{area_entry}
use Rattle.nc_rows.specs.Ahead.{settling, coming}
use Rattle.nc_rows.specs.Rows.{Loan, ahead_of, AllocatingRow, GivingRow, LentRow}
use Rattle.nc_row_plans.proofs.PlanBegins.{rows_begin}
use Rattle.nc_flatness.specs.Books.{loan_by}
use Rattle.nc_flatness.specs.Flatness.{is_mapping, IsMapping, BytesStand}
use Rattle.nc_flatness.specs.Plans.{IsStill}
use Rattle.nc_flatness.proofs.plans.Rests.{settling_lends}
use Rattle.nc_flatness.specs.Tokens.{is_lending_side}
use Rattle.nc_flatness.proofs.plans.Copies.{is_copy}
use Rattle.nc_flatness.proofs.worlds.Outcomes.{gone}
use Rattle.nc_flat_starts.proofs.areas.AreaPlans.{IsZeroing, Allocates, allocate_so}
use Rattle.nc_flat_starts.proofs.opening.Bases.{label_one, me_of, fixed_is}
use Rattle.nc_flat_starts.proofs.opening.Befores.{IsBefore, its_entry}
use Rattle.nc_flat_starts.proofs.opening.Calls.{wanted_side, opened_so}
use Rattle.nc_flat_starts.proofs.going.Effects.{zeroing}
use Rattle.nc_flat_starts.proofs.turning.Frames.{IsPlace}
use Rattle.nc_flat_starts.proofs.areas.FreshAreas.{IsFresh, area_block, fresh_pool, fresh_free, fresh_block, fresh_parts}
use Rattle.nc_flat_starts.proofs.turning.Lots.{find_only, own_entry, loan_for, more_wanted}
use Rattle.nc_flat_starts.proofs.turning.OpenRows.{sizes}
use Rattle.nc_flat_starts.proofs.turning.BackRows.{either_true}
use Rattle.nc_flat_starts.proofs.opening.Opens.{IsTurn, Opens, opens_bytes, area_unslotted}
use Rattle.nc_flat_starts.proofs.turning.Sides.{NamesArea, turned_lot, hand_set, set_others, set_its}
use Rattle.nc_flat_starts.proofs.opening.Starts.{IsStart, short, holds_here, refused_bytes}
use Rattle.nc_flat_starts.proofs.opening.MakeStarts.{new_lent}
use Rattle.nc_flat_starts.proofs.opening.Tokens.{none_named, lots_stand}

-- ---- the lot that is made

calloc_made : (f : DriverConfig) (lots new : List Lot) (os : List Owner) (pages : PageMap) (label : Label) (count : ℕ) (chan : ChanNo) → begin f lots os pages (ops.Calloc label count chan) ≡ Ok new → (span : Span) × (area_lot (lot_id label 0) chan span ∷ [] ≡ new)
unfolding begin meaning areas.calloc
calloc_made f lots new os pages label count chan e =
    let last = area_is f label chan (lowest_span pages count) in
    let legal = planned (both (effects.legal f.effects.zero) (effects.legal f.effects.flush)) in
    let p1 = passed (wanted refusals.Empty (not (count == 0))) (λ _. unused lots label >>= λ _. wanted refusals.NoPbmt f.pbmte >>= λ _. legal >>= λ _. last) new e in
    let p2 = passed (unused lots label) (λ _. wanted refusals.NoPbmt f.pbmte >>= λ _. legal >>= λ _. last) new p1.rest in
    let p3 = passed (wanted refusals.NoPbmt f.pbmte) (λ _. legal >>= λ _. last) new p2.rest in
    let p4 = passed legal (λ _. last) new p3.rest in
    let p5 = passed (some_or refusals.NoPage (lowest_span pages count)) (λ span. Ok (area_lot (lot_id label 0) chan span ∷ [])) new p4.rest in
    (p5.value, cc (p5.rest))

-- a hart's plans zero and flush by their own operations
zeroing_here : (sc : Scenario) (f : List ℕ) (w : WorldState) (h : HartNo) (o : Op) → IsStart sc f w h o → IsZeroing (driver_of w h.0).fixed.effects
zeroing_here sc f w h o s =
    let k = hart_spec sc h.0 in
    subst (λ (j : DriverConfig). IsZeroing j.effects) (sym (fixed_is sc f w h s.flat s.lt)) (zeroing k.mode k.menvcfg k.senvcfg)

-- ---- the hart's lots with it

pub record IsAdded (sc : Scenario) (f : List ℕ) (w : WorldState) (h : HartNo) (o : Op) (lot : Lot) : Type 0 where
  pub start : IsStart sc f w h o
  pub begins : begin (driver_of w h.0).fixed (driver_of w h.0).lots w.owners w.pages o ≡ Ok (lot ∷ [])
  pub kind : lot.kind ≡ kinds.Area
  pub no_copy : is_copy o ≡ false

added_new : (sc : Scenario) (f : List ℕ) (w : WorldState) (h : HartNo) (o : Op) (lot : Lot) → IsAdded sc f w h o lot → AreNew (length w.machine.cache.ram) (driver_of w h.0).fixed o (driver_of w h.0).lots (lot ∷ [])
added_new sc f w h o lot a =
    let d = driver_of w h.0 in
    let s = a.start in
    let ram = length w.machine.cache.ram in
    let harts = length w.machine.harts in
    let k = holds_here sc f w h s.flat s.lt in
    new_is ram harts d.fixed d.lots (lot ∷ []) w.owners w.pages o k.driver.fixed s.settled k.driver.apart k.setting.pages (in_hand_is ram harts d o k.driver.fixed s.hand).fits a.begins

added_making : (sc : Scenario) (f : List ℕ) (w : WorldState) (h : HartNo) (o : Op) (lot : Lot) → IsAdded sc f w h o lot → IsMaking (length w.machine.cache.ram) (driver_of w h.0).fixed (held_of w h.0) (lot ∷ [])
added_making sc f w h o lot a = record { may = record { op = o; begins = a.begins; settled = a.start.settled }; op = o; each = added_new sc f w h o lot a }

added_fresh : (sc : Scenario) (f : List ℕ) (w : WorldState) (h : HartNo) (o : Op) (lot : Lot) → IsAdded sc f w h o lot → IsFresh sc f w h lot
added_fresh sc f w h o lot a =
    let s = a.start in
    let every = everyone_from w h.0 s.flat.world.holds (short sc f w h s.flat s.lt) in
    record {
      flat = s.flat;
      lt = s.lt;
      new = new_area (length w.machine.cache.ram) (length w.machine.harts) (driver_of w h.0).fixed (held_of w h.0) lot every.knows (added_making sc f w h o lot a) (ap is_area a.kind);
    }

-- a side changes no range of a lot
side_spans : (side : Side) (id : LotId) (lot : Lot) → SameSpans (with_side side id lot) lot
side_spans side id lot = elim (cases_Bool (is_lot id lot)) [
  | inl is ↦ subst (λ (l : Lot). SameSpans l lot) (sym (cond-true (is_lot id lot) (turned_lot side lot) lot is)) (same_spans (turned_lot side lot) lot refl refl refl)
  | inr off ↦ subst (λ (l : Lot). SameSpans l lot) (sym (cond-false (is_lot id lot) (turned_lot side lot) lot off)) (same_spans lot lot refl refl refl)
]

-- so its entries are apart from the others before it is lent, as they are then
added_apart : (sc : Scenario) (f : List ℕ) (w : WorldState) (h : HartNo) (o : Op) (lot : Lot) → IsAdded sc f w h o lot → EntriesAreApart ((driver_of w h.0).lots ++ lot ∷ [])
added_apart sc f w h o lot a =
    let d = driver_of w h.0 in
    let s = a.start in
    let lots = d.lots ++ lot ∷ [] in
    let every = everyone_from w h.0 s.flat.world.holds (short sc f w h s.flat s.lt) in
    let lent = area_mine (length w.machine.cache.ram) (length w.machine.harts) d.fixed (held_of w h.0) lot every.knows every.mine (added_making sc f w h o lot a) (ap is_area a.kind) in
    apart_from (set_side sides.Lending lot.id lots) lots
    (λ now there. record { lot = with_side sides.Lending lot.id now; here = in_map (with_side sides.Lending lot.id) now lots there; same = side_spans sides.Lending lot.id now }) lent.apart

added_before : (sc : Scenario) (f : List ℕ) (w : WorldState) (h : HartNo) (o : Op) (lot : Lot) → IsAdded sc f w h o lot → IsBefore sc f w h ((driver_of w h.0).lots ++ lot ∷ []) lot
added_before sc f w h o lot a =
    let d = driver_of w h.0 in
    let fx = d.fixed in
    let s = a.start in
    let every = everyone_from w h.0 s.flat.world.holds (short sc f w h s.flat s.lt) in
    let new = (added_fresh sc f w h o lot a).new in
    let lots = d.lots ++ lot ∷ [] in
    let old : (other : Lot) → In other lots → is_lot lot.id other ≡ false → In other d.lots =
    λ other there off. elim (of_append other d.lots (lot ∷ []) there) [
      | inl here ↦ here
      | inr last ↦ elim last [ inl same ↦ absurd (both_ways (is_lot lot.id other) off (its_name other lot.id (ap (λ (l : Lot). l.id) (sym same)))) | inr none ↦ absurd none ]
    ] in
    record {
      flat = s.flat;
      lt = s.lt;
      me = me_of w h every.me;
      there = new.knows.lots;
      names = new.knows.names;
      apart = added_apart sc f w h o lot a;
      theirs = λ other i e x off here on. every.mine.owners other i e x (record { lot_in = old other here.lot_in off; entry = here.entry }) on;
      mappings = All-append IsMapping d.lots (lot ∷ []) (s.flat.bytes.drives h.0 s.lt).lots (All-cons IsMapping lot [] (record { kind = ap is_mapping a.kind }) (All-nil IsMapping));
      here = in_right lot d.lots (lot ∷ []) (inl refl);
      loans = λ k. ap (option_map (loan_by fx k)) (more_wanted k d.lots (lot ∷ []) (added_new sc f w h o lot a).wanted);
      kept = λ other there lent. in_left other d.lots (lot ∷ []) there;
      tokens = λ light. lots_stand sc f w h lots s.flat s.lt s.idle new.knows.names (λ other there lent. in_left other d.lots (lot ∷ []) there) (new_lent w h (lot ∷ []) (added_new sc f w h o lot a).wanted) light;
      others = all_in (λ other. is_lot lot.id other ≡ false → IsStill fx other) lots (λ other there off. all_at (IsStill fx) d.lots other s.still (old other there off));
      idle = s.idle;
    }

-- the lots of its name are it
added_names : (sc : Scenario) (f : List ℕ) (w : WorldState) (h : HartNo) (lots : List Lot) (lot : Lot) → IsBefore sc f w h lots lot → lot.kind ≡ kinds.Area → NamesArea lot.id (set_side sides.Lending lot.id lots)
added_names sc f w h lots lot b kind other there named =
    ap (λ (l : Lot). l.kind) (set_its sides.Lending lots lot other b.names b.here there named) ∙ kind

-- ---- it opens

alloc_opens : (sc : Scenario) (f : List ℕ) (w : WorldState) (h : HartNo) (o : Op) (went : Went) (lot : Lot) → IsAdded sc f w h o lot
    → IsTurn w h o went ((driver_of w h.0).lots ++ lot ∷ []) lot sides.Lending (calloc_steps (driver_of w h.0).fixed lot)
    → Opens sc f w h o went ((driver_of w h.0).lots ++ lot ∷ []) lot sides.Lending (calloc_steps (driver_of w h.0).fixed lot)
alloc_opens sc f w h o went lot a turn =
    let m = w.machine in
    let d = driver_of w h.0 in
    let fx = d.fixed in
    let s = a.start in
    let ram = length m.cache.ram in
    let harts = length m.harts in
    let lots = d.lots ++ lot ∷ [] in
    let now = set_side sides.Lending lot.id lots in
    let plan = calloc_steps fx lot in
    let b = added_before sc f w h o lot a in
    let fresh = added_fresh sc f w h o lot a in
    let new = fresh.new in
    let area = new.area in
    let size = sizes sc f w h s.flat s.lt in
    let unsent : is_lending_side lot.side ≡ false = ap is_lending_side (wanted_side lot.side (All-head (λ (l : Lot). is_wanted l.side ≡ true) lot [] (added_new sc f w h o lot a).wanted)) in
    let k : Allocates fx now (turned_lot sides.Lending lot) plan =
    allocate_so fx now (turned_lot sides.Lending lot) (hand_set fx sides.Lending true lots lot b.here area b.others) (set_others (IsStill fx) sides.Lending lot.id lots b.others) (added_names sc f w h lots lot b a.kind) (zeroing_here sc f w h o s) new.knows.fixed.sized (area_entry ram fx lot new.is area)
    (λ x y same on. area_block ram harts fx lot fx.size x y new.knows.fixed new.is area new.knows.fixed.sized same on) in
    let on_area : (i : ℕ) (e : Entry) (x : ℕ) → IsPlace lot i e x → covers (only_entry lot).span x ≡ true = λ i e x place. subst (λ (c : Entry). covers c.span x ≡ true) (sym (area_only ram fx lot i e new.is area place.entry).1) place.on in
    record {
      before = b;
      turn = turn;
      was = λ i. Pool;
      owned = λ i e x place. fresh_pool sc f w h lot x fresh (on_area i e x place);
      mine = λ i n is. absurd cc;
      threads = λ i k is. absurd cc;
      unslotted = λ i e x place. area_unslotted sc f w h lot i e x s.flat s.lt new.is area place;
      area = λ i e x place over. area;
      its = record {
        of_plan = k.plan;
        ends_it = λ lent. settling_lends lot.id plan k.settles;
        goes = k.goes;
        unsent = unsent;
        row = λ i e x v there place c known rest row.
            let n = map_id h lot.id i in
            let l = loan_for fx h lot i e in
            let on = on_area i e x place in
            let ahead : ahead_of c n l ≡ coming n lot.id plan = ap (λ (ss : List Step). coming n lot.id ss) rest in
            let settles : settling lot.id (c.rest h.0) ≡ true = ap (settling lot.id) rest ∙ k.settles in
            let allocating : AllocatingRow n v (ahead_of c n l) m x =
            subst (λ (es : List QueueEntry). AllocatingRow n v es m x) (sym ahead)
            (rows_begin.allocate m n v x (coming n lot.id plan) (k.behind n m x size on) (k.flushed n m x size on) (fresh_free sc f w h lot x fresh on)
            (λ g. fresh_block sc f w h lot x g fresh on) (λ g. fresh_parts sc f w h lot x g fresh on)
            (none_named sc f w h lots lot n s.flat s.lt b.kept (λ other there named. its_entry sc f w h lots lot other n b there named (own_entry h lot i e place.entry)) unsent) row) in
            subst (λ (q : Option Loan). LentRow c n q v m x) (sym known)
            (either_true (is_area lot.kind) _ _ area (either_true (settling lot.id (c.rest h.0)) (AllocatingRow n v (ahead_of c n l) m x) (GivingRow n v (ahead_of c n l) m x) settles allocating));
        shown = λ i e x place c known. inl refl;
      };
    }

-- ---- the start

calloc_opening : (f : DriverConfig) (lots : List Lot) (label : Label) (count : ℕ) (chan : ChanNo) → opening f lots (ops.Calloc label count chan) ≡ turns.Lend (lot_id label 0)
unfolding opening meaning areas.calloc
calloc_opening f lots label count chan = refl

calloc_plan : (f : DriverConfig) (lots : List Lot) (label : Label) (count : ℕ) (chan : ChanNo) → plan_of f lots (ops.Calloc label count chan) ≡ with_lot [] (calloc_steps f) (lot_named lots label kinds.Area)
unfolding plan_of meaning areas.calloc
calloc_plan f lots label count chan = refl

made_bytes : (sc : Scenario) (f : List ℕ) (w : WorldState) (h : HartNo) (label : Label) (count : ℕ) (chan : ChanNo) (span : Span) → IsAdded sc f w h (ops.Calloc label count chan) (area_lot (lot_id label 0) chan span)
    → BytesStand sc f (gone w h w.machine (placed (with_lots (driver_of w h.0) ((driver_of w h.0).lots ++ area_lot (lot_id label 0) chan span ∷ [])) (ops.Calloc label count chan)))
made_bytes sc f w h label count chan span a =
    let o = ops.Calloc label count chan in
    let lot = area_lot (lot_id label 0) chan span in
    let d = driver_of w h.0 in
    let fx = d.fixed in
    let lots = d.lots ++ lot ∷ [] in
    let b = added_before sc f w h o lot a in
    let went = opened (with_lots d lots) o in
    let plan = calloc_steps fx lot in
    let its : is_named label kinds.Area lot ≡ true = and_from (is_labelled label lot) (same_kind kinds.Area lot.kind) (eq-eqb lot.id.label.0 label.0 refl) refl in
    let named : lot_named lots label kinds.Area ≡ Some lot =
    find_only (is_named label kinds.Area) lots lot b.here its (λ other there is. label_one (length w.machine.cache.ram) fx lots other lot label kinds.Area b.there b.names refl there b.here is its) in
    let so =
    opened_so d lots o (turns.Lend lot.id) plan (record { turn_is = calloc_opening fx lots label count chan; plan_is = calloc_plan fx lots label count chan ∙ ap (with_lot [] (calloc_steps fx)) named }) in
    let none : some_lot_waits lots ≡ false =
    list_any_none lot_waits lots
    (All-append (λ (l : Lot). lot_waits l ≡ false) d.lots (lot ∷ []) (all_to IsSettled (λ (l : Lot). lot_waits l ≡ false) d.lots a.start.settled (λ l is. is.placed)) (All-cons (λ (l : Lot). lot_waits l ≡ false) lot [] refl (All-nil (λ (l : Lot). lot_waits l ≡ false)))) in
    subst (λ (k : Went). BytesStand sc f (gone w h w.machine k)) (sym (cond-false (some_lot_waits lots) (stays (searches (with_lots d lots) 0)) went none))
    (opens_bytes sc f w h o went lots lot sides.Lending plan
    (alloc_opens sc f w h o went lot a (record { hand = a.start.hand; lends = a.start.lends; no_copy = a.no_copy; lent = refl; driver = so.driver; transfers = so.transfers })))

pub calloc_bytes : (sc : Scenario) (f : List ℕ) (w : WorldState) (h : HartNo) (label : Label) (count : ℕ) (chan : ChanNo) (r : Result (List Lot) Refusal) → IsStart sc f w h (ops.Calloc label count chan)
    → begin (driver_of w h.0).fixed (driver_of w h.0).lots w.owners w.pages (ops.Calloc label count chan) ≡ r → BytesStand sc f (gone w h w.machine (begun (driver_of w h.0) (ops.Calloc label count chan) r))
calloc_bytes sc f w h label count chan (Err r) s e = refused_bytes sc f w h (ops.Calloc label count chan) r s
calloc_bytes sc f w h label count chan (Ok new) s e =
    let d = driver_of w h.0 in
    let o = ops.Calloc label count chan in
    let made = calloc_made d.fixed d.lots new w.owners w.pages label count chan e in
    let lot = area_lot (lot_id label 0) chan made.0 in
    subst (λ (ls : List Lot). BytesStand sc f (gone w h w.machine (placed (with_lots d (d.lots ++ ls)) o))) made.1
    (made_bytes sc f w h label count chan made.0 (record { start = s; begins = subst (λ (ls : List Lot). begin d.fixed d.lots w.owners w.pages o ≡ Ok ls) (sym made.1) e; kind = refl; no_copy = refl }))
