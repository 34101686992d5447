-- Behind the last step of a copy's plan the places of its destination are its hart's own.
use Rattle.std.specs.Prelude.{Option, Some, None, Bool, true, false, All, if◌then◌else◌, ◌==◌}
use Rattle.std.proofs.Common.{◌≡◌, ℕ, ◌+◌, ◌<◌, List, [], ◌∷◌, ◌++◌, refl, sym, ap, ◌∙◌, subst, inl, inr}
use Rattle.std.proofs.lemmas.Bool.{and_parts, eqb-true, cases_Bool, cases_lt}
use Rattle.nc_num.specs.Memory.{byte}
use Rattle.nc_num.specs.Places.{covers}
use Rattle.nc_num.specs.declared.names.HartNo.{HartNo}
use Rattle.nc_num.specs.declared.names.MapId.{MapId}
use Rattle.nc_num.specs.declared.places.Span.{Span}
use Rattle.nc_plan.specs.Plans.{In}
use Rattle.nc_model.specs.declared.owners.Owner.{Owner}
use Rattle.nc_model.specs.declared.owners.Owner.TheVariants as owners
use Rattle.nc_model.specs.declared.touches.Touch.{Touch}
use Rattle.nc_own.specs.Books.{owner_in}
use Rattle.nc_sg.specs.declared.list.Entry.{Entry}
use Rattle.nc_ops.specs.declared.ops.Op.{Op}
use Rattle.nc_scen.specs.Regions.{slots_of}
use Rattle.nc_scen.specs.declared.scenario.Scenario.{Scenario}
use Rattle.nc_rules.specs.declared.answers.Answer.{Answer}
use Rattle.nc_rules.specs.declared.lots.Lot.{Lot}
use Rattle.nc_rules.specs.declared.lots.LotId.{LotId}
use Rattle.nc_rules.specs.declared.lots.Side.{Side}
use Rattle.nc_rules.specs.declared.lots.Side.TheVariants as sides
use Rattle.nc_rules.specs.declared.records.Record.{Record}
use Rattle.nc_rules.specs.declared.steps.Phase.{Phase}
use Rattle.nc_rules.specs.declared.steps.Phase.TheVariants.{Work}
use Rattle.nc_rules.specs.declared.steps.Seen.{Seen}
use Rattle.nc_rules.specs.declared.steps.Seen.TheVariants as seen
use Rattle.nc_rules.specs.declared.steps.Step.{Step}
use Rattle.nc_rules.specs.declared.steps.Turn.{Turn}
use Rattle.nc_rules.specs.declared.steps.Turn.TheVariants as turns
use Rattle.nc_rules.specs.Driver.{DriverState, Went, in_hand, kept, busy, worked, done, done_of, done_unless, done_in, answered}
use Rattle.nc_rules.specs.Lots.{DriverConfig, is_lot, map_id, owner_of_side}
use Rattle.nc_rules.specs.Machine.{MachineState}
use Rattle.nc_rules.specs.Next.{after_outcome, counted}
use Rattle.nc_rules.specs.Outcomes.{goes}
use Rattle.nc_rules.specs.Turns.{is_area, last_owner, of_those, to_side, to_end, lots_after, transfers_of, turned_by}
use Rattle.nc_rules.specs.View.{view}
use Rattle.nc_rules.specs.EventTouches.{owner_of}
use Rattle.nc_rules.specs.World.{WorldState, driver_of, owners_moved}
use Rattle.nc_scripts.specs.Drivers.{IsLotIn, IsEndName}
use Rattle.nc_scripts.proofs.LotLaws.{lots_stay}
use Rattle.nc_holds.proofs.lists.Members.{of_append, of_map, all_at}
use Rattle.nc_holds.proofs.owners.Moves.{moved_by, of_each, of_named}
use Rattle.nc_rows.specs.Rows.{Row}
use Rattle.nc_flatness.specs.Books.{book_of, mapping_in}
use Rattle.nc_flatness.specs.Copying.{IsItsOwn}
use Rattle.nc_flatness.specs.Flatness.{Flatness}
use Rattle.nc_flatness.proofs.books.Owned.{mapped, owned_ram, owner_past}
use Rattle.nc_copied.proofs.polls.PlanTurns.{OfEnd, TurnsEnds}
use Rattle.nc_copied.proofs.events.ZeroSteps.{area_unended}

-- ---- a turn of an end of a copy

side_own : (h : ℕ) (n : MapId) (side : Side) → n.hart.0 ≡ h → n.label.0 ≡ 1000 → IsItsOwn h (owner_of_side n side)
side_own h n sides.Wanted own end = own
side_own h n sides.Lending own end = (own, end)
side_own h n sides.Device own end = (own, end)
side_own h n sides.Returning own end = (own, end)
side_own h n sides.Synced own end = (own, end)
side_own h n sides.Own own end = own

end_label : (id : LotId) (lot : Lot) → is_lot id lot ≡ true → IsEndName id → IsEndName lot.id
end_label id lot named end = eqb-true lot.id.label.0 id.label.0 (and_parts (lot.id.label.0 == id.label.0) (lot.id.first == id.first) named).0 ∙ end

-- what is made of the bytes stays the hart's own
sided_own : (h : ℕ) (me : HartNo) (lots : List Lot) (side : Side) (id : LotId) (u : Span × Owner) → me.0 ≡ h → IsEndName id → In u (of_those (to_side me side) id lots) → IsItsOwn h u.1
sided_own h me lots side id u own end here =
    let r = of_named (to_side me side) id lots u here in
    let e = of_each me r.lot.id 0 (λ n d. (d.span, owner_of_side n side)) r.lot.list.entries u r.is in
    subst (λ (t : Span × Owner). IsItsOwn h t.1) e.is (side_own h (map_id me r.lot.id (0 + e.j)) side own (end_label id r.lot r.named end))

last_own : (ram : ℕ) (f : DriverConfig) (h : ℕ) (lot : Lot) (t : Bool) → is_area lot.kind ≡ t → f.me.0 ≡ h → IsLotIn ram f lot → IsEndName lot.id → IsItsOwn h (if t then owners.Pool else owners.Thread f.me)
last_own ram f h lot true area own is end = absurd (area_unended f.pool lot.kind lot.id lot.list.entries area is.kind end)
last_own ram f h lot false area own is end = own

ended_own : (ram : ℕ) (f : DriverConfig) (h : ℕ) (lots : List Lot) (id : LotId) (u : Span × Owner) → f.me.0 ≡ h → All (IsLotIn ram f) lots → IsEndName id → In u (of_those (to_end f.me) id lots) → IsItsOwn h u.1
ended_own ram f h lots id u own all end here =
    let r = of_named (to_end f.me) id lots u here in
    let e = of_map (λ (d : Entry). (d.span, last_owner f.me r.lot)) u r.lot.list.entries r.is in
    subst (λ (t : Span × Owner). IsItsOwn h t.1) e.2 (last_own ram f h r.lot (is_area r.lot.kind) refl own (all_at (IsLotIn ram f) lots r.lot all r.here) (end_label id r.lot r.named end))

turn_own : (ram : ℕ) (f : DriverConfig) (h : ℕ) (lots : List Lot) (t : Turn) (u : Span × Owner) → f.me.0 ≡ h → All (IsLotIn ram f) lots → OfEnd t → In u (transfers_of f.me lots t) → IsItsOwn h u.1
turn_own ram f h lots turns.Stay u own all end here = absurd here
turn_own ram f h lots (turns.Pass range to) u own all end here = absurd end
turn_own ram f h lots (turns.Own range) u own all end here = absurd end
turn_own ram f h lots (turns.Lend id) u own all end here = sided_own h f.me lots sides.Lending id u own end here
turn_own ram f h lots (turns.Give id) u own all end here = sided_own h f.me lots sides.Device id u own end here
turn_own ram f h lots (turns.Return id) u own all end here = sided_own h f.me lots sides.Returning id u own end here
turn_own ram f h lots (turns.Sync id) u own all end here = sided_own h f.me lots sides.Synced id u own end here
turn_own ram f h lots (turns.Settle id) u own all end here = sided_own h f.me lots sides.Own id u own end here
turn_own ram f h lots (turns.End id) u own all end here = ended_own ram f h lots id u own all end here

both_own : (ram : ℕ) (f : DriverConfig) (h : ℕ) (lots : List Lot) (s : Step) (a : Option Answer) (ws : List Owner) (x : ℕ) → f.me.0 ≡ h → All (IsLotIn ram f) lots → TurnsEnds s → IsItsOwn h (owner_in ws x)
    → IsItsOwn h (owner_in (owners_moved ws (turned_by f.me f.slots_at lots s.first s.last a).transfers) x)
unfolding turned_by
both_own ram f h lots s a ws x own all ends before =
    moved_by (IsItsOwn h) ws (transfers_of f.me lots s.first ++ transfers_of f.me (lots_after s.first lots) s.last) x before
    (λ u here on. elim (of_append u (transfers_of f.me lots s.first) (transfers_of f.me (lots_after s.first lots) s.last) here) [
      | inl first ↦ turn_own ram f h lots s.first u own all ends.first first
      | inr last ↦ turn_own ram f h (lots_after s.first lots) s.last u own (lots_stay ram f s.first lots all) ends.last last
    ])

-- ---- the step

busy_none : (old saw : Seen) (control : ℕ) → kept old saw ≡ seen.Control control → busy saw ≡ None
busy_none old seen.Nothing control is = refl
busy_none old (seen.Control c) control is = refl
busy_none old seen.Claimed control is = refl
busy_none old (seen.Busy g) control is = absurd cc
busy_none old (seen.Value value) control is = refl

done_is : (d : DriverState) (o : Op) (saw : Seen) (s : Step) → in_hand d ≡ Some o → d.phase ≡ Work → d.rest ≡ s ∷ [] → busy saw ≡ None → done d saw ≡ worked d o (kept d.saw saw) (s ∷ [])
unfolding done
done_is d o saw s hand phase is free =
    ap (λ (k : Option Op). done_of d saw k) hand ∙ ap (done_unless d o saw) free ∙ ap (λ (p : Phase). done_in d o (kept d.saw saw) p) phase ∙ ap (λ (r : List Step). worked d o (kept d.saw saw) r) is

pub last_moves : (ram : ℕ) (d : DriverState) (o : Op) (saw : Seen) (s : Step) (h : ℕ) (ws : List Owner) (x control : ℕ) → in_hand d ≡ Some o → d.phase ≡ Work → d.rest ≡ s ∷ [] → kept d.saw saw ≡ seen.Control control → d.fixed.me.0 ≡ h → All (IsLotIn ram d.fixed) d.lots → TurnsEnds s
    → IsItsOwn h (owner_in ws x) → IsItsOwn h (owner_in (owners_moved ws (done d saw).moves.transfers) x)
last_moves ram d o saw s h ws x control hand phase is saw_is own all ends before =
    subst (λ (went : Went). IsItsOwn h (owner_in (owners_moved ws went.moves.transfers) x)) (sym (done_is d o saw s hand phase is (busy_none d.saw saw control saw_is)))
    (both_own ram d.fixed h d.lots s (answered d o (kept d.saw saw) []) ws x own all ends before)

-- the owners behind a driver that goes on
pub goes_owners : (w : WorldState) (h : HartNo) (m : MachineState) (went : Went) (slots : List (Option HartNo)) (touch : Option Touch) (rs : List Record) → (counted (after_outcome w (goes w h m went slots touch rs))).owners ≡ owners_moved w.owners went.moves.transfers
goes_owners w h m went slots None rs = refl
goes_owners w h m went slots (Some t) rs = refl

-- ---- what is the hart's own and no end's

ended_not : (sc : Scenario) (f : List ℕ) (v : WorldState) (h x : ℕ) (n : MapId) → Flatness sc f v → All (λ (lot : Lot). IsEndName lot.id → ⊥) (driver_of v h).lots → mapping_in (owner_of v x) ≡ Some n → n.hart.0 ≡ h → n.label.0 ≡ 1000 → ⊥
ended_not sc f v h x n flat none is own end =
    let m = mapped sc f v n x flat (owned_ram sc f v x n flat is) is in
    let here : In m.is.lot (driver_of v h).lots = subst (λ (j : ℕ). In m.is.lot (driver_of v j).lots) own m.is.here.lot_in in
    all_at (λ (lot : Lot). IsEndName lot.id → ⊥) (driver_of v h).lots m.is.lot none here (m.is.label ∙ end)

-- the hart sees flat memory there
shows_by : (sc : Scenario) (f : List ℕ) (v : WorldState) (h x : ℕ) (o : Owner) → Flatness sc f v → All (λ (lot : Lot). IsEndName lot.id → ⊥) (driver_of v h).lots → owner_of v x ≡ o → IsItsOwn h o → view v.machine h x ≡ byte f x
shows_by sc f v h x (owners.Thread g) flat none is own =
    let there : x < sc.ram = elim (cases_lt x sc.ram) [
      | inl lt ↦ lt
      | inr past ↦ let no : owners.Thread g ≡ owners.Pool = sym is ∙ owner_past sc f v x flat past in absurd cc
    ] in
    let off : covers (slots_of sc) x ≡ false = elim (cases_Bool (covers (slots_of sc) x)) [
      | inl on ↦ let no : owners.Thread g ≡ owners.Pool = sym is ∙ flat.bytes.slotted x on in absurd cc
      | inr off ↦ off
    ] in
    let row = subst (λ (o : Owner). Row (book_of v) o (byte f x) v.machine x) is (flat.bytes.rows x there off) in
    ap (λ (j : ℕ). view v.machine j x) (sym own) ∙ row.shows
shows_by sc f v h x (owners.Passing g k) flat none is own = absurd own
shows_by sc f v h x owners.Pool flat none is own = absurd own
shows_by sc f v h x (owners.Lending n) flat none is own = absurd (ended_not sc f v h x n flat none (ap mapping_in is) own.0 own.1)
shows_by sc f v h x (owners.Device n) flat none is own = absurd (ended_not sc f v h x n flat none (ap mapping_in is) own.0 own.1)
shows_by sc f v h x (owners.Returning n) flat none is own = absurd (ended_not sc f v h x n flat none (ap mapping_in is) own.0 own.1)
shows_by sc f v h x (owners.Synced n) flat none is own = absurd (ended_not sc f v h x n flat none (ap mapping_in is) own.0 own.1)

pub shows_own : (sc : Scenario) (f : List ℕ) (v : WorldState) (h x : ℕ) → Flatness sc f v → All (λ (lot : Lot). IsEndName lot.id → ⊥) (driver_of v h).lots → IsItsOwn h (owner_of v x) → view v.machine h x ≡ byte f x
shows_own sc f v h x flat none own = shows_by sc f v h x (owner_of v x) flat none refl own
