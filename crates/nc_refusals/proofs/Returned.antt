-- An end of a copy that is lent leaves its hart's lots only by its end, which gives all back.
use Rattle.std.proofs.Common.{◌≡◌, ℕ, ◌<◌, ◌≤◌, Bool, true, false, List, [], ◌∷◌, ◌++◌, length, refl, sym, ap, ◌∙◌, subst, arith, inl, inr, Option, Some, None}
use Rattle.std.specs.Prelude.{◌⊎◌, All, not, slice_get, slice_set, if◌then◌else◌}
use Rattle.std.proofs.lemmas.Bool.{false≢true, cases_eq}
use Rattle.std.proofs.lemmas.List.{get_or-set_other}
use Rattle.std.proofs.lemmas.List.Elements.{All-head, All-append}
use Rattle.nc_num.specs.Places.{covers}
use Rattle.nc_num.specs.declared.names.HartNo.{HartNo}
use Rattle.nc_num.specs.declared.names.MapId.{MapId}
use Rattle.nc_num.specs.declared.places.Span.{Span}
use Rattle.nc_model.specs.declared.owners.Grant.{Grant}
use Rattle.nc_model.specs.declared.owners.Owner.{Owner}
use Rattle.nc_model.specs.declared.owners.Owner.TheVariants as owners
use Rattle.nc_model.specs.declared.touches.Touch.{Touch}
use Rattle.nc_model.specs.Rights.{same_map}
use Rattle.nc_own.specs.Books.{owner_in}
use Rattle.nc_plan.specs.Plans.{In}
use Rattle.nc_plan.proofs.PlanLaws.{in_left, in_map}
use Rattle.nc_sg.specs.declared.list.Entry.{Entry}
use Rattle.nc_sg.specs.Lists.{held}
use Rattle.nc_slots.specs.SlotWords.{holder_of}
use Rattle.nc_scen.specs.Events.{IsThere}
use Rattle.nc_scen.specs.declared.events.Event.{Event}
use Rattle.nc_scen.specs.declared.scenario.Scenario.{Scenario}
use Rattle.nc_rules.specs.declared.lots.Kind.{Kind}
use Rattle.nc_rules.specs.declared.lots.Kind.TheVariants as kinds
use Rattle.nc_rules.specs.declared.lots.Lot.{Lot}
use Rattle.nc_rules.specs.declared.lots.LotId.{LotId}
use Rattle.nc_rules.specs.declared.lots.Side.{Side}
use Rattle.nc_rules.specs.declared.lots.Side.TheVariants as sides
use Rattle.nc_rules.specs.declared.steps.Turn.{Turn}
use Rattle.nc_rules.specs.declared.steps.Turn.TheVariants as turns
use Rattle.nc_rules.specs.Lots.{DriverConfig, is_lot, map_id, is_wanted, lot_waits, slots_held}
use Rattle.nc_rules.specs.Turns.{Moved, is_area, last_owner, to_end, ids, of_those, with_side, set_side, lots_after, lots_after_both, transfers_of, ended_of}
use Rattle.nc_rules.specs.Driver.{DriverState, Went}
use Rattle.nc_rules.specs.Events.{enabled}
use Rattle.nc_rules.specs.Machine.{MachineState}
use Rattle.nc_rules.specs.Next.{touched_by, after_outcome, counted, next}
use Rattle.nc_rules.specs.Outcomes.{Outcome, goes, outcome}
use Rattle.nc_rules.specs.Run.{after}
use Rattle.nc_rules.specs.World.{WorldState, no_driver, driver_of, owners_moved, grants_added, grants_ended, slots_back, with_driver, with_machine, with_moves, start}
use Rattle.nc_scripts.specs.Drivers.{IsLotIn, FitsKind, IsEndName}
use Rattle.nc_scripts.proofs.Lists.{all_left, all_right}
use Rattle.nc_scripts.proofs.LotLaws.{named_so, its_name, lots_stay}
use Rattle.nc_scripts.proofs.SlotLaws.{lots_given}
use Rattle.nc_holds.specs.Held.{Held}
use Rattle.nc_holds.specs.Changes.{Turned, changed}
use Rattle.nc_holds.specs.Holds.{Holds, held_of, mover}
use Rattle.nc_holds.proofs.lists.Members.{in_filter, all_at, at_get}
use Rattle.nc_holds.proofs.words.Lists.{freed, kept}
use Rattle.nc_holds.proofs.owners.Moves.{length-moved, moved_to, in_named}
use Rattle.nc_holds.proofs.owners.Slots.{in_given}
use Rattle.nc_holds.proofs.owners.Ends.{end_move}
use Rattle.nc_holds.proofs.owners.Lots.{below}
use Rattle.nc_holds.proofs.grants.Moves.{of_ended, in_ids, map_self}
use Rattle.nc_holds.proofs.calls.Shapes.{As, Makes, Gets, Begins, Stays, Drops, Turns, Ends, IsQuietTurn, Plainly, ByArea, Shape}
use Rattle.nc_holds.proofs.events.Moves.{moved_by, both_turned}
use Rattle.nc_holds.proofs.events.From.{GoesOn, fixed_in}
use Rattle.nc_rules.specs.declared.records.Record.{Record}
use Rattle.nc_holds.proofs.events.Steps.{OutcomeIs, Runs, Goes, outcome_is}
use Rattle.nc_holds.proofs.events.Holds.{next_is, next_same}
use Rattle.nc_flatness.specs.Flatness.{IsWorldOf}
use Rattle.nc_flatness.proofs.worlds.Worlds.{worlds_start, event_now}
use Rattle.nc_refusals.specs.Returned.{HasLentEnd, IsGone, IsReturned}
use Rattle.nc_refusals.specs.Laws.{CopiesGiveBack}
use Rattle.nc_refusals.proofs.Behind.{driver_now, drivers_in, mine, same_hart}
use Rattle.nc_refusals.proofs.EarlierLaws.{along}

-- ---- lots behind a turn

-- a lot of this name, with the same entries
record Stands (lots : List Lot) (lot : Lot) : Type 0 where
  now : Lot
  here : In now lots
  id : now.id ≡ lot.id
  list : now.list ≡ lot.list

sided_id : (side : Side) (lot : Lot) (t : Bool) → (if t then record lot { side = side } else lot).id ≡ lot.id
sided_id side lot true = refl
sided_id side lot false = refl

sided_list : (side : Side) (lot : Lot) (t : Bool) → (if t then record lot { side = side } else lot).list ≡ lot.list
sided_list side lot true = refl
sided_list side lot false = refl

sided_stands : (side : Side) (id : LotId) (lots : List Lot) (lot : Lot) → In lot lots → Stands (set_side side id lots) lot
sided_stands side id lots lot here = record { now = with_side side id lot; here = in_map (with_side side id) lot lots here; id = sided_id side lot (is_lot id lot); list = sided_list side lot (is_lot id lot) }

left_or : (id : LotId) (lots : List Lot) (lot : Lot) (t : Bool) → is_lot id lot ≡ t → In lot lots → (turns.End id ≡ turns.End lot.id) ⊎ Stands (lots_after (turns.End id) lots) lot
left_or id lots lot true e here = inl (sym (ap turns.End (named_so lot id e)))
left_or id lots lot false e here = inr (record { now = lot; here = in_filter (λ (l : Lot). not (is_lot id l)) lot lots here (ap not e); id = refl; list = refl })

turn_stands : (t : Turn) (lots : List Lot) (lot : Lot) → In lot lots → (t ≡ turns.End lot.id) ⊎ Stands (lots_after t lots) lot
turn_stands turns.Stay lots lot here = inr (record { now = lot; here = here; id = refl; list = refl })
turn_stands (turns.Pass range to) lots lot here = inr (record { now = lot; here = here; id = refl; list = refl })
turn_stands (turns.Own range) lots lot here = inr (record { now = lot; here = here; id = refl; list = refl })
turn_stands (turns.Lend id) lots lot here = inr (sided_stands sides.Lending id lots lot here)
turn_stands (turns.Give id) lots lot here = inr (sided_stands sides.Device id lots lot here)
turn_stands (turns.Return id) lots lot here = inr (sided_stands sides.Returning id lots lot here)
turn_stands (turns.Sync id) lots lot here = inr (sided_stands sides.Synced id lots lot here)
turn_stands (turns.Settle id) lots lot here = inr (sided_stands sides.Own id lots lot here)
turn_stands (turns.End id) lots lot here = left_or id lots lot (is_lot id lot) refl here

-- ---- an end

not_area : (pool : Span) (k : Kind) (lot : Lot) → FitsKind pool k lot.id lot.list.entries → IsEndName lot.id → is_area k ≡ false
not_area pool kinds.Single lot fits e = refl
not_area pool kinds.List lot fits e = refl
not_area pool kinds.Area lot fits e = absurd (too_big lot.id.label.0 fits.0.label e)
  where
    too_big : (n : ℕ) → n ≤ 999 → n ≡ 1000 → ⊥
    too_big n le is = absurd (omega (arith, le, is))
not_area pool kinds.Copy lot fits e = refl

owner_if : (me : HartNo) (t : Bool) → t ≡ false → (if t then owners.Pool else owners.Thread me) ≡ owners.Thread me
owner_if me true e = absurd (false≢true (sym e))
owner_if me false e = refl

last_is : (ram : ℕ) (f : DriverConfig) (me : HartNo) (lot : Lot) → IsLotIn ram f lot → IsEndName lot.id → last_owner me lot ≡ owners.Thread me
last_is ram f me lot is end = owner_if me (is_area lot.kind) (not_area f.pool lot.kind lot is.kind end)

-- what is left of a lot, in what is held
record IsBack (f : DriverConfig) (s : Held) (lot : Lot) : Type 0 where
  bytes : (i : ℕ) (e : Entry) (x : ℕ) → slice_get lot.list.entries i ≡ Some e → covers e.span x ≡ true → owner_in s.owners x ≡ owners.Thread f.me
  grants : (i : ℕ) (e : Entry) (g : Grant) → slice_get lot.list.entries i ≡ Some e → In g s.grants → g.id ≡ map_id f.me lot.id i → ⊥
  slots : (i : ℕ) (e : Entry) (k : ℕ) → slice_get lot.list.entries i ≡ Some e → e.slot ≡ Some k → holder_of s.slots k ≡ None

-- a word that is free stays so while words are given back
set_free : (ws : List (Option HartNo)) (j k : ℕ) → holder_of ws k ≡ None → holder_of (slice_set ws j None) k ≡ None
set_free ws j k free = elim (cases_eq k j) [
  | inl e ↦ subst (λ (i : ℕ). holder_of (slice_set ws j None) i ≡ None) (sym e) (freed ws j)
  | inr ne ↦ kept ws j k None ne ∙ free
]

stay_free : (ws : List (Option HartNo)) (ks : List ℕ) (k : ℕ) → holder_of ws k ≡ None → holder_of (slots_back ws ks) k ≡ None
stay_free ws [] k free = free
stay_free ws (j ∷ ks) k free = stay_free (slice_set ws j None) ks k (set_free ws j k free)

back_free : (ws : List (Option HartNo)) (ks : List ℕ) (k : ℕ) → In k ks → holder_of (slots_back ws ks) k ≡ None
back_free ws [] k here = elim here [ ]
back_free ws (j ∷ ks) k (inl e) = stay_free (slice_set ws j None) ks k (subst (λ (i : ℕ). holder_of (slice_set ws i None) k ≡ None) (sym e) (freed ws k))
back_free ws (j ∷ ks) k (inr here) = back_free (slice_set ws j None) ks k here

in_held_by : (o : Option ℕ) (d : Entry) (k : ℕ) (ks : List Entry) → d.slot ≡ o → o ≡ Some k → In k (held (d ∷ ks))
in_held_by None d k ks e is = absurd (cc)
in_held_by (Some j) d k ks e is = rw e (inl (let same : j ≡ k = cc in same))

held_more : (d : Entry) (es : List Entry) (k : ℕ) (o : Option ℕ) → d.slot ≡ o → In k (held es) → In k (held (d ∷ es))
held_more d es k None e here = rw e here
held_more d es k (Some j) e here = rw e (inr here)

in_held : (es : List Entry) (e : Entry) (k : ℕ) → In e es → e.slot ≡ Some k → In k (held es)
in_held [] e k here is = elim here [ ]
in_held (d ∷ es) e k (inl same) is = in_held_by d.slot d k es refl (ap (λ (x : Entry). x.slot) same ∙ is)
in_held (d ∷ es) e k (inr here) is = held_more d es k d.slot refl (in_held es e k here is)

-- the end of a lot whose name is a copy's end
end_back : (ram : ℕ) (f : DriverConfig) (s : Held) (lot : Lot) → All (IsLotIn ram f) s.lots → length s.owners ≡ ram → In lot s.lots → IsEndName lot.id → IsBack f (changed f s (Turned (turns.End lot.id))) lot
end_back ram f s lot all long here end = record {
  bytes = λ i e x at on.
      moved_to (λ (o : Owner). o ≡ owners.Thread f.me) s.owners (of_those (to_end f.me) lot.id s.lots) x (e.span, last_owner f.me lot)
      (let lt = below ram f lot i e x (all_at (IsLotIn ram f) s.lots lot all here) at on in omega (arith, lt, long))
      (in_named (to_end f.me) lot.id s.lots lot (e.span, last_owner f.me lot) here (its_name lot lot.id refl) (in_map {Y = Span × Owner} (λ (d : Entry). (d.span, last_owner f.me lot)) e lot.list.entries (at_get lot.list.entries i e at))) on
      (λ u k covered.
      let r = end_move f.me lot.id s.lots u k in
      let is = all_at (IsLotIn ram f) s.lots r.lot all r.here.lot_in in
      let name : IsEndName r.lot.id = subst (λ (n : LotId). IsEndName n) (sym (named_so r.lot lot.id r.named)) end in
      sym (ap (λ (t : Span × Owner). t.1) r.is) ∙ last_is ram f f.me r.lot is name);
  grants = λ i e g at in_grants is.
      let none = (of_ended g (grants_added s.grants []) (of_those (ids f.me) lot.id s.lots) in_grants).1 (map_id f.me lot.id i) (in_ids f.me lot.id s.lots lot i e (its_name lot lot.id refl) (record { lot_in = here; entry = at })) in
      false≢true (sym none ∙ ap (λ (m : MapId). same_map m (map_id f.me lot.id i)) is ∙ map_self (map_id f.me lot.id i));
  slots = λ i e k at is.
      back_free s.slots (of_those slots_held lot.id s.lots) k
      (in_named slots_held lot.id s.lots lot k here (its_name lot lot.id refl) (in_held lot.list.entries e k (at_get lot.list.entries i e at) is));
}

-- the same lot by name and entries
back_same : (f : DriverConfig) (s : Held) (lot now : Lot) → now.id ≡ lot.id → now.list ≡ lot.list → IsBack f s now → IsBack f s lot
back_same f s lot now id list k = record {
  bytes = λ i e x at on. k.bytes i e x (ap (λ l. slice_get l.entries i) list ∙ at) on;
  grants = λ i e g at here is. k.grants i e g (ap (λ l. slice_get l.entries i) list ∙ at) here (is ∙ ap (λ (n : LotId). map_id f.me n i) (sym id));
  slots = λ i e w at is. k.slots i e w (ap (λ l. slice_get l.entries i) list ∙ at) is;
}

-- ---- a call

-- no lot of its name is left
abbrev Gone : List Lot → Lot → Type 0
Gone lots lot = (now : Lot) → In now lots → now.id ≡ lot.id → ⊥

gone_stands : {X : Type 0} (lots : List Lot) (lot : Lot) → Gone lots lot → Stands lots lot → X
gone_stands lots lot gone s = absurd (gone s.now s.here s.id)

record IsEntered (ram : ℕ) (f : DriverConfig) (w m : Held) (lot : Lot) : Type 0 where
  owners_are : m.owners ≡ w.owners
  grants_are : m.grants ≡ w.grants
  here : In lot m.lots
  all : All (IsLotIn ram f) m.lots

unlent_not : (lot : Lot) (t : Bool) → lot_waits lot ≡ t → (lot_waits lot ≡ true → is_wanted lot.side ≡ true) → is_wanted lot.side ≡ false → lot_waits lot ≡ false
unlent_not lot true e h lent = absurd (false≢true (sym lent ∙ h e))
unlent_not lot false e h lent = e

entered : (ram : ℕ) (f : DriverConfig) (s m : Held) (lot : Lot) → Begins ram f s m → All (IsLotIn ram f) s.lots → In lot s.lots → is_wanted lot.side ≡ false → IsEntered ram f s m lot
entered ram f s m lot (As e) all here lent = subst (λ (x : Held). IsEntered ram f s x lot) (sym e) (record { owners_are = refl; grants_are = refl; here = here; all = all })
entered ram f s m lot (Makes new making areas unplaced e) all here lent =
    subst (λ (x : Held). IsEntered ram f s x lot) (sym e)
    (record { owners_are = refl; grants_are = refl; here = in_left lot s.lots new here; all = All-append (IsLotIn ram f) s.lots new all making.each.each })
entered ram f s m lot (Gets k may lt e) all here lent =
    let placed = unlent_not lot (lot_waits lot) refl (all_at (λ (l : Lot). lot_waits l ≡ true → is_wanted l.side ≡ true) s.lots lot may.unlent here) lent in
    subst (λ (x : Held). IsEntered ram f s x lot) (sym e)
    (record { owners_are = refl; grants_are = refl; here = in_given k s.lots lot placed here; all = lots_given ram f k s.lots lt all })

-- the lots behind a first turn, and what is held then
not_quiet : {X : Type 0} (f : DriverConfig) (lots : List Lot) (lot : Lot) (i : ℕ) (e : Entry) → In lot lots → slice_get lot.list.entries i ≡ Some e → ended_of f.me lots (turns.End lot.id) ≡ [] → X
not_quiet f lots lot i e here at none =
    elim (subst (λ (ms : List MapId). In (map_id f.me lot.id i) ms) none (in_ids f.me lot.id lots lot i e (its_name lot lot.id refl) (record { lot_in = here; entry = at }))) [ ]

some_entry : (pool : Span) (k : Kind) (id : LotId) (es : List Entry) → FitsKind pool k id es → 1 ≤ length es
some_entry pool kinds.Single id es fits = omega (arith, fits.1)
some_entry pool kinds.List id es fits = fits.1
some_entry pool kinds.Area id es fits = omega (arith, fits.1)
some_entry pool kinds.Copy id es fits = omega (arith, fits.1)

first_of : (es : List Entry) → 1 ≤ length es → (e : Entry) × (slice_get es 0 ≡ Some e)
first_of [] le = absurd (omega (arith, le))
first_of (e ∷ es) le = (e, refl)

only_first : {X : Type 0} (ram : ℕ) (f : DriverConfig) (lots : List Lot) (lot : Lot) (t : Turn) → All (IsLotIn ram f) lots → In lot lots → t ≡ turns.End lot.id → IsQuietTurn f lots t → X
only_first ram f lots lot t all here e quiet =
    let is = all_at (IsLotIn ram f) lots lot all here in
    let one = first_of lot.list.entries (some_entry f.pool lot.kind lot.id lot.list.entries is.kind) in
    not_quiet f lots lot 0 one.0 here one.1 (subst (λ (u : Turn). ended_of f.me lots u ≡ []) e quiet.ended)

second : (ram : ℕ) (f : DriverConfig) (m : Held) (lot : Lot) (u : Turn) → All (IsLotIn ram f) m.lots → length m.owners ≡ ram → IsEndName lot.id → Gone (lots_after u m.lots) lot → Stands m.lots lot → IsBack f (changed f m (Turned u)) lot
second ram f m lot u all long end gone s =
    let name : IsEndName s.now.id = subst (λ (n : LotId). IsEndName n) (sym s.id) end in
    elim (turn_stands u m.lots s.now s.here) [
      | inl e ↦ back_same f (changed f m (Turned u)) lot s.now s.id s.list (subst (λ (x : Turn). IsBack f (changed f m (Turned x)) s.now) (sym e) (end_back ram f m s.now all long s.here name))
      | inr k ↦ gone_stands (lots_after u m.lots) lot gone (record { now = k.now; here = k.here; id = k.id ∙ s.id; list = k.list ∙ s.list })
    ]

first_end : (ram : ℕ) (f : DriverConfig) (m : Held) (lot : Lot) (t u : Turn) → All (IsLotIn ram f) m.lots → length m.owners ≡ ram → In lot m.lots → IsEndName lot.id → t ≡ turns.End lot.id → (u ≡ turns.Stay) ⊎ IsQuietTurn f m.lots t → IsBack f (changed f (changed f m (Turned t)) (Turned u)) lot
first_end ram f m lot t u all long here end e (inl stay) =
    subst (λ (x : Turn). IsBack f (changed f (changed f m (Turned t)) (Turned x)) lot) (sym stay)
    (subst (λ (x : Turn). IsBack f (changed f m (Turned x)) lot) (sym e) (end_back ram f m lot all long here end))
first_end ram f m lot t u all long here end e (inr quiet) = only_first ram f m.lots lot t all here e quiet

turns_back : (ram : ℕ) (f : DriverConfig) (m : Held) (lot : Lot) (t u : Turn) → All (IsLotIn ram f) m.lots → length m.owners ≡ ram → In lot m.lots → IsEndName lot.id → (u ≡ turns.Stay) ⊎ IsQuietTurn f m.lots t → Gone (lots_after_both t u m.lots) lot
    → IsBack f (changed f (changed f m (Turned t)) (Turned u)) lot
turns_back ram f m lot t u all long here end quiet gone = elim (turn_stands t m.lots lot here) [
  | inl e ↦ first_end ram f m lot t u all long here end e quiet
  | inr s ↦ second ram f (changed f m (Turned t)) lot u (lots_stay ram f t m.lots all) (length-moved m.owners (transfers_of f.me m.lots t) ∙ long) end gone s
]

-- what is held behind a call
ends_back : (ram : ℕ) (f : DriverConfig) (m : Held) (went : Went) (lot : Lot) → All (IsLotIn ram f) m.lots → length m.owners ≡ ram → In lot m.lots → IsEndName lot.id → is_wanted lot.side ≡ false → Gone went.driver.lots lot → Ends f m went → IsBack f (moved_by m went.driver.lots went.moves) lot
ends_back ram f m went lot all long here end lent gone (Stays same none) = absurd (gone lot (subst (λ (ls : List Lot). In lot ls) (sym same) here) refl)
ends_back ram f m went lot all long here end lent gone (Drops a same none) =
    absurd (gone lot (subst (λ (ls : List Lot). In lot ls) (sym same) (in_filter (λ (l : Lot). not (is_wanted l.side)) lot m.lots here (ap not lent))) refl)
ends_back ram f m went lot all long here end lent gone (Turns t u a first last quiet same moves) =
    subst (λ (ls : List Lot). IsBack f (moved_by m ls went.moves) lot) (sym same)
    (subst (λ (ms : Moved). IsBack f (moved_by m (lots_after_both t u m.lots) ms) lot) (sym moves)
    (subst (λ (x : Held). IsBack f x lot) (sym (both_turned f m t u a quiet))
    (turns_back ram f m lot t u all long here end quiet (subst (λ (ls : List Lot). Gone ls lot) same gone))))

shape_back : (ram : ℕ) (f : DriverConfig) (s : Held) (now : List (Option HartNo)) (went : Went) (lot : Lot) → All (IsLotIn ram f) s.lots → length s.owners ≡ ram → In lot s.lots → IsEndName lot.id → is_wanted lot.side ≡ false → Gone went.driver.lots lot → Shape ram f s now went
    → IsBack f (moved_by (record s { slots = now }) went.driver.lots went.moves) lot
unfolding moved_by
shape_back ram f s now went lot all long here end lent gone (Plainly m begins ends slots) =
    let k = entered ram f s m lot begins all here lent in
    let back = ends_back ram f m went lot k.all (ap length k.owners_are ∙ long) k.here end lent gone ends in
    record {
      bytes = λ i e x at on. sym (ap (λ (ws : List Owner). owner_in (owners_moved ws went.moves.transfers) x) k.owners_are) ∙ back.bytes i e x at on;
      grants = λ i e g at in_grants is. back.grants i e g at (subst (λ (gs : List Grant). In g (grants_ended (grants_added gs went.moves.grants) went.moves.ended)) (sym k.grants_are) in_grants) is;
      slots = λ i e j at is. sym (ap (λ (ws : List (Option HartNo)). holder_of (slots_back ws went.moves.backs) j) slots) ∙ back.slots i e j at is;
    }
shape_back ram f s now went lot all long here end lent gone (ByArea a slots) =
    gone_stands went.driver.lots lot gone (subst (λ (ls : List Lot). Stands ls lot) (sym a.lots) (sided_stands sides.Lending a.lot.id (s.lots ++ a.lot ∷ []) lot (in_left lot s.lots (a.lot ∷ []) here)))

-- ---- a world

-- what a world holds of a lot that is gone
back_returned : (v : WorldState) (h : HartNo) (f : DriverConfig) (s : Held) (lot : Lot) → f.me ≡ h → v.owners ≡ s.owners → v.grants ≡ s.grants → v.slots ≡ s.slots → IsBack f s lot → IsReturned v h lot
back_returned v h f s lot me owners_are grants_are slots_are k = record {
  bytes = λ i e x at on. ap (λ (ws : List Owner). owner_in ws x) owners_are ∙ k.bytes i e x at on ∙ ap owners.Thread me;
  grants = λ i e g at here is. k.grants i e g at (subst (λ (gs : List Grant). In g gs) grants_are here) (is ∙ ap (λ (n : HartNo). map_id n lot.id i) (sym me));
  slots = λ i e j at is. ap (λ (ws : List (Option HartNo)). holder_of ws j) slots_are ∙ k.slots i e j at is;
}

record Same3 (v : WorldState) (s : Held) : Type 0 where
  owners_are : v.owners ≡ s.owners
  grants_are : v.grants ≡ s.grants
  slots_are : v.slots ≡ s.slots

same_touched : (v : WorldState) (s : Held) (t : Option Touch) → Same3 v s → Same3 (counted (touched_by v t)) s
same_touched v s None k = record { owners_are = k.owners_are; grants_are = k.grants_are; slots_are = k.slots_are }
same_touched v s (Some t) k = record { owners_are = k.owners_are; grants_are = k.grants_are; slots_are = k.slots_are }

gone_moves : (w : WorldState) (h : ℕ) (machine : MachineState) (went : Went) (now : List (Option HartNo)) → Same3 (with_moves (record (with_driver (with_machine w machine) h went.driver) { slots = now }) went.moves) (moved_by (record (held_of w h) { slots = now }) went.driver.lots went.moves)
unfolding moved_by
gone_moves w h machine went now = record { owners_are = refl; grants_are = refl; slots_are = refl }

-- the lots of this hart's driver behind an outcome
abbrev lots_now : WorldState → Outcome → ℕ → List Lot
lots_now w o h = (driver_of (counted (after_outcome w o)) h).lots

still_here : {X : Type 0} (w : WorldState) (o : Outcome) (h : HartNo) (lot : Lot) → In lot (driver_of w h.0).lots → Gone (lots_now w o h.0) lot → drivers_in w o.drivers h.0 ≡ driver_of w h.0 → X
still_here w o h lot here gone same = absurd (gone lot (subst (λ (d : DriverState). In lot d.lots) (sym (driver_now w o h.0 ∙ same)) here) refl)

goes_back : (w : WorldState) (h : HartNo) (machine : MachineState) (went : Went) (now : List (Option HartNo)) (touch : Option Touch) (records : List Record) (lot : Lot) → Holds w → GoesOn w h.0 machine now went → HasLentEnd w h lot
    → Gone (lots_now w (goes w h machine went now touch records) h.0) lot → IsReturned (counted (after_outcome w (goes w h machine went now touch records))) h lot
goes_back w h machine went now touch records lot all go has gone =
    let d = all.each h.0 go.there in
    let o = goes w h machine went now touch records in
    let me : (fixed_in w h.0).me ≡ h = (let n = d.me in λ i. record { 0 = n i }) in
    let lt : h.0 < length w.drivers = (let t = go.there in omega (arith, t, all.drivers)) in
    let drivers : driver_of (counted (after_outcome w o)) h.0 ≡ went.driver = driver_now w o h.0 ∙ mine w h.0 went.driver lt in
    let back = shape_back (length w.machine.cache.ram) (fixed_in w h.0) (held_of w h.0) now went lot d.driver.lots all.owners has.here has.end has.lent (subst (λ (x : DriverState). Gone x.lots lot) drivers gone) go.call.shape in
    let k = same_touched (with_moves (record (with_driver (with_machine w machine) h.0 went.driver) { slots = now }) went.moves) (moved_by (record (held_of w h.0) { slots = now }) went.driver.lots went.moves) touch (gone_moves w h.0 machine went now) in
    back_returned (counted (after_outcome w o)) h (fixed_in w h.0) (moved_by (record (held_of w h.0) { slots = now }) went.driver.lots went.moves) lot me k.owners_are k.grants_are k.slots_are back

outcome_back : (w : WorldState) (by : Option HartNo) (o : Outcome) (h : HartNo) (lot : Lot) → Holds w → OutcomeIs w by o → HasLentEnd w h lot → Gone (lots_now w o h.0) lot → IsReturned (counted (after_outcome w o)) h lot
outcome_back w by o h lot all (Runs machine touch records shape e) has gone = still_here w o h lot has.here gone (ap (λ (x : Outcome). drivers_in w x.drivers h.0) e)
outcome_back w by o h lot all (Goes g machine went now touch records is go e) has gone = elim (cases_eq h.0 g.0) [
  | inl n ↦ mine_back (same_hart h g n)
  | inr ne ↦ still_here w o h lot has.here gone (ap (λ (x : Outcome). drivers_in w x.drivers h.0) e ∙ get_or-set_other w.drivers g.0 h.0 went.driver no_driver ne)
]
  where
    mine_back : h ≡ g → IsReturned (counted (after_outcome w o)) h lot
    mine_back n =
        subst (λ (x : Outcome). IsReturned (counted (after_outcome w x)) h lot) (sym e)
        (subst (λ (x : HartNo). IsReturned (counted (after_outcome w (goes w g machine went now touch records))) x lot) (sym n)
        (goes_back w g machine went now touch records lot all go (subst (λ (x : HartNo). HasLentEnd w x lot) n has)
        (subst (λ (x : HartNo). Gone (lots_now w (goes w g machine went now touch records) x.0) lot) n (subst (λ (x : Outcome). Gone (lots_now w x h.0) lot) e gone))))

event_back : (sc : Scenario) (w : WorldState) (e : Event) (h : HartNo) (lot : Lot) (t : Bool) → enabled w e ≡ t → IsWorldOf sc w → IsThere (length sc.harts) sc.block_size sc.ram e → HasLentEnd w h lot → IsGone (next w e) h lot → IsReturned (next w e) h lot
event_back sc w e h lot true may is there has gone =
    subst (λ (v : WorldState). IsReturned v h lot) (sym (next_is w e may))
    (outcome_back w (mover e) (outcome w e) h lot is.holds (outcome_is w e (event_now sc w e is there may)) has (subst (λ (v : WorldState). IsGone v h lot) (next_is w e may) gone))
event_back sc w e h lot false off is there has gone = absurd (subst (λ (v : WorldState). IsGone v h lot) (next_same w e off) gone lot has.here refl)

pub copies_give_back : CopiesGiveBack
copies_give_back sc before e h lot a there has gone =
    let first = all_left (IsThere (length sc.harts) sc.block_size sc.ram) before (e ∷ []) there in
    let last = All-head (IsThere (length sc.harts) sc.block_size sc.ram) e [] (all_right (IsThere (length sc.harts) sc.block_size sc.ram) before (e ∷ []) there) in
    let w = after (start sc) before in
    event_back sc w e h lot (enabled w e) refl (along sc (start sc) before (worlds_start sc a) first) last has gone
