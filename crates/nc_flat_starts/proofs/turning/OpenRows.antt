-- The rows of a lot that is lent, at its opening turn.
use Rattle.std.specs.Prelude.{Option, Some, None, ◌+◌, ◌-◌, ◌/◌, Bool, true, false, slice_get}
use Rattle.std.specs.List.{list_any}
use Rattle.std.proofs.Common.{◌≡◌, ◌⊎◌, ℕ, ◌<◌, ◌≤◌, List, [], length, refl, sym, ap, inl, inr, subst, arith}
use Rattle.std.proofs.lemmas.Bool.{cases_lt, cond-false}
use Rattle.std.proofs.lemmas.List.{get_or_past}
use Rattle.std.proofs.lemmas.Option.{slice_get_within}
use Rattle.nc_num.specs.Memory.{byte}
use Rattle.nc_num.specs.Places.{covers}
use Rattle.nc_num.specs.declared.names.Dir.{Dir}
use Rattle.nc_num.specs.declared.names.Dir.TheVariants.{Both, ToDev, FromDev}
use Rattle.nc_num.specs.declared.names.HartNo.{HartNo}
use Rattle.nc_num.specs.declared.names.MapId.{MapId}
use Rattle.nc_num.specs.declared.places.Span.{Span}
use Rattle.nc_model.proofs.Faults.{covers-from, covers-low, covers-high}
use Rattle.nc_model.specs.declared.owners.Owner.{Owner}
use Rattle.nc_queue.specs.Entries.{AllFit}
use Rattle.nc_queue.specs.declared.entry.Entry.{Entry as QueueEntry}
use Rattle.nc_hart.specs.HartState.{HartState}
use Rattle.nc_lines.specs.Lines.{gives_at}
use Rattle.nc_plan.specs.Parts.{comes_back}
use Rattle.nc_plan.proofs.PlanLaws.{in_map}
use Rattle.nc_scen.specs.Regions.{slots_of}
use Rattle.nc_scen.specs.declared.scenario.Scenario.{Scenario}
use Rattle.nc_sg.specs.Lists as sg
use Rattle.nc_sg.specs.declared.list.Entry.{Entry}
use Rattle.nc_ops.specs.declared.ops.Op.{Op}
use Rattle.nc_rules.specs.declared.lots.Lot.{Lot}
use Rattle.nc_rules.specs.declared.lots.Side.{Side}
use Rattle.nc_rules.specs.declared.lots.Side.TheVariants as sides
use Rattle.nc_rules.specs.declared.steps.Step.{Step}
use Rattle.nc_rules.specs.Lots.{DriverConfig, map_id, owner_of_side}
use Rattle.nc_rules.specs.Machine.{MachineState, no_hart, queue_of}
use Rattle.nc_rules.specs.Plans.{lend_steps}
use Rattle.nc_rules.specs.Start.{hart_spec}
use Rattle.nc_rules.specs.Turns.{is_area, set_side}
use Rattle.nc_rules.specs.Driver.{Went}
use Rattle.nc_rules.specs.World.{WorldState, driver_of}
use Rattle.nc_scripts.specs.Drivers.{BouncesSo}
use Rattle.nc_holds.proofs.lists.Members.{all_at, at_get}
use Rattle.nc_holds.proofs.owners.Lots.{entry_in}
use Rattle.nc_rows.specs.Ahead.{coming}
use Rattle.nc_rows.specs.Laws.{seen_at}
use Rattle.nc_rows.specs.Places.{ThreadRow, CalmRow, Alone}
use Rattle.nc_rows.specs.Rows.{Loan, back, gives_here, gives_block, ahead_of, Either, ByDir, LendingTo, LendingFrom, LentRow, SyncedRow, Row}
use Rattle.nc_row_plans.specs.Begins.{LendsAhead, IsReady}
use Rattle.nc_row_plans.specs.Plans.{WritesBack, DropsBlocks, IsPlaceOf, IsEntryOf as IsEntryOfLot}
use Rattle.nc_row_plans.proofs.LendingPlans.{plans_lend}
use Rattle.nc_row_plans.proofs.PlanBegins.{rows_begin}
use Rattle.nc_flatness.specs.Books.{book_of}
use Rattle.nc_flatness.specs.Flatness.{Flatness}
use Rattle.nc_flatness.specs.Plans.{IsStill, device_of}
use Rattle.nc_flatness.proofs.plans.Rests.{lend_lends}
use Rattle.nc_flatness.specs.Tokens.{is_lending_side}
use Rattle.nc_flatness.proofs.books.Seen.{slot_at, slot_slots, slot_whole}
use Rattle.nc_flat_starts.proofs.opening.Bases.{IsBase, fixed_is, IsMember, member_of, member_lot, member_owner, member_beside, base_entry, base_planned, member_unseen, waits_not, slot_in, in_slot_so}
use Rattle.nc_flat_starts.proofs.turning.Blocks.{none_in_block, whole_range}
use Rattle.nc_flat_starts.proofs.going.Effects.{writes, drops}
use Rattle.nc_flat_starts.proofs.turning.Frames.{IsPlace}
use Rattle.nc_flat_starts.proofs.turning.Lots.{loan_for, own_entry}
use Rattle.nc_flat_starts.proofs.opening.Opens.{IsTurn, Opens, base_opens}
use Rattle.nc_flat_starts.proofs.going.PlansGo.{Lends, lend_so}
use Rattle.nc_flat_starts.proofs.turning.Sides.{hand_set, set_others, set_named, turned_lot}
use Rattle.nc_flat_starts.proofs.opening.Tokens.{AreKept, none_named}

-- ---- what is known of the hart

pub writing : (sc : Scenario) (f : List ℕ) (w : WorldState) (h : HartNo) → Flatness sc f w → h.0 < length sc.harts → WritesBack (driver_of w h.0).fixed.effects
writing sc f w h flat lt =
    let s = hart_spec sc h.0 in
    subst (λ (k : DriverConfig). WritesBack k.effects) (sym (fixed_is sc f w h flat lt)) (writes s.mode s.menvcfg s.senvcfg)

pub dropping : (sc : Scenario) (f : List ℕ) (w : WorldState) (h : HartNo) → Flatness sc f w → h.0 < length sc.harts → DropsBlocks (driver_of w h.0).fixed.effects
dropping sc f w h flat lt =
    let s = hart_spec sc h.0 in
    subst (λ (k : DriverConfig). DropsBlocks k.effects) (sym (fixed_is sc f w h flat lt)) (drops s.mode s.menvcfg s.senvcfg)

pub sizes : (sc : Scenario) (f : List ℕ) (w : WorldState) (h : HartNo) → Flatness sc f w → h.0 < length sc.harts → (driver_of w h.0).fixed.size ≡ w.machine.size
sizes sc f w h flat lt = sym (flat.world.holds.each h.0 (omega (arith, lt, flat.world.of_scenario.harts))).setting.block

queue_past : (m : MachineState) (g : ℕ) → length m.harts ≤ g → queue_of m g ≡ []
queue_past m g past = ap (λ (k : HartState). k.queue.entries) (get_or_past m.harts g no_hart past)

-- the entries of each queue fit
pub queues_fit : (sc : Scenario) (f : List ℕ) (w : WorldState) (g : ℕ) → Flatness sc f w → AllFit w.machine.size (queue_of w.machine g)
queues_fit sc f w g flat = elim (cases_lt g (length w.machine.harts)) [
  | inl lt ↦ (flat.world.machine.queues g lt).fit
  | inr past ↦ subst (λ (q : List QueueEntry). AllFit w.machine.size q) (sym (queue_past w.machine g past)) tt
]

-- ---- the place in the device range

abbrev pub place_at : DriverConfig → Entry → ℕ → ℕ
place_at f e x = (device_of f e).at + (x - e.span.at)

device_long : (f : DriverConfig) (e : Entry) (t : Bool) → e.bounced ≡ t → (device_of f e).len ≡ e.span.len
device_long f e true is = rw is refl
device_long f e false is = rw is refl

pub device_on : (f : DriverConfig) (e : Entry) (x : ℕ) → covers e.span x ≡ true → covers (device_of f e) (place_at f e x) ≡ true
device_on f e x on = covers-from (device_of f e) (place_at f e x) (omega arith) (omega (arith, covers-low e.span x on, covers-high e.span x on, device_long f e e.bounced refl))

pub direct_same : (f : DriverConfig) (e : Entry) (x : ℕ) → e.bounced ≡ false → covers e.span x ≡ true → place_at f e x ≡ x
direct_same f e x off on =
    let at : (device_of f e).at ≡ e.span.at = ap (λ (s : Span). s.at) (cond-false e.bounced _ e.span off) in
    omega (arith, at, covers-low e.span x on)

pub place_is : (f : DriverConfig) (lot : Lot) (i : ℕ) (e : Entry) (x : ℕ) → slice_get lot.list.entries i ≡ Some e → covers e.span x ≡ true → IsPlaceOf f lot (sg.part_of lot.list.dir f.slots_at e) (place_at f e x)
place_is f lot i e x there on =
    let over = device_on f e x on in
    record {
      part = in_map (sg.part_of lot.list.dir f.slots_at) e lot.list.entries (at_get lot.list.entries i e there);
      from = covers-low (device_of f e) (place_at f e x) over;
      before = covers-high (device_of f e) (place_at f e x) over;
    }

-- a place of an entry that bounces lies in its slot
pub record InSlot (sc : Scenario) (f : DriverConfig) (e : Entry) (y : ℕ) : Type 0 where
  pub k : ℕ
  pub slot : e.slot ≡ Some k
  pub on : covers (slot_at sc k) y ≡ true
  pub over : covers (slots_of sc) y ≡ true

pub in_slot_at : (sc : Scenario) (f : List ℕ) (w : WorldState) (h : HartNo) (lots : List Lot) (lot : Lot) (i : ℕ) (e : Entry) (y : ℕ) → IsMember sc f w h lots lot → slice_get lot.list.entries i ≡ Some e → e.bounced ≡ true → covers (device_of (driver_of w h.0).fixed e) y ≡ true
    → InSlot sc (driver_of w h.0).fixed e y
in_slot_at sc f w h lots lot i e y b there bounced on =
    let fx = (driver_of w h.0).fixed in
    let slot = slot_in e (waits_not lot i e b.placed there) bounced in
    let is = in_slot_so (length w.machine.cache.ram) fx e slot.0 b.each.knows.fixed.slots_whole (entry_in (length w.machine.cache.ram) fx lot i e (member_lot sc f w h lots lot b) there) bounced slot.1 in
    let at : fx.slots_at ≡ sc.slots_at = ap (λ (k : DriverConfig). k.slots_at) (fixed_is sc f w h b.flat b.lt) in
    let few : fx.slots ≡ sc.slots = ap (λ (k : DriverConfig). k.slots) (fixed_is sc f w h b.flat b.lt) in
    let inside = covers-from (slot_at sc slot.0) y (omega (arith, at, is.low, covers-low (device_of fx e) y on)) (omega (arith, at, is.high, is.long, covers-high (device_of fx e) y on)) in
    record { k = slot.0; slot = slot.1; on = inside; over = slot_slots sc slot.0 y (omega (arith, is.few, few)) inside }

-- ---- a lot that is lent

abbrev pub IsReadySide : Lot → Type 0
IsReadySide lot = (lot.side ≡ sides.Wanted) ⊎ (lot.side ≡ sides.Synced)

ready_unsent : (lot : Lot) → IsReadySide lot → is_lending_side lot.side ≡ false
ready_unsent lot (inl wanted) = ap is_lending_side wanted
ready_unsent lot (inr synced) = ap is_lending_side synced

synced_thread : (n : MapId) (o : Option Loan) (v : ℕ) (m : MachineState) (x : ℕ) → SyncedRow n o v m x → ThreadRow n.hart.0 v m x
synced_thread n None v m x row = absurd row
synced_thread n (Some l) v m x row = row

-- the byte was its hart's own
pub own_row : (w : WorldState) (h : HartNo) (lot : Lot) (i x v : ℕ) → IsReadySide lot → Row (book_of w) (owner_of_side (map_id h lot.id i) lot.side) v w.machine x → ThreadRow h.0 v w.machine x
own_row w h lot i x v (inl wanted) row = subst (λ (s : Side). Row (book_of w) (owner_of_side (map_id h lot.id i) s) v w.machine x) wanted row
own_row w h lot i x v (inr synced) row =
    let n = map_id h lot.id i in
    synced_thread n ((book_of w).loan n) v w.machine x (subst (λ (s : Side). Row (book_of w) (owner_of_side n s) v w.machine x) synced row)

-- no copy of its slot is stale
pub slot_calm : (sc : Scenario) (f : List ℕ) (w : WorldState) (h : HartNo) (lots : List Lot) (lot : Lot) (i : ℕ) (e : Entry) (k z : ℕ) → IsMember sc f w h lots lot → AreKept w h lots → slice_get lot.list.entries i ≡ Some e → IsReadySide lot → e.bounced ≡ true → e.slot ≡ Some k → covers (slot_at sc k) z ≡ true → covers (slots_of sc) z ≡ true
    → CalmRow w.machine z
slot_calm sc f w h lots lot i e k z b kept there side bounced slot on over = b.flat.bytes.calm z over (member_unseen sc f w h lots lot i e k z b kept there side bounced slot on)

pub alone_so : (sc : Scenario) (f : List ℕ) (w : WorldState) (h : HartNo) (lots : List Lot) (lot : Lot) (i : ℕ) (e : Entry) (x : ℕ) → IsMember sc f w h lots lot → AreKept w h lots → is_area lot.kind ≡ false → IsPlace lot i e x → IsReadySide lot → comes_back lot.list.dir ≡ true → (t : Bool) → e.bounced ≡ t
    → Alone h.0 w.machine (place_at (driver_of w h.0).fixed e x)
alone_so sc f w h lots lot i e x b kept plain place side comes true bounced g ne =
    let m = w.machine in
    let fx = (driver_of w h.0).fixed in
    let y = place_at fx e x in
    let s = in_slot_at sc f w h lots lot i e y b place.entry bounced (device_on fx e x place.on) in
    none_in_block m.size (y / m.size) (queue_of m g) b.flat.world.machine.block_size (queues_fit sc f w g b.flat)
    (λ z same.
    let on = slot_whole sc f w s.k y z b.flat s.on (sym same) in
    let few = (entry_in (length m.cache.ram) fx lot i e (member_lot sc f w h lots lot b) place.entry).slot s.k s.slot in
    let over = slot_slots sc s.k z (subst (λ (n : ℕ). s.k < n) (ap (λ (j : DriverConfig). j.slots) (fixed_is sc f w h b.flat b.lt)) few.few) on in
    (slot_calm sc f w h lots lot i e s.k z b kept place.entry side bounced s.slot on over).none g)
alone_so sc f w h lots lot i e x b kept plain place side comes false direct g ne =
    let m = w.machine in
    let fx = (driver_of w h.0).fixed in
    let here = direct_same fx e x direct place.on in
    let is_in = member_lot sc f w h lots lot b in
    let bounce = all_at (BouncesSo fx lot.kind lot.list.dir lot.chan) lot.list.entries e is_in.bounce (at_get lot.list.entries i e place.entry) in
    subst (λ (y : ℕ). list_any (gives_block m y) (queue_of m g) ≡ false) (sym here)
    (none_in_block m.size (x / m.size) (queue_of m g) b.flat.world.machine.block_size (queues_fit sc f w g b.flat)
    (λ z same.
    let on = whole_range fx lot e m.size x z b.flat.world.machine.block_size (sizes sc f w h b.flat b.lt) bounce plain direct comes same place.on in
    let inside : z < sc.ram = omega (arith, (entry_in (length m.cache.ram) fx lot i e is_in place.entry).range.ends, covers-high e.span z on, b.flat.world.of_scenario.ram) in
    let row = own_row w h lot i z (byte f z) side (subst (λ (o : Owner). Row (book_of w) o (byte f z) m z) (member_owner sc f w h lots lot i e z b place.entry on) (b.flat.bytes.rows z inside (member_beside sc f w h lots lot i e z b plain place.entry on).1)) in
    row.quiet.others g ne))

pub dir_make : (d : Dir) (r s : Type 0) → (comes_back d ≡ false → r) → (comes_back d ≡ true → s) → ByDir d r s
dir_make ToDev r s first second = first refl
dir_make Both r s first second = second refl
dir_make FromDev r s first second = second refl

pub ready_so : (sc : Scenario) (f : List ℕ) (w : WorldState) (h : HartNo) (lots : List Lot) (lot : Lot) (i : ℕ) (e : Entry) (x : ℕ) (ahead : List QueueEntry) → IsMember sc f w h lots lot → AreKept w h lots → IsPlace lot i e x → IsReadySide lot
    → ((y : ℕ) → e.bounced ≡ true → covers (device_of (driver_of w h.0).fixed e) y ≡ true → list_any (gives_here w.machine y) ahead ≡ true) → (t : Bool) → e.bounced ≡ t → IsReady w.machine x (place_at (driver_of w h.0).fixed e x) ahead
ready_so sc f w h lots lot i e x ahead b kept place side stores true bounced =
    let fx = (driver_of w h.0).fixed in
    let y = place_at fx e x in
    let over = device_on fx e x place.on in
    let s = in_slot_at sc f w h lots lot i e y b place.entry bounced over in
    inr (slot_calm sc f w h lots lot i e s.k y b kept place.entry side bounced s.slot s.on s.over, stores y bounced over)
ready_so sc f w h lots lot i e x ahead b kept place side stores false direct = inl (sym (direct_same (driver_of w h.0).fixed e x direct place.on))

-- the second of two where the first does not hold
pub either_false : (t : Bool) (p q : Type 0) → t ≡ false → q → Either t p q
either_false true p q is x = absurd cc
either_false false p q is x = x

pub either_second : (t : Bool) (p q : Type 0) → t ≡ false → Either t p q → q
either_second true p q is x = absurd cc
either_second false p q is x = x

pub lend_opens : (sc : Scenario) (f : List ℕ) (w : WorldState) (h : HartNo) (o : Op) (went : Went) (lots : List Lot) (lot : Lot) → IsBase sc f w h lots lot → is_area lot.kind ≡ false → IsReadySide lot
    → IsTurn w h o went lots lot sides.Lending (lend_steps (driver_of w h.0).fixed lot)
    → Opens sc f w h o went lots lot sides.Lending (lend_steps (driver_of w h.0).fixed lot)
lend_opens sc f w h o went lots lot b plain side turn =
    let m = w.machine in
    let d = driver_of w h.0 in
    let fx = d.fixed in
    let now = set_side sides.Lending lot.id lots in
    let plan = lend_steps fx lot in
    let planned = base_planned sc f w h lots lot b plain in
    let writes_so = writing sc f w h b.flat b.lt in
    let size = sizes sc f w h b.flat b.lt in
    let z = b.flat.world.machine.block_size in
    let k : Lends fx now (turned_lot sides.Lending lot) plan =
    lend_so fx now (turned_lot sides.Lending lot) (hand_set fx sides.Lending false lots lot b.here plain b.others) (set_others (IsStill fx) sides.Lending lot.id lots b.others) (set_named sides.Lending lot.id lots) (record { size = planned.size; some = planned.some; off = planned.off; slots = planned.slots; buffers = planned.buffers }) writes_so in
    base_opens sc f w h o went lots lot sides.Lending plan b turn (record {
      of_plan = k.plan;
      ends_it = λ lent. lend_lends fx lot;
      goes = k.goes;
      unsent = ready_unsent lot side;
      row = λ i e x v there place c known rest row.
          let n = map_id h lot.id i in
          let l = loan_for fx h lot i e in
          let y = place_at fx e x in
          let p = sg.part_of lot.list.dir fx.slots_at e in
          let ahead : ahead_of c n l ≡ coming n lot.id plan = ap (λ (ss : List Step). coming n lot.id ss) rest in
          let entry : IsEntryOfLot n lot = record { label = refl; from = omega arith; before = omega (arith, slice_get_within lot.list.entries i e place.entry) } in
          let at = place_is fx lot i e x place.entry place.on in
          let none = none_named sc f w h lots lot n b.flat b.lt b.kept (λ other k named. base_entry sc f w h lots lot other n b k named (own_entry h lot i e place.entry)) (ready_unsent lot side) in
          let own = own_row w h lot i x v side row in
          let ready = subst (λ (es : List QueueEntry). IsReady m x y es) (sym ahead)
          (ready_so sc f w h lots lot i e x (coming n lot.id plan) (member_of sc f w h lots lot b) b.kept place side (λ u bounced over. subst (λ (s : ℕ). list_any (gives_at s u) (coming n lot.id plan) ≡ true) size (k.stores i e u place.entry bounced over n)) e.bounced refl) in
          let to = subst (λ (es : List QueueEntry). LendsAhead (gives_here m y) (back m y) n es) (sym ahead) (plans_lend.to fx lot n p m y z size writes_so entry at) in
          let from = subst (λ (es : List QueueEntry). LendsAhead (gives_block m y) (back m y) n es) (sym ahead) (plans_lend.from fx lot n p m y z size writes_so entry at) in
          subst (λ (q : Option Loan). LentRow c n q v m x) (sym known)
          (either_false (is_area lot.kind) _ _ plain
          (dir_make lot.list.dir (LendingTo n v (ahead_of c n l) m x y) (LendingFrom n v (ahead_of c n l) m x y)
          (λ stays. rows_begin.lend_to m n v x y (ahead_of c n l) none to ready own)
          (λ comes. rows_begin.lend_from m n v x y (ahead_of c n l) none from ready (alone_so sc f w h lots lot i e x (member_of sc f w h lots lot b) b.kept plain place side comes e.bounced refl) own)));
      shown = λ i e x place c known. inl (elim side [
        | inl wanted ↦ ap (λ (s : Side). seen_at (book_of w) (owner_of_side (map_id h lot.id i) s) x) wanted
        | inr synced ↦ ap (λ (s : Side). seen_at (book_of w) (owner_of_side (map_id h lot.id i) s) x) synced
      ]);
    })
