-- A step of a plan: the bytes of flat memory stand behind it, where its rows, its queue and its slots do.
use Rattle.std.specs.Prelude.{Option, Some, None, All, ◌/◌, true, false, slice_get}
use Rattle.std.specs.List.{list_any}
use Rattle.std.proofs.Common.{◌≡◌, ◌≢◌, ◌⊎◌, ℕ, ◌<◌, List, ◌∷◌, length, refl, sym, ap, ◌∙◌, inl, inr, subst, arith}
use Rattle.std.proofs.lemmas.Bool.{cases_Bool, both_ways, false_from_ne_true}
use Rattle.nc_num.specs.Memory.{byte}
use Rattle.nc_num.specs.Places.{block_at, covers}
use Rattle.nc_num.specs.declared.names.HartNo.{HartNo}
use Rattle.nc_num.specs.declared.names.MapId.{MapId}
use Rattle.nc_num.specs.declared.names.MemType.{MemType}
use Rattle.nc_num.specs.declared.places.Span.{Span}
use Rattle.nc_plan.specs.Plans.{In}
use Rattle.nc_queue.specs.declared.entry.Entry.{Entry as QueueEntry}
use Rattle.nc_model.specs.declared.owners.Owner.{Owner}
use Rattle.nc_model.specs.declared.owners.Owner.TheVariants.{Thread}
use Rattle.nc_ops.specs.declared.ops.Op.{Op}
use Rattle.nc_scen.specs.Regions.{pool_of, slots_of}
use Rattle.nc_scen.specs.declared.scenario.Scenario.{Scenario}
use Rattle.nc_sg.specs.declared.list.Entry.{Entry}
use Rattle.nc_rules.specs.declared.lots.Lot.{Lot}
use Rattle.nc_rules.specs.declared.steps.Step.{Step}
use Rattle.nc_rules.specs.declared.lots.Side.{Side}
use Rattle.nc_rules.specs.Lots.{owner_of_side}
use Rattle.nc_rules.specs.Machine.{MachineState, hart_of, queue_of}
use Rattle.nc_rules.specs.Turns.{is_area}
use Rattle.nc_rules.specs.Driver.{Went}
use Rattle.nc_rules.specs.EventTouches.{owner_of}
use Rattle.nc_rules.specs.World.{WorldState, driver_of}
use Rattle.nc_calls.specs.MachineLaws.{SameShape}
use Rattle.nc_calls.specs.PlaceLaws.{NotHeld, Loads}
use Rattle.nc_rows.specs.Ahead.{is_full, sending}
use Rattle.nc_rows.specs.Places.{CalmRow}
use Rattle.nc_rows.specs.Rows.{Loan, Row}
use Rattle.nc_rows.specs.Parts.{IsQueued, MayBeHeld, rest_last, LastIs}
use Rattle.nc_row_issues.specs.Laws.{Enters}
use Rattle.nc_holds.proofs.lists.Members.{same_some}
use Rattle.nc_flatness.specs.Books.{is_entry_of, loan_of, book_of, mapping_in, LiesIn, IsPooled}
use Rattle.nc_flatness.specs.Copying.{IsItsOwn}
use Rattle.nc_flatness.specs.Flatness.{IsUnseen, BytesStand, Flatness}
use Rattle.nc_flatness.specs.Tokens.{TokenStands}
use Rattle.nc_flatness.proofs.worlds.Outcomes.{gone}
use Rattle.nc_flatness.proofs.books.Loans.{one_of, loan_is}
use Rattle.nc_flatness.proofs.books.Owned.{of_buffer, owned_ram}
use Rattle.nc_flat_starts.proofs.turning.Frames.{IsPlace, IsOff, On, Off, somewhere, Rewrites, rewrites_none, GoesBy, Turns, loan_hart}
use Rattle.nc_flat_starts.proofs.turning.TurnBytes.{turn_bytes}
use Rattle.nc_flat_plans.proofs.drivers.Drivers.{IsNext, IsDone, plan_silent}
use Rattle.nc_flat_plans.proofs.places.Places.{IsMoving, IsUnder, its_id, its_loan, known, owned, mapping_of, unslotted, unpooled, beside, far_entry, area_named, WaitsAt, StillAt, along, along_waits, still_other, along_still}
use Rattle.nc_flat_plans.proofs.drivers.OwnCopies.{SameChannels, channel_same, grantee_same, own_copy}
use Rattle.nc_flat_plans.proofs.places.Besides.{aside}
use Rattle.nc_flat_plans.proofs.drivers.Shifts.{IsShift}

-- ---- the turn of a step

pub driven : (sc : Scenario) (f : List ℕ) (w : WorldState) (h : HartNo) (lot : Lot) → IsUnder sc f w h lot → h.0 < length w.drivers
driven sc f w h lot u = omega (arith, u.lt, u.flat.world.of_scenario.harts, u.flat.world.holds.drivers)

-- what a mapping of the lot is behind it
pub known_now : (sc : Scenario) (f : List ℕ) (w : WorldState) (h : HartNo) (k : MachineState) (went : Went) (lot : Lot) (to : MapId → Owner) (i : ℕ) (e : Entry) → IsUnder sc f w h lot → IsShift w h went lot to → (mapping_in (to (its_id h lot i)) ≡ None → ⊥)
    → slice_get lot.list.entries i ≡ Some e → (book_of (gone w h k went)).loan (its_id h lot i) ≡ Some (its_loan w h lot i e)
known_now sc f w h k went lot to i e u shift mapped at = elim (shift.own i) [
  | inl none ↦ absurd (mapped none)
  | inr same ↦ loan_hart w h k went (its_id h lot i) (driven sc f w h lot u) refl ∙ same ∙ known sc f w h lot i e u at
]

-- another area of the hart stays
area_stays : (sc : Scenario) (f : List ℕ) (w : WorldState) (h : HartNo) (went : Went) (lot : Lot) (to : MapId → Owner) (x : ℕ) (k : MapId) (l : Loan) → IsUnder sc f w h lot → IsShift w h went lot to → IsOff lot x → k.hart.0 ≡ h.0 → (book_of w).loan k ≡ Some l
    → covers l.grant.buffer x ≡ true → loan_of went.driver k ≡ Some l
area_stays sc f w h went lot to x k l u shift off own lent on =
    let is = loan_is sc f w k l u.flat lent in
    let here : In is.lot (driver_of w h.0).lots = subst (λ (g : ℕ). In is.lot (driver_of w g).lots) own is.here.lot_in in
    let far : is_entry_of k lot ≡ false = false_from_ne_true (is_entry_of k lot) (λ too.
    let one : is.lot ≡ lot = one_of sc f w h.0 k is.lot lot u.flat here u.here is.entry_of too in
    off is.i is.entry (record { entry = subst (λ (a : Lot). slice_get a.list.entries is.i ≡ Some is.entry) one is.here.entry; on = of_buffer w k l x is on })) in
    shift.others k far ∙ ap (λ (g : ℕ). loan_of (driver_of w g) k) (sym own) ∙ lent

-- ---- the copy in hand

-- a place of its ends has its byte
copy_bytes : (sc : Scenario) (f g : List ℕ) (w : WorldState) (h : HartNo) (lot : Lot) → IsUnder sc f w h lot → Rewrites sc f g w h lot → (is_area lot.kind ≡ false → g ≡ f) → (x : ℕ) (n : MapId) → mapping_in (owner_of w x) ≡ Some n → n.hart.0 ≡ h.0 → n.label.0 ≡ 1000 → byte g x ≡ byte f x
copy_bytes sc f g w h lot u writes same x n is own end = elim (somewhere lot x) [
  | On i e p ↦ elim (cases_Bool (is_area lot.kind)) [
    | inl area ↦
        let both : Some (its_id h lot i) ≡ Some n = sym (mapping_of sc f w h lot i e x u p) ∙ is in
        let same : its_id h lot i ≡ n = cc in
        absurd (area_named sc f w h lot u area (ap (λ (j : MapId). j.label.0) same ∙ end))
    | inr plain ↦ ap (λ (b : List ℕ). byte b x) (same plain)
  ]
  | Off off ↦ writes.beside x (owned_ram sc f w x n u.flat is) off
]

-- the loan of what waits is of no area
waiting_plain : (sc : Scenario) (f : List ℕ) (w : WorldState) (h : HartNo) (lot : Lot) (n : MapId) (x : ℕ) (l : Loan) → (at : WaitsAt w h lot x) → mapping_in (owner_of w x) ≡ Some n → n.hart.0 ≡ h.0 → loan_of (driver_of w h.0) n ≡ Some l → l.area ≡ false
waiting_plain sc f w h lot n x l at is own known =
    let it = at.other.at in
    let both : Some at.id ≡ Some n = sym at.mapped ∙ is in
    let same : at.id ≡ n = cc in
    let here : (book_of w).loan at.id ≡ Some l = ap (λ (j : MapId). (book_of w).loan j) same ∙ ap (λ (g : ℕ). loan_of (driver_of w g) n) own ∙ known in
    let loan : it.loan ≡ l = same_some it.loan l (sym it.known ∙ here) in
    sym (ap (λ (j : Loan). j.area) loan) ∙ it.is.area ∙ at.plain

-- the rows, the queue, the slots and the coherent pool behind it, where flat memory is g
pub record IsBehind (sc : Scenario) (f g : List ℕ) (w : WorldState) (h : HartNo) (k : MachineState) (went : Went) (lot : Lot) (to : MapId → Owner) : Type 0 where
  pub passes : (x v : ℕ) → x < sc.ram → covers (slots_of sc) x ≡ false → IsOff lot x → StillAt w h lot x → Row (book_of w) (owner_of w x) v w.machine x → Row (book_of w) (owner_of w x) v k x
  pub waits : (x : ℕ) → x < sc.ram → covers (slots_of sc) x ≡ false → IsOff lot x → WaitsAt w h lot x → Row (book_of w) (owner_of w x) (byte f x) w.machine x → Row (book_of (gone w h k went)) (owner_of w x) (byte f x) k x
  pub row : (i : ℕ) (e : Entry) (x : ℕ) → IsPlace lot i e x → Row (book_of w) (owner_of w x) (byte f x) w.machine x → Row (book_of (gone w h k went)) (to (its_id h lot i)) (byte g x) k x
  pub channels : SameChannels w.machine k h.0
  -- an area's zeros alone are a write of flat memory
  pub same : is_area lot.kind ≡ false → g ≡ f
  pub queue : All (IsQueued (book_of (gone w h k went)) (owner_of (gone w h k went)) k.pool k.size h.0) (queue_of k h.0)
  pub lasting : LastIs (book_of (gone w h k went)) g h.0 (hart_of k h.0).last (rest_last went.driver.rest)
  pub calm : (z : ℕ) → covers (slots_of sc) z ≡ true → IsUnseen (book_of (gone w h k went)) (owner_of (gone w h k went)) (slots_of sc) z → CalmRow k z
  pub tokens : went.driver.fixed.light ≡ true → All (TokenStands went.driver.rest (queue_of k h.0)) went.driver.lots
  pub pooled : (i : ℕ) (e : Entry) (x : ℕ) → IsPlace lot i e x → covers (pool_of sc) x ≡ true → IsPooled (book_of (gone w h k went)) (to (its_id h lot i)) x
  pub free : (i : ℕ) (e : Entry) (x : ℕ) → IsPlace lot i e x → covers (pool_of sc) x ≡ true → NotHeld k x ⊎ MayBeHeld (book_of (gone w h k went)) (to (its_id h lot i))

-- the hart's own stays so
own_stays : (sc : Scenario) (f : List ℕ) (w : WorldState) (h : HartNo) (k : MachineState) (went : Went) (lot : Lot) (to : MapId → Owner) (x : ℕ) → IsUnder sc f w h lot → IsShift w h went lot to → IsItsOwn h.0 (owner_of w x) → IsItsOwn h.0 (owner_of (gone w h k went) x)
own_stays sc f w h k went lot to x u shift is = elim (somewhere lot x) [
  | On i e p ↦
      let end : lot.id.label.0 ≡ 1000 = its_label (its_id h lot i) lot.side u.moves (subst (λ (o : Owner). IsItsOwn h.0 o) (owned sc f w h lot i e x u p) is) in
      subst (λ (o : Owner). IsItsOwn h.0 o) (sym (shift.on i e x p)) (shift.its i end)
  | Off off ↦ subst (λ (o : Owner). IsItsOwn h.0 o) (sym (shift.off x off)) is
]
  where
    its_label : (n : MapId) (side : Side) → IsMoving side → IsItsOwn h.0 (owner_of_side n side) → n.label.0 ≡ 1000
    its_label n side (inl lends) own = (subst (λ (s : Side). IsItsOwn h.0 (owner_of_side n s)) lends own).1
    its_label n side (inr (inl backs)) own = (subst (λ (s : Side). IsItsOwn h.0 (owner_of_side n s)) backs own).1
    its_label n side (inr (inr has)) own = (subst (λ (s : Side). IsItsOwn h.0 (owner_of_side n s)) has own).1

turns_so : (sc : Scenario) (f g : List ℕ) (w : WorldState) (h : HartNo) (o : Op) (s : Step) (rest : List Step) (k : MachineState) (went : Went) (lot : Lot) (to : MapId → Owner) → IsNext sc f w h o s rest → IsDone (driver_of w h.0) s rest went → IsUnder sc f w h lot
    → IsShift w h went lot to → Rewrites sc f g w h lot → IsBehind sc f g w h k went lot to → Turns sc f g w h k went lot to
turns_so sc f g w h o s rest k went lot to next done u shift writes b =
    let d = driver_of w h.0 in
    record {
      on = λ i e x there p. shift.on i e x p;
      off = shift.off;
      unslotted = λ i e x p. unslotted sc f w h lot i e x u p;
      mine = λ i e x n p is. let both : Some (its_id h lot i) ≡ Some n = sym (mapping_of sc f w h lot i e x u p) ∙ is in let same : its_id h lot i ≡ n = cc in ap (λ (j : MapId). j.hart.0) (sym same);
      threads = λ i e x n p is. absurd (
          let both : mapping_in (Thread n) ≡ Some (its_id h lot i) = ap mapping_in (sym is) ∙ mapping_of sc f w h lot i e x u p in
          let none : ◌≡◌ {A = Option MapId} None (Some (its_id h lot i)) = both in cc);
      along = along w h;
      others = λ x n there off is own.
          let other = beside sc f w h lot n x u there off is own in
          (shift.others n (far_entry sc f w h lot n x u other), λ none. aside sc f w h o s rest went lot n x next done u other (still_other sc f w h lot n x u other none) none own);
      goes_along = λ x n there out off is own goes.
          let at = along_waits sc f w h lot n x u there off is own goes in
          record {
            plain = λ l known. waiting_plain sc f w h lot n x l at is own known;
            row = λ row. b.waits x there out off at row;
          };
      areas = λ x n l off own lent area on. area_stays sc f w h went lot to x n l u shift off own lent on;
      pooled = b.pooled;
      free = b.free;
      silent = λ b.
          ap (λ (r : List Step). sending b r) done.rest ∙ plan_silent d.fixed _ rest b next.left
          ∙ sym (ap (λ (r : List Step). sending b r) next.rest_is ∙ plan_silent d.fixed d.lots (s ∷ rest) b next.plan);
      fixed = done.fixed;
      drives = done.drives;
      lasting = b.lasting;
      queue = b.queue;
      tokens = b.tokens;
      passes = λ x v there out off none row. b.passes x v there out off (along_still sc f w h lot x u there off none) row;
      copying = own_copy sc f g w h o s rest k went next done b.channels (λ x is. own_stays sc f w h k went lot to x u shift is) (copy_bytes sc f g w h lot u writes b.same);
      lies = λ i e x n there p is.
          let n_is = its_id h lot i in
          let now = known_now sc f w h k went lot to i e u shift (λ none. let both : None ≡ Some n = sym none ∙ is in cc) p.entry in
          subst (λ (j : MapId). LiesIn ((book_of (gone w h k went)).loan j) x) (shift.names n_is n is) (subst (λ (l : Option Loan). LiesIn l x) (sym now) p.on);
      row = λ i e x there p row. b.row i e x p row;
      calm = b.calm;
    }

pub behind_bytes : (sc : Scenario) (f g : List ℕ) (w : WorldState) (h : HartNo) (o : Op) (s : Step) (rest : List Step) (k : MachineState) (went : Went) (lot : Lot) (to : MapId → Owner) → IsNext sc f w h o s rest → IsDone (driver_of w h.0) s rest went → IsUnder sc f w h lot
    → IsShift w h went lot to → Rewrites sc f g w h lot → GoesBy w h k → IsBehind sc f g w h k went lot to → BytesStand sc g (gone w h k went)
behind_bytes sc f g w h o s rest k went lot to next done u shift writes by b =
    turn_bytes sc f g w h k went lot to u.flat (driven sc f w h lot u) writes by (turns_so sc f g w h o s rest k went lot to next done u shift writes b)

-- a mapping has no place of the pool, and no step of its plan is a write of flat memory
pub record IsMappedBehind (sc : Scenario) (f : List ℕ) (w : WorldState) (h : HartNo) (k : MachineState) (went : Went) (lot : Lot) (to : MapId → Owner) : Type 0 where
  pub passes : (x v : ℕ) → x < sc.ram → covers (slots_of sc) x ≡ false → IsOff lot x → StillAt w h lot x → Row (book_of w) (owner_of w x) v w.machine x → Row (book_of w) (owner_of w x) v k x
  pub waits : (x : ℕ) → x < sc.ram → covers (slots_of sc) x ≡ false → IsOff lot x → WaitsAt w h lot x → Row (book_of w) (owner_of w x) (byte f x) w.machine x → Row (book_of (gone w h k went)) (owner_of w x) (byte f x) k x
  pub row : (i : ℕ) (e : Entry) (x : ℕ) → IsPlace lot i e x → Row (book_of w) (owner_of w x) (byte f x) w.machine x → Row (book_of (gone w h k went)) (to (its_id h lot i)) (byte f x) k x
  pub channels : SameChannels w.machine k h.0
  pub queue : All (IsQueued (book_of (gone w h k went)) (owner_of (gone w h k went)) k.pool k.size h.0) (queue_of k h.0)
  pub lasting : LastIs (book_of (gone w h k went)) f h.0 (hart_of k h.0).last (rest_last went.driver.rest)
  pub calm : (z : ℕ) → covers (slots_of sc) z ≡ true → IsUnseen (book_of (gone w h k went)) (owner_of (gone w h k went)) (slots_of sc) z → CalmRow k z
  pub tokens : went.driver.fixed.light ≡ true → All (TokenStands went.driver.rest (queue_of k h.0)) went.driver.lots

pub step_bytes : (sc : Scenario) (f : List ℕ) (w : WorldState) (h : HartNo) (o : Op) (s : Step) (rest : List Step) (k : MachineState) (went : Went) (lot : Lot) (to : MapId → Owner) → IsNext sc f w h o s rest → IsDone (driver_of w h.0) s rest went → IsUnder sc f w h lot
    → is_area lot.kind ≡ false → IsShift w h went lot to → GoesBy w h k → IsMappedBehind sc f w h k went lot to → BytesStand sc f (gone w h k went)
step_bytes sc f w h o s rest k went lot to next done u plain shift by b =
    behind_bytes sc f f w h o s rest k went lot to next done u shift (rewrites_none sc f w h lot) by (record {
      passes = b.passes;
      waits = b.waits;
      row = b.row;
      channels = b.channels;
      same = λ plain. refl;
      queue = b.queue;
      lasting = b.lasting;
      calm = b.calm;
      tokens = b.tokens;
      pooled = λ i e x p over. absurd (both_ways (covers (pool_of sc) x) (unpooled sc f w h lot i e x u plain p) over);
      free = λ i e x p over. absurd (both_ways (covers (pool_of sc) x) (unpooled sc f w h lot i e x u plain p) over);
    })

-- ---- the machine

pub enters_by : (sc : Scenario) (f : List ℕ) (w : WorldState) (h : HartNo) (k : MachineState) (e : QueueEntry) → Flatness sc f w → Enters w.machine k h.0 e → is_full e ≡ false → GoesBy w h k
enters_by sc f w h k e flat by plain = record {
  size = by.shape.size;
  pool = by.shape.pool;
  queues = by.pushes.queues.others;
  lasts = λ g ne. ap (λ j. j.last) (by.pushes.others g ne);
  unfenced = by.pushes.queues.none is_full h.0 plain (flat.bytes.unfenced h.0);
  free = λ x over free. (by.pushes.places x).line ∙ free;
  channels = λ c g granted ne. (channel_same w.machine k c by.pushes.devices, grantee_same w.machine k c by.pushes.devices ∙ granted);
}

pub loads_by : (sc : Scenario) (f : List ℕ) (w : WorldState) (h : HartNo) (k : MachineState) (span : Span) (kind : MemType) → Flatness sc f w → SameShape w.machine k → Loads w.machine k h.0 span kind
    → ((x : ℕ) → covers w.machine.pool x ≡ true → x / w.machine.size ≢ block_at span.at w.machine.size) → GoesBy w h k
loads_by sc f w h k span kind flat shape loads away = record {
  size = shape.size;
  pool = shape.pool;
  queues = λ g ne. loads.queues g;
  lasts = λ g ne. ap (λ j. j.last) (loads.others g ne);
  unfenced = ap (list_any is_full) (loads.queues h.0) ∙ flat.bytes.unfenced h.0;
  free = λ x over free. (loads.apart x (λ pma. away x over)).line ∙ free;
  channels = λ c g granted ne. (channel_same w.machine k c loads.devices, grantee_same w.machine k c loads.devices ∙ granted);
}
