-- A block of an area that is allocated is zeroed, or flushed.
use Rattle.std.specs.Prelude.{Option, Some, None, unwrap_or, ◌/◌, ◌==◌, true, false}
use Rattle.std.specs.List.{list_any}
use Rattle.std.proofs.Common.{◌≡◌, ◌≢◌, ℕ, ◌+◌, ◌*◌, ◌<◌, ◌≤◌, List, [], ◌∷◌, ◌++◌, length, replicate, refl, sym, ap, ◌∙◌, inl, inr, subst, arith}
use Rattle.std.proofs.lemmas.Bool.{cases_Bool, cases_eq, both_ways, or_parts, cond-false, eqb-true, false_from_ne_true, ne_eqb}
use Rattle.nc_num.specs.Memory.{byte}
use Rattle.nc_num.specs.Places.{covers}
use Rattle.nc_num.specs.declared.names.HartNo.{HartNo}
use Rattle.nc_num.specs.declared.names.MapId.{MapId}
use Rattle.nc_num.specs.declared.places.Block.{Block}
use Rattle.nc_env.specs.declared.CboOp.TheVariants as cbos
use Rattle.nc_plan.specs.declared.ops.HartOp.TheVariants as hart_ops
use Rattle.nc_queue.specs.Entries.{entry_gives, has_op, is_zero}
use Rattle.nc_queue.specs.declared.entry.Entry.{Entry as QueueEntry}
use Rattle.nc_queue.specs.declared.entry.Entry.TheVariants as entries
use Rattle.nc_lines.specs.Lines.{bare}
use Rattle.nc_model.specs.Flat.{named, written}
use Rattle.nc_model.proofs.FlatLaws.{length-written}
use Rattle.nc_ops.specs.declared.ops.Op.{Op}
use Rattle.nc_scen.specs.Regions.{pool_of, slots_of}
use Rattle.nc_scen.specs.declared.events.Event.TheVariants as events
use Rattle.nc_scen.specs.declared.scenario.Scenario.{Scenario}
use Rattle.nc_sg.specs.declared.list.Entry.{Entry}
use Rattle.nc_rules.specs.declared.lots.Lot.{Lot}
use Rattle.nc_rules.specs.declared.lots.LotId.{LotId}
use Rattle.nc_rules.specs.declared.lots.Side.TheVariants as sides
use Rattle.nc_rules.specs.declared.steps.Step.{Step}
use Rattle.nc_rules.specs.Lots.{owner_of_side}
use Rattle.nc_rules.specs.Machine.{MachineState, hart_of}
use Rattle.nc_rules.specs.Turns.{is_area}
use Rattle.nc_rules.specs.Calls.{issue_next}
use Rattle.nc_rules.specs.Driver.{Went, is_script}
use Rattle.nc_rules.specs.EventTouches.{owner_of}
use Rattle.nc_rules.specs.World.{WorldState, driver_of}
use Rattle.nc_rows.specs.Ahead.{turns_lot, stores_io, tokens_lot, ends, is_full, settling, act_coming}
use Rattle.nc_rows.specs.Parts.{IsQueued, IsZeroed, rest_last}
use Rattle.nc_rows.specs.Rows.{AllocatingRow, Row}
use Rattle.nc_row_issues.specs.Laws.{Enters, NoByte, NoBlock}
use Rattle.nc_row_issues.proofs.PlacePushes.{calm_pushed}
use Rattle.nc_row_issues.proofs.RowIssues.{rows_issue}
use Rattle.nc_row_plans.specs.Laws.{Zeroes}
use Rattle.nc_row_plans.proofs.PlanEnds.{rows_plan}
use Rattle.nc_flatness.specs.Books.{book_of, mapping_in}
use Rattle.nc_flatness.specs.Flatness.{BytesStand}
use Rattle.nc_flatness.specs.Plans.{IsZero, IsFlush}
use Rattle.nc_flatness.specs.Steps.{Goes}
use Rattle.nc_flatness.proofs.worlds.FlatBytes.{byte_zeroed}
use Rattle.nc_flatness.proofs.plans.Lasts.{last_stays}
use Rattle.nc_flatness.proofs.worlds.Outcomes.{gone}
use Rattle.nc_flatness.proofs.books.Owned.{owned_ram}
use Rattle.nc_flatness.proofs.plans.Rests.{settling_ends, behind}
use Rattle.nc_flatness.proofs.books.Seen.{seen, seen_ways, slotted_in, seen_lent}
use Rattle.nc_flat_starts.proofs.turning.Frames.{IsPlace, IsOff, Rewrites, rest_hart, last_none}
use Rattle.nc_flat_plans.proofs.places.OwnRows.{same_full}
use Rattle.nc_flat_plans.proofs.places.Passes.{IsPlain, IsClear, passes_by, op_plain, writes_whole}
use Rattle.nc_flat_plans.proofs.drivers.Drivers.{IsNext, IsDone, done_so, coming_next, settling_next}
use Rattle.nc_flat_plans.proofs.areas.PoolPlaces.{slot_unpooled}
use Rattle.nc_flat_plans.proofs.places.Places.{IsUnder, lends_under, its_id, its_loan, mapping_of, pooled, area_alone}
use Rattle.nc_flat_plans.proofs.places.Besides.{posted_beside}
use Rattle.nc_flat_plans.proofs.drivers.OwnCopies.{channels_entered}
use Rattle.nc_flat_plans.proofs.drivers.Shifts.{sided, seen_mapped, held, IsStay, stay_shift}
use Rattle.nc_flat_plans.proofs.light.StepTokens.{IsUntokened, same_entered, kept_tokens}
use Rattle.nc_flat_plans.proofs.drivers.StepFrames.{driven, known_now, enters_by, behind_bytes}
use Rattle.nc_flat_plans.proofs.drivers.StepQueues.{stays_dropped, stays_zeroed, queue_stays, queue_more}
use Rattle.nc_flat_plans.proofs.drivers.StepSeen.{area_unseen}
use Rattle.nc_flat_plans.proofs.places.OwnPlaces.{to_come}
use Rattle.nc_flat_plans.proofs.areas.AreaRows.{allocating_as, as_allocating, may_hold, area_is_pooled}
use Rattle.nc_flat_plans.proofs.drivers.Issues.{IsOpNext, op_there, op_enters, kept_silent, went_by, op_goes, zero_goes}

-- ---- an entry of the plan of an area that is allocated

-- what it does to the places of the area and to flat memory, which is g behind it, and to those beside
pub record IsAreaPut (sc : Scenario) (f g : List ℕ) (w : WorldState) (h : HartNo) (o : Op) (s : Step) (rest : List Step) (e : QueueEntry) (lot : Lot) : Type 0 where
  pub next : IsNext sc f w h o s rest
  pub under : IsUnder sc f w h lot
  pub area : is_area lot.kind ≡ true
  pub side : lot.side ≡ sides.Lending
  pub stay : IsStay s
  pub ends_none : (id : LotId) → ends id s ≡ false
  pub entry : act_coming s.act ≡ bare e ∷ []
  pub settles : settling lot.id rest ≡ true
  pub last : rest_last rest ≡ None
  pub plain : IsPlain e
  pub token : IsUntokened e
  pub puts : (i : ℕ) (d : Entry) (x : ℕ) → IsPlace lot i d x → Zeroes w.machine e x (to_come h lot i rest)
  pub clear : (x : ℕ) → x < sc.ram → covers (slots_of sc) x ≡ false → IsOff lot x → IsClear (book_of w) (owner_of w x) w.machine h.0 e x
  pub slots : (z : ℕ) → covers (slots_of sc) z ≡ true → NoByte w.machine e z
  pub size : length g ≡ length f
  pub bytes : (x : ℕ) → byte g x ≡ unwrap_or (entry_gives w.machine.size e x) (byte f x)

-- what is to come of it before the step
area_comes : (sc : Scenario) (f g : List ℕ) (w : WorldState) (h : HartNo) (o : Op) (s : Step) (rest : List Step) (e : QueueEntry) (lot : Lot) (i : ℕ) → IsAreaPut sc f g w h o s rest e lot → to_come h lot i (s ∷ rest) ≡ bare e ∷ to_come h lot i rest
area_comes sc f g w h o s rest e lot i c =
    coming_next lot (its_id h lot i) s rest (settling_ends lot.id rest c.settles) (c.ends_none lot.id) ∙ ap (λ (es : List QueueEntry). es ++ to_come h lot i rest) c.entry

still_settles : (sc : Scenario) (f g : List ℕ) (w : WorldState) (h : HartNo) (o : Op) (s : Step) (rest : List Step) (e : QueueEntry) (lot : Lot) → IsAreaPut sc f g w h o s rest e lot → settling lot.id (driver_of w h.0).rest ≡ true
still_settles sc f g w h o s rest e lot c = ap (settling lot.id) c.next.rest_is ∙ settling_next lot.id s rest (c.ends_none lot.id) ∙ c.settles

-- a place of another hart's mapping is none of the area
other_off : (sc : Scenario) (f : List ℕ) (w : WorldState) (h : HartNo) (lot : Lot) (x : ℕ) (n : MapId) → IsUnder sc f w h lot → mapping_in (owner_of w x) ≡ Some n → n.hart.0 ≢ h.0 → IsOff lot x
other_off sc f w h lot x n u is other i e p =
    let both : Some (its_id h lot i) ≡ Some n = sym (mapping_of sc f w h lot i e x u p) ∙ is in
    let same : its_id h lot i ≡ n = cc in
    other (ap (λ (j : MapId). j.hart.0) (sym same))

-- no byte beside the area is another
rewrites : (sc : Scenario) (f g : List ℕ) (w : WorldState) (h : HartNo) (o : Op) (s : Step) (rest : List Step) (e : QueueEntry) (lot : Lot) → IsAreaPut sc f g w h o s rest e lot → Rewrites sc f g w h lot
rewrites sc f g w h o s rest e lot c =
    let m = w.machine in
    let u = c.under in
    let beside : (x : ℕ) → x < sc.ram → IsOff lot x → NoByte m e x = λ x there off. elim (cases_Bool (covers (slots_of sc) x)) [
      | inl slot ↦ c.slots x slot
      | inr out ↦ (c.clear x there out off).byte
    ] in
    let same : (x : ℕ) → x < sc.ram → IsOff lot x → byte g x ≡ byte f x = λ x there off. c.bytes x ∙ ap (λ (b : Option ℕ). unwrap_or b (byte f x)) (beside x there off) in
    record {
      size = c.size;
      beside = same;
      pieces = λ j ne is.
          last_stays sc f g w (book_of w) m j u.flat (c.size ∙ u.flat.bytes.flat_size) refl refl (λ n own. refl)
          (λ x n own owner.
          let mapped : mapping_in (owner_of w x) ≡ Some n = elim owner [ inl lending ↦ ap mapping_in lending | inr back ↦ ap mapping_in back ] in
          same x (owned_ram sc f w x n u.flat mapped) (other_off sc f w h lot x n u mapped (λ is_h. ne (sym own ∙ is_h))));
    }

area_row : (sc : Scenario) (f g : List ℕ) (w : WorldState) (h : HartNo) (o : Op) (s : Step) (rest : List Step) (k : MachineState) (went : Went) (e : QueueEntry) (lot : Lot) (i : ℕ) (d : Entry) (x : ℕ) → IsAreaPut sc f g w h o s rest e lot → IsDone (driver_of w h.0) s rest went
    → Enters w.machine k h.0 e → IsPlace lot i d x → Row (book_of w) (owner_of w x) (byte f x) w.machine x → Row (book_of (gone w h k went)) (owner_of_side (its_id h lot i) lot.side) (byte g x) k x
area_row sc f g w h o s rest k went e lot i d x c done by p row =
    let m = w.machine in
    let u = c.under in
    let n = its_id h lot i in
    let ahead = to_come h lot i rest in
    let comes : to_come h lot i (driver_of w h.0).rest ≡ bare e ∷ ahead = ap (λ (r : List Step). to_come h lot i r) c.next.rest_is ∙ area_comes sc f g w h o s rest e lot i c in
    let was = allocating_as sc f w h m lot i d x (byte f x) (bare e ∷ ahead) u c.area p c.side (still_settles sc f g w h o s rest e lot c) comes row in
    let now : AllocatingRow n (byte g x) ahead k x = subst (λ (b : ℕ). AllocatingRow n b ahead k x) (sym (c.bytes x)) (rows_plan.allocate m k e n (byte f x) x ahead u.flat.world.machine by (c.puts i d x p) was) in
    as_allocating sc f w h k went lot i d x (byte g x) rest u c.area p c.side (stay_shift sc f w h went lot s rest u done c.stay) done.rest c.settles now

area_bytes : (sc : Scenario) (f g : List ℕ) (w : WorldState) (h : HartNo) (o : Op) (s : Step) (rest : List Step) (k : MachineState) (went : Went) (e : QueueEntry) (lot : Lot) → IsAreaPut sc f g w h o s rest e lot → IsDone (driver_of w h.0) s rest went
    → Enters w.machine k h.0 e → IsQueued (book_of (gone w h k went)) (owner_of (gone w h k went)) w.machine.pool w.machine.size h.0 e → BytesStand sc g (gone w h k went)
area_bytes sc f g w h o s rest k went e lot c done by queued =
    let m = w.machine in
    let v = gone w h k went in
    let u = c.under in
    let shift = stay_shift sc f w h went lot s rest u done c.stay in
    let full : (i : ℕ) → list_any is_full (to_come h lot i (s ∷ rest)) ≡ list_any is_full (to_come h lot i rest) =
    λ i. ap (list_any is_full) (area_comes sc f g w h o s rest e lot i c) ∙ same_full e (to_come h lot i rest) c.plain.full in
    behind_bytes sc f g w h o s rest k went lot (sided lot.side) c.next done u shift (rewrites sc f g w h o s rest e lot c) (enters_by sc f w h k e u.flat by c.plain.fence) (record {
      passes = λ x b there off beyond still row.
          rows_issue.passed (book_of w) (owner_of w x) b m k h.0 e x by (passes_by (book_of w) (owner_of w x) m h.0 e x c.plain (c.clear x there off beyond) (posted_beside sc f w h lot x u still)) row;
      waits = λ x there off beyond at row. absurd (area_alone sc f w h lot x u c.area at);
      channels = channels_entered m k h.0 e by c.plain.register;
      same = λ plain. absurd (both_ways (is_area lot.kind) plain c.area);
      row = λ i d x p row. area_row sc f g w h o s rest k went e lot i d x c done by p row;
      queue = queue_more (book_of v) (owner_of v) m k h.0 e by queued
          (queue_stays sc f w h k went u.flat (λ b is. stays_dropped sc f w h k went lot s rest b u c.next.rest_is done.rest shift (λ i was. sym (full i) ∙ was) is)
          (λ b is. stays_zeroed sc f w h k went lot s rest b u c.next.rest_is done c.stay c.ends_none is));
      lasting = last_none (book_of v) g h.0 (hart_of k h.0).last (rest_last went.driver.rest) (ap rest_last done.rest ∙ c.last);
      calm = λ z slot unseen. calm_pushed m k h.0 e z by (c.slots z slot) (u.flat.bytes.calm z slot (area_unseen sc f w h k went lot (sided lot.side) z u c.area shift slot unseen));
      pooled = λ i d x p over. area_is_pooled sc f w h k went lot i d x (owner_of_side (its_id h lot i) lot.side) c.area p (known_now sc f w h k went lot (sided lot.side) i d u shift (seen_mapped (its_id h lot i) lot.side (inl c.side)) p.entry);
      tokens = kept_tokens sc f w h o s rest k went c.next done c.stay.first (λ id. (or_parts (turns_lot id s.last) (stores_io (tokens_lot id) s.act) (c.ends_none id)).1) (same_entered m k h e by c.token);
      free = λ i d x p over. inr (may_hold sc f w h k went lot i d x rest u c.area p c.side shift done.rest c.settles);
    })

-- ---- a block is flushed

pub flushed_goes : (sc : Scenario) (f : List ℕ) (w : WorldState) (h : HartNo) (o : Op) (s : Step) (rest : List Step) → IsNext sc f w h o s rest → IsFlush (driver_of w h.0).fixed (driver_of w h.0).lots s rest → Goes sc f w (events.Issue h)
flushed_goes sc f w h o s rest next is =
    let m = w.machine in
    let lot = is.lot in
    let op = hart_ops.Cbo cbos.Flush is.block in
    let e = entries.Cbo is.block cbos.Flush in
    let k : IsOpNext sc f w h o op s rest = record { next = next; act = ap (λ (t : Step). t.act) is.step } in
    let u : IsUnder sc f w h lot = lends_under sc f w h o s rest lot true next is.hand (behind lot.id s rest (settling_ends lot.id rest is.settles)) in
    let put : IsAreaPut sc f f w h o s rest e lot = record {
      next = next;
      under = u;
      area = is.hand.area_is;
      side = is.hand.side_is;
      stay = record { first = ap (λ (t : Step). t.first) is.step; last = ap (λ (t : Step). t.last) is.step };
      ends_none = λ id. ap (ends id) is.step;
      entry = ap act_coming k.act;
      settles = is.settles;
      last = is.next;
      plain = op_plain is.block cbos.Flush;
      token = λ id. refl;
      puts = λ i d x p. record { fits = tt; whole = refl; once = inl refl };
      clear = λ x there out off. record {
        byte = refl;
        device = refl;
        block = λ n l lent known area back. refl;
        area = λ n l owner known area. writes_whole m is.block cbos.Flush x refl;
        token = λ n owner own. refl;
      };
      slots = λ z slot. refl;
      size = refl;
      bytes = λ x. refl;
    } in
    op_goes sc f w h o op s rest k (kept_silent w h (is_script (driver_of w h.0).phase) cbos.Flush is.block refl)
    (area_bytes sc f f w h o s rest (issue_next m h.0 op) (went_by w h op) e lot put (done_so sc f w h o s rest _ next refl refl) (op_enters sc f w h o op s rest e k refl) tt)

-- ---- a block is zeroed

-- beside the block it gives none
zero_byte : (m : MachineState) (block : Block) (x : ℕ) → (x / m.size ≡ block.0 → ⊥) → NoByte m (entries.Cbo block cbos.Zero) x
zero_byte m block x far = cond-false (x / m.size == block.0) (Some 0) None (false_from_ne_true (x / m.size == block.0) (λ t. far (eqb-true (x / m.size) block.0 t)))

zero_block : (m : MachineState) (block : Block) (x : ℕ) → (x / m.size ≡ block.0 → ⊥) → NoBlock m (entries.Cbo block cbos.Zero) x
zero_block m block x far = ne_eqb block.0 (x / m.size) (λ same. far (sym same))

-- its place of the area
record IsZeroNext (sc : Scenario) (f : List ℕ) (w : WorldState) (h : HartNo) (o : Op) (s : Step) (rest : List Step) (is : IsZero (driver_of w h.0).fixed (driver_of w h.0).lots s rest) : Type 0 where
  pub op : IsOpNext sc f w h o (hart_ops.Cbo cbos.Zero is.block) s rest
  pub under : IsUnder sc f w h is.lot
  pub whole : (x : ℕ) → x / w.machine.size ≡ is.block.0 → IsPlace is.lot is.i is.entry x

zero_next : (sc : Scenario) (f : List ℕ) (w : WorldState) (h : HartNo) (o : Op) (s : Step) (rest : List Step) → IsNext sc f w h o s rest → (is : IsZero (driver_of w h.0).fixed (driver_of w h.0).lots s rest) → IsZeroNext sc f w h o s rest is
zero_next sc f w h o s rest next is =
    let u : IsUnder sc f w h is.lot = lends_under sc f w h o s rest is.lot true next is.hand (behind is.lot.id s rest (settling_ends is.lot.id rest is.settles)) in
    let size : (driver_of w h.0).fixed.size ≡ w.machine.size = sym (held sc f w h is.lot u).setting.block in
    record {
      op = record { next = next; act = ap (λ (t : Step). t.act) is.step };
      under = u;
      whole = λ x met. record { entry = is.here.entry; on = is.whole x (ap (λ (z : ℕ). x / z) size ∙ met) };
    }

-- where a place beside the area is seen is none of its block
zero_far : (sc : Scenario) (f : List ℕ) (w : WorldState) (h : HartNo) (lot : Lot) (i : ℕ) (d : Entry) (block : Block) (x : ℕ) → IsUnder sc f w h lot → is_area lot.kind ≡ true → ((y : ℕ) → y / w.machine.size ≡ block.0 → IsPlace lot i d y) → x < sc.ram → IsOff lot x → seen w x / w.machine.size ≡ block.0 → ⊥
zero_far sc f w h lot i d block x u area whole there off met = elim (seen_ways sc f w x u.flat) [
  | inl here ↦ off i d (whole x (ap (λ (y : ℕ). y / w.machine.size) (sym here) ∙ met))
  | inr slot ↦
      let p = whole (seen w x) met in
      both_ways (covers (pool_of sc) (seen w x)) (slot_unpooled sc f w (seen w x) u.flat (slotted_in sc f w x u.flat slot)) (pooled sc f w h lot i d (seen w x) u area p)
]

zero_puts : (sc : Scenario) (f : List ℕ) (w : WorldState) (h : HartNo) (o : Op) (s : Step) (rest : List Step) → (is : IsZero (driver_of w h.0).fixed (driver_of w h.0).lots s rest) → (i : ℕ) (x : ℕ) → Zeroes w.machine (entries.Cbo is.block cbos.Zero) x (to_come h is.lot i rest)
zero_puts sc f w h o s rest is i x = record {
  fits = tt;
  whole = refl;
  once = elim (cases_eq (x / w.machine.size) is.block.0) [
    | inl met ↦ inr (ap (λ (b : ℕ). list_any (has_op is_zero b) (to_come h is.lot i rest)) met ∙ is.once (its_id h is.lot i))
    | inr far ↦ inl (zero_block w.machine is.block x far)
  ];
}

pub zeroed_goes : (sc : Scenario) (f : List ℕ) (w : WorldState) (h : HartNo) (o : Op) (s : Step) (rest : List Step) → IsNext sc f w h o s rest → IsZero (driver_of w h.0).fixed (driver_of w h.0).lots s rest → Goes sc f w (events.Issue h)
zeroed_goes sc f w h o s rest next is =
    let m = w.machine in
    let lot = is.lot in
    let block = is.block in
    let op = hart_ops.Cbo cbos.Zero block in
    let e = entries.Cbo block cbos.Zero in
    let n = issue_next m h.0 op in
    let went = went_by w h op in
    let v = gone w h n went in
    let z = zero_next sc f w h o s rest next is in
    let u = z.under in
    let k = z.op in
    let area = is.hand.area_is in
    let bytes = named (m.size * block.0) (replicate m.size 0) in
    let g = written f bytes in
    let done = done_so sc f w h o s rest _ next refl refl in
    let stay : IsStay s = record { first = ap (λ (t : Step). t.first) is.step; last = ap (λ (t : Step). t.last) is.step } in
    let shift = stay_shift sc f w h went lot s rest u done stay in
    let fits : m.size * block.0 + m.size ≤ length f = omega (arith, op_there sc f w h o op s rest k, u.flat.bytes.flat_size, u.flat.world.of_scenario.ram) in
    let put : IsAreaPut sc f g w h o s rest e lot = record {
      next = next;
      under = u;
      area = area;
      side = is.hand.side_is;
      stay = stay;
      ends_none = λ id. ap (ends id) is.step;
      entry = ap act_coming k.act;
      settles = is.settles;
      last = is.next;
      plain = op_plain block cbos.Zero;
      token = λ id. refl;
      puts = λ i d x p. zero_puts sc f w h o s rest is i x;
      clear = λ x there out off.
          let far : seen w x / m.size ≡ block.0 → ⊥ = zero_far sc f w h lot is.i is.entry block x u area z.whole there off in
          let beyond : x / m.size ≡ block.0 → ⊥ = λ met. off is.i is.entry (z.whole x met) in
          record {
            byte = zero_byte m block x beyond;
            device = zero_byte m block (seen w x) far;
            block = λ j l lent known plain back. zero_block m block _ (λ met. far (ap (λ (y : ℕ). y / m.size) (seen_lent w j l x known lent) ∙ met));
            area = λ j l owner known plain. (zero_block m block x beyond, refl);
            token = λ j owner own. refl;
          };
      slots = λ y slot. zero_byte m block y (λ met. both_ways (covers (pool_of sc) y) (slot_unpooled sc f w y u.flat slot) (pooled sc f w h lot is.i is.entry y u area (z.whole y met)));
      size = length-written f bytes;
      bytes = λ x. byte_zeroed {s = m.size} f block.0 x u.flat.world.machine.block_size fits;
    } in
    let zeroed : IsZeroed (book_of v) (owner_of v) m.size h.0 block.0 = record {
      id = its_id h lot is.i;
      loan = its_loan w h lot is.i is.entry;
      lent = known_now sc f w h n went lot (sided lot.side) is.i is.entry u shift (seen_mapped (its_id h lot is.i) lot.side (inl is.hand.side_is)) is.here.entry;
      own = refl;
      area = area;
      ahead = ap (settling lot.id) (rest_hart w h n went h.0 (driven sc f w h lot u) refl ∙ done.rest) ∙ is.settles;
      owned = λ x met. shift.on is.i is.entry x (z.whole x met) ∙ ap (owner_of_side (its_id h lot is.i)) is.hand.side_is;
    } in
    zero_goes sc f w h o block s rest k (area_bytes sc f g w h o s rest n went e lot put done (op_enters sc f w h o op s rest e k refl) (inr zeroed))
