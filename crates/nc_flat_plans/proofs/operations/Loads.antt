-- A piece of a copy is loaded: no row is changed by it, and its bytes are flat memory's.
use Rattle.std.specs.Prelude.{Option, Some, None, All, ◌/◌, ◌-◌, true, false, filter, slice_get}
use Rattle.std.specs.List.{list_any}
use Rattle.std.proofs.Common.{◌≡◌, ◌≢◌, ◌⊎◌, ℕ, ◌+◌, ◌<◌, ◌≤◌, List, [], ◌++◌, length, refl, sym, ap, ◌∙◌, inl, inr, subst, arith}
use Rattle.nc_num.specs.Memory.{byte}
use Rattle.nc_num.specs.Memory as memory
use Rattle.nc_num.specs.Places.{block_at, covers, IsPieceLen}
use Rattle.nc_num.proofs.MemoryLaws.{byte-span, length-span, same_bytes}
use Rattle.nc_num.specs.declared.names.HartNo.{HartNo}
use Rattle.nc_num.specs.declared.names.MapId.{MapId}
use Rattle.nc_num.specs.declared.names.MemType.TheVariants.{Pma}
use Rattle.nc_num.specs.declared.places.Span.{Span}
use Rattle.nc_plan.specs.declared.ops.HartOp.TheVariants as hart_ops
use Rattle.nc_queue.specs.declared.entry.Entry.{Entry as QueueEntry}
use Rattle.nc_model.proofs.Faults.{covers-from}
use Rattle.nc_model.specs.declared.owners.Owner.{Owner}
use Rattle.nc_model.specs.declared.owners.Owner.TheVariants.{Thread, Passing, Lending, Device, Returning, Synced, Pool}
use Rattle.nc_ops.specs.declared.ops.Op.{Op}
use Rattle.nc_scen.specs.Regions.{pool_of, slots_of}
use Rattle.nc_scen.specs.declared.events.Event.TheVariants as events
use Rattle.nc_scen.specs.declared.scenario.Scenario.{Scenario}
use Rattle.nc_sg.specs.declared.list.Entry.{Entry}
use Rattle.nc_rules.specs.declared.lots.Lot.{Lot}
use Rattle.nc_rules.specs.declared.lots.Side.TheVariants as sides
use Rattle.nc_rules.specs.declared.steps.Act.{Act}
use Rattle.nc_rules.specs.declared.steps.Step.{Step}
use Rattle.nc_rules.specs.Lots.{owner_of_side}
use Rattle.nc_rules.specs.Plans.{hart_step}
use Rattle.nc_rules.specs.Machine.{MachineState, hart_of, queue_of}
use Rattle.nc_rules.specs.Calls.{issue_next}
use Rattle.nc_rules.specs.View.{view, bytes_seen}
use Rattle.nc_rules.specs.Driver.{Went}
use Rattle.nc_rules.specs.Sound.{IsPieceIn}
use Rattle.nc_rules.specs.Turns.{is_area}
use Rattle.nc_rules.specs.EventTouches.{owner_of}
use Rattle.nc_rules.specs.World.{WorldState, driver_of}
use Rattle.nc_calls.specs.MachineLaws.{SameShape}
use Rattle.nc_calls.specs.PlaceLaws.{Loads}
use Rattle.nc_calls.proofs.CallProofs.{issues_by_place}
use Rattle.nc_calls.proofs.StartPlaces.{loads_show}
use Rattle.nc_rows.specs.Ahead.{stores_io, tokens_lot, ends, is_full, act_coming}
use Rattle.nc_rows.specs.Laws.{area_of, is_lent_area}
use Rattle.nc_rows.specs.Parts.{IsQueued, IsPiece, LastIs, rest_last}
use Rattle.nc_rows.specs.Rows.{Loan, Either, DeviceTo, DroppingRow, ComingRow, Row}
use Rattle.nc_row_issues.proofs.RowIssues.{rows_issue}
use Rattle.nc_row_plans.proofs.PlanBegins.{rows_begin}
use Rattle.nc_flatness.specs.Books.{book_of}
use Rattle.nc_flatness.specs.Plans.{HasEnd, IsWithin, GoesIn, ComesOut, IsLoad}
use Rattle.nc_flatness.specs.Steps.{Goes}
use Rattle.nc_flatness.specs.Flatness.{Flatness}
use Rattle.nc_flatness.specs.Tokens.{is_lot_token}
use Rattle.nc_flatness.proofs.worlds.Outcomes.{gone}
use Rattle.nc_flatness.proofs.plans.Rests.{behind, lend_has_end}
use Rattle.nc_flat_starts.proofs.turning.Frames.{IsPlace}
use Rattle.nc_flat_plans.proofs.places.OwnRows.{dir_end, of_either_false}
use Rattle.nc_flat_plans.proofs.drivers.Drivers.{IsNext, IsDone, done_so, returns_later}
use Rattle.nc_flat_plans.proofs.areas.PoolPlaces.{lent_pooled, slot_unpooled, pool_apart}
use Rattle.nc_flat_plans.proofs.places.Places.{IsUnder, lends_under, back_under, its_id, its_loan, its_place, in_ram, unslotted, unpooled}
use Rattle.nc_flat_plans.proofs.drivers.Shifts.{sided, seen_mapped, IsShift, stay_shift}
use Rattle.nc_flat_plans.proofs.light.StepTokens.{kept_tokens}
use Rattle.nc_flat_plans.proofs.drivers.StepFrames.{known_now, step_bytes, loads_by}
use Rattle.nc_flat_plans.proofs.drivers.StepQueues.{stays_dropped, stays_zeroed, queue_stays}
use Rattle.nc_flat_plans.proofs.drivers.StepSeen.{unseen_before, moved_seen, pool_calm}
use Rattle.nc_flat_plans.proofs.places.OwnPlaces.{to_come, lent_as, back_as, lent_byte, as_lent, as_back}
use Rattle.nc_flat_plans.proofs.drivers.OwnCopies.{channels_loaded}
use Rattle.nc_flat_plans.proofs.places.Waits.{waits_none}
use Rattle.nc_flat_plans.proofs.operations.Puts.{IsStaying, stay_comes}
use Rattle.nc_flat_plans.proofs.operations.Stores.{range_of, piece_to, same_long, to_slot}
use Rattle.nc_flat_plans.proofs.operations.Copies.{IsInSlot, in_slots}
use Rattle.nc_flat_plans.proofs.drivers.Issues.{IsOpNext, op_hart, op_there, op_shape, load_silent, went_by, op_goes}

-- ---- the rows

-- it brings no block of an area: those are the coherent pool's
loaded : (sc : Scenario) (f : List ℕ) (w : WorldState) (o : Owner) (v : ℕ) (k : MachineState) (h : ℕ) (span : Span) (x : ℕ) → SameShape w.machine k → Loads w.machine k h span Pma
    → (is_lent_area (book_of w) o ≡ true → x / w.machine.size ≢ block_at span.at w.machine.size) → Row (book_of w) o v w.machine x → Row (book_of w) o v k x
loaded sc f w o v k h span x shape loads far row = rows_issue.loaded (book_of w) o v w.machine k h span Pma x shape loads (λ area pma. far area) row

area_by : (sc : Scenario) (f : List ℕ) (w : WorldState) (n : MapId) (o : Option Loan) (x : ℕ) → Flatness sc f w → x < sc.ram → owner_of w x ≡ Lending n → (book_of w).loan n ≡ o → area_of o ≡ true → covers (pool_of sc) x ≡ true
area_by sc f w n None x flat there owner known area = absurd cc
area_by sc f w n (Some l) x flat there owner known area = lent_pooled sc f w n l x flat there owner known area

lent_area : (sc : Scenario) (f : List ℕ) (w : WorldState) (o : Owner) (x : ℕ) → Flatness sc f w → x < sc.ram → owner_of w x ≡ o → is_lent_area (book_of w) o ≡ true → covers (pool_of sc) x ≡ true
lent_area sc f w (Lending n) x flat there owner area = area_by sc f w n ((book_of w).loan n) x flat there owner refl area
lent_area sc f w (Thread h) x flat there owner area = absurd cc
lent_area sc f w (Passing h g) x flat there owner area = absurd cc
lent_area sc f w (Device n) x flat there owner area = absurd cc
lent_area sc f w (Returning n) x flat there owner area = absurd cc
lent_area sc f w (Synced n) x flat there owner area = absurd cc
lent_area sc f w Pool x flat there owner area = absurd cc

-- ---- its bytes

-- where each is flat memory's at a place as far on
shown : (m : MachineState) (h : ℕ) (span : Span) (f : List ℕ) (from : ℕ) → from + span.len ≤ length f → ((i : ℕ) → i < span.len → view m h (span.at + i) ≡ byte f (from + i)) → bytes_seen m h Pma span ≡ memory.span f from span.len
shown m h span f from fits each =
    let long : length (bytes_seen m h Pma span) ≡ span.len = loads_show.long m h Pma span in
    same_bytes (bytes_seen m h Pma span) (memory.span f from span.len) (long ∙ sym (length-span f from span.len fits))
    (λ i lt. let short : i < span.len = omega (arith, lt, long) in loads_show.byte_is m h Pma span i short ∙ each i short ∙ sym (byte-span f from span.len i short))

-- the device's place of a mapping that comes back has the byte, as its hart sees it
back_shows : (sc : Scenario) (f : List ℕ) (w : WorldState) (h : HartNo) (lot : Lot) (i : ℕ) (e : Entry) (x : ℕ) → IsUnder sc f w h lot → is_area lot.kind ≡ false → IsPlace lot i e x → lot.side ≡ sides.Returning → list_any is_full (to_come h lot i (driver_of w h.0).rest) ≡ false
    → view w.machine h.0 (its_place w h lot i e x) ≡ byte f x
back_shows sc f w h lot i e x u plain p side fenced =
    let m = w.machine in
    let n = its_id h lot i in
    let y = its_place w h lot i e x in
    let v = byte f x in
    let ahead = to_come h lot i (driver_of w h.0).rest in
    let row = back_as sc f w h m lot i e x v ahead u plain p side refl (u.flat.bytes.rows x (in_ram sc f w h lot i e x u p) (unslotted sc f w h lot i e x u p)) in
    dir_end lot.list.dir (DeviceTo n v m x y) (Either (list_any is_full ahead) (DroppingRow n v ahead m x y) (ComingRow n v ahead m x y)) (view m h.0 y ≡ v) (λ to. (rows_begin.take_area m h.0 v y to.device).shows)
    (λ either.
    let comes : ComingRow n v ahead m x y = of_either_false (list_any is_full ahead) (DroppingRow n v ahead m x y) (ComingRow n v ahead m x y) fenced either in
    (rows_begin.take_area m h.0 v y comes.device).shows)
    row

lent_shows : (sc : Scenario) (f : List ℕ) (w : WorldState) (h : HartNo) (lot : Lot) (i : ℕ) (e : Entry) (x : ℕ) → IsUnder sc f w h lot → is_area lot.kind ≡ false → IsPlace lot i e x → lot.side ≡ sides.Lending → view w.machine h.0 x ≡ byte f x
lent_shows sc f w h lot i e x u plain p side =
    let m = w.machine in
    let ahead = to_come h lot i (driver_of w h.0).rest in
    lent_byte lot.list.dir (its_id h lot i) (byte f x) ahead m x (its_place w h lot i e x)
    (lent_as sc f w h m lot i e x (byte f x) ahead u plain p side refl (u.flat.bytes.rows x (in_ram sc f w h lot i e x u p) (unslotted sc f w h lot i e x u p)))

-- ---- the piece

-- the span is one of an entry's buffer or of its slot, and the store that comes next is of the other
pub record IsPieceLoad (sc : Scenario) (f : List ℕ) (w : WorldState) (h : HartNo) (o : Op) (s : Step) (rest : List Step) (span : Span) (lot : Lot) (i : ℕ) (e : Entry) : Type 0 where
  pub op : IsOpNext sc f w h o (hart_ops.Load span Pma) s rest
  pub under : IsUnder sc f w h lot
  pub moves : (lot.side ≡ sides.Lending) ⊎ (lot.side ≡ sides.Returning)
  pub mapping : is_area lot.kind ≡ false
  pub later : HasEnd lot.id rest
  pub step : s ≡ hart_step (hart_ops.Load span Pma)
  pub entry : slice_get lot.list.entries i ≡ Some e
  -- where it starts in the buffer
  pub start : ℕ
  pub dst : Span
  pub next : rest_last rest ≡ Some dst
  pub len : dst.len ≡ span.len
  pub inside : IsWithin (record { at = start; len = span.len }) e.span
  pub here : (dst.at ≡ start) ⊎ (dst.at ≡ its_place w h lot i e start)
  pub shows : (j : ℕ) → j < span.len → view w.machine h.0 (span.at + j) ≡ byte f (start + j)
  -- and it is none of the pool's
  pub beside : covers (pool_of sc) span.at ≡ false

-- ---- the event

some_len : (n : ℕ) → IsPieceLen n → 0 < n
some_len n (inl is) = omega (arith, is)
some_len n (inr (inl is)) = omega (arith, is)
some_len n (inr (inr (inl is))) = omega (arith, is)
some_len n (inr (inr (inr is))) = omega (arith, is)

piece_some : (sc : Scenario) (f : List ℕ) (w : WorldState) (h : HartNo) (o : Op) (s : Step) (rest : List Step) (span : Span) → IsOpNext sc f w h o (hart_ops.Load span Pma) s rest → 0 < span.len
piece_some sc f w h o s rest span k =
    let there : IsPieceIn (length w.machine.cache.ram) span = op_there sc f w h o (hart_ops.Load span Pma) s rest k in
    some_len span.len there.len

piece_last : (sc : Scenario) (f : List ℕ) (w : WorldState) (h : HartNo) (o : Op) (s : Step) (rest : List Step) (span : Span) (lot : Lot) (i : ℕ) (e : Entry) (k : MachineState) (went : Went) → (p : IsPieceLoad sc f w h o s rest span lot i e) → IsShift w h went lot (sided lot.side)
    → Loads w.machine k h.0 span Pma → IsPiece (book_of (gone w h k went)) f h.0 p.dst (hart_of k h.0).last
piece_last sc f w h o s rest span lot i e k went p shift loads =
    let u = p.under in
    let n = its_id h lot i in
    let some = piece_some sc f w h o s rest span p.op in
    let end = (p.start + span.len) - 1 in
    let over : covers e.span end ≡ true = covers-from e.span end (omega (arith, some, p.inside.0)) (omega (arith, some, p.inside.1)) in
    let below : end < sc.ram = in_ram sc f w h lot i e end u (record { entry = p.entry; on = over }) in
    let fits : p.start + span.len ≤ length f = omega (arith, some, below, u.flat.bytes.flat_size) in
    let bytes : (hart_of k h.0).last ≡ memory.span f p.start span.len = loads.last ∙ shown w.machine h.0 span f p.start fits p.shows in
    record {
      id = n;
      loan = its_loan w h lot i e;
      lent = known_now sc f w h k went lot (sided lot.side) i e u shift (seen_mapped n lot.side (moved_seen lot u.moves)) p.entry;
      own = refl;
      from = p.start;
      inside = (p.inside.0, omega (arith, p.len, p.inside.1));
      here = p.here;
      bytes_are = bytes ∙ ap (λ (l : ℕ). memory.span f p.start l) (sym p.len);
    }

load_row : (sc : Scenario) (f : List ℕ) (w : WorldState) (h : HartNo) (o : Op) (s : Step) (rest : List Step) (span : Span) (lot : Lot) (k : MachineState) (went : Went) (i : ℕ) (e : Entry) (x v : ℕ) → IsStaying sc f w h o s rest lot → (lot.side ≡ sides.Lending) ⊎ (lot.side ≡ sides.Returning) → act_coming s.act ≡ []
    → IsDone (driver_of w h.0) s rest went → IsShift w h went lot (sided lot.side) → IsPlace lot i e x → Row (book_of w) (owner_of w x) v k x → Row (book_of (gone w h k went)) (owner_of_side (its_id h lot i) lot.side) v k x
load_row sc f w h o s rest span lot k went i e x v c moves none done shift p row =
    let u = c.under in
    let ahead = to_come h lot i rest in
    let comes : to_come h lot i (driver_of w h.0).rest ≡ ahead =
    ap (λ (r : List Step). to_come h lot i r) c.next.rest_is ∙ stay_comes sc f w h o s rest lot i c ∙ ap (λ (es : List QueueEntry). es ++ ahead) none in
    elim moves [
      | inl side ↦ as_lent sc f w h k went lot i e x v rest u c.mapping p side shift done.rest (lent_as sc f w h k lot i e x v ahead u c.mapping p side comes row)
      | inr side ↦ as_back sc f w h k went lot i e x v rest u c.mapping p side shift done.rest (back_as sc f w h k lot i e x v ahead u c.mapping p side comes row)
    ]

load_goes : (sc : Scenario) (f : List ℕ) (w : WorldState) (h : HartNo) (o : Op) (s : Step) (rest : List Step) (span : Span) (lot : Lot) (i : ℕ) (e : Entry) → IsPieceLoad sc f w h o s rest span lot i e → Goes sc f w (events.Issue h)
load_goes sc f w h o s rest span lot i e p =
    let m = w.machine in
    let u = p.under in
    let op = hart_ops.Load span Pma in
    let k = issue_next m h.0 op in
    let went = went_by w h op in
    let v = gone w h k went in
    let done = done_so sc f w h o s rest _ p.op.next refl refl in
    let stays : IsStaying sc f w h o s rest lot = record { next = p.op.next; under = u; stay = record { first = ap (λ (t : Step). t.first) p.step; last = ap (λ (t : Step). t.last) p.step }; plain = λ id. ap (ends id) p.step; mapping = p.mapping; later = p.later } in
    let shift = stay_shift sc f w h went lot s rest u done stays.stay in
    let shape = op_shape sc f w h o op s rest p.op in
    let loads : Loads m k h.0 span Pma = issues_by_place.load m h.0 span Pma u.flat.world.machine (op_hart sc f w h o op s rest p.op) (op_there sc f w h o op s rest p.op) in
    let none : act_coming s.act ≡ [] = ap act_coming p.op.act in
    let far : (x : ℕ) → covers (pool_of sc) x ≡ true → x / m.size ≢ block_at span.at m.size = λ x over same. pool_apart sc f w x span.at u.flat over p.beside (sym same) in
    let beside : (x : ℕ) → covers m.pool x ≡ true → x / m.size ≢ block_at span.at m.size = λ x over. far x (subst (λ (q : Span). covers q x ≡ true) u.flat.world.of_scenario.pool over) in
    let queued : All (IsQueued (book_of v) (owner_of v) m.pool m.size h.0) (queue_of m h.0) =
    queue_stays sc f w h k went u.flat
    (λ b is.
    stays_dropped sc f w h k went lot s rest b u p.op.next.rest_is done.rest shift
    (λ j was. sym (ap (list_any is_full) (stay_comes sc f w h o s rest lot j stays ∙ ap (λ (es : List QueueEntry). es ++ to_come h lot j rest) none)) ∙ was) is)
    (λ b is. stays_zeroed sc f w h k went lot s rest b u p.op.next.rest_is done stays.stay stays.plain is) in
    op_goes sc f w h o op s rest p.op (load_silent w h (driver_of w h.0).phase span Pma p.op.next.phase)
    (step_bytes sc f w h o s rest k went lot (sided lot.side) p.op.next done u p.mapping shift (loads_by sc f w h k span Pma u.flat shape loads beside) (record {
      passes = λ x b there off beyond still row. loaded sc f w (owner_of w x) b k h.0 span x shape loads (λ area. far x (lent_area sc f w (owner_of w x) x u.flat there refl area)) row;
      waits = λ x there off beyond at row.
          waits_none sc f w h o s rest k went lot (sided lot.side) x (byte f x) p.op.next done u shift none at (stays.plain at.other.at.is.lot.id)
          (loaded sc f w (owner_of w x) (byte f x) k h.0 span x shape loads (λ area. far x (lent_area sc f w (owner_of w x) x u.flat there refl area)) row);
      channels = channels_loaded m k h.0 span Pma loads;
      row = λ j d x q row.
          load_row sc f w h o s rest span lot k went j d x (byte f x) stays p.moves none done shift q
          (loaded sc f w (owner_of w x) (byte f x) k h.0 span x shape loads (λ area. far x (lent_area sc f w (owner_of w x) x u.flat (in_ram sc f w h lot j d x u q) refl area)) row);
      queue = rw (shape.pool, shape.size, loads.queues h.0) queued;
      lasting = subst (λ (r : Option Span). LastIs (book_of v) f h.0 (hart_of k h.0).last r) (sym (ap rest_last done.rest ∙ p.next)) (piece_last sc f w h o s rest span lot i e k went p shift loads);
      calm = λ z slot unseen.
          let before = u.flat.bytes.calm z slot (unseen_before sc f w h k went lot lot.side z u shift (moved_seen lot u.moves) unseen) in
          pool_calm k (byte m.cache.ram z) z (loaded sc f w Pool (byte m.cache.ram z) k h.0 span z shape loads (λ area. absurd cc) before);
      tokens = kept_tokens sc f w h o s rest k went p.op.next done stays.stay.first (λ id. ap (stores_io (tokens_lot id)) p.op.act) (λ id. ap (filter (is_lot_token id)) (loads.queues h.0));
    }))

-- ---- into a slot, and out of it

in_loads : (sc : Scenario) (f : List ℕ) (w : WorldState) (h : HartNo) (o : Op) (s : Step) (rest : List Step) → IsNext sc f w h o s rest → (is : IsLoad (driver_of w h.0).fixed (driver_of w h.0).lots s rest)
    → GoesIn (driver_of w h.0).fixed (driver_of w h.0).lots is.copied.lot is.copied.entry rest is.from is.to → Goes sc f w (events.Issue h)
in_loads sc f w h o s rest next is goes =
    let c = is.copied in
    let lot = c.lot in
    let span = is.span in
    let e = c.entry in
    let u : IsUnder sc f w h lot = lends_under sc f w h o s rest lot false next goes.hand (behind lot.id s rest (lend_has_end lot.id rest goes.later)) in
    let k : IsOpNext sc f w h o (hart_ops.Load span Pma) s rest = record { next = next; act = ap (λ (t : Step). t.act) is.step } in
    let some = piece_some sc f w h o s rest span k in
    let within : IsWithin span e.span = subst (λ (r : Span). IsWithin span r) goes.from_is is.within in
    let place : (j : ℕ) → j < span.len → IsPlace lot c.i e (span.at + j) =
    λ j lt. record { entry = c.here.entry; on = covers-from e.span (span.at + j) (omega (arith, within.0)) (omega (arith, within.1, lt)) } in
    let first : IsPlace lot c.i e span.at = record { entry = c.here.entry; on = covers-from e.span span.at within.0 (omega (arith, within.1, some)) } in
    load_goes sc f w h o s rest span lot c.i e (record {
      op = k;
      under = u;
      moves = inl goes.hand.side_is;
      mapping = goes.hand.area_is;
      later = lend_has_end lot.id rest goes.later;
      step = is.step;
      entry = c.here.entry;
      start = span.at;
      dst = piece_to is.from is.to span;
      next = is.next;
      len = refl;
      inside = within;
      here = inr (ap (λ (r : Span). is.to.at + (span.at - r.at)) goes.from_is ∙ ap (λ (r : Span). r.at + (span.at - e.span.at)) goes.to_is);
      shows = λ j lt. lent_shows sc f w h lot c.i e (span.at + j) u goes.hand.area_is (place j lt) goes.hand.side_is;
      beside = unpooled sc f w h lot c.i e span.at u goes.hand.area_is first;
    })

out_loads : (sc : Scenario) (f : List ℕ) (w : WorldState) (h : HartNo) (o : Op) (s : Step) (rest : List Step) → IsNext sc f w h o s rest → (is : IsLoad (driver_of w h.0).fixed (driver_of w h.0).lots s rest)
    → ComesOut (driver_of w h.0).fixed (driver_of w h.0).lots is.copied.lot is.copied.entry rest is.from is.to → Goes sc f w (events.Issue h)
out_loads sc f w h o s rest next is out =
    let c = is.copied in
    let lot = c.lot in
    let span = is.span in
    let e = c.entry in
    let r = range_of w h e in
    let u : IsUnder sc f w h lot = back_under sc f w h o s rest lot false next out.hand in
    let k : IsOpNext sc f w h o (hart_ops.Load span Pma) s rest = record { next = next; act = ap (λ (t : Step). t.act) is.step } in
    let some = piece_some sc f w h o s rest span k in
    let long = same_long sc f w h lot c.i e u c.here.entry in
    let within : IsWithin span r = subst (λ (q : Span). IsWithin span q) out.from_is is.within in
    let start = e.span.at + (span.at - r.at) in
    let place : (j : ℕ) → j < span.len → IsPlace lot c.i e (start + j) =
    λ j lt. record { entry = c.here.entry; on = covers-from e.span (start + j) (omega arith) (omega (arith, within.0, within.1, lt, long)) } in
    let first : IsPlace lot c.i e start = record { entry = c.here.entry; on = covers-from e.span start (omega arith) (omega (arith, within.0, within.1, some, long)) } in
    let seen_so : (j : ℕ) → its_place w h lot c.i e (start + j) ≡ span.at + j = λ j. omega (arith, within.0) in
    let plain = out.hand.area_is in
    let later : HasEnd lot.id rest = returns_later sc f w h o s rest lot next u.here out.hand.side_is (ap (ends lot.id) is.step) in
    let stays : IsStaying sc f w h o s rest lot = record { next = next; under = u; stay = record { first = ap (λ (t : Step). t.first) is.step; last = ap (λ (t : Step). t.last) is.step }; plain = λ id. ap (ends id) is.step; mapping = plain; later = later } in
    let fenced : list_any is_full (to_come h lot c.i (driver_of w h.0).rest) ≡ false =
    ap (λ (q : List Step). list_any is_full (to_come h lot c.i q)) next.rest_is
    ∙ ap (list_any is_full) (stay_comes sc f w h o s rest lot c.i stays ∙ ap (λ (a : Act). act_coming a ++ to_come h lot c.i rest) k.act) ∙ out.fenced (its_id h lot c.i) in
    let at_slot : IsInSlot w h lot c.i e (piece_to e.span r (record { at = start; len = span.len })) =
    to_slot sc f w h lot c.i e e.span r (record { at = start; len = span.len }) u c.here.entry c.bounced (refl, refl) (omega arith, omega (arith, within.0, within.1, long))
    (covers-from (piece_to e.span r (record { at = start; len = span.len })) _ (omega arith) (omega (arith, some))) in
    let slot : covers (slots_of sc) span.at ≡ true =
    subst (λ (z : ℕ). covers (slots_of sc) z ≡ true) (omega (arith, within.0)) (in_slots sc f w h lot c.i e (piece_to e.span r (record { at = start; len = span.len })) _ u at_slot at_slot.some) in
    load_goes sc f w h o s rest span lot c.i e (record {
      op = k;
      under = u;
      moves = inr out.hand.side_is;
      mapping = plain;
      later = later;
      step = is.step;
      entry = c.here.entry;
      start = start;
      dst = piece_to is.from is.to span;
      next = is.next;
      len = refl;
      inside = (omega arith, omega (arith, within.0, within.1, long));
      here = inl (ap (λ (q : Span). is.to.at + (span.at - q.at)) out.from_is ∙ ap (λ (q : Span). q.at + (span.at - r.at)) out.to_is);
      shows = λ j lt. ap (view w.machine h.0) (sym (seen_so j)) ∙ back_shows sc f w h lot c.i e (start + j) u plain (place j lt) out.hand.side_is fenced;
      beside = slot_unpooled sc f w span.at u.flat slot;
    })

pub loaded_goes : (sc : Scenario) (f : List ℕ) (w : WorldState) (h : HartNo) (o : Op) (s : Step) (rest : List Step) → IsNext sc f w h o s rest → IsLoad (driver_of w h.0).fixed (driver_of w h.0).lots s rest → Goes sc f w (events.Issue h)
loaded_goes sc f w h o s rest next is = elim is.copied.way [
  | inl goes ↦ in_loads sc f w h o s rest next is goes
  | inr out ↦ out_loads sc f w h o s rest next is out
]
