-- A piece of a copy is stored: into the slot of its entry, or out of it, and with the last piece the lot is its hart's again.
use Rattle.std.specs.Prelude.{Option, Some, None, ◌||◌, ◌-◌, Bool, true, false, slice_get}
use Rattle.std.specs.List.{list_any}
use Rattle.std.proofs.Common.{◌≡◌, ◌⊎◌, ℕ, ◌<◌, List, [], ◌∷◌, refl, sym, ap, ◌∙◌, inl, inr, subst, arith}
use Rattle.std.proofs.lemmas.Bool.{cases_Bool, both_ways, or_from}
use Rattle.nc_num.specs.Memory.{byte}
use Rattle.nc_num.specs.Places.{covers}
use Rattle.nc_num.specs.declared.names.HartNo.{HartNo}
use Rattle.nc_num.specs.declared.names.MemType.TheVariants.{Pma}
use Rattle.nc_num.specs.declared.places.Span.{Span}
use Rattle.nc_plan.specs.Plans.{moved}
use Rattle.nc_plan.specs.declared.ops.HartOp.{HartOp}
use Rattle.nc_plan.specs.declared.ops.HartOp.TheVariants as hart_ops
use Rattle.nc_plan.specs.declared.ops.Payload.TheVariants.{Last}
use Rattle.nc_queue.specs.Entries.{StoreFits}
use Rattle.nc_queue.specs.declared.entry.Entry.{Entry as QueueEntry}
use Rattle.nc_lines.specs.Lines.{bare, gives_at}
use Rattle.nc_model.proofs.Faults.{covers-low, covers-high, covers-from}
use Rattle.nc_ops.specs.declared.ops.Op.{Op}
use Rattle.nc_scen.specs.Regions.{slots_of}
use Rattle.nc_scen.specs.declared.events.Event.TheVariants as events
use Rattle.nc_scen.specs.declared.scenario.Scenario.{Scenario}
use Rattle.nc_sg.specs.Lists as sg
use Rattle.nc_sg.specs.declared.list.Entry.{Entry}
use Rattle.nc_rules.specs.declared.lots.Lot.{Lot}
use Rattle.nc_rules.specs.declared.lots.LotId.{LotId}
use Rattle.nc_rules.specs.declared.lots.Side.TheVariants as sides
use Rattle.nc_rules.specs.declared.steps.Act.{Act}
use Rattle.nc_rules.specs.declared.steps.Act.TheVariants as acts
use Rattle.nc_rules.specs.declared.steps.Step.{Step}
use Rattle.nc_rules.specs.declared.steps.Turn.{Turn}
use Rattle.nc_rules.specs.declared.steps.Turn.TheVariants as turns
use Rattle.nc_rules.specs.Machine.{hart_of}
use Rattle.nc_rules.specs.Calls.{issue_next}
use Rattle.nc_rules.specs.Turns.{is_area}
use Rattle.nc_rules.specs.EventTouches.{owner_of}
use Rattle.nc_rules.specs.World.{WorldState, driver_of}
use Rattle.nc_calls.proofs.CallProofs.{issues_by_place}
use Rattle.nc_rows.specs.Ahead.{ends, turns_lot, stores_io, tokens_lot, is_full, act_coming}
use Rattle.nc_rows.specs.Parts.{StoreIsQueued, IsPiece, LastIs, act_last, rest_last}
use Rattle.nc_rows.specs.Rows.{gives_here}
use Rattle.nc_row_issues.proofs.PlacePushes.{calm_pushed}
use Rattle.nc_row_issues.proofs.RowIssues.{rows_issue}
use Rattle.nc_row_issues.specs.Laws.{NoByte}
use Rattle.nc_row_plans.specs.Laws.{Puts}
use Rattle.nc_flatness.specs.Books.{book_of}
use Rattle.nc_flatness.specs.Plans.{HasEnd, HasFull, HasByte, IsWithin, GoesIn, ComesOut, IsBack, IsStore}
use Rattle.nc_flatness.specs.Steps.{Goes}
use Rattle.nc_flatness.proofs.worlds.Outcomes.{gone}
use Rattle.nc_flatness.proofs.plans.Rests.{behind, lend_has_end}
use Rattle.nc_flatness.proofs.books.Loans.{loan_is}
use Rattle.nc_flatness.proofs.plans.Lasts.{moved_on}
use Rattle.nc_flatness.proofs.books.Seen.{seen, device_long, device_place_of}
use Rattle.nc_flat_plans.proofs.places.OwnRows.{BackAs, back_put}
use Rattle.nc_flat_plans.proofs.places.Passes.{store_plain, passes_by}
use Rattle.nc_flat_plans.proofs.drivers.Drivers.{IsNext, done_so, returns_later}
use Rattle.nc_flat_plans.proofs.areas.PoolPlaces.{slot_unpooled}
use Rattle.nc_flat_plans.proofs.places.Places.{IsUnder, lends_under, back_under, its_id, its_loan, its_place, known, in_ram, unslotted, unpooled, seen_its, waits_far}
use Rattle.nc_flat_plans.proofs.drivers.Shifts.{IsStay, held}
use Rattle.nc_flat_plans.proofs.light.StepTokens.{same_entered, kept_tokens}
use Rattle.nc_flat_plans.proofs.drivers.StepFrames.{enters_by}
use Rattle.nc_flat_plans.proofs.drivers.StepQueues.{own_drop, other_zeroed, queue_stays, queue_more}
use Rattle.nc_flat_plans.proofs.places.Besides.{posted_beside}
use Rattle.nc_flat_plans.proofs.drivers.OwnCopies.{channels_entered}
use Rattle.nc_flat_plans.proofs.operations.Copies.{piece_of, no_byte, has_byte, piece_byte, IsInSlot, IsInBuffer, in_slots, slot_clear, buffer_clear, buffer_device, slot_buffer, none_there}
use Rattle.nc_flat_plans.proofs.places.OwnPlaces.{to_come, back_as, home_to}
use Rattle.nc_flat_plans.proofs.operations.Puts.{IsStaying, IsPut, put_bytes}
use Rattle.nc_flat_plans.proofs.operations.Backs.{turns_one, last_comes, home_shift, home_bytes}
use Rattle.nc_flat_plans.proofs.drivers.Issues.{IsOpNext, op_there, op_enters, store_silent, went_by, op_goes}
use Rattle.nc_flat_plans.proofs.places.Waits.{waits_put, waits_seen}

-- ---- the piece

-- the store of a plan comes next, of the bytes that its hart loaded last
pub record IsPieceNext (sc : Scenario) (f : List ℕ) (w : WorldState) (h : HartNo) (o : Op) (s : Step) (rest : List Step) (dst : Span) (lot : Lot) : Type 0 where
  pub op : IsOpNext sc f w h o (hart_ops.Store dst Pma Last) s rest
  pub under : IsUnder sc f w h lot
  pub mapping : is_area lot.kind ≡ false

-- no store of what comes then gives its bytes
abbrev pub IsOnce : WorldState → HartNo → Span → Lot → List Step → Type 0
IsOnce w h dst lot left = (y : ℕ) → covers dst y ≡ true → HasByte (driver_of w h.0).fixed lot.id left y false

-- its entry
abbrev pub piece_at : WorldState → HartNo → Span → QueueEntry
piece_at w h dst = piece_of dst (hart_of w.machine h.0).last

abbrev pub stored_op : Span → HartOp
stored_op dst = hart_ops.Store dst Pma Last

piece_some : (sc : Scenario) (f : List ℕ) (w : WorldState) (h : HartNo) (o : Op) (s : Step) (rest : List Step) (dst : Span) → IsOpNext sc f w h o (hart_ops.Store dst Pma Last) s rest → covers dst dst.at ≡ true
piece_some sc f w h o s rest dst k =
    let fits : StoreFits w.machine.size dst (hart_of w.machine h.0).last =
    issues_by_place.fits w.machine h.0 (stored_op dst) (piece_at w h dst) k.next.now.flat.world.machine (op_there sc f w h o (stored_op dst) s rest k) refl in
    covers-from dst dst.at (omega arith) (omega (arith, fits.some))

-- the bytes are flat memory's
flat_byte : (sc : Scenario) (f : List ℕ) (w : WorldState) (h : HartNo) (o : Op) (s : Step) (rest : List Step) (dst : Span) (z x : ℕ) → IsOpNext sc f w h o (hart_ops.Store dst Pma Last) s rest → covers dst z ≡ true → x < sc.ram → covers (slots_of sc) x ≡ false
    → (z ≡ x) ⊎ (z ≡ seen w x) → byte (hart_of w.machine h.0).last (z - dst.at) ≡ byte f x
flat_byte sc f w h o s rest dst z x k on there off way =
    let flat = k.next.now.flat in
    let last = (hart_of w.machine h.0).last in
    let is : rest_last ((book_of w).rest h.0) ≡ Some dst = ap rest_last k.next.rest_is ∙ ap act_last k.act in
    let piece : IsPiece (book_of w) f h.0 dst last = subst (λ (p : Option Span). LastIs (book_of w) f h.0 last p) is (flat.bytes.lasts h.0) in
    piece_byte sc f w h.0 dst last z x flat is piece on there off way

-- ---- what it gives at a place of the lot

-- the byte that is to stand there, once
puts_at : (sc : Scenario) (f : List ℕ) (w : WorldState) (h : HartNo) (o : Op) (s : Step) (rest left : List Step) (dst : Span) (lot : Lot) (i : ℕ) (z x : ℕ) → IsPieceNext sc f w h o s rest dst lot → IsOnce w h dst lot left → x < sc.ram → covers (slots_of sc) x ≡ false → (z ≡ x) ⊎ (z ≡ seen w x)
    → Puts w.machine (piece_at w h dst) (byte f x) z (to_come h lot i left)
puts_at sc f w h o s rest left dst lot i z x k once there off way = elim (cases_Bool (covers dst z)) [
  | inl on ↦
      let size : (driver_of w h.0).fixed.size ≡ w.machine.size = sym (held sc f w h lot k.under).setting.block in
      let later : list_any (gives_here w.machine z) (to_come h lot i left) ≡ false = ap (λ (y : ℕ). list_any (gives_at y z) (to_come h lot i left)) (sym size) ∙ once z on (its_id h lot i) in
      inr (has_byte w.machine dst (hart_of w.machine h.0).last z (byte f x) on (flat_byte sc f w h o s rest dst z x k.op on there off way), later)
  | inr beside ↦ inl (no_byte w.machine dst (hart_of w.machine h.0).last z beside)
]

-- ---- into a slot

slot_put : (sc : Scenario) (f : List ℕ) (w : WorldState) (h : HartNo) (o : Op) (s : Step) (rest : List Step) (dst : Span) (lot : Lot) (i : ℕ) (e : Entry) → IsPieceNext sc f w h o s rest dst lot → IsOnce w h dst lot rest → lot.side ≡ sides.Lending → IsInSlot w h lot i e dst
    → IsPut sc f w h (issue_next w.machine h.0 (stored_op dst)) (piece_at w h dst) rest lot
slot_put sc f w h o s rest dst lot i e k once lends at =
    let m = w.machine in
    let u = k.under in
    let last = (hart_of m h.0).last in
    record {
      plain = store_plain dst last Pma;
      token = λ id. refl;
      clear = λ x there off beyond. slot_clear sc f w h lot i e dst last x u at there off beyond;
      moves = inl lends;
      lends = λ side j d x p. (
        slot_buffer sc f w h lot i j e d dst last x u at p,
        inr (puts_at sc f w h o s rest rest dst lot j (its_place w h lot j d x) x k once (in_ram sc f w h lot j d x u p) (unslotted sc f w h lot j d x u p) (inr (sym (seen_its sc f w h lot j d x u p)))),
      );
      backs = λ side j d x p row. let both : sides.Lending ≡ sides.Returning = sym lends ∙ side in absurd (cc);
      unseen = λ z slot none. no_byte m dst last z (none_there (covers dst z) (λ on.
          let p = at.place z on in
          none p.0 (unslotted sc f w h lot i e p.0 u p.1) (seen_its sc f w h lot i e p.0 u p.1 ∙ p.2)));
    }

-- ---- out of it

buffer_put : (sc : Scenario) (f : List ℕ) (w : WorldState) (h : HartNo) (o : Op) (s : Step) (rest left : List Step) (dst from to : Span) (lot : Lot) (i : ℕ) (e : Entry) → IsPieceNext sc f w h o s rest dst lot → IsOnce w h dst lot left → HasFull lot.id left false
    → ComesOut (driver_of w h.0).fixed (driver_of w h.0).lots lot e rest from to → IsInBuffer lot i e dst → IsPut sc f w h (issue_next w.machine h.0 (stored_op dst)) (piece_at w h dst) left lot
buffer_put sc f w h o s rest left dst from to lot i e k once fenced out at =
    let m = w.machine in
    let n = issue_next m h.0 (stored_op dst) in
    let u = k.under in
    let last = (hart_of m h.0).last in
    let by = op_enters sc f w h o (stored_op dst) s rest (piece_at w h dst) k.op refl in
    record {
      plain = store_plain dst last Pma;
      token = λ id. refl;
      clear = λ x there off beyond. buffer_clear sc f w h lot i e dst last x u k.mapping at there off beyond;
      moves = inr out.hand.side_is;
      lends = λ side j d x p. let both : sides.Returning ≡ sides.Lending = sym out.hand.side_is ∙ side in absurd (cc);
      backs = λ side j d x p row.
          back_put lot.list.dir m n (piece_at w h dst) (its_id h lot j) (byte f x) x (its_place w h lot j d x) (to_come h lot j left) out.back by refl (fenced (its_id h lot j)) (buffer_device sc f w h lot i j e d dst last x u at p)
          (inr (puts_at sc f w h o s rest left dst lot j x x k once (in_ram sc f w h lot j d x u p) (unslotted sc f w h lot j d x u p) (inl refl))) row;
      unseen = λ z slot none. no_byte m dst last z (none_there (covers dst z) (λ on. both_ways (covers (slots_of sc) z) (unslotted sc f w h lot i e z u (at.place z on)) slot));
    }

-- ---- what is asked of its entry

slot_queued : (sc : Scenario) (f : List ℕ) (w : WorldState) (h : HartNo) (lot : Lot) (i : ℕ) (e : Entry) (dst : Span) → IsUnder sc f w h lot → IsInSlot w h lot i e dst → StoreIsQueued w.machine.pool Pma dst
slot_queued sc f w h lot i e dst u at z on = ap (λ (p : Span). covers p z) u.flat.world.of_scenario.pool ∙ slot_unpooled sc f w z u.flat (in_slots sc f w h lot i e dst z u at on)

buffer_queued : (sc : Scenario) (f : List ℕ) (w : WorldState) (h : HartNo) (lot : Lot) (i : ℕ) (e : Entry) (dst : Span) → IsUnder sc f w h lot → is_area lot.kind ≡ false → IsInBuffer lot i e dst → StoreIsQueued w.machine.pool Pma dst
buffer_queued sc f w h lot i e dst u plain at z on = ap (λ (p : Span). covers p z) u.flat.world.of_scenario.pool ∙ unpooled sc f w h lot i e z u plain (at.place z on)

-- ---- where the piece of the step goes

-- both ranges of an entry are of one length
abbrev pub range_of : WorldState → HartNo → Entry → Span
range_of w h e = sg.device (driver_of w h.0).fixed.slots_at e

pub same_long : (sc : Scenario) (f : List ℕ) (w : WorldState) (h : HartNo) (lot : Lot) (i : ℕ) (e : Entry) → IsUnder sc f w h lot → slice_get lot.list.entries i ≡ Some e → (range_of w h e).len ≡ e.span.len
same_long sc f w h lot i e u at = device_long w (its_id h lot i) (its_loan w h lot i e) (loan_is sc f w (its_id h lot i) (its_loan w h lot i e) u.flat (known sc f w h lot i e u at))

-- it goes from the one range to the other
abbrev pub AreRanges : WorldState → HartNo → Entry → Span → Span → Type 0
AreRanges w h e from to = (from ≡ e.span) × (to ≡ range_of w h e)

abbrev pub piece_to : Span → Span → Span → Span
piece_to from to span = moved from.at to.at span

pub to_slot : (sc : Scenario) (f : List ℕ) (w : WorldState) (h : HartNo) (lot : Lot) (i : ℕ) (e : Entry) (from to span : Span) → IsUnder sc f w h lot → slice_get lot.list.entries i ≡ Some e → e.bounced ≡ true → AreRanges w h e from to → IsWithin span from
    → covers (piece_to from to span) (piece_to from to span).at ≡ true → IsInSlot w h lot i e (piece_to from to span)
to_slot sc f w h lot i e from to span u at bounced are within some =
    let n = its_id h lot i in
    let l = its_loan w h lot i e in
    let dst = piece_to from to span in
    let long : from.len ≡ to.len = ap (λ (r : Span). r.len) are.0 ∙ sym (same_long sc f w h lot i e u at) ∙ ap (λ (r : Span). r.len) (sym are.1) in
    record {
      entry = at;
      bounced = bounced;
      some = some;
      place = λ z on.
          let over : covers (range_of w h e) z ≡ true = ap (λ (r : Span). covers r z) (sym are.1) ∙ moved_on from to span z long within (covers-low dst z on) (covers-high dst z on) in
          let p = device_place_of w n l z (loan_is sc f w n l u.flat (known sc f w h lot i e u at)) over in
          (p.place, record { entry = at; on = p.on }, p.here);
    }

pub to_buffer : (sc : Scenario) (f : List ℕ) (w : WorldState) (h : HartNo) (lot : Lot) (i : ℕ) (e : Entry) (from to span : Span) → IsUnder sc f w h lot → slice_get lot.list.entries i ≡ Some e → e.bounced ≡ true → AreRanges w h e to from → IsWithin span from
    → covers (piece_to from to span) (piece_to from to span).at ≡ true → IsInBuffer lot i e (piece_to from to span)
to_buffer sc f w h lot i e from to span u at bounced are within some =
    let dst = piece_to from to span in
    let long : from.len ≡ to.len = ap (λ (r : Span). r.len) are.1 ∙ same_long sc f w h lot i e u at ∙ ap (λ (r : Span). r.len) (sym are.0) in
    record {
      bounced = bounced;
      some = some;
      place = λ z on. record { entry = at; on = ap (λ (r : Span). covers r z) (sym are.0) ∙ moved_on from to span z long within (covers-low dst z on) (covers-high dst z on) };
    }

-- ---- the event

ends_not : (id : LotId) (s : Step) (dst : Span) → s.act ≡ acts.Op (stored_op dst) → s.last ≡ turns.Stay → ends id s ≡ false
ends_not id s dst act stay = ap (λ (t : Turn). turns_lot id t || stores_io (tokens_lot id) s.act) stay ∙ ap (λ (a : Act). false || stores_io (tokens_lot id) a) act

-- another piece or a cache operation comes
piece_goes : (sc : Scenario) (f : List ℕ) (w : WorldState) (h : HartNo) (o : Op) (s : Step) (rest : List Step) (dst : Span) (lot : Lot) → IsPieceNext sc f w h o s rest dst lot → IsStay s → HasEnd lot.id rest → rest_last rest ≡ None
    → IsPut sc f w h (issue_next w.machine h.0 (stored_op dst)) (piece_at w h dst) rest lot → StoreIsQueued w.machine.pool Pma dst → Goes sc f w (events.Issue h)
piece_goes sc f w h o s rest dst lot k stay later last put queued =
    let op = stored_op dst in
    let e = piece_at w h dst in
    let done = done_so sc f w h o s rest _ k.op.next refl refl in
    let stays : IsStaying sc f w h o s rest lot = record { next = k.op.next; under = k.under; stay = stay; plain = λ id. ends_not id s dst k.op.act stay.last; mapping = k.mapping; later = later } in
    op_goes sc f w h o op s rest k.op (store_silent w h (driver_of w h.0).phase dst Pma Last k.op.next.phase)
    (put_bytes sc f w h o s rest (issue_next w.machine h.0 op) (went_by w h op) e lot stays done (op_enters sc f w h o op s rest e k.op refl) (ap act_coming k.op.act) put queued last)

-- or it is the last that comes out
last_goes : (sc : Scenario) (f : List ℕ) (w : WorldState) (h : HartNo) (o : Op) (s : Step) (rest : List Step) (dst from to : Span) (lot : Lot) (i : ℕ) (e : Entry) → IsPieceNext sc f w h o s rest dst lot → ComesOut (driver_of w h.0).fixed (driver_of w h.0).lots lot e rest from to
    → IsInBuffer lot i e dst → s.first ≡ turns.Stay → IsBack lot.id s.last → rest_last rest ≡ None → Goes sc f w (events.Issue h)
last_goes sc f w h o s rest dst from to lot i e k out at first back last =
    let m = w.machine in
    let u = k.under in
    let op = stored_op dst in
    let entry = piece_at w h dst in
    let n = issue_next m h.0 op in
    let went = went_by w h op in
    let v = gone w h n went in
    let by = op_enters sc f w h o op s rest entry k.op refl in
    let done = done_so sc f w h o s rest _ k.op.next refl refl in
    let put = buffer_put sc f w h o s rest [] dst from to lot i e k (λ y on n. refl) (λ n. refl) out at in
    let all : (j : ℕ) → to_come h lot j (s ∷ rest) ≡ bare entry ∷ [] = λ j. last_comes (its_id h lot j) lot.id s rest back ∙ ap act_coming k.op.act in
    let home = home_shift sc f w h went lot s rest u k.mapping done first back in
    op_goes sc f w h o op s rest k.op (store_silent w h (driver_of w h.0).phase dst Pma Last k.op.next.phase)
    (home_bytes sc f w h o s rest n went lot k.op.next done u k.mapping home last (enters_by sc f w h n entry u.flat by refl) (record {
      passes = λ x b there off beyond still row.
          rows_issue.passed (book_of w) (owner_of w x) b m n h.0 entry x by (passes_by (book_of w) (owner_of w x) m h.0 entry x put.plain (put.clear x there off beyond) (posted_beside sc f w h lot x u still)) row;
      waits = λ x there off beyond at row.
          let it = at.other.at.is.lot in
          let clear = put.clear x there off beyond in
          waits_put sc f w h o s rest n went lot (home_to h home.synced) entry x k.op.next done u home.shift by (ap act_coming k.op.act) at
          (or_from (turns_lot it.id s.last) (stores_io (tokens_lot it.id) s.act) (turns_one it.id lot.id s.last back (waits_far sc f w h lot x u at)) (ap (stores_io (tokens_lot it.id)) k.op.act))
          clear.byte (subst (λ (z : ℕ). NoByte m entry z) (waits_seen w h lot x at) clear.device) row;
      channels = channels_entered m n h.0 entry by refl;
      back = λ j d x p row.
          let id = its_id h lot j in
          let y = its_place w h lot j d x in
          let comes : to_come h lot j (driver_of w h.0).rest ≡ bare entry ∷ [] = ap (λ (r : List Step). to_come h lot j r) k.op.next.rest_is ∙ all j in
          let was : BackAs lot.list.dir id (byte f x) (bare entry ∷ []) m x y = back_as sc f w h m lot j d x (byte f x) (bare entry ∷ []) u k.mapping p out.hand.side_is comes row in
          put.backs out.hand.side_is j d x p was;
      queue = queue_more (book_of v) (owner_of v) m n h.0 entry by (buffer_queued sc f w h lot i e dst u k.mapping at)
          (queue_stays sc f w h n went u.flat (λ b is.
          let drop = own_drop sc f w h lot s rest b u k.op.next.rest_is is in
          let plain : list_any is_full (to_come h lot drop.i (s ∷ rest)) ≡ false = ap (list_any is_full) (all drop.i) in
          absurd (both_ways (list_any is_full (to_come h lot drop.i (s ∷ rest))) plain drop.ahead))
          (λ b is.
          other_zeroed sc f w h n went lot (home_to h home.synced) s rest b u k.mapping k.op.next.rest_is done.rest home.shift
          (λ id off. ap (λ (t : Bool). t || stores_io (tokens_lot id) s.act) (turns_one id lot.id s.last back off) ∙ ap (stores_io (tokens_lot id)) k.op.act) is));
      stays = λ z slot calm. calm_pushed m n h.0 entry z by (no_byte m dst (hart_of m h.0).last z (none_there (covers dst z) (λ on. both_ways (covers (slots_of sc) z) (unslotted sc f w h lot i e z u (at.place z on)) slot))) calm;
      tokens = kept_tokens sc f w h o s rest n went k.op.next done first (λ id. ap (stores_io (tokens_lot id)) k.op.act) (same_entered m n h entry by put.token);
    }))

-- a piece that goes into a slot
in_goes : (sc : Scenario) (f : List ℕ) (w : WorldState) (h : HartNo) (o : Op) (s : Step) (rest : List Step) → IsNext sc f w h o s rest → (is : IsStore (driver_of w h.0).fixed (driver_of w h.0).lots s rest)
    → GoesIn (driver_of w h.0).fixed (driver_of w h.0).lots is.copied.lot is.copied.entry rest is.from is.to → Goes sc f w (events.Issue h)
in_goes sc f w h o s rest next is goes =
    let c = is.copied in
    let lot = c.lot in
    let dst = piece_to is.from is.to is.span in
    let later = lend_has_end lot.id rest goes.later in
    let u : IsUnder sc f w h lot = lends_under sc f w h o s rest lot false next goes.hand (behind lot.id s rest later) in
    let k : IsPieceNext sc f w h o s rest dst lot = record { op = record { next = next; act = is.act }; under = u; mapping = goes.hand.area_is } in
    let some = piece_some sc f w h o s rest dst k.op in
    let there = to_slot sc f w h lot c.i c.entry is.from is.to is.span u c.here.entry c.bounced (goes.from_is, goes.to_is) is.within some in
    elim is.last [
      | inl stay ↦ piece_goes sc f w h o s rest dst lot k (record { first = is.first; last = stay }) later is.next (slot_put sc f w h o s rest dst lot c.i c.entry k is.once goes.hand.side_is there) (slot_queued sc f w h lot c.i c.entry dst u there)
      | inr back ↦ let both : sides.Lending ≡ sides.Returning = sym goes.hand.side_is ∙ back.1 in absurd (cc)
    ]

-- and one that comes out
out_goes : (sc : Scenario) (f : List ℕ) (w : WorldState) (h : HartNo) (o : Op) (s : Step) (rest : List Step) → IsNext sc f w h o s rest → (is : IsStore (driver_of w h.0).fixed (driver_of w h.0).lots s rest)
    → ComesOut (driver_of w h.0).fixed (driver_of w h.0).lots is.copied.lot is.copied.entry rest is.from is.to → Goes sc f w (events.Issue h)
out_goes sc f w h o s rest next is out =
    let c = is.copied in
    let lot = c.lot in
    let dst = piece_to is.from is.to is.span in
    let u : IsUnder sc f w h lot = back_under sc f w h o s rest lot false next out.hand in
    let k : IsPieceNext sc f w h o s rest dst lot = record { op = record { next = next; act = is.act }; under = u; mapping = out.hand.area_is } in
    let some = piece_some sc f w h o s rest dst k.op in
    let there = to_buffer sc f w h lot c.i c.entry is.from is.to is.span u c.here.entry c.bounced (out.to_is, out.from_is) is.within some in
    elim is.last [
      | inl stay ↦
          piece_goes sc f w h o s rest dst lot k (record { first = is.first; last = stay }) (returns_later sc f w h o s rest lot next u.here out.hand.side_is (ends_not lot.id s dst is.act stay)) is.next
          (buffer_put sc f w h o s rest rest dst is.from is.to lot c.i c.entry k is.once out.fenced out there)
          (buffer_queued sc f w h lot c.i c.entry dst u out.hand.area_is there)
      | inr back ↦ last_goes sc f w h o s rest dst is.from is.to lot c.i c.entry k out there is.first back.0 is.next
    ]

pub stored_goes : (sc : Scenario) (f : List ℕ) (w : WorldState) (h : HartNo) (o : Op) (s : Step) (rest : List Step) → IsNext sc f w h o s rest → IsStore (driver_of w h.0).fixed (driver_of w h.0).lots s rest → Goes sc f w (events.Issue h)
stored_goes sc f w h o s rest next is = elim is.copied.way [
  | inl goes ↦ in_goes sc f w h o s rest next is goes
  | inr out ↦ out_goes sc f w h o s rest next is out
]
