-- A script's operation that is no touch: what it shows or writes, and the bytes of flat memory behind it.
use Rattle.std.specs.Prelude.{Option, Some, None, Bool, true, false, if◌then◌else◌, unwrap_or, ◌/◌, ◌%◌}
use Rattle.std.proofs.Common.{◌≡◌, ◌≢◌, ℕ, ◌*◌, ◌<◌, List, [], ◌∷◌, ◌++◌, length, replicate, refl, sym, ap, ◌∙◌, inl, inr, arith, subst}
use Rattle.std.proofs.lemmas.Bool.{false≢true, ne_eqb}
use Rattle.nc_num.specs.Memory.{byte}
use Rattle.nc_num.specs.Places.{covers, block_at}
use Rattle.nc_num.specs.declared.names.HartNo.{HartNo}
use Rattle.nc_num.specs.declared.names.MemType.{MemType}
use Rattle.nc_num.specs.declared.names.MemType.TheVariants.{Pma, Nc, Io}
use Rattle.nc_num.specs.declared.places.Block.{Block}
use Rattle.nc_num.specs.declared.places.Span.{Span}
use Rattle.nc_num.proofs.Blocks.{page_whole}
use Rattle.nc_env.specs.declared.CboOp.TheVariants as cbos
use Rattle.nc_queue.specs.Entries.{entry_gives}
use Rattle.nc_queue.specs.declared.entry.Entry.{Entry}
use Rattle.nc_queue.specs.declared.entry.Entry.TheVariants as entries
use Rattle.nc_plan.specs.declared.ops.HartOp.{HartOp}
use Rattle.nc_plan.specs.declared.ops.HartOp.TheVariants as hart
use Rattle.nc_plan.specs.declared.ops.IoTarget.TheVariants as io
use Rattle.nc_plan.specs.declared.ops.Payload.{Payload}
use Rattle.nc_hart.specs.Issue.{cut, entry_of, marks, marker, payload}
use Rattle.nc_model.specs.Flat.{TraceItem, Did, named, written, flat, deeds, Shows, Latest, Untouched}
use Rattle.nc_model.specs.declared.deeds.Deed.TheVariants.{Read, Write}
use Rattle.nc_model.specs.declared.owners.Access.TheVariants as accesses
use Rattle.nc_model.specs.declared.owners.Owner.{Owner}
use Rattle.nc_model.specs.declared.owners.Owner.TheVariants.{Thread, Passing, Lending, Device, Returning, Synced, Pool}
use Rattle.nc_model.proofs.Faults.{covers-from}
use Rattle.nc_model.proofs.FlatLaws.{length-written}
use Rattle.nc_scen.specs.declared.scenario.Scenario.{Scenario}
use Rattle.nc_rules.specs.Machine.{MachineState, hart_of}
use Rattle.nc_rules.specs.Calls.{may_issue, issue_next, load_transfers}
use Rattle.nc_rules.specs.Flat.{records_trace}
use Rattle.nc_rules.specs.Sound.{IsMachine, IsPieceIn, OpIsThere}
use Rattle.nc_rules.specs.Records.{transfer_records, op_records, load_record}
use Rattle.nc_rules.specs.View.{seen, view, bytes_seen}
use Rattle.nc_rules.specs.EventTouches.{owner_of, op_touch}
use Rattle.nc_rules.specs.World.{WorldState, driver_of}
use Rattle.nc_calls.proofs.CallProofs.{issues_by_place}
use Rattle.nc_calls.proofs.StartPlaces.{loads_show}
use Rattle.nc_calls.proofs.SoundLaws.{calls_keep_shape}
use Rattle.nc_rows.specs.Parts.{IsQueued, StoreIsQueued, IsBeside, MayBeHeld, rest_last}
use Rattle.nc_rows.specs.Rows.{Book}
use Rattle.nc_row_issues.specs.Laws.{Enters, IsOwn}
use Rattle.nc_row_issues.proofs.RowIssues.{rows_issue}
use Rattle.nc_flatness.specs.Books.{book_of}
use Rattle.nc_flatness.specs.Flatness.{Flatness}
use Rattle.nc_flatness.proofs.worlds.FlatBytes.{byte_stored, byte_zeroed, shows_seen}
use Rattle.nc_flatness.proofs.worlds.Trace.{append_none, trace-append, transfers_silent, fence_silent}
use Rattle.nc_flatness.proofs.books.WholeBlocks.{in_whole}
use Rattle.nc_flat_scripts.specs.Entering.{GivesOwn, IsPlain, IsNoMail}
use Rattle.nc_flat_scripts.proofs.accesses.ActRows.{stands_now, load_stands, entry_stands}
use Rattle.nc_flat_scripts.proofs.accesses.OwnPlaces.{OwnPiece, piece_starts, own_piece, own_unslotted, store_own, zero_own}
use Rattle.nc_flat_scripts.proofs.steps.ScriptCalls.{IsIdle}
use Rattle.nc_flat_scripts.proofs.accesses.ScriptSteps.{IsScriptOp}
use Rattle.nc_flat_scripts.proofs.steps.StepFrames.{StandsIn}

-- a trace without a touch, whose reads show flat memory, and flat memory behind it
pub record Acts (sc : Scenario) (f : List ℕ) (ms : List TraceItem) (w : WorldState) (n : MachineState) : Type 0 where
  pub untouched : Untouched ms
  pub latest : Latest f ms
  pub stands : StandsIn sc (flat f (deeds ms)) w n

acts_same : (sc : Scenario) (f : List ℕ) (ms ns : List TraceItem) (w : WorldState) (n : MachineState) → ns ≡ ms → Acts sc f ms w n → Acts sc f ns w n
acts_same sc f ms ns w n same acts = subst (λ (k : List TraceItem). Acts sc f k w n) (sym same) acts

pub acts_silent : (sc : Scenario) (f : List ℕ) (w : WorldState) (n : MachineState) → StandsIn sc f w n → Acts sc f [] w n
acts_silent sc f w n is = record { untouched = tt; latest = tt; stands = is }

-- ---- a load

-- the coherent pool is whole blocks
pub pool_block : (sc : Scenario) (f : List ℕ) (w : WorldState) (h x y : ℕ) → Flatness sc f w → h < length w.machine.harts → y / w.machine.size ≡ x / w.machine.size → covers w.machine.pool x ≡ true → covers w.machine.pool y ≡ true
pool_block sc f w h x y flat lt same over =
    let holds = flat.world.holds.each h lt in
    let size = flat.world.machine.block_size in
    in_whole {s = w.machine.size} w.machine.pool x y size
    (subst (λ (p : Span). p.at % w.machine.size ≡ 0) (sym holds.setting.pool) (page_whole {s = w.machine.size} _ size (inl holds.driver.fixed.pool_whole)))
    (subst (λ (p : Span). p.len % w.machine.size ≡ 0) (sym holds.setting.pool) (page_whole {s = w.machine.size} _ size (inl holds.driver.fixed.pool_paged))) same over

-- a load through the caches brings no block of it
load_beside : (sc : Scenario) (f : List ℕ) (w : WorldState) (h : HartNo) (span : Span) (kind : MemType) → Flatness sc f w → h.0 < length w.machine.harts → OwnPiece w h.0 span kind → covers span span.at ≡ true
    → (x : ℕ) → covers w.machine.pool x ≡ true → kind ≡ Pma → x / w.machine.size ≢ block_at span.at w.machine.size
load_beside sc f w h span kind flat lt own start x over pma same =
    let off = subst (λ (k : MemType). StoreIsQueued w.machine.pool k span) pma own.type in
    false≢true (sym (off span.at start) ∙ pool_block sc f w h.0 x span.at flat lt (sym same) over)

-- no place that is a hart's own is one of an area that is being allocated
own_unallocated : (a : Book) (h : ℕ) (o : Owner) → IsOwn a h o → MayBeHeld a o → ⊥
own_unallocated a h (Thread j) own may = may
own_unallocated a h (Synced n) own may = may
own_unallocated a h (Passing j g) own may = own
own_unallocated a h (Lending n) own may = own
own_unallocated a h (Device n) own may = own
own_unallocated a h (Returning n) own may = own
own_unallocated a h Pool own may = own

-- so past the caches a hart sees at its places of the pool what it sees through them
past_caches : (sc : Scenario) (f : List ℕ) (w : WorldState) (h x : ℕ) → Flatness sc f w → IsOwn (book_of w) h (owner_of w x) → covers w.machine.pool x ≡ true → seen w.machine h Nc x ≡ view w.machine h x
past_caches sc f w h x flat own over = elim (flat.bytes.uncached x over) [
  | inl none ↦ loads_show.types_agree w.machine h Nc x (loads_show.not_held w.machine x none)
  | inr may ↦ absurd (own_unallocated (book_of w) h (owner_of w x) own may)
]

seen_own : (sc : Scenario) (f : List ℕ) (w : WorldState) (h x : ℕ) (span : Span) (kind : MemType) → Flatness sc f w → IsOwn (book_of w) h (owner_of w x) → StoreIsQueued w.machine.pool kind span → covers span x ≡ true → seen w.machine h kind x ≡ view w.machine h x
seen_own sc f w h x span Pma flat own type over = refl
seen_own sc f w h x span Nc flat own type over = past_caches sc f w h x flat own (type x over)
seen_own sc f w h x span Io flat own type over = absurd type

load_shows : (sc : Scenario) (f : List ℕ) (w : WorldState) (h : HartNo) (span : Span) (kind : MemType) → Flatness sc f w → OwnPiece w h.0 span kind → IsPieceIn (length w.machine.cache.ram) span
    → Shows f (named span.at (bytes_seen w.machine h.0 kind span))
load_shows sc f w h span kind flat own piece =
    shows_seen f (seen w.machine h.0 kind) span.at span.len
    (λ x le lt.
    let over = covers-from span x le lt in
    let mine = own.own x over in
    seen_own sc f w h.0 x span kind flat mine own.type over
    ∙ (rows_issue.shows (book_of w) (owner_of w x) (byte f x) w.machine h.0 x mine (flat.bytes.rows x (omega (arith, lt, piece.inside, flat.world.of_scenario.ram)) (own_unslotted sc f w h.0 x flat mine))).shows)

acts_load : (sc : Scenario) (f : List ℕ) (w : WorldState) (h : HartNo) (span : Span) (kind : MemType) → Flatness sc f w → h.0 < length w.machine.harts → rest_last ((book_of w).rest h.0) ≡ None → op_touch w h (hart.Load span kind) ≡ None → IsPieceIn (length w.machine.cache.ram) span
    → may_issue w.machine h.0 (hart.Load span kind) ≡ true → Acts sc f (records_trace w.machine.size w.grants (op_records w.machine h true (hart.Load span kind))) w (issue_next w.machine h.0 (hart.Load span kind))
unfolding op_touch op_records
acts_load sc f w h span kind flat lt idle none piece may =
    let m = w.machine in
    let own = own_piece sc f w h accesses.Read span kind flat none piece in
    let bytes = bytes_seen m h.0 kind span in
    let shape = calls_keep_shape.of_issue m h.0 (hart.Load span kind) flat.world.machine (record { hart = lt; there = piece; may = may }) in
    acts_same sc f (Did (Read (named span.at bytes)) ∷ []) _ w (issue_next m h.0 (hart.Load span kind))
    (trace-append m.size w.grants (transfer_records m.size (load_transfers m h.0 span kind)) (load_record true h span.at bytes ∷ []) ∙ ap (λ (ms : List TraceItem). ms ++ Did (Read (named span.at bytes)) ∷ []) (transfers_silent m.size m.size w.grants (load_transfers m h.0 span kind)))
    (record {
      untouched = tt;
      latest = (load_shows sc f w h span kind flat own piece, tt);
      stands = load_stands sc f w (issue_next m h.0 (hart.Load span kind)) h.0 span kind flat idle shape (issues_by_place.load m h.0 span kind flat.world.machine lt piece) (own.own span.at (piece_starts (length m.cache.ram) span piece)) (load_beside sc f w h span kind flat lt own (piece_starts (length m.cache.ram) span piece));
    })

-- ---- an operation with an entry

-- its entry, of a hart that issues it
pub record Puts (w : WorldState) (h : HartNo) (op : HartOp) (e : Entry) : Type 0 where
  pub of_op : entry_of (hart_of w.machine h.0).last op ≡ Some e
  pub there : OpIsThere w.machine h.0 op
  pub may : may_issue w.machine h.0 op ≡ true
  pub plain : IsPlain e
  pub mail : IsNoMail e
  pub own : GivesOwn (book_of w) (owner_of w) w.machine.size h.0 e
  pub queued : IsQueued (book_of w) (owner_of w) w.machine.pool w.machine.size h.0 e

pub enters : (w : WorldState) (h : HartNo) (op : HartOp) (e : Entry) → IsMachine w.machine → h.0 < length w.machine.harts → entry_of (hart_of w.machine h.0).last op ≡ Some e → OpIsThere w.machine h.0 op → may_issue w.machine h.0 op ≡ true → Enters w.machine (issue_next w.machine h.0 op) h.0 e
enters w h op e is lt of_op there may = record { pushes = issues_by_place.entry w.machine h.0 op e lt of_op; shape = calls_keep_shape.of_issue w.machine h.0 op is (record { hart = lt; there = there; may = may }) }

put_stands : (sc : Scenario) (f g : List ℕ) (w : WorldState) (h : HartNo) (op : HartOp) (e : Entry) → Flatness sc f w → h.0 < length w.machine.harts → IsIdle (driver_of w h.0) → Puts w h op e → length g ≡ length f
    → ((x : ℕ) → byte g x ≡ unwrap_or (entry_gives w.machine.size e x) (byte f x)) → StandsIn sc g w (issue_next w.machine h.0 op)
put_stands sc f g w h op e flat lt was puts long bytes =
    let m = w.machine in
    let is = flat.world.machine in
    entry_stands sc f g w (issue_next m h.0 op) h.0 e flat (enters w h op e is lt puts.of_op puts.there puts.may)
    (record { size = is.block_size; fits = issues_by_place.fits m h.0 op e is puts.there puts.of_op; plain = puts.plain; own = puts.own }) puts.mail was puts.queued long bytes

-- one that gives nothing
silent_stands : (sc : Scenario) (f : List ℕ) (w : WorldState) (h : HartNo) (op : HartOp) (e : Entry) → Flatness sc f w → h.0 < length w.machine.harts → IsIdle (driver_of w h.0) → Puts w h op e → ((x : ℕ) → entry_gives w.machine.size e x ≡ None)
    → StandsIn sc f w (issue_next w.machine h.0 op)
silent_stands sc f w h op e flat lt was puts none = put_stands sc f f w h op e flat lt was puts refl (λ x. sym (ap (λ (o : Option ℕ). unwrap_or o (byte f x)) (none x)))

acts_write : (sc : Scenario) (f : List ℕ) (w : WorldState) (h : HartNo) (op : HartOp) (e : Entry) (at : ℕ) (bytes : List ℕ) → Flatness sc f w → h.0 < length w.machine.harts → IsIdle (driver_of w h.0) → Puts w h op e
    → ((x : ℕ) → byte (written f (named at bytes)) x ≡ unwrap_or (entry_gives w.machine.size e x) (byte f x)) → Acts sc f (Did (Write (named at bytes)) ∷ []) w (issue_next w.machine h.0 op)
acts_write sc f w h op e at bytes flat lt was puts same = record { untouched = tt; latest = tt; stands = put_stands sc f (written f (named at bytes)) w h op e flat lt was puts (length-written f (named at bytes)) same }

acts_store : (sc : Scenario) (f : List ℕ) (w : WorldState) (h : HartNo) (span : Span) (kind : MemType) (bytes : Payload) → Flatness sc f w → h.0 < length w.machine.harts → IsIdle (driver_of w h.0) → op_touch w h (hart.Store span kind bytes) ≡ None
    → OpIsThere w.machine h.0 (hart.Store span kind bytes) → may_issue w.machine h.0 (hart.Store span kind bytes) ≡ true → Acts sc f (records_trace w.machine.size w.grants (op_records w.machine h true (hart.Store span kind bytes))) w (issue_next w.machine h.0 (hart.Store span kind bytes))
unfolding op_touch op_records
acts_store sc f w h span kind bytes flat lt was none there may =
    let m = w.machine in
    let op = hart.Store span kind bytes in
    let own = own_piece sc f w h accesses.Write span kind flat none there.piece in
    let stored = payload (hart_of m h.0).last bytes in
    acts_write sc f w h op (entries.Store span stored kind) span.at stored flat lt was
    (record {
      of_op = refl;
      there = there;
      may = may;
      plain = record { token = λ n. refl; fence = refl; inval = λ b. refl; lot = λ id. refl };
      mail = λ b. refl;
      own = store_own w h.0 span stored kind own;
      queued = own.type;
    })
    (λ x. byte_stored f span stored x (omega (arith, flat.bytes.flat_size, flat.world.of_scenario.ram, there.piece.inside)) there.whole)

acts_zero : (sc : Scenario) (f : List ℕ) (w : WorldState) (h : HartNo) (block : Block) → Flatness sc f w → h.0 < length w.machine.harts → IsIdle (driver_of w h.0) → IsBeside w.machine.pool w.machine.size block.0 → op_touch w h (hart.Cbo cbos.Zero block) ≡ None → OpIsThere w.machine h.0 (hart.Cbo cbos.Zero block)
    → may_issue w.machine h.0 (hart.Cbo cbos.Zero block) ≡ true → Acts sc f (records_trace w.machine.size w.grants (op_records w.machine h true (hart.Cbo cbos.Zero block))) w (issue_next w.machine h.0 (hart.Cbo cbos.Zero block))
unfolding op_touch op_records
acts_zero sc f w h block flat lt was beside none there may =
    let m = w.machine in
    let op = hart.Cbo cbos.Zero block in
    acts_write sc f w h op (entries.Cbo block cbos.Zero) (m.size * block.0) (replicate m.size 0) flat lt was
    (record {
      of_op = refl;
      there = there;
      may = may;
      plain = record { token = λ n. refl; fence = refl; inval = λ b. refl; lot = λ id. refl };
      mail = λ b. refl;
      own = zero_own sc f w h block flat none there;
      queued = inl beside;
    })
    (λ x. byte_zeroed {s = m.size} f block.0 x flat.world.machine.block_size (omega (arith, flat.bytes.flat_size, flat.world.of_scenario.ram, there)))

-- ---- the others

-- a cache operation that gives nothing and drops no byte
acts_clean : (sc : Scenario) (f : List ℕ) (w : WorldState) (h : HartNo) (op : HartOp) (e : Entry) → Flatness sc f w → h.0 < length w.machine.harts → IsIdle (driver_of w h.0) → entry_of (hart_of w.machine h.0).last op ≡ Some e → OpIsThere w.machine h.0 op
    → may_issue w.machine h.0 op ≡ true → IsPlain e → IsNoMail e → ((x : ℕ) → entry_gives w.machine.size e x ≡ None) → IsQueued (book_of w) (owner_of w) w.machine.pool w.machine.size h.0 e → StandsIn sc f w (issue_next w.machine h.0 op)
acts_clean sc f w h op e flat lt was of_op there may plain mail none queued =
    silent_stands sc f w h op e flat lt was (record { of_op = of_op; there = there; may = may; plain = plain; mail = mail; own = λ x. inl (none x); queued = queued }) none

-- no marker has the sets of a full fence
cut_small : (set : ℕ) → cut set ≢ 15
cut_small set e = absurd (omega (arith, e))

pub marker_plain : (pred succ : ℕ) → IsPlain (marker pred succ)
marker_plain pred succ = record { token = λ n. refl; fence = rw (ne_eqb (cut pred) 15 (cut_small pred)) refl; inval = λ b. refl; lot = λ id. refl }

marker_stands : (sc : Scenario) (f : List ℕ) (w : WorldState) (h : HartNo) (op : HartOp) (pred succ : ℕ) → Flatness sc f w → h.0 < length w.machine.harts → IsIdle (driver_of w h.0) → entry_of (hart_of w.machine h.0).last op ≡ Some (marker pred succ) → OpIsThere w.machine h.0 op
    → may_issue w.machine h.0 op ≡ true → StandsIn sc f w (issue_next w.machine h.0 op)
marker_stands sc f w h op pred succ flat lt was of_op there may = acts_clean sc f w h op (marker pred succ) flat lt was of_op there may (marker_plain pred succ) (λ b. refl) (λ x. refl) tt

fence_stands : (sc : Scenario) (f : List ℕ) (w : WorldState) (h : HartNo) (pred succ : ℕ) (t : Bool) → Flatness sc f w → h.0 < length w.machine.harts → IsIdle (driver_of w h.0) → marks pred succ ≡ t → may_issue w.machine h.0 (hart.Fence pred succ) ≡ true
    → StandsIn sc f w (issue_next w.machine h.0 (hart.Fence pred succ))
fence_stands sc f w h pred succ true flat lt was is may =
    marker_stands sc f w h (hart.Fence pred succ) pred succ flat lt was (ap (λ (b : Bool). if b then Some (marker pred succ) else None) is) tt may
fence_stands sc f w h pred succ false flat lt was is may =
    subst (StandsIn sc f w) (sym (issues_by_place.fence w.machine h.0 pred succ (ap (λ (b : Bool). if b then Some (marker pred succ) else None) is))) (stands_now sc f w flat)

-- the pool and the blocks of the machine are those of its drivers
here_beside : (sc : Scenario) (f : List ℕ) (w : WorldState) (h b : ℕ) → Flatness sc f w → h < length w.machine.harts → IsBeside (driver_of w h).fixed.pool (driver_of w h).fixed.size b → IsBeside w.machine.pool w.machine.size b
here_beside sc f w h b flat lt beside =
    let setting = (flat.world.holds.each h lt).setting in
    subst (λ (p : Span). IsBeside p w.machine.size b) (sym setting.pool) (subst (λ (s : ℕ). IsBeside (driver_of w h).fixed.pool s b) (sym setting.block) beside)

-- whatever operation of a script it is
pub acts_op : (sc : Scenario) (f : List ℕ) (w : WorldState) (h : HartNo) (op : HartOp) → Flatness sc f w → h.0 < length w.machine.harts → IsIdle (driver_of w h.0) → op_touch w h op ≡ None → IsScriptOp (driver_of w h.0).fixed op → OpIsThere w.machine h.0 op → may_issue w.machine h.0 op ≡ true
    → Acts sc f (records_trace w.machine.size w.grants (op_records w.machine h true op)) w (issue_next w.machine h.0 op)
unfolding op_touch op_records
acts_op sc f w h (hart.Load span kind) flat lt was none quiet there may = acts_load sc f w h span kind flat lt (ap rest_last was.rest) none there may
acts_op sc f w h (hart.Store span kind bytes) flat lt was none quiet there may = acts_store sc f w h span kind bytes flat lt was none there may
acts_op sc f w h (hart.Cbo cbos.Zero block) flat lt was none quiet there may = acts_zero sc f w h block flat lt was (here_beside sc f w h.0 block.0 flat lt quiet) none there may
acts_op sc f w h (hart.Cbo cbos.Inval block) flat lt was none quiet there may = absurd cc
acts_op sc f w h (hart.Cbo cbos.Clean block) flat lt was none quiet there may =
    acts_silent sc f w _ (acts_clean sc f w h (hart.Cbo cbos.Clean block) (entries.Cbo block cbos.Clean) flat lt was refl there may (record { token = λ n. refl; fence = refl; inval = λ b. refl; lot = λ id. refl }) (λ b. refl) (λ x. refl) tt)
acts_op sc f w h (hart.Cbo cbos.Flush block) flat lt was none quiet there may =
    acts_silent sc f w _ (acts_clean sc f w h (hart.Cbo cbos.Flush block) (entries.Cbo block cbos.Flush) flat lt was refl there may (record { token = λ n. refl; fence = refl; inval = λ b. refl; lot = λ id. refl }) (λ b. refl) (λ x. refl) tt)
acts_op sc f w h (hart.Fence pred succ) flat lt was none quiet there may =
    acts_same sc f [] _ w _ (append_none _ ∙ fence_silent w.machine.size w.grants (marks pred succ) h _ _ pred succ)
    (acts_silent sc f w _ (fence_stands sc f w h pred succ (marks pred succ) flat lt was refl may))
acts_op sc f w h (hart.IoLoad chan off width) flat lt was none quiet there may =
    acts_silent sc f w _ (subst (StandsIn sc f w) (sym (issues_by_place.register w.machine h.0 chan off width)) (stands_now sc f w flat))
acts_op sc f w h (hart.IoStore (io.Reg chan off width value)) flat lt was none quiet there may =
    acts_silent sc f w _ (acts_clean sc f w h (hart.IoStore (io.Reg chan off width value)) (entries.Reg chan off width value) flat lt was refl there may (record { token = λ n. refl; fence = refl; inval = λ b. refl; lot = λ id. refl }) (λ b. refl) (λ x. refl) tt)
acts_op sc f w h (hart.IoStore (io.Mail buf to)) flat lt was none quiet there may = absurd quiet
acts_op sc f w h (hart.IoStore (io.Lend label first count)) flat lt was none quiet there may = absurd quiet
acts_op sc f w h (hart.Mark pred succ) flat lt was none quiet there may = acts_silent sc f w _ (marker_stands sc f w h (hart.Mark pred succ) pred succ flat lt was refl there may)
