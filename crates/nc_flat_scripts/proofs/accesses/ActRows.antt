-- The bytes of flat memory in a machine that an act of a script leaves.
use Rattle.std.specs.Prelude.{Option, Some, None, true, false, All, filter, unwrap_or, slice_index_or, ◌/◌}
use Rattle.std.specs.List.{list_any}
use Rattle.std.proofs.Common.{◌≡◌, ◌≢◌, ℕ, ◌<◌, List, [], ◌∷◌, ◌++◌, length, refl, sym, ap, ◌∙◌, inl, inr, subst}
use Rattle.std.proofs.lemmas.Bool.{cases_eq, false≢true}
use Rattle.std.proofs.lemmas.List.Elements.{All-push}
use Rattle.nc_num.specs.Memory.{byte}
use Rattle.nc_num.specs.Places.{covers, block_at}
use Rattle.nc_num.specs.declared.names.MapId.{MapId}
use Rattle.nc_num.specs.declared.names.MemType.{MemType}
use Rattle.nc_num.specs.declared.names.MemType.TheVariants.{Pma}
use Rattle.nc_num.specs.declared.places.Span.{Span}
use Rattle.nc_queue.specs.Entries.{entry_gives}
use Rattle.nc_queue.specs.declared.entry.Entry.{Entry}
use Rattle.nc_queue.specs.declared.entry.Entry.TheVariants.{Store, Cbo, Reg, Mail, Lend, Mark}
use Rattle.nc_lines.specs.Lines.{bare}
use Rattle.nc_hart.specs.HartState.{HartState}
use Rattle.nc_model.specs.declared.owners.Owner.{Owner}
use Rattle.nc_model.specs.declared.owners.Owner.TheVariants.{Thread, Passing, Lending, Device, Returning, Synced, Pool}
use Rattle.nc_scen.specs.Regions.{slots_of}
use Rattle.nc_scen.specs.declared.scenario.Scenario.{Scenario}
use Rattle.nc_rules.specs.declared.lots.LotId.{LotId}
use Rattle.nc_rules.specs.Machine.{MachineState, no_hart, hart_of, queue_of}
use Rattle.nc_rules.specs.EventTouches.{owner_of}
use Rattle.nc_rules.specs.World.{WorldState, driver_of}
use Rattle.nc_calls.specs.MachineLaws.{SameShape}
use Rattle.nc_calls.specs.PlaceLaws.{NotHeld, Stays, Loads, Pushes}
use Rattle.nc_scripts.proofs.Lists.{all_to}
use Rattle.nc_holds.proofs.lists.Changes.{last_gone}
use Rattle.nc_rows.specs.Ahead.{is_full}
use Rattle.nc_rows.specs.Rows.{Loan, Book, Row}
use Rattle.nc_rows.specs.Laws.{seen_at, is_lent_area, area_of}
use Rattle.nc_rows.specs.Places.{PoolRow, CalmRow}
use Rattle.nc_rows.specs.Parts.{IsQueued, Queued, Uncached, rest_last}
use Rattle.nc_rows.proofs.PlaceFrames.{of_same}
use Rattle.nc_rows.proofs.Kept.{rows_keep}
use Rattle.nc_row_issues.specs.Laws.{Enters, IsOwn, IsSyncedOf}
use Rattle.nc_row_issues.proofs.RowIssues.{rows_issue}
use Rattle.nc_flatness.specs.Books.{book_of}
use Rattle.nc_flatness.specs.Copying.{IsItsOwn, CopyStands}
use Rattle.nc_flatness.specs.Flatness.{Flatness}
use Rattle.nc_flatness.specs.Tokens.{is_lot_token, TokenStands}
use Rattle.nc_flatness.proofs.worlds.Outcomes.{ran}
use Rattle.nc_flat_scripts.specs.Entering.{GivesOwn, IsPlain, IsNoMail, IsUnowned, LoanIsApart, OwnerIsApart}
use Rattle.nc_flat_scripts.proofs.accesses.EntryRows.{Comes, row_entered, unowned_own, unowned_none}
use Rattle.nc_flat_scripts.proofs.accesses.LastLoads.{LastStays, lasts_stay, lasts_keep}
use Rattle.nc_flat_scripts.proofs.copies.OtherCopies.{CopiesNone, steps_copy_none, none_stands, KeepsCopy, devices_keep, copy_kept}
use Rattle.nc_flat_scripts.proofs.accesses.OwnPlaces.{apart_at}
use Rattle.nc_flat_scripts.proofs.steps.ScriptCalls.{IsIdle}
use Rattle.nc_flat_scripts.proofs.steps.StillLots.{none_ends, posted_at}
use Rattle.nc_flat_scripts.proofs.steps.StepFrames.{StandsIn}

-- ---- no act

pub stands_now : (sc : Scenario) (f : List ℕ) (w : WorldState) → Flatness sc f w → StandsIn sc f w w.machine
stands_now sc f w flat = record {
  flat_size = flat.bytes.flat_size;
  rows = flat.bytes.rows;
  calm = flat.bytes.calm;
  queued = flat.bytes.queued;
  uncached = flat.bytes.uncached;
  unfenced = flat.bytes.unfenced;
  tokens = flat.bytes.tokens;
  lasts = flat.bytes.lasts;
  copying = flat.bytes.copying;
}

-- where memory and every copy have the same byte, that is the place's
pub calm_at : (m : MachineState) (v x : ℕ) → PoolRow v m x → CalmRow m x
calm_at m v x row = subst (λ (k : ℕ). PoolRow k m x) (sym row.both.memory) row

-- ---- queues and copies that stay

queued_same : (a : Book) (owner : ℕ → Owner) (m n : MachineState) → SameShape m n → ((g : ℕ) → queue_of n g ≡ queue_of m g) → Queued a owner m → Queued a owner n
queued_same a owner m n shape same queued = λ g. rw (shape.pool, shape.size, same g) (queued g)

-- each queue has the tokens that it had
pub tokens_kept : (sc : Scenario) (f : List ℕ) (w : WorldState) (n : MachineState) → Flatness sc f w → ((g : ℕ) (id : LotId) → filter (is_lot_token id) (queue_of n g) ≡ filter (is_lot_token id) (queue_of w.machine g))
    → (g : ℕ) → g < length sc.harts → (driver_of w g).fixed.light ≡ true → All (TokenStands (driver_of w g).rest (queue_of n g)) (driver_of w g).lots
tokens_kept sc f w n flat same g lt light =
    let d = driver_of w g in
    all_to (TokenStands d.rest (queue_of w.machine g)) (TokenStands d.rest (queue_of n g)) d.lots (flat.bytes.tokens g lt light) (λ lot is. same g lot.id ∙ is)

uncached_by : (a : Book) (owner : ℕ → Owner) (m n : MachineState) → SameShape m n → ((x : ℕ) → covers m.pool x ≡ true → NotHeld m x → NotHeld n x) → Uncached a owner m → Uncached a owner n
uncached_by a owner m n shape keep uncached = λ x over.
    let was : covers m.pool x ≡ true = subst (λ (p : Span). covers p x ≡ true) shape.pool over in
    elim (uncached x was) [ inl none ↦ inl (keep x was none) | inr may ↦ inr may ]

-- ---- the copies in hand

-- flat memory stays
pub machine_copies : (sc : Scenario) (f : List ℕ) (w : WorldState) (n : MachineState) (k : ℕ) → KeepsCopy w.machine n k → CopyStands sc f w k → CopyStands sc f (ran w n) k
machine_copies sc f w n k keeps copying = copy_kept sc f f w (ran w n) k refl keeps (record { owned = λ x own. own; bytes = λ x own. refl }) copying

-- ---- a claim, a take

pub stays_row : (a : Book) (o : Owner) (v : ℕ) (m n : MachineState) (x : ℕ) → SameShape m n → Stays m n → Row a o v m x → Row a o v n x
stays_row a o v m n x shape stays row =
    rows_keep.kept a o v m n x (record { size = shape.size; queues = stays.queues }) (of_same m n x (stays.places x)) (of_same m n (seen_at a o x) (stays.places (seen_at a o x)))
    (λ area none. (stays.places x).line ∙ none) row

pub stays_stand : (sc : Scenario) (f : List ℕ) (w : WorldState) (n : MachineState) → Flatness sc f w → SameShape w.machine n → Stays w.machine n → ((k : ℕ) → KeepsCopy w.machine n k) → StandsIn sc f w n
stays_stand sc f w n flat shape stays keeps =
    let m = w.machine in
    let a = book_of w in
    record {
      flat_size = flat.bytes.flat_size;
      rows = λ x lt off. stays_row a (owner_of w x) (byte f x) m n x shape stays (flat.bytes.rows x lt off);
      calm = λ z on unseen. calm_at n (byte m.cache.ram z) z (stays_row a Pool (byte m.cache.ram z) m n z shape stays (flat.bytes.calm z on unseen));
      queued = queued_same a (owner_of w) m n shape stays.queues flat.bytes.queued;
      uncached = uncached_by a (owner_of w) m n shape (λ x over none. (stays.places x).line ∙ none) flat.bytes.uncached;
      unfenced = λ g. ap (list_any is_full) (stays.queues g) ∙ flat.bytes.unfenced g;
      tokens = tokens_kept sc f w n flat (λ g id. ap (filter (is_lot_token id)) (stays.queues g));
      lasts = lasts_keep sc f w n flat (λ k. inr (ap (λ (hs : List HartState). (slice_index_or hs k no_hart).last) stays.harts));
      copying = λ k few. machine_copies sc f w n k (keeps k) (flat.bytes.copying k few);
    }

-- ---- a load

-- no block of an area that is being lent has a place of a hart
area_block : (o : Option Loan) (owner : ℕ → Owner) (s x y : ℕ) → LoanIsApart o owner s x → area_of o ≡ true → y / s ≡ x / s → IsUnowned (owner y)
area_block None owner s x y apart area same = absurd (false≢true area)
area_block (Some l) owner s x y apart area same = apart.area area y same

lent_block : (a : Book) (o : Owner) (owner : ℕ → Owner) (s x y : ℕ) → OwnerIsApart a owner s x o → is_lent_area a o ≡ true → y / s ≡ x / s → IsUnowned (owner y)
lent_block a (Lending n) owner s x y apart area same = area_block (a.loan n) owner s x y apart area same
lent_block a (Thread h) owner s x y apart area same = absurd (false≢true area)
lent_block a (Passing h g) owner s x y apart area same = absurd (false≢true area)
lent_block a (Device n) owner s x y apart area same = absurd (false≢true area)
lent_block a (Returning n) owner s x y apart area same = absurd (false≢true area)
lent_block a (Synced n) owner s x y apart area same = absurd (false≢true area)
lent_block a Pool owner s x y apart area same = absurd (false≢true area)

load_lasts : (w : WorldState) (n : MachineState) (h : ℕ) (span : Span) (kind : MemType) (k : ℕ) → rest_last ((book_of w).rest h) ≡ None → Loads w.machine n h span kind → LastStays w n k
load_lasts w n h span kind k none loads = elim (cases_eq k h) [
  | inl own ↦ inl (ap (λ (j : ℕ). rest_last ((book_of w).rest j)) own ∙ none)
  | inr ne ↦ inr (ap (λ (s : HartState). s.last) (loads.others k ne))
]

-- one of the hart's own bytes, that brings no block of the coherent pool, of a hart that copies nothing
pub load_stands : (sc : Scenario) (f : List ℕ) (w : WorldState) (n : MachineState) (h : ℕ) (span : Span) (kind : MemType) → Flatness sc f w → rest_last ((book_of w).rest h) ≡ None → SameShape w.machine n → Loads w.machine n h span kind → IsOwn (book_of w) h (owner_of w span.at)
    → ((x : ℕ) → covers w.machine.pool x ≡ true → kind ≡ Pma → x / w.machine.size ≢ block_at span.at w.machine.size) → StandsIn sc f w n
load_stands sc f w n h span kind flat none shape loads own beside =
    let m = w.machine in
    let a = book_of w in
    record {
      flat_size = flat.bytes.flat_size;
      rows = λ x lt off.
          let o = owner_of w x in
          rows_issue.loaded a o (byte f x) m n h span kind x shape loads
          (λ area pma same. unowned_own a h (owner_of w span.at) (lent_block a o (owner_of w) m.size x span.at (apart_at sc f w x flat lt) area (sym same)) own) (flat.bytes.rows x lt off);
      calm = λ z on unseen. calm_at n (byte m.cache.ram z) z (rows_issue.loaded a Pool (byte m.cache.ram z) m n h span kind z shape loads (λ area. absurd (false≢true area)) (flat.bytes.calm z on unseen));
      queued = queued_same a (owner_of w) m n shape loads.queues flat.bytes.queued;
      uncached = uncached_by a (owner_of w) m n shape (λ x over none. (loads.apart x (beside x over)).line ∙ none) flat.bytes.uncached;
      unfenced = λ g. ap (list_any is_full) (loads.queues g) ∙ flat.bytes.unfenced g;
      tokens = tokens_kept sc f w n flat (λ g id. ap (filter (is_lot_token id)) (loads.queues g));
      lasts = lasts_keep sc f w n flat (λ k. load_lasts w n h span kind k none loads);
      copying = λ k few. machine_copies sc f w n k (devices_keep m n k loads.devices (loads.queues k)) (flat.bytes.copying k few);
    }

-- ---- an entry

bare_full : (e : Entry) → is_full (bare e) ≡ is_full e
bare_full (Store span bytes kind) = refl
bare_full (Cbo block op) = refl
bare_full (Reg chan off width value) = refl
bare_full (Mail buf to) = refl
bare_full (Lend label first count) = refl
bare_full (Mark pred succ) = refl

pub plain_unfenced : (e : Entry) → IsPlain e → is_full e ≡ false
plain_unfenced e plain = sym (bare_full e) ∙ plain.fence

-- an entry that is no token
pub tokens_pushed : (m k : MachineState) (h : ℕ) (e : Entry) → Enters m k h e → IsPlain e → (g : ℕ) (id : LotId) → filter (is_lot_token id) (queue_of k g) ≡ filter (is_lot_token id) (queue_of m g)
tokens_pushed m k h e by plain g id = elim (cases_eq g h) [
  | inl own ↦
      ap (λ (j : ℕ). filter (is_lot_token id) (queue_of k j)) own ∙ ap (filter (is_lot_token id)) by.pushes.queues.own ∙ last_gone (is_lot_token id) (queue_of m h) e (plain.lot id)
      ∙ ap (λ (j : ℕ). filter (is_lot_token id) (queue_of m j)) (sym own)
  | inr ne ↦ ap (filter (is_lot_token id)) (by.pushes.queues.others g ne)
]

pub queued_more : (a : Book) (owner : ℕ → Owner) (m k : MachineState) (h : ℕ) (e : Entry) → Enters m k h e → IsQueued a owner m.pool m.size h e → Queued a owner m → Queued a owner k
queued_more a owner m k h e by is queued = λ g. rw (by.shape.pool, by.shape.size) (elim (cases_eq g h) [
  | inl same ↦
      let here : queue_of k g ≡ queue_of m h ++ e ∷ [] = ap (queue_of k) same ∙ by.pushes.queues.own in
      subst (λ (j : ℕ). All (IsQueued a owner m.pool m.size j) (queue_of k g)) (sym same)
      (subst (λ (q : List Entry). All (IsQueued a owner m.pool m.size h) q) (sym here) (All-push (IsQueued a owner m.pool m.size h) (queue_of m h) e (queued h) is))
  | inr ne ↦ subst (λ (q : List Entry). All (IsQueued a owner m.pool m.size g) q) (sym (by.pushes.queues.others g ne)) (queued g)
])

pub entry_lasts : (w : WorldState) (n : MachineState) (h : ℕ) (e : Entry) (k : ℕ) → Pushes w.machine n h e → (hart_of n k).last ≡ (hart_of w.machine k).last
entry_lasts w n h e k pushes = elim (cases_eq k h) [
  | inl own ↦ ap (λ (j : ℕ). (hart_of n j).last) own ∙ pushes.last ∙ ap (λ (j : ℕ). (hart_of w.machine j).last) (sym own)
  | inr ne ↦ ap (λ (s : HartState). s.last) (pushes.others k ne)
]

-- a byte of a slot is given by none
pub entry_calm : (sc : Scenario) (f : List ℕ) (w : WorldState) (k : MachineState) (h : ℕ) (e : Entry) (z : ℕ) → Flatness sc f w → Enters w.machine k h e → GivesOwn (book_of w) (owner_of w) w.machine.size h e → covers (slots_of sc) z ≡ true → CalmRow w.machine z → CalmRow k z
entry_calm sc f w k h e z flat by own on calm =
    let v = byte w.machine.cache.ram z in
    calm_at k v z (rows_issue.passed (book_of w) Pool v w.machine k h e z by (unowned_none (book_of w) (owner_of w) w.machine.size h e z own (subst IsUnowned (sym (flat.bytes.slotted z on)) tt)) calm)

-- what is another hart's own, it does not give
not_synced : (o : Option Loan) (h k : ℕ) (n : MapId) → k ≢ h → n.hart.0 ≡ k → IsSyncedOf h n o → ⊥
not_synced None h k n ne its own = own
not_synced (Some l) h k n ne its own = ne (sym its ∙ own)

pub not_anothers : (a : Book) (h k : ℕ) (o : Owner) → k ≢ h → IsItsOwn k o → IsOwn a h o → ⊥
not_anothers a h k (Thread g) ne its own = ne (sym its ∙ own)
not_anothers a h k (Passing g j) ne its own = its
not_anothers a h k (Lending n) ne its own = own
not_anothers a h k (Device n) ne its own = own
not_anothers a h k (Returning n) ne its own = own
not_anothers a h k (Synced n) ne its own = not_synced (a.loan n) h k n ne its.0 own
not_anothers a h k Pool ne its own = its

given_away : (a : Book) (owner : ℕ → Owner) (s h k x : ℕ) (e : Entry) → k ≢ h → GivesOwn a owner s h e → IsItsOwn k (owner x) → entry_gives s e x ≡ None
given_away a owner s h k x e ne gives its = elim (gives x) [
  | inl none ↦ none
  | inr own ↦ absurd (not_anothers a h k (owner x) ne its own)
]

-- an entry in a queue leaves what another hart's copy has
pub entry_keeps : (m n : MachineState) (h : ℕ) (e : Entry) (k : ℕ) → Pushes m n h e → k ≢ h → KeepsCopy m n k
entry_keeps m n h e k pushes ne = devices_keep m n k pushes.devices (pushes.queues.others k ne)

pub entry_copies : (sc : Scenario) (f g : List ℕ) (w : WorldState) (n : MachineState) (h : ℕ) (e : Entry) (k : ℕ) → Pushes w.machine n h e → GivesOwn (book_of w) (owner_of w) w.machine.size h e → CopiesNone (driver_of w h)
    → ((x : ℕ) → byte g x ≡ unwrap_or (entry_gives w.machine.size e x) (byte f x)) → CopyStands sc f w k → CopyStands sc g (ran w n) k
entry_copies sc f g w n h e k pushes gives none bytes copying = elim (cases_eq k h) [
  | inl own ↦ none_stands sc g (ran w n) k (subst (λ (j : ℕ). CopiesNone (driver_of w j)) (sym own) none)
  | inr ne ↦
      copy_kept sc f g w (ran w n) k refl (entry_keeps w.machine n h e k pushes ne)
      (record {
        owned = λ x own. own;
        bytes = λ x own. bytes x ∙ ap (λ (o : Option ℕ). unwrap_or o (byte f x)) (given_away (book_of w) (owner_of w) w.machine.size h k x e ne gives own);
      }) copying
]

-- flat memory g has the bytes that the entry gives
pub entry_stands : (sc : Scenario) (f g : List ℕ) (w : WorldState) (k : MachineState) (h : ℕ) (e : Entry) → Flatness sc f w → Enters w.machine k h e → Comes (book_of w) (owner_of w) w.machine h e → IsNoMail e → IsIdle (driver_of w h)
    → IsQueued (book_of w) (owner_of w) w.machine.pool w.machine.size h e → length g ≡ length f → ((x : ℕ) → byte g x ≡ unwrap_or (entry_gives w.machine.size e x) (byte f x)) → StandsIn sc g w k
entry_stands sc f g w k h e flat by comes quiet was is long bytes =
    let m = w.machine in
    let a = book_of w in
    record {
      flat_size = long ∙ flat.bytes.flat_size;
      rows = λ x lt off.
          subst (λ (v : ℕ). Row a (owner_of w x) v k x) (sym (bytes x))
          (row_entered a (owner_of w) (byte f x) m k h e x by comes (apart_at sc f w x flat lt) (posted_at sc f w h x flat was.still (none_ends (driver_of w h).rest was.rest) lt) (λ j g passing own. quiet (a.buffer x)) (flat.bytes.rows x lt off));
      calm = λ z on unseen. entry_calm sc f w k h e z flat by comes.own on (flat.bytes.calm z on unseen);
      queued = queued_more a (owner_of w) m k h e by is flat.bytes.queued;
      uncached = uncached_by a (owner_of w) m k by.shape (λ x over none. (by.pushes.places x).line ∙ none) flat.bytes.uncached;
      unfenced = λ g. by.pushes.queues.none is_full g (plain_unfenced e comes.plain) (flat.bytes.unfenced g);
      tokens = tokens_kept sc f w k flat (tokens_pushed m k h e by comes.plain);
      lasts = lasts_stay sc f g w k flat long
          (λ x un. bytes x ∙ ap (λ (o : Option ℕ). unwrap_or o (byte f x)) (unowned_none a (owner_of w) m.size h e x comes.own un)) (λ j. inr (entry_lasts w k h e j by.pushes));
      copying = λ j few. entry_copies sc f g w k h e j by.pushes comes.own (steps_copy_none (driver_of w h) was.count was.phase) bytes (flat.bytes.copying j few);
    }
