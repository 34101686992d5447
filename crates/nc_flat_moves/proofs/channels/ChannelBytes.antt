-- The bytes behind a channel's transaction.
use Rattle.nc_rows.specs.Ahead.{is_full}
use Rattle.std.specs.Prelude.{Option, Some, ◌-◌, map}
use Rattle.std.specs.List.{range_with_len, list_any}
use Rattle.std.proofs.Common.{◌≡◌, ◌⊎◌, ℕ, ◌+◌, ◌<◌, ◌≤◌, true, false, List, length, refl, sym, ap, ◌∙◌, inl, inr, subst, arith}
use Rattle.std.proofs.lemmas.Bool.{cases_Bool, both_ways}
use Rattle.nc_num.specs.Memory.{byte}
use Rattle.nc_num.specs.Memory as memory
use Rattle.nc_num.specs.Places.{covers}
use Rattle.nc_num.specs.declared.names.ChanNo.{ChanNo}
use Rattle.nc_num.specs.declared.names.Dir.{Dir}
use Rattle.nc_num.specs.declared.names.Dir.TheVariants.{Both, ToDev, FromDev}
use Rattle.nc_num.specs.declared.names.MapId.{MapId}
use Rattle.nc_num.specs.declared.places.Span.{Span}
use Rattle.nc_num.proofs.MemoryLaws.{span-by_place}
use Rattle.nc_hart.specs.HartState.{HartState}
use Rattle.nc_model.specs.Flat.{named_from, channel_name, written, Shows}
use Rattle.nc_model.specs.Rights.{device_may}
use Rattle.nc_model.specs.declared.owners.Access.{Access}
use Rattle.nc_model.specs.declared.owners.Access.TheVariants.{Read, Write}
use Rattle.nc_model.specs.declared.owners.Owner.{Owner}
use Rattle.nc_model.specs.declared.owners.Owner.TheVariants.{Lending, Device, Returning, Pool}
use Rattle.nc_model.proofs.Faults.{covers-low, covers-high, covers-from}
use Rattle.nc_model.proofs.FlatLaws.{length-written}
use Rattle.nc_scen.specs.Regions.{slots_of}
use Rattle.nc_scen.specs.declared.scenario.Scenario.{Scenario}
use Rattle.nc_rules.specs.Machine.{MachineState, hart_of, queue_of}
use Rattle.nc_rules.specs.EventTouches.{owner_of}
use Rattle.nc_rules.specs.World.{WorldState}
use Rattle.nc_calls.specs.MachineLaws.{SameShape}
use Rattle.nc_calls.specs.PlaceLaws.{NotHeld, Stays, WritesSpan}
use Rattle.nc_rows.specs.Places.{CalmRow}
use Rattle.nc_rows.specs.Rows.{Loan, Book, device_place, ByDir, Row}
use Rattle.nc_rows.specs.Parts.{Queued, Uncached, Lasts}
use Rattle.nc_rows.specs.Laws.{place_of}
use Rattle.nc_row_channels.specs.Laws.{Beside, IsWritten, IsPlain}
use Rattle.nc_row_channels.proofs.RowWrites.{rows_of_channels}
use Rattle.nc_flatness.specs.Books.{book_of, mapping_in}
use Rattle.nc_flatness.specs.Copying.{CopyStands}
use Rattle.nc_flatness.specs.Flatness.{IsUnseen, BytesStand, Flatness}
use Rattle.nc_flatness.proofs.worlds.FlatBytes.{out_of}
use Rattle.nc_flatness.proofs.plans.Lasts.{last_stays}
use Rattle.nc_flatness.proofs.worlds.Outcomes.{ran}
use Rattle.nc_flatness.proofs.books.Owned.{mapped, owned_ram}
use Rattle.nc_flatness.proofs.books.Seen.{seen, area_place, seen_one}
use Rattle.nc_flat_moves.proofs.drains.Pooled.{either_by, one_loan, device_unheld}
use Rattle.nc_flat_moves.proofs.tokens.Tokens.{tokens_same}
use Rattle.nc_flat_moves.proofs.drains.Calm.{calm_of}
use Rattle.nc_flat_moves.proofs.channels.NamedBytes.{byte_kept, byte_there, shows_under}
use Rattle.nc_flat_moves.proofs.channels.Granted.{IsUsed, used_there, used_ways, seen_here}

-- ---- nothing is written

queued_on : (a : Book) (owner : ℕ → Owner) (m k : MachineState) → SameShape m k → ((g : ℕ) → queue_of k g ≡ queue_of m g) → Queued a owner m → Queued a owner k
queued_on a owner m k shape same queued = λ g. rw (shape.pool, shape.size, same g) (queued g)

uncached_on : (a : Book) (owner : ℕ → Owner) (m k : MachineState) → SameShape m k → ((x : ℕ) → NotHeld m x → NotHeld k x) → Uncached a owner m → Uncached a owner k
uncached_on a owner m k shape free uncached = λ x over. elim (uncached x (subst (λ (s : Span). covers s x ≡ true) shape.pool over)) [ inl none ↦ inl (free x none) | inr held ↦ inr held ]

lasts_on : (a : Book) (f : List ℕ) (m k : MachineState) → k.harts ≡ m.harts → Lasts a f m → Lasts a f k
lasts_on a f m k same lasts = λ h. rw same (lasts h)

pub stay_bytes : (sc : Scenario) (f : List ℕ) (w : WorldState) (k : MachineState) → Flatness sc f w → SameShape w.machine k → Stays w.machine k → ((h : ℕ) → h < length sc.harts → CopyStands sc f (ran w k) h) → BytesStand sc f (ran w k)
stay_bytes sc f w k flat shape same copying =
    let a = book_of w in
    let m = w.machine in
    let s = flat.bytes in
    record {
      flat_size = s.flat_size;
      drives = s.drives;
      placed = s.placed;
      pooled = s.pooled;
      slotted = s.slotted;
      rows = λ x lt off. rows_of_channels.stays a (owner_of w x) (byte f x) m k x shape same (s.rows x lt off);
      calm = λ z on none. calm_of m k z (rows_of_channels.stays a Pool (byte m.cache.ram z) m k z shape same (s.calm z on none));
      queued = queued_on a (owner_of w) m k shape same.queues s.queued;
      unfenced = λ h. ap (list_any is_full) (same.queues h) ∙ s.unfenced h;
      uncached = uncached_on a (owner_of w) m k shape (λ x none. (same.places x).line ∙ none) s.uncached;
      lasts = lasts_on a f m k same.harts s.lasts;
      tokens = tokens_same sc f w k flat same.queues;
      copying = copying;
    }

-- ---- what is read

plain_by : (l : Loan) (x : ℕ) → (l.area ≡ true → device_place l x ≡ x) → IsPlain (Some l) x
plain_by l x same = either_by l.area (device_place l x ≡ x) (Unit {0}) same (λ single. tt)

-- a place of an area is used where it is
area_used : (sc : Scenario) (f : List ℕ) (w : WorldState) (c : ChanNo) (access : Access) (z : ℕ) → Flatness sc f w → (u : IsUsed w c access z) → u.loan.area ≡ true → device_place u.loan u.place ≡ u.place
area_used sc f w c access z flat u area =
    let mine = ap mapping_in u.owner in
    let m = mapped sc f w u.id u.place flat (owned_ram sc f w u.place u.id flat mine) mine in
    let same = one_loan ((book_of w).loan u.id) m.loan u.loan m.known u.known in
    subst (λ (l : Loan). device_place l u.place ≡ u.place) same (area_place sc f w u.id m.loan u.place flat m.is (ap (λ (l : Loan). l.area) same ∙ area) m.on)

seen_by : (o : Option Loan) (l : Loan) (x z : ℕ) → o ≡ Some l → device_place l x ≡ z → place_of o x ≡ z
seen_by o l x z known here = ap (λ (k : Option Loan). place_of k x) known ∙ here

-- memory has flat memory's byte at a place that is used
pub read_byte : (sc : Scenario) (f : List ℕ) (w : WorldState) (c : ChanNo) (z : ℕ) → Flatness sc f w → IsUsed w c Read z → byte w.machine.cache.ram z ≡ byte f (channel_name w.grants c z)
read_byte sc f w c z flat u =
    let a = book_of w in
    let m = w.machine in
    let there = used_there sc f w c Read z flat u in
    let row = subst (λ (o : Owner). Row a o (byte f u.place) m u.place) u.owner (flat.bytes.rows u.place there.low there.off) in
    let plain : IsPlain (a.loan u.id) u.place = subst (λ (o : Option Loan). IsPlain o u.place) (sym u.known) (plain_by u.loan u.place (area_used sc f w c Read z flat u)) in
    ap (byte m.cache.ram) (sym (seen_by (a.loan u.id) u.loan u.place z u.known u.here)) ∙ rows_of_channels.shows a u.id (byte f u.place) m u.place plain row ∙ ap (byte f) (sym u.name)

pub read_shows : (sc : Scenario) (f : List ℕ) (w : WorldState) (c : ChanNo) (span : Span) (bytes : List ℕ) → Flatness sc f w → ((z : ℕ) → covers span z ≡ true → IsUsed w c Read z) → span.at + span.len ≤ length w.machine.cache.ram
    → bytes ≡ memory.span w.machine.cache.ram span.at span.len → Shows f (named_from (channel_name w.grants c) span.at bytes)
read_shows sc f w c span bytes flat uses inside is =
    let ram = w.machine.cache.ram in
    let each : bytes ≡ map (byte ram) (range_with_len span.at span.len) = is ∙ sym (span-by_place ram (byte ram) span.at span.len inside (λ x low high. refl)) in
    subst (λ (bs : List ℕ). Shows f (named_from (channel_name w.grants c) span.at bs)) (sym each)
    (shows_under f (channel_name w.grants c) (byte ram) span.at span.len (λ z low high. read_byte sc f w c z flat (uses z (covers-from span z low high))))

-- ---- what is written

-- what channel c writes of the span, in a world with flat memory
pub record IsWrite (sc : Scenario) (f : List ℕ) (w : WorldState) (k : MachineState) (c : ChanNo) (span : Span) (bytes : List ℕ) : Type 0 where
  pub flat : Flatness sc f w
  pub shape : SameShape w.machine k
  pub writes : WritesSpan w.machine k span bytes
  pub uses : (z : ℕ) → covers span z ≡ true → IsUsed w c Write z

-- flat memory with the bytes, under the names that they have
abbrev pub told : WorldState → ChanNo → List ℕ → Span → List ℕ → List ℕ
told w c f span bytes = written f (named_from (channel_name w.grants c) span.at bytes)

-- two places that are used have two names
used_apart : (w : WorldState) (c : ChanNo) (access : Access) (y z : ℕ) → (u : IsUsed w c access y) → (v : IsUsed w c access z) → channel_name w.grants c y ≡ channel_name w.grants c z → y ≡ z
used_apart w c access y z u v same =
    let place : u.place ≡ v.place = sym u.name ∙ same ∙ v.name in
    let id : u.id ≡ v.id = let owner : Device u.id ≡ Device v.id = sym u.owner ∙ ap (owner_of w) place ∙ v.owner in cc in
    let loan : u.loan ≡ v.loan = one_loan ((book_of w).loan v.id) u.loan v.loan (ap (book_of w).loan (sym id) ∙ u.known) v.known in
    sym u.here ∙ ap (λ (l : Loan). device_place l u.place) loan ∙ ap (device_place v.loan) place ∙ v.here

-- a place that is seen at none of the span keeps its byte
pub byte_beside : (sc : Scenario) (f : List ℕ) (w : WorldState) (k : MachineState) (c : ChanNo) (span : Span) (bytes : List ℕ) (x : ℕ) → (is : IsWrite sc f w k c span bytes) → ((z : ℕ) → covers span z ≡ true → (u : IsUsed w c Write z) → u.place ≡ x → ⊥)
    → byte (told w c f span bytes) x ≡ byte f x
byte_beside sc f w k c span bytes x is other = byte_kept f (channel_name w.grants c) span.at bytes x (λ z low high same.
    let on = covers-from span z low (omega (arith, high, is.writes.long)) in
    let u = is.uses z on in other z on u (sym u.name ∙ same))

-- one that is gets the byte
pub byte_used : (sc : Scenario) (f : List ℕ) (w : WorldState) (k : MachineState) (c : ChanNo) (span : Span) (bytes : List ℕ) (z : ℕ) → (is : IsWrite sc f w k c span bytes) → covers span z ≡ true → (u : IsUsed w c Write z)
    → byte (told w c f span bytes) u.place ≡ byte bytes (z - span.at)
byte_used sc f w k c span bytes z is on u =
    let there = used_there sc f w c Write z is.flat u in
    ap (byte (told w c f span bytes)) (sym u.name)
    ∙ byte_there f (channel_name w.grants c) span.at bytes z (covers-low span z on) (omega (arith, covers-high span z on, is.writes.long)) (omega (arith, u.name, there.low, is.flat.bytes.flat_size))
    (λ y low high same. used_apart w c Write y z (is.uses y (covers-from span y low (omega (arith, high, is.writes.long)))) u same)

-- the buffer's own place is not written, but where the channel sees it there
beside_by : (sc : Scenario) (f : List ℕ) (w : WorldState) (k : MachineState) (c : ChanNo) (span : Span) (bytes : List ℕ) (x : ℕ) → (is : IsWrite sc f w k c span bytes) → covers (slots_of sc) x ≡ false → (covers span x ≡ true → seen w x ≡ x → ⊥) → Beside span x
beside_by sc f w k c span bytes x is off other = elim (cases_Bool (covers span x)) [
  | inl on ↦ absurd (other on (seen_here sc f w c Write x is.flat off (is.uses x on)))
  | inr out ↦ out_of span x out
]

place_apart : (sc : Scenario) (f : List ℕ) (w : WorldState) (k : MachineState) (c : ChanNo) (span : Span) (bytes : List ℕ) (z : ℕ) → (is : IsWrite sc f w k c span bytes) → (u : IsUsed w c Write z) → (u.place ≡ device_place u.loan u.place) ⊎ Beside span u.place
place_apart sc f w k c span bytes z is u =
    let there = used_there sc f w c Write z is.flat u in
    elim (used_ways sc f w c Write z is.flat u) [
      | inl same ↦ inl (same ∙ sym u.here)
      | inr on ↦ inr (beside_by sc f w k c span bytes u.place is there.off (λ over here. both_ways (covers (slots_of sc) z) (ap (λ (y : ℕ). covers (slots_of sc) y) (sym there.at ∙ here) ∙ there.off) on))
    ]

written_dir : (dir : Dir) (p : Type 0) → device_may Write dir ≡ true → p → ByDir dir ⊥ p
written_dir ToDev p may way = absurd cc
written_dir Both p may way = way
written_dir FromDev p may way = way

written_by : (l : Loan) (span : Span) (m : MachineState) (x : ℕ) → (l.area ≡ true → (device_place l x ≡ x) × NotHeld m x) → device_may Write l.grant.dir ≡ true → (x ≡ device_place l x) ⊎ Beside span x → IsWritten (Some l) span m x
written_by l span m x area may way =
    either_by l.area ((device_place l x ≡ x) × NotHeld m x) (ByDir l.grant.dir ⊥ ((x ≡ device_place l x) ⊎ Beside span x)) area (λ single. written_dir l.grant.dir ((x ≡ device_place l x) ⊎ Beside span x) may way)

-- the row of a place that is written
row_used : (sc : Scenario) (f : List ℕ) (w : WorldState) (k : MachineState) (c : ChanNo) (span : Span) (bytes : List ℕ) (z : ℕ) → (is : IsWrite sc f w k c span bytes) → covers span z ≡ true → (u : IsUsed w c Write z)
    → Row (book_of w) (owner_of w u.place) (byte (told w c f span bytes) u.place) k u.place
row_used sc f w k c span bytes z is on u =
    let a = book_of w in
    let m = w.machine in
    let there = used_there sc f w c Write z is.flat u in
    let at : place_of (a.loan u.id) u.place ≡ z = seen_by (a.loan u.id) u.loan u.place z u.known u.here in
    let row = subst (λ (o : Owner). Row a o (byte f u.place) m u.place) u.owner (is.flat.bytes.rows u.place there.low there.off) in
    let told_so : IsWritten (a.loan u.id) span m u.place =
    subst (λ (o : Option Loan). IsWritten o span m u.place) (sym u.known)
    (written_by u.loan span m u.place (λ area. (area_used sc f w c Write z is.flat u area, device_unheld sc f w u.id u.loan u.place is.flat u.owner u.known area)) u.allows (place_apart sc f w k c span bytes z is u)) in
    let done = rows_of_channels.written a u.id (byte f u.place) m k span bytes u.place is.shape is.writes (rw at (covers-low span z on)) (rw at (covers-high span z on)) told_so row in
    let value : byte bytes (place_of (a.loan u.id) u.place - span.at) ≡ byte (told w c f span bytes) u.place = ap (λ (y : ℕ). byte bytes (y - span.at)) at ∙ sym (byte_used sc f w k c span bytes z is on u) in
    subst (λ (o : Owner). Row a o (byte (told w c f span bytes) u.place) k u.place) (sym u.owner) (subst (λ (v : ℕ). Row a (Device u.id) v k u.place) value done)

-- a place that is seen in the span is the one for which the channel uses it
place_is : (sc : Scenario) (f : List ℕ) (w : WorldState) (c : ChanNo) (x : ℕ) → Flatness sc f w → x < sc.ram → covers (slots_of sc) x ≡ false → (u : IsUsed w c Write (seen w x)) → u.place ≡ x
place_is sc f w c x flat lt off u =
    let there = used_there sc f w c Write (seen w x) flat u in seen_one sc f w u.place x flat there.low lt there.off off there.at

row_by : (sc : Scenario) (f : List ℕ) (w : WorldState) (k : MachineState) (c : ChanNo) (span : Span) (bytes : List ℕ) (x : ℕ) → (is : IsWrite sc f w k c span bytes) → x < sc.ram → covers (slots_of sc) x ≡ false
    → Row (book_of w) (owner_of w x) (byte (told w c f span bytes) x) k x
row_by sc f w k c span bytes x is lt off = elim (cases_Bool (covers span (seen w x))) [
  | inl on ↦
      let u = is.uses (seen w x) on in
      subst (λ (y : ℕ). Row (book_of w) (owner_of w y) (byte (told w c f span bytes) y) k y) (place_is sc f w c x is.flat lt off u) (row_used sc f w k c span bytes (seen w x) is on u)
  | inr out ↦
      let away : Beside span x = beside_by sc f w k c span bytes x is off (λ on here. both_ways (covers span (seen w x)) out (ap (λ (y : ℕ). covers span y) here ∙ on)) in
      let same = byte_beside sc f w k c span bytes x is (λ z on u place. both_ways (covers span (seen w x)) out (ap (λ (y : ℕ). covers span y) (ap (seen w) (sym place) ∙ (used_there sc f w c Write z is.flat u).at) ∙ on)) in
      subst (λ (v : ℕ). Row (book_of w) (owner_of w x) v k x) (sym same)
      (rows_of_channels.beside (book_of w) (owner_of w x) (byte f x) w.machine k span bytes x is.shape is.writes away (out_of span (seen w x) out) (is.flat.bytes.rows x lt off))
]

-- a slot's byte that no channel sees is not written
calm_by : (sc : Scenario) (f : List ℕ) (w : WorldState) (k : MachineState) (c : ChanNo) (span : Span) (bytes : List ℕ) (z : ℕ) → (is : IsWrite sc f w k c span bytes) → covers (slots_of sc) z ≡ true → IsUnseen (book_of w) (owner_of w) (slots_of sc) z → CalmRow k z
calm_by sc f w k c span bytes z is over none = elim (cases_Bool (covers span z)) [
  | inl on ↦ let u = is.uses z on in let there = used_there sc f w c Write z is.flat u in absurd (none u.place there.off there.at)
  | inr out ↦
      let away = out_of span z out in
      calm_of w.machine k z (rows_of_channels.beside (book_of w) Pool (byte w.machine.cache.ram z) w.machine k span bytes z is.shape is.writes away away (is.flat.bytes.calm z over none))
]

-- ---- what a last load brought is of places that are lent or taken back

not_device : (w : WorldState) (n id : MapId) (x y : ℕ) → (owner_of w x ≡ Lending n) ⊎ (owner_of w x ≡ Returning n) → owner_of w y ≡ Device id → y ≡ x → ⊥
not_device w n id x y (inl own) device same = let no : Lending n ≡ Device id = sym own ∙ ap (owner_of w) (sym same) ∙ device in cc
not_device w n id x y (inr own) device same = let no : Returning n ≡ Device id = sym own ∙ ap (owner_of w) (sym same) ∙ device in cc

lasts_written : (sc : Scenario) (f : List ℕ) (w : WorldState) (k : MachineState) (c : ChanNo) (span : Span) (bytes : List ℕ) → IsWrite sc f w k c span bytes → Lasts (book_of w) (told w c f span bytes) k
lasts_written sc f w k c span bytes is = λ h.
    last_stays sc f (told w c f span bytes) w (book_of w) k h is.flat (length-written f (named_from (channel_name w.grants c) span.at bytes) ∙ is.flat.bytes.flat_size) refl
    (ap (λ (hs : List HartState). (hart_of (record w.machine { harts = hs }) h).last) is.writes.harts) (λ n own. refl)
    (λ x n own lent. byte_beside sc f w k c span bytes x is (λ z on u same. not_device w n u.id x u.place lent u.owner same))

-- ---- the whole

pub write_bytes : (sc : Scenario) (f : List ℕ) (w : WorldState) (k : MachineState) (c : ChanNo) (span : Span) (bytes : List ℕ) → Flatness sc f w → SameShape w.machine k → WritesSpan w.machine k span bytes → ((z : ℕ) → covers span z ≡ true → IsUsed w c Write z)
    → ((h : ℕ) → h < length sc.harts → CopyStands sc (told w c f span bytes) (ran w k) h) → BytesStand sc (told w c f span bytes) (ran w k)
write_bytes sc f w k c span bytes flat shape writes uses copying =
    let a = book_of w in
    let m = w.machine in
    let s = flat.bytes in
    let is : IsWrite sc f w k c span bytes = record { flat = flat; shape = shape; writes = writes; uses = uses } in
    record {
      flat_size = length-written f (named_from (channel_name w.grants c) span.at bytes) ∙ s.flat_size;
      drives = s.drives;
      placed = s.placed;
      pooled = s.pooled;
      slotted = s.slotted;
      rows = λ x lt off. row_by sc f w k c span bytes x is lt off;
      calm = λ z on none. calm_by sc f w k c span bytes z is on none;
      queued = queued_on a (owner_of w) m k shape writes.queues s.queued;
      unfenced = λ h. ap (list_any is_full) (writes.queues h) ∙ s.unfenced h;
      uncached = uncached_on a (owner_of w) m k shape writes.not_held s.uncached;
      lasts = lasts_written sc f w k c span bytes is;
      tokens = tokens_same sc f w k flat writes.queues;
      copying = copying;
    }
