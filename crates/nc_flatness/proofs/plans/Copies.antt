-- A copy that a hart has in hand, as events go by: those that are not of its driver, and the steps of its plan.
use Rattle.std.specs.Prelude.{slice_get}
use Rattle.std.proofs.Common.{◌≡◌, ℕ, ◌+◌, ◌<◌, Bool, true, false, List, ◌++◌, length, refl, sym, ap, ◌∙◌, subst, arith, Some}
use Rattle.std.proofs.lemmas.Bool.{false≢true, false_from_ne_true}
use Rattle.nc_num.specs.Memory.{byte}
use Rattle.nc_num.specs.Places.{covers}
use Rattle.nc_num.specs.declared.names.ChanNo.{ChanNo}
use Rattle.nc_num.specs.declared.names.Dir.{Dir}
use Rattle.nc_num.specs.declared.names.Dir.TheVariants.{ToDev, FromDev}
use Rattle.nc_num.specs.declared.names.MapId.{MapId}
use Rattle.nc_num.specs.declared.places.Span.{Span}
use Rattle.nc_model.proofs.Faults.{covers-from}
use Rattle.nc_queue.specs.declared.entry.Entry.{Entry as QueueEntry}
use Rattle.nc_pdma.specs.Channel.{ChannelState}
use Rattle.nc_ops.specs.declared.ops.Op.{Op}
use Rattle.nc_ops.specs.declared.ops.Op.TheVariants as ops
use Rattle.nc_sg.specs.declared.list.Entry.{Entry}
use Rattle.nc_scen.specs.declared.scenario.Scenario.{Scenario}
use Rattle.nc_rules.specs.declared.lots.LotId.{LotId}
use Rattle.nc_rules.specs.declared.lots.Side.{Side}
use Rattle.nc_rules.specs.declared.lots.Side.TheVariants as sides
use Rattle.nc_rules.specs.declared.steps.Phase.{Phase}
use Rattle.nc_rules.specs.declared.steps.Phase.TheVariants.{Steps}
use Rattle.nc_rules.specs.Copies.{source, target}
use Rattle.nc_rules.specs.Driver.{DriverState, in_hand}
use Rattle.nc_rules.specs.Lots.{is_wanted, is_own, map_id, owner_of_side}
use Rattle.nc_rules.specs.Machine.{queue_of, channel_of, grantee_of}
use Rattle.nc_rules.specs.Refusals.{buffer_of, part_of}
use Rattle.nc_rules.specs.Turns.{is_area}
use Rattle.nc_rules.specs.EventTouches.{owner_of}
use Rattle.nc_rules.specs.World.{WorldState, driver_of, hart}
use Rattle.nc_holds.specs.Held.{IsEntryOf}
use Rattle.nc_transfers.specs.Bytes.{SameEnds}
use Rattle.nc_transfers.specs.Transfers.{IsCopying}
use Rattle.nc_transfers.proofs.Stages.{copies_go_on}
use Rattle.nc_flatness.specs.Books.{mapping_in}
use Rattle.nc_flatness.specs.Copying.{CopyOp, copy_op, registers, registers_coming, span_of, polls, transfers, AreItsEnds, IsEndAt, IsUnderWay, IsItsOwn, SawDone, IsBegun, CopyStands}
use Rattle.nc_flatness.specs.Flatness.{Flatness}
use Rattle.nc_flatness.proofs.books.Owned.{entry_owned, fits_side}

-- ---- where no copy is in hand

abbrev pub is_copy : Op → Bool
is_copy (ops.Copy chan src src_off dst dst_off len cfg) = true
is_copy _ = false

copied_op : (o : Op) (k : CopyOp) → Some o ≡ Some (copy_op k) → is_copy o ≡ true
copied_op o k e = let same : o ≡ copy_op k = cc in ap is_copy same

-- the operation in hand is another
pub copy_none : (sc : Scenario) (f : List ℕ) (w : WorldState) (h : ℕ) (o : Op) → in_hand (driver_of w h) ≡ Some o → is_copy o ≡ false → CopyStands sc f w h
copy_none sc f w h o hand none k is begun = absurd (false≢true (sym none ∙ copied_op o k (sym hand ∙ is)))

-- its start step is not made
pub copy_idle : (sc : Scenario) (f : List ℕ) (w : WorldState) (h n : ℕ) → (driver_of w h).phase ≡ Steps n → CopyStands sc f w h
copy_idle sc f w h n idle k is begun = absurd (subst (λ (p : Phase). IsBegun p) idle begun)

-- ---- an event that is not of the hart's driver

pub record KeepsCopy (f g : List ℕ) (w v : WorldState) (h : ℕ) : Type 0 where
  pub driver : driver_of v h ≡ driver_of w h
  -- the channels that the hart has claimed stay
  pub channels : (c : ℕ) → grantee_of w.machine c ≡ Some (hart h) → (channel_of v.machine c ≡ channel_of w.machine c) × (grantee_of v.machine c ≡ Some (hart h))
  pub registers : registers (queue_of v.machine h) ≡ registers (queue_of w.machine h)
  pub owned : (x : ℕ) → IsItsOwn h (owner_of w x) → IsItsOwn h (owner_of v x)
  -- flat memory goes on from f to g, and no place that is lent for a copy has another byte
  pub bytes : (x : ℕ) (n : MapId) → mapping_in (owner_of w x) ≡ Some n → n.hart.0 ≡ h → n.label.0 ≡ 1000 → byte g x ≡ byte f x

mapped_by : (n : MapId) (side : Side) → is_wanted side ≡ false → is_own side ≡ false → mapping_in (owner_of_side n side) ≡ Some n
mapped_by n sides.Lending lent own = refl
mapped_by n sides.Device lent own = refl
mapped_by n sides.Returning lent own = refl
mapped_by n sides.Synced lent own = refl
mapped_by n sides.Wanted lent own = absurd (false≢true (sym lent))
mapped_by n sides.Own lent own = absurd (false≢true (sym own))

-- the mapping of an end that is lent
pub end_mapped : (sc : Scenario) (f : List ℕ) (w : WorldState) (h : ℕ) (id : LotId) (dir : Dir) (chan : ChanNo) (range device : Span) (x : ℕ) → Flatness sc f w → (e : IsEndAt (driver_of w h).fixed (driver_of w h).lots id dir chan range device) → covers range x ≡ true
    → mapping_in (owner_of w x) ≡ Some (map_id (hart h) id 0)
end_mapped sc f w h id dir chan range device x flat e on =
    let d = driver_of w h in
    let here : IsEntryOf d.lots e.lot 0 e.entry = record { lot_in = e.is.here; entry = ap (λ (es : List Entry). slice_get es 0) e.only } in
    let owner = entry_owned sc f w h e.lot 0 e.entry x flat here (subst (λ (s : Span). covers s x ≡ true) (sym e.range_is) on) in
    let fits = fits_side sc f w h e.lot flat e.is.here in
    let plain : is_own e.lot.side ≡ false = false_from_ne_true (is_own e.lot.side) (λ own. false≢true (sym (ap is_area e.is.kind) ∙ fits.own own)) in
    ap mapping_in owner ∙ mapped_by (map_id (hart h) e.lot.id 0) e.lot.side e.lent plain ∙ ap (λ (i : LotId). Some (map_id (hart h) i 0)) e.is.id_is

-- no place that is lent for the hart's copy has another byte
abbrev pub KeepsLent : List ℕ → List ℕ → WorldState → ℕ → Type 0
KeepsLent f g w h = (x : ℕ) (n : MapId) → mapping_in (owner_of w x) ≡ Some n → n.hart.0 ≡ h → n.label.0 ≡ 1000 → byte g x ≡ byte f x

-- a byte of an end stays
end_byte : (sc : Scenario) (f g : List ℕ) (w : WorldState) (h : ℕ) (id : LotId) (dir : Dir) (chan : ChanNo) (at len : ℕ) (device : Span) (i : ℕ) → Flatness sc f w → KeepsLent f g w h → id.label.0 ≡ 1000 → IsEndAt (driver_of w h).fixed (driver_of w h).lots id dir chan (span_of at len) device → i < len
    → byte g (at + i) ≡ byte f (at + i)
end_byte sc f g w h id dir chan at len device i flat keeps label e lt =
    let on : covers (span_of at len) (at + i) ≡ true = covers-from (span_of at len) (at + i) (omega arith) (omega (arith, lt)) in
    keeps (at + i) (map_id (hart h) id 0) (end_mapped sc f w h id dir chan (span_of at len) device (at + i) flat e on) refl label

pub ends_same : (sc : Scenario) (f g : List ℕ) (w : WorldState) (h : ℕ) (k : CopyOp) (from to : Span) → Flatness sc f w → KeepsLent f g w h → (u : IsUnderWay sc f w h k from to) → SameEnds u.ends f g
ends_same sc f g w h k from to flat keeps u = record {
  source = λ i lt.
      end_byte sc f g w h source ToDev k.chan u.ends.source u.ends.len (span_of u.ends.reads_at u.ends.len) i flat keeps refl
      (subst (λ (s : Span). IsEndAt (driver_of w h).fixed (driver_of w h).lots source ToDev k.chan s (span_of u.ends.reads_at u.ends.len)) u.from_is u.source_at) lt;
  target = λ i lt.
      end_byte sc f g w h target FromDev k.chan u.ends.target u.ends.len (span_of u.ends.writes_at u.ends.len) i flat keeps refl
      (subst (λ (s : Span). IsEndAt (driver_of w h).fixed (driver_of w h).lots target FromDev k.chan s (span_of u.ends.writes_at u.ends.len)) u.to_is u.target_at) lt;
}

under_aside : (sc : Scenario) (f g : List ℕ) (w v : WorldState) (h : ℕ) (k : CopyOp) (from to : Span) → Flatness sc f w → KeepsCopy f g w v h → IsUnderWay sc f w h k from to → IsUnderWay sc g v h k from to
under_aside sc f g w v h k from to flat keeps u =
    let d = sym keeps.driver in
    let chan = keeps.channels k.chan.0 u.granted in
    record {
      ends = u.ends;
      are = u.are;
      from_is = u.from_is;
      to_is = u.to_is;
      source_at = subst (λ (e : DriverState). IsEndAt e.fixed e.lots source ToDev k.chan from (span_of u.ends.reads_at u.ends.len)) d u.source_at;
      target_at = subst (λ (e : DriverState). IsEndAt e.fixed e.lots target FromDev k.chan to (span_of u.ends.writes_at u.ends.len)) d u.target_at;
      stores = u.stores;
      left = ap (λ (q : List QueueEntry). q ++ registers_coming (driver_of v h).rest) keeps.registers ∙ ap (λ (e : DriverState). registers (queue_of w.machine h) ++ registers_coming e.rest) keeps.driver ∙ u.left;
      few = u.few;
      stage = subst (λ (c : ChannelState). IsCopying u.ends g u.stores c) (sym chan.0)
          (copies_go_on.stays u.ends f g (channel_of w.machine k.chan.0) u.stores (ends_same sc f g w h k from to flat keeps.bytes u) u.stage);
      granted = chan.1;
    }

pub copy_aside : (sc : Scenario) (f g : List ℕ) (w v : WorldState) (h : ℕ) → Flatness sc f w → h < length sc.harts → KeepsCopy f g w v h → CopyStands sc g v h
copy_aside sc f g w v h flat lt keeps k is begun =
    let e = keeps.driver in
    let c = flat.bytes.copying h lt k (sym (ap in_hand e) ∙ is) (subst (λ (d : DriverState). IsBegun d.phase) e begun) in
    record {
      from = c.from;
      to = c.to;
      from_is = ap (λ (d : DriverState). part_of (buffer_of d.fixed k.src) k.src_off k.len) e ∙ c.from_is;
      to_is = ap (λ (d : DriverState). part_of (buffer_of d.fixed k.dst) k.dst_off k.len) e ∙ c.to_is;
      ends = subst (λ (d : DriverState). AreItsEnds k c.from c.to d.lots) (sym e) c.ends;
      under = λ on. under_aside sc f g w v h k c.from c.to flat keeps (c.under (sym (ap (λ (d : DriverState). transfers d.rest) e) ∙ on));
      polled = λ work over. subst (λ (d : DriverState). SawDone d.saw) (sym e) (c.polled (sym (ap (λ (d : DriverState). d.phase) e) ∙ work) (sym (ap (λ (d : DriverState). polls d.rest) e) ∙ over));
      apart = c.apart;
      owned = λ x on. keeps.owned x (c.owned x on);
    }

-- ---- the world's counts and grants are none of it

pub copy_as : (sc : Scenario) (f : List ℕ) (w v : WorldState) (h : ℕ) → CopyStands sc f (record v { machine = w.machine; drivers = w.drivers; owners = w.owners }) h → CopyStands sc f w h
copy_as sc f w v h c k is begun =
    let n = c k is begun in
    record {
      from = n.from;
      to = n.to;
      from_is = n.from_is;
      to_is = n.to_is;
      ends = n.ends;
      under = λ on. under_as sc f w v h k n.from n.to (n.under on);
      polled = n.polled;
      apart = n.apart;
      owned = n.owned;
    }
  where
    under_as : (sc : Scenario) (f : List ℕ) (w v : WorldState) (h : ℕ) (k : CopyOp) (from to : Span) → IsUnderWay sc f (record v { machine = w.machine; drivers = w.drivers; owners = w.owners }) h k from to → IsUnderWay sc f w h k from to
    under_as sc f w v h k from to u = record {
      ends = u.ends;
      are = u.are;
      from_is = u.from_is;
      to_is = u.to_is;
      source_at = u.source_at;
      target_at = u.target_at;
      stores = u.stores;
      left = u.left;
      few = u.few;
      stage = u.stage;
      granted = u.granted;
    }
