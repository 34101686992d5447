-- Copies in hand behind a token that drained: its lot is its channel's, and the copy goes on as it was.
use Rattle.std.specs.Prelude.{◌≢◌}
use Rattle.std.proofs.Common.{◌≡◌, ℕ, ◌<◌, Bool, true, false, List, ◌++◌, length, refl, sym, ap, ◌∙◌, inl, inr, subst}
use Rattle.std.proofs.lemmas.Bool.{cases_eq, cond-true, cond-false}
use Rattle.nc_num.specs.declared.names.ChanNo.{ChanNo}
use Rattle.nc_num.specs.declared.names.Dir.{Dir}
use Rattle.nc_num.specs.declared.names.Dir.TheVariants.{ToDev, FromDev}
use Rattle.nc_num.specs.declared.names.HartNo.{HartNo}
use Rattle.nc_num.specs.declared.names.Label.{Label}
use Rattle.nc_num.specs.declared.places.Span.{Span}
use Rattle.nc_queue.specs.declared.entry.Entry.{Entry}
use Rattle.nc_queue.specs.declared.entry.Entry.TheVariants as entries
use Rattle.nc_model.specs.declared.owners.Owner.{Owner}
use Rattle.nc_model.specs.declared.owners.Owner.TheVariants.{Lending}
use Rattle.nc_pdma.specs.Channel.{ChannelState}
use Rattle.nc_scen.specs.declared.scenario.Scenario.{Scenario}
use Rattle.nc_rules.specs.declared.lots.Lot.{Lot}
use Rattle.nc_rules.specs.declared.lots.LotId.{LotId}
use Rattle.nc_rules.specs.declared.lots.Side.TheVariants as sides
use Rattle.nc_rules.specs.Calls.{drain_next}
use Rattle.nc_rules.specs.Copies.{source, target}
use Rattle.nc_rules.specs.Driver.{DriverState, in_hand, lent}
use Rattle.nc_rules.specs.EventTouches.{owner_of}
use Rattle.nc_rules.specs.Lots.{DriverConfig, is_lot, is_wanted, lot_id}
use Rattle.nc_rules.specs.Machine.{queue_of}
use Rattle.nc_rules.specs.Refusals.{buffer_of, part_of}
use Rattle.nc_rules.specs.Turns.{with_side}
use Rattle.nc_rules.specs.World.{WorldState, driver_of}
use Rattle.nc_row_moves.proofs.PlaceDrains.{leaves as entry_leaves}
use Rattle.nc_transfers.specs.Transfers.{IsCopying}
use Rattle.nc_flatness.specs.Copying.{CopyOp, polls, transfers, registers, registers_coming, span_of, IsOneRange, AreItsEnds, IsEndAt, IsUnderWay, IsItsOwn, SawDone, IsBegun, CopyStands}
use Rattle.nc_flatness.proofs.books.BookReads.{driver_here, driver_away}
use Rattle.nc_flatness.proofs.plans.Copies.{copy_aside}
use Rattle.nc_flatness.proofs.tokens.Lents.{all_sided, end_by, lent as lent_lots}
use Rattle.nc_flat_moves.proofs.drains.CopiesBeside.{IsSameChannel, devices_channel, registers_left}
use Rattle.nc_flat_moves.proofs.tokens.GivenWorld.{given_driver, given_world, IsGiving, lent_driver, drivers_there, IsGivenAt, Given, Kept, given_at}

-- ---- the ends

end_side : (lot : Lot) (id : LotId) (t : Bool) → is_lot id lot ≡ t → is_wanted lot.side ≡ false → is_wanted (with_side sides.Device id lot).side ≡ false
end_side lot id true is none = ap (λ (l : Lot). is_wanted l.side) (cond-true (is_lot id lot) (record lot { side = sides.Device }) lot is)
end_side lot id false is none = ap (λ (l : Lot). is_wanted l.side) (cond-false (is_lot id lot) (record lot { side = sides.Device }) lot is) ∙ none

end_list : (lot : Lot) (id : LotId) (t : Bool) → is_lot id lot ≡ t → (with_side sides.Device id lot).list ≡ lot.list
end_list lot id true is = ap (λ (l : Lot). l.list) (cond-true (is_lot id lot) (record lot { side = sides.Device }) lot is)
end_list lot id false is = ap (λ (l : Lot). l.list) (cond-false (is_lot id lot) (record lot { side = sides.Device }) lot is)

end_given : (f : DriverConfig) (lots : List Lot) (end : LotId) (dir : Dir) (chan : ChanNo) (range device : Span) (id : LotId) → IsEndAt f lots end dir chan range device → IsEndAt f (lent_lots id lots) end dir chan range device
end_given f lots end dir chan range device id e = record {
  lot = with_side sides.Device id e.lot;
  is = end_by lots e.lot end dir chan id (is_lot id e.lot) refl e.is;
  lent = end_side e.lot id (is_lot id e.lot) refl e.lent;
  entry = e.entry;
  only = ap (λ l. l.entries) (end_list e.lot id (is_lot id e.lot) refl) ∙ e.only;
  range_is = e.range_is;
  device_is = e.device_is;
}

abbrev IsItsEnd : CopyOp → Span → Span → Lot → Type 0
IsItsEnd k from to lot = (is_lot source lot ≡ true → IsOneRange lot ToDev k.chan from) × (is_lot target lot ≡ true → IsOneRange lot FromDev k.chan to)

range_given : (lot : Lot) (dir : Dir) (chan : ChanNo) (range : Span) → IsOneRange lot dir chan range → IsOneRange (record lot { side = sides.Device }) dir chan range
range_given lot dir chan range r = record { dir_is = r.dir_is; chan_is = r.chan_is; entry = r.entry; only = r.only; range_is = r.range_is }

ranges_given : (k : CopyOp) (from to : Span) (id : LotId) (lots : List Lot) → AreItsEnds k from to lots → AreItsEnds k from to (lent_lots id lots)
ranges_given k from to id lots all =
    all_sided (IsItsEnd k from to) (IsItsEnd k from to) sides.Device id lots all (λ lot is hit. (λ named. range_given lot ToDev k.chan from (is.0 named), λ named. range_given lot FromDev k.chan to (is.1 named))) (λ lot is miss. is)

-- ---- what the copy's places are

own_given : (w v : WorldState) (h k : ℕ) (e : Entry) (x : ℕ) → IsGivenAt w v h e x → IsItsOwn k (owner_of w x) → IsItsOwn k (owner_of v x)
own_given w v h k e x (Given n own on now) is = let was : IsItsOwn k (Lending n) = subst (λ (o : Owner). IsItsOwn k o) own is in subst (λ (o : Owner). IsItsOwn k o) (sym now) was
own_given w v h k e x (Kept off same) is = subst (λ (o : Owner). IsItsOwn k o) (sym same) is

channels_given : (sc : Scenario) (f : List ℕ) (w : WorldState) (h : HartNo) (i : ℕ) (label : Label) (first count : ℕ) → IsGiving sc f w h i label first count → (c : ℕ) → IsSameChannel w.machine (drain_next w.machine h.0 i) c
channels_given sc f w h i label first count g c = devices_channel w.machine (drain_next w.machine h.0 i) c (entry_leaves w.machine h.0 i (entries.Lend label first count) g.is).drains.devices

registers_given : (sc : Scenario) (f : List ℕ) (w : WorldState) (h : HartNo) (i : ℕ) (label : Label) (first count k : ℕ) → IsGiving sc f w h i label first count → registers (queue_of (drain_next w.machine h.0 i) k) ≡ registers (queue_of w.machine k)
registers_given sc f w h i label first count k g = registers_left w.machine (drain_next w.machine h.0 i) h.0 i k (entries.Lend label first count) (entry_leaves w.machine h.0 i (entries.Lend label first count) g.is).drains.queues refl

-- ---- another hart's

aside : (sc : Scenario) (f : List ℕ) (w : WorldState) (h : HartNo) (i : ℕ) (label : Label) (first count k : ℕ) → IsGiving sc f w h i label first count → k < length sc.harts → k ≢ h.0 → CopyStands sc f (given_world w h i label first) k
aside sc f w h i label first count k g lt ne = copy_aside sc f f w (given_world w h i label first) k g.flat lt (record {
  driver = driver_away w h (drain_next w.machine h.0 i) (lent (driver_of w h.0) label first) k ne;
  channels = λ c granted. let same = channels_given sc f w h i label first count g c in (same.channel, same.grantee ∙ granted);
  registers = registers_given sc f w h i label first count k g;
  owned = λ x own. own_given w (given_world w h i label first) h.0 k (entries.Lend label first count) x (given_at sc f w h i label first count x g) own;
  bytes = λ x n mine hart label. refl;
})

-- ---- its own

under_given : (sc : Scenario) (f : List ℕ) (w : WorldState) (h : HartNo) (i : ℕ) (label : Label) (first count : ℕ) (k : CopyOp) (from to : Span) → IsGiving sc f w h i label first count → given_driver (driver_of w h.0) (lot_id label first) ≡ driver_of (given_world w h i label first) h.0
    → IsUnderWay sc f w h.0 k from to → IsUnderWay sc f (given_world w h i label first) h.0 k from to
under_given sc f w h i label first count k from to g now u =
    let d = driver_of w h.0 in
    let id = lot_id label first in
    let same = channels_given sc f w h i label first count g k.chan.0 in
    record {
      ends = u.ends;
      are = u.are;
      from_is = u.from_is;
      to_is = u.to_is;
      source_at = subst (λ (e : DriverState). IsEndAt e.fixed e.lots source ToDev k.chan from (span_of u.ends.reads_at u.ends.len)) now
          (end_given d.fixed d.lots source ToDev k.chan from (span_of u.ends.reads_at u.ends.len) id u.source_at);
      target_at = subst (λ (e : DriverState). IsEndAt e.fixed e.lots target FromDev k.chan to (span_of u.ends.writes_at u.ends.len)) now
          (end_given d.fixed d.lots target FromDev k.chan to (span_of u.ends.writes_at u.ends.len) id u.target_at);
      stores = u.stores;
      left = ap (λ (q : List Entry). q ++ registers_coming (driver_of (given_world w h i label first) h.0).rest) (registers_given sc f w h i label first count h.0 g)
          ∙ ap (λ (e : DriverState). registers (queue_of w.machine h.0) ++ registers_coming e.rest) (sym now) ∙ u.left;
      few = u.few;
      stage = subst (λ (c : ChannelState). IsCopying u.ends f u.stores c) (sym same.channel) u.stage;
      granted = same.grantee ∙ u.granted;
    }

its_own : (sc : Scenario) (f : List ℕ) (w : WorldState) (h : HartNo) (i : ℕ) (label : Label) (first count : ℕ) → IsGiving sc f w h i label first count → CopyStands sc f (given_world w h i label first) h.0
its_own sc f w h i label first count g k hand begun =
    let v = given_world w h i label first in
    let d = driver_of w h.0 in
    let id = lot_id label first in
    let now : given_driver d id ≡ driver_of v h.0 =
    sym (driver_here w h (drain_next w.machine h.0 i) (lent d label first) (drivers_there sc f w h i label first count g) ∙ lent_driver d label first) in
    let was = g.flat.bytes.copying h.0 g.lt k (ap in_hand now ∙ hand) (subst (λ (e : DriverState). IsBegun e.phase) (sym now) begun) in
    record {
      from = was.from;
      to = was.to;
      from_is = ap (λ (e : DriverState). part_of (buffer_of e.fixed k.src) k.src_off k.len) (sym now) ∙ was.from_is;
      to_is = ap (λ (e : DriverState). part_of (buffer_of e.fixed k.dst) k.dst_off k.len) (sym now) ∙ was.to_is;
      ends = subst (λ (e : DriverState). AreItsEnds k was.from was.to e.lots) now (ranges_given k was.from was.to id d.lots was.ends);
      under = λ on. under_given sc f w h i label first count k was.from was.to g now (was.under (ap (λ (e : DriverState). transfers e.rest) now ∙ on));
      polled = λ work over. subst (λ (e : DriverState). SawDone e.saw) now (was.polled (ap (λ (e : DriverState). e.phase) now ∙ work) (ap (λ (e : DriverState). polls e.rest) now ∙ over));
      apart = was.apart;
      owned = λ x on. own_given w v h.0 h.0 (entries.Lend label first count) x (given_at sc f w h i label first count x g) (was.owned x on);
    }

-- ---- each

pub copying_behind : (sc : Scenario) (f : List ℕ) (w : WorldState) (h : HartNo) (i : ℕ) (label : Label) (first count k : ℕ) → IsGiving sc f w h i label first count → k < length sc.harts → CopyStands sc f (given_world w h i label first) k
copying_behind sc f w h i label first count k g lt = elim (cases_eq k h.0) [
  | inl own ↦ subst (λ (j : ℕ). CopyStands sc f (given_world w h i label first) j) (sym own) (its_own sc f w h i label first count g)
  | inr ne ↦ aside sc f w h i label first count k g lt ne
]
