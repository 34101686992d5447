-- The ranges of a copy from its start on: its ends are of them, and each of their bytes is the hart's.
use Rattle.std.specs.Prelude.{Some, Ok, All, ◌==◌, ◌&&◌, true, false, flat_map}
use Rattle.std.proofs.Common.{◌≡◌, ◌⊎◌, ℕ, ◌<◌, List, [], ◌∷◌, ◌++◌, length, refl, sym, ap, ◌∙◌, inl, inr, subst, arith}
use Rattle.std.proofs.lemmas.Bool.{cases_Bool, both_ways, and_parts, cond-true, cond-false, eqb-true}
use Rattle.std.proofs.lemmas.List.Elements.{All-nil, All-cons, All-append, All-head}
use Rattle.nc_num.specs.Places.{covers}
use Rattle.nc_num.specs.declared.names.ChanNo.{ChanNo}
use Rattle.nc_num.specs.declared.names.Dir.{Dir}
use Rattle.nc_num.specs.declared.names.Dir.TheVariants.{ToDev, FromDev}
use Rattle.nc_num.specs.declared.names.HartNo.{HartNo}
use Rattle.nc_num.specs.declared.places.Span.{Span}
use Rattle.nc_model.specs.Rights.{is_thread}
use Rattle.nc_model.specs.declared.owners.Owner.{Owner}
use Rattle.nc_model.specs.declared.owners.Owner.TheVariants.{Thread, Passing, Lending, Device, Returning, Synced, Pool}
use Rattle.nc_own.specs.Books.{owner_in}
use Rattle.nc_coherent.specs.Pages.{PageMap}
use Rattle.nc_sg.specs.Lists as sg
use Rattle.nc_sg.specs.Lists.{fresh}
use Rattle.nc_ops.specs.declared.ops.Op.{Op}
use Rattle.nc_ops.specs.declared.ops.SgEntry.{SgEntry}
use Rattle.nc_scen.specs.declared.scenario.Scenario.{Scenario}
use Rattle.nc_rules.specs.declared.lots.Kind.TheVariants as kinds
use Rattle.nc_rules.specs.declared.lots.Lot.{Lot}
use Rattle.nc_rules.specs.declared.steps.Phase.TheVariants.{Work}
use Rattle.nc_rules.specs.Copies as copies
use Rattle.nc_rules.specs.Copies.{source, target, ends_of}
use Rattle.nc_rules.specs.Driver.{DriverState, Went, in_hand}
use Rattle.nc_rules.specs.Lots.{DriverConfig, is_lot, reach_of, ranges_lot, with_slot}
use Rattle.nc_rules.specs.Operations.{meaning, begin}
use Rattle.nc_rules.specs.Refusals.{◌>>=◌, all_some, buffer_of, part_of, ranges_of, owned_from, lendable, placeable}
use Rattle.nc_rules.specs.EventTouches.{owner_of}
use Rattle.nc_rules.specs.World.{WorldState, driver_of, owners_moved}
use Rattle.nc_scripts.specs.Drivers.{IsSettled}
use Rattle.nc_scripts.specs.NewLots.{AreOwned, own_ranges}
use Rattle.nc_scripts.proofs.DriverSteps.{passed}
use Rattle.nc_scripts.proofs.FreeLots.{new_lots_are_free}
use Rattle.nc_scripts.proofs.Lists.{all_to}
use Rattle.nc_scripts.proofs.NewLots.{behind_copy, placeable_is}
use Rattle.nc_holds.specs.Held.{SharesNone}
use Rattle.nc_flatness.specs.Copying.{CopyOp, copy_op, source_range, target_range, polls, transfers, IsOneRange, AreItsEnds, IsItsOwn, IsCopyNow, CopyStands}
use Rattle.nc_flatness.proofs.worlds.Outcomes.{gone}
use Rattle.nc_flat_starts.proofs.turning.Frames.{driver_here}

pub record AreRanged (w : WorldState) (h : ℕ) (k : CopyOp) (lots : List Lot) : Type 0 where
  pub from : Span
  pub to : Span
  pub from_is : source_range (driver_of w h).fixed k from
  pub to_is : target_range (driver_of w h).fixed k to
  pub ends : AreItsEnds k from to lots
  pub apart : SharesNone from to
  pub owned : (x : ℕ) → (covers from x ≡ true) ⊎ (covers to x ≡ true) → IsItsOwn h (owner_of w x)

-- those of a copy that is in hand
pub ranged : (sc : Scenario) (f : List ℕ) (w : WorldState) (h : ℕ) (k : CopyOp) → IsCopyNow sc f w h k → AreRanged w h k (driver_of w h).lots
ranged sc f w h k c = record { from = c.from; to = c.to; from_is = c.from_is; to_is = c.to_is; ends = c.ends; apart = c.apart; owned = c.owned }

-- ---- the copy stands behind a call that moves nothing, where its channel is not claimed

pub ranged_stands : (sc : Scenario) (f : List ℕ) (w : WorldState) (h : HartNo) (went : Went) (o : Op) (lots : List Lot) → h.0 < length w.drivers → ((k : CopyOp) → o ≡ copy_op k → AreRanged w h.0 k lots) → in_hand went.driver ≡ Some o → went.driver.fixed ≡ (driver_of w h.0).fixed → went.driver.lots ≡ lots
    → went.moves.transfers ≡ [] → transfers went.driver.rest ≡ false → (went.driver.phase ≡ Work → polls went.driver.rest ≡ true) → CopyStands sc f (gone w h w.machine went) h.0
ranged_stands sc f w h went o lots lt copy hand fixed its_lots still off polled k is begun =
    let v = gone w h w.machine went in
    let here = driver_here w h w.machine went lt in
    let same : o ≡ copy_op k = let both : Some o ≡ Some (copy_op k) = sym hand ∙ sym (ap in_hand here) ∙ is in cc in
    let r = copy k same in
    let fixed_now : (driver_of v h.0).fixed ≡ (driver_of w h.0).fixed = ap (λ (d : DriverState). d.fixed) here ∙ fixed in
    let lots_now : (driver_of v h.0).lots ≡ lots = ap (λ (d : DriverState). d.lots) here ∙ its_lots in
    let owner : (x : ℕ) → owner_of v x ≡ owner_of w x = λ x. ap (λ (ts : List (Span × Owner)). owner_in (owners_moved w.owners ts) x) still in
    record {
      from = r.from;
      to = r.to;
      from_is = subst (λ (f : DriverConfig). source_range f k r.from) (sym fixed_now) r.from_is;
      to_is = subst (λ (f : DriverConfig). target_range f k r.to) (sym fixed_now) r.to_is;
      ends = subst (λ (ls : List Lot). AreItsEnds k r.from r.to ls) (sym lots_now) r.ends;
      under = λ on. absurd (both_ways (transfers (driver_of v h.0).rest) (ap (λ (d : DriverState). transfers d.rest) here ∙ off) on);
      polled = λ work none. absurd (both_ways (polls (driver_of v h.0).rest) none (ap (λ (d : DriverState). polls d.rest) here ∙ polled (sym (ap (λ (d : DriverState). d.phase) here) ∙ work)));
      apart = r.apart;
      owned = λ x on. subst (λ (p : Owner). IsItsOwn h.0 p) (sym (owner x)) (r.owned x on);
    }

-- ---- a slot is none of it

pub slot_range : (n : ℕ) (lot : Lot) (dir : Dir) (chan : ChanNo) (range : Span) → IsOneRange lot dir chan range → IsOneRange (with_slot n lot) dir chan range
slot_range n lot dir chan range r = elim (cases_Bool (sg.waits r.entry)) [
  | inl waits ↦ record {
    dir_is = r.dir_is;
    chan_is = r.chan_is;
    entry = record r.entry { slot = Some n };
    only = ap (sg.give_slot n) r.only ∙ cond-true (sg.waits r.entry) (record r.entry { slot = Some n } ∷ []) (r.entry ∷ []) waits;
    range_is = r.range_is;
  }
  | inr off ↦ record {
    dir_is = r.dir_is;
    chan_is = r.chan_is;
    entry = r.entry;
    only = ap (sg.give_slot n) r.only ∙ cond-false (sg.waits r.entry) (record r.entry { slot = Some n } ∷ []) (r.entry ∷ []) off;
    range_is = r.range_is;
  }
]

-- ---- at its start

pub record AreBegun (f : DriverConfig) (k : CopyOp) (new : List Lot) : Type 0 where
  pub from : Span
  pub to : Span
  pub from_is : source_range f k from
  pub to_is : target_range f k to
  pub new_is : ends_of f k.chan (from ∷ to ∷ []) ≡ new

two_by : (a b : Span) (rest all : List Span) → b ∷ [] ≡ rest → a ∷ rest ≡ all → a ∷ b ∷ [] ≡ all
two_by a b rest all last is = ap (λ (ss : List Span). a ∷ ss) last ∙ is

ends_by : (f : DriverConfig) (chan : ChanNo) (from to : Span) (ranges : List Span) (new : List Lot) → from ∷ to ∷ [] ≡ ranges → ends_of f chan ranges ≡ new → ends_of f chan (from ∷ to ∷ []) ≡ new
ends_by f chan from to ranges new same is = ap (ends_of f chan) same ∙ is

pub copy_begun : (f : DriverConfig) (lots new : List Lot) (os : List Owner) (pages : PageMap) (k : CopyOp) → begin f lots os pages (copy_op k) ≡ Ok new → AreBegun f k new
unfolding begin meaning copies.copy
copy_begun f lots new os pages k e =
    let src : SgEntry = record { buf = k.src; off = k.src_off; len = k.len } in
    let dst : SgEntry = record { buf = k.dst; off = k.dst_off; len = k.len } in
    let chan = k.chan in
    let p1 = passed (all_some (src ∷ dst ∷ [])) (λ _. ranges_of f (src ∷ dst ∷ []) >>= λ ranges. behind_copy f chan os ranges) new e in
    let p2 = passed (ranges_of f (src ∷ dst ∷ [])) (λ ranges. behind_copy f chan os ranges) new p1.rest in
    let p3 = passed (owned_from f.me source 0 os p2.value) (λ _. lendable f.effects ToDev >>= λ _. lendable f.effects FromDev >>= λ _. placeable f (ends_of f chan p2.value)) new p2.rest in
    let p4 = passed (lendable f.effects ToDev) (λ _. lendable f.effects FromDev >>= λ _. placeable f (ends_of f chan p2.value)) new p3.rest in
    let p5 = passed (lendable f.effects FromDev) (λ _. placeable f (ends_of f chan p2.value)) new p4.rest in
    let q = passed (part_of (buffer_of f src.buf) src.off src.len) (λ range. ranges_of f (dst ∷ []) >>= λ ranges. Ok (range ∷ ranges)) p2.value p2.first in
    let r = passed (ranges_of f (dst ∷ [])) (λ ranges. Ok (q.value ∷ ranges)) p2.value q.rest in
    let s = passed (part_of (buffer_of f dst.buf) dst.off dst.len) (λ range. ranges_of f [] >>= λ ranges. Ok (range ∷ ranges)) r.value r.first in
    let last : s.value ∷ [] ≡ r.value = cc (s.rest) in
    let all : q.value ∷ r.value ≡ p2.value = cc (r.rest) in
    let ranges = two_by q.value s.value r.value p2.value last all in
    record {
      from = q.value;
      to = s.value;
      from_is = q.first;
      to_is = s.first;
      new_is = ends_by f chan q.value s.value p2.value new ranges (placeable_is f (ends_of f chan p2.value) new p5.rest).same;
    }

-- what is a hart's own
thread_own : (me : HartNo) (h : ℕ) (o : Owner) → me.0 ≡ h → is_thread me o ≡ true → IsItsOwn h o
thread_own me h (Thread g) same is = eqb-true g.0 me.0 is ∙ same
thread_own me h (Passing g k) same is = absurd cc
thread_own me h (Lending n) same is = absurd cc
thread_own me h (Device n) same is = absurd cc
thread_own me h (Returning n) same is = absurd cc
thread_own me h (Synced n) same is = absurd cc
thread_own me h Pool same is = absurd cc

-- a lot that the hart had is no end
settled_none : (k : CopyOp) (from to : Span) (lots : List Lot) → All IsSettled lots → AreItsEnds k from to lots
settled_none k from to lots all =
    all_to IsSettled (λ (lot : Lot). (is_lot source lot ≡ true → IsOneRange lot ToDev k.chan from) × (is_lot target lot ≡ true → IsOneRange lot FromDev k.chan to)) lots all
    (λ lot s.
    let never : (first : ℕ) → (lot.id.label.0 == 1000 && lot.id.first == first) ≡ true → ⊥ =
    λ first is. let label = eqb-true lot.id.label.0 1000 (and_parts (lot.id.label.0 == 1000) (lot.id.first == first) is).0 in omega (arith, label, s.named.label) in
    (λ is. absurd (never 0 is), λ is. absurd (never 1 is)))

-- the first end is the source, and the second the target
abbrev pub IsEndSo : CopyOp → Span → Span → Lot → Type 0
IsEndSo k from to lot = (is_lot source lot ≡ true → IsOneRange lot ToDev k.chan from) × (is_lot target lot ≡ true → IsOneRange lot FromDev k.chan to)

new_ends : (f : DriverConfig) (k : CopyOp) (from to : Span) → AreItsEnds k from to (ends_of f k.chan (from ∷ to ∷ []))
new_ends f k from to =
    let s = ranges_lot f source kinds.Copy ToDev k.chan (from ∷ []) in
    let t = ranges_lot f target kinds.Copy FromDev k.chan (to ∷ []) in
    All-cons (IsEndSo k from to) s (t ∷ []) (λ is. record { dir_is = refl; chan_is = refl; entry = fresh ToDev f.size (reach_of f k.chan) from; only = refl; range_is = refl }, λ is. absurd cc)
    (All-cons (IsEndSo k from to) t [] (λ is. absurd cc, λ is. record { dir_is = refl; chan_is = refl; entry = fresh FromDev f.size (reach_of f k.chan) to; only = refl; range_is = refl }) (All-nil (IsEndSo k from to)))

pub ranged_begun : (w : WorldState) (h : ℕ) (lots new : List Lot) (k : CopyOp) → (driver_of w h).fixed.me.0 ≡ h → All IsSettled lots → begin (driver_of w h).fixed lots w.owners w.pages (copy_op k) ≡ Ok new → AreRanged w h k (lots ++ new)
ranged_begun w h lots new k me settled e =
    let fx = (driver_of w h).fixed in
    let b = copy_begun fx lots new w.owners w.pages k e in
    let P = IsEndSo k b.from b.to in
    let free = (new_lots_are_free fx lots new w.owners w.pages (copy_op k) e).owned in
    let owned : AreOwned fx.me w.owners (b.from ∷ b.to ∷ []) = subst (λ (ls : List Lot). AreOwned fx.me w.owners (flat_map own_ranges ls)) (sym b.new_is) free in
    record {
      from = b.from;
      to = b.to;
      from_is = b.from_is;
      to_is = b.to_is;
      ends = All-append P lots new (settled_none k b.from b.to lots settled) (subst (λ (ls : List Lot). AreItsEnds k b.from b.to ls) b.new_is (new_ends fx k b.from b.to));
      apart = All-head (λ (r : Span). SharesNone b.from r) b.to [] owned.1;
      owned = λ x on. elim on [ inl src ↦ thread_own fx.me h (owner_of w x) me (owned.0 x src) | inr dst ↦ thread_own fx.me h (owner_of w x) me (owned.2.0 x dst) ];
    }
