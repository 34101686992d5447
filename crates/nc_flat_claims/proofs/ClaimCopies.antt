-- The copy behind the claim of its channel: it is under way, with none of its stores made.
use Rattle.std.specs.Prelude.{Option, Some, None, Ok, Err, nat_le, is_some, Bool, true, false, if◌then◌else◌, slice_get, slice_index_or}
use Rattle.std.proofs.Common.{◌≡◌, ◌⊎◌, ℕ, ◌+◌, ◌<◌, ◌≤◌, List, [], ◌∷◌, ◌++◌, length, refl, sym, ap, ◌∙◌, inl, inr, subst, arith}
use Rattle.std.proofs.lemmas.Bool.{both_ways, cases_lt}
use Rattle.nc_num.specs.declared.names.ChanNo.{ChanNo}
use Rattle.nc_num.specs.declared.names.Dir.{Dir}
use Rattle.nc_num.specs.declared.names.Dir.TheVariants.{ToDev, FromDev}
use Rattle.nc_num.specs.declared.names.HartNo.{HartNo}
use Rattle.nc_num.specs.declared.places.Span.{Span}
use Rattle.nc_model.proofs.Faults.{covers-from}
use Rattle.nc_queue.specs.declared.entry.Entry.{Entry as QueueEntry}
use Rattle.nc_pdma_regs.specs.Laws as claims
use Rattle.nc_pdma.specs.Channel.{ChannelState}
use Rattle.nc_plan.specs.Plans.{In}
use Rattle.nc_ops.specs.declared.ops.Op.{Op}
use Rattle.nc_scen.specs.declared.scenario.Scenario.{Scenario}
use Rattle.nc_sg.specs.Lists as sg
use Rattle.nc_sg.specs.declared.list.Entry.{Entry}
use Rattle.nc_rules.specs.declared.answers.Refusal.{Refusal}
use Rattle.nc_rules.specs.declared.lots.Lot.{Lot}
use Rattle.nc_rules.specs.declared.lots.Side.TheVariants as sides
use Rattle.nc_rules.specs.declared.steps.Step.{Step}
use Rattle.nc_rules.specs.declared.steps.Turn.TheVariants as turns
use Rattle.nc_rules.specs.Copies.{source, target}
use Rattle.nc_rules.specs.Driver.{DriverState, Went, in_hand}
use Rattle.nc_rules.specs.Lots.{DriverConfig, is_lot, no_entry, only_entry}
use Rattle.nc_rules.specs.Machine.{MachineState, queue_of, channel_of, grantee_of}
use Rattle.nc_rules.specs.Refusals.{part_of}
use Rattle.nc_rules.specs.EventTouches.{owner_of}
use Rattle.nc_rules.specs.World.{WorldState, driver_of}
use Rattle.nc_scripts.proofs.LotLaws.{its_name}
use Rattle.nc_scripts.proofs.LotMoves.{IsPartIn, entry_part}
use Rattle.nc_holds.specs.Held.{SharesNone}
use Rattle.nc_holds.proofs.lists.Members.{all_at}
use Rattle.nc_holds.proofs.owners.Lots.{entry_in}
use Rattle.nc_transfers.specs.Transfers.{Ends, IsCopying}
use Rattle.nc_transfers.proofs.SettingUp.{copies_set_up}
use Rattle.nc_flatness.specs.Copying.{CopyOp, source_range, target_range, polls, registers, registers_coming, register_entries, IsOneRange, AreItsEnds, IsEndAt, span_of, IsUnderWay, IsItsOwn, IsBegun, IsCopyNow, CopyStands}
use Rattle.nc_flatness.specs.Plans.{device_of}
use Rattle.nc_flatness.proofs.plans.CopySteps.{ends_kept}
use Rattle.nc_flatness.proofs.worlds.Outcomes.{gone}
use Rattle.nc_flat_starts.proofs.opening.Bases.{member_lot, waits_not}
use Rattle.nc_flat_starts.proofs.opening.Befores.{driven}
use Rattle.nc_flat_starts.proofs.turning.Frames.{driver_here}
use Rattle.nc_flat_starts.proofs.turning.Sides.{turned_lot}
use Rattle.nc_flat_claims.proofs.Claimings.{IsClaiming, its_holds, its_member}
use Rattle.nc_flat_claims.proofs.ClaimDrivers.{both_lent, IsLent, polled, source_behind, target_behind}
use Rattle.nc_flat_claims.proofs.ClaimRests.{plan_ends, rest_is, its_registers}

-- ---- ranges

ok_by : (t : Bool) (x r : Span) (e : Refusal) → (if t then Ok x else Err e) ≡ Ok r → x ≡ r
ok_by true x r e is = cc
ok_by false x r e is = absurd cc

part_long : (range : Span) (off len : ℕ) (r : Span) → part_of range off len ≡ Ok r → r.len ≡ len
part_long range off len r is = sym (ap (λ (s : Span). s.len) (ok_by (nat_le (off + len) range.len) (record { at = range.at + off; len = len }) r _ is))

device_by : (f : DriverConfig) (e : Entry) (t : Bool) → e.bounced ≡ t → (device_of f e).len ≡ e.span.len
device_by f e true is = rw is refl
device_by f e false is = rw is refl

only_is : (lot : Lot) (e : Entry) → lot.list.entries ≡ e ∷ [] → only_entry lot ≡ e
only_is lot e only = ap (λ (es : List Entry). slice_index_or es 0 no_entry) only

-- two ranges that have bytes and share none
ranges_apart : (a b : Span) → 0 < a.len → 0 < b.len → SharesNone a b → (a.at + a.len ≤ b.at) ⊎ (b.at + b.len ≤ a.at)
ranges_apart a b some_a some_b none = elim (cases_lt a.at b.at) [
  | inl before ↦ elim (cases_lt b.at (a.at + a.len)) [
    | inl in_a ↦ absurd (none b.at (covers-from a b.at (omega (arith, before)) in_a) (covers-from b b.at (omega arith) (omega (arith, some_b))))
    | inr past ↦ inl (omega (arith, past))
  ]
  | inr behind ↦ elim (cases_lt a.at (b.at + b.len)) [
    | inl in_b ↦ absurd (none a.at (covers-from a a.at (omega arith) (omega (arith, some_a))) (covers-from b a.at (omega (arith, behind)) in_b))
    | inr past ↦ inr (omega (arith, past))
  ]
]

-- ---- an end

-- an end of these lots, by its range
record IsEndIn (sc : Scenario) (f : DriverConfig) (lots : List Lot) (lot : Lot) (range : Span) : Type 0 where
  entry : Entry
  only : lot.list.entries ≡ entry ∷ []
  range_is : entry.span ≡ range
  some : 0 < range.len
  ends : (device_of f entry).at + range.len ≤ sc.ram
  device_is : device_of f entry ≡ span_of (device_of f entry).at range.len

end_in : (sc : Scenario) (f : List ℕ) (w : WorldState) (h : HartNo) (o : Op) (s : Step) (rest : List Step) (lot : Lot) (dir : Dir) (chan : ChanNo) (range : Span) → IsClaiming sc f w h o s rest → In lot (driver_of w h.0).lots → IsOneRange lot dir chan range → IsEndIn sc (driver_of w h.0).fixed (driver_of w h.0).lots lot range
end_in sc f w h o s rest lot dir chan range k here r =
    let d = driver_of w h.0 in
    let fx = d.fixed in
    let ram = length w.machine.cache.ram in
    let holds = its_holds sc f w h o s rest k in
    let member = its_member sc f w h o s rest lot k here in
    let there : slice_get lot.list.entries 0 ≡ Some r.entry = ap (λ (es : List Entry). slice_get es 0) r.only in
    let entry = entry_in ram fx lot 0 r.entry (member_lot sc f w h d.lots lot member) there in
    let part : IsPartIn ram (sg.part_of dir fx.slots_at r.entry) = entry_part ram (length w.machine.harts) fx dir r.entry holds.driver.fixed entry (waits_not lot 0 r.entry member.placed there) in
    let long : (device_of fx r.entry).len ≡ range.len = device_by fx r.entry r.entry.bounced refl ∙ ap (λ (x : Span). x.len) r.range_is in
    record {
      entry = r.entry;
      only = r.only;
      range_is = r.range_is;
      some = subst (λ (x : Span). 0 < x.len) r.range_is entry.range.some;
      ends = subst (λ (n : ℕ). (device_of fx r.entry).at + n ≤ sc.ram) long (subst (λ (n : ℕ). (device_of fx r.entry).at + (device_of fx r.entry).len ≤ n) k.here.now.flat.world.of_scenario.ram part.device.ends);
      device_is = ap (λ (n : ℕ). span_of (device_of fx r.entry).at n) long;
    }

-- ---- the channel

-- it is this hart's, and claimed
pub record IsFreeClaim (w : WorldState) (h : HartNo) (chan : ChanNo) (m : MachineState) : Type 0 where
  pub was : grantee_of w.machine chan.0 ≡ None
  pub few : chan.0 < 4
  pub channel : channel_of m chan.0 ≡ record { regs = claims.claimed (channel_of w.machine chan.0).regs; fifo = (channel_of w.machine chan.0).fifo }
  pub grantee : grantee_of m chan.0 ≡ Some h
  -- no entry of a register is queued
  pub unset : registers (queue_of m h.0) ≡ []

its_stage : (sc : Scenario) (f : List ℕ) (w : WorldState) (h : HartNo) (o : Op) (s : Step) (rest : List Step) (chan : ChanNo) (m : MachineState) (e : Ends) → IsClaiming sc f w h o s rest → IsFreeClaim w h chan m → IsCopying e f 0 (channel_of m chan.0)
its_stage sc f w h o s rest chan m e k free =
    let c = channel_of w.machine chan.0 in
    let granted = k.here.now.flat.world.machine.granted chan.0 free.few in
    let unclaimed : c.regs.control.claim ≡ false = sym granted.claimed ∙ ap (λ (g : Option HartNo). is_some g) free.was in
    subst (λ (q : ChannelState). IsCopying e f 0 q) (sym free.channel) (copies_set_up.claim e c granted.channel unclaimed)

-- ---- the copy

abbrev copy_ends : DriverConfig → Span → Span → Entry → Entry → ℕ → Ends
copy_ends f from to a b config = record { source = from.at; target = to.at; reads_at = (device_of f a).at; writes_at = (device_of f b).at; len = from.len; config = config }

-- those of the plan are those of the ranges
ends_same : (f : DriverConfig) (src dst : Lot) (from to : Span) (a b : Entry) (config : ℕ) → only_entry src ≡ a → only_entry dst ≡ b → (device_of f a).len ≡ from.len → plan_ends f config src dst from.at to.at ≡ copy_ends f from to a b config
ends_same f src dst from to a b config is_a is_b long =
    let mk : ℕ → ℕ → ℕ → Ends = λ reads writes len. record { source = from.at; target = to.at; reads_at = reads; writes_at = writes; len = len; config = config } in
    ap (λ (x : Entry). mk (device_of f x).at (device_of f (only_entry dst)).at (device_of f x).len) is_a
    ∙ ap (λ (x : Entry). mk (device_of f a).at (device_of f x).at (device_of f a).len) is_b ∙ ap (λ (n : ℕ). mk (device_of f a).at (device_of f b).at n) long

under_way : (sc : Scenario) (f : List ℕ) (w : WorldState) (h : HartNo) (o : Op) (s : Step) (rest : List Step) (m : MachineState) (went : Went) (op : CopyOp) → (k : IsClaiming sc f w h o s rest) → IsLent (driver_of w h.0) rest went → IsFreeClaim w h k.claim.chan m → (now : IsCopyNow sc f w h.0 op)
    → IsUnderWay sc f (gone w h m went) h.0 op now.from now.to
under_way sc f w h o s rest m went op k lent free now =
    let v = gone w h m went in
    let d = driver_of w h.0 in
    let fx = d.fixed in
    let c = k.claim in
    let at : driver_of v h.0 ≡ went.driver = driver_here w h m went (driven sc f w h k.here.now.flat k.here.lt) in
    let fixed : (driver_of v h.0).fixed ≡ fx = ap (λ (e : DriverState). e.fixed) (at ∙ lent.driver) in
    let lots : (driver_of v h.0).lots ≡ both_lent d.lots = ap (λ (e : DriverState). e.lots) (at ∙ lent.driver) in
    let left : (driver_of v h.0).rest ≡ rest = ap (λ (e : DriverState). e.rest) (at ∙ lent.driver) in
    let its : (lot : Lot) → In lot d.lots → (is_lot source lot ≡ true → IsOneRange lot ToDev op.chan now.from) × (is_lot target lot ≡ true → IsOneRange lot FromDev op.chan now.to) =
    λ lot there. all_at (λ (lot : Lot). (is_lot source lot ≡ true → IsOneRange lot ToDev op.chan now.from) × (is_lot target lot ≡ true → IsOneRange lot FromDev op.chan now.to)) d.lots lot now.ends there in
    let one_s = (its c.reads c.source_is.here).0 (its_name c.reads source c.source_is.id_is) in
    let one_t = (its c.writes c.target_is.here).1 (its_name c.writes target c.target_is.id_is) in
    let src = end_in sc f w h o s rest c.reads ToDev op.chan now.from k c.source_is.here one_s in
    let dst = end_in sc f w h o s rest c.writes FromDev op.chan now.to k c.target_is.here one_t in
    let chan : c.chan ≡ op.chan = sym c.source_is.chan_is ∙ one_s.chan_is in
    let long : now.to.len ≡ now.from.len = part_long _ op.dst_off op.len now.to now.to_is ∙ sym (part_long _ op.src_off op.len now.from now.from_is) in
    let ends = copy_ends fx now.from now.to src.entry dst.entry c.config in
    let six : registers_coming rest ≡ register_entries c.chan ends =
    ap registers_coming (rest_is fx d.lots s rest c)
    ∙ its_registers fx c.chan c.config c.reads c.writes now.from.at now.to.at
    ∙ ap (register_entries c.chan) (ends_same fx c.reads c.writes now.from now.to src.entry dst.entry c.config (only_is c.reads src.entry src.only) (only_is c.writes dst.entry dst.only) (ap (λ (x : Span). x.len) src.device_is)) in
    record {
      ends = ends;
      are = record {
        some = src.some;
        reads = src.ends;
        writes = subst (λ (n : ℕ). (device_of fx dst.entry).at + n ≤ sc.ram) long dst.ends;
        apart = subst (λ (n : ℕ). (now.from.at + now.from.len ≤ now.to.at) ⊎ (now.to.at + n ≤ now.from.at)) long (ranges_apart now.from now.to src.some dst.some now.apart);
        once = c.once;
      };
      from_is = refl;
      to_is = ap (λ (n : ℕ). span_of now.to.at n) long;
      source_at =
          subst (λ (x : DriverConfig). IsEndAt x (driver_of v h.0).lots source ToDev op.chan now.from (span_of ends.reads_at ends.len)) (sym fixed)
          (subst (λ (ls : List Lot). IsEndAt fx ls source ToDev op.chan now.from (span_of ends.reads_at ends.len)) (sym lots) (record {
            lot = turned_lot sides.Lending c.reads;
            is = record { here = source_behind d.lots c.reads c.source_is.here c.source_is.id_is; id_is = c.source_is.id_is; kind = c.source_is.kind; dir_is = c.source_is.dir_is; chan_is = one_s.chan_is };
            lent = refl;
            entry = src.entry;
            only = src.only;
            range_is = src.range_is;
            device_is = src.device_is;
          }));
      target_at =
          subst (λ (x : DriverConfig). IsEndAt x (driver_of v h.0).lots target FromDev op.chan now.to (span_of ends.writes_at ends.len)) (sym fixed)
          (subst (λ (ls : List Lot). IsEndAt fx ls target FromDev op.chan now.to (span_of ends.writes_at ends.len)) (sym lots) (record {
            lot = turned_lot sides.Lending c.writes;
            is = record { here = target_behind d.lots c.writes c.target_is.here c.target_is.id_is; id_is = c.target_is.id_is; kind = c.target_is.kind; dir_is = c.target_is.dir_is; chan_is = one_t.chan_is };
            lent = refl;
            entry = dst.entry;
            only = dst.only;
            range_is = dst.range_is;
            device_is = dst.device_is ∙ ap (λ (n : ℕ). span_of (device_of fx dst.entry).at n) long;
          }));
      stores = 0;
      left =
          ap (λ (q : List QueueEntry). q ++ registers_coming (driver_of v h.0).rest) free.unset ∙ ap registers_coming left ∙ six
          ∙ ap (λ (n : ChanNo). register_entries n ends) chan;
      few = omega arith;
      stage = subst (λ (n : ChanNo). IsCopying ends f 0 (channel_of m n.0)) chan (its_stage sc f w h o s rest c.chan m ends k free);
      granted = subst (λ (n : ChanNo). grantee_of m n.0 ≡ Some h) chan free.grantee;
    }

pub claimed_copy : (sc : Scenario) (f : List ℕ) (w : WorldState) (h : HartNo) (o : Op) (s : Step) (rest : List Step) (m : MachineState) (went : Went) → (k : IsClaiming sc f w h o s rest) → IsLent (driver_of w h.0) rest went → IsFreeClaim w h k.claim.chan m
    → ((x : ℕ) → IsItsOwn h.0 (owner_of w x) → IsItsOwn h.0 (owner_of (gone w h m went) x)) → CopyStands sc f (gone w h m went) h.0
claimed_copy sc f w h o s rest m went k lent free owned op hand begun =
    let v = gone w h m went in
    let d = driver_of w h.0 in
    let at : driver_of v h.0 ≡ went.driver = driver_here w h m went (driven sc f w h k.here.now.flat k.here.lt) in
    let now = k.here.now.flat.bytes.copying h.0 k.here.lt op (sym (ap in_hand (at ∙ lent.driver)) ∙ hand) (subst IsBegun (sym k.phase) tt) in
    let fixed : (driver_of v h.0).fixed ≡ d.fixed = ap (λ (e : DriverState). e.fixed) (at ∙ lent.driver) in
    let lots : (driver_of v h.0).lots ≡ both_lent d.lots = ap (λ (e : DriverState). e.lots) (at ∙ lent.driver) in
    let left : (driver_of v h.0).rest ≡ rest = ap (λ (e : DriverState). e.rest) (at ∙ lent.driver) in
    record {
      from = now.from;
      to = now.to;
      from_is = subst (λ (x : DriverConfig). source_range x op now.from) (sym fixed) now.from_is;
      to_is = subst (λ (x : DriverConfig). target_range x op now.to) (sym fixed) now.to_is;
      ends = subst (λ (ls : List Lot). AreItsEnds op now.from now.to ls) (sym lots) (ends_kept op now.from now.to (turns.Lend source) (turns.Lend target) d.lots now.ends);
      under = λ moves. under_way sc f w h o s rest m went op k lent free now;
      polled = λ work none. absurd (both_ways (polls (driver_of v h.0).rest) none (ap polls left ∙ polled sc f w h o s rest k));
      apart = now.apart;
      owned = λ x on. owned x (now.owned x on);
    }
