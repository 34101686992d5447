-- The copies that harts have in hand, while a driver goes on that has none.
use Rattle.std.specs.Prelude.{Option, Some, None, Bool, true, false, if◌then◌else◌, ◌++◌}
use Rattle.std.proofs.Common.{◌≡◌, ◌≢◌, ℕ, ◌+◌, ◌<◌, List, refl, sym, ap, ◌∙◌, inl, inr, subst, arith}
use Rattle.nc_num.specs.Memory.{byte}
use Rattle.nc_num.specs.Places.{covers}
use Rattle.nc_num.specs.declared.names.Dir.TheVariants.{ToDev, FromDev}
use Rattle.nc_num.specs.declared.names.HartNo.{HartNo}
use Rattle.nc_num.specs.declared.places.Span.{Span}
use Rattle.nc_queue.specs.declared.entry.Entry.{Entry}
use Rattle.nc_pdma_regs.specs.Laws as claims
use Rattle.nc_pdma.specs.Channel.{ChannelState}
use Rattle.nc_model.proofs.Faults.{covers-from}
use Rattle.nc_transfers.specs.Bytes.{SameEnds}
use Rattle.nc_transfers.specs.Transfers.{IsCopying}
use Rattle.nc_transfers.proofs.Stages.{copies_go_on}
use Rattle.nc_ops.specs.declared.ops.Op.TheVariants as ops
use Rattle.nc_scen.specs.declared.scenario.Scenario.{Scenario}
use Rattle.nc_rules.specs.declared.steps.Phase.TheVariants.{Steps, Work}
use Rattle.nc_rules.specs.Copies.{source, target}
use Rattle.nc_rules.specs.Driver.{DriverState, in_hand}
use Rattle.nc_rules.specs.Machine.{MachineState, queue_of, channel_of, grantee_of, with_channel, with_box}
use Rattle.nc_rules.specs.Calls.{claimed_by, claim_next, may_take, take_next}
use Rattle.nc_rules.specs.EventTouches.{owner_of}
use Rattle.nc_rules.specs.World.{WorldState, driver_of, hart}
use Rattle.nc_calls.specs.MachineLaws.{SameDevices}
use Rattle.nc_calls.proofs.MachineParts.{channel_away, grantee_away}
use Rattle.nc_flatness.specs.Copying.{CopyOp, copy_op, source_range, target_range, polls, transfers, registers, registers_coming, AreItsEnds, IsEndAt, span_of, IsUnderWay, IsItsOwn, SawDone, IsCopyNow, IsBegun, CopyStands}

-- ---- a driver that has none

-- it has no copy in hand whose start step is made
abbrev pub CopiesNone : DriverState → Type 0
CopiesNone d = (k : CopyOp) → in_hand d ≡ Some (copy_op k) → IsBegun d.phase → ⊥

pub steps_copy_none : (d : DriverState) (n : ℕ) → d.phase ≡ Steps n → CopiesNone d
steps_copy_none d n phase k hand begun = subst IsBegun phase begun

pub hand_copies_none : (d : DriverState) (buf : ℕ) (to : HartNo) → in_hand d ≡ Some (ops.Hand buf to) → CopiesNone d
hand_copies_none d buf to hand k copy begun = let no : Some (ops.Hand buf to) ≡ Some (copy_op k) = sym hand ∙ copy in absurd cc

pub none_stands : (sc : Scenario) (f : List ℕ) (v : WorldState) (h : ℕ) → CopiesNone (driver_of v h) → CopyStands sc f v h
none_stands sc f v h none k hand begun = absurd (none k hand begun)

-- ---- what a copy of hart k has of a machine

-- the channels that are granted to it, and the registers in its queue
pub record KeepsCopy (m n : MachineState) (k : ℕ) : Type 0 where
  pub channels : (c : ℕ) → grantee_of m c ≡ Some (hart k) → channel_of n c ≡ channel_of m c
  pub granted : (c : ℕ) → grantee_of m c ≡ Some (hart k) → grantee_of n c ≡ Some (hart k)
  pub registers : registers (queue_of n k) ≡ registers (queue_of m k)

pub same_keeps : (m : MachineState) (k : ℕ) → KeepsCopy m m k
same_keeps m k = record { channels = λ c own. refl; granted = λ c own. own; registers = refl }

pub devices_keep : (m n : MachineState) (k : ℕ) → SameDevices m n → queue_of n k ≡ queue_of m k → KeepsCopy m n k
devices_keep m n k same queue = record {
  channels = λ c own. rw same.channels refl;
  granted = λ c own. rw same.grantees own;
  registers = ap registers queue;
}

-- a claim of a channel that is granted to it finds it granted
claimed_keeps : (m : MachineState) (h : HartNo) (c k : ℕ) (o : Option HartNo) → grantee_of m c ≡ o → KeepsCopy m (claimed_by m h c o) k
claimed_keeps m h c k None free =
    let regs : ChannelState = record { regs = claims.claimed (channel_of m c).regs; fifo = (channel_of m c).fifo } in
    let away : (d : ℕ) → grantee_of m d ≡ Some (hart k) → d ≢ c = λ d own same. let no : None ≡ Some (hart k) = sym free ∙ ap (grantee_of m) (sym same) ∙ own in absurd cc in
    record {
      channels = λ d own. channel_away m c d regs (away d own);
      granted = λ d own. grantee_away (with_channel m c regs) c d (Some h) (away d own) ∙ own;
      registers = refl;
    }
claimed_keeps m h c k (Some g) granted = same_keeps m k

pub claim_keeps : (m : MachineState) (h : HartNo) (c k : ℕ) → KeepsCopy m (claim_next m h c) k
unfolding claim_next
claim_keeps m h c k = claimed_keeps m h c k (grantee_of m c) refl

taken_keeps : (m : MachineState) (buf k : ℕ) (t : Bool) → KeepsCopy m (if t then with_box m buf None else m) k
taken_keeps m buf k true = record { channels = λ c own. refl; granted = λ c own. own; registers = refl }
taken_keeps m buf k false = same_keeps m k

pub take_keeps : (m : MachineState) (h buf k : ℕ) → KeepsCopy m (take_next m h buf) k
unfolding take_next
take_keeps m h buf k = taken_keeps m buf k (may_take m h buf)

-- ---- bytes of its ends

pub record KeepsOwn (f g : List ℕ) (w v : WorldState) (k : ℕ) : Type 0 where
  pub owned : (x : ℕ) → IsItsOwn k (owner_of w x) → IsItsOwn k (owner_of v x)
  pub bytes : (x : ℕ) → IsItsOwn k (owner_of w x) → byte g x ≡ byte f x

in_range : (range : Span) (at len i : ℕ) → range ≡ span_of at len → i < len → covers range (at + i) ≡ true
in_range range at len i is lt = subst (λ (s : Span). covers s (at + i) ≡ true) (sym is) (covers-from (span_of at len) (at + i) (omega arith) (omega (arith, lt)))

same_ends : (sc : Scenario) (f g : List ℕ) (w v : WorldState) (k : ℕ) (c : CopyOp) → KeepsOwn f g w v k → (is : IsCopyNow sc f w k c) → (u : IsUnderWay sc f w k c is.from is.to) → SameEnds u.ends f g
same_ends sc f g w v k c keeps is u = record {
  source = λ i lt. keeps.bytes (u.ends.source + i) (is.owned (u.ends.source + i) (inl (in_range is.from u.ends.source u.ends.len i u.from_is lt)));
  target = λ i lt. keeps.bytes (u.ends.target + i) (is.owned (u.ends.target + i) (inr (in_range is.to u.ends.target u.ends.len i u.to_is lt)));
}

-- ---- a copy of a hart whose driver stays

under_kept : (sc : Scenario) (f g : List ℕ) (w v : WorldState) (k : ℕ) (c : CopyOp) → driver_of v k ≡ driver_of w k → KeepsCopy w.machine v.machine k → KeepsOwn f g w v k → (is : IsCopyNow sc f w k c) → IsUnderWay sc f w k c is.from is.to
    → IsUnderWay sc g v k c is.from is.to
under_kept sc f g w v k c same keeps own is u =
    let back : driver_of w k ≡ driver_of v k = sym same in
    record {
      ends = u.ends;
      are = u.are;
      from_is = u.from_is;
      to_is = u.to_is;
      source_at = subst (λ (d : DriverState). IsEndAt d.fixed d.lots source ToDev c.chan is.from (span_of u.ends.reads_at u.ends.len)) back u.source_at;
      target_at = subst (λ (d : DriverState). IsEndAt d.fixed d.lots target FromDev c.chan is.to (span_of u.ends.writes_at u.ends.len)) back u.target_at;
      stores = u.stores;
      left = ap (λ (q : List Entry). q ++ registers_coming (driver_of v k).rest) keeps.registers ∙ ap (λ (d : DriverState). registers (queue_of w.machine k) ++ registers_coming d.rest) same ∙ u.left;
      few = u.few;
      stage = subst (λ (s : ChannelState). IsCopying u.ends g u.stores s) (sym (keeps.channels c.chan.0 u.granted)) (copies_go_on.stays u.ends f g (channel_of w.machine c.chan.0) u.stores (same_ends sc f g w v k c own is u) u.stage);
      granted = keeps.granted c.chan.0 u.granted;
    }

pub copy_kept : (sc : Scenario) (f g : List ℕ) (w v : WorldState) (k : ℕ) → driver_of v k ≡ driver_of w k → KeepsCopy w.machine v.machine k → KeepsOwn f g w v k → CopyStands sc f w k → CopyStands sc g v k
copy_kept sc f g w v k same keeps own copying c hand begun =
    let back : driver_of w k ≡ driver_of v k = sym same in
    let is = copying c (ap (λ (d : DriverState). in_hand d) back ∙ hand) (subst (λ (d : DriverState). IsBegun d.phase) same begun) in
    record {
      from = is.from;
      to = is.to;
      from_is = subst (λ (d : DriverState). source_range d.fixed c is.from) back is.from_is;
      to_is = subst (λ (d : DriverState). target_range d.fixed c is.to) back is.to_is;
      ends = subst (λ (d : DriverState). AreItsEnds c is.from is.to d.lots) back is.ends;
      under = λ moves. under_kept sc f g w v k c same keeps own is (is.under (subst (λ (d : DriverState). transfers d.rest ≡ true) same moves));
      polled = subst (λ (d : DriverState). d.phase ≡ Work → polls d.rest ≡ false → SawDone d.saw) back is.polled;
      apart = is.apart;
      owned = λ x on. own.owned x (is.owned x on);
    }
