-- Copies in hand where the machine goes on alone: each stays as it is where its channel and the registers that are queued do.
use Rattle.std.specs.Prelude.{◌==◌, ◌≢◌, true, false, Option, Some, None}
use Rattle.std.proofs.Common.{◌≡◌, ℕ, ◌<◌, List, length, refl, sym, ap, ◌∙◌, inl, inr}
use Rattle.std.proofs.lemmas.Bool.{cases_eq, ne_eqb, cond-false}
use Rattle.nc_num.specs.declared.names.ChanNo.{ChanNo}
use Rattle.nc_num.specs.declared.names.HartNo.{HartNo}
use Rattle.nc_num.specs.declared.places.Span.{Span}
use Rattle.nc_queue.specs.declared.entry.Entry.{Entry}
use Rattle.nc_queue.specs.declared.entry.Entry.TheVariants as entries
use Rattle.nc_queue.proofs.TestLaws.{filter-remove_other}
use Rattle.nc_model.specs.Touches.{register_touch}
use Rattle.nc_pdma.specs.Channel.{channel_write}
use Rattle.nc_scen.specs.declared.scenario.Scenario.{Scenario}
use Rattle.nc_rules.specs.Calls.{drain_next}
use Rattle.nc_rules.specs.Driver.{in_hand}
use Rattle.nc_rules.specs.Machine.{MachineState, queue_of, channel_of, grantee_of}
use Rattle.nc_rules.specs.EventTouches.{drain_touch}
use Rattle.nc_rules.specs.World.{WorldState, driver_of, hart}
use Rattle.nc_calls.specs.MachineLaws.{SameDevices}
use Rattle.nc_calls.specs.PlaceLaws.{QueueLoses, BoxIs}
use Rattle.nc_row_moves.specs.Laws.{IsDrain}
use Rattle.nc_row_moves.proofs.PlaceDrains.{leaves}
use Rattle.nc_flatness.specs.Copying.{CopyOp, copy_op, transfers, is_register, registers, IsUnderWay, CopyStands}
use Rattle.nc_flatness.specs.Flatness.{Flatness}
use Rattle.nc_flatness.proofs.plans.Copies.{copy_aside}
use Rattle.nc_flatness.proofs.worlds.Outcomes.{ran}

-- ---- what is under way stays under way

pub copy_ran : (sc : Scenario) (f g : List ℕ) (w : WorldState) (k : MachineState) (h : ℕ)
    → ((c : CopyOp) (from to : Span) → in_hand (driver_of w h) ≡ Some (copy_op c) → transfers (driver_of w h).rest ≡ true → IsUnderWay sc f w h c from to → IsUnderWay sc g (ran w k) h c from to) → CopyStands sc f w h
    → CopyStands sc g (ran w k) h
copy_ran sc f g w k h under stands = λ c hand begun.
    let was = stands c hand begun in
    record {
      from = was.from;
      to = was.to;
      from_is = was.from_is;
      to_is = was.to_is;
      ends = was.ends;
      under = λ t. under c was.from was.to hand t (was.under t);
      polled = was.polled;
      apart = was.apart;
      owned = was.owned;
    }

-- ---- its channel is as it was

pub record IsSameChannel (m k : MachineState) (c : ℕ) : Type 0 where
  pub channel : channel_of k c ≡ channel_of m c
  pub grantee : grantee_of k c ≡ grantee_of m c

pub devices_channel : (m k : MachineState) (c : ℕ) → SameDevices m k → IsSameChannel m k c
devices_channel m k c same = record { channel = ap (λ cs. channel_of (record m { channels = cs }) c) same.channels; grantee = ap (λ gs. grantee_of (record m { grantees = gs }) c) same.grantees }

pub box_channel : (m k : MachineState) (buf c : ℕ) (to : Option HartNo) → BoxIs m k buf to → IsSameChannel m k c
box_channel m k buf c to is = record { channel = ap (λ cs. channel_of (record m { channels = cs }) c) is.channels; grantee = ap (λ gs. grantee_of (record m { grantees = gs }) c) is.grantees }

pub copy_beside : (sc : Scenario) (f : List ℕ) (w : WorldState) (k : MachineState) (h : ℕ) → Flatness sc f w → h < length sc.harts → registers (queue_of k h) ≡ registers (queue_of w.machine h) → ((c : ℕ) → grantee_of w.machine c ≡ Some (hart h) → IsSameChannel w.machine k c)
    → CopyStands sc f (ran w k) h
copy_beside sc f w k h flat lt queue channels = copy_aside sc f f w (ran w k) h flat lt (record {
  driver = refl;
  channels = λ c granted. let same = channels c granted in (same.channel, same.grantee ∙ granted);
  registers = queue;
  owned = λ x own. own;
  bytes = λ x n mine hart label. refl;
})

-- ---- fills and evictions

pub copies_kept : (sc : Scenario) (f : List ℕ) (w : WorldState) (k : MachineState) → Flatness sc f w → SameDevices w.machine k → ((h : ℕ) → queue_of k h ≡ queue_of w.machine h) → (h : ℕ) → h < length sc.harts → CopyStands sc f (ran w k) h
copies_kept sc f w k flat devices queues h lt = copy_beside sc f w k h flat lt (ap registers (queues h)) (λ c granted. devices_channel w.machine k c devices)

-- ---- an entry that is no store to a register drains

pub registers_left : (m k : MachineState) (h i g : ℕ) (e : Entry) → QueueLoses m k h i e → is_register e ≡ false → registers (queue_of k g) ≡ registers (queue_of m g)
registers_left m k h i g e loses none = elim (cases_eq g h) [
  | inl same ↦
      ap (λ (j : ℕ). registers (queue_of k j)) same ∙ ap registers loses.own ∙ filter-remove_other is_register (queue_of m h) i e loses.stood none
      ∙ ap (λ (j : ℕ). registers (queue_of m j)) (sym same)
  | inr ne ↦ ap registers (loses.others g ne)
]

pub copies_left : (sc : Scenario) (f : List ℕ) (w : WorldState) (h i : ℕ) (e : Entry) → Flatness sc f w → IsDrain w.machine h i e → is_register e ≡ false → ((c : ℕ) → IsSameChannel w.machine (drain_next w.machine h i) c) → (g : ℕ) → g < length sc.harts
    → CopyStands sc f (ran w (drain_next w.machine h i)) g
copies_left sc f w h i e flat is none same g lt =
    copy_beside sc f w (drain_next w.machine h i) g flat lt (registers_left w.machine (drain_next w.machine h i) h i g e (leaves w.machine h i e is).drains.queues none) (λ c granted. same c)

-- ---- a store to a register of another channel drains

-- a channel that is granted to another hart is none to whose registers a store is no touch
untouched_other : (h g : HartNo) (c : ChanNo) (off width : ℕ) (o : Option HartNo) → register_touch h c off width o ≡ None → o ≡ Some g → g.0 ≢ h.0 → ⊥
untouched_other h g c off width o none is ne =
    let touch : register_touch h c off width (Some g) ≡ None = ap (register_touch h c off width) (sym is) ∙ none in
    let some = cond-false (g.0 == h.0) None _ (ne_eqb g.0 h.0 ne) in
    let no = sym some ∙ touch in absurd cc

pub register_beside : (sc : Scenario) (f : List ℕ) (w : WorldState) (h : HartNo) (i : ℕ) (chan : ChanNo) (off width v g : ℕ) → Flatness sc f w → IsDrain w.machine h.0 i (entries.Reg chan off width v) → drain_touch w h (entries.Reg chan off width v) ≡ None → g < length sc.harts → g ≢ h.0
    → CopyStands sc f (ran w (drain_next w.machine h.0 i)) g
register_beside sc f w h i chan off width v g flat is none lt ne =
    let m = w.machine in
    let k = drain_next m h.0 i in
    let drains = (leaves m h.0 i (entries.Reg chan off width v) is).drains in
    let device = drains.devices (channel_write (channel_of m chan.0) off width v) refl in
    copy_beside sc f w k g flat lt (ap registers (drains.queues.others g ne)) (λ c granted.
    let other : c ≢ chan.0 = λ same. untouched_other h (hart g) chan off width (grantee_of m chan.0) none (ap (grantee_of m) (sym same) ∙ granted) ne in
    record { channel = device.channels c other; grantee = device.grantees c other })
