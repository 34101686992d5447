-- A step of a plan: the copy that its hart has in hand, where it is one of a copy.
use Rattle.std.specs.Prelude.{Some, false}
use Rattle.std.proofs.Common.{◌≡◌, ℕ, ◌<◌, List, length, refl, ap, ◌∙◌, arith}
use Rattle.std.proofs.lemmas.List.{append-nil}
use Rattle.nc_num.specs.Memory.{byte}
use Rattle.nc_num.specs.declared.names.HartNo.{HartNo}
use Rattle.nc_num.specs.declared.names.MapId.{MapId}
use Rattle.nc_num.specs.declared.names.MemType.{MemType}
use Rattle.nc_num.specs.declared.places.Span.{Span}
use Rattle.nc_queue.specs.declared.entry.Entry.{Entry as QueueEntry}
use Rattle.nc_queue.proofs.TestLaws.{filter-push_other}
use Rattle.nc_ops.specs.declared.ops.Op.{Op}
use Rattle.nc_scen.specs.declared.scenario.Scenario.{Scenario}
use Rattle.nc_rules.specs.declared.steps.Step.{Step}
use Rattle.nc_rules.specs.Machine.{MachineState, queue_of, channel_of, grantee_of}
use Rattle.nc_rules.specs.Driver.{Went}
use Rattle.nc_rules.specs.EventTouches.{owner_of}
use Rattle.nc_rules.specs.World.{WorldState, driver_of}
use Rattle.nc_calls.specs.MachineLaws.{SameDevices}
use Rattle.nc_calls.specs.PlaceLaws.{Loads}
use Rattle.nc_row_issues.specs.Laws.{Enters}
use Rattle.nc_flatness.specs.Books.{mapping_in}
use Rattle.nc_flatness.specs.Copying.{is_register, registers, IsItsOwn, CopyStands}
use Rattle.nc_flatness.proofs.plans.CopySteps.{copy_step}
use Rattle.nc_flatness.proofs.worlds.Outcomes.{gone}
use Rattle.nc_flat_starts.proofs.turning.Frames.{driver_here}
use Rattle.nc_flat_plans.proofs.drivers.Drivers.{IsNext, IsDone}

-- the machine behind it has the same channels, and no register store more in the hart's queue
pub record SameChannels (m k : MachineState) (h : ℕ) : Type 0 where
  pub devices : SameDevices m k
  pub stores : registers (queue_of k h) ≡ registers (queue_of m h)

pub channels_stay : (m : MachineState) (h : ℕ) → SameChannels m m h
channels_stay m h = record { devices = record { channels = refl; grantees = refl; boxes = refl }; stores = refl }

pub channels_entered : (m k : MachineState) (h : ℕ) (e : QueueEntry) → Enters m k h e → is_register e ≡ false → SameChannels m k h
channels_entered m k h e by off = record {
  devices = by.pushes.devices;
  stores = ap registers by.pushes.queues.own ∙ filter-push_other is_register (queue_of m h) e off ∙ append-nil (registers (queue_of m h));
}

pub channels_loaded : (m k : MachineState) (h : ℕ) (span : Span) (kind : MemType) → Loads m k h span kind → SameChannels m k h
channels_loaded m k h span kind loads = record { devices = loads.devices; stores = ap registers (loads.queues h) }

pub channel_same : (m k : MachineState) (c : ℕ) → SameDevices m k → channel_of k c ≡ channel_of m c
channel_same m k c same = ap (λ cs. channel_of (record m { channels = cs }) c) same.channels

pub grantee_same : (m k : MachineState) (c : ℕ) → SameDevices m k → grantee_of k c ≡ grantee_of m c
grantee_same m k c same = ap (λ gs. grantee_of (record m { grantees = gs }) c) same.grantees

-- behind the step it stands
pub own_copy : (sc : Scenario) (f g : List ℕ) (w : WorldState) (h : HartNo) (o : Op) (s : Step) (rest : List Step) (k : MachineState) (went : Went) → IsNext sc f w h o s rest → IsDone (driver_of w h.0) s rest went → SameChannels w.machine k h.0
    → ((x : ℕ) → IsItsOwn h.0 (owner_of w x) → IsItsOwn h.0 (owner_of (gone w h k went) x)) → ((x : ℕ) (n : MapId) → mapping_in (owner_of w x) ≡ Some n → n.hart.0 ≡ h.0 → n.label.0 ≡ 1000 → byte g x ≡ byte f x) → CopyStands sc g (gone w h k went) h.0
own_copy sc f g w h o s rest k went next done same owned bytes =
    let flat = next.now.flat in
    let lt : h.0 < length w.drivers = omega (arith, next.now.there, flat.world.of_scenario.harts, flat.world.holds.drivers) in
    copy_step sc f g w (gone w h k went) h.0 s rest flat next.now.there (record {
      work = next.phase;
      rest_is = next.rest_is;
      goes = next.plan;
      kind = next.kind;
      now = driver_here w h k went lt ∙ done.driver;
      channels = λ c granted. (channel_same w.machine k c same.devices, grantee_same w.machine k c same.devices ∙ granted);
      registers = same.stores;
      owned = owned;
      bytes = bytes;
    })
