-- A sound machine with another hart, cache, channel, grant or box.
use Rattle.std.specs.Prelude.{Option, Some, is_some}
use Rattle.std.proofs.Common.{◌≡◌, ℕ, ◌<◌, List, length, refl, inl, inr, sym, ap, ◌∙◌, arith}
use Rattle.std.proofs.lemmas.Bool.{cases_eq}
use Rattle.std.proofs.lemmas.List.{length-set}
use Rattle.nc_num.specs.declared.names.HartNo.{HartNo}
use Rattle.nc_cache.specs.Cache.{Cache}
use Rattle.nc_cache.specs.Facts.{Whole}
use Rattle.nc_cache.proofs.Wholes.{whole_ram}
use Rattle.nc_hart.specs.HartState.{HartState}
use Rattle.nc_pdma.specs.Channel.{ChannelState, IsChannel}
use Rattle.nc_rules.specs.Machine.{MachineState, channel_of, with_hart, with_cache, with_ram, with_channel, with_grantee, with_box}
use Rattle.nc_rules.specs.Sound.{IsQueueIn, IsMachine}
use Rattle.nc_calls.specs.MachineLaws.{SameShape, SameDevices}
use Rattle.nc_calls.proofs.MachineParts.{hart_here, hart_away, channel_here, channel_away, grantee_here, grantee_away, box_here, box_away}
use Rattle.nc_calls.proofs.SoundParts.{granted_same, devices_granted, machine_from}

pub shape_same : (m : MachineState) → SameShape m m
shape_same m = record { size = refl; pool = refl; ram = refl; harts = refl; channels = refl; grantees = refl; boxes = refl }

pub shape_then : (m n p : MachineState) → SameShape m n → SameShape n p → SameShape m p
shape_then m n p a b = record {
  size = b.size ∙ a.size;
  pool = b.pool ∙ a.pool;
  ram = b.ram ∙ a.ram;
  harts = b.harts ∙ a.harts;
  channels = b.channels ∙ a.channels;
  grantees = b.grantees ∙ a.grantees;
  boxes = b.boxes ∙ a.boxes;
}

pub devices_same : (m : MachineState) → SameDevices m m
devices_same m = record { channels = refl; grantees = refl; boxes = refl }

-- a hart
pub shape_hart : (m : MachineState) (h : ℕ) (s : HartState) → SameShape m (with_hart m h s)
shape_hart m h s = record { size = refl; pool = refl; ram = refl; harts = length-set m.harts h s; channels = refl; grantees = refl; boxes = refl }

pub devices_hart : (m : MachineState) (h : ℕ) (s : HartState) → SameDevices m (with_hart m h s)
devices_hart m h s = record { channels = refl; grantees = refl; boxes = refl }

pub sound_hart : (m : MachineState) (h : ℕ) (s : HartState) → IsMachine m → h < length m.harts → IsQueueIn m s.queue → IsMachine (with_hart m h s)
sound_hart m h s is lt queue = machine_from m (with_hart m h s) is (record {
  shape = shape_hart m h s;
  cache = is.cache;
  queues = λ g short. elim (cases_eq g h) [
    | inl e ↦ rw (hart_here m h g s lt e) queue
    | inr ne ↦ rw (hart_away m h g s ne) (is.queues g short)
  ];
  granted = devices_granted m (with_hart m h s) is (shape_hart m h s) (devices_hart m h s);
  waiting = is.waiting;
})

-- the caches and memory
pub shape_cache : (m : MachineState) (c : Cache) → IsMachine m → Whole m.size (length m.harts) (length m.cache.ram) c → SameShape m (with_cache m c)
shape_cache m c is whole = record { size = refl; pool = refl; ram = whole.ram; harts = refl; channels = refl; grantees = refl; boxes = refl }

pub devices_cache : (m : MachineState) (c : Cache) → SameDevices m (with_cache m c)
devices_cache m c = record { channels = refl; grantees = refl; boxes = refl }

pub sound_cache : (m : MachineState) (c : Cache) → IsMachine m → Whole m.size (length m.harts) (length m.cache.ram) c → IsMachine (with_cache m c)
sound_cache m c is whole = machine_from m (with_cache m c) is (record {
  shape = shape_cache m c is whole;
  cache = whole;
  queues = is.queues;
  granted = devices_granted m (with_cache m c) is (shape_cache m c is whole) (devices_cache m c);
  waiting = is.waiting;
})

pub whole_with_ram : (m : MachineState) (ram : List ℕ) → IsMachine m → length ram ≡ length m.cache.ram → Whole m.size (length m.harts) (length m.cache.ram) (record { ram = ram; lines = m.cache.lines })
whole_with_ram m ram is len = whole_ram m.size (length m.harts) (length m.cache.ram) m.cache ram is.cache len

pub sound_ram : (m : MachineState) (ram : List ℕ) → IsMachine m → length ram ≡ length m.cache.ram → IsMachine (with_ram m ram)
sound_ram m ram is len = sound_cache m (record { ram = ram; lines = m.cache.lines }) is (whole_with_ram m ram is len)

-- a channel, and its grant
pub shape_channel : (m : MachineState) (c : ℕ) (s : ChannelState) → SameShape m (with_channel m c s)
shape_channel m c s = record { size = refl; pool = refl; ram = refl; harts = refl; channels = length-set m.channels c s; grantees = refl; boxes = refl }

pub sound_channel : (m : MachineState) (c : ℕ) (s : ChannelState) → IsMachine m → c < 4 → IsChannel s → s.regs.control.claim ≡ (channel_of m c).regs.control.claim → IsMachine (with_channel m c s)
sound_channel m c s is lt sound claim = machine_from m (with_channel m c s) is (record {
  shape = shape_channel m c s;
  cache = is.cache;
  queues = is.queues;
  granted = λ k short. elim (cases_eq k c) [
    | inl e ↦
        let here = channel_here m c k s (omega (arith, is.four)) e in
        let old = is.granted k short in
        record {
          channel = rw here sound;
          claimed = old.claimed ∙ (ap (λ (n : ℕ). (channel_of m n).regs.control.claim) e ∙ sym claim) ∙ sym (ap (λ (t : ChannelState). t.regs.control.claim) here);
          hart = old.hart;
        }
    | inr ne ↦ granted_same m (with_channel m c s) k refl (channel_away m c k s ne) refl (is.granted k short)
  ];
  waiting = is.waiting;
})

pub shape_grant : (m : MachineState) (c : ℕ) (s : ChannelState) (g : Option HartNo) → SameShape m (with_grantee (with_channel m c s) c g)
shape_grant m c s g = record { size = refl; pool = refl; ram = refl; harts = refl; channels = length-set m.channels c s; grantees = length-set m.grantees c g; boxes = refl }

pub sound_grant : (m : MachineState) (c : ℕ) (s : ChannelState) (g : Option HartNo) → IsMachine m → c < 4 → IsChannel s → is_some g ≡ s.regs.control.claim → ((h : HartNo) → g ≡ Some h → h.0 < length m.harts)
    → IsMachine (with_grantee (with_channel m c s) c g)
sound_grant m c s g is lt sound claim hart = machine_from m (with_grantee (with_channel m c s) c g) is (record {
  shape = shape_grant m c s g;
  cache = is.cache;
  queues = is.queues;
  granted = λ k short. elim (cases_eq k c) [
    | inl e ↦
        let chan = channel_here m c k s (omega (arith, is.four)) e in
        let grant = grantee_here m c k g (omega (arith, is.grants)) e in
        record {
          channel = rw chan sound;
          claimed = rw (chan, grant) claim;
          hart = λ h p. hart h (sym grant ∙ p);
        }
    | inr ne ↦ granted_same m (with_grantee (with_channel m c s) c g) k refl (channel_away m c k s ne) (grantee_away m c k g ne) (is.granted k short)
  ];
  waiting = is.waiting;
})

-- a box
pub shape_box : (m : MachineState) (b : ℕ) (g : Option HartNo) → SameShape m (with_box m b g)
shape_box m b g = record { size = refl; pool = refl; ram = refl; harts = refl; channels = refl; grantees = refl; boxes = length-set m.boxes b g }

pub sound_box : (m : MachineState) (b : ℕ) (g : Option HartNo) → IsMachine m → b < length m.boxes → ((h : HartNo) → g ≡ Some h → h.0 < length m.harts) → IsMachine (with_box m b g)
sound_box m b g is lt hart = machine_from m (with_box m b g) is (record {
  shape = shape_box m b g;
  cache = is.cache;
  queues = is.queues;
  granted = λ k short. granted_same m (with_box m b g) k refl refl refl (is.granted k short);
  waiting = λ k h p. elim (cases_eq k b) [
    | inl e ↦ hart h (sym (box_here m b k g lt e) ∙ p)
    | inr ne ↦ is.waiting k h (sym (box_away m b k g ne) ∙ p)
  ];
})
