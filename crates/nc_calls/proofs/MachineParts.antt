-- A hart, a channel, a grant or a box after one of its kind was changed.
use Rattle.std.specs.Prelude.{Option}
use Rattle.std.proofs.Common.{◌≡◌, ◌≢◌, ℕ, ◌<◌, List, length, ap}
use Rattle.std.proofs.lemmas.List.{get_or-set_same, get_or-set_other, set-get_or}
use Rattle.nc_num.specs.declared.names.HartNo.{HartNo}
use Rattle.nc_hart.specs.HartState.{HartState}
use Rattle.nc_pdma.specs.Channel.{ChannelState, new_channel}
use Rattle.nc_rules.specs.Machine.{MachineState, no_hart, hart_of, channel_of, grantee_of, box_of, with_hart, with_channel, with_grantee, with_box}

pub hart_here : (m : MachineState) (h g : ℕ) (s : HartState) → h < length m.harts → g ≡ h → hart_of (with_hart m h s) g ≡ s
hart_here m h g s lt e = rw e (get_or-set_same m.harts h s no_hart lt)

pub hart_away : (m : MachineState) (h g : ℕ) (s : HartState) → g ≢ h → hart_of (with_hart m h s) g ≡ hart_of m g
hart_away m h g s ne = get_or-set_other m.harts h g s no_hart ne

-- a hart put where it stood
pub same_hart : (m : MachineState) (h : ℕ) → with_hart m h (hart_of m h) ≡ m
same_hart m h = ap (λ (hs : List HartState). record m { harts = hs }) (set-get_or m.harts h no_hart)

pub channel_here : (m : MachineState) (c k : ℕ) (s : ChannelState) → c < length m.channels → k ≡ c → channel_of (with_channel m c s) k ≡ s
channel_here m c k s lt e = rw e (get_or-set_same m.channels c s new_channel lt)

pub channel_away : (m : MachineState) (c k : ℕ) (s : ChannelState) → k ≢ c → channel_of (with_channel m c s) k ≡ channel_of m k
channel_away m c k s ne = get_or-set_other m.channels c k s new_channel ne

pub grantee_here : (m : MachineState) (c k : ℕ) (g : Option HartNo) → c < length m.grantees → k ≡ c → grantee_of (with_grantee m c g) k ≡ g
grantee_here m c k g lt e = rw e (get_or-set_same m.grantees c g _ lt)

pub grantee_away : (m : MachineState) (c k : ℕ) (g : Option HartNo) → k ≢ c → grantee_of (with_grantee m c g) k ≡ grantee_of m k
grantee_away m c k g ne = get_or-set_other m.grantees c k g _ ne

pub box_here : (m : MachineState) (b k : ℕ) (g : Option HartNo) → b < length m.boxes → k ≡ b → box_of (with_box m b g) k ≡ g
box_here m b k g lt e = rw e (get_or-set_same m.boxes b g _ lt)

pub box_away : (m : MachineState) (b k : ℕ) (g : Option HartNo) → k ≢ b → box_of (with_box m b g) k ≡ box_of m k
box_away m b k g ne = get_or-set_other m.boxes b k g _ ne
