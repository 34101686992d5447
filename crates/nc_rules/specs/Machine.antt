-- The machine: memory with the coherent caches beside it, the harts with their store queues, the channels of the DMA
-- engine, and the mailbox. It composes the parts' definitions. This project's own.
use Rattle.std.specs.Prelude.{ℕ, List, [], replicate, Option, None, slice_index_or, slice_set}
use Rattle.std.specs.FinMap as finmap
use Rattle.nc_num.specs.declared.names.HartNo.{HartNo}
use Rattle.nc_num.specs.declared.places.Span.{Span}
use Rattle.nc_cache.specs.Cache.{Cache}
use Rattle.nc_queue.specs.declared.entry.Entry.{Entry}
use Rattle.nc_hart.specs.HartState.{HartState}
use Rattle.nc_pdma.specs.Channel.{ChannelState, new_channel}

pub record MachineState : Type 0 where
  -- the bytes of a cache block
  pub size : ℕ
  -- the coherent pool, whose blocks no fill brings into a cache
  pub pool : Span
  -- memory, and the blocks that caches hold
  pub cache : Cache
  -- the harts, by number
  pub harts : List HartState
  -- the channels, by number
  pub channels : List ChannelState
  -- the hart to which each channel is granted: the one whose access set its claim bit
  pub grantees : List (Option HartNo)
  -- the hart for which each buffer's box has a message
  pub boxes : List (Option HartNo)

-- a hart that is not there
abbrev pub no_hart : HartState
no_hart = record { queue = record { size = 0; entries = [] }; last = [] }

abbrev pub hart_of : MachineState → ℕ → HartState
hart_of m h = slice_index_or m.harts h no_hart

-- the entries of a hart's store queue, the oldest first
abbrev pub queue_of : MachineState → ℕ → List Entry
queue_of m h = (hart_of m h).queue.entries

abbrev pub channel_of : MachineState → ℕ → ChannelState
channel_of m c = slice_index_or m.channels c new_channel

abbrev pub grantee_of : MachineState → ℕ → Option HartNo
grantee_of m c = slice_index_or m.grantees c None

abbrev pub box_of : MachineState → ℕ → Option HartNo
box_of m buf = slice_index_or m.boxes buf None

-- the machine with another state of one hart, channel or box
abbrev pub with_hart : MachineState → ℕ → HartState → MachineState
with_hart m h s = record m { harts = slice_set m.harts h s }

abbrev pub with_channel : MachineState → ℕ → ChannelState → MachineState
with_channel m c s = record m { channels = slice_set m.channels c s }

abbrev pub with_grantee : MachineState → ℕ → Option HartNo → MachineState
with_grantee m c g = record m { grantees = slice_set m.grantees c g }

abbrev pub with_box : MachineState → ℕ → Option HartNo → MachineState
with_box m buf to = record m { boxes = slice_set m.boxes buf to }

abbrev pub with_cache : MachineState → Cache → MachineState
with_cache m c = record m { cache = c }

abbrev pub with_ram : MachineState → List ℕ → MachineState
with_ram m ram = record m { cache = record m.cache { ram = ram } }

-- a hart with an empty queue that has loaded nothing
abbrev pub fresh_hart : ℕ → HartState
fresh_hart size = record { queue = record { size = size; entries = [] }; last = [] }

-- a machine of so many harts and boxes, over this memory, whose caches hold nothing
abbrev pub fresh : ℕ → Span → List ℕ → ℕ → ℕ → MachineState
fresh size pool ram harts boxes = record {
  size = size;
  pool = pool;
  cache = record { ram = ram; lines = finmap.empty };
  harts = replicate harts (fresh_hart size);
  channels = replicate 4 new_channel;
  grantees = replicate 4 None;
  boxes = replicate boxes None;
}
