-- The owner table: who may use a byte, and how (Linux DMA API for the directions and the syncs; the rest is this
-- project's own).
use Rattle.std.specs.Prelude.{ℕ, ◌+◌, ◌-◌, Bool, true, false, ◌&&◌, ◌==◌, List, Option, Some, None}
use Rattle.std.specs.List.{find}
use Rattle.std.specs.Option.{option_map}
use Rattle.nc_num.specs.Places.{covers}
use Rattle.nc_num.specs.declared.names.ChanNo.{ChanNo}
use Rattle.nc_num.specs.declared.names.Dir.{Dir}
use Rattle.nc_num.specs.declared.names.Dir.TheVariants.{Both, ToDev, FromDev}
use Rattle.nc_num.specs.declared.names.HartNo.{HartNo}
use Rattle.nc_num.specs.declared.names.MapId.{MapId}
use Rattle.nc_num.specs.declared.places.Place.{Place}
use Rattle.nc_model.specs.declared.owners.Access.{Access}
use Rattle.nc_model.specs.declared.owners.Access.TheVariants.{Read, Write}
use Rattle.nc_model.specs.declared.owners.Grant.{Grant}
use Rattle.nc_model.specs.declared.owners.Owner.{Owner}
use Rattle.nc_model.specs.declared.owners.Owner.TheVariants.{Thread, Passing, Lending, Device, Returning, Synced, Pool}

abbrev pub same_map : MapId → MapId → Bool
same_map m n = m.hart.0 == n.hart.0 && m.label.0 == n.label.0 && m.entry == n.entry

-- what the CPU may do with a mapping that is synced for it
abbrev pub cpu_may : Access → Dir → Bool
cpu_may Read dir = true
cpu_may Write Both = true
cpu_may Write ToDev = true
cpu_may Write FromDev = false

-- what the device may do with a mapping that is its own
abbrev pub device_may : Access → Dir → Bool
device_may access Both = true
device_may Read ToDev = true
device_may Write ToDev = false
device_may Read FromDev = false
device_may Write FromDev = true

abbrev pub is_of : MapId → Grant → Bool
is_of m g = same_map g.id m

abbrev pub has_device : ℕ → Grant → Bool
has_device x g = covers g.device x

-- the grant of a mapping
abbrev pub grant_of : List Grant → MapId → Option Grant
grant_of grants m = find (is_of m) grants

-- a mapping without a grant gives nobody a right
abbrev pub synced_may : Access → Option Grant → Bool
synced_may access None = false
synced_may access (Some g) = cpu_may access g.dir

-- whether a hart may use a byte of this owner
abbrev pub hart_may : List Grant → HartNo → Access → Owner → Bool
hart_may grants h access (Thread g) = g.0 == h.0
hart_may grants h access (Passing g k) = false
hart_may grants h access (Lending m) = false
hart_may grants h access (Device m) = false
hart_may grants h access (Returning m) = false
hart_may grants h access (Synced m) = m.hart.0 == h.0 && synced_may access (grant_of grants m)
hart_may grants h access Pool = false

abbrev pub is_thread : HartNo → Owner → Bool
is_thread h (Thread g) = g.0 == h.0
is_thread h (Passing g k) = false
is_thread h (Lending m) = false
is_thread h (Device m) = false
is_thread h (Returning m) = false
is_thread h (Synced m) = false
is_thread h Pool = false

abbrev pub is_device : MapId → Owner → Bool
is_device m (Thread g) = false
is_device m (Passing g k) = false
is_device m (Lending n) = false
is_device m (Device n) = same_map n m
is_device m (Returning n) = false
is_device m (Synced n) = false
is_device m Pool = false

-- the place of the buffer that a place of the device range stands for
abbrev pub buffer_place : Grant → ℕ → ℕ
buffer_place g x = g.buffer.at + (x - g.device.at)

-- a grant through which the channel uses the place
abbrev pub serves : ChanNo → ℕ → Grant → Bool
serves c x g = g.chan.0 == c.0 && has_device x g

-- the first of the channel's own grants, in order of adding, whose device range has the place
abbrev pub served_by : List Grant → ChanNo → ℕ → Option Grant
served_by grants c x = find (serves c x) grants

abbrev pub reached : ℕ → Grant → MapId × Place
reached x g = (g.id, record { 0 = buffer_place g x })

-- the mapping and the place of its buffer for which the channel may use the place
abbrev pub resolve : List Grant → ChanNo → ℕ → Option (MapId × Place)
resolve grants c x = option_map (reached x) (served_by grants c x)

abbrev pub place_through : Option Grant → ℕ → ℕ
place_through None x = x
place_through (Some g) x = buffer_place g x

-- what a place stands for in a transaction: the buffer's place through any grant's device range, else itself
abbrev pub stands_for : List Grant → ℕ → ℕ
stands_for grants x = place_through (find (has_device x) grants) x

abbrev pub granted : (ℕ → Owner) → Access → ℕ → Option Grant → Bool
granted owners access x None = false
granted owners access x (Some g) = is_device g.id (owners (buffer_place g x)) && device_may access g.dir

-- whether a channel may use a place
abbrev pub channel_may : (ℕ → Owner) → List Grant → ChanNo → Access → ℕ → Bool
channel_may owners grants c access x = granted owners access x (served_by grants c x)
