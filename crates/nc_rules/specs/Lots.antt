-- What a driver knows from the start, and the lots that its hart has: their names, their ranges as the channel sees
-- them, and the ways to find one. This project's own, but for the directions (Linux DMA API).
use Rattle.std.specs.Prelude.{ℕ, ◌+◌, ◌==◌, ◌&&◌, Bool, true, false, if◌then◌else◌, List, [], ◌∷◌, map, is_some, Option, None, slice_index_or}
use Rattle.std.specs.List.{find, list_any}
use Rattle.nc_num.specs.declared.names.ChanNo.{ChanNo}
use Rattle.nc_num.specs.declared.names.Dir.{Dir}
use Rattle.nc_num.specs.declared.names.Dir.TheVariants.{Both}
use Rattle.nc_num.specs.declared.names.HartNo.{HartNo}
use Rattle.nc_num.specs.declared.names.Label.{Label}
use Rattle.nc_num.specs.declared.names.MapId.{MapId}
use Rattle.nc_num.specs.declared.places.Span.{Span}
use Rattle.nc_model.specs.declared.owners.Grant.{Grant}
use Rattle.nc_model.specs.declared.owners.Owner.{Owner}
use Rattle.nc_model.specs.declared.owners.Owner.TheVariants as owners
use Rattle.nc_plan.specs.declared.effects.Effects.{Effects}
use Rattle.nc_plan.specs.declared.parts.Part.{Part}
use Rattle.nc_sg.specs.declared.list.Entry.{Entry}
use Rattle.nc_sg.specs.Lists.{SgView, list_of, next_waiting, give_slot, held, segment_of}
use Rattle.nc_sg.specs.Lists as sg
use Rattle.nc_ops.specs.declared.ops.Op.{Op}
use Rattle.nc_rules.specs.declared.lots.Kind.{Kind}
use Rattle.nc_rules.specs.declared.lots.Kind.TheVariants.{Single, List as ScatterList, Area, Copy}
use Rattle.nc_rules.specs.declared.lots.Lot.{Lot}
use Rattle.nc_rules.specs.declared.lots.LotId.{LotId}
use Rattle.nc_rules.specs.declared.lots.Side.{Side}
use Rattle.nc_rules.specs.declared.lots.Side.TheVariants as sides

-- what a driver knows from the start: its hart, what the hart's cache operations do, whether it translates by memory
-- types, the table of pages, the buffers, the bytes of a block and of a zeroed range, how far each channel reaches,
-- the bounce slots, the coherent pool, whether fences are light, and its script
pub record DriverConfig : Type 0 where
  pub me : HartNo
  pub effects : Effects
  pub pbmte : Bool
  pub table : List ℕ
  pub buffers : List Span
  pub size : ℕ
  pub zero_size : ℕ
  pub reach : List ℕ
  pub slots_at : ℕ
  pub slots : ℕ
  pub pool : Span
  pub light : Bool
  pub script : List Op

-- where a channel's reach ends
abbrev pub reach_of : DriverConfig → ChanNo → ℕ
reach_of f chan = slice_index_or f.reach chan.0 0

-- ---- names

abbrev pub lot_id : Label → ℕ → LotId
lot_id label first = record { label = label; first = first }

abbrev pub is_lot : LotId → Lot → Bool
is_lot id lot = lot.id.label.0 == id.label.0 && lot.id.first == id.first

abbrev pub is_labelled : Label → Lot → Bool
is_labelled label lot = lot.id.label.0 == label.0

-- ---- entries

-- the mapping that entry i of a lot is
abbrev pub map_id : HartNo → LotId → ℕ → MapId
map_id me id i = record { hart = me; label = id.label; entry = id.first + i }

-- what an entry is as the mapping of a channel
abbrev pub grant_of : ℕ → Lot → MapId → Entry → Grant
grant_of slots_at lot id e = record { id = id; buffer = e.span; device = sg.device slots_at e; dir = lot.list.dir; chan = lot.chan }

-- one value for each entry, by its mapping
abbrev pub each_from : {A : Type 0} → HartNo → LotId → ℕ → (MapId → Entry → A) → List Entry → List A
each_from me id i f [] = []
each_from me id i f (e ∷ es) = f (map_id me id i) e ∷ each_from me id (i + 1) f es

abbrev pub each_entry : {A : Type 0} → HartNo → Lot → (MapId → Entry → A) → List A
each_entry me lot g = each_from me lot.id 0 g lot.list.entries

-- the ranges of a lot as they are lent
abbrev pub parts : DriverConfig → Lot → List Part
parts f lot = map (sg.part_of lot.list.dir f.slots_at) lot.list.entries

abbrev pub no_entry : Entry
no_entry = record { span = record { at = 0; len = 0 }; bounced = false; slot = None }

-- the one entry of a lot that is no scatter list
abbrev pub only_entry : Lot → Entry
only_entry lot = slice_index_or lot.list.entries 0 no_entry

-- where it starts on the bus
abbrev pub bus_of_lot : DriverConfig → Lot → ℕ
bus_of_lot f lot = (segment_of f.slots_at (only_entry lot)).bus

-- ---- owners

-- the owner of the bytes of a mapping by the side of its lot
abbrev pub owner_of_side : MapId → Side → Owner
owner_of_side id sides.Wanted = owners.Thread id.hart
owner_of_side id sides.Lending = owners.Lending id
owner_of_side id sides.Device = owners.Device id
owner_of_side id sides.Returning = owners.Returning id
owner_of_side id sides.Synced = owners.Synced id
owner_of_side id sides.Own = owners.Thread id.hart

abbrev pub is_wanted : Side → Bool
is_wanted sides.Wanted = true
is_wanted sides.Lending = false
is_wanted sides.Device = false
is_wanted sides.Returning = false
is_wanted sides.Synced = false
is_wanted sides.Own = false

abbrev pub is_synced : Side → Bool
is_synced sides.Wanted = false
is_synced sides.Lending = false
is_synced sides.Device = false
is_synced sides.Returning = false
is_synced sides.Synced = true
is_synced sides.Own = false

abbrev pub is_own : Side → Bool
is_own sides.Wanted = false
is_own sides.Lending = false
is_own sides.Device = false
is_own sides.Returning = false
is_own sides.Synced = false
is_own sides.Own = true

-- ---- new lots

abbrev pub wanted_lot : LotId → Kind → ChanNo → SgView → Lot
wanted_lot id kind chan list = record { id = id; kind = kind; chan = chan; list = list; side = sides.Wanted }

-- these ranges, of which those bounce that the rule says
abbrev pub ranges_lot : DriverConfig → LotId → Kind → Dir → ChanNo → List Span → Lot
ranges_lot f id kind dir chan ranges = wanted_lot id kind chan (list_of dir f.size (reach_of f chan) ranges)

-- an area never bounces
abbrev pub area_lot : LotId → ChanNo → Span → Lot
area_lot id chan span = wanted_lot id Area chan (record { dir = Both; entries = record { span = span; bounced = false; slot = None } ∷ [] })

-- ---- slots

-- some entry of the lot bounces and has no slot
abbrev pub lot_waits : Lot → Bool
lot_waits lot = is_some (next_waiting lot.list.entries)

abbrev pub some_lot_waits : List Lot → Bool
some_lot_waits lots = list_any lot_waits lots

-- the first entry that waits for a slot gets this one
abbrev pub with_slot : ℕ → Lot → Lot
with_slot k lot = record lot { list = record lot.list { entries = give_slot k lot.list.entries } }

abbrev pub slot_given : ℕ → List Lot → List Lot
slot_given k [] = []
slot_given k (lot ∷ lots) = if lot_waits lot then with_slot k lot ∷ lots else lot ∷ slot_given k lots

abbrev pub slots_held : Lot → List ℕ
slots_held lot = held lot.list.entries

-- ---- looks

abbrev pub same_kind : Kind → Kind → Bool
same_kind Single Single = true
same_kind ScatterList ScatterList = true
same_kind Area Area = true
same_kind Copy Copy = true
same_kind Single ScatterList = false
same_kind Single Area = false
same_kind Single Copy = false
same_kind ScatterList Single = false
same_kind ScatterList Area = false
same_kind ScatterList Copy = false
same_kind Area Single = false
same_kind Area ScatterList = false
same_kind Area Copy = false
same_kind Copy Single = false
same_kind Copy ScatterList = false
same_kind Copy Area = false

-- the lot of this label, if it is of this kind
abbrev pub is_named : Label → Kind → Lot → Bool
is_named label kind lot = is_labelled label lot && same_kind kind lot.kind

abbrev pub lot_named : List Lot → Label → Kind → Option Lot
lot_named lots label kind = find (is_named label kind) lots
