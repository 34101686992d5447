-- Flat memory: the writes among the accesses of a run, applied in order, with no caches, blocks, queues, fences or
-- slots. And the law that each read shows it, up to the first touch.
use Rattle.std.specs.Prelude.{ℕ, ◌≡◌, ◌+◌, List, [], ◌∷◌, Option, Some, None, take, slice_get, slice_set}
use Rattle.nc_num.specs.Memory.{byte}
use Rattle.nc_num.specs.declared.names.ChanNo.{ChanNo}
use Rattle.nc_num.specs.declared.names.MapId.{MapId}
use Rattle.nc_num.specs.declared.places.Place.{Place}
use Rattle.nc_model.specs.Rights.{resolve}
use Rattle.nc_model.specs.declared.deeds.Deed.{Deed}
use Rattle.nc_model.specs.declared.deeds.Deed.TheVariants.{Read, Write}
use Rattle.nc_model.specs.declared.owners.Grant.{Grant}

-- bytes from a place on, each under the name of its place
abbrev pub named_from : (ℕ → ℕ) → ℕ → List ℕ → List (Place × ℕ)
named_from name at [] = []
named_from name at (b ∷ bs) = (record { 0 = name at }, b) ∷ named_from name (at + 1) bs

-- the bytes of a load, a store or a zero are named by their own places
abbrev pub named : ℕ → List ℕ → List (Place × ℕ)
named at bytes = named_from (λ x. x) at bytes

abbrev pub name_by : Option (MapId × Place) → ℕ → ℕ
name_by None x = x
name_by (Some p) x = p.1.0

-- a channel's byte is named by the buffer's place for which the channel uses it, else by its own
abbrev pub channel_name : List Grant → ChanNo → ℕ → ℕ
channel_name grants c x = name_by (resolve grants c x) x

-- memory with these bytes written one after another
abbrev pub written : List ℕ → List (Place × ℕ) → List ℕ
written m [] = m
written m (p ∷ ps) = written (slice_set m p.0.0 p.1) ps

-- flat memory after these accesses
abbrev pub flat : List ℕ → List Deed → List ℕ
flat m [] = m
flat m (Read bytes ∷ ds) = flat m ds
flat m (Write bytes ∷ ds) = flat (written m bytes) ds

-- each byte is the one that memory has at its place
abbrev pub Shows : List ℕ → List (Place × ℕ) → Type 0
Shows m [] = Unit {0}
Shows m (p ∷ ps) = (byte m p.0.0 ≡ p.1) × Shows m ps

-- what a run's records say of accesses and touches, in order
pub data TraceItem : Type 0 where
  Did : (deed : Deed) → TraceItem
  Touched : TraceItem

-- each read before the first touch shows flat memory as it is then
abbrev pub Latest : List ℕ → List TraceItem → Type 0
Latest m [] = Unit {0}
Latest m (Did (Read bytes) ∷ ms) = Shows m bytes × Latest m ms
Latest m (Did (Write bytes) ∷ ms) = Latest (written m bytes) ms
Latest m (Touched ∷ ms) = Unit {0}

-- no touch among them
abbrev pub Untouched : List TraceItem → Type 0
Untouched [] = Unit {0}
Untouched (Did d ∷ ms) = Untouched ms
Untouched (Touched ∷ ms) = ⊥

-- the accesses, and those before the first touch
abbrev pub deeds : List TraceItem → List Deed
deeds [] = []
deeds (Did d ∷ ms) = d ∷ deeds ms
deeds (Touched ∷ ms) = deeds ms

abbrev pub deeds_before_touch : List TraceItem → List Deed
deeds_before_touch [] = []
deeds_before_touch (Did d ∷ ms) = d ∷ deeds_before_touch ms
deeds_before_touch (Touched ∷ ms) = []

-- by number: a read before the first touch that is access number n shows flat memory after the first n accesses
abbrev pub ShowsFlat : List ℕ → List TraceItem → Type 0
ShowsFlat m ms = (n : ℕ) (bytes : List (Place × ℕ)) → slice_get (deeds_before_touch ms) n ≡ Some (Read bytes) → Shows (flat m (take n (deeds ms))) bytes
