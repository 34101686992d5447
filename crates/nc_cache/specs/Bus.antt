-- What each call of the domain tells of its transfers, in order.
use Rattle.std.specs.Prelude.{ℕ, ◌+◌, ◌*◌, Bool, true, false, ◌==◌, if◌then◌else◌, List, [], ◌∷◌, ◌++◌, Option, Some, None, slice_index_or, slice_set}
use Rattle.nc_num.specs.Memory.{span}
use Rattle.nc_num.specs.declared.places.Block.{Block}
use Rattle.nc_cache.specs.Harts.{lowest}
use Rattle.nc_cache.specs.declared.line.Held.{Held}
use Rattle.nc_cache.specs.declared.line.Held.TheVariants.{Shared, Dirty}
use Rattle.nc_cache.specs.declared.line.Line.{Line}
use Rattle.nc_cache.specs.declared.line.Origin.TheVariants.{Mem, Hart}
use Rattle.nc_cache.specs.declared.line.Origin.TheVariants as origin
use Rattle.nc_cache.specs.declared.line.BusRec.{BusRec}
use Rattle.nc_cache.specs.declared.line.BusRec.TheVariants.{Fill, Own, WriteBack, Drop}
use Rattle.nc_cache.specs.Cache.{hart, holds, held_by, holders}

abbrev pub block : ℕ → Block
block b = record { 0 = b }

-- the hart that a copy comes from
abbrev pub giver : Held → ℕ
giver (Shared by) = lowest by
giver (Dirty g) = g.0

-- a dirty holder writes the block back
abbrev pub written : ℕ → List ℕ → Held → List BusRec
written b bytes (Shared by) = []
written b bytes (Dirty g) = WriteBack g (block b) bytes ∷ []

-- these harts, of which the first is g, drop their copies, ascending
abbrev pub drops : ℕ → ℕ → List Bool → List BusRec
drops g b [] = []
drops g b (true ∷ by) = Drop (hart g) (block b) ∷ drops (g + 1) b by
drops g b (false ∷ by) = drops (g + 1) b by

abbrev pub load_bus : ℕ → List ℕ → ℕ → ℕ → Option Line → List BusRec
load_bus s ram h b None = Fill (hart h) (block b) (Mem (span ram (s * b) s)) ∷ []
load_bus s ram h b (Some l) = if holds l.held h then [] else written b l.bytes l.held ++ Fill (hart h) (block b) (Hart (hart (giver l.held))) ∷ []

-- a fill is a load that is refused where h holds the block
abbrev pub fill_bus : ℕ → List ℕ → ℕ → ℕ → Option Line → Option (List BusRec)
fill_bus s ram h b o = if held_by o h then None else Some (load_bus s ram h b o)

-- from other harts to h, with no write to memory
abbrev pub taken_bus : ℕ → ℕ → Held → List BusRec
taken_bus h b d = Own (hart h) (block b) (Hart (hart (giver d))) ∷ drops 0 b (holders d)

abbrev pub owned_bus : ℕ → ℕ → Held → List BusRec
owned_bus h b (Shared by) = if slice_index_or by h false then Own (hart h) (block b) origin.Held ∷ drops 0 b (slice_set by h false) else taken_bus h b (Shared by)
owned_bus h b (Dirty g) = if g.0 == h then [] else taken_bus h b (Dirty g)

-- the same for a store and a zero
abbrev pub own_bus : ℕ → List ℕ → ℕ → ℕ → Option Line → List BusRec
own_bus s ram h b None = Own (hart h) (block b) (Mem (span ram (s * b) s)) ∷ []
own_bus s ram h b (Some l) = owned_bus h b l.held

abbrev pub clean_bus : ℕ → Option Line → List BusRec
clean_bus b None = []
clean_bus b (Some l) = written b l.bytes l.held

abbrev pub flush_bus : ℕ → Option Line → List BusRec
flush_bus b None = []
flush_bus b (Some l) = written b l.bytes l.held ++ drops 0 b (holders l.held)

abbrev pub inval_bus : ℕ → Option Line → List BusRec
inval_bus b None = []
inval_bus b (Some l) = drops 0 b (holders l.held)

-- refused where h holds no copy
abbrev pub evict_bus : ℕ → ℕ → Option Line → Option (List BusRec)
evict_bus h b None = None
evict_bus h b (Some l) = if holds l.held h then Some (written b l.bytes l.held ++ Drop (hart h) (block b) ∷ []) else None
