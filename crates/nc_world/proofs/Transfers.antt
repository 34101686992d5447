-- The transfers of a call are all of one block, whose start is a place.
use Rattle.std.proofs.Common.{◌≡◌, ℕ, ◌+◌, ◌*◌, ◌/◌, ◌<◌, ◌≤◌, ◌^◌, Bool, true, false, List, [], ◌∷◌, ◌++◌, length, refl, arith}
use Rattle.std.specs.Prelude.{All, Option, Some, None, if◌then◌else◌, slice_index_or, slice_set, ◌==◌}
use Rattle.std.specs.List.{AllByRecursion}
use Rattle.std.proofs.lemmas.List.Elements.{All-from_recursion}
use Rattle.nc_num.specs.Sizes.{IsBlockSize}
use Rattle.nc_num.proofs.Blocks.{each_size}
use Rattle.nc_num.specs.declared.names.MemType.{MemType}
use Rattle.nc_num.specs.declared.names.MemType.TheVariants.{Pma, Nc, Io}
use Rattle.nc_num.specs.declared.places.Span.{Span}
use Rattle.nc_num.specs.Places.{block_at}
use Rattle.nc_env.specs.declared.CboOp.{CboOp}
use Rattle.nc_env.specs.declared.CboOp.TheVariants as cbos
use Rattle.nc_cache.specs.declared.line.BusRec.{BusRec}
use Rattle.nc_cache.specs.declared.line.BusRec.TheVariants as bus
use Rattle.nc_cache.specs.declared.line.Origin.TheVariants as origin
use Rattle.nc_cache.specs.declared.line.Held.{Held}
use Rattle.nc_cache.specs.declared.line.Held.TheVariants.{Shared, Dirty}
use Rattle.nc_cache.specs.declared.line.Line.{Line}
use Rattle.nc_cache.specs.Cache.{hart, holds, holders, line_at}
use Rattle.nc_cache.specs.Bus.{block, giver, written, drops, load_bus, taken_bus, owned_bus, own_bus, clean_bus, flush_bus, inval_bus, evict_bus}
use Rattle.nc_queue.specs.declared.entry.Entry.{Entry}
use Rattle.nc_queue.specs.declared.entry.Entry.TheVariants as entries
use Rattle.nc_rules.specs.Machine.{MachineState}
use Rattle.nc_rules.specs.Calls.{asks_caches, load_transfers, store_transfers, operation_transfers, drain_transfers, may_fill, fill_answer, evict_answer}
use Rattle.nc_rules.specs.Sound.{EntryIsThere, IsMachine, IsBlockIn}
use Rattle.nc_log.specs.Logs.{block_of, HasPlace}

abbrev AreOf : ℕ → List BusRec → Type 0
AreOf b ts = AllByRecursion (λ t. block_of t ≡ b) ts

of_both : (b : ℕ) (ts us : List BusRec) → AreOf b ts → AreOf b us → AreOf b (ts ++ us)
of_both b [] us p q = q
of_both b (t ∷ ts) us p q = (p.0, of_both b ts us p.1 q)

of_written : (b : ℕ) (bytes : List ℕ) (d : Held) → AreOf b (written b bytes d)
of_written b bytes (Shared by) = tt
of_written b bytes (Dirty g) = (refl, tt)

of_drops : (g b : ℕ) (by : List Bool) → AreOf b (drops g b by)
of_drops g b [] = tt
of_drops g b (true ∷ by) = (refl, of_drops (g + 1) b by)
of_drops g b (false ∷ by) = of_drops (g + 1) b by

of_choice : (b : ℕ) (t : Bool) (ts us : List BusRec) → AreOf b ts → AreOf b us → AreOf b (if t then ts else us)
of_choice b true ts us p q = p
of_choice b false ts us p q = q

of_load : (s : ℕ) (ram : List ℕ) (h b : ℕ) (o : Option Line) → AreOf b (load_bus s ram h b o)
of_load s ram h b None = (refl, tt)
of_load s ram h b (Some l) =
    let filled = bus.Fill (hart h) (block b) (origin.Hart (hart (giver l.held))) ∷ [] in
    of_choice b (holds l.held h) [] (written b l.bytes l.held ++ filled) tt (of_both b (written b l.bytes l.held) filled (of_written b l.bytes l.held) (refl, tt))

of_taken : (h b : ℕ) (d : Held) → AreOf b (taken_bus h b d)
of_taken h b d = (refl, of_drops 0 b (holders d))

of_owned : (h b : ℕ) (d : Held) → AreOf b (owned_bus h b d)
of_owned h b (Shared by) =
    let others = slice_set by h false in
    of_choice b (slice_index_or by h false) (bus.Own (hart h) (block b) origin.Held ∷ drops 0 b others) (taken_bus h b (Shared by)) (refl, of_drops 0 b others) (of_taken h b (Shared by))
of_owned h b (Dirty g) = of_choice b (g.0 == h) [] (taken_bus h b (Dirty g)) tt (of_taken h b (Dirty g))

of_own : (s : ℕ) (ram : List ℕ) (h b : ℕ) (o : Option Line) → AreOf b (own_bus s ram h b o)
of_own s ram h b None = (refl, tt)
of_own s ram h b (Some l) = of_owned h b l.held

of_clean : (b : ℕ) (o : Option Line) → AreOf b (clean_bus b o)
of_clean b None = tt
of_clean b (Some l) = of_written b l.bytes l.held

of_flush : (b : ℕ) (o : Option Line) → AreOf b (flush_bus b o)
of_flush b None = tt
of_flush b (Some l) = of_both b (written b l.bytes l.held) (drops 0 b (holders l.held)) (of_written b l.bytes l.held) (of_drops 0 b (holders l.held))

of_inval : (b : ℕ) (o : Option Line) → AreOf b (inval_bus b o)
of_inval b None = tt
of_inval b (Some l) = of_drops 0 b (holders l.held)

abbrev AreOfSome : ℕ → Option (List BusRec) → Type 0
AreOfSome b None = Unit {0}
AreOfSome b (Some ts) = AreOf b ts

of_chosen : (b : ℕ) (t : Bool) (ts : List BusRec) → AreOf b ts → AreOfSome b (if t then Some ts else None)
of_chosen b true ts p = p
of_chosen b false ts p = tt

of_evict : (h b : ℕ) (o : Option Line) → AreOfSome b (evict_bus h b o)
of_evict h b None = tt
of_evict h b (Some l) =
    let dropped = bus.Drop (hart h) (block b) ∷ [] in
    of_chosen b (holds l.held h) (written b l.bytes l.held ++ dropped) (of_both b (written b l.bytes l.held) dropped (of_written b l.bytes l.held) (refl, tt))

-- ---- their places

placed : (s b : ℕ) (ts : List BusRec) → s * b < 2 ^ 32 → AreOf b ts → AllByRecursion (HasPlace s) ts
placed s b [] small of = tt
placed s b (t ∷ ts) small of = (rw of.0 small, placed s b ts small of.1)

abbrev pub HavePlaces : ℕ → List BusRec → Type 0
HavePlaces s ts = All (HasPlace s) ts

places : (s b : ℕ) (ts : List BusRec) → s * b < 2 ^ 32 → AreOf b ts → HavePlaces s ts
places s b ts small of = All-from_recursion (HasPlace s) ts (placed s b ts small of)

-- the block of a place
start_below : (s x : ℕ) → IsBlockSize s → s * (x / s) ≤ x
start_below s x sized = each_size (λ n. n * (x / n) ≤ x) s sized (omega arith) (omega arith) (omega arith)

piece_small : (m : MachineState) (x : ℕ) → IsMachine m → x ≤ length m.cache.ram → m.size * block_at x m.size < 2 ^ 32
piece_small m x is le = omega (arith, start_below m.size x is.block_size, is.small, le)

pub block_small : (m : MachineState) (b : ℕ) → IsMachine m → IsBlockIn m.size (length m.cache.ram) b → m.size * b < 2 ^ 32
block_small m b is there = omega (arith, is.small, there)

pub load_places : (m : MachineState) (h : ℕ) (span : Span) (kind : MemType) → IsMachine m → span.at + span.len ≤ length m.cache.ram → HavePlaces m.size (load_transfers m h span kind)
load_places m h span kind is le =
    let b = block_at span.at m.size in
    elim (asks_caches m h span kind) as (λ t. HavePlaces m.size (if t then load_bus m.size m.cache.ram h b (line_at m.cache b) else [])) [
      | true ↦ places m.size b (load_bus m.size m.cache.ram h b (line_at m.cache b)) (piece_small m span.at is (omega (arith, le))) (of_load m.size m.cache.ram h b (line_at m.cache b))
      | false ↦ places m.size b [] (piece_small m span.at is (omega (arith, le))) tt
    ]

store_places : (m : MachineState) (h at : ℕ) (kind : MemType) → IsMachine m → at ≤ length m.cache.ram → HavePlaces m.size (store_transfers m h (block_at at m.size) kind)
store_places m h at Pma is le =
    let b = block_at at m.size in
    places m.size b (own_bus m.size m.cache.ram h b (line_at m.cache b)) (piece_small m at is le) (of_own m.size m.cache.ram h b (line_at m.cache b))
store_places m h at Nc is le = places m.size (block_at at m.size) [] (piece_small m at is le) tt
store_places m h at Io is le = places m.size (block_at at m.size) [] (piece_small m at is le) tt

operation_places : (m : MachineState) (h : ℕ) (op : CboOp) (b : ℕ) → m.size * b < 2 ^ 32 → HavePlaces m.size (operation_transfers m h op b)
operation_places m h cbos.Clean b small = places m.size b (clean_bus b (line_at m.cache b)) small (of_clean b (line_at m.cache b))
operation_places m h cbos.Flush b small = places m.size b (flush_bus b (line_at m.cache b)) small (of_flush b (line_at m.cache b))
operation_places m h cbos.Inval b small = places m.size b (inval_bus b (line_at m.cache b)) small (of_inval b (line_at m.cache b))
operation_places m h cbos.Zero b small = places m.size b (own_bus m.size m.cache.ram h b (line_at m.cache b)) small (of_own m.size m.cache.ram h b (line_at m.cache b))

none_placed : (m : MachineState) → HavePlaces m.size []
none_placed m = All-from_recursion (HasPlace m.size) [] tt

pub drain_places : (m : MachineState) (h : ℕ) (e : Entry) → IsMachine m → EntryIsThere m e → HavePlaces m.size (drain_transfers m h e)
drain_places m h (entries.Store span bytes kind) is there = store_places m h span.at kind is (omega (arith, there))
drain_places m h (entries.Cbo block op) is there = operation_places m h op block.0 (block_small m block.0 is there)
drain_places m h (entries.Reg chan off width value) is there = none_placed m
drain_places m h (entries.Mail buf to) is there = none_placed m
drain_places m h (entries.Lend label first count) is there = none_placed m
drain_places m h (entries.Mark pred succ) is there = none_placed m

abbrev pub SomeHavePlaces : ℕ → Option (List BusRec) → Type 0
SomeHavePlaces s None = Unit {0}
SomeHavePlaces s (Some ts) = HavePlaces s ts

some_places : (s b : ℕ) (r : Option (List BusRec)) → s * b < 2 ^ 32 → AreOfSome b r → SomeHavePlaces s r
some_places s b None small of = tt
some_places s b (Some ts) small of = places s b ts small of

pub fill_places : (m : MachineState) (h b : ℕ) → IsMachine m → IsBlockIn m.size (length m.cache.ram) b → SomeHavePlaces m.size (fill_answer m h b)
fill_places m h b is there =
    some_places m.size b (fill_answer m h b) (block_small m b is there) (of_chosen b (may_fill m h b) _ (of_load m.size m.cache.ram h b (line_at m.cache b)))

pub evict_places : (m : MachineState) (h b : ℕ) → IsMachine m → IsBlockIn m.size (length m.cache.ram) b → SomeHavePlaces m.size (evict_answer m h b)
evict_places m h b is there = some_places m.size b (evict_answer m h b) (block_small m b is there) (of_evict h b (line_at m.cache b))
