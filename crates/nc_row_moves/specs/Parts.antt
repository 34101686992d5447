-- What a drain, a fill and an eviction leave of what holds beside the rows, as statements.
use Rattle.std.specs.Prelude.{ℕ, ◌≡◌, ◌/◌, true, List}
use Rattle.nc_num.specs.Places.{covers}
use Rattle.nc_queue.specs.declared.entry.Entry.{Entry}
use Rattle.nc_model.specs.declared.owners.Owner.{Owner}
use Rattle.nc_rules.specs.Machine.{MachineState}
use Rattle.nc_rules.specs.Calls.{drain_next, is_pooled, fill_next, evict_next}
use Rattle.nc_rules.specs.Sound.{IsMachine}
use Rattle.nc_calls.specs.MachineLaws.{IsMove}
use Rattle.nc_rows.specs.Rows.{Book}
use Rattle.nc_rows.specs.Parts.{Queued, Uncached, Lasts}
use Rattle.nc_row_moves.specs.Laws.{IsDrain}

-- the pool is made of whole blocks
pub record WholePool (m : MachineState) : Type 0 where
  pub block : (x y : ℕ) → covers m.pool x ≡ true → x / m.size ≡ y / m.size → covers m.pool y ≡ true
  pub pooled : (x : ℕ) → covers m.pool x ≡ true → is_pooled m (x / m.size) ≡ true

pub record PartsStay : Type 0 where
  pub queued_drain : (a : Book) (owner : ℕ → Owner) (m : MachineState) (h i : ℕ) (e : Entry) → IsDrain m h i e → Queued a owner m → Queued a owner (drain_next m h i)
  pub uncached_drain : (a : Book) (owner : ℕ → Owner) (m : MachineState) (h i : ℕ) (e : Entry) → IsDrain m h i e → WholePool m → Queued a owner m → Uncached a owner m → Uncached a owner (drain_next m h i)
  pub lasts_drain : (a : Book) (f : List ℕ) (m : MachineState) (h i : ℕ) (e : Entry) → IsDrain m h i e → Lasts a f m → Lasts a f (drain_next m h i)
  pub queued_fill : (a : Book) (owner : ℕ → Owner) (m : MachineState) (h b : ℕ) → IsMachine m → IsMove m h b → Queued a owner m → Queued a owner (fill_next m h b)
  pub uncached_fill : (a : Book) (owner : ℕ → Owner) (m : MachineState) (h b : ℕ) → IsMachine m → IsMove m h b → WholePool m → Uncached a owner m → Uncached a owner (fill_next m h b)
  pub lasts_fill : (a : Book) (f : List ℕ) (m : MachineState) (h b : ℕ) → IsMachine m → IsMove m h b → Lasts a f m → Lasts a f (fill_next m h b)
  pub queued_evict : (a : Book) (owner : ℕ → Owner) (m : MachineState) (h b : ℕ) → IsMachine m → IsMove m h b → Queued a owner m → Queued a owner (evict_next m h b)
  pub uncached_evict : (a : Book) (owner : ℕ → Owner) (m : MachineState) (h b : ℕ) → IsMachine m → IsMove m h b → Uncached a owner m → Uncached a owner (evict_next m h b)
  pub lasts_evict : (a : Book) (f : List ℕ) (m : MachineState) (h b : ℕ) → IsMachine m → IsMove m h b → Lasts a f m → Lasts a f (evict_next m h b)
