-- The laws of the calls, at one place of memory and as a whole. s is the block size.
use Rattle.std.specs.Prelude.{ℕ, ◌≡◌, ◌≢◌, ◌⊎◌, ◌+◌, ◌-◌, ◌*◌, ◌/◌, ◌%◌, ◌<◌, ◌≤◌, true, List, None, length}
use Rattle.std.specs.FinMap as map
use Rattle.nc_num.specs.Memory.{byte}
use Rattle.nc_num.specs.Sizes.{IsBlockSize}
use Rattle.nc_cache.specs.declared.line.Line.{Line}
use Rattle.nc_cache.specs.Cache.{Cache, line_at, holds, load, own, store, zero_block, clean, flush, inval, evict, middle, bytes_at}
use Rattle.nc_cache.specs.Facts.{IsLine, Whole, Fresh, Clear, Both, Keeps, Dirties, Drops}

-- memory and lines stay whole in each call
pub record CallsKeepWhole : Type 0 where
  pub of_start : (s harts size : ℕ) (ram : List ℕ) → IsBlockSize s → harts ≤ 4 → length ram ≡ size → size % s ≡ 0 → Whole s harts size (record { ram = ram; lines = map.empty })
  pub of_load : (s harts size : ℕ) (c : Cache) (h b : ℕ) → Whole s harts size c → h < harts → s * b + s ≤ size → Whole s harts size (load s c h b)
  pub of_own : (s harts size : ℕ) (c : Cache) (h b : ℕ) → Whole s harts size c → h < harts → s * b + s ≤ size → Whole s harts size (own s c h b)
  pub of_store : (s harts size : ℕ) (c : Cache) (h at : ℕ) (bs : List ℕ) → Whole s harts size c → h < harts → at % s + length bs ≤ s → s * (at / s) + s ≤ size → Whole s harts size (store s c h at bs)
  pub of_zero : (s harts size : ℕ) (c : Cache) (h b : ℕ) → Whole s harts size c → h < harts → Whole s harts size (zero_block s c h b)
  pub of_evict : (s harts size : ℕ) (c : Cache) (h b : ℕ) → Whole s harts size c → h < harts → s * b + s ≤ size → Whole s harts size (evict s c h b)
  pub of_clean : (s harts size : ℕ) (c : Cache) (b : ℕ) → Whole s harts size c → s * b + s ≤ size → Whole s harts size (clean s c b)
  pub of_flush : (s harts size : ℕ) (c : Cache) (b : ℕ) → Whole s harts size c → s * b + s ≤ size → Whole s harts size (flush s c b)
  pub of_inval : (s harts size : ℕ) (c : Cache) (b : ℕ) → Whole s harts size c → Whole s harts size (inval c b)

-- load, evict, clean and flush change no byte that a hart sees where no copy is stale, and a load none at all; after a
-- clean nobody has the block dirty, and after a flush nobody has it
pub record CallsKeepPlaces : Type 0 where
  pub of_load : (s harts size : ℕ) (c : Cache) (h b x : ℕ) → Whole s harts size c → s * b + s ≤ size → Keeps s c (load s c h b) x
  pub loaded : (s harts size : ℕ) (c : Cache) (h b x : ℕ) → Whole s harts size c → s * b + s ≤ size → middle s (load s c h b) x ≡ middle s c x
  pub of_evict : (s harts size : ℕ) (c : Cache) (h b x : ℕ) → Whole s harts size c → s * b + s ≤ size → Keeps s c (evict s c h b) x
  pub of_clean : (s harts size : ℕ) (c : Cache) (b x : ℕ) → Whole s harts size c → s * b + s ≤ size → Keeps s c (clean s c b) x
  pub of_flush : (s harts size : ℕ) (c : Cache) (b x : ℕ) → Whole s harts size c → s * b + s ≤ size → Keeps s c (flush s c b) x
  pub cleaned : (s : ℕ) (c : Cache) (b x : ℕ) → x / s ≡ b → Clear s (clean s c b) x
  pub flushed : (s : ℕ) (c : Cache) (b : ℕ) → line_at (flush s c b) b ≡ None
  pub both : (s : ℕ) (c d : Cache) (v x : ℕ) → Keeps s c d x → Both s c v x → Both s d v x
  pub settled : (s : ℕ) (c : Cache) (x : ℕ) → Fresh s c x → Clear s c x → middle s c x ≡ byte c.ram x

-- own changes no byte, a store the bytes of its span alone, and a zero those of its block alone
pub record CallsWritePlaces : Type 0 where
  pub of_own : (s : ℕ) (c : Cache) (h b x : ℕ) → Dirties s c (own s c h b) b x
  pub owned : (s : ℕ) (c : Cache) (h b x : ℕ) → IsBlockSize s → middle s (own s c h b) x ≡ middle s c x
  pub of_store : (s : ℕ) (c : Cache) (h at : ℕ) (bs : List ℕ) (x : ℕ) → Dirties s c (store s c h at bs) (at / s) x
  pub stored : (s harts size : ℕ) (c : Cache) (h at : ℕ) (bs : List ℕ) (x : ℕ) → Whole s harts size c → at % s + length bs ≤ s → s * (at / s) + s ≤ size → at ≤ x → x < at + length bs
      → middle s (store s c h at bs) x ≡ byte bs (x - at)
  pub beside : (s harts size : ℕ) (c : Cache) (h at : ℕ) (bs : List ℕ) (x : ℕ) → Whole s harts size c → at % s + length bs ≤ s → s * (at / s) + s ≤ size → (x < at) ⊎ (at + length bs ≤ x)
      → middle s (store s c h at bs) x ≡ middle s c x
  pub of_zero : (s : ℕ) (c : Cache) (h b x : ℕ) → Dirties s c (zero_block s c h b) b x
  pub zeroed : (s : ℕ) (c : Cache) (h b x : ℕ) → IsBlockSize s → x / s ≡ b → middle s (zero_block s c h b) x ≡ 0
  pub elsewhere : (s : ℕ) (c : Cache) (h b x : ℕ) → x / s ≢ b → middle s (zero_block s c h b) x ≡ middle s c x

-- an invalidate leaves memory's byte in its block, and changes nothing elsewhere
pub record InvalDrops : Type 0 where
  pub here : (s : ℕ) (c : Cache) (b x : ℕ) → x / s ≡ b → Drops s c (inval c b) x
  pub elsewhere : (s : ℕ) (c : Cache) (b x : ℕ) → x / s ≢ b → Keeps s c (inval c b) x
  pub both : (s : ℕ) (c : Cache) (b v x : ℕ) → Both s c v x → Both s (inval c b) v x

-- the bytes of a span are what is seen at its places
pub record BytesAreSeen : Type 0 where
  pub length_is : (s : ℕ) (c : Cache) (at n : ℕ) → length (bytes_at s c at n) ≡ n
  pub byte_is : (s : ℕ) (c : Cache) (at n i : ℕ) → i < n → byte (bytes_at s c at n) i ≡ middle s c (at + i)

-- each line has a holder
pub record LinesAreHeld : Type 0 where
  pub holder : (s harts : ℕ) (l : Line) → IsLine s harts l → (h : ℕ) × (h < harts) × (holds l.held h ≡ true)
