-- Each call leaves memory and the lines whole.
use Rattle.std.specs.Prelude.{Option, Some, None, slice_set, true, false, if◌then◌else◌, replicate}
use Rattle.std.proofs.Common.{◌≡◌, ℕ, ◌+◌, ◌*◌, ◌/◌, ◌%◌, ◌<◌, ◌≤◌, List, length, refl, inl, inr, ap, ◌∙◌, arith}
use Rattle.std.proofs.lemmas.Bool.{cases_eq}
use Rattle.std.proofs.lemmas.List.{length-replicate}
use Rattle.std.specs.Ordering.{nat_cmp}
use Rattle.std.specs.FinMap as map
use Rattle.nc_num.specs.Memory.{byte, splice, span}
use Rattle.nc_num.specs.Sizes.{IsBlockSize}
use Rattle.nc_num.proofs.MemoryLaws.{length-splice, length-span}
use Rattle.nc_cache.specs.declared.line.Held.{Held}
use Rattle.nc_cache.specs.declared.line.Held.TheVariants.{Shared, Dirty}
use Rattle.nc_cache.specs.declared.line.Line.{Line}
use Rattle.nc_cache.specs.Harts.{only}
use Rattle.nc_cache.specs.Cache.{Cache, line_at, hart, holds, holders, block_bytes, back, put, dirty, load, load_of, dirty_by, own, own_of, store, zero_block, clean, clean_of, cleaned, flush, flush_of, inval, without, evict, evict_of, middle}
use Rattle.nc_cache.specs.Facts.{IsHeld, IsLineOf, Whole, Fresh, Clear}
use Rattle.nc_cache.proofs.Lines.{line-with_same, line-with_other, length-back, length-block_bytes}
use Rattle.nc_cache.proofs.Writes.{gone_inval, other_inval, ram-inval}
use Rattle.nc_cache.proofs.Holders.{shared_only, shared_with, shared_holders, line_without}

-- the start: nobody holds a block
pub whole_start : (s harts size : ℕ) (ram : List ℕ) → IsBlockSize s → harts ≤ 4 → length ram ≡ size → size % s ≡ 0 → Whole s harts size (record { ram = ram; lines = map.empty })
whole_start s harts size ram z few len blocks = record { block_size = z; few = few; ram = len; blocks = blocks; lines = λ b. rw (map.get-empty nat_cmp b) tt }

pub fresh_start : (s : ℕ) (ram : List ℕ) (x : ℕ) → Fresh s (record { ram = ram; lines = map.empty }) x
fresh_start s ram x = record { agrees = rw (map.get-empty nat_cmp (x / s)) tt }

pub clear_start : (s : ℕ) (ram : List ℕ) (x : ℕ) → Clear s (record { ram = ram; lines = map.empty }) x
clear_start s ram x = record { clear = rw (map.get-empty nat_cmp (x / s)) tt }

pub middle-start : (s : ℕ) (ram : List ℕ) (x : ℕ) → middle s (record { ram = ram; lines = map.empty }) x ≡ byte ram x
unfolding middle
middle-start s ram x = rw (map.get-empty nat_cmp (x / s)) refl

-- other memory of the same length
pub whole_ram : (s harts size : ℕ) (c : Cache) (ram : List ℕ) → Whole s harts size c → length ram ≡ length c.ram → Whole s harts size (record { ram = ram; lines = c.lines })
whole_ram s harts size c ram w len = record { block_size = w.block_size; few = w.few; ram = len ∙ w.ram; blocks = w.blocks; lines = w.lines }

pub whole_put : (s harts size : ℕ) (c : Cache) (ram : List ℕ) (b : ℕ) (o : Option Line) → Whole s harts size c → length ram ≡ length c.ram → IsLineOf s harts o → Whole s harts size (put c ram b o)
whole_put s harts size c ram b o w len is = record {
  block_size = w.block_size;
  few = w.few;
  ram = len ∙ w.ram;
  blocks = w.blocks;
  lines = λ k. elim (cases_eq k b) [
    | inl e ↦ rw (line-with_same c.lines b k o e) is
    | inr ne ↦ rw (line-with_other c.lines b k o ne) (w.lines k)
  ];
}

whole_dirty : (s harts size : ℕ) (c : Cache) (h b : ℕ) (bs : List ℕ) → Whole s harts size c → h < harts → length bs ≡ s → Whole s harts size (dirty c h b bs)
whole_dirty s harts size c h b bs w lt len = whole_put s harts size c c.ram b (Some (record { bytes = bs; held = Dirty (hart h) })) w refl (record { bytes = len; held = lt })

-- load
whole_load_of : (s harts size : ℕ) (c : Cache) (h b : ℕ) (o : Option Line) → Whole s harts size c → h < harts → s * b + s ≤ length c.ram → IsLineOf s harts o → Whole s harts size (load_of s c h b o)
whole_load_of s harts size c h b None w lt fits is =
    whole_put s harts size c c.ram b (Some (record { bytes = span c.ram (s * b) s; held = Shared (only h) })) w refl
    (record { bytes = length-span c.ram (s * b) s fits; held = shared_only harts h w.few lt })
whole_load_of s harts size c h b (Some l) w lt fits is =
    elim (holds l.held h) as (λ t. Whole s harts size (if t then c else put c (back s c.ram b l.bytes l.held) b (Some (record { bytes = l.bytes; held = Shared (slice_set (holders l.held) h true) })))) [
      | true ↦ w
      | false ↦ whole_put s harts size c (back s c.ram b l.bytes l.held) b (Some (record { bytes = l.bytes; held = Shared (slice_set (holders l.held) h true) })) w
          (length-back s c.ram b l.bytes l.held is.bytes fits)
          (record { bytes = is.bytes; held = shared_with harts h (holders l.held) w.few lt (shared_holders harts l.held w.few is.held) })
    ]

pub whole_load : (s harts size : ℕ) (c : Cache) (h b : ℕ) → Whole s harts size c → h < harts → s * b + s ≤ size → Whole s harts size (load s c h b)
unfolding load
whole_load s harts size c h b w lt fits = whole_load_of s harts size c h b (line_at c b) w lt (omega (arith, w.ram)) (w.lines b)

-- own
whole_own_of : (s harts size : ℕ) (c : Cache) (h b : ℕ) (o : Option Line) → Whole s harts size c → h < harts → s * b + s ≤ length c.ram → IsLineOf s harts o → Whole s harts size (own_of s c h b o)
whole_own_of s harts size c h b o w lt fits is =
    elim (dirty_by o h) as (λ t. Whole s harts size (if t then c else dirty c h b (block_bytes s c.ram b o))) [
      | true ↦ w
      | false ↦ whole_dirty s harts size c h b (block_bytes s c.ram b o) w lt (length-block_bytes s harts c.ram b o is fits)
    ]

pub whole_own : (s harts size : ℕ) (c : Cache) (h b : ℕ) → Whole s harts size c → h < harts → s * b + s ≤ size → Whole s harts size (own s c h b)
unfolding own
whole_own s harts size c h b w lt fits = whole_own_of s harts size c h b (line_at c b) w lt (omega (arith, w.ram)) (w.lines b)

-- store and zero
pub whole_store : (s harts size : ℕ) (c : Cache) (h at : ℕ) (bs : List ℕ) → Whole s harts size c → h < harts → at % s + length bs ≤ s → s * (at / s) + s ≤ size → Whole s harts size (store s c h at bs)
unfolding store
whole_store s harts size c h at bs w lt one fits =
    let len : length (block_bytes s c.ram (at / s) (line_at c (at / s))) ≡ s = length-block_bytes s harts c.ram (at / s) (line_at c (at / s)) (w.lines (at / s)) (omega (arith, w.ram)) in
    whole_dirty s harts size c h (at / s) (splice (block_bytes s c.ram (at / s) (line_at c (at / s))) (at % s) bs) w lt
    (length-splice (block_bytes s c.ram (at / s) (line_at c (at / s))) (at % s) bs (omega (arith, len)) ∙ len)

pub whole_zero : (s harts size : ℕ) (c : Cache) (h b : ℕ) → Whole s harts size c → h < harts → Whole s harts size (zero_block s c h b)
unfolding zero_block
whole_zero s harts size c h b w lt = whole_dirty s harts size c h b (replicate s 0) w lt (length-replicate s 0)

-- clean
whole_cleaned : (s harts size : ℕ) (c : Cache) (b : ℕ) (bs : List ℕ) (d : Held) → Whole s harts size c → s * b + s ≤ length c.ram → length bs ≡ s → IsHeld harts d → Whole s harts size (cleaned s c b bs d)
whole_cleaned s harts size c b bs (Shared by) w fits len is = w
whole_cleaned s harts size c b bs (Dirty g) w fits len is =
    whole_put s harts size c (splice c.ram (s * b) bs) b (Some (record { bytes = bs; held = Shared (only g.0) })) w (length-splice c.ram (s * b) bs (omega arith))
    (record { bytes = len; held = shared_only harts g.0 w.few is })

whole_clean_of : (s harts size : ℕ) (c : Cache) (b : ℕ) (o : Option Line) → Whole s harts size c → s * b + s ≤ length c.ram → IsLineOf s harts o → Whole s harts size (clean_of s c b o)
whole_clean_of s harts size c b None w fits is = w
whole_clean_of s harts size c b (Some l) w fits is = whole_cleaned s harts size c b l.bytes l.held w fits is.bytes is.held

pub whole_clean : (s harts size : ℕ) (c : Cache) (b : ℕ) → Whole s harts size c → s * b + s ≤ size → Whole s harts size (clean s c b)
unfolding clean
whole_clean s harts size c b w fits = whole_clean_of s harts size c b (line_at c b) w (omega (arith, w.ram)) (w.lines b)

-- flush
whole_flush_of : (s harts size : ℕ) (c : Cache) (b : ℕ) (o : Option Line) → Whole s harts size c → s * b + s ≤ length c.ram → IsLineOf s harts o → Whole s harts size (flush_of s c b o)
whole_flush_of s harts size c b None w fits is = w
whole_flush_of s harts size c b (Some l) w fits is = whole_put s harts size c (back s c.ram b l.bytes l.held) b None w (length-back s c.ram b l.bytes l.held is.bytes fits) tt

pub whole_flush : (s harts size : ℕ) (c : Cache) (b : ℕ) → Whole s harts size c → s * b + s ≤ size → Whole s harts size (flush s c b)
unfolding flush
whole_flush s harts size c b w fits = whole_flush_of s harts size c b (line_at c b) w (omega (arith, w.ram)) (w.lines b)

-- inval
pub whole_inval : (s harts size : ℕ) (c : Cache) (b : ℕ) → Whole s harts size c → Whole s harts size (inval c b)
whole_inval s harts size c b w = record {
  block_size = w.block_size;
  few = w.few;
  ram = ap length (ram-inval c b) ∙ w.ram;
  blocks = w.blocks;
  lines = λ k. elim (cases_eq k b) [
    | inl e ↦ rw (e, gone_inval c b) tt
    | inr ne ↦ rw (other_inval c b k ne) (w.lines k)
  ];
}

-- evict
whole_evict_of : (s harts size : ℕ) (c : Cache) (h b : ℕ) (o : Option Line) → Whole s harts size c → h < harts → s * b + s ≤ length c.ram → IsLineOf s harts o → Whole s harts size (evict_of s c h b o)
whole_evict_of s harts size c h b None w lt fits is = w
whole_evict_of s harts size c h b (Some l) w lt fits is =
    elim (holds l.held h) as (λ t. Whole s harts size (if t then put c (back s c.ram b l.bytes l.held) b (without h l.bytes l.held) else c)) [
      | true ↦ whole_put s harts size c (back s c.ram b l.bytes l.held) b (without h l.bytes l.held) w (length-back s c.ram b l.bytes l.held is.bytes fits) (line_without s harts h l.bytes l.held is.bytes lt is.held)
      | false ↦ w
    ]

pub whole_evict : (s harts size : ℕ) (c : Cache) (h b : ℕ) → Whole s harts size c → h < harts → s * b + s ≤ size → Whole s harts size (evict s c h b)
unfolding evict
whole_evict s harts size c h b w lt fits = whole_evict_of s harts size c h b (line_at c b) w lt (omega (arith, w.ram)) (w.lines b)
