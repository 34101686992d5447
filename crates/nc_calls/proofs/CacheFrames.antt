-- A call of the caches leaves each place of another block as it is, and mostly a block that nobody holds.
use Rattle.std.specs.Prelude.{Option, Some, None, true, false, if◌then◌else◌, slice_set, replicate}
use Rattle.std.proofs.Common.{◌≡◌, ◌≢◌, ℕ, ◌+◌, ◌*◌, ◌/◌, ◌%◌, ◌≤◌, List, length, refl, ap, ◌∙◌, arith}
use Rattle.nc_num.specs.Memory.{byte, splice, span}
use Rattle.nc_num.specs.Sizes.{IsBlockSize}
use Rattle.nc_cache.specs.declared.line.Held.{Held}
use Rattle.nc_cache.specs.declared.line.Held.TheVariants.{Shared, Dirty}
use Rattle.nc_cache.specs.declared.line.Line.{Line}
use Rattle.nc_cache.specs.Harts.{only}
use Rattle.nc_cache.specs.Cache.{Cache, line_at, hart, holds, holders, back, put, block_bytes, load, load_of, store, zero_block, clean, clean_of, cleaned, flush, flush_of, inval, without, evict, evict_of, middle}
use Rattle.nc_cache.specs.Facts.{IsLineOf, Whole, Fresh, Clear, Both}
use Rattle.nc_cache.proofs.Lines.{line-with_other, byte-block_other, byte-back_other, line_byte-other, Agrees-other}
use Rattle.nc_cache.proofs.Writes.{other_inval, ram-inval}

pub record Untouched (s : ℕ) (c d : Cache) (x : ℕ) : Type 0 where
  pub line : line_at d (x / s) ≡ line_at c (x / s)
  pub memory : byte d.ram x ≡ byte c.ram x

pub untouched_same : (s : ℕ) (c : Cache) (x : ℕ) → Untouched s c c x
untouched_same s c x = record { line = refl; memory = refl }

pub untouched_copy : (s : ℕ) (c d : Cache) (x : ℕ) → Untouched s c d x → middle s d x ≡ middle s c x
unfolding middle
untouched_copy s c d x u = rw u.line (line_byte-other s c.ram d.ram x (line_at c (x / s)) u.memory)

pub untouched_fresh : (s : ℕ) (c d : Cache) (x : ℕ) → Untouched s c d x → Fresh s c x → Fresh s d x
untouched_fresh s c d x u f = record { agrees = rw u.line (Agrees-other s c.ram d.ram x (line_at c (x / s)) u.memory f.agrees) }

pub untouched_clear : (s : ℕ) (c d : Cache) (x : ℕ) → Untouched s c d x → Clear s c x → Clear s d x
untouched_clear s c d x u f = record { clear = rw u.line f.clear }

pub untouched_both : (s : ℕ) (c d : Cache) (v x : ℕ) → Untouched s c d x → Both s c v x → Both s d v x
untouched_both s c d v x u b = record { memory = u.memory ∙ b.memory; copy = untouched_copy s c d x u ∙ b.copy }

-- ---- another block

untouched_put : (s : ℕ) (c : Cache) (ram : List ℕ) (b : ℕ) (o : Option Line) (x : ℕ) → x / s ≢ b → byte ram x ≡ byte c.ram x → Untouched s c (put c ram b o) x
untouched_put s c ram b o x ne same = record { line = line-with_other c.lines b (x / s) o ne; memory = same }

untouched_load_of : {s : ℕ} → IsBlockSize s → (harts : ℕ) (c : Cache) (h b x : ℕ) (o : Option Line) → IsLineOf s harts o → s * b + s ≤ length c.ram → x / s ≢ b → Untouched s c (load_of s c h b o) x
untouched_load_of {s = s} z harts c h b x None is fits ne = untouched_put s c c.ram b (Some (record { bytes = span c.ram (s * b) s; held = Shared (only h) })) x ne refl
untouched_load_of {s = s} z harts c h b x (Some l) is fits ne =
    elim (holds l.held h) as (λ t. Untouched s c (if t then c else put c (back s c.ram b l.bytes l.held) b (Some (record { bytes = l.bytes; held = Shared (slice_set (holders l.held) h true) }))) x) [
      | true ↦ untouched_same s c x
      | false ↦ untouched_put s c (back s c.ram b l.bytes l.held) b (Some (record { bytes = l.bytes; held = Shared (slice_set (holders l.held) h true) })) x ne (byte-back_other z c.ram b l.bytes l.held x is.bytes fits ne)
    ]

pub untouched_load : (s harts size : ℕ) (c : Cache) (h b x : ℕ) → Whole s harts size c → s * b + s ≤ size → x / s ≢ b → Untouched s c (load s c h b) x
unfolding load
untouched_load s harts size c h b x w fits ne = untouched_load_of w.block_size harts c h b x (line_at c b) (w.lines b) (omega (arith, w.ram)) ne

untouched_evict_of : {s : ℕ} → IsBlockSize s → (harts : ℕ) (c : Cache) (h b x : ℕ) (o : Option Line) → IsLineOf s harts o → s * b + s ≤ length c.ram → x / s ≢ b → Untouched s c (evict_of s c h b o) x
untouched_evict_of {s = s} z harts c h b x None is fits ne = untouched_same s c x
untouched_evict_of {s = s} z harts c h b x (Some l) is fits ne =
    elim (holds l.held h) as (λ t. Untouched s c (if t then put c (back s c.ram b l.bytes l.held) b (without h l.bytes l.held) else c) x) [
      | true ↦ untouched_put s c (back s c.ram b l.bytes l.held) b (without h l.bytes l.held) x ne (byte-back_other z c.ram b l.bytes l.held x is.bytes fits ne)
      | false ↦ untouched_same s c x
    ]

pub untouched_evict : (s harts size : ℕ) (c : Cache) (h b x : ℕ) → Whole s harts size c → s * b + s ≤ size → x / s ≢ b → Untouched s c (evict s c h b) x
unfolding evict
untouched_evict s harts size c h b x w fits ne = untouched_evict_of w.block_size harts c h b x (line_at c b) (w.lines b) (omega (arith, w.ram)) ne

untouched_cleaned : {s : ℕ} → IsBlockSize s → (c : Cache) (b x : ℕ) (bs : List ℕ) (d : Held) → length bs ≡ s → s * b + s ≤ length c.ram → x / s ≢ b → Untouched s c (cleaned s c b bs d) x
untouched_cleaned {s = s} z c b x bs (Shared by) len fits ne = untouched_same s c x
untouched_cleaned {s = s} z c b x bs (Dirty g) len fits ne =
    untouched_put s c (splice c.ram (s * b) bs) b (Some (record { bytes = bs; held = Shared (only g.0) })) x ne (byte-block_other z c.ram b bs x len fits ne)

untouched_clean_of : {s : ℕ} → IsBlockSize s → (harts : ℕ) (c : Cache) (b x : ℕ) (o : Option Line) → IsLineOf s harts o → s * b + s ≤ length c.ram → x / s ≢ b → Untouched s c (clean_of s c b o) x
untouched_clean_of {s = s} z harts c b x None is fits ne = untouched_same s c x
untouched_clean_of z harts c b x (Some l) is fits ne = untouched_cleaned z c b x l.bytes l.held is.bytes fits ne

pub untouched_clean : (s harts size : ℕ) (c : Cache) (b x : ℕ) → Whole s harts size c → s * b + s ≤ size → x / s ≢ b → Untouched s c (clean s c b) x
unfolding clean
untouched_clean s harts size c b x w fits ne = untouched_clean_of w.block_size harts c b x (line_at c b) (w.lines b) (omega (arith, w.ram)) ne

untouched_flush_of : {s : ℕ} → IsBlockSize s → (harts : ℕ) (c : Cache) (b x : ℕ) (o : Option Line) → IsLineOf s harts o → s * b + s ≤ length c.ram → x / s ≢ b → Untouched s c (flush_of s c b o) x
untouched_flush_of {s = s} z harts c b x None is fits ne = untouched_same s c x
untouched_flush_of {s = s} z harts c b x (Some l) is fits ne = untouched_put s c (back s c.ram b l.bytes l.held) b None x ne (byte-back_other z c.ram b l.bytes l.held x is.bytes fits ne)

pub untouched_flush : (s harts size : ℕ) (c : Cache) (b x : ℕ) → Whole s harts size c → s * b + s ≤ size → x / s ≢ b → Untouched s c (flush s c b) x
unfolding flush
untouched_flush s harts size c b x w fits ne = untouched_flush_of w.block_size harts c b x (line_at c b) (w.lines b) (omega (arith, w.ram)) ne

pub untouched_inval : (s : ℕ) (c : Cache) (b x : ℕ) → x / s ≢ b → Untouched s c (inval c b) x
untouched_inval s c b x ne = record { line = other_inval c b (x / s) ne; memory = ap (λ m. byte m x) (ram-inval c b) }

pub untouched_store : (s : ℕ) (c : Cache) (h at : ℕ) (bs : List ℕ) (x : ℕ) → x / s ≢ at / s → Untouched s c (store s c h at bs) x
unfolding store
untouched_store s c h at bs x ne =
    untouched_put s c c.ram (at / s) (Some (record { bytes = splice (block_bytes s c.ram (at / s) (line_at c (at / s))) (at % s) bs; held = Dirty (hart h) })) x ne refl

pub untouched_zero : (s : ℕ) (c : Cache) (h b x : ℕ) → x / s ≢ b → Untouched s c (zero_block s c h b) x
unfolding zero_block
untouched_zero s c h b x ne = untouched_put s c c.ram b (Some (record { bytes = replicate s 0; held = Dirty (hart h) })) x ne refl

-- ---- a block that nobody holds

-- it has memory's bytes
pub copy_free : (s : ℕ) (c : Cache) (x : ℕ) → line_at c (x / s) ≡ None → middle s c x ≡ byte c.ram x
unfolding middle
copy_free s c x none = rw none refl

pub clean_none : (s : ℕ) (c : Cache) (b : ℕ) → line_at c b ≡ None → clean s c b ≡ c
unfolding clean
clean_none s c b is = ap (clean_of s c b) is

pub evict_none : (s : ℕ) (c : Cache) (h b : ℕ) → line_at c b ≡ None → evict s c h b ≡ c
unfolding evict
evict_none s c h b is = ap (evict_of s c h b) is
