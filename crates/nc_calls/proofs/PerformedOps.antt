-- What a cache operation does at one place when it leaves its queue.
use Rattle.std.specs.Prelude.{Some, None, true, false, ◌==◌, unwrap_or}
use Rattle.std.proofs.Common.{◌≡◌, ◌≢◌, ℕ, ◌/◌, length, refl, inl, inr, sym, ap, ◌∙◌, subst}
use Rattle.std.proofs.lemmas.Bool.{cases_eq}
use Rattle.nc_num.specs.Memory.{byte}
use Rattle.nc_num.specs.Places.{block_at}
use Rattle.nc_env.specs.declared.CboOp.{CboOp}
use Rattle.nc_env.specs.declared.CboOp.TheVariants.{Clean, Flush, Inval, Zero}
use Rattle.nc_cache.specs.Cache as caches
use Rattle.nc_cache.specs.Cache.{Cache, line_at}
use Rattle.nc_cache.specs.Facts.{Fresh, Clear, Both, Keeps, Drops}
use Rattle.nc_cache.proofs.Places.{keeps_clean, keeps_flush, keeps_both, middle-clear, clear_clean, clear_flush, gone_flush}
use Rattle.nc_cache.proofs.Writes.{dirties_zero, dirties_both, middle-zero_in, middle-zero_out, drops_inval, keeps_inval, clear_inval, gone_inval, both_inval, ram-inval}
use Rattle.nc_queue.specs.Entries.{op_gives, is_inval, writes_back, is_zero}
use Rattle.nc_rules.specs.Machine.{MachineState}
use Rattle.nc_rules.specs.Calls.{operated}
use Rattle.nc_rules.specs.Sound.{IsBlockIn, IsMachine}
use Rattle.nc_calls.specs.PlaceLaws.{FreshAt, ClearAt, BothAt, NotHeld, op_parts, op_brings, drops_copies}
use Rattle.nc_calls.proofs.CacheFrames.{Untouched, copy_free, untouched_clean, untouched_flush, untouched_inval, untouched_zero, clean_none}
use Rattle.nc_calls.proofs.Spans.{is_other, test_same, test_other}

-- an operation as it leaves: its block is a block of memory
pub record Operates (m : MachineState) (b : ℕ) : Type 0 where
  pub sound : IsMachine m
  pub there : IsBlockIn m.size (length m.cache.ram) b

clean_keeps : (m : MachineState) (b x : ℕ) → Operates m b → Keeps m.size m.cache (caches.clean m.size m.cache b) x
clean_keeps m b x o = keeps_clean m.size (length m.harts) (length m.cache.ram) m.cache b x o.sound.cache o.there

flush_keeps : (m : MachineState) (b x : ℕ) → Operates m b → Keeps m.size m.cache (caches.flush m.size m.cache b) x
flush_keeps m b x o = keeps_flush m.size (length m.harts) (length m.cache.ram) m.cache b x o.sound.cache o.there

fresh_inval : (m : MachineState) (b x : ℕ) → (block_at x m.size == b ≡ true → NotHeld m x) → FreshAt m x
    → Fresh m.size (caches.inval m.cache b) x × (caches.middle m.size (caches.inval m.cache b) x ≡ caches.middle m.size m.cache x)
fresh_inval m b x lone f = elim (cases_eq (x / m.size) b) [
  | inl e ↦ let d = drops_inval m.size m.cache b x e in (d.fresh, d.copy ∙ sym (copy_free m.size m.cache x (lone (test_same (x / m.size) b e))))
  | inr ne ↦ (keeps_inval m.size m.cache b x ne).fresh f
]

zero_here : (m : MachineState) (b x : ℕ) → x / m.size ≡ b → op_gives m.size Zero b x ≡ Some 0
zero_here m b x e = rw (test_same (x / m.size) b e) refl

zero_away : (m : MachineState) (b x : ℕ) → x / m.size ≢ b → op_gives m.size Zero b x ≡ None
zero_away m b x ne = rw (test_other (x / m.size) b ne) refl

fresh_zero : (m : MachineState) (h b x : ℕ) → Operates m b → FreshAt m x
    → Fresh m.size (caches.zero_block m.size m.cache h b) x × (caches.middle m.size (caches.zero_block m.size m.cache h b) x ≡ unwrap_or (op_gives m.size Zero b x) (caches.middle m.size m.cache x))
fresh_zero m h b x o f = (
  (dirties_zero m.size m.cache h b x).fresh f,
  elim (cases_eq (x / m.size) b) [
    | inl e ↦ middle-zero_in o.sound.block_size m.cache h b x e ∙ sym (ap (λ v. unwrap_or v (caches.middle m.size m.cache x)) (zero_here m b x e))
    | inr ne ↦ middle-zero_out m.size m.cache h b x ne ∙ sym (ap (λ v. unwrap_or v (caches.middle m.size m.cache x)) (zero_away m b x ne))
  ],
)

pub fresh_operated : (m : MachineState) (h : ℕ) (op : CboOp) (b x : ℕ) → Operates m b → (op_parts m.size op b x ≡ true → NotHeld m x) → FreshAt m x
    → Fresh m.size (operated m h op b).cache x × (caches.middle m.size (operated m h op b).cache x ≡ unwrap_or (op_gives m.size op b x) (caches.middle m.size m.cache x))
fresh_operated m h Clean b x o lone f = (clean_keeps m b x o).fresh f
fresh_operated m h Flush b x o lone f = (flush_keeps m b x o).fresh f
fresh_operated m h Inval b x o lone f = fresh_inval m b x lone f
fresh_operated m h Zero b x o lone f = fresh_zero m h b x o f

pub untouched_operated : (m : MachineState) (h : ℕ) (op : CboOp) (b x : ℕ) → Operates m b → x / m.size ≢ b → Untouched m.size m.cache (operated m h op b).cache x
untouched_operated m h Clean b x o ne = untouched_clean m.size (length m.harts) (length m.cache.ram) m.cache b x o.sound.cache o.there ne
untouched_operated m h Flush b x o ne = untouched_flush m.size (length m.harts) (length m.cache.ram) m.cache b x o.sound.cache o.there ne
untouched_operated m h Inval b x o ne = untouched_inval m.size m.cache b x ne
untouched_operated m h Zero b x o ne = untouched_zero m.size m.cache h b x ne

pub clear_operated : (m : MachineState) (h : ℕ) (op : CboOp) (b x : ℕ) → Operates m b → (is_zero op ≡ true → x / m.size ≢ b) → ClearAt m x
    → Clear m.size (operated m h op b).cache x × (byte (operated m h op b).cache.ram x ≡ byte m.cache.ram x)
clear_operated m h Clean b x o away k = (clean_keeps m b x o).clear k
clear_operated m h Flush b x o away k = (flush_keeps m b x o).clear k
clear_operated m h Inval b x o away k = (clear_inval m.size m.cache b x k, ap (λ ram. byte ram x) (ram-inval m.cache b))
clear_operated m h Zero b x o away k = let d = dirties_zero m.size m.cache h b x in (d.clear (away refl) k, ap (λ ram. byte ram x) d.memory)

both_zero : (m : MachineState) (h b v x : ℕ) → op_gives m.size Zero b x ≡ None → BothAt m v x → Both m.size (caches.zero_block m.size m.cache h b) v x
both_zero m h b v x none both = elim (cases_eq (x / m.size) b) [
  | inl e ↦ absurd (let p : Some 0 ≡ None = sym (zero_here m b x e) ∙ none in cc)
  | inr ne ↦ dirties_both m.size m.cache (caches.zero_block m.size m.cache h b) b v x (dirties_zero m.size m.cache h b x) (middle-zero_out m.size m.cache h b x ne) both
]

pub both_operated : (m : MachineState) (h : ℕ) (op : CboOp) (b v x : ℕ) → Operates m b → op_gives m.size op b x ≡ None → BothAt m v x → Both m.size (operated m h op b).cache v x
both_operated m h Clean b v x o none both = keeps_both m.size m.cache (caches.clean m.size m.cache b) v x (clean_keeps m b x o) both
both_operated m h Flush b v x o none both = keeps_both m.size m.cache (caches.flush m.size m.cache b) v x (flush_keeps m b x o) both
both_operated m h Inval b v x o none both = both_inval m.size m.cache b v x both
both_operated m h Zero b v x o none both = both_zero m h b v x none both

-- nobody holds the block: another block stays as it is, and here nothing is brought
none_flushed : (m : MachineState) (b x : ℕ) → Operates m b → NotHeld m x → line_at (caches.flush m.size m.cache b) (x / m.size) ≡ None
none_flushed m b x o none = elim (cases_eq (x / m.size) b) [
  | inl e ↦ rw e (gone_flush m.size m.cache b)
  | inr ne ↦ (untouched_flush m.size (length m.harts) (length m.cache.ram) m.cache b x o.sound.cache o.there ne).line ∙ none
]

none_cleaned : (m : MachineState) (b x : ℕ) → Operates m b → NotHeld m x → line_at (caches.clean m.size m.cache b) (x / m.size) ≡ None
none_cleaned m b x o none = elim (cases_eq (x / m.size) b) [
  | inl e ↦ ap (λ c. line_at c (x / m.size)) (clean_none m.size m.cache b (subst (λ (k : ℕ). line_at m.cache k ≡ None) e none)) ∙ none
  | inr ne ↦ (untouched_clean m.size (length m.harts) (length m.cache.ram) m.cache b x o.sound.cache o.there ne).line ∙ none
]

none_dropped : (m : MachineState) (b x : ℕ) → NotHeld m x → line_at (caches.inval m.cache b) (x / m.size) ≡ None
none_dropped m b x none = elim (cases_eq (x / m.size) b) [
  | inl e ↦ rw e (gone_inval m.cache b)
  | inr ne ↦ (untouched_inval m.size m.cache b x ne).line ∙ none
]

pub not_held_operated : (m : MachineState) (h : ℕ) (op : CboOp) (b x : ℕ) → Operates m b → op_brings op b (x / m.size) ≡ false → NotHeld m x → line_at (operated m h op b).cache (x / m.size) ≡ None
not_held_operated m h Clean b x o other none = none_cleaned m b x o none
not_held_operated m h Flush b x o other none = none_flushed m b x o none
not_held_operated m h Inval b x o other none = none_dropped m b x none
not_held_operated m h Zero b x o other none = (untouched_zero m.size m.cache h b x (λ e. is_other b (x / m.size) other (sym e))).line ∙ none

-- at the operation's own block
pub cleared_operated : (m : MachineState) (h : ℕ) (op : CboOp) (b x : ℕ) → writes_back op ≡ true → x / m.size ≡ b → Clear m.size (operated m h op b).cache x
cleared_operated m h Clean b x is e = clear_clean m.size m.cache b x e
cleared_operated m h Flush b x is e = clear_flush m.size m.cache b x e
cleared_operated m h Inval b x is e = absurd cc
cleared_operated m h Zero b x is e = absurd cc

written_by : (s : ℕ) (c d : Cache) (x : ℕ) → Keeps s c d x → Clear s d x → Fresh s c x → byte d.ram x ≡ caches.middle s c x
written_by s c d x k clear f = let r = k.fresh f in sym (middle-clear s d x r.0 clear) ∙ r.1

pub written_operated : (m : MachineState) (h : ℕ) (op : CboOp) (b x : ℕ) → Operates m b → writes_back op ≡ true → x / m.size ≡ b → FreshAt m x → byte (operated m h op b).cache.ram x ≡ caches.middle m.size m.cache x
written_operated m h Clean b x o is e f = written_by m.size m.cache (caches.clean m.size m.cache b) x (clean_keeps m b x o) (clear_clean m.size m.cache b x e) f
written_operated m h Flush b x o is e f = written_by m.size m.cache (caches.flush m.size m.cache b) x (flush_keeps m b x o) (clear_flush m.size m.cache b x e) f
written_operated m h Inval b x o is e f = absurd cc
written_operated m h Zero b x o is e f = absurd cc

pub gone_operated : (m : MachineState) (h : ℕ) (op : CboOp) (b x : ℕ) → drops_copies op ≡ true → x / m.size ≡ b → line_at (operated m h op b).cache (x / m.size) ≡ None
gone_operated m h Flush b x is e = rw e (gone_flush m.size m.cache b)
gone_operated m h Inval b x is e = rw e (gone_inval m.cache b)
gone_operated m h Clean b x is e = absurd cc
gone_operated m h Zero b x is e = absurd cc

pub dropped_operated : (m : MachineState) (h : ℕ) (op : CboOp) (b x : ℕ) → is_inval op ≡ true → x / m.size ≡ b → Drops m.size m.cache (operated m h op b).cache x
dropped_operated m h Inval b x is e = drops_inval m.size m.cache b x e
dropped_operated m h Clean b x is e = absurd cc
dropped_operated m h Flush b x is e = absurd cc
dropped_operated m h Zero b x is e = absurd cc
