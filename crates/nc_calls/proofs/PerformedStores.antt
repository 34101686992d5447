-- What a store does at one place when it leaves its queue: through the caches, or past them.
use Rattle.std.specs.Prelude.{Option, Some, None, true, false, if◌then◌else◌, unwrap_or}
use Rattle.std.proofs.Common.{◌≡◌, ◌≢◌, ℕ, ◌+◌, ◌-◌, ◌/◌, ◌≤◌, List, length, refl, inl, inr, sym, ap, ◌∙◌, arith}
use Rattle.nc_num.specs.Memory.{byte, splice}
use Rattle.nc_num.specs.Places.{covers}
use Rattle.nc_num.specs.declared.places.Span.{Span}
use Rattle.nc_num.specs.declared.names.MemType.{MemType}
use Rattle.nc_num.specs.declared.names.MemType.TheVariants.{Pma, Nc, Io}
use Rattle.nc_num.proofs.Blocks.{within_block}
use Rattle.nc_num.proofs.MemoryLaws.{byte-splice_below, byte-splice_in, byte-splice_above}
use Rattle.nc_cache.specs.Cache as caches
use Rattle.nc_cache.specs.Cache.{Cache, line_at}
use Rattle.nc_cache.specs.Facts.{Fresh, Both}
use Rattle.nc_cache.proofs.Places.{keeps_ram, keeps_both}
use Rattle.nc_cache.proofs.Writes.{dirties_store, dirties_both, middle-store_in, middle-store_out}
use Rattle.nc_queue.specs.Entries.{StoreFits}
use Rattle.nc_rules.specs.Machine.{MachineState}
use Rattle.nc_rules.specs.Calls.{stored}
use Rattle.nc_rules.specs.Sound.{IsMachine}
use Rattle.nc_calls.specs.PlaceLaws.{FreshAt, BothAt, NotHeld, store_parts, store_brings}
use Rattle.nc_calls.proofs.CacheFrames.{Untouched, copy_free, untouched_store}
use Rattle.nc_calls.proofs.SoundDrain.{StoreIn, store_in}
use Rattle.nc_calls.proofs.Spans.{Over, Off, over_or_off, gives_over, gives_off, none_off, is_other}

-- a store as it leaves: its bytes lie in one block of memory
pub record Stores (m : MachineState) (span : Span) (bytes : List ℕ) : Type 0 where
  pub sound : IsMachine m
  pub fits : StoreFits m.size span bytes
  pub at : StoreIn m.size (length m.cache.ram) span bytes

pub stores : (m : MachineState) (span : Span) (bytes : List ℕ) → IsMachine m → StoreFits m.size span bytes → span.at + span.len ≤ length m.cache.ram → Stores m span bytes
stores m span bytes is fits there = record { sound = is; fits = fits; at = store_in m span bytes is fits there }

-- what the store gives
abbrev pub given : Span → List ℕ → ℕ → Option ℕ
given span bytes x = if covers span x then Some (byte bytes (x - span.at)) else None

pub over_in_block : (m : MachineState) (span : Span) (bytes : List ℕ) (x : ℕ) → Stores m span bytes → Over span x → x / m.size ≡ span.at / m.size
over_in_block m span bytes x s over = (within_block span.at span.len x s.sound.block_size s.fits.one_block over.from over.to).block

-- ---- past the caches

abbrev past : MachineState → Span → List ℕ → Cache
past m span bytes = record { ram = splice m.cache.ram span.at bytes; lines = m.cache.lines }

memory_off : (m : MachineState) (span : Span) (bytes : List ℕ) (x : ℕ) → Stores m span bytes → Off span x → byte (splice m.cache.ram span.at bytes) x ≡ byte m.cache.ram x
memory_off m span bytes x s off = elim off.beside [
  | inl lt ↦ byte-splice_below m.cache.ram span.at bytes x s.at.inside lt
  | inr le ↦ byte-splice_above m.cache.ram span.at bytes x s.at.inside (omega (arith, s.fits.whole, le))
]

memory_over : (m : MachineState) (span : Span) (bytes : List ℕ) (x : ℕ) → Stores m span bytes → Over span x → byte (splice m.cache.ram span.at bytes) x ≡ byte bytes (x - span.at)
memory_over m span bytes x s over = byte-splice_in m.cache.ram span.at bytes x s.at.inside over.from (omega (arith, s.fits.whole, over.to))

fresh_past : (m : MachineState) (span : Span) (bytes : List ℕ) (x : ℕ) → Stores m span bytes → (covers span x ≡ true → NotHeld m x) → FreshAt m x
    → Fresh m.size (past m span bytes) x × (caches.middle m.size (past m span bytes) x ≡ unwrap_or (given span bytes x) (caches.middle m.size m.cache x))
fresh_past m span bytes x s lone f =
    elim (over_or_off span x) [
      | inl over ↦
          let none = lone over.covered in (
            record { agrees = rw none tt },
            copy_free m.size (past m span bytes) x none ∙ (memory_over m span bytes x s over ∙ sym (ap (λ o. unwrap_or o (caches.middle m.size m.cache x)) (gives_over span bytes x over.covered))),
          )
      | inr off ↦
          let r = (keeps_ram m.size m.cache (splice m.cache.ram span.at bytes) x (memory_off m span bytes x s off)).fresh f in
          (r.0, r.1 ∙ sym (ap (λ o. unwrap_or o (caches.middle m.size m.cache x)) (gives_off span bytes x off.uncovered)))
    ]

off_block : (m : MachineState) (span : Span) (bytes : List ℕ) (x : ℕ) → Stores m span bytes → x / m.size ≢ span.at / m.size → Off span x
off_block m span bytes x s ne = elim (over_or_off span x) [ inl over ↦ absurd (ne (over_in_block m span bytes x s over)) | inr off ↦ off ]

untouched_past : (m : MachineState) (span : Span) (bytes : List ℕ) (x : ℕ) → Stores m span bytes → Off span x → Untouched m.size m.cache (past m span bytes) x
untouched_past m span bytes x s off = record { line = refl; memory = memory_off m span bytes x s off }

both_past : (m : MachineState) (span : Span) (bytes : List ℕ) (v x : ℕ) → Stores m span bytes → Off span x → BothAt m v x → Both m.size (past m span bytes) v x
both_past m span bytes v x s off b = keeps_both m.size m.cache (past m span bytes) v x (keeps_ram m.size m.cache (splice m.cache.ram span.at bytes) x (memory_off m span bytes x s off)) b

-- ---- through the caches

fresh_through : (m : MachineState) (h : ℕ) (span : Span) (bytes : List ℕ) (x : ℕ) → Stores m span bytes → FreshAt m x
    → Fresh m.size (caches.store m.size m.cache h span.at bytes) x × (caches.middle m.size (caches.store m.size m.cache h span.at bytes) x ≡ unwrap_or (given span bytes x) (caches.middle m.size m.cache x))
fresh_through m h span bytes x s f = (
  (dirties_store m.size m.cache h span.at bytes x).fresh f,
  elim (over_or_off span x) [
    | inl over ↦
        middle-store_in m.size (length m.harts) (length m.cache.ram) m.cache h span.at bytes x s.sound.cache s.at.one_block s.at.block over.from (omega (arith, s.fits.whole, over.to))
        ∙ sym (ap (λ o. unwrap_or o (caches.middle m.size m.cache x)) (gives_over span bytes x over.covered))
    | inr off ↦ copy_beside m h span bytes x s off ∙ sym (ap (λ o. unwrap_or o (caches.middle m.size m.cache x)) (gives_off span bytes x off.uncovered))
  ],
)
  where
    copy_beside : (m : MachineState) (h : ℕ) (span : Span) (bytes : List ℕ) (x : ℕ) → Stores m span bytes → Off span x → caches.middle m.size (caches.store m.size m.cache h span.at bytes) x ≡ caches.middle m.size m.cache x
    copy_beside m h span bytes x s off =
        middle-store_out m.size (length m.harts) (length m.cache.ram) m.cache h span.at bytes x s.sound.cache s.at.one_block s.at.block
        (elim off.beside [ inl lt ↦ inl lt | inr le ↦ inr (omega (arith, s.fits.whole, le)) ])

both_through : (m : MachineState) (h : ℕ) (span : Span) (bytes : List ℕ) (v x : ℕ) → Stores m span bytes → Off span x → BothAt m v x → Both m.size (caches.store m.size m.cache h span.at bytes) v x
both_through m h span bytes v x s off b =
    dirties_both m.size m.cache (caches.store m.size m.cache h span.at bytes) (span.at / m.size) v x (dirties_store m.size m.cache h span.at bytes x)
    (middle-store_out m.size (length m.harts) (length m.cache.ram) m.cache h span.at bytes x s.sound.cache s.at.one_block s.at.block
    (elim off.beside [ inl lt ↦ inl lt | inr le ↦ inr (omega (arith, s.fits.whole, le)) ]))
    b

-- ---- by type

pub fresh_stored : (m : MachineState) (h : ℕ) (span : Span) (bytes : List ℕ) (kind : MemType) (x : ℕ) → Stores m span bytes → (store_parts kind span x ≡ true → NotHeld m x) → FreshAt m x
    → Fresh m.size (stored m h span bytes kind).cache x × (caches.middle m.size (stored m h span bytes kind).cache x ≡ unwrap_or (given span bytes x) (caches.middle m.size m.cache x))
fresh_stored m h span bytes Pma x s lone f = fresh_through m h span bytes x s f
fresh_stored m h span bytes Nc x s lone f = fresh_past m span bytes x s lone f
fresh_stored m h span bytes Io x s lone f = fresh_past m span bytes x s lone f

pub untouched_stored : (m : MachineState) (h : ℕ) (span : Span) (bytes : List ℕ) (kind : MemType) (x : ℕ) → Stores m span bytes → x / m.size ≢ span.at / m.size → Untouched m.size m.cache (stored m h span bytes kind).cache x
untouched_stored m h span bytes Pma x s ne = untouched_store m.size m.cache h span.at bytes x ne
untouched_stored m h span bytes Nc x s ne = untouched_past m span bytes x s (off_block m span bytes x s ne)
untouched_stored m h span bytes Io x s ne = untouched_past m span bytes x s (off_block m span bytes x s ne)

pub both_stored : (m : MachineState) (h : ℕ) (span : Span) (bytes : List ℕ) (kind : MemType) (v x : ℕ) → Stores m span bytes → given span bytes x ≡ None → BothAt m v x → Both m.size (stored m h span bytes kind).cache v x
both_stored m h span bytes Pma v x s none b = both_through m h span bytes v x s (none_off span bytes x none) b
both_stored m h span bytes Nc v x s none b = both_past m span bytes v x s (none_off span bytes x none) b
both_stored m h span bytes Io v x s none b = both_past m span bytes v x s (none_off span bytes x none) b

pub not_held_stored : (m : MachineState) (h : ℕ) (span : Span) (bytes : List ℕ) (kind : MemType) (x : ℕ) → store_brings m.size kind span.at (x / m.size) ≡ false → NotHeld m x → line_at (stored m h span bytes kind).cache (x / m.size) ≡ None
not_held_stored m h span bytes Pma x other none = (untouched_store m.size m.cache h span.at bytes x (λ e. is_other (span.at / m.size) (x / m.size) other (sym e))).line ∙ none
not_held_stored m h span bytes Nc x other none = none
not_held_stored m h span bytes Io x other none = none
