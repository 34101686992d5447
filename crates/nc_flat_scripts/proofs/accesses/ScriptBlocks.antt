-- The blocks that a script's cache operations name lie beside the coherent pool, as its buffers do.
use Rattle.std.specs.Prelude.{◌*◌, ◌/◌, slice_get, Some, true}
use Rattle.std.specs.List.{range_with_len}
use Rattle.std.proofs.Common.{◌≡◌, ℕ, zero, suc, ◌+◌, ◌<◌, ◌≤◌, [], ◌∷◌, sym, ◌∙◌, inl, inr, arith}
use Rattle.std.proofs.lemmas.Bool.{cases_Bool}
use Rattle.std.proofs.lemmas.List.FromFn.{get_or-range_with_len, length-range_with_len}
use Rattle.std.proofs.lemmas.Option.{get_or_from_slice_get, slice_get_within}
use Rattle.nc_num.specs.Sizes.{IsBlockSize}
use Rattle.nc_num.specs.Places.{covers}
use Rattle.nc_num.proofs.Blocks.{page_whole, each_size}
use Rattle.nc_env.specs.declared.CboOp.{CboOp}
use Rattle.nc_env.specs.declared.CboOp.TheVariants as cbos
use Rattle.nc_rules.specs.CacheOps.{cbo_blocks}
use Rattle.nc_rules.specs.Lots.{DriverConfig}
use Rattle.nc_rules.specs.Refusals.{buffer_of}
use Rattle.nc_scripts.specs.Drivers.{IsFixed}
use Rattle.nc_holds.specs.Held.{AreRegions}
use Rattle.nc_rows.specs.Parts.{IsBeside}
use Rattle.nc_flatness.proofs.books.WholeBlocks.{in_whole}

-- a naturally aligned range of such a size that has a byte of a buffer has none of the pool
range_beside : {s : ℕ} (ram harts : ℕ) (f : DriverConfig) (buf x y : ℕ) → IsFixed ram harts f → AreRegions f → IsBlockSize s → covers (buffer_of f buf) x ≡ true → x / s ≡ y / s → covers f.pool y ≡ true → ⊥
range_beside {s = s} ram harts f buf x y fixed regions size on same over =
    regions.buffers_off_pool buf x on (in_whole {s = s} f.pool y x size (page_whole {s = s} f.pool.at size (inl fixed.pool_whole)) (page_whole {s = s} f.pool.len size (inl fixed.pool_paged)) same over)

beside_by : {s : ℕ} (ram harts : ℕ) (f : DriverConfig) (buf x b : ℕ) → IsFixed ram harts f → AreRegions f → IsBlockSize s → covers (buffer_of f buf) x ≡ true → ((y : ℕ) → y / f.size ≡ b → y / s ≡ x / s) → IsBeside f.pool f.size b
beside_by {s = s} ram harts f buf x b fixed regions size on same = λ y here. elim (cases_Bool (covers f.pool y)) [
  | inl over ↦ absurd (range_beside {s = s} ram harts f buf x y fixed regions size on (sym (same y here)) over)
  | inr off ↦ off
]

-- ---- blocks by number

first_only : (a b i : ℕ) → slice_get (a ∷ []) i ≡ Some b → b ≡ a
first_only a b zero e = cc
first_only a b (suc i) e = absurd cc

-- a block of a range of a zero lies in the range
abbrev pub LiesWide : ℕ → ℕ → ℕ → ℕ → ℕ → Type 0
LiesWide q i y s z = s ≤ z → i < z / s → y / s ≡ q * (z / s) + i → y / z ≡ q

wide_block : (s z q i y : ℕ) → IsBlockSize s → IsBlockSize z → LiesWide q i y s z
wide_block s z q i y small wide =
    each_size (λ k. LiesWide q i y k z) s small (each_size (LiesWide q i y 32) z wide (λ le few is. omega (arith, few, is)) (λ le few is. omega (arith, few, is)) (λ le few is. omega (arith, few, is)))
    (each_size (LiesWide q i y 64) z wide (λ le few is. omega (arith, le)) (λ le few is. omega (arith, few, is)) (λ le few is. omega (arith, few, is)))
    (each_size (LiesWide q i y 128) z wide (λ le few is. omega (arith, le)) (λ le few is. omega (arith, le)) (λ le few is. omega (arith, few, is)))

zero_block : (f : DriverConfig) (x i b y : ℕ) → IsBlockSize f.size → IsBlockSize f.zero_size → f.size ≤ f.zero_size → slice_get (cbo_blocks f cbos.Zero x) i ≡ Some b → y / f.size ≡ b → y / f.zero_size ≡ x / f.zero_size
zero_block f x i b y small wide le e is =
    let count = f.zero_size / f.size in
    let first = x / f.zero_size * count in
    let few : i < count = omega (arith, slice_get_within (range_with_len first count) i b e, length-range_with_len first count) in
    let at : first + i ≡ b = sym (get_or-range_with_len first count i 0 few) ∙ get_or_from_slice_get (range_with_len first count) i b 0 e in
    wide_block f.size f.zero_size (x / f.zero_size) i y small wide le few (is ∙ sym at)

-- ---- all of them

pub script_block : (ram harts : ℕ) (f : DriverConfig) (op : CboOp) (buf x i b : ℕ) → IsFixed ram harts f → AreRegions f → covers (buffer_of f buf) x ≡ true → slice_get (cbo_blocks f op x) i ≡ Some b → IsBeside f.pool f.size b
script_block ram harts f cbos.Zero buf x i b fixed regions on e =
    beside_by {s = f.zero_size} ram harts f buf x b fixed regions fixed.zero_sized on (λ y here. zero_block f x i b y fixed.sized fixed.zero_sized fixed.zero_wide e here)
script_block ram harts f cbos.Clean buf x i b fixed regions on e = beside_by {s = f.size} ram harts f buf x b fixed regions fixed.sized on (λ y here. here ∙ first_only (x / f.size) b i e)
script_block ram harts f cbos.Flush buf x i b fixed regions on e = beside_by {s = f.size} ram harts f buf x b fixed regions fixed.sized on (λ y here. here ∙ first_only (x / f.size) b i e)
script_block ram harts f cbos.Inval buf x i b fixed regions on e = beside_by {s = f.size} ram harts f buf x b fixed regions fixed.sized on (λ y here. here ∙ first_only (x / f.size) b i e)
