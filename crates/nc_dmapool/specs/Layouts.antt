-- How a pool cuts a page into places for pieces. This project's own, after Linux's dma_pool.
use Rattle.std.specs.Prelude.{◌≡◌, ℕ, ◌+◌, ◌*◌, ◌/◌, ◌%◌, ◌<◌, ◌≤◌, ◌&&◌, Bool, true, nat_eq, nat_le, nat_lt, if◌then◌else◌, List, [], ◌∷◌, map, Result, Ok, Err}
use Rattle.std.specs.List.{list_any, flat_map, range_with_len}
use Rattle.std.specs.Int.{next_multiple_of}
use Rattle.nc_dmapool.specs.declared.layout.PoolBad.{PoolBad}
use Rattle.nc_dmapool.specs.declared.layout.PoolBad.TheVariants.{Size, Align, Boundary}

-- pieces of `size` bytes, each at a multiple of `align`, none of them across a multiple of `range`
pub record Layout : Type 0 where
  pub size : ℕ
  pub align : ℕ
  pub range : ℕ

-- the powers of two up to a page
abbrev pub is_power : ℕ → Bool
is_power x = list_any (λ p. nat_eq p x) (1 ∷ 2 ∷ 4 ∷ 8 ∷ 16 ∷ 32 ∷ 64 ∷ 128 ∷ 256 ∷ 512 ∷ 1024 ∷ 2048 ∷ 4096 ∷ [])

-- a boundary of 0 is that of the page
abbrev pub range_of : ℕ → ℕ
range_of boundary = if nat_eq boundary 0 then 4096 else boundary

-- from one piece of a range to the next: the size, rounded up to a multiple of align
abbrev pub stride : Layout → ℕ
stride l = next_multiple_of l.size l.align

-- the pieces of a range
abbrev pub each : Layout → ℕ
each l = l.range / stride l

abbrev pub is_size : ℕ → Bool
is_size size = nat_lt 0 size && nat_le size 4096

abbrev pub is_align : ℕ → Bool
is_align align = nat_le 4 align && is_power align

abbrev pub is_range : ℕ → ℕ → Bool
is_range range step = is_power range && nat_le step range

abbrev pub ranged : Layout → Result Layout PoolBad
ranged l = if is_range l.range (stride l) then Ok l else Err Boundary

-- what `new` answers: the first that is wrong of size, align and boundary
abbrev pub layout_of : ℕ → ℕ → ℕ → Result Layout PoolBad
layout_of size align boundary =
    if is_size size then (if is_align align then ranged (record { size = size; align = align; range = range_of boundary }) else Err Align) else Err Size

-- what holds of each layout that a pool has
pub record IsLayout (l : Layout) : Type 0 where
  pub size : is_size l.size ≡ true
  pub align : is_align l.align ≡ true
  pub range : is_range l.range (stride l) ≡ true

-- the stride and the pieces of a range, once worked out
pub record IsCut (l : Layout) (step count : ℕ) : Type 0 where
  pub layout : IsLayout l
  pub step_is : step ≡ stride l
  pub count_is : count ≡ each l

-- the places of a page: in each of its ranges, each stride that the range holds whole
abbrev pub places : Layout → ℕ → List ℕ
places l page = flat_map (λ r. map (λ i. page + r * l.range + i * stride l) (range_with_len 0 (each l))) (range_with_len 0 (4096 / l.range))

-- place n of a page, by its number: piece n % each of range n / each, as bytes from the start of the page
abbrev pub offset_of : Layout → ℕ → ℕ
offset_of l n = (n / each l) * l.range + (n % each l) * stride l

-- how many places a page has
abbrev pub place_count : Layout → ℕ
place_count l = 4096 / l.range * each l

-- what follows for each layout
pub record Cuts (l : Layout) : Type 0 where
  pub some : 0 < l.size
  pub size : l.size ≤ stride l
  pub step : 0 < stride l
  pub count : 0 < each l
  pub fits : each l * stride l ≤ l.range
  pub within : stride l ≤ l.range
  pub range : 0 < l.range
  pub page : l.range ≤ 4096
  pub ranges : 4096 / l.range * l.range ≡ 4096
  pub align : 0 < l.align
  pub range_aligned : (q : ℕ) × (l.range ≡ q * l.align)
  pub step_aligned : (q : ℕ) × (stride l ≡ q * l.align)
