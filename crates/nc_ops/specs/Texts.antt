-- The texts of arguments: what an operation names.
use Rattle.std.specs.Prelude.{ℕ, suc, ◌+◌, ◌==◌, ◌&&◌, List, [], ◌∷◌, length, take, drop, if◌then◌else◌, Option, Some, None, option_and_then, option_map}
use Rattle.nc_values.specs.Numbers.{number_in}
use Rattle.nc_ops.specs.declared.texts.BusText.{BusText}
use Rattle.nc_ops.specs.declared.texts.BusText.TheVariants as buses
use Rattle.nc_ops.specs.declared.texts.SpotText.{SpotText}
use Rattle.nc_ops.specs.declared.texts.SpotText.TheVariants as spots

-- how many bytes stand before the first point
abbrev pub point_at : List ℕ → ℕ
point_at [] = 0
point_at (c ∷ cs) = if c == 46 then 0 else suc (point_at cs)

-- `bN`, `cL` or `v`
abbrev pub spot_in : List ℕ → Option SpotText
spot_in [] = None
spot_in (c ∷ text) =
    if c == 118 && length text == 0 then Some spots.Virtual
    else (if c == 98 then option_map (λ n. spots.Buffer n) (number_in text)
    else (if c == 99 then option_map (λ n. spots.Area n) (number_in text) else None))

-- `L.S`, where the point is at i
abbrev pub segment_in : ℕ → List ℕ → Option BusText
segment_in i text = option_and_then (λ label. option_map (λ s. buses.Segment label s) (number_in (drop (i + 1) text))) (number_in (take i text))

-- `L` or `L.S`
abbrev pub mapping_in : List ℕ → Option BusText
mapping_in text = if point_at text == length text then option_map (λ n. buses.Map n) (number_in text) else segment_in (point_at text) text

-- `mL`, `mL.S` or `cL`
abbrev pub bus_in : List ℕ → Option BusText
bus_in [] = None
bus_in (c ∷ text) = if c == 109 then mapping_in text else (if c == 99 then option_map (λ n. buses.Area n) (number_in text) else None)
