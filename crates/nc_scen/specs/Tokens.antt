-- The tokens of a schedule.
use Rattle.std.specs.Prelude.{ℕ, ◌==◌, List, [], ◌∷◌, true, false, if◌then◌else◌, Option, None, option_and_then, option_map}
use Rattle.nc_num.specs.declared.names.ChanNo.{ChanNo}
use Rattle.nc_num.specs.declared.names.HartNo.{HartNo}
use Rattle.nc_num.specs.declared.places.Block.{Block}
use Rattle.nc_values.specs.Numbers.{number_below, digit_below}
use Rattle.nc_scen.specs.declared.events.Event.{Event}
use Rattle.nc_scen.specs.declared.events.Event.TheVariants.{Issue, Try, Told, Drain, Fill, Evict, ChanRead, ChanWrite}

-- There are at most four harts and four channels, so that their numbers have one digit; an entry and a
-- block are numbers of any length, below 8 and below the number of blocks

abbrev pub hart : ℕ → HartNo
hart n = record { 0 = n }

abbrev pub chan : ℕ → ChanNo
chan n = record { 0 = n }

abbrev pub block : ℕ → Block
block n = record { 0 = n }

-- `iH`, `tH`, `gH`, `nH`, `rC` or `wC`
abbrev pub short_token : ℕ → ℕ → ℕ → Option Event
short_token harts c n =
    if c == 105 then option_map (λ h. Issue (hart h)) (digit_below harts n)
    else (if c == 116 then option_map (λ h. Try (hart h)) (digit_below harts n)
    else (if c == 103 then option_map (λ h. Told (hart h) true) (digit_below harts n)
    else (if c == 110 then option_map (λ h. Told (hart h) false) (digit_below harts n)
    else (if c == 114 then option_map (λ k. ChanRead (chan k)) (digit_below 4 n)
    else (if c == 119 then option_map (λ k. ChanWrite (chan k)) (digit_below 4 n) else None)))))

-- `dH.I`, `fH.B` or `eH.B`, with the text behind the point
abbrev pub long_token : ℕ → ℕ → ℕ → ℕ → List ℕ → Option Event
long_token harts blocks c n text = option_and_then (λ h.
    if c == 100 then option_map (λ i. Drain (hart h) i) (number_below 8 text)
    else (if c == 102 then option_map (λ b. Fill (hart h) (block b)) (number_below blocks text)
    else (if c == 101 then option_map (λ b. Evict (hart h) (block b)) (number_below blocks text) else None))) (digit_below harts n)

-- the event of a token, in a machine of so many harts and blocks
abbrev pub token_in : ℕ → ℕ → List ℕ → Option Event
token_in harts blocks [] = None
token_in harts blocks (c ∷ []) = None
token_in harts blocks (c ∷ n ∷ []) = short_token harts c n
token_in harts blocks (c ∷ n ∷ p ∷ text) = if p == 46 then long_token harts blocks c n text else None
