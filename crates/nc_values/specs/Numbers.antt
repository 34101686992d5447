-- Decimal numbers in texts.
use Rattle.std.specs.Prelude.{ℕ, ◌+◌, ◌-◌, ◌*◌, ◌^◌, ◌==◌, ◌&&◌, List, [], ◌∷◌, Bool, nat_lt, nat_le, if◌then◌else◌, Option, Some, None, option_and_then}

abbrev pub is_digit : ℕ → Bool
is_digit c = nat_le 48 c && nat_le c 57

-- the number that the digits continue n to, below 2^64
abbrev pub number_from : ℕ → List ℕ → Option ℕ
number_from n [] = Some n
number_from n (c ∷ cs) = if is_digit c && nat_lt (10 * n + (c - 48)) (2 ^ 64) then number_from (10 * n + (c - 48)) cs else None

-- a decimal number without leading zeros
abbrev pub number_in : List ℕ → Option ℕ
number_in [] = None
number_in (c ∷ []) = number_from 0 (c ∷ [])
number_in (c ∷ d ∷ cs) = if c == 48 then None else number_from 0 (c ∷ d ∷ cs)

-- a number below this
abbrev pub kept_below : ℕ → ℕ → Option ℕ
kept_below bound n = if nat_lt n bound then Some n else None

abbrev pub number_below : ℕ → List ℕ → Option ℕ
number_below bound text = option_and_then (kept_below bound) (number_in text)

-- a number of one digit, below a bound of at most ten
abbrev pub digit_below : ℕ → ℕ → Option ℕ
digit_below bound c = if nat_le 48 c && nat_lt c (48 + bound) then Some (c - 48) else None
