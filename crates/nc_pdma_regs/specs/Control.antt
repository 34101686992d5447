-- The Control register, as its flags and as a number (this project's own).
use Rattle.std.specs.Prelude.{ℕ, ◌+◌, ◌*◌, ◌^◌, ◌==◌, Bool, true, false}
use Rattle.std.specs.Int.{bit_at}

-- whether bit k of a number is set
abbrev pub bit : ℕ → ℕ → Bool
bit n k = bit_at n k == 1

-- the flags of Control: bits 0, 1, 14, 15, 30 and 31
pub record ControlBits : Type 0 where
  pub claim : Bool
  pub run : Bool
  pub done_ie : Bool
  pub error_ie : Bool
  pub done : Bool
  pub error : Bool

abbrev pub one : Bool → ℕ
one true = 1
one false = 0

-- the number with these flags, whose other bits are 0
unfoldable pub number_of : ControlBits → ℕ
number_of c = one c.claim + 2 * one c.run + 2 ^ 14 * one c.done_ie + 2 ^ 15 * one c.error_ie + 2 ^ 30 * one c.done + 2 ^ 31 * one c.error

-- the flags of a number
abbrev pub bits_of : ℕ → ControlBits
bits_of n = record { claim = bit n 0; run = bit n 1; done_ie = bit n 14; error_ie = bit n 15; done = bit n 30; error = bit n 31 }

-- what a channel starts with
abbrev pub no_flags : ControlBits
no_flags = record { claim = false; run = false; done_ie = false; error_ie = false; done = false; error = false }
