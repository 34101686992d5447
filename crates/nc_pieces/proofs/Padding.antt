-- What a hole with a width writes of a number in hexadecimal.
use Rattle.std.proofs.Common.{◌≡◌, ℕ, ◌-◌, ◌^◌, [], false}
use Rattle.std.proofs.Math.Nat.{sub-zero}
use Rattle.std.proofs.lemmas.List.{append-nil}
use Rattle.std.specs.Fmt.{padded_integral, format_spec, digits, char_count}
use Rattle.nc_rules.specs.Lines.{hex_digits}

pub padded_hex : (most n : ℕ) → padded_integral (format_spec 32 0 4 most (2 ^ 64 - 1)) false [] (digits 16 false n) ≡ hex_digits most n
unfolding padded_integral char_count
padded_hex most n = simp (append-nil, sub-zero)
