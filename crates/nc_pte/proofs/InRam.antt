-- A place of a page in RAM lies in RAM.
use Rattle.std.proofs.Common.{ℕ, ◌<◌, arith}
use Rattle.nc_pte.specs.Words.{IsPteWord, place_at}

pub in_ram : (ram word va : ℕ) → IsPteWord ram word → place_at word va < ram
in_ram ram word va h = omega (arith, h.in_ram)
