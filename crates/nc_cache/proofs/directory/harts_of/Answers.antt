use Rattle.std.proofs.Common.{arith, refl}
use Rattle.std.proofs.lemmas.Nat.Bits.{and_pow}
use Rattle.nc_cache.proofs.Masks.{has-and}
use Rattle.nc_cache.proofs.directory.harts_of.Goals as goal

pub returns : goal.returns
returns c =
    let m = c.args.mask in
    rw (has-and m 0 1 (and_pow m 0) (omega arith), has-and m 1 2 (and_pow m 1) (omega arith), has-and m 2 4 (and_pow m 2) (omega arith), has-and m 3 8 (and_pow m 3) (omega arith)) refl
