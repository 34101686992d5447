use Rattle.std.proofs.Common.{◌+◌}
use Rattle.std.proofs.lemmas.Nat.Bits.{and_high}
use Rattle.nc_pdma_regs.proofs.config.config_of.Goals as goal

pub returns : goal.returns
returns c = λ i. and_high c.args.value 2 2 i + and_high c.args.value 8 24 i
