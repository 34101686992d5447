use Rattle.std.proofs.Common.{◌∙◌}
use Rattle.nc_pdma_regs.proofs.Bits.{contains_pow}
use Rattle.nc_pdma_regs.proofs.control.Control.run.Goals as goal

pub returns : goal.returns
returns c = c.contains.ensures tt ∙ contains_pow c.args.self.0 1
