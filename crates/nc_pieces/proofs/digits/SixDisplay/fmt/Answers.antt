use Rattle.std.proofs.Common.{rules}
use Rattle.std.proofs.Output.{has_written_of_eq}
use Rattle.nc_pieces.proofs.Padding.{padded_hex}
use Rattle.nc_pieces.proofs.digits.SixDisplay.fmt.Goals as goal

pub returns-clause-writes : goal.returns-clause-writes
returns-clause-writes g c = λ plain ok. has_written_of_eq _ _ _ _ _ (padded_hex 6 c.args.self.now.0) (search rules)
