use Rattle.std.proofs.Common.{◌∙◌}
use Rattle.std.proofs.lemmas.List.{take-replicate}
use Rattle.nc_cache.proofs.transfers.zeros.Goals as goal

pub returns : goal.returns
returns c = c.of.ensures ∙ take-replicate c.args.size 128 0 c.requires
