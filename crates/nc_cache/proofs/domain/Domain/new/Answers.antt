use Rattle.nc_cache.proofs.Domains.{domain_start}
use Rattle.nc_cache.proofs.domain.Domain.new.Goals as goal

pub invariant_of-result : goal.invariant_of-result
invariant_of-result c =
    domain_start (record { size = c.args.block_size; harts = c.args.harts; lines = c.new.result.lines; spare = c.new.result.spare }) c.requires.size c.requires.some c.requires.few c.new.ensures
