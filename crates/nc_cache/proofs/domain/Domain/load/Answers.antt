use Rattle.std.proofs.Common.{◌≡◌, length}
use Rattle.nc_cache.proofs.Domains.{line_only, line_with}
use Rattle.nc_cache.proofs.domain.Domain.load.Goals as goal

pub put-requires-clause-whole : goal.put-requires-clause-whole
put-requires-clause-whole c =
    let len : length c.read-bytes.result ≡ c.args.self.now.size = (cc) in
    rw c.only.ensures (line_only _ _ c.args.h.0 _ len c.line.ensures.domain.few c.requires.hart)

pub put-requires-in-Some-clause-whole : goal.put-requires-in-Some-clause-whole
put-requires-in-Some-clause-whole c =
    rw c.holders-by.ensures (line_with _ _ c.args.h.0 _ c.in-Some.line.held c.in-Some.ensures.whole.bytes c.line.ensures.domain.few c.requires.hart c.in-Some.ensures.whole.held)
