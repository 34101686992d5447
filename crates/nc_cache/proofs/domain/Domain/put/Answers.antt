use Rattle.std.proofs.Common.{refl, sym, subst}
use Rattle.std.specs.Prelude.{Some}
use Rattle.nc_cache.specs.Facts.{IsLine}
use Rattle.nc_cache.specs.State.{DomainState}
use Rattle.nc_cache.proofs.Domains.{domain_with}
use Rattle.nc_cache.proofs.domain.Domain.put.Goals as goal

pub invariant_of-self : goal.invariant_of-self
invariant_of-self c =
    let size = c.self.inside.block_size in
    let harts = c.self.inside.harts in
    let whole : IsLine size harts c.args.line.now = subst (λ (d : DomainState). IsLine d.size d.harts c.args.line.now) (sym c.self.view_is) c.requires.whole in
    domain_with (record { size = size; harts = harts; lines = c.self.inside.directory.lines; spare = c.self.inside.directory.spare })
    (record { size = size; harts = harts; lines = c.put.new.self.lines; spare = c.put.new.self.spare }) c.args.b.0 (Some c.args.line.now) c.self.invariant whole refl refl c.put.ensures.lines
