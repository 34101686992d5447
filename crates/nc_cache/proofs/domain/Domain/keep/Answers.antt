use Rattle.std.proofs.Common.{◌≡◌, refl, sym, subst}
use Rattle.std.specs.Prelude.{Some, None, is_some, true}
use Rattle.std.specs.FinMap as map
use Rattle.nc_cache.specs.Facts.{IsLine, IsLineOf}
use Rattle.nc_cache.specs.State.{DomainState, Stays}
use Rattle.nc_cache.proofs.Domains.{domain_with, stays_there}
use Rattle.nc_cache.proofs.domain.Domain.keep.Goals as goal

pub invariant_of-self : goal.invariant_of-self
invariant_of-self c =
    let size = c.self.inside.block_size in
    let harts = c.self.inside.harts in
    domain_with (record { size = size; harts = harts; lines = c.self.inside.directory.lines; spare = c.self.inside.directory.spare })
    (record { size = size; harts = harts; lines = c.remove.new.self.lines; spare = c.remove.new.self.spare }) c.args.b.0 None c.self.invariant tt refl refl c.remove.ensures.lines

pub change-requires-clause-there : goal.change-requires-clause-there
change-requires-clause-there c =
    let is = c.in-Some.is in
    let whole : IsLineOf c.args.self.now.size c.args.self.now.harts (Some c.in-Some.line) = subst (λ o. IsLineOf c.args.self.now.size c.args.self.now.harts o) is c.requires.whole in
    let stays : Stays (map.get c.args.self.now.lines c.args.b.0) (Some c.in-Some.line) = subst (λ o. Stays (map.get c.args.self.now.lines c.args.b.0) o) is c.requires.stays in
    subst (λ (d : DomainState). is_some (map.get d.lines c.args.b.0) ≡ true) (sym c.self.view_is) (stays_there c.args.self.now.size c.args.self.now.harts (map.get c.args.self.now.lines c.args.b.0) c.in-Some.line stays whole)

pub invariant_of-self-in-Some : goal.invariant_of-self-in-Some
invariant_of-self-in-Some c =
    let size = c.self.inside.block_size in
    let harts = c.self.inside.harts in
    let whole : IsLine size harts c.in-Some.line = subst (λ (d : DomainState). IsLine d.size d.harts c.in-Some.line) (sym c.self.view_is) (subst (λ o. IsLineOf c.args.self.now.size c.args.self.now.harts o) c.in-Some.is c.requires.whole) in
    domain_with (record { size = size; harts = harts; lines = c.self.inside.directory.lines; spare = c.self.inside.directory.spare })
    (record { size = size; harts = harts; lines = c.change.new.self.lines; spare = c.change.new.self.spare }) c.args.b.0 (Some c.in-Some.line) c.self.invariant whole refl refl c.change.ensures.lines
