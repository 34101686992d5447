use Rattle.std.proofs.Common.{◌≡◌, ℕ, ◌∙◌, length, IfSome, ap, subst, arith}
use Rattle.nc_model.specs.Grants.{FitsIn}
use Rattle.nc_model.specs.Rights.{served_by}
use Rattle.nc_own.proofs.Alike.{serving_fits_if, serving_covers_if}
use Rattle.nc_own.proofs.Views.{shown_size, shown_grants}
use Rattle.nc_own.proofs.book.Book.serving.Goals as goal

pub returns-clause-fits : goal.returns-clause-fits
returns-clause-fits c =
    let size : c.self.inside.ram ≡ length c.args.self.now.owners = shown_size _ _ _ _ _ c.self.view_is in
    subst (λ (n : ℕ). IfSome c.grant_for_channel.result (FitsIn n)) size
    (serving_fits_if _ _ c.args.c c.args.at _ c.self.invariant.apart.fit (c.grant_for_channel.ensures ∙ ap (λ gs. served_by gs c.args.c c.args.at) c.deref.ensures.value))

pub returns-clause-covers : goal.returns-clause-covers
returns-clause-covers c = serving_covers_if c.self.inside.grants.items c.args.c c.args.at _ (c.grant_for_channel.ensures ∙ ap (λ gs. served_by gs c.args.c c.args.at) c.deref.ensures.value)

pub returns-clause-size : goal.returns-clause-size
returns-clause-size c = omega (arith, shown_size _ _ _ _ _ c.self.view_is, c.self.invariant.size)

pub returns-clause-apart : goal.returns-clause-apart
returns-clause-apart c = shown_grants _ _ _ _ _ c.self.view_is c.self.invariant.apart
