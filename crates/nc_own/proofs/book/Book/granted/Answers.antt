use Rattle.std.proofs.Common.{◌≡◌, ℕ, ◌∙◌, length, IfSome, ap, subst, arith}
use Rattle.nc_model.specs.Grants.{FitsIn}
use Rattle.std.specs.List.{find}
use Rattle.nc_model.specs.Rights.{has_device}
use Rattle.nc_own.proofs.Alike.{device_fits_if, device_covers_if}
use Rattle.nc_own.proofs.Views.{shown_size}
use Rattle.nc_own.proofs.book.Book.granted.Goals as goal

pub returns-clause-fits : goal.returns-clause-fits
returns-clause-fits c =
    let size : c.self.inside.ram ≡ length c.args.self.now.owners = shown_size _ _ _ _ _ c.self.view_is in
    subst (λ (n : ℕ). IfSome c.grant_over.result (FitsIn n)) size
    (device_fits_if _ _ c.args.at _ c.self.invariant.apart.fit (c.grant_over.ensures ∙ ap (find (has_device c.args.at)) c.deref.ensures.value))

pub returns-clause-covers : goal.returns-clause-covers
returns-clause-covers c = device_covers_if c.self.inside.grants.items c.args.at _ (c.grant_over.ensures ∙ ap (find (has_device c.args.at)) c.deref.ensures.value)

pub returns-clause-size : goal.returns-clause-size
returns-clause-size c = omega (arith, shown_size _ _ _ _ _ c.self.view_is, c.self.invariant.size)
