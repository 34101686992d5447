use Rattle.std.proofs.Common.{◌∙◌, ap, sym, refl, subst, length, true, List, map}
use Rattle.nc_dmapool.specs.Pieces.{Pieces, HasTaken, lowest_used, all_back}
use Rattle.nc_dmapool.specs.Marks.{Marks, IsLowest, HasNone, AreTaken}
use Rattle.nc_dmapool.proofs.Found.{used_found, used_none}
use Rattle.nc_dmapool.proofs.Pushed.{taken_pages}
use Rattle.nc_dmapool.proofs.pool.DmaPool.destroy.Goals as goal

pub returns-in-Some-clause-in_use : goal.returns-in-Some-clause-in_use
returns-in-Some-clause-in_use c =
    let low : IsLowest c.self.inside.layout true c.self.inside.pages.items (length c.self.inside.pages.items) c.in-Some.spot =
    subst (λ (ps : List Marks). IsLowest c.self.inside.layout true ps (length ps) c.in-Some.spot) c.deref.ensures.value c.in-Some.ensures in
    (ap lowest_used (sym c.self.view_is) ∙ used_found c.self.inside.layout c.self.inside.pages.items c.in-Some.spot low, refl, refl)

pub give_back-requires : goal.give_back-requires
give_back-requires c =
    subst (AreTaken c.args.pages.now) (sym c.deref-2.ensures.value)
    (taken_pages c.self.inside.layout c.self.inside.pages.items c.args.pages.now (subst (HasTaken c.args.pages.now) (sym c.self.view_is) c.requires) c.self.invariant)

pub returns-clause-back : goal.returns-clause-back
returns-clause-back c =
    let none : HasNone true c.self.inside.pages.items (length c.self.inside.pages.items) =
    subst (λ (ps : List Marks). HasNone true ps (length ps)) c.deref.ensures.value c.in_default.ensures in (
      ap lowest_used (sym c.self.view_is) ∙ used_none c.self.inside.layout c.self.inside.pages.items none,
      c.give_back.ensures ∙ ap (λ (ps : List Marks). all_back c.args.pages.now (map (λ (p : Marks). p.at) ps)) c.deref-2.ensures.value ∙ ap (λ (p : Pieces). all_back c.args.pages.now p.pages) c.self.view_is,
    )
