use Rattle.std.proofs.Common.{◌≡◌, ap, sym, ◌∙◌, true, false, refl, subst, List, None}
use Rattle.std.specs.FinSet as fin
use Rattle.nc_dmapool.specs.Pieces.{Pieces, without_piece}
use Rattle.nc_dmapool.specs.Marks.{Marks, IsSpot, FindsUsed, shown, mark_at}
use Rattle.nc_dmapool.proofs.Shown.{kept_mark, shown_less}
use Rattle.nc_dmapool.proofs.Found.{found_used, found_none}
use Rattle.nc_dmapool.proofs.pool.DmaPool.free.Goals as goal

pub invariant_of-self : goal.invariant_of-self
invariant_of-self c =
    let spot = subst (λ (ps : List Marks). IsSpot c.self.inside.layout ps c.in-Some.spot.page c.in-Some.spot.number c.args.at.0) c.deref.ensures.value c.in-Some.ensures.0 in
    rw c.mark.ensures (kept_mark c.self.inside.layout c.self.inside.pages.items c.in-Some.spot.page c.in-Some.spot.number false spot.page c.self.invariant)

pub returns-in-Some-clause-freed : goal.returns-in-Some-clause-freed
returns-in-Some-clause-freed c =
    let spot = subst (λ (ps : List Marks). IsSpot c.self.inside.layout ps c.in-Some.spot.page c.in-Some.spot.number c.args.at.0) c.deref.ensures.value c.in-Some.ensures.0 in
    let used = subst (λ (ps : List Marks). mark_at ps c.in-Some.spot.page c.in-Some.spot.number ≡ true) c.deref.ensures.value c.in-Some.ensures.1 in (
      ap (λ (p : Pieces). fin.contains p.used c.args.at.0) (sym c.self.view_is) ∙ found_used c.self.inside.layout c.self.inside.pages.items c.args.at.0 c.in-Some.spot spot used,
      ap (shown c.self.inside.layout) c.mark.ensures
          ∙ shown_less c.self.inside.layout c.self.inside.pages.items c.in-Some.spot.page c.in-Some.spot.number c.args.at.0 c.self.invariant spot
          ∙ ap (λ (p : Pieces). without_piece p c.args.at.0) c.self.view_is,
    )

pub returns-in-None-clause-not_piece : goal.returns-in-None-clause-not_piece
returns-in-None-clause-not_piece c =
    let none : FindsUsed c.self.inside.layout c.self.inside.pages.items c.args.at.0 None = subst (λ (ps : List Marks). FindsUsed c.self.inside.layout ps c.args.at.0 None) c.deref.ensures.value c.in-None.ensures in
    (refl, ap (λ (p : Pieces). fin.contains p.used c.args.at.0) (sym c.self.view_is) ∙ found_none c.self.inside.layout c.self.inside.pages.items c.args.at.0 none, refl)
