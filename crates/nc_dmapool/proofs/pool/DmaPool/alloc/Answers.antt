use Rattle.std.proofs.Common.{◌≡◌, ◌∙◌, ap, sym, subst, length, true, false, List, Some, map}
use Rattle.std.specs.FinSet as fin
use Rattle.nc_coherent.specs.Pages.{PageMap, with_pages}
use Rattle.nc_dmapool.specs.Pieces.{Pieces, Given, HasTaken, given, page_span, with_piece, with_page}
use Rattle.nc_dmapool.specs.Marks.{Marks, ArePages, IsLowest, HasNone, shown, fresh_page}
use Rattle.nc_dmapool.proofs.Powers.{cuts}
use Rattle.nc_dmapool.proofs.Shown.{shown_more, ats_mark}
use Rattle.nc_dmapool.proofs.Found.{free_found, free_none, free_spot}
use Rattle.nc_dmapool.proofs.Taking.{found}
use Rattle.nc_dmapool.proofs.Pushed.{page_unused, given_free, given_more, kept_push, fresh_is_page, push_apart, taken_pages, taken_push, taken_same, shown_push, no_page_given, given_no_page}
use Rattle.std.proofs.lemmas.Result.{err_from_is_err_and}
use Rattle.nc_dmapool.proofs.pool.DmaPool.alloc.Goals as goal

pub returns-in-Some-clause-given : goal.returns-in-Some-clause-given
returns-in-Some-clause-given c =
    let l = c.self.inside.layout in
    let ps = c.self.inside.pages.items in
    let low : IsLowest l false ps (length ps) c.in-Some.spot = subst (λ (ps : List Marks). IsLowest l false ps (length ps) c.in-Some.spot) c.deref.ensures.value c.in-Some.ensures in
    let seen : shown l c.mark.new.pages.items ≡ with_piece (shown l ps) c.in-Some.spot.at = ap (shown l) c.mark.ensures ∙ shown_more l ps c.in-Some.spot.page c.in-Some.spot.number c.in-Some.spot.at low.spot in (
      ap (λ (p : Pieces). given p c.args.pages.now) (sym c.self.view_is)
          ∙ given_free (shown l ps) c.args.pages.now c.in-Some.spot.at (free_found l ps c.in-Some.spot c.self.invariant low)
          ∙ ap (λ (p : Pieces). let g : Given = record { at = c.in-Some.spot.at; pool = p; pages = c.args.pages.now } in Some g) (sym seen),
      c.size-len.ensures ∙ ap (λ (p : Pieces). p.layout.size) c.self.view_is,
    )

pub returns-in-Some-clause-taken : goal.returns-in-Some-clause-taken
returns-in-Some-clause-taken c =
    let l = c.self.inside.layout in
    let ps = c.self.inside.pages.items in
    let has : HasTaken c.args.pages.now (shown l ps) = subst (HasTaken c.args.pages.now) (sym c.self.view_is) c.requires in
    let same : map (λ (p : Marks). p.at) c.mark.new.pages.items ≡ map (λ (p : Marks). p.at) ps = ap (map (λ (p : Marks). p.at)) c.mark.ensures ∙ ats_mark ps c.in-Some.spot.page c.in-Some.spot.number true in
    taken_same c.args.pages.now (shown l ps) (shown l c.mark.new.pages.items) same has

pub returns-in_err-at-clause-no_page : goal.returns-in_err-at-clause-no_page
returns-in_err-at-clause-no_page c =
    let l = c.self.inside.layout in
    let ps = c.self.inside.pages.items in
    let none : HasNone false ps (length ps) = subst (λ (ps : List Marks). HasNone false ps (length ps)) c.deref.ensures.value c.in_default.ensures in
    let free = free_none l ps c.self.invariant none in
    let p = err_from_is_err_and c.from_residual.result c.from_residual.ensures.1 in
    rw (p.1, p.2) (rw (← c.self.view_is) (
      λ e. given_no_page (shown l ps) c.args.pages.now free (c.in_err-at.ensures.no_page.0 e),
      λ e. c.in_err-at.ensures.no_page.1 (no_page_given (shown l ps) c.args.pages.now free e),
    ))

pub invariant_of-self-2 : goal.invariant_of-self-2
invariant_of-self-2 c =
    let l = c.self.inside.layout in
    let ps = c.self.inside.pages.items in
    let has : HasTaken c.args.pages.now (shown l ps) = subst (HasTaken c.args.pages.now) (sym c.self.view_is) c.requires in
    let are = taken_pages l ps c.args.pages.now has c.self.invariant in
    let page = (found c.args.pages.now (page_span c.in_ok-at.at) c.in_ok-at.ensures.taken.0).0 in
    subst (ArePages l) (sym c.in_ok-at.ensures.taken.1)
    (kept_push l ps (fresh_page l c.in_ok-at.at) c.self.invariant (fresh_is_page l c.in_ok-at.at c.in_ok-at.ensures.whole c.in_ok-at.ensures.ends) (push_apart ps c.args.pages.now c.in_ok-at.at are page))

pub returns-clause-given : goal.returns-clause-given
returns-clause-given c =
    let l = c.self.inside.layout in
    let ps = c.self.inside.pages.items in
    let none : HasNone false ps (length ps) = subst (λ (ps : List Marks). HasNone false ps (length ps)) c.deref.ensures.value c.in_default.ensures in
    let seen : shown l c.take_page.new.own.items ≡ with_piece (with_page (shown l ps) c.in_ok-at.at) c.in_ok-at.at = ap (shown l) c.in_ok-at.ensures.taken.1 ∙ shown_push l ps c.in_ok-at.at (cuts l c.self.invariant.layout) in (
      ap (λ (p : Pieces). given p c.args.pages.now) (sym c.self.view_is)
          ∙ given_more (shown l ps) c.args.pages.now c.in_ok-at.at (free_none l ps c.self.invariant none) c.in_ok-at.ensures.taken.0
          ∙ (λ k. let g : Given = record { at = c.in_ok-at.at; pool = sym seen k; pages = sym c.in_ok-at.ensures.taken.2 k } in Some g),
      c.size-len.ensures ∙ ap (λ (p : Pieces). p.layout.size) c.self.view_is,
    )

pub returns-clause-taken : goal.returns-clause-taken
returns-clause-taken c =
    let l = c.self.inside.layout in
    let ps = c.self.inside.pages.items in
    let has : HasTaken c.args.pages.now (shown l ps) = subst (HasTaken c.args.pages.now) (sym c.self.view_is) c.requires in
    let page = (found c.args.pages.now (page_span c.in_ok-at.at) c.in_ok-at.ensures.taken.0).0 in
    subst (λ (m : PageMap). HasTaken m (shown l c.take_page.new.own.items)) (sym c.in_ok-at.ensures.taken.2)
    (subst (λ (qs : List Marks). HasTaken (with_pages c.args.pages.now (page_span c.in_ok-at.at) false) (shown l qs)) (sym c.in_ok-at.ensures.taken.1)
    (taken_push l ps c.args.pages.now c.in_ok-at.at (taken_pages l ps c.args.pages.now has c.self.invariant) page))

pub returns-in-Some-clause-fresh : goal.returns-in-Some-clause-fresh
returns-in-Some-clause-fresh c =
    let l = c.self.inside.layout in
    let ps = c.self.inside.pages.items in
    let low : IsLowest l false ps (length ps) c.in-Some.spot = subst (λ (ps : List Marks). IsLowest l false ps (length ps) c.in-Some.spot) c.deref.ensures.value c.in-Some.ensures in
    ap (λ (p : Pieces). fin.contains p.used c.in-Some.spot.at) (sym c.self.view_is) ∙ free_spot l ps c.in-Some.spot.page c.in-Some.spot.number c.in-Some.spot.at c.self.invariant low.spot low.is

pub returns-clause-fresh : goal.returns-clause-fresh
returns-clause-fresh c =
    let l = c.self.inside.layout in
    let ps = c.self.inside.pages.items in
    let has : HasTaken c.args.pages.now (shown l ps) = subst (HasTaken c.args.pages.now) (sym c.self.view_is) c.requires in
    let page = (found c.args.pages.now (page_span c.in_ok-at.at) c.in_ok-at.ensures.taken.0).0 in
    ap (λ (p : Pieces). fin.contains p.used c.in_ok-at.at) (sym c.self.view_is) ∙ page_unused l ps c.args.pages.now c.in_ok-at.at c.self.invariant c.in_ok-at.ensures.whole (taken_pages l ps c.args.pages.now has c.self.invariant) page
