use Rattle.std.proofs.Common.{◌≡◌, ◌+◌, ◌<◌, ◌≢◌, ap, sym, ◌∙◌, arith, false, true, subst, map, length, drop}
use Rattle.std.proofs.lemmas.List.{drop_more, get_or-map, length-map}
use Rattle.nc_coherent.specs.Pages.{PageMap, with_pages}
use Rattle.nc_dmapool.specs.Pieces.{IsTaken, all_back, page_span}
use Rattle.nc_dmapool.specs.Marks.{Marks, page_at, no_page}
use Rattle.nc_dmapool.proofs.Lowest.{page_is}
use Rattle.nc_dmapool.proofs.Taking.{IsPageOf, page_taken, pages_are, taken_beside}
use Rattle.nc_dmapool.proofs.pool.give_back.Goals as goal

pub give-requires-clause-taken : goal.give-requires-clause-taken
give-requires-clause-taken c =
    let page = page_is c.args.own.now c.loop-page.page-index c.page-item.result c.loop-page-test.true c.page-item.is in
    let at : (page_at c.args.own.now c.loop-page.page-index).at ≡ c.at.result = ap (λ (p : Marks). p.at) page ∙ sym c.at.ensures in
    pages_are c.loop-page.pages false c.at.result (page_taken c.loop-page.pages c.at.result (subst (IsTaken c.loop-page.pages) at (c.loop-page.invariant.taken c.loop-page.page-index (omega arith) c.loop-page-test.true)))

pub loop-page-preserved : goal.loop-page-preserved
loop-page-preserved c =
    let i = c.loop-page.page-index in
    let own = c.args.own.now in
    let m = c.loop-page.pages in
    let x = c.at.result in
    let lt : i < length own = c.loop-page-test.true in
    let page = page_is own i c.page-item.result lt c.page-item.is in
    let at : (page_at own i).at ≡ x = ap (λ (p : Marks). p.at) page ∙ sym c.at.ensures in
    let is : IsPageOf m false x = page_taken m x (subst (IsTaken m) at (c.loop-page.invariant.taken i (omega arith) lt)) in
    let now : c.give.new.self ≡ with_pages m (page_span x) true = c.give.ensures in
    record {
      taken = λ j le there.
          let off : (page_at own j).at ≢ x = λ e. (let same : j ≡ i = c.requires.apart j i there lt (e ∙ sym at) in absurd (omega arith)) in
          subst (λ (n : PageMap). IsTaken n (page_at own j).at) (sym now) (taken_beside m false x (page_at own j).at is (c.loop-page.invariant.taken j (omega arith) there) off);
      rest =
          ap (λ (n : PageMap). all_back n (drop (i + 1) (map (λ (p : Marks). p.at) own))) now
          ∙ ap (λ y. all_back (with_pages m (page_span y) true) (drop (i + 1) (map (λ (p : Marks). p.at) own))) (sym at ∙ sym (get_or-map (λ (p : Marks). p.at) own i no_page 0 lt))
          ∙ ap (all_back m) (sym (drop_more (map (λ (p : Marks). p.at) own) i 0 (omega (arith, length-map own (λ (p : Marks). p.at)))))
          ∙ c.loop-page.invariant.rest;
    }
