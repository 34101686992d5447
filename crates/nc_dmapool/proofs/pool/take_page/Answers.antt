use Rattle.std.proofs.Common.{◌≡◌, sym, true, subst, replicate}
use Rattle.nc_num.specs.declared.places.Span.{Span}
use Rattle.nc_coherent.specs.Pages.{IsPages, pages_of, page_count}
use Rattle.nc_dmapool.proofs.Taking.{found, are_pages, pages_are}
use Rattle.nc_dmapool.proofs.pool.take_page.Goals as goal

pub take-requires-clause-pages : goal.take-requires-clause-pages
take-requires-clause-pages c =
    let f = found c.args.pages.now c.in-Some.span (sym c.in-Some.ensures.lowest) in
    subst (λ (s : Span). IsPages c.args.pages.now s) (sym f.1) (are_pages c.args.pages.now true c.in-Some.span.at f.0)

pub take-requires-clause-free : goal.take-requires-clause-free
take-requires-clause-free c =
    let f = found c.args.pages.now c.in-Some.span (sym c.in-Some.ensures.lowest) in
    subst (λ (s : Span). pages_of c.args.pages.now s ≡ replicate (page_count s) true) (sym f.1) (pages_are c.args.pages.now true c.in-Some.span.at f.0)
