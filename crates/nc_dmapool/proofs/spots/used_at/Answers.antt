use Rattle.std.proofs.Common.{◌≡◌, ◌-◌, false, ap, sym, ◌∙◌, subst, get_or}
use Rattle.nc_dmapool.specs.Marks.{Marks, FindsUsed, page_at}
use Rattle.nc_dmapool.proofs.Lowest.{page_is}
use Rattle.nc_dmapool.proofs.SameSpot.{used_nowhere, used_no_number, used_here, used_not_here}
use Rattle.nc_dmapool.proofs.spots.used_at.Goals as goal

pub returns-in_err-i : goal.returns-in_err-i
returns-in_err-i c =
    subst (FindsUsed c.args.layout.now c.args.pages.now c.args.at) (sym c.from_residual.ensures)
    (used_nowhere c.args.layout.now c.args.pages.now c.args.at c.requires c.in_err-i.ensures)

pub returns-in_err-number : goal.returns-in_err-number
returns-in_err-number c =
    let page = page_is c.args.pages.now c.in_ok-i.i c.index-pages-i.result c.in_ok-i.ensures.0 c.index-pages-i.is in
    let at : c.at.result ≡ (page_at c.args.pages.now c.in_ok-i.i).at = c.at.ensures ∙ ap (λ (p : Marks). p.at) (sym page) in
    subst (FindsUsed c.args.layout.now c.args.pages.now c.args.at) (sym c.from_residual-in_err-number.ensures)
    (used_no_number c.args.layout.now c.args.pages.now c.in_ok-i.i c.args.at c.requires c.in_ok-i.ensures.0 c.in_ok-i.ensures.1
    (λ n lt e. c.in_err-number.ensures n lt (e ∙ ap (λ k. c.args.at - k) (sym at))))

pub returns-then-is_used : goal.returns-then-is_used
returns-then-is_used c =
    let page = page_is c.args.pages.now c.in_ok-i.i c.index-pages-i.result c.in_ok-i.ensures.0 c.index-pages-i.is in
    let at : c.at.result ≡ (page_at c.args.pages.now c.in_ok-i.i).at = c.at.ensures ∙ ap (λ (p : Marks). p.at) (sym page) in
    used_here c.args.layout.now c.args.pages.now c.in_ok-i.i c.in_ok-number.number c.args.at c.in_ok-i.ensures.0 c.in_ok-i.ensures.1
    (c.in_ok-number.ensures ∙ ap (λ k. c.args.at - k) at)
    (ap (λ (p : Marks). get_or p.marks c.in_ok-number.number false) page ∙ sym c.is_used.ensures ∙ c.if-is_used.true)

pub returns-else-is_used : goal.returns-else-is_used
returns-else-is_used c =
    let page = page_is c.args.pages.now c.in_ok-i.i c.index-pages-i.result c.in_ok-i.ensures.0 c.index-pages-i.is in
    let at : c.at.result ≡ (page_at c.args.pages.now c.in_ok-i.i).at = c.at.ensures ∙ ap (λ (p : Marks). p.at) (sym page) in
    used_not_here c.args.layout.now c.args.pages.now c.in_ok-i.i c.in_ok-number.number c.args.at c.requires c.in_ok-i.ensures.0 c.in_ok-i.ensures.1
    (c.in_ok-number.ensures ∙ ap (λ k. c.args.at - k) at)
    (ap (λ (p : Marks). get_or p.marks c.in_ok-number.number false) page ∙ sym c.is_used.ensures ∙ c.if-is_used.false)
