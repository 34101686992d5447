use Rattle.std.proofs.Common.{refl, ◌≡◌, ap, sym, ◌∙◌, Ok, length}
use Rattle.nc_dmapool.specs.Layouts.{layout_of}
use Rattle.nc_dmapool.specs.Pieces.{pool_of}
use Rattle.nc_pieces.specs.Requests.{Request}
use Rattle.nc_pieces.specs.Serving.{Serving, serving_of}
use Rattle.nc_pieces.proofs.Counts.{held_is, labels_many, starts_serving, starts_with_none}
use Rattle.nc_pieces.proofs.serving.Serving.new.Goals as goal

pub invariant_of-result : goal.invariant_of-result
invariant_of-result c =
    let r = c.request.inside in
    let made : pool_of (layout_of r.size r.align r.boundary) ≡ Ok c.in-Ok.pool = sym c.in-Ok.ensures in (
      starts_serving (layout_of r.size r.align r.boundary) c.in-Ok.pool c.in_ok-pages.pages c.in_ok-held.held.items made (ap length (held_is _ _ refl c.in_ok-held.ensures) ∙ labels_many),
      starts_with_none (layout_of r.size r.align r.boundary) c.in-Ok.pool made,
    )

pub returns-clause-empty : goal.returns-clause-empty
returns-clause-empty c =
    let r = c.request.inside in
    sym (starts_with_none (layout_of r.size r.align r.boundary) c.in-Ok.pool (sym c.in-Ok.ensures))

pub returns-clause-gives : goal.returns-clause-gives
returns-clause-gives c =
    let r = c.request.inside in
    ap (λ (r : Request). serving_of r (pool_of (layout_of r.size r.align r.boundary))) (sym c.request.view_is)
    ∙ ap (serving_of (record { at = r.at; pages = r.pages; size = r.size; align = r.align; boundary = r.boundary; ops = r.ops.items })) (sym c.in-Ok.ensures)
    ∙ (λ k. let s : Serving = record { pool = c.in-Ok.pool; pages = sym c.in_ok-pages.ensures k; held = sym (held_is _ _ refl c.in_ok-held.ensures) k } in Ok s)
