use Rattle.std.proofs.Common.{ap, sym, ◌∙◌, Ok, List}
use Rattle.nc_dmapool.specs.Marks.{Marks, shown}
use Rattle.nc_dmapool.specs.Pieces.{pool_of}
use Rattle.nc_dmapool.proofs.Shown.{shown_none}
use Rattle.nc_dmapool.proofs.pool.DmaPool.new.Goals as goal

pub returns : goal.returns
returns c =
    ap (λ (ps : List Marks). Ok (shown c.in_ok-layout.layout ps)) c.new-2.ensures.items
    ∙ ap Ok (shown_none c.in_ok-layout.layout)
    ∙ ap pool_of (sym c.in_ok-layout.was ∙ c.new.ensures)
