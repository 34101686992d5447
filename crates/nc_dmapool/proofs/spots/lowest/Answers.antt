use Rattle.nc_dmapool.proofs.Lowest.{page_is, best_more}
use Rattle.nc_dmapool.proofs.spots.lowest.Goals as goal

pub loop-i-preserved : goal.loop-i-preserved
loop-i-preserved c =
    best_more _ _ c.args.pages.now c.loop-i.i c.index-pages-i.result c.loop-i-test.true (page_is c.args.pages.now c.loop-i.i c.index-pages-i.result c.loop-i-test.true c.index-pages-i.is) _ _ c.loop-i.invariant c.lower-best.ensures
