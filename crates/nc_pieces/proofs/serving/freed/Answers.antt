use Rattle.std.proofs.Common.{◌-◌, arith, ap, sym, ◌∙◌}
use Rattle.std.specs.FinSet as fin
use Rattle.nc_dmapool.specs.Pieces.{Pieces}
use Rattle.nc_pieces.proofs.Counts.{one_used, freed_counts}
use Rattle.nc_pieces.proofs.serving.freed.Goals as goal

pub overflow_sub-result : goal.overflow_sub-result
overflow_sub-result c = omega (arith, c.requires, one_used c.args.pool.now.used c.args.at c.in-Ok.ensures.freed.0)

pub returns-in-Ok-clause-count : goal.returns-in-Ok-clause-count
returns-in-Ok-clause-count c =
    ap (λ n. n - 1) c.requires ∙ sym (freed_counts c.args.pool.now.used c.args.at c.in-Ok.ensures.freed.0) ∙ ap (λ (p : Pieces). fin.len p.used) (sym c.in-Ok.ensures.freed.1)
