use Rattle.std.proofs.Common.{◌≡◌, ℕ, ◌<◌, ◌≤◌, length, map, drop}
use Rattle.nc_dmapool.specs.Pieces.{IsTaken, all_back}
use Rattle.nc_dmapool.specs.Marks.{Marks, page_at}
use Rattle.nc_dmapool.proofs.pool.give_back.Given as goal

abbrev pub invariant-loop-page : goal.invariant-loop-page
invariant-loop-page l = record {
  taken : (j : ℕ) → l.page-index ≤ j → j < length l.own → IsTaken l.pages (page_at l.own j).at;
  rest : all_back l.pages (drop l.page-index (map (λ (p : Marks). p.at) l.own)) ≡ all_back l.initial.pages (map (λ (p : Marks). p.at) l.own);
}
