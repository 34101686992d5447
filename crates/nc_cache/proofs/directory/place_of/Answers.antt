use Rattle.std.proofs.Common.{rules}
use Rattle.std.proofs.lemmas.List.Sorted.{answers_always}
use Rattle.nc_cache.proofs.RowPlaces.{searched}
use Rattle.nc_cache.proofs.directory.place_of.Goals as goal

-- the closure gives a row's block
pub returns : goal.returns
returns c =
    let facts = c.binary_search_by_key.ensures in
    let by_key = facts.position (λ row. row.block.0) (answers_always _ _ _ (λ f a r g called. search rules)) in
    searched c.args.rows.now c.args.block.0 c.binary_search_by_key.result c.requires facts.bound by_key
