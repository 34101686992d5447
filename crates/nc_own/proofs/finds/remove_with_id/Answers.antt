use Rattle.std.proofs.Common.{rules}
use Rattle.std.proofs.lemmas.Fn.{filter_same}
use Rattle.nc_own.proofs.finds.remove_with_id.Goals as goal

pub returns-clause-grants : goal.returns-clause-grants
returns-clause-grants c = filter_same _ _ _ (λ x b f' k. search rules) _ _ c.retain.ensures.filtered
