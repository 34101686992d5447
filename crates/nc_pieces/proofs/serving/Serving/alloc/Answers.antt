use Rattle.std.proofs.Common.{◌+◌, arith, ap, sym, ◌∙◌, Some}
use Rattle.std.specs.FinSet as fin
use Rattle.std.proofs.lemmas.List.{length-set}
use Rattle.nc_pieces.specs.Serving.{Serving}
use Rattle.nc_pieces.proofs.Counts.{given_counts}
use Rattle.nc_pieces.proofs.serving.Serving.alloc.Goals as goal

pub invariant_of-self : goal.invariant_of-self
invariant_of-self c =
    let count = given_counts c.self.inside.pool c.self.inside.pages _ c.in-Ok.ensures.given.0 c.in-Ok.ensures.fresh in
    (record { pages = c.in-Ok.ensures.taken; labels = length-set c.self.inside.held.items c.args.label (Some c.in-Ok.piece.at) ∙ c.self.invariant.0.labels }, ap (λ n. n + 1) c.self.invariant.1 ∙ sym count)

pub returns-in_err-write-in-Ok-clause-more : goal.returns-in_err-write-in-Ok-clause-more
returns-in_err-write-in-Ok-clause-more c =
    let count = given_counts c.self.inside.pool c.self.inside.pages _ c.in-Ok.ensures.given.0 c.in-Ok.ensures.fresh in
    omega (arith, count, ap (λ (s : Serving). fin.len s.pool.used) c.self.view_is)

pub invariant_of-self-in-Ok : goal.invariant_of-self-in-Ok
invariant_of-self-in-Ok c =
    let count = given_counts c.self.inside.pool c.self.inside.pages _ c.in-Ok.ensures.given.0 c.in-Ok.ensures.fresh in
    (record { pages = c.in-Ok.ensures.taken; labels = length-set c.self.inside.held.items c.args.label (Some c.in-Ok.piece.at) ∙ c.self.invariant.0.labels }, ap (λ n. n + 1) c.self.invariant.1 ∙ sym count)

pub returns-in_ok-write-in-Ok-clause-more : goal.returns-in_ok-write-in-Ok-clause-more
returns-in_ok-write-in-Ok-clause-more c =
    let count = given_counts c.self.inside.pool c.self.inside.pages _ c.in-Ok.ensures.given.0 c.in-Ok.ensures.fresh in
    omega (arith, count, ap (λ (s : Serving). fin.len s.pool.used) c.self.view_is)
