use Rattle.std.proofs.Common.{ℕ, ◌+◌, ◌<◌, ◌≤◌, sym, subst, ◌∙◌, arith}
use Rattle.nc_model.proofs.Faults.{covers-low, covers-high}
use Rattle.nc_model.specs.Rights.{buffer_place}
use Rattle.nc_own.specs.Books.{owner_in, IsAround}
use Rattle.nc_own.proofs.Runs.{reach_granted}
use Rattle.nc_own.proofs.book.Book.channel_reach.Goals as goal

pub returns-then-grant_allows : goal.returns-then-grant_allows
returns-then-grant_allows c =
    let around : IsAround c.args.self.now.owners (buffer_place c.in_ok-g.g c.args.at) c.interval-interval.result =
    subst (λ (x : ℕ). IsAround c.args.self.now.owners x c.interval-interval.result) c.buffer_place-place.ensures c.interval-interval.ensures.around in
    let at_device : c.args.at < c.in_ok-g.g.device.at + c.in_ok-g.g.device.len = covers-high c.in_ok-g.g.device c.args.at c.in_ok-g.ensures.covers in
    let at_owned : buffer_place c.in_ok-g.g c.args.at < c.interval-interval.result.span.at + c.interval-interval.result.span.len = covers-high c.interval-interval.result.span _ around.here in
    let low : c.in_ok-g.g.device.at ≤ c.args.at = covers-low c.in_ok-g.g.device c.args.at c.in_ok-g.ensures.covers in
    reach_granted (owner_in c.args.self.now.owners) _ c.args.self.now.grants c.args.c c.args.access c.args.at _ c.in_ok-g.g c.interval-interval.result.span c.interval-interval.result.owner
    c.in_ok-g.ensures.apart (sym c.in_ok-g.ensures.found) c.in_ok-g.ensures.covers around.here around.owner (sym c.grant_allows.ensures ∙ c.if-grant_allows.true)
    (omega arith) (omega arith) (omega arith)
