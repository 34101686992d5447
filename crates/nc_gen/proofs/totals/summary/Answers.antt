use Rattle.std.proofs.Common.{ap, ◌∙◌, codes, decimal, Vec, Global, ℕ}
use Rattle.nc_gen.proofs.Joined.{joined}
use Rattle.nc_gen.proofs.totals.summary.Goals as goal

pub returns : goal.returns
returns c =
    ap (λ (v : Vec ℕ Global). v.items) c.into_bytes.ensures.value
    ∙ c.in_ok-put_counts.ensures
    ∙ rw (c.in_ok-put_run.ensures, c.new-text.ensures.bytes, c.events.ensures, c.touches.ensures)
    (joined (codes "gen") (decimal c.args.n) (codes "harts") (decimal c.args.harts) (codes "events") (decimal c.args.w.now.state.events)
    (codes "touches") (decimal c.args.w.now.state.touches) (codes "copydone") (decimal c.args.done) (codes "noslot") (decimal c.args.noslot))
