use Rattle.std.proofs.Common.{arith}
use Rattle.nc_dmapool.proofs.Offsets.{raw_number, raw_is_number}
use Rattle.nc_dmapool.proofs.layout.Layout.number.Goals as goal
use Rattle.nc_dmapool.proofs.layout.Layout.number.Goals.{else-within-self-eq0-via-then-within-self-eq0+else-piece-self, else-within-self-eq0-via-else-within-self-eq0}

pub returns-then-piece-self : goal.returns-then-piece-self
returns-then-piece-self c =
    rw (← c.self.view_is) (raw_number _ c.self.inside.step c.self.inside.count c.args.offset c.self.invariant c.if-within-self-eq0.true c.if-piece-self.true)

pub returns-else-within-self-eq0 : goal.returns-else-within-self-eq0
returns-else-within-self-eq0 c =
    rw (← c.self.view_is)
    (λ n lt same.
    let r = raw_is_number _ c.self.inside.step c.self.inside.count c.args.offset n c.self.invariant same in
    elim c.else-within-self-eq0.branch [
      | else-within-self-eq0-via-then-within-self-eq0+else-piece-self w ↦ omega (arith, r.1)
      | else-within-self-eq0-via-else-within-self-eq0 w ↦ omega (arith, r.0, w.if-within-self-eq0)
    ])
