use Rattle.std.proofs.Common.{◌≡◌, ◌+◌, ◌-◌, ◌∙◌, Some, ap, arith, slice_get, sym}
use Rattle.nc_num.specs.Places.{piece_len, pieces}
use Rattle.nc_num.specs.declared.places.Span.{Span}
use Rattle.nc_steps.proofs.PieceLaws.{first_piece_is, no_piece, passed}
use Rattle.nc_steps.proofs.pieces.nth_piece.Goals as goal

pub returns-then-before-eq0 : goal.returns-then-before-eq0
returns-then-before-eq0 c =
    ap Some c.first_piece-piece.ensures
    ∙ sym (first_piece_is c.loop-left.left (omega arith))
    ∙ ap (λ n. slice_get (pieces c.loop-left.left) n) (sym c.if-before-eq0.true)
    ∙ c.loop-left.invariant.same

pub loop-left-preserved : goal.loop-left-preserved
loop-left-preserved c =
    let size : c.first_piece-piece.result.len ≡ piece_len c.loop-left.left = ap (λ (p : Span). p.len) c.first_piece-piece.ensures in
    let k = c.alike-passed.ensures in
    let n : c.alike-passed.result + (c.loop-left.before - c.alike-passed.result) ≡ c.loop-left.before = omega arith in
    record {
      ends = omega (arith, k.within);
      same =
          sym (passed c.alike-passed.result (c.loop-left.before - c.alike-passed.result) c.first_piece-piece.result.len c.loop-left.left (omega arith) k.some size k.alike k.within)
          ∙ ap (λ n. slice_get (pieces c.loop-left.left) n) n
          ∙ c.loop-left.invariant.same;
    }

pub returns : goal.returns
returns c = sym (no_piece c.loop-left.left c.loop-left.before (omega arith)) ∙ c.loop-left.invariant.same
