use Rattle.std.proofs.Common.{rules, ◌≡◌, ◌<◌, ◌-◌, ◌∙◌, suc, drop, length, ap, sym, arith}
use Rattle.nc_rules.specs.Lines.{hex_digits}
use Rattle.nc_report.proofs.HexDigits.{exactly, one_more, digits_are}
use Rattle.nc_report.proofs.put.hexadecimal.Goals as goal

pub loop-at-preserved : goal.loop-at-preserved
loop-at-preserved g c =
    let at = c.loop-at.at in
    let rest = c.loop-at.rest in
    let cells = c.loop-at.cells in
    let inside : at - 1 < length cells = omega (arith, c.loop-at-test.true, c.loop-at.invariant.1) in
    let whole : suc (at - 1) ≡ at = omega (arith, c.loop-at-test.true) in
    let digits = one_more (at - 1) rest c.glyph.result cells inside c.glyph.ensures ∙ ap (λ m. exactly m rest (drop m cells)) whole ∙ c.loop-at.invariant.0 in
    (digits, search rules, search rules)

pub returns : goal.returns
returns g c =
    let none : c.loop-at.at ≡ 0 = omega (arith, c.loop-at-test.false) in
    let digits = sym (ap (λ m. exactly m c.loop-at.rest (drop m c.loop-at.cells)) none) ∙ c.loop-at.invariant.0 in
    let are : c.loop-at.cells ≡ hex_digits g.row.N c.args.n = digits ∙ sym (digits_are g.row.N c.args.n c.requires.some c.requires.few c.requires.fits) in
    rw (sym are) (search rules)
