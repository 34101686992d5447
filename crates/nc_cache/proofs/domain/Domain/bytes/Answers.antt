use Rattle.std.proofs.Common.{◌/◌, ◌%◌, ◌+◌, ◌≤◌, length, arith, sym, ap, ◌∙◌, subst, ℕ}
use Rattle.std.specs.FinMap as map
use Rattle.nc_num.specs.Memory.{span}
use Rattle.nc_num.proofs.MemoryLaws.{length-span}
use Rattle.nc_cache.specs.Directory.{HasBytes}
use Rattle.nc_cache.proofs.Writes.{bytes-memory, bytes-line}
use Rattle.nc_cache.proofs.domain.Domain.bytes.Goals as goal

pub returns-in-None-clause-value : goal.returns-in-None-clause-value
returns-in-None-clause-value c =
    let none = ap (λ k. map.get c.args.self.now.lines (c.args.span.at / k)) (sym c.size-size.ensures.size) ∙ c.in-None.ensures.none in
    c.read.ensures.value
    ∙ bytes-memory c.args.self.now.size (record { ram = c.args.ram.now; lines = c.args.self.now.lines }) c.args.span.at c.args.span.len c.size-size.ensures.domain.block_size c.requires.one_block c.requires.within none

pub returns-in-Some-clause-value : goal.returns-in-Some-clause-value
returns-in-Some-clause-value c =
    let size = c.size-size.ensures.size in
    let has = subst (λ (k : ℕ). HasBytes (map.get c.args.self.now.lines (c.args.span.at / k)) c.in-Some.bytes.now) size c.in-Some.ensures.some in
    c.part_of.ensures
    ∙ (ap (λ k. span c.in-Some.bytes.now (c.args.span.at % k) c.args.span.len) size
    ∙ bytes-line c.args.self.now.size (record { ram = c.args.ram.now; lines = c.args.self.now.lines }) c.args.span.at c.args.span.len (record { bytes = c.in-Some.bytes.now; held = has.0 }) c.size-size.ensures.domain.block_size c.requires.one_block c.in-Some.ensures.whole has.1)

pub returns-in-Some-clause-len : goal.returns-in-Some-clause-len
returns-in-Some-clause-len c =
    let one = c.requires.one_block in
    let size = c.size-size.ensures.size in
    let fits : c.args.span.at % c.size-size.result + c.args.span.len ≤ c.size-size.result = rw size one in
    ap length c.part_of.ensures ∙ length-span c.in-Some.bytes.now (c.args.span.at % c.size-size.result) c.args.span.len (omega (arith, c.in-Some.ensures.whole, fits, size))
