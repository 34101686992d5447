use Rattle.std.proofs.Common.{arith, ℕ, ◌≡◌, ◌≤◌, ◌+◌, ◌<◌, ◌-◌, ◌++◌, take, length, length-append, ◌∙◌, sym, ap}
use Rattle.std.proofs.KnownBytes.{Consumes-trans}
use Rattle.std.proofs.Math.Nat.{min-le_left, min-le_right}
use Rattle.std.proofs.lemmas.List.{length-take}
use Rattle.nc_top.proofs.input.read_input.Goals as goal

-- what was read goes into the room that is left
few_bytes : (had room got all : ℕ) → had ≤ 8388609 → room ≤ 8388609 - had → got ≤ room → all ≡ had + got → all ≤ 8388609
few_bytes had room got all le fits few is = omega (arith, le, fits, few, is)

pub returns-then-is_err-clause-stops : goal.returns-then-is_err-clause-stops
returns-then-is_err-clause-stops g c =
    let left = g.S.Source.left in
    let had = c.reading.bytes.items in
    let got = take c.in-Ok.count c.read.new.buf in
    let room : c.min-room.result ≤ 8388609 - length had =
    omega (arith, c.min-room.ensures, c.len-in-reading.ensures, min-le_right 4096 (8388609 - c.len-in-reading.result)) in
    let fits : length got ≤ c.min-room.result =
    omega (arith, c.in-Ok.ensures.bound.0, c.in-Ok.ensures.bound.1, c.read.auto.buf, length-take c.min-room.result c.reading.buf, min-le_left c.min-room.result (length c.reading.buf)) in
    record {
      bytes = had ++ got;
      taken = Consumes-trans (left c.args.src.now) (left c.reading.src) (left c.read.new.self) had got c.reading.invariant.0 c.in-Ok.ensures.bytes.0;
      few = few_bytes (length had) c.min-room.result (length got) (length (had ++ got)) c.reading.invariant.2 room fits (length-append had got);
    }

pub returns-clause-stops : goal.returns-clause-stops
returns-clause-stops g c = record { bytes = c.reading.bytes.items; taken = c.reading.invariant.0; few = omega (arith, c.reading.invariant.2) }
