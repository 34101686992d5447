use Rattle.std.proofs.Common.{◌≡◌, ◌*◌, ◌/◌, ℕ, length, All, sym, ap, subst, arith}
use Rattle.nc_scen.specs.Accepted.{FitsHart, FitsPlan}
use Rattle.nc_scen.specs.Fits.{FitsLand}
use Rattle.nc_scen.proofs.Accepting.{accepted, whole_blocks}
use Rattle.nc_scen.proofs.reading.read_scenario.Goals as goal

pub returns-clause-accepted : goal.returns-clause-accepted
returns-clause-accepted c =
    let f = c.in_ok-format.format in
    let ram = c.in_ok-ram.ram in
    let l = c.in_ok-land.land in
    let harts = c.in_ok-harts.harts in
    let plan = c.in_ok-plan.plan in
    let format = c.in_ok-format.ensures.fits in
    let same : length c.deref.result.now ≡ length harts = sym c.in_ok-harts.ensures.same in
    let counted : c.len-count.result ≡ length harts = omega (arith, c.len-count.ensures, same, ap length c.deref.ensures.value) in
    let land : FitsLand ram (length harts) l = subst (λ (n : ℕ). FitsLand ram n l) counted c.in_ok-land.ensures.fits in
    let fit : All (FitsHart (length harts) (length l.buffers)) harts = subst (λ (n : ℕ). All (FitsHart n (length l.buffers)) harts) same c.in_ok-harts.ensures.fits in
    let whole : f.block_size * (ram / f.block_size) ≡ ram = whole_blocks f.block_size ram format.sized c.in_ok-ram.ensures.whole in
    let planned : FitsPlan (length harts) f.block_size ram plan = rw (counted, whole) at (c.in_ok-plan.ensures.fits f.block_size) in
    accepted f ram l c.in_ok-terms.terms harts plan format c.in_ok-ram.ensures.whole c.in_ok-ram.ensures.some c.in_ok-ram.ensures.small land c.in_ok-check_apart.ensures.apart
    (omega (arith, counted, c.in_ok-items.ensures.least)) (omega (arith, counted, c.in_ok-items.ensures.most)) fit planned c.in_ok-terms.ensures.most
