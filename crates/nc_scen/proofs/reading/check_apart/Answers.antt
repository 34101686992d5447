use Rattle.std.proofs.Common.{◌≡◌, None, rules}
use Rattle.nc_scen.specs.Fits.{land_slots, land_pool}
use Rattle.nc_scen.specs.Regions.{first_overlap, regions}
use Rattle.nc_scen.proofs.Apart.{buffers_apart, off_slots, off_pool, slots_off_pool}
use Rattle.nc_scen.proofs.reading.check_apart.Goals as goal

pub returns-in-None-clause-apart : goal.returns-in-None-clause-apart
returns-in-None-clause-apart c =
    let l = c.args.land.now in
    let none : first_overlap 0 (regions l.buffers (land_slots l) (land_pool l)) ≡ None = search rules in
    record {
      buffers = buffers_apart l.buffers (land_slots l) (land_pool l) none;
      off_slots = off_slots l.buffers (land_slots l) (land_pool l) none;
      off_pool = off_pool l.buffers (land_slots l) (land_pool l) none;
      slots_off_pool = slots_off_pool l.buffers (land_slots l) (land_pool l) none;
    }
