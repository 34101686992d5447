-- From the parts that fit to a scenario that is accepted.
use Rattle.std.proofs.Common.{◌≡◌, ◌<◌, ◌≤◌, ◌+◌, ◌*◌, ◌/◌, ◌%◌, ◌⊎◌, ℕ, List, length, inl, inr, arith, rules, tests}
use Rattle.std.specs.Prelude.{All, ◌==◌, if◌then◌else◌}
use Rattle.nc_num.specs.Sizes.{IsBlockSize}
use Rattle.nc_scen.specs.declared.format.Format.{Format}
use Rattle.nc_scen.specs.declared.reading.Land.{Land}
use Rattle.nc_scen.specs.declared.reading.Terms.{Terms}
use Rattle.nc_scen.specs.declared.scenario.HartSpec.{HartSpec}
use Rattle.nc_scen.specs.declared.scenario.Plan.{Plan}
use Rattle.nc_scen.specs.declared.scenario.Scenario.{Scenario}
use Rattle.nc_scen.specs.Accepted.{FitsHart, FitsPlan, IsAccepted}
use Rattle.nc_scen.specs.Fits.{IsFormat, FitsLand, HasRegionsApart}

by_size : (s ram : ℕ) → (s ≡ 32) ⊎ (s ≡ 64) ⊎ (s ≡ 128) → ram % 4096 ≡ 0 → s * (ram / s) ≡ ram
by_size s ram (inl e) h = rw e (omega (arith, h))
by_size s ram (inr (inl e)) h = rw e (omega (arith, h))
by_size s ram (inr (inr e)) h = rw e (omega (arith, h))

pub whole_blocks : (s ram : ℕ) → IsBlockSize s → ram % 4096 ≡ 0 → s * (ram / s) ≡ ram
whole_blocks s ram sized h = by_size s ram sized.one_of h

-- what an accepted scenario is made of
abbrev pub made : Format → ℕ → Land → Terms → List HartSpec → Plan → Scenario
made f ram l t harts plan = record {
  version = f.version;
  block_size = f.block_size;
  zero_size = f.zero_size;
  light = f.light;
  ram = ram;
  harts = harts;
  ptes = l.ptes;
  buffers = l.buffers;
  slots_at = l.slots.at;
  slots = l.slots.count;
  pool_at = l.pool.at;
  pages = l.pool.count;
  reach = l.reach;
  plan = plan;
  finish = t.finish;
  limit = t.limit;
}

end_some : (at n unit : ℕ) → 0 < n → (if n == 0 then 0 else at + unit * n) ≡ at + unit * n
end_some at n unit h = search (rules, tests)

pub accepted : (f : Format) (ram : ℕ) (l : Land) (t : Terms) (harts : List HartSpec) (plan : Plan)
    → IsFormat f → ram % 4096 ≡ 0 → 4096 ≤ ram → ram ≤ 1048576 → FitsLand ram (length harts) l → HasRegionsApart l
    → 1 ≤ length harts → length harts ≤ 4 → All (FitsHart (length harts) (length l.buffers)) harts
    → FitsPlan (length harts) f.block_size ram plan → t.limit ≤ 400000 → IsAccepted (made f ram l t harts plan)
accepted f ram l t harts plan format whole some small land apart least most fit planned limit = record {
  version = format.version;
  old = λ e. record { block = (format.old e).block; zero = (format.old e).zero; full = (format.old e).full };
  sized = format.sized;
  zero_sized = format.zero_sized;
  zero_wide = format.zero_wide;
  zero_whole = format.zero_whole;
  ram_whole = whole;
  ram_some = some;
  ram_small = small;
  harts_some = least;
  harts_few = most;
  harts = fit;
  ptes_few = land.ptes_few;
  ptes = land.ptes;
  buffers_few = land.buffers_few;
  buffers = land.buffers;
  slots_whole = land.slots.whole;
  slots_few = land.slots.few;
  slots_end = land.slots.ends;
  pool_whole = land.pool.whole;
  pages_few = land.pool.few;
  pool_end = land.pool.ends;
  channels = land.channels;
  reach = λ k d lt. (land.reach k d lt).within;
  reaches_slots = λ h k d lt. omega (arith, (land.reach k d lt).far, end_some l.slots.at l.slots.count 2048 h);
  reaches_pool = λ h k d lt. omega (arith, (land.reach k d lt).far, end_some l.pool.at l.pool.count 4096 h);
  buffers_apart = apart.buffers;
  buffers_off_slots = apart.off_slots;
  buffers_off_pool = apart.off_pool;
  slots_off_pool = apart.slots_off_pool;
  plan = planned;
  limit = limit;
}
