-- How many bytes a hart's last load gave behind each of its operations.
use Rattle.std.proofs.Common.{◌≡◌, ℕ, ◌<◌, length, refl, ap, ◌∙◌}
use Rattle.std.proofs.lemmas.List.{get_or-set_same}
use Rattle.std.proofs.lemmas.List.FromFn.{length-map-range_with_len}
use Rattle.nc_hart.specs.HartState.{HartState}
use Rattle.nc_hart.specs.Issue.{issued}
use Rattle.nc_plan.specs.declared.ops.HartOp.TheVariants as hart
use Rattle.nc_rules.specs.Calls.{cache_loaded, has_loaded, issue_next}
use Rattle.nc_rules.specs.Machine.{MachineState, no_hart, hart_of, with_hart, with_cache}
use Rattle.nc_rules.specs.View.{bytes_seen, seen}
use Rattle.nc_scripts.specs.Drivers.{LastLoadsFollow}

-- the hart that was put there
put : (m : MachineState) (h : ℕ) (s : HartState) → h < length m.harts → length (hart_of (with_hart m h s) h).last ≡ length s.last
put m h s lt = ap (λ (t : HartState). length t.last) (get_or-set_same m.harts h s no_hart lt)

pub last_loads_follow : LastLoadsFollow
unfolding issue_next issued
last_loads_follow m h (hart.Load span kind) lt =
    put (with_cache m (cache_loaded m h span kind)) h (has_loaded (hart_of m h) (bytes_seen m h kind span)) lt ∙ length-map-range_with_len (seen m h kind) span.at span.len
last_loads_follow m h (hart.Store span kind bytes) lt = put m h (issued (hart_of m h) (hart.Store span kind bytes)) lt
last_loads_follow m h (hart.Cbo op block) lt = put m h (issued (hart_of m h) (hart.Cbo op block)) lt
last_loads_follow m h (hart.Fence pred succ) lt = put m h (issued (hart_of m h) (hart.Fence pred succ)) lt
last_loads_follow m h (hart.IoLoad chan off width) lt = refl
last_loads_follow m h (hart.IoStore to) lt = put m h (issued (hart_of m h) (hart.IoStore to)) lt
last_loads_follow m h (hart.Mark pred succ) lt = put m h (issued (hart_of m h) (hart.Mark pred succ)) lt
