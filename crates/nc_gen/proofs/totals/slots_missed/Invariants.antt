use Rattle.std.proofs.Common.{◌≡◌}
use Rattle.std.specs.Prelude.{take}
use Rattle.std.specs.List.{count_by}
use Rattle.nc_gen.specs.Summary.{is_noslot}
use Rattle.nc_gen.proofs.totals.slots_missed.Given as goal

abbrev pub invariant-loop-entry : goal.invariant-loop-entry
invariant-loop-entry l = l.count ≡ count_by is_noslot (take l.entry-index l.records)
