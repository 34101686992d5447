use Rattle.std.proofs.Common.{◌≡◌, ◌≤◌, ◌+◌, ◌++◌, drop}
use Rattle.nc_rules.specs.Records.{owner_records}
use Rattle.nc_log.proofs.log.Log.owners.Given as goal

abbrev pub invariant-loop-span : goal.invariant-loop-span
invariant-loop-span l = record {
  records : l.self.records ++ owner_records (drop l.span-index l.transfers) ≡ l.fn.self.records ++ owner_records l.transfers;
  room : l.fn.self.room ≤ l.self.room + l.span-index;
}
