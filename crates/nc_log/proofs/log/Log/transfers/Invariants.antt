use Rattle.std.proofs.Common.{◌≡◌, ◌≤◌, ◌+◌, ◌++◌, drop}
use Rattle.nc_rules.specs.Records.{transfer_records}
use Rattle.nc_log.proofs.log.Log.transfers.Given as goal

abbrev pub invariant-loop-transfer : goal.invariant-loop-transfer
invariant-loop-transfer l = record {
  records : l.self.records ++ transfer_records l.size (drop l.transfer-index l.bus) ≡ l.fn.self.records ++ transfer_records l.size l.bus;
  room : l.fn.self.room ≤ l.self.room + l.transfer-index;
}
