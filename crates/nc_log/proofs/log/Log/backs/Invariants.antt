use Rattle.std.proofs.Common.{◌≡◌, ◌≤◌, ◌+◌, ◌++◌, drop}
use Rattle.nc_rules.specs.Records.{back_records}
use Rattle.nc_log.proofs.log.Log.backs.Given as goal

abbrev pub invariant-loop-word : goal.invariant-loop-word
invariant-loop-word l = record {
  records : l.self.records ++ back_records l.h (drop l.word-index l.words) ≡ l.fn.self.records ++ back_records l.h l.words;
  room : l.fn.self.room ≤ l.self.room + l.word-index;
}
