use Rattle.std.proofs.Common.{◌≡◌}
use Rattle.serde_json.specs.View.{members_view}
use Rattle.nc_scen.specs.Keys.{first_unknown}
use Rattle.nc_scen.proofs.keys.first_unknown.Given as goal

abbrev pub invariant-loop-key : goal.invariant-loop-key
invariant-loop-key l = first_unknown l.keys (members_view l.members.entries) ≡ first_unknown l.keys (members_view l.key-iterator)
