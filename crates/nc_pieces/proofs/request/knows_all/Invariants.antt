use Rattle.std.proofs.Common.{◌≡◌}
use Rattle.serde_json.specs.View.{members_view}
use Rattle.nc_pieces.specs.Reading.{knows_all}
use Rattle.nc_pieces.proofs.request.knows_all.Given as goal

abbrev pub invariant-loop-key : goal.invariant-loop-key
invariant-loop-key l = knows_all (members_view l.members.entries) ≡ knows_all (members_view l.key-iterator)
