use Rattle.nc_slot_laws.proofs.SearchLaws.{searched_always}
use Rattle.nc_slot_laws.proofs.laws.noslot_law.Goals as goal

pub returns : goal.returns
returns c = searched_always
