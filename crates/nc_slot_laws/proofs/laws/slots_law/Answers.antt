use Rattle.nc_slot_laws.proofs.SlotLaws.{given_once}
use Rattle.nc_slot_laws.proofs.laws.slots_law.Goals as goal

pub returns : goal.returns
returns c = given_once
