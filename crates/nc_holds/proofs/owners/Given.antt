-- The laws of owners, grants and pages in one record.
use Rattle.std.specs.Prelude.{◌≡◌, List, All, true, false}
use Rattle.nc_rules.specs.declared.lots.Lot.{Lot}
use Rattle.nc_rules.specs.declared.lots.LotId.{LotId}
use Rattle.nc_rules.specs.Lots.{is_lot, lot_waits}
use Rattle.nc_scripts.proofs.Lists.{all_to}
use Rattle.nc_holds.specs.Changes.{ArePlaced}
use Rattle.nc_holds.proofs.events.Given.{OwnerLaws}
use Rattle.nc_holds.proofs.owners.Laws.{knows_stay, mine_stays, theirs_stay, grants_of_others, may_move_pages}
use Rattle.nc_holds.proofs.owners.Areas.{area_knows, area_mine, area_theirs, area_grants_of_others, area_pages_may_move}
use Rattle.nc_holds.proofs.owners.Waits.{waits_stay, area_waits}
use Rattle.nc_holds.proofs.grants.Lists.{can_add_all, area_can_add_all}

are_placed : (lots : List Lot) (id : LotId) → All (λ lot. lot_waits lot ≡ false) lots → ArePlaced lots id
are_placed lots id all = all_to (λ (lot : Lot). lot_waits lot ≡ false) (λ (lot : Lot). is_lot id lot ≡ true → lot_waits lot ≡ false) lots all (λ lot h name. h)

pub owner_laws : OwnerLaws
owner_laws = record {
  knows_stay = knows_stay;
  mine_stays = mine_stays;
  theirs_stay = theirs_stay;
  grants_of_others = λ f s c g k other. grants_of_others f s c g other k;
  area_knows_stay = λ ram harts f s lot knows mine making area. area_knows ram harts f s lot knows making;
  area_mine_stays = area_mine;
  area_theirs_stay = λ ram harts f g s lots lot knows mine theirs making area. area_theirs ram harts f g s lots lot knows theirs making area;
  area_grants_of_others = λ f s lot g k other. area_grants_of_others f s lot g other k;
  waits_stay = waits_stay;
  area_waits = area_waits;
  can_add_all = λ ram harts f s id knows mine words held placed. can_add_all ram harts f s id knows mine words held (are_placed s.lots id placed);
  area_can_add_all = λ ram harts f s lot knows mine held making area. area_can_add_all ram harts f s lot knows held making area;
  may_move_pages = λ ram harts f s t knows mine fits. may_move_pages ram harts f s t knows mine;
  area_may_move_pages = λ ram harts f s lot knows mine making area. area_pages_may_move ram harts f s lot knows making area;
}
