use Rattle.std.proofs.Common.{arith}
use Rattle.nc_model.proofs.GrantLaws.{grants-push}
use Rattle.nc_own.proofs.Views.{shown_can}
use Rattle.nc_own.proofs.book.Book.add.Goals as goal

pub invariant_of-self : goal.invariant_of-self
invariant_of-self c = record {
  size = c.self.invariant.size;
  apart = rw c.push_reserved.ensures.items (grants-push _ _ _ c.self.invariant.apart (shown_can _ _ _ _ _ _ c.self.view_is c.requires.can));
  tile = c.self.invariant.tile;
  joined = c.self.invariant.joined;
  whole = c.self.invariant.whole;
  interval_room = omega (arith, c.self.invariant.interval_room);
  grant_room = omega (arith, c.self.invariant.grant_room, c.push_reserved.ensures.len, c.push_reserved.ensures.capacity);
}
