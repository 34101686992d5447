use Rattle.std.proofs.Common.{arith}
use Rattle.nc_model.proofs.GrantLaws.{grants-without}
use Rattle.nc_own.proofs.book.Book.remove.Goals as goal

pub invariant_of-self : goal.invariant_of-self
invariant_of-self c = record {
  size = c.self.invariant.size;
  apart = rw c.remove_with_id.ensures.grants (grants-without _ _ _ c.self.invariant.apart);
  tile = c.self.invariant.tile;
  joined = c.self.invariant.joined;
  whole = c.self.invariant.whole;
  interval_room = c.self.invariant.interval_room;
  grant_room = omega (arith, c.self.invariant.grant_room, c.remove_with_id.ensures.shorter, c.remove_with_id.ensures.capacity);
}
