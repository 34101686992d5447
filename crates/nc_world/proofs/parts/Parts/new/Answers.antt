use Rattle.std.proofs.Common.{refl}
use Rattle.nc_rules.specs.World.{start}
use Rattle.nc_world.proofs.Kept.{kept_first}
use Rattle.nc_world.proofs.Events.{same_world}
use Rattle.nc_world.proofs.parts.Parts.new.Goals as goal

pub returns-clause-sound : goal.returns-clause-sound
unfolding start
returns-clause-sound c =
    kept_first c.args.sc.now _ c.pool.result c.worlds_begin.ensures c.requires
    (same_world _ (start c.args.sc.now) c.in_ok-new.ensures c.in_ok-drivers_of.ensures c.in_ok-book_of.ensures.owners c.in_ok-book_of.ensures.grants
    refl refl c.in_ok-new-2.ensures c.in_ok-new-3.ensures)
    c.pool.ensures
