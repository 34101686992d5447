use Rattle.nc_queue.proofs.Rings.{window_parts, length-window}
use Rattle.nc_queue.proofs.ring.entries_of.Goals as goal

pub returns-clause-entries : goal.returns-clause-entries
returns-clause-entries c = rw (c.min.ensures, c.saturating_sub.ensures) (window_parts _ _ _ c.requires.start c.requires.few c.requires.room)

pub returns-clause-few : goal.returns-clause-few
returns-clause-few c =
    rw (c.min.ensures, c.saturating_sub.ensures, window_parts _ _ _ c.requires.start c.requires.few c.requires.room, length-window _ _ _ c.requires.start c.requires.few c.requires.room) c.requires.few
