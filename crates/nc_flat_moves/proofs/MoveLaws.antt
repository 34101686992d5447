-- The law.
use Rattle.nc_flat_moves.specs.Laws.{MovesGo}
use Rattle.nc_flat_moves.proofs.drains.Drains.{drain_goes}
use Rattle.nc_flat_moves.proofs.drains.Moves.{fill_goes, evict_goes}
use Rattle.nc_flat_moves.proofs.channels.ChannelEvents.{read_goes, write_goes}

pub moves_go_law : MovesGo
moves_go_law = record { drain = drain_goes; fill = fill_goes; evict = evict_goes; read = read_goes; write = write_goes }
