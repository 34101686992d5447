-- The laws of the calls at places, gathered.
use Rattle.std.proofs.Common.{length}
use Rattle.nc_pdma.proofs.Transactions.{each_read, each_write}
use Rattle.nc_rules.specs.Machine.{channel_of}
use Rattle.nc_calls.specs.CallLaws.{IssuesByPlace, DrainsByPlace, MovesByPlace, ChannelsByPlace}
use Rattle.nc_calls.proofs.SoundIssue.{issued_fits, entry_there}
use Rattle.nc_calls.proofs.IssuePlaces.{load_is, push_is, fence_stays, io_load_stays}
use Rattle.nc_calls.proofs.DrainPlaces.{drain_is, drain_none}
use Rattle.nc_calls.proofs.StepPlaces.{fill_is, fill_pooled, pool_block, fill_not_held, evict_is, evict_not_held, chan_read_stays, chan_read_is, chan_write_ram, chan_write_is, claim_stays, claim_free, claim_granted, take_stays, take_is, take_none}

pub issues_by_place : IssuesByPlace
issues_by_place = record { load = load_is; entry = push_is; fits = issued_fits; there = entry_there; fence = fence_stays; register = io_load_stays }

pub drains_by_place : DrainsByPlace
drains_by_place = record { entry = drain_is; none = drain_none }

pub moves_by_place : MovesByPlace
moves_by_place = record { fill = fill_is; pooled = fill_pooled; pool_block = pool_block; fill_not_held = fill_not_held; evict = evict_is; evict_not_held = evict_not_held }

pub channels_by_place : ChannelsByPlace
channels_by_place = record {
  read_stays = chan_read_stays;
  read = chan_read_is;
  read_moves = λ m c span bytes done is lt told. each_read (channel_of m c) m.cache.ram span bytes done (is.granted c lt).channel told;
  written = chan_write_ram;
  write = chan_write_is;
  write_moves = λ m c span bytes done is lt told. each_write (channel_of m c) (length m.cache.ram) span bytes done (is.granted c lt).channel told;
  claim_stays = claim_stays;
  claim = claim_free;
  granted = claim_granted;
  take_stays = take_stays;
  take = take_is;
  nothing = take_none;
}
