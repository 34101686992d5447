-- The laws of the machine as a whole, gathered.
use Rattle.nc_calls.specs.MachineLaws.{MachineStaysSound, CallsKeepShape}
use Rattle.nc_calls.proofs.SoundStart.{sound_start}
use Rattle.nc_calls.proofs.SoundIssue.{sound_issue, shape_issue}
use Rattle.nc_calls.proofs.SoundDrain.{sound_drain, shape_drain}
use Rattle.nc_calls.proofs.SoundSteps.{sound_fill, sound_evict, sound_chan_read, sound_chan_write, sound_claim, sound_take, shape_fill, shape_evict, shape_chan_read, shape_chan_write, shape_claim, shape_take}

pub machine_stays_sound : MachineStaysSound
machine_stays_sound = record {
  at_first = sound_start;
  of_issue = λ m h op is by. sound_issue m h op is by.hart by.there by.may;
  of_drain = sound_drain;
  of_fill = λ m h b is by. sound_fill m h b is by.hart by.block;
  of_evict = λ m h b is by. sound_evict m h b is by.hart by.block;
  of_chan_read = sound_chan_read;
  of_chan_write = sound_chan_write;
  of_claim = sound_claim;
  of_take = sound_take;
}

pub calls_keep_shape : CallsKeepShape
calls_keep_shape = record {
  of_issue = λ m h op is by. shape_issue m h op is by.hart by.there;
  of_drain = shape_drain;
  of_fill = λ m h b is by. shape_fill m h b is by.hart by.block;
  of_evict = λ m h b is by. shape_evict m h b is by.hart by.block;
  of_chan_read = shape_chan_read;
  of_chan_write = shape_chan_write;
  of_claim = shape_claim;
  of_take = shape_take;
}
