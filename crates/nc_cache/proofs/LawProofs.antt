-- The laws, gathered.
use Rattle.nc_cache.specs.Laws.{CallsKeepWhole, CallsKeepPlaces, CallsWritePlaces, InvalDrops, BytesAreSeen, LinesAreHeld}
use Rattle.nc_cache.proofs.Places.{keeps_load, middle-load, keeps_evict, keeps_clean, keeps_flush, clear_clean, gone_flush, keeps_both, middle-clear}
use Rattle.nc_cache.proofs.Writes.{dirties_own, middle-own, dirties_store, middle-store_in, middle-store_out, dirties_zero, middle-zero_in, middle-zero_out, drops_inval, keeps_inval, both_inval, length-bytes_at, byte-bytes_at}
use Rattle.nc_cache.proofs.Holders.{line_holder}
use Rattle.nc_cache.proofs.Wholes.{whole_start, whole_load, whole_own, whole_store, whole_zero, whole_evict, whole_clean, whole_flush, whole_inval}

pub calls_keep_whole : CallsKeepWhole
calls_keep_whole = record {
  of_start = whole_start;
  of_load = whole_load;
  of_own = whole_own;
  of_store = whole_store;
  of_zero = whole_zero;
  of_evict = whole_evict;
  of_clean = whole_clean;
  of_flush = whole_flush;
  of_inval = whole_inval;
}

pub calls_keep_places : CallsKeepPlaces
calls_keep_places = record {
  of_load = keeps_load;
  loaded = middle-load;
  of_evict = keeps_evict;
  of_clean = keeps_clean;
  of_flush = keeps_flush;
  cleaned = clear_clean;
  flushed = gone_flush;
  both = keeps_both;
  settled = middle-clear;
}

pub calls_write_places : CallsWritePlaces
calls_write_places = record {
  of_own = dirties_own;
  owned = λ s c h b x z. middle-own z c h b x;
  of_store = dirties_store;
  stored = middle-store_in;
  beside = middle-store_out;
  of_zero = dirties_zero;
  zeroed = λ s c h b x z e. middle-zero_in z c h b x e;
  elsewhere = middle-zero_out;
}

pub inval_drops : InvalDrops
inval_drops = record { here = drops_inval; elsewhere = keeps_inval; both = both_inval }

pub bytes_are_seen : BytesAreSeen
bytes_are_seen = record { length_is = length-bytes_at; byte_is = byte-bytes_at }

pub lines_are_held : LinesAreHeld
lines_are_held = record { holder = line_holder }
