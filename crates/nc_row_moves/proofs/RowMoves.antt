-- A fill and an eviction leave each row.
use Rattle.std.specs.Prelude.{◌/◌}
use Rattle.std.proofs.Common.{◌≡◌, ℕ, true}
use Rattle.nc_model.specs.declared.owners.Owner.{Owner}
use Rattle.nc_rules.specs.Machine.{MachineState}
use Rattle.nc_rules.specs.Calls.{is_pooled, fill_next, evict_next}
use Rattle.nc_rules.specs.Sound.{IsMachine}
use Rattle.nc_calls.specs.MachineLaws.{SameShape, IsMove}
use Rattle.nc_calls.specs.PlaceLaws.{NotHeld, Moves}
use Rattle.nc_calls.proofs.SoundSteps.{shape_fill, shape_evict}
use Rattle.nc_calls.proofs.StepPlaces.{fill_is, fill_not_held, evict_is, evict_not_held}
use Rattle.nc_rows.specs.Rows.{Book, Row}
use Rattle.nc_rows.specs.Laws.{FrameAt, is_lent_area, seen_at}
use Rattle.nc_rows.proofs.PlaceFrames.{of_keeps}
use Rattle.nc_rows.proofs.Kept.{kept}
use Rattle.nc_row_moves.specs.Laws.{RowsMove}

moved : (a : Book) (o : Owner) (v : ℕ) (m k : MachineState) (b x : ℕ) → SameShape m k → Moves m k b → (is_lent_area a o ≡ true → NotHeld m x → NotHeld k x) → Row a o v m x → Row a o v k x
moved a o v m k b x shape moves held row =
    kept a o v m k x (record { size = shape.size; queues = moves.queues }) (of_keeps m k x (moves.places x)) (of_keeps m k (seen_at a o x) (moves.places (seen_at a o x))) held row

pub rows_move : RowsMove
rows_move = record {
  fill = λ a o v m h b x is by pooled row.
      moved a o v m (fill_next m h b) b x (shape_fill m h b is by.hart by.block) (fill_is m h b is by.block) (λ area none. fill_not_held m h b x is by.block (pooled area) none) row;
  evict = λ a o v m h b x is by row.
      moved a o v m (evict_next m h b) b x (shape_evict m h b is by.hart by.block) (evict_is m h b is by.block) (λ area none. evict_not_held m h b x is by.block none) row;
}
