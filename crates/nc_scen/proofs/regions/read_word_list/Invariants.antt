use Rattle.std.proofs.Common.{◌≡◌, drop, length, All}
use Rattle.serde_json.specs.View.{items_view}
use Rattle.nc_values.specs.Outcomes.{each}
use Rattle.nc_scen.specs.Parts.{word_at}
use Rattle.nc_pte.specs.Words.{IsPteWord}
use Rattle.nc_values.proofs.Loops.{with_front}
use Rattle.nc_scen.proofs.regions.read_word_list.Given as goal

abbrev pub invariant-loop-i : goal.invariant-loop-i
invariant-loop-i l = (with_front (word_at l.ram) l.words.items (each (word_at l.ram) l.i (items_view (drop l.i l.items))) ≡ each (word_at l.ram) 0 (items_view l.items)) × All (IsPteWord l.ram) l.words.items × (length l.words.items ≡ l.i)
