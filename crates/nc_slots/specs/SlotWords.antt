-- The slot words as a list of holders (this project's own).
use Rattle.std.specs.Prelude.{ℕ, List, Option, Some, None, slice_index_or, slice_set}
use Rattle.nc_num.specs.declared.names.HartNo.{HartNo}
use Rattle.nc_slots.specs.declared.slots.TryAnswer.{TryAnswer}
use Rattle.nc_slots.specs.declared.slots.TryAnswer.TheVariants.{Got, Held}

-- the hart that holds a word, where the word is there
abbrev pub holder_of : List (Option HartNo) → ℕ → Option HartNo
holder_of words k = slice_index_or words k None

-- the answer to a try, by the holder that it finds
abbrev pub answer_to : Option HartNo → TryAnswer
answer_to None = Got
answer_to (Some g) = Held g

-- the words after a try by h, by the holder that it finds: a free word is taken, and else nothing changes
abbrev pub tried_at : Option HartNo → List (Option HartNo) → HartNo → ℕ → List (Option HartNo)
tried_at None words h k = slice_set words k (Some h)
tried_at (Some g) words h k = words

abbrev pub tried : List (Option HartNo) → HartNo → ℕ → List (Option HartNo)
tried words h k = tried_at (holder_of words k) words h k
