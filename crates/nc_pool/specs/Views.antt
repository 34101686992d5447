-- What the views of a pool say, as plain data. This project's own.
use Rattle.std.specs.Prelude.{ℕ, ◌+◌, ◌==◌, Bool, true, false, not, ◌&&◌, ◌||◌, if◌then◌else◌, List, [], ◌∷◌, ◌++◌}
use Rattle.atomic_table.specs.Seated.{TableId}
use Rattle.nc_pool.specs.declared.view.PoolView.{PoolView}
use Rattle.nc_pool.specs.declared.view.PoolView.TheVariants.{Root, Live, Gone}

-- what a caller sees of a seat: its pool, its number, the slots that it holds, and its tries, each with the word found
pub record SeatView : Type 0 where
  pub pool : TableId
  pub number : ℕ
  pub held : List ℕ
  pub log : List (ℕ × ℕ)

-- what a caller sees of the root: its pool, and the next number
pub record RootView : Type 0 where
  pub pool : TableId
  pub next : ℕ

-- what a caller sees of a pool: which it is, and its numbers of slots and seats
pub record PoolSize : Type 0 where
  pub id : TableId
  pub slots : ℕ
  pub seats : ℕ

-- whether k is among these
abbrev pub has : ℕ → List ℕ → Bool
has k [] = false
has k (x ∷ xs) = (x == k) || has k xs

-- these but k
abbrev pub without : ℕ → List ℕ → List ℕ
without k [] = []
without k (x ∷ xs) = if x == k then without k xs else x ∷ without k xs

-- none stands twice
abbrev pub is_distinct : List ℕ → Bool
is_distinct [] = true
is_distinct (x ∷ xs) = not (has x xs) && is_distinct xs

-- the slots that a view holds: the root and a joined seat hold none
abbrev pub held_of : PoolView → List ℕ
held_of (Root n) = []
held_of (Live n held log) = held
held_of Gone = []

abbrev pub log_of : PoolView → List (ℕ × ℕ)
log_of (Root n) = []
log_of (Live n held log) = log
log_of Gone = []

-- a seat's number, or the root's next one
abbrev pub number_of : PoolView → ℕ
number_of (Root n) = n
number_of (Live n held log) = n
number_of Gone = 0

abbrev pub is_live : PoolView → Bool
is_live (Root n) = false
is_live (Live n held log) = true
is_live Gone = false

abbrev pub is_root : PoolView → Bool
is_root (Root n) = true
is_root (Live n held log) = false
is_root Gone = false

-- the root gives its next number away
abbrev pub after_seat : PoolView → PoolView
after_seat (Root n) = Root (n + 1)
after_seat (Live n held log) = Live n held log
after_seat Gone = Gone

-- the new seat has that number, holds nothing and has tried nothing
abbrev pub new_seat : PoolView → PoolView
new_seat (Root n) = Live n [] []
new_seat (Live n held log) = Gone
new_seat Gone = Gone

-- a try of the slot k, at which this word was found: the log has it, and a slot found free is held
abbrev pub tried : PoolView → ℕ → ℕ → PoolView
tried (Root n) k found = Root n
tried (Live n held log) k found = Live n (if found == 0 then held ++ k ∷ [] else held) (log ++ (k, found) ∷ [])
tried Gone k found = Gone

-- the slot k was given back
abbrev pub given : PoolView → ℕ → PoolView
given (Root n) k = Root n
given (Live n held log) k = Live n (without k held) log
given Gone k = Gone
