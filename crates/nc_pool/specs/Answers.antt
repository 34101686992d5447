-- What the calls of a pool answer, over the log of tries. This project's own.
use Rattle.std.specs.Prelude.{◌≡◌, ℕ, ◌+◌, ◌<◌, ◌≤◌, ◌==◌, ◌&&◌, Bool, true, false, not, List, [], ◌∷◌, ◌++◌, length, Option, Some, None}
use Rattle.atomic_table.specs.Seated.{TableId}
use Rattle.nc_pool.specs.Views.{SeatView, has}
use Rattle.nc_pool.specs.declared.pool.NewSeat.{NewSeat}
use Rattle.nc_pool.specs.declared.pool.NewSeat.TheVariants.{Seat, NoneLeft}
use Rattle.nc_pool.specs.declared.pool.PoolTry.{PoolTry}
use Rattle.nc_pool.specs.declared.pool.PoolTry.TheVariants.{Got, Held}

-- the word that a try found
abbrev pub found_of : PoolTry → ℕ
found_of Got = 0
found_of (Held w) = w

-- the slots that a seat holds after such an answer at k
abbrev pub held_after : List ℕ → ℕ → PoolTry → List ℕ
held_after held k Got = held ++ k ∷ []
held_after held k (Held w) = held

-- a made seat has the next number; no seat comes exactly where all numbers were given
abbrev pub SeatsNext : TableId → ℕ → ℕ → ℕ → NewSeat → Type 0
SeatsNext pool next seats next' (Seat s) = (next < seats) × (next' ≡ next + 1) × (s ≡ record { pool = pool; number = next; held = []; log = [] })
SeatsNext pool next seats next' NoneLeft = (seats ≤ next) × (next' ≡ next)

-- tries of the slots from i on, in order, each of which found a word that is not 0
abbrev pub misses_from : ℕ → List (ℕ × ℕ) → Bool
misses_from i [] = true
misses_from i (t ∷ ts) = (t.0 == i) && (not (t.1 == 0) && misses_from (i + 1) ts)

-- such tries of the slots below count
abbrev pub AreMisses : ℕ → List (ℕ × ℕ) → Type 0
AreMisses count ts = (length ts ≡ count) × (misses_from 0 ts ≡ true)

-- a search that answers k missed every slot below k, then found k free and holds it; one that answers none missed every slot
abbrev pub Searches : ℕ → SeatView → SeatView → Option ℕ → Type 0
Searches slots old new (Some k) = (k < slots) × (has k old.held ≡ false) × (new.held ≡ old.held ++ k ∷ []) × ((ts : List (ℕ × ℕ)) × AreMisses k ts × (new.log ≡ old.log ++ (ts ++ (k, 0) ∷ [])))
Searches slots old new None = (new.held ≡ old.held) × ((ts : List (ℕ × ℕ)) × AreMisses slots ts × (new.log ≡ old.log ++ ts))
