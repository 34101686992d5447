-- What a transaction of a copy's channel moves, in flat memory. This project's own.
use Rattle.std.specs.Prelude.{◌≡◌, ◌⊎◌, ◌<◌, ◌≤◌, ◌+◌, ◌-◌, ℕ, List}
use Rattle.nc_num.specs.Memory.{byte}
use Rattle.nc_num.specs.declared.places.Span.{Span}
use Rattle.nc_transfers.specs.Transfers.{Ends}

-- the place of the source's buffer for which the channel reads at z, and that of the destination's for which it writes
abbrev pub read_for : Ends → ℕ → ℕ
read_for e z = e.source + (z - e.reads_at)

abbrev pub written_for : Ends → ℕ → ℕ
written_for e z = e.target + (z - e.writes_at)

-- memory has flat memory's bytes where the channel reads
abbrev pub ShowsSource : Ends → List ℕ → List ℕ → Span → Type 0
ShowsSource e f ram s = (z : ℕ) → s.at ≤ z → z < s.at + s.len → byte ram z ≡ byte f (read_for e z)

-- flat memory gets the bytes that the channel writes at a span, and is else as it was
pub record GetsBytes (e : Ends) (f g : List ℕ) (s : Span) (bytes : List ℕ) : Type 0 where
  pub here : (z : ℕ) → s.at ≤ z → z < s.at + s.len → byte g (written_for e z) ≡ byte bytes (z - s.at)
  pub away : (x : ℕ) → (x < written_for e s.at) ⊎ (written_for e s.at + s.len ≤ x) → byte g x ≡ byte f x

-- flat memory is the same at both ends
pub record SameEnds (e : Ends) (f g : List ℕ) : Type 0 where
  pub source : (i : ℕ) → i < e.len → byte g (e.source + i) ≡ byte f (e.source + i)
  pub target : (i : ℕ) → i < e.len → byte g (e.target + i) ≡ byte f (e.target + i)
