-- What keeps a row, as statements.
use Rattle.std.specs.Prelude.{ℕ, ◌≡◌, true, false, Bool, Option, Some, None, List, [], ◌∷◌, ◌++◌}
use Rattle.nc_num.specs.Memory.{byte}
use Rattle.nc_model.specs.declared.owners.Owner.{Owner}
use Rattle.nc_model.specs.declared.owners.Owner.TheVariants.{Thread, Passing, Lending, Device, Returning, Synced, Pool}
use Rattle.std.specs.List.{list_any}
use Rattle.nc_num.specs.declared.names.MapId.{MapId}
use Rattle.nc_rules.specs.declared.lots.LotId.{LotId}
use Rattle.nc_rules.specs.declared.steps.Step.{Step}
use Rattle.nc_rules.specs.Machine.{MachineState, queue_of}
use Rattle.nc_calls.specs.PlaceLaws.{FreshAt, ClearAt, BothAt, NotHeld, SameAt, KeepsAt}
use Rattle.nc_rules.specs.View.{middle}
use Rattle.nc_rows.specs.Ahead.{ends, posts, act_coming, step_coming, coming, sending}
use Rattle.nc_rows.specs.Rows.{Loan, Book, device_place, Row}

-- ---- the places of a row

abbrev pub place_of : Option Loan → ℕ → ℕ
place_of None x = x
place_of (Some l) x = device_place l x

-- the place as the channel of its mapping sees it
abbrev pub seen_at : Book → Owner → ℕ → ℕ
seen_at a (Thread h) x = x
seen_at a (Passing h g) x = x
seen_at a (Lending n) x = place_of (a.loan n) x
seen_at a (Device n) x = place_of (a.loan n) x
seen_at a (Returning n) x = place_of (a.loan n) x
seen_at a (Synced n) x = x
seen_at a Pool x = x

abbrev pub area_of : Option Loan → Bool
area_of None = false
area_of (Some l) = l.area

-- an area that is being lent, whose copies are told
abbrev pub is_lent_area : Book → Owner → Bool
is_lent_area a (Lending n) = area_of (a.loan n)
is_lent_area a (Thread h) = false
is_lent_area a (Passing h g) = false
is_lent_area a (Device n) = false
is_lent_area a (Returning n) = false
is_lent_area a (Synced n) = false
is_lent_area a Pool = false

-- ---- no byte changes

-- from m to k nothing changes at the place that a row could tell
pub record FrameAt (m k : MachineState) (x : ℕ) : Type 0 where
  pub fresh : FreshAt m x → FreshAt k x × (middle k x ≡ middle m x)
  pub clear : ClearAt m x → ClearAt k x × (byte k.cache.ram x ≡ byte m.cache.ram x)
  pub both : (v : ℕ) → BothAt m v x → BothAt k v x

-- nor in any queue
pub record SameQueues (m k : MachineState) : Type 0 where
  pub size : k.size ≡ m.size
  pub queues : (g : ℕ) → queue_of k g ≡ queue_of m g

pub record RowsKeep : Type 0 where
  pub of_same : (m k : MachineState) (x : ℕ) → SameAt m k x → FrameAt m k x
  pub of_keeps : (m k : MachineState) (x : ℕ) → KeepsAt m k x → FrameAt m k x
  pub kept : (a : Book) (o : Owner) (v : ℕ) (m k : MachineState) (x : ℕ) → SameQueues m k → FrameAt m k x → FrameAt m k (seen_at a o x)
      → (is_lent_area a o ≡ true → NotHeld m x → NotHeld k x) → Row a o v m x → Row a o v k x

-- ---- what is to come, step by step

pub record StepsAhead : Type 0 where
  -- a step that ends nothing, where one behind it does, goes off in front; the one that ends it is the last; where none
  -- does nothing is to come
  pub next : (n : MapId) (lot : LotId) (s : Step) (rest : List Step) → ends lot s ≡ false → list_any (ends lot) rest ≡ true → coming n lot (s ∷ rest) ≡ act_coming s.act ++ coming n lot rest
  pub last : (n : MapId) (lot : LotId) (s : Step) (rest : List Step) → ends lot s ≡ true → coming n lot (s ∷ rest) ≡ step_coming n lot s
  pub none : (n : MapId) (lot : LotId) (rest : List Step) → list_any (ends lot) rest ≡ false → coming n lot rest ≡ []
  -- the same up to a message
  pub send_next : (b : ℕ) (s : Step) (rest : List Step) → posts b s ≡ false → list_any (posts b) rest ≡ true → sending b (s ∷ rest) ≡ act_coming s.act ++ sending b rest
  pub send_last : (b : ℕ) (s : Step) (rest : List Step) → posts b s ≡ true → sending b (s ∷ rest) ≡ act_coming s.act
  pub send_none : (b : ℕ) (rest : List Step) → list_any (posts b) rest ≡ false → sending b rest ≡ []
