-- What holds of memory and the domain between calls, as a whole and at one place.
use Rattle.std.specs.Prelude.{ℕ, ◌≡◌, ◌≢◌, ◌⊎◌, ◌/◌, ◌%◌, ◌<◌, ◌≤◌, Bool, true, false, List, Option, Some, None, length, slice_index_or}
use Rattle.std.specs.List.{list_any}
use Rattle.nc_num.specs.Memory.{byte}
use Rattle.nc_num.specs.Sizes.{IsBlockSize}
use Rattle.nc_cache.specs.declared.line.Held.{Held}
use Rattle.nc_cache.specs.declared.line.Held.TheVariants.{Shared, Dirty}
use Rattle.nc_cache.specs.declared.line.Line.{Line}
use Rattle.nc_cache.specs.Cache.{Cache, line_at, middle}

-- some of the harts below a number
pub record IsShared (harts : ℕ) (by : List Bool) : Type 0 where
  pub four : length by ≡ 4
  pub some : list_any (λ x. x) by ≡ true
  pub below : (g : ℕ) → harts ≤ g → slice_index_or by g false ≡ false

abbrev pub IsHeld : ℕ → Held → Type 0
IsHeld harts (Shared by) = IsShared harts by
IsHeld harts (Dirty g) = g.0 < harts

-- a line has the whole block, and a holder
pub record IsLine (s harts : ℕ) (l : Line) : Type 0 where
  pub bytes : length l.bytes ≡ s
  pub held : IsHeld harts l.held

abbrev pub IsLineOf : ℕ → ℕ → Option Line → Type 0
IsLineOf s harts None = Unit {0}
IsLineOf s harts (Some l) = IsLine s harts l

-- memory has whole blocks, and so has each line
pub record Whole (s harts size : ℕ) (c : Cache) : Type 0 where
  pub block_size : IsBlockSize s
  pub few : harts ≤ 4
  pub ram : length c.ram ≡ size
  pub blocks : size % s ≡ 0
  pub lines : (b : ℕ) → IsLineOf s harts (line_at c b)

-- clean copies have memory's byte
abbrev pub CleanAgrees : ℕ → List ℕ → ℕ → List ℕ → Held → Type 0
CleanAgrees s ram x bytes (Shared by) = byte bytes (x % s) ≡ byte ram x
CleanAgrees s ram x bytes (Dirty g) = Unit {0}

abbrev pub Agrees : ℕ → List ℕ → ℕ → Option Line → Type 0
Agrees s ram x None = Unit {0}
Agrees s ram x (Some l) = CleanAgrees s ram x l.bytes l.held

abbrev pub IsClean : Held → Type 0
IsClean (Shared by) = Unit {0}
IsClean (Dirty g) = ⊥

abbrev pub LineClear : Option Line → Type 0
LineClear None = Unit {0}
LineClear (Some l) = IsClean l.held

-- the copies of the place agree with memory, where they are clean
pub record Fresh (s : ℕ) (c : Cache) (x : ℕ) : Type 0 where
  pub agrees : Agrees s c.ram x (line_at c (x / s))

-- nobody has the block of the place dirty
pub record Clear (s : ℕ) (c : Cache) (x : ℕ) : Type 0 where
  pub clear : LineClear (line_at c (x / s))

-- memory and each copy have this byte at the place
pub record Both (s : ℕ) (c : Cache) (v x : ℕ) : Type 0 where
  pub memory : byte c.ram x ≡ v
  pub copy : middle s c x ≡ v

-- from c to d no byte changes that a hart sees at the place; memory there may get what the copies have
pub record Keeps (s : ℕ) (c d : Cache) (x : ℕ) : Type 0 where
  pub fresh : Fresh s c x → Fresh s d x × (middle s d x ≡ middle s c x)
  pub clear : Clear s c x → Clear s d x × (byte d.ram x ≡ byte c.ram x)
  pub memory : (byte d.ram x ≡ byte c.ram x) ⊎ (byte d.ram x ≡ middle s c x)

-- from c to d block b is made dirty: memory stays, and what is seen at the place is said beside it
pub record Dirties (s : ℕ) (c d : Cache) (b x : ℕ) : Type 0 where
  pub memory : d.ram ≡ c.ram
  pub fresh : Fresh s c x → Fresh s d x
  pub clear : x / s ≢ b → Clear s c x → Clear s d x

-- from c to d block b is dropped with no write: what is left at a place of it
pub record Drops (s : ℕ) (c d : Cache) (x : ℕ) : Type 0 where
  pub memory : d.ram ≡ c.ram
  pub nobody : line_at d (x / s) ≡ None
  pub fresh : Fresh s d x
  pub clear : Clear s d x
  pub copy : middle s d x ≡ byte c.ram x
