-- What the sources and sinks of memory are, and how what a sink holds may grow.
use Rattle.std.specs.Prelude.{◌≡◌, ℕ, List, ◌++◌, Bool, Option}
use Rattle.std.specs.Io.KnownBytes.{Appends}

-- what a source of memory has left, at most how many bytes one read gives, and whether it has told its end
pub record Left : Type 0 where
  pub left : List ℕ
  pub chunk : ℕ
  pub ended : Bool

-- the same of a source some of whose calls fail, the numbers of these, and how many calls and faults there were
pub record Reading : Type 0 where
  pub left : List ℕ
  pub chunk : ℕ
  pub ended : Bool
  pub fails : List ℕ
  pub calls : ℕ
  pub faults : ℕ

-- what a sink some of whose calls fail holds, the numbers of these, and how many calls and faults there were
pub record Writing : Type 0 where
  pub held : List ℕ
  pub fails : List ℕ
  pub calls : ℕ
  pub faults : ℕ

-- a list begins with this one
abbrev pub Begins : List ℕ → List ℕ → Type 0
Begins whole prefix = (rest : List ℕ) × (whole ≡ prefix ++ rest)

-- known bytes grew by a prefix of the piece
pub record GrowsByPrefix (old new : Option (List ℕ)) (piece : List ℕ) : Type 0 where
  pub prefix : List ℕ
  pub grown : Appends old new prefix
  pub begins : Begins piece prefix
