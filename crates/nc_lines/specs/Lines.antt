-- A line: the entries of a queue without their bytes, and behind them what is still to come. This project's own, but for
-- the order that markers keep (RISC-V, FENCE).
use Rattle.std.specs.Prelude.{ℕ, ◌≡◌, ◌⊎◌, Bool, true, List, [], ◌∷◌, ◌++◌, map, is_some}
use Rattle.nc_queue.specs.Entries.{entry_gives, is_wo}
use Rattle.nc_queue.specs.Laws.{Stands}
use Rattle.nc_queue.specs.declared.entry.Entry.{Entry}
use Rattle.nc_queue.specs.declared.entry.Entry.TheVariants.{Store, Cbo, Reg, Mail, Lend, Mark}

-- an entry without the bytes of a store: no test of a line looks at these
abbrev pub bare : Entry → Entry
bare (Store span bytes kind) = Store span [] kind
bare (Cbo block op) = Cbo block op
bare (Reg chan off width value) = Reg chan off width value
bare (Mail buf to) = Mail buf to
bare (Lend label first count) = Lend label first count
bare (Mark pred succ) = Mark pred succ

-- a queue, and what comes behind it
abbrev pub line : List Entry → List Entry → List Entry
line q coming = map bare q ++ coming

-- an entry that gives the byte, for blocks of s bytes
abbrev pub gives_at : ℕ → ℕ → Entry → Bool
gives_at s x e = is_some (entry_gives s e x)

-- up to the first of t, each of w has a marker of W before O behind it, before any of t
abbrev pub Marked : (Entry → Bool) → (Entry → Bool) → List Entry → Type 0
Marked w t [] = Unit {0}
Marked w t (e ∷ q) = (t e ≡ true) ⊎ ((w e ≡ true → Stands is_wo t q) × Marked w t q)
