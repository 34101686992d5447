-- What a push and a drain leave of a queue.
use Rattle.std.specs.Prelude.{◌≡◌, ◌⊎◌, ℕ, Bool, true, false, List, [], ◌∷◌, ◌++◌, Some, unwrap_or, remove, filter}
use Rattle.std.specs.List.{list_any}
use Rattle.std.specs.Option.{option_or}
use Rattle.nc_num.specs.Sizes.{IsBlockSize}
use Rattle.nc_queue.specs.Entries.{AllFit, entry_gives, is_w, is_o, is_wo}
use Rattle.nc_queue.specs.Rules.{gives, drained}
use Rattle.nc_queue.specs.declared.entry.Entry.{Entry}

-- an entry of m stands in the queue, before any of t
abbrev pub Stands : (Entry → Bool) → (Entry → Bool) → List Entry → Type 0
Stands m t [] = ⊥
Stands m t (e ∷ q) = (m e ≡ true) ⊎ ((t e ≡ false) × Stands m t q)

-- each entry of p has one of m behind it, before any of t, and none of p stands behind one of t
abbrev pub Covered : (Entry → Bool) → (Entry → Bool) → (Entry → Bool) → List Entry → Type 0
Covered p m t [] = Unit {0}
Covered p m t (e ∷ q) = (p e ≡ true → Stands m t q) × (t e ≡ true → list_any p q ≡ false) × Covered p m t q

-- the byte of a pushed entry is the newest
abbrev pub PushIsNewest : Type 0
PushIsNewest = (s : ℕ) (q : List Entry) (e : Entry) (x : ℕ) → gives s (q ++ e ∷ []) x ≡ option_or (entry_gives s e x) (gives s q x)

-- an entry that drains goes below those that stay: the byte seen at each place is the same
abbrev pub DrainKeepsBytes : Type 0
DrainKeepsBytes =
    (s : ℕ) (q : List Entry) (i : ℕ) (e : Entry) (x below : ℕ) → IsBlockSize s → AllFit s q → drained s q i ≡ Some e
    → unwrap_or (gives s (remove q i) x) (unwrap_or (entry_gives s e x) below) ≡ unwrap_or (gives s q x) below

-- where each entry of p, all of class W, has a marker of W before O behind it, an entry of t and class O that drains
-- leaves none of p
abbrev pub MarkersKeepOrder : Type 0
MarkersKeepOrder =
    (s : ℕ) (p t : Entry → Bool) (q : List Entry) (i : ℕ) (e : Entry) → ((a : Entry) → p a ≡ true → is_w a ≡ true) → Covered p is_wo t q
    → drained s q i ≡ Some e → t e ≡ true → is_o e ≡ true → list_any p (remove q i) ≡ false

-- entries of class O drain in order
abbrev pub OutputsInOrder : Type 0
OutputsInOrder =
    (s : ℕ) (q : List Entry) (i : ℕ) (e : Entry) → drained s q i ≡ Some e → is_o e ≡ true
    → filter is_o q ≡ e ∷ filter is_o (remove q i)
