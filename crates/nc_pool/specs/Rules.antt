-- The rule of a pool over its words and views, and what each atomic step tells. This project's own.
use Rattle.std.specs.Prelude.{◌≡◌, ◌≢◌, ◌⊎◌, ℕ, ◌+◌, ◌-◌, ◌<◌, ◌≤◌, true, false, List, length, slice_index}
use mathlib.Core.Option.{some}
use lib.ListN.{get_elem?}
use Rattle.atomic_table.specs.Table.{State, Me, Step}
use Rattle.nc_pool.specs.declared.view.PoolView.{PoolView}
use Rattle.nc_pool.specs.declared.view.PoolView.TheVariants.{Root}
use Rattle.nc_pool.specs.declared.view.PoolKey.{PoolKey}
use Rattle.nc_pool.specs.Views.{has, is_distinct, held_of, number_of, is_live, is_root, tried, given}

-- what one view, at the place i among the views, is to the words: the one root has the next number, a live seat's
-- number is below it, and the word of each held slot is the holder's number plus 1
pub record Fits (slots next : ℕ) (words : List ℕ) (i : ℕ) (v : PoolView) : Type 0 where
  pub root : is_root v ≡ true → (i ≡ 0) × (number_of v ≡ next)
  pub live : is_live v ≡ true → number_of v < next
  pub distinct : is_distinct (held_of v) ≡ true
  pub held : (k : ℕ) → has k (held_of v) ≡ true → (k < slots) × (slice_index words (k + 1) ≡ number_of v + 1)

-- some view holds k
abbrev pub IsHeld : List PoolView → ℕ → Type 0
IsHeld views k = (i : ℕ) × (v : PoolView) × (get_elem? views i ≡ some v) × (has k (held_of v) ≡ true)

-- the rule: word 0 is no slot, at most `seats` numbers were given, the root's view is there, with the next number, no two
-- live seats have one number, and a slot whose word is not 0 is held
pub record IsPool (slots seats : ℕ) (words : List ℕ) (views : List PoolView) : Type 0 where
  pub next : ℕ
  pub within : next ≤ seats
  pub wide : length words ≡ slots + 1
  pub zero : slice_index words 0 ≡ 0
  pub first : get_elem? views 0 ≡ some (Root next)
  pub fits : (i : ℕ) (v : PoolView) → get_elem? views i ≡ some v → Fits slots next words i v
  pub apart : (i j : ℕ) (v w : PoolView) → get_elem? views i ≡ some v → get_elem? views j ≡ some w → is_live v ≡ true → is_live w ≡ true → number_of v ≡ number_of w → i ≡ j
  pub filled : (k : ℕ) → k < slots → slice_index words (k + 1) ≢ 0 → IsHeld views k

-- the rule of a table whose key has the pool's size
abbrev pub Holds : PoolKey → State ℕ PoolView → Type 0
Holds key s = IsPool key.slots key.seats s.words s.views

-- a try of the word k + 1 tells the word found; a slot found free was not among those that the seat held
abbrev pub Tries : Step ℕ → Me ℕ PoolView → ℕ → Me ℕ PoolView → Type 0
Tries st me found after = (after ≡ (tried me.0 (st.word - 1) found, me.1)) × (found ≡ 0 → has (st.word - 1) (held_of me.0) ≡ false)

-- a swap of the word k + 1 to 0 gives the slot k back
abbrev pub Gives : Step ℕ → Me ℕ PoolView → ℕ → Me ℕ PoolView → Type 0
Gives st me found after = after ≡ (given me.0 (st.word - 1), me.1)

-- no view holds the slot k
abbrev pub IsFree : List ℕ → List PoolView → ℕ → Type 0
IsFree words views k = (slice_index words (k + 1) ≡ 0) × ((i : ℕ) (v : PoolView) → get_elem? views i ≡ some v → has k (held_of v) ≡ false)

-- the view v at the place i is the live seat whose word the slot k has; it holds k, and no other view does
pub record IsHeldBy (words : List ℕ) (views : List PoolView) (k i : ℕ) (v : PoolView) : Type 0 where
  pub there : get_elem? views i ≡ some v
  pub live : is_live v ≡ true
  pub word : slice_index words (k + 1) ≡ number_of v + 1
  pub holds : has k (held_of v) ≡ true
  pub alone : (j : ℕ) (u : PoolView) → get_elem? views j ≡ some u → has k (held_of u) ≡ true → j ≡ i

-- the law: whenever the rule holds, each slot is free and in no view, or is held by exactly one live seat, whose word it is
abbrev pub EachIsOwned : Type 0
EachIsOwned = (slots seats : ℕ) (words : List ℕ) (views : List PoolView) → IsPool slots seats words views → (k : ℕ) → k < slots
    → IsFree words views k ⊎ ((i : ℕ) × (v : PoolView) × IsHeldBy words views k i v)
