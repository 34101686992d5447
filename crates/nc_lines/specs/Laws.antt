-- What a drain of its queue leaves of a line, as statements.
use Rattle.std.specs.Prelude.{ℕ, ◌≡◌, ◌⊎◌, Bool, true, false, List, [], ◌∷◌, ◌++◌, map, Some, None, remove, All}
use Rattle.std.specs.List.{list_any}
use Rattle.nc_queue.specs.Entries.{has_block, is_w, is_o, is_wo}
use Rattle.nc_queue.specs.Rules.{gives, drained}
use Rattle.nc_queue.specs.Laws.{Stands, Covered}
use Rattle.nc_queue.specs.declared.entry.Entry.{Entry}
use Rattle.nc_lines.specs.Lines.{bare, line, gives_at, Marked}

-- all entries of a test are of class W, or of one block
abbrev pub OfW : (Entry → Bool) → Type 0
OfW p = (a : Entry) → p a ≡ true → is_w a ≡ true

abbrev pub OfBlock : ℕ → ℕ → (Entry → Bool) → Type 0
OfBlock s b p = (a : Entry) → p a ≡ true → has_block s b a ≡ true

-- those of a queue are of one block
abbrev pub InBlock : ℕ → ℕ → (Entry → Bool) → List Entry → Type 0
InBlock s b p q = All (λ a. p (bare a) ≡ true → has_block s b a ≡ true) q

-- no entry is of both tests
abbrev pub Apart : (Entry → Bool) → (Entry → Bool) → Type 0
Apart p t = (a : Entry) → p a ≡ true → t a ≡ false

-- from a line of q with r behind it entry i, e, drains
pub record LineLoses (s : ℕ) (q r : List Entry) (i : ℕ) (e : Entry) : Type 0 where
  -- it drains from the line as it does from its queue, and the same is left
  pub drains : drained s (line q r) i ≡ Some (bare e)
  pub left : line (remove q i) r ≡ remove (line q r) i
  -- each of p keeps its marker of W before O
  pub marked_cover : (p t : Entry → Bool) → OfW p → Covered p is_wo t (line q r) → Covered p is_wo t (line (remove q i) r)
  -- of one block, each of p keeps one of w behind it
  pub block_cover : (p w t : Entry → Bool) (b : ℕ) → InBlock s b p q → OfBlock s b w → Covered p w t (line q r) → Covered p w t (line (remove q i) r)
  -- markers stay between w and t as an entry drains that is not of t
  pub still_marked : (w t : Entry → Bool) → OfW w → t (bare e) ≡ false → Marked w t (line q r) → Marked w t (line (remove q i) r)
  -- an entry of t and class O drains only when none of w stands before it
  pub none_before : (w t : Entry → Bool) → OfW w → Apart w t → t (bare e) ≡ true → is_o e ≡ true → Marked w t (line q r) → Stands w t (line q r) → ⊥
  -- and leaves none of p that its markers covered
  pub none_left : (p t : Entry → Bool) → OfW p → t (bare e) ≡ true → is_o e ≡ true → Covered p is_wo t (line q r) → list_any p (line (remove q i) r) ≡ false
  -- one of w that stood is gone only if this was one
  pub still_stands : (w t : Entry → Bool) → w (bare e) ≡ false → Stands w t (line q r) → Stands w t (line (remove q i) r)
  -- what was not there does not come to be there
  pub none : (p : Entry → Bool) → list_any p (line q r) ≡ false → list_any p (line (remove q i) r) ≡ false

pub record LinesDrain : Type 0 where
  pub entry : (s : ℕ) (q r : List Entry) (i : ℕ) (e : Entry) → drained s q i ≡ Some e → LineLoses s q r i e

-- an entry comes into the queue of a line, before what is still to come
pub record LineGains (q r : List Entry) (e : Entry) : Type 0 where
  -- one that was to come next leaves the line as it was
  pub same : line (q ++ e ∷ []) r ≡ line q (bare e ∷ r)
  -- one that is neither of p nor of t leaves what stands and what is covered
  pub still_stands : (w t : Entry → Bool) → t (bare e) ≡ false → Stands w t (line q r) → Stands w t (line (q ++ e ∷ []) r)
  pub still_covered : (p w t : Entry → Bool) → p (bare e) ≡ false → t (bare e) ≡ false → Covered p w t (line q r) → Covered p w t (line (q ++ e ∷ []) r)
  -- one that is not of w, or comes behind one of t, leaves what is marked
  pub still_marked : (w t : Entry → Bool) → t (bare e) ≡ false → (w (bare e) ≡ false) ⊎ (list_any t (map bare q) ≡ true) → Marked w t (line q r) → Marked w t (line (q ++ e ∷ []) r)
  -- what is not there was not there
  pub was_none : (p : Entry → Bool) → list_any p (line (q ++ e ∷ []) r) ≡ false → list_any p (line q r) ≡ false

pub record LinesGain : Type 0 where
  pub entry : (q r : List Entry) (e : Entry) → LineGains q r e

-- a line as it stands
pub record LinesCover : Type 0 where
  pub stands_or_not : (w t : Entry → Bool) (l : List Entry) → Stands w t l ⊎ (Stands w t l → ⊥)
  -- where none of w is left before t there is none of p
  pub uncovered : (p w t : Entry → Bool) (l : List Entry) → Apart p t → Covered p w t l → (Stands w t l → ⊥) → list_any p l ≡ false
  -- what a line has not, neither its queue has nor what comes
  pub of_queue : (p : Entry → Bool) (q r : List Entry) → ((a : Entry) → p (bare a) ≡ p a) → list_any p (line q r) ≡ false → list_any p q ≡ false
  pub of_coming : (p : Entry → Bool) (q r : List Entry) → list_any p (line q r) ≡ false → list_any p r ≡ false
  -- a queue gives a byte where some entry of it does
  pub gives_none : (s x : ℕ) (q : List Entry) → list_any (gives_at s x) q ≡ false → gives s q x ≡ None
  pub none_gives : (s x : ℕ) (q : List Entry) → gives s q x ≡ None → list_any (gives_at s x) q ≡ false
