-- What a pool that serves keeps, and how many pieces are in use.
use Rattle.std.proofs.Common.{◌≡◌, ℕ, ◌+◌, ◌-◌, ◌<◌, Bool, true, false, List, [], length, replicate, refl, sym, ap, subst, ◌∙◌, arith, Option, Some, None, Result, Ok, Err}
use Rattle.std.specs.Prelude.{cond}
use Rattle.std.specs.Ordering.{nat_cmp}
use Rattle.std.specs.Cmp.{nat_cmp_total}
use Rattle.std.specs.FinSet as fin
use Rattle.std.specs.FinSet.{len-insert, len-remove, len-empty, contains-empty, empty_of_len}
use Rattle.std.proofs.lemmas.List.{length-replicate}
use Rattle.nc_num.specs.declared.places.Span.{Span}
use Rattle.nc_coherent.specs.Pages.{PageMap, lowest_span}
use Rattle.nc_dmapool.specs.declared.layout.PoolBad.{PoolBad}
use Rattle.nc_dmapool.specs.Layouts.{Layout}
use Rattle.nc_dmapool.specs.Pieces.{Pieces, Given, HasTaken, given, given_at, given_on, lowest_free, pool_of}
use Rattle.nc_pieces.specs.Serving.{IsServing, none_held}

some_is : (g h : Given) → Some g ≡ Some h → g ≡ h
some_is g h e = cc

-- what is given was added
Adds : Pieces → Option Given → Type 0
Adds p None = Unit {0}
Adds p (Some g) = g.pool.used ≡ fin.insert p.used g.at

on_adds : (p : Pieces) (m : PageMap) (o : Option Span) → Adds p (given_on p m o)
unfolding Adds
on_adds p m None = tt
on_adds p m (Some s) = refl

at_adds : (p : Pieces) (m : PageMap) (o : Option ℕ) → Adds p (given_at p m o)
unfolding Adds
at_adds p m None = on_adds p m (lowest_span m 1)
at_adds p m (Some x) = refl

given_adds : (p : Pieces) (m : PageMap) (g : Given) → given p m ≡ Some g → g.pool.used ≡ fin.insert p.used g.at
unfolding Adds
given_adds p m g e = subst (Adds p) e (at_adds p m (lowest_free p))

one_added : (b : Bool) (n : ℕ) → b ≡ false → cond b n (n + 1) ≡ n + 1
one_added true n e = absurd cc
one_added false n e = refl

pub given_counts : (p : Pieces) (m : PageMap) (g : Given) → given p m ≡ Some g → fin.contains p.used g.at ≡ false → fin.len g.pool.used ≡ fin.len p.used + 1
given_counts p m g e fresh =
    ap fin.len (given_adds p m g e) ∙ len-insert nat_cmp_total p.used g.at ∙ one_added (fin.contains p.used g.at) (fin.len p.used) fresh

-- after a free

one_taken : (b : Bool) (n : ℕ) → b ≡ true → cond b (n - 1) n ≡ n - 1
one_taken true n e = refl
one_taken false n e = absurd cc

pub freed_counts : (s : fin.FinSet nat_cmp) (x : ℕ) → fin.contains s x ≡ true → fin.len (fin.remove s x) ≡ fin.len s - 1
freed_counts s x e = len-remove nat_cmp_total s x ∙ one_taken (fin.contains s x) (fin.len s) e

none_is : (n : ℕ) → (n ≡ 0 → ⊥) → 0 < n
none_is n off = omega (arith, off)

pub one_used : (s : fin.FinSet nat_cmp) (x : ℕ) → fin.contains s x ≡ true → 0 < fin.len s
one_used s x e = none_is (fin.len s) (λ none. let off : false ≡ true = sym (ap (λ t. fin.contains t x) (empty_of_len s none) ∙ contains-empty nat_cmp x) ∙ e in cc)

-- at the start

IsEmpty : Result Pieces PoolBad → Type 0
IsEmpty (Ok p) = (p.pages ≡ []) × (p.used ≡ fin.empty)
IsEmpty (Err e) = Unit {0}

pool_is_empty : (r : Result Layout PoolBad) → IsEmpty (pool_of r)
unfolding IsEmpty
pool_is_empty (Ok l) = (refl, refl)
pool_is_empty (Err e) = tt

starts_empty : (r : Result Layout PoolBad) (p : Pieces) → pool_of r ≡ Ok p → (p.pages ≡ []) × (p.used ≡ fin.empty)
unfolding IsEmpty
starts_empty r p e = subst IsEmpty e (pool_is_empty r)

pub starts_with_none : (r : Result Layout PoolBad) (p : Pieces) → pool_of r ≡ Ok p → 0 ≡ fin.len p.used
starts_with_none r p e = sym (ap fin.len (starts_empty r p e).1 ∙ len-empty nat_cmp)

none_taken : (m : PageMap) (p : Pieces) → p.pages ≡ [] → HasTaken m p
none_taken m p e = record { taken = λ i lt. absurd (omega (arith, ap length e, lt)) }

pub starts_serving : (r : Result Layout PoolBad) (p : Pieces) (m : PageMap) (held : List (Option ℕ)) → pool_of r ≡ Ok p → length held ≡ 1000 → IsServing (record { pool = p; pages = m; held = held })
starts_serving r p m held e labels = record { pages = none_taken m p (starts_empty r p e).0; labels = labels }

-- so many labels, none of which has a piece
nobody : ℕ → List (Option ℕ)
nobody n = replicate n None

many_is : (n : ℕ) → n ≡ 1000 → nobody n ≡ none_held
unfolding none_held nobody
many_is n e = ap nobody e

pub held_is : (held : List (Option ℕ)) (n : ℕ) → n ≡ 1000 → held ≡ replicate n None → held ≡ none_held
unfolding nobody
held_is held n e is = is ∙ many_is n e

nobody_length : (n : ℕ) → length (nobody n) ≡ n
unfolding nobody
nobody_length n = length-replicate {A = Option ℕ} n None

many_length : (n : ℕ) → n ≡ 1000 → length none_held ≡ 1000
many_length n e = sym (ap length (many_is n e)) ∙ nobody_length n ∙ e

pub labels_many : length none_held ≡ 1000
labels_many = many_length 1000 refl
