-- A new seat, and a seat that ends.
use Rattle.std.proofs.Common.{◌≡◌, ◌≢◌, ◌⊎◌, ℕ, zero, suc, ◌+◌, ◌<◌, true, false, List, [], ◌∷◌, ◌++◌, length, set, refl, sym, ap, ◌∙◌, subst, ⊎_elim, inl, inr, arith, true≢false}
use mathlib.Core.Option.{some, some-injective, some-ne-none}
use lib.ListN.{get_elem?}
use Rattle.atomic_table.specs.Table.{Me, Splits, Joins}
use Rattle.atomic_table.proofs.Lists.{at_set, at_longer, set_here, set_else, set_again}
use Rattle.nc_pool.specs.declared.view.PoolView.{PoolView}
use Rattle.nc_pool.specs.declared.view.PoolView.TheVariants.{Root, Live, Gone}
use Rattle.nc_pool.specs.declared.view.PoolKey.{PoolKey}
use Rattle.nc_pool.specs.Views.{has, held_of, number_of, is_live, after_seat, new_seat}
use Rattle.nc_pool.specs.Rules.{Fits, IsPool, Holds}
use Rattle.nc_pool.proofs.Keeps.{at_below, is_not_first}

at_end : {A : Type 0} (l : List A) (a b : A) (j : ℕ) → get_elem? (l ++ a ∷ []) j ≡ some b → (get_elem? l j ≡ some b) ⊎ ((j ≡ length l) × (a ≡ b))
at_end [] a b zero e = inr (refl, some-injective a b e)
at_end [] a b (suc j) e = absurd (some-ne-none b (sym e))
at_end (x ∷ xs) a b zero e = inl e
at_end (x ∷ xs) a b (suc j) e = ⊎_elim (λ t. inl t) (λ t. inr (ap suc t.0, t.1)) (at_end xs a b j e)

off : false ≡ true → ⊥
off e = true≢false (sym e)

-- after a new seat a live view was there, or is the new one
LiveCase : List PoolView → ℕ → ℕ → ℕ → PoolView → Type 0
LiveCase views long n i v = (get_elem? views i ≡ some v) ⊎ ((i ≡ long) × (number_of v ≡ n))

live_case : (views : List PoolView) (id n i : ℕ) (v : PoolView) → get_elem? (set views id (Root (n + 1)) ++ Live n [] [] ∷ []) i ≡ some v → is_live v ≡ true
    → (get_elem? views i ≡ some v) ⊎ ((i ≡ length (set views id (Root (n + 1)))) × (number_of v ≡ n))
live_case views id n i v e live =
    ⊎_elim
    (λ (o : get_elem? (set views id (Root (n + 1))) i ≡ some v).
    ⊎_elim
    (λ (t : (i ≡ id) × (Root (n + 1) ≡ v)). absurd (off (ap is_live t.1 ∙ live)))
    (λ (t : (i ≢ id) × (get_elem? views i ≡ some v)). inl t.1)
    (at_set views id i (Root (n + 1)) v o))
    (λ (t : (i ≡ length (set views id (Root (n + 1)))) × (Live n [] [] ≡ v)). inr (t.0, ap number_of (sym t.1)))
    (at_end (set views id (Root (n + 1))) (Live n [] []) v i e)

seated : (slots seats : ℕ) (words : List ℕ) (views : List PoolView) (id n : ℕ) → IsPool slots seats words views → get_elem? views id ≡ some (Root n) → n < seats
    → IsPool slots seats words (set views id (Root (n + 1)) ++ Live n [] [] ∷ [])
seated slots seats words views id n p at lt =
    let r = (p.fits id (Root n) at).root refl in
    let is : n ≡ p.next = r.1 in
    record {
      next = n + 1;
      within = omega arith;
      wide = p.wide;
      zero = p.zero;
      first = subst (λ (j : ℕ). get_elem? (set views id (Root (n + 1)) ++ Live n [] [] ∷ []) j ≡ some (Root (n + 1))) r.0
          (at_longer (set views id (Root (n + 1))) (Live n [] [] ∷ []) id (Root (n + 1)) (set_here views id (Root (n + 1)) (at_below views id (Root n) at)));
      fits = λ i v e. ⊎_elim
          (λ (o : get_elem? (set views id (Root (n + 1))) i ≡ some v).
          ⊎_elim
          (λ (t : (i ≡ id) × (Root (n + 1) ≡ v)). subst (Fits slots (n + 1) words i) t.1
          record { root = λ _. (t.0 ∙ r.0, refl); live = λ h. absurd (off h); distinct = refl; held = λ k h. absurd (off h) })
          (λ (t : (i ≢ id) × (get_elem? views i ≡ some v)).
          let f = p.fits i v t.1 in
          record {
            root = λ h. absurd (t.0 ((f.root h).0 ∙ sym r.0));
            live = λ h. let l : number_of v < p.next = f.live h in omega arith;
            distinct = f.distinct;
            held = f.held;
          })
          (at_set views id i (Root (n + 1)) v o))
          (λ (t : (i ≡ length (set views id (Root (n + 1)))) × (Live n [] [] ≡ v)). subst (Fits slots (n + 1) words i) t.1
          record { root = λ h. absurd (off h); live = λ _. omega arith; distinct = refl; held = λ k h. absurd (off h) })
          (at_end (set views id (Root (n + 1))) (Live n [] []) v i e);
      apart = λ i j v u e e' l l' same.
          ⊎_elim
          (λ (a : get_elem? views i ≡ some v).
          ⊎_elim
          (λ (b : get_elem? views j ≡ some u). p.apart i j v u a b l l' same)
          (λ (b : (j ≡ length (set views id (Root (n + 1)))) × (number_of u ≡ n)). let below : number_of v < p.next = (p.fits i v a).live l in absurd (omega arith))
          (live_case views id n j u e' l'))
          (λ (a : (i ≡ length (set views id (Root (n + 1)))) × (number_of v ≡ n)).
          ⊎_elim
          (λ (b : get_elem? views j ≡ some u). let below : number_of u < p.next = (p.fits j u b).live l' in absurd (omega arith))
          (λ (b : (j ≡ length (set views id (Root (n + 1)))) × (number_of u ≡ n)). a.0 ∙ sym b.0)
          (live_case views id n j u e' l'))
          (live_case views id n i v e l);
      filled = λ k lt' ne.
          let o = p.filled k lt' ne in
          let other : o.0 ≢ id = λ here. let v_is : o.1 ≡ Root n = some-injective _ _ (sym o.2 ∙ (ap (get_elem? views) here ∙ at)) in off (sym (ap (λ v. has k (held_of v)) v_is) ∙ o.3) in
          (o.0, o.1, at_longer (set views id (Root (n + 1))) (Live n [] [] ∷ []) o.0 o.1 (set_else views id o.0 (Root (n + 1)) other ∙ o.2), o.3);
    }

pub seats_as : (key : PoolKey) (id n : ℕ) (me : Me ℕ PoolView) → me ≡ (Root n, []) → n < key.seats → Splits (Holds key) id me.0 (after_seat me.0) (new_seat me.0)
seats_as key id n me is lt =
    subst (λ (m : Me ℕ PoolView). Splits (Holds key) id m.0 (after_seat m.0) (new_seat m.0)) (sym is) (λ s h at. seated key.slots key.seats s.words s.views id n h at lt)

ended : (slots seats : ℕ) (words : List ℕ) (views : List PoolView) (other m : ℕ) (log : List (ℕ × ℕ)) → IsPool slots seats words views → get_elem? views other ≡ some (Live m [] log)
    → IsPool slots seats words (set views other Gone)
ended slots seats words views other m log p at =
    let old : (i : ℕ) (v : PoolView) → get_elem? (set views other Gone) i ≡ some v → is_live v ≡ true → get_elem? views i ≡ some v = λ i v e l.
    ⊎_elim
    (λ (t : (i ≡ other) × (Gone ≡ v)). absurd (off (ap is_live t.1 ∙ l)))
    (λ (t : (i ≢ other) × (get_elem? views i ≡ some v)). t.1)
    (at_set views other i Gone v e)
    in
    record {
      next = p.next;
      within = p.within;
      wide = p.wide;
      zero = p.zero;
      first = set_else views other 0 Gone (is_not_first views p.next other m [] log p.first at) ∙ p.first;
      fits = λ i v e. ⊎_elim
          (λ (t : (i ≡ other) × (Gone ≡ v)). subst (Fits slots p.next words i) t.1 record { root = λ h. absurd (off h); live = λ h. absurd (off h); distinct = refl; held = λ k h. absurd (off h) })
          (λ (t : (i ≢ other) × (get_elem? views i ≡ some v)). p.fits i v t.1)
          (at_set views other i Gone v e);
      apart = λ i j v u e e' l l' same. p.apart i j v u (old i v e l) (old j u e' l') l l' same;
      filled = λ k lt ne.
          let o = p.filled k lt ne in
          let apart : o.0 ≢ other = λ here. let v_is : o.1 ≡ Live m [] log = some-injective _ _ (sym o.2 ∙ (ap (get_elem? views) here ∙ at)) in off (sym (ap (λ v. has k (held_of v)) v_is) ∙ o.3) in
          (o.0, o.1, set_else views other o.0 Gone apart ∙ o.2, o.3);
    }

-- the root's view stays, and the other seat's is spent
pub joins_as : (key : PoolKey) (id other m : ℕ) (v : PoolView) (them : Me ℕ PoolView) (log : List (ℕ × ℕ)) → them ≡ (Live m [] log, []) → Joins (Holds key) id v other them.0 v Gone
joins_as key id other m v them log is s h at apart there =
    let whole : set s.views id v ≡ s.views = set_again s.views id v at in
    let seen : get_elem? s.views other ≡ some (Live m [] log) = ap (λ l. get_elem? l other) (sym whole) ∙ (there ∙ ap (λ (t : Me ℕ PoolView). some t.0) is) in
    subst (λ (l : List PoolView). IsPool key.slots key.seats s.words (set l other Gone)) (sym whole) (ended key.slots key.seats s.words s.views other m log h seen)
