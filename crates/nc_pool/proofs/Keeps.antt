-- One live seat's view changes, and the words with it.
use Rattle.std.proofs.Common.{◌≡◌, ◌≢◌, ◌⊎◌, ℕ, zero, suc, ◌+◌, ◌<◌, true, false, List, [], ◌∷◌, length, set, refl, sym, ap, ◌∙◌, subst, ⊎_elim, arith, true≢false}
use Rattle.std.specs.Prelude.{slice_index}
use mathlib.Core.Option.{some, some-injective, some-ne-none}
use mathlib.Core.Logic.{dite}
use native.Mathlib.Decide.{ℕ_discrete}
use lib.ListN.{get_elem?}
use Rattle.atomic_table.proofs.Lists.{at_set, set_here, set_else}
use Rattle.nc_pool.specs.declared.view.PoolView.{PoolView}
use Rattle.nc_pool.specs.declared.view.PoolView.TheVariants.{Root, Live, Gone}
use Rattle.nc_pool.specs.Views.{has, is_distinct, held_of, number_of, is_live}
use Rattle.nc_pool.specs.Rules.{Fits, IsPool}

pub at_below : {A : Type 0} (l : List A) (i : ℕ) (a : A) → get_elem? l i ≡ some a → i < length l
at_below [] i a e = absurd (some-ne-none a (sym e))
at_below (x ∷ xs) zero a e = omega arith
at_below (x ∷ xs) (suc i) a e = let r = at_below xs i a e in omega arith

pub live_of_held : (v : PoolView) (k : ℕ) → has k (held_of v) ≡ true → is_live v ≡ true
live_of_held (Root n) k h = h
live_of_held (Live n held log) k h = refl
live_of_held Gone k h = h

-- the first view is the root's, and so another than a live seat's
pub is_not_first : (views : List PoolView) (next id n : ℕ) (held : List ℕ) (log : List (ℕ × ℕ)) → get_elem? views 0 ≡ some (Root next) → get_elem? views id ≡ some (Live n held log) → 0 ≢ id
is_not_first views next id n held log first at e = true≢false (sym (ap is_live (some-injective (Root next) (Live n held log) (sym first ∙ (ap (get_elem? views) e ∙ at)))))

-- a view that was there, with the same number
abbrev Was : List PoolView → ℕ → PoolView → Type 0
Was views i v = (u : PoolView) × (get_elem? views i ≡ some u) × (is_live u ≡ is_live v) × (number_of u ≡ number_of v)

was : (views : List PoolView) (id n : ℕ) (held held' : List ℕ) (log log' : List (ℕ × ℕ)) → get_elem? views id ≡ some (Live n held log)
    → (i : ℕ) (v : PoolView) → get_elem? (set views id (Live n held' log')) i ≡ some v → Was views i v
was views id n held held' log log' at i v e =
    ⊎_elim
    (λ (t : (i ≡ id) × (Live n held' log' ≡ v)). subst (λ (y : ℕ × PoolView). Was views y.0 y.1) (λ x. (sym t.0 x, t.1 x)) (Live n held log, at, refl, refl))
    (λ (t : (i ≢ id) × (get_elem? views i ≡ some v)). (v, t.1, refl, refl))
    (at_set views id i (Live n held' log') v e)

pub keeps : (slots seats : ℕ) (words now : List ℕ) (views : List PoolView) (id n : ℕ) (held held' : List ℕ) (log log' : List (ℕ × ℕ))
    → IsPool slots seats words views → get_elem? views id ≡ some (Live n held log)
    → length now ≡ length words → slice_index now 0 ≡ 0 → is_distinct held' ≡ true
    → ((j : ℕ) → has j held' ≡ true → (j < slots) × (slice_index now (j + 1) ≡ n + 1))
    → ((j : ℕ) → slice_index words (j + 1) ≢ 0 → slice_index words (j + 1) ≢ n + 1 → slice_index now (j + 1) ≡ slice_index words (j + 1))
    → ((j : ℕ) → j < slots → slice_index now (j + 1) ≢ 0 → (has j held' ≡ true) ⊎ ((slice_index words (j + 1) ≢ 0) × (has j held ≡ false)))
    → IsPool slots seats now (set views id (Live n held' log'))
keeps slots seats words now views id n held held' log log' p at same first distinct mine others filled =
    let w : PoolView = Live n held' log' in
    let ours : Fits slots p.next now id w = record { root = λ h. absurd (cc); live = λ _. (p.fits id (Live n held log) at).live refl; distinct = distinct; held = mine } in
    record {
      next = p.next;
      within = p.within;
      wide = same ∙ p.wide;
      zero = first;
      first = set_else views id 0 w (is_not_first views p.next id n held log p.first at) ∙ p.first;
      fits = λ i v e. ⊎_elim
          (λ (t : (i ≡ id) × (w ≡ v)). subst (λ (y : ℕ × PoolView). Fits slots p.next now y.0 y.1) (λ x. (sym t.0 x, t.1 x)) ours)
          (λ (t : (i ≢ id) × (get_elem? views i ≡ some v)).
          let f = p.fits i v t.1 in
          record {
            root = f.root;
            live = f.live;
            distinct = f.distinct;
            held = λ j h.
                let o = f.held j h in
                let is : slice_index words (j + 1) ≡ number_of v + 1 = o.1 in
                let apart : slice_index words (j + 1) ≢ n + 1 = λ e'. t.0 (p.apart i id v (Live n held log) t.1 at (live_of_held v j h) refl (omega arith)) in
                (o.0, others j (λ z. absurd (omega arith)) apart ∙ is);
          })
          (at_set views id i w v e);
      apart = λ i j v u e e' l l' num.
          let a = was views id n held held' log log' at i v e in
          let b = was views id n held held' log log' at j u e' in
          p.apart i j a.0 b.0 a.1 b.1 (a.2 ∙ l) (b.2 ∙ l') (a.3 ∙ (num ∙ sym b.3));
      filled = λ j lt ne. ⊎_elim
          (λ (h : has j held' ≡ true). (id, w, set_here views id w (at_below views id (Live n held log) at), h))
          (λ (t : (slice_index words (j + 1) ≢ 0) × (has j held ≡ false)).
          let o = p.filled j lt t.0 in
          dite (ℕ_discrete o.0 id)
          (λ here. let v_is : o.1 ≡ Live n held log = some-injective _ _ (sym o.2 ∙ (ap (get_elem? views) here ∙ at)) in
          let has_it : has j held ≡ true = ap (λ v. has j (held_of v)) (sym v_is) ∙ o.3 in
          absurd (cc))
          (λ other. (o.0, o.1, set_else views id o.0 w other ∙ o.2, o.3)))
          (filled j lt ne);
    }
