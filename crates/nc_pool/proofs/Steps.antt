-- Each step keeps the rule.
use Rattle.std.proofs.Common.{◌≡◌, ◌≢◌, ◌⊎◌, ℕ, ◌+◌, ◌-◌, ◌<◌, ◌==◌, Bool, true, false, ◌||◌, List, [], ◌∷◌, ◌++◌, length, set, refl, sym, ap, ◌∙◌, subst, inl, inr, arith, eq-eqb, eqb-true, true≢false}
use Rattle.std.proofs.Math.ListN.{length-set}
use Rattle.std.specs.Prelude.{slice_index, if◌then◌else◌}
use Rattle.std.proofs.lemmas.List.{get_or-set_same, get_or-set_other, set-get_or}
use mathlib.Core.Option.{none, some}
use lib.ListN.{get_elem?}
use prog.Atomic.{either}
use Rattle.atomic_table.specs.Table.{Me, step, Allows, keeps as no_act}
use Rattle.nc_pool.specs.declared.view.PoolView.{PoolView}
use Rattle.nc_pool.specs.declared.view.PoolView.TheVariants.{Live}
use Rattle.nc_pool.specs.declared.view.PoolKey.{PoolKey}
use Rattle.nc_pool.specs.Views.{has, without}
use Rattle.nc_pool.specs.Rules.{IsPool, Holds, Tries, Gives}
use Rattle.nc_pool.proofs.Keeps.{keeps}
use Rattle.nc_pool.proofs.Without.{has-without, not_has-without, distinct-without, has-push, distinct-push}

-- a slot whose word is not n + 1 is not held
not_held : (slots seats : ℕ) (words : List ℕ) (views : List PoolView) (id n k : ℕ) (held : List ℕ) (log : List (ℕ × ℕ)) → IsPool slots seats words views → get_elem? views id ≡ some (Live n held log)
    → slice_index words (k + 1) ≡ 0 → (b : Bool) → has k held ≡ b → has k held ≡ false
not_held slots seats words views id n k held log p at z false h = h
not_held slots seats words views id n k held log p at z true h = let o = ((p.fits id (Live n held log) at).held k h).1 in absurd (omega arith)

apart_of : (k j : ℕ) → (k == j) ≡ false → j ≢ k
apart_of k j e same = true≢false (sym (eq-eqb k j (sym same)) ∙ e)

-- the slot k joins those that are held
taken : (P : ℕ → Type 0) (k j : ℕ) (held : List ℕ) → P k → (j ≢ k → has j held ≡ true → P j) → (b : Bool) → (k == j) ≡ b → (b || has j held) ≡ true → P j
taken P k j held mine others true e h = subst P (eqb-true k j e) mine
taken P k j held mine others false e h = others (apart_of k j e) h

taken_or : (Q : Type 0) (k j : ℕ) (held : List ℕ) → (j ≢ k → Q) → (b c : Bool) → (k == j) ≡ b → has j held ≡ c → ((b || c) ≡ true) ⊎ (Q × (c ≡ false))
taken_or Q k j held q true c e h = inl refl
taken_or Q k j held q false true e h = inl refl
taken_or Q k j held q false false e h = inr (q (apart_of k j e), refl)

-- the word of a free slot becomes n + 1
got : (slots seats : ℕ) (words : List ℕ) (views : List PoolView) (id n k : ℕ) (held : List ℕ) (log log' : List (ℕ × ℕ)) → IsPool slots seats words views → get_elem? views id ≡ some (Live n held log)
    → k < slots → slice_index words (k + 1) ≡ 0 → IsPool slots seats (set words (k + 1) (n + 1)) (set views id (Live n (held ++ k ∷ []) log'))
got slots seats words views id n k held log log' p at lt z =
    let f = p.fits id (Live n held log) at in
    let free : has k held ≡ false = not_held slots seats words views id n k held log p at z (has k held) refl in
    let wide : length words ≡ slots + 1 = p.wide in
    let now : List ℕ = set words (k + 1) (n + 1) in
    let here : slice_index (set words (k + 1) (n + 1)) (k + 1) ≡ n + 1 = get_or-set_same words (k + 1) (n + 1) 0 (omega arith) in
    let there : (j : ℕ) → j ≢ k → slice_index (set words (k + 1) (n + 1)) (j + 1) ≡ slice_index words (j + 1) = λ j ne. get_or-set_other words (k + 1) (j + 1) (n + 1) 0 (λ e. ne (omega arith)) in
    keeps slots seats words (set words (k + 1) (n + 1)) views id n held (held ++ k ∷ []) log log' p at (length-set words (k + 1) (n + 1)) (get_or-set_other words (k + 1) 0 (n + 1) 0 (λ e. absurd (omega arith)) ∙ p.zero) (distinct-push k held f.distinct free)
    (λ j h'. taken (λ i. (i < slots) × (slice_index (set words (k + 1) (n + 1)) (i + 1) ≡ n + 1)) k j held (lt, here) (λ ne h. let o = f.held j h in (o.0, there j ne ∙ o.1)) (k == j) refl (sym (has-push j k held) ∙ h'))
    (λ j some other. there j (λ e. some (ap (λ i. slice_index words (i + 1)) e ∙ z)))
    (λ j lt' ne. subst (λ (t : Bool). (t ≡ true) ⊎ ((slice_index words (j + 1) ≢ 0) × (has j held ≡ false))) (sym (has-push j k held)) (taken_or (slice_index words (j + 1) ≢ 0) k j held (λ apart z'. ne (there j apart ∙ z')) (k == j) (has j held) refl refl))

-- the word stays, and the log grows
logged : (slots seats : ℕ) (words : List ℕ) (views : List PoolView) (id n : ℕ) (held : List ℕ) (log log' : List (ℕ × ℕ)) → IsPool slots seats words views → get_elem? views id ≡ some (Live n held log)
    → IsPool slots seats words (set views id (Live n held log'))
logged slots seats words views id n held log log' p at =
    let f = p.fits id (Live n held log) at in
    keeps slots seats words words views id n held held log log' p at refl p.zero f.distinct f.held (λ j _ _. refl) (λ j lt ne. fill j ne (has j held) refl)
  where
    fill : (j : ℕ) → slice_index words (j + 1) ≢ 0 → (c : Bool) → has j held ≡ c → (c ≡ true) ⊎ ((slice_index words (j + 1) ≢ 0) × (c ≡ false))
    fill j ne true h = inl refl
    fill j ne false h = inr (ne, refl)

-- a try, whatever the word is
try_goes : (slots seats : ℕ) (words : List ℕ) (views : List PoolView) (id n k : ℕ) (held : List ℕ) (log : List (ℕ × ℕ)) → IsPool slots seats words views → get_elem? views id ≡ some (Live n held log) → k < slots
    → (b : Bool) → (slice_index words (k + 1) == 0) ≡ b
    → IsPool slots seats (set words (k + 1) (either b (n + 1) (slice_index words (k + 1)))) (set views id (Live n (if b then held ++ k ∷ [] else held) (log ++ (k, slice_index words (k + 1)) ∷ [])))
try_goes slots seats words views id n k held log p at lt true e = got slots seats words views id n k held log (log ++ (k, slice_index words (k + 1)) ∷ []) p at lt (eqb-true _ _ e)
try_goes slots seats words views id n k held log p at lt false e =
    subst (λ ws. IsPool slots seats ws (set views id (Live n held (log ++ (k, slice_index words (k + 1)) ∷ [])))) (sym (set-get_or words (k + 1) 0)) (logged slots seats words views id n held log (log ++ (k, slice_index words (k + 1)) ∷ []) p at)

pub tries : (key : PoolKey) (slots id n k : ℕ) (held : List ℕ) (log : List (ℕ × ℕ)) → k < key.slots
    → Allows (Holds key) slots id (Live n held log, []) (k + 1) (λ m. either (m == 0) (n + 1) m) (Tries (step slots (k + 1) 0 (n + 1) none) (Live n held log, []))
tries key slots id n k held log lt s h _ at _ =
    let found = slice_index s.words (k + 1) in
    let place : k + 1 - 1 ≡ k = omega arith in (
      Live n (if found == 0 then held ++ k ∷ [] else held) (log ++ (k, found) ∷ []),
      no_act,
      tt,
      try_goes key.slots key.seats s.words s.views id n k held log h at lt (found == 0) refl,
      (λ i. (Live n (if found == 0 then held ++ sym place i ∷ [] else held) (log ++ (sym place i, found) ∷ []), []), λ z. ap (λ j. has j held) place ∙ not_held key.slots key.seats s.words s.views id n k held log h at z (has k held) refl),
    )

pub tries_as : (key : PoolKey) (slots id n k : ℕ) (me : Me ℕ PoolView) (held : List ℕ) (log : List (ℕ × ℕ)) → me ≡ (Live n held log, []) → k < key.slots
    → Allows (Holds key) slots id me (k + 1) (λ m. either (m == 0) (n + 1) m) (Tries (step slots (k + 1) 0 (n + 1) none) me)
tries_as key slots id n k me held log is lt =
    subst (λ (m : Me ℕ PoolView). Allows (Holds key) slots id m (k + 1) (λ m'. either (m' == 0) (n + 1) m') (Tries (step slots (k + 1) 0 (n + 1) none) m)) (sym is) (tries key slots id n k held log lt)

-- the word of a slot that the seat holds becomes 0
gave : (slots seats : ℕ) (words : List ℕ) (views : List PoolView) (id n k : ℕ) (held : List ℕ) (log : List (ℕ × ℕ)) → IsPool slots seats words views → get_elem? views id ≡ some (Live n held log)
    → has k held ≡ true → IsPool slots seats (set words (k + 1) 0) (set views id (Live n (without k held) log))
gave slots seats words views id n k held log p at holds =
    let f = p.fits id (Live n held log) at in
    let mine = f.held k holds in
    let lt : k < slots = mine.0 in
    let is : slice_index words (k + 1) ≡ n + 1 = mine.1 in
    let wide : length words ≡ slots + 1 = p.wide in
    let here : slice_index (set words (k + 1) 0) (k + 1) ≡ 0 = get_or-set_same words (k + 1) 0 0 (omega arith) in
    let there : (j : ℕ) → j ≢ k → slice_index (set words (k + 1) 0) (j + 1) ≡ slice_index words (j + 1) = λ j ne. get_or-set_other words (k + 1) (j + 1) 0 0 (λ e. ne (omega arith)) in
    keeps slots seats words (set words (k + 1) 0) views id n held (without k held) log log p at (length-set words (k + 1) 0) (get_or-set_other words (k + 1) 0 0 0 (λ e. absurd (omega arith)) ∙ p.zero) (distinct-without k held f.distinct)
    (λ j h.
    let apart : j ≢ k = λ e. true≢false (sym h ∙ (ap (λ i. has i (without k held)) e ∙ not_has-without k held)) in
    let o = f.held j (sym (has-without j k held apart) ∙ h) in
    (o.0, there j apart ∙ o.1))
    (λ j some other. there j (λ e. other (ap (λ i. slice_index words (i + 1)) e ∙ is)))
    (λ j lt' ne.
    let apart : j ≢ k = λ e. ne (ap (λ i. slice_index (set words (k + 1) 0) (i + 1)) e ∙ here) in
    fill j apart (λ z'. ne (there j apart ∙ z')) (has j held) refl)
  where
    fill : (j : ℕ) → j ≢ k → slice_index words (j + 1) ≢ 0 → (c : Bool) → has j held ≡ c → (has j (without k held) ≡ true) ⊎ ((slice_index words (j + 1) ≢ 0) × (has j held ≡ false))
    fill j apart ne true h = inl (has-without j k held apart ∙ h)
    fill j apart ne false h = inr (ne, h)

pub gives_as : (key : PoolKey) (slots id n k : ℕ) (me : Me ℕ PoolView) (held : List ℕ) (log : List (ℕ × ℕ)) → me ≡ (Live n held log, []) → has k held ≡ true
    → Allows (Holds key) slots id me (k + 1) (λ _. 0) (Gives (step slots (k + 1) 0 0 none) me)
gives_as key slots id n k me held log is holds =
    subst (λ (m : Me ℕ PoolView). Allows (Holds key) slots id m (k + 1) (λ _. 0) (Gives (step slots (k + 1) 0 0 none) m)) (sym is)
    (λ s h _ at _.
    let place : k + 1 - 1 ≡ k = omega arith in
    (Live n (without k held) log, no_act, tt, gave key.slots key.seats s.words s.views id n k held log h at holds, λ i. (Live n (without (sym place i) held) log, [])))

-- the slots that a seat holds after a try have words
pub bounds_after : (words k found : ℕ) (held : List ℕ) → k + 1 < words → ((j : ℕ) → has j held ≡ true → j + 1 < words)
    → (b : Bool) (j : ℕ) → has j (if b then held ++ k ∷ [] else held) ≡ true → j + 1 < words
bounds_after words k found held lt all true j h = taken (λ i. i + 1 < words) k j held lt (λ _ h'. all j h') (k == j) refl (sym (has-push j k held) ∙ h)
bounds_after words k found held lt all false j h = all j h
