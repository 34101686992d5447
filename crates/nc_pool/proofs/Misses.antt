-- One miss more.
use Rattle.std.proofs.Common.{◌≡◌, ◌≢◌, ℕ, ◌+◌, Bool, true, false, not, ◌&&◌, List, [], ◌∷◌, ◌++◌, length, refl, ap, ◌∙◌, arith, ne_eqb, eq-eqb, length-append, append_assoc}
use Rattle.nc_pool.specs.Answers.{misses_from, AreMisses}

and_parts : (a b : Bool) → (a && b) ≡ true → (a ≡ true) × (b ≡ true)
and_parts true b e = (refl, e)
and_parts false b e = absurd (cc)

both : (a b : Bool) → a ≡ true → b ≡ true → (a && b) ≡ true
both a b p q = ap (λ t. t && b) p ∙ q

misses_from-push : (i k w : ℕ) (ts : List (ℕ × ℕ)) → misses_from i ts ≡ true → k ≡ i + length ts → w ≢ 0 → misses_from i (ts ++ (k, w) ∷ []) ≡ true
misses_from-push i k w [] h place some = both _ _ (eq-eqb k i (omega arith)) (both _ _ (ap not (ne_eqb w 0 some)) refl)
misses_from-push i k w (t ∷ ts) h place some =
    let p = and_parts _ _ h in
    let q = and_parts _ _ p.1 in
    both _ _ p.0 (both _ _ q.0 (misses_from-push (i + 1) k w ts q.1 (omega arith) some))

pub one_more : (k w : ℕ) (ts log log' : List (ℕ × ℕ)) → AreMisses k ts → w ≢ 0 → log' ≡ (log ++ ts) ++ (k, w) ∷ [] → (ts' : List (ℕ × ℕ)) × AreMisses (k + 1) ts' × (log' ≡ log ++ ts')
one_more k w ts log log' h some is =
    (ts ++ (k, w) ∷ [], (omega (arith, length-append ts ((k, w) ∷ []), h.0), misses_from-push 0 k w ts h.1 (omega (arith, h.0)) some), is ∙ append_assoc log ts ((k, w) ∷ []))
