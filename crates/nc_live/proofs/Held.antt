-- Which slots are held, by tests of each; and the slots that are left when some are given back one after another.
use Rattle.std.proofs.Common.{◌≡◌, ℕ, ◌+◌, ◌<◌, ◌≤◌, ◌==◌, ◌||◌, ◌&&◌, not, Bool, true, false, List, [], ◌∷◌, refl, sym, ap, ◌∙◌, arith}
use native.Mathlib.Decide.{ℕ_discrete}
use Rattle.std.specs.List.{list_any}
use Rattle.nc_pool.specs.Views.{has, without}
use Rattle.nc_pool.proofs.Without.{has-without, not_has-without}

pub has_is_any : (k : ℕ) (xs : List ℕ) → list_any (λ x. x == k) xs ≡ has k xs
has_is_any k [] = refl
has_is_any k (x ∷ xs) = ap (λ b. (x == k) || b) (has_is_any k xs)

and_false : (a : Bool) → (a && false) ≡ false
and_false true = refl
and_false false = refl

and_true : (a : Bool) → (a && true) ≡ a
and_true true = refl
and_true false = refl

-- of the slots ys those below k that pass the test are left, and all from k on
pub record Sifted (k : ℕ) (f : ℕ → Bool) (ys xs : List ℕ) : Type 0 where
  pub done : (j : ℕ) → j < k → has j xs ≡ (has j ys && f j)
  pub rest : (j : ℕ) → k ≤ j → has j xs ≡ has j ys

gives_done : (k : ℕ) (f : ℕ → Bool) (ys xs : List ℕ) → Sifted k f ys xs → f k ≡ false → (j : ℕ) → j < k + 1 → Dec (j ≡ k) → has j (without k xs) ≡ (has j ys && f j)
gives_done k f ys xs s fails j below (yes same) = ap (λ i. has i (without k xs)) same ∙ (not_has-without k xs ∙ (sym (and_false (has j ys)) ∙ ap (λ b. has j ys && b) (sym (ap f same ∙ fails))))
gives_done k f ys xs s fails j below (no apart) = has-without j k xs apart ∙ s.done j (omega arith)

-- a slot that fails the test is given back
pub sifted_give : (k : ℕ) (f : ℕ → Bool) (ys xs : List ℕ) → Sifted k f ys xs → f k ≡ false → Sifted (k + 1) f ys (without k xs)
sifted_give k f ys xs s fails = record {
  done = λ j below. gives_done k f ys xs s fails j below (ℕ_discrete j k);
  rest = λ j from. has-without j k xs (λ same. absurd (omega arith)) ∙ s.rest j (omega arith);
}

keeps_here : (a b f : Bool) → (a && not f) ≡ false → a ≡ b → a ≡ (b && f)
keeps_here true b true e same = same ∙ sym (and_true b)
keeps_here true b false e same = absurd (cc)
keeps_here false b true e same = same ∙ sym (and_true b)
keeps_here false b false e same = sym (and_false b)

keeps_done : (k : ℕ) (f : ℕ → Bool) (ys xs : List ℕ) → Sifted k f ys xs → (has k xs && not (f k)) ≡ false → (j : ℕ) → j < k + 1 → Dec (j ≡ k) → has j xs ≡ (has j ys && f j)
keeps_done k f ys xs s kept j below (yes same) = keeps_here (has j xs) (has j ys) (f j) (ap (λ i. has i xs && not (f i)) same ∙ kept) (s.rest j (omega arith))
keeps_done k f ys xs s kept j below (no apart) = s.done j (omega arith)

-- one that is not held, or passes the test, is kept
pub sifted_keep : (k : ℕ) (f : ℕ → Bool) (ys xs : List ℕ) → Sifted k f ys xs → (has k xs && not (f k)) ≡ false → Sifted (k + 1) f ys xs
sifted_keep k f ys xs s kept = record {
  done = λ j below. keeps_done k f ys xs s kept j below (ℕ_discrete j k);
  rest = λ j from. s.rest j (omega arith);
}

pub left_fails : (a b : Bool) → (a && not b) ≡ true → b ≡ false
left_fails true true e = absurd (cc)
left_fails true false e = refl
left_fails false b e = absurd (cc)
