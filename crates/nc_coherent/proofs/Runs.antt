-- The first number of a range that passes a test, and the lowest run of free pages.
use Rattle.std.proofs.Common.{◌≡◌, ℕ, zero, suc, ◌+◌, ◌<◌, ◌≤◌, Bool, true, false, List, length, refl, sym, ap, ◌∙◌, arith, subst, Option, Some, None}
use Rattle.std.specs.Prelude.{find, if◌then◌else◌}
use Rattle.std.specs.List.{range_with_len}
use Rattle.std.proofs.lemmas.Bool.Decides.{nat_tests}
use mathlib.Core.Logic.{dite}
use native.Mathlib.Decide.{ℕ_discrete}
use Rattle.std.proofs.Math.Decide.{dec_le}
use Rattle.nc_coherent.specs.Pages.{is_run, lowest_run, IsLowest, LowestRunIsLowest}

next_by : (test : ℕ → Bool) (a n : ℕ) (b : Bool) → test a ≡ b → find test (range_with_len a (suc n)) ≡ (if b then Some a else find test (range_with_len (a + 1) n))
next_by test a n true e = rw e refl
next_by test a n false e = rw e refl

-- the first of a range that passes is this, or none does
Found : (ℕ → Bool) → ℕ → ℕ → Option ℕ → Type 0
Found test a n None = (k : ℕ) → a ≤ k → k < a + n → test k ≡ false
Found test a n (Some p) = (a ≤ p) × (p < a + n) × (test p ≡ true) × ((k : ℕ) → a ≤ k → k < p → test k ≡ false)

at_or_after : (test : ℕ → Bool) (a k : ℕ) → test a ≡ false → a ≤ k → (a + 1 ≤ k → test k ≡ false) → test k ≡ false
at_or_after test a k fails le more = dite (ℕ_discrete a k) (λ same. ap test (sym same) ∙ fails) (λ apart. more (omega arith))

-- one more before, which fails
later : (test : ℕ → Bool) (a n : ℕ) → test a ≡ false → (o : Option ℕ) → Found test (a + 1) n o → Found test a (suc n) o
unfolding Found
later test a n fails None f = λ k le lt. at_or_after test a k fails le (λ more. f k more (omega arith))
later test a n fails (Some p) f = (omega (arith, f.0), omega (arith, f.1), f.2, λ k le lt. at_or_after test a k fails le (λ more. f.3 k more lt))

found_by : (test : ℕ → Bool) (a n : ℕ) (b : Bool) → test a ≡ b → Found test (a + 1) n (find test (range_with_len (a + 1) n)) → Found test a (suc n) (find test (range_with_len a (suc n)))
unfolding Found
found_by test a n true e more = subst (Found test a (suc n)) (sym (next_by test a n true e)) (omega arith, omega arith, e, λ k le lt. absurd (omega arith))
found_by test a n false e more = subst (Found test a (suc n)) (sym (next_by test a n false e)) (later test a n e (find test (range_with_len (a + 1) n)) more)

find_found : (test : ℕ → Bool) (a n : ℕ) → Found test a n (find test (range_with_len a n))
unfolding Found
find_found test a zero = λ k le lt. absurd (omega arith)
find_found test a (suc n) = found_by test a n (test a) refl (find_found test (a + 1) n)

-- the first that passes is found
pub find_first : (test : ℕ → Bool) (a n p : ℕ) → a ≤ p → p < a + n → ((k : ℕ) → a ≤ k → k < p → test k ≡ false) → test p ≡ true → find test (range_with_len a n) ≡ Some p
find_first test a zero p le lt none passes = absurd (omega arith)
find_first test a (suc n) p le lt none passes =
    dite (ℕ_discrete a p)
    (λ same. next_by test a n true (ap test same ∙ passes) ∙ ap (λ q. Some q) same)
    (λ apart. next_by test a n false (none a (omega arith) (omega arith)) ∙ find_first test (a + 1) n p (omega arith) (omega arith) (λ k le' lt'. none k (omega arith) lt') passes)

pub find_none : (test : ℕ → Bool) (a n : ℕ) → ((k : ℕ) → a ≤ k → k < a + n → test k ≡ false) → find test (range_with_len a n) ≡ None
find_none test a zero none = refl
find_none test a (suc n) none = next_by test a n false (none a (omega arith) (omega arith)) ∙ find_none test (a + 1) n (λ k le lt. none k (omega arith) (omega arith))

-- no run starts past the end
past_end : (free : List Bool) (n p : ℕ) → 0 < n → length free ≤ p → is_run free n p ≡ false
past_end free n p some le = grind (arith, nat_tests)

is_lowest : (free : List Bool) (n : ℕ) → 0 < n → (o : Option ℕ) → Found (is_run free n) 0 (length free) o → IsLowest free n o
unfolding Found
is_lowest free n some None f = λ q. dite (dec_le (length free) q) (λ above. past_end free n q some above) (λ below. f q (omega arith) (omega arith))
is_lowest free n some (Some p) f = record { starts = f.2; lowest = λ q lt. f.3 q (omega arith) lt }

pub lowest_is_lowest : LowestRunIsLowest
unfolding lowest_run
lowest_is_lowest free n some = is_lowest free n some (find (is_run free n) (range_with_len 0 (length free))) (find_found (is_run free n) 0 (length free))
