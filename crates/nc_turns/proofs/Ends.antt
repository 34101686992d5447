-- Threads that made their most.
use Rattle.std.proofs.Common.{◌≡◌, ℕ, ◌+◌, ◌≤◌, ◌<◌, ◌==◌, Bool, true, false, List, refl, ap, ◌∙◌, arith}
use Rattle.std.specs.Prelude.{nat_lt}
use Rattle.std.proofs.lemmas.Bool.{eqb-true}
use Rattle.std.proofs.lemmas.Bool.Decides.{nat_tests}
use Rattle.nc_num.specs.declared.names.HartNo.{HartNo}
use Rattle.nc_scen.specs.declared.events.Event.{Event}
use Rattle.nc_scen.specs.declared.scenario.Scenario.{Scenario}
use Rattle.nc_rules.specs.World.{hart}
use Rattle.nc_turns.specs.declared.threads.Turner.{Turner}
use Rattle.nc_turns.specs.declared.threads.Turner.TheVariants.{Driver}
use Rattle.nc_turns.specs.Threads.{made_by, most, IsThreaded}

-- a thread that has not made fewer made its most
pub all_made : (sc : Scenario) (es : List Event) (t : Turner) → IsThreaded sc es → nat_lt (made_by t es) (most sc) ≡ false → made_by t es ≡ most sc
all_made sc es t threaded off = is (made_by t es) (most sc) off (threaded.few t)
  where
    is : (a m : ℕ) → nat_lt a m ≡ false → a ≤ m → a ≡ m
    is a m off le = grind (arith, nat_tests)

more_if : (sc : Scenario) (es : List Event) (n : ℕ) (k : HartNo) (b : Bool) → (k.0 == n) ≡ b → made_by (Driver (hart n)) es ≡ most sc → ((j : HartNo) → j.0 < n → made_by (Driver j) es ≡ most sc) → k.0 < n + 1 → made_by (Driver k) es ≡ most sc
more_if sc es n k true is here before lt = ap (λ (i : ℕ). made_by (Driver (hart i)) es) (eqb-true k.0 n is) ∙ here
more_if sc es n k false is here before lt = before k (below k.0 n is lt)
  where
    below : (i n : ℕ) → (i == n) ≡ false → i < n + 1 → i < n
    below i n off lt = grind (arith, nat_tests)

-- the drivers up to one more
pub drivers_more : (sc : Scenario) (es : List Event) (n : ℕ) → made_by (Driver (hart n)) es ≡ most sc → ((k : HartNo) → k.0 < n → made_by (Driver k) es ≡ most sc) → (k : HartNo) → k.0 < n + 1 → made_by (Driver k) es ≡ most sc
drivers_more sc es n here before k lt = more_if sc es n k (k.0 == n) refl here before lt
