-- The bytes of a load, place by place.
use Rattle.std.specs.Prelude.{◌==◌, not, is_none, unwrap_or}
use Rattle.std.proofs.Common.{◌≡◌, ℕ, zero, suc, ◌+◌, List, [], ◌∷◌, length, refl, ap, map, arith}
use Rattle.std.specs.List.{list_any, range_with_len}
use Rattle.std.proofs.lemmas.Bool.Decides.{nat_tests}
use Rattle.nc_num.proofs.MemoryLaws.{span-by_place}
use Rattle.nc_queue.specs.Rules.{gives}
use Rattle.nc_queue.specs.declared.entry.Entry.{Entry}
use Rattle.nc_machine.specs.Loads.{overlaid}

pub overlaid_range : (s : ℕ) (q : List Entry) (f : ℕ → ℕ) (at n : ℕ) → overlaid s q at (map f (range_with_len at n)) ≡ map (λ x. unwrap_or (gives s q x) (f x)) (range_with_len at n)
overlaid_range s q f at zero = refl
overlaid_range s q f at (suc n) = ap (λ xs. unwrap_or (gives s q at) (f at) ∷ xs) (overlaid_range s q f (at + 1) n)

-- an empty queue changes none of the bytes below it
pub overlaid_by_none : (s : ℕ) (q : List Entry) (at : ℕ) (bytes : List ℕ) → length q ≡ 0 → overlaid s q at bytes ≡ bytes
unfolding gives
overlaid_by_none s (e ∷ q) at bytes none = absurd (omega (arith, none))
overlaid_by_none s [] at [] none = refl
overlaid_by_none s [] at (b ∷ bytes) none = ap (λ rest. b ∷ rest) (overlaid_by_none s [] (at + 1) bytes refl)

-- and each place of a span reaches below it
pub none_gives : (s : ℕ) (q : List Entry) (at n : ℕ) → length q ≡ 0 → list_any (λ x. is_none (gives s q x)) (range_with_len at n) ≡ not (n == 0)
unfolding gives
none_gives s (e ∷ q) at n none = absurd (omega (arith, none))
none_gives s [] at zero none = refl
none_gives s [] at (suc n) none = grind (arith, nat_tests)

pub ruleset below_rules = (span-by_place)
