-- Each slot is free, or owned by one seat.
use Rattle.std.proofs.Common.{◌≡◌, ℕ, ◌+◌, Bool, true, false, List, refl, inl, inr, arith}
use Rattle.std.specs.Prelude.{slice_index}
use mathlib.Core.Option.{some}
use mathlib.Core.Logic.{dite}
use native.Mathlib.Decide.{ℕ_discrete}
use lib.ListN.{get_elem?}
use Rattle.nc_pool.specs.declared.view.PoolView.{PoolView}
use Rattle.nc_pool.specs.Views.{has, held_of, number_of}
use Rattle.nc_pool.specs.Rules.{IsPool, EachIsOwned}
use Rattle.nc_pool.proofs.Keeps.{live_of_held}

none_holds : (slots seats : ℕ) (words : List ℕ) (views : List PoolView) → IsPool slots seats words views → (k : ℕ) → slice_index words (k + 1) ≡ 0
    → (i : ℕ) (v : PoolView) → get_elem? views i ≡ some v → (b : Bool) → has k (held_of v) ≡ b → has k (held_of v) ≡ false
none_holds slots seats words views p k z i v at true h = let o = ((p.fits i v at).held k h).1 in absurd (omega arith)
none_holds slots seats words views p k z i v at false h = h

pub each_is_owned : EachIsOwned
each_is_owned slots seats words views p k lt =
    dite (ℕ_discrete (slice_index words (k + 1)) 0)
    (λ z. inl (z, λ i v at. none_holds slots seats words views p k z i v at (has k (held_of v)) refl))
    (λ ne.
    let o = p.filled k lt ne in
    let is : slice_index words (k + 1) ≡ number_of o.1 + 1 = ((p.fits o.0 o.1 o.2).held k o.3).1 in
    inr (
      o.0,
      o.1,
      record {
        there = o.2;
        live = live_of_held o.1 k o.3;
        word = is;
        holds = o.3;
        alone = λ j u at h.
            let other : slice_index words (k + 1) ≡ number_of u + 1 = ((p.fits j u at).held k h).1 in
            p.apart j o.0 u o.1 at o.2 (live_of_held u k h) (live_of_held o.1 k o.3) (omega arith);
      },
    ))
