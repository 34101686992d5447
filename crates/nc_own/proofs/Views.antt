-- What the fields of a book say of what it is seen as.
use Rattle.std.proofs.Common.{◌≡◌, ℕ, suc, ◌-◌, ◌<◌, true, List, [], ◌∷◌, length, get_or, replicate, refl, sym, ap, ◌∙◌, subst, arith, inl, inr}
use Rattle.std.proofs.lemmas.Bool.{cases_lt, cases_Bool}
use Rattle.nc_num.specs.Places.{covers}
use Rattle.nc_num.specs.declared.places.Span.{Span}
use Rattle.nc_model.proofs.Faults.{covers-high}
use Rattle.nc_model.specs.Grants.{IsGrants, CanAdd}
use Rattle.nc_model.specs.Owners.{owner_at}
use Rattle.nc_model.specs.declared.owners.Grant.{Grant}
use Rattle.nc_model.specs.declared.owners.Owner.{Owner}
use Rattle.nc_model.specs.declared.owners.Owner.TheVariants.{Pool}
use Rattle.nc_own.proofs.Follows.{length-owners_of, owner_in-owners_of, owners_of-same, owners_of-nil, transferred-owners_of}
use Rattle.nc_own.proofs.Tilings.{places-take_drop, ends_at, owner_of_kth}
use Rattle.nc_own.proofs.Cuts.{one_run, no_run}
use Rattle.nc_own.specs.Books.{BookView, IsBook, IsAround, AreIntervals, owners_of, transferred}
use Rattle.nc_own.specs.Tiles.{places, Tile, Joined, made, run, Has, IsGiven}
use Rattle.nc_own.specs.declared.intervals.Interval.{Interval}

pub shown_size : (ram spare : ℕ) (ts : List (Span × Owner)) (grants : List Grant) (s : BookView) → record { owners = owners_of ram ts; grants = grants; spare = spare } ≡ s → ram ≡ length s.owners
shown_size ram spare ts grants s e = sym (length-owners_of ram ts) ∙ ap (λ (v : BookView). length v.owners) e

pub shown_grants : (ram spare : ℕ) (ts : List (Span × Owner)) (grants : List Grant) (s : BookView) → record { owners = owners_of ram ts; grants = grants; spare = spare } ≡ s → IsGrants ram grants → IsGrants (length s.owners) s.grants
shown_grants ram spare ts grants s e is =
    subst (λ (n : ℕ). IsGrants n s.grants) (shown_size ram spare ts grants s e) (subst (λ (gs : List Grant). IsGrants ram gs) (ap (λ (v : BookView). v.grants) e) is)

pub shown_can : (ram spare : ℕ) (ts : List (Span × Owner)) (grants : List Grant) (s : BookView) (g : Grant) → record { owners = owners_of ram ts; grants = grants; spare = spare } ≡ s → CanAdd (length s.owners) s.grants g → CanAdd ram grants g
shown_can ram spare ts grants s g e can =
    subst (λ (gs : List Grant). CanAdd ram gs g) (sym (ap (λ (v : BookView). v.grants) e)) (subst (λ (n : ℕ). CanAdd n s.grants g) (sym (shown_size ram spare ts grants s e)) can)

-- what the intervals say of the owners of all places
pub shown_around : (ram spare room free_intervals free_grants : ℕ) (is : List Interval) (grants : List Grant) (s : BookView) (x : ℕ) (i : Interval)
    → record { owners = owners_of ram (made is); grants = grants; spare = spare } ≡ s → IsBook ram room free_intervals free_grants is grants → Has is x i → IsAround s.owners x i
shown_around ram spare room free_intervals free_grants is grants s x i e b h =
    subst (λ (v : BookView). IsAround v.owners x i) e (record {
      here = h.here;
      within = omega (arith, h.within, b.whole, length-owners_of ram (made is));
      owner = λ y f. owner_in-owners_of ram (made is) y (omega (arith, h.within, b.whole, covers-high i.span y f)) ∙ h.owner y f;
    })

pub shown_intervals : (ram spare room free_intervals free_grants : ℕ) (is : List Interval) (grants : List Grant) (s : BookView)
    → record { owners = owners_of ram (made is); grants = grants; spare = spare } ≡ s → IsBook ram room free_intervals free_grants is grants → AreIntervals s.owners is
shown_intervals ram spare room free_intervals free_grants is grants s e b =
    subst (λ (v : BookView). AreIntervals v.owners is) e (record {
      ascending = b.tile;
      whole = b.whole ∙ sym (length-owners_of ram (made is));
      owner = λ k d lt x f. owner_in-owners_of ram (made is) x (inside k d lt x f) ∙ owner_of_kth 0 k is d x b.tile lt f;
      joined = b.joined;
    })
  where
    inside : (k : ℕ) (d : Interval) → k < length is → (x : ℕ) → covers (get_or is k d).span x ≡ true → x < ram
    inside k d lt x f = omega (arith, covers-high (get_or is k d).span x f, ends_at k is d b.tile lt, places-take_drop (suc k) is, b.whole)

-- a span that got an owner
pub shown_given : (ram spare : ℕ) (is next : List Interval) (grants : List Grant) (s : BookView) (span : Span) (owner : Owner)
    → record { owners = owners_of ram (made is); grants = grants; spare = spare } ≡ s → places is ≡ ram → IsGiven is span owner next
    → owners_of ram (made next) ≡ transferred s.owners span owner
shown_given ram spare is next grants s span owner e whole g =
    owners_of-same ram (made next) ((span, owner) ∷ made is) (λ x lt. g.owners x (omega arith))
    ∙ sym (transferred-owners_of ram (made is) span owner) ∙ ap (λ (v : BookView). transferred v.owners span owner) e

-- all of RAM as one interval, if there is any
pub one_interval : (ram : ℕ) → (Tile 0 (run 0 ram Pool)) × (Joined (run 0 ram Pool)) × (places (run 0 ram Pool) ≡ ram) × (owners_of ram (made (run 0 ram Pool)) ≡ replicate ram Pool)
one_interval ram =
    elim (cases_lt 0 ram) [
      | inl lt ↦ rw (one_run 0 ram Pool lt) ((refl, omega arith, tt), (tt, tt), omega arith, owners_of-same ram _ [] (λ x less. all_one x) ∙ owners_of-nil ram)
      | inr none ↦ rw (no_run 0 ram Pool none) (tt, tt, omega arith, owners_of-nil ram)
    ]
  where
    all_one : (x : ℕ) → owner_at (made (record { span = record { at = 0; len = ram - 0 }; owner = Pool } ∷ [])) x ≡ Pool
    all_one x = elim (cases_Bool (covers (record { at = 0; len = ram - 0 }) x)) [ inl t ↦ rw t refl | inr f ↦ rw f refl ]
