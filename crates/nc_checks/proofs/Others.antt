-- The first byte of a range that is not a hart's own, once another range has been lent.
use Rattle.std.proofs.Common.{◌≡◌, ℕ, ◌+◌, ◌<◌, ◌≤◌, Bool, true, false, List, [], ◌∷◌, ◌++◌, length, Option, Some, None, cond, take, drop, get_or, Result, Ok, refl, sym, ap, ◌∙◌, arith, inl, inr}
use Rattle.std.specs.Prelude.{min, max, IfSome, IsSome}
use Rattle.std.proofs.lemmas.Bool.{cases_lt}
use Rattle.std.proofs.lemmas.List.{take_more, at_drop_more, length-take-le}
use Rattle.std.specs.Option.{option_map}
use Rattle.nc_num.specs.Places.{covers}
use Rattle.nc_num.specs.declared.names.HartNo.{HartNo}
use Rattle.nc_num.specs.declared.places.Place.{Place}
use Rattle.nc_num.specs.declared.places.Span.{Span}
use Rattle.nc_model.proofs.Faults.{covers-from, covers-low, covers-high, covers-below, covers-above, passes, fails, first_fault-is, first_fault-same}
use Rattle.nc_model.specs.declared.owners.Owner.{Owner}
use Rattle.nc_model.specs.declared.owners.Owner.TheVariants.{Lending}
use Rattle.nc_model.specs.Rights.{is_thread}
use Rattle.nc_model.specs.Touches.{first_fault}
use Rattle.nc_own.proofs.Follows.{length-transferred, owner_in-transferred}
use Rattle.nc_own.specs.Books.{owner_in, transferred}
use Rattle.nc_rules.specs.declared.lots.LotId.{LotId}
use Rattle.nc_rules.specs.Lots.{map_id}
use Rattle.nc_rules.specs.declared.answers.Refusal.{Refusal}
use Rattle.nc_rules.specs.Refusals.{◌>>=◌, owned, owned_from}
use Rattle.nc_checks.specs.Owned.{lent_all, IsOther, IsBehind}

-- a byte may be used as the hart's own
abbrev own : HartNo → List Owner → ℕ → Bool
own me owners x = is_thread me (owner_in owners x)

-- a byte outside of what was lent has the owner that it had
pub outside : (owners : List Owner) (lent : Span) (o : Owner) (x : ℕ) → x < length owners → covers lent x ≡ false → owner_in (transferred owners lent o) x ≡ owner_in owners x
outside owners lent o x lt e = owner_in-transferred owners lent o x lt ∙ ap (λ b. cond b o (owner_in owners x)) e

pub within : (owners : List Owner) (lent : Span) (o : Owner) (x : ℕ) → x < length owners → covers lent x ≡ true → owner_in (transferred owners lent o) x ≡ o
within owners lent o x lt e = owner_in-transferred owners lent o x lt ∙ ap (λ b. cond b o (owner_in owners x)) e

-- nothing of the range was lent
pub other_apart : (me : HartNo) (owners : List Owner) (range lent : Span) (o : Owner) (found : Option (Place × Owner)) → range.at + range.len ≤ length owners
    → ((x : ℕ) → covers range x ≡ true → covers lent x ≡ false) → IsOther me owners range found → IsOther me (transferred owners lent o) range found
other_apart me owners range lent o found inside apart h = record {
  first = h.first ∙ sym (first_fault-same _ _ range (λ x e. ap (is_thread me) (same x e)));
  owner = told found h.first h.owner;
}
  where
    same : (x : ℕ) → covers range x ≡ true → owner_in (transferred owners lent o) x ≡ owner_in owners x
    same x e = outside owners lent o x (omega (arith, covers-high range x e)) (apart x e)

    told : (f : Option (Place × Owner)) → option_map (λ p. p.0.0) f ≡ first_fault (own me owners) range → IfSome f (λ p. p.1 ≡ owner_in owners p.0.0)
        → IfSome f (λ p. p.1 ≡ owner_in (transferred owners lent o) p.0.0)
    told None e t = tt
    told (Some p) e t = t ∙ sym (same p.0.0 (fails (own me owners) range p.0.0 (sym e)).0)

-- it was found before what was lent
pub other_kept : (me : HartNo) (owners : List Owner) (range lent : Span) (o : Owner) (found : Option (Place × Owner)) (at : ℕ) → range.at + range.len ≤ length owners
    → at ≡ max range.at lent.at → IfSome found (λ p. p.0.0 < at) → IsSome found → IsOther me owners range found → IsOther me (transferred owners lent o) range found
other_kept me owners range lent o None at inside is lt some h = cc some
other_kept me owners range lent o (Some p) at inside is lt some h =
    let f = fails (own me owners) range p.0.0 (sym h.first) in
    record {
      first = sym (first_fault-is (own me (transferred owners lent o)) range (Some p.0.0)
          (f.0, ap (is_thread me) (same p.0.0 f.0 lt) ∙ f.1, λ y le less. ap (is_thread me) (same y (covers-from range y le (omega (arith, covers-high range p.0.0 f.0))) (omega arith)) ∙ f.2 y le less));
      owner = h.owner ∙ sym (same p.0.0 f.0 lt);
    }
  where
    same : (x : ℕ) → covers range x ≡ true → x < at → owner_in (transferred owners lent o) x ≡ owner_in owners x
    same x e less = outside owners lent o x (omega (arith, covers-high range x e)) (covers-below lent x (omega (arith, covers-low range x e, is)))

-- where the two ranges have no place in common
pub apart_by : (range lent : Span) (at end : ℕ) → at ≡ max range.at lent.at → end ≡ min (range.at + range.len) (lent.at + lent.len) → end ≤ at → (x : ℕ) → covers range x ≡ true → covers lent x ≡ false
apart_by range lent at end a b le x e = elim (cases_lt x lent.at) [
  | inl lt ↦ covers-below lent x lt
  | inr ge ↦ covers-above lent x (omega (arith, covers-low range x e, covers-high range x e, a, b))
]

-- where they have some, the first of them
pub both_cover : (range lent : Span) (at end : ℕ) → at ≡ max range.at lent.at → end ≡ min (range.at + range.len) (lent.at + lent.len) → at < end → (covers range at ≡ true) × (covers lent at ≡ true)
both_cover range lent at end a b lt = (covers-from range at (omega (arith, a)) (omega (arith, a, b)), covers-from lent at (omega (arith, a)) (omega (arith, a, b)))

-- it is the first byte that was lent, unless one before it was found
pub other_lent : (me : HartNo) (owners : List Owner) (range lent : Span) (o : Owner) (found : Option (Place × Owner)) (at : Place) → range.at + range.len ≤ length owners
    → is_thread me o ≡ false → at.0 ≡ max range.at lent.at → covers range at.0 ≡ true → covers lent at.0 ≡ true → IsBehind at.0 found
    → IsOther me owners range found → IsOther me (transferred owners lent o) range (Some (at, o))
other_lent me owners range lent o found at inside foreign is in_range in_lent behind h = record {
  first = sym (first_fault-is (own me (transferred owners lent o)) range (Some at.0)
      (in_range, ap (is_thread me) here ∙ foreign, λ y le less. ap (is_thread me) (before y le less) ∙ own_before found behind h.first y le less));
  owner = sym here;
}
  where
    here : owner_in (transferred owners lent o) at.0 ≡ o
    here = within owners lent o at.0 (omega (arith, covers-high range at.0 in_range)) in_lent

    before : (y : ℕ) → range.at ≤ y → y < at.0 → owner_in (transferred owners lent o) y ≡ owner_in owners y
    before y le less = outside owners lent o y (omega (arith, covers-high range at.0 in_range)) (covers-below lent y (omega (arith, is)))

    own_before : (f : Option (Place × Owner)) → IsBehind at.0 f → option_map (λ p. p.0.0) f ≡ first_fault (own me owners) range → (y : ℕ) → range.at ≤ y → y < at.0 → own me owners y ≡ true
    own_before None b e y le less = passes (own me owners) range y (sym e) (covers-from range y le (omega (arith, covers-high range at.0 in_range)))
    own_before (Some p) b e y le less = (fails (own me owners) range p.0.0 (sym e)).2 y le (omega (arith, b))

-- ---- range after range

pub length-lent_all : (me : HartNo) (id : LotId) (i : ℕ) (owners : List Owner) (ranges : List Span) → length (lent_all me id i owners ranges) ≡ length owners
length-lent_all me id i owners [] = refl
length-lent_all me id i owners (r ∷ rs) = length-lent_all me id (i + 1) (transferred owners r (Lending (map_id me id i))) rs ∙ length-transferred owners r (Lending (map_id me id i))

pub lent_all-push : (me : HartNo) (id : LotId) (i : ℕ) (owners : List Owner) (ranges : List Span) (r : Span) (k : ℕ) → k ≡ i + length ranges
    → lent_all me id i owners (ranges ++ r ∷ []) ≡ transferred (lent_all me id i owners ranges) r (Lending (map_id me id k))
lent_all-push me id i owners [] r k e = ap (λ n. transferred owners r (Lending (map_id me id n))) (omega (arith, e))
lent_all-push me id i owners (s ∷ ranges) r k e = lent_all-push me id (i + 1) (transferred owners s (Lending (map_id me id i))) ranges r k (omega (arith, e))

pub lent_more : (me : HartNo) (id : LotId) (owners : List Owner) (ranges : List Span) (i : ℕ) (d : Span) → i < length ranges
    → lent_all me id 0 owners (take (i + 1) ranges) ≡ transferred (lent_all me id 0 owners (take i ranges)) (get_or ranges i d) (Lending (map_id me id i))
lent_more me id owners ranges i d lt =
    ap (lent_all me id 0 owners) (take_more ranges i d lt)
    ∙ lent_all-push me id 0 owners (take i ranges) (get_or ranges i d) i (omega (arith, length-take-le i ranges))

-- the test of a range passes
pub owned_on : (me : HartNo) (id : LotId) (owners : List Owner) (ranges : List Span) (i : ℕ) (d : Span) (u : Unit {0}) (all : Result (Unit {0}) Refusal) → i < length ranges
    → Ok u ≡ owned me (lent_all me id 0 owners (take i ranges)) (get_or ranges i d)
    → owned_from me id i (lent_all me id 0 owners (take i ranges)) (drop i ranges) ≡ all
    → owned_from me id (i + 1) (lent_all me id 0 owners (take (i + 1) ranges)) (drop (i + 1) ranges) ≡ all
owned_on me id owners ranges i d u all lt ok h =
    ap (λ (os : List Owner). owned_from me id (i + 1) os (drop (i + 1) ranges)) (lent_more me id owners ranges i d lt)
    ∙ sym (ap (λ (r : Result (Unit {0}) Refusal). r >>= λ _. owned_from me id (i + 1) (transferred (lent_all me id 0 owners (take i ranges)) (get_or ranges i d) (Lending (map_id me id i))) (drop (i + 1) ranges)) (sym ok))
    ∙ sym (at_drop_more (owned_from me id i (lent_all me id 0 owners (take i ranges))) ranges i d lt)
    ∙ h
