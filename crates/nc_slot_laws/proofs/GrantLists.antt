-- Grants that are apart stay so through every event, and no two of them share a byte of their device ranges.
use Rattle.std.proofs.Common.{◌≡◌, ℕ, zero, suc, ◌+◌, ◌≤◌, Bool, true, false, List, [], ◌∷◌, ◌++◌, length, refl, sym, ap, subst, ◌∙◌, arith, cond, Option, Some, None}
use Rattle.std.specs.Prelude.{slice_get}
use Rattle.std.specs.List.{count_by}
use Rattle.std.proofs.lemmas.Bool.Decides.{nat_tests}
use Rattle.std.proofs.lemmas.List.Sums.{sum_by-cons}
use Rattle.nc_num.specs.declared.names.HartNo.{HartNo}
use Rattle.nc_num.specs.declared.names.MapId.{MapId}
use Rattle.nc_model.specs.Grants.{IsGrants, without}
use Rattle.nc_model.specs.Rights.{same_map, is_of, has_device}
use Rattle.nc_model.specs.declared.owners.Grant.{Grant}
use Rattle.nc_model.specs.declared.touches.Touch.{Touch}
use Rattle.nc_model.proofs.GrantLaws.{grants-push, grants-without}
use Rattle.nc_scen.specs.declared.events.Event.{Event}
use Rattle.nc_scen.specs.declared.events.Event.TheVariants as events
use Rattle.nc_rules.specs.Next.{touched_by, after_outcome, counted, next}
use Rattle.nc_rules.specs.Outcomes.{Outcome, outcome}
use Rattle.nc_rules.specs.World.{WorldState, with_moves, grants_added, grants_ended}
use Rattle.nc_holds.specs.Holds.{CanAddAll, mover}
use Rattle.nc_holds.proofs.events.Given.{IsEvent}
use Rattle.nc_holds.proofs.events.Holds.{next_is, moves_may}
use Rattle.nc_holds.proofs.lists.Members.{same_some}
use Rattle.nc_holds.proofs.owners.Given.{owner_laws}
use Rattle.nc_slot_laws.specs.Slots.{GrantsAreApart}

-- ---- by number

count-cons : (p : Grant → Bool) (g : Grant) (grants : List Grant) → count_by p (g ∷ grants) ≡ cond (p g) 1 0 + count_by p grants
count-cons p g grants = sum_by-cons (λ h. cond (p h) 1 0) g grants

count_one : (p : Grant → Bool) (g : Grant) (grants : List Grant) → p g ≡ true → count_by p (g ∷ grants) ≡ 1 + count_by p grants
count_one p g grants e = count-cons p g grants ∙ rw e refl

count_less : (b : Bool) (n : ℕ) → n ≤ cond b 1 0 + n
count_less true n = omega arith
count_less false n = omega arith

count_rest : (p : Grant → Bool) (g : Grant) (grants : List Grant) → count_by p grants ≤ count_by p (g ∷ grants)
count_rest p g grants = omega (arith, count-cons p g grants, count_less (p g) (count_by p grants))

passes_first : (p : Grant → Bool) (g a : Grant) → ◌≡◌ {A = Option Grant} (Some g) (Some a) → p a ≡ true → p g ≡ true
passes_first p g a e k = subst (λ (x : Grant). p x ≡ true) (sym (same_some g a e)) k

some_count : (p : Grant → Bool) (grants : List Grant) (n : ℕ) (a : Grant) → slice_get grants n ≡ Some a → p a ≡ true → 1 ≤ count_by p grants
some_count p [] n a e k = absurd (cc)
some_count p (g ∷ grants) zero a e k = omega (arith, count_one p g grants (passes_first p g a e k))
some_count p (g ∷ grants) (suc n) a e k = omega (arith, some_count p grants n a e k, count_rest p g grants)

one_place : (p : Grant → Bool) (grants : List Grant) (m n : ℕ) (a b : Grant) → count_by p grants ≤ 1 → slice_get grants m ≡ Some a → slice_get grants n ≡ Some b → p a ≡ true → p b ≡ true → m ≡ n
one_place p [] m n a b le ea eb ka kb = absurd (cc)
one_place p (g ∷ grants) zero zero a b le ea eb ka kb = refl
one_place p (g ∷ grants) zero (suc n) a b le ea eb ka kb = absurd (omega (arith, le, count_one p g grants (passes_first p g a ea ka), some_count p grants n b eb kb))
one_place p (g ∷ grants) (suc m) zero a b le ea eb ka kb = absurd (omega (arith, le, count_one p g grants (passes_first p g b eb kb), some_count p grants m a ea ka))
one_place p (g ∷ grants) (suc m) (suc n) a b le ea eb ka kb = ap suc (one_place p grants m n a b (omega (arith, le, count_rest p g grants)) ea eb ka kb)

map_self : (m : MapId) → same_map m m ≡ true
map_self m = grind (arith, nat_tests)

pub by_number : (ram : ℕ) (grants : List Grant) → IsGrants ram grants → GrantsAreApart grants
by_number ram grants is = record {
  device = λ m n x a b ea eb ka kb. one_place (has_device x) grants m n a b (is.apart x) ea eb ka kb;
  mapping = λ m n a b ea eb same. one_place (is_of a.id) grants m n a b (is.ids a.id) ea eb (map_self a.id) (subst (λ (i : MapId). same_map i a.id ≡ true) same (map_self a.id));
}

-- ---- through an event

added : (ram : ℕ) (grants new : List Grant) → IsGrants ram grants → CanAddAll ram grants new → IsGrants ram (grants_added grants new)
added ram grants [] is can = is
added ram grants (g ∷ new) is can = added ram (grants ++ g ∷ []) new (grants-push ram grants g is can.0) can.1

ended : (ram : ℕ) (grants : List Grant) (ms : List MapId) → IsGrants ram grants → IsGrants ram (grants_ended grants ms)
ended ram grants [] is = is
ended ram grants (m ∷ ms) is = ended ram (without grants m) ms (grants-without ram grants m is)

none_added : (w : WorldState) (e : Event) → mover e ≡ None → CanAddAll (length w.owners) w.grants (outcome w e).moves.grants
unfolding outcome
none_added w (events.Issue h) at = absurd (cc)
none_added w (events.Try h) at = absurd (cc)
none_added w (events.Told h got) at = absurd (cc)
none_added w (events.Drain h i) at = absurd (cc)
none_added w (events.Fill h b) at = tt
none_added w (events.Evict h b) at = tt
none_added w (events.ChanRead chan) at = tt
none_added w (events.ChanWrite chan) at = tt

can_by : (w : WorldState) (e : Event) (o : Option HartNo) → IsEvent w e → mover e ≡ o → CanAddAll (length w.owners) w.grants (outcome w e).moves.grants
can_by w e (Some h) is at = (moves_may owner_laws w e h is.sound is.holds is.there is.may at).grants
can_by w e None is at = none_added w e at

touched_grants : (w : WorldState) (t : Option Touch) → (touched_by w t).grants ≡ w.grants
touched_grants w None = refl
touched_grants w (Some t) = refl

grants_after : (w : WorldState) (o : Outcome) → (counted (after_outcome w o)).grants ≡ grants_ended (grants_added w.grants o.moves.grants) o.moves.ended
grants_after w o = touched_grants (with_moves (record w { machine = o.machine; drivers = o.drivers; slots = o.slots }) o.moves) o.touch

pub grants_stay : (w : WorldState) (e : Event) → IsEvent w e → IsGrants (length w.owners) w.grants → IsGrants (length w.owners) (next w e).grants
grants_stay w e is grants =
    let m = (outcome w e).moves in
    let made : IsGrants (length w.owners) (grants_ended (grants_added w.grants m.grants) m.ended) = ended (length w.owners) (grants_added w.grants m.grants) m.ended (added (length w.owners) w.grants m.grants grants (can_by w e (mover e) is refl)) in
    subst (λ (gs : List Grant). IsGrants (length w.owners) gs) (sym (ap (λ (x : WorldState). x.grants) (next_is w e is.may) ∙ grants_after w (outcome w e))) made
