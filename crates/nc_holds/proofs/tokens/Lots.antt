-- The lots of a name that is lent, behind a turn.
use Rattle.std.specs.Prelude.{filter, not, ◌&&◌, ◌||◌, ◌==◌, ◌⊎◌, if◌then◌else◌}
use Rattle.std.specs.List.{list_any}
use Rattle.std.proofs.Common.{◌≡◌, ℕ, Bool, true, false, List, [], ◌∷◌, refl, sym, ap, ◌∙◌, inl, inr, subst, cond, arith}
use Rattle.std.proofs.lemmas.Bool.{cases_Bool, false≢true, and_parts, or_parts}
use Rattle.std.proofs.lemmas.Bool.Decides.{nat_tests}
use Rattle.std.proofs.lemmas.List.Elements.{All-nil, All-cons, All-head, All-tail}
use Rattle.nc_rules.specs.declared.lots.Lot.{Lot}
use Rattle.nc_rules.specs.declared.lots.LotId.{LotId}
use Rattle.nc_rules.specs.declared.lots.Side.{Side}
use Rattle.nc_rules.specs.declared.lots.Side.TheVariants as sides
use Rattle.nc_rules.specs.declared.steps.Turn.{Turn}
use Rattle.nc_rules.specs.declared.steps.Turn.TheVariants as turns
use Rattle.nc_rules.specs.Lots.{is_lot, is_wanted}
use Rattle.nc_rules.specs.Turns.{with_side, set_side, lots_after, lots_after_both}
use Rattle.nc_scripts.proofs.LotLaws.{named_so}
use Rattle.nc_holds.specs.Held.{AreLent}
use Rattle.nc_holds.specs.Tokens.{HasLent}

-- a lot of the name is lent
abbrev pub IsLentSo : LotId → Lot → Type 0
IsLentSo i lot = is_lot i lot ≡ true → is_wanted lot.side ≡ false

-- whatever name is there is there in both, and what is lent in one is lent in the other
pub record Alike (a b : List Lot) : Type 0 where
  pub there : (i : LotId) → list_any (is_lot i) b ≡ list_any (is_lot i) a
  pub lent : (i : LotId) → AreLent a i → AreLent b i

pub alike_lent : (a b : List Lot) (i : LotId) → Alike a b → HasLent a i → HasLent b i
alike_lent a b i h k = record { there = h.there i ∙ k.there; lent = h.lent i k.lent }

-- ---- one name or another

-- a lot of one name is of the other only if they are the same
pub other_name : (i id : LotId) (lot : Lot) → (i ≡ id → ⊥) → is_lot i lot ≡ true → is_lot id lot ≡ false
other_name i id lot ne e = elim (cases_Bool (is_lot id lot)) [
  | inl same ↦ absurd (ne (sym (named_so lot i e) ∙ named_so lot id same))
  | inr off ↦ off
]

-- two names
abbrev same : LotId → LotId → Bool
same i id = i.label.0 == id.label.0 && i.first == id.first

same_is : (i id : LotId) → same i id ≡ true → i ≡ id
same_is i id e =
    let p = and_parts (i.label.0 == id.label.0) (i.first == id.first) e in
    let label : i.label.0 ≡ id.label.0 = grind (arith, nat_tests) in
    let first : i.first ≡ id.first = grind (arith, nat_tests) in
    λ k. record { label = record { 0 = label k }; first = first k }

same_self : (m n : ℕ) → ((m == m) && (n == n)) ≡ true
same_self m n = grind (arith, nat_tests)

pub same_or_not : (i id : LotId) → (i ≡ id) ⊎ (i ≡ id → ⊥)
same_or_not i id = elim (cases_Bool (same i id)) [
  | inl e ↦ inl (same_is i id e)
  | inr off ↦ inr (λ e. false≢true (sym off ∙ subst (λ (j : LotId). same i j ≡ true) e (same_self i.label.0 i.first)))
]

-- ---- a side is set

side_there : (i : LotId) (side : Side) (lot : Lot) (t : Bool) → is_lot i (if t then record lot { side = side } else lot) ≡ is_lot i lot
side_there i side lot true = refl
side_there i side lot false = refl

pub set_there : (side : Side) (id : LotId) (lots : List Lot) (i : LotId) → list_any (is_lot i) (set_side side id lots) ≡ list_any (is_lot i) lots
set_there side id [] i = refl
set_there side id (lot ∷ lots) i = λ k. side_there i side lot (is_lot id lot) k || set_there side id lots i k

-- one of this name is lent then, whatever it was
side_named : (id : LotId) (side : Side) (lot : Lot) (t : Bool) → is_lot id lot ≡ t → is_wanted side ≡ false → IsLentSo id (if t then record lot { side = side } else lot)
side_named id side lot true e off = λ _. off
side_named id side lot false e off = λ is. absurd (false≢true (sym e ∙ is))

pub set_named : (side : Side) (id : LotId) (lots : List Lot) → is_wanted side ≡ false → AreLent (set_side side id lots) id
set_named side id [] off = All-nil (IsLentSo id)
set_named side id (lot ∷ lots) off = All-cons (IsLentSo id) (with_side side id lot) (set_side side id lots) (side_named id side lot (is_lot id lot) refl off) (set_named side id lots off)

side_lent : (i : LotId) (side : Side) (lot : Lot) (t : Bool) → is_wanted side ≡ false → IsLentSo i lot → IsLentSo i (if t then record lot { side = side } else lot)
side_lent i side lot true off h = λ _. off
side_lent i side lot false off h = h

pub set_lent : (side : Side) (id : LotId) (lots : List Lot) (i : LotId) → is_wanted side ≡ false → AreLent lots i → AreLent (set_side side id lots) i
set_lent side id [] i off all = All-nil (IsLentSo i)
set_lent side id (lot ∷ lots) i off all =
    All-cons (IsLentSo i) (with_side side id lot) (set_side side id lots) (side_lent i side lot (is_lot id lot) off (All-head (IsLentSo i) lot lots all))
    (set_lent side id lots i off (All-tail (IsLentSo i) lot lots all))

-- one of another name was lent before
side_was : (i id : LotId) (side : Side) (lot : Lot) (t : Bool) → is_lot id lot ≡ t → (i ≡ id → ⊥) → IsLentSo i (if t then record lot { side = side } else lot) → IsLentSo i lot
side_was i id side lot true e ne h = λ is. absurd (false≢true (sym (other_name i id lot ne is) ∙ e))
side_was i id side lot false e ne h = h

set_was : (side : Side) (id : LotId) (lots : List Lot) (i : LotId) → (i ≡ id → ⊥) → AreLent (set_side side id lots) i → AreLent lots i
set_was side id [] i ne all = All-nil (IsLentSo i)
set_was side id (lot ∷ lots) i ne all =
    All-cons (IsLentSo i) lot lots (side_was i id side lot (is_lot id lot) refl ne (All-head (IsLentSo i) (with_side side id lot) (set_side side id lots) all))
    (set_was side id lots i ne (All-tail (IsLentSo i) (with_side side id lot) (set_side side id lots) all))

set_alike : (side : Side) (id : LotId) (a b : List Lot) → is_wanted side ≡ false → Alike a b → Alike (set_side side id a) (set_side side id b)
set_alike side id a b off h = record {
  there = λ i. set_there side id b i ∙ h.there i ∙ sym (set_there side id a i);
  lent = λ i all. elim (same_or_not i id) [
    | inl e ↦ subst (λ (j : LotId). AreLent (set_side side id b) j) (sym e) (set_named side id b off)
    | inr ne ↦ set_lent side id b i off (h.lent i (set_was side id a i ne all))
  ];
}

-- ---- the lots of a name end

abbrev pub ended : LotId → List Lot → List Lot
ended id lots = filter (λ lot. not (is_lot id lot)) lots

end_gone : (id : LotId) (lot : Lot) (nows : List Lot) (t : Bool) → is_lot id lot ≡ t → list_any (is_lot id) nows ≡ false → list_any (is_lot id) (cond (not t) (lot ∷ nows) nows) ≡ false
end_gone id lot nows true e h = h
end_gone id lot nows false e h = ap (λ (t : Bool). t || list_any (is_lot id) nows) e ∙ h

pub ended_gone : (id : LotId) (lots : List Lot) → list_any (is_lot id) (ended id lots) ≡ false
ended_gone id [] = refl
ended_gone id (lot ∷ lots) = end_gone id lot (ended id lots) (is_lot id lot) refl (ended_gone id lots)

end_there : (i id : LotId) (lot : Lot) (nows : List Lot) (more : Bool) (t : Bool) → is_lot id lot ≡ t → (i ≡ id → ⊥) → list_any (is_lot i) nows ≡ more → list_any (is_lot i) (cond (not t) (lot ∷ nows) nows) ≡ (is_lot i lot || more)
end_there i id lot nows more true e ne h =
    let off : is_lot i lot ≡ false = elim (cases_Bool (is_lot i lot)) [
      | inl is ↦ absurd (false≢true (sym (other_name i id lot ne is) ∙ e))
      | inr other ↦ other
    ] in
    h ∙ ap (λ (t : Bool). t || more) (sym off)
end_there i id lot nows more false e ne h = ap (λ (t : Bool). is_lot i lot || t) h

pub ended_there : (id : LotId) (lots : List Lot) (i : LotId) → (i ≡ id → ⊥) → list_any (is_lot i) (ended id lots) ≡ list_any (is_lot i) lots
ended_there id [] i ne = refl
ended_there id (lot ∷ lots) i ne = end_there i id lot (ended id lots) (list_any (is_lot i) lots) (is_lot id lot) refl ne (ended_there id lots i ne)

end_lent : (i : LotId) (lot : Lot) (nows : List Lot) (t : Bool) → IsLentSo i lot → AreLent nows i → AreLent (cond t (lot ∷ nows) nows) i
end_lent i lot nows true h all = All-cons (IsLentSo i) lot nows h all
end_lent i lot nows false h all = all

pub ended_lent : (id : LotId) (lots : List Lot) (i : LotId) → AreLent lots i → AreLent (ended id lots) i
ended_lent id [] i all = All-nil (IsLentSo i)
ended_lent id (lot ∷ lots) i all = end_lent i lot (ended id lots) (not (is_lot id lot)) (All-head (IsLentSo i) lot lots all) (ended_lent id lots i (All-tail (IsLentSo i) lot lots all))

pub none_lent : (i : LotId) (lots : List Lot) → list_any (is_lot i) lots ≡ false → AreLent lots i
none_lent i [] e = All-nil (IsLentSo i)
none_lent i (lot ∷ lots) e =
    let parts = or_parts (is_lot i lot) (list_any (is_lot i) lots) e in
    All-cons (IsLentSo i) lot lots (λ is. absurd (false≢true (sym parts.0 ∙ is))) (none_lent i lots parts.1)

end_was : (i id : LotId) (lot : Lot) (lots nows : List Lot) (t : Bool) → is_lot id lot ≡ t → (i ≡ id → ⊥) → (AreLent nows i → AreLent lots i) → AreLent (cond (not t) (lot ∷ nows) nows) i → AreLent (lot ∷ lots) i
end_was i id lot lots nows true e ne f all = All-cons (IsLentSo i) lot lots (λ is. absurd (false≢true (sym (other_name i id lot ne is) ∙ e))) (f all)
end_was i id lot lots nows false e ne f all = All-cons (IsLentSo i) lot lots (All-head (IsLentSo i) lot nows all) (f (All-tail (IsLentSo i) lot nows all))

ended_was : (id : LotId) (lots : List Lot) (i : LotId) → (i ≡ id → ⊥) → AreLent (ended id lots) i → AreLent lots i
ended_was id [] i ne all = All-nil (IsLentSo i)
ended_was id (lot ∷ lots) i ne all = end_was i id lot lots (ended id lots) (is_lot id lot) refl ne (ended_was id lots i ne) all

end_alike : (id : LotId) (a b : List Lot) → Alike a b → Alike (ended id a) (ended id b)
end_alike id a b h = record {
  there = λ i. elim (same_or_not i id) [
    | inl e ↦ subst (λ (j : LotId). list_any (is_lot j) (ended id b) ≡ list_any (is_lot j) (ended id a)) (sym e) (ended_gone id b ∙ sym (ended_gone id a))
    | inr ne ↦ ended_there id b i ne ∙ h.there i ∙ sym (ended_there id a i ne)
  ];
  lent = λ i all. elim (same_or_not i id) [
    | inl e ↦ subst (λ (j : LotId). AreLent (ended id b) j) (sym e) (none_lent id (ended id b) (ended_gone id b))
    | inr ne ↦ ended_lent id b i (h.lent i (ended_was id a i ne all))
  ];
}

-- ---- a turn

pub after_alike : (t : Turn) (a b : List Lot) → Alike a b → Alike (lots_after t a) (lots_after t b)
after_alike turns.Stay a b h = h
after_alike (turns.Pass range to) a b h = h
after_alike (turns.Own range) a b h = h
after_alike (turns.Lend id) a b h = set_alike sides.Lending id a b refl h
after_alike (turns.Give id) a b h = set_alike sides.Device id a b refl h
after_alike (turns.Return id) a b h = set_alike sides.Returning id a b refl h
after_alike (turns.Sync id) a b h = set_alike sides.Synced id a b refl h
after_alike (turns.Settle id) a b h = set_alike sides.Own id a b refl h
after_alike (turns.End id) a b h = end_alike id a b h

set_has : (side : Side) (id : LotId) (lots : List Lot) (i : LotId) → is_wanted side ≡ false → HasLent lots i → HasLent (set_side side id lots) i
set_has side id lots i off h = record { there = set_there side id lots i ∙ h.there; lent = set_lent side id lots i off h.lent }

-- a lot that is lent stays so until its end
pub after_has : (t : Turn) (lots : List Lot) (i : LotId) → (t ≡ turns.End i → ⊥) → HasLent lots i → HasLent (lots_after t lots) i
after_has turns.Stay lots i ne h = h
after_has (turns.Pass range to) lots i ne h = h
after_has (turns.Own range) lots i ne h = h
after_has (turns.Lend id) lots i ne h = set_has sides.Lending id lots i refl h
after_has (turns.Give id) lots i ne h = set_has sides.Device id lots i refl h
after_has (turns.Return id) lots i ne h = set_has sides.Returning id lots i refl h
after_has (turns.Sync id) lots i ne h = set_has sides.Synced id lots i refl h
after_has (turns.Settle id) lots i ne h = set_has sides.Own id lots i refl h
after_has (turns.End id) lots i ne h = record {
  there = ended_there id lots i (λ e. ne (ap (λ (j : LotId). turns.End j) (sym e))) ∙ h.there;
  lent = ended_lent id lots i h.lent;
}

pub both_has : (t u : Turn) (lots : List Lot) (i : LotId) → (t ≡ turns.End i → ⊥) → (u ≡ turns.End i → ⊥) → HasLent lots i → HasLent (lots_after_both t u lots) i
both_has t u lots i nt nu h = after_has u (lots_after t lots) i nu (after_has t lots i nt h)

-- no turn brings a lot
pub after_there : (t : Turn) (lots : List Lot) (i : LotId) → list_any (is_lot i) (lots_after t lots) ≡ true → (t ≡ turns.End i → ⊥) × (list_any (is_lot i) lots ≡ true)
after_there turns.Stay lots i e = ((λ k. absurd cc), e)
after_there (turns.Pass range to) lots i e = ((λ k. absurd cc), e)
after_there (turns.Own range) lots i e = ((λ k. absurd cc), e)
after_there (turns.Lend id) lots i e = ((λ k. absurd cc), sym (set_there sides.Lending id lots i) ∙ e)
after_there (turns.Give id) lots i e = ((λ k. absurd cc), sym (set_there sides.Device id lots i) ∙ e)
after_there (turns.Return id) lots i e = ((λ k. absurd cc), sym (set_there sides.Returning id lots i) ∙ e)
after_there (turns.Sync id) lots i e = ((λ k. absurd cc), sym (set_there sides.Synced id lots i) ∙ e)
after_there (turns.Settle id) lots i e = ((λ k. absurd cc), sym (set_there sides.Own id lots i) ∙ e)
after_there (turns.End id) lots i e = elim (same_or_not i id) [
  | inl same ↦ absurd (false≢true (sym (ended_gone id lots) ∙ subst (λ (j : LotId). list_any (is_lot j) (ended id lots) ≡ true) same e))
  | inr ne ↦ ((λ k. let same : i ≡ id = cc in ne same), sym (ended_there id lots i ne) ∙ e)
]

pub lend_has : (lots : List Lot) (i : LotId) → list_any (is_lot i) lots ≡ true → HasLent (lots_after (turns.Lend i) lots) i
lend_has lots i e = record { there = set_there sides.Lending i lots i ∙ e; lent = set_named sides.Lending i lots refl }

pub give_alike : (id : LotId) (lots : List Lot) → Alike lots (lots_after (turns.Give id) lots)
give_alike id lots = record { there = λ i. set_there sides.Device id lots i; lent = λ i all. set_lent sides.Device id lots i refl all }
