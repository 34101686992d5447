-- Grants that are added and that end.
use Rattle.std.proofs.Common.{◌≡◌, ℕ, ◌+◌, Bool, true, false, List, [], ◌∷◌, ◌++◌, inl, inr, refl, sym, ap, subst, ◌∙◌, arith}
use Rattle.std.specs.Prelude.{◌⊎◌, ◌==◌, ◌&&◌, not, if◌then◌else◌}
use Rattle.std.proofs.lemmas.Bool.{false≢true, and_parts, eqb-true, cases_Bool}
use Rattle.std.proofs.lemmas.Bool.Decides.{nat_tests}
use Rattle.nc_num.specs.declared.names.HartNo.{HartNo}
use Rattle.nc_num.specs.declared.names.MapId.{MapId}
use Rattle.nc_plan.specs.Plans.{In}
use Rattle.nc_plan.proofs.PlanLaws.{in_left, in_right}
use Rattle.nc_model.specs.declared.owners.Grant.{Grant}
use Rattle.nc_model.specs.Grants.{without}
use Rattle.nc_model.specs.Rights.{same_map, is_of}
use Rattle.nc_sg.specs.declared.list.Entry.{Entry}
use Rattle.nc_rules.specs.declared.lots.Lot.{Lot}
use Rattle.nc_rules.specs.declared.lots.LotId.{LotId}
use Rattle.nc_rules.specs.declared.steps.Turn.{Turn}
use Rattle.nc_rules.specs.declared.steps.Turn.TheVariants as turns
use Rattle.nc_rules.specs.Lots.{is_lot, is_wanted, map_id, grant_of, each_entry}
use Rattle.nc_rules.specs.Turns.{of_those, granted, ids, grants_of, ended_of}
use Rattle.nc_rules.specs.World.{grants_added, grants_ended}
use Rattle.nc_holds.specs.Held.{IsEntryOf}
use Rattle.nc_holds.proofs.lists.Members.{of_append, of_filter, in_filter}
use Rattle.nc_holds.proofs.owners.Moves.{of_named, in_named, of_each, in_each}

-- ---- added

pub added_left : (g : Grant) (grants new : List Grant) → In g grants → In g (grants_added grants new)
added_left g grants [] k = k
added_left g grants (h ∷ new) k = added_left g (grants ++ h ∷ []) new (in_left g grants (h ∷ []) k)

pub added_right : (g : Grant) (grants new : List Grant) → In g new → In g (grants_added grants new)
added_right g grants [] k = elim k [ ]
added_right g grants (h ∷ new) (inl e) = added_left g (grants ++ h ∷ []) new (in_right g grants (h ∷ []) (inl e))
added_right g grants (h ∷ new) (inr k) = added_right g (grants ++ h ∷ []) new k

of_push : (g h : Grant) (grants new : List Grant) → In g (grants ++ h ∷ []) ⊎ In g new → In g grants ⊎ In g (h ∷ new)
of_push g h grants new (inr k) = inr (inr k)
of_push g h grants new (inl k) = elim (of_append g grants (h ∷ []) k) [ inl a ↦ inl a | inr b ↦ inr (one_is g h new b) ]
  where
    one_is : (g h : Grant) (new : List Grant) → In g (h ∷ []) → In g (h ∷ new)
    one_is g h new (inl e) = inl e
    one_is g h new (inr k) = elim k [ ]

pub of_added : (g : Grant) (grants new : List Grant) → In g (grants_added grants new) → In g grants ⊎ In g new
of_added g grants [] k = inl k
of_added g grants (h ∷ new) k = of_push g h grants new (of_added g (grants ++ h ∷ []) new k)

-- ---- ended

not_is : (b : Bool) → not b ≡ true → b ≡ false
not_is true e = absurd (false≢true e)
not_is false e = refl

pub of_ended : (g : Grant) (grants : List Grant) (ms : List MapId) → In g (grants_ended grants ms) → In g grants × ((m : MapId) → In m ms → is_of m g ≡ false)
of_ended g grants [] k = (k, λ m l. elim l [ ])
of_ended g grants (m ∷ ms) k =
    let r = of_ended g (without grants m) ms k in
    let p = of_filter (λ (h : Grant). not (is_of m h)) g grants r.0 in
    (p.0, each g m ms (not_is (is_of m g) p.1) r.1)
  where
    each : (g : Grant) (m : MapId) (ms : List MapId) → is_of m g ≡ false → ((n : MapId) → In n ms → is_of n g ≡ false) → (n : MapId) → In n (m ∷ ms) → is_of n g ≡ false
    each g m ms e h n (inl same) = subst (λ (k : MapId). is_of k g ≡ false) same e
    each g m ms e h n (inr k) = h n k

pub in_ended : (g : Grant) (grants : List Grant) (ms : List MapId) → In g grants → ((m : MapId) → In m ms → is_of m g ≡ false) → In g (grants_ended grants ms)
in_ended g grants [] k h = k
in_ended g grants (m ∷ ms) k h = in_ended g (without grants m) ms (in_filter (λ (d : Grant). not (is_of m d)) g grants k (ap not (h m (inl refl)))) (λ n l. h n (inr l))

-- ---- names

pub map_self : (m : MapId) → same_map m m ≡ true
map_self m = grind (arith, nat_tests)

pub record SameMap (m n : MapId) : Type 0 where
  pub hart : m.hart.0 ≡ n.hart.0
  pub label : m.label.0 ≡ n.label.0
  pub entry : m.entry ≡ n.entry

pub map_parts : (m n : MapId) → same_map m n ≡ true → SameMap m n
map_parts m n e =
    let p = and_parts (m.hart.0 == n.hart.0 && m.label.0 == n.label.0) (m.entry == n.entry) e in
    let q = and_parts (m.hart.0 == n.hart.0) (m.label.0 == n.label.0) p.0 in
    record { hart = eqb-true m.hart.0 n.hart.0 q.0; label = eqb-true m.label.0 n.label.0 q.1; entry = eqb-true m.entry n.entry p.1 }

pub not_same : (m n : MapId) → (SameMap m n → ⊥) → same_map m n ≡ false
not_same m n off = elim (cases_Bool (same_map m n)) [ inl on ↦ absurd (off (map_parts m n on)) | inr e ↦ e ]

-- ---- the grants of a turn

pub record IsNewGrant (me : HartNo) (slots_at : ℕ) (id : LotId) (lots : List Lot) (g : Grant) : Type 0 where
  pub lot : Lot
  pub named : is_lot id lot ≡ true
  pub wanted : is_wanted lot.side ≡ true
  pub i : ℕ
  pub entry : Entry
  pub here : IsEntryOf lots lot i entry
  pub is : grant_of slots_at lot (map_id me lot.id i) entry ≡ g

of_granted : {A : Type 0} (b : Bool) (xs : List A) (y : A) → In y (if b then xs else []) → (b ≡ true) × In y xs
of_granted true xs y k = (refl, k)
of_granted false xs y k = elim k [ ]

pub new_grant : (me : HartNo) (slots_at : ℕ) (id : LotId) (lots : List Lot) (g : Grant) → In g (of_those (granted me slots_at) id lots) → IsNewGrant me slots_at id lots g
new_grant me slots_at id lots g k =
    let r = of_named (granted me slots_at) id lots g k in
    let w = of_granted (is_wanted r.lot.side) (each_entry me r.lot (grant_of slots_at r.lot)) g r.is in
    let p = of_each me r.lot.id 0 (grant_of slots_at r.lot) r.lot.list.entries g w.1 in
    let n : 0 + p.j ≡ p.j = omega arith in
    record {
      lot = r.lot;
      named = r.named;
      wanted = w.0;
      i = p.j;
      entry = p.entry;
      here = record { lot_in = r.here; entry = p.here };
      is = subst (λ (j : ℕ). grant_of slots_at r.lot (map_id me r.lot.id j) p.entry ≡ g) n p.is;
    }

in_granted : {A : Type 0} (b : Bool) (xs : List A) (y : A) → b ≡ true → In y xs → In y (if b then xs else [])
in_granted true xs y e k = k
in_granted false xs y e k = absurd (false≢true e)

pub in_new : (me : HartNo) (slots_at : ℕ) (id : LotId) (lots : List Lot) (lot : Lot) (i : ℕ) (e : Entry) → is_lot id lot ≡ true → is_wanted lot.side ≡ true → IsEntryOf lots lot i e
    → In (grant_of slots_at lot (map_id me lot.id i) e) (of_those (granted me slots_at) id lots)
in_new me slots_at id lots lot i e name wanted h =
    let n : 0 + i ≡ i = omega arith in
    let k = in_each me lot.id 0 (grant_of slots_at lot) lot.list.entries i e h.entry in
    let here : In (grant_of slots_at lot (map_id me lot.id i) e) (each_entry me lot (grant_of slots_at lot)) = subst (λ (j : ℕ). In (grant_of slots_at lot (map_id me lot.id j) e) (each_entry me lot (grant_of slots_at lot))) n k in
    in_named (granted me slots_at) id lots lot (grant_of slots_at lot (map_id me lot.id i) e) h.lot_in name
    (in_granted (is_wanted lot.side) (each_entry me lot (grant_of slots_at lot)) (grant_of slots_at lot (map_id me lot.id i) e) wanted here)

-- ---- the mappings that end

pub record IsEnded (me : HartNo) (id : LotId) (lots : List Lot) (m : MapId) : Type 0 where
  pub lot : Lot
  pub named : is_lot id lot ≡ true
  pub i : ℕ
  pub entry : Entry
  pub here : IsEntryOf lots lot i entry
  pub is : map_id me lot.id i ≡ m

pub of_ids : (me : HartNo) (id : LotId) (lots : List Lot) (m : MapId) → In m (of_those (ids me) id lots) → IsEnded me id lots m
of_ids me id lots m k =
    let r = of_named (ids me) id lots m k in
    let p = of_each me r.lot.id 0 (λ n e. n) r.lot.list.entries m r.is in
    let n : 0 + p.j ≡ p.j = omega arith in
    record { lot = r.lot; named = r.named; i = p.j; entry = p.entry; here = record { lot_in = r.here; entry = p.here }; is = subst (λ (j : ℕ). map_id me r.lot.id j ≡ m) n p.is }

pub in_ids : (me : HartNo) (id : LotId) (lots : List Lot) (lot : Lot) (i : ℕ) (e : Entry) → is_lot id lot ≡ true → IsEntryOf lots lot i e → In (map_id me lot.id i) (of_those (ids me) id lots)
in_ids me id lots lot i e name h =
    let n : 0 + i ≡ i = omega arith in
    let k = in_each me lot.id 0 (λ m d. m) lot.list.entries i e h.entry in
    in_named (ids me) id lots lot (map_id me lot.id i) h.lot_in name (subst (λ (j : ℕ). In (map_id me lot.id j) (ids me lot)) n k)

-- ---- both are the hart's

pub new_hart : (me : HartNo) (slots_at : ℕ) (lots : List Lot) (t : Turn) (g : Grant) → In g (grants_of me slots_at lots t) → g.id.hart.0 ≡ me.0
new_hart me slots_at lots turns.Stay g k = elim k [ ]
new_hart me slots_at lots (turns.Pass range to) g k = elim k [ ]
new_hart me slots_at lots (turns.Own range) g k = elim k [ ]
new_hart me slots_at lots (turns.Lend id) g k = let r = new_grant me slots_at id lots g k in ap (λ (h : Grant). h.id.hart.0) (sym r.is)
new_hart me slots_at lots (turns.Give id) g k = elim k [ ]
new_hart me slots_at lots (turns.Return id) g k = elim k [ ]
new_hart me slots_at lots (turns.Sync id) g k = elim k [ ]
new_hart me slots_at lots (turns.Settle id) g k = elim k [ ]
new_hart me slots_at lots (turns.End id) g k = elim k [ ]

pub ended_hart : (me : HartNo) (lots : List Lot) (t : Turn) (m : MapId) → In m (ended_of me lots t) → m.hart.0 ≡ me.0
ended_hart me lots turns.Stay m k = elim k [ ]
ended_hart me lots (turns.Pass range to) m k = elim k [ ]
ended_hart me lots (turns.Own range) m k = elim k [ ]
ended_hart me lots (turns.Lend id) m k = elim k [ ]
ended_hart me lots (turns.Give id) m k = elim k [ ]
ended_hart me lots (turns.Return id) m k = elim k [ ]
ended_hart me lots (turns.Sync id) m k = elim k [ ]
ended_hart me lots (turns.Settle id) m k = elim k [ ]
ended_hart me lots (turns.End id) m k = let r = of_ids me id lots m k in ap (λ (n : MapId). n.hart.0) (sym r.is)

-- grants of other harts come and go by no turn of this one
pub others_stay : (me : HartNo) (slots_at : ℕ) (lots : List Lot) (t : Turn) (grants : List Grant) (g : Grant) → (g.id.hart.0 ≡ me.0 → ⊥)
    → In g (grants_ended (grants_added grants (grants_of me slots_at lots t)) (ended_of me lots t)) → In g grants
others_stay me slots_at lots t grants g other k =
    let r = of_ended g (grants_added grants (grants_of me slots_at lots t)) (ended_of me lots t) k in
    elim (of_added g grants (grants_of me slots_at lots t) r.0) [ inl a ↦ a | inr b ↦ absurd (other (new_hart me slots_at lots t g b)) ]

pub others_kept : (me : HartNo) (slots_at : ℕ) (lots : List Lot) (t : Turn) (grants : List Grant) (g : Grant) → (g.id.hart.0 ≡ me.0 → ⊥)
    → In g grants → In g (grants_ended (grants_added grants (grants_of me slots_at lots t)) (ended_of me lots t))
others_kept me slots_at lots t grants g other k =
    in_ended g (grants_added grants (grants_of me slots_at lots t)) (ended_of me lots t) (added_left g grants (grants_of me slots_at lots t) k)
    (λ m l. not_same g.id m (λ same. other (same.hart ∙ ended_hart me lots t m l)))
