-- First faults, run by run.
use Rattle.std.proofs.Common.{◌≡◌, ℕ, zero, suc, ◌+◌, ◌-◌, ◌<◌, ◌≤◌, Bool, true, false, ◌&&◌, List, [], ◌∷◌, Option, Some, cond, refl, sym, ap, ◌∙◌, subst, arith, inl, inr}
use Rattle.std.proofs.lemmas.Bool.{cases_lt, and_parts, and_from, both_ways}
use Rattle.std.specs.List.{find}
use Rattle.nc_num.specs.Places.{covers}
use Rattle.nc_num.specs.declared.names.ChanNo.{ChanNo}
use Rattle.nc_num.specs.declared.places.Span.{Span}
use Rattle.nc_model.proofs.Faults.{covers-from, covers-low, covers-high, fault_passed, fault_end, fault_none}
use Rattle.nc_model.proofs.GrantLaws.{found_passes, only_found}
use Rattle.nc_model.specs.Grants.{IsGrants}
use Rattle.nc_model.specs.Rights.{serves, served_by, has_device, is_device, device_may, granted, channel_may, buffer_place}
use Rattle.nc_model.specs.Touches.{first_fault}
use Rattle.nc_model.specs.declared.owners.Access.{Access}
use Rattle.nc_model.specs.declared.owners.Grant.{Grant}
use Rattle.nc_model.specs.declared.owners.Owner.{Owner}
use Rattle.nc_own.specs.Books.{owner_in, IsAround, Reaches}
use Rattle.nc_own.specs.declared.intervals.Interval.{Interval}

skip : (may : ℕ → Bool) (s : Span) (x k end : ℕ) → first_fault may (record { at = x; len = end - x }) ≡ first_fault may s → ((y : ℕ) → x ≤ y → y < x + k → may y ≡ true)
    → first_fault may (record { at = x + k; len = end - (x + k) }) ≡ first_fault may s
skip may s x zero end all h = subst (λ n. first_fault may (record { at = n; len = end - n }) ≡ first_fault may s) (omega arith) all
skip may s x (suc k) end all h =
    elim (cases_lt x end) [
      | inl lt ↦ subst (λ n. first_fault may (record { at = n; len = end - n }) ≡ first_fault may s) (omega arith)
          (skip may s (x + 1) k end (fault_passed may s x end all lt (h x (omega arith) (omega arith))) (λ y le less. h y (omega arith) (omega arith)))
      | inr ge ↦ fault_end may (x + suc k) (end - (x + suc k)) (omega arith) ∙ fault_none may s x end all ge
    ]

-- the next place is behind what all passes
pub faults_skipped : (may : ℕ → Bool) (s : Span) (x next end : ℕ) → first_fault may (record { at = x; len = end - x }) ≡ first_fault may s → Reaches may x next
    → first_fault may (record { at = next; len = end - next }) ≡ first_fault may s
faults_skipped may s x next end all r =
    let some = r.some in
    subst (λ n. first_fault may (record { at = n; len = end - n }) ≡ first_fault may s) (omega arith) (skip may s x (next - x) end all (λ y le lt. r.passes y le (omega arith)))

-- the grant that serves a place serves each place of its device range
back_by : (p q : Grant → Bool) (h g : Grant) (b d : Bool) (o r : Option Grant) → p h ≡ d → q h ≡ b → ((k : Grant) → p k ≡ true → q k ≡ true) → p g ≡ true
    → (o ≡ Some g → r ≡ Some g) → cond b (Some h) o ≡ Some g → cond d (Some h) r ≡ Some g
back_by p q h g true true o r e f i k rest found = found
back_by p q h g true false o r e f i k rest found = let same : h ≡ g = cc in absurd (both_ways (p h) e (subst (λ (x : Grant). p x ≡ true) (sym same) k))
back_by p q h g false true o r e f i k rest found = absurd (both_ways (q h) f (i h e))
back_by p q h g false false o r e f i k rest found = rest found

found_back : (p q : Grant → Bool) (grants : List Grant) (g : Grant) → ((k : Grant) → p k ≡ true → q k ≡ true) → p g ≡ true → find q grants ≡ Some g → find p grants ≡ Some g
found_back p q [] g i k e = cc
found_back p q (h ∷ grants) g i k e = back_by p q h g (q h) (p h) (find q grants) (find p grants) refl refl i k (found_back p q grants g i k) e

pub served_on : (ram : ℕ) (grants : List Grant) (c : ChanNo) (x y : ℕ) (g : Grant) → IsGrants ram grants → served_by grants c x ≡ Some g → covers g.device y ≡ true → served_by grants c y ≡ Some g
served_on ram grants c x y g is e here =
    let serving : serves c x g ≡ true = found_passes (serves c x) grants g e in
    found_back (serves c y) (has_device y) grants g (λ k t. (and_parts _ _ t).1) (and_from _ _ (and_parts _ _ serving).0 here)
    (only_found (serves c x) (has_device y) grants g (is.apart y) here e)

-- through one grant, and over one owner's bytes
pub reach_granted : (owners : ℕ → Owner) (ram : ℕ) (grants : List Grant) (c : ChanNo) (access : Access) (x end : ℕ) (g : Grant) (s : Span) (o : Owner)
    → IsGrants ram grants → served_by grants c x ≡ Some g → covers g.device x ≡ true → covers s (buffer_place g x) ≡ true → ((y : ℕ) → covers s y ≡ true → owners y ≡ o)
    → (is_device g.id o && device_may access g.dir) ≡ true → x < end → end ≤ g.device.at + g.device.len → end + buffer_place g x ≤ x + (s.at + s.len)
    → Reaches (channel_may owners grants c access) x end
reach_granted owners ram grants c access x end g s o is e here around owner may some in_device in_owner = record {
  some = some;
  passes = λ y le lt.
      let low : g.device.at ≤ x = covers-low g.device x here in
      let device : covers g.device y ≡ true = covers-from g.device y (omega arith) (omega arith) in
      let start : s.at ≤ buffer_place g x = covers-low s (buffer_place g x) around in
      let same : owners (buffer_place g y) ≡ o = owner (buffer_place g y) (covers-from s (buffer_place g y) (omega arith) (omega arith)) in
      ap (granted owners access y) (served_on ram grants c x y g is e device) ∙ ap (λ p. is_device g.id p && device_may access g.dir) same ∙ may;
}

-- over one owner's bytes a test of the owner passes all or none
pub reach_owned : (test : Owner → Bool) (owners : List Owner) (x : ℕ) (i : Interval) → IsAround owners x i → test i.owner ≡ true → Reaches (λ y. test (owner_in owners y)) x (i.span.at + i.span.len)
reach_owned test owners x i around e = record {
  some = covers-high i.span x around.here;
  passes = λ y le lt. ap test (around.owner y (covers-from i.span y (omega (arith, covers-low i.span x around.here)) lt)) ∙ e;
}
