-- Entries that have a marker, or a cache operation, behind them: what a push and a drain leave of that.
use Rattle.std.specs.Prelude.{Option, Some, None, slice_get, remove, ◌&&◌, not, if◌then◌else◌}
use Rattle.std.specs.List.{list_any}
use Rattle.std.proofs.Common.{◌≡◌, ℕ, zero, suc, Bool, true, false, List, [], ◌∷◌, ◌++◌, take, drop, refl, inl, inr, subst}
use Rattle.std.proofs.lemmas.Bool.{or_parts, or_from, or_left, or_right, and_parts, and_from, and_cases, cases_Bool, both_ways, not-true}
use Rattle.nc_queue.specs.Entries.{is_w, is_o, has_w, has_o, in_set, is_wo, is_mark, block_of}
use Rattle.nc_queue.specs.Rules.{any_in, meets, orders, held_back, is_free, may_leave, leaves, may_drain, drained}
use Rattle.nc_queue.specs.Laws.{Stands, Covered}
use Rattle.nc_queue.specs.declared.entry.Entry.{Entry}
use Rattle.nc_queue.specs.declared.entry.Entry.TheVariants.{Store, Cbo, Reg, Mail, Lend, Mark}
use Rattle.nc_queue.proofs.TestLaws.{none-push, none-remove, none-sides, some_of_class, none_of_class, in_set-w, in_set-o}

-- why an entry that is no marker may drain
pub record IsFree (s : ℕ) (before : List Entry) (e : Entry) : Type 0 where
  pub no_block : meets s before (block_of s e) ≡ false
  pub in_order : is_o e ≡ true → list_any is_o before ≡ false
  pub not_held : held_back before e ≡ false

free_parts : (s : ℕ) (before : List Entry) (e : Entry) → is_free s before e ≡ true → IsFree s before e
free_parts s before e is =
    let outer = and_parts (not (meets s before (block_of s e)) && not (is_o e && list_any is_o before)) (not (held_back before e)) is in
    let inner = and_parts (not (meets s before (block_of s e))) (not (is_o e && list_any is_o before)) outer.0 in
    record {
      no_block = not-true (meets s before (block_of s e)) inner.0;
      in_order = λ o. elim (and_cases (is_o e) (list_any is_o before) (not-true (is_o e && list_any is_o before) inner.1)) [ inl other ↦ absurd (both_ways (is_o e) other o) | inr first ↦ first ];
      not_held = not-true (held_back before e) outer.1;
    }

pub leaves_free : (s : ℕ) (before : List Entry) (e : Entry) → may_leave s before e ≡ true → is_mark e ≡ false → IsFree s before e
leaves_free s before (Store span bytes kind) may other = free_parts s before (Store span bytes kind) may
leaves_free s before (Cbo block op) may other = free_parts s before (Cbo block op) may
leaves_free s before (Reg chan off width value) may other = free_parts s before (Reg chan off width value) may
leaves_free s before (Mail buf to) may other = free_parts s before (Mail buf to) may
leaves_free s before (Lend label first count) may other = free_parts s before (Lend label first count) may
leaves_free s before (Mark pred succ) may other = absurd cc

pub leaves_mark : (s : ℕ) (before : List Entry) (pred succ : ℕ) → may_leave s before (Mark pred succ) ≡ true → any_in before pred ≡ false
leaves_mark s before pred succ may = not-true (any_in before pred) may

by_test : (s : ℕ) (before : List Entry) (a e : Entry) (b : Bool) → may_leave s before a ≡ b → (if b then Some a else None) ≡ Some e → (Some a ≡ Some e) × (may_leave s before e ≡ true)
by_test s before a e true may is = let same : a ≡ e = cc in (is, subst (λ (c : Entry). may_leave s before c ≡ true) same may)
by_test s before a e false may is = absurd cc

by_entry : (s : ℕ) (before : List Entry) (o : Option Entry) (e : Entry) → (if leaves s before o then o else None) ≡ Some e → (o ≡ Some e) × (may_leave s before e ≡ true)
by_entry s before None e is = absurd cc
by_entry s before (Some a) e is = by_test s before a e (may_leave s before a) refl is

-- what is drained stands at i, and may leave
pub drained-some : (s : ℕ) (q : List Entry) (i : ℕ) (e : Entry) → drained s q i ≡ Some e → (slice_get q i ≡ Some e) × (may_leave s (take i q) e ≡ true)
unfolding drained may_drain
drained-some s q i e is = by_entry s (take i q) (slice_get q i) e is

pub wo_is_mark : (e : Entry) → is_mark e ≡ false → is_wo e ≡ false
wo_is_mark (Store span bytes kind) other = refl
wo_is_mark (Cbo block op) other = refl
wo_is_mark (Reg chan off width value) other = refl
wo_is_mark (Mail buf to) other = refl
wo_is_mark (Lend label first count) other = refl
wo_is_mark (Mark pred succ) other = absurd cc

pub o_is_no_mark : (e : Entry) → is_o e ≡ true → is_mark e ≡ false
o_is_no_mark (Store span bytes kind) o = refl
o_is_no_mark (Cbo block op) o = refl
o_is_no_mark (Reg chan off width value) o = refl
o_is_no_mark (Mail buf to) o = refl
o_is_no_mark (Lend label first count) o = refl
o_is_no_mark (Mark pred succ) o = absurd cc

-- a marker of W before O orders an entry of class O behind one of class W
pub wo_orders : (m a e : Entry) → is_wo m ≡ true → is_w a ≡ true → is_o e ≡ true → orders m a e ≡ true
wo_orders (Mark pred succ) a e is w o =
    let parts = and_parts (has_w pred) (has_o succ) is in
    and_from (in_set a pred) (in_set e succ) (in_set-w a pred w parts.0) (in_set-o e succ o parts.1)
wo_orders (Store span bytes kind) a e is w o = absurd cc
wo_orders (Cbo block op) a e is w o = absurd cc
wo_orders (Reg chan off width value) a e is w o = absurd cc
wo_orders (Mail buf to) a e is w o = absurd cc
wo_orders (Lend label first count) a e is w o = absurd cc

-- a marker of W before O that may leave has nothing of class W before it
pub wo_leaves : (s : ℕ) (before : List Entry) (m : Entry) → may_leave s before m ≡ true → is_wo m ≡ true → list_any is_w before ≡ false
wo_leaves s before (Mark pred succ) may is =
    none_of_class is_w (λ e. in_set e pred) (λ e w. in_set-w e pred w (and_parts (has_w pred) (has_o succ) is).0) before (leaves_mark s before pred succ may)
wo_leaves s before (Store span bytes kind) may is = absurd cc
wo_leaves s before (Cbo block op) may is = absurd cc
wo_leaves s before (Reg chan off width value) may is = absurd cc
wo_leaves s before (Mail buf to) may is = absurd cc
wo_leaves s before (Lend label first count) may is = absurd cc

-- one more entry
pub stands-push : (m t : Entry → Bool) (q : List Entry) (e : Entry) → Stands m t q → Stands m t (q ++ e ∷ [])
stands-push m t [] e is = absurd is
stands-push m t (a ∷ q) e (inl here) = inl here
stands-push m t (a ∷ q) e (inr later) = inr (later.0, stands-push m t q e later.1)

stands-last : (m t : Entry → Bool) (q : List Entry) (e : Entry) → list_any t q ≡ false → m e ≡ true → Stands m t (q ++ e ∷ [])
stands-last m t [] e without is = inl is
stands-last m t (a ∷ q) e without is = let parts = or_parts (t a) (list_any t q) without in inr (parts.0, stands-last m t q e parts.1 is)

pub covered-push : (p m t : Entry → Bool) (q : List Entry) (e : Entry) → Covered p m t q → p e ≡ false → Covered p m t (q ++ e ∷ [])
covered-push p m t [] e is other = (λ pe. absurd (both_ways (p e) other pe), λ te. refl, tt)
covered-push p m t (a ∷ q) e is other = (λ pa. stands-push m t q e (is.0 pa), λ ta. none-push p q e (is.1 ta) other, covered-push p m t q e is.2 other)

-- an entry of m, pushed where none of t is queued, covers all that stands before it
pub covered-last : (p m t : Entry → Bool) (q : List Entry) (e : Entry) → list_any t q ≡ false → m e ≡ true → p e ≡ false → Covered p m t (q ++ e ∷ [])
covered-last p m t [] e without is other = (λ pe. absurd (both_ways (p e) other pe), λ te. refl, tt)
covered-last p m t (a ∷ q) e without is other =
    let parts = or_parts (t a) (list_any t q) without in
    (λ pa. stands-last m t q e parts.1 is, λ ta. absurd (both_ways (t a) parts.0 ta), covered-last p m t q e parts.1 is other)

-- where none of p is queued
pub covered-none : (p m t : Entry → Bool) (q : List Entry) → list_any p q ≡ false → Covered p m t q
covered-none p m t [] without = tt
covered-none p m t (a ∷ q) without =
    let parts = or_parts (p a) (list_any p q) without in
    (λ pa. absurd (both_ways (p a) parts.0 pa), λ ta. parts.1, covered-none p m t q parts.1)

-- an entry drains: one of m only where none of p stands before it
pub stands-remove : (m t : Entry → Bool) (q : List Entry) (i : ℕ) (e : Entry) → slice_get q i ≡ Some e → m e ≡ false → Stands m t q → Stands m t (remove q i)
stands-remove m t [] i e is other stands = absurd stands
stands-remove m t (a ∷ q) zero e is other (inl here) = let same : e ≡ a = cc in absurd (both_ways (m a) (subst (λ (b : Entry). m b ≡ false) same other) here)
stands-remove m t (a ∷ q) zero e is other (inr later) = later.1
stands-remove m t (a ∷ q) (suc i) e is other (inl here) = inl here
stands-remove m t (a ∷ q) (suc i) e is other (inr later) = inr (later.0, stands-remove m t q i e is other later.1)

pub covered-remove : (p m t : Entry → Bool) (q : List Entry) (i : ℕ) (e : Entry) → slice_get q i ≡ Some e → (m e ≡ true → list_any p (take i q) ≡ false) → Covered p m t q → Covered p m t (remove q i)
covered-remove p m t [] i e is first covered = absurd cc
covered-remove p m t (a ∷ q) zero e is first covered = covered.2
covered-remove p m t (a ∷ q) (suc i) e is first covered =
    let kept : p a ≡ true → Stands m t (remove q i) = λ pa.
    elim (cases_Bool (m e)) [
      | inl me ↦ absurd (both_ways (p a) (or_parts (p a) (list_any p (take i q)) (first me)).0 pa)
      | inr other ↦ stands-remove m t q i e is other (covered.0 pa)
    ] in
    (kept, λ ta. none-remove p q i (covered.1 ta), covered-remove p m t q i e is (λ me. (or_parts (p a) (list_any p (take i q)) (first me)).1) covered.2)

-- none of p behind an entry of t
covered_behind : (p m t : Entry → Bool) (q : List Entry) (i : ℕ) (e : Entry) → Covered p m t q → slice_get q i ≡ Some e → t e ≡ true → list_any p (drop (suc i) q) ≡ false
covered_behind p m t [] i e covered is te = absurd cc
covered_behind p m t (a ∷ q) zero e covered is te = let same : e ≡ a = cc in covered.1 (subst (λ (b : Entry). t b ≡ true) same te)
covered_behind p m t (a ∷ q) (suc i) e covered is te = covered_behind p m t q i e covered.2 is te

pub stands_before : (m t : Entry → Bool) (q : List Entry) (i : ℕ) (e : Entry) → Stands m t q → slice_get q i ≡ Some e → t e ≡ true → m e ≡ false → list_any m (take i q) ≡ true
stands_before m t [] i e stands is te other = absurd stands
stands_before m t (a ∷ q) zero e (inl here) is te other = let same : e ≡ a = cc in absurd (both_ways (m a) (subst (λ (b : Entry). m b ≡ false) same other) here)
stands_before m t (a ∷ q) zero e (inr later) is te other = let same : e ≡ a = cc in absurd (both_ways (t a) later.0 (subst (λ (b : Entry). t b ≡ true) same te))
stands_before m t (a ∷ q) (suc i) e (inl here) is te other = or_left (m a) (list_any m (take i q)) here
stands_before m t (a ∷ q) (suc i) e (inr later) is te other = or_right (m a) (list_any m (take i q)) (stands_before m t q i e later.1 is te other)

-- nothing of p stands before an entry of t and class O that no marker holds back
covered_before : (p t : Entry → Bool) (q : List Entry) (i : ℕ) (e : Entry) → ((a : Entry) → p a ≡ true → is_w a ≡ true) → Covered p is_wo t q → slice_get q i ≡ Some e → t e ≡ true → is_o e ≡ true → held_back (take i q) e ≡ false
    → list_any p (take i q) ≡ false
unfolding held_back
covered_before p t [] i e only_w covered is te oe free = absurd cc
covered_before p t (a ∷ q) zero e only_w covered is te oe free = refl
covered_before p t (a ∷ q) (suc i) e only_w covered is te oe free =
    let parts = or_parts (list_any (λ m. orders m a e) (take i q)) (held_back (take i q) e) free in
    let here : p a ≡ false = elim (cases_Bool (p a)) [
      | inl pa ↦
          let stands = stands_before is_wo t q i e (covered.0 pa) is te (wo_is_mark e (o_is_no_mark e oe)) in
          let ordered = some_of_class is_wo (λ m. orders m a e) (λ m wo. wo_orders m a e wo (only_w a pa) oe) (take i q) stands in
          absurd (both_ways (list_any (λ m. orders m a e) (take i q)) parts.0 ordered)
      | inr other ↦ other
    ] in
    or_from (p a) (list_any p (take i q)) here (covered_before p t q i e only_w covered.2 is te oe parts.1)

-- a drain keeps what markers cover, and an entry of t and class O that drains leaves none of p
pub covered-drained : (s : ℕ) (p t : Entry → Bool) (q : List Entry) (i : ℕ) (e : Entry) → ((a : Entry) → p a ≡ true → is_w a ≡ true) → Covered p is_wo t q → drained s q i ≡ Some e → Covered p is_wo t (remove q i)
covered-drained s p t q i e only_w covered is =
    let at = drained-some s q i e is in
    covered-remove p is_wo t q i e at.0 (λ wo. none_of_class p is_w only_w (take i q) (wo_leaves s (take i q) e at.1 wo)) covered

pub covered-empties : (s : ℕ) (p t : Entry → Bool) (q : List Entry) (i : ℕ) (e : Entry) → ((a : Entry) → p a ≡ true → is_w a ≡ true) → Covered p is_wo t q → drained s q i ≡ Some e → t e ≡ true → is_o e ≡ true → list_any p (remove q i) ≡ false
covered-empties s p t q i e only_w covered is te oe =
    let at = drained-some s q i e is in
    let free = leaves_free s (take i q) e at.1 (o_is_no_mark e oe) in
    none-sides p q i (covered_before p t q i e only_w covered at.0 te oe free.not_held) (covered_behind p is_wo t q i e covered at.0 te)

pub ruleset marker_rules = (covered-empties)
