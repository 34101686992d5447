-- Entry i is drained where it may drain.
use Rattle.std.specs.Prelude.{Option, Some, None, slice_get, if◌then◌else◌}
use Rattle.std.proofs.Common.{◌≡◌, ℕ, zero, suc, ◌<◌, ◌≤◌, Bool, true, false, List, [], ◌∷◌, length, get_or, take, refl, sym, ap, ◌∙◌, arith}
use Rattle.nc_queue.specs.Rules.{may_leave, leaves, may_drain, drained}
use Rattle.nc_queue.specs.declared.entry.Entry.{Entry}

chosen : (b : Bool) (o : Option Entry) → b ≡ true → (if b then o else None) ≡ o
chosen true o is = refl
chosen false o is = absurd cc

left : (b : Bool) (o : Option Entry) → b ≡ false → (if b then o else None) ≡ None
left true o is = absurd cc
left false o is = refl

pub drained-here : (s : ℕ) (q : List Entry) (i : ℕ) (e : Entry) → may_drain s q i ≡ true → slice_get q i ≡ Some e → drained s q i ≡ Some e
unfolding drained
drained-here s q i e may is = chosen (may_drain s q i) (slice_get q i) may ∙ is

pub drained-none : (s : ℕ) (q : List Entry) (i : ℕ) → may_drain s q i ≡ false → drained s q i ≡ None
unfolding drained
drained-none s q i may = left (may_drain s q i) (slice_get q i) may

pub get_some : (xs : List Entry) (i : ℕ) (d : Entry) → i < length xs → slice_get xs i ≡ Some (get_or xs i d)
get_some [] i d lt = absurd (omega arith)
get_some (x ∷ xs) zero d lt = refl
get_some (x ∷ xs) (suc i) d lt = get_some xs i d (omega arith)

pub get_none : (xs : List Entry) (i : ℕ) → length xs ≤ i → None ≡ slice_get xs i
get_none [] i le = refl
get_none (x ∷ xs) zero le = absurd (omega arith)
get_none (x ∷ xs) (suc i) le = get_none xs i (omega arith)

-- an entry that exists may drain where it may leave those before it
pub may_drain-there : (s : ℕ) (q : List Entry) (i : ℕ) (e : Entry) → i < length q → e ≡ get_or q i e → may_drain s q i ≡ may_leave s (take i q) e
unfolding may_drain
may_drain-there s q i e lt is = ap (leaves s (take i q)) (get_some q i e lt ∙ ap Some (sym is))

pub may_drain-past : (s : ℕ) (q : List Entry) (i : ℕ) → length q ≤ i → may_drain s q i ≡ false
unfolding may_drain
may_drain-past s q i le = ap (leaves s (take i q)) (sym (get_none q i le))
