-- The owner of a place, and what it lets whom do.
use Rattle.std.proofs.Common.{◌≡◌, ◌↔◌, ℕ, Bool, true, false, ◌||◌, List, [], ◌∷◌, ◌++◌, Option, Some, None, refl, arith, cond}
use Rattle.std.specs.List.{list_any}
use Rattle.std.specs.Option.{option_map}
use Rattle.std.proofs.lemmas.Bool.{and_parts, eqb-true}
use Rattle.nc_num.specs.Places.{covers}
use Rattle.nc_num.specs.declared.names.ChanNo.{ChanNo}
use Rattle.nc_num.specs.declared.names.HartNo.{HartNo}
use Rattle.nc_num.specs.declared.names.MapId.{MapId}
use Rattle.nc_num.specs.declared.places.Span.{Span}
use Rattle.nc_model.specs.Laws.{NewestWins, OneMay}
use Rattle.nc_model.specs.Owners.{owner_at, covered}
use Rattle.nc_model.specs.Rights.{hart_may, is_device, serves, served_by, resolve, reached}
use Rattle.nc_model.specs.declared.owners.Access.{Access}
use Rattle.nc_model.specs.declared.owners.Grant.{Grant}
use Rattle.nc_model.specs.declared.owners.Owner.{Owner}
use Rattle.nc_model.specs.declared.owners.Owner.TheVariants.{Thread, Passing, Lending, Device, Returning, Synced, Pool}

pub newest_wins : (t : Span × Owner) (ts : List (Span × Owner)) (x : ℕ) → NewestWins t ts x
newest_wins t ts x = record { inside = λ e. rw e refl; outside = λ e. rw e refl }

later_by : (b : Bool) (o o' : Owner) (c : Bool) (p q : Owner) → o' ≡ cond c p q → cond b o o' ≡ cond (b || c) (cond b o p) q
later_by true o o' c p q e = refl
later_by false o o' c p q e = e

pub later_win : (ts us : List (Span × Owner)) (x : ℕ) → owner_at (ts ++ us) x ≡ cond (covered ts x) (owner_at ts x) (owner_at us x)
later_win [] us x = refl
later_win (t ∷ ts) us x = later_by (covers t.0 x) t.1 (owner_at (ts ++ us) x) (covered ts x) (owner_at ts x) (owner_at us x) (later_win ts us x)

one_hart : (grants : List Grant) (h g : HartNo) (a b : Access) (o : Owner) → hart_may grants h a o ≡ true → hart_may grants g b o ≡ true → h.0 ≡ g.0
one_hart grants h g a b (Thread k) p q = omega (arith, eqb-true k.0 h.0 p, eqb-true k.0 g.0 q)
one_hart grants h g a b (Synced m) p q =
    omega (arith, eqb-true m.hart.0 h.0 (and_parts _ _ p).0, eqb-true m.hart.0 g.0 (and_parts _ _ q).0)
one_hart grants h g a b (Passing k l) p q = cc
one_hart grants h g a b (Lending m) p q = cc
one_hart grants h g a b (Device m) p q = cc
one_hart grants h g a b (Returning m) p q = cc
one_hart grants h g a b Pool p q = cc

no_device : (grants : List Grant) (h : HartNo) (a : Access) (m : MapId) (o : Owner) → hart_may grants h a o ≡ true → is_device m o ≡ false
no_device grants h a m (Thread k) p = refl
no_device grants h a m (Synced k) p = refl
no_device grants h a m (Passing k l) p = refl
no_device grants h a m (Lending k) p = refl
no_device grants h a m (Device k) p = cc
no_device grants h a m (Returning k) p = refl
no_device grants h a m Pool p = refl

pub one_may_lem : (grants : List Grant) (h : HartNo) (access : Access) (owner : Owner) → OneMay grants h access owner
one_may_lem grants h access owner = record { harts = λ g other. one_hart grants h g access other owner; device = λ m. no_device grants h access m owner }

find_by : (b : Bool) (g : Grant) (o : Option Grant) (c : Bool) (x : ℕ) → (option_map (reached x) o ≡ None) ↔ (c ≡ false)
    → (option_map (reached x) (cond b (Some g) o) ≡ None) ↔ ((b || c) ≡ false)
find_by true g o c x h = (λ e. cc, λ e. cc)
find_by false g o c x h = h

pub is_resolved : (grants : List Grant) (c : ChanNo) (x : ℕ) → (resolve grants c x ≡ None) ↔ (list_any (serves c x) grants ≡ false)
is_resolved [] c x = (λ e. refl, λ e. refl)
is_resolved (g ∷ grants) c x = find_by (serves c x g) g (served_by grants c x) (list_any (serves c x) grants) x (is_resolved grants c x)
