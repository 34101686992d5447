-- Owners that agree in RAM judge an access alike.
use Rattle.std.proofs.Common.{◌≡◌, ℕ, ◌+◌, ◌<◌, ◌≤◌, Bool, true, ◌&&◌, List, Option, Some, None, IfSome, refl, sym, ap, ◌∙◌, arith}
use Rattle.std.proofs.lemmas.Bool.{and_parts}
use Rattle.std.specs.List.{find}
use Rattle.nc_num.specs.Places.{covers}
use Rattle.nc_num.specs.declared.names.ChanNo.{ChanNo}
use Rattle.nc_num.specs.declared.places.Span.{Span}
use Rattle.nc_model.proofs.Faults.{covers-low, covers-high, fails, first_fault-same}
use Rattle.nc_model.proofs.GrantLaws.{found_passes, found_fits}
use Rattle.nc_model.specs.Grants.{FitsIn, AllFit, IsGrants}
use Rattle.nc_model.specs.Rights.{hart_may, is_device, device_may, buffer_place, has_device, serves, served_by, place_through, stands_for, granted, channel_may}
use Rattle.nc_model.specs.Touches.{first_fault, touch_at, owner_touch}
use Rattle.nc_model.specs.declared.owners.Access.{Access}
use Rattle.nc_model.specs.declared.owners.Actor.{Actor}
use Rattle.nc_model.specs.declared.owners.Actor.TheVariants.{Hart, Chan}
use Rattle.nc_model.specs.declared.owners.Grant.{Grant}
use Rattle.nc_model.specs.declared.owners.Owner.{Owner}
use Rattle.nc_model.specs.declared.touches.TouchKind.{TouchKind}

-- a place of a grant's device range stands for one of RAM
pub place_in_ram : (ram : ℕ) (g : Grant) (x : ℕ) → FitsIn ram g → covers g.device x ≡ true → buffer_place g x < ram
place_in_ram ram g x fits e = omega (arith, covers-low g.device x e, covers-high g.device x e, fits.lengths, fits.buffer)

through : (ram : ℕ) (grants : List Grant) (x : ℕ) (o : Option Grant) → AllFit ram grants → find (has_device x) grants ≡ o → x < ram → place_through o x < ram
through ram grants x None all e lt = lt
through ram grants x (Some g) all e lt = place_in_ram ram g x (found_fits ram (has_device x) grants g all e) (found_passes (has_device x) grants g e)

pub stands_in_ram : (ram : ℕ) (grants : List Grant) (x : ℕ) → AllFit ram grants → x < ram → stands_for grants x < ram
stands_in_ram ram grants x all lt = through ram grants x (find (has_device x) grants) all refl lt

-- what serves a channel fits RAM, and has the place
pub serving_fits : (ram : ℕ) (grants : List Grant) (c : ChanNo) (x : ℕ) (g : Grant) → AllFit ram grants → served_by grants c x ≡ Some g → FitsIn ram g
serving_fits ram grants c x g all e = found_fits ram (serves c x) grants g all e

pub serving_covers : (grants : List Grant) (c : ChanNo) (x : ℕ) (g : Grant) → served_by grants c x ≡ Some g → covers g.device x ≡ true
serving_covers grants c x g e = (and_parts _ _ (found_passes (serves c x) grants g e)).1

some_fits : (ram : ℕ) (p : Grant → Bool) (grants : List Grant) (o : Option Grant) → AllFit ram grants → o ≡ find p grants → IfSome o (FitsIn ram)
some_fits ram p grants None all e = tt
some_fits ram p grants (Some g) all e = found_fits ram p grants g all (sym e)

pub serving_fits_if : (ram : ℕ) (grants : List Grant) (c : ChanNo) (x : ℕ) (o : Option Grant) → AllFit ram grants → o ≡ served_by grants c x → IfSome o (FitsIn ram)
serving_fits_if ram grants c x o all e = some_fits ram (serves c x) grants o all e

pub device_fits_if : (ram : ℕ) (grants : List Grant) (x : ℕ) (o : Option Grant) → AllFit ram grants → o ≡ find (has_device x) grants → IfSome o (FitsIn ram)
device_fits_if ram grants x o all e = some_fits ram (has_device x) grants o all e

pub serving_covers_if : (grants : List Grant) (c : ChanNo) (x : ℕ) (o : Option Grant) → o ≡ served_by grants c x → IfSome o (λ g. covers g.device x ≡ true)
serving_covers_if grants c x None e = tt
serving_covers_if grants c x (Some g) e = serving_covers grants c x g (sym e)

pub device_covers_if : (grants : List Grant) (x : ℕ) (o : Option Grant) → o ≡ find (has_device x) grants → IfSome o (λ g. covers g.device x ≡ true)
device_covers_if grants x None e = tt
device_covers_if grants x (Some g) e = found_passes (has_device x) grants g (sym e)

granted_same : (owners others : ℕ → Owner) (ram : ℕ) (grants : List Grant) (c : ChanNo) (access : Access) (x : ℕ) (o : Option Grant)
    → ((y : ℕ) → y < ram → owners y ≡ others y) → AllFit ram grants → served_by grants c x ≡ o → granted owners access x o ≡ granted others access x o
granted_same owners others ram grants c access x None h all e = refl
granted_same owners others ram grants c access x (Some g) h all e =
    ap (λ p. is_device g.id p && device_may access g.dir) (h (buffer_place g x) (place_in_ram ram g x (serving_fits ram grants c x g all e) (serving_covers grants c x g e)))

touch_same : (kind : TouchKind) (who : Actor) (span : Span) (owners others : ℕ → Owner) (o : Option ℕ) → ((x : ℕ) → o ≡ Some x → owners x ≡ others x)
    → touch_at kind who span owners o ≡ touch_at kind who span others o
touch_same kind who span owners others None h = refl
touch_same kind who span owners others (Some x) h = ap (λ p. Some (record { kind = kind; who = who; span = span; holder = p })) (h x refl)

in_span : (may : ℕ → Bool) (span : Span) (ram x : ℕ) → span.at + span.len ≤ ram → first_fault may span ≡ Some x → x < ram
in_span may span ram x le e = omega (arith, covers-high span x (fails may span x e).0)

pub alike : (owners others : ℕ → Owner) (grants : List Grant) (who : Actor) (access : Access) (span : Span) (ram : ℕ)
    → ((x : ℕ) → x < ram → owners x ≡ others x) → IsGrants ram grants → span.at + span.len ≤ ram
    → owner_touch owners grants who access span ≡ owner_touch others grants who access span
alike owners others grants (Hart h) access span ram agree is le =
    touch_same _ (Hart h) span owners others _ (λ x e. agree x (in_span _ span ram x le e))
    ∙ ap (touch_at _ (Hart h) span others) (first_fault-same _ _ span (λ x e. ap (hart_may grants h access) (agree x (omega (arith, covers-high span x e)))))
alike owners others grants (Chan c) access span ram agree is le =
    touch_same _ (Chan c) span (λ x. owners (stands_for grants x)) (λ x. others (stands_for grants x)) _ (λ x e. agree (stands_for grants x) (stands_in_ram ram grants x is.fit (in_span _ span ram x le e)))
    ∙ ap (touch_at _ (Chan c) span (λ x. others (stands_for grants x))) (first_fault-same (channel_may owners grants c access) (channel_may others grants c access) span (λ x e. granted_same owners others ram grants c access x (served_by grants c x) agree is.fit refl))
