-- Who owns each place at the start.
use Rattle.std.specs.Prelude.{false, slice_index_or, replicate}
use Rattle.std.proofs.Common.{◌≡◌, ℕ, suc, ◌<◌, List, [], ◌∷◌, length, refl, sym, ◌∙◌, inl, inr, arith, subst}
use Rattle.std.proofs.lemmas.Bool.{cases_Bool}
use Rattle.nc_num.specs.Places.{covers}
use Rattle.nc_model.specs.declared.owners.Owner.{Owner}
use Rattle.nc_model.specs.declared.owners.Owner.TheVariants.{Thread, Passing, Lending, Device, Returning, Synced, Pool}
use Rattle.nc_own.specs.Books.{owner_in, transferred}
use Rattle.nc_own.proofs.Follows.{length-transferred}
use Rattle.nc_scen.specs.declared.scenario.BufferSpec.{BufferSpec}
use Rattle.nc_calls.proofs.SoundStart.{blank}
use Rattle.nc_rules.specs.World.{owned_by_harts}
use Rattle.nc_flatness.proofs.books.Regions.{no_buffer}
use Rattle.nc_flatness.proofs.books.Regions.{moved_in, moved_out}

abbrev pub nth : List BufferSpec → ℕ → BufferSpec
nth bs i = slice_index_or bs i no_buffer

-- a place of no buffer keeps its owner
pub owner_elsewhere : (os : List Owner) (bs : List BufferSpec) (x : ℕ) → x < length os → ((i : ℕ) → i < length bs → covers (nth bs i).span x ≡ false) → owner_in (owned_by_harts os bs) x ≡ owner_in os x
owner_elsewhere os [] x lt off = refl
owner_elsewhere os (b ∷ bs) x lt off =
    owner_elsewhere (transferred os b.span (Thread b.owner)) bs x (omega (arith, length-transferred os b.span (Thread b.owner), lt)) (λ i less. off (suc i) (omega (arith, less)))
    ∙ moved_out os b.span (Thread b.owner) x lt (off 0 (omega arith))

-- only harts and the pool own places
abbrev pub IsPlainOwner : Owner → Type 0
IsPlainOwner (Thread h) = Unit {0}
IsPlainOwner Pool = Unit {0}
IsPlainOwner (Passing h g) = ⊥
IsPlainOwner (Lending m) = ⊥
IsPlainOwner (Device m) = ⊥
IsPlainOwner (Returning m) = ⊥
IsPlainOwner (Synced m) = ⊥

pub plain_owner : (os : List Owner) (bs : List BufferSpec) (x : ℕ) → x < length os → IsPlainOwner (owner_in os x) → IsPlainOwner (owner_in (owned_by_harts os bs) x)
plain_owner os [] x lt plain = plain
plain_owner os (b ∷ bs) x lt plain =
    plain_owner (transferred os b.span (Thread b.owner)) bs x (omega (arith, length-transferred os b.span (Thread b.owner), lt))
    (elim (cases_Bool (covers b.span x)) [
      | inl over ↦ subst IsPlainOwner (sym (moved_in os b.span (Thread b.owner) x lt over)) tt
      | inr off ↦ subst IsPlainOwner (sym (moved_out os b.span (Thread b.owner) x lt off)) plain
    ])

pub all_pool : (n x : ℕ) → owner_in (replicate n Pool) x ≡ Pool
unfolding owner_in
all_pool n x = blank n x Pool
