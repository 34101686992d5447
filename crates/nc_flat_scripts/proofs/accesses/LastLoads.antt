-- The last load of each hart, whose bytes a copy under way is to store: it stays while flat memory changes at places of
-- harts alone.
use Rattle.std.specs.Prelude.{Option, None}
use Rattle.std.proofs.Common.{◌≡◌, ◌⊎◌, ℕ, List, length, refl, sym, ◌∙◌, inl, inr, subst}
use Rattle.nc_num.specs.Memory.{byte}
use Rattle.nc_num.specs.declared.names.MapId.{MapId}
use Rattle.nc_num.specs.declared.places.Span.{Span}
use Rattle.nc_model.specs.declared.owners.Owner.{Owner}
use Rattle.nc_model.specs.declared.owners.Owner.TheVariants.{Lending, Returning}
use Rattle.nc_scen.specs.declared.scenario.Scenario.{Scenario}
use Rattle.nc_rules.specs.Machine.{MachineState, hart_of}
use Rattle.nc_rules.specs.EventTouches.{owner_of}
use Rattle.nc_rules.specs.World.{WorldState}
use Rattle.nc_rows.specs.Parts.{rest_last, LastIs, Lasts}
use Rattle.nc_rows.specs.Rows.{Book}
use Rattle.nc_flatness.specs.Books.{book_of}
use Rattle.nc_flatness.specs.Flatness.{Flatness}
use Rattle.nc_flatness.proofs.plans.Lasts.{last_stays}
use Rattle.nc_flat_scripts.specs.Entering.{IsUnowned}

-- flat memory changes at places of harts alone
abbrev pub ChangesOwn : WorldState → List ℕ → List ℕ → Type 0
ChangesOwn w f g = (x : ℕ) → IsUnowned (owner_of w x) → byte g x ≡ byte f x

lent_unowned : (o : Owner) (n : MapId) → (o ≡ Lending n) ⊎ (o ≡ Returning n) → IsUnowned o
lent_unowned o n (inl is) = subst IsUnowned (sym is) tt
lent_unowned o n (inr is) = subst IsUnowned (sym is) tt

-- nothing of the hart's last load is to be stored, or it is as before
abbrev pub LastStays : WorldState → MachineState → ℕ → Type 0
LastStays w n k = (rest_last ((book_of w).rest k) ≡ None) ⊎ ((hart_of n k).last ≡ (hart_of w.machine k).last)

pub last_none : (a : Book) (f : List ℕ) (k : ℕ) (bytes : List ℕ) (o : Option Span) → o ≡ None → LastIs a f k bytes o
last_none a f k bytes o none = subst (LastIs a f k bytes) (sym none) tt

pub lasts_stay : (sc : Scenario) (f g : List ℕ) (w : WorldState) (n : MachineState) → Flatness sc f w → length g ≡ length f → ChangesOwn w f g → ((k : ℕ) → LastStays w n k) → Lasts (book_of w) g n
lasts_stay sc f g w n flat long changes stays k = elim (stays k) [
  | inl none ↦ last_none (book_of w) g k (hart_of n k).last (rest_last ((book_of w).rest k)) none
  | inr same ↦ last_stays sc f g w (book_of w) n k flat (long ∙ flat.bytes.flat_size) refl same (λ m own. refl) (λ x m own lent. changes x (lent_unowned (owner_of w x) m lent))
]

-- flat memory stays
pub lasts_keep : (sc : Scenario) (f : List ℕ) (w : WorldState) (n : MachineState) → Flatness sc f w → ((k : ℕ) → LastStays w n k) → Lasts (book_of w) f n
lasts_keep sc f w n flat stays = lasts_stay sc f f w n flat refl (λ x un. refl) stays
