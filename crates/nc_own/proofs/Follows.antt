-- The list of owners follows the transfers.
use Rattle.std.proofs.Common.{◌≡◌, ℕ, zero, suc, ◌+◌, ◌<◌, ◌≤◌, List, [], ◌∷◌, length, replicate, map, cond, refl, ap, ◌∙◌, arith}
use Rattle.std.proofs.lemmas.List.FromFn.{get_or-map-range_with_len, length-map-range_with_len}
use Rattle.std.specs.List.{range_with_len}
use Rattle.nc_num.specs.Places.{covers}
use Rattle.nc_num.specs.declared.places.Span.{Span}
use Rattle.nc_model.specs.Owners.{owner_at}
use Rattle.nc_model.specs.declared.owners.Owner.{Owner}
use Rattle.nc_model.specs.declared.owners.Owner.TheVariants.{Pool}
use Rattle.nc_own.specs.Books.{owner_in, transferred, owners_of}
use Rattle.nc_own.specs.Laws.{FollowsTransfers}

map_agree : {X : Type 0} (f g : ℕ → X) (at n : ℕ) → ((x : ℕ) → at ≤ x → x < at + n → f x ≡ g x) → map f (range_with_len at n) ≡ map g (range_with_len at n)
map_agree f g at zero h = refl
map_agree f g at (suc n) h =
    ap (λ x. x ∷ map f (range_with_len (at + 1) n)) (h at (omega arith) (omega arith))
    ∙ ap (λ xs. g at ∷ xs) (map_agree f g (at + 1) n (λ x le lt. h x (omega arith) (omega arith)))

all_pool : (at n : ℕ) → map (owner_at []) (range_with_len at n) ≡ replicate n Pool
all_pool at zero = refl
all_pool at (suc n) = ap (λ xs. Pool ∷ xs) (all_pool (at + 1) n)

pub length-owners_of : (ram : ℕ) (ts : List (Span × Owner)) → length (owners_of ram ts) ≡ ram
unfolding owners_of
length-owners_of ram ts = length-map-range_with_len (owner_at ts) 0 ram

pub owner_in-owners_of : (ram : ℕ) (ts : List (Span × Owner)) (x : ℕ) → x < ram → owner_in (owners_of ram ts) x ≡ owner_at ts x
unfolding owner_in owners_of
owner_in-owners_of ram ts x lt = get_or-map-range_with_len (owner_at ts) 0 ram x x Pool lt (omega arith)

pub owners_of-nil : (ram : ℕ) → owners_of ram [] ≡ replicate ram Pool
unfolding owners_of
owners_of-nil ram = all_pool 0 ram

map_of : (ram : ℕ) (ts : List (Span × Owner)) → map (owner_at ts) (range_with_len 0 ram) ≡ owners_of ram ts
unfolding owners_of
map_of ram ts = refl

pub transferred-owners_of : (ram : ℕ) (ts : List (Span × Owner)) (span : Span) (owner : Owner) → transferred (owners_of ram ts) span owner ≡ owners_of ram ((span, owner) ∷ ts)
unfolding transferred
transferred-owners_of ram ts span owner =
    rw (length-owners_of ram ts)
    (map_agree (λ x. cond (covers span x) owner (owner_in (owners_of ram ts) x)) (owner_at ((span, owner) ∷ ts)) 0 ram (λ x le lt. ap (λ (o : Owner). cond (covers span x) owner o) (owner_in-owners_of ram ts x (omega arith)))
    ∙ map_of ram ((span, owner) ∷ ts))

-- transfers that give each place of RAM one owner
pub owners_of-same : (ram : ℕ) (ts us : List (Span × Owner)) → ((x : ℕ) → x < ram → owner_at ts x ≡ owner_at us x) → owners_of ram ts ≡ owners_of ram us
unfolding owners_of
owners_of-same ram ts us h = map_agree (owner_at ts) (owner_at us) 0 ram (λ x le lt. h x (omega arith))

-- the owner of each place after a change
pub length-transferred : (owners : List Owner) (span : Span) (owner : Owner) → length (transferred owners span owner) ≡ length owners
unfolding transferred
length-transferred owners span owner = length-map-range_with_len _ 0 (length owners)

pub owner_in-transferred : (owners : List Owner) (span : Span) (owner : Owner) (x : ℕ) → x < length owners → owner_in (transferred owners span owner) x ≡ cond (covers span x) owner (owner_in owners x)
unfolding owner_in transferred
owner_in-transferred owners span owner x lt = get_or-map-range_with_len (λ k. cond (covers span k) owner (owner_in owners k)) 0 (length owners) x x Pool lt (omega arith)

pub follows : (ram : ℕ) (ts : List (Span × Owner)) → FollowsTransfers ram ts
follows ram ts = record {
  start = owners_of-nil ram;
  size = length-owners_of ram ts;
  owner = owner_in-owners_of ram ts;
  change = transferred-owners_of ram ts;
}
