-- What it means that an access is no touch.
use Rattle.std.proofs.Common.{◌≡◌, ℕ, true, List, Option, Some, None, refl, ap, inl, inr}
use Rattle.std.proofs.lemmas.Bool.{and_parts, eqb-true}
use Rattle.std.specs.Option.{option_or}
use Rattle.nc_num.specs.Places.{covers}
use Rattle.nc_num.specs.declared.names.ChanNo.{ChanNo}
use Rattle.nc_num.specs.declared.names.HartNo.{HartNo}
use Rattle.nc_num.specs.declared.names.MemType.{MemType}
use Rattle.nc_num.specs.declared.places.Span.{Span}
use Rattle.nc_model.proofs.Faults.{passes}
use Rattle.nc_model.specs.Laws.{HartUses, ChannelUses, IsAllowed}
use Rattle.nc_model.specs.Rights.{hart_may, served_by, granted, channel_may}
use Rattle.nc_model.specs.Touches.{touch_at, rights_touch, alias_touch, piece_touch, channel_touch, is_its_type}
use Rattle.nc_model.specs.declared.owners.Access.{Access}
use Rattle.nc_model.specs.declared.owners.Actor.{Actor}
use Rattle.nc_model.specs.declared.owners.Grant.{Grant}
use Rattle.nc_model.specs.declared.owners.Owner.{Owner}
use Rattle.nc_model.specs.declared.owners.Owner.TheVariants.{Thread, Passing, Lending, Device, Returning, Synced, Pool}
use Rattle.nc_model.specs.declared.touches.Touch.{Touch}
use Rattle.nc_model.specs.declared.touches.TouchKind.{TouchKind}

-- no touch, no fault
no_fault : (kind : TouchKind) (who : Actor) (s : Span) (owners : ℕ → Owner) (o : Option ℕ) → touch_at kind who s owners o ≡ None → o ≡ None
no_fault kind who s owners None e = refl
no_fault kind who s owners (Some x) e = cc

neither : (a b : Option Touch) → option_or a b ≡ None → (a ≡ None) × (b ≡ None)
neither None b e = (refl, e)
neither (Some t) b e = cc

pub rights_passed : (owners : ℕ → Owner) (grants : List Grant) (h : HartNo) (access : Access) (s : Span) (x : ℕ) → rights_touch owners grants h access s ≡ None → covers s x ≡ true → hart_may grants h access (owners x) ≡ true
rights_passed owners grants h access s x e =
    passes (λ y. hart_may grants h access (owners y)) s x (no_fault _ _ s owners _ e)

pub type_passed : (owners : ℕ → Owner) (pool : Span) (h : HartNo) (s : Span) (type : MemType) (x : ℕ) → alias_touch owners pool h s type ≡ None → covers s x ≡ true → is_its_type pool type x ≡ true
type_passed owners pool h s type x e = passes (is_its_type pool type) s x (no_fault _ _ s owners _ e)

pub piece_passed : (owners : ℕ → Owner) (grants : List Grant) (pool : Span) (h : HartNo) (access : Access) (s : Span) (type : MemType) → piece_touch owners grants pool h access s type ≡ None
    → (rights_touch owners grants h access s ≡ None) × (alias_touch owners pool h s type ≡ None)
piece_passed owners grants pool h access s type e = neither _ _ e

pub channel_passed : (owners : ℕ → Owner) (grants : List Grant) (c : ChanNo) (access : Access) (s : Span) (x : ℕ) → channel_touch owners grants c access s ≡ None → covers s x ≡ true → channel_may owners grants c access x ≡ true
channel_passed owners grants c access s x e = passes (channel_may owners grants c access) s x (no_fault _ _ s _ _ e)

-- whose bytes a hart may use
pub hart_uses : (grants : List Grant) (h : HartNo) (access : Access) (o : Owner) → hart_may grants h access o ≡ true → HartUses grants h access o
hart_uses grants h access (Thread g) e = inl (ap (λ n. Thread (record { 0 = n })) (eqb-true g.0 h.0 e))
hart_uses grants h access (Synced m) e =
    let parts = and_parts _ _ e in
    inr (m, refl, eqb-true m.hart.0 h.0 parts.0, parts.1)
hart_uses grants h access (Passing g k) e = cc
hart_uses grants h access (Lending m) e = cc
hart_uses grants h access (Device m) e = cc
hart_uses grants h access (Returning m) e = cc
hart_uses grants h access Pool e = cc

channel_by : (owners : ℕ → Owner) (grants : List Grant) (c : ChanNo) (access : Access) (x : ℕ) (o : Option Grant) → served_by grants c x ≡ o → granted owners access x o ≡ true → ChannelUses owners grants c access x
channel_by owners grants c access x None s e = cc
channel_by owners grants c access x (Some g) s e =
    let parts = and_parts _ _ e in
    record { grant = g; serves = s; owner = parts.0; allows = parts.1 }

pub channel_uses : (owners : ℕ → Owner) (grants : List Grant) (c : ChanNo) (access : Access) (x : ℕ) → channel_may owners grants c access x ≡ true → ChannelUses owners grants c access x
channel_uses owners grants c access x e = channel_by owners grants c access x (served_by grants c x) refl e

pub is_allowed : (owners : ℕ → Owner) (grants : List Grant) → IsAllowed owners grants
is_allowed owners grants = record {
  hart = λ h access s e x inside. hart_uses grants h access (owners x) (rights_passed owners grants h access s x e inside);
  type = λ pool h s type e x inside. type_passed owners pool h s type x e inside;
  channel = λ c access s e x inside. channel_uses owners grants c access x (channel_passed owners grants c access s x e inside);
}
