-- The owner of a byte behind transfers, and what is made of each entry of a lot.
use Rattle.std.proofs.Common.{◌≡◌, ℕ, zero, suc, ◌+◌, ◌<◌, ◌≤◌, true, false, List, [], ◌∷◌, length, inl, inr, refl, sym, ap, subst, ◌∙◌, arith, cond, Some}
use Rattle.std.specs.Prelude.{slice_get}
use Rattle.std.proofs.lemmas.Bool.{cases_lt, cases_Bool}
use Rattle.std.proofs.lemmas.List.{get_or_past}
use Rattle.nc_num.specs.Places.{covers}
use Rattle.nc_num.specs.declared.names.HartNo.{HartNo}
use Rattle.nc_num.specs.declared.names.MapId.{MapId}
use Rattle.nc_num.specs.declared.places.Span.{Span}
use Rattle.nc_plan.specs.Plans.{In}
use Rattle.nc_plan.proofs.PlanLaws.{in_flat_map}
use Rattle.nc_model.specs.declared.owners.Owner.{Owner}
use Rattle.nc_model.specs.declared.owners.Owner.TheVariants as owners
use Rattle.nc_own.specs.Books.{owner_in, transferred}
use Rattle.nc_own.proofs.Follows.{length-transferred, owner_in-transferred}
use Rattle.nc_sg.specs.declared.list.Entry.{Entry}
use Rattle.nc_rules.specs.declared.lots.Lot.{Lot}
use Rattle.nc_rules.specs.declared.lots.LotId.{LotId}
use Rattle.nc_rules.specs.Lots.{map_id, each_from, is_lot}
use Rattle.nc_rules.specs.Turns.{those, of_those}
use Rattle.nc_rules.specs.World.{owners_moved}
use Rattle.nc_holds.proofs.lists.Members.{of_flat_map, of_filter, in_filter, same_some}

-- ---- owners

pub past_end : (ws : List Owner) (x : ℕ) → length ws ≤ x → owner_in ws x ≡ owners.Pool
unfolding owner_in
past_end ws x le = get_or_past ws x owners.Pool le

pub transferred_off : (ws : List Owner) (span : Span) (o : Owner) (x : ℕ) → covers span x ≡ false → owner_in (transferred ws span o) x ≡ owner_in ws x
transferred_off ws span o x e = elim (cases_lt x (length ws)) [
  | inl lt ↦ owner_in-transferred ws span o x lt ∙ ap (λ b. cond b o (owner_in ws x)) e
  | inr past ↦ past_end (transferred ws span o) x (omega (arith, length-transferred ws span o, past)) ∙ sym (past_end ws x past)
]

pub transferred_on : (ws : List Owner) (span : Span) (o : Owner) (x : ℕ) → x < length ws → covers span x ≡ true → owner_in (transferred ws span o) x ≡ o
transferred_on ws span o x lt e = owner_in-transferred ws span o x lt ∙ ap (λ b. cond b o (owner_in ws x)) e

-- it is the new owner, or stays
pub transferred_by : (P : Owner → Type 0) (ws : List Owner) (span : Span) (o : Owner) (x : ℕ) → P (owner_in ws x) → (covers span x ≡ true → P o) → P (owner_in (transferred ws span o) x)
transferred_by P ws span o x before now = elim (cases_Bool (covers span x)) [
  | inl on ↦ elim (cases_lt x (length ws)) [
    | inl lt ↦ subst P (sym (transferred_on ws span o x lt on)) (now on)
    | inr past ↦ subst P (past_end ws x past ∙ sym (past_end (transferred ws span o) x (omega (arith, length-transferred ws span o, past)))) before
  ]
  | inr off ↦ subst P (sym (transferred_off ws span o x off)) before
]

pub length-moved : (ws : List Owner) (ts : List (Span × Owner)) → length (owners_moved ws ts) ≡ length ws
length-moved ws [] = refl
length-moved ws (t ∷ ts) = length-moved (transferred ws t.0 t.1) ts ∙ length-transferred ws t.0 t.1

pub moved_by : (P : Owner → Type 0) (ws : List Owner) (ts : List (Span × Owner)) (x : ℕ) → P (owner_in ws x) → ((t : Span × Owner) → In t ts → covers t.0 x ≡ true → P t.1) → P (owner_in (owners_moved ws ts) x)
moved_by P ws [] x before each = before
moved_by P ws (t ∷ ts) x before each = moved_by P (transferred ws t.0 t.1) ts x (transferred_by P ws t.0 t.1 x before (each t (inl refl))) (λ u k. each u (inr k))

pub moved_to : (P : Owner → Type 0) (ws : List Owner) (ts : List (Span × Owner)) (x : ℕ) (t : Span × Owner) → x < length ws → In t ts → covers t.0 x ≡ true → ((u : Span × Owner) → In u ts → covers u.0 x ≡ true → P u.1) → P (owner_in (owners_moved ws ts) x)
moved_to P ws [] x t lt k on each = elim k [ ]
moved_to P ws (u ∷ ts) x t lt (inl e) on each =
    let here : covers u.0 x ≡ true = subst (λ (v : Span × Owner). covers v.0 x ≡ true) (sym e) on in
    moved_by P (transferred ws u.0 u.1) ts x (subst P (sym (transferred_on ws u.0 u.1 x lt here)) (each u (inl refl) here)) (λ v k. each v (inr k))
moved_to P ws (u ∷ ts) x t lt (inr k) on each =
    moved_to P (transferred ws u.0 u.1) ts x t (omega (arith, length-transferred ws u.0 u.1, lt)) k on (λ v l. each v (inr l))

-- no transfer has the byte
pub moved_off : (ws : List Owner) (ts : List (Span × Owner)) (x : ℕ) → ((t : Span × Owner) → In t ts → covers t.0 x ≡ true → ⊥) → owner_in (owners_moved ws ts) x ≡ owner_in ws x
moved_off ws ts x off = moved_by (λ o. o ≡ owner_in ws x) ws ts x refl (λ t k on. absurd (off t k on))

-- ---- each entry of a lot

pub record FromEntry {A : Type 0} (me : HartNo) (id : LotId) (i : ℕ) (g : MapId → Entry → A) (es : List Entry) (y : A) : Type 0 where
  pub j : ℕ
  pub entry : Entry
  pub here : slice_get es j ≡ Some entry
  pub is : g (map_id me id (i + j)) entry ≡ y

pub of_each : {A : Type 0} (me : HartNo) (id : LotId) (i : ℕ) (g : MapId → Entry → A) (es : List Entry) (y : A) → In y (each_from me id i g es) → FromEntry me id i g es y
of_each me id i g [] y k = elim k [ ]
of_each {A = A} me id i g (e ∷ es) y (inl same) = let n : i ≡ i + 0 = omega arith in record { j = zero; entry = e; here = refl; is = subst (λ (j : ℕ). ◌≡◌ {A = A} (g (map_id me id j) e) y) n same }
of_each {A = A} me id i g (e ∷ es) y (inr k) =
    let r = of_each me id (i + 1) g es y k in
    let n : i + 1 + r.j ≡ i + suc r.j = omega arith in
    record { j = suc r.j; entry = r.entry; here = r.here; is = subst (λ (j : ℕ). ◌≡◌ {A = A} (g (map_id me id j) r.entry) y) n r.is }

pub in_each : {A : Type 0} (me : HartNo) (id : LotId) (i : ℕ) (g : MapId → Entry → A) (es : List Entry) (j : ℕ) (e : Entry) → slice_get es j ≡ Some e → In (g (map_id me id (i + j)) e) (each_from me id i g es)
in_each me id i g [] j e k = absurd (cc)
in_each me id i g (d ∷ es) zero e k = let n : i ≡ i + 0 = omega arith in let same : d ≡ e = same_some d e k in inl (λ z. g (map_id me id (n z)) (same z))
in_each {A = A} me id i g (d ∷ es) (suc j) e k =
    let n : i + 1 + j ≡ i + suc j = omega arith in
    inr (subst (λ (m : ℕ). In {X = A} (g (map_id me id m) e) (each_from me id (i + 1) g es)) n (in_each me id (i + 1) g es j e k))

-- ---- the lots of a name

pub record FromLot {A : Type 0} (f : Lot → List A) (id : LotId) (lots : List Lot) (y : A) : Type 0 where
  pub lot : Lot
  pub here : In lot lots
  pub named : is_lot id lot ≡ true
  pub is : In y (f lot)

pub of_named : {A : Type 0} (f : Lot → List A) (id : LotId) (lots : List Lot) (y : A) → In y (of_those f id lots) → FromLot f id lots y
of_named f id lots y k =
    let r = of_flat_map f y (those id lots) k in
    let p = of_filter (is_lot id) r.0 lots r.1 in
    record { lot = r.0; here = p.0; named = p.1; is = r.2 }

pub in_named : {A : Type 0} (f : Lot → List A) (id : LotId) (lots : List Lot) (lot : Lot) (y : A) → In lot lots → is_lot id lot ≡ true → In y (f lot) → In y (of_those f id lots)
in_named f id lots lot y k e h = in_flat_map f lot y (those id lots) (in_filter (is_lot id) lot lots k e) h
