-- Lots that are made: what a hart holds agrees with them.
use Rattle.std.proofs.Common.{◌≡◌, ℕ, zero, suc, true, false, List, [], ◌∷◌, ◌++◌, map, flat_map, inl, inr, refl, sym, ap, subst, ◌∙◌, Some}
use Rattle.std.specs.Prelude.{All, slice_get}
use Rattle.std.proofs.lemmas.Bool.{false≢true, eqb-true}
use Rattle.std.proofs.lemmas.List.Elements.{All-append}
use Rattle.nc_num.specs.Places.{covers}
use Rattle.nc_num.specs.declared.names.HartNo.{HartNo}
use Rattle.nc_num.specs.declared.names.MapId.{MapId}
use Rattle.nc_num.specs.declared.places.Span.{Span}
use Rattle.nc_plan.specs.Plans.{In}
use Rattle.nc_plan.proofs.PlanLaws.{in_left, in_right, in_map, in_flat_map}
use Rattle.nc_model.specs.Rights.{is_thread}
use Rattle.nc_model.specs.declared.owners.Grant.{Grant}
use Rattle.nc_model.specs.declared.owners.Owner.{Owner}
use Rattle.nc_model.specs.declared.owners.Owner.TheVariants as owners
use Rattle.nc_own.specs.Books.{owner_in}
use Rattle.nc_sg.specs.declared.list.Entry.{Entry}
use Rattle.nc_rules.specs.declared.lots.Lot.{Lot}
use Rattle.nc_rules.specs.declared.lots.Side.{Side}
use Rattle.nc_rules.specs.declared.lots.Side.TheVariants as sides
use Rattle.nc_rules.specs.Lots.{DriverConfig, is_wanted, is_own, map_id, owner_of_side}
use Rattle.nc_rules.specs.Refusals.{buffer_of}
use Rattle.nc_rules.specs.Turns.{is_area}
use Rattle.nc_scripts.specs.Drivers.{IsLotIn, IsSettled}
use Rattle.nc_scripts.specs.NewLots.{IsOwned, AreDisjoint, AreOwned, own_ranges}
use Rattle.nc_scripts.proofs.FreeLots.{new_lots_are_free}
use Rattle.nc_scripts.proofs.Lists.{all_to, all_in}
use Rattle.nc_holds.specs.Held.{Held, LiesInBuffer, IsEntryOf, IsSameEntry, EntriesAreApart, FitsSide, OwnersAgree, AreGranted, IsGrantOf, IsTaken}
use Rattle.nc_holds.specs.Changes.{Made, changed}
use Rattle.nc_holds.proofs.lists.Members.{of_append, all_at, at_get, same_some}
use Rattle.nc_holds.proofs.owners.Facts.{Knows, Mine, AllLent, NoAreas, IsMaking}
use Rattle.nc_holds.proofs.owners.Lots.{area_covers}
use Rattle.nc_holds.proofs.owners.Begins.{LiesSo, new_in_buffers}

-- ---- ranges that are owned, and apart

owned_left : (me : HartNo) (ws : List Owner) (rs qs : List Span) → AreOwned me ws (rs ++ qs) → AreOwned me ws rs
owned_left me ws [] qs h = tt
owned_left me ws (r ∷ rs) qs h = (h.0, all_in (AreDisjoint r) rs (λ q k. all_at (AreDisjoint r) (rs ++ qs) q h.1 (in_left q rs qs k)), owned_left me ws rs qs h.2)

owned_right : (me : HartNo) (ws : List Owner) (rs qs : List Span) → AreOwned me ws (rs ++ qs) → AreOwned me ws qs
owned_right me ws [] qs h = h
owned_right me ws (r ∷ rs) qs h = owned_right me ws rs qs h.2

owned_cross : (me : HartNo) (ws : List Owner) (rs qs : List Span) (r q : Span) → AreOwned me ws (rs ++ qs) → In r rs → In q qs → AreDisjoint r q
owned_cross me ws [] qs r q h k l = elim k [ ]
owned_cross me ws (p ∷ rs) qs r q h (inl e) l = subst (λ (s : Span). AreDisjoint s q) e (all_at (AreDisjoint p) (rs ++ qs) q h.1 (in_right q rs qs l))
owned_cross me ws (p ∷ rs) qs r q h (inr k) l = owned_cross me ws rs qs r q h.2 k l

owned_at : (me : HartNo) (ws : List Owner) (rs : List Span) (r : Span) → AreOwned me ws rs → In r rs → IsOwned me ws r
owned_at me ws [] r h k = elim k [ ]
owned_at me ws (q ∷ rs) r h (inl e) = subst (IsOwned me ws) e h.0
owned_at me ws (q ∷ rs) r h (inr k) = owned_at me ws rs r h.2 k

abbrev spans : List Entry → List Span
spans es = map (λ e. e.span) es

in_spans : (es : List Entry) (i : ℕ) (e : Entry) → slice_get es i ≡ Some e → In e.span (spans es)
in_spans es i e k = in_map (λ (d : Entry). d.span) e es (at_get es i e k)

index_apart : (me : HartNo) (ws : List Owner) (es : List Entry) (i j : ℕ) (d e : Entry) (x : ℕ) → AreOwned me ws (spans es) → slice_get es i ≡ Some d → slice_get es j ≡ Some e → covers d.span x ≡ true → covers e.span x ≡ true → i ≡ j
index_apart me ws [] i j d e x h kd ke on_d on_e = absurd (cc)
index_apart me ws (y ∷ es) zero zero d e x h kd ke on_d on_e = refl
index_apart me ws (y ∷ es) zero (suc j) d e x h kd ke on_d on_e =
    absurd (all_at (AreDisjoint y.span) (spans es) e.span h.1 (in_spans es j e ke) x (subst (λ (z : Entry). covers z.span x ≡ true) (sym (same_some y d kd)) on_d) on_e)
index_apart me ws (y ∷ es) (suc i) zero d e x h kd ke on_d on_e =
    absurd (all_at (AreDisjoint y.span) (spans es) d.span h.1 (in_spans es i d kd) x (subst (λ (z : Entry). covers z.span x ≡ true) (sym (same_some y e ke)) on_e) on_d)
index_apart me ws (y ∷ es) (suc i) (suc j) d e x h kd ke on_d on_e = ap suc (index_apart me ws es i j d e x h.2 kd ke on_d on_e)

-- ---- the new lots

own_is : (lot : Lot) → is_area lot.kind ≡ false → own_ranges lot ≡ spans lot.list.entries
own_is lot off = rw off refl

in_own : (new : List Lot) (lot : Lot) (i : ℕ) (e : Entry) → In lot new → is_area lot.kind ≡ false → slice_get lot.list.entries i ≡ Some e → In e.span (flat_map own_ranges new)
in_own new lot i e k off h = in_flat_map own_ranges lot e.span new k (subst (λ (rs : List Span). In e.span rs) (sym (own_is lot off)) (in_spans lot.list.entries i e h))

new_apart : (me : HartNo) (ws : List Owner) (new : List Lot) → NoAreas new → AreOwned me ws (flat_map own_ranges new)
    → (a b : Lot) (i j : ℕ) (d e : Entry) (x : ℕ) → In a new → In b new → slice_get a.list.entries i ≡ Some d → slice_get b.list.entries j ≡ Some e → covers d.span x ≡ true → covers e.span x ≡ true → IsSameEntry a i b j
new_apart me ws [] off h a b i j d e x ka kb ha hb on_d on_e = elim ka [ ]
new_apart me ws (lot ∷ new) off h a b i j d e x (inl sa) (inl sb) ha hb on_d on_e =
    let no = all_at (λ (l : Lot). is_area l.kind ≡ false) (lot ∷ new) lot off (inl refl) in
    let here = subst (λ (rs : List Span). AreOwned me ws rs) (own_is lot no) (owned_left me ws (own_ranges lot) (flat_map own_ranges new) h) in
    record {
      lot = ap (λ (l : Lot). l.id) (sym sa ∙ sb);
      entry = index_apart me ws lot.list.entries i j d e x here (subst (λ (l : Lot). slice_get l.list.entries i ≡ Some d) (sym sa) ha) (subst (λ (l : Lot). slice_get l.list.entries j ≡ Some e) (sym sb) hb) on_d on_e;
    }
new_apart me ws (lot ∷ new) off h a b i j d e x (inl sa) (inr kb) ha hb on_d on_e =
    let no = all_at (λ (l : Lot). is_area l.kind ≡ false) (lot ∷ new) in
    let first = in_own (lot ∷ []) a i d (inl sa) (no a off (inl sa)) ha in
    let second = in_own new b j e kb (no b off (inr kb)) hb in
    let one : In d.span (own_ranges lot) = subst (λ (l : Lot). In d.span (own_ranges l)) (sym sa) (subst (λ (rs : List Span). In d.span rs) (sym (own_is a (no a off (inl sa)))) (in_spans a.list.entries i d ha)) in
    absurd (owned_cross me ws (own_ranges lot) (flat_map own_ranges new) d.span e.span h one second x on_d on_e)
new_apart me ws (lot ∷ new) off h a b i j d e x (inr ka) (inl sb) ha hb on_d on_e =
    let no = all_at (λ (l : Lot). is_area l.kind ≡ false) (lot ∷ new) in
    let second = in_own new a i d ka (no a off (inr ka)) ha in
    let one : In e.span (own_ranges lot) = subst (λ (l : Lot). In e.span (own_ranges l)) (sym sb) (subst (λ (rs : List Span). In e.span rs) (sym (own_is b (no b off (inl sb)))) (in_spans b.list.entries j e hb)) in
    absurd (owned_cross me ws (own_ranges lot) (flat_map own_ranges new) e.span d.span h one second x on_e on_d)
new_apart me ws (lot ∷ new) off h a b i j d e x (inr ka) (inr kb) ha hb on_d on_e =
    new_apart me ws new (all_in (λ (l : Lot). is_area l.kind ≡ false) new (λ l k. all_at (λ (l : Lot). is_area l.kind ≡ false) (lot ∷ new) l off (inr k))) (owned_right me ws (own_ranges lot) (flat_map own_ranges new) h) a b i j d e x ka kb ha hb on_d on_e

-- ---- new lots and old ones

-- a byte of a lot that is lent is the hart's own only in an area
pub lent_not_own : (f : DriverConfig) (m : MapId) (side : Side) → is_wanted side ≡ false → is_thread f.me (owner_of_side m side) ≡ true → is_own side ≡ true
lent_not_own f m sides.Wanted lent e = absurd (false≢true (sym lent))
lent_not_own f m sides.Lending lent e = absurd (false≢true e)
lent_not_own f m sides.Device lent e = absurd (false≢true e)
lent_not_own f m sides.Returning lent e = absurd (false≢true e)
lent_not_own f m sides.Synced lent e = absurd (false≢true e)
lent_not_own f m sides.Own lent e = refl

-- a byte of a buffer that is the hart's own is of no lot that is lent
pub own_off_lent : (ram harts : ℕ) (f : DriverConfig) (s : Held) (lot : Lot) (i : ℕ) (e : Entry) (x b : ℕ) → Knows ram harts f s → Mine f s → IsEntryOf s.lots lot i e → is_wanted lot.side ≡ false → covers e.span x ≡ true
    → covers (buffer_of f b) x ≡ true → is_thread f.me (owner_in s.owners x) ≡ true → ⊥
own_off_lent ram harts f s lot i e x b knows mine h lent on on_b own =
    let side : is_thread f.me (owner_of_side (map_id f.me lot.id i) lot.side) ≡ true = subst (λ (o : Owner). is_thread f.me o ≡ true) (mine.owners lot i e x h on) own in
    let area = (all_at (FitsSide f) s.lots lot mine.sides h.lot_in).own (lent_not_own f (map_id f.me lot.id i) lot.side lent side) in
    knows.regions.buffers_off_pool b x on_b (area_covers ram f lot i e x (all_at (IsLotIn ram f) s.lots lot knows.lots h.lot_in) area h.entry on)

wanted_side : (side : Side) → is_wanted side ≡ true → side ≡ sides.Wanted
wanted_side sides.Wanted e = refl
wanted_side sides.Lending e = absurd (false≢true e)
wanted_side sides.Device e = absurd (false≢true e)
wanted_side sides.Returning e = absurd (false≢true e)
wanted_side sides.Synced e = absurd (false≢true e)
wanted_side sides.Own e = absurd (false≢true e)

thread_is : (me : HartNo) (o : Owner) → is_thread me o ≡ true → o ≡ owners.Thread me
thread_is me (owners.Thread g) e = let same = eqb-true g.0 me.0 e in λ i. owners.Thread (record { 0 = same i })
thread_is me (owners.Passing g h) e = absurd (false≢true e)
thread_is me (owners.Lending m) e = absurd (false≢true e)
thread_is me (owners.Device m) e = absurd (false≢true e)
thread_is me (owners.Returning m) e = absurd (false≢true e)
thread_is me (owners.Synced m) e = absurd (false≢true e)
thread_is me owners.Pool e = absurd (false≢true e)

-- ---- all of them

-- the new lots lie in buffers, are the hart's own, and are apart
pub record AreFresh (f : DriverConfig) (ws : List Owner) (new : List Lot) : Type 0 where
  pub off : NoAreas new
  pub lie : All (LiesSo f) new
  pub owned : AreOwned f.me ws (flat_map own_ranges new)
  pub wanted : All (λ lot. is_wanted lot.side ≡ true) new

fresh : (ram : ℕ) (f : DriverConfig) (s : Held) (new : List Lot) → IsMaking ram f s new → NoAreas new → AreFresh f s.owners new
fresh ram f s new h off = record {
  off = off;
  lie = new_in_buffers f s.lots new s.owners s.pages h.may.op h.may.begins;
  owned = (new_lots_are_free f s.lots new s.owners s.pages h.may.op h.may.begins).owned;
  wanted = h.each.wanted;
}

is_own_byte : (f : DriverConfig) (ws : List Owner) (new : List Lot) (lot : Lot) (i : ℕ) (e : Entry) (x : ℕ) → AreFresh f ws new → In lot new → slice_get lot.list.entries i ≡ Some e → covers e.span x ≡ true → is_thread f.me (owner_in ws x) ≡ true
is_own_byte f ws new lot i e x h k entry on =
    owned_at f.me ws (flat_map own_ranges new) e.span h.owned (in_own new lot i e k (all_at (λ (l : Lot). is_area l.kind ≡ false) new lot h.off k) entry) x on

off_old : (ram harts : ℕ) (f : DriverConfig) (s : Held) (new : List Lot) (old lot : Lot) (i j : ℕ) (d e : Entry) (x : ℕ) → Knows ram harts f s → Mine f s → AllLent s.lots → AreFresh f s.owners new → IsEntryOf s.lots old i d → In lot new
    → slice_get lot.list.entries j ≡ Some e → covers d.span x ≡ true → covers e.span x ≡ true → ⊥
off_old ram harts f s new old lot i j d e x knows mine lent h here k entry on_d on_e =
    let lies = all_at (λ (c : Entry). LiesInBuffer f c.span) lot.list.entries e (all_at (LiesSo f) new lot h.lie k (all_at (λ (l : Lot). is_area l.kind ≡ false) new lot h.off k)) (at_get lot.list.entries j e entry) in
    own_off_lent ram harts f s old i d x lies.0 knows mine here (all_at (λ (l : Lot). is_wanted l.side ≡ false) s.lots old lent here.lot_in) on_d (lies.1 x on_e) (is_own_byte f s.owners new lot j e x h k entry on_e)

made_apart : (ram harts : ℕ) (f : DriverConfig) (s : Held) (new : List Lot) → Knows ram harts f s → Mine f s → AllLent s.lots → AreFresh f s.owners new → EntriesAreApart (s.lots ++ new)
made_apart ram harts f s new knows mine lent h a b i j d e x ha hb on_d on_e = elim (of_append a s.lots new ha.lot_in) [
  | inl ka ↦ elim (of_append b s.lots new hb.lot_in) [
    | inl kb ↦ mine.apart a b i j d e x (record { lot_in = ka; entry = ha.entry }) (record { lot_in = kb; entry = hb.entry }) on_d on_e
    | inr kb ↦ absurd (off_old ram harts f s new a b i j d e x knows mine lent h (record { lot_in = ka; entry = ha.entry }) kb hb.entry on_d on_e)
  ]
  | inr ka ↦ elim (of_append b s.lots new hb.lot_in) [
    | inl kb ↦ absurd (off_old ram harts f s new b a j i e d x knows mine lent h (record { lot_in = kb; entry = hb.entry }) ka ha.entry on_e on_d)
    | inr kb ↦ new_apart f.me s.owners new h.off h.owned a b i j d e x ka kb ha.entry hb.entry on_d on_e
  ]
]

made_owners : (f : DriverConfig) (s : Held) (new : List Lot) → Mine f s → AreFresh f s.owners new → OwnersAgree f.me s.owners (s.lots ++ new)
made_owners f s new mine h lot i e x here on = elim (of_append lot s.lots new here.lot_in) [
  | inl k ↦ mine.owners lot i e x (record { lot_in = k; entry = here.entry }) on
  | inr k ↦
      let side = wanted_side lot.side (all_at (λ (l : Lot). is_wanted l.side ≡ true) new lot h.wanted k) in
      thread_is f.me (owner_in s.owners x) (is_own_byte f s.owners new lot i e x h k here.entry on) ∙ ap (owner_of_side (map_id f.me lot.id i)) (sym side)
]

not_both : (side : Side) → is_wanted side ≡ true → is_own side ≡ true → ⊥
not_both sides.Wanted w o = false≢true o
not_both sides.Lending w o = false≢true w
not_both sides.Device w o = false≢true w
not_both sides.Returning w o = false≢true w
not_both sides.Synced w o = false≢true w
not_both sides.Own w o = false≢true w

fits_new : (f : DriverConfig) (ws : List Owner) (new : List Lot) (lot : Lot) → AreFresh f ws new → In lot new → FitsSide f lot
fits_new f ws new lot h k = record {
  area = λ a. absurd (false≢true (sym (all_at (λ (l : Lot). is_area l.kind ≡ false) new lot h.off k) ∙ a));
  own = λ o. absurd (not_both lot.side (all_at (λ (l : Lot). is_wanted l.side ≡ true) new lot h.wanted k) o);
  in_buffer = all_at (LiesSo f) new lot h.lie k;
}

taken_new : (f : DriverConfig) (s : Held) (new : List Lot) (lot : Lot) → AreFresh f s.owners new → In lot new → IsTaken s.pages lot
taken_new f s new lot h k a = absurd (false≢true (sym (all_at (λ (l : Lot). is_area l.kind ≡ false) new lot h.off k) ∙ a))

-- what is granted stays, since the new lots are not lent
pub granted_more : (f : DriverConfig) (grants : List Grant) (lots new : List Lot) → AreGranted f grants lots → All (λ lot. is_wanted lot.side ≡ true) new → AreGranted f grants (lots ++ new)
granted_more f grants lots new agree wanted lot i e here lent = elim (of_append lot lots new here.lot_in) [
  | inl k ↦ agree lot i e (record { lot_in = k; entry = here.entry }) lent
  | inr k ↦ absurd (false≢true (sym lent ∙ all_at (λ (l : Lot). is_wanted l.side ≡ true) new lot wanted k))
]

pub held_more : (f : DriverConfig) (lots new : List Lot) (g : Grant) → IsGrantOf f lots g → IsGrantOf f (lots ++ new) g
held_more f lots new g h = record { lot = h.lot; i = h.i; entry = h.entry; here = record { lot_in = in_left h.lot lots new h.here.lot_in; entry = h.here.entry }; lent = h.lent; is = h.is }

pub settled_lent : (lots : List Lot) → All IsSettled lots → AllLent lots
settled_lent lots all = all_to IsSettled (λ lot. is_wanted lot.side ≡ false) lots all (λ lot h. h.lent)

pub mine_made : (ram harts : ℕ) (f : DriverConfig) (s : Held) (new : List Lot) → Knows ram harts f s → Mine f s → IsMaking ram f s new → NoAreas new → Mine f (changed f s (Made new))
mine_made ram harts f s new knows mine making off =
    let h = fresh ram f s new making off in
    let lent = settled_lent s.lots making.may.settled in
    record {
      sides = All-append (FitsSide f) s.lots new mine.sides (all_in (FitsSide f) new (λ lot k. fits_new f s.owners new lot h k));
      apart = made_apart ram harts f s new knows mine lent h;
      owners = made_owners f s new mine h;
      granted = granted_more f s.grants s.lots new mine.granted h.wanted;
      pages = All-append (IsTaken s.pages) s.lots new mine.pages (all_in (IsTaken s.pages) new (λ lot k. taken_new f s new lot h k));
      held = λ g k hart. held_more f s.lots new g (mine.held g k hart);
    }
