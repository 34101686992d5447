-- A slot that is given to a lot that is not lent, and lots that are given up.
use Rattle.std.proofs.Common.{◌≡◌, ℕ, zero, suc, Bool, true, false, List, [], ◌∷◌, inl, inr, refl, sym, ap, subst, ◌∙◌, Some}
use Rattle.std.specs.Prelude.{not, All, slice_get, if◌then◌else◌}
use Rattle.std.proofs.lemmas.Bool.{false≢true}
use Rattle.nc_num.specs.Places.{covers}
use Rattle.nc_num.specs.declared.places.Span.{Span}
use Rattle.nc_plan.specs.Plans.{In}
use Rattle.nc_own.specs.Books.{owner_in}
use Rattle.nc_coherent.specs.Pages.{PageMap}
use Rattle.nc_sg.specs.declared.list.Entry.{Entry}
use Rattle.nc_sg.specs.Lists.{waits, give_slot}
use Rattle.nc_rules.specs.declared.lots.Lot.{Lot}
use Rattle.nc_rules.specs.Lots.{DriverConfig, is_wanted, lot_waits, with_slot, slot_given, map_id, only_entry, owner_of_side}
use Rattle.nc_scripts.proofs.Lists.{all_in}
use Rattle.nc_holds.specs.Held.{Held, LiesInBuffer, FitsSide, OwnersAgree, AreGranted, IsTaken}
use Rattle.nc_holds.specs.Changes.{WaitsUnlent, Got, Dropped, changed}
use Rattle.nc_holds.proofs.lists.Members.{all_at, at_get, get_at, same_some}
use Rattle.nc_holds.proofs.owners.Facts.{Mine}
use Rattle.nc_holds.proofs.owners.Lots.{SameSpans, same_spans, ComesFrom, apart_from}
use Rattle.nc_holds.proofs.owners.Ends.{left_all, left_apart, left_owners, left_granted, left_held}

-- ---- entries

spans_by : (k : ℕ) (d : Entry) (es : List Entry) (b : Bool) (i : ℕ) (e : Entry) → slice_get (if b then record d { slot = Some k } ∷ es else d ∷ give_slot k es) i ≡ Some e
    → ((j : ℕ) (c : Entry) → slice_get (give_slot k es) j ≡ Some c → (y : Entry) × (slice_get es j ≡ Some y) × (y.span ≡ c.span)) → (y : Entry) × (slice_get (d ∷ es) i ≡ Some y) × (y.span ≡ e.span)
spans_by k d es true zero e h more = (d, refl, ap (λ (y : Entry). y.span) (same_some (record d { slot = Some k }) e h))
spans_by k d es true (suc i) e h more = (e, h, refl)
spans_by k d es false zero e h more = (d, refl, ap (λ (y : Entry). y.span) (same_some d e h))
spans_by k d es false (suc i) e h more = more i e h

spans_given : (k : ℕ) (es : List Entry) (i : ℕ) (e : Entry) → slice_get (give_slot k es) i ≡ Some e → (d : Entry) × (slice_get es i ≡ Some d) × (d.span ≡ e.span)
spans_given k [] i e h = absurd (cc)
spans_given k (d ∷ es) i e h = spans_by k d es (waits d) i e h (spans_given k es)

with_spans : (k : ℕ) (lot : Lot) → SameSpans lot (with_slot k lot)
with_spans k lot = record { id = refl; kind = refl; spans = spans_given k lot.list.entries }

only_by : (k : ℕ) (d : Entry) (es : List Entry) (b : Bool) (lot : Lot) → (only_entry (record lot { list = record lot.list { entries = if b then record d { slot = Some k } ∷ es else d ∷ give_slot k es } })).span ≡ d.span
only_by k d es true lot = refl
only_by k d es false lot = refl

only_of : (k : ℕ) (es : List Entry) (lot : Lot) → (only_entry (record lot { list = record lot.list { entries = give_slot k es } })).span ≡ (only_entry (record lot { list = record lot.list { entries = es } })).span
only_of k [] lot = refl
only_of k (d ∷ es) lot = only_by k d es (waits d) lot

only_given : (k : ℕ) (lot : Lot) → (only_entry (with_slot k lot)).span ≡ (only_entry lot).span
only_given k lot = only_of k lot.list.entries lot

-- ---- lots

-- the lot itself, or the one that waited with its slot
pub data GivenBy (k : ℕ) (lot now : Lot) : Type 0 where
  kept : lot ≡ now → GivenBy k lot now
  slotted : lot_waits lot ≡ true → with_slot k lot ≡ now → GivenBy k lot now

pub record IsGiven (k : ℕ) (lots : List Lot) (now : Lot) : Type 0 where
  pub lot : Lot
  pub here : In lot lots
  pub how : GivenBy k lot now

more_given : (k : ℕ) (l : Lot) (lots : List Lot) (now : Lot) → IsGiven k lots now → IsGiven k (l ∷ lots) now
more_given k l lots now h = record { lot = h.lot; here = inr h.here; how = h.how }

given_by : (k : ℕ) (l : Lot) (lots : List Lot) (now : Lot) (b : Bool) → lot_waits l ≡ b → (In now (slot_given k lots) → IsGiven k lots now) → In now (if b then with_slot k l ∷ lots else l ∷ slot_given k lots) → IsGiven k (l ∷ lots) now
given_by k l lots now true w more (inl e) = record { lot = l; here = inl refl; how = slotted w e }
given_by k l lots now true w more (inr h) = record { lot = now; here = inr h; how = kept refl }
given_by k l lots now false w more (inl e) = record { lot = l; here = inl refl; how = kept e }
given_by k l lots now false w more (inr h) = more_given k l lots now (more h)

pub of_given : (k : ℕ) (lots : List Lot) (now : Lot) → In now (slot_given k lots) → IsGiven k lots now
of_given k [] now h = elim h [ ]
of_given k (l ∷ lots) now h = given_by k l lots now (lot_waits l) refl (of_given k lots now) h

in_by : (k : ℕ) (l : Lot) (lots : List Lot) (lot : Lot) (b : Bool) → lot_waits l ≡ b → lot_waits lot ≡ false → (In lot lots → In lot (slot_given k lots)) → In lot (l ∷ lots) → In lot (if b then with_slot k l ∷ lots else l ∷ slot_given k lots)
in_by k l lots lot true w off more (inl e) = absurd (false≢true (sym off ∙ ap lot_waits (sym e) ∙ w))
in_by k l lots lot true w off more (inr h) = inr h
in_by k l lots lot false w off more (inl e) = inl e
in_by k l lots lot false w off more (inr h) = inr (more h)

-- a lot that does not wait stays
pub in_given : (k : ℕ) (lots : List Lot) (lot : Lot) → lot_waits lot ≡ false → In lot lots → In lot (slot_given k lots)
in_given k [] lot off h = elim h [ ]
in_given k (l ∷ lots) lot off h = in_by k l lots lot (lot_waits l) refl off (in_given k lots lot off) h

given_spans : (k : ℕ) (lot now : Lot) → GivenBy k lot now → SameSpans lot now
given_spans k lot now (kept e) = subst (SameSpans lot) e (same_spans lot lot refl refl refl)
given_spans k lot now (slotted w e) = subst (SameSpans lot) e (with_spans k lot)

pub given_from : (k : ℕ) (lots : List Lot) (now : Lot) → In now (slot_given k lots) → ComesFrom lots now
given_from k lots now h = let r = of_given k lots now h in record { lot = r.lot; here = r.here; same = given_spans k r.lot now r.how }

-- ---- what stays

lies_given : (f : DriverConfig) (k : ℕ) (lot : Lot) → All (λ e. LiesInBuffer f e.span) lot.list.entries → All (λ e. LiesInBuffer f e.span) (with_slot k lot).list.entries
lies_given f k lot all =
    all_in (λ (e : Entry). LiesInBuffer f e.span) (give_slot k lot.list.entries)
    (λ e h.
    let at = get_at (give_slot k lot.list.entries) e h in
    let d = spans_given k lot.list.entries at.0 e at.1 in
    subst (LiesInBuffer f) d.2 (all_at (λ (c : Entry). LiesInBuffer f c.span) lot.list.entries d.0 all (at_get lot.list.entries at.0 d.0 d.1)))

sides_given : (f : DriverConfig) (k : ℕ) (lot now : Lot) → GivenBy k lot now → FitsSide f lot → FitsSide f now
sides_given f k lot now (kept e) h = subst (FitsSide f) e h
sides_given f k lot now (slotted w e) h = subst (FitsSide f) e (record { area = h.area; own = h.own; in_buffer = λ off. lies_given f k lot (h.in_buffer off) })

taken_given : (pool : PageMap) (k : ℕ) (lot now : Lot) → GivenBy k lot now → IsTaken pool lot → IsTaken pool now
taken_given pool k lot now (kept e) h = subst (IsTaken pool) e h
taken_given pool k lot now (slotted w e) h = subst (IsTaken pool) e (λ a. rw (only_given k lot) (h a))

owner_given : (f : DriverConfig) (s : Held) (k : ℕ) (lot now : Lot) (i : ℕ) (e : Entry) (x : ℕ) → OwnersAgree f.me s.owners s.lots → In lot s.lots → GivenBy k lot now → slice_get now.list.entries i ≡ Some e → covers e.span x ≡ true
    → owner_in s.owners x ≡ owner_of_side (map_id f.me now.id i) now.side
owner_given f s k lot now i e x agree here (kept same) h on =
    agree now i e x (record { lot_in = subst (λ (l : Lot). In l s.lots) same here; entry = h }) on
owner_given f s k lot now i e x agree here (slotted w same) h on =
    let d = spans_given k lot.list.entries i e (subst (λ (l : Lot). slice_get l.list.entries i ≡ Some e) (sym same) h) in
    subst (λ (l : Lot). owner_in s.owners x ≡ owner_of_side (map_id f.me l.id i) l.side) same
    (agree lot i d.0 x (record { lot_in = here; entry = d.1 }) (subst (λ (r : Span). covers r x ≡ true) (sym d.2) on))

granted_given : (f : DriverConfig) (s : Held) (k : ℕ) (lot now : Lot) → AreGranted f s.grants s.lots → WaitsUnlent s.lots → In lot s.lots → GivenBy k lot now → is_wanted now.side ≡ false → In now s.lots
granted_given f s k lot now agree wanted here (kept same) lent = subst (λ (l : Lot). In l s.lots) same here
granted_given f s k lot now agree wanted here (slotted w same) lent =
    absurd (false≢true (sym lent ∙ subst (λ (l : Lot). is_wanted l.side ≡ true) same (all_at (λ (l : Lot). lot_waits l ≡ true → is_wanted l.side ≡ true) s.lots lot wanted here w)))

no_wait : (lots : List Lot) (lot : Lot) (b : Bool) → lot_waits lot ≡ b → WaitsUnlent lots → In lot lots → is_wanted lot.side ≡ false → b ≡ false
no_wait lots lot false w wanted here lent = refl
no_wait lots lot true w wanted here lent = absurd (false≢true (sym lent ∙ all_at (λ (l : Lot). lot_waits l ≡ true → is_wanted l.side ≡ true) lots lot wanted here w))

pub mine_got : (f : DriverConfig) (s : Held) (k : ℕ) → Mine f s → WaitsUnlent s.lots → Mine f (changed f s (Got k))
mine_got f s k mine wanted = record {
  sides = all_in (FitsSide f) (slot_given k s.lots) (λ now h. let r = of_given k s.lots now h in sides_given f k r.lot now r.how (all_at (FitsSide f) s.lots r.lot mine.sides r.here));
  apart = apart_from s.lots (slot_given k s.lots) (given_from k s.lots) mine.apart;
  owners = λ now i e x h on. let r = of_given k s.lots now h.lot_in in owner_given f s k r.lot now i e x mine.owners r.here r.how h.entry on;
  granted = λ now i e h lent. let r = of_given k s.lots now h.lot_in in mine.granted now i e (record { lot_in = granted_given f s k r.lot now mine.granted wanted r.here r.how lent; entry = h.entry }) lent;
  pages = all_in (IsTaken s.pages) (slot_given k s.lots) (λ now h. let r = of_given k s.lots now h in taken_given s.pages k r.lot now r.how (all_at (IsTaken s.pages) s.lots r.lot mine.pages r.here));
  held = λ g h hart.
      let is = mine.held g h hart in
      record { lot = is.lot; i = is.i; entry = is.entry; here = record { lot_in = in_given k s.lots is.lot (no_wait s.lots is.lot (lot_waits is.lot) refl wanted is.here.lot_in is.lent) is.here.lot_in; entry = is.here.entry }; lent = is.lent; is = is.is };
}

-- ---- given up

pub mine_dropped : (f : DriverConfig) (s : Held) → Mine f s → Mine f (changed f s Dropped)
mine_dropped f s mine = record {
  sides = left_all (FitsSide f) (λ lot. not (is_wanted lot.side)) s.lots mine.sides;
  apart = left_apart (λ lot. not (is_wanted lot.side)) s.lots mine.apart;
  owners = left_owners f.me s.owners (λ lot. not (is_wanted lot.side)) s.lots mine.owners;
  granted = left_granted f s.grants (λ lot. not (is_wanted lot.side)) s.lots mine.granted;
  pages = left_all (IsTaken s.pages) (λ lot. not (is_wanted lot.side)) s.lots mine.pages;
  held = λ g h hart. left_held f s.lots g (mine.held g h hart);
}
