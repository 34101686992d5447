-- The entries of a hart's lots: their places, their names as mappings, and the owner that a side says.
use Rattle.std.proofs.Common.{◌≡◌, ℕ, ◌+◌, ◌<◌, ◌≤◌, Bool, true, false, List, length, inl, inr, refl, sym, ap, subst, ◌∙◌, arith, Some}
use Rattle.std.specs.Prelude.{◌⊎◌, All, slice_get, slice_index_or, if◌then◌else◌}
use Rattle.std.proofs.lemmas.Bool.{false≢true}
use Rattle.std.proofs.lemmas.Option.{slice_get_within, get_or_from_slice_get}
use Rattle.nc_num.specs.Places.{covers}
use Rattle.nc_num.specs.declared.names.HartNo.{HartNo}
use Rattle.nc_num.specs.declared.names.MapId.{MapId}
use Rattle.nc_num.specs.declared.places.Span.{Span}
use Rattle.nc_plan.specs.Plans.{In}
use Rattle.nc_model.proofs.Faults.{covers-low, covers-high, covers-from}
use Rattle.nc_model.specs.declared.owners.Owner.{Owner}
use Rattle.nc_model.specs.declared.owners.Owner.TheVariants as owners
use Rattle.nc_sg.specs.declared.list.Entry.{Entry}
use Rattle.nc_rules.specs.declared.lots.Kind.{Kind}
use Rattle.nc_rules.specs.declared.lots.Kind.TheVariants as kinds
use Rattle.nc_rules.specs.declared.lots.Lot.{Lot}
use Rattle.nc_rules.specs.declared.lots.LotId.{LotId}
use Rattle.nc_rules.specs.declared.lots.Side.{Side}
use Rattle.nc_rules.specs.declared.lots.Side.TheVariants as sides
use Rattle.nc_rules.specs.Lots.{DriverConfig, is_lot, only_entry, no_entry, owner_of_side}
use Rattle.nc_rules.specs.Turns.{is_area, set_side, with_side}
use Rattle.nc_scripts.specs.Drivers.{IsEntryIn, IsInPool, FitsKind, IsLotIn, AreApart, BouncesSo}
use Rattle.nc_scripts.proofs.LotLaws.{its_name}
use Rattle.nc_holds.specs.Held.{IsEntryOf, IsSameEntry, EntriesAreApart}
use Rattle.nc_holds.proofs.lists.Members.{of_map, all_at, at_get, only_one}
use Rattle.nc_holds.proofs.owners.Facts.{IsOf}

-- ---- one lot of a name

pub same_lot : (lots : List Lot) (a b : Lot) → AreApart lots → In a lots → In b lots → a.id ≡ b.id → a ≡ b
same_lot lots a b apart ka kb e = only_one (is_lot a.id) lots a b (apart a.id) ka kb (its_name a a.id refl) (its_name b a.id (sym e))

pub same_named : (lots : List Lot) (id : LotId) (a b : Lot) → AreApart lots → In a lots → In b lots → is_lot id a ≡ true → is_lot id b ≡ true → a ≡ b
same_named lots id a b apart ka kb ea eb = only_one (is_lot id) lots a b (apart id) ka kb ea eb

-- ---- places

pub entry_in : (ram : ℕ) (f : DriverConfig) (lot : Lot) (i : ℕ) (e : Entry) → IsLotIn ram f lot → slice_get lot.list.entries i ≡ Some e → IsEntryIn ram f.slots e
entry_in ram f lot i e h k = all_at (IsEntryIn ram f.slots) lot.list.entries e h.entries (at_get lot.list.entries i e k)

pub below : (ram : ℕ) (f : DriverConfig) (lot : Lot) (i : ℕ) (e : Entry) (x : ℕ) → IsLotIn ram f lot → slice_get lot.list.entries i ≡ Some e → covers e.span x ≡ true → x < ram
below ram f lot i e x h k on = omega (arith, covers-high e.span x on, (entry_in ram f lot i e h k).range.ends)

pub of_lots : (ram : ℕ) (f : DriverConfig) (lots : List Lot) (lot : Lot) (i : ℕ) (e : Entry) (x : ℕ) → All (IsLotIn ram f) lots → IsEntryOf lots lot i e → covers e.span x ≡ true → x < ram
of_lots ram f lots lot i e x all h on = below ram f lot i e x (all_at (IsLotIn ram f) lots lot all h.lot_in) h.entry on

-- ---- areas

only_by : (pool : Span) (lot : Lot) (kind : Kind) → FitsKind pool kind lot.id lot.list.entries → is_area kind ≡ true → (length lot.list.entries ≡ 1) × All (λ e. IsInPool pool e.span) lot.list.entries
only_by pool lot kinds.Single fits e = absurd (false≢true e)
only_by pool lot kinds.List fits e = absurd (false≢true e)
only_by pool lot kinds.Area fits e = (fits.1, fits.2)
only_by pool lot kinds.Copy fits e = absurd (false≢true e)

pub area_in : (ram : ℕ) (f : DriverConfig) (lot : Lot) (i : ℕ) (e : Entry) → IsLotIn ram f lot → is_area lot.kind ≡ true → slice_get lot.list.entries i ≡ Some e → IsInPool f.pool e.span
area_in ram f lot i e h a k = all_at (λ (d : Entry). IsInPool f.pool d.span) lot.list.entries e (only_by f.pool lot lot.kind h.kind a).1 (at_get lot.list.entries i e k)

pub area_covers : (ram : ℕ) (f : DriverConfig) (lot : Lot) (i : ℕ) (e : Entry) (x : ℕ) → IsLotIn ram f lot → is_area lot.kind ≡ true → slice_get lot.list.entries i ≡ Some e → covers e.span x ≡ true → covers f.pool x ≡ true
area_covers ram f lot i e x h a k on =
    let p = area_in ram f lot i e h a k in
    covers-from f.pool x (omega (arith, p.starts, covers-low e.span x on)) (omega (arith, p.ends, covers-high e.span x on))

-- its one entry
pub area_only : (ram : ℕ) (f : DriverConfig) (lot : Lot) (i : ℕ) (e : Entry) → IsLotIn ram f lot → is_area lot.kind ≡ true → slice_get lot.list.entries i ≡ Some e → (i ≡ 0) × (only_entry lot ≡ e)
area_only ram f lot i e h a k =
    let one = (only_by f.pool lot lot.kind h.kind a).0 in
    let lt = slice_get_within lot.list.entries i e k in
    let zero_is : i ≡ 0 = omega (arith, one, lt) in
    (zero_is, ap (λ n. slice_index_or lot.list.entries n no_entry) (sym zero_is) ∙ get_or_from_slice_get lot.list.entries i e no_entry k)

pub area_direct : (ram : ℕ) (f : DriverConfig) (lot : Lot) (i : ℕ) (e : Entry) → IsLotIn ram f lot → is_area lot.kind ≡ true → slice_get lot.list.entries i ≡ Some e → e.bounced ≡ false
area_direct ram f lot i e h a k =
    let so = all_at (BouncesSo f lot.kind lot.list.dir lot.chan) lot.list.entries e h.bounce (at_get lot.list.entries i e k) in
    so ∙ (rw a refl)

-- ---- names of mappings

-- a name is a script's, or that of an end of a copy, which has one entry
abbrev NameFits : Lot → Type 0
NameFits lot = ((lot.id.first ≡ 0) × (lot.id.label.0 ≤ 999)) ⊎ ((lot.id.label.0 ≡ 1000) × (length lot.list.entries ≡ 1))

name_by : (pool : Span) (lot : Lot) (kind : Kind) → FitsKind pool kind lot.id lot.list.entries → NameFits lot
name_by pool lot kinds.Single fits = inl (fits.0.first, fits.0.label)
name_by pool lot kinds.List fits = inl (fits.0.first, fits.0.label)
name_by pool lot kinds.Area fits = inl (fits.0.first, fits.0.label)
name_by pool lot kinds.Copy fits = inr (fits.0.label, fits.1)

id_is : (a b : LotId) → a.label.0 ≡ b.label.0 → a.first ≡ b.first → a ≡ b
id_is a b e d i = record { label = record { 0 = e i }; first = d i }

apart_by : (a b : Lot) (i j : ℕ) → i < length a.list.entries → j < length b.list.entries → a.id.label.0 ≡ b.id.label.0 → a.id.first + i ≡ b.id.first + j → NameFits a → NameFits b → IsSameEntry a i b j
apart_by a b i j li lj e d (inl p) (inl q) = record { lot = id_is a.id b.id e (omega (arith, p.0, q.0)); entry = omega (arith, p.0, q.0, d) }
apart_by a b i j li lj e d (inl p) (inr q) = absurd (omega (arith, p.1, q.0, e))
apart_by a b i j li lj e d (inr p) (inl q) = absurd (omega (arith, p.0, q.1, e))
apart_by a b i j li lj e d (inr p) (inr q) = record { lot = id_is a.id b.id e (omega (arith, p.1, q.1, d, li, lj)); entry = omega (arith, p.1, q.1, d, li, lj) }

-- two entries that are one mapping are one
pub names_apart : (ram : ℕ) (f : DriverConfig) (a b : Lot) (i j : ℕ) (d e : Entry) → IsLotIn ram f a → IsLotIn ram f b → slice_get a.list.entries i ≡ Some d → slice_get b.list.entries j ≡ Some e
    → a.id.label.0 ≡ b.id.label.0 → a.id.first + i ≡ b.id.first + j → IsSameEntry a i b j
names_apart ram f a b i j d e ha hb ka kb label entry =
    apart_by a b i j (slice_get_within a.list.entries i d ka) (slice_get_within b.list.entries j e kb) label entry (name_by f.pool a a.kind ha.kind) (name_by f.pool b b.kind hb.kind)

-- ---- the owner of a side

pub side_of : (m : MapId) (me : HartNo) (side : Side) → m.hart.0 ≡ me.0 → IsOf me (owner_of_side m side)
side_of m me sides.Wanted e = e
side_of m me sides.Lending e = e
side_of m me sides.Device e = e
side_of m me sides.Returning e = e
side_of m me sides.Synced e = e
side_of m me sides.Own e = e

pub of_two : (me them : HartNo) (o : Owner) → IsOf me o → IsOf them o → them.0 ≡ me.0
of_two me them (owners.Thread g) a b = sym b ∙ a
of_two me them (owners.Passing g h) a b = elim a [ ]
of_two me them (owners.Lending m) a b = sym b ∙ a
of_two me them (owners.Device m) a b = sym b ∙ a
of_two me them (owners.Returning m) a b = sym b ∙ a
of_two me them (owners.Synced m) a b = sym b ∙ a
of_two me them owners.Pool a b = elim a [ ]

-- ---- lots that come from others, with the same names and ranges

pub record SameSpans (before now : Lot) : Type 0 where
  pub id : before.id ≡ now.id
  pub kind : before.kind ≡ now.kind
  pub spans : (i : ℕ) (e : Entry) → slice_get now.list.entries i ≡ Some e → (d : Entry) × (slice_get before.list.entries i ≡ Some d) × (d.span ≡ e.span)

pub record ComesFrom (lots : List Lot) (now : Lot) : Type 0 where
  pub lot : Lot
  pub here : In lot lots
  pub same : SameSpans lot now

pub apart_from : (lots nows : List Lot) → ((now : Lot) → In now nows → ComesFrom lots now) → EntriesAreApart lots → EntriesAreApart nows
apart_from lots nows comes apart a b i j d e x ha hb xd xe =
    let ca = comes a ha.lot_in in
    let cb = comes b hb.lot_in in
    let da = ca.same.spans i d ha.entry in
    let db = cb.same.spans j e hb.entry in
    let r = apart ca.lot cb.lot i j da.0 db.0 x (record { lot_in = ca.here; entry = da.1 }) (record { lot_in = cb.here; entry = db.1 })
    (subst (λ (s : Span). covers s x ≡ true) (sym da.2) xd) (subst (λ (s : Span). covers s x ≡ true) (sym db.2) xe) in
    record { lot = sym ca.same.id ∙ r.lot ∙ cb.same.id; entry = r.entry }

pub same_spans : (lot now : Lot) → lot.id ≡ now.id → lot.kind ≡ now.kind → lot.list ≡ now.list → SameSpans lot now
same_spans lot now id kind list = record { id = id; kind = kind; spans = λ i e k. (e, rw list k, refl) }

-- ---- a side that is set

pub data SidedBy (side : Side) (id : LotId) (lot now : Lot) : Type 0 where
  named : is_lot id lot ≡ true → record lot { side = side } ≡ now → SidedBy side id lot now
  other : is_lot id lot ≡ false → lot ≡ now → SidedBy side id lot now

pub record IsSided (side : Side) (id : LotId) (lots : List Lot) (now : Lot) : Type 0 where
  pub lot : Lot
  pub here : In lot lots
  pub how : SidedBy side id lot now

sided_by : (side : Side) (id : LotId) (lot now : Lot) (b : Bool) → is_lot id lot ≡ b → (if b then record lot { side = side } else lot) ≡ now → SidedBy side id lot now
sided_by side id lot now true e same = named e same
sided_by side id lot now false e same = other e same

pub of_sided : (side : Side) (id : LotId) (lots : List Lot) (now : Lot) → In now (set_side side id lots) → IsSided side id lots now
of_sided side id lots now k =
    let r = of_map (with_side side id) now lots k in
    record { lot = r.0; here = r.1; how = sided_by side id r.0 now (is_lot id r.0) refl r.2 }

sided_same : (side : Side) (id : LotId) (lot now : Lot) → SidedBy side id lot now → SameSpans lot now
sided_same side id lot now (named e same) = subst (SameSpans lot) same (same_spans lot (record lot { side = side }) refl refl refl)
sided_same side id lot now (other e same) = subst (SameSpans lot) same (same_spans lot lot refl refl refl)

pub sided_from : (side : Side) (id : LotId) (lots : List Lot) (now : Lot) → In now (set_side side id lots) → ComesFrom lots now
sided_from side id lots now k = let r = of_sided side id lots now k in record { lot = r.lot; here = r.here; same = sided_same side id r.lot now r.how }
