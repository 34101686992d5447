-- A turn by a hart: what it holds agrees behind it.
use Rattle.std.proofs.Common.{◌≡◌, ℕ, Bool, true, false, List, [], ◌∷◌, inl, inr, refl, sym, subst, ◌∙◌}
use Rattle.std.specs.Prelude.{◌&&◌, not, All, if◌then◌else◌}
use Rattle.std.proofs.lemmas.Bool.{false≢true}
use Rattle.nc_num.specs.Places.{covers}
use Rattle.nc_num.specs.declared.names.HartNo.{HartNo}
use Rattle.nc_num.specs.declared.names.MapId.{MapId}
use Rattle.nc_num.specs.declared.places.Span.{Span}
use Rattle.nc_plan.specs.Plans.{In}
use Rattle.nc_model.specs.declared.owners.Grant.{Grant}
use Rattle.nc_model.specs.declared.owners.Owner.{Owner}
use Rattle.nc_model.specs.declared.owners.Owner.TheVariants as owners
use Rattle.nc_coherent.specs.Pages.{PageMap, IsPages, page_count}
use Rattle.nc_coherent.specs.Pages as coherent
use Rattle.nc_sg.specs.declared.list.Entry.{Entry}
use Rattle.nc_rules.specs.declared.lots.Lot.{Lot}
use Rattle.nc_rules.specs.declared.lots.LotId.{LotId}
use Rattle.nc_rules.specs.declared.lots.Side.{Side}
use Rattle.nc_rules.specs.declared.lots.Side.TheVariants as sides
use Rattle.nc_rules.specs.declared.steps.PageMove.{PageMove}
use Rattle.nc_rules.specs.declared.steps.PageMove.TheVariants as moves
use Rattle.nc_rules.specs.declared.steps.Turn.{Turn}
use Rattle.nc_rules.specs.declared.steps.Turn.TheVariants as turns
use Rattle.nc_rules.specs.Lots.{DriverConfig, is_lot, is_wanted, is_own, map_id, only_entry, owner_of_side}
use Rattle.nc_rules.specs.Refusals.{buffer_of}
use Rattle.nc_rules.specs.Turns.{is_area, those, to_side, of_those, granted, ids, set_side, pages_taken, pages_given, page_moves}
use Rattle.nc_rules.specs.World.{owners_moved, grants_added, pages_moved}
use Rattle.nc_scripts.specs.Drivers.{IsLotIn}
use Rattle.nc_scripts.proofs.Lists.{all_in}
use Rattle.nc_holds.specs.Held.{Held, AreRegions, AreLent, IsEntryOf, FitsSide, OwnersAgree, IsGrantOf, IsTaken, PagesAgree}
use Rattle.nc_holds.specs.Changes.{AreAreas, Turned, changed, MayTurn}
use Rattle.nc_holds.proofs.lists.Members.{all_at, of_filter}
use Rattle.nc_holds.proofs.owners.Facts.{Knows, Mine, AllLent, Fits}
use Rattle.nc_holds.proofs.owners.Moves.{moved_off}
use Rattle.nc_holds.proofs.owners.Lots.{area_covers}
use Rattle.nc_holds.proofs.owners.Sides.{owners_sided, sides_sided, pages_sided}
use Rattle.nc_holds.proofs.owners.Ends.{left_all, left_apart, owners_ended}
use Rattle.nc_holds.proofs.owners.Pages.{area_entry, area_pages, taken_kept, moves_is}
use Rattle.nc_holds.proofs.owners.Lots.{apart_from, sided_from}
use Rattle.nc_holds.proofs.grants.Moves.{of_added, new_grant, of_ended}
use Rattle.nc_holds.proofs.grants.Sides.{without_lot, not_false, granted_sided, lent_them, lends_them, held_sided, new_held, granted_ended, held_ended}
use Rattle.nc_holds.proofs.grants.Moves as grants

-- ---- a range that is passed, or taken

-- the bytes of a buffer that are the hart's own are of no entry that is lent
own_by : (f : DriverConfig) (b : ℕ) (x : ℕ) (m : MapId) (side : Side) → is_wanted side ≡ false → (is_own side ≡ true → covers f.pool x ≡ true) → AreRegions f → covers (buffer_of f b) x ≡ true → owner_of_side m side ≡ owners.Thread f.me → ⊥
own_by f b x m sides.Wanted lent pool h on e = false≢true (sym lent)
own_by f b x m sides.Lending lent pool h on e = cc
own_by f b x m sides.Device lent pool h on e = cc
own_by f b x m sides.Returning lent pool h on e = cc
own_by f b x m sides.Synced lent pool h on e = cc
own_by f b x m sides.Own lent pool h on e = h.buffers_off_pool b x on (pool refl)

pub passing_by : (m : MapId) (side : Side) (g to : HartNo) → owner_of_side m side ≡ owners.Passing g to → ⊥
passing_by m sides.Wanted g to e = cc
passing_by m sides.Lending g to e = cc
passing_by m sides.Device g to e = cc
passing_by m sides.Returning g to e = cc
passing_by m sides.Synced g to e = cc
passing_by m sides.Own g to e = cc

pub off_passed : (ram harts : ℕ) (f : DriverConfig) (s : Held) (range : Span) (to : HartNo) (lot : Lot) (i : ℕ) (e : Entry) (x : ℕ) → Knows ram harts f s → Mine f s → MayTurn f s (turns.Pass range to) → AllLent s.lots → IsEntryOf s.lots lot i e
    → covers e.span x ≡ true → covers range x ≡ true → ⊥
off_passed ram harts f s range to lot i e x knows mine may lent h on on_r =
    own_by f may.0 x (map_id f.me lot.id i) lot.side (all_at (λ (l : Lot). is_wanted l.side ≡ false) s.lots lot lent h.lot_in)
    (λ own. area_covers ram f lot i e x (all_at (IsLotIn ram f) s.lots lot knows.lots h.lot_in) ((all_at (FitsSide f) s.lots lot mine.sides h.lot_in).own own) h.entry on)
    knows.regions (subst (λ (r : Span). covers r x ≡ true) may.1 on_r) (sym (mine.owners lot i e x h on) ∙ may.2 x on_r)

passed_owners : (ram harts : ℕ) (f : DriverConfig) (s : Held) (range : Span) (to : HartNo) → Knows ram harts f s → Mine f s → MayTurn f s (turns.Pass range to) → AllLent s.lots
    → OwnersAgree f.me (owners_moved s.owners ((range, owners.Passing f.me to) ∷ [])) s.lots
passed_owners ram harts f s range to knows mine may lent lot i e x h on =
    moved_off s.owners ((range, owners.Passing f.me to) ∷ []) x (λ t k on_t. one t k on_t) ∙ mine.owners lot i e x h on
  where
    one : (t : Span × Owner) → In {X = Span × Owner} t ((range, owners.Passing f.me to) ∷ []) → covers t.0 x ≡ true → ⊥
    one t (inl same) on_t = off_passed ram harts f s range to lot i e x knows mine may lent h on (subst (λ (u : Span × Owner). covers u.0 x ≡ true) (sym same) on_t)
    one t (inr k) on_t = elim k [ ]

taken_owners : (f : DriverConfig) (s : Held) (range : Span) → Mine f s → MayTurn f s (turns.Own range) → OwnersAgree f.me (owners_moved s.owners ((range, owners.Thread f.me) ∷ [])) s.lots
taken_owners f s range mine may lot i e x h on =
    moved_off s.owners ((range, owners.Thread f.me) ∷ []) x (λ t k on_t. one t k on_t) ∙ mine.owners lot i e x h on
  where
    one : (t : Span × Owner) → In {X = Span × Owner} t ((range, owners.Thread f.me) ∷ []) → covers t.0 x ≡ true → ⊥
    one t (inl same) on_t =
        passing_by (map_id f.me lot.id i) lot.side may.2.0 f.me (sym (mine.owners lot i e x h on) ∙ may.2.1 x (subst (λ (u : Span × Owner). covers u.0 x ≡ true) (sym same) on_t))
    one t (inr k) on_t = elim k [ ]

-- ---- a side that is set

abbrev sided : DriverConfig → Held → Side → LotId → List Grant → Held
sided f s side id after = record s { lots = set_side side id s.lots; owners = owners_moved s.owners (of_those (to_side f.me side) id s.lots); grants = after }

mine_sided : (ram harts : ℕ) (f : DriverConfig) (s : Held) (side : Side) (id : LotId) → Knows ram harts f s → Mine f s → is_wanted side ≡ false → (is_own side ≡ true → AreAreas s.lots id) → AreLent s.lots id → Mine f (sided f s side id s.grants)
mine_sided ram harts f s side id knows mine off own lent = record {
  sides = sides_sided f side id s.lots off own mine.sides;
  apart = apart_from s.lots (set_side side id s.lots) (sided_from side id s.lots) mine.apart;
  owners = owners_sided ram f side id s.lots s.owners knows.lots knows.long mine.apart mine.owners;
  granted = granted_sided f side id s.lots s.grants s.grants mine.granted (λ g k. k) (lent_them f id s.lots s.grants lent);
  pages = pages_sided s.pages side id s.lots mine.pages;
  held = λ g k hart. held_sided f side id s.lots g off (mine.held g k hart);
}

abbrev lent_grants : DriverConfig → Held → LotId → List Grant
lent_grants f s id = grants_added s.grants (of_those (granted f.me f.slots_at) id s.lots)

pub lent_held : (f : DriverConfig) (s : Held) (id : LotId) → ((g : Grant) → In g s.grants → g.id.hart.0 ≡ f.me.0 → IsGrantOf f s.lots g) → (g : Grant) → In g (lent_grants f s id) → g.id.hart.0 ≡ f.me.0 → IsGrantOf f (set_side sides.Lending id s.lots) g
lent_held f s id held g k hart = elim (of_added g s.grants (of_those (granted f.me f.slots_at) id s.lots) k) [
  | inl old ↦ held_sided f sides.Lending id s.lots g refl (held g old hart)
  | inr new ↦ new_held f sides.Lending id s.lots g refl (new_grant f.me f.slots_at id s.lots g new)
]

-- no area is lent for the first time
stays_by : (lot : Lot) (a w : Bool) → (a ≡ true → w ≡ false) → (if a && w then moves.Take (only_entry lot).span else moves.Stay) ≡ moves.Stay
stays_by lot false w h = refl
stays_by lot true false h = refl
stays_by lot true true h = absurd (false≢true (sym (h refl)))

pub no_take : (f : DriverConfig) (id : LotId) (lots : List Lot) → All (FitsSide f) lots → page_moves pages_taken (those id lots) ≡ moves.Stay
no_take f id lots all = elim (moves_is pages_taken (those id lots)) [
  | inl stay ↦ stay
  | inr r ↦ let fits = all_at (FitsSide f) lots r.0 all (of_filter (is_lot id) r.0 lots r.1).0 in r.2 ∙ stays_by r.0 (is_area r.0.kind) (is_wanted r.0.side) fits.area
]

mine_lent : (ram harts : ℕ) (f : DriverConfig) (s : Held) (id : LotId) → Knows ram harts f s → Mine f s → Mine f (changed f s (Turned (turns.Lend id)))
mine_lent ram harts f s id knows mine = record {
  sides = sides_sided f sides.Lending id s.lots refl (λ o. absurd (false≢true o)) mine.sides;
  apart = apart_from s.lots (set_side sides.Lending id s.lots) (sided_from sides.Lending id s.lots) mine.apart;
  owners = owners_sided ram f sides.Lending id s.lots s.owners knows.lots knows.long mine.apart mine.owners;
  granted = granted_sided f sides.Lending id s.lots s.grants (lent_grants f s id) mine.granted (λ g k. grants.added_left g s.grants (of_those (granted f.me f.slots_at) id s.lots) k) (lends_them f id s.lots s.grants);
  pages = subst (λ (m : PageMove). PagesAgree (pages_moved s.pages m) (set_side sides.Lending id s.lots)) (sym (no_take f id s.lots mine.sides)) (pages_sided s.pages sides.Lending id s.lots mine.pages);
  held = lent_held f s id mine.held;
}

-- ---- an end

abbrev end_pages : LotId → List Lot → PageMove
end_pages id lots = page_moves pages_given (those id lots)

-- the area that ends, if one does
pub data Ends (id : LotId) (lots : List Lot) (m : PageMove) : Type 0 where
  none : m ≡ moves.Stay → Ends id lots m
  area : (lot : Lot) → In lot lots → is_lot id lot ≡ true → is_area lot.kind ≡ true → m ≡ moves.Give (only_entry lot).span → Ends id lots m

ends_by : (id : LotId) (lots : List Lot) (m : PageMove) (lot : Lot) (a : Bool) → is_area lot.kind ≡ a → In lot lots → is_lot id lot ≡ true → m ≡ (if a then moves.Give (only_entry lot).span else moves.Stay) → Ends id lots m
ends_by id lots m lot true e k name is = area lot k name e is
ends_by id lots m lot false e k name is = none is

pub ends_is : (id : LotId) (lots : List Lot) → Ends id lots (end_pages id lots)
ends_is id lots = elim (moves_is pages_given (those id lots)) [
  | inl stay ↦ none stay
  | inr r ↦ let p = of_filter (is_lot id) r.0 lots r.1 in ends_by id lots (end_pages id lots) r.0 (is_area r.0.kind) refl p.0 p.1 r.2
]

pub other_areas : (ram harts : ℕ) (f : DriverConfig) (s : Held) (id : LotId) (lot now : Lot) (x : ℕ) → Knows ram harts f s → Mine f s → In lot s.lots → is_lot id lot ≡ true → is_area lot.kind ≡ true → In now s.lots → is_lot id now ≡ false → is_area now.kind ≡ true
    → covers (only_entry lot).span x ≡ true → covers (only_entry now).span x ≡ true → ⊥
other_areas ram harts f s id lot now x knows mine k name a l other b on on_now =
    let ka = area_entry ram f lot (all_at (IsLotIn ram f) s.lots lot knows.lots k) a in
    let kb = area_entry ram f now (all_at (IsLotIn ram f) s.lots now knows.lots l) b in
    let same = mine.apart lot now 0 0 (only_entry lot) (only_entry now) x (record { lot_in = k; entry = ka }) (record { lot_in = l; entry = kb }) on on_now in
    false≢true (sym other ∙ subst (λ (d : LotId). is_lot id (record now { id = d }) ≡ true) same.lot name)

ended_pages : (ram harts : ℕ) (f : DriverConfig) (s : Held) (id : LotId) (m : PageMove) → Knows ram harts f s → Mine f s → Ends id s.lots m → PagesAgree (pages_moved s.pages m) (without_lot id s.lots)
ended_pages ram harts f s id m knows mine (none stay) =
    subst (λ (p : PageMove). PagesAgree (pages_moved s.pages p) (without_lot id s.lots)) (sym stay) (left_all (IsTaken s.pages) (λ lot. not (is_lot id lot)) s.lots mine.pages)
ended_pages ram harts f s id m knows mine (area lot k name a give) =
    subst (λ (p : PageMove). PagesAgree (pages_moved s.pages p) (without_lot id s.lots)) (sym give)
    (all_in (IsTaken (coherent.with_pages s.pages (only_entry lot).span true)) (without_lot id s.lots)
    (λ now l.
    let p = of_filter (λ (o : Lot). not (is_lot id o)) now s.lots l in
    taken_kept ram f s.pages (only_entry lot).span true now (area_pages ram f s.pages lot (all_at (IsLotIn ram f) s.lots lot knows.lots k) knows.pool a) knows.pool (all_at (IsLotIn ram f) s.lots now knows.lots p.0)
    (λ b x on on_now. other_areas ram harts f s id lot now x knows mine k name a p.0 (not_false (is_lot id now) p.1) b on on_now) (all_at (IsTaken s.pages) s.lots now mine.pages p.0)))

mine_ended : (ram harts : ℕ) (f : DriverConfig) (s : Held) (id : LotId) → Knows ram harts f s → Mine f s → Mine f (changed f s (Turned (turns.End id)))
mine_ended ram harts f s id knows mine = record {
  sides = left_all (FitsSide f) (λ lot. not (is_lot id lot)) s.lots mine.sides;
  apart = left_apart (λ lot. not (is_lot id lot)) s.lots mine.apart;
  owners = owners_ended f.me id s.lots s.owners mine.apart mine.owners;
  granted = granted_ended ram f id s.lots s.grants knows.lots mine.granted;
  pages = ended_pages ram harts f s id (end_pages id s.lots) knows mine (ends_is id s.lots);
  held = λ g k hart. held_ended f id s.lots s.grants g k (mine.held g (of_ended g s.grants (of_those (ids f.me) id s.lots) k).0 hart);
}

-- ---- each turn

with_owners : (f : DriverConfig) (s : Held) (ws : List Owner) → Mine f s → OwnersAgree f.me ws s.lots → Mine f (record s { owners = ws })
with_owners f s ws mine agree = record { sides = mine.sides; apart = mine.apart; owners = agree; granted = mine.granted; pages = mine.pages; held = mine.held }

pub mine_turned : (ram harts : ℕ) (f : DriverConfig) (s : Held) (t : Turn) → Knows ram harts f s → Mine f s → Fits ram f s (Turned t) → Mine f (changed f s (Turned t))
mine_turned ram harts f s turns.Stay knows mine fits = with_owners f s s.owners mine mine.owners
mine_turned ram harts f s (turns.Pass range to) knows mine fits = with_owners f s (owners_moved s.owners ((range, owners.Passing f.me to) ∷ [])) mine (passed_owners ram harts f s range to knows mine fits.0 fits.1)
mine_turned ram harts f s (turns.Own range) knows mine fits = with_owners f s (owners_moved s.owners ((range, owners.Thread f.me) ∷ [])) mine (taken_owners f s range mine fits.0)
mine_turned ram harts f s (turns.Lend id) knows mine fits = mine_lent ram harts f s id knows mine
mine_turned ram harts f s (turns.Give id) knows mine fits = mine_sided ram harts f s sides.Device id knows mine refl (λ o. absurd (false≢true o)) fits.0
mine_turned ram harts f s (turns.Return id) knows mine fits = mine_sided ram harts f s sides.Returning id knows mine refl (λ o. absurd (false≢true o)) fits.0
mine_turned ram harts f s (turns.Sync id) knows mine fits = mine_sided ram harts f s sides.Synced id knows mine refl (λ o. absurd (false≢true o)) fits.0
mine_turned ram harts f s (turns.Settle id) knows mine fits = mine_sided ram harts f s sides.Own id knows mine refl (λ o. fits.0.1) fits.0.0
mine_turned ram harts f s (turns.End id) knows mine fits = mine_ended ram harts f s id knows mine
