-- Each change of what is held: what the hart knows and holds, and what the others hold, agrees behind it.
use Rattle.std.proofs.Common.{◌≡◌, ℕ, ◌≤◌, Bool, true, false, List, [], ◌∷◌, length, inl, inr, refl, sym, ap, subst, ◌∙◌, arith, cond}
use Rattle.std.specs.Prelude.{◌≢◌, ◌&&◌, not, filter, if◌then◌else◌}
use Rattle.std.proofs.lemmas.Bool.{false≢true, cases_Bool}
use Rattle.std.proofs.lemmas.List.Elements.{All-append}
use Rattle.nc_num.specs.Places.{covers}
use Rattle.nc_num.specs.declared.names.HartNo.{HartNo}
use Rattle.nc_num.specs.declared.names.MapId.{MapId}
use Rattle.nc_num.specs.declared.places.Span.{Span}
use Rattle.nc_plan.specs.Plans.{In}
use Rattle.nc_model.specs.declared.owners.Grant.{Grant}
use Rattle.nc_model.specs.declared.owners.Owner.{Owner}
use Rattle.nc_model.specs.declared.owners.Owner.TheVariants as owners
use Rattle.nc_own.specs.Books.{owner_in}
use Rattle.nc_coherent.specs.Pages.{PageMap, with_pages}
use Rattle.nc_rules.specs.declared.lots.Lot.{Lot}
use Rattle.nc_rules.specs.declared.lots.LotId.{LotId}
use Rattle.nc_rules.specs.declared.lots.Side.TheVariants as sides
use Rattle.nc_rules.specs.declared.steps.PageMove.{PageMove}
use Rattle.nc_rules.specs.declared.steps.PageMove.TheVariants as moves
use Rattle.nc_rules.specs.declared.steps.Turn.{Turn}
use Rattle.nc_rules.specs.declared.steps.Turn.TheVariants as turns
use Rattle.nc_rules.specs.Lots.{DriverConfig, is_lot, is_wanted, map_id, only_entry, owner_of_side}
use Rattle.nc_rules.specs.Turns.{is_area, those, pages_taken, page_moves, transfers_of, pages_of}
use Rattle.nc_rules.specs.World.{owners_moved, pages_moved}
use Rattle.nc_scripts.specs.Drivers.{IsLotIn, ArePagesOf}
use Rattle.nc_scripts.proofs.Lists.{all_in}
use Rattle.nc_scripts.proofs.LotLaws.{lots_stay, apart_stay}
use Rattle.nc_scripts.proofs.SlotLaws.{lots_given, apart_given}
use Rattle.nc_holds.specs.Held.{Held, FitsSide, OwnersAgree, AreGranted, IsTaken, PagesAgree}
use Rattle.nc_holds.specs.Changes.{Change, Made, Got, Turned, Dropped, changed}
use Rattle.nc_holds.specs.Holds.{KnowsAlike, MayMovePages}
use Rattle.nc_holds.proofs.lists.Members.{all_at, of_filter}
use Rattle.nc_holds.proofs.owners.Facts.{Knows, Mine, Fits, IsMaking, Theirs, IsOf, StaysOrMine, IsOutside}
use Rattle.nc_holds.proofs.owners.Moves.{moved_off, length-moved}
use Rattle.nc_holds.proofs.owners.Lots.{of_two}
use Rattle.nc_holds.proofs.owners.Sides.{frame_by, frame_sided, of_mine}
use Rattle.nc_holds.proofs.owners.Ends.{left_all, frame_ended}
use Rattle.nc_holds.proofs.owners.Pages.{area_entry, area_pages, taken_kept, pages_of_kept, moves_is}
use Rattle.nc_holds.proofs.owners.Turns.{Ends, none, area, ends_is, no_take, passing_by, mine_turned}
use Rattle.nc_holds.proofs.owners.Made.{mine_made}
use Rattle.nc_holds.proofs.owners.Slots.{mine_got, mine_dropped}
use Rattle.nc_holds.proofs.grants.Moves.{others_stay, others_kept}

-- ---- what the hart holds

pub mine_stays : (ram harts : ℕ) (f : DriverConfig) (s : Held) (c : Change) → Knows ram harts f s → Mine f s → Fits ram f s c → Mine f (changed f s c)
mine_stays ram harts f s (Made new) knows mine fits = mine_made ram harts f s new knows mine fits.0 fits.1
mine_stays ram harts f s (Got word) knows mine fits = mine_got f s word mine fits.0
mine_stays ram harts f s (Turned t) knows mine fits = mine_turned ram harts f s t knows mine fits
mine_stays ram harts f s Dropped knows mine fits = mine_dropped f s mine

-- ---- what the hart knows

-- no move of pages, or one of an area's
pub data IsMoveOf (lots : List Lot) (m : PageMove) : Type 0 where
  stays : m ≡ moves.Stay → IsMoveOf lots m
  takes : (lot : Lot) → In lot lots → is_area lot.kind ≡ true → is_wanted lot.side ≡ true → m ≡ moves.Take (only_entry lot).span → IsMoveOf lots m
  gives : (lot : Lot) → In lot lots → is_area lot.kind ≡ true → m ≡ moves.Give (only_entry lot).span → IsMoveOf lots m

takes_by : (lots : List Lot) (m : PageMove) (lot : Lot) (a w : Bool) → is_area lot.kind ≡ a → is_wanted lot.side ≡ w → In lot lots → m ≡ (if a && w then moves.Take (only_entry lot).span else moves.Stay) → IsMoveOf lots m
takes_by lots m lot true true ea ew k is = takes lot k ea ew is
takes_by lots m lot true false ea ew k is = stays is
takes_by lots m lot false w ea ew k is = stays is

pub takes_is : (id : LotId) (lots : List Lot) → IsMoveOf lots (page_moves pages_taken (those id lots))
takes_is id lots = elim (moves_is pages_taken (those id lots)) [
  | inl e ↦ stays e
  | inr r ↦ takes_by lots (page_moves pages_taken (those id lots)) r.0 (is_area r.0.kind) (is_wanted r.0.side) refl refl (of_filter (is_lot id) r.0 lots r.1).0 r.2
]

gives_is : (id : LotId) (lots : List Lot) (m : PageMove) → Ends id lots m → IsMoveOf lots m
gives_is id lots m (none e) = stays e
gives_is id lots m (area lot k name a e) = gives lot k a e

pub move_is : (lots : List Lot) (t : Turn) → IsMoveOf lots (pages_of lots t)
move_is lots turns.Stay = stays refl
move_is lots (turns.Pass range to) = stays refl
move_is lots (turns.Own range) = stays refl
move_is lots (turns.Lend id) = takes_is id lots
move_is lots (turns.Give id) = stays refl
move_is lots (turns.Return id) = stays refl
move_is lots (turns.Sync id) = stays refl
move_is lots (turns.Settle id) = stays refl
move_is lots (turns.End id) = gives_is id lots (pages_of lots (turns.End id)) (ends_is id lots)

pub pool_moved : (ram harts : ℕ) (f : DriverConfig) (s : Held) (m : PageMove) → Knows ram harts f s → IsMoveOf s.lots m → ArePagesOf f (pages_moved s.pages m)
pool_moved ram harts f s m knows (stays e) = subst (λ (p : PageMove). ArePagesOf f (pages_moved s.pages p)) (sym e) knows.pool
pool_moved ram harts f s m knows (takes lot k a w e) =
    subst (λ (p : PageMove). ArePagesOf f (pages_moved s.pages p)) (sym e) (pages_of_kept f s.pages (only_entry lot).span false (area_pages ram f s.pages lot (all_at (IsLotIn ram f) s.lots lot knows.lots k) knows.pool a) knows.pool)
pool_moved ram harts f s m knows (gives lot k a e) =
    subst (λ (p : PageMove). ArePagesOf f (pages_moved s.pages p)) (sym e) (pages_of_kept f s.pages (only_entry lot).span true (area_pages ram f s.pages lot (all_at (IsLotIn ram f) s.lots lot knows.lots k) knows.pool a) knows.pool)

filter_twice : {X : Type 0} (p q : X → Bool) (xs : List X) → length (filter p (filter q xs)) ≤ length (filter p xs)
filter_twice p q [] = omega arith
filter_twice p q (x ∷ xs) = twice_by (q x) (p x) p x (filter q xs) (filter p xs) refl (filter_twice p q xs)
  where
    twice_by : {X : Type 0} (b c : Bool) (p : X → Bool) (x : X) (ys zs : List X) → p x ≡ c → length (filter p ys) ≤ length zs → length (filter p (cond b (x ∷ ys) ys)) ≤ length (cond c (x ∷ zs) zs)
    twice_by true true p x ys zs e le = rw e (omega arith)
    twice_by true false p x ys zs e le = rw e le
    twice_by false true p x ys zs e le = omega arith
    twice_by false false p x ys zs e le = le

pub knows_made : (ram harts : ℕ) (f : DriverConfig) (s : Held) (new : List Lot) → Knows ram harts f s → IsMaking ram f s new → Knows ram harts f (changed f s (Made new))
knows_made ram harts f s new h making = record { fixed = h.fixed; regions = h.regions; lots = All-append (IsLotIn ram f) s.lots new h.lots making.each.each; names = making.each.apart; long = h.long; pool = h.pool }

pub knows_turned : (ram harts : ℕ) (f : DriverConfig) (s : Held) (t : Turn) → Knows ram harts f s → Knows ram harts f (changed f s (Turned t))
knows_turned ram harts f s t h = record {
  fixed = h.fixed;
  regions = h.regions;
  lots = lots_stay ram f t s.lots h.lots;
  names = apart_stay t s.lots h.names;
  long = length-moved s.owners (transfers_of f.me s.lots t) ∙ h.long;
  pool = pool_moved ram harts f s (pages_of s.lots t) h (move_is s.lots t);
}

pub knows_stay : (ram harts : ℕ) (f : DriverConfig) (s : Held) (c : Change) → Knows ram harts f s → Fits ram f s c → Knows ram harts f (changed f s c)
knows_stay ram harts f s (Made new) h fits = knows_made ram harts f s new h fits.0
knows_stay ram harts f s (Got word) h fits = record { fixed = h.fixed; regions = h.regions; lots = lots_given ram f word s.lots fits.1 h.lots; names = apart_given word s.lots h.names; long = h.long; pool = h.pool }
knows_stay ram harts f s (Turned t) h fits = knows_turned ram harts f s t h
knows_stay ram harts f s Dropped h fits = record {
  fixed = h.fixed;
  regions = h.regions;
  lots = left_all (IsLotIn ram f) (λ lot. not (is_wanted lot.side)) s.lots h.lots;
  names = λ id. omega (arith, filter_twice (is_lot id) (λ (lot : Lot). not (is_wanted lot.side)) s.lots, h.names id);
  long = h.long;
  pool = h.pool;
}

-- ---- the owner of each byte

passed_frame : (f : DriverConfig) (s : Held) (range : Span) (to : HartNo) (x : ℕ) → ((y : ℕ) → covers range y ≡ true → owner_in s.owners y ≡ owners.Thread f.me) → StaysOrMine f.me s.owners (owners_moved s.owners ((range, owners.Passing f.me to) ∷ [])) x
passed_frame f s range to x owned = frame_by f.me s.owners ((range, owners.Passing f.me to) ∷ []) x one
  where
    one : (t : Span × Owner) → In {X = Span × Owner} t ((range, owners.Passing f.me to) ∷ []) → covers t.0 x ≡ true → IsOf f.me (owner_in s.owners x)
    one t (inl same) on = subst (IsOf f.me) (sym (owned x (subst (λ (u : Span × Owner). covers u.0 x ≡ true) (sym same) on))) refl
    one t (inr k) on = elim k [ ]

taken_frame : (f : DriverConfig) (s : Held) (range : Span) (x : ℕ) → covers range x ≡ false → StaysOrMine f.me s.owners (owners_moved s.owners ((range, owners.Thread f.me) ∷ [])) x
taken_frame f s range x off = inl (moved_off s.owners ((range, owners.Thread f.me) ∷ []) x one)
  where
    one : (t : Span × Owner) → In {X = Span × Owner} t ((range, owners.Thread f.me) ∷ []) → covers t.0 x ≡ true → ⊥
    one t (inl same) on = false≢true (sym off ∙ subst (λ (u : Span × Owner). covers u.0 x ≡ true) (sym same) on)
    one t (inr k) on = elim k [ ]

pub frame : (ram : ℕ) (f : DriverConfig) (s : Held) (c : Change) (x : ℕ) → OwnersAgree f.me s.owners s.lots → Fits ram f s c → IsOutside c x → StaysOrMine f.me s.owners (changed f s c).owners x
frame ram f s (Made new) x agree fits out = inl refl
frame ram f s (Got word) x agree fits out = inl refl
frame ram f s Dropped x agree fits out = inl refl
frame ram f s (Turned turns.Stay) x agree fits out = inl refl
frame ram f s (Turned (turns.Pass range to)) x agree fits out = passed_frame f s range to x fits.0.2
frame ram f s (Turned (turns.Own range)) x agree fits out = taken_frame f s range x out
frame ram f s (Turned (turns.Lend id)) x agree fits out = frame_sided f.me sides.Lending id s.lots s.owners x agree
frame ram f s (Turned (turns.Give id)) x agree fits out = frame_sided f.me sides.Device id s.lots s.owners x agree
frame ram f s (Turned (turns.Return id)) x agree fits out = frame_sided f.me sides.Returning id s.lots s.owners x agree
frame ram f s (Turned (turns.Sync id)) x agree fits out = frame_sided f.me sides.Synced id s.lots s.owners x agree
frame ram f s (Turned (turns.Settle id)) x agree fits out = frame_sided f.me sides.Own id s.lots s.owners x agree
frame ram f s (Turned (turns.End id)) x agree fits out = frame_ended f.me id s.lots s.owners x agree

-- ---- what the others hold

-- a byte of an entry is not being passed
outside : (ram : ℕ) (f : DriverConfig) (s : Held) (c : Change) (x : ℕ) (m : MapId) (lot : Lot) → Fits ram f s c → owner_in s.owners x ≡ owner_of_side m lot.side → IsOutside c x
outside ram f s (Made new) x m lot fits e = tt
outside ram f s (Got word) x m lot fits e = tt
outside ram f s Dropped x m lot fits e = tt
outside ram f s (Turned turns.Stay) x m lot fits e = tt
outside ram f s (Turned (turns.Pass range to)) x m lot fits e = tt
outside ram f s (Turned (turns.Own range)) x m lot fits e = elim (cases_Bool (covers range x)) [ inl on ↦ absurd (passing_by m lot.side fits.0.2.0 f.me (sym e ∙ fits.0.2.1 x on)) | inr off ↦ off ]
outside ram f s (Turned (turns.Lend id)) x m lot fits e = tt
outside ram f s (Turned (turns.Give id)) x m lot fits e = tt
outside ram f s (Turned (turns.Return id)) x m lot fits e = tt
outside ram f s (Turned (turns.Sync id)) x m lot fits e = tt
outside ram f s (Turned (turns.Settle id)) x m lot fits e = tt
outside ram f s (Turned (turns.End id)) x m lot fits e = tt

pub their_owners : (g me : HartNo) (before after : List Owner) (lots : List Lot) → (g.0 ≡ me.0 → ⊥) → OwnersAgree g before lots → ((x : ℕ) (m : MapId) (lot : Lot) → owner_in before x ≡ owner_of_side m lot.side → StaysOrMine me before after x) → OwnersAgree g after lots
their_owners g me before after lots other agree stay lot i e x h on =
    let e' = agree lot i e x h on in
    elim (stay x (map_id g lot.id i) lot e') [
      | inl same ↦ same ∙ e'
      | inr mine ↦ absurd (other (of_two me g (owner_in before x) mine (of_mine g before lots lot i e x agree h on)))
    ]

pub alike_pool : (f g : DriverConfig) (pool : PageMap) → KnowsAlike f g → ArePagesOf f pool → ArePagesOf g pool
alike_pool f g pool alike of = record { at = of.at ∙ ap (λ (s : Span). s.at) alike.pool; len = of.len ∙ ap (λ (s : Span). s.len) alike.pool }

-- areas of two harts share no byte
their_areas : (ram harts : ℕ) (f g : DriverConfig) (s : Held) (lots : List Lot) (lot now : Lot) (x : ℕ) → Knows ram harts f s → Mine f s → Theirs ram f g s lots → In lot s.lots → is_area lot.kind ≡ true → In now lots → is_area now.kind ≡ true
    → covers (only_entry lot).span x ≡ true → covers (only_entry now).span x ≡ true → ⊥
their_areas ram harts f g s lots lot now x knows mine theirs k a l b on on_now =
    let ka = area_entry ram f lot (all_at (IsLotIn ram f) s.lots lot knows.lots k) a in
    let kb = area_entry ram g now (all_at (IsLotIn ram g) lots now theirs.each l) b in
    theirs.other (of_two f.me g.me (owner_in s.owners x) (of_mine f.me s.owners s.lots lot 0 (only_entry lot) x mine.owners (record { lot_in = k; entry = ka }) on)
    (of_mine g.me s.owners lots now 0 (only_entry now) x theirs.owners (record { lot_in = l; entry = kb }) on_now))

their_ends : (ram harts : ℕ) (f g : DriverConfig) (s : Held) (lots : List Lot) (id : LotId) (m : PageMove) → Knows ram harts f s → Mine f s → Theirs ram f g s lots → Ends id s.lots m → PagesAgree (pages_moved s.pages m) lots
their_ends ram harts f g s lots id m knows mine theirs (none stay) = subst (λ (p : PageMove). PagesAgree (pages_moved s.pages p) lots) (sym stay) theirs.pages
their_ends ram harts f g s lots id m knows mine theirs (area lot k name a give) =
    subst (λ (p : PageMove). PagesAgree (pages_moved s.pages p) lots) (sym give)
    (all_in (IsTaken (with_pages s.pages (only_entry lot).span true)) lots
    (λ now l.
    taken_kept ram g s.pages (only_entry lot).span true now (area_pages ram f s.pages lot (all_at (IsLotIn ram f) s.lots lot knows.lots k) knows.pool a) (alike_pool f g s.pages theirs.alike knows.pool)
    (all_at (IsLotIn ram g) lots now theirs.each l) (λ b x on on_now. their_areas ram harts f g s lots lot now x knows mine theirs k a l b on on_now) (all_at (IsTaken s.pages) lots now theirs.pages l)))

their_pages : (ram harts : ℕ) (f g : DriverConfig) (s : Held) (lots : List Lot) (t : Turn) → Knows ram harts f s → Mine f s → Theirs ram f g s lots → PagesAgree (pages_moved s.pages (pages_of s.lots t)) lots
their_pages ram harts f g s lots turns.Stay knows mine theirs = theirs.pages
their_pages ram harts f g s lots (turns.Pass range to) knows mine theirs = theirs.pages
their_pages ram harts f g s lots (turns.Own range) knows mine theirs = theirs.pages
their_pages ram harts f g s lots (turns.Lend id) knows mine theirs = subst (λ (m : PageMove). PagesAgree (pages_moved s.pages m) lots) (sym (no_take f id s.lots mine.sides)) theirs.pages
their_pages ram harts f g s lots (turns.Give id) knows mine theirs = theirs.pages
their_pages ram harts f g s lots (turns.Return id) knows mine theirs = theirs.pages
their_pages ram harts f g s lots (turns.Sync id) knows mine theirs = theirs.pages
their_pages ram harts f g s lots (turns.Settle id) knows mine theirs = theirs.pages
their_pages ram harts f g s lots (turns.End id) knows mine theirs = their_ends ram harts f g s lots id (pages_of s.lots (turns.End id)) knows mine theirs (ends_is id s.lots)

same_theirs : (ram : ℕ) (f g : DriverConfig) (s t : Held) (lots : List Lot) → Theirs ram f g s lots → OwnersAgree g.me t.owners lots → AreGranted g t.grants lots → PagesAgree t.pages lots → Theirs ram f g t lots
same_theirs ram f g s t lots h owners granted pages = record { alike = h.alike; other = h.other; each = h.each; sides = h.sides; owners = owners; granted = granted; pages = pages }

pub theirs_stay : (ram harts : ℕ) (f g : DriverConfig) (s : Held) (lots : List Lot) (c : Change) → Knows ram harts f s → Mine f s → Theirs ram f g s lots → Fits ram f s c → Theirs ram f g (changed f s c) lots
theirs_stay ram harts f g s lots (Made new) knows mine theirs fits = same_theirs ram f g s (changed f s (Made new)) lots theirs theirs.owners theirs.granted theirs.pages
theirs_stay ram harts f g s lots (Got word) knows mine theirs fits = same_theirs ram f g s (changed f s (Got word)) lots theirs theirs.owners theirs.granted theirs.pages
theirs_stay ram harts f g s lots Dropped knows mine theirs fits = same_theirs ram f g s (changed f s Dropped) lots theirs theirs.owners theirs.granted theirs.pages
theirs_stay ram harts f g s lots (Turned t) knows mine theirs fits =
    same_theirs ram f g s (changed f s (Turned t)) lots theirs
    (their_owners g.me f.me s.owners (changed f s (Turned t)).owners lots theirs.other theirs.owners (λ x m lot e. frame ram f s (Turned t) x mine.owners fits (outside ram f s (Turned t) x m lot fits e)))
    (λ lot i e h lent. others_kept f.me f.slots_at s.lots t s.grants _ theirs.other (theirs.granted lot i e h lent))
    (their_pages ram harts f g s lots t knows mine theirs)

-- ---- what a turn moves of the pages

may_move : (ram harts : ℕ) (f : DriverConfig) (s : Held) (m : PageMove) → Knows ram harts f s → Mine f s → IsMoveOf s.lots m → MayMovePages s.pages m
may_move ram harts f s m knows mine (stays e) = subst (MayMovePages s.pages) (sym e) tt
may_move ram harts f s m knows mine (takes lot k a w e) = absurd (false≢true (sym ((all_at (FitsSide f) s.lots lot mine.sides k).area a) ∙ w))
may_move ram harts f s m knows mine (gives lot k a e) =
    subst (MayMovePages s.pages) (sym e) (area_pages ram f s.pages lot (all_at (IsLotIn ram f) s.lots lot knows.lots k) knows.pool a, all_at (IsTaken s.pages) s.lots lot mine.pages k a)

pub may_move_pages : (ram harts : ℕ) (f : DriverConfig) (s : Held) (t : Turn) → Knows ram harts f s → Mine f s → MayMovePages s.pages (pages_of s.lots t)
may_move_pages ram harts f s t knows mine = may_move ram harts f s (pages_of s.lots t) knows mine (move_is s.lots t)

pub grants_of_others : (f : DriverConfig) (s : Held) (c : Change) (g : Grant) → g.id.hart.0 ≢ f.me.0 → In g (changed f s c).grants → In g s.grants
grants_of_others f s (Made new) g other k = k
grants_of_others f s (Got word) g other k = k
grants_of_others f s (Turned t) g other k = others_stay f.me f.slots_at s.lots t s.grants g other k
grants_of_others f s Dropped g other k = k
