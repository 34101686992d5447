-- What a turn grants may be added, one grant after another.
use Rattle.std.proofs.Common.{◌≡◌, ℕ, zero, suc, ◌+◌, ◌≤◌, Bool, true, false, List, [], ◌∷◌, ◌++◌, length, flat_map, inl, inr, refl, sym, ap, subst, ◌∙◌, arith, Some}
use Rattle.std.specs.Prelude.{All, slice_get, if◌then◌else◌}
use Rattle.std.proofs.lemmas.Bool.{false≢true, cases_Bool, or_from}
use Rattle.std.proofs.lemmas.List.{append-nil}
use Rattle.std.proofs.lemmas.List.Folds.{list_any-append}
use Rattle.nc_num.specs.Places.{covers}
use Rattle.nc_num.specs.declared.names.HartNo.{HartNo}
use Rattle.nc_num.specs.declared.names.MapId.{MapId}
use Rattle.nc_plan.specs.Plans.{In}
use Rattle.nc_plan.proofs.PlanLaws.{in_left}
use Rattle.nc_model.specs.Grants.{FitsIn, CanAdd}
use Rattle.nc_model.specs.Rights.{same_map, is_of, has_device, is_thread}
use Rattle.nc_model.specs.declared.owners.Grant.{Grant}
use Rattle.nc_sg.specs.declared.list.Entry.{Entry}
use Rattle.nc_sg.specs.Lists.{waits}
use Rattle.nc_rules.specs.declared.lots.Lot.{Lot}
use Rattle.nc_rules.specs.declared.lots.LotId.{LotId}
use Rattle.nc_rules.specs.declared.lots.Side.{Side}
use Rattle.nc_rules.specs.declared.lots.Side.TheVariants as sides
use Rattle.nc_rules.specs.declared.steps.Turn.{Turn}
use Rattle.nc_rules.specs.declared.steps.Turn.TheVariants as turns
use Rattle.nc_rules.specs.Lots.{DriverConfig, is_lot, is_wanted, lot_waits, map_id, grant_of, each_from, each_entry, owner_of_side, only_entry}
use Rattle.nc_rules.specs.Turns.{is_area, those, of_those, granted, grants_of}
use Rattle.nc_scripts.specs.Drivers.{IsFixed, IsEntryIn, IsLotIn}
use Rattle.nc_scripts.proofs.Lists.{all_in}
use Rattle.nc_scripts.proofs.LotMoves.{entry_part, placed_entries}
use Rattle.nc_holds.specs.Held.{Held, LiesInBuffer, IsEntryOf, FitsSide, WordsAgree, IsTaken}
use Rattle.nc_holds.specs.Changes.{ArePlaced, MayTurn}
use Rattle.nc_holds.specs.Holds.{CanAddAll}
use Rattle.nc_holds.proofs.lists.Members.{all_at, at_get, none_of, of_filter}
use Rattle.nc_holds.proofs.owners.Facts.{Knows, Mine, IsMaking, IsHeldBy, EachIsHeld}
use Rattle.nc_holds.proofs.owners.Lots.{entry_in, area_covers, area_only, area_direct, same_lot, names_apart}
use Rattle.nc_holds.proofs.owners.Areas.{IsNewArea, new_area, named_is, at_end, area_off, alike_regions}
use Rattle.nc_holds.proofs.owners.Laws.{alike_pool}
use Rattle.nc_holds.proofs.owners.Pages.{area_entry}
use Rattle.nc_holds.proofs.grants.Moves.{new_grant, SameMap, not_same}
use Rattle.nc_holds.proofs.grants.Adds.{DeviceAt, direct, slotted, device_at, ToGrant, two_apart, slot_covers, held_device, apart_held, not_lent, name_held}
use Rattle.nc_holds.proofs.words.Lists.{self}

-- ---- one after another

pub record IsOff (h g : Grant) : Type 0 where
  pub device : (x : ℕ) → covers g.device x ≡ true → covers h.device x ≡ true → ⊥
  pub name : same_map h.id g.id ≡ false

abbrev pub AreOff : List Grant → Type 0
AreOff [] = Unit {0}
AreOff (g ∷ gs) = All (IsOff g) gs × AreOff gs

can_push : (ram : ℕ) (grants : List Grant) (h g : Grant) → CanAdd ram grants g → IsOff h g → CanAdd ram (grants ++ h ∷ []) g
can_push ram grants h g can off = record {
  fits = can.fits;
  apart = λ x on. list_any-append (has_device x) grants (h ∷ []) ∙ or_from _ _ (can.apart x on) (or_from _ _ (elim (cases_Bool (covers h.device x)) [ inl on_h ↦ absurd (off.device x on on_h) | inr clear ↦ clear ]) refl);
  id = list_any-append (is_of g.id) grants (h ∷ []) ∙ or_from _ _ can.id (or_from _ _ off.name refl);
}

all_added : (ram : ℕ) (grants new : List Grant) → ((g : Grant) → In g new → CanAdd ram grants g) → AreOff new → CanAddAll ram grants new
all_added ram grants [] can off = tt
all_added ram grants (h ∷ new) can off = (can h (inl refl), all_added ram (grants ++ h ∷ []) new (λ g k. can_push ram grants h g (can g (inr k)) (all_at (IsOff h) new g off.0 k)) off.1)

-- ---- the entries of one lot

abbrev EntriesOff : HartNo → ℕ → Lot → ℕ → List Entry → Type 0
EntriesOff me slots_at lot i es = (j k : ℕ) (d e : Entry) → slice_get es j ≡ Some d → slice_get es k ≡ Some e → (j ≡ k → ⊥) → IsOff (grant_of slots_at lot (map_id me lot.id (i + j)) d) (grant_of slots_at lot (map_id me lot.id (i + k)) e)

first_off : (me : HartNo) (slots_at : ℕ) (lot : Lot) (i : ℕ) (d : Entry) (es : List Entry) (n : ℕ) → ((k : ℕ) (e : Entry) → slice_get es k ≡ Some e → IsOff (grant_of slots_at lot (map_id me lot.id i) d) (grant_of slots_at lot (map_id me lot.id (n + k)) e))
    → All (IsOff (grant_of slots_at lot (map_id me lot.id i) d)) (each_from me lot.id n (grant_of slots_at lot) es)
first_off me slots_at lot i d es n h = all_in (IsOff (grant_of slots_at lot (map_id me lot.id i) d)) (each_from me lot.id n (grant_of slots_at lot) es) (one es n h)
  where
    one : (es : List Entry) (n : ℕ) → ((k : ℕ) (e : Entry) → slice_get es k ≡ Some e → IsOff (grant_of slots_at lot (map_id me lot.id i) d) (grant_of slots_at lot (map_id me lot.id (n + k)) e))
        → (g : Grant) → In g (each_from me lot.id n (grant_of slots_at lot) es) → IsOff (grant_of slots_at lot (map_id me lot.id i) d) g
    one [] n h g k = elim k [ ]
    one (e ∷ es) n h g (inl same) =
        let z : n + 0 ≡ n = omega arith in
        subst (IsOff (grant_of slots_at lot (map_id me lot.id i) d)) same
        (subst (λ (m : ℕ). IsOff (grant_of slots_at lot (map_id me lot.id i) d) (grant_of slots_at lot (map_id me lot.id m) e)) z (h zero e refl))
    one (e ∷ es) n h g (inr k) =
        one es (n + 1)
        (λ j c at.
        let z : n + suc j ≡ n + 1 + j = omega arith in
        subst (λ (m : ℕ). IsOff (grant_of slots_at lot (map_id me lot.id i) d) (grant_of slots_at lot (map_id me lot.id m) c)) z (h (suc j) c at)) g k

each_off : (me : HartNo) (slots_at : ℕ) (lot : Lot) (i : ℕ) (es : List Entry) → EntriesOff me slots_at lot i es → AreOff (each_from me lot.id i (grant_of slots_at lot) es)
each_off me slots_at lot i [] h = tt
each_off me slots_at lot i (d ∷ es) h = (
  first_off me slots_at lot i d es (i + 1)
      (λ k e at.
      let z : i + 0 ≡ i = omega arith in
      let n : i + suc k ≡ i + 1 + k = omega arith in
      subst (λ (m : ℕ). IsOff (grant_of slots_at lot (map_id me lot.id i) d) (grant_of slots_at lot (map_id me lot.id m) e)) n
      (subst (λ (m : ℕ). IsOff (grant_of slots_at lot (map_id me lot.id m) d) (grant_of slots_at lot (map_id me lot.id (i + suc k)) e)) z (h zero (suc k) d e refl at (λ no. absurd (omega (arith, no)))))),
  each_off me slots_at lot (i + 1) es
      (λ j k c e at_j at_k ne.
      let nj : i + suc j ≡ i + 1 + j = omega arith in
      let nk : i + suc k ≡ i + 1 + k = omega arith in
      subst (λ (m : ℕ). IsOff (grant_of slots_at lot (map_id me lot.id m) c) (grant_of slots_at lot (map_id me lot.id (i + 1 + k)) e)) nj
      (subst (λ (m : ℕ). IsOff (grant_of slots_at lot (map_id me lot.id (i + suc j)) c) (grant_of slots_at lot (map_id me lot.id m) e)) nk (h (suc j) (suc k) c e at_j at_k (λ same. ne (omega (arith, same)))))),
)

-- ---- the lots of a name, of which there is one

abbrev LotOff : HartNo → ℕ → Lot → Type 0
LotOff me slots_at lot = (j k : ℕ) (d e : Entry) → slice_get lot.list.entries j ≡ Some d → slice_get lot.list.entries k ≡ Some e → (j ≡ k → ⊥) → IsOff (grant_of slots_at lot (map_id me lot.id j) d) (grant_of slots_at lot (map_id me lot.id k) e)

granted_by : (me : HartNo) (slots_at : ℕ) (lot : Lot) (b : Bool) → is_wanted lot.side ≡ b → (is_wanted lot.side ≡ true → LotOff me slots_at lot) → AreOff (if b then each_entry me lot (grant_of slots_at lot) else [])
granted_by me slots_at lot false w h = tt
granted_by me slots_at lot true w h =
    each_off me slots_at lot 0 lot.list.entries
    (λ j k d e at_j at_k ne.
    let nj : j ≡ 0 + j = omega arith in
    let nk : k ≡ 0 + k = omega arith in
    subst (λ (m : ℕ). IsOff (grant_of slots_at lot (map_id me lot.id m) d) (grant_of slots_at lot (map_id me lot.id (0 + k)) e)) nj
    (subst (λ (m : ℕ). IsOff (grant_of slots_at lot (map_id me lot.id j) d) (grant_of slots_at lot (map_id me lot.id m) e)) nk (h w j k d e at_j at_k ne)))

joined_off : (f : Lot → List Grant) (lots : List Lot) → length lots ≤ 1 → ((lot : Lot) → In lot lots → AreOff (f lot)) → AreOff (flat_map f lots)
joined_off f [] le h = tt
joined_off f (lot ∷ []) le h = subst AreOff (sym (append-nil (f lot))) (h lot (inl refl))
joined_off f (lot ∷ l ∷ lots) le h = absurd (omega arith)

new_off : (me : HartNo) (slots_at : ℕ) (id : LotId) (lots : List Lot) → length (those id lots) ≤ 1 → ((lot : Lot) → In lot lots → is_lot id lot ≡ true → is_wanted lot.side ≡ true → LotOff me slots_at lot) → AreOff (of_those (granted me slots_at) id lots)
new_off me slots_at id lots le h =
    joined_off (granted me slots_at) (those id lots) le
    (λ lot k. let p = of_filter (is_lot id) lot lots k in granted_by me slots_at lot (is_wanted lot.side) refl (h lot p.0 p.1))

entry_name : (me : HartNo) (id : LotId) (i j : ℕ) → (i ≡ j → ⊥) → same_map (map_id me id i) (map_id me id j) ≡ false
entry_name me id i j ne = not_same (map_id me id i) (map_id me id j) (λ same. ne (omega (arith, same.entry)))

-- ---- a lot that is lent

wanted_own : (me : HartNo) (m : MapId) (side : Side) → m.hart ≡ me → is_wanted side ≡ true → is_thread me (owner_of_side m side) ≡ true
wanted_own me m sides.Wanted e w = rw (ap (λ (h : HartNo). h.0) e) (self me.0)
wanted_own me m sides.Lending e w = absurd (false≢true w)
wanted_own me m sides.Device e w = absurd (false≢true w)
wanted_own me m sides.Returning e w = absurd (false≢true w)
wanted_own me m sides.Synced e w = absurd (false≢true w)
wanted_own me m sides.Own e w = absurd (false≢true w)

to_grant : (f : DriverConfig) (s : Held) (id : LotId) (lot : Lot) (i : ℕ) (e : Entry) → Mine f s → ArePlaced s.lots id → is_lot id lot ≡ true → is_wanted lot.side ≡ true → IsEntryOf s.lots lot i e → ToGrant f s lot i e
to_grant f s id lot i e mine placed name wanted h =
    let fits = all_at (FitsSide f) s.lots lot mine.sides h.lot_in in
    let off : is_area lot.kind ≡ false = elim (cases_Bool (is_area lot.kind)) [ inl a ↦ absurd (false≢true (sym (fits.area a) ∙ wanted)) | inr clear ↦ clear ] in
    record {
      here = h;
      wanted = wanted;
      lies = all_at (λ (d : Entry). LiesInBuffer f d.span) lot.list.entries e (fits.in_buffer off) (at_get lot.list.entries i e h.entry);
      placed = all_at (λ (d : Entry). waits d ≡ false) lot.list.entries e (placed_entries lot (all_at (λ (l : Lot). is_lot id l ≡ true → lot_waits l ≡ false) s.lots lot placed h.lot_in name)) (at_get lot.list.entries i e h.entry);
    }

grant_fits : (ram harts : ℕ) (f : DriverConfig) (lot : Lot) (i : ℕ) (e : Entry) → IsFixed ram harts f → IsEntryIn ram f.slots e → waits e ≡ false → FitsIn ram (grant_of f.slots_at lot (map_id f.me lot.id i) e)
grant_fits ram harts f lot i e fixed is off = let p = entry_part ram harts f lot.list.dir e fixed is off in record { lengths = p.lengths; buffer = p.buffer.ends; device = p.device.ends }

lent_can : (ram harts : ℕ) (f : DriverConfig) (s : Held) (lot : Lot) (i : ℕ) (e : Entry) → Knows ram harts f s → Mine f s → WordsAgree f.me s.slots s.lots → EachIsHeld ram f s → ToGrant f s lot i e → CanAdd ram s.grants (grant_of f.slots_at lot (map_id f.me lot.id i) e)
lent_can ram harts f s lot i e knows mine words held to = record {
  fits = grant_fits ram harts f lot i e knows.fixed (entry_in ram f lot i e (all_at (IsLotIn ram f) s.lots lot knows.lots to.here.lot_in) to.here.entry) to.placed;
  apart = λ x on. none_of (has_device x) s.grants
      (λ g k. elim (cases_Bool (covers g.device x)) [
        | inl on_g ↦ absurd (apart_held ram harts f s lot i e g x knows mine words to (wanted_own f.me (map_id f.me lot.id i) lot.side refl to.wanted) (held g k) on on_g)
        | inr clear ↦ clear
      ]);
  id = none_of (is_of (map_id f.me lot.id i)) s.grants (λ g k. name_held ram harts f s lot i e g knows to.here to.wanted (held g k));
}

pub can_add_all : (ram harts : ℕ) (f : DriverConfig) (s : Held) (id : LotId) → Knows ram harts f s → Mine f s → WordsAgree f.me s.slots s.lots → EachIsHeld ram f s → ArePlaced s.lots id → CanAddAll ram s.grants (of_those (granted f.me f.slots_at) id s.lots)
can_add_all ram harts f s id knows mine words held placed =
    all_added ram s.grants (of_those (granted f.me f.slots_at) id s.lots)
    (λ g k.
    let r = new_grant f.me f.slots_at id s.lots g k in
    subst (CanAdd ram s.grants) r.is (lent_can ram harts f s r.lot r.i r.entry knows mine words held (to_grant f s id r.lot r.i r.entry mine placed r.named r.wanted r.here)))
    (new_off f.me f.slots_at id s.lots (knows.names id)
    (λ lot k name wanted i j d e at_i at_j ne.
    let to_d = to_grant f s id lot i d mine placed name wanted (record { lot_in = k; entry = at_i }) in
    let to_e = to_grant f s id lot j e mine placed name wanted (record { lot_in = k; entry = at_j }) in
    record { device = λ x on_e on_d. ne (two_apart ram harts f s lot lot i j d e x knows mine words to_d to_e on_d on_e).entry; name = entry_name f.me lot.id i j ne }))

-- ---- an area that is made and lent at once

area_direct_at : (ram : ℕ) (f : DriverConfig) (lot : Lot) (i : ℕ) (e : Entry) → IsLotIn ram f lot → is_area lot.kind ≡ true → slice_get lot.list.entries i ≡ Some e → waits e ≡ false
area_direct_at ram f lot i e is a k = (rw (area_direct ram f lot i e is a k) refl)

area_byte : (ram : ℕ) (f : DriverConfig) (lot : Lot) (i : ℕ) (e : Entry) (x : ℕ) → IsLotIn ram f lot → is_area lot.kind ≡ true → slice_get lot.list.entries i ≡ Some e → DeviceAt f.slots_at f.slots e x → covers (only_entry lot).span x ≡ true
area_byte ram f lot i e x is a k (direct on) = subst (λ (d : Entry). covers d.span x ≡ true) (sym (area_only ram f lot i e is a k).1) on
area_byte ram f lot i e x is a k (slotted w sw few low high) = absurd (false≢true (sym (area_direct ram f lot i e is a k) ∙ ((entry_in ram f lot i e is k).slot w sw).bounced))

area_can : (ram harts : ℕ) (f : DriverConfig) (s : Held) (lot : Lot) (i : ℕ) (e : Entry) → Knows ram harts f s → EachIsHeld ram f s → IsNewArea ram harts f s lot → slice_get lot.list.entries i ≡ Some e → CanAdd ram s.grants (grant_of f.slots_at lot (map_id f.me lot.id i) e)
area_can ram harts f s lot i e knows held h k = record {
  fits = grant_fits ram harts f lot i e knows.fixed (entry_in ram f lot i e h.is k) (area_direct_at ram f lot i e h.is h.area k);
  apart = λ x on. none_of (has_device x) s.grants (λ g l. elim (cases_Bool (covers g.device x)) [
    | inl on_g ↦ absurd (off x g (held g l) (area_byte ram f lot i e x h.is h.area k (device_at ram f.slots_at f.slots e x knows.fixed.slots_whole (entry_in ram f lot i e h.is k) (area_direct_at ram f lot i e h.is h.area k) on)) (held_device ram f s g x knows.fixed.slots_whole (held g l) on_g))
    | inr clear ↦ clear
  ]);
  id = none_of (is_of (map_id f.me lot.id i)) s.grants (λ g l. name g (held g l));
}
  where
    off : (x : ℕ) (g : Grant) → (is : IsHeldBy ram f s g) → covers (only_entry lot).span x ≡ true → DeviceAt f.slots_at f.slots is.is.entry x → ⊥
    off x g is on (direct in_g) =
        area_off ram harts f is.other s lot is.is.lot is.is.i is.is.entry x h (alike_regions f is.other is.alike knows.regions) (alike_pool f is.other s.pages is.alike knows.pool) is.alike.pool (all_at (IsLotIn ram is.other) is.lots is.is.lot is.each is.is.here.lot_in)
        (all_at (FitsSide is.other) is.lots is.is.lot is.agrees.sides is.is.here.lot_in) (all_at (IsTaken s.pages) is.lots is.is.lot is.agrees.pages is.is.here.lot_in) is.is.here.entry in_g on
    off x g is on (slotted w sw few low high) = knows.regions.slots_off_pool x (slot_covers f w x few low high) (area_covers ram f lot 0 (only_entry lot) x h.is h.area (area_entry ram f lot h.is h.area) on)

    none : (g : Grant) → (is : IsHeldBy ram f s g) → SameMap (map_id is.other.me is.is.lot.id is.is.i) (map_id f.me lot.id i) → ⊥
    none g is same =
        let here : In is.is.lot (s.lots ++ lot ∷ []) = in_left is.is.lot s.lots (lot ∷ []) (subst (In is.is.lot) (is.mine same.hart) is.is.here.lot_in) in
        let one = names_apart ram f is.is.lot lot is.is.i i is.is.entry e (all_at (IsLotIn ram f) (s.lots ++ lot ∷ []) is.is.lot h.knows.lots here) h.is is.is.here.entry k same.label same.entry in
        not_lent (s.lots ++ lot ∷ []) lot is.is.lot (same_lot (s.lots ++ lot ∷ []) lot is.is.lot h.knows.names (at_end s lot) here (sym one.lot)) h.wanted is.is.lent

    name : (g : Grant) → IsHeldBy ram f s g → same_map g.id (map_id f.me lot.id i) ≡ false
    name g is = subst (λ (d : Grant). same_map d.id (map_id f.me lot.id i) ≡ false) (sym is.is.is) (not_same (map_id is.other.me is.is.lot.id is.is.i) (map_id f.me lot.id i) (none g is))

area_named : (ram harts : ℕ) (f : DriverConfig) (s : Held) (lot l : Lot) (i : ℕ) (e : Entry) → Knows ram harts f s → EachIsHeld ram f s → IsNewArea ram harts f s lot → lot ≡ l → slice_get l.list.entries i ≡ Some e
    → CanAdd ram s.grants (grant_of f.slots_at l (map_id f.me l.id i) e)
area_named ram harts f s lot l i e knows held h same k =
    subst (λ (m : Lot). slice_get m.list.entries i ≡ Some e → CanAdd ram s.grants (grant_of f.slots_at m (map_id f.me m.id i) e)) same (λ at. area_can ram harts f s lot i e knows held h at) k

area_index : (ram harts : ℕ) (f : DriverConfig) (s : Held) (lot l : Lot) (i : ℕ) (e : Entry) → IsNewArea ram harts f s lot → lot ≡ l → slice_get l.list.entries i ≡ Some e → i ≡ 0
area_index ram harts f s lot l i e h same k = (area_only ram f lot i e h.is h.area (subst (λ (m : Lot). slice_get m.list.entries i ≡ Some e) (sym same) k)).0

pub area_can_add_all : (ram harts : ℕ) (f : DriverConfig) (s : Held) (lot : Lot) → Knows ram harts f s → EachIsHeld ram f s → IsMaking ram f s (lot ∷ []) → is_area lot.kind ≡ true
    → CanAddAll ram s.grants (of_those (granted f.me f.slots_at) lot.id (s.lots ++ lot ∷ []))
area_can_add_all ram harts f s lot knows held making area =
    let h = new_area ram harts f s lot knows making area in
    let lots = s.lots ++ lot ∷ [] in
    all_added ram s.grants (of_those (granted f.me f.slots_at) lot.id lots)
    (λ g k.
    let r = new_grant f.me f.slots_at lot.id lots g k in
    subst (CanAdd ram s.grants) r.is (area_named ram harts f s lot r.lot r.i r.entry knows held h (named_is ram harts f s lot r.lot h r.here.lot_in r.named) r.here.entry))
    (new_off f.me f.slots_at lot.id lots (h.knows.names lot.id)
    (λ l k name wanted i j d e at_i at_j ne.
    let same = named_is ram harts f s lot l h k name in
    absurd (ne (area_index ram harts f s lot l i d h same at_i ∙ sym (area_index ram harts f s lot l j e h same at_j)))))
