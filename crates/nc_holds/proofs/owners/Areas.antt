-- An area that is made and lent at once: what the hart and the others hold agrees behind it.
use Rattle.std.proofs.Common.{◌≡◌, ℕ, ◌≤◌, Bool, true, false, List, [], ◌∷◌, ◌++◌, length, inl, inr, refl, sym, ap, subst, ◌∙◌, arith, Some}
use Rattle.std.specs.Prelude.{◌⊎◌, ◌≢◌, ◌&&◌, slice_get, replicate, if◌then◌else◌}
use Rattle.std.proofs.lemmas.Bool.{false≢true, cases_Bool}
use Rattle.nc_num.specs.Places.{covers}
use Rattle.nc_num.specs.declared.places.Span.{Span}
use Rattle.nc_plan.specs.Plans.{In}
use Rattle.nc_plan.proofs.PlanLaws.{in_right}
use Rattle.nc_model.specs.declared.owners.Grant.{Grant}
use Rattle.nc_own.specs.Books.{owner_in}
use Rattle.nc_coherent.specs.Pages.{IsPages, pages_of, page_count, with_pages}
use Rattle.nc_sg.specs.declared.list.Entry.{Entry}
use Rattle.nc_rules.specs.declared.lots.Lot.{Lot}
use Rattle.nc_rules.specs.declared.lots.Side.TheVariants as sides
use Rattle.nc_rules.specs.declared.steps.PageMove.{PageMove}
use Rattle.nc_rules.specs.declared.steps.PageMove.TheVariants as moves
use Rattle.nc_rules.specs.declared.steps.Turn.TheVariants as turns
use Rattle.nc_rules.specs.Lots.{DriverConfig, is_lot, is_wanted, only_entry}
use Rattle.nc_rules.specs.Refusals.{buffer_of}
use Rattle.nc_rules.specs.Turns.{is_area, those, to_side, of_those, granted, set_side, pages_taken, page_move, page_moves}
use Rattle.nc_rules.specs.World.{grants_added, pages_moved}
use Rattle.nc_scripts.specs.Drivers.{IsLotIn, ArePagesOf}
use Rattle.nc_scripts.proofs.FreeLots.{new_lots_are_free}
use Rattle.nc_scripts.proofs.Lists.{all_in}
use Rattle.nc_scripts.proofs.LotLaws.{its_name}
use Rattle.nc_scripts.specs.NewLots.{HasFreePages}
use Rattle.nc_holds.specs.Held.{Held, AreRegions, LiesInBuffer, IsEntryOf, EntriesAreApart, FitsSide, IsTaken, PagesAgree}
use Rattle.nc_holds.specs.Changes.{Made, Turned, changed, changed_by}
use Rattle.nc_holds.specs.Holds.{KnowsAlike, MayMovePages}
use Rattle.nc_holds.proofs.lists.Members.{of_append, all_at, at_get, in_filter}
use Rattle.nc_holds.proofs.owners.Facts.{Knows, Mine, AllLent, IsMaking, Theirs}
use Rattle.nc_holds.proofs.owners.Moves.{moved_off}
use Rattle.nc_holds.proofs.owners.Lots.{area_covers, area_only, apart_from, sided_from, same_named, SidedBy, named, other, of_sided}
use Rattle.nc_holds.proofs.owners.Sides.{side_move, move_covers, owners_set, sides_by, taken_by}
use Rattle.nc_holds.proofs.owners.Pages.{area_entry, area_pages, free_off_taken, taken_kept, now_taken}
use Rattle.nc_holds.proofs.owners.Turns.{lent_held}
use Rattle.nc_holds.proofs.owners.Made.{settled_lent, granted_more, held_more}
use Rattle.nc_holds.proofs.owners.Laws.{alike_pool, knows_made, knows_turned}
use Rattle.nc_holds.proofs.grants.Moves.{added_left, others_stay, others_kept}
use Rattle.nc_holds.proofs.grants.Sides.{granted_sided, lends_them}

abbrev pub made_area : DriverConfig → Held → Lot → Held
made_area f s lot = changed f s (Made (lot ∷ []))

abbrev pub lent_area : DriverConfig → Held → Lot → Held
lent_area f s lot = changed_by f s (Made (lot ∷ []) ∷ Turned (turns.Lend lot.id) ∷ [])

-- ---- what is known of the area

pub record IsNewArea (ram harts : ℕ) (f : DriverConfig) (s : Held) (lot : Lot) : Type 0 where
  pub knows : Knows ram harts f (made_area f s lot)
  pub area : is_area lot.kind ≡ true
  pub wanted : is_wanted lot.side ≡ true
  pub is : IsLotIn ram f lot
  pub pages : IsPages s.pages (only_entry lot).span
  pub free : pages_of s.pages (only_entry lot).span ≡ replicate (page_count (only_entry lot).span) true
  pub lent : AllLent s.lots

pub new_area : (ram harts : ℕ) (f : DriverConfig) (s : Held) (lot : Lot) → Knows ram harts f s → IsMaking ram f s (lot ∷ []) → is_area lot.kind ≡ true → IsNewArea ram harts f s lot
new_area ram harts f s lot h making area =
    let is = all_at (IsLotIn ram f) (lot ∷ []) lot making.each.each (inl refl) in
    record {
      knows = knows_made ram harts f s (lot ∷ []) h making;
      area = area;
      wanted = all_at (λ (l : Lot). is_wanted l.side ≡ true) (lot ∷ []) lot making.each.wanted (inl refl);
      is = is;
      pages = area_pages ram f s.pages lot is h.pool area;
      free = all_at (HasFreePages s.pages) (lot ∷ []) lot (new_lots_are_free f s.lots (lot ∷ []) s.owners s.pages making.may.op making.may.begins).pages (inl refl) area;
      lent = settled_lent s.lots making.may.settled;
    }

-- it stands behind the others
pub at_end : (s : Held) (lot : Lot) → In lot (s.lots ++ lot ∷ [])
at_end s lot = in_right lot s.lots (lot ∷ []) (inl refl)

one_of : (x y : Lot) → In x (y ∷ []) → y ≡ x
one_of x y (inl e) = e
one_of x y (inr k) = elim k [ ]

-- a lot beside it is an old one, or has its name
old_or : (s : Held) (lot l : Lot) → In l (s.lots ++ lot ∷ []) → In l s.lots ⊎ (lot ≡ l)
old_or s lot l k = elim (of_append l s.lots (lot ∷ []) k) [ inl a ↦ inl a | inr b ↦ inr (one_of l lot b) ]

old_if : (s : Held) (lot l : Lot) → In l (s.lots ++ lot ∷ []) → is_lot lot.id l ≡ false → In l s.lots
old_if s lot l k off = elim (old_or s lot l k) [ inl a ↦ a | inr same ↦ absurd (false≢true (sym off ∙ its_name l lot.id (ap (λ (m : Lot). m.id) (sym same)))) ]

pub named_is : (ram harts : ℕ) (f : DriverConfig) (s : Held) (lot l : Lot) → IsNewArea ram harts f s lot → In l (s.lots ++ lot ∷ []) → is_lot lot.id l ≡ true → lot ≡ l
named_is ram harts f s lot l h k name = same_named (s.lots ++ lot ∷ []) lot.id lot l h.knows.names (at_end s lot) k (its_name lot lot.id refl) name

-- ---- its bytes are of no other entry

pub alike_regions : (f g : DriverConfig) → KnowsAlike f g → AreRegions f → AreRegions g
alike_regions f g a h =
    let same : (b : ℕ) → buffer_of f b ≡ buffer_of g b = λ b. (rw a.buffers refl) in
    record {
      buffers = λ b c ne x on_b on_c. h.buffers b c ne x (rw (same b) on_b) (rw (same c) on_c);
      buffers_off_slots = λ b x on_b on_s. h.buffers_off_slots b x (rw (same b) on_b) (rw (a.slots_at, a.slots) on_s);
      buffers_off_pool = λ b x on_b on_p. h.buffers_off_pool b x (rw (same b) on_b) (rw a.pool on_p);
      slots_off_pool = λ x on_s on_p. h.slots_off_pool x (rw (a.slots_at, a.slots) on_s) (rw a.pool on_p);
    }

pub area_off : (ram harts : ℕ) (f g : DriverConfig) (s : Held) (lot l : Lot) (i : ℕ) (e : Entry) (x : ℕ) → IsNewArea ram harts f s lot → AreRegions g → ArePagesOf g s.pages → f.pool ≡ g.pool → IsLotIn ram g l → FitsSide g l → IsTaken s.pages l
    → slice_get l.list.entries i ≡ Some e → covers e.span x ≡ true → covers (only_entry lot).span x ≡ true → ⊥
area_off ram harts f g s lot l i e x h regions of pool is fits taken k on on_area = elim (cases_Bool (is_area l.kind)) [
  | inl a ↦
      let only = (area_only ram g l i e is a k).1 in
      free_off_taken s.pages (only_entry lot).span (only_entry l).span x h.pages (area_pages ram g s.pages l is of a) h.free (taken a) on_area (subst (λ (d : Entry). covers d.span x ≡ true) (sym only) on)
  | inr off ↦
      let lies = all_at (λ (d : Entry). LiesInBuffer g d.span) l.list.entries e (fits.in_buffer off) (at_get l.list.entries i e k) in
      let in_pool = area_covers ram f lot 0 (only_entry lot) x h.is h.area (area_entry ram f lot h.is h.area) on_area in
      regions.buffers_off_pool lies.0 x (lies.1 x on) (subst (λ (p : Span). covers p x ≡ true) pool in_pool)
]

off_mine : (ram harts : ℕ) (f : DriverConfig) (s : Held) (lot l : Lot) (i j : ℕ) (e d : Entry) (x : ℕ) → Knows ram harts f s → Mine f s → IsNewArea ram harts f s lot → IsEntryOf s.lots l i e → slice_get lot.list.entries j ≡ Some d
    → covers e.span x ≡ true → covers d.span x ≡ true → ⊥
off_mine ram harts f s lot l i j e d x knows mine h here k on on_d =
    area_off ram harts f f s lot l i e x h knows.regions knows.pool refl (all_at (IsLotIn ram f) s.lots l knows.lots here.lot_in) (all_at (FitsSide f) s.lots l mine.sides here.lot_in) (all_at (IsTaken s.pages) s.lots l mine.pages here.lot_in) here.entry on
    (subst (λ (c : Entry). covers c.span x ≡ true) (sym (area_only ram f lot j d h.is h.area k).1) on_d)

area_apart : (ram harts : ℕ) (f : DriverConfig) (s : Held) (lot : Lot) → Knows ram harts f s → Mine f s → IsNewArea ram harts f s lot → EntriesAreApart (s.lots ++ lot ∷ [])
area_apart ram harts f s lot knows mine h a b i j d e x ha hb on_d on_e = elim (old_or s lot a ha.lot_in) [
  | inl ka ↦ elim (old_or s lot b hb.lot_in) [
    | inl kb ↦ mine.apart a b i j d e x (record { lot_in = ka; entry = ha.entry }) (record { lot_in = kb; entry = hb.entry }) on_d on_e
    | inr sb ↦ absurd (off_mine ram harts f s lot a i j d e x knows mine h (record { lot_in = ka; entry = ha.entry }) (subst (λ (l : Lot). slice_get l.list.entries j ≡ Some e) (sym sb) hb.entry) on_d on_e)
  ]
  | inr sa ↦ elim (old_or s lot b hb.lot_in) [
    | inl kb ↦ absurd (off_mine ram harts f s lot b j i e d x knows mine h (record { lot_in = kb; entry = hb.entry }) (subst (λ (l : Lot). slice_get l.list.entries i ≡ Some d) (sym sa) ha.entry) on_e on_d)
    | inr sb ↦
        let ia = (area_only ram f lot i d h.is h.area (subst (λ (l : Lot). slice_get l.list.entries i ≡ Some d) (sym sa) ha.entry)).0 in
        let ib = (area_only ram f lot j e h.is h.area (subst (λ (l : Lot). slice_get l.list.entries j ≡ Some e) (sym sb) hb.entry)).0 in
        record { lot = ap (λ (l : Lot). l.id) (sym sa ∙ sb); entry = ia ∙ sym ib }
  ]
]

-- ---- its pages

one_list : {X : Type 0} (x : X) (xs : List X) → In x xs → length xs ≤ 1 → xs ≡ x ∷ []
one_list {X = X} x [] k le = elim k [ ]
one_list {X = X} x (y ∷ []) (inl e) le = ap (λ (z : X). z ∷ []) e
one_list {X = X} x (y ∷ []) (inr k) le = elim k [ ]
one_list {X = X} x (y ∷ z ∷ xs) k le = absurd (omega arith)

takes_it : (lot : Lot) (a w : Bool) → is_area lot.kind ≡ a → is_wanted lot.side ≡ w → a ≡ true → w ≡ true → page_move (if a && w then moves.Take (only_entry lot).span else moves.Stay) moves.Stay ≡ moves.Take (only_entry lot).span
takes_it lot true true ea ew a w = refl
takes_it lot true false ea ew a w = absurd (false≢true w)
takes_it lot false wanted ea ew a w = absurd (false≢true a)

pub area_take : (ram harts : ℕ) (f : DriverConfig) (s : Held) (lot : Lot) → IsNewArea ram harts f s lot → page_moves pages_taken (those lot.id (s.lots ++ lot ∷ [])) ≡ moves.Take (only_entry lot).span
area_take ram harts f s lot h =
    let one = one_list lot (those lot.id (s.lots ++ lot ∷ [])) (in_filter (is_lot lot.id) lot (s.lots ++ lot ∷ []) (at_end s lot) (its_name lot lot.id refl)) (h.knows.names lot.id) in
    ap (page_moves pages_taken) one ∙ takes_it lot (is_area lot.kind) (is_wanted lot.side) refl refl h.area h.wanted

pub area_pages_may_move : (ram harts : ℕ) (f : DriverConfig) (s : Held) (lot : Lot) → Knows ram harts f s → IsMaking ram f s (lot ∷ []) → is_area lot.kind ≡ true → MayMovePages s.pages (page_moves pages_taken (those lot.id (s.lots ++ lot ∷ [])))
area_pages_may_move ram harts f s lot knows making area =
    let h = new_area ram harts f s lot knows making area in
    subst (MayMovePages s.pages) (sym (area_take ram harts f s lot h)) (h.pages, h.free)

-- ---- the hart

fits_lent : (ram harts : ℕ) (f : DriverConfig) (s : Held) (lot now : Lot) → Mine f s → IsNewArea ram harts f s lot → In now (set_side sides.Lending lot.id (s.lots ++ lot ∷ [])) → FitsSide f now
fits_lent ram harts f s lot now mine h k =
    let r = of_sided sides.Lending lot.id (s.lots ++ lot ∷ []) now k in
    elim (old_or s lot r.lot r.here) [
      | inl old ↦ sides_by f sides.Lending lot.id (s.lots ++ lot ∷ []) r.lot now refl (λ o. absurd (false≢true o)) r.here r.how (all_at (FitsSide f) s.lots r.lot mine.sides old)
      | inr same ↦ area_fits r.lot now same r.how
    ]
  where
    area_fits : (l now : Lot) → lot ≡ l → SidedBy sides.Lending lot.id l now → FitsSide f now
    area_fits l now same (named name e) = subst (FitsSide f) e (record { area = λ a. refl; own = λ o. absurd (false≢true o); in_buffer = λ off. absurd (false≢true (sym off ∙ subst (λ (m : Lot). is_area m.kind ≡ true) same h.area)) })
    area_fits l now same (other off e) = absurd (false≢true (sym off ∙ its_name l lot.id (ap (λ (m : Lot). m.id) (sym same))))

taken_lent : (ram harts : ℕ) (f : DriverConfig) (s : Held) (lot now : Lot) → Knows ram harts f s → Mine f s → IsNewArea ram harts f s lot → In now (set_side sides.Lending lot.id (s.lots ++ lot ∷ [])) → IsTaken (with_pages s.pages (only_entry lot).span false) now
taken_lent ram harts f s lot now knows mine h k =
    let r = of_sided sides.Lending lot.id (s.lots ++ lot ∷ []) now k in
    taken_by (with_pages s.pages (only_entry lot).span false) sides.Lending lot.id r.lot now r.how (elim (old_or s lot r.lot r.here) [
      | inl old ↦
          let is = all_at (IsLotIn ram f) s.lots r.lot knows.lots old in
          taken_kept ram f s.pages (only_entry lot).span false r.lot h.pages knows.pool is
          (λ a x on on_l. off_mine ram harts f s lot r.lot 0 0 (only_entry r.lot) (only_entry lot) x knows mine h (record { lot_in = old; entry = area_entry ram f r.lot is a }) (area_entry ram f lot h.is h.area) on_l on)
          (all_at (IsTaken s.pages) s.lots r.lot mine.pages old)
      | inr same ↦ subst (IsTaken (with_pages s.pages (only_entry lot).span false)) same (λ a. now_taken s.pages (only_entry lot).span h.pages)
    ])

lent_mine : (ram harts : ℕ) (f : DriverConfig) (s : Held) (lot : Lot) → Knows ram harts f s → Mine f s → IsNewArea ram harts f s lot → Mine f (lent_area f s lot)
lent_mine ram harts f s lot knows mine h =
    let all = s.lots ++ lot ∷ [] in
    let apart = area_apart ram harts f s lot knows mine h in
    let wanted = all_in (λ (l : Lot). is_wanted l.side ≡ true) (lot ∷ []) (λ l k. subst (λ (m : Lot). is_wanted m.side ≡ true) (one_of l lot k) h.wanted) in
    record {
      sides = all_in (FitsSide f) (set_side sides.Lending lot.id all) (λ now k. fits_lent ram harts f s lot now mine h k);
      apart = apart_from all (set_side sides.Lending lot.id all) (sided_from sides.Lending lot.id all) apart;
      owners = owners_set ram f sides.Lending lot.id all s.owners h.knows.lots knows.long apart
          (λ l i e x off here on. mine.owners l i e x (record { lot_in = old_if s lot l here.lot_in off; entry = here.entry }) on);
      granted = granted_sided f sides.Lending lot.id all s.grants (grants_added s.grants (of_those (granted f.me f.slots_at) lot.id all)) (granted_more f s.grants s.lots (lot ∷ []) mine.granted wanted)
          (λ g k. added_left g s.grants (of_those (granted f.me f.slots_at) lot.id all) k) (lends_them f lot.id all s.grants);
      pages = subst (λ (m : PageMove). PagesAgree (pages_moved s.pages m) (set_side sides.Lending lot.id all)) (sym (area_take ram harts f s lot h))
          (all_in (IsTaken (with_pages s.pages (only_entry lot).span false)) (set_side sides.Lending lot.id all) (λ now k. taken_lent ram harts f s lot now knows mine h k));
      held = lent_held f (made_area f s lot) lot.id (λ g k hart. held_more f s.lots (lot ∷ []) g (mine.held g k hart));
    }

pub area_knows : (ram harts : ℕ) (f : DriverConfig) (s : Held) (lot : Lot) → Knows ram harts f s → IsMaking ram f s (lot ∷ []) → Knows ram harts f (lent_area f s lot)
area_knows ram harts f s lot knows making = knows_turned ram harts f (made_area f s lot) (turns.Lend lot.id) (knows_made ram harts f s (lot ∷ []) knows making)

pub area_mine : (ram harts : ℕ) (f : DriverConfig) (s : Held) (lot : Lot) → Knows ram harts f s → Mine f s → IsMaking ram f s (lot ∷ []) → is_area lot.kind ≡ true → Mine f (lent_area f s lot)
area_mine ram harts f s lot knows mine making area = lent_mine ram harts f s lot knows mine (new_area ram harts f s lot knows making area)

-- ---- the others

-- no byte but the area's has another owner
pub area_frame : (ram harts : ℕ) (f : DriverConfig) (s : Held) (lot : Lot) (x : ℕ) → IsNewArea ram harts f s lot → (covers (only_entry lot).span x ≡ true → ⊥) → owner_in (lent_area f s lot).owners x ≡ owner_in s.owners x
area_frame ram harts f s lot x h off =
    moved_off s.owners (of_those (to_side f.me sides.Lending) lot.id (s.lots ++ lot ∷ [])) x
    (λ t k on.
    let r = side_move f.me sides.Lending lot.id (s.lots ++ lot ∷ []) t k in
    let same = named_is ram harts f s lot r.lot h r.here.lot_in r.named in
    let entry = subst (λ (l : Lot). slice_get l.list.entries r.i ≡ Some r.entry) (sym same) r.here.entry in
    off (subst (λ (d : Entry). covers d.span x ≡ true) (sym (area_only ram f lot r.i r.entry h.is h.area entry).1) (move_covers f.me sides.Lending lot.id (s.lots ++ lot ∷ []) t x r on)))

off_theirs : (ram harts : ℕ) (f g : DriverConfig) (s : Held) (lots : List Lot) (lot l : Lot) (i : ℕ) (e : Entry) (x : ℕ) → Knows ram harts f s → Theirs ram f g s lots → IsNewArea ram harts f s lot → IsEntryOf lots l i e → covers e.span x ≡ true
    → covers (only_entry lot).span x ≡ true → ⊥
off_theirs ram harts f g s lots lot l i e x knows theirs h here on on_area =
    area_off ram harts f g s lot l i e x h (alike_regions f g theirs.alike knows.regions) (alike_pool f g s.pages theirs.alike knows.pool) theirs.alike.pool (all_at (IsLotIn ram g) lots l theirs.each here.lot_in)
    (all_at (FitsSide g) lots l theirs.sides here.lot_in) (all_at (IsTaken s.pages) lots l theirs.pages here.lot_in) here.entry on on_area

lent_theirs : (ram harts : ℕ) (f g : DriverConfig) (s : Held) (lots : List Lot) (lot : Lot) → Knows ram harts f s → Theirs ram f g s lots → IsNewArea ram harts f s lot → Theirs ram f g (lent_area f s lot) lots
lent_theirs ram harts f g s lots lot knows theirs h = record {
  alike = theirs.alike;
  other = theirs.other;
  each = theirs.each;
  sides = theirs.sides;
  owners = λ l i e x here on. area_frame ram harts f s lot x h (λ on_area. off_theirs ram harts f g s lots lot l i e x knows theirs h here on on_area) ∙ theirs.owners l i e x here on;
  granted = λ l i e here lent. others_kept f.me f.slots_at (s.lots ++ lot ∷ []) (turns.Lend lot.id) s.grants _ theirs.other (theirs.granted l i e here lent);
  pages = subst (λ (m : PageMove). PagesAgree (pages_moved s.pages m) lots) (sym (area_take ram harts f s lot h))
      (all_in (IsTaken (with_pages s.pages (only_entry lot).span false)) lots
      (λ l k.
      let is = all_at (IsLotIn ram g) lots l theirs.each k in
      taken_kept ram g s.pages (only_entry lot).span false l h.pages (alike_pool f g s.pages theirs.alike knows.pool) is
      (λ a x on on_l. off_theirs ram harts f g s lots lot l 0 (only_entry l) x knows theirs h (record { lot_in = k; entry = area_entry ram g l is a }) on_l on) (all_at (IsTaken s.pages) lots l theirs.pages k)));
}

pub area_theirs : (ram harts : ℕ) (f g : DriverConfig) (s : Held) (lots : List Lot) (lot : Lot) → Knows ram harts f s → Theirs ram f g s lots → IsMaking ram f s (lot ∷ []) → is_area lot.kind ≡ true → Theirs ram f g (lent_area f s lot) lots
area_theirs ram harts f g s lots lot knows theirs making area = lent_theirs ram harts f g s lots lot knows theirs (new_area ram harts f s lot knows making area)

pub area_grants_of_others : (f : DriverConfig) (s : Held) (lot : Lot) (g : Grant) → g.id.hart.0 ≢ f.me.0 → In g (lent_area f s lot).grants → In g s.grants
area_grants_of_others f s lot g away k = others_stay f.me f.slots_at (s.lots ++ lot ∷ []) (turns.Lend lot.id) s.grants g away k
