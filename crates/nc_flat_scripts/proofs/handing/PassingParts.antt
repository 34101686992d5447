-- What stands beside the rows behind a step with which a hart passes a buffer on, or takes one.
use Rattle.std.specs.Prelude.{Option, Some, None, Bool, true, false, not, ◌&&◌, if◌then◌else◌, filter, All}
use Rattle.std.specs.List.{list_any}
use Rattle.std.proofs.Common.{◌≡◌, ◌⊎◌, ℕ, ◌<◌, List, [], ◌∷◌, length, refl, sym, ap, ◌∙◌, inl, inr, subst, arith}
use Rattle.std.proofs.lemmas.Bool.{cases_eq, false≢true}
use Rattle.nc_num.specs.Places.{covers}
use Rattle.nc_num.specs.declared.names.HartNo.{HartNo}
use Rattle.nc_num.specs.declared.names.MapId.{MapId}
use Rattle.nc_queue.specs.declared.entry.Entry.{Entry}
use Rattle.nc_model.specs.declared.owners.Owner.{Owner}
use Rattle.nc_model.specs.declared.owners.Owner.TheVariants.{Thread, Passing, Lending, Device, Returning, Synced, Pool}
use Rattle.nc_scen.specs.Regions.{pool_of, slots_of}
use Rattle.nc_scen.specs.declared.scenario.Scenario.{Scenario}
use Rattle.nc_rules.specs.declared.lots.Lot.{Lot}
use Rattle.nc_rules.specs.declared.lots.LotId.{LotId}
use Rattle.nc_rules.specs.declared.steps.Step.{Step}
use Rattle.nc_rules.specs.Machine.{MachineState, hart_of, queue_of}
use Rattle.nc_rules.specs.Lots.{DriverConfig}
use Rattle.nc_rules.specs.Driver.{DriverState, Went}
use Rattle.nc_rules.specs.EventTouches.{owner_of}
use Rattle.nc_rules.specs.World.{WorldState, driver_of}
use Rattle.nc_scripts.proofs.Lists.{all_to}
use Rattle.nc_rows.specs.Ahead.{is_full, settling, coming}
use Rattle.nc_rows.specs.Laws.{seen_at}
use Rattle.nc_rows.specs.Rows.{Book}
use Rattle.nc_rows.specs.Parts.{IsDropped, MayBeHeld, rest_last, Lasts}
use Rattle.nc_flatness.specs.Books.{book_of, mapping_in, LiesIn, IsPooled}
use Rattle.nc_flatness.specs.Flatness.{Drives, IsUnseen, Flatness}
use Rattle.nc_flatness.specs.Plans.{IsStill}
use Rattle.nc_flatness.specs.Tokens.{lot_token, is_lot_token, is_lending_side, TokenStands}
use Rattle.nc_flatness.proofs.books.BookReads.{loan_gone, rest_away, rest_here, seen_alike, StillAllocates, may_to, allocating}
use Rattle.nc_flatness.proofs.plans.Lasts.{last_stays}
use Rattle.nc_flatness.proofs.worlds.Outcomes.{gone}
use Rattle.nc_flatness.proofs.plans.Rests.{unended_unlent}
use Rattle.nc_flatness.proofs.tokens.Tokens.{unended_settling}
use Rattle.nc_flat_scripts.proofs.accesses.LastLoads.{last_none}
use Rattle.nc_flat_scripts.proofs.copies.OtherCopies.{CopiesNone}
use Rattle.nc_flat_scripts.proofs.steps.StepFrames.{driver_here, driver_away}
use Rattle.nc_flat_scripts.proofs.steps.StillLots.{EndsNone, none_comes}

-- hart h's driver goes on, and its lots stay as they are
pub record Passes (sc : Scenario) (f : List ℕ) (w : WorldState) (h : HartNo) (went : Went) : Type 0 where
  pub flat : Flatness sc f w
  pub lt : h.0 < length sc.harts
  pub still : All (IsStill (driver_of w h.0).fixed) (driver_of w h.0).lots
  pub fixed : went.driver.fixed ≡ (driver_of w h.0).fixed
  pub lots : went.driver.lots ≡ (driver_of w h.0).lots
  pub was : EndsNone (driver_of w h.0).rest
  pub left : EndsNone went.driver.rest
  pub unstored : rest_last went.driver.rest ≡ None
  pub drives : Drives went.driver
  pub uncopied : CopiesNone went.driver

pub there : (sc : Scenario) (f : List ℕ) (w : WorldState) (h : HartNo) (went : Went) → Passes sc f w h went → h.0 < length w.drivers
there sc f w h went p = omega (arith, p.flat.world.holds.drivers, p.flat.world.of_scenario.harts, p.lt)

-- ---- owners

-- the place was and is no mapping's, of no slot and not of the pool
pub record MovesPlain (sc : Scenario) (w v : WorldState) (x : ℕ) : Type 0 where
  pub before : mapping_in (owner_of w x) ≡ None
  pub behind : mapping_in (owner_of v x) ≡ None
  pub unpooled : covers (pool_of sc) x ≡ false
  pub unslotted : covers (slots_of sc) x ≡ false

-- or its owner stays
abbrev pub OwnerMoves : Scenario → WorldState → WorldState → ℕ → Type 0
OwnerMoves sc w v x = (owner_of v x ≡ owner_of w x) ⊎ MovesPlain sc w v x

pub placed_by : (sc : Scenario) (w v : WorldState) (x : ℕ) (n : MapId) → OwnerMoves sc w v x → (book_of v).loan n ≡ (book_of w).loan n → (mapping_in (owner_of w x) ≡ Some n → LiesIn ((book_of w).loan n) x) → mapping_in (owner_of v x) ≡ Some n → LiesIn ((book_of v).loan n) x
placed_by sc w v x n (inl stays) loan lies e = subst (λ o. LiesIn o x) (sym loan) (lies (sym (ap mapping_in stays) ∙ e))
placed_by sc w v x n (inr moves) loan lies e = let no : ◌≡◌ {A = Option MapId} None (Some n) = sym moves.behind ∙ e in absurd cc

pub pooled_by : (sc : Scenario) (w v : WorldState) (x : ℕ) → OwnerMoves sc w v x → ((n : MapId) → (book_of v).loan n ≡ (book_of w).loan n) → covers (pool_of sc) x ≡ true → IsPooled (book_of w) (owner_of w x) x → IsPooled (book_of v) (owner_of v x) x
pooled_by sc w v x (inl stays) loans over (inl pool) = inl (stays ∙ pool)
pooled_by sc w v x (inl stays) loans over (inr area) = inr (record { id = area.id; loan = area.loan; lent = loans area.id ∙ area.lent; area = area.area; on = area.on })
pooled_by sc w v x (inr moves) loans over pooled = absurd (false≢true (sym moves.unpooled ∙ over))

pub slotted_by : (sc : Scenario) (w v : WorldState) (x : ℕ) → OwnerMoves sc w v x → covers (slots_of sc) x ≡ true → owner_of w x ≡ Pool → owner_of v x ≡ Pool
slotted_by sc w v x (inl stays) over pool = stays ∙ pool
slotted_by sc w v x (inr moves) over pool = absurd (false≢true (sym moves.unslotted ∙ over))

returning_by : (sc : Scenario) (w v : WorldState) (x : ℕ) (n : MapId) → OwnerMoves sc w v x → owner_of w x ≡ Returning n → owner_of v x ≡ Returning n
returning_by sc w v x n (inl stays) e = stays ∙ e
returning_by sc w v x n (inr moves) e = let no : ◌≡◌ {A = Option MapId} None (Some n) = sym moves.before ∙ ap mapping_in e in absurd cc

lending_by : (sc : Scenario) (w v : WorldState) (x : ℕ) (n : MapId) → OwnerMoves sc w v x → owner_of w x ≡ Lending n → owner_of v x ≡ Lending n
lending_by sc w v x n (inl stays) e = stays ∙ e
lending_by sc w v x n (inr moves) e = let no : ◌≡◌ {A = Option MapId} None (Some n) = sym moves.before ∙ ap mapping_in e in absurd cc

none_full : (c : List Entry) → c ≡ [] → list_any is_full c ≡ true → ⊥
none_full c none full = false≢true (sym (ap (list_any is_full) none) ∙ full)

-- what is dropped is another hart's
pub dropped_by : (sc : Scenario) (f : List ℕ) (w : WorldState) (h : HartNo) (n : MachineState) (went : Went) (s j k : ℕ) → Passes sc f w h went → ((x : ℕ) → OwnerMoves sc w (gone w h n went) x) → IsDropped (book_of w) (owner_of w) s j k
    → IsDropped (book_of (gone w h n went)) (owner_of (gone w h n went)) s j k
dropped_by sc f w h n went s j k p owners is =
    let rest : (book_of (gone w h n went)).rest is.id.hart.0 ≡ (book_of w).rest is.id.hart.0 = elim (cases_eq is.id.hart.0 h.0) [
      | inl own ↦ absurd (none_full (coming is.id is.loan.lot ((book_of w).rest is.id.hart.0)) (none_comes is.id is.loan.lot ((book_of w).rest is.id.hart.0) (subst (λ (g : ℕ). EndsNone ((book_of w).rest g)) (sym own) p.was)) is.ahead)
      | inr ne ↦ rest_away w h n went is.id.hart.0 ne
    ] in
    record {
      id = is.id;
      loan = is.loan;
      lent = loan_gone w h n went is.id (there sc f w h went p) p.fixed p.lots ∙ is.lent;
      own = is.own;
      back = is.back;
      ahead = ap (λ (r : List Step). list_any is_full (coming is.id is.loan.lot r)) rest ∙ is.ahead;
      place = is.place;
      owned = returning_by sc w (gone w h n went) is.place is.id (owners is.place) is.owned;
      here = is.here;
    }

-- and so is what is allocated
settles_by : (sc : Scenario) (f : List ℕ) (w : WorldState) (h : HartNo) (n : MachineState) (went : Went) (k : MapId) (lot : LotId) → Passes sc f w h went → settling lot ((book_of w).rest k.hart.0) ≡ true → settling lot ((book_of (gone w h n went)).rest k.hart.0) ≡ true
settles_by sc f w h n went k lot p settles = elim (cases_eq k.hart.0 h.0) [
  | inl own ↦ absurd (false≢true (sym (unended_settling lot ((book_of w).rest k.hart.0) (subst (λ (g : ℕ). EndsNone ((book_of w).rest g)) (sym own) p.was lot)) ∙ settles))
  | inr ne ↦ ap (settling lot) (rest_away w h n went k.hart.0 ne) ∙ settles
]

pub allocates_by : (sc : Scenario) (f : List ℕ) (w : WorldState) (h : HartNo) (n : MachineState) (went : Went) (j : ℕ) → Passes sc f w h went → ((x : ℕ) → OwnerMoves sc w (gone w h n went) x)
    → StillAllocates (book_of w) (book_of (gone w h n went)) (owner_of w) (owner_of (gone w h n went)) j
allocates_by sc f w h n went j p owners = record {
  loans = λ k l own known area settles. (loan_gone w h n went k (there sc f w h went p) p.fixed p.lots ∙ known, settles_by sc f w h n went k l.lot p settles);
  owners = λ k x own e. lending_by sc w (gone w h n went) x k (owners x) e;
}

pub held_by : (sc : Scenario) (f : List ℕ) (w : WorldState) (h : HartNo) (n : MachineState) (went : Went) (x : ℕ) → Passes sc f w h went → ((y : ℕ) → OwnerMoves sc w (gone w h n went) y) → MayBeHeld (book_of w) (owner_of w x)
    → MayBeHeld (book_of (gone w h n went)) (owner_of (gone w h n went) x)
held_by sc f w h n went x p owners may =
    let is = allocating sc f w x p.flat may in
    may_to (book_of w) (book_of (gone w h n went)) (owner_of w) (owner_of (gone w h n went)) is.id x (allocates_by sc f w h n went is.id.hart.0 p owners) is.owner may

-- ---- what channels see

-- a place of no mapping is seen where it is
unmapped_seen : (a : Book) (o : Owner) (x : ℕ) → mapping_in o ≡ None → seen_at a o x ≡ x
unmapped_seen a (Thread h) x none = refl
unmapped_seen a (Passing h g) x none = refl
unmapped_seen a (Lending n) x none = absurd cc
unmapped_seen a (Device n) x none = absurd cc
unmapped_seen a (Returning n) x none = absurd cc
unmapped_seen a (Synced n) x none = refl
unmapped_seen a Pool x none = refl

seen_moves : (sc : Scenario) (w v : WorldState) (x : ℕ) → ((n : MapId) → (book_of v).loan n ≡ (book_of w).loan n) → OwnerMoves sc w v x → seen_at (book_of v) (owner_of v x) x ≡ seen_at (book_of w) (owner_of w x) x
seen_moves sc w v x same (inl stays) = ap (λ (o : Owner). seen_at (book_of v) o x) stays ∙ seen_alike (book_of v) (book_of w) (owner_of w x) x same
seen_moves sc w v x same (inr moves) = unmapped_seen (book_of v) (owner_of v x) x moves.behind ∙ sym (unmapped_seen (book_of w) (owner_of w x) x moves.before)

pub unseen_before : (sc : Scenario) (w v : WorldState) (z : ℕ) → ((n : MapId) → (book_of v).loan n ≡ (book_of w).loan n) → ((x : ℕ) → OwnerMoves sc w v x) → IsUnseen (book_of v) (owner_of v) (slots_of sc) z → IsUnseen (book_of w) (owner_of w) (slots_of sc) z
unseen_before sc w v z same owners unseen = λ x off at. unseen x off (seen_moves sc w v x same (owners x) ∙ at)

-- ---- last loads

pub lasts_passed : (sc : Scenario) (f : List ℕ) (w : WorldState) (h : HartNo) (n : MachineState) (went : Went) → Passes sc f w h went → ((k : ℕ) → (hart_of n k).last ≡ (hart_of w.machine k).last) → Lasts (book_of (gone w h n went)) f n
lasts_passed sc f w h n went p last k =
    let b = book_of (gone w h n went) in
    elim (cases_eq k h.0) [
      | inl own ↦
          last_none b f k (hart_of n k).last (rest_last (b.rest k))
          (ap (λ (j : ℕ). rest_last (b.rest j)) own ∙ ap rest_last (rest_here w h n went (there sc f w h went p)) ∙ p.unstored)
      | inr ne ↦
          last_stays sc f f w b n k p.flat p.flat.bytes.flat_size (rest_away w h n went k ne) (last k)
          (λ m own. loan_gone w h n went m (there sc f w h went p) p.fixed p.lots) (λ x m own lent. refl)
    ]

-- ---- tokens

rest_sent : (r s : List Step) (q k : List Entry) (lot : Lot) → EndsNone r → EndsNone s → filter (is_lot_token lot.id) k ≡ filter (is_lot_token lot.id) q → TokenStands r q lot → TokenStands s k lot
rest_sent r s q k lot was left same is = same ∙ is ∙ ap (λ (t : Bool). if is_lending_side lot.side && not t then lot_token lot ∷ [] else []) (unended_unlent lot.id r (was lot.id) ∙ sym (unended_unlent lot.id s (left lot.id)))

pub tokens_passed : (sc : Scenario) (f : List ℕ) (w : WorldState) (h : HartNo) (n : MachineState) (went : Went) → Passes sc f w h went → ((g : ℕ) (id : LotId) → filter (is_lot_token id) (queue_of n g) ≡ filter (is_lot_token id) (queue_of w.machine g))
    → (g : ℕ) → g < length sc.harts → (driver_of (gone w h n went) g).fixed.light ≡ true → All (TokenStands (driver_of (gone w h n went) g).rest (queue_of n g)) (driver_of (gone w h n went) g).lots
tokens_passed sc f w h n went p same g lt light = elim (cases_eq g h.0) [
  | inl own ↦
      let d = driver_of w h.0 in
      let here = driver_here w h n went g (there sc f w h went p) own in
      let was : All (TokenStands d.rest (queue_of w.machine g)) d.lots =
      subst (λ (j : ℕ). All (TokenStands d.rest (queue_of w.machine j)) d.lots) (sym own) (p.flat.bytes.tokens h.0 p.lt (ap (λ (k : DriverConfig). k.light) (sym p.fixed) ∙ ap (λ (e : DriverState). e.fixed.light) (sym here) ∙ light)) in
      subst (λ (e : DriverState). All (TokenStands e.rest (queue_of n g)) e.lots) (sym here)
      (subst (λ (lots : List Lot). All (TokenStands went.driver.rest (queue_of n g)) lots) (sym p.lots)
      (all_to (TokenStands d.rest (queue_of w.machine g)) (TokenStands went.driver.rest (queue_of n g)) d.lots was (λ lot is. rest_sent d.rest went.driver.rest (queue_of w.machine g) (queue_of n g) lot p.was p.left (same g lot.id) is)))
  | inr ne ↦
      let away = driver_away w h n went g ne in
      subst (λ (e : DriverState). All (TokenStands e.rest (queue_of n g)) e.lots) (sym away)
      (all_to (TokenStands (driver_of w g).rest (queue_of w.machine g)) (TokenStands (driver_of w g).rest (queue_of n g)) (driver_of w g).lots (p.flat.bytes.tokens g lt (ap (λ (e : DriverState). e.fixed.light) (sym away) ∙ light)) (λ lot is. same g lot.id ∙ is))
]
