-- The bytes of flat memory behind a step of a plan that is of no lot.
use Rattle.std.specs.Prelude.{None, Bool, true, false, All, not, ◌&&◌, ◌||◌, if◌then◌else◌, filter}
use Rattle.std.specs.List.{list_any}
use Rattle.std.proofs.Common.{◌≡◌, ℕ, ◌<◌, List, [], ◌∷◌, length, refl, sym, ap, ◌∙◌, inl, inr, subst, arith}
use Rattle.std.proofs.lemmas.Bool.{cases_eq}
use Rattle.nc_num.specs.Memory.{byte}
use Rattle.nc_num.specs.Places.{covers}
use Rattle.nc_num.specs.declared.names.HartNo.{HartNo}
use Rattle.nc_num.specs.declared.names.MapId.{MapId}
use Rattle.nc_num.specs.declared.places.Span.{Span}
use Rattle.nc_queue.specs.declared.entry.Entry.{Entry}
use Rattle.nc_queue.specs.declared.entry.Entry.TheVariants.{Reg}
use Rattle.nc_model.specs.declared.owners.Owner.{Owner}
use Rattle.nc_model.specs.declared.owners.Owner.TheVariants.{Pool}
use Rattle.nc_own.specs.Books.{owner_in}
use Rattle.nc_scen.specs.declared.scenario.Scenario.{Scenario}
use Rattle.nc_rules.specs.declared.lots.Lot.{Lot}
use Rattle.nc_rules.specs.declared.lots.LotId.{LotId}
use Rattle.nc_rules.specs.declared.steps.Step.{Step}
use Rattle.nc_rules.specs.Lots.{DriverConfig}
use Rattle.nc_rules.specs.Machine.{MachineState, hart_of, queue_of}
use Rattle.nc_rules.specs.Driver.{DriverState, Went}
use Rattle.nc_rules.specs.EventTouches.{owner_of}
use Rattle.nc_rules.specs.World.{WorldState, driver_of, owners_moved}
use Rattle.nc_calls.specs.PlaceLaws.{NotHeld}
use Rattle.nc_scripts.proofs.Lists.{all_to}
use Rattle.nc_rows.specs.Ahead.{is_full, settling, coming}
use Rattle.nc_rows.specs.Places.{CalmRow}
use Rattle.nc_rows.specs.Rows.{Book, Row}
use Rattle.nc_rows.specs.Parts.{IsDropped, Queued, MayBeHeld, rest_last, Lasts}
use Rattle.nc_flatness.specs.Books.{book_of}
use Rattle.nc_flatness.specs.Copying.{CopyStands}
use Rattle.nc_flatness.specs.Flatness.{Drives, BytesStand, Flatness}
use Rattle.nc_flatness.specs.Plans.{IsStill}
use Rattle.nc_flatness.specs.Tokens.{lot_token, is_lot_token, is_lending_side, ends_lending, TokenStands}
use Rattle.nc_flatness.proofs.books.BookReads.{loan_gone, rest_away, rest_here, buffer_gone, queued_to, zeroed_to, StillAllocates, may_to, allocating}
use Rattle.nc_flatness.proofs.plans.Lasts.{last_stays}
use Rattle.nc_flatness.proofs.worlds.Outcomes.{gone}
use Rattle.nc_flatness.proofs.plans.Rests.{plain_unlent}
use Rattle.nc_flat_scripts.proofs.accesses.ActRows.{calm_at, tokens_pushed, queued_more, entry_lasts}
use Rattle.nc_flat_scripts.proofs.accesses.LastLoads.{last_none}
use Rattle.nc_flat_scripts.proofs.handing.PassingParts.{placed_by, pooled_by, slotted_by, unseen_before}
use Rattle.nc_flat_scripts.proofs.steps.StepFrames.{driver_here, driver_away, drives_set}
use Rattle.nc_flat_scripts.proofs.steps.StillLots.{untaken_at}
use Rattle.nc_flat_scripts.proofs.copies.TransferRows.{IsOfNone, StepMoves, Leaves, Sets, BookGoes, settles_on, full_on, row_there, row_on}

-- hart h's plan makes the step, and goes on so
pub record IsMade (sc : Scenario) (f : List ℕ) (w : WorldState) (h : HartNo) (n : MachineState) (went : Went) (s : Step) : Type 0 where
  pub flat : Flatness sc f w
  pub lt : h.0 < length sc.harts
  pub still : All (IsStill (driver_of w h.0).fixed) (driver_of w h.0).lots
  pub fixed : went.driver.fixed ≡ (driver_of w h.0).fixed
  pub lots : went.driver.lots ≡ (driver_of w h.0).lots
  pub rest : (driver_of w h.0).rest ≡ s ∷ went.driver.rest
  pub none : IsOfNone s
  pub unstored : rest_last went.driver.rest ≡ None
  pub drives : Drives went.driver
  pub transfers : went.moves.transfers ≡ []
  pub moves : StepMoves w.machine n h.0 s

pub there : (sc : Scenario) (f : List ℕ) (w : WorldState) (h : HartNo) (n : MachineState) (went : Went) (s : Step) → IsMade sc f w h n went s → h.0 < length w.drivers
there sc f w h n went s k = omega (arith, k.flat.world.holds.drivers, k.flat.world.of_scenario.harts, k.lt)

pub book_on : (sc : Scenario) (f : List ℕ) (w : WorldState) (h : HartNo) (n : MachineState) (went : Went) (s : Step) → IsMade sc f w h n went s → BookGoes (book_of w) (book_of (gone w h n went)) h.0 s
book_on sc f w h n went s k =
    let lt = there sc f w h n went s k in
    record {
      loans = λ j. sym (loan_gone w h n went j lt k.fixed k.lots);
      buffer = λ x. ap (λ (b : ℕ → ℕ). b x) (sym (buffer_gone w h n went lt k.fixed));
      away = λ g ne. sym (rest_away w h n went g ne);
      here = k.rest ∙ ap (λ (r : List Step). s ∷ r) (sym (rest_here w h n went lt));
    }

pub same_owner : (sc : Scenario) (f : List ℕ) (w : WorldState) (h : HartNo) (n : MachineState) (went : Went) (s : Step) (x : ℕ) → IsMade sc f w h n went s → owner_of (gone w h n went) x ≡ owner_of w x
same_owner sc f w h n went s x k = ap (λ (os : List Owner). owner_in os x) (ap (owners_moved w.owners) k.transfers)

-- ---- what is to come, by the books

settles_same : (a b : Book) (h g : ℕ) (s : Step) (lot : LotId) → BookGoes a b h s → IsOfNone s → settling lot (a.rest g) ≡ settling lot (b.rest g)
settles_same a b h g s lot goes none = elim (cases_eq g h) [
  | inl own ↦
      ap (λ (i : ℕ). settling lot (a.rest i)) own ∙ ap (settling lot) goes.here ∙ settles_on s (b.rest h) lot none ∙ ap (λ (i : ℕ). settling lot (b.rest i)) (sym own)
  | inr ne ↦ ap (settling lot) (goes.away g ne)
]

full_same : (a b : Book) (m k : MachineState) (h g : ℕ) (s : Step) (n : MapId) (lot : LotId) → BookGoes a b h s → IsOfNone s → StepMoves m k h s → list_any is_full (coming n lot (a.rest g)) ≡ list_any is_full (coming n lot (b.rest g))
full_same a b m k h g s n lot goes none moves = elim (cases_eq g h) [
  | inl own ↦
      ap (λ (i : ℕ). list_any is_full (coming n lot (a.rest i))) own ∙ ap (λ (r : List Step). list_any is_full (coming n lot r)) goes.here ∙ full_on m k h n lot s (b.rest h) none moves
      ∙ ap (λ (i : ℕ). list_any is_full (coming n lot (b.rest i))) (sym own)
  | inr ne ↦ ap (λ (r : List Step). list_any is_full (coming n lot r)) (goes.away g ne)
]

-- ---- the machine

pool_of : (m k : MachineState) (h : ℕ) (s : Step) → StepMoves m k h s → k.pool ≡ m.pool
pool_of m k h s (Leaves same silent) = ap (λ (i : MachineState). i.pool) same
pool_of m k h s (Sets chan off width value by puts) = by.shape.pool

unheld_on : (m k : MachineState) (h x : ℕ) (s : Step) → StepMoves m k h s → NotHeld m x → NotHeld k x
unheld_on m k h x s (Leaves same silent) none = subst (λ (i : MachineState). NotHeld i x) (sym same) none
unheld_on m k h x s (Sets chan off width value by puts) none = (by.pushes.places x).line ∙ none

queued_on : (a : Book) (owner : ℕ → Owner) (m k : MachineState) (h : ℕ) (s : Step) → StepMoves m k h s → Queued a owner m → Queued a owner k
queued_on a owner m k h s (Leaves same silent) queued = subst (Queued a owner) (sym same) queued
queued_on a owner m k h s (Sets chan off width value by puts) queued = queued_more a owner m k h (Reg chan off width value) by tt queued

unfenced_on : (m k : MachineState) (h g : ℕ) (s : Step) → StepMoves m k h s → list_any is_full (queue_of m g) ≡ false → list_any is_full (queue_of k g) ≡ false
unfenced_on m k h g s (Leaves same silent) none = ap (λ (i : MachineState). list_any is_full (queue_of i g)) same ∙ none
unfenced_on m k h g s (Sets chan off width value by puts) none = by.pushes.queues.none is_full g refl none

tokens_on : (m k : MachineState) (h g : ℕ) (s : Step) (id : LotId) → StepMoves m k h s → filter (is_lot_token id) (queue_of k g) ≡ filter (is_lot_token id) (queue_of m g)
tokens_on m k h g s id (Leaves same silent) = ap (λ (i : MachineState). filter (is_lot_token id) (queue_of i g)) same
tokens_on m k h g s id (Sets chan off width value by puts) =
    tokens_pushed m k h (Reg chan off width value) by (record { token = λ n. refl; fence = refl; inval = λ b. refl; lot = λ lot. refl }) g id

last_on : (w : WorldState) (k : MachineState) (h g : ℕ) (s : Step) → StepMoves w.machine k h s → (hart_of k g).last ≡ (hart_of w.machine g).last
last_on w k h g s (Leaves same silent) = ap (λ (i : MachineState). (hart_of i g).last) same
last_on w k h g s (Sets chan off width value by puts) = entry_lasts w k h (Reg chan off width value) g by.pushes

calm_on : (a : Book) (m k : MachineState) (h z : ℕ) (s : Step) → StepMoves m k h s → CalmRow m z → CalmRow k z
calm_on a m k h z s moves calm = calm_at k (byte m.cache.ram z) z (row_there a Pool (byte m.cache.ram z) m k h s z moves calm)

-- ---- what stands beside the rows

dropped_on : (sc : Scenario) (f : List ℕ) (w : WorldState) (h : HartNo) (n : MachineState) (went : Went) (s : Step) (size j b : ℕ) → IsMade sc f w h n went s → IsDropped (book_of w) (owner_of w) size j b → IsDropped (book_of (gone w h n went)) (owner_of (gone w h n went)) size j b
dropped_on sc f w h n went s size j b k is = record {
  id = is.id;
  loan = is.loan;
  lent = loan_gone w h n went is.id (there sc f w h n went s k) k.fixed k.lots ∙ is.lent;
  own = is.own;
  back = is.back;
  ahead = sym (full_same (book_of w) (book_of (gone w h n went)) w.machine n h.0 is.id.hart.0 s is.id is.loan.lot (book_on sc f w h n went s k) k.none k.moves) ∙ is.ahead;
  place = is.place;
  owned = same_owner sc f w h n went s is.place k ∙ is.owned;
  here = is.here;
}

allocates_on : (sc : Scenario) (f : List ℕ) (w : WorldState) (h : HartNo) (n : MachineState) (went : Went) (s : Step) (j : ℕ) → IsMade sc f w h n went s → StillAllocates (book_of w) (book_of (gone w h n went)) (owner_of w) (owner_of (gone w h n went)) j
allocates_on sc f w h n went s j k =
    let b = book_of (gone w h n went) in
    record {
      loans = λ i l own known area settles. (
        loan_gone w h n went i (there sc f w h n went s k) k.fixed k.lots ∙ known,
        sym (settles_same (book_of w) b h.0 i.hart.0 s l.lot (book_on sc f w h n went s k) k.none) ∙ settles,
      );
      owners = λ i x own e. same_owner sc f w h n went s x k ∙ e;
    }

held_on : (sc : Scenario) (f : List ℕ) (w : WorldState) (h : HartNo) (n : MachineState) (went : Went) (s : Step) (x : ℕ) → IsMade sc f w h n went s → MayBeHeld (book_of w) (owner_of w x) → MayBeHeld (book_of (gone w h n went)) (owner_of (gone w h n went) x)
held_on sc f w h n went s x k may =
    let is = allocating sc f w x k.flat may in
    may_to (book_of w) (book_of (gone w h n went)) (owner_of w) (owner_of (gone w h n went)) is.id x (allocates_on sc f w h n went s is.id.hart.0 k) is.owner may

lasts_on : (sc : Scenario) (f : List ℕ) (w : WorldState) (h : HartNo) (n : MachineState) (went : Went) (s : Step) → IsMade sc f w h n went s → Lasts (book_of (gone w h n went)) f n
lasts_on sc f w h n went s k g =
    let b = book_of (gone w h n went) in
    elim (cases_eq g h.0) [
      | inl own ↦
          last_none b f g (hart_of n g).last (rest_last (b.rest g))
          (ap (λ (j : ℕ). rest_last (b.rest j)) own ∙ ap rest_last (rest_here w h n went (there sc f w h n went s k)) ∙ k.unstored)
      | inr ne ↦
          last_stays sc f f w b n g k.flat k.flat.bytes.flat_size (rest_away w h n went g ne) (last_on w n h.0 g s k.moves)
          (λ m own. loan_gone w h n went m (there sc f w h n went s k) k.fixed k.lots) (λ x m own lent. refl)
    ]

-- a lot's token, as the step goes off
token_on : (s : Step) (rest : List Step) (q r : List Entry) (lot : Lot) → IsOfNone s → filter (is_lot_token lot.id) r ≡ filter (is_lot_token lot.id) q → TokenStands (s ∷ rest) q lot → TokenStands rest r lot
token_on s rest q r lot none same is =
    same ∙ is ∙ ap (λ (t : Bool). if is_lending_side lot.side && not (t || list_any (ends_lending lot.id) rest) then lot_token lot ∷ [] else []) (plain_unlent lot.id s (none.ends lot.id))

lots_tokens : (sc : Scenario) (f : List ℕ) (w : WorldState) (h : HartNo) (n : MachineState) (went : Went) (s : Step) (g : ℕ) → IsMade sc f w h n went s → g < length sc.harts → (driver_of (gone w h n went) g).fixed.light ≡ true
    → All (TokenStands (driver_of (gone w h n went) g).rest (queue_of n g)) (driver_of (gone w h n went) g).lots
lots_tokens sc f w h n went s g k lt light = elim (cases_eq g h.0) [
  | inl own ↦
      let d = driver_of w h.0 in
      let here = driver_here w h n went g (there sc f w h n went s k) own in
      let was : All (TokenStands (s ∷ went.driver.rest) (queue_of w.machine g)) d.lots =
      subst (λ (r : List Step). All (TokenStands r (queue_of w.machine g)) d.lots) k.rest
      (subst (λ (j : ℕ). All (TokenStands d.rest (queue_of w.machine j)) d.lots) (sym own) (k.flat.bytes.tokens h.0 k.lt (ap (λ (i : DriverConfig). i.light) (sym k.fixed) ∙ ap (λ (e : DriverState). e.fixed.light) (sym here) ∙ light))) in
      subst (λ (e : DriverState). All (TokenStands e.rest (queue_of n g)) e.lots) (sym here)
      (subst (λ (lots : List Lot). All (TokenStands went.driver.rest (queue_of n g)) lots) (sym k.lots)
      (all_to (TokenStands (s ∷ went.driver.rest) (queue_of w.machine g)) (TokenStands went.driver.rest (queue_of n g)) d.lots was
      (λ lot is. token_on s went.driver.rest (queue_of w.machine g) (queue_of n g) lot k.none (tokens_on w.machine n h.0 g s lot.id k.moves) is)))
  | inr ne ↦
      let away = driver_away w h n went g ne in
      subst (λ (e : DriverState). All (TokenStands e.rest (queue_of n g)) e.lots) (sym away)
      (all_to (TokenStands (driver_of w g).rest (queue_of w.machine g)) (TokenStands (driver_of w g).rest (queue_of n g)) (driver_of w g).lots (k.flat.bytes.tokens g lt (ap (λ (e : DriverState). e.fixed.light) (sym away) ∙ light))
      (λ lot is. tokens_on w.machine n h.0 g s lot.id k.moves ∙ is))
]

-- ---- all bytes

pub step_stands : (sc : Scenario) (f : List ℕ) (w : WorldState) (h : HartNo) (n : MachineState) (went : Went) (s : Step) → IsMade sc f w h n went s → ((g : ℕ) → g < length sc.harts → CopyStands sc f (gone w h n went) g) → BytesStand sc f (gone w h n went)
step_stands sc f w h n went s k copies =
    let v = gone w h n went in
    let flat = k.flat in
    let lt = there sc f w h n went s k in
    let a = book_of w in
    let b = book_of v in
    let book = book_on sc f w h n went s k in
    let loans : (i : MapId) → b.loan i ≡ a.loan i = λ i. sym (book.loans i) in
    record {
      flat_size = flat.bytes.flat_size;
      drives = drives_set sc f w h n went flat k.lt k.drives;
      placed = λ x i less e. placed_by sc w v x i (inl (same_owner sc f w h n went s x k)) (loans i) (flat.bytes.placed x i less) e;
      pooled = λ x over. pooled_by sc w v x (inl (same_owner sc f w h n went s x k)) loans over (flat.bytes.pooled x over);
      slotted = λ x over. slotted_by sc w v x (inl (same_owner sc f w h n went s x k)) over (flat.bytes.slotted x over);
      rows = λ x less off.
          subst (λ (o : Owner). Row b o (byte f x) n x) (sym (same_owner sc f w h n went s x k))
          (row_on a b (owner_of w x) (byte f x) w.machine n h.0 s x flat.world.machine book k.none k.moves (λ i is own. untaken_at sc f w h.0 x i flat k.still less is own) (flat.bytes.rows x less off));
      calm = λ z on unseen. calm_on a w.machine n h.0 z s k.moves (flat.bytes.calm z on (unseen_before sc w v z loans (λ x. inl (same_owner sc f w h n went s x k)) unseen));
      queued = queued_to a b (owner_of w) (owner_of v) n (λ j i. dropped_on sc f w h n went s n.size j i k) (λ j i. zeroed_to a b (owner_of w) (owner_of v) n.size j i (allocates_on sc f w h n went s j k)) (queued_on a (owner_of w) w.machine n h.0 s k.moves flat.bytes.queued);
      unfenced = λ g. unfenced_on w.machine n h.0 g s k.moves (flat.bytes.unfenced g);
      uncached = λ x over. elim (flat.bytes.uncached x (subst (λ (p : Span). covers p x ≡ true) (pool_of w.machine n h.0 s k.moves) over)) [
        | inl none ↦ inl (unheld_on w.machine n h.0 x s k.moves none)
        | inr may ↦ inr (held_on sc f w h n went s x k may)
      ];
      lasts = lasts_on sc f w h n went s k;
      tokens = λ g less light. lots_tokens sc f w h n went s g k less light;
      copying = copies;
    }
