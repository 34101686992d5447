-- The bytes of flat memory behind a step of a driver that has no plan before it, nor behind it.
use Rattle.std.specs.Prelude.{Some, true, false, All}
use Rattle.std.specs.List.{list_any}
use Rattle.std.proofs.Common.{◌≡◌, ◌≢◌, ℕ, ◌<◌, List, [], length, refl, sym, ap, ◌∙◌, inl, inr, subst, arith}
use Rattle.std.proofs.lemmas.Bool.{cases_eq}
use Rattle.std.proofs.lemmas.List.{get_or-set_same, get_or-set_other}
use Rattle.nc_num.specs.Memory.{byte}
use Rattle.nc_num.specs.Places.{covers}
use Rattle.nc_num.specs.declared.names.HartNo.{HartNo}
use Rattle.nc_num.specs.declared.names.MapId.{MapId}
use Rattle.nc_num.specs.declared.places.Span.{Span}
use Rattle.nc_model.specs.declared.owners.Owner.{Owner}
use Rattle.nc_model.specs.declared.owners.Owner.TheVariants.{Pool}
use Rattle.nc_scen.specs.Regions.{pool_of, slots_of}
use Rattle.nc_scen.specs.declared.scenario.Scenario.{Scenario}
use Rattle.nc_rules.specs.declared.lots.Lot.{Lot}
use Rattle.nc_rules.specs.declared.steps.Phase.{Phase}
use Rattle.nc_rules.specs.Machine.{MachineState, queue_of}
use Rattle.nc_rules.specs.Lots.{DriverConfig}
use Rattle.nc_rules.specs.Driver.{DriverState, Went}
use Rattle.nc_rules.specs.EventTouches.{owner_of}
use Rattle.nc_rules.specs.World.{WorldState, driver_of, no_driver, owners_moved}
use Rattle.nc_holds.specs.Rests.{RestAt}
use Rattle.nc_rows.specs.Ahead.{is_full}
use Rattle.nc_rows.specs.Places.{CalmRow}
use Rattle.nc_rows.specs.Rows.{Book, Row}
use Rattle.nc_rows.specs.Parts.{Queued, Uncached, Lasts}
use Rattle.nc_flatness.specs.Books.{loan_of, number_in, book_of, mapping_in, LiesIn, IsPooled}
use Rattle.nc_flatness.specs.Copying.{IsItsOwn, CopyStands}
use Rattle.nc_flatness.specs.Flatness.{StandsAt, Drives, IsUnseen, BytesStand, Flatness}
use Rattle.nc_flatness.specs.Plans.{IsStill}
use Rattle.nc_flatness.specs.Tokens.{TokenStands}
use Rattle.nc_flatness.proofs.worlds.Outcomes.{ran, gone}
use Rattle.nc_flat_scripts.proofs.copies.OtherCopies.{steps_copy_none, none_stands, same_keeps, copy_kept}
use Rattle.nc_flat_scripts.proofs.steps.ScriptCalls.{Idles, GoesIdle, IsIdle}

-- ---- the drivers behind

pub driver_here : (w : WorldState) (h : HartNo) (n : MachineState) (went : Went) (g : ℕ) → h.0 < length w.drivers → g ≡ h.0 → driver_of (gone w h n went) g ≡ went.driver
driver_here w h n went g lt e = ap (driver_of (gone w h n went)) e ∙ get_or-set_same w.drivers h.0 went.driver no_driver lt

pub driver_away : (w : WorldState) (h : HartNo) (n : MachineState) (went : Went) (g : ℕ) → g ≢ h.0 → driver_of (gone w h n went) g ≡ driver_of w g
driver_away w h n went g ne = get_or-set_other w.drivers h.0 g went.driver no_driver ne

-- what books read of a driver is the same
pub record ReadsSame (d e : DriverState) : Type 0 where
  pub fixed : e.fixed ≡ d.fixed
  pub lots : e.lots ≡ d.lots
  pub rest : e.rest ≡ d.rest

same_reads : (d e : DriverState) → e ≡ d → ReadsSame d e
same_reads d e is = record { fixed = ap (λ (k : DriverState). k.fixed) is; lots = ap (λ (k : DriverState). k.lots) is; rest = ap (λ (k : DriverState). k.rest) is }

pub book_same : (w v : WorldState) → ((k : ℕ) → ReadsSame (driver_of w k) (driver_of v k)) → book_of v ≡ book_of w
book_same w v same =
    let loans : (n : MapId) → loan_of (driver_of v n.hart.0) n ≡ loan_of (driver_of w n.hart.0) n = λ n.
    let s = same n.hart.0 in
    ap (λ (f : DriverConfig). loan_of (record (driver_of v n.hart.0) { fixed = f }) n) s.fixed ∙ ap (λ (lots : List Lot). loan_of (record (driver_of w n.hart.0) { lots = lots }) n) s.lots in
    let rests : (k : ℕ) → (driver_of v k).rest ≡ (driver_of w k).rest = λ k. (same k).rest in
    let fixed : (driver_of v 0).fixed ≡ (driver_of w 0).fixed = (same 0).fixed in
    λ i. record { loan = λ n. loans n i; rest = λ k. rests k i; buffer = number_in (fixed i).buffers }

-- ---- a driver without a plan

pub idle_drives : (d e : DriverState) → Drives d → All (IsStill d.fixed) d.lots → Idles d e → Drives e
idle_drives d e is still idle = record {
  lots = rw idle.lots is.lots;
  stands = subst (λ (p : Phase). StandsAt e p) (sym idle.phase) (rw (idle.fixed, idle.lots) still);
  idle = subst (λ (p : Phase). RestAt p e.rest) (sym idle.phase) idle.rest;
}

pub drives_set : (sc : Scenario) (f : List ℕ) (w : WorldState) (h : HartNo) (n : MachineState) (went : Went) → Flatness sc f w → h.0 < length sc.harts → Drives went.driver → (k : ℕ) → k < length sc.harts → Drives (driver_of (gone w h n went) k)
drives_set sc f w h n went flat lt is k short = elim (cases_eq k h.0) [
  | inl e ↦ subst Drives (sym (driver_here w h n went k (omega (arith, flat.world.holds.drivers, flat.world.of_scenario.harts, lt)) e)) is
  | inr ne ↦ subst Drives (sym (driver_away w h n went k ne)) (flat.bytes.drives k short)
]

idle_reads : (sc : Scenario) (f : List ℕ) (w : WorldState) (h : HartNo) (n : MachineState) (went : Went) → Flatness sc f w → h.0 < length sc.harts → IsIdle (driver_of w h.0) → Idles (driver_of w h.0) went.driver
    → (k : ℕ) → ReadsSame (driver_of w k) (driver_of (gone w h n went) k)
idle_reads sc f w h n went flat lt was idle k = elim (cases_eq k h.0) [
  | inl e ↦
      let here = driver_here w h n went k (omega (arith, flat.world.holds.drivers, flat.world.of_scenario.harts, lt)) e in
      let before : driver_of w k ≡ driver_of w h.0 = ap (driver_of w) e in
      record {
        fixed = ap (λ (d : DriverState). d.fixed) here ∙ idle.fixed ∙ ap (λ (d : DriverState). d.fixed) (sym before);
        lots = ap (λ (d : DriverState). d.lots) here ∙ idle.lots ∙ ap (λ (d : DriverState). d.lots) (sym before);
        rest = ap (λ (d : DriverState). d.rest) here ∙ idle.rest ∙ sym was.rest ∙ ap (λ (d : DriverState). d.rest) (sym before);
      }
  | inr ne ↦ same_reads (driver_of w k) (driver_of (gone w h n went) k) (driver_away w h n went k ne)
]

pub idle_book : (sc : Scenario) (f : List ℕ) (w : WorldState) (h : HartNo) (n : MachineState) (went : Went) → Flatness sc f w → h.0 < length sc.harts → IsIdle (driver_of w h.0) → Idles (driver_of w h.0) went.driver → book_of (gone w h n went) ≡ book_of w
idle_book sc f w h n went flat lt was idle = book_same w (gone w h n went) (idle_reads sc f w h n went flat lt was idle)

tokens_read : (n : MachineState) (d e : DriverState) (h : ℕ) → ReadsSame d e → (d.fixed.light ≡ true → All (TokenStands d.rest (queue_of n h)) d.lots) → e.fixed.light ≡ true → All (TokenStands e.rest (queue_of n h)) e.lots
tokens_read n d e h same tokens light = rw (same.lots, same.rest) (tokens (ap (λ (f : DriverConfig). f.light) (sym same.fixed) ∙ light))

-- ---- owners stay

-- flat memory g stands in machine n, where the drivers and the owners are those of w
pub record StandsIn (sc : Scenario) (g : List ℕ) (w : WorldState) (n : MachineState) : Type 0 where
  pub flat_size : length g ≡ sc.ram
  pub rows : (x : ℕ) → x < sc.ram → covers (slots_of sc) x ≡ false → Row (book_of w) (owner_of w x) (byte g x) n x
  pub calm : (z : ℕ) → covers (slots_of sc) z ≡ true → IsUnseen (book_of w) (owner_of w) (slots_of sc) z → CalmRow n z
  pub queued : Queued (book_of w) (owner_of w) n
  pub uncached : Uncached (book_of w) (owner_of w) n
  pub unfenced : (g : ℕ) → list_any is_full (queue_of n g) ≡ false
  pub tokens : (h : ℕ) → h < length sc.harts → (driver_of w h).fixed.light ≡ true → All (TokenStands (driver_of w h).rest (queue_of n h)) (driver_of w h).lots
  pub lasts : Lasts (book_of w) g n
  pub copying : (h : ℕ) → h < length sc.harts → CopyStands sc g (ran w n) h

abbrev pub put : WorldState → List Owner → WorldState
put w os = record w { owners = os }

swap : (P : Book → (ℕ → Owner) → Type 0) (a b : Book) (o q : ℕ → Owner) → b ≡ a → q ≡ o → P a o → P b q
swap P a b o q book same p = subst (λ (k : Book). P k q) (sym book) (subst (λ (k : ℕ → Owner). P a k) (sym same) p)

-- the copies of other harts
idle_copies : (sc : Scenario) (f g : List ℕ) (w : WorldState) (h : HartNo) (n : MachineState) (went : Went) → Flatness sc f w → h.0 < length sc.harts → Idles (driver_of w h.0) went.driver → owner_of (gone w h n went) ≡ owner_of w
    → ((k : ℕ) → k < length sc.harts → CopyStands sc g (ran w n) k) → (k : ℕ) → k < length sc.harts → CopyStands sc g (gone w h n went) k
idle_copies sc f g w h n went flat lt idle owners copying k few =
    let v = gone w h n went in
    elim (cases_eq k h.0) [
      | inl e ↦
          let here = driver_here w h n went k (omega (arith, flat.world.holds.drivers, flat.world.of_scenario.harts, lt)) e in
          none_stands sc g v k (steps_copy_none (driver_of v k) idle.count (ap (λ (d : DriverState). d.phase) here ∙ idle.phase))
      | inr ne ↦
          copy_kept sc g g (ran w n) v k (driver_away w h n went k ne) (same_keeps n k)
          (record { owned = λ x own. subst (λ (o : ℕ → Owner). IsItsOwn k (o x)) (sym owners) own; bytes = λ x own. refl }) (copying k few)
    ]

pub idle_stands : (sc : Scenario) (f g : List ℕ) (w : WorldState) (h : HartNo) (n : MachineState) (went : Went) → Flatness sc f w → h.0 < length sc.harts → IsIdle (driver_of w h.0) → GoesIdle (driver_of w h.0) went [] → StandsIn sc g w n
    → BytesStand sc g (gone w h n went)
idle_stands sc f g w h n went flat lt was idle is =
    let v = gone w h n went in
    let book : book_of v ≡ book_of w = idle_book sc f w h n went flat lt was idle.driver in
    let owners : v.owners ≡ w.owners = ap (λ (ts : List (Span × Owner)). owners_moved w.owners ts) idle.transfers in
    let same : owner_of v ≡ owner_of w = ap (λ (os : List Owner). owner_of (put w os)) owners in
    let reads = idle_reads sc f w h n went flat lt was idle.driver in
    let drives = drives_set sc f w h n went flat lt (idle_drives (driver_of w h.0) went.driver (flat.bytes.drives h.0 lt) was.still idle.driver) in
    record {
      flat_size = is.flat_size;
      drives = drives;
      placed = swap (λ (a : Book) (o : ℕ → Owner). (x : ℕ) (k : MapId) → x < sc.ram → mapping_in (o x) ≡ Some k → LiesIn (a.loan k) x) (book_of w) (book_of v) (owner_of w) (owner_of v) book same flat.bytes.placed;
      pooled = swap (λ (a : Book) (o : ℕ → Owner). (x : ℕ) → covers (pool_of sc) x ≡ true → IsPooled a (o x) x) (book_of w) (book_of v) (owner_of w) (owner_of v) book same flat.bytes.pooled;
      slotted = swap (λ (a : Book) (o : ℕ → Owner). (x : ℕ) → covers (slots_of sc) x ≡ true → o x ≡ Pool) (book_of w) (book_of v) (owner_of w) (owner_of v) book same flat.bytes.slotted;
      rows = swap (λ (a : Book) (o : ℕ → Owner). (x : ℕ) → x < sc.ram → covers (slots_of sc) x ≡ false → Row a (o x) (byte g x) n x) (book_of w) (book_of v) (owner_of w) (owner_of v) book same is.rows;
      calm = swap (λ (a : Book) (o : ℕ → Owner). (z : ℕ) → covers (slots_of sc) z ≡ true → IsUnseen a o (slots_of sc) z → CalmRow n z) (book_of w) (book_of v) (owner_of w) (owner_of v) book same is.calm;
      queued = swap (λ (a : Book) (o : ℕ → Owner). Queued a o n) (book_of w) (book_of v) (owner_of w) (owner_of v) book same is.queued;
      uncached = swap (λ (a : Book) (o : ℕ → Owner). Uncached a o n) (book_of w) (book_of v) (owner_of w) (owner_of v) book same is.uncached;
      unfenced = is.unfenced;
      tokens = λ k few. tokens_read n (driver_of w k) (driver_of v k) k (reads k) (is.tokens k few);
      lasts = subst (λ (a : Book). Lasts a g n) (sym book) is.lasts;
      copying = idle_copies sc f g w h n went flat lt idle.driver same is.copying;
    }
