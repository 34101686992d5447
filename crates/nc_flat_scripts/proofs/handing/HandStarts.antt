-- The start of a hand, as an event: it is refused, or the buffer is passed on.
use Rattle.std.specs.Prelude.{Some, None, Ok, true, false, All}
use Rattle.std.proofs.Common.{◌≡◌, ◌≢◌, ℕ, ◌<◌, List, [], length, refl, sym, ap, ◌∙◌, inl, inr, subst, arith}
use Rattle.std.proofs.lemmas.Bool.{cases_Bool}
use Rattle.nc_num.specs.Memory.{byte}
use Rattle.nc_num.specs.Places.{covers}
use Rattle.nc_num.specs.declared.names.HartNo.{HartNo}
use Rattle.nc_num.specs.declared.places.Span.{Span}
use Rattle.nc_model.proofs.Faults.{covers-high}
use Rattle.nc_model.specs.declared.owners.Owner.{Owner}
use Rattle.nc_model.specs.declared.owners.Owner.TheVariants.{Thread, Passing, Pool}
use Rattle.nc_own.specs.Books.{owner_in, transferred}
use Rattle.nc_ops.specs.declared.ops.Op.TheVariants as ops
use Rattle.nc_scen.specs.declared.events.Event.TheVariants as events
use Rattle.nc_scen.specs.Regions.{slots_of}
use Rattle.nc_scen.specs.declared.scenario.Scenario.{Scenario}
use Rattle.nc_rules.specs.declared.steps.Next.TheVariants as nexts
use Rattle.nc_rules.specs.declared.steps.Phase.{Phase}
use Rattle.nc_rules.specs.declared.steps.Phase.TheVariants.{Steps}
use Rattle.nc_rules.specs.declared.steps.Step.{Step}
use Rattle.nc_rules.specs.Driver.{DriverState, Went, in_hand, next_of, started}
use Rattle.nc_rules.specs.Handing.{hand_steps}
use Rattle.nc_rules.specs.Refusals.{owned}
use Rattle.nc_rules.specs.EventTouches.{owner_of}
use Rattle.nc_rules.specs.World.{WorldState, driver_of, owners_moved}
use Rattle.nc_calls.proofs.SoundWith.{shape_same}
use Rattle.nc_scripts.specs.Drivers as drivers
use Rattle.nc_scripts.specs.Drivers.{IsSettled}
use Rattle.nc_scripts.proofs.EveryDriver.{in_hand_is}
use Rattle.nc_rows.specs.Ahead.{sending}
use Rattle.nc_rows.specs.Places.{ThreadRow}
use Rattle.nc_rows.specs.Parts.{rest_last}
use Rattle.nc_rows.specs.Rows.{gives_here, PassingRow, Row}
use Rattle.nc_row_plans.proofs.PlanBegins.{rows_begin}
use Rattle.nc_flatness.specs.Books.{book_of, mapping_in}
use Rattle.nc_flatness.specs.Copying.{IsItsOwn}
use Rattle.nc_flatness.specs.Flatness.{Flatness}
use Rattle.nc_flatness.specs.Steps.{GoesTo, Goes}
use Rattle.nc_flatness.proofs.books.BookReads.{buffer_gone, rest_here}
use Rattle.nc_flatness.proofs.worlds.Outcomes.{gone, goes_go, goes_silent}
use Rattle.nc_flatness.proofs.books.Owned.{me_is}
use Rattle.nc_flat_scripts.proofs.accesses.ActRows.{stands_now}
use Rattle.nc_flat_scripts.proofs.handing.BufferOwners.{moved_in, moved_out, owned_is, range_of, ranges_alike, number_here, number_away, range_in, off_pool, off_slots, unsent}
use Rattle.nc_flat_scripts.proofs.handing.HandCalls.{hands_drives, Starts, Refuses, Begins, hand_starts}
use Rattle.nc_flat_scripts.proofs.handing.MailFacts.{trace_none, sends_other, sends_none, bare_comes, marker_comes, mail_comes}
use Rattle.nc_flat_scripts.proofs.copies.OtherCopies.{hand_copies_none, same_keeps}
use Rattle.nc_flat_scripts.proofs.handing.PassingFrames.{row_over, PassedIn, stands_passed}
use Rattle.nc_flat_scripts.proofs.handing.PassingParts.{Passes, there}
use Rattle.nc_flat_scripts.proofs.steps.ScriptCalls.{IsIdle}
use Rattle.nc_flat_scripts.proofs.accesses.ScriptEvents.{IsHere, idle_by, outcome_is, start_is, quiet_go}
use Rattle.nc_flat_scripts.proofs.steps.StillLots.{EndsNone, none_ends}

-- the hart's buffer is passed on with this call
pub record IsBegun (sc : Scenario) (f : List ℕ) (w : WorldState) (h : HartNo) (went : Went) (buf : ℕ) (to : HartNo) : Type 0 where
  pub passes : Passes sc f w h went
  pub there : h.0 < length w.machine.harts
  pub few : buf < length (driver_of w h.0).fixed.buffers
  pub own : owned h w.owners (range_of w h.0 buf) ≡ Ok tt
  pub before : (driver_of w h.0).rest ≡ []
  pub rest : went.driver.rest ≡ hand_steps buf to
  pub owners : owners_moved w.owners went.moves.transfers ≡ transferred w.owners (range_of w h.0 buf) (Passing h to)

pub in_owners : (sc : Scenario) (f : List ℕ) (w : WorldState) (h b x : ℕ) → Flatness sc f w → h < length w.machine.harts → b < length (driver_of w h).fixed.buffers → covers (range_of w h b) x ≡ true → x < length w.owners
in_owners sc f w h b x flat lt few over = omega (arith, covers-high (range_of w h b) x over, (range_in sc f w h b flat lt few).ends, flat.world.holds.owners)

now_passing : (sc : Scenario) (f : List ℕ) (w : WorldState) (h : HartNo) (went : Went) (buf x : ℕ) (to : HartNo) → IsBegun sc f w h went buf to → covers (range_of w h.0 buf) x ≡ true → owner_of (gone w h w.machine went) x ≡ Passing h to
now_passing sc f w h went buf x to b over =
    ap (λ (os : List Owner). owner_in os x) b.owners ∙ moved_in w.owners (range_of w h.0 buf) (Passing h to) x (in_owners sc f w h.0 buf x b.passes.flat b.there b.few over) over

still_there : (sc : Scenario) (f : List ℕ) (w : WorldState) (h : HartNo) (went : Went) (buf x : ℕ) (to : HartNo) → IsBegun sc f w h went buf to → covers (range_of w h.0 buf) x ≡ false → owner_of (gone w h w.machine went) x ≡ owner_of w x
still_there sc f w h went buf x to b off = ap (λ (os : List Owner). owner_in os x) b.owners ∙ moved_out w.owners (range_of w h.0 buf) (Passing h to) x off

-- a place of the buffer
begun_row : (sc : Scenario) (f : List ℕ) (w : WorldState) (h : HartNo) (went : Went) (buf x : ℕ) (to : HartNo) → IsBegun sc f w h went buf to → x < sc.ram → covers (slots_of sc) x ≡ false → covers (range_of w h.0 buf) x ≡ true → Row (book_of (gone w h w.machine went)) (Passing h to) (byte f x) w.machine x
begun_row sc f w h went buf x to b lt beside over =
    let p = b.passes in
    let flat = p.flat in
    let m = w.machine in
    let v = byte f x in
    let k = book_of (gone w h m went) in
    let own : owner_of w x ≡ Thread h = owned_is h w.owners (range_of w h.0 buf) x b.own over in
    let row : ThreadRow h.0 v m x = subst (λ (o : Owner). Row (book_of w) o v m x) own (flat.bytes.rows x lt beside) in
    let first : covers (range_of w 0 buf) x ≡ true = subst (λ (s : Span). covers s x ≡ true) (sym (ranges_alike sc f w h.0 buf flat b.there)) over in
    let boxes : buf < length m.boxes = omega (arith, b.few, (flat.world.holds.each h.0 b.there).setting.boxes) in
    let none = unsent w buf h.0 x h (flat.world.holds.messages buf boxes) first own in
    let rest : k.rest h.0 ≡ hand_steps buf to = rest_here w h m went (there sc f w h went p) ∙ b.rest in
    let buffer : k.buffer x ≡ buf = ap (λ (n : ℕ → ℕ). n x) (buffer_gone w h m went (there sc f w h went p) p.fixed) ∙ number_here sc f w h.0 buf x flat b.there b.few over in
    let passing : PassingRow h.0 v buf (hand_steps buf to) m x = rows_begin.pass m h.0 v buf x (hand_steps buf to) none (bare_comes buf to (gives_here m x) refl refl) (marker_comes buf to) (mail_comes buf to) row in
    subst (λ (c : ℕ). PassingRow h.0 v c (k.rest h.0) m x) (sym buffer) (subst (λ (r : List Step). PassingRow h.0 v buf r m x) (sym rest) passing)

other_row : (sc : Scenario) (f : List ℕ) (w : WorldState) (h : HartNo) (went : Went) (buf x : ℕ) (to : HartNo) → IsBegun sc f w h went buf to → x < sc.ram → covers (slots_of sc) x ≡ false → covers (range_of w h.0 buf) x ≡ false → Row (book_of (gone w h w.machine went)) (owner_of w x) (byte f x) w.machine x
other_row sc f w h went buf x to b lt beside off =
    let p = b.passes in
    let c = (book_of w).buffer x in
    let ne : c ≢ buf = number_away sc f w h.0 buf x p.flat b.there b.few off in
    row_over sc f w h w.machine w.machine went (owner_of w x) (byte f x) x p lt refl
    (λ j g is own. ap (sending c) b.rest ∙ sends_other c buf to ne ∙ sym (sends_none c) ∙ ap (sending c) (sym b.before)) (p.flat.bytes.rows x lt beside)

begun_owned : (sc : Scenario) (f : List ℕ) (w : WorldState) (h : HartNo) (went : Went) (buf : ℕ) (to : HartNo) (k x : ℕ) → IsBegun sc f w h went buf to → k ≢ h.0 → IsItsOwn k (owner_of w x) → IsItsOwn k (owner_of (gone w h w.machine went) x)
begun_owned sc f w h went buf to k x b ne own = elim (cases_Bool (covers (range_of w h.0 buf) x)) [
  | inl over ↦ absurd (ne (sym (subst (IsItsOwn k) (owned_is h w.owners (range_of w h.0 buf) x b.own over) own)))
  | inr off ↦ subst (IsItsOwn k) (sym (still_there sc f w h went buf x to b off)) own
]

begun_stands : (sc : Scenario) (f : List ℕ) (w : WorldState) (h : HartNo) (went : Went) (buf : ℕ) (to : HartNo) → IsBegun sc f w h went buf to → PassedIn sc f w h w.machine went
begun_stands sc f w h went buf to b =
    let flat = b.passes.flat in
    let v = gone w h w.machine went in
    record {
      shape = shape_same w.machine;
      held = λ x none. none;
      queued = flat.bytes.queued;
      unfenced = flat.bytes.unfenced;
      tokens = λ g id. refl;
      owners = λ x. elim (cases_Bool (covers (range_of w h.0 buf) x)) [
        | inl over ↦
            let own : owner_of w x ≡ Thread h = owned_is h w.owners (range_of w h.0 buf) x b.own over in
            inr (record {
              before = ap mapping_in own;
              behind = ap mapping_in (now_passing sc f w h went buf x to b over);
              unpooled = off_pool sc f w h.0 buf x flat b.there over;
              unslotted = off_slots sc f w x flat (λ pool. let no : Thread h ≡ Pool = sym own ∙ pool in absurd cc);
            })
        | inr off ↦ inl (still_there sc f w h went buf x to b off)
      ];
      rows = λ x lt beside. elim (cases_Bool (covers (range_of w h.0 buf) x)) [
        | inl over ↦ subst (λ (o : Owner). Row (book_of v) o (byte f x) w.machine x) (sym (now_passing sc f w h went buf x to b over)) (begun_row sc f w h went buf x to b lt beside over)
        | inr off ↦ subst (λ (o : Owner). Row (book_of v) o (byte f x) w.machine x) (sym (still_there sc f w h went buf x to b off)) (other_row sc f w h went buf x to b lt beside off)
      ];
      calm = λ z on calm. calm;
      lasts = λ k. refl;
      keeps = λ k ne. same_keeps w.machine k;
      owned = λ k x ne own. begun_owned sc f w h went buf to k x b ne own;
    }

-- ---- the event

settled_at : (d : DriverState) (p : Phase) (n : ℕ) → p ≡ Steps n → drivers.IsPhase d p → All IsSettled d.lots
settled_at d p n is phase = (subst (λ (k : Phase). drivers.IsPhase d k) is phase).settled

start_by : (sc : Scenario) (f : List ℕ) (w : WorldState) (h : HartNo) (buf : ℕ) (to : HartNo) (went : Went) → IsHere sc f w h → in_hand (driver_of w h.0) ≡ Some (ops.Hand buf to) → IsIdle (driver_of w h.0) → Starts (driver_of w h.0) w.owners buf to went
    → GoesTo sc f [] (gone w h w.machine went)
start_by sc f w h buf to went here hand idle (Refuses goes) = quiet_go sc f w h w.machine went here idle goes (stands_now sc f w here.now.flat)
start_by sc f w h buf to went here hand idle (Begins own goes) =
    let d = driver_of w h.0 in
    let flat = here.now.flat in
    let holds = flat.world.holds.each h.0 here.there in
    let me : d.fixed.me ≡ h = me_is w h.0 flat.world.holds here.there in
    let begun : IsBegun sc f w h went buf to = record {
      passes = record {
        flat = flat;
        lt = here.lt;
        still = idle.still;
        fixed = goes.driver.fixed;
        lots = goes.driver.lots;
        was = none_ends d.rest idle.rest;
        left = subst EndsNone (sym goes.driver.rest) (trace_none buf to);
        unstored = ap rest_last goes.driver.rest;
        drives = hands_drives d went.driver buf to (hand_steps buf to) (flat.bytes.drives h.0 here.lt) idle.still goes.driver (inl refl);
        uncopied = hand_copies_none went.driver buf to goes.driver.hand;
      };
      there = here.there;
      few = (in_hand_is (length w.machine.cache.ram) (length w.machine.harts) d (ops.Hand buf to) holds.driver.fixed hand).fits.0;
      own = subst (λ (g : HartNo). owned g w.owners (range_of w h.0 buf) ≡ Ok tt) me own;
      before = idle.rest;
      rest = goes.driver.rest;
      owners = ap (owners_moved w.owners) goes.transfers ∙ ap (λ (g : HartNo). transferred w.owners (range_of w h.0 buf) (Passing g to)) me;
    } in
    goes_silent sc f [] (gone w h w.machine went) refl (stands_passed sc f w h w.machine went begun.passes (begun_stands sc f w h went buf to begun))

pub hand_goes : (sc : Scenario) (f : List ℕ) (w : WorldState) (h : HartNo) (buf n : ℕ) (to : HartNo) → IsHere sc f w h → in_hand (driver_of w h.0) ≡ Some (ops.Hand buf to) → (driver_of w h.0).phase ≡ Steps n → next_of (driver_of w h.0) ≡ nexts.Start → Goes sc f w (events.Issue h)
hand_goes sc f w h buf n to here hand phase nx =
    let d = driver_of w h.0 in
    let idle = idle_by sc f w h n here phase in
    let went = started d w.owners w.pages in
    let settled = settled_at d d.phase n phase (here.now.flat.world.holds.each h.0 here.there).driver.phase in
    goes_go sc f w (events.Issue h) h w.machine went w.slots None [] here.now.may (outcome_is w h nexts.Start nx ∙ start_is w h)
    (λ none. start_by sc f w h buf to went here hand idle (hand_starts d w.owners w.pages buf to settled idle.still hand))
