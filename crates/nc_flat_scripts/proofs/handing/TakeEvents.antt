-- A hart takes a buffer that was passed to it, as an event.
use Rattle.std.specs.Prelude.{Some, None, Ok, true, false, not, filter, slice_index_or}
use Rattle.std.specs.List.{list_any}
use Rattle.std.proofs.Common.{◌≡◌, ℕ, ◌<◌, List, [], length, refl, sym, ap, ◌∙◌, inl, inr, subst, arith}
use Rattle.std.proofs.lemmas.Bool.{and_parts, cases_Bool}
use Rattle.nc_num.specs.Memory.{byte}
use Rattle.nc_num.specs.Places.{covers}
use Rattle.nc_num.specs.declared.names.HartNo.{HartNo}
use Rattle.nc_num.specs.declared.places.Span.{Span}
use Rattle.nc_queue.specs.declared.entry.Entry.{Entry}
use Rattle.nc_lines.specs.Lines.{line}
use Rattle.nc_hart.specs.HartState.{HartState}
use Rattle.nc_model.specs.declared.owners.Owner.{Owner}
use Rattle.nc_model.specs.declared.owners.Owner.TheVariants.{Thread, Passing, Pool}
use Rattle.nc_own.specs.Books.{owner_in, transferred}
use Rattle.nc_ops.specs.declared.ops.Op.TheVariants as ops
use Rattle.nc_scen.specs.declared.events.Event.TheVariants as events
use Rattle.nc_scen.specs.Regions.{slots_of}
use Rattle.nc_scen.specs.declared.scenario.Scenario.{Scenario}
use Rattle.nc_rules.specs.declared.steps.Next.TheVariants as nexts
use Rattle.nc_rules.specs.declared.steps.Phase.TheVariants.{Steps}
use Rattle.nc_rules.specs.declared.steps.Seen.TheVariants as seen
use Rattle.nc_rules.specs.Machine.{MachineState, no_hart, queue_of, box_of}
use Rattle.nc_rules.specs.Calls.{io_waits, may_take, take_next}
use Rattle.nc_rules.specs.Driver.{Went, in_hand, next_of, done}
use Rattle.nc_rules.specs.Handing.{take_step}
use Rattle.nc_rules.specs.Operations.{step_at}
use Rattle.nc_rules.specs.Outcomes.{goes, take_outcome, step_outcome}
use Rattle.nc_rules.specs.EventTouches.{owner_of}
use Rattle.nc_rules.specs.World.{WorldState, driver_of, owners_moved}
use Rattle.nc_calls.specs.MachineLaws.{SameShape}
use Rattle.nc_calls.specs.PlaceLaws.{Stays}
use Rattle.nc_calls.proofs.CallProofs.{channels_by_place}
use Rattle.nc_calls.proofs.SoundLaws.{calls_keep_shape}
use Rattle.nc_scripts.proofs.EveryDriver.{in_hand_is}
use Rattle.nc_holds.proofs.messages.GoesOn.{for_hart}
use Rattle.nc_holds.proofs.messages.Status.{IsGiven, given_from}
use Rattle.nc_rows.specs.Ahead.{is_mail, sending}
use Rattle.nc_rows.specs.Places.{ThreadRow}
use Rattle.nc_rows.specs.Parts.{rest_last}
use Rattle.nc_rows.specs.Rows.{PassingRow, Row}
use Rattle.nc_row_plans.proofs.PlanBegins.{rows_begin}
use Rattle.nc_flatness.specs.Books.{book_of, mapping_in}
use Rattle.nc_flatness.specs.Copying.{IsItsOwn}
use Rattle.nc_flatness.specs.Steps.{Goes}
use Rattle.nc_flatness.specs.Tokens.{is_lot_token}
use Rattle.nc_flatness.proofs.worlds.Outcomes.{gone, goes_go, goes_silent}
use Rattle.nc_flatness.proofs.books.Owned.{me_is}
use Rattle.nc_flat_scripts.proofs.accesses.ActRows.{calm_at, stays_row, stays_stand}
use Rattle.nc_flat_scripts.proofs.handing.BufferOwners.{moved_in, moved_out, range_of, ranges_alike, number_here, off_pool, off_slots}
use Rattle.nc_flat_scripts.proofs.handing.HandStarts.{in_owners}
use Rattle.nc_flat_scripts.proofs.handing.MailFacts.{none_in_line}
use Rattle.nc_flat_scripts.proofs.copies.OtherCopies.{steps_copy_none, KeepsCopy, take_keeps}
use Rattle.nc_flat_scripts.proofs.handing.PassingFrames.{row_over, PassedIn, stands_passed}
use Rattle.nc_flat_scripts.proofs.handing.PassingParts.{Passes}
use Rattle.nc_flat_scripts.proofs.steps.ScriptCalls.{done_takes}
use Rattle.nc_flat_scripts.proofs.accesses.ScriptEvents.{IsHere, idle_by, may_next, outcome_is}
use Rattle.nc_flat_scripts.proofs.steps.StepFrames.{StandsIn, idle_drives}
use Rattle.nc_flat_scripts.proofs.steps.StillLots.{none_ends}

-- the buffer that waits for the hart is taken with this call
pub record IsTaken (sc : Scenario) (f : List ℕ) (w : WorldState) (h : HartNo) (went : Went) (buf : ℕ) : Type 0 where
  pub passes : Passes sc f w h went
  pub there : h.0 < length w.machine.harts
  pub few : buf < length (driver_of w h.0).fixed.buffers
  pub given : IsGiven w buf h
  pub before : (driver_of w h.0).rest ≡ []
  pub rest : went.driver.rest ≡ []
  pub owners : owners_moved w.owners went.moves.transfers ≡ transferred w.owners (range_of w h.0 buf) (Thread h)

taken_now : (sc : Scenario) (f : List ℕ) (w : WorldState) (h : HartNo) (went : Went) (n : MachineState) (buf x : ℕ) → IsTaken sc f w h went buf → covers (range_of w h.0 buf) x ≡ true → owner_of (gone w h n went) x ≡ Thread h
taken_now sc f w h went n buf x t over =
    ap (λ (os : List Owner). owner_in os x) t.owners ∙ moved_in w.owners (range_of w h.0 buf) (Thread h) x (in_owners sc f w h.0 buf x t.passes.flat t.there t.few over) over

still_there : (sc : Scenario) (f : List ℕ) (w : WorldState) (h : HartNo) (went : Went) (n : MachineState) (buf x : ℕ) → IsTaken sc f w h went buf → covers (range_of w h.0 buf) x ≡ false → owner_of (gone w h n went) x ≡ owner_of w x
still_there sc f w h went n buf x t off = ap (λ (os : List Owner). owner_in os x) t.owners ∙ moved_out w.owners (range_of w h.0 buf) (Thread h) x off

was_passing : (sc : Scenario) (f : List ℕ) (w : WorldState) (h : HartNo) (went : Went) (buf x : ℕ) → (t : IsTaken sc f w h went buf) → covers (range_of w h.0 buf) x ≡ true → owner_of w x ≡ Passing t.given.from h
was_passing sc f w h went buf x t over = t.given.owners x (subst (λ (s : Span). covers s x ≡ true) (sym (ranges_alike sc f w h.0 buf t.passes.flat t.there)) over)

-- a place of the buffer
taken_row : (sc : Scenario) (f : List ℕ) (w : WorldState) (h : HartNo) (went : Went) (n : MachineState) (buf x : ℕ) → IsTaken sc f w h went buf → Stays w.machine n → StandsIn sc f w n → x < sc.ram → covers (slots_of sc) x ≡ false → covers (range_of w h.0 buf) x ≡ true → ThreadRow h.0 (byte f x) n x
taken_row sc f w h went n buf x t stays is lt beside over =
    let from = t.given.from in
    let b = (book_of w).buffer x in
    let rest = (book_of w).rest from.0 in
    let row : PassingRow from.0 (byte f x) b rest n x = subst (λ (o : Owner). Row (book_of w) o (byte f x) n x) (was_passing sc f w h went buf x t over) (is.rows x lt beside) in
    let number : b ≡ buf = number_here sc f w h.0 buf x t.passes.flat t.there t.few over in
    let none : list_any (is_mail buf) (line (queue_of n from.0) (sending buf rest)) ≡ false =
    subst (λ (q : List Entry). list_any (is_mail buf) (line q (sending buf rest)) ≡ false) (sym (stays.queues from.0)) (none_in_line buf (queue_of w.machine from.0) rest (t.given.quiet from.0)) in
    rows_begin.take n from.0 h.0 (byte f x) b x rest (subst (λ (c : ℕ). list_any (is_mail c) (line (queue_of n from.0) (sending c rest)) ≡ false) (sym number) none) row

taken_owned : (sc : Scenario) (f : List ℕ) (w : WorldState) (h : HartNo) (went : Went) (n : MachineState) (buf k x : ℕ) → IsTaken sc f w h went buf → IsItsOwn k (owner_of w x) → IsItsOwn k (owner_of (gone w h n went) x)
taken_owned sc f w h went n buf k x t own = elim (cases_Bool (covers (range_of w h.0 buf) x)) [
  | inl over ↦ absurd (subst (IsItsOwn k) (was_passing sc f w h went buf x t over) own)
  | inr off ↦ subst (IsItsOwn k) (sym (still_there sc f w h went n buf x t off)) own
]

taken_stands : (sc : Scenario) (f : List ℕ) (w : WorldState) (h : HartNo) (went : Went) (n : MachineState) (buf : ℕ) → IsTaken sc f w h went buf → SameShape w.machine n → Stays w.machine n → ((k : ℕ) → KeepsCopy w.machine n k) → PassedIn sc f w h n went
taken_stands sc f w h went n buf t shape stays keeps =
    let p = t.passes in
    let flat = p.flat in
    let v = gone w h n went in
    let is = stays_stand sc f w n flat shape stays keeps in
    record {
      shape = shape;
      held = λ x none. (stays.places x).line ∙ none;
      queued = is.queued;
      unfenced = is.unfenced;
      tokens = λ g id. ap (filter (is_lot_token id)) (stays.queues g);
      owners = λ x. elim (cases_Bool (covers (range_of w h.0 buf) x)) [
        | inl over ↦
            let passing : owner_of w x ≡ Passing t.given.from h = was_passing sc f w h went buf x t over in
            inr (record {
              before = ap mapping_in passing;
              behind = ap mapping_in (taken_now sc f w h went n buf x t over);
              unpooled = off_pool sc f w h.0 buf x flat t.there over;
              unslotted = off_slots sc f w x flat (λ pool. let no : Passing t.given.from h ≡ Pool = sym passing ∙ pool in absurd cc);
            })
        | inr off ↦ inl (still_there sc f w h went n buf x t off)
      ];
      rows = λ x lt beside. elim (cases_Bool (covers (range_of w h.0 buf) x)) [
        | inl over ↦ subst (λ (o : Owner). Row (book_of v) o (byte f x) n x) (sym (taken_now sc f w h went n buf x t over)) (taken_row sc f w h went n buf x t stays is lt beside over)
        | inr off ↦
            subst (λ (o : Owner). Row (book_of v) o (byte f x) n x) (sym (still_there sc f w h went n buf x t off))
            (row_over sc f w h n n went (owner_of w x) (byte f x) x p lt refl (λ j g same own. ap (sending ((book_of w).buffer x)) (t.rest ∙ sym t.before)) (is.rows x lt beside))
      ];
      calm = λ z on calm. calm_at n (byte w.machine.cache.ram z) z (stays_row (book_of w) Pool (byte w.machine.cache.ram z) w.machine n z shape stays calm);
      lasts = λ k. ap (λ (hs : List HartState). (slice_index_or hs k no_hart).last) stays.harts;
      keeps = λ k ne. keeps k;
      owned = λ k x ne own. taken_owned sc f w h went n buf k x t own;
    }

-- ---- the event

take_is : (w : WorldState) (h : HartNo) (buf : ℕ) → step_outcome w h (nexts.Take buf) ≡ goes w h (take_next w.machine h.0 buf) (done (driver_of w h.0) seen.Nothing) w.slots None []
unfolding step_outcome take_outcome
take_is w h buf = refl

pub take_goes : (sc : Scenario) (f : List ℕ) (w : WorldState) (h : HartNo) (buf n : ℕ) → IsHere sc f w h → in_hand (driver_of w h.0) ≡ Some (ops.Take buf) → (driver_of w h.0).phase ≡ Steps n
    → step_at (driver_of w h.0).fixed (driver_of w h.0).lots (ops.Take buf) n ≡ Ok (Some (take_step (driver_of w h.0).fixed buf)) → next_of (driver_of w h.0) ≡ nexts.Take buf → Goes sc f w (events.Issue h)
take_goes sc f w h buf n here hand phase at nx =
    let d = driver_of w h.0 in
    let m = w.machine in
    let flat = here.now.flat in
    let idle = idle_by sc f w h n here phase in
    let holds = flat.world.holds.each h.0 here.there in
    let next = take_next m h.0 buf in
    let went = done d seen.Nothing in
    let moves = done_takes d buf n hand phase at in
    let few = (in_hand_is (length m.cache.ram) (length m.harts) d (ops.Take buf) holds.driver.fixed hand).fits in
    let boxes : buf < length m.boxes = omega (arith, few, holds.setting.boxes) in
    let may : may_take m h.0 buf ≡ true = (and_parts (not (io_waits m h.0)) (may_take m h.0 buf) (may_next sc f w h (nexts.Take buf) here nx)).1 in
    let taken : IsTaken sc f w h went buf = record {
      passes = record {
        flat = flat;
        lt = here.lt;
        still = idle.still;
        fixed = moves.driver.fixed;
        lots = moves.driver.lots;
        was = none_ends d.rest idle.rest;
        left = none_ends went.driver.rest moves.driver.rest;
        unstored = ap rest_last moves.driver.rest;
        drives = idle_drives d went.driver (flat.bytes.drives h.0 here.lt) idle.still moves.driver;
        uncopied = steps_copy_none went.driver moves.driver.count moves.driver.phase;
      };
      there = here.there;
      few = few;
      given = given_from w buf h (for_hart h (box_of m buf) may) (flat.world.holds.messages buf boxes);
      before = idle.rest;
      rest = moves.driver.rest;
      owners = ap (owners_moved w.owners) moves.transfers ∙ ap (λ (g : HartNo). transferred w.owners (range_of w h.0 buf) (Thread g)) (me_is w h.0 flat.world.holds here.there);
    } in
    goes_go sc f w (events.Issue h) h next went w.slots None [] here.now.may (outcome_is w h (nexts.Take buf) nx ∙ take_is w h buf)
    (λ none. goes_silent sc f [] (gone w h next went) refl
    (stands_passed sc f w h next went taken.passes (taken_stands sc f w h went next buf taken (calls_keep_shape.of_take m h.0 buf) (channels_by_place.take_stays m h.0 buf) (λ k. take_keeps m h.0 buf k))))
