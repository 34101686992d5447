-- The marker and the message of a buffer that is passed on, as events.
use Rattle.std.specs.Prelude.{Some, All}
use Rattle.std.proofs.Common.{◌≡◌, ◌⊎◌, ℕ, List, [], ◌∷◌, refl, sym, ap, ◌∙◌, inl, inr, subst}
use Rattle.std.proofs.lemmas.Bool.{ne_eqb}
use Rattle.nc_num.specs.declared.names.HartNo.{HartNo}
use Rattle.nc_plan.specs.declared.ops.HartOp.TheVariants as hart
use Rattle.nc_plan.specs.declared.ops.IoTarget.TheVariants as io
use Rattle.nc_queue.specs.declared.entry.Entry.TheVariants as entries
use Rattle.nc_hart.specs.Issue.{marker}
use Rattle.nc_ops.specs.declared.ops.Op.{Op}
use Rattle.nc_ops.specs.declared.ops.Op.TheVariants as ops
use Rattle.nc_scen.specs.declared.events.Event.TheVariants as events
use Rattle.nc_scen.specs.declared.scenario.Scenario.{Scenario}
use Rattle.nc_rules.specs.declared.steps.Next.TheVariants as nexts
use Rattle.nc_rules.specs.declared.steps.Phase.TheVariants.{Work}
use Rattle.nc_rules.specs.declared.steps.Seen.TheVariants as seen
use Rattle.nc_rules.specs.declared.steps.Step.{Step}
use Rattle.nc_rules.specs.Driver.{DriverState, in_hand, next_of, next_of_op, next_in, next_rest, done}
use Rattle.nc_rules.specs.Handing.{hand_steps}
use Rattle.nc_rules.specs.Records.{op_records}
use Rattle.nc_rules.specs.World.{WorldState, driver_of}
use Rattle.nc_rows.specs.Ahead.{sending}
use Rattle.nc_rows.specs.Parts.{rest_last}
use Rattle.nc_flatness.specs.Flatness.{mail_step}
use Rattle.nc_flatness.specs.Plans.{IsStill}
use Rattle.nc_flatness.specs.Steps.{Goes}
use Rattle.nc_flat_scripts.proofs.handing.HandCalls.{hands_drives, done_trace, done_mails}
use Rattle.nc_flat_scripts.proofs.handing.HandEvents.{sends_goes}
use Rattle.nc_flat_scripts.proofs.handing.MailFacts.{trace_none, mails_none, sends_other, mails_other, sends_none, sends_mail, sends_mark}
use Rattle.nc_flat_scripts.proofs.accesses.OpActs.{enters, marker_plain}
use Rattle.nc_flat_scripts.proofs.copies.OtherCopies.{steps_copy_none, hand_copies_none}
use Rattle.nc_flat_scripts.proofs.accesses.ScriptEvents.{IsHere, next_there, may_next}
use Rattle.nc_flat_scripts.proofs.steps.StepFrames.{idle_drives}
use Rattle.nc_flat_scripts.proofs.steps.StillLots.{EndsNone, none_ends}

left_as : (r s : List Step) → r ≡ s → EndsNone s → EndsNone r
left_as r s same none = subst EndsNone (sym same) none

mark_goes : (sc : Scenario) (f : List ℕ) (w : WorldState) (h : HartNo) (buf : ℕ) (to : HartNo) → IsHere sc f w h → in_hand (driver_of w h.0) ≡ Some (ops.Hand buf to) → (driver_of w h.0).phase ≡ Work → (driver_of w h.0).rest ≡ hand_steps buf to → All (IsStill (driver_of w h.0).fixed) (driver_of w h.0).lots
    → next_of (driver_of w h.0) ≡ nexts.Op (hart.Mark 1 4) → Goes sc f w (events.Issue h)
unfolding op_records
mark_goes sc f w h buf to here hand phase rest still nx =
    let d = driver_of w h.0 in
    let op = hart.Mark 1 4 in
    let flat = here.now.flat in
    let went = done d seen.Nothing in
    let goes = done_trace d buf to hand phase rest in
    let there = next_there sc f w h op here nx in
    sends_goes sc f w h op (marker 1 4) buf here nx refl (λ t. refl) (record {
      passes = record {
        flat = flat;
        lt = here.lt;
        still = still;
        fixed = goes.driver.fixed;
        lots = goes.driver.lots;
        was = left_as d.rest (hand_steps buf to) rest (trace_none buf to);
        left = left_as went.driver.rest (mail_step buf to ∷ []) goes.driver.rest (mails_none buf to);
        unstored = ap rest_last goes.driver.rest;
        drives = hands_drives d went.driver buf to (mail_step buf to ∷ []) (flat.bytes.drives h.0 here.lt) still goes.driver (inr refl);
        uncopied = hand_copies_none went.driver buf to goes.driver.hand;
      };
      by = enters w h op (marker 1 4) flat.world.machine here.there refl there (may_next sc f w h (nexts.Op op) here nx);
      plain = marker_plain 1 4;
      silent = λ x. refl;
      queued = tt;
      comes = record { size = flat.world.machine.block_size; fits = tt; plain = marker_plain 1 4; own = λ x. inl refl };
      its = ap (sending buf) rest ∙ sends_mark buf to ∙ ap (λ (r : List Step). marker 1 4 ∷ sending buf r) (sym goes.driver.rest);
      others = λ c ne. ap (sending c) goes.driver.rest ∙ mails_other c buf to ne ∙ sym (sends_other c buf to ne) ∙ ap (sending c) (sym rest);
      mail = λ c ne. refl;
      owners = goes.transfers;
    })

mail_goes : (sc : Scenario) (f : List ℕ) (w : WorldState) (h : HartNo) (buf : ℕ) (to : HartNo) → IsHere sc f w h → in_hand (driver_of w h.0) ≡ Some (ops.Hand buf to) → (driver_of w h.0).phase ≡ Work → (driver_of w h.0).rest ≡ mail_step buf to ∷ [] → All (IsStill (driver_of w h.0).fixed) (driver_of w h.0).lots
    → next_of (driver_of w h.0) ≡ nexts.Op (hart.IoStore (io.Mail buf to)) → Goes sc f w (events.Issue h)
unfolding op_records
mail_goes sc f w h buf to here hand phase rest still nx =
    let d = driver_of w h.0 in
    let op = hart.IoStore (io.Mail buf to) in
    let e = entries.Mail buf to in
    let flat = here.now.flat in
    let went = done d seen.Nothing in
    let goes = done_mails d buf to hand phase rest in
    let there = next_there sc f w h op here nx in
    sends_goes sc f w h op e buf here nx refl (λ t. refl) (record {
      passes = record {
        flat = flat;
        lt = here.lt;
        still = still;
        fixed = goes.driver.fixed;
        lots = goes.driver.lots;
        was = left_as d.rest (mail_step buf to ∷ []) rest (mails_none buf to);
        left = none_ends went.driver.rest goes.driver.rest;
        unstored = ap rest_last goes.driver.rest;
        drives = idle_drives d went.driver (flat.bytes.drives h.0 here.lt) still goes.driver;
        uncopied = steps_copy_none went.driver goes.driver.count goes.driver.phase;
      };
      by = enters w h op e flat.world.machine here.there refl there (may_next sc f w h (nexts.Op op) here nx);
      plain = record { token = λ n. refl; fence = refl; inval = λ b. refl; lot = λ id. refl };
      silent = λ x. refl;
      queued = tt;
      comes = record { size = flat.world.machine.block_size; fits = tt; plain = record { token = λ n. refl; fence = refl; inval = λ b. refl; lot = λ id. refl }; own = λ x. inl refl };
      its = ap (sending buf) rest ∙ sends_mail buf to ∙ ap (λ (r : List Step). e ∷ sending buf r) (sym goes.driver.rest);
      others = λ c ne. ap (sending c) goes.driver.rest ∙ sends_none c ∙ sym (mails_other c buf to ne) ∙ ap (sending c) (sym rest);
      mail = λ c ne. ne_eqb buf c (λ same. ne (sym same));
      owners = goes.transfers;
    })

pub next_work : (d : DriverState) (o : Op) (rest : List Step) → in_hand d ≡ Some o → d.phase ≡ Work → d.rest ≡ rest → next_of d ≡ next_rest rest
unfolding next_of
next_work d o rest hand phase is = ap (next_of_op d) hand ∙ ap (next_in d o) phase ∙ ap next_rest is

-- whichever of the two is left
pub send_goes : (sc : Scenario) (f : List ℕ) (w : WorldState) (h : HartNo) (buf : ℕ) (to : HartNo) → IsHere sc f w h → in_hand (driver_of w h.0) ≡ Some (ops.Hand buf to) → (driver_of w h.0).phase ≡ Work → All (IsStill (driver_of w h.0).fixed) (driver_of w h.0).lots
    → ((driver_of w h.0).rest ≡ hand_steps buf to) ⊎ ((driver_of w h.0).rest ≡ mail_step buf to ∷ []) → Goes sc f w (events.Issue h)
send_goes sc f w h buf to here hand phase still (inl rest) = mark_goes sc f w h buf to here hand phase rest still (next_work (driver_of w h.0) (ops.Hand buf to) (hand_steps buf to) hand phase rest)
send_goes sc f w h buf to here hand phase still (inr rest) = mail_goes sc f w h buf to here hand phase rest still (next_work (driver_of w h.0) (ops.Hand buf to) (mail_step buf to ∷ []) hand phase rest)
