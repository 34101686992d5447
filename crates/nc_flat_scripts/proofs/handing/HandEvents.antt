-- A hart passes a buffer on, as events: its start, its marker and its message.
use Rattle.std.specs.Prelude.{Option, None, Bool, false, unwrap_or}
use Rattle.std.proofs.Common.{◌≡◌, ◌≢◌, ℕ, ◌<◌, List, [], ◌∷◌, refl, sym, ap, ◌∙◌, inl, inr, subst}
use Rattle.std.proofs.lemmas.Bool.{cases_eq}
use Rattle.nc_num.specs.Memory.{byte}
use Rattle.nc_num.specs.Places.{covers}
use Rattle.nc_num.specs.declared.names.HartNo.{HartNo}
use Rattle.nc_plan.specs.declared.ops.HartOp.{HartOp}
use Rattle.nc_queue.specs.Entries.{entry_gives}
use Rattle.nc_queue.specs.declared.entry.Entry.{Entry}
use Rattle.nc_lines.specs.Lines.{bare}
use Rattle.nc_model.specs.declared.owners.Owner.{Owner}
use Rattle.nc_model.specs.declared.owners.Owner.TheVariants.{Thread, Passing, Lending, Device, Returning, Synced, Pool}
use Rattle.nc_own.specs.Books.{owner_in}
use Rattle.nc_scen.specs.declared.events.Event.TheVariants as events
use Rattle.nc_scen.specs.Regions.{slots_of}
use Rattle.nc_scen.specs.declared.scenario.Scenario.{Scenario}
use Rattle.nc_rules.specs.declared.steps.Next.TheVariants as nexts
use Rattle.nc_rules.specs.declared.steps.Seen.{Seen}
use Rattle.nc_rules.specs.declared.steps.Seen.TheVariants as seen
use Rattle.nc_rules.specs.declared.steps.Step.{Step}
use Rattle.nc_rules.specs.Machine.{MachineState}
use Rattle.nc_rules.specs.Calls.{issue_next, issue_answer}
use Rattle.nc_rules.specs.Driver.{Went, next_of, is_script, done}
use Rattle.nc_rules.specs.Flat.{records_trace}
use Rattle.nc_rules.specs.Outcomes.{goes, seen_of}
use Rattle.nc_rules.specs.Records.{op_records}
use Rattle.nc_rules.specs.EventTouches.{owner_of, issue_touch}
use Rattle.nc_rules.specs.World.{WorldState, driver_of, owners_moved}
use Rattle.nc_rows.specs.Ahead.{is_full, is_mail, sending}
use Rattle.nc_rows.specs.Rows.{PassingRow, Row}
use Rattle.nc_rows.specs.Parts.{IsQueued}
use Rattle.nc_row_issues.specs.Laws.{Enters}
use Rattle.nc_row_plans.proofs.PlanEnds.{rows_plan}
use Rattle.nc_flatness.specs.Books.{book_of}
use Rattle.nc_flatness.specs.Copying.{IsItsOwn}
use Rattle.nc_flatness.specs.Steps.{Goes}
use Rattle.nc_flatness.proofs.books.BookReads.{buffer_gone, rest_here}
use Rattle.nc_flatness.proofs.worlds.Outcomes.{gone, goes_go, goes_silent}
use Rattle.nc_flat_scripts.specs.Entering.{IsPlain}
use Rattle.nc_flat_scripts.proofs.accesses.ActRows.{plain_unfenced, tokens_pushed, queued_more, entry_lasts, entry_calm, entry_keeps}
use Rattle.nc_flat_scripts.proofs.accesses.EntryRows.{Comes, row_entered}
use Rattle.nc_flat_scripts.proofs.accesses.OwnPlaces.{apart_at}
use Rattle.nc_flat_scripts.proofs.handing.PassingFrames.{row_over, PassedIn, stands_passed}
use Rattle.nc_flat_scripts.proofs.handing.PassingParts.{Passes, there}
use Rattle.nc_flat_scripts.proofs.accesses.ScriptEvents.{IsHere, outcome_is, op_is}
use Rattle.nc_flat_scripts.proofs.steps.StillLots.{posted_at}

-- ---- an entry of the plan

-- the entry, which gives nothing, and the rests before and behind it
pub record Sends (sc : Scenario) (f : List ℕ) (w : WorldState) (h : HartNo) (n : MachineState) (went : Went) (e : Entry) (buf : ℕ) : Type 0 where
  pub passes : Passes sc f w h went
  pub by : Enters w.machine n h.0 e
  pub plain : IsPlain e
  pub silent : (x : ℕ) → entry_gives w.machine.size e x ≡ None
  pub queued : IsQueued (book_of w) (owner_of w) w.machine.pool w.machine.size h.0 e
  pub comes : Comes (book_of w) (owner_of w) w.machine h.0 e
  -- of this buffer the entry was the first to come, of another there is no message
  pub its : sending buf (driver_of w h.0).rest ≡ bare e ∷ sending buf went.driver.rest
  pub others : (c : ℕ) → c ≢ buf → sending c went.driver.rest ≡ sending c (driver_of w h.0).rest
  pub mail : (c : ℕ) → c ≢ buf → is_mail c (bare e) ≡ false
  pub owners : went.moves.transfers ≡ []

-- a place whose row is that of another buffer, or of none
other_row : (sc : Scenario) (f : List ℕ) (w : WorldState) (h : HartNo) (n : MachineState) (went : Went) (e : Entry) (buf x : ℕ) → Sends sc f w h n went e buf → x < sc.ram → covers (slots_of sc) x ≡ false → ((j g : HartNo) → owner_of w x ≡ Passing j g → j.0 ≡ h.0 → (book_of w).buffer x ≢ buf)
    → Row (book_of (gone w h n went)) (owner_of w x) (byte f x) n x
other_row sc f w h n went e buf x s lt off other =
    let p = s.passes in
    let flat = p.flat in
    let entered = row_entered (book_of w) (owner_of w) (byte f x) w.machine n h.0 e x s.by s.comes (apart_at sc f w x flat lt) (posted_at sc f w h.0 x flat p.still p.was lt) (λ j g is own. s.mail ((book_of w).buffer x) (other j g is own)) (flat.bytes.rows x lt off) in
    let same : Row (book_of w) (owner_of w x) (byte f x) n x = subst (λ (o : Option ℕ). Row (book_of w) (owner_of w x) (unwrap_or o (byte f x)) n x) (s.silent x) entered in
    row_over sc f w h n n went (owner_of w x) (byte f x) x p lt refl (λ j g is own. s.others ((book_of w).buffer x) (other j g is own)) same

-- a place of the buffer
sent_row : (sc : Scenario) (f : List ℕ) (w : WorldState) (h : HartNo) (n : MachineState) (went : Went) (e : Entry) (buf x : ℕ) (j g : HartNo) → Sends sc f w h n went e buf → x < sc.ram → covers (slots_of sc) x ≡ false → owner_of w x ≡ Passing j g → j.0 ≡ h.0 → (book_of w).buffer x ≡ buf
    → Row (book_of (gone w h n went)) (Passing j g) (byte f x) n x
sent_row sc f w h n went e buf x j g s lt off is own its =
    let p = s.passes in
    let v = byte f x in
    let b = book_of (gone w h n went) in
    let rest : b.rest j.0 ≡ went.driver.rest = ap b.rest own ∙ rest_here w h n went (there sc f w h went p) in
    let buffer : b.buffer x ≡ buf = ap (λ (k : ℕ → ℕ). k x) (buffer_gone w h n went (there sc f w h went p) p.fixed) ∙ its in
    let was : Row (book_of w) (Passing j g) v w.machine x = subst (λ (o : Owner). Row (book_of w) o v w.machine x) is (p.flat.bytes.rows x lt off) in
    let before : PassingRow h.0 v buf (driver_of w h.0).rest w.machine x = subst (λ (c : ℕ). PassingRow h.0 v c (driver_of w h.0).rest w.machine x) its (subst (λ (k : ℕ). PassingRow k v ((book_of w).buffer x) ((book_of w).rest k) w.machine x) own was) in
    let after : PassingRow h.0 v buf went.driver.rest n x = rows_plan.send w.machine n e h.0 v buf x (driver_of w h.0).rest went.driver.rest s.by (s.silent x) s.its before in
    subst (λ (c : ℕ). PassingRow j.0 v c (b.rest j.0) n x) (sym buffer) (subst (λ (r : List Step). PassingRow j.0 v buf r n x) (sym rest) (subst (λ (k : ℕ). PassingRow k v buf went.driver.rest n x) (sym own) after))

any_row : (sc : Scenario) (f : List ℕ) (w : WorldState) (h : HartNo) (n : MachineState) (went : Went) (e : Entry) (buf x : ℕ) (o : Owner) → Sends sc f w h n went e buf → x < sc.ram → covers (slots_of sc) x ≡ false → owner_of w x ≡ o → Row (book_of (gone w h n went)) o (byte f x) n x
any_row sc f w h n went e buf x (Passing j g) s lt off is = elim (cases_eq j.0 h.0) [
  | inl own ↦ elim (cases_eq ((book_of w).buffer x) buf) [
    | inl its ↦ sent_row sc f w h n went e buf x j g s lt off is own its
    | inr ne ↦ subst (λ (o : Owner). Row (book_of (gone w h n went)) o (byte f x) n x) is (other_row sc f w h n went e buf x s lt off (λ k i q same. ne))
  ]
  | inr ne ↦
      subst (λ (o : Owner). Row (book_of (gone w h n went)) o (byte f x) n x) is
      (other_row sc f w h n went e buf x s lt off (λ k i q same. let both : Passing k i ≡ Passing j g = sym q ∙ is in let hart : k ≡ j = cc in absurd (ne (sym (ap (λ (t : HartNo). t.0) hart) ∙ same))))
]
any_row sc f w h n went e buf x (Thread j) s lt off is = subst (λ (o : Owner). Row (book_of (gone w h n went)) o (byte f x) n x) is (other_row sc f w h n went e buf x s lt off (λ k i q same. let no : Passing k i ≡ Thread j = sym q ∙ is in absurd cc))
any_row sc f w h n went e buf x (Lending j) s lt off is = subst (λ (o : Owner). Row (book_of (gone w h n went)) o (byte f x) n x) is (other_row sc f w h n went e buf x s lt off (λ k i q same. let no : Passing k i ≡ Lending j = sym q ∙ is in absurd cc))
any_row sc f w h n went e buf x (Device j) s lt off is = subst (λ (o : Owner). Row (book_of (gone w h n went)) o (byte f x) n x) is (other_row sc f w h n went e buf x s lt off (λ k i q same. let no : Passing k i ≡ Device j = sym q ∙ is in absurd cc))
any_row sc f w h n went e buf x (Returning j) s lt off is = subst (λ (o : Owner). Row (book_of (gone w h n went)) o (byte f x) n x) is (other_row sc f w h n went e buf x s lt off (λ k i q same. let no : Passing k i ≡ Returning j = sym q ∙ is in absurd cc))
any_row sc f w h n went e buf x (Synced j) s lt off is = subst (λ (o : Owner). Row (book_of (gone w h n went)) o (byte f x) n x) is (other_row sc f w h n went e buf x s lt off (λ k i q same. let no : Passing k i ≡ Synced j = sym q ∙ is in absurd cc))
any_row sc f w h n went e buf x Pool s lt off is = subst (λ (o : Owner). Row (book_of (gone w h n went)) o (byte f x) n x) is (other_row sc f w h n went e buf x s lt off (λ k i q same. let no : Passing k i ≡ Pool = sym q ∙ is in absurd cc))

sends_stands : (sc : Scenario) (f : List ℕ) (w : WorldState) (h : HartNo) (n : MachineState) (went : Went) (e : Entry) (buf : ℕ) → Sends sc f w h n went e buf → PassedIn sc f w h n went
sends_stands sc f w h n went e buf s =
    let moves : owners_moved w.owners went.moves.transfers ≡ w.owners = ap (owners_moved w.owners) s.owners in
    let owner : (x : ℕ) → owner_of (gone w h n went) x ≡ owner_of w x = λ x. ap (λ (os : List Owner). owner_in os x) moves in
    record {
      shape = s.by.shape;
      held = λ x none. (s.by.pushes.places x).line ∙ none;
      queued = queued_more (book_of w) (owner_of w) w.machine n h.0 e s.by s.queued s.passes.flat.bytes.queued;
      unfenced = λ g. s.by.pushes.queues.none is_full g (plain_unfenced e s.plain) (s.passes.flat.bytes.unfenced g);
      tokens = tokens_pushed w.machine n h.0 e s.by s.plain;
      owners = λ x. inl (owner x);
      rows = λ x lt off. subst (λ (o : Owner). Row (book_of (gone w h n went)) o (byte f x) n x) (sym (owner x)) (any_row sc f w h n went e buf x (owner_of w x) s lt off refl);
      calm = λ z on calm. entry_calm sc f w n h.0 e z s.passes.flat s.by s.comes.own on calm;
      lasts = λ k. entry_lasts w n h.0 e k s.by.pushes;
      keeps = λ k ne. entry_keeps w.machine n h.0 e k s.by.pushes ne;
      owned = λ k x ne own. subst (IsItsOwn k) (sym (owner x)) own;
    }

-- ---- the operation, as an event

pub sends_goes : (sc : Scenario) (f : List ℕ) (w : WorldState) (h : HartNo) (op : HartOp) (e : Entry) (buf : ℕ) → IsHere sc f w h → next_of (driver_of w h.0) ≡ nexts.Op op → seen_of (issue_answer w.machine h.0 op) ≡ seen.Nothing
    → ((t : Bool) → records_trace w.machine.size w.grants (op_records w.machine h t op) ≡ []) → Sends sc f w h (issue_next w.machine h.0 op) (done (driver_of w h.0) seen.Nothing) e buf → Goes sc f w (events.Issue h)
sends_goes sc f w h op e buf here nx unseen silent s =
    let d = driver_of w h.0 in
    let next = issue_next w.machine h.0 op in
    let went = done d seen.Nothing in
    let rs = op_records w.machine h (is_script d.phase) op in
    goes_go sc f w (events.Issue h) h next went w.slots (issue_touch w h (is_script d.phase) op) rs here.now.may
    (outcome_is w h (nexts.Op op) nx ∙ op_is w h op ∙ ap (λ (k : Seen). goes w h next (done d k) w.slots (issue_touch w h (is_script d.phase) op) rs) unseen)
    (λ none. goes_silent sc f (records_trace w.machine.size w.grants rs) (gone w h next went) (silent (is_script d.phase)) (stands_passed sc f w h next went s.passes (sends_stands sc f w h next went e buf s)))
