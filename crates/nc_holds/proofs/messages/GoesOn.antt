-- Messages after every event that may happen.
use Rattle.std.specs.Prelude.{Option, Some, None, ◌<◌, is_some, is_none, slice_set, slice_index_or}
use Rattle.std.proofs.Common.{◌≡◌, ◌≢◌, ℕ, Bool, true, false, List, [], ◌∷◌, length, refl, sym, ap, ◌∙◌, subst, arith, inl, inr}
use Rattle.std.proofs.lemmas.Bool.{false≢true, cases_eq, eq-eqb, ne_eqb, and_parts}
use Rattle.std.proofs.lemmas.Bool.Decides.{nat_tests}
use Rattle.std.proofs.lemmas.List.{get_or-set_same, get_or-set_other}
use Rattle.nc_num.specs.Places.{covers}
use Rattle.nc_num.specs.declared.names.HartNo.{HartNo}
use Rattle.nc_num.specs.declared.names.Label.{Label}
use Rattle.nc_model.specs.declared.owners.Owner.{Owner}
use Rattle.nc_model.specs.declared.owners.Owner.TheVariants as owners
use Rattle.nc_own.specs.Books.{owner_in}
use Rattle.nc_queue.specs.declared.entry.Entry.{Entry}
use Rattle.nc_queue.specs.declared.entry.Entry.TheVariants as entries
use Rattle.nc_hart.specs.HartState.{HartState}
use Rattle.nc_slots.specs.SlotWords.{holder_of}
use Rattle.nc_ops.specs.declared.ops.Op.{Op}
use Rattle.nc_rules.specs.declared.lots.LotId.{LotId}
use Rattle.nc_rules.specs.declared.steps.Act.{Act}
use Rattle.nc_rules.specs.declared.steps.Act.TheVariants as acts
use Rattle.nc_rules.specs.declared.steps.Next.{Next}
use Rattle.nc_rules.specs.declared.steps.Next.TheVariants as nexts
use Rattle.nc_rules.specs.declared.steps.Phase.{Phase}
use Rattle.nc_rules.specs.declared.steps.Phase.TheVariants.{Steps, Search, Work}
use Rattle.nc_rules.specs.declared.steps.Seen.{Seen}
use Rattle.nc_rules.specs.declared.steps.Seen.TheVariants as seen
use Rattle.nc_rules.specs.declared.steps.Step.{Step}
use Rattle.nc_rules.specs.Machine.{MachineState, queue_of, box_of, grantee_of}
use Rattle.nc_rules.specs.Calls.{is_for, may_take, drain_next, issue_answer, claim_next, take_next, control_of}
use Rattle.nc_rules.specs.Refusals.{buffer_of}
use Rattle.nc_rules.specs.Driver.{DriverState, in_hand, next_of, next_of_op, next_in, next_rest, next_act, searched, searching, told, done, lent}
use Rattle.nc_rules.specs.World.{WorldState, no_driver, driver_of, owners_moved}
use Rattle.nc_rules.specs.Events.{may_go_on}
use Rattle.nc_rules.specs.Outcomes.{Outcome, seen_of, claim_seen, step_outcome, start_outcome, op_outcome, claim_outcome, poll_outcome, take_outcome, at_word, got_word, try_outcome, told_outcome}
use Rattle.nc_calls.specs.PlaceLaws.{Drains}
use Rattle.nc_scripts.specs.Scripts.{is_act}
use Rattle.nc_scripts.specs.Drivers.{IsSeenAt}
use Rattle.nc_scripts.proofs.EveryDriver.{drivers_stay}
use Rattle.nc_holds.specs.Held.{IsOwnedBy}
use Rattle.nc_holds.specs.Messages.{is_mail, mails, mail_steps, rest_of, Status}
use Rattle.nc_holds.specs.Rests.{RestAt, RestAgrees}
use Rattle.nc_holds.proofs.lists.Changes.{none_here, other_removed, one_removed}
use Rattle.nc_holds.proofs.messages.Moves.{TakesOther, told_off, lent_off}
use Rattle.nc_holds.proofs.messages.Rests.{mail_next, done_mails}
use Rattle.nc_holds.proofs.messages.Status.{status_kept, status_sent, status_taken}
use Rattle.nc_holds.proofs.messages.Goes.{GoesOn, steps_stay, owners_stay, lots_off}
use Rattle.nc_holds.proofs.messages.Starts.{AllStatus, none_moves, start_messages}
use Rattle.nc_holds.proofs.messages.Events.{done_fixed, done_spares, still_step, op_messages}
use Rattle.nc_holds.proofs.messages.Worlds.{Comes, same_harts, claim_same, take_harts, take_boxes}
use Rattle.nc_holds.proofs.tokens.Calls.{told_leaves}
use Rattle.nc_holds.proofs.tokens.Worlds.{At, here, seen_at, claim_at, hart_same}

-- ---- a take

-- the message in the box is for this hart
pub for_hart : (h : HartNo) (o : Option HartNo) → is_for h.0 o ≡ true → o ≡ Some h
for_hart h None e = absurd (false≢true e)
for_hart h (Some g) e = let same : g.0 ≡ h.0 = grind (arith, nat_tests) in λ i. Some (record { 0 = same i })

take_none : (w n : WorldState) (h : HartNo) (buf : ℕ) → At w h → GoesOn w n h (take_next w.machine h.0 buf) (done (driver_of w h.0) seen.Nothing) → may_take w.machine h.0 buf ≡ true → (b : ℕ) → b ≢ buf → box_of n.machine b ≡ box_of w.machine b
take_none w n h buf a k may b ne =
    ap (λ (v : MachineState). box_of v b) k.machine ∙ ap (λ (bs : List (Option HartNo)). slice_index_or bs b None) (take_boxes w.machine h.0 buf may) ∙ get_or-set_other w.machine.boxes buf b None None ne

not_both : (t : Bool) → (t ≡ true → ⊥) → t ≡ false
not_both true f = absurd (f refl)
not_both false f = refl

same_buf : (m n : ℕ) → nexts.Take m ≡ nexts.Take n → m ≡ n
same_buf m n e = cc

-- a byte of another buffer
other_take : (w : WorldState) (h : HartNo) (buf b x : ℕ) → At w h → next_of (driver_of w h.0) ≡ nexts.Take buf → b ≢ buf → covers (buffer_of (driver_of w h.0).fixed b) x ≡ true → TakesOther (driver_of w h.0) (next_of (driver_of w h.0)) x
other_take w h buf b x a e ne on c is =
    let same = same_buf c buf (sym is ∙ e) in
    not_both (covers (buffer_of (driver_of w h.0).fixed c) x) (λ both. (here w h a).regions.buffers b c (λ k. ne (k ∙ same)) x on both)

take_messages : (w n : WorldState) (h : HartNo) (buf : ℕ) → At w h → next_of (driver_of w h.0) ≡ nexts.Take buf → may_take w.machine h.0 buf ≡ true → GoesOn w n h (take_next w.machine h.0 buf) (done (driver_of w h.0) seen.Nothing) → AllStatus w n
take_messages w n h buf a e may k b lt =
    let s = here w h a in
    let acts : is_act (next_of (driver_of w h.0)) ≡ true = ap is_act e in
    let steps : (g : ℕ) → mail_steps b (rest_of n g) ≡ mail_steps b (rest_of w g)
    = steps_stay w n h (take_next w.machine h.0 buf) (done (driver_of w h.0) seen.Nothing) b a k ((done_mails (driver_of w h.0) seen.Nothing b s.rest acts tt).other (ap (mail_next b) e)) in
    let queue : (g : ℕ) → mails b (queue_of n.machine g) ≡ mails b (queue_of w.machine g)
    = λ g. ap (λ (v : MachineState). mails b (queue_of v g)) k.machine ∙ ap (λ (t : HartState). mails b t.queue.entries) (hart_same w.machine (take_next w.machine h.0 buf) g (take_harts w.machine h.0 buf)) in
    elim (cases_eq b buf) [
      | inl same ↦ status_taken w n b h steps queue (ap (box_of w.machine) same ∙ for_hart h (box_of w.machine buf) may)
          (ap (λ (v : MachineState). box_of v b) k.machine ∙ ap (λ (bs : List (Option HartNo)). slice_index_or bs b None) (take_boxes w.machine h.0 buf may)
          ∙ subst (λ (c : ℕ). slice_index_or (slice_set w.machine.boxes c None) b None ≡ None) same (get_or-set_same w.machine.boxes b None None lt))
          (a.holds.messages b lt)
      | inr ne ↦ status_kept w n b (record {
        steps = steps;
        queue = queue;
        box_is = take_none w n h buf a k may b ne;
        owners = owners_stay w n h (take_next w.machine h.0 buf) (done (driver_of w h.0) seen.Nothing) b a k (done_spares w h seen.Nothing b a acts (λ x on. other_take w h buf b x a e ne on));
      }) (a.holds.messages b lt)
    ]

-- ---- a step

fixed_of_saw : (w : WorldState) (h : HartNo) (saw : Seen) (nx : Next) → At w h → next_of (driver_of w h.0) ≡ nx → is_act nx ≡ true → IsSeenAt (next_of (driver_of w h.0)) saw → (done (driver_of w h.0) saw).driver.fixed ≡ (driver_of w h.0).fixed
fixed_of_saw w h saw nx a e act at = done_fixed w h saw a (ap is_act e ∙ act) at

pub step_messages : (w n : WorldState) (h : HartNo) (nx : Next) → At w h → next_of (driver_of w h.0) ≡ nx → may_go_on w h nx ≡ true → Comes w n (step_outcome w h nx) → AllStatus w n
unfolding step_outcome start_outcome op_outcome claim_outcome poll_outcome take_outcome
step_messages w n h nexts.End a nx may c = absurd (false≢true may)
step_messages w n h (nexts.Search k) a nx may c = absurd (false≢true may)
step_messages w n h nexts.Start a nx may c =
    start_messages w n h a nx (record {
      machine = c.machine;
      drivers = c.drivers;
      owners = c.owners;
      fixed = ((drivers_stay _ _ (driver_of w h.0) (here w h a).driver).start w.owners w.pages nx (here w h a).setting.pages).fixed;
    })
step_messages w n h (nexts.Op op) a nx may c =
    let at = seen_at (next_of (driver_of w h.0)) (issue_answer w.machine h.0 op) in
    op_messages w n h op (seen_of (issue_answer w.machine h.0 op)) a nx at
    (record { machine = c.machine; drivers = c.drivers; owners = c.owners; fixed = fixed_of_saw w h (seen_of (issue_answer w.machine h.0 op)) (nexts.Op op) a nx refl at })
step_messages w n h (nexts.Claim chan) a nx may c =
    let at = claim_at (next_of (driver_of w h.0)) chan (grantee_of w.machine chan.0) nx in
    still_step w n h (claim_next w.machine h chan.0) (nexts.Claim chan) (claim_seen (grantee_of w.machine chan.0)) a nx refl at (λ b. refl) (λ buf e. absurd cc)
    (record { machine = c.machine; drivers = c.drivers; owners = c.owners; fixed = fixed_of_saw w h (claim_seen (grantee_of w.machine chan.0)) (nexts.Claim chan) a nx refl at }) (claim_same w.machine h chan.0)
step_messages w n h (nexts.Poll chan) a nx may c =
    still_step w n h w.machine (nexts.Poll chan) (seen.Control (control_of w.machine chan.0)) a nx refl tt (λ b. refl) (λ buf e. absurd cc)
    (record { machine = c.machine; drivers = c.drivers; owners = c.owners; fixed = fixed_of_saw w h (seen.Control (control_of w.machine chan.0)) (nexts.Poll chan) a nx refl tt }) (same_harts w.machine)
step_messages w n h (nexts.Take buf) a nx may c =
    take_messages w n h buf a nx (and_parts _ _ may).1 (record { machine = c.machine; drivers = c.drivers; owners = c.owners; fixed = fixed_of_saw w h seen.Nothing (nexts.Take buf) a nx refl tt })

-- ---- a slot word

abbrev Nobody : LotId → Type 0
Nobody i = ⊥

none_some : (k : ℕ) → ◌≡◌ {A = Option ℕ} None (Some k) → ⊥
none_some k e = absurd cc

act_searched : (act : Act) (k : ℕ) → searched (next_act act) ≡ Some k → ⊥
act_searched (acts.Op op) k e = none_some k e
act_searched (acts.Claim chan) k e = none_some k e
act_searched (acts.Poll chan) k e = none_some k e
act_searched (acts.Take buf) k e = none_some k e

rest_searched : (rest : List Step) (k : ℕ) → searched (next_rest rest) ≡ Some k → rest ≡ []
rest_searched [] k e = refl
rest_searched (s ∷ rest) k e = absurd (act_searched s.act k e)

in_searched : (d : DriverState) (o : Op) (p : Phase) (k : ℕ) → RestAt p d.rest → searched (next_in d o p) ≡ Some k → d.rest ≡ []
in_searched d o (Steps n) k idle e = idle
in_searched d o (Search x) k idle e = idle
in_searched d o Work k idle e = rest_searched d.rest k e

by_searched : (d : DriverState) (o : Option Op) (k : ℕ) → RestAgrees d → searched (next_of_op d o) ≡ Some k → d.rest ≡ []
by_searched d None k b e = absurd (none_some k e)
by_searched d (Some o) k b e = in_searched d o d.phase k b.idle e

-- where a slot word is tried, no plan is left
search_rest : (d : DriverState) (k : ℕ) → RestAgrees d → searching d ≡ Some k → d.rest ≡ []
unfolding searching next_of
search_rest d k b e = by_searched d (in_hand d) k b e

word_messages : (w n : WorldState) (h : HartNo) (got : Bool) (k : ℕ) → At w h → searching (driver_of w h.0) ≡ Some k → n.machine ≡ w.machine → n.drivers ≡ slice_set w.drivers h.0 (told (driver_of w h.0) got).driver
    → n.owners ≡ owners_moved w.owners (told (driver_of w h.0) got).moves.transfers → AllStatus w n
word_messages w n h got k a e m ds os b lt =
    let s = here w h a in
    let bare = search_rest (driver_of w h.0) k s.rest e in
    let left = told_leaves _ _ Nobody (driver_of w h.0) got s.driver (record { rest = s.rest; follows = s.tokens.to_queue; stays = λ i has. absurd has }) in
    none_moves w n h w.machine (told (driver_of w h.0) got) b a
    (record { machine = m; drivers = ds; owners = os; fixed = ((drivers_stay _ _ (driver_of w h.0) s.driver).hears got).fixed }) refl lt (left.mails bare b ∙ sym (ap (mail_steps b) bare))
    (λ x on p. told_off _ _ (driver_of w h.0) got x s.driver (lots_off w h x a p))

pub try_messages : (w n : WorldState) (h : HartNo) (k : ℕ) → At w h → searching (driver_of w h.0) ≡ Some k → Comes w n (try_outcome w h k) → AllStatus w n
unfolding try_outcome
try_messages w n h k a e c = word_messages w n h (is_none (holder_of w.slots k)) k a e c.machine c.drivers c.owners

pub told_messages : (w n : WorldState) (h : HartNo) (got : Bool) (k : ℕ) → At w h → searching (driver_of w h.0) ≡ Some k → Comes w n (told_outcome w h got k) → AllStatus w n
unfolding told_outcome
told_messages w n h got k a e c = word_messages w n h (got_word got (holder_of w.slots k)) k a e c.machine c.drivers c.owners

pub at_word_messages : (w n : WorldState) (f : ℕ → Outcome) (d : DriverState) (o : Option ℕ) → searching d ≡ o → is_some o ≡ true → Comes w n (at_word w f o) → ((k : ℕ) → searching d ≡ Some k → Comes w n (f k) → AllStatus w n) → AllStatus w n
at_word_messages w n f d None e some c h = absurd (false≢true some)
at_word_messages w n f d (Some k) e some c h = h k e c

-- ---- a drain

-- the driver stays, and the entry is no message of the buffer
other_leaves : (w n : WorldState) (h : HartNo) (i : ℕ) (e : Entry) (b : ℕ) → At w h → Drains w.machine (drain_next w.machine h.0 i) h.0 i e → is_mail b e ≡ false → n.machine ≡ drain_next w.machine h.0 i
    → (g : ℕ) → mails b (queue_of n.machine g) ≡ mails b (queue_of w.machine g)
other_leaves w n h i e b a out off m g =
    ap (λ (v : MachineState). mails b (queue_of v g)) m ∙ elim (cases_eq g h.0) [
      | inl same ↦ subst (λ (j : ℕ). mails b (queue_of (drain_next w.machine h.0 i) j) ≡ mails b (queue_of w.machine j)) (sym same)
          (ap (mails b) out.queues.own ∙ other_removed (is_mail b) (queue_of w.machine h.0) i e out.queues.stood off)
      | inr ne ↦ ap (mails b) (out.queues.others g ne)
    ]

-- what stays where drivers and owners do
pub record Unmoved (w n : WorldState) : Type 0 where
  pub drivers : n.drivers ≡ w.drivers
  pub owners : n.owners ≡ w.owners

pub unmoved_rest : (w n : WorldState) (g : ℕ) → Unmoved w n → rest_of n g ≡ rest_of w g
unmoved_rest w n g u = ap (λ (ds : List DriverState). (slice_index_or ds g no_driver).rest) u.drivers

pub unmoved_owners : (w n : WorldState) (b : ℕ) → Unmoved w n → (k to : HartNo) → IsOwnedBy w.owners (buffer_of (driver_of w 0).fixed b) (owners.Passing k to) → IsOwnedBy n.owners (buffer_of (driver_of n 0).fixed b) (owners.Passing k to)
unmoved_owners w n b u k to own x on =
    ap (λ (ws : List Owner). owner_in ws x) u.owners ∙ own x (subst (λ (ds : List DriverState). covers (buffer_of (slice_index_or ds 0 no_driver).fixed b) x ≡ true) u.drivers on)

pub unmoved_status : (w n : WorldState) (h : HartNo) (i : ℕ) (e : Entry) (b : ℕ) → At w h → Unmoved w n → Drains w.machine (drain_next w.machine h.0 i) h.0 i e → is_mail b e ≡ false → n.machine ≡ drain_next w.machine h.0 i → box_of (drain_next w.machine h.0 i) b ≡ box_of w.machine b → b < length w.machine.boxes → Status n b
unmoved_status w n h i e b a u out off m box lt =
    status_kept w n b (record {
      steps = λ g. ap (mail_steps b) (unmoved_rest w n g u);
      queue = other_leaves w n h i e b a out off m;
      box_is = ap (λ (v : MachineState). box_of v b) m ∙ box;
      owners = unmoved_owners w n b u;
    }) (a.holds.messages b lt)

pub same_boxes : (m v : MachineState) (b : ℕ) → v.boxes ≡ m.boxes → box_of v b ≡ box_of m b
same_boxes m v b e = ap (λ (bs : List (Option HartNo)). slice_index_or bs b None) e

pub mail_leaves : (w n : WorldState) (h : HartNo) (i buf : ℕ) (to : HartNo) → At w h → Unmoved w n → Drains w.machine (drain_next w.machine h.0 i) h.0 i (entries.Mail buf to) → n.machine ≡ drain_next w.machine h.0 i → AllStatus w n
mail_leaves w n h i buf to a u out m b lt = elim (cases_eq b buf) [
  | inr ne ↦ unmoved_status w n h i (entries.Mail buf to) b a u out (ne_eqb buf b (λ e. ne (sym e))) m (out.devices.others b ne) lt
  | inl same ↦ subst (λ (c : ℕ). Status n c) (sym same) (status_sent w n buf h.0 to
      (record {
        steps = λ g ne. ap (mail_steps buf) (unmoved_rest w n g u);
        queue = λ g ne. ap (λ (v : MachineState). mails buf (queue_of v g)) m ∙ ap (mails buf) (out.queues.others g ne);
      })
      (ap (mail_steps buf) (unmoved_rest w n h.0 u))
      (λ none. none_here (is_mail buf) (queue_of w.machine h.0) i (entries.Mail buf to) none out.queues.stood (eq-eqb buf buf refl))
      (λ x one. let it = one_removed (is_mail buf) (queue_of w.machine h.0) i (entries.Mail buf to) x one out.queues.stood (eq-eqb buf buf refl) in
      (it.0, ap (λ (v : MachineState). mails buf (queue_of v h.0)) m ∙ ap (mails buf) out.queues.own ∙ it.1))
      (ap (λ (v : MachineState). box_of v buf) m ∙ out.devices.box)
      (unmoved_owners w n buf u)
      (a.holds.messages buf (subst (λ (c : ℕ). c < length w.machine.boxes) same lt)))
]

pub token_leaves : (w n : WorldState) (h : HartNo) (i : ℕ) (label : Label) (first count : ℕ) → At w h → Drains w.machine (drain_next w.machine h.0 i) h.0 i (entries.Lend label first count) → GoesOn w n h (drain_next w.machine h.0 i) (lent (driver_of w h.0) label first) → AllStatus w n
unfolding lent
token_leaves w n h i label first count a out k b lt =
    status_kept w n b (record {
      steps = steps_stay w n h (drain_next w.machine h.0 i) (lent (driver_of w h.0) label first) b a k refl;
      queue = other_leaves w n h i (entries.Lend label first count) b a out refl k.machine;
      box_is = ap (λ (v : MachineState). box_of v b) k.machine ∙ same_boxes w.machine (drain_next w.machine h.0 i) b out.devices.boxes;
      owners = owners_stay w n h (drain_next w.machine h.0 i) (lent (driver_of w h.0) label first) b a k (λ x on p. lent_off (driver_of w h.0) label first x (lots_off w h x a p));
    }) (a.holds.messages b lt)
