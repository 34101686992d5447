-- Messages after a start step.
use Rattle.std.specs.Prelude.{Option, Some, None, ◌<◌, ◌⊎◌}
use Rattle.std.proofs.Common.{◌≡◌, ◌≢◌, ℕ, Bool, true, false, List, [], ◌∷◌, length, refl, sym, ap, ◌∙◌, subst, arith, inl, inr}
use Rattle.std.proofs.lemmas.Bool.{false≢true, cases_eq, eq-eqb, ne_eqb}
use Rattle.std.proofs.lemmas.Bool.Decides.{nat_tests}
use Rattle.std.proofs.lemmas.List.Elements.{All-nil, All-cons}
use Rattle.nc_num.specs.Places.{covers}
use Rattle.nc_num.specs.declared.names.HartNo.{HartNo}
use Rattle.nc_num.specs.declared.places.Span.{Span}
use Rattle.nc_model.proofs.Faults.{covers-high}
use Rattle.nc_model.specs.declared.owners.Owner.{Owner}
use Rattle.nc_model.specs.declared.owners.Owner.TheVariants as owners
use Rattle.nc_own.specs.Books.{owner_in}
use Rattle.nc_plan.specs.declared.ops.HartOp.TheVariants as hart
use Rattle.nc_plan.specs.declared.ops.IoTarget.TheVariants as io
use Rattle.nc_ops.specs.declared.ops.Op.{Op}
use Rattle.nc_ops.specs.declared.ops.Op.TheVariants as ops
use Rattle.nc_rules.specs.declared.lots.LotId.{LotId}
use Rattle.nc_rules.specs.declared.steps.Next.TheVariants as nexts
use Rattle.nc_rules.specs.declared.steps.Step.{Step}
use Rattle.nc_rules.specs.Lots.{DriverConfig}
use Rattle.nc_rules.specs.Machine.{MachineState, queue_of, box_of}
use Rattle.nc_rules.specs.Plans.{hart_step}
use Rattle.nc_rules.specs.Refusals.{buffer_of}
use Rattle.nc_rules.specs.Handing.{hand_steps}
use Rattle.nc_rules.specs.Driver.{DriverState, Went, in_hand, next_of, next_of_op, started}
use Rattle.nc_rules.specs.World.{WorldState, driver_of, owners_moved}
use Rattle.nc_scripts.specs.NewLots.{IsOwned}
use Rattle.nc_scripts.specs.Scripts.{IsRangeIn}
use Rattle.nc_scripts.specs.Drivers.{IsDriver}
use Rattle.nc_holds.specs.Messages.{is_mail_act, mails, mail_steps, mail_act, rest_of, Status}
use Rattle.nc_holds.specs.Tokens.{TokensFollow}
use Rattle.nc_holds.specs.Rests.{RestAgrees}
use Rattle.nc_holds.proofs.lists.Changes.{first_kept, none_kept}
use Rattle.nc_holds.proofs.messages.Owners.{Spares, owner_moved_on}
use Rattle.nc_holds.proofs.messages.Calls.{IsPassing, owned_off, started_off}
use Rattle.nc_holds.proofs.messages.Rests.{HandStarts, Refused, Passes, hand_starts}
use Rattle.nc_holds.proofs.messages.Status.{status_kept, status_begun}
use Rattle.nc_holds.proofs.messages.Goes.{GoesOn, rest_here, rest_away, steps_stay, fixed_stays, buffer_alike, owners_stay}
use Rattle.nc_holds.proofs.tokens.Calls.{Before, HandsNone, started_leaves, start_at}
use Rattle.nc_holds.proofs.tokens.Worlds.{At, here}

abbrev pub AllStatus : WorldState → WorldState → Type 0
AllStatus w n = (b : ℕ) → b < length w.machine.boxes → Status n b

-- ---- what the hart that goes on knows

-- a buffer has bytes of RAM
pub buffer_range : (w : WorldState) (h : HartNo) (b : ℕ) → At w h → b < length w.machine.boxes → IsRangeIn (length w.machine.cache.ram) (buffer_of (driver_of w h.0).fixed b)
buffer_range w h b a lt = (here w h a).driver.fixed.buffers b (record { at = 0; len = 0 }) (omega (arith, lt, (here w h a).setting.boxes))

me_is : (w : WorldState) (h : HartNo) → At w h → (driver_of w h.0).fixed.me ≡ h
me_is w h a = let e = (here w h a).me in λ i. record { 0 = e i }

-- where a start step comes next, no plan is left
rest_none : (ram harts : ℕ) (d : DriverState) (o : Option Op) → IsDriver ram harts d → RestAgrees d → in_hand d ≡ o → next_of_op d o ≡ nexts.Start → d.rest ≡ []
rest_none ram harts d None h b hand start = absurd cc
rest_none ram harts d (Some o) h b hand start = (start_at d o d.phase h.phase b.idle start).1

pub starts_bare : (ram harts : ℕ) (d : DriverState) → IsDriver ram harts d → RestAgrees d → next_of d ≡ nexts.Start → d.rest ≡ []
unfolding next_of
starts_bare ram harts d h b start = rest_none ram harts d (in_hand d) h b refl start

-- ---- a start that hands nothing on

-- nobody's tokens
abbrev Nobody : LotId → Type 0
Nobody i = ⊥

bare_before : (d : DriverState) (b : RestAgrees d) → TokensFollow d.lots d.rest → Before Nobody d
bare_before d b follows = record { rest = b; follows = follows; stays = λ i has. absurd has }

-- nothing of messages moves
pub none_moves : (w n : WorldState) (h : HartNo) (m : MachineState) (went : Went) (b : ℕ) → At w h → GoesOn w n h m went → m ≡ w.machine → b < length w.machine.boxes → mail_steps b went.driver.rest ≡ mail_steps b (driver_of w h.0).rest
    → ((x : ℕ) → covers (buffer_of (driver_of w h.0).fixed b) x ≡ true → IsPassing (driver_of w h.0).fixed w.owners x → Spares x went.moves.transfers) → Status n b
none_moves w n h m went b a k same lt steps spares =
    status_kept w n b (record {
      steps = steps_stay w n h m went b a k steps;
      queue = λ g. ap (λ (v : MachineState). mails b (queue_of v g)) (k.machine ∙ same);
      box_is = ap (λ (v : MachineState). box_of v b) (k.machine ∙ same);
      owners = owners_stay w n h m went b a k spares;
    }) (a.holds.messages b lt)

start_other : (w n : WorldState) (h : HartNo) → At w h → next_of (driver_of w h.0) ≡ nexts.Start → HandsNone (driver_of w h.0) → GoesOn w n h w.machine (started (driver_of w h.0) w.owners w.pages) → AllStatus w n
start_other w n h a start none k b lt =
    let s = here w h a in
    let left = started_leaves _ _ Nobody (driver_of w h.0) w.owners w.pages s.driver (bare_before (driver_of w h.0) s.rest s.tokens.to_queue) s.setting.pages start (λ i has. absurd has) in
    let bare = starts_bare _ _ (driver_of w h.0) s.driver s.rest start in
    none_moves w n h w.machine (started (driver_of w h.0) w.owners w.pages) b a k refl lt (left.mails none b ∙ sym (ap (mail_steps b) bare))
    (λ x on p. started_off _ _ (driver_of w h.0) w.owners w.pages x s.driver s.rest s.setting.pages start none s.regions s.agrees.owners p)

-- ---- a start of a hand

hand_mails : (buf : ℕ) (to : HartNo) → mail_steps buf (hand_steps buf to) ≡ hart_step (hart.IoStore (io.Mail buf to)) ∷ []
hand_mails buf to = first_kept (λ (s : Step). is_mail_act buf s.act) (hart_step (hart.IoStore (io.Mail buf to))) [] (eq-eqb buf buf refl)

hand_other : (b buf : ℕ) (to : HartNo) → b ≢ buf → mail_steps b (hand_steps buf to) ≡ []
hand_other b buf to ne =
    none_kept (λ (s : Step). is_mail_act b s.act) (hand_steps buf to)
    (All-cons (λ (s : Step). is_mail_act b s.act ≡ false) (hart_step (hart.Mark 1 4)) (hart_step (hart.IoStore (io.Mail buf to)) ∷ []) refl
    (All-cons (λ (s : Step). is_mail_act b s.act ≡ false) (hart_step (hart.IoStore (io.Mail buf to))) [] (ne_eqb buf b (λ e. ne (sym e))) (All-nil (λ (s : Step). is_mail_act b s.act ≡ false))))

first_byte : (ram : ℕ) (s : Span) → IsRangeIn ram s → covers s s.at ≡ true
first_byte ram s h = let some = h.some in grind (arith, nat_tests)

begun_here : (w n : WorldState) (h : HartNo) (went : Went) (buf : ℕ) (to : HartNo) → At w h → GoesOn w n h w.machine went → buf < length w.machine.boxes → IsOwned (driver_of w h.0).fixed.me w.owners (buffer_of (driver_of w h.0).fixed buf)
    → went.driver.rest ≡ hand_steps buf to → went.moves.transfers ≡ (buffer_of (driver_of w h.0).fixed buf, owners.Passing (driver_of w h.0).fixed.me to) ∷ [] → Status n buf
begun_here w n h went buf to a k lt own rest moves =
    let s = here w h a in
    let range = buffer_range w h buf a lt in
    let alike = buffer_alike w h buf a in
    let now : mail_steps buf (rest_of n h.0) ≡ hart_step (hart.IoStore (io.Mail buf to)) ∷ [] = ap (mail_steps buf) (rest_here w n h w.machine went a k ∙ rest) ∙ hand_mails buf to in
    status_begun w n buf h to
    (record {
      steps = λ g ne. ap (mail_steps buf) (rest_away w n h w.machine went g k ne);
      queue = λ g ne. ap (λ (v : MachineState). mails buf (queue_of v g)) k.machine;
    })
    (λ j for passing.
    let first = first_byte (length w.machine.cache.ram) (buffer_of (driver_of w h.0).fixed buf) range in
    let is = passing (buffer_of (driver_of w h.0).fixed buf).at (subst (λ (s : Span). covers s (buffer_of (driver_of w h.0).fixed buf).at ≡ true) (sym alike) first) in
    false≢true (sym (owned_off (driver_of w h.0).fixed.me w.owners (buffer_of (driver_of w h.0).fixed buf).at j for (buffer_of (driver_of w h.0).fixed buf) is own) ∙ first))
    (λ x on.
    let there : covers (buffer_of (driver_of w h.0).fixed buf) x ≡ true = subst (λ (s : Span). covers s x ≡ true) alike (subst (λ (f : DriverConfig). covers (buffer_of f buf) x ≡ true) (fixed_stays w n h w.machine went 0 a k) on) in
    ap (λ (ws : List Owner). owner_in ws x) (k.owners ∙ ap (owners_moved w.owners) moves)
    ∙ owner_moved_on w.owners (buffer_of (driver_of w h.0).fixed buf) (owners.Passing (driver_of w h.0).fixed.me to) x (omega (arith, a.holds.owners, range.ends, covers-high (buffer_of (driver_of w h.0).fixed buf) x there)) there
    ∙ ap (λ (me : HartNo). owners.Passing me to) (me_is w h a))
    (ap length now)
    (λ t e. one_act t (sym e ∙ now))
    (ap (λ (v : MachineState). mails buf (queue_of v h.0)) k.machine)
    (ap (λ (v : MachineState). box_of v buf) k.machine)
    (a.holds.messages buf lt)
  where
    one_act : (t : Step) → t ∷ [] ≡ hart_step (hart.IoStore (io.Mail buf to)) ∷ [] → t.act ≡ mail_act buf to
    one_act t e = let same : t ≡ hart_step (hart.IoStore (io.Mail buf to)) = cc in ap (λ (u : Step). u.act) same

start_hand : (w n : WorldState) (h : HartNo) (buf : ℕ) (to : HartNo) (went : Went) → At w h → next_of (driver_of w h.0) ≡ nexts.Start → GoesOn w n h w.machine went → HandStarts (driver_of w h.0) w.owners buf to went → AllStatus w n
start_hand w n h buf to went a start k (Refused rest moves) b lt =
    let s = here w h a in
    none_moves w n h w.machine went b a k refl lt (ap (mail_steps b) (rest ∙ sym (starts_bare _ _ (driver_of w h.0) s.driver s.rest start)))
    (λ x on p. subst (λ (ts : List (Span × Owner)). Spares x ts) (sym moves) (All-nil (λ (u : Span × Owner). covers u.0 x ≡ false)))
start_hand w n h buf to went a start k (Passes own rest moves) b lt = elim (cases_eq b buf) [
  | inl e ↦ subst (λ (c : ℕ). Status n c) (sym e) (begun_here w n h went buf to a k (subst (λ (c : ℕ). c < length w.machine.boxes) e lt) own rest moves)
  | inr ne ↦
      let s = here w h a in
      none_moves w n h w.machine went b a k refl lt (ap (mail_steps b) rest ∙ hand_other b buf to ne ∙ sym (ap (mail_steps b) (starts_bare _ _ (driver_of w h.0) s.driver s.rest start)))
      (λ x on p. subst (λ (ts : List (Span × Owner)). Spares x ts) (sym moves)
      (All-cons (λ (u : Span × Owner). covers u.0 x ≡ false) (buffer_of (driver_of w h.0).fixed buf, owners.Passing (driver_of w h.0).fixed.me to) [] (off (covers (buffer_of (driver_of w h.0).fixed buf) x) (λ both. s.regions.buffers b buf ne x on both))
      (All-nil (λ (u : Span × Owner). covers u.0 x ≡ false))))
]
  where
    off : (t : Bool) → (t ≡ true → ⊥) → t ≡ false
    off true f = absurd (f refl)
    off false f = refl

-- ---- any start

hand_or_not : (o : Op) → ((buf : ℕ) × ((to : HartNo) × (o ≡ ops.Hand buf to))) ⊎ ((buf : ℕ) (to : HartNo) → o ≡ ops.Hand buf to → ⊥)
hand_or_not (ops.Hand buf to) = inl (buf, (to, refl))
hand_or_not _ = inr (λ buf to e. absurd cc)

in_hand_or_not : (d : DriverState) (o : Option Op) → in_hand d ≡ o → ((buf : ℕ) × ((to : HartNo) × (in_hand d ≡ Some (ops.Hand buf to)))) ⊎ HandsNone d
in_hand_or_not d None e = inr (λ buf to is. let both : ◌≡◌ {A = Option Op} None (Some (ops.Hand buf to)) = sym e ∙ is in absurd cc)
in_hand_or_not d (Some o) e = elim (hand_or_not o) [
  | inl it ↦ inl (it.0, (it.1.0, e ∙ ap (λ (p : Op). Some p) it.1.1))
  | inr other ↦ inr (λ buf to is. let both : ◌≡◌ {A = Option Op} (Some o) (Some (ops.Hand buf to)) = sym e ∙ is in let same : o ≡ ops.Hand buf to = cc in other buf to same)
]

pub start_messages : (w n : WorldState) (h : HartNo) → At w h → next_of (driver_of w h.0) ≡ nexts.Start → GoesOn w n h w.machine (started (driver_of w h.0) w.owners w.pages) → AllStatus w n
start_messages w n h a start k = elim (in_hand_or_not (driver_of w h.0) (in_hand (driver_of w h.0)) refl) [
  | inl hand ↦
      let s = here w h a in
      start_hand w n h hand.0 hand.1.0 (started (driver_of w h.0) w.owners w.pages) a start k (hand_starts _ _ (driver_of w h.0) w.owners w.pages hand.0 hand.1.0 s.driver s.rest start hand.1.1)
  | inr none ↦ start_other w n h a start none k
]
