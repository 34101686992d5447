-- The messages that a driver still has to issue, through a step; and the start of a hand.
use Rattle.std.specs.Prelude.{All, Option, Some, None, Result, Ok, Err, if◌then◌else◌}
use Rattle.std.proofs.Common.{◌≡◌, ℕ, ◌+◌, Bool, true, false, List, [], ◌∷◌, refl, sym, ap, ◌∙◌, subst}
use Rattle.std.proofs.lemmas.Bool.{false≢true}
use Rattle.std.proofs.lemmas.List.Folds.{list_any_none}
use Rattle.nc_num.specs.declared.names.HartNo.{HartNo}
use Rattle.nc_num.specs.declared.places.Span.{Span}
use Rattle.nc_model.proofs.Faults.{passes}
use Rattle.nc_model.specs.Rights.{is_thread}
use Rattle.nc_model.specs.Touches.{first_fault}
use Rattle.nc_model.specs.declared.owners.Owner.{Owner}
use Rattle.nc_model.specs.declared.owners.Owner.TheVariants as owners
use Rattle.nc_own.specs.Books.{owner_in}
use Rattle.nc_coherent.specs.Pages.{PageMap}
use Rattle.nc_ops.specs.declared.ops.Op.{Op}
use Rattle.nc_ops.specs.declared.ops.Op.TheVariants as ops
use Rattle.nc_rules.specs.declared.answers.Refusal.{Refusal}
use Rattle.nc_rules.specs.declared.lots.Lot.{Lot}
use Rattle.nc_rules.specs.declared.steps.Act.{Act}
use Rattle.nc_rules.specs.declared.steps.Act.TheVariants as acts
use Rattle.nc_rules.specs.declared.steps.Next.{Next}
use Rattle.nc_rules.specs.declared.steps.Next.TheVariants as nexts
use Rattle.nc_rules.specs.declared.steps.Phase.{Phase}
use Rattle.nc_rules.specs.declared.steps.Phase.TheVariants.{Steps, Search, Work}
use Rattle.nc_rules.specs.declared.steps.Seen.{Seen}
use Rattle.nc_rules.specs.declared.steps.Seen.TheVariants as seen
use Rattle.nc_rules.specs.declared.steps.Step.{Step}
use Rattle.nc_rules.specs.Lots.{DriverConfig, lot_waits, some_lot_waits}
use Rattle.nc_rules.specs.Refusals.{◌>>=◌, buffer_of, owned, owned_but}
use Rattle.nc_rules.specs.Turns.{turned_by}
use Rattle.nc_rules.specs.Handing as handing
use Rattle.nc_rules.specs.Handing.{hand_steps}
use Rattle.nc_rules.specs.Operations.{meaning, step_at, has_start, begin, opening, plan_of}
use Rattle.nc_rules.specs.Driver.{DriverState, Went, in_hand, next_of, next_of_op, next_in, next_rest, next_act, stays, kept, went_to, opened, searches, placed, with_lots, begun, started, started_of, started_op, busy, stepped_to, stepped, worked, done, done_of, done_unless, done_in}
use Rattle.nc_scripts.specs.NewLots.{IsOwned}
use Rattle.nc_scripts.specs.Scripts.{is_act}
use Rattle.nc_scripts.specs.Drivers.{IsSettled, IsDriver, IsSeenAt, is_claim}
use Rattle.nc_scripts.proofs.DriverLaws.{next_step_is}
use Rattle.nc_scripts.proofs.Lists.{all_to}
use Rattle.nc_holds.specs.Messages.{is_mail_op, is_mail_act, mail_steps}
use Rattle.nc_holds.specs.Rests.{ClaimsAlone, RestAt, RestAgrees}
use Rattle.nc_holds.proofs.lists.Changes.{first_kept, first_gone, nothing_behind}
use Rattle.nc_holds.proofs.messages.Steps.{Numbered, Quietly, Takes, numbered}
use Rattle.nc_holds.proofs.messages.Moves.{next_takes}
use Rattle.nc_holds.proofs.tokens.Calls.{start_at}

-- a message of the buffer comes next
abbrev pub mail_next : ℕ → Next → Bool
mail_next b nexts.End = false
mail_next b nexts.Start = false
mail_next b (nexts.Search k) = false
mail_next b (nexts.Op op) = is_mail_op b op
mail_next b (nexts.Claim chan) = false
mail_next b (nexts.Poll chan) = false
mail_next b (nexts.Take buf) = false

next_mail : (b : ℕ) (a : Act) → mail_next b (next_act a) ≡ is_mail_act b a
next_mail b (acts.Op op) = refl
next_mail b (acts.Claim chan) = refl
next_mail b (acts.Poll chan) = refl
next_mail b (acts.Take buf) = refl

-- the step of a message is the first of those to be issued, and another leaves them
pub record MailGoes (b : ℕ) (rest now : List Step) (s : Step) (next : Next) : Type 0 where
  pub act : next ≡ next_act s.act
  pub first : mail_steps b rest ≡ s ∷ mail_steps b now

pub record MailsLeft (b : ℕ) (rest now : List Step) (next : Next) : Type 0 where
  pub other : mail_next b next ≡ false → mail_steps b now ≡ mail_steps b rest
  pub mail : mail_next b next ≡ true → (s : Step) × MailGoes b rest now s next

-- none before, none behind, and none comes next
none_left : (b : ℕ) (rest now : List Step) (next : Next) → rest ≡ [] → now ≡ [] → mail_next b next ≡ false → MailsLeft b rest now next
none_left b rest now next er en off = record { other = λ _. ap (mail_steps b) (en ∙ sym er); mail = λ on. absurd (false≢true (sym off ∙ on)) }

stepped_rest : (d : DriverState) (n : ℕ) (lots : List Lot) (saw : Seen) (r : Result (Option Step) Refusal) → (stepped_to d n lots saw r).rest ≡ []
stepped_rest d n lots saw (Err r) = refl
stepped_rest d n lots saw (Ok (Some s)) = refl
stepped_rest d n lots saw (Ok None) = refl

pub went_rest : (d : DriverState) (lots : List Lot) (saw : Seen) (rest : List Step) → (went_to d lots saw rest).rest ≡ rest
went_rest d lots saw [] = refl
went_rest d lots saw (s ∷ rest) = refl

numbered_mail : (f : DriverConfig) (o : Op) (s : Step) (b : ℕ) → Numbered f o s → is_mail_act b s.act ≡ false
numbered_mail f o s b (Quietly h) = h.act.mail b
numbered_mail f o s b (Takes buf op e) = subst (λ (u : Step). is_mail_act b u.act ≡ false) e refl

worked_mails : (d : DriverState) (o : Op) (saw : Seen) (rest : List Step) (b : ℕ) → d.rest ≡ rest → is_act (next_rest rest) ≡ true → MailsLeft b rest (worked d o saw rest).driver.rest (next_rest rest)
worked_mails d o saw [] b e act = absurd (false≢true act)
worked_mails d o saw (s ∷ rest) b e act =
    let now = went_rest d _ saw rest in
    record {
      other = λ off. ap (mail_steps b) now ∙ sym (first_gone (λ (s : Step). is_mail_act b s.act) s rest (sym (next_mail b s.act) ∙ off));
      mail = λ on. (s, record { act = refl; first = first_kept (λ (s : Step). is_mail_act b s.act) s rest (sym (next_mail b s.act) ∙ on) ∙ ap (λ (r : List Step). s ∷ mail_steps b r) (sym now) });
    }

done_in_mails : (d : DriverState) (o : Op) (saw : Seen) (p : Phase) (b : ℕ) → RestAt p d.rest → is_act (next_in d o p) ≡ true → MailsLeft b d.rest (done_in d o saw p).driver.rest (next_in d o p)
done_in_mails d o saw (Steps n) b idle e =
    let s = next_step_is d o n e in
    let off : mail_next b (next_in d o (Steps n)) ≡ false = ap (mail_next b) (next_takes d o n s.0 (has_start o) s.1 e) ∙ next_mail b s.0.act ∙ numbered_mail d.fixed o s.0 b (numbered d.fixed d.lots o n s.0 s.1) in
    subst (λ (r : Result (Option Step) Refusal). MailsLeft b d.rest (stepped d o (n + 1) saw r (step_at d.fixed d.lots o (n + 1))).driver.rest (next_in d o (Steps n))) (sym s.1)
    (none_left b d.rest _ (next_in d o (Steps n)) idle (stepped_rest d (n + 1) _ saw (step_at d.fixed d.lots o (n + 1))) off)
done_in_mails d o saw (Search n) b idle e = absurd (false≢true e)
done_in_mails d o saw Work b idle e = worked_mails d o saw d.rest b refl e

-- a claim that finds the channel granted: its plan has no message
claim_rest : (rest : List Step) (chan b : ℕ) → ClaimsAlone rest → next_rest rest ≡ nexts.Claim (record { 0 = chan }) → mail_steps b rest ≡ []
claim_rest [] chan b h e = refl
claim_rest (s ∷ rest) chan b h e = h (is_it s.act e) b
  where
    is_it : (a : Act) → next_act a ≡ nexts.Claim (record { 0 = chan }) → is_claim a ≡ true
    is_it (acts.Op op) e = absurd (cc)
    is_it (acts.Claim c) e = refl
    is_it (acts.Poll c) e = absurd (cc)
    is_it (acts.Take buf) e = absurd (cc)

busy_rest : (d : DriverState) (o : Op) (p : Phase) (chan b : ℕ) → RestAt p d.rest → ClaimsAlone d.rest → is_act (next_in d o p) ≡ true → next_in d o p ≡ nexts.Claim (record { 0 = chan }) → mail_steps b d.rest ≡ []
busy_rest d o (Steps n) chan b idle h act e = ap (mail_steps b) idle
busy_rest d o (Search n) chan b idle h act e = absurd (false≢true act)
busy_rest d o Work chan b idle h act e = claim_rest d.rest chan b h e

unless_mails : (d : DriverState) (o : Op) (saw : Seen) (b : ℕ) → RestAgrees d → is_act (next_in d o d.phase) ≡ true → IsSeenAt (next_in d o d.phase) saw → MailsLeft b d.rest (done_unless d o saw (busy saw)).driver.rest (next_in d o d.phase)
unless_mails d o (seen.Busy g) b h e at = record {
  other = λ _. sym (busy_rest d o d.phase at.0 b h.idle h.claims e at.1);
  mail = λ on. absurd (false≢true (sym (ap (mail_next b) at.1) ∙ on));
}
unless_mails d o seen.Nothing b h e at = done_in_mails d o (kept d.saw seen.Nothing) d.phase b h.idle e
unless_mails d o (seen.Control control) b h e at = done_in_mails d o (seen.Control control) d.phase b h.idle e
unless_mails d o seen.Claimed b h e at = done_in_mails d o seen.Claimed d.phase b h.idle e
unless_mails d o (seen.Value value) b h e at = done_in_mails d o (seen.Value value) d.phase b h.idle e

done_by : (d : DriverState) (saw : Seen) (o : Option Op) (b : ℕ) → RestAgrees d → is_act (next_of_op d o) ≡ true → IsSeenAt (next_of_op d o) saw → MailsLeft b d.rest (done_of d saw o).driver.rest (next_of_op d o)
done_by d saw None b h act at = absurd (false≢true act)
done_by d saw (Some o) b h act at = unless_mails d o saw b h act at

pub done_mails : (d : DriverState) (saw : Seen) (b : ℕ) → RestAgrees d → is_act (next_of d) ≡ true → IsSeenAt (next_of d) saw → MailsLeft b d.rest (done d saw).driver.rest (next_of d)
unfolding done next_of
done_mails d saw b h act at = done_by d saw (in_hand d) b h act at

-- ---- the start of a hand

-- it is refused, or the buffer was the hart's own, and is passed
pub data HandStarts (d : DriverState) (ws : List Owner) (buf : ℕ) (to : HartNo) (went : Went) : Type 0 where
  Refused : went.driver.rest ≡ [] → went.moves.transfers ≡ [] → HandStarts d ws buf to went
  Passes : IsOwned d.fixed.me ws (buffer_of d.fixed buf) → went.driver.rest ≡ hand_steps buf to → went.moves.transfers ≡ (buffer_of d.fixed buf, owners.Passing d.fixed.me to) ∷ [] → HandStarts d ws buf to went

hand_opened : (d : DriverState) (ws : List Owner) (lots : List Lot) (buf : ℕ) (to : HartNo) → IsOwned d.fixed.me ws (buffer_of d.fixed buf) → HandStarts d ws buf to (opened (with_lots d lots) (ops.Hand buf to))
unfolding opening plan_of meaning handing.hand turned_by
hand_opened d ws lots buf to own = Passes own refl refl

hand_placed : (d : DriverState) (ws : List Owner) (lots : List Lot) (buf : ℕ) (to : HartNo) → some_lot_waits lots ≡ false → IsOwned d.fixed.me ws (buffer_of d.fixed buf) → HandStarts d ws buf to (placed (with_lots d lots) (ops.Hand buf to))
hand_placed d ws lots buf to none own =
    subst (λ (t : Bool). HandStarts d ws buf to (if t then stays (searches (with_lots d lots) 0) else opened (with_lots d lots) (ops.Hand buf to))) (sym none) (hand_opened d ws lots buf to own)

no_fault : (ws : List Owner) (o : Option ℕ) (u : Unit {0}) → owned_but ws o ≡ Ok u → o ≡ None
no_fault ws None u e = refl
no_fault ws (Some x) u e = absurd cc

is_owned : (me : HartNo) (ws : List Owner) (range : Span) (u : Unit {0}) → owned me ws range ≡ Ok u → IsOwned me ws range
is_owned me ws range u e x covered = passes (λ y. is_thread me (owner_in ws y)) range x (no_fault ws (first_fault (λ y. is_thread me (owner_in ws y)) range) u e) covered

hand_begun : (d : DriverState) (ws : List Owner) (buf : ℕ) (to : HartNo) (r : Result (Unit {0}) Refusal) → All IsSettled d.lots → owned d.fixed.me ws (buffer_of d.fixed buf) ≡ r → HandStarts d ws buf to (begun d (ops.Hand buf to) (r >>= λ _. Ok []))
hand_begun d ws buf to (Err r) settled e = Refused refl refl
hand_begun d ws buf to (Ok u) settled e =
    let none = list_any_none lot_waits d.lots (all_to IsSettled (λ (lot : Lot). lot_waits lot ≡ false) d.lots settled (λ lot h. h.placed)) in
    subst (λ (ls : List Lot). HandStarts d ws buf to (placed (with_lots d ls) (ops.Hand buf to))) (sym (nothing_behind d.lots)) (hand_placed d ws d.lots buf to none (is_owned d.fixed.me ws (buffer_of d.fixed buf) u e))

hand_started : (d : DriverState) (ws : List Owner) (pool : PageMap) (buf : ℕ) (to : HartNo) → All IsSettled d.lots → HandStarts d ws buf to (started_op d ws pool (ops.Hand buf to))
unfolding begin meaning handing.hand
hand_started d ws pool buf to settled = hand_begun d ws buf to (owned d.fixed.me ws (buffer_of d.fixed buf)) settled refl

pub hand_starts : (ram harts : ℕ) (d : DriverState) (ws : List Owner) (pool : PageMap) (buf : ℕ) (to : HartNo) → IsDriver ram harts d → RestAgrees d → next_of d ≡ nexts.Start → in_hand d ≡ Some (ops.Hand buf to) → HandStarts d ws buf to (started d ws pool)
unfolding started next_of
hand_starts ram harts d ws pool buf to h b start hand =
    let at = start_at d (ops.Hand buf to) d.phase h.phase b.idle (subst (λ (o : Option Op). next_of_op d o ≡ nexts.Start) hand start) in
    subst (λ (o : Option Op). HandStarts d ws buf to (started_of d ws pool o)) (sym hand) (hand_started d ws pool buf to at.0)
