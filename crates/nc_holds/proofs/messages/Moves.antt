-- The owner of a byte that is passed stays through a slot word, a step and a token; and the messages that a step leaves.
use Rattle.std.specs.Prelude.{All, Option, Some, None, Result, Ok, nat_lt, if◌then◌else◌}
use Rattle.std.proofs.Common.{◌≡◌, ℕ, ◌+◌, Bool, true, false, List, [], ◌∷◌, refl, sym, ap, ◌∙◌, subst}
use Rattle.std.proofs.lemmas.Bool.{false≢true}
use Rattle.std.proofs.lemmas.List.Elements.{All-nil, All-cons, All-head}
use Rattle.nc_num.specs.Places.{covers}
use Rattle.nc_num.specs.declared.names.Label.{Label}
use Rattle.nc_num.specs.declared.places.Span.{Span}
use Rattle.nc_model.specs.declared.owners.Owner.{Owner}
use Rattle.nc_model.specs.declared.owners.Owner.TheVariants as owners
use Rattle.nc_ops.specs.declared.ops.Op.{Op}
use Rattle.nc_rules.specs.declared.answers.Answer.{Answer}
use Rattle.nc_rules.specs.declared.answers.Refusal.{Refusal}
use Rattle.nc_rules.specs.declared.answers.Refusal.TheVariants as refusals
use Rattle.nc_rules.specs.declared.steps.Next.{Next}
use Rattle.nc_rules.specs.declared.steps.Next.TheVariants as nexts
use Rattle.nc_rules.specs.declared.steps.Phase.{Phase}
use Rattle.nc_rules.specs.declared.steps.Phase.TheVariants.{Steps, Search, Work}
use Rattle.nc_rules.specs.declared.steps.Seen.{Seen}
use Rattle.nc_rules.specs.declared.steps.Seen.TheVariants as seen
use Rattle.nc_rules.specs.declared.steps.Step.{Step}
use Rattle.nc_rules.specs.declared.steps.Turn.{Turn}
use Rattle.nc_rules.specs.declared.steps.Turn.TheVariants as turns
use Rattle.nc_rules.specs.Lots.{lot_id, slot_given}
use Rattle.nc_rules.specs.Refusals.{buffer_of}
use Rattle.nc_rules.specs.Turns.{turned, turned_by}
use Rattle.nc_rules.specs.Operations.{step_at, has_start}
use Rattle.nc_rules.specs.Driver.{DriverState, in_hand, next_of, next_of_op, next_in, next_step, next_act, stays, kept, give_up, searches, told, told_of, told_in, told_word, busy, stepped, step_answer, worked, done, done_of, done_unless, done_in, lent}
use Rattle.nc_scripts.specs.Scripts.{is_act}
use Rattle.nc_scripts.specs.Drivers.{IsSearching, IsPhase, IsDriver}
use Rattle.nc_scripts.proofs.DriverLaws.{next_step_is}
use Rattle.nc_scripts.proofs.EveryDriver.{in_hand_is}
use Rattle.nc_scripts.proofs.SlotLaws.{lots_given}
use Rattle.nc_holds.proofs.messages.Owners.{Spares, AreOff, turned_off, given_off}
use Rattle.nc_holds.proofs.messages.Steps.{Numbered, Quietly, Takes, numbered}
use Rattle.nc_holds.proofs.messages.Calls.{placed_off}
use Rattle.nc_holds.proofs.tokens.Plans.{OfLots}
use Rattle.nc_holds.proofs.tokens.Calls.{makes_some, makes}

no_moves : (x : ℕ) → Spares x []
no_moves x = All-nil (λ (u : Span × Owner). covers u.0 x ≡ false)

-- ---- a slot word

missed_off : (d : DriverState) (o : Op) (k : ℕ) (x : ℕ) (t : Bool) → Spares x (if t then stays (searches d (k + 1)) else give_up d o refusals.NoSlot).moves.transfers
missed_off d o k x true = no_moves x
missed_off d o k x false = no_moves x

word_off : (ram harts : ℕ) (d : DriverState) (o : Op) (k : ℕ) (got : Bool) (x : ℕ) → IsDriver ram harts d → in_hand d ≡ Some o → IsSearching d k → AreOff x d.lots → Spares x (told_word d o k got).moves.transfers
word_off ram harts d o k true x h e s off =
    let m = makes o (makes_some o d.lots (s.made o e) s.waits) in
    placed_off ram harts d o (slot_given k d.lots) x (in_hand_is ram harts d o h.fixed e) m.start m.hand (lots_given ram d.fixed k d.lots s.slot h.lots) (given_off x k d.lots off)
word_off ram harts d o k false x h e s off = missed_off d o k x (nat_lt (k + 1) d.fixed.slots)

told_in_off : (ram harts : ℕ) (d : DriverState) (o : Op) (p : Phase) (got : Bool) (x : ℕ) → IsDriver ram harts d → in_hand d ≡ Some o → IsPhase d p → AreOff x d.lots → Spares x (told_in d o p got).moves.transfers
told_in_off ram harts d o (Steps n) got x h e k off = no_moves x
told_in_off ram harts d o (Search n) got x h e k off = word_off ram harts d o n got x h e k off
told_in_off ram harts d o Work got x h e k off = no_moves x

told_by : (ram harts : ℕ) (d : DriverState) (o : Option Op) (got : Bool) (x : ℕ) → IsDriver ram harts d → in_hand d ≡ o → AreOff x d.lots → Spares x (told_of d o got).moves.transfers
told_by ram harts d None got x h e off = no_moves x
told_by ram harts d (Some o) got x h e off = told_in_off ram harts d o d.phase got x h e h.phase off

pub told_off : (ram harts : ℕ) (d : DriverState) (got : Bool) (x : ℕ) → IsDriver ram harts d → AreOff x d.lots → Spares x (told d got).moves.transfers
unfolding told
told_off ram harts d got x h off = told_by ram harts d (in_hand d) got x h refl off

-- ---- a token

pub lent_off : (d : DriverState) (label : Label) (first : ℕ) (x : ℕ) → AreOff x d.lots → Spares x (lent d label first).moves.transfers
unfolding lent
lent_off d label first x off = turned_off x d.fixed d.lots (turns.Give (lot_id label first)) turns.Stay None tt tt off

-- ---- a step

-- the steps of a rest turn lots alone
pub record TurnsLots (s : Step) : Type 0 where
  pub first : OfLots s.first
  pub last : OfLots s.last

-- a take that comes next is of a buffer without the byte
abbrev pub TakesOther : DriverState → Next → ℕ → Type 0
TakesOther d next x = (buf : ℕ) → next ≡ nexts.Take buf → covers (buffer_of d.fixed buf) x ≡ false

stay_of : (t : Turn) → t ≡ turns.Stay → OfLots t
stay_of t e = subst OfLots (sym e) tt

pub next_takes : (d : DriverState) (o : Op) (n : ℕ) (s : Step) (t : Bool) → step_at d.fixed d.lots o n ≡ Ok (Some s) → is_act (if t then nexts.Start else next_step (step_at d.fixed d.lots o n)) ≡ true
    → (if t then nexts.Start else next_step (step_at d.fixed d.lots o n)) ≡ next_act s.act
next_takes d o n s true e act = absurd (false≢true act)
next_takes d o n s false e act = ap next_step e

numbered_off : (d : DriverState) (o : Op) (s : Step) (x : ℕ) (next : Next) (k : Option Answer) → Numbered d.fixed o s → next ≡ next_act s.act → AreOff x d.lots → TakesOther d next x → Spares x (turned d.fixed d.lots s.first s.last k).transfers
unfolding turned_by
numbered_off d o s x next k (Quietly h) nx off takes = turned_off x d.fixed d.lots s.first s.last k (stay_of s.first h.first) (stay_of s.last h.last) off
numbered_off d o s x next k (Takes buf op e) nx off takes =
    subst (λ (u : Step). Spares x (turned d.fixed d.lots u.first u.last k).transfers) e
    (All-cons (λ (u : Span × Owner). covers u.0 x ≡ false) (buffer_of d.fixed buf, owners.Thread d.fixed.me) [] (takes buf (nx ∙ ap (λ (u : Step). next_act u.act) (sym e))) (no_moves x))

worked_off : (d : DriverState) (o : Op) (saw : Seen) (rest : List Step) (x : ℕ) → All TurnsLots rest → AreOff x d.lots → Spares x (worked d o saw rest).moves.transfers
worked_off d o saw [] x all off = no_moves x
worked_off d o saw (s ∷ rest) x all off =
    let here = All-head TurnsLots s rest all in turned_off x d.fixed d.lots s.first s.last _ here.first here.last off

done_in_off : (d : DriverState) (o : Op) (saw : Seen) (p : Phase) (x : ℕ) → All TurnsLots d.rest → is_act (next_in d o p) ≡ true → AreOff x d.lots → TakesOther d (next_in d o p) x → Spares x (done_in d o saw p).moves.transfers
done_in_off d o saw (Steps n) x all e off takes =
    let s = next_step_is d o n e in
    subst (λ (r : Result (Option Step) Refusal). Spares x (stepped d o (n + 1) saw r (step_at d.fixed d.lots o (n + 1))).moves.transfers) (sym s.1)
    (numbered_off d o s.0 x (next_in d o (Steps n)) (step_answer d o saw (step_at d.fixed d.lots o (n + 1))) (numbered d.fixed d.lots o n s.0 s.1) (next_takes d o n s.0 (has_start o) s.1 e) off takes)
done_in_off d o saw (Search n) x all e off takes = no_moves x
done_in_off d o saw Work x all e off takes = worked_off d o saw d.rest x all off

unless_off : (d : DriverState) (o : Op) (saw : Seen) (x : ℕ) → All TurnsLots d.rest → is_act (next_in d o d.phase) ≡ true → AreOff x d.lots → TakesOther d (next_in d o d.phase) x → Spares x (done_unless d o saw (busy saw)).moves.transfers
unless_off d o (seen.Busy g) x all e off takes = no_moves x
unless_off d o seen.Nothing x all e off takes = done_in_off d o (kept d.saw seen.Nothing) d.phase x all e off takes
unless_off d o (seen.Control control) x all e off takes = done_in_off d o (seen.Control control) d.phase x all e off takes
unless_off d o seen.Claimed x all e off takes = done_in_off d o seen.Claimed d.phase x all e off takes
unless_off d o (seen.Value value) x all e off takes = done_in_off d o (seen.Value value) d.phase x all e off takes

done_by : (d : DriverState) (saw : Seen) (o : Option Op) (x : ℕ) → All TurnsLots d.rest → is_act (next_of_op d o) ≡ true → AreOff x d.lots → TakesOther d (next_of_op d o) x → Spares x (done_of d saw o).moves.transfers
done_by d saw None x all act off takes = no_moves x
done_by d saw (Some o) x all act off takes = unless_off d o saw x all act off takes

pub done_off : (d : DriverState) (saw : Seen) (x : ℕ) → All TurnsLots d.rest → is_act (next_of d) ≡ true → AreOff x d.lots → TakesOther d (next_of d) x → Spares x (done d saw).moves.transfers
unfolding done next_of
done_off d saw x all act off takes = done_by d saw (in_hand d) x all act off takes
