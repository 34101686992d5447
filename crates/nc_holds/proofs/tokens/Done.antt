-- What the calls of a driver leave of its rest, its messages and its tokens: a step that is made, and a token that is out.
use Rattle.std.specs.Prelude.{All, Option, Some, None, Result, Ok, Err, ◌⊎◌, if◌then◌else◌}
use Rattle.std.proofs.Common.{◌≡◌, ℕ, ◌+◌, Bool, true, false, List, [], ◌∷◌, refl, sym, ap, ◌∙◌, inl, inr, subst}
use Rattle.std.proofs.lemmas.Bool.{false≢true}
use Rattle.std.proofs.lemmas.List.Elements.{All-head, All-tail}
use Rattle.nc_num.specs.declared.names.Label.{Label}
use Rattle.nc_ops.specs.declared.ops.Op.{Op}
use Rattle.nc_rules.specs.declared.answers.Refusal.{Refusal}
use Rattle.nc_rules.specs.declared.answers.Refusal.TheVariants as refusals
use Rattle.nc_rules.specs.declared.lots.Lot.{Lot}
use Rattle.nc_rules.specs.declared.lots.LotId.{LotId}
use Rattle.nc_rules.specs.declared.steps.Act.{Act}
use Rattle.nc_rules.specs.declared.steps.Act.TheVariants as acts
use Rattle.nc_rules.specs.declared.steps.Next.{Next}
use Rattle.nc_rules.specs.declared.steps.Next.TheVariants as nexts
use Rattle.nc_rules.specs.declared.steps.Phase.{Phase}
use Rattle.nc_rules.specs.declared.steps.Phase.TheVariants.{Steps, Search, Work}
use Rattle.nc_rules.specs.declared.steps.Seen.{Seen}
use Rattle.nc_rules.specs.declared.steps.Seen.TheVariants as seen
use Rattle.nc_rules.specs.declared.steps.Step.{Step}
use Rattle.nc_rules.specs.declared.steps.Turn.{Turn}
use Rattle.nc_rules.specs.declared.steps.Turn.TheVariants as turns
use Rattle.nc_rules.specs.Lots.{DriverConfig, lot_id}
use Rattle.nc_rules.specs.Turns.{lots_after, lots_after_both}
use Rattle.nc_rules.specs.Operations.{step_at, has_start}
use Rattle.nc_rules.specs.Driver.{DriverState, in_hand, next_of, next_of_op, next_in, next_step, next_rest, next_act, kept, busy, stepped_to, stepped, worked, done, done_of, done_unless, done_in, lent}
use Rattle.nc_scripts.specs.Scripts.{is_act}
use Rattle.nc_scripts.specs.Drivers.{is_claim, ClaimsNothing, ClaimsFirst, IsAtWork, IsPhase, IsDriver, IsSeenAt}
use Rattle.nc_scripts.proofs.DriverLaws.{next_step_is}
use Rattle.nc_holds.specs.Messages.{mail_steps}
use Rattle.nc_holds.specs.Tokens.{HasLent, token_op, token_act, waits_op, waits_act, TokenStays, TokensFollow}
use Rattle.nc_holds.specs.Rests.{TokenIsLight, ClaimsAlone, RestAgrees}
use Rattle.nc_holds.proofs.messages.Steps.{Numbered, Quietly, Takes, numbered}
use Rattle.nc_holds.proofs.tokens.Lots.{give_alike}
use Rattle.nc_holds.proofs.tokens.Rests.{stays_has, stays_alike, follow_alike}
use Rattle.nc_holds.proofs.tokens.Calls.{Leaves, AllLent, over_leaves, counted_leaves, went_leaves, gives_up, Before}

-- what comes next is made only while no entry of class O is queued, or queues a token
abbrev pub waits_next : Next → Bool
waits_next nexts.End = false
waits_next nexts.Start = false
waits_next (nexts.Search k) = false
waits_next (nexts.Op op) = waits_op op
waits_next (nexts.Claim chan) = true
waits_next (nexts.Poll chan) = true
waits_next (nexts.Take buf) = true

abbrev pub token_next : Next → Option LotId
token_next nexts.End = None
token_next nexts.Start = None
token_next (nexts.Search k) = None
token_next (nexts.Op op) = token_op op
token_next (nexts.Claim chan) = None
token_next (nexts.Poll chan) = None
token_next (nexts.Take buf) = None

next_waits : (a : Act) → waits_next (next_act a) ≡ waits_act a
next_waits (acts.Op op) = refl
next_waits (acts.Claim chan) = refl
next_waits (acts.Poll chan) = refl
next_waits (acts.Take buf) = refl

pub next_token : (a : Act) → token_next (next_act a) ≡ token_act a
next_token (acts.Op op) = refl
next_token (acts.Claim chan) = refl
next_token (acts.Poll chan) = refl
next_token (acts.Take buf) = refl

-- a token is queued already, where the step that comes next does not wait, or with that step
abbrev pub QueuedBy : DriverState → Next → LotId → Type 0
QueuedBy d next i = (TokenStays i d.lots d.rest × (waits_next next ≡ true → ⊥)) ⊎ (token_next next ≡ Some i)

none_some : (i : LotId) → ◌≡◌ {A = Option LotId} None (Some i) → ⊥
none_some i e = absurd cc

-- ---- by number

both_still : (f : DriverConfig) (o : Op) (s : Step) (lots : List Lot) → Numbered f o s → lots_after_both s.first s.last lots ≡ lots
both_still f o s lots (Quietly h) = ap (λ (t : Turn). lots_after_both t s.last lots) h.first ∙ ap (λ (t : Turn). lots_after t lots) h.last
both_still f o s lots (Takes buf op e) = subst (λ (u : Step). lots_after_both u.first u.last lots ≡ lots) e refl

pub numbered_token : (f : DriverConfig) (o : Op) (s : Step) → Numbered f o s → token_act s.act ≡ None
numbered_token f o s (Quietly h) = h.act.token
numbered_token f o s (Takes buf op e) = subst (λ (u : Step). token_act u.act ≡ None) e refl

stepped_to_leaves : (P : LotId → Type 0) (N : Type 0) (d : DriverState) (n : ℕ) (lots : List Lot) (saw : Seen) (r : Result (Option Step) Refusal) → AllLent P lots → Leaves P N (stepped_to d n lots saw r)
stepped_to_leaves P N d n lots saw (Err r) lent = counted_leaves P N d n lots saw lent
stepped_to_leaves P N d n lots saw (Ok (Some s)) lent = counted_leaves P N d n lots saw lent
stepped_to_leaves P N d n lots saw (Ok None) lent = over_leaves P N d lots lent

pub step_token : (d : DriverState) (o : Op) (n : ℕ) (s : Step) (t : Bool) → step_at d.fixed d.lots o n ≡ Ok (Some s) → token_next (if t then nexts.Start else next_step (step_at d.fixed d.lots o n)) ≡ None
step_token d o n s true e = refl
step_token d o n s false e =
    ap (λ (r : Result (Option Step) Refusal). token_next (next_step r)) e ∙ next_token s.act ∙ numbered_token d.fixed o s (numbered d.fixed d.lots o n s e)

stepped_leaves : (P : LotId → Type 0) (N : Type 0) (d : DriverState) (o : Op) (n : ℕ) (saw : Seen) (s : Step) (r : Result (Option Step) Refusal) → step_at d.fixed d.lots o n ≡ Ok (Some s) → ((i : LotId) → P i → QueuedBy d (next_in d o (Steps n)) i)
    → Leaves P N (stepped d o (n + 1) saw (Ok (Some s)) r).driver
stepped_leaves P N d o n saw s r e queued =
    stepped_to_leaves P N d (n + 1) (lots_after_both s.first s.last d.lots) saw r
    (λ i has. subst (λ (ls : List Lot). HasLent ls i) (sym (both_still d.fixed o s d.lots (numbered d.fixed d.lots o n s e))) (elim (queued i has) [
      | inl before ↦ stays_has i d.lots d.rest before.0
      | inr new ↦ absurd (none_some i (sym (step_token d o n s (has_start o) e) ∙ new))
    ]))

-- ---- by a plan

claims_behind : (rest : List Step) → ClaimsNothing rest → ClaimsAlone rest
claims_behind [] h = tt
claims_behind (s ∷ rest) h = λ e. absurd (false≢true (sym (All-head (λ (s : Step). is_claim s.act ≡ false) s rest h) ∙ e))

goes_on : (d : DriverState) (s : Step) (rest : List Step) (i : LotId) → d.rest ≡ s ∷ rest → TokensFollow d.lots (s ∷ rest) → QueuedBy d (next_rest (s ∷ rest)) i → TokenStays i (lots_after_both s.first s.last d.lots) rest
goes_on d s rest i e follows (inr new) = follows.0 i (sym (next_token s.act) ∙ new)
goes_on d s rest i e follows (inl (here, free)) = elim (subst (λ (r : List Step). TokenStays i d.lots r) e here).1 [
  | inl waits ↦ absurd (free (next_waits s.act ∙ waits))
  | inr more ↦ more
]

worked_leaves : (ram harts : ℕ) (P : LotId → Type 0) (d : DriverState) (o : Op) (saw : Seen) (rest : List Step) → d.rest ≡ rest → IsAtWork d → RestAgrees d → TokensFollow d.lots d.rest → is_act (next_rest rest) ≡ true → ((i : LotId) → P i → QueuedBy d (next_rest rest) i)
    → Leaves P ⊥ (worked d o saw rest).driver
worked_leaves ram harts P d o saw [] e k b follows act queued = absurd (false≢true act)
worked_leaves ram harts P d o saw (s ∷ rest) e k b follows act queued =
    let follow = subst (λ (r : List Step). TokensFollow d.lots r) e follows in
    let claims = subst (λ (r : List Step). ClaimsFirst d.lots r) e k.claims in
    let light = subst (λ (r : List Step). All (TokenIsLight d.fixed.light) r) e b.tokens in
    went_leaves P ⊥ d (lots_after_both s.first s.last d.lots) saw rest (All-tail (TokenIsLight d.fixed.light) s rest light) (claims_behind rest claims.1) follow.1 (λ i has. goes_on d s rest i e follow (queued i has)) (λ none. absurd none)

-- ---- a step

done_in_leaves : (ram harts : ℕ) (P : LotId → Type 0) (d : DriverState) (o : Op) (saw : Seen) (p : Phase) → IsPhase d p → RestAgrees d → TokensFollow d.lots d.rest → is_act (next_in d o p) ≡ true → ((i : LotId) → P i → QueuedBy d (next_in d o p) i)
    → Leaves P ⊥ (done_in d o saw p).driver
done_in_leaves ram harts P d o saw (Steps n) phase b follows e queued =
    let s = next_step_is d o n e in
    subst (λ (r : Result (Option Step) Refusal). Leaves P ⊥ (stepped d o (n + 1) saw r (step_at d.fixed d.lots o (n + 1))).driver) (sym s.1)
    (stepped_leaves P ⊥ d o n saw s.0 (step_at d.fixed d.lots o (n + 1)) s.1 queued)
done_in_leaves ram harts P d o saw (Search n) phase b follows e queued = absurd (false≢true e)
done_in_leaves ram harts P d o saw Work phase b follows e queued = worked_leaves ram harts P d o saw d.rest refl phase b follows e queued

-- a claim that finds the channel granted
busy_lent : (P : LotId → Type 0) (d : DriverState) (next : Next) (chan : ℕ) → next ≡ nexts.Claim (record { 0 = chan }) → ((i : LotId) → P i → QueuedBy d next i) → AllLent P d.lots
busy_lent P d next chan e queued i has = elim (queued i has) [
  | inl before ↦ absurd (before.1 (ap waits_next e))
  | inr new ↦ absurd (none_some i (sym (ap token_next e) ∙ new))
]

unless_leaves : (ram harts : ℕ) (P : LotId → Type 0) (d : DriverState) (o : Op) (saw : Seen) → IsDriver ram harts d → RestAgrees d → TokensFollow d.lots d.rest → is_act (next_in d o d.phase) ≡ true → IsSeenAt (next_in d o d.phase) saw
    → ((i : LotId) → P i → QueuedBy d (next_in d o d.phase) i) → Leaves P ⊥ (done_unless d o saw (busy saw)).driver
unless_leaves ram harts P d o (seen.Busy g) h b follows e at queued = gives_up P ⊥ d o (refusals.ChannelBusy g) (busy_lent P d (next_in d o d.phase) at.0 at.1 queued)
unless_leaves ram harts P d o seen.Nothing h b follows e at queued = done_in_leaves ram harts P d o (kept d.saw seen.Nothing) d.phase h.phase b follows e queued
unless_leaves ram harts P d o (seen.Control control) h b follows e at queued = done_in_leaves ram harts P d o (seen.Control control) d.phase h.phase b follows e queued
unless_leaves ram harts P d o seen.Claimed h b follows e at queued = done_in_leaves ram harts P d o seen.Claimed d.phase h.phase b follows e queued
unless_leaves ram harts P d o (seen.Value value) h b follows e at queued = done_in_leaves ram harts P d o (seen.Value value) d.phase h.phase b follows e queued

done_by : (ram harts : ℕ) (P : LotId → Type 0) (d : DriverState) (saw : Seen) (o : Option Op) → IsDriver ram harts d → RestAgrees d → TokensFollow d.lots d.rest → is_act (next_of_op d o) ≡ true → IsSeenAt (next_of_op d o) saw
    → ((i : LotId) → P i → QueuedBy d (next_of_op d o) i) → Leaves P ⊥ (done_of d saw o).driver
done_by ram harts P d saw None h b follows act at queued = absurd (false≢true act)
done_by ram harts P d saw (Some o) h b follows act at queued = unless_leaves ram harts P d o saw h b follows act at queued

pub done_leaves : (ram harts : ℕ) (P : LotId → Type 0) (d : DriverState) (saw : Seen) → IsDriver ram harts d → RestAgrees d → TokensFollow d.lots d.rest → is_act (next_of d) ≡ true → IsSeenAt (next_of d) saw
    → ((i : LotId) → P i → QueuedBy d (next_of d) i) → Leaves P ⊥ (done d saw).driver
unfolding done next_of
done_leaves ram harts P d saw h b follows act at queued = done_by ram harts P d saw (in_hand d) h b follows act at queued

-- ---- a token is out

pub lent_leaves : (P : LotId → Type 0) (d : DriverState) (label : Label) (first : ℕ) → Before P d → Leaves P (d.rest ≡ []) (lent d label first).driver
unfolding lent
lent_leaves P d label first b =
    let alike = give_alike (lot_id label first) d.lots in
    record {
      rest = record { idle = b.rest.idle; tokens = b.rest.tokens; claims = b.rest.claims };
      follows = follow_alike d.lots (lots_after (turns.Give (lot_id label first)) d.lots) d.rest alike b.follows;
      stays = λ i has. stays_alike i d.lots (lots_after (turns.Give (lot_id label first)) d.lots) d.rest alike (b.stays i has);
      mails = λ none n. ap (mail_steps n) none;
    }
