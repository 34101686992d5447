-- What the calls of a driver leave of its rest, its messages and its tokens: its start, and a slot word that it is told of.
use Rattle.std.specs.Prelude.{All, Option, Some, None, Result, Ok, Err, ◌<◌, nat_lt, if◌then◌else◌}
use Rattle.std.proofs.Common.{◌≡◌, ℕ, ◌+◌, Bool, true, false, List, [], ◌∷◌, ◌++◌, length, map, refl, ap, ◌∙◌, subst, arith}
use Rattle.std.proofs.lemmas.Bool.{false≢true}
use Rattle.std.proofs.lemmas.List.Elements.{All-nil, All-append}
use Rattle.nc_num.specs.declared.names.HartNo.{HartNo}
use Rattle.nc_model.specs.declared.owners.Owner.{Owner}
use Rattle.nc_coherent.specs.Pages.{PageMap}
use Rattle.nc_ops.specs.declared.ops.Op.{Op}
use Rattle.nc_ops.specs.declared.ops.Op.TheVariants as ops
use Rattle.nc_rules.specs.declared.answers.Refusal.{Refusal}
use Rattle.nc_rules.specs.declared.answers.Refusal.TheVariants as refusals
use Rattle.nc_rules.specs.declared.lots.Lot.{Lot}
use Rattle.nc_rules.specs.declared.lots.LotId.{LotId}
use Rattle.nc_rules.specs.declared.steps.Act.{Act}
use Rattle.nc_rules.specs.declared.steps.Act.TheVariants as acts
use Rattle.nc_rules.specs.declared.steps.Next.TheVariants as nexts
use Rattle.nc_rules.specs.declared.steps.Phase.{Phase}
use Rattle.nc_rules.specs.declared.steps.Phase.TheVariants.{Steps, Search, Work}
use Rattle.nc_rules.specs.declared.steps.Seen.{Seen}
use Rattle.nc_rules.specs.declared.steps.Step.{Step}
use Rattle.nc_rules.specs.Lots.{some_lot_waits, slot_given}
use Rattle.nc_rules.specs.Turns.{lots_after, without_wanted}
use Rattle.nc_rules.specs.Operations.{step_at, has_start, begin, opening, plan_of}
use Rattle.nc_rules.specs.Driver.{DriverState, in_hand, next_of, next_of_op, next_in, next_rest, next_act, over, stands, stays, give_up, went_to, opened, searches, placed, with_lots, begun, refused_step, steps_done, started, started_of, told, told_of, told_in, told_word}
use Rattle.nc_scripts.specs.Drivers.{ArePagesOf, IsLotIn, IsSettled, AreMade, made_names, IsSearching, IsPhase, IsDriver}
use Rattle.nc_scripts.proofs.NewLots.{AreNew, new_is}
use Rattle.nc_scripts.proofs.SlotLaws.{lots_given}
use Rattle.nc_scripts.proofs.EveryDriver.{IsInHand, in_hand_is, new_waits}
use Rattle.nc_holds.specs.Messages.{mail_steps}
use Rattle.nc_holds.specs.Tokens.{HasLent, TokenStays, TokensFollow}
use Rattle.nc_holds.specs.Rests.{TokenIsLight, ClaimsAlone, RestAt, RestAgrees}
use Rattle.nc_holds.proofs.tokens.Keeps.{left_has, made_has, given_has}
use Rattle.nc_holds.proofs.tokens.Rests.{stays_has}
use Rattle.nc_holds.proofs.tokens.Plans.{NotWaited, NoHand}
use Rattle.nc_holds.proofs.tokens.Copies.{opens_so}

-- what a call leaves, where tokens of such names are queued, and messages are to be none
pub record Leaves (P : LotId → Type 0) (N : Type 0) (now : DriverState) : Type 0 where
  pub rest : RestAgrees now
  pub follows : TokensFollow now.lots now.rest
  pub stays : (i : LotId) → P i → TokenStays i now.lots now.rest
  pub mails : N → (b : ℕ) → mail_steps b now.rest ≡ []

-- each of these lots is lent
abbrev pub AllLent : (LotId → Type 0) → List Lot → Type 0
AllLent P lots = (i : LotId) → P i → HasLent lots i

-- ---- where a driver goes on to

pub over_leaves : (P : LotId → Type 0) (N : Type 0) (d : DriverState) (lots : List Lot) → AllLent P lots → Leaves P N (over d lots)
over_leaves P N d lots lent = record {
  rest = record { idle = refl; tokens = All-nil (TokenIsLight d.fixed.light); claims = tt };
  follows = tt;
  stays = lent;
  mails = λ _ b. refl;
}

pub counted_leaves : (P : LotId → Type 0) (N : Type 0) (d : DriverState) (n : ℕ) (lots : List Lot) (saw : Seen) → AllLent P lots → Leaves P N (stands d (Steps n) [] lots saw)
counted_leaves P N d n lots saw lent = record {
  rest = record { idle = refl; tokens = All-nil (TokenIsLight d.fixed.light); claims = tt };
  follows = tt;
  stays = lent;
  mails = λ _ b. refl;
}

searches_leaves : (P : LotId → Type 0) (N : Type 0) (d : DriverState) (k : ℕ) → AllLent P d.lots → Leaves P N (searches d k)
searches_leaves P N d k lent = record {
  rest = record { idle = refl; tokens = All-nil (TokenIsLight d.fixed.light); claims = tt };
  follows = tt;
  stays = lent;
  mails = λ _ b. refl;
}

pub went_leaves : (P : LotId → Type 0) (N : Type 0) (d : DriverState) (lots : List Lot) (saw : Seen) (rest : List Step) → All (TokenIsLight d.fixed.light) rest → ClaimsAlone rest → TokensFollow lots rest
    → ((i : LotId) → P i → TokenStays i lots rest) → (N → (b : ℕ) → mail_steps b rest ≡ []) → Leaves P N (went_to d lots saw rest)
went_leaves P N d lots saw [] light claims follows stays mails = over_leaves P N d lots stays
went_leaves P N d lots saw (s ∷ rest) light claims follows stays mails = record {
  rest = record { idle = tt; tokens = light; claims = claims };
  follows = follows;
  stays = stays;
  mails = mails;
}

pub gives_up : (P : LotId → Type 0) (N : Type 0) (d : DriverState) (o : Op) (r : Refusal) → AllLent P d.lots → Leaves P N (give_up d o r).driver
gives_up P N d o r lent = over_leaves P N d (without_wanted d.lots) (λ i has. left_has d.lots i (lent i has))

-- ---- a plan is opened, or a slot is wanted first

opened_leaves : (ram harts : ℕ) (P : LotId → Type 0) (d : DriverState) (o : Op) (lots : List Lot) → IsInHand harts d o → has_start o ≡ true → All (IsLotIn ram d.fixed) lots → AllLent P lots → ((i : LotId) → P i → NotWaited o i)
    → Leaves P (NoHand o) (opened (with_lots d lots) o).driver
opened_leaves ram harts P d o lots k start all lent free =
    let h = opens_so ram harts d.fixed lots o k.fits start all in
    went_leaves P (NoHand o) (with_lots d lots) (lots_after (opening d.fixed lots o) lots) d.saw (plan_of d.fixed lots o) h.light h.claims h.follows (λ i has. h.stays i (free i has) (lent i has)) h.mails

placed_by : (ram harts : ℕ) (P : LotId → Type 0) (d : DriverState) (o : Op) (lots : List Lot) (t : Bool) → IsInHand harts d o → has_start o ≡ true → All (IsLotIn ram d.fixed) lots → AllLent P lots → ((i : LotId) → P i → NotWaited o i)
    → Leaves P (NoHand o) (if t then stays (searches (with_lots d lots) 0) else opened (with_lots d lots) o).driver
placed_by ram harts P d o lots true k start all lent free = searches_leaves P (NoHand o) (with_lots d lots) 0 lent
placed_by ram harts P d o lots false k start all lent free = opened_leaves ram harts P d o lots k start all lent free

placed_leaves : (ram harts : ℕ) (P : LotId → Type 0) (d : DriverState) (o : Op) (lots : List Lot) → IsInHand harts d o → has_start o ≡ true → All (IsLotIn ram d.fixed) lots → AllLent P lots → ((i : LotId) → P i → NotWaited o i)
    → Leaves P (NoHand o) (placed (with_lots d lots) o).driver
placed_leaves ram harts P d o lots k start all lent free = placed_by ram harts P d o lots (some_lot_waits lots) k start all lent free

-- ---- a start

begun_leaves : (ram harts : ℕ) (P : LotId → Type 0) (d : DriverState) (o : Op) (r : Result (List Lot) Refusal) → IsDriver ram harts d → IsInHand harts d o → has_start o ≡ true → ((new : List Lot) → r ≡ Ok new → AreNew ram d.fixed o d.lots new)
    → AllLent P d.lots → ((i : LotId) → P i → NotWaited o i) → Leaves P (NoHand o) (begun d o r).driver
begun_leaves ram harts P d o (Err r) h k start news lent free = gives_up P (NoHand o) d o r lent
begun_leaves ram harts P d o (Ok new) h k start news lent free =
    let n = news new refl in
    placed_leaves ram harts P d o (d.lots ++ new) k start (All-append (IsLotIn ram d.fixed) d.lots new h.lots n.each) (λ i has. made_has d.lots new i n.apart (lent i has)) free

refused_leaves : (P : LotId → Type 0) (N : Type 0) (d : DriverState) (o : Op) (r : Result (Option Step) Refusal) → AllLent P d.lots → Leaves P N d → Leaves P N (refused_step d o r).driver
refused_leaves P N d o (Err r) lent h = gives_up P N d o r lent
refused_leaves P N d o (Ok s) lent h = h

started_if : (ram harts : ℕ) (P : LotId → Type 0) (d : DriverState) (ws : List Owner) (pool : PageMap) (o : Op) (t : Bool) (r : Result (Option Step) Refusal) → IsDriver ram harts d → All IsSettled d.lots → ArePagesOf d.fixed pool → in_hand d ≡ Some o → has_start o ≡ t
    → AllLent P d.lots → ((i : LotId) → P i → NotWaited o i) → Leaves P (NoHand o) d → Leaves P (NoHand o) (if t then begun d o (begin d.fixed d.lots ws pool o) else refused_step d o r).driver
started_if ram harts P d ws pool o true r h settled of e start lent free same =
    let k = in_hand_is ram harts d o h.fixed e in
    begun_leaves ram harts P d o (begin d.fixed d.lots ws pool o) h k start (λ new is. new_is ram harts d.fixed d.lots new ws pool o h.fixed settled h.apart of k.fits is) lent free
started_if ram harts P d ws pool o false r h settled of e start lent free same = refused_leaves P (NoHand o) d o r lent same

next_act_not : (a : Act) → next_act a ≡ nexts.Start → ⊥
next_act_not (acts.Op op) e = absurd (cc)
next_act_not (acts.Claim chan) e = absurd (cc)
next_act_not (acts.Poll chan) e = absurd (cc)
next_act_not (acts.Take buf) e = absurd (cc)

pub next_rest_not : (rest : List Step) → 0 < length rest → next_rest rest ≡ nexts.Start → ⊥
next_rest_not [] lt e = absurd (omega arith)
next_rest_not (s ∷ rest) lt e = next_act_not s.act e

-- where a start step comes next, lots are settled and no plan is left
pub start_at : (d : DriverState) (o : Op) (p : Phase) → IsPhase d p → RestAt p d.rest → next_in d o p ≡ nexts.Start → All IsSettled d.lots × (d.rest ≡ [])
start_at d o (Steps n) h idle e = (h.settled, idle)
start_at d o (Search k) h idle e = absurd (cc)
start_at d o Work h idle e = absurd (next_rest_not d.rest h.some e)

-- what is known of a driver before its call
pub record Before (P : LotId → Type 0) (d : DriverState) : Type 0 where
  pub rest : RestAgrees d
  pub follows : TokensFollow d.lots d.rest
  pub stays : (i : LotId) → P i → TokenStays i d.lots d.rest

before_lent : (P : LotId → Type 0) (d : DriverState) → Before P d → AllLent P d.lots
before_lent P d h i has = stays_has i d.lots d.rest (h.stays i has)

before_leaves : (P : LotId → Type 0) (N : Type 0) (d : DriverState) → Before P d → (N → d.rest ≡ []) → Leaves P N d
before_leaves P N d h none = record { rest = h.rest; follows = h.follows; stays = h.stays; mails = λ n b. ap (mail_steps b) (none n) }

started_by : (ram harts : ℕ) (P : LotId → Type 0) (d : DriverState) (ws : List Owner) (pool : PageMap) (o : Op) → IsDriver ram harts d → Before P d → ArePagesOf d.fixed pool → in_hand d ≡ Some o → next_in d o d.phase ≡ nexts.Start
    → ((i : LotId) → P i → NotWaited o i) → Leaves P (NoHand o) (started_of d ws pool (Some o)).driver
started_by ram harts P d ws pool o h b of e start free =
    let at = start_at d o d.phase h.phase b.rest.idle start in
    started_if ram harts P d ws pool o (has_start o) (step_at d.fixed d.lots o (steps_done d.phase)) h at.0 of e refl (before_lent P d b) free (before_leaves P (NoHand o) d b (λ _. at.1))

-- no hand is in hand
abbrev pub HandsNone : DriverState → Type 0
HandsNone d = (buf : ℕ) (to : HartNo) → in_hand d ≡ Some (ops.Hand buf to) → ⊥

abbrev pub Unwaited : (LotId → Type 0) → DriverState → Type 0
Unwaited P d = (i : LotId) → P i → (o : Op) → in_hand d ≡ Some o → NotWaited o i

weaken : (P : LotId → Type 0) (N M : Type 0) (now : DriverState) → (M → N) → Leaves P N now → Leaves P M now
weaken P N M now f h = record { rest = h.rest; follows = h.follows; stays = h.stays; mails = λ m. h.mails (f m) }

started_in : (ram harts : ℕ) (P : LotId → Type 0) (d : DriverState) (ws : List Owner) (pool : PageMap) (o : Option Op) → IsDriver ram harts d → Before P d → ArePagesOf d.fixed pool → in_hand d ≡ o → next_of_op d o ≡ nexts.Start
    → Unwaited P d → Leaves P (HandsNone d) (started_of d ws pool o).driver
started_in ram harts P d ws pool None h b of e start free = absurd cc
started_in ram harts P d ws pool (Some o) h b of e start free =
    weaken P (NoHand o) (HandsNone d) (started_of d ws pool (Some o)).driver (λ none buf to is. none buf to (e ∙ ap (λ (p : Op). Some p) is))
    (started_by ram harts P d ws pool o h b of e start (λ i has. free i has o e))

pub started_leaves : (ram harts : ℕ) (P : LotId → Type 0) (d : DriverState) (ws : List Owner) (pool : PageMap) → IsDriver ram harts d → Before P d → ArePagesOf d.fixed pool → next_of d ≡ nexts.Start
    → Unwaited P d → Leaves P (HandsNone d) (started d ws pool).driver
unfolding started next_of
started_leaves ram harts P d ws pool h b of start free = started_in ram harts P d ws pool (in_hand d) h b of refl start free

-- ---- a slot word is told

none_waits : (new : List Lot) → map (λ (lot : Lot). lot.id) new ≡ [] → some_lot_waits new ≡ true → ⊥
none_waits [] e w = absurd (false≢true w)
none_waits (lot ∷ new) e w = absurd (cc)

pub makes_some : (o : Op) (lots : List Lot) → AreMade o lots → some_lot_waits lots ≡ true → made_names o ≡ [] → ⊥
makes_some o lots made w none =
    none_waits made.new (made.names ∙ none) (new_waits made.old made.new made.settled (subst (λ (ls : List Lot). some_lot_waits ls ≡ true) made.all w))

-- an operation that makes lots
pub record Makes (o : Op) : Type 0 where
  pub start : has_start o ≡ true
  pub free : (i : LotId) → NotWaited o i
  pub hand : NoHand o

pub makes : (o : Op) → (made_names o ≡ [] → ⊥) → Makes o
makes (ops.Map label buf off len dir chan) h = record { start = refl; free = λ i l e. absurd cc; hand = λ b to e. absurd cc }
makes (ops.MapSg label entries dir chan) h = record { start = refl; free = λ i l e. absurd cc; hand = λ b to e. absurd cc }
makes (ops.Calloc label pages chan) h = record { start = refl; free = λ i l e. absurd cc; hand = λ b to e. absurd cc }
makes (ops.Copy chan src src_off dst dst_off len cfg) h = record { start = refl; free = λ i l e. absurd cc; hand = λ b to e. absurd cc }
makes _ h = absurd (h refl)

missed_by : (P : LotId → Type 0) (N : Type 0) (d : DriverState) (o : Op) (k : ℕ) (t : Bool) → AllLent P d.lots → Leaves P N (if t then stays (searches d (k + 1)) else give_up d o refusals.NoSlot).driver
missed_by P N d o k true lent = searches_leaves P N d (k + 1) lent
missed_by P N d o k false lent = gives_up P N d o refusals.NoSlot lent

word_leaves : (ram harts : ℕ) (P : LotId → Type 0) (N : Type 0) (d : DriverState) (o : Op) (k : ℕ) (got : Bool) → IsDriver ram harts d → in_hand d ≡ Some o → IsSearching d k → AllLent P d.lots → Leaves P N (told_word d o k got).driver
word_leaves ram harts P N d o k true h e s lent =
    let m = makes o (makes_some o d.lots (s.made o e) s.waits) in
    weaken P (NoHand o) N (told_word d o k true).driver (λ _. m.hand)
    (placed_leaves ram harts P d o (slot_given k d.lots) (in_hand_is ram harts d o h.fixed e) m.start (lots_given ram d.fixed k d.lots s.slot h.lots) (λ i has. given_has k d.lots i (lent i has)) (λ i has. m.free i))
word_leaves ram harts P N d o k false h e s lent = missed_by P N d o k (nat_lt (k + 1) d.fixed.slots) lent

told_in_leaves : (ram harts : ℕ) (P : LotId → Type 0) (d : DriverState) (o : Op) (p : Phase) (got : Bool) → IsDriver ram harts d → in_hand d ≡ Some o → IsPhase d p → Before P d → Leaves P (d.rest ≡ []) (told_in d o p got).driver
told_in_leaves ram harts P d o (Steps n) got h e k b = before_leaves P (d.rest ≡ []) d b (λ n. n)
told_in_leaves ram harts P d o (Search n) got h e k b = word_leaves ram harts P (d.rest ≡ []) d o n got h e k (before_lent P d b)
told_in_leaves ram harts P d o Work got h e k b = before_leaves P (d.rest ≡ []) d b (λ n. n)

told_by : (ram harts : ℕ) (P : LotId → Type 0) (d : DriverState) (o : Option Op) (got : Bool) → IsDriver ram harts d → in_hand d ≡ o → Before P d → Leaves P (d.rest ≡ []) (told_of d o got).driver
told_by ram harts P d None got h e b = before_leaves P (d.rest ≡ []) d b (λ n. n)
told_by ram harts P d (Some o) got h e b = told_in_leaves ram harts P d o d.phase got h e h.phase b

pub told_leaves : (ram harts : ℕ) (P : LotId → Type 0) (d : DriverState) (got : Bool) → IsDriver ram harts d → Before P d → Leaves P (d.rest ≡ []) (told d got).driver
unfolding told
told_leaves ram harts P d got h b = told_by ram harts P d (in_hand d) got h refl b
