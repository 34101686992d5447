-- What an answer to a try does to what a hart holds.
use Rattle.std.proofs.Common.{◌≡◌, ℕ, ◌+◌, ◌<◌, Bool, true, false, List, [], ◌∷◌, map, refl, sym, ap, ◌∙◌, subst, Option, Some, None}
use Rattle.std.specs.Prelude.{nat_lt, slice_set, if◌then◌else◌}
use Rattle.std.proofs.lemmas.Bool.{false≢true}
use Rattle.std.proofs.lemmas.List.Elements.{All-nil, All-append}
use Rattle.nc_num.specs.declared.names.HartNo.{HartNo}
use Rattle.nc_slots.specs.SlotWords.{holder_of}
use Rattle.nc_ops.specs.declared.ops.Op.{Op}
use Rattle.nc_ops.specs.declared.ops.Op.TheVariants as ops
use Rattle.nc_rules.specs.declared.answers.Refusal.TheVariants as refusals
use Rattle.nc_rules.specs.declared.lots.Lot.{Lot}
use Rattle.nc_rules.specs.declared.steps.Act.{Act}
use Rattle.nc_rules.specs.declared.steps.Act.TheVariants as acts
use Rattle.nc_rules.specs.declared.steps.Next.TheVariants as nexts
use Rattle.nc_rules.specs.declared.steps.Phase.{Phase}
use Rattle.nc_rules.specs.declared.steps.Phase.TheVariants.{Steps, Search, Work}
use Rattle.nc_rules.specs.declared.steps.Step.{Step}
use Rattle.nc_rules.specs.declared.answers.Refusal.{Refusal}
use Rattle.std.specs.Prelude.{Result, Ok, Err}
use Rattle.nc_rules.specs.Lots.{DriverConfig, is_wanted, lot_waits, some_lot_waits, slot_given}
use Rattle.nc_rules.specs.Operations.{has_start, step_at}
use Rattle.nc_rules.specs.Driver.{DriverState, in_hand, next_of, next_of_op, next_in, next_act, next_rest, next_step, searched, searching, stays, give_up, searches, told, told_of, told_in, told_word}
use Rattle.nc_scripts.specs.Drivers.{IsSettled, AreMade, made_names, IsSearching, IsPhase, IsDriver}
use Rattle.nc_scripts.proofs.Lists.{all_to}
use Rattle.nc_scripts.proofs.SlotLaws.{lots_given, apart_given, made_given}
use Rattle.nc_scripts.proofs.EveryDriver.{IsInHand, in_hand_is, new_waits}
use Rattle.nc_holds.specs.Held.{Held}
use Rattle.nc_holds.specs.Changes.{Got, changed, WaitsUnlent, IsPlanStep}
use Rattle.nc_holds.proofs.calls.Shapes.{here, As, Gets, Stays, Plainly, IsCall, CanPass}
use Rattle.nc_holds.proofs.calls.Starts.{gives_up, placed_call}

-- ---- what waits is of an operation that makes lots

no_names : (o : Op) → has_start o ≡ false → made_names o ≡ []
no_names (ops.Map label buf off len dir chan) e = absurd (false≢true (sym e))
no_names (ops.MapSg label entries dir chan) e = absurd (false≢true (sym e))
no_names (ops.Calloc label pages chan) e = absurd (false≢true (sym e))
no_names (ops.Copy chan src src_off dst dst_off len cfg) e = absurd (false≢true (sym e))
no_names _ e = refl

none_waits : (new : List Lot) → map (λ (lot : Lot). lot.id) new ≡ [] → some_lot_waits new ≡ true → ⊥
none_waits [] e w = absurd (false≢true w)
none_waits (lot ∷ new) e w = absurd (cc)

made_some : (o : Op) (lots : List Lot) → AreMade o lots → some_lot_waits lots ≡ true → made_names o ≡ [] → ⊥
made_some o lots made w e = none_waits made.new (made.names ∙ e) (new_waits made.old made.new made.settled (subst (λ (ls : List Lot). some_lot_waits ls ≡ true) made.all w))

makes_start : (o : Op) (lots : List Lot) (t : Bool) → has_start o ≡ t → AreMade o lots → some_lot_waits lots ≡ true → has_start o ≡ true
makes_start o lots true e made w = e
makes_start o lots false e made w = absurd (made_some o lots made w (no_names o e))

no_hand : (f : DriverConfig) (m : Held) (o : Op) (lots : List Lot) (buf : ℕ) (to : HartNo) → AreMade o lots → some_lot_waits lots ≡ true → o ≡ ops.Hand buf to → CanPass f m buf
no_hand f m o lots buf to made w is = absurd (made_some o lots made w (ap made_names is))

made_unlent : (o : Op) (lots : List Lot) → AreMade o lots → WaitsUnlent lots
made_unlent o lots made =
    let old = all_to IsSettled (λ (lot : Lot). lot_waits lot ≡ true → is_wanted lot.side ≡ true) made.old made.settled (λ lot h w. absurd (false≢true (sym h.placed ∙ w))) in
    let new = all_to (λ (lot : Lot). is_wanted lot.side ≡ true) (λ (lot : Lot). lot_waits lot ≡ true → is_wanted lot.side ≡ true) made.new made.wanted (λ lot h w. h) in
    subst (λ (ls : List Lot). WaitsUnlent ls) (sym made.all) (All-append (λ (lot : Lot). lot_waits lot ≡ true → is_wanted lot.side ≡ true) made.old made.new old new)

-- ---- the word

missed_if : (ram : ℕ) (d : DriverState) (s : Held) (o : Op) (k : ℕ) (t : Bool) → IsCall ram d.fixed (here s d.lots) s.slots (if t then stays (searches d (k + 1)) else give_up d o refusals.NoSlot)
missed_if ram d s o k true = record { shape = Plainly (here s d.lots) (As refl) (Stays refl refl) refl; plan = All-nil (IsPlanStep d.lots) }
missed_if ram d s o k false = gives_up ram d s o refusals.NoSlot

-- the slot words with that one where it is got
abbrev pub words_now : Bool → DriverConfig → Held → ℕ → List (Option HartNo)
words_now true f s k = slice_set s.slots k (Some f.me)
words_now false f s k = s.slots

-- what the answer needs: a word that is got was free
abbrev pub IsFree : Bool → Held → ℕ → Type 0
IsFree true s k = holder_of s.slots k ≡ None
IsFree false s k = Unit {0}

word_call : (ram harts : ℕ) (d : DriverState) (s : Held) (o : Op) (k : ℕ) (got : Bool) → IsDriver ram harts d → IsInHand harts d o → AreMade o d.lots → IsSearching d k → IsFree got s k → IsCall ram d.fixed (here s d.lots) (words_now got d.fixed s k) (told_word d o k got)
word_call ram harts d s o k true h hand made is free =
    placed_call ram harts d o (here s d.lots) (changed d.fixed (here s d.lots) (Got k)) (slice_set s.slots k (Some d.fixed.me)) (slot_given k d.lots) h.fixed hand (makes_start o d.lots (has_start o) refl made is.waits) (lots_given ram d.fixed k d.lots is.slot h.lots) (apart_given k d.lots h.apart)
    (made_given k o d.lots made) refl (λ buf to same. no_hand d.fixed (changed d.fixed (here s d.lots) (Got k)) o d.lots buf to made is.waits same)
    (Gets k (record { waits = is.waits; unlent = made_unlent o d.lots made; free = free }) is.slot refl) refl
word_call ram harts d s o k false h hand made is free = missed_if ram d s o k (nat_lt (k + 1) d.fixed.slots)

-- only a search has a slot word
act_not : (a : Act) (k : ℕ) → searched (next_act a) ≡ Some k → ⊥
act_not (acts.Op op) k e = absurd (cc)
act_not (acts.Claim chan) k e = absurd (cc)
act_not (acts.Poll chan) k e = absurd (cc)
act_not (acts.Take buf) k e = absurd (cc)

step_not : (t : Bool) (r : Result (Option Step) Refusal) (k : ℕ) → searched (if t then nexts.Start else next_step r) ≡ Some k → ⊥
step_not true r k e = absurd (cc)
step_not false (Err r) k e = absurd (cc)
step_not false (Ok None) k e = absurd (cc)
step_not false (Ok (Some s)) k e = act_not s.act k e

rest_not : (rest : List Step) (k : ℕ) → searched (next_rest rest) ≡ Some k → ⊥
rest_not [] k e = absurd (cc)
rest_not (s ∷ rest) k e = act_not s.act k e

told_in_call : (ram harts : ℕ) (d : DriverState) (s : Held) (o : Op) (p : Phase) (k : ℕ) (got : Bool) → IsDriver ram harts d → in_hand d ≡ Some o → IsPhase d p → searched (next_in d o p) ≡ Some k → IsFree got s k → IsCall ram d.fixed (here s d.lots) (words_now got d.fixed s k) (told_in d o p got)
told_in_call ram harts d s o (Steps n) k got h e is at free = absurd (step_not (has_start o) (step_at d.fixed d.lots o n) k at)
told_in_call ram harts d s o (Search n) k got h e is at free =
    let same : k ≡ n = cc in
    subst (λ (i : ℕ). IsCall ram d.fixed (here s d.lots) (words_now got d.fixed s i) (told_in d o (Search n) got)) (sym same)
    (word_call ram harts d s o n got h (in_hand_is ram harts d o h.fixed e) (is.made o e) is (subst (λ (i : ℕ). IsFree got s i) same free))
told_in_call ram harts d s o Work k got h e is at free = absurd (rest_not d.rest k at)

told_by : (ram harts : ℕ) (d : DriverState) (s : Held) (o : Option Op) (k : ℕ) (got : Bool) → IsDriver ram harts d → in_hand d ≡ o → searched (next_of_op d o) ≡ Some k → IsFree got s k → IsCall ram d.fixed (here s d.lots) (words_now got d.fixed s k) (told_of d o got)
told_by ram harts d s None k got h e at free = absurd (cc)
told_by ram harts d s (Some o) k got h e at free = told_in_call ram harts d s o d.phase k got h e h.phase at free

pub told_call : (ram harts : ℕ) (d : DriverState) (s : Held) (k : ℕ) (got : Bool) → IsDriver ram harts d → searching d ≡ Some k → IsFree got s k → IsCall ram d.fixed (here s d.lots) (words_now got d.fixed s k) (told d got)
unfolding told searching next_of
told_call ram harts d s k got h at free = told_by ram harts d s (in_hand d) k got h refl at free

-- the word that it tries is one of the slots
slot_of : (d : DriverState) (o : Op) (p : Phase) (k : ℕ) → IsPhase d p → searched (next_in d o p) ≡ Some k → k < d.fixed.slots
slot_of d o (Steps n) k is at = absurd (step_not (has_start o) (step_at d.fixed d.lots o n) k at)
slot_of d o (Search n) k is at = let same : n ≡ k = cc in subst (λ (i : ℕ). i < d.fixed.slots) same is.slot
slot_of d o Work k is at = absurd (rest_not d.rest k at)

slot_by : (d : DriverState) (o : Option Op) (k : ℕ) → IsPhase d d.phase → searched (next_of_op d o) ≡ Some k → k < d.fixed.slots
slot_by d None k is at = absurd (cc)
slot_by d (Some o) k is at = slot_of d o d.phase k is at

pub slot_there : (ram harts : ℕ) (d : DriverState) (k : ℕ) → IsDriver ram harts d → searching d ≡ Some k → k < d.fixed.slots
unfolding searching next_of
slot_there ram harts d k h at = slot_by d (in_hand d) k h.phase at

-- an answer that is not got begins with nothing
pub missed_is : (ram harts : ℕ) (d : DriverState) (s : Held) (k : ℕ) → IsDriver ram harts d → searching d ≡ Some k → IsCall ram d.fixed (here s d.lots) s.slots (told d false)
missed_is ram harts d s k h at = told_call ram harts d s k false h at tt
