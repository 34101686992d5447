-- Every driver of an accepted scenario stays one, and what it does next and changes is there.
use Rattle.std.proofs.Common.{◌≡◌, ℕ, ◌+◌, ◌<◌, ◌≤◌, Bool, true, false, List, [], ◌∷◌, ◌++◌, length, map, refl, sym, ap, ◌∙◌, subst, arith, cond, Option, Some, None, Result, Ok, Err}
use Rattle.std.specs.Prelude.{All, EachIndex, slice_index, filter, nat_lt, ◌||◌, not, if◌then◌else◌}
use Rattle.std.proofs.lemmas.Bool.{false≢true}
use Rattle.std.proofs.lemmas.Bool.Decides.{nat_tests}
use Rattle.std.proofs.lemmas.List.{length-map, map-append}
use Rattle.std.proofs.lemmas.List.Folds.{list_any-append, list_any_none}
use Rattle.std.proofs.lemmas.List.Elements.{All-nil, All-head, All-tail, All-map, All-append}
use Rattle.std.proofs.lemmas.Option.{slice_get_within, get_or_from_slice_get}
use Rattle.nc_num.specs.declared.names.HartNo.{HartNo}
use Rattle.nc_num.specs.declared.names.Label.{Label}
use Rattle.nc_num.specs.declared.places.Span.{Span}
use Rattle.nc_pte.specs.Words.{IsPteWord}
use Rattle.nc_model.specs.declared.owners.Owner.{Owner}
use Rattle.nc_plan.specs.Plans.{In}
use Rattle.nc_plan.specs.declared.ops.HartOp.{HartOp}
use Rattle.nc_coherent.specs.Pages.{PageMap}
use Rattle.nc_ops.specs.Fits.{FitsOp}
use Rattle.nc_ops.specs.declared.ops.Op.{Op}
use Rattle.nc_ops.specs.declared.ops.Op.TheVariants as ops
use Rattle.nc_scen.specs.Accepted.{IsAccepted}
use Rattle.nc_scen.specs.declared.scenario.Scenario.{Scenario}
use Rattle.nc_rules.specs.declared.answers.Refusal.{Refusal}
use Rattle.nc_rules.specs.declared.answers.Refusal.TheVariants as refusals
use Rattle.nc_rules.specs.declared.lots.Kind.{Kind}
use Rattle.nc_rules.specs.declared.lots.Kind.TheVariants as kinds
use Rattle.nc_rules.specs.declared.lots.Lot.{Lot}
use Rattle.nc_rules.specs.declared.lots.LotId.{LotId}
use Rattle.nc_rules.specs.declared.lots.Side.TheVariants as sides
use Rattle.nc_rules.specs.declared.steps.Act.{Act}
use Rattle.nc_rules.specs.declared.steps.Act.TheVariants as acts
use Rattle.nc_rules.specs.declared.steps.Next.{Next}
use Rattle.nc_rules.specs.declared.steps.Next.TheVariants as nexts
use Rattle.nc_rules.specs.declared.steps.Phase.{Phase}
use Rattle.nc_rules.specs.declared.steps.Phase.TheVariants.{Steps, Search, Work}
use Rattle.nc_rules.specs.declared.steps.Seen.{Seen}
use Rattle.nc_rules.specs.declared.steps.Seen.TheVariants as seen
use Rattle.nc_rules.specs.declared.steps.Step.{Step}
use Rattle.nc_rules.specs.declared.steps.Turn.{Turn}
use Rattle.nc_rules.specs.declared.steps.Turn.TheVariants as turns
use Rattle.nc_rules.specs.Lots.{DriverConfig, lot_id, is_lot, is_named, is_wanted, lot_waits, some_lot_waits, slot_given, lot_named}
use Rattle.nc_rules.specs.Turns.{with_side, set_side, lots_after, lots_after_both, without_wanted}
use Rattle.nc_rules.specs.Operations.{step_at, has_start, begin, opening, plan_of}
use Rattle.nc_rules.specs.Driver.{DriverState, in_hand, next_of, next_of_op, next_in, next_step, next_rest, next_act, over, stands, stays, kept, give_up, went_to, opened, searches, placed, with_lots, begun, refused_step, started, started_of, told, told_of, told_in, told_word, busy, stepped_to, stepped, worked, done, done_of, done_unless, done_in, lent}
use Rattle.nc_rules.specs.Machine.{MachineState, hart_of}
use Rattle.nc_rules.specs.Sound.{OpIsThere}
use Rattle.nc_rules.specs.Start.{fixed_of, first_driver, hart_spec, no_hart_spec}
use Rattle.nc_scripts.specs.Scripts.{IsRangeIn, is_act}
use Rattle.nc_scripts.specs.Scripts as plain
use Rattle.nc_scripts.specs.Drivers.{LendsFirst, IsFixed, ArePagesOf, FitsKind, IsLotIn, AreApart, IsNamed, IsEndName, IsSettled, AreMade, made_names, ActFitsLast, LoadsFit, loaded_by, ActIsThere, TurnIsThere, StepIsThere, IsOwed, is_claim, ClaimsNothing, ClaimsFirst, NoEndIsLent, turns_of, wanted_lots, IsSearching, IsAtWork, IsPhase, IsDriver, NextIsThere, NextFitsLast, loaded_next, IsSeenAt, Keeps, IsLentAt, EachStaysDriver, FirstDrivers}
use Rattle.nc_scripts.proofs.Lists.{found, all_to, all_both, all_filtered, all_right, none_any}
use Rattle.nc_scripts.proofs.LotLaws.{IsPlaced, Becomes, thins_all, thinned, lots_stay, apart_stay, placed_stay, wanted_stay, owed_stay}
use Rattle.nc_scripts.proofs.LotMoves.{turned_there, lent_there, nothing_there, given_up_there}
use Rattle.nc_scripts.proofs.DriverSteps.{AreasLie, IsStep, step_is}
use Rattle.nc_scripts.proofs.DriverLaws.{both_stay, next_step_is, stepped_to_fixed, went_fixed}
use Rattle.nc_scripts.proofs.NewLots.{AreNew, laid, new_is, some_is, length-filter-join, none_passes}
use Rattle.nc_scripts.proofs.Openings.{IsReady, ready, area_range, opens}
use Rattle.nc_scripts.proofs.SlotLaws.{lots_given, apart_given, made_given}

-- ---- the first one

table_is : (ram : ℕ) (table : List ℕ) → All (IsPteWord ram) table → EachIndex table (λ k. IsPteWord ram (slice_index table k))
table_is ram table h k lt = h k 0 lt

fixed_is : (sc : Scenario) (me : HartNo) → IsAccepted sc → me.0 < length sc.harts → IsFixed sc.ram (length sc.harts) (fixed_of sc me (hart_spec sc me.0))
fixed_is sc me a lt =
    let h = a.harts me.0 no_hart_spec lt in
    let spans = length-map sc.buffers (λ b. b.span) in
    record {
      ram_small = a.ram_small;
      ram_whole = a.ram_whole;
      me = lt;
      sized = a.sized;
      zero_sized = a.zero_sized;
      zero_wide = a.zero_wide;
      zero_whole = a.zero_whole;
      pages = a.ptes_few;
      table = table_is sc.ram sc.ptes a.ptes;
      boxes = omega (arith, spans, a.buffers_few);
      buffers = All-map (IsRangeIn sc.ram) (λ b. b.span) sc.buffers (λ k d lt. record { some = (a.buffers k d lt).some; ends = (a.buffers k d lt).ends });
      short = h.short;
      script = rw spans h.script;
      channels = a.channels;
      reach = a.reach;
      slots_few = a.slots_few;
      slots_whole = a.slots_whole;
      slots_end = a.slots_end;
      reaches_slots = a.reaches_slots;
      pool_whole = a.pool_whole;
      pool_paged = omega arith;
      pool_end = a.pool_end;
      reaches_pool = λ some. a.reaches_pool (omega arith);
    }

pub first_drivers : FirstDrivers
unfolding first_driver
first_drivers sc me a lt = record {
  fixed = fixed_is sc me a lt;
  op = omega arith;
  lots = All-nil (IsLotIn sc.ram (fixed_of sc me (hart_spec sc me.0)));
  apart = λ id. omega arith;
  rest = All-nil (StepIsThere sc.ram (length sc.harts) (fixed_of sc me (hart_spec sc me.0)));
  phase = record { few = omega arith; settled = All-nil IsSettled };
}

-- ---- the operation in hand

pub record IsInHand (harts : ℕ) (d : DriverState) (o : Op) : Type 0 where
  pub fits : FitsOp harts (length d.fixed.buffers) o
  pub here : d.op < length d.fixed.script

pub in_hand_is : (ram harts : ℕ) (d : DriverState) (o : Op) → IsFixed ram harts d.fixed → in_hand d ≡ Some o → IsInHand harts d o
in_hand_is ram harts d o h e =
    let lt = slice_get_within d.fixed.script d.op o e in
    let is = get_or_from_slice_get d.fixed.script d.op o o e in
    record { fits = subst (λ (p : Op). FitsOp harts (length d.fixed.buffers) p) is (h.script d.op o lt); here = lt }

pub areas_lie : (ram : ℕ) (f : DriverConfig) (lots : List Lot) → All (IsLotIn ram f) lots → AreasLie ram lots
areas_lie ram f lots all label lot e =
    let k = found (IsLotIn ram f) (is_named label kinds.Area) lots lot all (some_is refusals.NoLabel (lot_named lots label kinds.Area) lot e) in
    area_range ram f label lot k.is k.passes

pub step_of : (ram harts : ℕ) (d : DriverState) (o : Op) (n : ℕ) (s : Step) → IsDriver ram harts d → IsInHand harts d o → step_at d.fixed d.lots o n ≡ Ok (Some s) → IsStep ram harts d.fixed n s
step_of ram harts d o n s h k e = step_is ram harts d.fixed d.lots o n s (laid ram harts d.fixed h.fixed) (areas_lie ram d.fixed d.lots h.lots) k.fits e

-- the turn of a step by number is of a range
wide_turn : (ram : ℕ) (t : Turn) → plain.TurnIsThere ram t → TurnIsThere ram t
wide_turn ram turns.Stay h = h
wide_turn ram (turns.Pass range to) h = h
wide_turn ram (turns.Own range) h = h
wide_turn ram (turns.Lend id) h = tt
wide_turn ram (turns.Give id) h = tt
wide_turn ram (turns.Return id) h = tt
wide_turn ram (turns.Sync id) h = tt
wide_turn ram (turns.Settle id) h = tt
wide_turn ram (turns.End id) h = tt

wide_act : (ram harts : ℕ) (f : DriverConfig) (a : Act) → plain.ActIsThere ram harts f a → ActIsThere ram harts f a
wide_act ram harts f (acts.Op op) h = λ m i d fits. h m i d
wide_act ram harts f (acts.Claim chan) h = h
wide_act ram harts f (acts.Poll chan) h = h
wide_act ram harts f (acts.Take buf) h = h

-- ---- what a driver goes on to

pub over_is : (ram harts : ℕ) (d : DriverState) (lots : List Lot) → IsFixed ram harts d.fixed → d.op < length d.fixed.script → All (IsLotIn ram d.fixed) lots → AreApart lots → All IsSettled lots → IsDriver ram harts (over d lots)
over_is ram harts d lots h lt all apart settled = record {
  fixed = h;
  op = omega arith;
  lots = all;
  apart = apart;
  rest = All-nil (StepIsThere ram harts d.fixed);
  phase = record { few = omega arith; settled = settled };
}

pub counted_is : (ram harts : ℕ) (d : DriverState) (n : ℕ) (lots : List Lot) (saw : Seen) → IsFixed ram harts d.fixed → d.op ≤ length d.fixed.script → n ≤ 4096 → All (IsLotIn ram d.fixed) lots → AreApart lots → All IsSettled lots → IsDriver ram harts (stands d (Steps n) [] lots saw)
counted_is ram harts d n lots saw h le few all apart settled = record {
  fixed = h;
  op = le;
  lots = all;
  apart = apart;
  rest = All-nil (StepIsThere ram harts d.fixed);
  phase = record { few = few; settled = settled };
}

-- the name of a lot that is no end of a copy
named_by : (pool : Span) (k : Kind) (lot : Lot) → FitsKind pool k lot.id lot.list.entries → (IsEndName lot.id → ⊥) → IsNamed lot.id
named_by pool kinds.Single lot h no_end = h.0
named_by pool kinds.List lot h no_end = h.0
named_by pool kinds.Area lot h no_end = h.0
named_by pool kinds.Copy lot h no_end = absurd (no_end h.0.label)

settled_by : (ram : ℕ) (f : DriverConfig) (lot : Lot) (t : Bool) → is_wanted lot.side ≡ t → IsReady ram f lot → (t ≡ true → ⊥) → (IsEndName lot.id → ⊥) → IsSettled lot
settled_by ram f lot true e h lent no_end = absurd (lent refl)
settled_by ram f lot false e h lent no_end = record { named = named_by f.pool lot.kind lot h.is.kind no_end; placed = h.placed; lent = e }

none_first : (id : LotId) → LendsFirst id [] → ⊥
none_first id k = k

none_owed : (t : Turn) → In t [] → ⊥
none_owed t k = k

pub paid : (ram : ℕ) (f : DriverConfig) (lot : Lot) → IsReady ram f lot → IsOwed [] lot → IsSettled lot
paid ram f lot h k = settled_by ram f lot (is_wanted lot.side) refl h (λ w. none_first lot.id (k.lends w)) (λ e. none_owed (turns.End lot.id) (k.ends e))

-- what a plan that goes on needs
pub record IsUnderWay (ram harts : ℕ) (f : DriverConfig) (lots : List Lot) (rest : List Step) : Type 0 where
  pub each : All (IsLotIn ram f) lots
  pub apart : AreApart lots
  pub placed : All IsPlaced lots
  pub owed : All (IsOwed (turns_of rest)) lots
  pub claims : ClaimsFirst lots rest
  pub few : length (wanted_lots lots) ≤ 2
  pub there : All (StepIsThere ram harts f) rest

pub went_is : (ram harts : ℕ) (d : DriverState) (lots : List Lot) (saw : Seen) (rest : List Step) → IsFixed ram harts d.fixed → d.op < length d.fixed.script → IsUnderWay ram harts d.fixed lots rest → IsDriver ram harts (went_to d lots saw rest)
went_is ram harts d lots saw [] h lt k =
    over_is ram harts d lots h lt k.each k.apart (all_both (IsReady ram d.fixed) (IsOwed []) IsSettled lots (ready ram d.fixed lots k.each k.placed) k.owed (paid ram d.fixed))
went_is ram harts d lots saw (s ∷ rest) h lt k = record {
  fixed = h;
  op = omega arith;
  lots = k.each;
  apart = k.apart;
  rest = k.there;
  phase = record { some = omega arith; placed = k.placed; owed = k.owed; claims = k.claims; few = k.few };
}

went_loads : (n : ℕ) (d : DriverState) (lots : List Lot) (saw : Seen) (rest : List Step) → LoadsFit n rest → LoadsFit n (went_to d lots saw rest).rest
went_loads n d lots saw [] h = tt
went_loads n d lots saw (s ∷ rest) h = h

-- ---- giving up, and staying

filter_twice : {X : Type 0} (p q : X → Bool) (xs : List X) → length (filter p (filter q xs)) ≤ length (filter p xs)
filter_twice p q [] = omega arith
filter_twice p q (x ∷ xs) = twice_by (q x) (p x) p x (filter q xs) (filter p xs) refl (filter_twice p q xs)
  where
    twice_by : {X : Type 0} (b c : Bool) (p : X → Bool) (x : X) (ys zs : List X) → p x ≡ c → length (filter p ys) ≤ length zs → length (filter p (cond b (x ∷ ys) ys)) ≤ length (cond c (x ∷ zs) zs)
    twice_by true true p x ys zs e le = rw e (omega arith)
    twice_by true false p x ys zs e le = rw e le
    twice_by false true p x ys zs e le = omega arith
    twice_by false false p x ys zs e le = le

-- the lots that stay when a driver gives up are settled
abbrev pub LeavesSettled : List Lot → Type 0
LeavesSettled lots = All (λ (lot : Lot). is_wanted lot.side ≡ false → IsSettled lot) lots

not_false : (t : Bool) → not t ≡ true → t ≡ false
not_false true e = absurd (false≢true e)
not_false false e = refl

pub gives_up : (ram harts : ℕ) (d : DriverState) (o : Op) (r : Refusal) (g : ℕ → ℕ) → IsDriver ram harts d → d.op < length d.fixed.script → LeavesSettled d.lots → length (wanted_lots d.lots) ≤ 2 → Keeps ram harts d g (give_up d o r)
gives_up ram harts d o r g h lt leaves few =
    let all = all_filtered (IsLotIn ram d.fixed) (IsLotIn ram d.fixed) (λ lot. not (is_wanted lot.side)) d.lots h.lots (λ lot is e. is) in
    let settled = all_filtered (λ (lot : Lot). is_wanted lot.side ≡ false → IsSettled lot) IsSettled (λ lot. not (is_wanted lot.side)) d.lots leaves (λ lot f e. f (not_false (is_wanted lot.side) e)) in
    record {
      driver = over_is ram harts d (without_wanted d.lots) h.fixed lt all (λ id. omega (arith, filter_twice (is_lot id) (λ (lot : Lot). not (is_wanted lot.side)) d.lots, h.apart id)) settled;
      moves = given_up_there ram d.fixed d.lots _ h.lots few;
      fixed = refl;
      loads = λ n fits. tt;
    }

stays_is : (ram harts : ℕ) (d : DriverState) → IsDriver ram harts d → Keeps ram harts d (λ n. n) (stays d)
stays_is ram harts d h = record { driver = h; moves = nothing_there ram d.fixed None; fixed = refl; loads = λ n fits. fits }

settled_leaves : (lots : List Lot) → All IsSettled lots → LeavesSettled lots
settled_leaves lots all = all_to IsSettled (λ (lot : Lot). is_wanted lot.side ≡ false → IsSettled lot) lots all (λ lot h w. h)

none_wanted : (lots : List Lot) → All IsSettled lots → length (wanted_lots lots) ≡ 0
none_wanted lots all = none_passes (λ (lot : Lot). is_wanted lot.side) lots (all_to IsSettled (λ (lot : Lot). is_wanted lot.side ≡ false) lots all (λ lot h. h.lent))

few_names : (o : Op) → length (made_names o) ≤ 2
few_names (ops.Map label buf off len dir chan) = omega arith
few_names (ops.MapSg label entries dir chan) = omega arith
few_names (ops.Calloc label pages chan) = omega arith
few_names (ops.Copy chan src src_off dst dst_off len cfg) = omega arith
few_names _ = omega arith

fewer : {X : Type 0} (p : X → Bool) (xs : List X) → length (filter p xs) ≤ length xs
fewer p [] = omega arith
fewer p (x ∷ xs) = fewer_by (p x) x (filter p xs) xs (fewer p xs)
  where
    fewer_by : {X : Type 0} (t : Bool) (x : X) (ys xs : List X) → length ys ≤ length xs → length (cond t (x ∷ ys) ys) ≤ length (x ∷ xs)
    fewer_by true x ys xs h = omega arith
    fewer_by false x ys xs h = omega arith

pub made_few : (o : Op) (lots : List Lot) → AreMade o lots → length (wanted_lots lots) ≤ 2
made_few o lots h =
    let names : length h.new ≡ length (made_names o) = sym (length-map h.new (λ (lot : Lot). lot.id)) ∙ ap length h.names in
    let all : length (wanted_lots lots) ≡ length (wanted_lots (h.old ++ h.new)) = ap (λ ls. length (wanted_lots ls)) h.all in
    omega (arith, all, length-filter-join (λ (lot : Lot). is_wanted lot.side) h.old h.new, none_wanted h.old h.settled, fewer (λ (lot : Lot). is_wanted lot.side) h.new, names, few_names o)

pub made_leaves : (o : Op) (lots : List Lot) → AreMade o lots → LeavesSettled lots
made_leaves o lots h =
    let new = all_to (λ (lot : Lot). is_wanted lot.side ≡ true) (λ (lot : Lot). is_wanted lot.side ≡ false → IsSettled lot) h.new h.wanted (λ lot w off. absurd (false≢true (sym off ∙ w))) in
    subst (λ (ls : List Lot). LeavesSettled ls) (sym h.all) (All-append (λ (lot : Lot). is_wanted lot.side ≡ false → IsSettled lot) h.old h.new (settled_leaves h.old h.settled) new)

-- ---- start

pub opened_is : (ram harts : ℕ) (d : DriverState) (o : Op) (lots : List Lot) → IsFixed ram harts d.fixed → IsInHand harts d o → has_start o ≡ true → All (IsLotIn ram d.fixed) lots → AreApart lots → All IsPlaced lots → AreMade o lots
    → Keeps ram harts d (λ n. n) (opened (with_lots d lots) o)
opened_is ram harts d o lots h k start all apart placed made =
    let k2 = opens ram harts d.fixed lots o h k.fits start (ready ram d.fixed lots all placed) made in
    record {
      driver = went_is ram harts (with_lots d lots) (lots_after (opening d.fixed lots o) lots) d.saw (plan_of d.fixed lots o) h k.here (record {
        each = lots_stay ram d.fixed (opening d.fixed lots o) lots all;
        apart = apart_stay (opening d.fixed lots o) lots apart;
        placed = placed_stay (opening d.fixed lots o) lots placed;
        owed = owed_stay (opening d.fixed lots o) (turns_of (plan_of d.fixed lots o)) lots k2.owed;
        claims = k2.claims;
        few = wanted_stay (opening d.fixed lots o) lots 2 (made_few o lots made);
        there = k2.there;
      });
      moves = turned_there ram harts d.fixed lots (opening d.fixed lots o) turns.Stay _ h all apart placed k2.first tt;
      fixed = went_fixed (with_lots d lots) (lots_after (opening d.fixed lots o) lots) d.saw (plan_of d.fixed lots o);
      loads = λ n fits. went_loads n (with_lots d lots) (lots_after (opening d.fixed lots o) lots) d.saw (plan_of d.fixed lots o) (k2.fits n);
    }

same_op : (d : DriverState) (o p : Op) → in_hand d ≡ Some o → in_hand d ≡ Some p → o ≡ p
same_op d o p e f = cc

pub searches_is : (ram harts : ℕ) (d : DriverState) (o : Op) (lots : List Lot) (k : ℕ) → IsFixed ram harts d.fixed → in_hand d ≡ Some o → IsInHand harts d o → k < d.fixed.slots → All (IsLotIn ram d.fixed) lots → AreApart lots → some_lot_waits lots ≡ true → AreMade o lots
    → Keeps ram harts d (λ n. n) (stays (searches (with_lots d lots) k))
searches_is ram harts d o lots k h e hand lt all apart waits made = record {
  driver = record {
    fixed = h;
    op = omega (arith, hand.here);
    lots = all;
    apart = apart;
    rest = All-nil (StepIsThere ram harts d.fixed);
    phase = record { slot = lt; waits = waits; made = λ p is. subst (λ (q : Op). AreMade q lots) (same_op d o p e is) made };
  };
  moves = nothing_there ram d.fixed None;
  fixed = refl;
  loads = λ n fits. tt;
}

placed_by : (ram harts : ℕ) (d : DriverState) (o : Op) (lots : List Lot) (t : Bool) → some_lot_waits lots ≡ t → IsFixed ram harts d.fixed → in_hand d ≡ Some o → IsInHand harts d o → has_start o ≡ true → All (IsLotIn ram d.fixed) lots → AreApart lots → AreMade o lots → (t ≡ true → 0 < d.fixed.slots)
    → Keeps ram harts d (λ n. n) (if t then stays (searches (with_lots d lots) 0) else opened (with_lots d lots) o)
placed_by ram harts d o lots true w h e k start all apart made slots = searches_is ram harts d o lots 0 h e k (slots refl) all apart w made
placed_by ram harts d o lots false w h e k start all apart made slots = opened_is ram harts d o lots h k start all apart (none_any lot_waits lots w) made

pub placed_is : (ram harts : ℕ) (d : DriverState) (o : Op) (lots : List Lot) → IsFixed ram harts d.fixed → in_hand d ≡ Some o → IsInHand harts d o → has_start o ≡ true → All (IsLotIn ram d.fixed) lots → AreApart lots → AreMade o lots → (some_lot_waits lots ≡ true → 0 < d.fixed.slots)
    → Keeps ram harts d (λ n. n) (placed (with_lots d lots) o)
placed_is ram harts d o lots h e k start all apart made slots = placed_by ram harts d o lots (some_lot_waits lots) refl h e k start all apart made slots

right_waits : (a b : Bool) → a ≡ false → (a || b) ≡ true → b ≡ true
right_waits true b e w = absurd (false≢true (sym e))
right_waits false b e w = w

pub new_waits : (lots new : List Lot) → All IsSettled lots → some_lot_waits (lots ++ new) ≡ true → some_lot_waits new ≡ true
new_waits lots new all w =
    let none = list_any_none lot_waits lots (all_to IsSettled (λ (lot : Lot). lot_waits lot ≡ false) lots all (λ lot h. h.placed)) in
    right_waits (some_lot_waits lots) (some_lot_waits new) none (sym (list_any-append lot_waits lots new) ∙ w)

pub begun_is : (ram harts : ℕ) (d : DriverState) (o : Op) (r : Result (List Lot) Refusal) → IsDriver ram harts d → All IsSettled d.lots → in_hand d ≡ Some o → IsInHand harts d o → has_start o ≡ true → ((new : List Lot) → r ≡ Ok new → AreNew ram d.fixed o d.lots new)
    → Keeps ram harts d (λ n. n) (begun d o r)
begun_is ram harts d o (Err r) h settled e k start news = gives_up ram harts d o r (λ n. n) h k.here (settled_leaves d.lots settled) (omega (arith, none_wanted d.lots settled))
begun_is ram harts d o (Ok new) h settled e k start news =
    let n = news new refl in
    placed_is ram harts d o (d.lots ++ new) h.fixed e k start (All-append (IsLotIn ram d.fixed) d.lots new h.lots n.each) n.apart
    (record { old = d.lots; new = new; all = refl; settled = settled; names = n.names; wanted = n.wanted }) (λ w. n.slots (new_waits d.lots new settled w))

pub refused_is : (ram harts : ℕ) (d : DriverState) (o : Op) (r : Result (Option Step) Refusal) → IsDriver ram harts d → All IsSettled d.lots → IsInHand harts d o → Keeps ram harts d (λ n. n) (refused_step d o r)
refused_is ram harts d o (Err r) h settled k = gives_up ram harts d o r (λ n. n) h k.here (settled_leaves d.lots settled) (omega (arith, none_wanted d.lots settled))
refused_is ram harts d o (Ok s) h settled k = stays_is ram harts d h

started_if : (ram harts : ℕ) (d : DriverState) (ws : List Owner) (pool : PageMap) (o : Op) (t : Bool) (r : Result (Option Step) Refusal) → IsDriver ram harts d → All IsSettled d.lots → ArePagesOf d.fixed pool → in_hand d ≡ Some o → has_start o ≡ t
    → Keeps ram harts d (λ n. n) (if t then begun d o (begin d.fixed d.lots ws pool o) else refused_step d o r)
started_if ram harts d ws pool o true r h settled of e start =
    let k = in_hand_is ram harts d o h.fixed e in
    begun_is ram harts d o (begin d.fixed d.lots ws pool o) h settled e k start (λ new is. new_is ram harts d.fixed d.lots new ws pool o h.fixed settled h.apart of k.fits is)
started_if ram harts d ws pool o false r h settled of e start = refused_is ram harts d o r h settled (in_hand_is ram harts d o h.fixed e)

-- a start step comes next only at the steps of an operation
next_act_not : (a : Act) → next_act a ≡ nexts.Start → ⊥
next_act_not (acts.Op op) e = absurd (cc)
next_act_not (acts.Claim chan) e = absurd (cc)
next_act_not (acts.Poll chan) e = absurd (cc)
next_act_not (acts.Take buf) e = absurd (cc)

next_rest_not : (rest : List Step) → 0 < length rest → next_rest rest ≡ nexts.Start → ⊥
next_rest_not [] lt e = absurd (omega arith)
next_rest_not (s ∷ rest) lt e = next_act_not s.act e

settled_start : (d : DriverState) (o : Op) (p : Phase) → IsPhase d p → next_in d o p ≡ nexts.Start → All IsSettled d.lots
settled_start d o (Steps n) h e = h.settled
settled_start d o (Search k) h e = absurd (cc)
settled_start d o Work h e = absurd (next_rest_not d.rest h.some e)

started_by : (ram harts : ℕ) (d : DriverState) (ws : List Owner) (pool : PageMap) (o : Option Op) → IsDriver ram harts d → ArePagesOf d.fixed pool → in_hand d ≡ o → next_of_op d o ≡ nexts.Start → Keeps ram harts d (λ n. n) (started_of d ws pool o)
started_by ram harts d ws pool None h of e start = stays_is ram harts d h
started_by ram harts d ws pool (Some o) h of e start = started_if ram harts d ws pool o (has_start o) _ h (settled_start d o d.phase h.phase start) of e refl

pub started_is : (ram harts : ℕ) (d : DriverState) (ws : List Owner) (pool : PageMap) → IsDriver ram harts d → next_of d ≡ nexts.Start → ArePagesOf d.fixed pool → Keeps ram harts d (λ n. n) (started d ws pool)
unfolding started next_of
started_is ram harts d ws pool h start of = started_by ram harts d ws pool (in_hand d) h of refl start

-- ---- told

-- an operation that makes a lot has a start step
no_names : (o : Op) → has_start o ≡ false → made_names o ≡ []
no_names (ops.Map label buf off len dir chan) e = absurd (false≢true (sym e))
no_names (ops.MapSg label entries dir chan) e = absurd (false≢true (sym e))
no_names (ops.Calloc label pages chan) e = absurd (false≢true (sym e))
no_names (ops.Copy chan src src_off dst dst_off len cfg) e = absurd (false≢true (sym e))
no_names _ e = refl

none_waits : (new : List Lot) → map (λ (lot : Lot). lot.id) new ≡ [] → some_lot_waits new ≡ true → ⊥
none_waits [] e w = absurd (false≢true w)
none_waits (lot ∷ new) e w = absurd (cc)

makes_by : (o : Op) (lots : List Lot) (t : Bool) → has_start o ≡ t → AreMade o lots → some_lot_waits lots ≡ true → t ≡ true
makes_by o lots true e made w = refl
makes_by o lots false e made w =
    absurd (none_waits made.new (made.names ∙ no_names o e) (new_waits made.old made.new made.settled (subst (λ (ls : List Lot). some_lot_waits ls ≡ true) made.all w)))

makes_start : (o : Op) (lots : List Lot) → AreMade o lots → some_lot_waits lots ≡ true → has_start o ≡ true
makes_start o lots made w = makes_by o lots (has_start o) refl made w

missed_by : (ram harts : ℕ) (d : DriverState) (o : Op) (k : ℕ) (t : Bool) → IsDriver ram harts d → in_hand d ≡ Some o → IsInHand harts d o → IsSearching d k → nat_lt (k + 1) d.fixed.slots ≡ t
    → Keeps ram harts d (λ n. n) (if t then stays (searches d (k + 1)) else give_up d o refusals.NoSlot)
missed_by ram harts d o k true h e hand s is = searches_is ram harts d o d.lots (k + 1) h.fixed e hand (grind (arith, nat_tests)) h.lots h.apart s.waits (s.made o e)
missed_by ram harts d o k false h e hand s is = gives_up ram harts d o refusals.NoSlot (λ n. n) h hand.here (made_leaves o d.lots (s.made o e)) (made_few o d.lots (s.made o e))

pub word_is : (ram harts : ℕ) (d : DriverState) (o : Op) (k : ℕ) (got : Bool) → IsDriver ram harts d → in_hand d ≡ Some o → IsInHand harts d o → IsSearching d k → Keeps ram harts d (λ n. n) (told_word d o k got)
word_is ram harts d o k true h e hand s =
    let made = s.made o e in
    placed_is ram harts d o (slot_given k d.lots) h.fixed e hand (makes_start o d.lots made s.waits) (lots_given ram d.fixed k d.lots s.slot h.lots) (apart_given k d.lots h.apart) (made_given k o d.lots made) (λ w. omega (arith, s.slot))
word_is ram harts d o k false h e hand s = missed_by ram harts d o k (nat_lt (k + 1) d.fixed.slots) h e hand s refl

told_in_is : (ram harts : ℕ) (d : DriverState) (o : Op) (p : Phase) (got : Bool) → IsDriver ram harts d → in_hand d ≡ Some o → IsPhase d p → Keeps ram harts d (λ n. n) (told_in d o p got)
told_in_is ram harts d o (Steps n) got h e k = stays_is ram harts d h
told_in_is ram harts d o (Search n) got h e k = word_is ram harts d o n got h e (in_hand_is ram harts d o h.fixed e) k
told_in_is ram harts d o Work got h e k = stays_is ram harts d h

told_by : (ram harts : ℕ) (d : DriverState) (o : Option Op) (got : Bool) → IsDriver ram harts d → in_hand d ≡ o → Keeps ram harts d (λ n. n) (told_of d o got)
told_by ram harts d None got h e = stays_is ram harts d h
told_by ram harts d (Some o) got h e = told_in_is ram harts d o d.phase got h e h.phase

pub told_is : (ram harts : ℕ) (d : DriverState) (got : Bool) → IsDriver ram harts d → Keeps ram harts d (λ n. n) (told d got)
unfolding told
told_is ram harts d got h = told_by ram harts d (in_hand d) got h refl

-- ---- done

stepped_to_is : (ram harts : ℕ) (d : DriverState) (n : ℕ) (lots : List Lot) (saw : Seen) (r : Result (Option Step) Refusal) → IsFixed ram harts d.fixed → d.op < length d.fixed.script → n ≤ 4096 → All (IsLotIn ram d.fixed) lots → AreApart lots → All IsSettled lots
    → IsDriver ram harts (stepped_to d n lots saw r)
stepped_to_is ram harts d n lots saw (Err r) h lt le all apart settled = counted_is ram harts d n lots saw h (omega arith) le all apart settled
stepped_to_is ram harts d n lots saw (Ok (Some s)) h lt le all apart settled = counted_is ram harts d n lots saw h (omega arith) le all apart settled
stepped_to_is ram harts d n lots saw (Ok None) h lt le all apart settled = over_is ram harts d lots h lt all apart settled

stepped_loads : (n k : ℕ) (d : DriverState) (lots : List Lot) (saw : Seen) (r : Result (Option Step) Refusal) → LoadsFit k (stepped_to d n lots saw r).rest
stepped_loads n k d lots saw (Err r) = tt
stepped_loads n k d lots saw (Ok (Some s)) = tt
stepped_loads n k d lots saw (Ok None) = tt

settled_placed : (lots : List Lot) → All IsSettled lots → All IsPlaced lots
settled_placed lots all = all_to IsSettled IsPlaced lots all (λ lot h. h.placed)

pub stepped_is : (ram harts : ℕ) (d : DriverState) (o : Op) (n : ℕ) (saw : Seen) (s : Step) (r : Result (Option Step) Refusal) (g : ℕ → ℕ) → IsDriver ram harts d → All IsSettled d.lots → d.op < length d.fixed.script → n ≤ 4096 → plain.StepIsThere ram harts d.fixed s
    → Keeps ram harts d g (stepped d o n saw (Ok (Some s)) r)
stepped_is ram harts d o n saw s r g h settled lt le there =
    let same : d.lots ≡ lots_after_both s.first s.last d.lots = sym (both_stay ram d.lots s.first s.last there.first there.last) in
    record {
      driver = subst (λ (ls : List Lot). IsDriver ram harts (stepped_to d n ls saw r)) same (stepped_to_is ram harts d n d.lots saw r h.fixed lt le h.lots h.apart settled);
      moves = turned_there ram harts d.fixed d.lots s.first s.last _ h.fixed h.lots h.apart (settled_placed d.lots settled) (wide_turn ram s.first there.first) (wide_turn ram s.last there.last);
      fixed = stepped_to_fixed d n (lots_after_both s.first s.last d.lots) saw r;
      loads = λ k fits. stepped_loads n (g k) d (lots_after_both s.first s.last d.lots) saw r;
    }

-- behind a claim, or where there was none, nothing is claimed
claims_rest : (lots : List Lot) (rest : List Step) → ClaimsNothing rest → ClaimsFirst lots rest
claims_rest lots [] h = tt
claims_rest lots (s ∷ rest) h = (λ e. absurd (false≢true (sym (All-head (λ (s : Step). is_claim s.act ≡ false) s rest h) ∙ e)), All-tail (λ (s : Step). is_claim s.act ≡ false) s rest h)

loaded_act : (n : ℕ) (a : Act) → loaded_by a n ≡ loaded_next (next_act a) n
loaded_act n (acts.Op op) = refl
loaded_act n (acts.Claim chan) = refl
loaded_act n (acts.Poll chan) = refl
loaded_act n (acts.Take buf) = refl

-- what is left of a rest fits the loads behind its first step
rest_loads : (n : ℕ) (d : DriverState) (lots : List Lot) (saw : Seen) (s : Step) (rest : List Step) → LoadsFit n (s ∷ rest) → LoadsFit (loaded_next (next_act s.act) n) (went_to d lots saw rest).rest
rest_loads n d lots saw s rest h = subst (λ (k : ℕ). LoadsFit k (went_to d lots saw rest).rest) (loaded_act n s.act) (went_loads (loaded_by s.act n) d lots saw rest h.1)

pub worked_is : (ram harts : ℕ) (d : DriverState) (o : Op) (saw : Seen) (rest : List Step) → d.rest ≡ rest → IsDriver ram harts d → d.op < length d.fixed.script → IsAtWork d → Keeps ram harts d (loaded_next (next_rest rest)) (worked d o saw rest)
worked_is ram harts d o saw [] e h lt k = stays_is ram harts d h
worked_is ram harts d o saw (s ∷ rest) e h lt k =
    let there = rw e at h.rest in
    let here = All-head (StepIsThere ram harts d.fixed) s rest there in
    let owed = subst (λ (r : List Step). All (IsOwed (turns_of r)) d.lots) e k.owed in
    let claims = subst (λ (r : List Step). ClaimsFirst d.lots r) e k.claims in
    record {
      driver = went_is ram harts d (lots_after_both s.first s.last d.lots) saw rest h.fixed lt (record {
        each = lots_stay ram d.fixed s.last (lots_after s.first d.lots) (lots_stay ram d.fixed s.first d.lots h.lots);
        apart = apart_stay s.last (lots_after s.first d.lots) (apart_stay s.first d.lots h.apart);
        placed = placed_stay s.last (lots_after s.first d.lots) (placed_stay s.first d.lots k.placed);
        owed = owed_stay s.last (turns_of rest) (lots_after s.first d.lots) (owed_stay s.first (s.last ∷ turns_of rest) d.lots owed);
        claims = claims_rest (lots_after_both s.first s.last d.lots) rest claims.1;
        few = wanted_stay s.last (lots_after s.first d.lots) 2 (wanted_stay s.first d.lots 2 k.few);
        there = All-tail (StepIsThere ram harts d.fixed) s rest there;
      });
      moves = turned_there ram harts d.fixed d.lots s.first s.last _ h.fixed h.lots h.apart k.placed here.first here.last;
      fixed = went_fixed d (lots_after_both s.first s.last d.lots) saw rest;
      loads = λ n fits. rest_loads n d (lots_after_both s.first s.last d.lots) saw s rest (subst (λ (r : List Step). LoadsFit n r) e fits);
    }

pub done_in_is : (ram harts : ℕ) (d : DriverState) (o : Op) (saw : Seen) (p : Phase) → IsDriver ram harts d → IsInHand harts d o → IsPhase d p → is_act (next_in d o p) ≡ true → Keeps ram harts d (loaded_next (next_in d o p)) (done_in d o saw p)
done_in_is ram harts d o saw (Steps n) h k phase e =
    let s = next_step_is d o n e in
    let is = step_of ram harts d o n s.0 h k s.1 in
    subst (λ (r : Result (Option Step) Refusal). Keeps ram harts d (loaded_next (next_in d o (Steps n))) (stepped d o (n + 1) saw r (step_at d.fixed d.lots o (n + 1)))) (sym s.1)
    (stepped_is ram harts d o (n + 1) saw s.0 (step_at d.fixed d.lots o (n + 1)) (loaded_next (next_in d o (Steps n))) h phase.settled k.here (omega (arith, is.few)) is.there)
done_in_is ram harts d o saw (Search n) h k phase e = stays_is ram harts d h
done_in_is ram harts d o saw Work h k phase e = worked_is ram harts d o saw d.rest refl h k.here phase

-- a claim that finds the channel granted comes before an end of a copy is lent
claim_is : (a : Act) (chan : ℕ) → next_act a ≡ nexts.Claim (record { 0 = chan }) → is_claim a ≡ true
claim_is (acts.Op op) chan e = absurd (cc)
claim_is (acts.Claim c) chan e = refl
claim_is (acts.Poll c) chan e = absurd (cc)
claim_is (acts.Take buf) chan e = absurd (cc)

claim_leaves : (ram harts : ℕ) (d : DriverState) (chan : ℕ) (rest : List Step) → d.rest ≡ rest → IsDriver ram harts d → IsAtWork d → next_rest rest ≡ nexts.Claim (record { 0 = chan }) → LeavesSettled d.lots
claim_leaves ram harts d chan [] e h k is = absurd (cc)
claim_leaves ram harts d chan (s ∷ rest) e h k is =
    let claims = subst (λ (r : List Step). ClaimsFirst d.lots r) e k.claims in
    let none = claims.0 (claim_is s.act chan is) in
    all_both (IsReady ram d.fixed) (λ (lot : Lot). IsEndName lot.id → is_wanted lot.side ≡ true) (λ (lot : Lot). is_wanted lot.side ≡ false → IsSettled lot) d.lots (ready ram d.fixed d.lots h.lots k.placed) none
    (λ lot r f off. settled_by ram d.fixed lot (is_wanted lot.side) refl r (λ w. absurd (false≢true (sym off ∙ w))) (λ end. absurd (false≢true (sym off ∙ f end))))

busy_is : (ram harts : ℕ) (d : DriverState) (o : Op) (r : Refusal) (g : ℕ → ℕ) (p : Phase) → IsDriver ram harts d → IsInHand harts d o → IsPhase d p → is_act (next_in d o p) ≡ true → (chan : ℕ) × (next_in d o p ≡ nexts.Claim (record { 0 = chan })) → Keeps ram harts d g (give_up d o r)
busy_is ram harts d o r g (Steps n) h k phase e claim = gives_up ram harts d o r g h k.here (settled_leaves d.lots phase.settled) (omega (arith, none_wanted d.lots phase.settled))
busy_is ram harts d o r g (Search n) h k phase e claim = absurd (false≢true e)
busy_is ram harts d o r g Work h k phase e claim = gives_up ram harts d o r g h k.here (claim_leaves ram harts d claim.0 d.rest refl h phase claim.1) phase.few

unless_is : (ram harts : ℕ) (d : DriverState) (o : Op) (saw : Seen) → IsDriver ram harts d → IsInHand harts d o → is_act (next_in d o d.phase) ≡ true → IsSeenAt (next_in d o d.phase) saw → Keeps ram harts d (loaded_next (next_in d o d.phase)) (done_unless d o saw (busy saw))
unless_is ram harts d o (seen.Busy g) h k e at = busy_is ram harts d o (refusals.ChannelBusy g) (loaded_next (next_in d o d.phase)) d.phase h k h.phase e at
unless_is ram harts d o seen.Nothing h k e at = done_in_is ram harts d o (kept d.saw seen.Nothing) d.phase h k h.phase e
unless_is ram harts d o (seen.Control control) h k e at = done_in_is ram harts d o (seen.Control control) d.phase h k h.phase e
unless_is ram harts d o seen.Claimed h k e at = done_in_is ram harts d o seen.Claimed d.phase h k h.phase e
unless_is ram harts d o (seen.Value value) h k e at = done_in_is ram harts d o (seen.Value value) d.phase h k h.phase e

done_by : (ram harts : ℕ) (d : DriverState) (saw : Seen) (o : Option Op) → IsDriver ram harts d → in_hand d ≡ o → is_act (next_of_op d o) ≡ true → IsSeenAt (next_of_op d o) saw → Keeps ram harts d (loaded_next (next_of_op d o)) (done_of d saw o)
done_by ram harts d saw None h e act at = stays_is ram harts d h
done_by ram harts d saw (Some o) h e act at = unless_is ram harts d o saw h (in_hand_is ram harts d o h.fixed e) act at

pub done_is : (ram harts : ℕ) (d : DriverState) (saw : Seen) → IsDriver ram harts d → is_act (next_of d) ≡ true → IsSeenAt (next_of d) saw → Keeps ram harts d (loaded_next (next_of d)) (done d saw)
unfolding done next_of
done_is ram harts d saw h e at = done_by ram harts d saw (in_hand d) h refl e at

-- ---- lent

settled_kept : (t : Turn) (lot now : Lot) → Becomes t lot now → IsSettled lot → IsSettled now
settled_kept t lot now b h = record {
  named = rw b.id h.named;
  placed = rw b.list h.placed;
  lent = not_wanted (is_wanted now.side) (λ w. absurd (false≢true (sym h.lent ∙ b.wanted w)));
}
  where
    not_wanted : (w : Bool) → (w ≡ true → ⊥) → w ≡ false
    not_wanted true h = absurd (h refl)
    not_wanted false h = refl

owed_kept : (t : Turn) (ts : List Turn) (lot now : Lot) → Becomes t lot now → IsOwed ts lot → IsOwed ts now
owed_kept t ts lot now b h = record { lends = λ w. rw b.id (h.lends (b.wanted w)); ends = λ e. rw b.id (h.ends (rw b.id at e)) }

-- a lot that is still to be lent is not the one that is lent
same_by : (id : LotId) (lot : Lot) (t : Bool) → is_wanted lot.side ≡ true → (t ≡ true → is_wanted lot.side ≡ false) → (if t then record lot { side = sides.Device } else lot) ≡ lot
same_by id lot true w f = absurd (false≢true (sym (f refl) ∙ w))
same_by id lot false w f = refl

wanted_same : (id : LotId) (lots : List Lot) → All (λ (lot : Lot). is_wanted lot.side ≡ true) lots → IsLentAt lots id → set_side sides.Device id lots ≡ lots
wanted_same id [] all at = refl
wanted_same id (lot ∷ lots) all at =
    let here = same_by id lot (is_lot id lot) (All-head (λ (lot : Lot). is_wanted lot.side ≡ true) lot lots all) (All-head (λ (lot : Lot). is_lot id lot ≡ true → is_wanted lot.side ≡ false) lot lots at) in
    let more = wanted_same id lots (All-tail (λ (lot : Lot). is_wanted lot.side ≡ true) lot lots all) (All-tail (λ (lot : Lot). is_lot id lot ≡ true → is_wanted lot.side ≡ false) lot lots at) in
    λ i. here i ∷ more i

waits_by : (lot : Lot) (t : Bool) → lot_waits (if t then record lot { side = sides.Device } else lot) ≡ lot_waits lot
waits_by lot true = refl
waits_by lot false = refl

waits_stay : (id : LotId) (lots : List Lot) → some_lot_waits (set_side sides.Device id lots) ≡ some_lot_waits lots
waits_stay id [] = refl
waits_stay id (lot ∷ lots) = λ i. waits_by lot (is_lot id lot) i || waits_stay id lots i

made_kept : (id : LotId) (o : Op) (lots : List Lot) → AreMade o lots → IsLentAt lots id → AreMade o (set_side sides.Device id lots)
made_kept id o lots made at =
    let at2 = subst (λ (ls : List Lot). IsLentAt ls id) made.all at in
    let news = wanted_same id made.new made.wanted (all_right (λ (lot : Lot). is_lot id lot ≡ true → is_wanted lot.side ≡ false) made.old made.new at2) in
    record {
      old = set_side sides.Device id made.old;
      new = made.new;
      all = ap (set_side sides.Device id) made.all ∙ map-append (with_side sides.Device id) made.old made.new ∙ ap (λ (ls : List Lot). set_side sides.Device id made.old ++ ls) news;
      settled = thins_all (Becomes (turns.Give id)) IsSettled IsSettled (thinned (turns.Give id) made.old) made.settled (settled_kept (turns.Give id));
      names = made.names;
      wanted = made.wanted;
    }

end_by : (id : LotId) (lot : Lot) (t : Bool) → (t ≡ true → is_wanted lot.side ≡ false) → (IsEndName lot.id → is_wanted lot.side ≡ true)
    → IsEndName (if t then record lot { side = sides.Device } else lot).id → is_wanted (if t then record lot { side = sides.Device } else lot).side ≡ true
end_by id lot true f g e = absurd (false≢true (sym (f refl) ∙ g e))
end_by id lot false f g e = g e

ends_kept : (id : LotId) (lots : List Lot) → IsLentAt lots id → NoEndIsLent lots → NoEndIsLent (set_side sides.Device id lots)
ends_kept id lots at none =
    All-map (λ (lot : Lot). IsEndName lot.id → is_wanted lot.side ≡ true) (with_side sides.Device id) lots
    (all_both (λ (lot : Lot). is_lot id lot ≡ true → is_wanted lot.side ≡ false) (λ (lot : Lot). IsEndName lot.id → is_wanted lot.side ≡ true) (λ (lot : Lot). IsEndName (with_side sides.Device id lot).id → is_wanted (with_side sides.Device id lot).side ≡ true) lots at none
    (λ lot f g. end_by id lot (is_lot id lot) f g))

claims_kept : (id : LotId) (lots : List Lot) (rest : List Step) → IsLentAt lots id → ClaimsFirst lots rest → ClaimsFirst (set_side sides.Device id lots) rest
claims_kept id lots [] at h = tt
claims_kept id lots (s ∷ rest) at h = (λ e. ends_kept id lots at (h.0 e), h.1)

abbrev lots_lent : DriverState → LotId → DriverState
lots_lent d id = with_lots d (lots_after (turns.Give id) d.lots)

pub phase_lent : (d : DriverState) (id : LotId) (p : Phase) → IsLentAt d.lots id → IsPhase d p → IsPhase (lots_lent d id) p
phase_lent d id (Steps n) at h = record {
  few = h.few;
  settled = thins_all (Becomes (turns.Give id)) IsSettled IsSettled (thinned (turns.Give id) d.lots) h.settled (settled_kept (turns.Give id));
}
phase_lent d id (Search k) at h = record {
  slot = h.slot;
  waits = waits_stay id d.lots ∙ h.waits;
  made = λ o e. made_kept id o d.lots (h.made o e) at;
}
phase_lent d id Work at h = record {
  some = h.some;
  placed = placed_stay (turns.Give id) d.lots h.placed;
  owed = thins_all (Becomes (turns.Give id)) (IsOwed (turns_of d.rest)) (IsOwed (turns_of d.rest)) (thinned (turns.Give id) d.lots) h.owed (owed_kept (turns.Give id) (turns_of d.rest));
  claims = claims_kept id d.lots d.rest at h.claims;
  few = wanted_stay (turns.Give id) d.lots 2 h.few;
}

pub lent_is : (ram harts : ℕ) (d : DriverState) (label : Label) (first : ℕ) → IsDriver ram harts d → IsLentAt d.lots (lot_id label first) → Keeps ram harts d (λ n. n) (lent d label first)
unfolding lent
lent_is ram harts d label first h at =
    record {
      driver = record {
        fixed = h.fixed;
        op = h.op;
        lots = lots_stay ram d.fixed (turns.Give (lot_id label first)) d.lots h.lots;
        apart = apart_stay (turns.Give (lot_id label first)) d.lots h.apart;
        rest = h.rest;
        phase = phase_lent d (lot_id label first) d.phase at h.phase;
      };
      moves = lent_there ram d.fixed d.lots (lot_id label first) h.lots h.apart;
      fixed = refl;
      loads = λ n fits. fits;
    }

-- ---- what comes next

act_there : (ram harts : ℕ) (f : DriverConfig) (a : Act) → ActIsThere ram harts f a → NextIsThere ram harts f (next_act a)
act_there ram harts f (acts.Op op) h = h
act_there ram harts f (acts.Claim chan) h = h
act_there ram harts f (acts.Poll chan) h = h
act_there ram harts f (acts.Take buf) h = h

act_fits : (n : ℕ) (a : Act) → ActFitsLast n a → NextFitsLast n (next_act a)
act_fits n (acts.Op op) h = h
act_fits n (acts.Claim chan) h = h
act_fits n (acts.Poll chan) h = h
act_fits n (acts.Take buf) h = h

-- what comes next is there, and fits each last load that the rest fits
record IsNext (ram harts : ℕ) (d : DriverState) (next : Next) : Type 0 where
  there : NextIsThere ram harts d.fixed next
  fits : (n : ℕ) → LoadsFit n d.rest → NextFitsLast n next

start_next : (ram harts : ℕ) (d : DriverState) → IsNext ram harts d nexts.Start
start_next ram harts d = record { there = tt; fits = λ n h. tt }

step_next : (ram harts : ℕ) (d : DriverState) (o : Op) (n : ℕ) (r : Result (Option Step) Refusal) → IsDriver ram harts d → IsInHand harts d o → step_at d.fixed d.lots o n ≡ r → IsNext ram harts d (next_step r)
step_next ram harts d o n (Err r) h k e = start_next ram harts d
step_next ram harts d o n (Ok None) h k e = start_next ram harts d
step_next ram harts d o n (Ok (Some s)) h k e =
    let is = step_of ram harts d o n s h k e in
    record { there = act_there ram harts d.fixed s.act (wide_act ram harts d.fixed s.act is.there.act); fits = λ m h. act_fits m s.act (is.free m) }

unless_next : (ram harts : ℕ) (d : DriverState) (t : Bool) (next : Next) → IsNext ram harts d next → IsNext ram harts d (if t then nexts.Start else next)
unless_next ram harts d true next h = start_next ram harts d
unless_next ram harts d false next h = h

rest_next : (ram harts : ℕ) (d : DriverState) (rest : List Step) → d.rest ≡ rest → All (StepIsThere ram harts d.fixed) rest → IsNext ram harts d (next_rest rest)
rest_next ram harts d [] e all = start_next ram harts d
rest_next ram harts d (s ∷ rest) e all = record {
  there = act_there ram harts d.fixed s.act (All-head (StepIsThere ram harts d.fixed) s rest all).act;
  fits = λ n h. act_fits n s.act (first_fits n d.rest s rest e h);
}
  where
    first_fits : (n : ℕ) (all : List Step) (s : Step) (rest : List Step) → all ≡ s ∷ rest → LoadsFit n all → ActFitsLast n s.act
    first_fits n all s rest e h = (subst (λ (r : List Step). LoadsFit n r) e h).0

next_in_is : (ram harts : ℕ) (d : DriverState) (o : Op) (p : Phase) → IsDriver ram harts d → IsInHand harts d o → IsPhase d p → IsNext ram harts d (next_in d o p)
next_in_is ram harts d o (Steps n) h k phase = unless_next ram harts d (has_start o) (next_step (step_at d.fixed d.lots o n)) (step_next ram harts d o n (step_at d.fixed d.lots o n) h k refl)
next_in_is ram harts d o (Search n) h k phase = record { there = phase.slot; fits = λ n h. tt }
next_in_is ram harts d o Work h k phase = rest_next ram harts d d.rest refl h.rest

next_by : (ram harts : ℕ) (d : DriverState) (o : Option Op) → IsDriver ram harts d → in_hand d ≡ o → IsNext ram harts d (next_of_op d o)
next_by ram harts d None h e = record { there = tt; fits = λ n h. tt }
next_by ram harts d (Some o) h e = next_in_is ram harts d o d.phase h (in_hand_is ram harts d o h.fixed e) h.phase

pub next_there : (ram harts : ℕ) (d : DriverState) → IsDriver ram harts d → NextIsThere ram harts d.fixed (next_of d)
unfolding next_of
next_there ram harts d h = (next_by ram harts d (in_hand d) h refl).there

pub next_fits : (ram harts n : ℕ) (d : DriverState) → IsDriver ram harts d → LoadsFit n d.rest → NextFitsLast n (next_of d)
unfolding next_of
next_fits ram harts n d h fits = (next_by ram harts d (in_hand d) h refl).fits n fits

-- an operation that comes next is there, for a hart whose last load the rest fits
pub op_there : (ram harts : ℕ) (d : DriverState) (op : HartOp) (m : MachineState) (i : ℕ) → IsDriver ram harts d → next_of d ≡ nexts.Op op → plain.IsDriven ram harts d.fixed m → LoadsFit (length (hart_of m i).last) d.rest → OpIsThere m i op
op_there ram harts d op m i h e driven fits =
    let there = rw e at (next_there ram harts d h) in
    let last = rw e at (next_fits ram harts (length (hart_of m i).last) d h fits) in
    there m i driven last

pub drivers_stay : EachStaysDriver
drivers_stay ram harts d h = record {
  next_there = next_there ram harts d h;
  next_fits = λ n fits. next_fits ram harts n d h fits;
  start = λ ws pool start of. started_is ram harts d ws pool h start of;
  hears = λ got. told_is ram harts d got h;
  goes_on = λ saw e at. done_is ram harts d saw h e at;
  lends = λ label first at. lent_is ram harts d label first h at;
}
