-- What a start, and an answer to a try, does to what a hart holds.
use Rattle.std.proofs.Common.{◌≡◌, ℕ, ◌<◌, Bool, true, false, List, [], ◌∷◌, ◌++◌, length, refl, sym, ap, ◌∙◌, subst, arith, inl, Option, Some, None, Result, Ok, Err}
use Rattle.std.specs.Prelude.{All, if◌then◌else◌}
use Rattle.std.proofs.lemmas.Bool.{false≢true}
use Rattle.std.proofs.lemmas.Bool.Decides.{nat_tests}
use Rattle.std.proofs.lemmas.List.{append-nil}
use Rattle.std.proofs.lemmas.List.Elements.{All-nil, All-cons, All-append}
use Rattle.std.proofs.lemmas.List.Folds.{list_any_none}
use Rattle.nc_num.specs.declared.names.ChanNo.{ChanNo}
use Rattle.nc_num.specs.declared.names.HartNo.{HartNo}
use Rattle.nc_num.specs.declared.names.Label.{Label}
use Rattle.nc_num.specs.declared.places.Span.{Span}
use Rattle.nc_model.specs.Rights.{is_thread}
use Rattle.nc_model.specs.Touches.{first_fault}
use Rattle.nc_model.specs.declared.owners.Owner.{Owner}
use Rattle.nc_model.specs.declared.owners.Owner.TheVariants as owners
use Rattle.nc_model.proofs.Faults.{passes}
use Rattle.nc_own.specs.Books.{owner_in}
use Rattle.nc_ops.specs.declared.ops.Op.{Op}
use Rattle.nc_ops.specs.declared.ops.Op.TheVariants as ops
use Rattle.nc_rules.specs.declared.answers.Refusal.{Refusal}
use Rattle.nc_rules.specs.declared.lots.Lot.{Lot}
use Rattle.nc_rules.specs.declared.steps.Act.{Act}
use Rattle.nc_rules.specs.declared.steps.Act.TheVariants as acts
use Rattle.nc_rules.specs.declared.steps.Next.TheVariants as nexts
use Rattle.nc_rules.specs.declared.steps.Phase.{Phase}
use Rattle.nc_rules.specs.declared.steps.Phase.TheVariants.{Steps, Search, Work}
use Rattle.nc_rules.specs.declared.steps.Seen.{Seen}
use Rattle.nc_rules.specs.declared.steps.Step.{Step}
use Rattle.nc_rules.specs.declared.steps.Turn.TheVariants as turns
use Rattle.nc_rules.specs.Lots.{DriverConfig, lot_id, is_wanted, lot_waits, some_lot_waits, area_lot}
use Rattle.nc_rules.specs.Refusals.{owned, owned_but, buffer_of}
use Rattle.nc_rules.specs.Turns.{lots_after, turned}
use Rattle.nc_rules.specs.Areas as areas
use Rattle.nc_rules.specs.Operations.{meaning, has_start, begin, opening, plan_of, step_at}
use Rattle.nc_rules.specs.Driver.{DriverState, Went, in_hand, next_of, next_of_op, next_in, next_act, next_rest, stays, give_up, went_to, answered, opened, searches, placed, with_lots, begun, refused_step, started, started_of, steps_done}
use Rattle.nc_scripts.specs.Drivers.{IsFixed, ArePagesOf, IsLotIn, AreApart, IsSettled, AreMade, IsPhase, IsDriver, turns_of, IsOwed}
use Rattle.nc_scripts.proofs.Lists.{all_to, none_any}
use Rattle.nc_scripts.proofs.LotLaws.{IsPlaced}
use Rattle.nc_scripts.proofs.NewLots.{AreNew, new_is}
use Rattle.nc_scripts.proofs.Openings.{ready, opens}
use Rattle.nc_scripts.proofs.EveryDriver.{IsInHand, in_hand_is}
use Rattle.nc_holds.specs.Held.{Held, IsOwnedBy}
use Rattle.nc_holds.specs.Changes.{Made, changed, IsPlanStep}
use Rattle.nc_holds.proofs.owners.Facts.{AllLent, IsMaking}
use Rattle.nc_holds.proofs.calls.Plans.{ArePlanSteps, plan_steps, opening_is}
use Rattle.nc_holds.proofs.calls.New.{NewIs, Plain, OneArea, new_lots, handed}
use Rattle.nc_holds.proofs.calls.Shapes.{here, Begins, As, Makes, Ends, Stays, Drops, Turns, Plainly, ByArea, IsCall, CanPass, stays_turn, opening_turn, steps_stay}

-- ---- rests

no_rest : (lots : List Lot) → ArePlanSteps lots []
no_rest lots = All-nil (IsPlanStep lots)

pub went_plan : (d : DriverState) (lots : List Lot) (saw : Seen) (rest : List Step) → ArePlanSteps lots rest → ArePlanSteps (went_to d lots saw rest).lots (went_to d lots saw rest).rest
went_plan d lots saw [] h = no_rest lots
went_plan d lots saw (s ∷ rest) h = h

pub went_lots : (d : DriverState) (lots : List Lot) (saw : Seen) (rest : List Step) → (went_to d lots saw rest).lots ≡ lots
went_lots d lots saw [] = refl
went_lots d lots saw (s ∷ rest) = refl

-- ---- giving up, and staying

pub gives_up : (ram : ℕ) (d : DriverState) (s : Held) (o : Op) (r : Refusal) → IsCall ram d.fixed (here s d.lots) s.slots (give_up d o r)
gives_up ram d s o r = record { shape = Plainly (here s d.lots) (As refl) (Drops _ refl refl) refl; plan = no_rest (give_up d o r).driver.lots }

pub just_stays : (ram : ℕ) (d : DriverState) (s : Held) → ArePlanSteps d.lots d.rest → IsCall ram d.fixed (here s d.lots) s.slots (stays d)
just_stays ram d s plan = record { shape = Plainly (here s d.lots) (As refl) (Stays refl refl) refl; plan = plan }

-- ---- an opening

-- the operation opens over these lots, which a first change may have made so
opens_so : (ram harts : ℕ) (d : DriverState) (o : Op) (s m : Held) (lots : List Lot) → IsFixed ram harts d.fixed → IsInHand harts d o → has_start o ≡ true → All (IsLotIn ram d.fixed) lots → AreApart lots → All IsPlaced lots → AreMade o lots
    → lots ≡ m.lots → ((buf : ℕ) (to : HartNo) → o ≡ ops.Hand buf to → CanPass d.fixed m buf) → Ends d.fixed m (opened (with_lots d lots) o)
opens_so ram harts d o s m lots h k start all apart placed made same hand =
    let k2 = opens ram harts d.fixed lots o h k.fits start (ready ram d.fixed lots all placed) made in
    let turn = opening_turn d.fixed m o (opening d.fixed lots o) (turns_of (plan_of d.fixed lots o)) (opening_is d.fixed lots o)
    (subst (λ (ls : List Lot). All (IsOwed (opening d.fixed lots o ∷ turns_of (plan_of d.fixed lots o))) ls) same k2.owed) (subst (λ (ls : List Lot). All IsPlaced ls) same placed) hand in
    Turns (opening d.fixed lots o) turns.Stay (answered (with_lots d lots) o d.saw (plan_of d.fixed lots o)) turn (stays_turn d.fixed _ turns.Stay refl) (inl refl)
    (went_lots (with_lots d lots) (lots_after (opening d.fixed lots o) lots) d.saw (plan_of d.fixed lots o) ∙ ap (lots_after (opening d.fixed lots o)) same)
    (ap (λ (ls : List Lot). turned d.fixed ls (opening d.fixed lots o) turns.Stay (answered (with_lots d lots) o d.saw (plan_of d.fixed lots o))) same)

opened_plan : (d : DriverState) (o : Op) (lots : List Lot) → AreApart lots → ArePlanSteps (opened (with_lots d lots) o).driver.lots (opened (with_lots d lots) o).driver.rest
opened_plan d o lots apart =
    went_plan (with_lots d lots) (lots_after (opening d.fixed lots o) lots) d.saw (plan_of d.fixed lots o)
    (steps_stay (opening d.fixed lots o) lots (plan_of d.fixed lots o) (plan_steps d.fixed lots o apart))

placed_by : (ram harts : ℕ) (d : DriverState) (o : Op) (s m : Held) (now : List (Option HartNo)) (lots : List Lot) (t : Bool) → some_lot_waits lots ≡ t → IsFixed ram harts d.fixed → IsInHand harts d o → has_start o ≡ true → All (IsLotIn ram d.fixed) lots → AreApart lots → AreMade o lots
    → lots ≡ m.lots → ((buf : ℕ) (to : HartNo) → o ≡ ops.Hand buf to → CanPass d.fixed m buf) → Begins ram d.fixed s m → m.slots ≡ now
    → IsCall ram d.fixed s now (if t then stays (searches (with_lots d lots) 0) else opened (with_lots d lots) o)
placed_by ram harts d o s m now lots true w h k start all apart made same hand begins slots = record { shape = Plainly m begins (Stays same refl) slots; plan = no_rest lots }
placed_by ram harts d o s m now lots false w h k start all apart made same hand begins slots = record {
  shape = Plainly m begins (opens_so ram harts d o s m lots h k start all apart (none_any lot_waits lots w) made same hand) slots;
  plan = opened_plan d o lots apart;
}

pub placed_call : (ram harts : ℕ) (d : DriverState) (o : Op) (s m : Held) (now : List (Option HartNo)) (lots : List Lot) → IsFixed ram harts d.fixed → IsInHand harts d o → has_start o ≡ true → All (IsLotIn ram d.fixed) lots → AreApart lots → AreMade o lots
    → lots ≡ m.lots → ((buf : ℕ) (to : HartNo) → o ≡ ops.Hand buf to → CanPass d.fixed m buf) → Begins ram d.fixed s m → m.slots ≡ now → IsCall ram d.fixed s now (placed (with_lots d lots) o)
placed_call ram harts d o s m now lots h k start all apart made same hand begins slots = placed_by ram harts d o s m now lots (some_lot_waits lots) refl h k start all apart made same hand begins slots

-- ---- a start

no_fault : (os : List Owner) (o : Option ℕ) (u : Unit {0}) → owned_but os o ≡ Ok u → o ≡ None
no_fault os None u e = refl
no_fault os (Some x) u e = absurd (cc)

thread_is : (me : HartNo) (o : Owner) → is_thread me o ≡ true → o ≡ owners.Thread me
thread_is me (owners.Thread g) e = λ i. owners.Thread (record { 0 = same i })
  where
    same : g.0 ≡ me.0
    same = grind (arith, nat_tests)
thread_is me (owners.Passing g h) e = absurd (false≢true e)
thread_is me (owners.Lending m) e = absurd (false≢true e)
thread_is me (owners.Device m) e = absurd (false≢true e)
thread_is me (owners.Returning m) e = absurd (false≢true e)
thread_is me (owners.Synced m) e = absurd (false≢true e)
thread_is me owners.Pool e = absurd (false≢true e)

range_owned : (me : HartNo) (os : List Owner) (range : Span) (u : Unit {0}) → owned me os range ≡ Ok u → IsOwnedBy os range (owners.Thread me)
range_owned me os range u e x covered =
    thread_is me (owner_in os x) (passes (λ y. is_thread me (owner_in os y)) range x (no_fault os (first_fault (λ y. is_thread me (owner_in os y)) range) u e) covered)

settled_lent : (lots : List Lot) → All IsSettled lots → AllLent lots
settled_lent lots all = all_to IsSettled (λ (lot : Lot). is_wanted lot.side ≡ false) lots all (λ lot h. h.lent)

settled_placed : (lots : List Lot) → All IsSettled lots → All IsPlaced lots
settled_placed lots all = all_to IsSettled IsPlaced lots all (λ lot h. h.placed)

hand_can : (f : DriverConfig) (s : Held) (new : List Lot) (o : Op) (buf : ℕ) (to : HartNo) → All IsSettled s.lots → begin f s.lots s.owners s.pages o ≡ Ok new → o ≡ ops.Hand buf to → CanPass f (changed f s (Made new)) buf
hand_can f s new o buf to settled e is =
    let k = handed f s.lots new s.owners s.pages buf to (subst (λ (p : Op). begin f s.lots s.owners s.pages p ≡ Ok new) is e) in
    record {
      owned = range_owned f.me s.owners (buffer_of f buf) k.owned.0 k.owned.1;
      lent = subst (λ (ls : List Lot). AllLent (s.lots ++ ls)) k.none (subst (λ (ls : List Lot). AllLent ls) (sym (append-nil s.lots)) (settled_lent s.lots settled));
    }

area_opening : (f : DriverConfig) (lots : List Lot) (label : Label) (count : ℕ) (chan : ChanNo) → opening f lots (ops.Calloc label count chan) ≡ turns.Lend (lot_id label 0)
unfolding opening meaning areas.calloc
area_opening f lots label count chan = refl

not_waiting : (lots : List Lot) (lot : Lot) → All IsPlaced lots → lot_waits lot ≡ false → some_lot_waits (lots ++ lot ∷ []) ≡ false
not_waiting lots lot all off = list_any_none lot_waits (lots ++ lot ∷ []) (All-append IsPlaced lots (lot ∷ []) all (All-cons IsPlaced lot [] off (All-nil IsPlaced)))

opened_if : (d : DriverState) (o : Op) (t : Bool) → t ≡ false → (if t then stays (searches d 0) else opened d o) ≡ opened d o
opened_if d o true e = absurd (false≢true (sym e))
opened_if d o false e = refl

allocates : (ram harts : ℕ) (d : DriverState) (s : Held) (o : Op) (label : Label) (count : ℕ) (chan : ChanNo) (span : Span) → IsDriver ram harts d → All IsSettled d.lots → o ≡ ops.Calloc label count chan
    → IsMaking ram d.fixed (here s d.lots) (area_lot (lot_id label 0) chan span ∷ []) → AreApart (d.lots ++ area_lot (lot_id label 0) chan span ∷ [])
    → IsCall ram d.fixed (here s d.lots) s.slots (placed (with_lots d (d.lots ++ area_lot (lot_id label 0) chan span ∷ [])) o)
allocates ram harts d s o label count chan span h settled is making apart =
    let lot = area_lot (lot_id label 0) chan span in
    let lots = d.lots ++ lot ∷ [] in
    let off = not_waiting d.lots lot (settled_placed d.lots settled) refl in
    let turn : opening d.fixed lots o ≡ turns.Lend (lot_id label 0) = ap (opening d.fixed lots) is ∙ area_opening d.fixed lots label count chan in
    subst (λ (w : Went). IsCall ram d.fixed (here s d.lots) s.slots w) (sym (opened_if (with_lots d lots) o (some_lot_waits lots) off)) (record {
      shape = ByArea (record {
        lot = lot;
        making = making;
        area = refl;
        unplaced = refl;
        placed = none_any lot_waits lots off;
        answer = answered (with_lots d lots) o d.saw (plan_of d.fixed lots o);
        lots = went_lots (with_lots d lots) (lots_after (opening d.fixed lots o) lots) d.saw (plan_of d.fixed lots o) ∙ ap (λ t. lots_after t lots) turn;
        moves = ap (λ t. turned d.fixed lots t turns.Stay (answered (with_lots d lots) o d.saw (plan_of d.fixed lots o))) turn;
      }) refl;
      plan = opened_plan d o lots apart;
    })

begins_by : (ram harts : ℕ) (d : DriverState) (s : Held) (o : Op) (new : List Lot) → IsDriver ram harts d → All IsSettled d.lots → IsInHand harts d o → has_start o ≡ true → begin d.fixed d.lots s.owners s.pages o ≡ Ok new → AreNew ram d.fixed o d.lots new → NewIs o new
    → IsCall ram d.fixed (here s d.lots) s.slots (placed (with_lots d (d.lots ++ new)) o)
begins_by ram harts d s o new h settled k start e n (Plain unplaced areas) =
    placed_call ram harts d o (here s d.lots) (changed d.fixed (here s d.lots) (Made new)) s.slots (d.lots ++ new) h.fixed k start (All-append (IsLotIn ram d.fixed) d.lots new h.lots n.each) n.apart
    (record { old = d.lots; new = new; all = refl; settled = settled; names = n.names; wanted = n.wanted }) refl (λ buf to is. hand_can d.fixed (here s d.lots) new o buf to settled e is)
    (Makes new (record { may = record { op = o; begins = e; settled = settled }; op = o; each = n }) areas unplaced refl) refl
begins_by ram harts d s o new h settled k start e n (OneArea label count chan span is same) =
    subst (λ (ls : List Lot). IsCall ram d.fixed (here s d.lots) s.slots (placed (with_lots d (d.lots ++ ls)) o)) (sym same)
    (allocates ram harts d s o label count chan span h settled is
    (subst (λ (ls : List Lot). IsMaking ram d.fixed (here s d.lots) ls) same (record { may = record { op = o; begins = e; settled = settled }; op = o; each = n }))
    (subst (λ (ls : List Lot). AreApart (d.lots ++ ls)) same n.apart))

begun_call : (ram harts : ℕ) (d : DriverState) (s : Held) (o : Op) (r : Result (List Lot) Refusal) → IsDriver ram harts d → All IsSettled d.lots → ArePagesOf d.fixed s.pages → IsInHand harts d o → has_start o ≡ true → begin d.fixed d.lots s.owners s.pages o ≡ r
    → IsCall ram d.fixed (here s d.lots) s.slots (begun d o r)
begun_call ram harts d s o (Err r) h settled of k start e = gives_up ram d s o r
begun_call ram harts d s o (Ok new) h settled of k start e =
    begins_by ram harts d s o new h settled k start e (new_is ram harts d.fixed d.lots new s.owners s.pages o h.fixed settled h.apart of k.fits e) (new_lots d.fixed d.lots new s.owners s.pages o e)

refused_call : (ram : ℕ) (d : DriverState) (s : Held) (o : Op) (r : Result (Option Step) Refusal) → ArePlanSteps d.lots d.rest → IsCall ram d.fixed (here s d.lots) s.slots (refused_step d o r)
refused_call ram d s o (Err r) plan = gives_up ram d s o r
refused_call ram d s o (Ok step) plan = just_stays ram d s plan

start_if : (ram harts : ℕ) (d : DriverState) (s : Held) (o : Op) (t : Bool) → has_start o ≡ t → IsDriver ram harts d → All IsSettled d.lots → ArePagesOf d.fixed s.pages → ArePlanSteps d.lots d.rest → in_hand d ≡ Some o
    → IsCall ram d.fixed (here s d.lots) s.slots (if t then begun d o (begin d.fixed d.lots s.owners s.pages o) else refused_step d o (step_at d.fixed d.lots o (steps_done d.phase)))
start_if ram harts d s o true start h settled of plan e = begun_call ram harts d s o (begin d.fixed d.lots s.owners s.pages o) h settled of (in_hand_is ram harts d o h.fixed e) start refl
start_if ram harts d s o false start h settled of plan e = refused_call ram d s o (step_at d.fixed d.lots o (steps_done d.phase)) plan

next_act_not : (a : Act) → next_act a ≡ nexts.Start → ⊥
next_act_not (acts.Op op) e = absurd (cc)
next_act_not (acts.Claim chan) e = absurd (cc)
next_act_not (acts.Poll chan) e = absurd (cc)
next_act_not (acts.Take buf) e = absurd (cc)

next_rest_not : (rest : List Step) → 0 < length rest → next_rest rest ≡ nexts.Start → ⊥
next_rest_not [] lt e = absurd (omega arith)
next_rest_not (s ∷ rest) lt e = next_act_not s.act e

settled_start : (d : DriverState) (o : Op) (p : Phase) → IsPhase d p → next_in d o p ≡ nexts.Start → All IsSettled d.lots
settled_start d o (Steps n) h e = h.settled
settled_start d o (Search k) h e = absurd (cc)
settled_start d o Work h e = absurd (next_rest_not d.rest h.some e)

start_by : (ram harts : ℕ) (d : DriverState) (s : Held) (o : Option Op) → in_hand d ≡ o → IsDriver ram harts d → ArePagesOf d.fixed s.pages → ArePlanSteps d.lots d.rest → next_of_op d o ≡ nexts.Start → IsCall ram d.fixed (here s d.lots) s.slots (started_of d s.owners s.pages o)
start_by ram harts d s None e h of plan start = just_stays ram d s plan
start_by ram harts d s (Some o) e h of plan start = start_if ram harts d s o (has_start o) refl h (settled_start d o d.phase h.phase start) of plan e

pub start_call : (ram harts : ℕ) (d : DriverState) (s : Held) → IsDriver ram harts d → ArePagesOf d.fixed s.pages → ArePlanSteps d.lots d.rest → next_of d ≡ nexts.Start → IsCall ram d.fixed (here s d.lots) s.slots (started d s.owners s.pages)
unfolding started next_of
start_call ram harts d s h of plan start = start_by ram harts d s (in_hand d) refl h of plan start
