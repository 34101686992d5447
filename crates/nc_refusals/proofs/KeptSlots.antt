-- The slots of the lots that are lent stay while an operation may still be refused.
use Rattle.std.proofs.Common.{◌≡◌, ℕ, ◌+◌, Bool, true, false, List, [], ◌∷◌, ◌++◌, flat_map, refl, sym, ap, ◌∙◌, subst, Option, Some, None, Result, Ok, Err}
use Rattle.std.specs.Prelude.{All, not, if◌then◌else◌, nat_lt}
use Rattle.std.proofs.lemmas.List.{append-nil}
use Rattle.std.proofs.lemmas.List.Elements.{All-head, All-tail, filter-append}
use Rattle.nc_num.specs.declared.names.HartNo.{HartNo}
use Rattle.nc_num.specs.declared.names.Label.{Label}
use Rattle.nc_model.specs.declared.owners.Owner.{Owner}
use Rattle.nc_coherent.specs.Pages.{PageMap}
use Rattle.nc_ops.specs.declared.ops.Op.{Op}
use Rattle.nc_rules.specs.declared.answers.Refusal.{Refusal}
use Rattle.nc_rules.specs.declared.answers.Refusal.TheVariants as refusals
use Rattle.nc_rules.specs.declared.lots.Lot.{Lot}
use Rattle.nc_rules.specs.declared.lots.LotId.{LotId}
use Rattle.nc_rules.specs.declared.lots.Side.TheVariants as sides
use Rattle.nc_rules.specs.declared.steps.Next.TheVariants as nexts
use Rattle.nc_rules.specs.declared.steps.Phase.{Phase}
use Rattle.nc_rules.specs.declared.steps.Phase.TheVariants.{Steps, Search, Work}
use Rattle.nc_rules.specs.declared.steps.Step.{Step}
use Rattle.nc_rules.specs.declared.steps.Turn.{Turn}
use Rattle.nc_rules.specs.Lots.{lot_id, is_lot, is_wanted, lot_waits, some_lot_waits, with_slot, slot_given, slots_held}
use Rattle.nc_rules.specs.Turns.{set_side, lots_after, without_wanted}
use Rattle.nc_rules.specs.Operations.{has_start, step_at, begin, opening, plan_of}
use Rattle.nc_rules.specs.Driver.{DriverState, in_hand, next_of, next_of_op, next_in, stays, give_up, went_to, opened, searches, placed, with_lots, begun, refused_step, steps_done, started, started_of, told, told_of, told_in, told_word, lent}
use Rattle.nc_rules.specs.World.{WorldState, driver_of}
use Rattle.nc_scripts.specs.Drivers.{IsDriver, IsPhase, IsSettled, IsLentAt, ArePagesOf}
use Rattle.nc_scripts.proofs.NewLots.{new_is}
use Rattle.nc_scripts.proofs.EveryDriver.{in_hand_is}
use Rattle.nc_holds.specs.Changes.{WaitsUnlent}
use Rattle.nc_refusals.proofs.Heads.{begins_claim, quiet_opening}
use Rattle.nc_refusals.proofs.Quiet.{IsOpen, done_quiet, one_more_not, rest_not_start}
use Rattle.nc_refusals.proofs.Behind.{Behind, Same, Lent, Started, Told, Done}

-- the slots of the lots that are lent, or were
abbrev pub kept : List Lot → List ℕ
kept lots = flat_map slots_held (without_wanted lots)

-- ---- lists

none_lent : (lots : List Lot) → All (λ (lot : Lot). is_wanted lot.side ≡ true) lots → without_wanted lots ≡ []
none_lent [] all = refl
none_lent (lot ∷ lots) all =
    rw (All-head (λ (l : Lot). is_wanted l.side ≡ true) lot lots all) (none_lent lots (All-tail (λ (l : Lot). is_wanted l.side ≡ true) lot lots all))

pub all_lent : (lots : List Lot) → All IsSettled lots → without_wanted lots ≡ lots
all_lent [] all = refl
all_lent (lot ∷ lots) all = rw ((All-head IsSettled lot lots all).lent) (ap (λ (ls : List Lot). lot ∷ ls) (all_lent lots (All-tail IsSettled lot lots all)))

-- lots that are not lent yet change nothing
kept_more : (lots new : List Lot) → All (λ (lot : Lot). is_wanted lot.side ≡ true) new → kept (lots ++ new) ≡ kept lots
kept_more lots new all =
    ap (flat_map slots_held) (filter-append (λ (lot : Lot). not (is_wanted lot.side)) lots new ∙ ap (λ (ls : List Lot). without_wanted lots ++ ls) (none_lent new all) ∙ append-nil (without_wanted lots))

-- a slot goes to a lot that is not lent yet
given_if : (k : ℕ) (lot : Lot) (lots : List Lot) (t : Bool) → lot_waits lot ≡ t → (lot_waits lot ≡ true → is_wanted lot.side ≡ true) → kept (slot_given k lots) ≡ kept lots → kept (if t then with_slot k lot ∷ lots else lot ∷ slot_given k lots) ≡ kept (lot ∷ lots)
given_if k lot lots true e unlent more = rw (unlent e) refl
given_if k lot lots false e unlent more = by (is_wanted lot.side)
  where
    by : (w : Bool) → flat_map slots_held (if not w then lot ∷ without_wanted (slot_given k lots) else without_wanted (slot_given k lots)) ≡ flat_map slots_held (if not w then lot ∷ without_wanted lots else without_wanted lots)
    by true = more
    by false = ap (λ (ks : List ℕ). slots_held lot ++ ks) more

kept_given : (k : ℕ) (lots : List Lot) → WaitsUnlent lots → kept (slot_given k lots) ≡ kept lots
kept_given k [] all = refl
kept_given k (lot ∷ lots) all =
    given_if k lot lots (lot_waits lot) refl (All-head (λ (l : Lot). lot_waits l ≡ true → is_wanted l.side ≡ true) lot lots all)
    (kept_given k lots (All-tail (λ (l : Lot). lot_waits l ≡ true → is_wanted l.side ≡ true) lot lots all))

-- a lot that is lent stays so
side_if : (id : LotId) (lot : Lot) (rest more : List Lot) (t : Bool) → (t ≡ true → is_wanted lot.side ≡ false) → flat_map slots_held rest ≡ flat_map slots_held more
    → flat_map slots_held (if not (is_wanted (if t then record lot { side = sides.Device } else lot).side) then (if t then record lot { side = sides.Device } else lot) ∷ rest else rest) ≡ flat_map slots_held (if not (is_wanted lot.side) then lot ∷ more else more)
side_if id lot rest more true is e = rw (is refl) (ap (λ (ks : List ℕ). slots_held lot ++ ks) e)
side_if id lot rest more false is e = by (is_wanted lot.side)
  where
    by : (w : Bool) → flat_map slots_held (if not w then lot ∷ rest else rest) ≡ flat_map slots_held (if not w then lot ∷ more else more)
    by true = e
    by false = ap (λ (ks : List ℕ). slots_held lot ++ ks) e

kept_device : (id : LotId) (lots : List Lot) → IsLentAt lots id → kept (set_side sides.Device id lots) ≡ kept lots
kept_device id [] all = refl
kept_device id (lot ∷ lots) all =
    side_if id lot (without_wanted (set_side sides.Device id lots)) (without_wanted lots) (is_lot id lot) (All-head (λ (l : Lot). is_lot id l ≡ true → is_wanted l.side ≡ false) lot lots all)
    (kept_device id lots (All-tail (λ (l : Lot). is_lot id l ≡ true → is_wanted l.side ≡ false) lot lots all))

-- ---- starts

opened_lots : (d : DriverState) (o : Op) (ps : List Step) → plan_of d.fixed d.lots o ≡ ps → (went_to d (lots_after (opening d.fixed d.lots o) d.lots) d.saw ps).op ≡ d.op → IsOpen (went_to d (lots_after (opening d.fixed d.lots o) d.lots) d.saw ps)
    → (went_to d (lots_after (opening d.fixed d.lots o) d.lots) d.saw ps).lots ≡ d.lots
opened_lots d o [] e same can = absurd (one_more_not d.op same)
opened_lots d o (s ∷ rest) e same can = ap (λ (t : Turn). lots_after t d.lots) (quiet_opening d.fixed d.lots o (ap begins_claim e ∙ can))

placed_if : (d e : DriverState) (o : Op) (t : Bool) → e.lots ≡ d.lots → (if t then stays e else opened d o).driver.op ≡ d.op → IsOpen (if t then stays e else opened d o).driver → (if t then stays e else opened d o).driver.lots ≡ d.lots
placed_if d e o true here same can = here
placed_if d e o false here same can = opened_lots d o (plan_of d.fixed d.lots o) refl same can

placed_lots : (d : DriverState) (o : Op) → (placed d o).driver.op ≡ d.op → IsOpen (placed d o).driver → (placed d o).driver.lots ≡ d.lots
placed_lots d o same can = placed_if d (searches d 0) o (some_lot_waits d.lots) refl same can

-- what a driver is as it starts an operation
record IsStarting (ram harts : ℕ) (d : DriverState) (ws : List Owner) (pages : PageMap) : Type 0 where
  driver : IsDriver ram harts d
  pages_of : ArePagesOf d.fixed pages
  settled : All IsSettled d.lots

begun_kept : (ram harts : ℕ) (d : DriverState) (ws : List Owner) (pages : PageMap) (o : Op) (r : Result (List Lot) Refusal) → IsStarting ram harts d ws pages → in_hand d ≡ Some o → begin d.fixed d.lots ws pages o ≡ r → (begun d o r).driver.op ≡ d.op → IsOpen (begun d o r).driver
    → kept (begun d o r).driver.lots ≡ kept d.lots
begun_kept ram harts d ws pages o (Err r) is here e same can = absurd (one_more_not d.op same)
begun_kept ram harts d ws pages o (Ok new) is here e same can =
    let fits = (in_hand_is ram harts d o is.driver.fixed here).fits in
    let n = new_is ram harts d.fixed d.lots new ws pages o is.driver.fixed is.settled is.driver.apart is.pages_of fits e in
    ap kept (placed_lots (with_lots d (d.lots ++ new)) o same can) ∙ kept_more d.lots new n.wanted

step_kept : (d : DriverState) (o : Op) (r : Result (Option Step) Refusal) → (refused_step d o r).driver.op ≡ d.op → kept (refused_step d o r).driver.lots ≡ kept d.lots
step_kept d o (Err r) same = absurd (one_more_not d.op same)
step_kept d o (Ok s) same = refl

start_if : (ram harts : ℕ) (d : DriverState) (ws : List Owner) (pages : PageMap) (o : Op) (s : Result (Option Step) Refusal) (t : Bool) → IsStarting ram harts d ws pages → in_hand d ≡ Some o → (if t then begun d o (begin d.fixed d.lots ws pages o) else refused_step d o s).driver.op ≡ d.op
    → IsOpen (if t then begun d o (begin d.fixed d.lots ws pages o) else refused_step d o s).driver → kept (if t then begun d o (begin d.fixed d.lots ws pages o) else refused_step d o s).driver.lots ≡ kept d.lots
start_if ram harts d ws pages o s true is here same can = begun_kept ram harts d ws pages o (begin d.fixed d.lots ws pages o) is here refl same can
start_if ram harts d ws pages o s false is here same can = step_kept d o s same

start_by : (ram harts : ℕ) (d : DriverState) (ws : List Owner) (pages : PageMap) (o : Option Op) → IsStarting ram harts d ws pages → in_hand d ≡ o → (started_of d ws pages o).driver.op ≡ d.op → IsOpen (started_of d ws pages o).driver → kept (started_of d ws pages o).driver.lots ≡ kept d.lots
start_by ram harts d ws pages None is here same can = refl
start_by ram harts d ws pages (Some o) is here same can = start_if ram harts d ws pages o (step_at d.fixed d.lots o (steps_done d.phase)) (has_start o) is here same can

settled_in : (d : DriverState) (o : Op) (p : Phase) → IsPhase d p → next_in d o p ≡ nexts.Start → All IsSettled d.lots
settled_in d o (Steps n) h e = h.settled
settled_in d o (Search k) h e = absurd (cc)
settled_in d o Work h e = absurd (rest_not_start d.rest h.some e)

settled_by : (d : DriverState) (o : Option Op) → IsPhase d d.phase → next_of_op d o ≡ nexts.Start → All IsSettled d.lots
settled_by d None h e = absurd (cc)
settled_by d (Some o) h e = settled_in d o d.phase h e

settled_start : (d : DriverState) → IsPhase d d.phase → next_of d ≡ nexts.Start → All IsSettled d.lots
unfolding next_of
settled_start d h e = settled_by d (in_hand d) h e

start_kept : (ram harts : ℕ) (d : DriverState) (ws : List Owner) (pages : PageMap) → IsDriver ram harts d → ArePagesOf d.fixed pages → next_of d ≡ nexts.Start → (started d ws pages).driver.op ≡ d.op → IsOpen (started d ws pages).driver → kept (started d ws pages).driver.lots ≡ kept d.lots
unfolding started
start_kept ram harts d ws pages h of e same can = start_by ram harts d ws pages (in_hand d) (record { driver = h; pages_of = of; settled = settled_start d h.phase e }) refl same can

-- ---- slot words

missed_if : (d e : DriverState) (o : Op) (t : Bool) → e.lots ≡ d.lots → (if t then stays e else give_up d o refusals.NoSlot).driver.op ≡ d.op → (if t then stays e else give_up d o refusals.NoSlot).driver.lots ≡ d.lots
missed_if d e o true here same = here
missed_if d e o false here same = absurd (one_more_not d.op same)

word_kept : (d : DriverState) (o : Op) (k : ℕ) (got : Bool) → WaitsUnlent d.lots → (told_word d o k got).driver.op ≡ d.op → IsOpen (told_word d o k got).driver → kept (told_word d o k got).driver.lots ≡ kept d.lots
word_kept d o k true unlent same can = ap kept (placed_lots (with_lots d (slot_given k d.lots)) o same can) ∙ kept_given k d.lots unlent
word_kept d o k false unlent same can = ap kept (missed_if d (searches d (k + 1)) o (nat_lt (k + 1) d.fixed.slots) refl same)

told_in_kept : (d : DriverState) (o : Op) (p : Phase) (got : Bool) → WaitsUnlent d.lots → (told_in d o p got).driver.op ≡ d.op → IsOpen (told_in d o p got).driver → kept (told_in d o p got).driver.lots ≡ kept d.lots
told_in_kept d o (Steps n) got unlent same can = refl
told_in_kept d o (Search k) got unlent same can = word_kept d o k got unlent same can
told_in_kept d o Work got unlent same can = refl

told_by : (d : DriverState) (o : Option Op) (got : Bool) → WaitsUnlent d.lots → (told_of d o got).driver.op ≡ d.op → IsOpen (told_of d o got).driver → kept (told_of d o got).driver.lots ≡ kept d.lots
told_by d None got unlent same can = refl
told_by d (Some o) got unlent same can = told_in_kept d o d.phase got unlent same can

told_kept : (d : DriverState) (got : Bool) → WaitsUnlent d.lots → (told d got).driver.op ≡ d.op → IsOpen (told d got).driver → kept (told d got).driver.lots ≡ kept d.lots
unfolding told
told_kept d got unlent same can = told_by d (in_hand d) got unlent same can

-- ---- any event

lent_kept : (d : DriverState) (label : Label) (first : ℕ) → IsLentAt d.lots (lot_id label first) → kept (lent d label first).driver.lots ≡ kept d.lots
unfolding lent
lent_kept d label first at = kept_device (lot_id label first) d.lots at

-- what is known of a driver in a world
pub record IsKnown (ram harts : ℕ) (w : WorldState) (h : HartNo) : Type 0 where
  pub driver : IsDriver ram harts (driver_of w h.0)
  pub pages : ArePagesOf (driver_of w h.0).fixed w.pages
  pub waits : WaitsUnlent (driver_of w h.0).lots

pub kept_behind : (ram harts : ℕ) (w v : WorldState) (h : HartNo) → IsKnown ram harts w h → Behind w v h → (driver_of v h.0).op ≡ (driver_of w h.0).op → IsOpen (driver_of v h.0) → kept (driver_of v h.0).lots ≡ kept (driver_of w h.0).lots
kept_behind ram harts w v h is (Same e) same can = ap (λ (d : DriverState). kept d.lots) e
kept_behind ram harts w v h is (Lent label first at e) same can = ap (λ (d : DriverState). kept d.lots) e ∙ lent_kept (driver_of w h.0) label first at
kept_behind ram harts w v h is (Started at e) same can =
    ap (λ (d : DriverState). kept d.lots) e
    ∙ start_kept ram harts (driver_of w h.0) w.owners w.pages is.driver is.pages at (sym (ap (λ (x : DriverState). x.op) e) ∙ same) (subst (λ (x : DriverState). IsOpen x) e can)
kept_behind ram harts w v h is (Told k got at e) same can =
    ap (λ (d : DriverState). kept d.lots) e ∙ told_kept (driver_of w h.0) got is.waits (sym (ap (λ (x : DriverState). x.op) e) ∙ same) (subst (λ (x : DriverState). IsOpen x) e can)
kept_behind ram harts w v h is (Done act saw at e) same can =
    let n = done_quiet (driver_of w h.0) saw act is.driver.phase at (sym (ap (λ (x : DriverState). x.op) e) ∙ same) (subst (λ (x : DriverState). IsOpen x) e can) in
    ap (λ (d : DriverState). kept d.lots) e ∙ ap kept n.lots
