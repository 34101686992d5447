-- The driver of a hart behind any event: as it was, or behind one of its calls.
use Rattle.std.proofs.Common.{◌≡◌, ℕ, ◌<◌, ◌≤◌, Bool, true, false, List, length, refl, sym, ap, ◌∙◌, subst, arith, inl, inr, Option, Some, None}
use Rattle.std.specs.Prelude.{slice_set}
use Rattle.std.proofs.lemmas.Bool.{cases_eq}
use Rattle.std.proofs.lemmas.List.{get_or-set_same, get_or-set_other}
use Rattle.nc_num.specs.declared.names.HartNo.{HartNo}
use Rattle.nc_num.specs.declared.names.Label.{Label}
use Rattle.nc_queue.specs.declared.entry.Entry.{Entry}
use Rattle.nc_queue.specs.declared.entry.Entry.TheVariants as entries
use Rattle.nc_model.specs.declared.touches.Touch.{Touch}
use Rattle.nc_scen.specs.Events.{IsThere}
use Rattle.nc_scen.specs.declared.events.Event.{Event}
use Rattle.nc_scen.specs.declared.events.Event.TheVariants as events
use Rattle.nc_scen.specs.declared.scenario.Scenario.{Scenario}
use Rattle.nc_rules.specs.declared.steps.Act.{Act}
use Rattle.nc_rules.specs.declared.steps.Next.TheVariants as nexts
use Rattle.nc_rules.specs.declared.steps.Phase.{Phase}
use Rattle.nc_rules.specs.declared.steps.Seen.{Seen}
use Rattle.nc_rules.specs.Lots.{lot_id}
use Rattle.nc_rules.specs.Calls.{leaving}
use Rattle.nc_rules.specs.Driver.{DriverState, next_of, next_act, searching, started, told, done, lent}
use Rattle.nc_rules.specs.Events.{enabled}
use Rattle.nc_rules.specs.Next.{touched_by, after_outcome, counted, next}
use Rattle.nc_rules.specs.Outcomes.{Outcome, drain_outcome, outcome}
use Rattle.nc_rules.specs.World.{WorldState, no_driver, driver_of, with_moves}
use Rattle.nc_scripts.specs.Drivers.{IsPhase, IsLentAt}
use Rattle.nc_holds.specs.Holds.{Holds}
use Rattle.nc_holds.proofs.events.Given.{IsEvent}
use Rattle.nc_holds.proofs.events.Holds.{next_is, next_same}
use Rattle.nc_holds.proofs.tokens.GoesOn.{tokens_are_lent}
use Rattle.nc_flatness.specs.Flatness.{IsWorldOf}
use Rattle.nc_flatness.proofs.worlds.Worlds.{event_now}
use Rattle.nc_refusals.proofs.Outcomes.{Made, Starts, Hears, Acts, made}
use Rattle.nc_refusals.proofs.Quiet.{IsOpenAt, IsOpen, start_open, search_open, done_quiet}
use Rattle.nc_refusals.proofs.Grows.{start_grows, told_grows, done_grows}

pub data Behind (w v : WorldState) (h : HartNo) : Type 0 where
  Same : driver_of v h.0 ≡ driver_of w h.0 → Behind w v h
  Lent : (label : Label) (first : ℕ) → IsLentAt (driver_of w h.0).lots (lot_id label first) → driver_of v h.0 ≡ (lent (driver_of w h.0) label first).driver → Behind w v h
  Started : next_of (driver_of w h.0) ≡ nexts.Start → driver_of v h.0 ≡ (started (driver_of w h.0) w.owners w.pages).driver → Behind w v h
  Told : (k : ℕ) (got : Bool) → searching (driver_of w h.0) ≡ Some k → driver_of v h.0 ≡ (told (driver_of w h.0) got).driver → Behind w v h
  Done : (act : Act) (saw : Seen) → next_of (driver_of w h.0) ≡ next_act act → driver_of v h.0 ≡ (done (driver_of w h.0) saw).driver → Behind w v h

-- ---- the drivers of an outcome

abbrev pub drivers_in : WorldState → List DriverState → ℕ → DriverState
drivers_in w ds h = driver_of (record w { drivers = ds }) h

touched_drivers : (v : WorldState) (t : Option Touch) → (counted (touched_by v t)).drivers ≡ v.drivers
touched_drivers v None = refl
touched_drivers v (Some t) = refl

pub drivers_now : (w : WorldState) (o : Outcome) → (counted (after_outcome w o)).drivers ≡ o.drivers
drivers_now w o = touched_drivers (with_moves (record w { machine = o.machine; drivers = o.drivers; slots = o.slots }) o.moves) o.touch

pub driver_now : (w : WorldState) (o : Outcome) (h : ℕ) → driver_of (counted (after_outcome w o)) h ≡ drivers_in w o.drivers h
driver_now w o h = ap (λ (ds : List DriverState). drivers_in w ds h) (drivers_now w o)

-- the hart's own driver is set
pub mine : (w : WorldState) (h : ℕ) (d : DriverState) → h < length w.drivers → drivers_in w (slice_set w.drivers h d) h ≡ d
mine w h d lt = get_or-set_same w.drivers h d no_driver lt

pub same_hart : (g h : HartNo) → g.0 ≡ h.0 → g ≡ h
same_hart g h e = λ i. record { 0 = e i }

-- another's is not
by_hart : (w v : WorldState) (g h : HartNo) (d : DriverState) → driver_of v h.0 ≡ drivers_in w (slice_set w.drivers g.0 d) h.0 → (g ≡ h → Behind w v h) → Behind w v h
by_hart w v g h d e here = elim (cases_eq h.0 g.0) [
  | inl is ↦ here (sym (same_hart h g is))
  | inr ne ↦ Same (e ∙ get_or-set_other w.drivers g.0 h.0 d no_driver ne)
]

set_here : (w v : WorldState) (h : HartNo) (d : DriverState) → h.0 < length w.drivers → driver_of v h.0 ≡ drivers_in w (slice_set w.drivers h.0 d) h.0 → driver_of v h.0 ≡ d
set_here w v h d lt e = e ∙ mine w h.0 d lt

-- ---- each kind of event

now_by : (w : WorldState) (o : Outcome) (ds : List DriverState) (h : ℕ) → o.drivers ≡ ds → driver_of (counted (after_outcome w o)) h ≡ drivers_in w ds h
now_by w o ds h e = driver_now w o h ∙ ap (λ (xs : List DriverState). drivers_in w xs h) e

made_here : (w : WorldState) (h : HartNo) (o : Outcome) → h.0 < length w.drivers → Made w h o → Behind w (counted (after_outcome w o)) h
made_here w h o lt (Starts touch records at e) =
    let went = started (driver_of w h.0) w.owners w.pages in
    Started at (now_by w o (slice_set w.drivers h.0 went.driver) h.0 (ap (λ (y : Outcome). y.drivers) e) ∙ mine w h.0 went.driver lt)
made_here w h o lt (Hears k got now records at words e) =
    let went = told (driver_of w h.0) got in
    Told k got at (now_by w o (slice_set w.drivers h.0 went.driver) h.0 (ap (λ (y : Outcome). y.drivers) e) ∙ mine w h.0 went.driver lt)
made_here w h o lt (Acts act saw touch records at sees e) =
    let went = done (driver_of w h.0) saw in
    Done act saw at (now_by w o (slice_set w.drivers h.0 went.driver) h.0 (ap (λ (y : Outcome). y.drivers) e) ∙ mine w h.0 went.driver lt)

-- the driver that it sets
record SetsOne (w : WorldState) (g : HartNo) (o : Outcome) : Type 0 where
  driver : DriverState
  is : o.drivers ≡ slice_set w.drivers g.0 driver

made_sets : (w : WorldState) (g : HartNo) (o : Outcome) → Made w g o → SetsOne w g o
made_sets w g o (Starts touch records at e) = record { driver = (started (driver_of w g.0) w.owners w.pages).driver; is = ap (λ (y : Outcome). y.drivers) e }
made_sets w g o (Hears k got now records at words e) = record { driver = (told (driver_of w g.0) got).driver; is = ap (λ (y : Outcome). y.drivers) e }
made_sets w g o (Acts act saw touch records at sees e) = record { driver = (done (driver_of w g.0) saw).driver; is = ap (λ (y : Outcome). y.drivers) e }

made_behind : (w : WorldState) (g h : HartNo) (o : Outcome) → h.0 < length w.drivers → Made w g o → Behind w (counted (after_outcome w o)) h
made_behind w g h o lt m =
    let s = made_sets w g o m in
    by_hart w (counted (after_outcome w o)) g h s.driver (now_by w o (slice_set w.drivers g.0 s.driver) h.0 s.is)
    (λ is. made_here w h o lt (subst (λ (x : HartNo). Made w x o) is m))

alone : (w : WorldState) (h : HartNo) (o : Outcome) → o.drivers ≡ w.drivers → Behind w (counted (after_outcome w o)) h
alone w h o e = Same (now_by w o w.drivers h.0 e)

lends_here : (w : WorldState) (g h : HartNo) (o : Outcome) (label : Label) (first : ℕ) → h.0 < length w.drivers → o.drivers ≡ slice_set w.drivers g.0 (lent (driver_of w g.0) label first).driver → IsLentAt (driver_of w g.0).lots (lot_id label first) → g ≡ h → Behind w (counted (after_outcome w o)) h
lends_here w g h o label first lt e at is =
    Lent label first (subst (λ (x : HartNo). IsLentAt (driver_of w x.0).lots (lot_id label first)) is at)
    (now_by w o (slice_set w.drivers h.0 (lent (driver_of w h.0) label first).driver) h.0 (subst (λ (x : HartNo). o.drivers ≡ slice_set w.drivers x.0 (lent (driver_of w x.0) label first).driver) is e)
    ∙ mine w h.0 (lent (driver_of w h.0) label first).driver lt)

-- what a drain does to the drivers
data Drained (w : WorldState) (g : HartNo) (o : Outcome) : Type 0 where
  Rests : o.drivers ≡ w.drivers → Drained w g o
  Token : (label : Label) (first : ℕ) → IsLentAt (driver_of w g.0).lots (lot_id label first) → o.drivers ≡ slice_set w.drivers g.0 (lent (driver_of w g.0) label first).driver → Drained w g o

drained_at : (w : WorldState) (g : HartNo) (i : ℕ) (o : Option Entry) → leaving w.machine g.0 i ≡ o → Holds w → g.0 < length w.machine.harts → Drained w g (drain_outcome w g i o)
unfolding drain_outcome
drained_at w g i None e k lt = Rests refl
drained_at w g i (Some (entries.Lend label first count)) e k lt = Token label first (tokens_are_lent w g.0 i label first count k lt e) refl
drained_at w g i (Some (entries.Store span bytes kind)) e k lt = Rests refl
drained_at w g i (Some (entries.Cbo block op)) e k lt = Rests refl
drained_at w g i (Some (entries.Reg chan off width value)) e k lt = Rests refl
drained_at w g i (Some (entries.Mail buf to)) e k lt = Rests refl
drained_at w g i (Some (entries.Mark pred succ)) e k lt = Rests refl

drained_behind : (w : WorldState) (g h : HartNo) (o : Outcome) → h.0 < length w.drivers → Drained w g o → Behind w (counted (after_outcome w o)) h
drained_behind w g h o lt (Rests e) = alone w h o e
drained_behind w g h o lt (Token label first at e) =
    by_hart w (counted (after_outcome w o)) g h (lent (driver_of w g.0) label first).driver (now_by w o (slice_set w.drivers g.0 (lent (driver_of w g.0) label first).driver) h.0 e)
    (λ is. lends_here w g h o label first lt e at is)

drain_is : (w : WorldState) (g : HartNo) (i : ℕ) → outcome w (events.Drain g i) ≡ drain_outcome w g i (leaving w.machine g.0 i)
unfolding outcome
drain_is w g i = refl

fill_alone : (w : WorldState) (g : HartNo) (b : _) → (outcome w (events.Fill g b)).drivers ≡ w.drivers
unfolding outcome
fill_alone w g b = refl

evict_alone : (w : WorldState) (g : HartNo) (b : _) → (outcome w (events.Evict g b)).drivers ≡ w.drivers
unfolding outcome
evict_alone w g b = refl

read_alone : (w : WorldState) (c : _) → (outcome w (events.ChanRead c)).drivers ≡ w.drivers
unfolding outcome
read_alone w c = refl

write_alone : (w : WorldState) (c : _) → (outcome w (events.ChanWrite c)).drivers ≡ w.drivers
unfolding outcome
write_alone w c = refl

event_behind : (w : WorldState) (e : Event) (h : HartNo) → IsEvent w e → h.0 < length w.drivers → Behind w (counted (after_outcome w (outcome w e))) h
event_behind w (events.Issue g) h is lt = made_behind w g h (outcome w (events.Issue g)) lt (made w (events.Issue g) g refl is.may)
event_behind w (events.Try g) h is lt = made_behind w g h (outcome w (events.Try g)) lt (made w (events.Try g) g refl is.may)
event_behind w (events.Told g got) h is lt = made_behind w g h (outcome w (events.Told g got)) lt (made w (events.Told g got) g refl is.may)
event_behind w (events.Drain g i) h is lt =
    subst (λ (o : Outcome). Behind w (counted (after_outcome w o)) h) (sym (drain_is w g i)) (drained_behind w g h (drain_outcome w g i (leaving w.machine g.0 i)) lt (drained_at w g i (leaving w.machine g.0 i) refl is.holds is.there))
event_behind w (events.Fill g b) h is lt = alone w h (outcome w (events.Fill g b)) (fill_alone w g b)
event_behind w (events.Evict g b) h is lt = alone w h (outcome w (events.Evict g b)) (evict_alone w g b)
event_behind w (events.ChanRead c) h is lt = alone w h (outcome w (events.ChanRead c)) (read_alone w c)
event_behind w (events.ChanWrite c) h is lt = alone w h (outcome w (events.ChanWrite c)) (write_alone w c)

behind_if : (sc : Scenario) (w : WorldState) (e : Event) (h : HartNo) (t : Bool) → enabled w e ≡ t → IsWorldOf sc w → IsThere (length sc.harts) sc.block_size sc.ram e → h.0 < length w.drivers → Behind w (next w e) h
behind_if sc w e h true may is there lt = subst (λ (v : WorldState). Behind w v h) (sym (next_is w e may)) (event_behind w e h (event_now sc w e is there may) lt)
behind_if sc w e h false off is there lt = subst (λ (v : WorldState). Behind w v h) (sym (next_same w e off)) (Same refl)

pub behind : (sc : Scenario) (w : WorldState) (e : Event) (h : HartNo) → IsWorldOf sc w → IsThere (length sc.harts) sc.block_size sc.ram e → h.0 < length w.drivers → Behind w (next w e) h
behind sc w e h is there lt = behind_if sc w e h (enabled w e) refl is there lt

-- ---- what stays

lent_op : (d : DriverState) (label : Label) (first : ℕ) → (lent d label first).driver.op ≡ d.op
unfolding lent
lent_op d label first = refl

lent_open : (d : DriverState) (label : Label) (first : ℕ) → IsOpen (lent d label first).driver → IsOpen d
unfolding lent
lent_open d label first can = can

le_by : (a b c : ℕ) → a ≤ b → c ≡ b → a ≤ c
le_by a b c le e = omega (arith, le, e)

pub grows : (w v : WorldState) (h : HartNo) → Behind w v h → (driver_of w h.0).op ≤ (driver_of v h.0).op
grows w v h (Same e) = let k = ap (λ (d : DriverState). d.op) e in omega (arith, k)
grows w v h (Lent label first at e) = let k = ap (λ (d : DriverState). d.op) e ∙ lent_op (driver_of w h.0) label first in omega (arith, k)
grows w v h (Started at e) = le_by (driver_of w h.0).op (started (driver_of w h.0) w.owners w.pages).driver.op (driver_of v h.0).op (start_grows (driver_of w h.0) w.owners w.pages) (ap (λ (d : DriverState). d.op) e)
grows w v h (Told k got at e) = le_by (driver_of w h.0).op (told (driver_of w h.0) got).driver.op (driver_of v h.0).op (told_grows (driver_of w h.0) got) (ap (λ (d : DriverState). d.op) e)
grows w v h (Done act saw at e) = le_by (driver_of w h.0).op (done (driver_of w h.0) saw).driver.op (driver_of v h.0).op (done_grows (driver_of w h.0) saw) (ap (λ (d : DriverState). d.op) e)

-- one that may still be refused could be before
pub open_back : (w v : WorldState) (h : HartNo) → Behind w v h → IsPhase (driver_of w h.0) (driver_of w h.0).phase → (driver_of v h.0).op ≡ (driver_of w h.0).op → IsOpen (driver_of v h.0) → IsOpen (driver_of w h.0)
open_back w v h (Same e) phase same can = subst (λ (d : DriverState). IsOpen d) e can
open_back w v h (Lent label first at e) phase same can = lent_open (driver_of w h.0) label first (subst (λ (d : DriverState). IsOpen d) e can)
open_back w v h (Started at e) phase same can = start_open (driver_of w h.0) phase at
open_back w v h (Told k got at e) phase same can = search_open (driver_of w h.0) k at
open_back w v h (Done act saw at e) phase same can =
    let d = driver_of w h.0 in
    let n = done_quiet d saw act phase at (sym (ap (λ (x : DriverState). x.op) e) ∙ same) (subst (λ (x : DriverState). IsOpen x) e can) in
    subst (λ (p : Phase). IsOpenAt p d.rest) (sym n.before) tt
