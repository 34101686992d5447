-- A driver goes on: the drivers, what is left of their plans, and the owners of bytes that are passed.
use Rattle.std.specs.Prelude.{All, ◌<◌, slice_set, slice_index_or}
use Rattle.std.proofs.Common.{◌≡◌, ◌≢◌, ℕ, zero, suc, true, List, [], ◌∷◌, length, sym, ap, ◌∙◌, subst, arith, inl, inr}
use Rattle.std.proofs.lemmas.Bool.{cases_eq}
use Rattle.std.proofs.lemmas.List.{get_or-set_same, get_or-set_other}
use Rattle.nc_num.specs.Places.{covers}
use Rattle.nc_num.specs.declared.names.HartNo.{HartNo}
use Rattle.nc_num.specs.declared.places.Span.{Span}
use Rattle.nc_model.specs.declared.owners.Owner.{Owner}
use Rattle.nc_model.specs.declared.owners.Owner.TheVariants as owners
use Rattle.nc_own.specs.Books.{owner_in}
use Rattle.nc_rules.specs.declared.lots.Lot.{Lot}
use Rattle.nc_rules.specs.declared.steps.Step.{Step}
use Rattle.nc_rules.specs.declared.steps.Turn.{Turn}
use Rattle.nc_rules.specs.declared.steps.Turn.TheVariants as turns
use Rattle.nc_rules.specs.Lots.{DriverConfig}
use Rattle.nc_rules.specs.Machine.{MachineState}
use Rattle.nc_rules.specs.Refusals.{buffer_of}
use Rattle.nc_rules.specs.Driver.{DriverState, Went}
use Rattle.nc_rules.specs.World.{WorldState, no_driver, driver_of, owners_moved}
use Rattle.nc_scripts.proofs.Lists.{all_to}
use Rattle.nc_holds.specs.Held.{IsOwnedBy}
use Rattle.nc_holds.specs.Changes.{IsFirstTurn, IsLastTurn, IsPlanStep}
use Rattle.nc_holds.specs.Messages.{mail_steps, rest_of}
use Rattle.nc_holds.proofs.messages.Owners.{Spares, AreOff, owner_moved_off, passing_off}
use Rattle.nc_holds.proofs.messages.Calls.{IsPassing}
use Rattle.nc_holds.proofs.messages.Moves.{TurnsLots}
use Rattle.nc_holds.proofs.tokens.Plans.{OfLots}
use Rattle.nc_holds.proofs.tokens.Worlds.{At, here}

pub record GoesOn (w n : WorldState) (h : HartNo) (m : MachineState) (went : Went) : Type 0 where
  pub machine : n.machine ≡ m
  pub drivers : n.drivers ≡ slice_set w.drivers h.0 went.driver
  pub owners : n.owners ≡ owners_moved w.owners went.moves.transfers
  pub fixed : went.driver.fixed ≡ (driver_of w h.0).fixed

-- ---- drivers

pub driver_here : (w n : WorldState) (h : HartNo) (m : MachineState) (went : Went) → At w h → GoesOn w n h m went → driver_of n h.0 ≡ went.driver
driver_here w n h m went a k =
    ap (λ (ds : List DriverState). slice_index_or ds h.0 no_driver) k.drivers ∙ get_or-set_same w.drivers h.0 went.driver no_driver (omega (arith, a.holds.drivers, a.lt))

pub driver_away : (w n : WorldState) (h : HartNo) (m : MachineState) (went : Went) (g : ℕ) → GoesOn w n h m went → g ≢ h.0 → driver_of n g ≡ driver_of w g
driver_away w n h m went g k ne = ap (λ (ds : List DriverState). slice_index_or ds g no_driver) k.drivers ∙ get_or-set_other w.drivers h.0 g went.driver no_driver ne

pub rest_here : (w n : WorldState) (h : HartNo) (m : MachineState) (went : Went) → At w h → GoesOn w n h m went → rest_of n h.0 ≡ went.driver.rest
rest_here w n h m went a k = ap (λ (d : DriverState). d.rest) (driver_here w n h m went a k)

pub rest_away : (w n : WorldState) (h : HartNo) (m : MachineState) (went : Went) (g : ℕ) → GoesOn w n h m went → g ≢ h.0 → rest_of n g ≡ rest_of w g
rest_away w n h m went g k ne = ap (λ (d : DriverState). d.rest) (driver_away w n h m went g k ne)

-- the messages still to be issued stay, if those of this hart do
pub steps_stay : (w n : WorldState) (h : HartNo) (m : MachineState) (went : Went) (b : ℕ) → At w h → GoesOn w n h m went → mail_steps b went.driver.rest ≡ mail_steps b (driver_of w h.0).rest
    → (g : ℕ) → mail_steps b (rest_of n g) ≡ mail_steps b (rest_of w g)
steps_stay w n h m went b a k same g = elim (cases_eq g h.0) [
  | inl e ↦ subst (λ (j : ℕ). mail_steps b (rest_of n j) ≡ mail_steps b (rest_of w j)) (sym e) (ap (mail_steps b) (rest_here w n h m went a k) ∙ same)
  | inr ne ↦ ap (mail_steps b) (rest_away w n h m went g k ne)
]

pub fixed_stays : (w n : WorldState) (h : HartNo) (m : MachineState) (went : Went) (g : ℕ) → At w h → GoesOn w n h m went → (driver_of n g).fixed ≡ (driver_of w g).fixed
fixed_stays w n h m went g a k = elim (cases_eq g h.0) [
  | inl e ↦ subst (λ (j : ℕ). (driver_of n j).fixed ≡ (driver_of w j).fixed) (sym e) (ap (λ (d : DriverState). d.fixed) (driver_here w n h m went a k) ∙ k.fixed)
  | inr ne ↦ ap (λ (d : DriverState). d.fixed) (driver_away w n h m went g k ne)
]

-- ---- owners

-- all drivers know the buffers alike
pub buffer_alike : (w : WorldState) (h : HartNo) (b : ℕ) → At w h → buffer_of (driver_of w 0).fixed b ≡ buffer_of (driver_of w h.0).fixed b
buffer_alike w h b a = ap (λ (bs : List Span). slice_index_or bs b (record { at = 0; len = 0 })) (a.holds.alike 0 h.0 (omega (arith, a.lt)) a.lt).buffers

passing_in : (ws : List Owner) (x : ℕ) (k to : HartNo) → slice_index_or ws x owners.Pool ≡ owners.Passing k to → x < length ws
passing_in [] x k to e = absurd cc
passing_in (o ∷ ws) zero k to e = omega arith
passing_in (o ∷ ws) (suc x) k to e = omega (arith, passing_in ws x k to e)

pub passing_there : (ws : List Owner) (x : ℕ) (k to : HartNo) → owner_in ws x ≡ owners.Passing k to → x < length ws
unfolding owner_in
passing_there ws x k to e = passing_in ws x k to e

pub owners_stay : (w n : WorldState) (h : HartNo) (m : MachineState) (went : Went) (b : ℕ) → At w h → GoesOn w n h m went
    → ((x : ℕ) → covers (buffer_of (driver_of w h.0).fixed b) x ≡ true → IsPassing (driver_of w h.0).fixed w.owners x → Spares x went.moves.transfers)
    → (k to : HartNo) → IsOwnedBy w.owners (buffer_of (driver_of w 0).fixed b) (owners.Passing k to) → IsOwnedBy n.owners (buffer_of (driver_of n 0).fixed b) (owners.Passing k to)
owners_stay w n h m went b a g spares k to own x on =
    let there : covers (buffer_of (driver_of w 0).fixed b) x ≡ true = subst (λ (f : DriverConfig). covers (buffer_of f b) x ≡ true) (fixed_stays w n h m went 0 a g) on in
    let inside : covers (buffer_of (driver_of w h.0).fixed b) x ≡ true = subst (λ (s : Span). covers s x ≡ true) (buffer_alike w h b a) there in
    let is = own x there in
    ap (λ (ws : List Owner). owner_in ws x) g.owners
    ∙ owner_moved_off w.owners went.moves.transfers x (passing_there w.owners x k to is) (spares x inside (record { b = b; inside = inside; from = k; to = to; is = is }))
    ∙ is

-- no lot of the hart has a byte that is passed
pub lots_off : (w : WorldState) (h : HartNo) (x : ℕ) → At w h → IsPassing (driver_of w h.0).fixed w.owners x → AreOff x (driver_of w h.0).lots
lots_off w h x a p = passing_off (driver_of w h.0).fixed.me w.owners (driver_of w h.0).lots x p.from p.to (here w h a).agrees.owners p.is

-- ---- turns of a plan

first_lots : (t : Turn) → IsFirstTurn t → OfLots t
first_lots turns.Stay h = tt
first_lots (turns.Return id) h = tt
first_lots (turns.Lend id) h = tt
first_lots (turns.Pass range to) h = h
first_lots (turns.Own range) h = h
first_lots (turns.Give id) h = tt
first_lots (turns.Sync id) h = tt
first_lots (turns.Settle id) h = tt
first_lots (turns.End id) h = tt

last_lots : (lots : List Lot) (t : Turn) → IsLastTurn lots t → OfLots t
last_lots lots turns.Stay h = tt
last_lots lots (turns.Return id) h = tt
last_lots lots (turns.Lend id) h = tt
last_lots lots (turns.Pass range to) h = h
last_lots lots (turns.Own range) h = h
last_lots lots (turns.Give id) h = tt
last_lots lots (turns.Sync id) h = tt
last_lots lots (turns.Settle id) h = tt
last_lots lots (turns.End id) h = tt

pub turns_lots : (lots : List Lot) (rest : List Step) → All (IsPlanStep lots) rest → All TurnsLots rest
turns_lots lots rest all = all_to (IsPlanStep lots) TurnsLots rest all (λ s h. record { first = first_lots s.first h.first; last = last_lots lots s.last h.last })
