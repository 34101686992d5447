-- What a call of a driver does to what its hart holds: it makes lots or gets a slot, and then it stays, gives up, or makes
-- two turns; or it makes an area and lends it.
use Rattle.std.proofs.Common.{◌≡◌, ℕ, ◌<◌, ◌≤◌, arith, Bool, true, false, List, [], ◌∷◌, ◌++◌, flat_map, refl, sym, ap, ◌∙◌, subst, inl, inr, Option, Some, None}
use Rattle.std.specs.Prelude.{All, ◌⊎◌}
use Rattle.std.proofs.lemmas.List.Elements.{All-head, All-tail}
use Rattle.nc_num.specs.declared.names.HartNo.{HartNo}
use Rattle.nc_num.specs.declared.places.Span.{Span}
use Rattle.nc_model.specs.declared.owners.Owner.TheVariants as owners
use Rattle.nc_ops.specs.declared.ops.Op.{Op}
use Rattle.nc_ops.specs.declared.ops.Op.TheVariants as ops
use Rattle.nc_rules.specs.declared.answers.Answer.{Answer}
use Rattle.nc_rules.specs.declared.lots.Kind.{Kind}
use Rattle.nc_rules.specs.declared.lots.Kind.TheVariants as kinds
use Rattle.nc_rules.specs.declared.lots.Lot.{Lot}
use Rattle.nc_rules.specs.declared.lots.LotId.{LotId}
use Rattle.nc_rules.specs.declared.steps.PageMove.TheVariants as pages
use Rattle.nc_rules.specs.declared.steps.Step.{Step}
use Rattle.nc_rules.specs.declared.steps.Turn.{Turn}
use Rattle.nc_rules.specs.declared.steps.Turn.TheVariants as turns
use Rattle.nc_rules.specs.Lots.{DriverConfig, is_lot, is_wanted, lot_waits, slots_held}
use Rattle.nc_rules.specs.Refusals.{buffer_of}
use Rattle.nc_rules.specs.Turns.{moved, is_area, those, lots_after, lots_after_both, ended_of, pages_of, page_move, page_moves, pages_taken, turned, given_up, without_wanted}
use Rattle.nc_rules.specs.Driver.{Went}
use Rattle.nc_scripts.specs.Drivers.{IsLotIn, FitsKind, IsEndName, LendsFirst, lots_of, IsOwed}
use Rattle.nc_scripts.proofs.Lists.{all_to, all_filtered}
use Rattle.nc_scripts.proofs.LotLaws.{IsPlaced, Becomes, thinned, thins_all, named_so, its_name}
use Rattle.nc_holds.specs.Held.{Held, AreLent, IsOwnedBy}
use Rattle.nc_holds.specs.Changes.{Made, Got, Turned, changed, AreAreas, ArePlaced, MayTurn, MayGet, IsFirstTurn, IsLastTurn, IsPlanStep}
use Rattle.nc_holds.proofs.owners.Facts.{AllLent, NoAreas, TurnFits, IsMaking}
use Rattle.nc_holds.proofs.calls.Plans.{ArePlanSteps, IsOpening}

-- ---- shapes

-- what all share, with one hart's lots
abbrev pub here : Held → List Lot → Held
here s lots = record s { lots = lots }

-- a turn that drivers make
pub record MakesTurn (f : DriverConfig) (s : Held) (t : Turn) : Type 0 where
  pub may : MayTurn f s t
  pub fits : TurnFits s.lots t
  pub placed : (id : LotId) → t ≡ turns.Lend id → All IsPlaced s.lots

-- it ends no grant and moves no page
pub record IsQuietTurn (f : DriverConfig) (lots : List Lot) (t : Turn) : Type 0 where
  pub ended : ended_of f.me lots t ≡ []
  pub pages : pages_of lots t ≡ pages.Stay

-- how a call begins, and what is held then
pub data Begins (ram : ℕ) (f : DriverConfig) (s m : Held) : Type 0 where
  As : m ≡ s → Begins ram f s m
  Makes : (new : List Lot) → IsMaking ram f s new → NoAreas new → flat_map slots_held new ≡ [] → m ≡ changed f s (Made new) → Begins ram f s m
  Gets : (k : ℕ) → MayGet s k → k < f.slots → m ≡ changed f s (Got k) → Begins ram f s m

-- how it ends
pub data Ends (f : DriverConfig) (m : Held) (went : Went) : Type 0 where
  Stays : went.driver.lots ≡ m.lots → went.moves ≡ moved [] None → Ends f m went
  Drops : (a : Answer) → went.driver.lots ≡ without_wanted m.lots → went.moves ≡ given_up m.lots a → Ends f m went
  Turns : (t u : Turn) (a : Option Answer) → MakesTurn f m t → MakesTurn f (changed f m (Turned t)) u → (u ≡ turns.Stay) ⊎ IsQuietTurn f m.lots t
      → went.driver.lots ≡ lots_after_both t u m.lots → went.moves ≡ turned f m.lots t u a → Ends f m went

-- an area is made and lent
pub record Allocates (ram : ℕ) (f : DriverConfig) (s : Held) (went : Went) : Type 0 where
  pub lot : Lot
  pub making : IsMaking ram f s (lot ∷ [])
  pub area : is_area lot.kind ≡ true
  pub unplaced : flat_map slots_held (lot ∷ []) ≡ []
  pub placed : All IsPlaced (s.lots ++ lot ∷ [])
  pub answer : Option Answer
  pub lots : went.driver.lots ≡ lots_after (turns.Lend lot.id) (s.lots ++ lot ∷ [])
  pub moves : went.moves ≡ turned f (s.lots ++ lot ∷ []) (turns.Lend lot.id) turns.Stay answer

-- where the slot words are these before it gives any back
pub data Shape (ram : ℕ) (f : DriverConfig) (s : Held) (now : List (Option HartNo)) (went : Went) : Type 0 where
  Plainly : (m : Held) → Begins ram f s m → Ends f m went → m.slots ≡ now → Shape ram f s now went
  ByArea : Allocates ram f s went → s.slots ≡ now → Shape ram f s now went

-- a call of a driver, and that the rest is one of a plan
pub record IsCall (ram : ℕ) (f : DriverConfig) (s : Held) (now : List (Option HartNo)) (went : Went) : Type 0 where
  pub shape : Shape ram f s now went
  pub plan : ArePlanSteps went.driver.lots went.driver.rest

-- ---- lots that are lent

not_wanted : (w : Bool) → (w ≡ true → ⊥) → w ≡ false
not_wanted true h = absurd (h refl)
not_wanted false h = refl

first_lends : (t : Turn) (ts : List Turn) (id name : LotId) → id ≡ name → lots_of t ≡ Some name → (t ≡ turns.Lend name → ⊥) → LendsFirst id (t ∷ ts) → ⊥
first_lends t ts id name same of other (inl e) = other (e ∙ ap turns.Lend same)
first_lends t ts id name same of other (inr k) = k.0 (of ∙ ap Some (sym same))

-- a turn that comes before all others of a name, and is no lending, finds its lots lent
pub lent_by : (t : Turn) (ts : List Turn) (lots : List Lot) (id : LotId) → lots_of t ≡ Some id → (t ≡ turns.Lend id → ⊥) → All (IsOwed (t ∷ ts)) lots → AreLent lots id
lent_by t ts lots id of other all =
    all_to (IsOwed (t ∷ ts)) (λ (lot : Lot). is_lot id lot ≡ true → is_wanted lot.side ≡ false) lots all
    (λ lot owed named. not_wanted (is_wanted lot.side) (λ w. first_lends t ts lot.id id (named_so lot id named) of other (owed.lends w)))

named_placed : (lots : List Lot) (id : LotId) → All IsPlaced lots → ArePlaced lots id
named_placed lots id all = all_to IsPlaced (λ (lot : Lot). is_lot id lot ≡ true → lot_waits lot ≡ false) lots all (λ lot p named. p)

-- ---- turns

stay_turn : (f : DriverConfig) (s : Held) → MakesTurn f s turns.Stay
stay_turn f s = record { may = tt; fits = tt; placed = λ id e. absurd (cc) }

pub stays_turn : (f : DriverConfig) (s : Held) (t : Turn) → t ≡ turns.Stay → MakesTurn f s t
stays_turn f s t e = subst (λ (u : Turn). MakesTurn f s u) (sym e) (stay_turn f s)

lend_turn : (f : DriverConfig) (s : Held) (id : LotId) → All IsPlaced s.lots → MakesTurn f s (turns.Lend id)
lend_turn f s id all = record { may = named_placed s.lots id all; fits = tt; placed = λ i e. all }

-- what an opening needs where it passes a buffer
pub record CanPass (f : DriverConfig) (s : Held) (buf : ℕ) : Type 0 where
  pub owned : IsOwnedBy s.owners (buffer_of f buf) (owners.Thread f.me)
  pub lent : AllLent s.lots

pub opening_turn : (f : DriverConfig) (s : Held) (o : Op) (t : Turn) (ts : List Turn) → IsOpening f o t → All (IsOwed (t ∷ ts)) s.lots → All IsPlaced s.lots → ((buf : ℕ) (to : HartNo) → o ≡ ops.Hand buf to → CanPass f s buf) → MakesTurn f s t
opening_turn f s o turns.Stay ts is owed placed hand = stay_turn f s
opening_turn f s o (turns.Lend id) ts is owed placed hand = lend_turn f s id placed
opening_turn f s o (turns.Return id) ts is owed placed hand = record { may = lent_by (turns.Return id) ts s.lots id refl (λ e. absurd (cc)) owed; fits = tt; placed = λ i e. absurd (cc) }
opening_turn f s o (turns.End id) ts is owed placed hand = record { may = lent_by (turns.End id) ts s.lots id refl (λ e. absurd (cc)) owed; fits = tt; placed = λ i e. absurd (cc) }
opening_turn f s o (turns.Pass range to) ts is owed placed hand =
    let can = hand is.0 to is.1 in
    record {
      may = (is.0, is.2, subst (λ (r : Span). IsOwnedBy s.owners r (owners.Thread f.me)) (sym is.2) can.owned);
      fits = can.lent;
      placed = λ i e. absurd (cc);
    }
opening_turn f s o (turns.Own range) ts is owed placed hand = absurd is
opening_turn f s o (turns.Give id) ts is owed placed hand = absurd is
opening_turn f s o (turns.Sync id) ts is owed placed hand = absurd is
opening_turn f s o (turns.Settle id) ts is owed placed hand = absurd is

pub first_turn : (f : DriverConfig) (s : Held) (t : Turn) (ts : List Turn) → IsFirstTurn t → All (IsOwed (t ∷ ts)) s.lots → All IsPlaced s.lots → MakesTurn f s t
first_turn f s turns.Stay ts is owed placed = stay_turn f s
first_turn f s (turns.Lend id) ts is owed placed = lend_turn f s id placed
first_turn f s (turns.Return id) ts is owed placed = record { may = lent_by (turns.Return id) ts s.lots id refl (λ e. absurd (cc)) owed; fits = tt; placed = λ i e. absurd (cc) }
first_turn f s (turns.Pass range to) ts is owed placed = absurd is
first_turn f s (turns.Own range) ts is owed placed = absurd is
first_turn f s (turns.Give id) ts is owed placed = absurd is
first_turn f s (turns.Sync id) ts is owed placed = absurd is
first_turn f s (turns.Settle id) ts is owed placed = absurd is
first_turn f s (turns.End id) ts is owed placed = absurd is

pub last_turn : (f : DriverConfig) (s : Held) (t : Turn) (ts : List Turn) → IsLastTurn s.lots t → All (IsOwed (t ∷ ts)) s.lots → All IsPlaced s.lots → MakesTurn f s t
last_turn f s turns.Stay ts is owed placed = stay_turn f s
last_turn f s (turns.Lend id) ts is owed placed = lend_turn f s id placed
last_turn f s (turns.Give id) ts is owed placed = record { may = lent_by (turns.Give id) ts s.lots id refl (λ e. absurd (cc)) owed; fits = tt; placed = λ i e. absurd (cc) }
last_turn f s (turns.Return id) ts is owed placed = record { may = lent_by (turns.Return id) ts s.lots id refl (λ e. absurd (cc)) owed; fits = tt; placed = λ i e. absurd (cc) }
last_turn f s (turns.Sync id) ts is owed placed = record { may = lent_by (turns.Sync id) ts s.lots id refl (λ e. absurd (cc)) owed; fits = tt; placed = λ i e. absurd (cc) }
last_turn f s (turns.Settle id) ts is owed placed = record { may = (lent_by (turns.Settle id) ts s.lots id refl (λ e. absurd (cc)) owed, is); fits = tt; placed = λ i e. absurd (cc) }
last_turn f s (turns.End id) ts is owed placed = record { may = lent_by (turns.End id) ts s.lots id refl (λ e. absurd (cc)) owed; fits = tt; placed = λ i e. absurd (cc) }
last_turn f s (turns.Pass range to) ts is owed placed = absurd is
last_turn f s (turns.Own range) ts is owed placed = absurd is

-- ---- first turns are quiet

not_end : (pool : Span) (k : Kind) (lot : Lot) → FitsKind pool k lot.id lot.list.entries → IsEndName lot.id → is_area k ≡ false
not_end pool kinds.Single lot fits e = refl
not_end pool kinds.List lot fits e = refl
not_end pool kinds.Area lot fits e = absurd (too_big lot.id.label.0 fits.0.label e)
  where
    too_big : (n : ℕ) → n ≤ 999 → n ≡ 1000 → ⊥
    too_big n le e = absurd (omega arith)
not_end pool kinds.Copy lot fits e = refl

no_taking : (lot : Lot) → is_area lot.kind ≡ false → pages_taken lot ≡ pages.Stay
no_taking lot off = rw off refl

none_taken : (lots : List Lot) → All (λ (lot : Lot). is_area lot.kind ≡ false) lots → page_moves pages_taken lots ≡ pages.Stay
none_taken [] all = refl
none_taken (lot ∷ lots) all =
    ap (λ p. page_move p (page_moves pages_taken lots)) (no_taking lot (All-head (λ (lot : Lot). is_area lot.kind ≡ false) lot lots all))
    ∙ none_taken lots (All-tail (λ (lot : Lot). is_area lot.kind ≡ false) lot lots all)

ends_quiet : (ram : ℕ) (f : DriverConfig) (lots : List Lot) (id : LotId) → All (IsLotIn ram f) lots → IsEndName id → page_moves pages_taken (those id lots) ≡ pages.Stay
ends_quiet ram f lots id all end =
    none_taken (those id lots)
    (all_filtered (IsLotIn ram f) (λ (lot : Lot). is_area lot.kind ≡ false) (is_lot id) lots all
    (λ lot is named. not_end f.pool lot.kind lot is.kind (subst (λ (i : LotId). IsEndName i) (sym (named_so lot id named)) end)))

pub first_quiet : (ram : ℕ) (f : DriverConfig) (lots : List Lot) (t : Turn) → All (IsLotIn ram f) lots → IsFirstTurn t → IsQuietTurn f lots t
first_quiet ram f lots turns.Stay all is = record { ended = refl; pages = refl }
first_quiet ram f lots (turns.Lend id) all is = record { ended = refl; pages = ends_quiet ram f lots id all is }
first_quiet ram f lots (turns.Return id) all is = record { ended = refl; pages = refl }
first_quiet ram f lots (turns.Pass range to) all is = absurd is
first_quiet ram f lots (turns.Own range) all is = absurd is
first_quiet ram f lots (turns.Give id) all is = absurd is
first_quiet ram f lots (turns.Sync id) all is = absurd is
first_quiet ram f lots (turns.Settle id) all is = absurd is
first_quiet ram f lots (turns.End id) all is = absurd is

-- ---- the steps of a plan stay so behind a turn

areas_stay : (t : Turn) (lots : List Lot) (id : LotId) → AreAreas lots id → AreAreas (lots_after t lots) id
areas_stay t lots id all =
    thins_all (Becomes t) (λ (lot : Lot). is_lot id lot ≡ true → is_area lot.kind ≡ true) (λ (lot : Lot). is_lot id lot ≡ true → is_area lot.kind ≡ true) (thinned t lots) all
    (λ lot now b h named. subst (λ (k : Kind). is_area k ≡ true) (sym b.kind) (h (its_name lot id (sym b.id ∙ named_so now id named))))

last_stays : (t u : Turn) (lots : List Lot) → IsLastTurn lots u → IsLastTurn (lots_after t lots) u
last_stays t turns.Stay lots h = h
last_stays t (turns.Lend id) lots h = h
last_stays t (turns.Give id) lots h = h
last_stays t (turns.Return id) lots h = h
last_stays t (turns.Sync id) lots h = h
last_stays t (turns.Settle id) lots h = areas_stay t lots id h
last_stays t (turns.End id) lots h = h
last_stays t (turns.Pass range to) lots h = h
last_stays t (turns.Own range) lots h = h

pub steps_stay : (t : Turn) (lots : List Lot) (steps : List Step) → ArePlanSteps lots steps → ArePlanSteps (lots_after t lots) steps
steps_stay t lots steps all = all_to (IsPlanStep lots) (IsPlanStep (lots_after t lots)) steps all (λ s h. record { first = h.first; last = last_stays t s.last lots h.last })
