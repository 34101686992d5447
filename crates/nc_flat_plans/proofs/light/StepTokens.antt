-- A step of a plan that queues no token: the tokens of its hart's lots stand as they did.
use Rattle.std.specs.Prelude.{All, ◌||◌, Bool, true, false, filter}
use Rattle.std.specs.List.{list_any}
use Rattle.std.proofs.Common.{◌≡◌, ℕ, List, ◌∷◌, refl, sym, ap, ◌∙◌, inl, inr, subst, arith, ◌<◌, length}
use Rattle.std.proofs.lemmas.Bool.{both_ways}
use Rattle.std.proofs.lemmas.List.{append-nil}
use Rattle.nc_num.specs.declared.names.HartNo.{HartNo}
use Rattle.nc_plan.specs.Plans.{In}
use Rattle.nc_queue.specs.declared.entry.Entry.{Entry}
use Rattle.nc_queue.proofs.TestLaws.{filter-push_other}
use Rattle.nc_ops.specs.declared.ops.Op.{Op}
use Rattle.nc_scen.specs.declared.scenario.Scenario.{Scenario}
use Rattle.nc_rules.specs.declared.lots.Lot.{Lot}
use Rattle.nc_rules.specs.declared.lots.LotId.{LotId}
use Rattle.nc_rules.specs.declared.steps.Step.{Step}
use Rattle.nc_rules.specs.declared.steps.Turn.{Turn}
use Rattle.nc_rules.specs.declared.steps.Turn.TheVariants as turns
use Rattle.nc_rules.specs.Lots.{DriverConfig}
use Rattle.nc_rules.specs.Machine.{MachineState, queue_of}
use Rattle.nc_rules.specs.Turns.{lots_after}
use Rattle.nc_rules.specs.Copies.{copy_steps}
use Rattle.nc_rules.specs.Driver.{DriverState, Went}
use Rattle.nc_rules.specs.World.{WorldState, driver_of}
use Rattle.nc_scripts.proofs.Lists.{all_in}
use Rattle.nc_scripts.specs.Drivers.{AreApart}
use Rattle.nc_holds.proofs.lists.Members.{all_at}
use Rattle.nc_rows.specs.Ahead.{turns_lot, stores_io, tokens_lot}
use Rattle.nc_row_issues.specs.Laws.{Enters}
use Rattle.nc_flatness.specs.Plans.{IsBack, StepGoes, Loads, Stores, WritesBack, Drops, Gives, Fences, Ends, Zeroes, Flushes, Settles, GivesArea, TakesBack, Marks, Posts, Claims, Registers, Polls, TakesTarget, TakesSource}
use Rattle.nc_flatness.specs.Steps.{OfLots, kind_of_act, kind_of_next}
use Rattle.nc_flatness.specs.Tokens.{is_lot_token, is_sent, TokenStands, ends_lending}
use Rattle.nc_flatness.specs.Flatness.{Flatness}
use Rattle.nc_flatness.proofs.plans.Rests.{lending_off}
use Rattle.nc_flatness.proofs.tokens.Stands.{BeforeTurn, turn_stands}
use Rattle.nc_flatness.proofs.tokens.Lents.{last_unsent}
use Rattle.nc_flat_plans.proofs.drivers.Drivers.{IsNext, IsDone}

-- ---- the queue

-- no token
abbrev pub IsUntokened : Entry → Type 0
IsUntokened e = (id : LotId) → is_lot_token id e ≡ false

-- the hart's tokens are those that it had
abbrev pub SameTokens : MachineState → MachineState → HartNo → Type 0
SameTokens m k h = (id : LotId) → filter (is_lot_token id) (queue_of k h.0) ≡ filter (is_lot_token id) (queue_of m h.0)

pub same_entered : (m k : MachineState) (h : HartNo) (e : Entry) → Enters m k h.0 e → IsUntokened e → SameTokens m k h
same_entered m k h e by none id =
    let p = is_lot_token id in
    let q = queue_of m h.0 in
    ap (filter p) by.pushes.queues.own ∙ filter-push_other p q e (none id) ∙ append-nil (filter p q)

-- ---- the turn of a step of a plan

abbrev is_lend : Turn → Bool
is_lend turns.Stay = false
is_lend (turns.Pass range to) = false
is_lend (turns.Own range) = false
is_lend (turns.Lend id) = true
is_lend (turns.Give id) = false
is_lend (turns.Return id) = false
is_lend (turns.Sync id) = false
is_lend (turns.Settle id) = false
is_lend (turns.End id) = false

lasts_by : (s t : Step) → s ≡ t → is_lend t.last ≡ false → is_lend s.last ≡ false
lasts_by s t is none = ap (λ (k : Step). is_lend k.last) is ∙ none

back_lends : (id : LotId) (t : Turn) → IsBack id t → is_lend t ≡ false
back_lends id t (inl sync) = ap is_lend sync
back_lends id t (inr end) = ap is_lend end

-- it lends no lot: this the start does, or a claim
never_lends : (f : DriverConfig) (lots : List Lot) (s : Step) (rest : List Step) → kind_of_act s.act ≡ OfLots → StepGoes f lots s rest → is_lend s.last ≡ false
never_lends f lots s rest kind (Loads is) = lasts_by s _ is.step refl
never_lends f lots s rest kind (Stores is) = elim is.last [
  | inl stay ↦ ap is_lend stay
  | inr back ↦ back_lends is.copied.lot.id s.last back.0
]
never_lends f lots s rest kind (WritesBack is) = lasts_by s _ is.step refl
never_lends f lots s rest kind (Drops is) = lasts_by s _ is.step refl
never_lends f lots s rest kind (Gives is) = lasts_by s _ is.step refl
never_lends f lots s rest kind (Fences is) = lasts_by s _ is.step refl
never_lends f lots s rest kind (Ends is) = lasts_by s _ is.step (back_lends is.lot.id is.turn is.is_back)
never_lends f lots s rest kind (Zeroes is) = lasts_by s _ is.step refl
never_lends f lots s rest kind (Flushes is) = lasts_by s _ is.step refl
never_lends f lots s rest kind (Settles is) = lasts_by s _ is.step refl
never_lends f lots s rest kind (GivesArea is) = lasts_by s _ is.step refl
never_lends f lots s rest kind (TakesBack is) = lasts_by s _ is.step (elim is.is_back [ inl settle ↦ ap is_lend settle | inr end ↦ ap is_lend end ])
never_lends f lots s rest kind (Marks is) = lasts_by s _ is.step refl
never_lends f lots s rest kind (Posts is) = lasts_by s _ is.step refl
never_lends f lots s rest kind (Claims is) = absurd (claim_kind s rest is.steps kind)
  where
    claim_kind : (s : Step) (rest : List Step) → s ∷ rest ≡ copy_steps f is.chan is.config is.reads is.writes → kind_of_act s.act ≡ OfLots → ⊥
    claim_kind s rest steps kind = let both : kind_of_next (copy_steps f is.chan is.config is.reads is.writes) ≡ OfLots = sym (ap kind_of_next steps) ∙ kind in absurd cc
never_lends f lots s rest kind (Registers is) = lasts_by s _ is.step refl
never_lends f lots s rest kind (Polls is) = lasts_by s _ is.step refl
never_lends f lots s rest kind (TakesTarget is) = ap (λ (t : Step). is_lend t.last) is.goes.step
never_lends f lots s rest kind (TakesSource is) = ap is_lend is.last

-- ---- the tokens behind it

pub driver_apart : (sc : Scenario) (f : List ℕ) (w : WorldState) (h : HartNo) → Flatness sc f w → h.0 < length sc.harts → AreApart (driver_of w h.0).lots
driver_apart sc f w h flat there = (flat.world.holds.each h.0 (omega (arith, there, flat.world.of_scenario.harts))).driver.apart

-- a first turn is of lots that are not sent, and lends none
pub record IsUnsent (d : DriverState) (s : Step) (rest : List Step) : Type 0 where
  pub lends : (id : LotId) → s.first ≡ turns.Lend id → ⊥
  pub unsent : (lot : Lot) → In lot d.lots → turns_lot lot.id s.first ≡ true → is_sent (s ∷ rest) lot ≡ false
  -- nor is the last turn of one that is
  pub last : (lot : Lot) → In lot (lots_after s.first d.lots) → turns_lot lot.id s.last ≡ true → is_sent (s ∷ rest) lot ≡ false

stay_unsent : (d : DriverState) (s : Step) (rest : List Step) → AreApart d.lots → StepGoes d.fixed d.lots s rest → s.first ≡ turns.Stay → IsUnsent d s rest
stay_unsent d s rest apart goes first = record {
  lends = λ id is. let both : turns.Stay ≡ turns.Lend id = sym first ∙ is in absurd cc;
  unsent = λ lot here is. let both : false ≡ true = sym (ap (turns_lot lot.id) first) ∙ is in absurd cc;
  last = λ lot here is. last_unsent d.fixed d.lots s rest lot apart goes (subst (λ (t : Turn). In lot (lots_after t d.lots)) first here) is;
}

pub turned_tokens : (sc : Scenario) (f : List ℕ) (w : WorldState) (h : HartNo) (o : Op) (s : Step) (rest : List Step) (k : MachineState) (went : Went) → IsNext sc f w h o s rest → IsDone (driver_of w h.0) s rest went → IsUnsent (driver_of w h.0) s rest
    → ((id : LotId) → stores_io (tokens_lot id) s.act ≡ false) → SameTokens w.machine k h → went.driver.fixed.light ≡ true → All (TokenStands went.driver.rest (queue_of k h.0)) went.driver.lots
turned_tokens sc f w h o s rest k went next done opens none same light =
    let d = driver_of w h.0 in
    let q = queue_of w.machine h.0 in
    let r = queue_of k h.0 in
    let was : All (TokenStands (s ∷ rest) q) d.lots =
    subst (λ (ss : List Step). All (TokenStands ss q) d.lots) next.rest_is (next.now.flat.bytes.tokens h.0 next.now.there (sym (ap (λ (x : DriverConfig). x.light) done.fixed) ∙ light)) in
    let first : All (BeforeTurn s.first (s ∷ rest) q) d.lots =
    all_in (BeforeTurn s.first (s ∷ rest) q) d.lots (λ lot here. record { stands = all_at (TokenStands (s ∷ rest) q) d.lots lot was here; turned = λ is. opens.unsent lot here is }) in
    let opened : All (TokenStands (s ∷ rest) q) (lots_after s.first d.lots) =
    turn_stands s.first (s ∷ rest) (s ∷ rest) q q d.lots (record { tokens = λ id. refl; others = λ id off. refl; lends = λ id is. absurd (opens.lends id is) }) first in
    let before : All (BeforeTurn s.last (s ∷ rest) q) (lots_after s.first d.lots) =
    all_in (BeforeTurn s.last (s ∷ rest) q) (lots_after s.first d.lots) (λ lot here. record { stands = all_at (TokenStands (s ∷ rest) q) (lots_after s.first d.lots) lot opened here; turned = λ is. opens.last lot here is }) in
    let now : All (TokenStands rest r) (lots_after s.last (lots_after s.first d.lots)) =
    turn_stands s.last (s ∷ rest) rest q r (lots_after s.first d.lots) (record {
      tokens = same;
      others = λ id off. sym (ap (λ (b : Bool). b || list_any (ends_lending id) rest) (lending_off id s off (none id)));
      lends = λ id is. absurd (both_ways (is_lend s.last) (never_lends d.fixed d.lots s rest next.kind next.goes) (ap is_lend is));
    }) before in
    subst (λ (ss : List Step). All (TokenStands ss r) went.driver.lots) (sym done.rest) (subst (λ (ls : List Lot). All (TokenStands rest r) ls) (sym done.lots) now)

pub kept_tokens : (sc : Scenario) (f : List ℕ) (w : WorldState) (h : HartNo) (o : Op) (s : Step) (rest : List Step) (k : MachineState) (went : Went) → IsNext sc f w h o s rest → IsDone (driver_of w h.0) s rest went → s.first ≡ turns.Stay
    → ((id : LotId) → stores_io (tokens_lot id) s.act ≡ false) → SameTokens w.machine k h → went.driver.fixed.light ≡ true → All (TokenStands went.driver.rest (queue_of k h.0)) went.driver.lots
kept_tokens sc f w h o s rest k went next done first none same light = turned_tokens sc f w h o s rest k went next done (stay_unsent (driver_of w h.0) s rest (driver_apart sc f w h next.now.flat next.now.there) next.goes first) none same light
