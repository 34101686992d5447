-- The start of an operation that lends or takes back, and the ways in which it opens for a lot that the hart has.
use Rattle.std.specs.Prelude.{Some, All, Result, Ok, Err, Bool, true, false, if◌then◌else◌}
use Rattle.std.specs.List.{list_any}
use Rattle.std.proofs.Common.{◌≡◌, ◌⊎◌, ℕ, ◌<◌, List, [], ◌++◌, length, refl, sym, ap, ◌∙◌, inl, inr, subst, arith}
use Rattle.std.proofs.lemmas.Bool.{both_ways, cond-true, cond-false, and_parts}
use Rattle.std.proofs.lemmas.List.{append-nil}
use Rattle.std.proofs.lemmas.List.Folds.{list_any_none}
use Rattle.nc_num.specs.declared.names.HartNo.{HartNo}
use Rattle.nc_num.specs.declared.names.Label.{Label}
use Rattle.nc_queue.specs.Entries.{lends_label}
use Rattle.nc_queue.specs.Rules.{lends}
use Rattle.nc_plan.specs.Plans.{In}
use Rattle.nc_ops.specs.declared.ops.Op.{Op}
use Rattle.nc_scen.specs.declared.scenario.Scenario.{Scenario}
use Rattle.nc_rules.specs.declared.answers.Refusal.{Refusal}
use Rattle.nc_rules.specs.declared.answers.Refusal.TheVariants as refusals
use Rattle.nc_rules.specs.declared.lots.Kind.{Kind}
use Rattle.nc_rules.specs.declared.lots.Kind.TheVariants as kinds
use Rattle.nc_rules.specs.declared.lots.Lot.{Lot}
use Rattle.nc_rules.specs.declared.lots.Side.{Side}
use Rattle.nc_rules.specs.declared.lots.Side.TheVariants as sides
use Rattle.nc_rules.specs.declared.steps.Phase.{Phase}
use Rattle.nc_rules.specs.declared.steps.Phase.TheVariants.{Steps}
use Rattle.nc_rules.specs.declared.steps.Step.{Step}
use Rattle.nc_rules.specs.declared.steps.Turn.{Turn}
use Rattle.nc_rules.specs.declared.steps.Turn.TheVariants as turns
use Rattle.nc_rules.specs.Lots.{DriverConfig, lot_named, is_lot, is_named, is_labelled, is_wanted, same_kind, lot_waits, some_lot_waits}
use Rattle.nc_rules.specs.Turns.{is_area}
use Rattle.nc_rules.specs.Refusals.{named}
use Rattle.nc_rules.specs.Mappings.{with_lot, needs_lot}
use Rattle.nc_rules.specs.Plans.{lend_steps, return_steps, ending}
use Rattle.nc_rules.specs.Machine.{queue_of}
use Rattle.nc_rules.specs.Operations.{waited_label}
use Rattle.nc_rules.specs.Driver.{DriverState, Went, in_hand, stays, searches, with_lots, opened, placed, give_up, begun}
use Rattle.nc_rules.specs.EventTouches.{owner_of}
use Rattle.nc_rules.specs.World.{WorldState, driver_of}
use Rattle.nc_scripts.specs.Drivers.{IsSettled, IsPhase}
use Rattle.nc_scripts.proofs.DriverSteps.{passed}
use Rattle.nc_scripts.proofs.Lists.{all_in, all_to, found}
use Rattle.nc_scripts.proofs.NewLots.{behind_test, some_is}
use Rattle.nc_holds.specs.Holds.{DriverHolds}
use Rattle.nc_holds.specs.Rests.{RestAt}
use Rattle.nc_holds.proofs.events.From.{everyone_from}
use Rattle.nc_holds.proofs.lists.Members.{all_at, none_at}
use Rattle.nc_rows.specs.Ahead.{posts}
use Rattle.nc_rows.specs.Parts.{rest_last}
use Rattle.nc_flatness.specs.Books.{loan_of}
use Rattle.nc_flatness.specs.Lending.{is_lending}
use Rattle.nc_flatness.specs.Flatness.{IsStillOrWanted, IsStillOrMade, StandsAt, Drives, BytesStand, Flatness}
use Rattle.nc_flatness.specs.Plans.{IsStill, IsBack}
use Rattle.nc_flatness.proofs.books.Loans.{entry_loan}
use Rattle.nc_flatness.specs.Tokens.{lot_token, TokenStands}
use Rattle.nc_flatness.proofs.plans.Copies.{is_copy}
use Rattle.nc_flatness.proofs.worlds.Outcomes.{gone}
use Rattle.nc_flatness.proofs.plans.Rests.{lend_light}
use Rattle.nc_flatness.proofs.tokens.Tokens.{lent_sent, sent_queued}
use Rattle.nc_flat_starts.proofs.opening.Bases.{IsBase, kind_is}
use Rattle.nc_flat_starts.proofs.opening.Befores.{driven}
use Rattle.nc_flat_starts.proofs.opening.Calls.{IsCall, call_base, gives_bytes, OpensBy, opened_so}
use Rattle.nc_flat_starts.proofs.turning.OpenRows.{lend_opens}
use Rattle.nc_flat_starts.proofs.turning.BackRows.{AreKnown, return_opens}
use Rattle.nc_flat_starts.proofs.opening.Opens.{opens_bytes}
use Rattle.nc_flat_starts.proofs.opening.Quiets.{quiet_bytes, none_aside, idle_copy, end_bytes}

-- ---- a driver at steps

-- with light fences the token of the label that the operation waits for is out of the queue
abbrev pub IsOut : WorldState → HartNo → Op → Type 0
IsOut w h o = (label : Label) → (driver_of w h.0).fixed.light ≡ true → waited_label o ≡ Some label → lends (queue_of w.machine h.0) label.0 ≡ false

pub record IsStart (sc : Scenario) (f : List ℕ) (w : WorldState) (h : HartNo) (o : Op) : Type 0 where
  pub flat : Flatness sc f w
  pub lt : h.0 < length sc.harts
  pub out : IsOut w h o
  pub hand : in_hand (driver_of w h.0) ≡ Some o
  pub lends : is_lending o ≡ true
  pub still : All (IsStill (driver_of w h.0).fixed) (driver_of w h.0).lots
  pub idle : (driver_of w h.0).rest ≡ []
  pub settled : All IsSettled (driver_of w h.0).lots

pub short : (sc : Scenario) (f : List ℕ) (w : WorldState) (h : HartNo) → Flatness sc f w → h.0 < length sc.harts → h.0 < length w.machine.harts
short sc f w h flat lt = omega (arith, lt, flat.world.of_scenario.harts)

pub holds_here : (sc : Scenario) (f : List ℕ) (w : WorldState) (h : HartNo) → Flatness sc f w → h.0 < length sc.harts → DriverHolds w h.0
holds_here sc f w h flat lt = flat.world.holds.each h.0 (short sc f w h flat lt)

pub at_steps : (sc : Scenario) (f : List ℕ) (w : WorldState) (h : HartNo) (o : Op) (n : ℕ) → Flatness sc f w → h.0 < length sc.harts → IsOut w h o → in_hand (driver_of w h.0) ≡ Some o → is_lending o ≡ true → (driver_of w h.0).phase ≡ Steps n → IsStart sc f w h o
at_steps sc f w h o n flat lt out hand lends phase =
    let d = driver_of w h.0 in
    let drives = flat.bytes.drives h.0 lt in
    record {
      flat = flat;
      lt = lt;
      out = out;
      hand = hand;
      lends = lends;
      still = subst (λ (p : Phase). StandsAt d p) phase drives.stands;
      idle = subst (λ (p : Phase). RestAt p d.rest) phase drives.idle;
      settled = (subst (λ (p : Phase). IsPhase d p) phase (holds_here sc f w h flat lt).driver.phase).settled;
    }

-- the lots that it has
pub as_wanted : (f : DriverConfig) (lots : List Lot) → All (IsStill f) lots → All (IsStillOrWanted f) lots
as_wanted f lots all = all_to (IsStill f) (IsStillOrWanted f) lots all (λ lot is. inl is)

pub here_call : (sc : Scenario) (f : List ℕ) (w : WorldState) (h : HartNo) (o : Op) → IsStart sc f w h o → is_copy o ≡ false → IsCall sc f w h o (driver_of w h.0).lots
here_call sc f w h o s no_copy =
    let d = driver_of w h.0 in
    record {
      flat = s.flat;
      lt = s.lt;
      slots = w.slots;
      each = everyone_from w h.0 s.flat.world.holds (short sc f w h s.flat s.lt);
      mappings = (s.flat.bytes.drives h.0 s.lt).lots;
      loans = λ k. refl;
      kept = λ other there lent. there;
      lent = λ other there lends. there;
      still = as_wanted d.fixed d.lots s.still;
      now = all_to (IsStill d.fixed) (IsStillOrMade d.fixed (Some o)) d.lots s.still (λ lot is. inl is);
      hand = s.hand;
      lends = s.lends;
      idle = s.idle;
      copy = λ k is. absurd (both_ways (is_copy o) no_copy (ap is_copy is));
    }

-- ---- a lot that it has

-- a lot that is found
pub record IsThere (sc : Scenario) (f : List ℕ) (w : WorldState) (h : HartNo) (lot : Lot) (label : Label) (kind : Kind) : Type 0 where
  pub base : IsBase sc f w h (driver_of w h.0).lots lot
  pub its_kind : lot.kind ≡ kind
  pub still : IsStill (driver_of w h.0).fixed lot
  -- with light fences its token is out of the queue
  pub unsent : lot.side ≡ sides.Lending → ⊥

out_unsent : (sc : Scenario) (f : List ℕ) (w : WorldState) (h : HartNo) (o : Op) (lot : Lot) (label : Label) → IsStart sc f w h o → waited_label o ≡ Some label → In lot (driver_of w h.0).lots → is_labelled label lot ≡ true → lot.side ≡ sides.Lending → ⊥
out_unsent sc f w h o lot label s waits here is side =
    let d = driver_of w h.0 in
    let q = queue_of w.machine h.0 in
    let light = lend_light d.fixed lot side (all_at (IsStill d.fixed) d.lots lot s.still here) in
    let stands : TokenStands [] q lot = all_at (TokenStands [] q) d.lots lot (subst (λ (rest : List Step). All (TokenStands rest q) d.lots) s.idle (s.flat.bytes.tokens h.0 s.lt light)) here in
    both_ways (is_labelled label lot) (none_at (lends_label label.0) q (lot_token lot) (s.out label light waits) (sent_queued [] q lot stands (lent_sent [] lot side refl))) is

pub there_so : (sc : Scenario) (f : List ℕ) (w : WorldState) (h : HartNo) (o : Op) (lot : Lot) (label : Label) (kind : Kind) → IsStart sc f w h o → is_copy o ≡ false → waited_label o ≡ Some label → lot_named (driver_of w h.0).lots label kind ≡ Some lot → IsThere sc f w h lot label kind
there_so sc f w h o lot label kind s no_copy waits is =
    let d = driver_of w h.0 in
    let it = found (λ (l : Lot). In l d.lots) (is_named label kind) d.lots lot (all_in (λ (l : Lot). In l d.lots) d.lots (λ l there. there)) is in
    record {
      base = call_base sc f w h o d.lots lot (here_call sc f w h o s no_copy) it.is (all_at IsSettled d.lots lot s.settled it.is).placed (all_to (IsStill d.fixed) (λ other. is_lot lot.id other ≡ false → IsStill d.fixed other) d.lots s.still (λ other is far. is));
      its_kind = kind_is kind lot.kind (and_parts (is_labelled label lot) (same_kind kind lot.kind) it.passes).1;
      still = all_at (IsStill d.fixed) d.lots lot s.still it.is;
      unsent = out_unsent sc f w h o lot label s waits it.is (and_parts (is_labelled label lot) (same_kind kind lot.kind) it.passes).0;
    }

-- its mappings
pub known_now : (sc : Scenario) (f : List ℕ) (w : WorldState) (h : HartNo) (lot : Lot) → IsBase sc f w h (driver_of w h.0).lots lot → is_wanted lot.side ≡ false → AreKnown w h lot
known_now sc f w h lot b lent i e there = entry_loan sc f w h.0 lot i e b.flat (record { lot_in = b.here; entry = there }) lent

pub none_waits : (sc : Scenario) (f : List ℕ) (w : WorldState) (h : HartNo) (o : Op) → IsStart sc f w h o → some_lot_waits (driver_of w h.0).lots ≡ false
none_waits sc f w h o s = list_any_none lot_waits (driver_of w h.0).lots (all_to IsSettled (λ (lot : Lot). lot_waits lot ≡ false) (driver_of w h.0).lots s.settled (λ lot is. is.placed))

-- how it opens over the lots that the hart has, and that the bytes stand behind that
abbrev pub OpensSo : WorldState → HartNo → Op → Turn → List Step → Type 0
OpensSo w h o turn plan = OpensBy (driver_of w h.0) (driver_of w h.0).lots o turn plan

abbrev pub OpenStands : Scenario → List ℕ → WorldState → HartNo → Op → Type 0
OpenStands sc f w h o = BytesStand sc f (gone w h w.machine (opened (with_lots (driver_of w h.0) (driver_of w h.0).lots) o))

-- no lot is made
pub as_made : (sc : Scenario) (f : List ℕ) (w : WorldState) (h : HartNo) (o : Op) (new : List Lot) → IsStart sc f w h o → [] ≡ new → OpenStands sc f w h o
    → BytesStand sc f (gone w h w.machine (placed (with_lots (driver_of w h.0) ((driver_of w h.0).lots ++ new)) o))
as_made sc f w h o new s none bytes =
    let d = driver_of w h.0 in
    subst (λ (ls : List Lot). BytesStand sc f (gone w h w.machine (placed (with_lots d ls) o))) (sym (append-nil d.lots) ∙ ap (λ (ls : List Lot). d.lots ++ ls) none)
    (subst (λ (went : Went). BytesStand sc f (gone w h w.machine went)) (sym (cond-false (some_lot_waits d.lots) (stays (searches (with_lots d d.lots) 0)) (opened (with_lots d d.lots) o) (none_waits sc f w h o s))) bytes)

-- ---- an operation on the lot of a label

-- it is refused
pub refused_bytes : (sc : Scenario) (f : List ℕ) (w : WorldState) (h : HartNo) (o : Op) (r : Refusal) → IsStart sc f w h o → BytesStand sc f (gone w h w.machine (give_up (driver_of w h.0) o r))
refused_bytes sc f w h o r s = gives_bytes sc f w h o r s.flat s.lt s.idle (as_wanted (driver_of w h.0).fixed (driver_of w h.0).lots s.still)

-- it has found its lot, of which this holds, and makes none
pub record Finds (lots new : List Lot) (label : Label) (kind : Kind) (Of : Lot → Type 0) : Type 0 where
  pub lot : Lot
  pub is : lot_named lots label kind ≡ Some lot
  pub none : [] ≡ new
  pub so : Of lot

-- it needs that lot alone
pub needs_its_lot : (lots new : List Lot) (label : Label) (kind : Kind) → needs_lot (named lots label kind) ≡ Ok new → Finds lots new label kind (λ lot. Unit {0})
needs_its_lot lots new label kind e =
    let p = passed (named lots label kind) (λ lot. Ok []) new e in
    record { lot = p.value; is = some_is refusals.NoLabel (lot_named lots label kind) p.value p.first; none = behind_test (named lots label kind) new e; so = tt }

-- the bytes stand behind it where they do as it opens with the lot that it finds
pub found_bytes : (sc : Scenario) (f : List ℕ) (w : WorldState) (h : HartNo) (o : Op) (label : Label) (kind : Kind)
    (Of : Lot → Type 0) (turn : Lot → Turn) (plan : Lot → List Step) (r : Result (List Lot) Refusal) → IsStart sc f w h o → is_copy o ≡ false → waited_label o ≡ Some label
    → ((new : List Lot) → r ≡ Ok new → Finds (driver_of w h.0).lots new label kind Of)
    → OpensSo w h o (with_lot turns.Stay turn (lot_named (driver_of w h.0).lots label kind)) (with_lot [] plan (lot_named (driver_of w h.0).lots label kind))
    → ((lot : Lot) → IsThere sc f w h lot label kind → Of lot → OpensSo w h o (turn lot) (plan lot) → OpenStands sc f w h o)
    → BytesStand sc f (gone w h w.machine (begun (driver_of w h.0) o r))
found_bytes sc f w h o label kind Of turn plan (Err r) s no_copy waits finds by opens = refused_bytes sc f w h o r s
found_bytes sc f w h o label kind Of turn plan (Ok new) s no_copy waits finds by opens =
    let b = finds new refl in
    let t = there_so sc f w h o b.lot label kind s no_copy waits b.is in
    as_made sc f w h o new s b.none (opens b.lot t b.so (record { turn_is = by.turn_is ∙ ap (with_lot turns.Stay turn) b.is; plan_is = by.plan_is ∙ ap (with_lot [] plan) b.is }))

-- a choice between what is done with a lot that its channel has, and with one that is on this side
abbrev pub by_side : {A : Type 0} → (Side → Bool) → (Lot → A) → (Lot → A) → Lot → A
by_side test of_channel of_hart lot = if test lot.side then of_hart lot else of_channel lot

-- it needs that lot alone, and opens by whether its channel has it, or its hart on this side
pub sided_bytes : (sc : Scenario) (f : List ℕ) (w : WorldState) (h : HartNo) (o : Op) (label : Label) (kind : Kind)
    (own : Side) (test : Side → Bool) (its_turn my_turn : Lot → Turn) (its_plan my_plan : Lot → List Step) (r : Result (List Lot) Refusal)
    → IsStart sc f w h o → is_copy o ≡ false → waited_label o ≡ Some label → test sides.Device ≡ false → test own ≡ true → needs_lot (named (driver_of w h.0).lots label kind) ≡ r
    → ((lot : Lot) → IsThere sc f w h lot label kind → (lot.side ≡ sides.Device) ⊎ (lot.side ≡ own))
    → OpensSo w h o (with_lot turns.Stay (by_side test its_turn my_turn) (lot_named (driver_of w h.0).lots label kind))
    (with_lot [] (by_side test its_plan my_plan) (lot_named (driver_of w h.0).lots label kind))
    → ((lot : Lot) → IsThere sc f w h lot label kind → lot.side ≡ sides.Device → OpensSo w h o (its_turn lot) (its_plan lot) → OpenStands sc f w h o)
    → ((lot : Lot) → IsThere sc f w h lot label kind → lot.side ≡ own → OpensSo w h o (my_turn lot) (my_plan lot) → OpenStands sc f w h o)
    → BytesStand sc f (gone w h w.machine (begun (driver_of w h.0) o r))
sided_bytes sc f w h o label kind own test its_turn my_turn its_plan my_plan r s no_copy waits off on e sides_so by its mine =
    found_bytes sc f w h o label kind (λ lot. Unit {0}) (by_side test its_turn my_turn) (by_side test its_plan my_plan) r s no_copy waits
    (λ new is. needs_its_lot (driver_of w h.0).lots new label kind (e ∙ is)) by
    (λ lot t so opens. elim (sides_so lot t) [
      | inl device ↦
          let t_off = ap test device ∙ off in
          its lot t device (record {
            turn_is = opens.turn_is ∙ cond-false (test lot.side) (my_turn lot) (its_turn lot) t_off;
            plan_is = opens.plan_is ∙ cond-false (test lot.side) (my_plan lot) (its_plan lot) t_off;
          })
      | inr here ↦
          let t_on = ap test here ∙ on in
          mine lot t here (record {
            turn_is = opens.turn_is ∙ cond-true (test lot.side) (my_turn lot) (its_turn lot) t_on;
            plan_is = opens.plan_is ∙ cond-true (test lot.side) (my_plan lot) (its_plan lot) t_on;
          })
    ])

-- the ways in which a lot's operation opens
pub stays_bytes : (sc : Scenario) (f : List ℕ) (w : WorldState) (h : HartNo) (o : Op) → IsStart sc f w h o → OpensSo w h o turns.Stay [] → OpenStands sc f w h o
stays_bytes sc f w h o s by =
    let d = driver_of w h.0 in
    let went = opened (with_lots d d.lots) o in
    let so = opened_so d d.lots o turns.Stay [] by in
    quiet_bytes sc f w h went (record {
      flat = s.flat;
      lt = s.lt;
      idle = s.idle;
      silent = λ b. ap (λ (k : DriverState). list_any (posts b) k.rest) so.driver;
      first = ap (λ (k : DriverState). rest_last k.rest) so.driver;
      aside = λ x k there is own. none_aside w h went (owner_of w x) k s.idle (ap (λ (j : DriverState). j.rest) so.driver);
      transfers = so.transfers;
      fixed = ap (λ (k : DriverState). k.fixed) so.driver;
      loans = λ k. ap (λ (j : DriverState). loan_of j k) so.driver;
      drives = subst (λ (k : DriverState). Drives k) (sym so.driver) (record { lots = (s.flat.bytes.drives h.0 s.lt).lots; stands = s.still; idle = refl });
      tokens = subst (λ (k : DriverState). k.fixed.light ≡ true → All (TokenStands k.rest (queue_of w.machine h.0)) k.lots) (sym so.driver)
          (λ light. subst (λ (rest : List Step). All (TokenStands rest (queue_of w.machine h.0)) d.lots) s.idle (s.flat.bytes.tokens h.0 s.lt light));
      copying = idle_copy sc f w h w.machine went 0 (driven sc f w h s.flat s.lt) (ap (λ (k : DriverState). k.phase) so.driver);
    })

pub lends_bytes : (sc : Scenario) (f : List ℕ) (w : WorldState) (h : HartNo) (o : Op) (lot : Lot) (label : Label) (kind : Kind) → IsStart sc f w h o → is_copy o ≡ false
    → IsThere sc f w h lot label kind → is_area kind ≡ false → lot.side ≡ sides.Synced
    → OpensSo w h o (turns.Lend lot.id) (lend_steps (driver_of w h.0).fixed lot) → OpenStands sc f w h o
lends_bytes sc f w h o lot label kind s no_copy t plain synced by =
    let d = driver_of w h.0 in
    let went = opened (with_lots d d.lots) o in
    let so = opened_so d d.lots o (turns.Lend lot.id) (lend_steps d.fixed lot) by in
    opens_bytes sc f w h o went d.lots lot sides.Lending (lend_steps d.fixed lot) (lend_opens sc f w h o went d.lots lot t.base (ap is_area t.its_kind ∙ plain) (inr synced)
    (record { hand = s.hand; lends = s.lends; no_copy = no_copy; lent = refl; driver = so.driver; transfers = so.transfers }))

pub returns_bytes : (sc : Scenario) (f : List ℕ) (w : WorldState) (h : HartNo) (o : Op) (lot : Lot) (label : Label) (kind : Kind) (turn : Turn) → IsStart sc f w h o → is_copy o ≡ false → IsThere sc f w h lot label kind → is_area kind ≡ false → lot.side ≡ sides.Device → IsBack lot.id turn → (turn ≡ turns.Sync lot.id → kind ≡ kinds.Single)
    → OpensSo w h o (turns.Return lot.id) (ending turn (return_steps (driver_of w h.0).fixed lot)) → OpenStands sc f w h o
returns_bytes sc f w h o lot label kind turn s no_copy t plain device back single by =
    let d = driver_of w h.0 in
    let went = opened (with_lots d d.lots) o in
    let plan = ending turn (return_steps d.fixed lot) in
    let so = opened_so d d.lots o (turns.Return lot.id) plan by in
    opens_bytes sc f w h o went d.lots lot sides.Returning plan
    (return_opens sc f w h o went d.lots lot turn t.base (ap is_area t.its_kind ∙ plain) device (known_now sc f w h lot t.base (ap is_wanted device)) back (λ sync. t.its_kind ∙ single sync)
    (record { hand = s.hand; lends = s.lends; no_copy = no_copy; lent = refl; driver = so.driver; transfers = so.transfers }))

pub ends_bytes : (sc : Scenario) (f : List ℕ) (w : WorldState) (h : HartNo) (o : Op) (lot : Lot) (label : Label) (kind : Kind) → IsStart sc f w h o → IsThere sc f w h lot label kind
    → is_area kind ≡ false → lot.side ≡ sides.Synced → OpensSo w h o (turns.End lot.id) [] → OpenStands sc f w h o
ends_bytes sc f w h o lot label kind s t plain synced by =
    let d = driver_of w h.0 in
    let went = opened (with_lots d d.lots) o in
    let so = opened_so d d.lots o (turns.End lot.id) [] by in
    end_bytes sc f w h went d.lots lot (record { base = t.base; synced = synced; plain = ap is_area t.its_kind ∙ plain; driver = so.driver; transfers = so.transfers })
