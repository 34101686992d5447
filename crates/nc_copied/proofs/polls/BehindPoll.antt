-- Behind the poll of a copy: what the poll left, and what has become of it since.
use Rattle.std.specs.Prelude.{Some, Bool, true, false, All, Ok, Err, Result, if◌then◌else◌, slice_get, nat_le, ◌||◌}
use Rattle.std.proofs.Common.{◌≡◌, ◌⊎◌, ℕ, ◌+◌, ◌<◌, List, [], ◌∷◌, ◌++◌, length, refl, sym, ap, ◌∙◌, subst, inl, inr, arith, append_assoc, append-nil}
use Rattle.std.proofs.lemmas.Bool.{false≢true, cases_Bool}
use Rattle.std.proofs.lemmas.List.Elements.{All-tail}
use Rattle.nc_num.specs.Memory.{byte}
use Rattle.nc_num.specs.Places.{covers}
use Rattle.nc_num.specs.declared.names.ChanNo.{ChanNo}
use Rattle.nc_num.specs.declared.names.HartNo.{HartNo}
use Rattle.nc_num.specs.declared.places.Span.{Span}
use Rattle.nc_plan.specs.Plans.{In}
use Rattle.nc_model.specs.Flat.{TraceItem, Untouched, flat, deeds}
use Rattle.nc_model.proofs.Faults.{covers-from}
use Rattle.nc_scen.specs.Accepted.{IsAccepted}
use Rattle.nc_scen.specs.Events.{IsThere}
use Rattle.nc_scen.specs.declared.events.Event.{Event}
use Rattle.nc_scen.specs.declared.events.Event.TheVariants as events
use Rattle.nc_scen.specs.declared.scenario.Scenario.{Scenario}
use Rattle.nc_rules.specs.declared.answers.Refusal.{Refusal}
use Rattle.nc_rules.specs.declared.answers.Refusal.TheVariants as refusals
use Rattle.nc_rules.specs.declared.lots.Lot.{Lot}
use Rattle.nc_rules.specs.declared.records.Record.TheVariants as records
use Rattle.nc_rules.specs.declared.steps.Act.{Act}
use Rattle.nc_rules.specs.declared.steps.Act.TheVariants as acts
use Rattle.nc_rules.specs.declared.steps.Next.TheVariants as nexts
use Rattle.nc_rules.specs.declared.steps.Phase.{Phase}
use Rattle.nc_rules.specs.declared.steps.Phase.TheVariants.{Steps, Work}
use Rattle.nc_rules.specs.declared.steps.Step.{Step}
use Rattle.nc_rules.specs.Driver.{DriverState, in_hand, next_act, next_of}
use Rattle.nc_rules.specs.Events.{enabled}
use Rattle.nc_rules.specs.Flat.{event_trace, flat_after}
use Rattle.nc_rules.specs.Lots.{DriverConfig}
use Rattle.nc_rules.specs.Next.{next, event_records}
use Rattle.nc_rules.specs.Operations.{plan_of}
use Rattle.nc_rules.specs.Refusals.{buffer_of, part_of}
use Rattle.nc_rules.specs.Run.{after}
use Rattle.nc_rules.specs.Start.{fixed_of, hart_spec}
use Rattle.nc_rules.specs.World.{WorldState, driver_of, start, hart}
use Rattle.nc_scripts.specs.Drivers.{IsPhase}
use Rattle.nc_flatness.specs.Copying.{CopyOp, copy_op, is_poll, polls, IsBegun, IsCopyNow}
use Rattle.nc_flatness.specs.Flatness.{Flatness}
use Rattle.nc_flatness.proofs.worlds.Worlds.{worlds_stay}
use Rattle.nc_flat_scripts.proofs.handing.SendEvents.{next_work}
use Rattle.nc_flat_scripts.proofs.copies.TransferCopied.{poll_copied}
use Rattle.nc_refusals.proofs.EarlierLaws.{drivers_long, phase_of}
use Rattle.nc_copied.specs.Copied.{place_in, IsPolled, WritesNone}
use Rattle.nc_copied.proofs.events.Comings.{IsSameOp}
use Rattle.nc_copied.proofs.events.EventBytes.{IsOfCopy, Writes, event_leaves}
use Rattle.nc_copied.proofs.events.EventComes.{CameBy, Kept, Began, Stepped, IsItsStep, came}
use Rattle.nc_copied.proofs.events.EventTrace.{Leaves, leaves_as, trace_off}
use Rattle.nc_copied.proofs.polls.PlanTurns.{TurnsEnds, IsCopyPlan, copy_plan}
use Rattle.nc_copied.proofs.runs.RunEnds.{after_two, after_end, flat_end, in_before, in_last}

-- ---- the places of its ranges

abbrev pub from_place : Scenario → CopyOp → ℕ
from_place sc k = place_in sc k.src k.src_off

abbrev pub to_place : Scenario → CopyOp → ℕ
to_place sc k = place_in sc k.dst k.dst_off

record IsPart (range : Span) (at len : ℕ) : Type 0 where
  starts : range.at ≡ at
  long : range.len ≡ len

part_by : (b : Span) (off len : ℕ) (range : Span) (t : Bool) → ◌≡◌ {A = Result Span Refusal} (if t then Ok (record { at = b.at + off; len = len }) else Err refusals.BadRange) (Ok range) → IsPart range (b.at + off) len
part_by b off len range true is =
    let part : Span = record { at = b.at + off; len = len } in
    let same : part ≡ range = cc in
    record { starts = ap (λ (s : Span). s.at) (sym same); long = ap (λ (s : Span). s.len) (sym same) }
part_by b off len range false is = absurd cc

range_is : (sc : Scenario) (f : DriverConfig) (h : HartNo) (buf off len : ℕ) (range : Span) → f ≡ fixed_of sc (hart h.0) (hart_spec sc h.0) → part_of (buffer_of f buf) off len ≡ Ok range → IsPart range (place_in sc buf off) len
range_is sc f h buf off len range fixed is =
    let b = buffer_of f buf in
    let part = part_by b off len range (nat_le (off + len) b.len) is in
    record { starts = part.starts ∙ ap (λ (i : DriverConfig). (buffer_of i buf).at + off) fixed; long = part.long }

in_part : (range : Span) (at len i : ℕ) → IsPart range at len → i < len → covers range (at + i) ≡ true
in_part range at len i part lt = covers-from range (at + i) (omega (arith, part.starts)) (omega (arith, part.starts, part.long, lt))

-- ---- what the poll left

-- the run, whose flat memory is f, has the copy's poll behind it
pub record IsLeftBy (sc : Scenario) (es : List Event) (f : List ℕ) (h : HartNo) (n : ℕ) (k : CopyOp) : Type 0 where
  pub prefix : List Event
  pub behind : List Event
  pub is : es ≡ prefix ++ behind
  pub polled : IsPolled sc prefix h n k.chan
  pub left : (i : ℕ) → i < k.len → byte (flat_after sc prefix) (to_place sc k + i) ≡ byte (flat_after sc prefix) (from_place sc k + i)
  pub stays : WritesNone sc prefix behind k.chan → (i : ℕ) → i < k.len → byte f (to_place sc k + i) ≡ byte f (from_place sc k + i)

-- each byte of its ranges stays, or its channel writes
pub record EachLeft (sc : Scenario) (w : WorldState) (f : List ℕ) (e : Event) (k : CopyOp) : Type 0 where
  pub from : (i : ℕ) → i < k.len → Leaves f (event_trace w e) (from_place sc k + i) ⊎ Writes w e k.chan
  pub to : (i : ℕ) → i < k.len → Leaves f (event_trace w e) (to_place sc k + i) ⊎ Writes w e k.chan

pub extend : (sc : Scenario) (es : List Event) (w : WorldState) (f : List ℕ) (e : Event) (h : HartNo) (n : ℕ) (k : CopyOp) → after (start sc) es ≡ w → EachLeft sc w f e k → IsLeftBy sc es f h n k → IsLeftBy sc (es ++ e ∷ []) (flat f (deeds (event_trace w e))) h n k
extend sc es w f e h n k at each old =
    let first = after (start sc) old.prefix in
    let here : after first old.behind ≡ w = sym (after_two (start sc) old.prefix old.behind) ∙ ap (after (start sc)) (sym old.is) ∙ at in
    record {
      prefix = old.prefix;
      behind = old.behind ++ e ∷ [];
      is = ap (λ (xs : List Event). xs ++ e ∷ []) old.is ∙ append_assoc old.prefix old.behind (e ∷ []);
      polled = old.polled;
      left = old.left;
      stays = λ none i lt.
          let kept : (x : ℕ) → Leaves f (event_trace w e) x ⊎ Writes w e k.chan → Leaves f (event_trace w e) x =
          λ x way. elim way [
            | inl same ↦ same
            | inr wrote ↦ absurd (none wrote.at wrote.bytes
                (in_last first old.behind e (records.Cw k.chan wrote.at wrote.bytes) (subst (λ (v : WorldState). In (records.Cw k.chan wrote.at wrote.bytes) (event_records v e)) (sym here) wrote.told)))
          ] in
          kept (to_place sc k + i) (each.to i lt)
          ∙ old.stays (λ p bytes told. none p bytes (in_before first old.behind e (records.Cw k.chan p bytes) told)) i lt
          ∙ sym (kept (from_place sc k + i) (each.from i lt));
    }

-- ---- an event

pub record IsAtRun (sc : Scenario) (f : List ℕ) (w : WorldState) (e : Event) (h : HartNo) (k : CopyOp) : Type 0 where
  pub accepted : IsAccepted sc
  pub flat : Flatness sc f w
  pub there : IsThere (length sc.harts) sc.block_size sc.ram e
  pub untouched : Untouched (event_trace w e)
  pub lt : h.0 < length sc.harts
  pub hand : in_hand (driver_of w h.0) ≡ Some (copy_op k)
  pub phase : (driver_of w h.0).phase ≡ Work

steps_not : {A : Type 0} (p : Phase) (n : ℕ) → p ≡ Work → p ≡ Steps n → A
steps_not p n work steps = let no : Steps n ≡ Work = sym steps ∙ work in absurd cc

pub now_of : (sc : Scenario) (f : List ℕ) (w : WorldState) (e : Event) (h : HartNo) (k : CopyOp) → IsAtRun sc f w e h k → IsCopyNow sc f w h.0 k
now_of sc f w e h k at = at.flat.bytes.copying h.0 at.lt k at.hand (subst IsBegun (sym at.phase) tt)

leaves_by : (sc : Scenario) (f : List ℕ) (w : WorldState) (e : Event) (h : HartNo) (k : CopyOp) (x : ℕ) (t : Bool) → enabled w e ≡ t → IsAtRun sc f w e h k → IsOfCopy sc f w h.0 k x → Leaves f (event_trace w e) x ⊎ Writes w e k.chan
leaves_by sc f w e h k x true may at of = event_leaves sc f w e h.0 k x (record { accepted = at.accepted; flat = at.flat; there = at.there; may = may }) of at.untouched
leaves_by sc f w e h k x false off at of = inl (leaves_as f (event_trace w e) [] x (trace_off w e off) refl)

pub each_left : (sc : Scenario) (f : List ℕ) (w : WorldState) (e : Event) (h : HartNo) (k : CopyOp) → IsAtRun sc f w e h k → EachLeft sc w f e k
each_left sc f w e h k at =
    let d = driver_of w h.0 in
    let now = now_of sc f w e h k at in
    let fixed = at.flat.world.fixed h.0 at.lt in
    let from = range_is sc d.fixed h k.src k.src_off k.len now.from fixed now.from_is in
    let to = range_is sc d.fixed h k.dst k.dst_off k.len now.to fixed now.to_is in
    record {
      from = λ i lt. leaves_by sc f w e h k (from_place sc k + i) (enabled w e) refl at (record { now = now; on = inl (in_part now.from (from_place sc k) k.len i from lt); plan = λ n steps. steps_not d.phase n at.phase steps });
      to = λ i lt. leaves_by sc f w e h k (to_place sc k + i) (enabled w e) refl at (record { now = now; on = inr (in_part now.to (to_place sc k) k.len i to lt); plan = λ n steps. steps_not d.phase n at.phase steps });
    }

-- where its places are
pub target_on : (sc : Scenario) (f : List ℕ) (w : WorldState) (e : Event) (h : HartNo) (k : CopyOp) (i : ℕ) → (at : IsAtRun sc f w e h k) → i < k.len → covers (now_of sc f w e h k at).to (to_place sc k + i) ≡ true
target_on sc f w e h k i at lt =
    let now = now_of sc f w e h k at in
    in_part now.to (to_place sc k) k.len i (range_is sc (driver_of w h.0).fixed h k.dst k.dst_off k.len now.to (at.flat.world.fixed h.0 at.lt) now.to_is) lt

-- ---- the poll

record IsPollOf (a : Act) : Type 0 where
  chan : ChanNo
  is : a ≡ acts.Poll chan

poll_of : (a : Act) → is_poll a ≡ true → IsPollOf a
poll_of (acts.Poll chan) is = record { chan = chan; is = refl }
poll_of (acts.Op op) is = absurd (false≢true is)
poll_of (acts.Claim chan) is = absurd (false≢true is)
poll_of (acts.Take buf) is = absurd (false≢true is)

poll_leaves : (sc : Scenario) (es : List Event) (h : HartNo) (k : CopyOp) (s : Step) (rest : List Step) → enabled (after (start sc) es) (events.Issue h) ≡ true → IsAtRun sc (flat_after sc es) (after (start sc) es) (events.Issue h) h k
    → (driver_of (after (start sc) es) h.0).rest ≡ s ∷ rest → is_poll s.act ≡ true
    → IsLeftBy sc (es ++ events.Issue h ∷ []) (flat (flat_after sc es) (deeds (event_trace (after (start sc) es) (events.Issue h)))) h (driver_of (after (start sc) es) h.0).op k
poll_leaves sc es h k s rest may at is poll =
    let w = after (start sc) es in
    let f = flat_after sc es in
    let d = driver_of w h.0 in
    let e = events.Issue h in
    let which = poll_of s.act poll in
    let nx : next_of d ≡ nexts.Poll which.chan = next_work d (copy_op k) (s ∷ rest) at.hand at.phase is ∙ ap next_act which.is in
    let p = poll_copied sc f w h k which.chan (record { accepted = at.accepted; flat = at.flat; there = at.there; may = may }) at.hand at.phase nx in
    let fixed = at.flat.world.fixed h.0 at.lt in
    let from = range_is sc d.fixed h k.src k.src_off k.len p.now.from fixed p.now.from_is in
    let to = range_is sc d.fixed h k.dst k.dst_off k.len p.now.to fixed p.now.to_is in
    let same : (i : ℕ) → i < k.len → byte f (to_place sc k + i) ≡ byte f (from_place sc k + i) =
    λ i lt. ap (λ (x : ℕ). byte f (x + i)) (sym to.starts) ∙ p.same i (omega (arith, lt, to.long)) ∙ ap (λ (x : ℕ). byte f (x + i)) from.starts in
    let still : flat f (deeds (event_trace w e)) ≡ f = ap (λ (ms : List TraceItem). flat f (deeds ms)) p.silent in
    let now : flat_after sc (es ++ e ∷ []) ≡ f = flat_end sc es e ∙ still in
    record {
      prefix = es ++ e ∷ [];
      behind = [];
      is = sym (append-nil (es ++ e ∷ []));
      polled = record { before = es; is = refl; may = may; op = refl; polls = nx ∙ ap nexts.Poll p.chan_is };
      left = λ i lt. ap (λ (g : List ℕ). byte g (to_place sc k + i)) now ∙ same i lt ∙ sym (ap (λ (g : List ℕ). byte g (from_place sc k + i)) now);
      stays = λ none i lt. ap (λ (g : List ℕ). byte g (to_place sc k + i)) still ∙ same i lt ∙ sym (ap (λ (g : List ℕ). byte g (from_place sc k + i)) still);
    }

-- ---- a driver in the plan of a copy

pub record InPlan (sc : Scenario) (es : List Event) (w : WorldState) (f : List ℕ) (h : HartNo) (k : CopyOp) : Type 0 where
  pub turns : All TurnsEnds (driver_of w h.0).rest
  pub left : polls (driver_of w h.0).rest ≡ false → IsLeftBy sc es f h (driver_of w h.0).op k

abbrev pub Stands : Scenario → List Event → WorldState → List ℕ → HartNo → Type 0
Stands sc es w f h = (k : CopyOp) → in_hand (driver_of w h.0) ≡ Some (copy_op k) → (driver_of w h.0).phase ≡ Work → InPlan sc es w f h k

same_hand : (d e : DriverState) → IsSameOp d e → in_hand e ≡ in_hand d
same_hand d e same = ap (λ (f : DriverConfig). slice_get f.script e.op) same.fixed ∙ ap (slice_get d.fixed.script) same.op

begun_plan : (f : DriverConfig) (lots : List Lot) (k : CopyOp) (rest : List Step) → rest ≡ plan_of f lots (copy_op k) → 0 < length rest → IsCopyPlan rest
begun_plan f lots k [] is some = absurd (omega (arith, some))
begun_plan f lots k (s ∷ more) is some = copy_plan f lots k s more is

-- the run to the world w, whose flat memory is f, and an event e
pub record IsAtEvent (sc : Scenario) (es : List Event) (e : Event) (h : HartNo) : Type 0 where
  pub accepted : IsAccepted sc
  pub flat : Flatness sc (flat_after sc es) (after (start sc) es)
  pub there : IsThere (length sc.harts) sc.block_size sc.ram e
  pub untouched : Untouched (event_trace (after (start sc) es) e)
  pub lt : h.0 < length sc.harts

at_run : (sc : Scenario) (es : List Event) (e : Event) (h : HartNo) (k : CopyOp) → IsAtEvent sc es e h → in_hand (driver_of (after (start sc) es) h.0) ≡ Some (copy_op k) → (driver_of (after (start sc) es) h.0).phase ≡ Work → IsAtRun sc (flat_after sc es) (after (start sc) es) e h k
at_run sc es e h k at hand phase = record { accepted = at.accepted; flat = at.flat; there = at.there; untouched = at.untouched; lt = at.lt; hand = hand; phase = phase }

numbered : (sc : Scenario) (es : List Event) (f : List ℕ) (h : HartNo) (n m : ℕ) (k : CopyOp) → n ≡ m → IsLeftBy sc es f h n k → IsLeftBy sc es f h m k
numbered sc es f h n m k same left = subst (λ (i : ℕ). IsLeftBy sc es f h i k) same left

stepped_left : (sc : Scenario) (es : List Event) (e : Event) (h : HartNo) (k : CopyOp) (s : Step) (rest : List Step) → IsAtRun sc (flat_after sc es) (after (start sc) es) e h k → IsItsStep (after (start sc) es) e h → InPlan sc es (after (start sc) es) (flat_after sc es) h k
    → (driver_of (after (start sc) es) h.0).rest ≡ s ∷ rest → polls rest ≡ false → IsLeftBy sc (es ++ e ∷ []) (flat (flat_after sc es) (deeds (event_trace (after (start sc) es) e))) h (driver_of (after (start sc) es) h.0).op k
stepped_left sc es e h k s rest at its old is off =
    let w = after (start sc) es in
    let f = flat_after sc es in
    elim (cases_Bool (is_poll s.act)) [
      | inl poll ↦
          subst (λ (g : Event). IsLeftBy sc (es ++ g ∷ []) (flat f (deeds (event_trace w g))) h (driver_of w h.0).op k) (sym its.is)
          (poll_leaves sc es h k s rest (subst (λ (g : Event). enabled w g ≡ true) its.is its.may) (subst (λ (g : Event). IsAtRun sc f w g h k) its.is at) is poll)
      | inr none ↦ extend sc es w f e h (driver_of w h.0).op k refl (each_left sc f w e h k at) (old.left (ap polls is ∙ ap (λ (t : Bool). t || polls rest) none ∙ off))
    ]

came_stands : (sc : Scenario) (es : List Event) (e : Event) (h : HartNo) (k : CopyOp) → IsAtEvent sc es e h → Stands sc es (after (start sc) es) (flat_after sc es) h → in_hand (driver_of (next (after (start sc) es) e) h.0) ≡ Some (copy_op k) → IsPhase (driver_of (next (after (start sc) es) e) h.0) Work
    → CameBy (after (start sc) es) (next (after (start sc) es) e) e h → InPlan sc (es ++ e ∷ []) (next (after (start sc) es) e) (flat (flat_after sc es) (deeds (event_trace (after (start sc) es) e))) h k
came_stands sc es e h k at old hand work (Kept phase rest same) =
    let w = after (start sc) es in
    let f = flat_after sc es in
    let before : in_hand (driver_of w h.0) ≡ Some (copy_op k) = sym (same_hand (driver_of w h.0) (driver_of (next w e) h.0) same) ∙ hand in
    let was = old k before phase in
    record {
      turns = subst (All TurnsEnds) (sym rest) was.turns;
      left = λ off. numbered sc (es ++ e ∷ []) _ h _ _ k (sym same.op) (extend sc es w f e h (driver_of w h.0).op k refl (each_left sc f w e h k (at_run sc es e h k at before phase)) (was.left (ap polls (sym rest) ∙ off)));
    }
came_stands sc es e h k at old hand work (Began o lots first rest same) =
    let w = after (start sc) es in
    let both : Some o ≡ Some (copy_op k) = sym first ∙ sym (same_hand (driver_of w h.0) (driver_of (next w e) h.0) same) ∙ hand in
    let op : o ≡ copy_op k = cc in
    let plan = begun_plan (driver_of w h.0).fixed lots k (driver_of (next w e) h.0).rest (rest ∙ ap (plan_of (driver_of w h.0).fixed lots) op) work.some in
    record { turns = plan.turns; left = λ off. absurd (false≢true (sym off ∙ plan.polls)) }
came_stands sc es e h k at old hand work (Stepped s its phase rest same) =
    let w = after (start sc) es in
    let before : in_hand (driver_of w h.0) ≡ Some (copy_op k) = sym (same_hand (driver_of w h.0) (driver_of (next w e) h.0) same) ∙ hand in
    let was = old k before phase in
    record {
      turns = All-tail TurnsEnds s (driver_of (next w e) h.0).rest (subst (All TurnsEnds) rest was.turns);
      left = λ off. numbered sc (es ++ e ∷ []) _ h _ _ k (sym same.op) (stepped_left sc es e h k s (driver_of (next w e) h.0).rest (at_run sc es e h k at before phase) its was rest off);
    }

pub stands_next : (sc : Scenario) (es : List Event) (e : Event) (h : HartNo) → IsAtEvent sc es e h → Stands sc es (after (start sc) es) (flat_after sc es) h → Stands sc (es ++ e ∷ []) (after (start sc) (es ++ e ∷ [])) (flat_after sc (es ++ e ∷ [])) h
stands_next sc es e h at old =
    let w = after (start sc) es in
    let world = at.flat.world in
    let v = next w e in
    let stands : Stands sc (es ++ e ∷ []) v (flat (flat_after sc es) (deeds (event_trace w e))) h =
    λ k hand phase.
    came_stands sc es e h k at old hand (subst (IsPhase (driver_of v h.0)) phase (phase_of sc v h.0 (worlds_stay sc w e world at.there) at.lt)) (came sc w e h world at.there (drivers_long sc w h.0 world at.lt) phase) in
    subst (λ (g : List ℕ). Stands sc (es ++ e ∷ []) (after (start sc) (es ++ e ∷ [])) g h) (sym (flat_end sc es e))
    (subst (λ (u : WorldState). Stands sc (es ++ e ∷ []) u (flat (flat_after sc es) (deeds (event_trace w e))) h) (sym (after_end (start sc) es e)) stands)
