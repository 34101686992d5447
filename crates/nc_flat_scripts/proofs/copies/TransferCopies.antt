-- The copies in hand, as a hart's plan makes a step that is of no lot: the hart's own goes on with it, and another hart's
-- stands as it did.
use Rattle.std.specs.Prelude.{Option, Some, Bool, true, false, not, ◌||◌, flat_map}
use Rattle.std.proofs.Common.{◌≡◌, ◌≢◌, ℕ, ◌<◌, List, [], ◌∷◌, ◌++◌, length, refl, sym, ap, ◌∙◌, inl, inr, subst, append_assoc}
use Rattle.std.proofs.lemmas.Bool.{cases_eq, and_parts, and_from, or_right}
use Rattle.std.proofs.lemmas.List.Elements.{filter-append}
use Rattle.nc_num.specs.declared.names.HartNo.{HartNo}
use Rattle.nc_num.specs.declared.places.Span.{Span}
use Rattle.nc_num.specs.declared.names.Dir.{Dir}
use Rattle.nc_num.specs.declared.names.Dir.TheVariants.{ToDev, FromDev}
use Rattle.nc_queue.specs.declared.entry.Entry.{Entry}
use Rattle.nc_queue.specs.declared.entry.Entry.TheVariants.{Reg}
use Rattle.nc_pdma.specs.Channel.{ChannelState}
use Rattle.nc_scen.specs.declared.scenario.Scenario.{Scenario}
use Rattle.nc_rules.specs.declared.lots.Lot.{Lot}
use Rattle.nc_rules.specs.declared.lots.LotId.{LotId}
use Rattle.nc_rules.specs.declared.steps.Phase.TheVariants.{Work}
use Rattle.nc_rules.specs.declared.steps.Step.{Step}
use Rattle.nc_rules.specs.Copies.{source, target}
use Rattle.nc_rules.specs.Driver.{DriverState, Went, in_hand}
use Rattle.nc_rules.specs.Lots.{DriverConfig}
use Rattle.nc_rules.specs.Machine.{MachineState, queue_of, channel_of, grantee_of}
use Rattle.nc_rules.specs.EventTouches.{owner_of}
use Rattle.nc_rules.specs.World.{WorldState, driver_of}
use Rattle.nc_scripts.specs.Drivers.{is_claim}
use Rattle.nc_rows.specs.Ahead.{act_coming}
use Rattle.nc_transfers.specs.Transfers.{IsCopying}
use Rattle.nc_flatness.specs.Copying.{CopyOp, copy_op, source_range, target_range, polls, claims, transfers, registers, registers_coming, AreItsEnds, IsEndAt, span_of, IsUnderWay, IsItsOwn, SawDone, IsCopyNow, IsBegun, CopyStands}
use Rattle.nc_flatness.proofs.worlds.Outcomes.{gone}
use Rattle.nc_flat_scripts.proofs.steps.StepFrames.{driver_here, driver_away}
use Rattle.nc_flat_scripts.proofs.copies.TransferFrames.{IsMade, there, same_owner}
use Rattle.nc_flat_scripts.proofs.copies.TransferRows.{StepMoves, Leaves, Sets}

-- ---- from one world to another

-- what a copy reads of hart g, but for its rest and for what it saw, is the same
pub record IsLike (w v : WorldState) (g : ℕ) : Type 0 where
  pub fixed : (driver_of v g).fixed ≡ (driver_of w g).fixed
  pub lots : (driver_of v g).lots ≡ (driver_of w g).lots
  pub left : registers (queue_of v.machine g) ++ registers_coming (driver_of v g).rest ≡ registers (queue_of w.machine g) ++ registers_coming (driver_of w g).rest
  pub channels : (c : ℕ) → channel_of v.machine c ≡ channel_of w.machine c
  pub grantees : (c : ℕ) → grantee_of v.machine c ≡ grantee_of w.machine c
  pub owners : (x : ℕ) → owner_of v x ≡ owner_of w x

under_by : (sc : Scenario) (f : List ℕ) (w v : WorldState) (g : ℕ) (k : CopyOp) (from to : Span) → IsLike w v g → IsUnderWay sc f w g k from to → IsUnderWay sc f v g k from to
under_by sc f w v g k from to like u =
    let end_at : (id : LotId) (dir : Dir) (range device : Span) → IsEndAt (driver_of w g).fixed (driver_of w g).lots id dir k.chan range device → IsEndAt (driver_of v g).fixed (driver_of v g).lots id dir k.chan range device =
    λ id dir range device at.
    subst (λ (i : DriverConfig). IsEndAt i (driver_of v g).lots id dir k.chan range device) (sym like.fixed) (subst (λ (lots : List Lot). IsEndAt (driver_of w g).fixed lots id dir k.chan range device) (sym like.lots) at) in
    record {
      ends = u.ends;
      are = u.are;
      from_is = u.from_is;
      to_is = u.to_is;
      source_at = end_at source ToDev from (span_of u.ends.reads_at u.ends.len) u.source_at;
      target_at = end_at target FromDev to (span_of u.ends.writes_at u.ends.len) u.target_at;
      stores = u.stores;
      left = like.left ∙ u.left;
      few = u.few;
      stage = subst (λ (c : ChannelState). IsCopying u.ends f u.stores c) (sym (like.channels k.chan.0)) u.stage;
      granted = like.grantees k.chan.0 ∙ u.granted;
    }

now_by : (sc : Scenario) (f : List ℕ) (w v : WorldState) (g : ℕ) (k : CopyOp) → IsLike w v g → (transfers (driver_of v g).rest ≡ true → transfers (driver_of w g).rest ≡ true)
    → ((driver_of v g).phase ≡ Work → polls (driver_of v g).rest ≡ false → SawDone (driver_of v g).saw) → IsCopyNow sc f w g k → IsCopyNow sc f v g k
now_by sc f w v g k like goes polled now = record {
  from = now.from;
  to = now.to;
  from_is = subst (λ (i : DriverConfig). source_range i k now.from) (sym like.fixed) now.from_is;
  to_is = subst (λ (i : DriverConfig). target_range i k now.to) (sym like.fixed) now.to_is;
  ends = subst (λ (lots : List Lot). AreItsEnds k now.from now.to lots) (sym like.lots) now.ends;
  under = λ is. under_by sc f w v g k now.from now.to like (now.under (goes is));
  polled = polled;
  apart = now.apart;
  owned = λ x on. subst (IsItsOwn g) (sym (like.owners x)) (now.owned x on);
}

-- ---- the machine behind the step

queue_away : (m n : MachineState) (h g : ℕ) (s : Step) → StepMoves m n h s → g ≢ h → queue_of n g ≡ queue_of m g
queue_away m n h g s (Leaves same silent) ne = ap (λ (i : MachineState). queue_of i g) same
queue_away m n h g s (Sets chan off width value by puts) ne = by.pushes.queues.others g ne

channel_same : (m n : MachineState) (h c : ℕ) (s : Step) → StepMoves m n h s → channel_of n c ≡ channel_of m c
channel_same m n h c s (Leaves same silent) = ap (λ (i : MachineState). channel_of i c) same
channel_same m n h c s (Sets chan off width value by puts) = ap (λ (cs : List ChannelState). channel_of (record m { channels = cs }) c) by.pushes.devices.channels

grantee_same : (m n : MachineState) (h c : ℕ) (s : Step) → StepMoves m n h s → grantee_of n c ≡ grantee_of m c
grantee_same m n h c s (Leaves same silent) = ap (λ (i : MachineState). grantee_of i c) same
grantee_same m n h c s (Sets chan off width value by puts) = ap (λ (gs : List (Option HartNo)). grantee_of (record m { grantees = gs }) c) by.pushes.devices.grantees

-- the registers that are queued and to come stay the same list
registers_on : (m n : MachineState) (h : ℕ) (s : Step) (rest : List Step) → StepMoves m n h s → registers (queue_of n h) ++ registers_coming rest ≡ registers (queue_of m h) ++ registers_coming (s ∷ rest)
registers_on m n h s rest (Leaves same silent) =
    ap (λ (i : MachineState). registers (queue_of i h) ++ registers_coming rest) same
    ∙ ap (λ (es : List Entry). registers (queue_of m h) ++ registers (es ++ flat_map (λ (t : Step). act_coming t.act) rest)) (sym silent)
registers_on m n h s rest (Sets chan off width value by puts) =
    let e = Reg chan off width value in
    let q = queue_of m h in
    ap (λ (es : List Entry). registers es ++ registers_coming rest) by.pushes.queues.own ∙ ap (λ (es : List Entry). es ++ registers_coming rest) (filter-append _ q (e ∷ [])) ∙ append_assoc (registers q) (e ∷ []) (registers_coming rest)
    ∙ ap (λ (es : List Entry). registers q ++ registers (es ++ flat_map (λ (t : Step). act_coming t.act) rest)) (sym puts)

-- ---- another hart's copy

pub copies_beside : (sc : Scenario) (f : List ℕ) (w : WorldState) (h : HartNo) (n : MachineState) (went : Went) (s : Step) (g : ℕ) → IsMade sc f w h n went s → g ≢ h.0 → CopyStands sc f w g → CopyStands sc f (gone w h n went) g
copies_beside sc f w h n went s g made ne stands k hand begun =
    let v = gone w h n went in
    let m = w.machine in
    let same : driver_of v g ≡ driver_of w g = driver_away w h n went g ne in
    let like : IsLike w v g = record {
      fixed = ap (λ (d : DriverState). d.fixed) same;
      lots = ap (λ (d : DriverState). d.lots) same;
      left = ap (λ (es : List Entry). registers es ++ registers_coming (driver_of v g).rest) (queue_away m n h.0 g s made.moves ne) ∙ ap (λ (d : DriverState). registers (queue_of m g) ++ registers_coming d.rest) same;
      channels = λ c. channel_same m n h.0 c s made.moves;
      grantees = λ c. grantee_same m n h.0 c s made.moves;
      owners = λ x. same_owner sc f w h n went s x made;
    } in
    let now = stands k (sym (ap in_hand same) ∙ hand) (subst (λ (d : DriverState). IsBegun d.phase) same begun) in
    now_by sc f w v g k like (λ is. sym (ap (λ (d : DriverState). transfers d.rest) same) ∙ is)
    (λ phase over.
    subst (λ (d : DriverState). SawDone d.saw) (sym same)
    (now.polled (sym (ap (λ (d : DriverState). d.phase) same) ∙ phase) (sym (ap (λ (d : DriverState). polls d.rest) same) ∙ over)))
    now

-- ---- the hart's own

-- its driver behind the step, where it goes on
pub record IsOn (d e : DriverState) : Type 0 where
  pub hand : IsBegun e.phase → in_hand e ≡ in_hand d
  pub phase : d.phase ≡ Work

transfers_on : (s : Step) (rest : List Step) → is_claim s.act ≡ false → transfers rest ≡ true → transfers (s ∷ rest) ≡ true
transfers_on s rest free is =
    let both = and_parts (polls rest) (not (claims rest)) is in
    and_from (polls (s ∷ rest)) (not (claims (s ∷ rest))) (or_right _ (polls rest) both.0) (ap (λ (t : Bool). not (t || claims rest)) free ∙ both.1)

pub copies_own : (sc : Scenario) (f : List ℕ) (w : WorldState) (h : HartNo) (n : MachineState) (went : Went) (s : Step) → IsMade sc f w h n went s → IsOn (driver_of w h.0) went.driver → is_claim s.act ≡ false
    → ((k : CopyOp) → in_hand (driver_of w h.0) ≡ Some (copy_op k) → IsCopyNow sc f w h.0 k → IsBegun went.driver.phase → polls went.driver.rest ≡ false → SawDone went.driver.saw) → CopyStands sc f (gone w h n went) h.0
copies_own sc f w h n went s made on free saw k hand begun =
    let v = gone w h n went in
    let m = w.machine in
    let d = driver_of w h.0 in
    let here : driver_of v h.0 ≡ went.driver = driver_here w h n went h.0 (there sc f w h n went s made) refl in
    let like : IsLike w v h.0 = record {
      fixed = ap (λ (e : DriverState). e.fixed) here ∙ made.fixed;
      lots = ap (λ (e : DriverState). e.lots) here ∙ made.lots;
      left =
          ap (λ (e : DriverState). registers (queue_of n h.0) ++ registers_coming e.rest) here ∙ registers_on m n h.0 s went.driver.rest made.moves
          ∙ ap (λ (r : List Step). registers (queue_of m h.0) ++ registers_coming r) (sym made.rest);
      channels = λ c. channel_same m n h.0 c s made.moves;
      grantees = λ c. grantee_same m n h.0 c s made.moves;
      owners = λ x. same_owner sc f w h n went s x made;
    } in
    let goes : IsBegun went.driver.phase = subst (λ (e : DriverState). IsBegun e.phase) here begun in
    let was : in_hand d ≡ Some (copy_op k) = sym (on.hand goes) ∙ sym (ap in_hand here) ∙ hand in
    let now = made.flat.bytes.copying h.0 made.lt k was (subst IsBegun (sym on.phase) tt) in
    now_by sc f w v h.0 k like (λ is. ap transfers made.rest ∙ transfers_on s went.driver.rest free (sym (ap (λ (e : DriverState). transfers e.rest) here) ∙ is))
    (λ phase over. subst (λ (e : DriverState). SawDone e.saw) (sym here) (saw k was now goes (sym (ap (λ (e : DriverState). polls e.rest) here) ∙ over))) now

-- ---- each copy

pub copies_on : (sc : Scenario) (f : List ℕ) (w : WorldState) (h : HartNo) (n : MachineState) (went : Went) (s : Step) → IsMade sc f w h n went s → CopyStands sc f (gone w h n went) h.0 → (g : ℕ) → g < length sc.harts → CopyStands sc f (gone w h n went) g
copies_on sc f w h n went s made own g lt = elim (cases_eq g h.0) [
  | inl same ↦ subst (CopyStands sc f (gone w h n went)) (sym same) own
  | inr ne ↦ copies_beside sc f w h n went s g made ne (made.flat.bytes.copying g lt)
]
