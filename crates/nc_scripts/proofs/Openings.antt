-- What comes with the last slot that was wanted: the opening turn and the plan.
use Rattle.std.proofs.Common.{◌≡◌, ℕ, ◌<◌, ◌≤◌, Bool, true, false, List, [], ◌∷◌, ◌++◌, length, map, refl, sym, ap, ◌∙◌, subst, arith, cond, inl, inr, Option, Some, None}
use Rattle.std.specs.Prelude.{All, find, is_some, if◌then◌else◌}
use Rattle.std.proofs.lemmas.Bool.{and_parts, false≢true}
use Rattle.std.proofs.lemmas.List.Elements.{All-nil, All-cons, All-head, All-tail, All-append}
use Rattle.nc_num.specs.declared.names.ChanNo.{ChanNo}
use Rattle.nc_num.specs.declared.names.HartNo.{HartNo}
use Rattle.nc_num.specs.declared.names.Label.{Label}
use Rattle.nc_values.specs.Values.{FitsLabel}
use Rattle.nc_plan.specs.Plans.{In, full}
use Rattle.nc_plan.specs.declared.ops.HartOp.TheVariants as hart
use Rattle.nc_plan.specs.declared.ops.IoTarget.TheVariants as io
use Rattle.nc_plan.specs.declared.parts.Part.{Part}
use Rattle.nc_coherent.specs.Areas.{allocating}
use Rattle.nc_memcpy.specs.Copy.{transfer, bus_of}
use Rattle.nc_pdma_regs.specs.Table.{register_at}
use Rattle.nc_plan.proofs.PlanLaws.{in_right}
use Rattle.nc_ops.specs.Fits.{FitsOp}
use Rattle.nc_ops.specs.declared.ops.Op.{Op}
use Rattle.nc_ops.specs.declared.ops.Op.TheVariants as ops
use Rattle.nc_rules.specs.declared.lots.Kind.{Kind}
use Rattle.nc_rules.specs.declared.lots.Kind.TheVariants as kinds
use Rattle.nc_rules.specs.declared.lots.Lot.{Lot}
use Rattle.nc_rules.specs.declared.lots.LotId.{LotId}
use Rattle.nc_rules.specs.declared.steps.Act.TheVariants as acts
use Rattle.nc_rules.specs.declared.steps.Step.{Step}
use Rattle.nc_rules.specs.declared.steps.Turn.{Turn}
use Rattle.nc_rules.specs.declared.steps.Turn.TheVariants as turns
use Rattle.nc_rules.specs.Lots.{DriverConfig, lot_id, is_lot, is_named, is_labelled, same_kind, is_wanted, is_synced, is_own, lot_named, only_entry}
use Rattle.nc_rules.specs.Refusals.{buffer_of}
use Rattle.nc_rules.specs.Turns.{lots_after}
use Rattle.nc_rules.specs.Plans.{step, hart_step, op_steps, ending, lending_end, lend_steps, return_steps}
use Rattle.nc_rules.specs.Mappings as mappings
use Rattle.nc_rules.specs.Mappings.{with_lot, unmap_turn, unmap_steps, to_cpu_turn, to_cpu_steps, to_dev_turn, to_dev_steps}
use Rattle.nc_rules.specs.ScatterLists as lists
use Rattle.nc_rules.specs.ScatterLists.{unmap_sg_turn, unmap_sg_steps}
use Rattle.nc_rules.specs.Areas as areas
use Rattle.nc_rules.specs.Areas.{calloc_steps, give_turn, give_steps, fenced, take_turn, take_steps, free_turn, free_steps}
use Rattle.nc_rules.specs.Copies as copies
use Rattle.nc_rules.specs.Copies.{source, target, copy_step, claim_step, back_steps, end_part, copy_steps, copy_steps_of}
use Rattle.nc_rules.specs.Handing as handing
use Rattle.nc_rules.specs.Handing.{hand_steps}
use Rattle.nc_rules.specs.Operations.{meaning, has_start, opening, plan_of}
use Rattle.nc_scripts.specs.Scripts.{IsRangeIn}
use Rattle.nc_scripts.specs.Drivers.{LendsFirst, IsFixed, IsLotIn, FitsKind, IsEndName, IsSettled, AreMade, made_names, LoadsFit, StepIsThere, TurnIsThere, IsOwed, ClaimsFirst, NoEndIsLent, is_claim, turns_of}
use Rattle.nc_scripts.proofs.Lists.{Found, found, all_to, all_both}
use Rattle.nc_scripts.proofs.LotLaws.{IsPlaced, named_so, its_name}
use Rattle.nc_scripts.proofs.LotMoves.{only_in}
use Rattle.nc_scripts.proofs.PlanSteps.{IsPlan, no_plan, plan_join, op_plan, turn_plan, lend_plan, lending_end_plan, return_plan, allocating_plan, ending_plan, beginning_plan, back_turn, in_turns_left, in_turns_right, claims_none}
use Rattle.nc_scripts.proofs.DriverSteps.{buffer_is}
use Rattle.nc_scripts.proofs.NewLots.{laid}

-- what an operation opens with, over these lots
pub record Opens (ram harts : ℕ) (f : DriverConfig) (lots : List Lot) (turn : Turn) (plan : List Step) : Type 0 where
  pub there : All (StepIsThere ram harts f) plan
  pub fits : (n : ℕ) → LoadsFit n plan
  pub claims : ClaimsFirst (lots_after turn lots) plan
  pub owed : All (IsOwed (turn ∷ turns_of plan)) lots
  pub first : TurnIsThere ram turn

-- ---- what is owed

-- a name that the operation made is lent and, where it is an end of a copy, ended
record IsOwedName (ts : List Turn) (id : LotId) : Type 0 where
  lends : LendsFirst id ts
  ends : IsEndName id → In (turns.End id) ts

names_all : (P : LotId → Type 0) (lots : List Lot) → All P (map (λ (lot : Lot). lot.id) lots) → All (λ (lot : Lot). P lot.id) lots
names_all P [] all = All-nil (λ (lot : Lot). P lot.id)
names_all P (lot ∷ lots) all =
    All-cons (λ (lot : Lot). P lot.id) lot lots (All-head P lot.id (map (λ (lot : Lot). lot.id) lots) all) (names_all P lots (All-tail P lot.id (map (λ (lot : Lot). lot.id) lots) all))

not_both : (n : ℕ) → n ≤ 999 → n ≡ 1000 → ⊥
not_both n h e = absurd (omega arith)

settled_owed : (ts : List Turn) (lot : Lot) → IsSettled lot → IsOwed ts lot
settled_owed ts lot h = record { lends = λ w. absurd (false≢true (sym h.lent ∙ w)); ends = λ e. absurd (not_both lot.id.label.0 h.named.label e) }

owed_made : (o : Op) (lots : List Lot) (ts : List Turn) → AreMade o lots → All (IsOwedName ts) (made_names o) → All (IsOwed ts) lots
owed_made o lots ts made all =
    let old = all_to IsSettled (IsOwed ts) made.old made.settled (settled_owed ts) in
    let names = names_all (IsOwedName ts) made.new (subst (λ (ids : List LotId). All (IsOwedName ts) ids) (sym made.names) all) in
    let new = all_to (λ (lot : Lot). IsOwedName ts lot.id) (IsOwed ts) made.new names (λ lot h. record { lends = λ w. h.lends; ends = h.ends }) in
    subst (λ (ls : List Lot). All (IsOwed ts) ls) (sym made.all) (All-append (IsOwed ts) made.old made.new old new)

-- a lot of a script's name that the opening lends
lent_name : (label : Label) (ts : List Turn) → FitsLabel label → All (IsOwedName (turns.Lend (lot_id label 0) ∷ ts)) (lot_id label 0 ∷ [])
lent_name label ts fits =
    All-cons (IsOwedName (turns.Lend (lot_id label 0) ∷ ts)) (lot_id label 0) [] (record { lends = inl refl; ends = λ e. absurd (not_both label.0 fits e) }) (All-nil (IsOwedName (turns.Lend (lot_id label 0) ∷ ts)))

-- ---- the lot that a plan is about

pub record IsReady (ram : ℕ) (f : DriverConfig) (lot : Lot) : Type 0 where
  pub is : IsLotIn ram f lot
  pub placed : IsPlaced lot

pub ready : (ram : ℕ) (f : DriverConfig) (lots : List Lot) → All (IsLotIn ram f) lots → All IsPlaced lots → All (IsReady ram f) lots
ready ram f lots all placed = all_both (IsLotIn ram f) IsPlaced (IsReady ram f) lots all placed (λ lot is p. record { is = is; placed = p })

with_by : (ram harts : ℕ) (f : DriverConfig) (P : Lot → Type 0) (g : Lot → List Step) (o : Option Lot) → ((lot : Lot) → o ≡ Some lot → P lot) → ((lot : Lot) → P lot → IsPlan ram harts f (g lot)) → IsPlan ram harts f (with_lot [] g o)
with_by ram harts f P g None is h = no_plan ram harts f
with_by ram harts f P g (Some lot) is h = h lot (is lot refl)

with_plan : (ram harts : ℕ) (f : DriverConfig) (p : Lot → Bool) (lots : List Lot) (g : Lot → List Step) → All (IsReady ram f) lots → ((lot : Lot) → Found (IsReady ram f) p lot → IsPlan ram harts f (g lot)) → IsPlan ram harts f (with_lot [] g (find p lots))
with_plan ram harts f p lots g all h = with_by ram harts f (Found (IsReady ram f) p) g (find p lots) (λ lot e. found (IsReady ram f) p lots lot all e) h

with_turn : (ram : ℕ) (g : Lot → Turn) (o : Option Lot) → ((lot : Lot) → TurnIsThere ram (g lot)) → TurnIsThere ram (with_lot turns.Stay g o)
with_turn ram g None h = tt
with_turn ram g (Some lot) h = h lot

if_turn : (ram : ℕ) (b : Bool) (t u : Turn) → TurnIsThere ram t → TurnIsThere ram u → TurnIsThere ram (if b then t else u)
if_turn ram true t u th uh = th
if_turn ram false t u th uh = uh

if_steps : (ram harts : ℕ) (f : DriverConfig) (b : Bool) (xs ys : List Step) → IsPlan ram harts f xs → IsPlan ram harts f ys → IsPlan ram harts f (if b then xs else ys)
if_steps ram harts f true xs ys h k = h
if_steps ram harts f false xs ys h k = k

-- ---- the plans

back_with : (ram harts : ℕ) (f : DriverConfig) (t : Turn) (lot : Lot) → IsFixed ram harts f → IsReady ram f lot → TurnIsThere ram t → IsPlan ram harts f (ending t (return_steps f lot))
back_with ram harts f t lot h k th = ending_plan ram harts f t (return_steps f lot) th (return_plan ram harts f lot h k.is k.placed)

fence_plan : (ram harts : ℕ) (f : DriverConfig) (t : Turn) → TurnIsThere ram t → IsPlan ram harts f (fenced t)
fence_plan ram harts f t th = turn_plan ram harts f full t (λ m h d fits. tt) (λ n. tt) th

kind_same : (k : Kind) → same_kind kinds.Area k ≡ true → kinds.Area ≡ k
kind_same kinds.Single e = absurd (false≢true e)
kind_same kinds.List e = absurd (false≢true e)
kind_same kinds.Area e = refl
kind_same kinds.Copy e = absurd (false≢true e)

-- an area has one entry
pub area_range : (ram : ℕ) (f : DriverConfig) (label : Label) (lot : Lot) → IsLotIn ram f lot → is_named label kinds.Area lot ≡ true → IsRangeIn ram (only_entry lot).span
area_range ram f label lot h e =
    let p = and_parts (is_labelled label lot) (same_kind kinds.Area lot.kind) e in
    let kind = subst (λ (k : Kind). FitsKind f.pool k lot.id lot.list.entries) (sym (kind_same lot.kind p.1)) h.kind in
    (only_in ram f lot h kind.1).range

calloc_plan : (ram harts : ℕ) (f : DriverConfig) (label : Label) (lot : Lot) → IsFixed ram harts f → Found (IsReady ram f) (is_named label kinds.Area) lot → IsPlan ram harts f (calloc_steps f lot)
calloc_plan ram harts f label lot h k =
    ending_plan ram harts f (turns.Settle lot.id) (op_steps (allocating f.effects f.size (only_entry lot).span)) tt
    (allocating_plan ram harts f (only_entry lot).span h (area_range ram f label lot k.is.is k.passes))

hand_plan : (ram harts : ℕ) (f : DriverConfig) (buf : ℕ) (to : HartNo) → buf < length f.buffers → to.0 < harts → IsPlan ram harts f (hand_steps buf to)
hand_plan ram harts f buf to lt there =
    plan_join ram harts f (hart_step (hart.Mark 1 4) ∷ []) (hart_step (hart.IoStore (io.Mail buf to)) ∷ [])
    (op_plan ram harts f (hart.Mark 1 4) (λ m h d fits. tt) (λ n. tt))
    (op_plan ram harts f (hart.IoStore (io.Mail buf to)) (λ m h d fits. record { box = rw d.boxes lt; hart = rw d.processors there }) (λ n. tt))

-- ---- the plan of a copy

reg_plan : (ram harts : ℕ) (f : DriverConfig) (chan : ChanNo) (off width value : ℕ) → chan.0 < 4 → is_some (register_at off width) ≡ true → IsPlan ram harts f (hart_step (hart.IoStore (io.Reg chan off width value)) ∷ [])
reg_plan ram harts f chan off width value lt known = op_plan ram harts f (hart.IoStore (io.Reg chan off width value)) (λ m h d fits. record { channel = lt; known = known }) (λ n. tt)

poll_plan : (ram harts : ℕ) (f : DriverConfig) (chan : ChanNo) → chan.0 < 4 → IsPlan ram harts f (step (acts.Poll chan) ∷ [])
poll_plan ram harts f chan lt = record {
  there = All-cons (StepIsThere ram harts f) (step (acts.Poll chan)) [] (record { act = lt; first = tt; last = tt }) (All-nil (StepIsThere ram harts f));
  fits = λ n. (tt, tt);
  free = All-cons (λ (s : Step). is_claim s.act ≡ false) (step (acts.Poll chan)) [] refl (All-nil (λ (s : Step). is_claim s.act ≡ false));
}

abbrev reg_step : ChanNo → ℕ → ℕ → ℕ → Step
reg_step chan off width value = hart_step (hart.IoStore (io.Reg chan off width value))

transfer_plan : (ram harts : ℕ) (f : DriverConfig) (chan : ChanNo) (src dst : Part) (cfg : ℕ) → chan.0 < 4 → IsPlan ram harts f (map (copy_step chan) (transfer chan src dst cfg))
transfer_plan ram harts f chan src dst cfg lt =
    let end = plan_join ram harts f (step (acts.Poll chan) ∷ []) (reg_step chan 0 4 0 ∷ []) (poll_plan ram harts f chan lt) (reg_plan ram harts f chan 0 4 0 lt refl) in
    let run = plan_join ram harts f (reg_step chan 0 4 3 ∷ []) (step (acts.Poll chan) ∷ reg_step chan 0 4 0 ∷ []) (reg_plan ram harts f chan 0 4 3 lt refl) end in
    let from = plan_join ram harts f (reg_step chan 0x018 8 (bus_of src.device) ∷ []) (reg_step chan 0 4 3 ∷ step (acts.Poll chan) ∷ reg_step chan 0 4 0 ∷ []) (reg_plan ram harts f chan 0x018 8 (bus_of src.device) lt refl) run in
    let to = plan_join ram harts f (reg_step chan 0x010 8 (bus_of dst.device) ∷ []) (reg_step chan 0x018 8 (bus_of src.device) ∷ reg_step chan 0 4 3 ∷ step (acts.Poll chan) ∷ reg_step chan 0 4 0 ∷ []) (reg_plan ram harts f chan 0x010 8 (bus_of dst.device) lt refl) from in
    let bytes = plan_join ram harts f (reg_step chan 0x008 8 src.device.len ∷ []) (reg_step chan 0x010 8 (bus_of dst.device) ∷ reg_step chan 0x018 8 (bus_of src.device) ∷ reg_step chan 0 4 3 ∷ step (acts.Poll chan) ∷ reg_step chan 0 4 0 ∷ []) (reg_plan ram harts f chan 0x008 8 src.device.len lt refl) to in
    plan_join ram harts f (reg_step chan 0x004 4 cfg ∷ []) (reg_step chan 0x008 8 src.device.len ∷ reg_step chan 0x010 8 (bus_of dst.device) ∷ reg_step chan 0x018 8 (bus_of src.device) ∷ reg_step chan 0 4 3 ∷ step (acts.Poll chan) ∷ reg_step chan 0 4 0 ∷ []) (reg_plan ram harts f chan 0x004 4 cfg lt refl) bytes

back_plan : (ram harts : ℕ) (f : DriverConfig) (lot : Lot) → IsFixed ram harts f → IsReady ram f lot → IsPlan ram harts f (back_steps f lot)
back_plan ram harts f lot h k = beginning_plan ram harts f (turns.Return lot.id) (ending (turns.End lot.id) (return_steps f lot)) tt (back_with ram harts f (turns.End lot.id) lot h k tt)

-- up to the way back of the destination
abbrev there_steps : DriverConfig → ChanNo → ℕ → Lot → Lot → List Step
there_steps f chan cfg src dst = (lend_steps f src ++ lend_steps f dst) ++ map (copy_step chan) (transfer chan (end_part f src) (end_part f dst) cfg)

-- behind the claim
abbrev claimed_steps : DriverConfig → ChanNo → ℕ → Lot → Lot → List Step
claimed_steps f chan cfg src dst = (there_steps f chan cfg src dst ++ back_steps f dst) ++ back_steps f src

claimed_plan : (ram harts : ℕ) (f : DriverConfig) (chan : ChanNo) (cfg : ℕ) (src dst : Lot) → IsFixed ram harts f → chan.0 < 4 → IsReady ram f src → IsReady ram f dst → IsPlan ram harts f (claimed_steps f chan cfg src dst)
claimed_plan ram harts f chan cfg src dst h lt s t =
    let lends = plan_join ram harts f (lend_steps f src) (lend_steps f dst) (lend_plan ram harts f src h s.is s.placed) (lend_plan ram harts f dst h t.is t.placed) in
    let transfers = transfer_plan ram harts f chan (end_part f src) (end_part f dst) cfg lt in
    let there = plan_join ram harts f (lend_steps f src ++ lend_steps f dst) (map (copy_step chan) (transfer chan (end_part f src) (end_part f dst) cfg)) lends transfers in
    let back = plan_join ram harts f (there_steps f chan cfg src dst) (back_steps f dst) there (back_plan ram harts f dst h t) in
    plan_join ram harts f (there_steps f chan cfg src dst ++ back_steps f dst) (back_steps f src) back (back_plan ram harts f src h s)

abbrev copy_turns : DriverConfig → ChanNo → ℕ → Lot → Lot → List Turn
copy_turns f chan cfg src dst = turns.Stay ∷ turns.Lend source ∷ turns.Lend target ∷ turns_of (claimed_steps f chan cfg src dst)

source_owed : (f : DriverConfig) (chan : ChanNo) (cfg : ℕ) (src dst : Lot) → src.id ≡ source → IsOwedName (copy_turns f chan cfg src dst) source
source_owed f chan cfg src dst e =
    let end = in_turns_right (turns.End src.id) (there_steps f chan cfg src dst ++ back_steps f dst) (back_steps f src) (back_turn (turns.Return src.id) (turns.End src.id) f src) in
    record {
      lends = inr ((λ k. absurd (cc)), inl refl);
      ends = λ _. inr (inr (inr (subst (λ (i : LotId). In (turns.End i) (turns_of (claimed_steps f chan cfg src dst))) e end)));
    }

ends_differ : ◌≡◌ {A = Option LotId} (Some source) (Some target) → ⊥
ends_differ e = let same : source ≡ target = cc in let first : ◌≡◌ {A = ℕ} 0 1 = ap (λ (i : LotId). i.first) same in absurd (omega (arith, first))

target_owed : (f : DriverConfig) (chan : ChanNo) (cfg : ℕ) (src dst : Lot) → dst.id ≡ target → IsOwedName (copy_turns f chan cfg src dst) target
target_owed f chan cfg src dst e =
    let back = in_turns_right (turns.End dst.id) (there_steps f chan cfg src dst) (back_steps f dst) (back_turn (turns.Return dst.id) (turns.End dst.id) f dst) in
    let end = in_turns_left (turns.End dst.id) (there_steps f chan cfg src dst ++ back_steps f dst) (back_steps f src) back in
    record {
      lends = inr ((λ k. absurd (cc)), inr (ends_differ, inl refl));
      ends = λ _. inr (inr (inr (subst (λ (i : LotId). In (turns.End i) (turns_of (claimed_steps f chan cfg src dst))) e end)));
    }

none_lent : (o : Op) (lots : List Lot) → AreMade o lots → NoEndIsLent lots
none_lent o lots made =
    let old = all_to IsSettled (λ (lot : Lot). IsEndName lot.id → is_wanted lot.side ≡ true) made.old made.settled (λ lot h e. absurd (not_both lot.id.label.0 h.named.label e)) in
    let new = all_to (λ (lot : Lot). is_wanted lot.side ≡ true) (λ (lot : Lot). IsEndName lot.id → is_wanted lot.side ≡ true) made.new made.wanted (λ lot w e. w) in
    subst (λ (ls : List Lot). NoEndIsLent ls) (sym made.all) (All-append (λ (lot : Lot). IsEndName lot.id → is_wanted lot.side ≡ true) made.old made.new old new)

-- both ends are there
record TwoEnds (new : List Lot) : Type 0 where
  src : Lot
  dst : Lot
  has_src : In src new
  has_dst : In dst new
  src_id : src.id ≡ source
  dst_id : dst.id ≡ target

two_ends : (new : List Lot) → map (λ (lot : Lot). lot.id) new ≡ source ∷ target ∷ [] → TwoEnds new
two_ends [] e = absurd (cc)
two_ends (s ∷ []) e = absurd (cc)
two_ends (s ∷ t ∷ []) e = record { src = s; dst = t; has_src = inl refl; has_dst = inr (inl refl); src_id = cc; dst_id = cc }
two_ends (s ∷ t ∷ u ∷ rest) e = absurd (cc)

find_by : (p : Lot → Bool) (y : Lot) (ys : List Lot) (t : Bool) → (t ≡ false → (x : Lot) × (find p ys ≡ Some x)) → (x : Lot) × (cond t (Some y) (find p ys) ≡ Some x)
find_by p y ys true h = (y, refl)
find_by p y ys false h = h refl

find_there : (p : Lot → Bool) (x : Lot) (ys : List Lot) → In x ys → p x ≡ true → (y : Lot) × (find p ys ≡ Some y)
find_there p x [] k e = elim k [ ]
find_there p x (y ∷ ys) (inl same) e = find_by p y ys (p y) (λ off. absurd (false≢true (sym off ∙ ap p same ∙ e)))
find_there p x (y ∷ ys) (inr k) e = find_by p y ys (p y) (λ off. find_there p x ys k e)

copy_opens : (ram harts : ℕ) (f : DriverConfig) (lots : List Lot) (o : Op) (chan : ChanNo) (cfg : ℕ) (src dst : Lot) → IsFixed ram harts f → chan.0 < 4 → AreMade o lots → source ∷ target ∷ [] ≡ made_names o
    → Found (IsReady ram f) (is_lot source) src → Found (IsReady ram f) (is_lot target) dst → Opens ram harts f lots turns.Stay (copy_steps f chan cfg src dst)
copy_opens ram harts f lots o chan cfg src dst h lt made names s t =
    let plan = claimed_plan ram harts f chan cfg src dst h lt s.is t.is in
    let both = All-cons (IsOwedName (copy_turns f chan cfg src dst)) source (target ∷ []) (source_owed f chan cfg src dst (named_so src source s.passes))
    (All-cons (IsOwedName (copy_turns f chan cfg src dst)) target [] (target_owed f chan cfg src dst (named_so dst target t.passes)) (All-nil (IsOwedName (copy_turns f chan cfg src dst)))) in
    record {
      there = All-cons (StepIsThere ram harts f) (claim_step chan) (claimed_steps f chan cfg src dst) (record { act = lt; first = tt; last = tt }) plan.there;
      fits = λ n. (tt, plan.fits n);
      claims = (λ e. none_lent o lots made, plan.free);
      owed = owed_made o lots (copy_turns f chan cfg src dst) made (subst (λ (ids : List LotId). All (IsOwedName (copy_turns f chan cfg src dst)) ids) names both);
      first = tt;
    }

copy_is : (ram harts : ℕ) (f : DriverConfig) (lots : List Lot) (o : Op) (chan : ChanNo) (cfg : ℕ) → IsFixed ram harts f → chan.0 < 4 → All (IsReady ram f) lots → AreMade o lots → source ∷ target ∷ [] ≡ made_names o
    → Opens ram harts f lots turns.Stay (copy_steps_of f chan cfg (find (is_lot source) lots) (find (is_lot target) lots))
copy_is ram harts f lots o chan cfg h lt all made names =
    let two = two_ends made.new (made.names ∙ sym names) in
    let has_src = subst (λ (ls : List Lot). In two.src ls) (sym made.all) (in_right two.src made.old made.new two.has_src) in
    let has_dst = subst (λ (ls : List Lot). In two.dst ls) (sym made.all) (in_right two.dst made.old made.new two.has_dst) in
    let src = find_there (is_lot source) two.src lots has_src (its_name two.src source two.src_id) in
    let dst = find_there (is_lot target) two.dst lots has_dst (its_name two.dst target two.dst_id) in
    subst (λ (o : Option Lot). Opens ram harts f lots turns.Stay (copy_steps_of f chan cfg o (find (is_lot target) lots))) (sym src.1)
    (subst (λ (o : Option Lot). Opens ram harts f lots turns.Stay (copy_steps_of f chan cfg (Some src.0) o)) (sym dst.1)
    (copy_opens ram harts f lots o chan cfg src.0 dst.0 h lt made names (found (IsReady ram f) (is_lot source) lots src.0 all src.1) (found (IsReady ram f) (is_lot target) lots dst.0 all dst.1)))

-- ---- every operation

plain_opens : (ram harts : ℕ) (f : DriverConfig) (lots : List Lot) (o : Op) (turn : Turn) (plan : List Step) → AreMade o lots → IsPlan ram harts f plan → TurnIsThere ram turn
    → All (IsOwedName (turn ∷ turns_of plan)) (made_names o) → Opens ram harts f lots turn plan
plain_opens ram harts f lots o turn plan made h th names = record {
  there = h.there;
  fits = h.fits;
  claims = claims_none ram harts f (lots_after turn lots) plan h;
  owed = owed_made o lots (turn ∷ turns_of plan) made names;
  first = th;
}

-- of an operation that makes no lot
old_opens : (ram harts : ℕ) (f : DriverConfig) (lots : List Lot) (o : Op) (turn : Turn) (plan : List Step) → AreMade o lots → made_names o ≡ [] → IsPlan ram harts f plan → TurnIsThere ram turn → Opens ram harts f lots turn plan
old_opens ram harts f lots o turn plan made none h th =
    plain_opens ram harts f lots o turn plan made h th (subst (λ (ids : List LotId). All (IsOwedName (turn ∷ turns_of plan)) ids) (sym none) (All-nil (IsOwedName (turn ∷ turns_of plan))))

-- of one that lends the lot that it made
lent_opens : (ram harts : ℕ) (f : DriverConfig) (lots : List Lot) (o : Op) (label : Label) (plan : List Step) → AreMade o lots → lot_id label 0 ∷ [] ≡ made_names o → FitsLabel label → IsPlan ram harts f plan → Opens ram harts f lots (turns.Lend (lot_id label 0)) plan
lent_opens ram harts f lots o label plan made names fits h =
    plain_opens ram harts f lots o (turns.Lend (lot_id label 0)) plan made h tt
    (subst (λ (ids : List LotId). All (IsOwedName (turns.Lend (lot_id label 0) ∷ turns_of plan)) ids) names (lent_name label (turns_of plan) fits))

pub opens : (ram harts : ℕ) (f : DriverConfig) (lots : List Lot) (o : Op) → IsFixed ram harts f → FitsOp harts (length f.buffers) o → has_start o ≡ true → All (IsReady ram f) lots → AreMade o lots → Opens ram harts f lots (opening f lots o) (plan_of f lots o)
unfolding opening plan_of meaning handing.hand mappings.map_single mappings.unmap_single mappings.sync_for_cpu mappings.sync_for_device lists.map_sg lists.unmap_sg areas.calloc areas.give_area areas.take_area areas.free_area copies.copy
opens ram harts f lots (ops.Map label buf off len dir chan) h fits start all made =
    lent_opens ram harts f lots (ops.Map label buf off len dir chan) label (with_lot [] (lend_steps f) (lot_named lots label kinds.Single)) made refl fits.0
    (with_plan ram harts f (is_named label kinds.Single) lots (lend_steps f) all (λ lot k. lend_plan ram harts f lot h k.is.is k.is.placed))
opens ram harts f lots (ops.MapSg label entries dir chan) h fits start all made =
    lent_opens ram harts f lots (ops.MapSg label entries dir chan) label (with_lot [] (lend_steps f) (lot_named lots label kinds.List)) made refl fits.0
    (with_plan ram harts f (is_named label kinds.List) lots (lend_steps f) all (λ lot k. lend_plan ram harts f lot h k.is.is k.is.placed))
opens ram harts f lots (ops.Calloc label pages chan) h fits start all made =
    lent_opens ram harts f lots (ops.Calloc label pages chan) label (with_lot [] (calloc_steps f) (lot_named lots label kinds.Area)) made refl fits.0
    (with_plan ram harts f (is_named label kinds.Area) lots (calloc_steps f) all (λ lot k. calloc_plan ram harts f label lot h k))
opens ram harts f lots (ops.Copy chan src src_off dst dst_off len cfg) h fits start all made =
    copy_is ram harts f lots (ops.Copy chan src src_off dst dst_off len cfg) chan cfg h fits.0 all made refl
opens ram harts f lots (ops.Unmap label) h fits start all made =
    old_opens ram harts f lots (ops.Unmap label) (with_lot turns.Stay unmap_turn (lot_named lots label kinds.Single)) (with_lot [] (unmap_steps f) (lot_named lots label kinds.Single)) made refl
    (with_plan ram harts f (is_named label kinds.Single) lots (unmap_steps f) all (λ lot k. if_steps ram harts f (is_synced lot.side) [] (ending (turns.End lot.id) (return_steps f lot)) (no_plan ram harts f) (back_with ram harts f (turns.End lot.id) lot h k.is tt)))
    (with_turn ram unmap_turn (lot_named lots label kinds.Single) (λ lot. if_turn ram (is_synced lot.side) (turns.End lot.id) (turns.Return lot.id) tt tt))
opens ram harts f lots (ops.ToCpu label) h fits start all made =
    old_opens ram harts f lots (ops.ToCpu label) (with_lot turns.Stay to_cpu_turn (lot_named lots label kinds.Single)) (with_lot [] (to_cpu_steps f) (lot_named lots label kinds.Single)) made refl
    (with_plan ram harts f (is_named label kinds.Single) lots (to_cpu_steps f) all (λ lot k. if_steps ram harts f (is_synced lot.side) [] (ending (turns.Sync lot.id) (return_steps f lot)) (no_plan ram harts f) (back_with ram harts f (turns.Sync lot.id) lot h k.is tt)))
    (with_turn ram to_cpu_turn (lot_named lots label kinds.Single) (λ lot. if_turn ram (is_synced lot.side) turns.Stay (turns.Return lot.id) tt tt))
opens ram harts f lots (ops.ToDev label) h fits start all made =
    old_opens ram harts f lots (ops.ToDev label) (with_lot turns.Stay to_dev_turn (lot_named lots label kinds.Single)) (with_lot [] (to_dev_steps f) (lot_named lots label kinds.Single)) made refl
    (with_plan ram harts f (is_named label kinds.Single) lots (to_dev_steps f) all (λ lot k. if_steps ram harts f (is_synced lot.side) (lend_steps f lot) [] (lend_plan ram harts f lot h k.is.is k.is.placed) (no_plan ram harts f)))
    (with_turn ram to_dev_turn (lot_named lots label kinds.Single) (λ lot. if_turn ram (is_synced lot.side) (turns.Lend lot.id) turns.Stay tt tt))
opens ram harts f lots (ops.UnmapSg label count) h fits start all made =
    old_opens ram harts f lots (ops.UnmapSg label count) (with_lot turns.Stay unmap_sg_turn (lot_named lots label kinds.List)) (with_lot [] (unmap_sg_steps f) (lot_named lots label kinds.List)) made refl
    (with_plan ram harts f (is_named label kinds.List) lots (unmap_sg_steps f) all (λ lot k. back_with ram harts f (turns.End lot.id) lot h k.is tt))
    (with_turn ram unmap_sg_turn (lot_named lots label kinds.List) (λ lot. tt))
opens ram harts f lots (ops.Cgive label) h fits start all made =
    old_opens ram harts f lots (ops.Cgive label) (with_lot turns.Stay give_turn (lot_named lots label kinds.Area)) (with_lot [] (give_steps f) (lot_named lots label kinds.Area)) made refl
    (with_plan ram harts f (is_named label kinds.Area) lots (give_steps f) all (λ lot k. if_steps ram harts f (is_own lot.side) (lending_end f lot) [] (lending_end_plan ram harts f lot) (no_plan ram harts f)))
    (with_turn ram give_turn (lot_named lots label kinds.Area) (λ lot. if_turn ram (is_own lot.side) (turns.Lend lot.id) turns.Stay tt tt))
opens ram harts f lots (ops.Ctake label) h fits start all made =
    old_opens ram harts f lots (ops.Ctake label) (with_lot turns.Stay take_turn (lot_named lots label kinds.Area)) (with_lot [] take_steps (lot_named lots label kinds.Area)) made refl
    (with_plan ram harts f (is_named label kinds.Area) lots take_steps all (λ lot k. if_steps ram harts f (is_own lot.side) [] (fenced (turns.Settle lot.id)) (no_plan ram harts f) (fence_plan ram harts f (turns.Settle lot.id) tt)))
    (with_turn ram take_turn (lot_named lots label kinds.Area) (λ lot. if_turn ram (is_own lot.side) turns.Stay (turns.Return lot.id) tt tt))
opens ram harts f lots (ops.Cfree label) h fits start all made =
    old_opens ram harts f lots (ops.Cfree label) (with_lot turns.Stay free_turn (lot_named lots label kinds.Area)) (with_lot [] free_steps (lot_named lots label kinds.Area)) made refl
    (with_plan ram harts f (is_named label kinds.Area) lots free_steps all (λ lot k. fence_plan ram harts f (turns.End lot.id) tt))
    (with_turn ram free_turn (lot_named lots label kinds.Area) (λ lot. tt))
opens ram harts f lots (ops.Hand buf to) h fits start all made =
    old_opens ram harts f lots (ops.Hand buf to) (turns.Pass (buffer_of f buf) to) (hand_steps buf to) made refl (hand_plan ram harts f buf to fits.0 fits.1) (buffer_is ram harts f buf (laid ram harts f h) fits.0)
opens ram harts f lots _ h fits start all made = absurd (cc)
