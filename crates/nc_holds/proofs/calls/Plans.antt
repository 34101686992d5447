-- The turns of plans, and of what a plan opens with.
use Rattle.std.proofs.Common.{◌≡◌, ℕ, Bool, true, false, List, [], ◌∷◌, ◌++◌, map, refl, sym, subst, Option, Some, None}
use Rattle.std.specs.Prelude.{All, find, if◌then◌else◌}
use Rattle.std.proofs.lemmas.Bool.{and_parts, false≢true}
use Rattle.std.proofs.lemmas.List.Elements.{All-nil, All-cons, All-head, All-tail, All-append}
use Rattle.nc_num.specs.declared.names.ChanNo.{ChanNo}
use Rattle.nc_num.specs.declared.names.Label.{Label}
use Rattle.nc_plan.specs.Plans.{In, returning}
use Rattle.nc_plan.specs.declared.ops.HartOp.{HartOp}
use Rattle.nc_coherent.specs.Areas.{allocating}
use Rattle.nc_memcpy.specs.Copy.{transfer}
use Rattle.nc_memcpy.specs.declared.copy.CopyStep.{CopyStep}
use Rattle.nc_memcpy.specs.declared.copy.CopyStep.TheVariants as copy_ops
use Rattle.nc_ops.specs.declared.ops.Op.{Op}
use Rattle.nc_ops.specs.declared.ops.Op.TheVariants as ops
use Rattle.nc_rules.specs.declared.lots.Kind.{Kind}
use Rattle.nc_rules.specs.declared.lots.Kind.TheVariants as kinds
use Rattle.nc_rules.specs.declared.lots.Lot.{Lot}
use Rattle.nc_rules.specs.declared.steps.Step.{Step}
use Rattle.nc_rules.specs.declared.steps.Turn.{Turn}
use Rattle.nc_rules.specs.declared.steps.Turn.TheVariants as turns
use Rattle.nc_rules.specs.Lots.{DriverConfig, is_lot, is_named, is_labelled, same_kind, is_synced, is_own, lot_named, only_entry, parts}
use Rattle.nc_rules.specs.Refusals.{buffer_of}
use Rattle.nc_rules.specs.Turns.{is_area}
use Rattle.nc_rules.specs.Plans.{hart_step, op_steps, turning, ending, beginning, carried, token_steps, lending_end, lend_steps, return_steps}
use Rattle.nc_plan.specs.Plans.{full}
use Rattle.nc_rules.specs.Accesses as accesses
use Rattle.nc_rules.specs.CacheOps as cache_ops
use Rattle.nc_rules.specs.Channels as channels
use Rattle.nc_rules.specs.Mappings as mappings
use Rattle.nc_rules.specs.Mappings.{with_lot, unmap_turn, unmap_steps, to_cpu_turn, to_cpu_steps, to_dev_turn, to_dev_steps}
use Rattle.nc_rules.specs.ScatterLists as lists
use Rattle.nc_rules.specs.ScatterLists.{unmap_sg_turn, unmap_sg_steps}
use Rattle.nc_rules.specs.Areas as areas
use Rattle.nc_rules.specs.Areas.{calloc_steps, give_turn, give_steps, fenced, take_turn, take_steps, free_turn, free_steps}
use Rattle.nc_rules.specs.Copies as copies
use Rattle.nc_rules.specs.Copies.{source, target, copy_step, claim_step, back_steps, end_part, copy_steps, copy_steps_of}
use Rattle.nc_rules.specs.Handing as handing
use Rattle.nc_rules.specs.Handing.{hand_steps}
use Rattle.nc_rules.specs.Operations.{meaning, opening, plan_of}
use Rattle.nc_scripts.specs.Drivers.{AreApart}
use Rattle.nc_scripts.proofs.Lists.{found, all_in}
use Rattle.nc_scripts.proofs.LotLaws.{its_name}
use Rattle.nc_holds.specs.Changes.{AreAreas, IsFirstTurn, IsLastTurn, IsPlanStep}
use Rattle.nc_holds.proofs.lists.Members.{only_one}

-- steps of a plan over these lots
abbrev pub ArePlanSteps : List Lot → List Step → Type 0
ArePlanSteps lots steps = All (IsPlanStep lots) steps

none : (lots : List Lot) → ArePlanSteps lots []
none lots = All-nil (IsPlanStep lots)

one : (lots : List Lot) (s : Step) → IsPlanStep lots s → ArePlanSteps lots (s ∷ [])
one lots s h = All-cons (IsPlanStep lots) s [] h (none lots)

join : (lots : List Lot) (xs ys : List Step) → ArePlanSteps lots xs → ArePlanSteps lots ys → ArePlanSteps lots (xs ++ ys)
join lots xs ys h k = All-append (IsPlanStep lots) xs ys h k

op_plan : (lots : List Lot) (os : List HartOp) → ArePlanSteps lots (op_steps os)
op_plan lots [] = none lots
op_plan lots (o ∷ os) = All-cons (IsPlanStep lots) (hart_step o) (op_steps os) (record { first = tt; last = tt }) (op_plan lots os)

ending_plan : (lots : List Lot) (t : Turn) (steps : List Step) → IsLastTurn lots t → ArePlanSteps lots steps → ArePlanSteps lots (ending t steps)
ending_plan lots t [] th all = all
ending_plan lots t (s ∷ []) th all = one lots (turning t s) (record { first = (All-head (IsPlanStep lots) s [] all).first; last = th })
ending_plan lots t (s ∷ u ∷ rest) th all =
    All-cons (IsPlanStep lots) s (ending t (u ∷ rest)) (All-head (IsPlanStep lots) s (u ∷ rest) all) (ending_plan lots t (u ∷ rest) th (All-tail (IsPlanStep lots) s (u ∷ rest) all))

beginning_plan : (lots : List Lot) (t : Turn) (steps : List Step) → IsFirstTurn t → ArePlanSteps lots steps → ArePlanSteps lots (beginning t steps)
beginning_plan lots t [] th all = all
beginning_plan lots t (s ∷ rest) th all =
    All-cons (IsPlanStep lots) (record s { first = t }) rest (record { first = th; last = (All-head (IsPlanStep lots) s rest all).last }) (All-tail (IsPlanStep lots) s rest all)

end_by : (lots : List Lot) (lot : Lot) (light : Bool) → ArePlanSteps lots (if light then token_steps lot else turning (turns.Give lot.id) (hart_step full) ∷ [])
end_by lots lot true = op_plan lots (_ ∷ _ ∷ [])
end_by lots lot false = one lots (turning (turns.Give lot.id) (hart_step full)) (record { first = tt; last = tt })

lending_end_plan : (lots : List Lot) (f : DriverConfig) (lot : Lot) → ArePlanSteps lots (lending_end f lot)
lending_end_plan lots f lot = end_by lots lot f.light

lend_plan : (lots : List Lot) (f : DriverConfig) (lot : Lot) → ArePlanSteps lots (lend_steps f lot)
lend_plan lots f lot = join lots (op_steps (carried f.effects f.size (parts f lot))) (lending_end f lot) (op_plan lots (carried f.effects f.size (parts f lot))) (lending_end_plan lots f lot)

back_with : (lots : List Lot) (f : DriverConfig) (lot : Lot) (t : Turn) → IsLastTurn lots t → ArePlanSteps lots (ending t (return_steps f lot))
back_with lots f lot t th = ending_plan lots t (return_steps f lot) th (op_plan lots (returning f.effects f.size (parts f lot)))

fence_plan : (lots : List Lot) (t : Turn) → IsLastTurn lots t → ArePlanSteps lots (fenced t)
fence_plan lots t th = one lots (turning t (hart_step full)) (record { first = tt; last = th })

back_plan : (lots : List Lot) (f : DriverConfig) (lot : Lot) → ArePlanSteps lots (back_steps f lot)
back_plan lots f lot = beginning_plan lots (turns.Return lot.id) (ending (turns.End lot.id) (return_steps f lot)) tt (back_with lots f lot (turns.End lot.id) tt)

copied_step : (lots : List Lot) (chan : ChanNo) (c : CopyStep) → IsPlanStep lots (copy_step chan c)
copied_step lots chan (copy_ops.Op op) = record { first = tt; last = tt }
copied_step lots chan copy_ops.Poll = record { first = tt; last = tt }

transfer_plan : (lots : List Lot) (chan : ChanNo) (cs : List CopyStep) → ArePlanSteps lots (map (copy_step chan) cs)
transfer_plan lots chan [] = none lots
transfer_plan lots chan (c ∷ cs) = All-cons (IsPlanStep lots) (copy_step chan c) (map (copy_step chan) cs) (copied_step lots chan c) (transfer_plan lots chan cs)

copy_plan : (lots : List Lot) (f : DriverConfig) (chan : ChanNo) (cfg : ℕ) (src dst : Lot) → ArePlanSteps lots (copy_steps f chan cfg src dst)
copy_plan lots f chan cfg src dst =
    let set = map (copy_step chan) (transfer chan (end_part f src) (end_part f dst) cfg) in
    let lends = join lots (lend_steps f src) (lend_steps f dst) (lend_plan lots f src) (lend_plan lots f dst) in
    let run = join lots (lend_steps f src ++ lend_steps f dst) set lends (transfer_plan lots chan (transfer chan (end_part f src) (end_part f dst) cfg)) in
    let one_back = join lots ((lend_steps f src ++ lend_steps f dst) ++ set) (back_steps f dst) run (back_plan lots f dst) in
    let all = join lots (((lend_steps f src ++ lend_steps f dst) ++ set) ++ back_steps f dst) (back_steps f src) one_back (back_plan lots f src) in
    All-cons (IsPlanStep lots) (claim_step chan) ((((lend_steps f src ++ lend_steps f dst) ++ set) ++ back_steps f dst) ++ back_steps f src) (record { first = refl; last = tt }) all

copy_by : (lots : List Lot) (f : DriverConfig) (chan : ChanNo) (cfg : ℕ) (src dst : Option Lot) → ArePlanSteps lots (copy_steps_of f chan cfg src dst)
copy_by lots f chan cfg None dst = none lots
copy_by lots f chan cfg (Some src) None = none lots
copy_by lots f chan cfg (Some src) (Some dst) = copy_plan lots f chan cfg src dst

-- ---- the lot that a plan is about

with_by : (lots : List Lot) (g : Lot → List Step) (o : Option Lot) → ((lot : Lot) → o ≡ Some lot → ArePlanSteps lots (g lot)) → ArePlanSteps lots (with_lot [] g o)
with_by lots g None h = none lots
with_by lots g (Some lot) h = h lot refl

if_plan : (lots : List Lot) (b : Bool) (xs ys : List Step) → ArePlanSteps lots xs → ArePlanSteps lots ys → ArePlanSteps lots (if b then xs else ys)
if_plan lots true xs ys h k = h
if_plan lots false xs ys h k = k

area_same : (k : Kind) → same_kind kinds.Area k ≡ true → is_area k ≡ true
area_same kinds.Single e = absurd (false≢true e)
area_same kinds.List e = absurd (false≢true e)
area_same kinds.Area e = refl
area_same kinds.Copy e = absurd (false≢true e)

-- the lots of an area's name are that area
area_alone : (lots : List Lot) (label : Label) (lot : Lot) → AreApart lots → lot_named lots label kinds.Area ≡ Some lot → AreAreas lots lot.id
area_alone lots label lot apart e =
    let k = found (λ x. In x lots) (is_named label kinds.Area) lots lot (all_in (λ x. In x lots) lots (λ x here. here)) e in
    let area = area_same lot.kind (and_parts (is_labelled label lot) (same_kind kinds.Area lot.kind) k.passes).1 in
    all_in (λ x. is_lot lot.id x ≡ true → is_area x.kind ≡ true) lots
    (λ x here named. let same : x ≡ lot = only_one (is_lot lot.id) lots x lot (apart lot.id) here k.is named (its_name lot lot.id refl) in subst (λ (l : Lot). is_area l.kind ≡ true) (sym same) area)

-- the turns of every plan
pub plan_steps : (f : DriverConfig) (lots : List Lot) (o : Op) → AreApart lots → ArePlanSteps lots (plan_of f lots o)
unfolding plan_of meaning accesses.load accesses.store cache_ops.cache_operation cache_ops.fence handing.take handing.hand channels.claim channels.free channels.set_up channels.run channels.poll channels.read_register channels.write_register mappings.map_single mappings.unmap_single mappings.sync_for_cpu mappings.sync_for_device lists.map_sg lists.unmap_sg areas.calloc areas.give_area areas.take_area areas.free_area copies.copy
plan_steps f lots (ops.Map label buf off len dir chan) apart = with_by lots (lend_steps f) (lot_named lots label kinds.Single) (λ lot e. lend_plan lots f lot)
plan_steps f lots (ops.MapSg label entries dir chan) apart = with_by lots (lend_steps f) (lot_named lots label kinds.List) (λ lot e. lend_plan lots f lot)
plan_steps f lots (ops.Calloc label pages chan) apart =
    with_by lots (calloc_steps f) (lot_named lots label kinds.Area) (λ lot e. ending_plan lots (turns.Settle lot.id) (op_steps (allocating f.effects f.size (only_entry lot).span)) (area_alone lots label lot apart e) (op_plan lots (allocating f.effects f.size (only_entry lot).span)))
plan_steps f lots (ops.Copy chan src src_off dst dst_off len cfg) apart = copy_by lots f chan cfg (find (is_lot source) lots) (find (is_lot target) lots)
plan_steps f lots (ops.Unmap label) apart =
    with_by lots (unmap_steps f) (lot_named lots label kinds.Single) (λ lot e. if_plan lots (is_synced lot.side) [] (ending (turns.End lot.id) (return_steps f lot)) (none lots) (back_with lots f lot (turns.End lot.id) tt))
plan_steps f lots (ops.ToCpu label) apart =
    with_by lots (to_cpu_steps f) (lot_named lots label kinds.Single) (λ lot e. if_plan lots (is_synced lot.side) [] (ending (turns.Sync lot.id) (return_steps f lot)) (none lots) (back_with lots f lot (turns.Sync lot.id) tt))
plan_steps f lots (ops.ToDev label) apart =
    with_by lots (to_dev_steps f) (lot_named lots label kinds.Single) (λ lot e. if_plan lots (is_synced lot.side) (lend_steps f lot) [] (lend_plan lots f lot) (none lots))
plan_steps f lots (ops.UnmapSg label count) apart = with_by lots (unmap_sg_steps f) (lot_named lots label kinds.List) (λ lot e. back_with lots f lot (turns.End lot.id) tt)
plan_steps f lots (ops.Cgive label) apart =
    with_by lots (give_steps f) (lot_named lots label kinds.Area) (λ lot e. if_plan lots (is_own lot.side) (lending_end f lot) [] (lending_end_plan lots f lot) (none lots))
plan_steps f lots (ops.Ctake label) apart =
    with_by lots take_steps (lot_named lots label kinds.Area) (λ lot e. if_plan lots (is_own lot.side) [] (fenced (turns.Settle lot.id)) (none lots) (fence_plan lots (turns.Settle lot.id) (area_alone lots label lot apart e)))
plan_steps f lots (ops.Cfree label) apart = with_by lots free_steps (lot_named lots label kinds.Area) (λ lot e. fence_plan lots (turns.End lot.id) tt)
plan_steps f lots (ops.Hand buf to) apart = op_plan lots (_ ∷ _ ∷ [])
plan_steps f lots (ops.Ld spot off len) apart = none lots
plan_steps f lots (ops.St spot off bytes) apart = none lots
plan_steps f lots (ops.Cbo op buf off) apart = none lots
plan_steps f lots (ops.Fence pred succ) apart = none lots
plan_steps f lots (ops.Take buf) apart = none lots
plan_steps f lots (ops.Claim chan) apart = none lots
plan_steps f lots (ops.Free chan) apart = none lots
plan_steps f lots (ops.Regs chan src dst len cfg) apart = none lots
plan_steps f lots (ops.Run chan) apart = none lots
plan_steps f lots (ops.Poll chan) apart = none lots
plan_steps f lots (ops.Regr chan off width) apart = none lots
plan_steps f lots (ops.Regw chan off width value) apart = none lots

-- ---- openings

-- what an operation can open with
abbrev pub IsOpening : DriverConfig → Op → Turn → Type 0
IsOpening f o turns.Stay = Unit {0}
IsOpening f o (turns.Lend id) = Unit {0}
IsOpening f o (turns.Return id) = Unit {0}
IsOpening f o (turns.End id) = Unit {0}
IsOpening f o (turns.Pass range to) = (buf : ℕ) × (o ≡ ops.Hand buf to) × (range ≡ buffer_of f buf)
IsOpening f o (turns.Own range) = ⊥
IsOpening f o (turns.Give id) = ⊥
IsOpening f o (turns.Sync id) = ⊥
IsOpening f o (turns.Settle id) = ⊥

with_turn : (f : DriverConfig) (o : Op) (g : Lot → Turn) (l : Option Lot) → ((lot : Lot) → IsOpening f o (g lot)) → IsOpening f o (with_lot turns.Stay g l)
with_turn f o g None h = tt
with_turn f o g (Some lot) h = h lot

if_turn : (f : DriverConfig) (o : Op) (b : Bool) (t u : Turn) → IsOpening f o t → IsOpening f o u → IsOpening f o (if b then t else u)
if_turn f o true t u h k = h
if_turn f o false t u h k = k

pub opening_is : (f : DriverConfig) (lots : List Lot) (o : Op) → IsOpening f o (opening f lots o)
unfolding opening meaning accesses.load accesses.store cache_ops.cache_operation cache_ops.fence handing.take handing.hand channels.claim channels.free channels.set_up channels.run channels.poll channels.read_register channels.write_register mappings.map_single mappings.unmap_single mappings.sync_for_cpu mappings.sync_for_device lists.map_sg lists.unmap_sg areas.calloc areas.give_area areas.take_area areas.free_area copies.copy
opening_is f lots (ops.Unmap label) =
    with_turn f (ops.Unmap label) unmap_turn (lot_named lots label kinds.Single) (λ lot. if_turn f (ops.Unmap label) (is_synced lot.side) (turns.End lot.id) (turns.Return lot.id) tt tt)
opening_is f lots (ops.ToCpu label) =
    with_turn f (ops.ToCpu label) to_cpu_turn (lot_named lots label kinds.Single) (λ lot. if_turn f (ops.ToCpu label) (is_synced lot.side) turns.Stay (turns.Return lot.id) tt tt)
opening_is f lots (ops.ToDev label) =
    with_turn f (ops.ToDev label) to_dev_turn (lot_named lots label kinds.Single) (λ lot. if_turn f (ops.ToDev label) (is_synced lot.side) (turns.Lend lot.id) turns.Stay tt tt)
opening_is f lots (ops.UnmapSg label count) = with_turn f (ops.UnmapSg label count) unmap_sg_turn (lot_named lots label kinds.List) (λ lot. tt)
opening_is f lots (ops.Cgive label) =
    with_turn f (ops.Cgive label) give_turn (lot_named lots label kinds.Area) (λ lot. if_turn f (ops.Cgive label) (is_own lot.side) (turns.Lend lot.id) turns.Stay tt tt)
opening_is f lots (ops.Ctake label) =
    with_turn f (ops.Ctake label) take_turn (lot_named lots label kinds.Area) (λ lot. if_turn f (ops.Ctake label) (is_own lot.side) turns.Stay (turns.Return lot.id) tt tt)
opening_is f lots (ops.Cfree label) = with_turn f (ops.Cfree label) free_turn (lot_named lots label kinds.Area) (λ lot. tt)
opening_is f lots (ops.Hand buf to) = (buf, refl, refl)
opening_is f lots (ops.Map label buf off len dir chan) = tt
opening_is f lots (ops.MapSg label entries dir chan) = tt
opening_is f lots (ops.Calloc label pages chan) = tt
opening_is f lots (ops.Copy chan src src_off dst dst_off len cfg) = tt
opening_is f lots (ops.Ld spot off len) = tt
opening_is f lots (ops.St spot off bytes) = tt
opening_is f lots (ops.Cbo op buf off) = tt
opening_is f lots (ops.Fence pred succ) = tt
opening_is f lots (ops.Take buf) = tt
opening_is f lots (ops.Claim chan) = tt
opening_is f lots (ops.Free chan) = tt
opening_is f lots (ops.Regs chan src dst len cfg) = tt
opening_is f lots (ops.Run chan) = tt
opening_is f lots (ops.Poll chan) = tt
opening_is f lots (ops.Regr chan off width) = tt
opening_is f lots (ops.Regw chan off width value) = tt
