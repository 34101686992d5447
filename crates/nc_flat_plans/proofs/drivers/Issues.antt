-- The issue of the next operation of a plan: it is there, it may be issued, and it is no access.
use Rattle.std.specs.Prelude.{Some, ◌&&◌, ◌||◌, not, All, Bool, true, false}
use Rattle.std.specs.List.{list_any}
use Rattle.std.proofs.Common.{◌≡◌, ℕ, ◌*◌, ◌<◌, List, [], ◌∷◌, ◌++◌, length, replicate, refl, sym, ap, ◌∙◌, subst, arith}
use Rattle.std.proofs.lemmas.Bool.{and_parts, or_parts}
use Rattle.std.proofs.lemmas.List.Elements.{All-head}
use Rattle.nc_num.specs.declared.names.HartNo.{HartNo}
use Rattle.nc_num.specs.declared.names.MemType.{MemType}
use Rattle.nc_num.specs.declared.places.Block.{Block}
use Rattle.nc_num.specs.declared.places.Span.{Span}
use Rattle.nc_env.specs.declared.CboOp.{CboOp}
use Rattle.nc_env.specs.declared.CboOp.TheVariants as cbos
use Rattle.nc_plan.specs.Plans.{full}
use Rattle.nc_plan.specs.declared.ops.HartOp.{HartOp}
use Rattle.nc_plan.specs.declared.ops.HartOp.TheVariants as hart_ops
use Rattle.nc_plan.specs.declared.ops.Payload.{Payload}
use Rattle.nc_queue.specs.Entries.{is_w, in_set}
use Rattle.nc_queue.specs.Rules.{any_in}
use Rattle.nc_queue.specs.declared.entry.Entry.{Entry}
use Rattle.nc_queue.specs.declared.entry.Entry.TheVariants as entries
use Rattle.nc_hart.specs.Issue.{can_issue, has_room, fence_clear, load_clear, entry_of}
use Rattle.nc_model.specs.Flat.{named, written}
use Rattle.nc_ops.specs.declared.ops.Op.{Op}
use Rattle.nc_scen.specs.declared.events.Event.TheVariants as events
use Rattle.nc_scen.specs.declared.scenario.Scenario.{Scenario}
use Rattle.nc_rules.specs.declared.steps.Act.{Act}
use Rattle.nc_rules.specs.declared.steps.Act.TheVariants as acts
use Rattle.nc_rules.specs.declared.steps.Next.{Next}
use Rattle.nc_rules.specs.declared.steps.Next.TheVariants as nexts
use Rattle.nc_rules.specs.declared.steps.Phase.{Phase}
use Rattle.nc_rules.specs.declared.steps.Phase.TheVariants.{Work}
use Rattle.nc_rules.specs.declared.steps.Step.{Step}
use Rattle.nc_rules.specs.Machine.{MachineState, hart_of, queue_of}
use Rattle.nc_rules.specs.Calls.{may_issue, issue_next, issue_answer, load_transfers}
use Rattle.nc_rules.specs.View.{bytes_seen}
use Rattle.nc_rules.specs.Driver.{Went, next_of, next_of_op, next_in, next_act, next_rest, done, is_script}
use Rattle.nc_rules.specs.Events.{enabled, may_go_on, is_out}
use Rattle.nc_rules.specs.Flat.{records_trace}
use Rattle.nc_rules.specs.Outcomes.{seen_of, op_outcome, step_outcome, outcome}
use Rattle.nc_rules.specs.Records.{op_records, transfer_records, load_record}
use Rattle.nc_rules.specs.Sound.{OpIsThere}
use Rattle.nc_rules.specs.EventTouches.{issue_touch}
use Rattle.nc_rules.specs.World.{WorldState, driver_of}
use Rattle.nc_calls.proofs.CallProofs.{issues_by_place}
use Rattle.nc_calls.proofs.SoundLaws.{calls_keep_shape}
use Rattle.nc_calls.specs.MachineLaws.{SameShape}
use Rattle.nc_scripts.specs.Drivers.{StepIsThere, ActIsThere, ActFitsLast, LoadsFit, HartOpIsThere, FitsLast}
use Rattle.nc_holds.specs.Holds.{DriverHolds}
use Rattle.nc_row_issues.specs.Laws.{Enters}
use Rattle.nc_flatness.specs.Flatness.{BytesStand}
use Rattle.nc_flatness.specs.Steps.{GoesTo, Goes}
use Rattle.nc_flatness.proofs.worlds.Trace.{trace-append, transfers_silent}
use Rattle.nc_flatness.proofs.worlds.Outcomes.{gone, goes_go, goes_silent}
use Rattle.nc_flat_plans.proofs.places.Passes.{is_kept_op}
use Rattle.nc_flat_plans.proofs.drivers.Drivers.{IsNext}

-- the step is this operation
pub record IsOpNext (sc : Scenario) (f : List ℕ) (w : WorldState) (h : HartNo) (o : Op) (op : HartOp) (s : Step) (rest : List Step) : Type 0 where
  pub next : IsNext sc f w h o s rest
  pub act : s.act ≡ acts.Op op

-- ---- it is there, and may be issued

pub op_hart : (sc : Scenario) (f : List ℕ) (w : WorldState) (h : HartNo) (o : Op) (op : HartOp) (s : Step) (rest : List Step) → IsOpNext sc f w h o op s rest → h.0 < length w.machine.harts
op_hart sc f w h o op s rest k = omega (arith, k.next.now.there, k.next.now.flat.world.of_scenario.harts)

pub op_there : (sc : Scenario) (f : List ℕ) (w : WorldState) (h : HartNo) (o : Op) (op : HartOp) (s : Step) (rest : List Step) → IsOpNext sc f w h o op s rest → OpIsThere w.machine h.0 op
op_there sc f w h o op s rest k =
    let d = driver_of w h.0 in
    let m = w.machine in
    let ram = length m.cache.ram in
    let harts = length m.harts in
    let last = length (hart_of m h.0).last in
    let held : DriverHolds w h.0 = k.next.now.flat.world.holds.each h.0 (op_hart sc f w h o op s rest k) in
    let all = subst (λ (r : List Step). All (StepIsThere ram harts d.fixed) r) k.next.rest_is held.driver.rest in
    let first = All-head (StepIsThere ram harts d.fixed) s rest all in
    let there : HartOpIsThere ram harts d.fixed op = subst (λ (a : Act). ActIsThere ram harts d.fixed a) k.act first.act in
    let loads = subst (λ (r : List Step). LoadsFit last r) k.next.rest_is held.loads in
    let fits : FitsLast last op = subst (λ (a : Act). ActFitsLast last a) k.act loads.0 in
    there m h.0 (record { memory = refl; block = held.setting.block; processors = refl; boxes = held.setting.boxes }) fits

next_work : (sc : Scenario) (f : List ℕ) (w : WorldState) (h : HartNo) (o : Op) (op : HartOp) (s : Step) (rest : List Step) → IsOpNext sc f w h o op s rest → next_of (driver_of w h.0) ≡ nexts.Op op
unfolding next_of
next_work sc f w h o op s rest k =
    let d = driver_of w h.0 in
    ap (next_of_op d) k.next.hand ∙ ap (next_in d o) k.next.phase ∙ ap next_rest k.next.rest_is ∙ ap next_act k.act

may_so : (w : WorldState) (h : HartNo) (nx : Next) → enabled w (events.Issue h) ≡ true → next_of (driver_of w h.0) ≡ nx → may_go_on w h nx ≡ true
unfolding enabled
may_so w h nx may is = sym (ap (may_go_on w h) is) ∙ (and_parts (is_out w.machine h _) (may_go_on w h (next_of (driver_of w h.0))) may).1

pub op_may : (sc : Scenario) (f : List ℕ) (w : WorldState) (h : HartNo) (o : Op) (op : HartOp) (s : Step) (rest : List Step) → IsOpNext sc f w h o op s rest → may_issue w.machine h.0 op ≡ true
op_may sc f w h o op s rest k = may_so w h (nexts.Op op) k.next.now.may (next_work sc f w h o op s rest k)

pub op_shape : (sc : Scenario) (f : List ℕ) (w : WorldState) (h : HartNo) (o : Op) (op : HartOp) (s : Step) (rest : List Step) → IsOpNext sc f w h o op s rest → SameShape w.machine (issue_next w.machine h.0 op)
op_shape sc f w h o op s rest k =
    calls_keep_shape.of_issue w.machine h.0 op k.next.now.flat.world.machine (record { hart = op_hart sc f w h o op s rest k; there = op_there sc f w h o op s rest k; may = op_may sc f w h o op s rest k })

pub op_enters : (sc : Scenario) (f : List ℕ) (w : WorldState) (h : HartNo) (o : Op) (op : HartOp) (s : Step) (rest : List Step) (e : Entry) → IsOpNext sc f w h o op s rest → entry_of (hart_of w.machine h.0).last op ≡ Some e
    → Enters w.machine (issue_next w.machine h.0 op) h.0 e
op_enters sc f w h o op s rest e k is = record { pushes = issues_by_place.entry w.machine h.0 op e (op_hart sc f w h o op s rest k) is; shape = op_shape sc f w h o op s rest k }

-- ---- a full fence

none_set : (e : Entry) → in_set e 15 ≡ false → is_w e ≡ false
none_set (entries.Store span bytes kind) is = absurd cc
none_set (entries.Cbo block op) is = absurd cc
none_set (entries.Reg chan off width value) is = refl
none_set (entries.Mail buf to) is = refl
none_set (entries.Lend label first count) is = refl
none_set (entries.Mark pred succ) is = refl

no_writes : (q : List Entry) → any_in q 15 ≡ false → list_any is_w q ≡ false
no_writes [] none = refl
no_writes (e ∷ q) none =
    let parts = or_parts (in_set e 15) (any_in q 15) none in
    ap (λ (b : Bool). b || list_any is_w q) (none_set e parts.0) ∙ no_writes q parts.1

clear_so : (b : Bool) → not b ≡ true → b ≡ false
clear_so true e = absurd cc
clear_so false e = refl

-- before it no write is queued
pub emptied : (w : WorldState) (h : HartNo) → may_issue w.machine h.0 full ≡ true → list_any is_w (queue_of w.machine h.0) ≡ false
unfolding can_issue
emptied w h may =
    let q = queue_of w.machine h.0 in
    let parts = and_parts (has_room q full && fence_clear q full) (load_clear q full) may in
    let clear = and_parts (has_room q full) (fence_clear q full) parts.0 in
    no_writes q (clear_so (any_in q 15) clear.1)

-- it leaves the machine
pub fence_stays : (m : MachineState) (h : ℕ) → issue_next m h full ≡ m
fence_stays m h = issues_by_place.fence m h 15 15 refl

-- ---- no operation of a plan is an access

pub fence_silent : (w : WorldState) (h : HartNo) (b : Bool) → records_trace w.machine.size w.grants (op_records w.machine h b full) ≡ []
unfolding op_records
fence_silent w h b = refl

pub kept_silent : (w : WorldState) (h : HartNo) (b : Bool) (op : CboOp) (block : Block) → is_kept_op op ≡ true → records_trace w.machine.size w.grants (op_records w.machine h b (hart_ops.Cbo op block)) ≡ []
unfolding op_records
kept_silent w h b cbos.Clean block is = refl
kept_silent w h b cbos.Flush block is = refl
kept_silent w h b cbos.Inval block is = refl
kept_silent w h b cbos.Zero block is = absurd cc

load_silent_by : (w : WorldState) (h : HartNo) (span : Span) (kind : MemType) → records_trace w.machine.size w.grants (op_records w.machine h false (hart_ops.Load span kind)) ≡ []
unfolding op_records
load_silent_by w h span kind =
    let m = w.machine in
    trace-append m.size w.grants (transfer_records m.size (load_transfers m h.0 span kind)) (load_record false h span.at (bytes_seen m h.0 kind span) ∷ [])
    ∙ ap (λ ms. ms ++ []) (transfers_silent m.size m.size w.grants (load_transfers m h.0 span kind))

store_silent_by : (w : WorldState) (h : HartNo) (span : Span) (kind : MemType) (bytes : Payload) → records_trace w.machine.size w.grants (op_records w.machine h false (hart_ops.Store span kind bytes)) ≡ []
unfolding op_records
store_silent_by w h span kind bytes = refl

-- a plan's are not its script's
pub load_silent : (w : WorldState) (h : HartNo) (p : Phase) (span : Span) (kind : MemType) → p ≡ Work → records_trace w.machine.size w.grants (op_records w.machine h (is_script p) (hart_ops.Load span kind)) ≡ []
load_silent w h p span kind is = ap (λ (q : Phase). records_trace w.machine.size w.grants (op_records w.machine h (is_script q) (hart_ops.Load span kind))) is ∙ load_silent_by w h span kind

pub store_silent : (w : WorldState) (h : HartNo) (p : Phase) (span : Span) (kind : MemType) (bytes : Payload) → p ≡ Work → records_trace w.machine.size w.grants (op_records w.machine h (is_script p) (hart_ops.Store span kind bytes)) ≡ []
store_silent w h p span kind bytes is = ap (λ (q : Phase). records_trace w.machine.size w.grants (op_records w.machine h (is_script q) (hart_ops.Store span kind bytes))) is ∙ store_silent_by w h span kind bytes

-- ---- the event

issues : (w : WorldState) (h : HartNo) (nx : Next) → next_of (driver_of w h.0) ≡ nx → outcome w (events.Issue h) ≡ step_outcome w h nx
unfolding outcome
issues w h nx is = ap (step_outcome w h) is

-- the driver behind it
abbrev pub went_by : WorldState → HartNo → HartOp → Went
went_by w h op = done (driver_of w h.0) (seen_of (issue_answer w.machine h.0 op))

-- it is no touch, and its records are these
pub op_event : (sc : Scenario) (f : List ℕ) (w : WorldState) (h : HartNo) (o : Op) (op : HartOp) (s : Step) (rest : List Step) → IsOpNext sc f w h o op s rest
    → GoesTo sc f (records_trace w.machine.size w.grants (op_records w.machine h (is_script (driver_of w h.0).phase) op)) (gone w h (issue_next w.machine h.0 op) (went_by w h op)) → Goes sc f w (events.Issue h)
unfolding step_outcome op_outcome
op_event sc f w h o op s rest k to =
    let machine = issue_next w.machine h.0 op in
    let script = is_script (driver_of w h.0).phase in
    goes_go sc f w (events.Issue h) h machine (went_by w h op) w.slots (issue_touch w h script op) (op_records w.machine h script op) k.next.now.may (issues w h (nexts.Op op) (next_work sc f w h o op s rest k)) (λ none. to)

pub op_goes : (sc : Scenario) (f : List ℕ) (w : WorldState) (h : HartNo) (o : Op) (op : HartOp) (s : Step) (rest : List Step) → IsOpNext sc f w h o op s rest
    → records_trace w.machine.size w.grants (op_records w.machine h (is_script (driver_of w h.0).phase) op) ≡ [] → BytesStand sc f (gone w h (issue_next w.machine h.0 op) (went_by w h op)) → Goes sc f w (events.Issue h)
op_goes sc f w h o op s rest k silent bytes =
    op_event sc f w h o op s rest k
    (goes_silent sc f (records_trace w.machine.size w.grants (op_records w.machine h (is_script (driver_of w h.0).phase) op)) (gone w h (issue_next w.machine h.0 op) (went_by w h op)) silent bytes)

-- a zero of a plan writes zeros over its block
pub zero_goes : (sc : Scenario) (f : List ℕ) (w : WorldState) (h : HartNo) (o : Op) (block : Block) (s : Step) (rest : List Step) → IsOpNext sc f w h o (hart_ops.Cbo cbos.Zero block) s rest
    → BytesStand sc (written f (named (w.machine.size * block.0) (replicate w.machine.size 0))) (gone w h (issue_next w.machine h.0 (hart_ops.Cbo cbos.Zero block)) (went_by w h (hart_ops.Cbo cbos.Zero block))) → Goes sc f w (events.Issue h)
unfolding op_records
zero_goes sc f w h o block s rest k bytes = op_event sc f w h o (hart_ops.Cbo cbos.Zero block) s rest k (record { untouched = tt; latest = tt; bytes = bytes })
