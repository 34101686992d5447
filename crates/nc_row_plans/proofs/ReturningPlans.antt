-- The plan that takes a lot back: its blocks are dropped, then all is fenced, then the bounced parts are copied.
use Rattle.std.specs.Prelude.{◌/◌, ◌==◌, ◌&&◌, ◌||◌, map, flat_map, if◌then◌else◌, All}
use Rattle.std.specs.List.{list_any}
use Rattle.std.proofs.Common.{◌≡◌, ◌⊎◌, ℕ, Bool, true, false, List, [], ◌∷◌, ◌++◌, refl, sym, ap, ◌∙◌, inl, inr, subst}
use Rattle.std.proofs.lemmas.Bool.{or_left, or_right, and_from, eq-eqb, cond-true, cond-false}
use Rattle.std.proofs.lemmas.List.Elements.{All-nil, All-cons, All-head, All-tail}
use Rattle.nc_num.specs.Sizes.{IsBlockSize}
use Rattle.nc_num.specs.declared.names.MapId.{MapId}
use Rattle.nc_env.specs.declared.CboOp.{CboOp}
use Rattle.nc_queue.specs.Entries.{has_op}
use Rattle.nc_queue.specs.Laws.{Stands}
use Rattle.nc_queue.specs.declared.entry.Entry.{Entry}
use Rattle.nc_queue.specs.declared.entry.Entry.TheVariants as entries
use Rattle.nc_plan.specs.Parts.{comes_back, is_bounced}
use Rattle.nc_plan.specs.Plans as plans
use Rattle.nc_plan.specs.Plans.{In, blocks, cbo, copies, dropped, copied_back, returning, return_op, full}
use Rattle.nc_plan.specs.declared.effects.Effects.{Effects}
use Rattle.nc_plan.specs.declared.ops.HartOp.{HartOp}
use Rattle.nc_plan.specs.declared.ops.HartOp.TheVariants as hart
use Rattle.nc_plan.specs.declared.parts.Part.{Part}
use Rattle.nc_plan.proofs.PlanLaws.{blocks_are_met}
use Rattle.nc_rules.specs.declared.lots.Lot.{Lot}
use Rattle.nc_rules.specs.declared.lots.LotId.{LotId}
use Rattle.nc_rules.specs.declared.steps.Step.{Step}
use Rattle.nc_rules.specs.declared.steps.Turn.{Turn}
use Rattle.nc_rules.specs.Lots.{DriverConfig, parts}
use Rattle.nc_rules.specs.Machine.{MachineState}
use Rattle.nc_calls.specs.PlaceLaws.{drops_copies}
use Rattle.nc_rules.specs.Plans.{hart_step, op_steps, turning, ending, return_steps}
use Rattle.nc_rows.specs.Ahead.{ends, is_full, turns_lot, gives_lot, op_coming, token, coming}
use Rattle.nc_rows.specs.Rows.{drop}
use Rattle.nc_rows.proofs.Steps.{next, last, append_nil}
use Rattle.nc_row_plans.specs.Plans.{IsPlaceOf, DropsBlocks, TurnsBack, PlansReturn}
use Rattle.nc_row_plans.proofs.LendingPlans.{is_plain, Are, are_append, are_flat, copies_plain, if_plain, cbos_are, none_of, some_append, stands_some, flat_append}

-- ---- the steps of the plan, of which the last makes the turn

-- no operation of a plan but a store of class O
abbrev pub is_inner : HartOp → Bool
is_inner (hart.Load span kind) = true
is_inner (hart.Store span kind bytes) = true
is_inner (hart.Cbo op block) = true
is_inner (hart.Fence pred succ) = true
is_inner (hart.IoLoad chan off width) = true
is_inner (hart.IoStore target) = false
is_inner (hart.Mark pred succ) = true

inner_ends : (lot : LotId) (o : HartOp) → is_inner o ≡ true → ends lot (hart_step o) ≡ false
inner_ends lot (hart.Load span kind) is = refl
inner_ends lot (hart.Store span kind bytes) is = refl
inner_ends lot (hart.Cbo op block) is = refl
inner_ends lot (hart.Fence pred succ) is = refl
inner_ends lot (hart.IoLoad chan off width) is = refl
inner_ends lot (hart.IoStore target) is = absurd cc
inner_ends lot (hart.Mark pred succ) is = refl

-- a list of steps that is not empty ends with the turn
ending_ends : (lot : LotId) (turn : Turn) (o : HartOp) (ops : List HartOp) → turns_lot lot turn ≡ true → list_any (ends lot) (ending turn (op_steps (o ∷ ops))) ≡ true
ending_ends lot turn o [] is = or_left _ false (or_left (turns_lot lot turn) _ is)
ending_ends lot turn o (q ∷ ops) is = or_right (ends lot (hart_step o)) _ (ending_ends lot turn q ops is)

coming_ending : (n : MapId) (lot : LotId) (turn : Turn) (o : HartOp) (ops : List HartOp) → Are is_inner (o ∷ ops) → TurnsBack lot turn → coming n lot (ending turn (op_steps (o ∷ ops))) ≡ flat_map op_coming (o ∷ ops)
coming_ending n lot turn o [] all is =
    last n lot (turning turn (hart_step o)) [] (or_left (turns_lot lot turn) _ is.0) ∙ ap (λ (es : List Entry). op_coming o ++ es) (cond-false (gives_lot lot turn) (token n ∷ []) [] is.1)
coming_ending n lot turn o (q ∷ ops) all is =
    next n lot (hart_step o) (ending turn (op_steps (q ∷ ops))) (inner_ends lot o (All-head (λ (k : HartOp). is_inner k ≡ true) o (q ∷ ops) all)) (ending_ends lot turn q ops is.0)
    ∙ ap (λ (es : List Entry). op_coming o ++ es) (coming_ending n lot turn q ops (All-tail (λ (k : HartOp). is_inner k ≡ true) o (q ∷ ops) all) is)

-- the same of a plan that has a fence within
coming_fenced : (n : MapId) (lot : LotId) (turn : Turn) (before after : List HartOp) → Are is_inner before → Are is_inner after → TurnsBack lot turn
    → coming n lot (ending turn (op_steps (before ++ full ∷ after))) ≡ flat_map op_coming before ++ (entries.Mark 15 15 ∷ flat_map op_coming after)
coming_fenced n lot turn [] after none all is = coming_ending n lot turn full after (All-cons (λ (k : HartOp). is_inner k ≡ true) full after refl all) is
coming_fenced n lot turn (o ∷ before) after some all is =
    coming_ending n lot turn o (before ++ full ∷ after) (are_append is_inner (o ∷ before) (full ∷ after) some (All-cons (λ (k : HartOp). is_inner k ≡ true) full after refl all)) is
    ∙ flat_append (o ∷ before) (full ∷ after)

-- ---- its operations

plain_inner : (o : HartOp) → is_plain o ≡ true → is_inner o ≡ true
plain_inner (hart.Load span kind) is = refl
plain_inner (hart.Store span kind bytes) is = refl
plain_inner (hart.Cbo op block) is = refl
plain_inner (hart.Fence pred succ) is = absurd cc
plain_inner (hart.IoLoad chan off width) is = absurd cc
plain_inner (hart.IoStore target) is = absurd cc
plain_inner (hart.Mark pred succ) is = absurd cc

are_inner : (ops : List HartOp) → Are is_plain ops → Are is_inner ops
are_inner [] all = All-nil (λ (k : HartOp). is_inner k ≡ true)
are_inner (o ∷ ops) all =
    All-cons (λ (k : HartOp). is_inner k ≡ true) o ops (plain_inner o (All-head (λ (k : HartOp). is_plain k ≡ true) o ops all)) (are_inner ops (All-tail (λ (k : HartOp). is_plain k ≡ true) o ops all))

dropped_plain : (e : Effects) (size : ℕ) (p : Part) → Are is_plain (dropped e size p)
unfolding dropped
dropped_plain e size p = if_plain (comes_back p.dir) (map (cbo (return_op e)) (blocks size p.device)) (cbos_are is_plain (return_op e) (blocks size p.device) (λ b. refl))

back_plain : (p : Part) → Are is_plain (copied_back p)
unfolding copied_back
back_plain p = if_plain (comes_back p.dir && is_bounced p) (copies p.device p.buffer) (copies_plain p.device p.buffer)

op_unfenced : (o : HartOp) → is_plain o ≡ true → list_any is_full (op_coming o) ≡ false
op_unfenced (hart.Load span kind) is = refl
op_unfenced (hart.Store span kind bytes) is = refl
op_unfenced (hart.Cbo op block) is = refl
op_unfenced (hart.Fence pred succ) is = absurd cc
op_unfenced (hart.IoLoad chan off width) is = absurd cc
op_unfenced (hart.IoStore target) is = absurd cc
op_unfenced (hart.Mark pred succ) is = absurd cc

-- ---- the operation of the place's block

some_block : (op : CboOp) (b : ℕ) (bs : List ℕ) → drops_copies op ≡ true → In b bs → list_any (has_op drops_copies b) (flat_map op_coming (map (cbo op) bs)) ≡ true
some_block op b [] is here = absurd here
some_block op b (c ∷ bs) is (inl same) =
    or_left (has_op drops_copies b (entries.Cbo (record { 0 = c }) op)) (list_any (has_op drops_copies b) (flat_map op_coming (map (cbo op) bs))) (and_from (drops_copies op) (c == b) is (eq-eqb c b same))
some_block op b (c ∷ bs) is (inr later) =
    or_right (has_op drops_copies b (entries.Cbo (record { 0 = c }) op)) (list_any (has_op drops_copies b) (flat_map op_coming (map (cbo op) bs))) (some_block op b bs is later)

some_part : (e : Effects) (size b : ℕ) (p : Part) → DropsBlocks e → comes_back p.dir ≡ true → In b (blocks size p.device) → list_any (has_op drops_copies b) (flat_map op_coming (dropped e size p)) ≡ true
unfolding dropped
some_part e size b p drops comes here = rw comes (some_block (return_op e) b (blocks size p.device) drops here)

some_dropped : (e : Effects) (size b : ℕ) (p : Part) (ps : List Part) → DropsBlocks e → comes_back p.dir ≡ true → In p ps → In b (blocks size p.device) → list_any (has_op drops_copies b) (flat_map op_coming (flat_map (dropped e size) ps)) ≡ true
some_dropped e size b p [] drops comes part here = absurd part
some_dropped e size b p (q ∷ ps) drops comes (inl same) here =
    ap (list_any (has_op drops_copies b)) (flat_append (dropped e size q) (flat_map (dropped e size) ps))
    ∙ some_append (has_op drops_copies b) (flat_map op_coming (dropped e size q)) (flat_map op_coming (flat_map (dropped e size) ps)) (inl (rw same (some_part e size b p drops comes here)))
some_dropped e size b p (q ∷ ps) drops comes (inr later) here =
    ap (list_any (has_op drops_copies b)) (flat_append (dropped e size q) (flat_map (dropped e size) ps))
    ∙ some_append (has_op drops_copies b) (flat_map op_coming (dropped e size q)) (flat_map op_coming (flat_map (dropped e size) ps)) (inr (some_dropped e size b p ps drops comes later here))

-- ---- the whole

snoc_append : (a b : List HartOp) (o : HartOp) → (a ++ o ∷ []) ++ b ≡ a ++ o ∷ b
snoc_append [] b o = refl
snoc_append (q ∷ a) b o = ap (λ (ops : List HartOp). q ∷ ops) (snoc_append a b o)

comes_of : (f : DriverConfig) (lot : Lot) (n : MapId) (turn : Turn) → TurnsBack lot.id turn
    → coming n lot.id (ending turn (return_steps f lot)) ≡ flat_map op_coming (flat_map (dropped f.effects f.size) (parts f lot)) ++ (entries.Mark 15 15 ∷ flat_map op_coming (flat_map copied_back (parts f lot)))
unfolding returning
comes_of f lot n turn is =
    let ps = parts f lot in
    ap (λ (ops : List HartOp). coming n lot.id (ending turn (op_steps ops))) (snoc_append (flat_map (dropped f.effects f.size) ps) (flat_map copied_back ps) full)
    ∙ coming_fenced n lot.id turn (flat_map (dropped f.effects f.size) ps) (flat_map copied_back ps) (are_inner (flat_map (dropped f.effects f.size) ps) (are_flat is_plain (dropped f.effects f.size) ps (dropped_plain f.effects f.size)))
    (are_inner (flat_map copied_back ps) (are_flat is_plain copied_back ps back_plain)) is

drops_of : (f : DriverConfig) (lot : Lot) (n : MapId) (turn : Turn) (p : Part) (m : MachineState) (y : ℕ) → IsBlockSize m.size → f.size ≡ m.size → DropsBlocks f.effects → comes_back p.dir ≡ true → TurnsBack lot.id turn → IsPlaceOf f lot p y
    → Stands (drop m y) is_full (coming n lot.id (ending turn (return_steps f lot)))
drops_of f lot n turn p m y z size drops comes is place =
    let ps = parts f lot in
    let ops = flat_map (dropped f.effects f.size) ps in
    let met : In (y / m.size) (blocks f.size p.device) = rw size ((blocks_are_met m.size p.device z).all y place.from place.before) in
    subst (λ (es : List Entry). Stands (drop m y) is_full es) (sym (comes_of f lot n turn is))
    (stands_some (drop m y) is_full (flat_map op_coming ops) (entries.Mark 15 15 ∷ flat_map op_coming (flat_map copied_back ps)) (some_dropped f.effects f.size (y / m.size) p ps drops comes place.part met)
    (none_of is_full is_plain ops op_unfenced (are_flat is_plain (dropped f.effects f.size) ps (dropped_plain f.effects f.size))))

pub plans_return : PlansReturn
plans_return = record { comes = comes_of; drops = drops_of }
