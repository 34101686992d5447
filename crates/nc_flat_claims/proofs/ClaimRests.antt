-- The plan of a copy behind its claim: both ends are lent, its channel is set up, started, polled and released, and both ends
-- come back. The stores to registers that it puts are those of its transfer.
use Rattle.std.specs.Prelude.{Bool, true, map, flat_map, ◌&&◌}
use Rattle.std.specs.List.{list_any}
use Rattle.std.proofs.Common.{◌≡◌, ℕ, List, [], ◌∷◌, ◌++◌, refl, sym, ap, ◌∙◌}
use Rattle.std.proofs.lemmas.Bool.{or_right}
use Rattle.std.proofs.lemmas.List.Elements.{All-head, All-tail}
use Rattle.std.proofs.lemmas.List.Folds.{list_any-append}
use Rattle.nc_num.specs.declared.names.ChanNo.{ChanNo}
use Rattle.nc_queue.specs.declared.entry.Entry.{Entry as QueueEntry}
use Rattle.nc_plan.specs.Plans.{full, cbos, blocks, copies, dropped, copied_back, returning, return_op}
use Rattle.nc_plan.specs.Parts.{comes_back, is_bounced}
use Rattle.nc_plan.specs.declared.effects.Effects.{Effects}
use Rattle.nc_plan.specs.declared.ops.HartOp.{HartOp}
use Rattle.nc_plan.specs.declared.ops.HartOp.TheVariants as hart
use Rattle.nc_plan.specs.declared.parts.Part.{Part}
use Rattle.nc_memcpy.specs.Copy.{transfer}
use Rattle.nc_rules.specs.declared.lots.Lot.{Lot}
use Rattle.nc_rules.specs.declared.steps.Step.{Step}
use Rattle.nc_rules.specs.declared.steps.Turn.{Turn}
use Rattle.nc_rules.specs.declared.steps.Turn.TheVariants as turns
use Rattle.nc_rules.specs.Copies.{copy_step, claim_step, back_steps, end_part, copy_steps}
use Rattle.nc_rules.specs.Lots.{DriverConfig, parts}
use Rattle.nc_rules.specs.Plans.{hart_step, op_steps, beginning, ending, lending_end, lend_steps, return_steps}
use Rattle.nc_rows.specs.Ahead.{op_coming, act_coming}
use Rattle.nc_row_plans.proofs.LendingPlans.{is_plain, Are, are_flat, copies_plain, if_plain, cbos_are}
use Rattle.nc_transfers.specs.Transfers.{Ends}
use Rattle.nc_flatness.specs.Copying.{is_poll, polls, registers, registers_coming, register_entries}
use Rattle.nc_flatness.specs.Plans.{IsClaim, token_step}
use Rattle.nc_flatness.proofs.plans.CopySteps.{coming_by}
use Rattle.nc_flat_starts.proofs.going.PlanComes.{append_steps, steps_append}
use Rattle.nc_flat_claims.proofs.EndsAhead.{lending_ops, give_step, lending_plain, lending_is, lending_end_by}

-- ---- the step, and what is behind it

abbrev pub moves_steps : DriverConfig → ChanNo → ℕ → Lot → Lot → List Step
moves_steps f chan cfg src dst = map (copy_step chan) (transfer chan (end_part f src) (end_part f dst) cfg)

abbrev pub behind_target : DriverConfig → ChanNo → ℕ → Lot → Lot → List Step
behind_target f chan cfg src dst = moves_steps f chan cfg src dst ++ (back_steps f dst ++ back_steps f src)

abbrev pub behind_source : DriverConfig → ChanNo → ℕ → Lot → Lot → List Step
behind_source f chan cfg src dst = lend_steps f dst ++ behind_target f chan cfg src dst

abbrev pub behind_claim : DriverConfig → ChanNo → ℕ → Lot → Lot → List Step
behind_claim f chan cfg src dst = lend_steps f src ++ behind_source f chan cfg src dst

plan_lined : (f : DriverConfig) (chan : ChanNo) (cfg : ℕ) (src dst : Lot) → copy_steps f chan cfg src dst ≡ claim_step chan ∷ behind_claim f chan cfg src dst
plan_lined f chan cfg src dst =
    let a = lend_steps f src in
    let b = lend_steps f dst in
    let c = moves_steps f chan cfg src dst in
    let d = back_steps f dst in
    let e = back_steps f src in
    ap (λ (r : List Step). claim_step chan ∷ r) (append_steps ((a ++ b) ++ c) d e ∙ append_steps (a ++ b) c (d ++ e) ∙ append_steps a b (c ++ (d ++ e)))

abbrev first_step : ChanNo → List Step → Step
first_step chan [] = claim_step chan
first_step chan (s ∷ rest) = s

abbrev tail_of : List Step → List Step
tail_of [] = []
tail_of (s ∷ rest) = rest

pub step_is : (f : DriverConfig) (lots : List Lot) (s : Step) (rest : List Step) → (c : IsClaim f lots s rest) → s ≡ claim_step c.chan
step_is f lots s rest c = ap (first_step c.chan) c.steps

pub rest_is : (f : DriverConfig) (lots : List Lot) (s : Step) (rest : List Step) → (c : IsClaim f lots s rest) → rest ≡ behind_claim f c.chan c.config c.reads c.writes
rest_is f lots s rest c = ap tail_of (c.steps ∙ plan_lined f c.chan c.config c.reads c.writes)

-- ---- the poll

any_behind : (p : Step → Bool) (xs ys : List Step) → list_any p ys ≡ true → list_any p (xs ++ ys) ≡ true
any_behind p xs ys some = list_any-append p xs ys ∙ or_right (list_any p xs) (list_any p ys) some

pub its_poll : (f : DriverConfig) (chan : ChanNo) (cfg : ℕ) (src dst : Lot) → polls (behind_claim f chan cfg src dst) ≡ true
its_poll f chan cfg src dst = any_behind (λ (s : Step). is_poll s.act) (lend_steps f src) (behind_source f chan cfg src dst) (any_behind (λ (s : Step). is_poll s.act) (lend_steps f dst) (behind_target f chan cfg src dst) refl)

-- ---- its registers

-- an operation that is not of a register
dry : (o : HartOp) → is_plain o ≡ true → registers (op_coming o) ≡ []
dry (hart.Load span kind) is = refl
dry (hart.Store span kind bytes) is = refl
dry (hart.Cbo op block) is = refl
dry (hart.Fence pred succ) is = absurd cc
dry (hart.IoLoad chan off width) is = absurd cc
dry (hart.IoStore target) is = absurd cc
dry (hart.Mark pred succ) is = absurd cc

dry_ops : (ops : List HartOp) (rest : List Step) → Are is_plain ops → registers_coming (op_steps ops ++ rest) ≡ registers_coming rest
dry_ops [] rest all = refl
dry_ops (o ∷ ops) rest all =
    coming_by (hart_step o) (op_steps ops ++ rest) ∙ ap (λ (es : List QueueEntry). es ++ registers_coming (op_steps ops ++ rest)) (dry o (All-head (λ (k : HartOp). is_plain k ≡ true) o ops all))
    ∙ dry_ops ops rest (All-tail (λ (k : HartOp). is_plain k ≡ true) o ops all)

dry_lending : (f : DriverConfig) (lot : Lot) (rest : List Step) → registers_coming (lend_steps f lot ++ rest) ≡ registers_coming rest
dry_lending f lot rest =
    ap registers_coming (lending_is f lot rest) ∙ dry_ops (lending_ops f lot) (lending_end f lot ++ rest) (lending_plain f lot)
    ∙ lending_end_by (λ (ss : List Step). registers_coming (ss ++ rest) ≡ registers_coming rest) f lot (coming_by (hart_step (hart.Mark 1 4)) (token_step lot ∷ rest) ∙ coming_by (token_step lot) rest) (coming_by (give_step lot.id) rest)

-- the way back of an end
dropped_plain : (e : Effects) (size : ℕ) (p : Part) → Are is_plain (dropped e size p)
unfolding dropped
dropped_plain e size p = if_plain (comes_back p.dir) (cbos (return_op e) size p.device) (cbos_are is_plain (return_op e) (blocks size p.device) (λ b. refl))

home_plain : (p : Part) → Are is_plain (copied_back p)
unfolding copied_back
home_plain p = if_plain (comes_back p.dir && is_bounced p) (copies p.device p.buffer) (copies_plain p.device p.buffer)

none_behind : (ops : List HartOp) → Are is_plain ops → registers_coming (op_steps ops) ≡ []
none_behind [] all = refl
none_behind (o ∷ ops) all =
    coming_by (hart_step o) (op_steps ops) ∙ ap (λ (es : List QueueEntry). es ++ registers_coming (op_steps ops)) (dry o (All-head (λ (k : HartOp). is_plain k ≡ true) o ops all)) ∙ none_behind ops (All-tail (λ (k : HartOp). is_plain k ≡ true) o ops all)

dry_returning : (f : DriverConfig) (lot : Lot) → registers_coming (return_steps f lot) ≡ []
unfolding returning
dry_returning f lot =
    let ps = parts f lot in
    let drops = flat_map (dropped f.effects f.size) ps in
    let homes = flat_map copied_back ps in
    let all_drops = are_flat is_plain (dropped f.effects f.size) ps (dropped_plain f.effects f.size) in
    let all_homes = are_flat is_plain copied_back ps home_plain in
    ap registers_coming (steps_append (drops ++ full ∷ []) homes ∙ ap (λ (ss : List Step). ss ++ op_steps homes) (steps_append drops (full ∷ [])) ∙ append_steps (op_steps drops) (op_steps (full ∷ [])) (op_steps homes))
    ∙ dry_ops drops (hart_step full ∷ op_steps homes) all_drops ∙ none_behind homes all_homes

ending_dry : (turn : Turn) (steps : List Step) → registers_coming (ending turn steps) ≡ registers_coming steps
ending_dry turn [] = refl
ending_dry turn (s ∷ []) = refl
ending_dry turn (s ∷ t ∷ rest) = coming_by s (ending turn (t ∷ rest)) ∙ ap (λ (es : List QueueEntry). registers (act_coming s.act) ++ es) (ending_dry turn (t ∷ rest)) ∙ sym (coming_by s (t ∷ rest))

beginning_dry : (turn : Turn) (steps : List Step) → registers_coming (beginning turn steps) ≡ registers_coming steps
beginning_dry turn [] = refl
beginning_dry turn (s ∷ rest) = refl

dry_back : (f : DriverConfig) (lot : Lot) → registers_coming (back_steps f lot) ≡ []
dry_back f lot = beginning_dry (turns.Return lot.id) (ending (turns.End lot.id) (return_steps f lot)) ∙ ending_dry (turns.End lot.id) (return_steps f lot) ∙ dry_returning f lot

coming_append : (a b : List Step) → registers_coming (a ++ b) ≡ registers_coming a ++ registers_coming b
coming_append [] b = refl
coming_append (s ∷ a) b =
    coming_by s (a ++ b) ∙ ap (λ (es : List QueueEntry). registers (act_coming s.act) ++ es) (coming_append a b) ∙ sym (append_entries (registers (act_coming s.act)) (registers_coming a) (registers_coming b))
    ∙ ap (λ (es : List QueueEntry). es ++ registers_coming b) (sym (coming_by s a))
  where
    append_entries : (x y z : List QueueEntry) → (x ++ y) ++ z ≡ x ++ (y ++ z)
    append_entries [] y z = refl
    append_entries (e ∷ x) y z = ap (λ (es : List QueueEntry). e ∷ es) (append_entries x y z)

-- the ends as the plan has them
abbrev pub plan_ends : DriverConfig → ℕ → Lot → Lot → ℕ → ℕ → Ends
plan_ends f cfg src dst source target = record { source = source; target = target; reads_at = (end_part f src).device.at; writes_at = (end_part f dst).device.at; len = (end_part f src).device.len; config = cfg }

pub its_registers : (f : DriverConfig) (chan : ChanNo) (cfg : ℕ) (src dst : Lot) (source target : ℕ) → registers_coming (behind_claim f chan cfg src dst) ≡ register_entries chan (plan_ends f cfg src dst source target)
its_registers f chan cfg src dst source target =
    let last = back_steps f dst ++ back_steps f src in
    let none : registers_coming last ≡ [] = coming_append (back_steps f dst) (back_steps f src) ∙ ap (λ (es : List QueueEntry). es ++ registers_coming (back_steps f src)) (dry_back f dst) ∙ dry_back f src in
    let six = register_entries chan (plan_ends f cfg src dst source target) in
    let moved : registers_coming (behind_target f chan cfg src dst) ≡ six ++ registers_coming last = refl in
    dry_lending f src (behind_source f chan cfg src dst) ∙ dry_lending f dst (behind_target f chan cfg src dst) ∙ moved ∙ ap (λ (es : List QueueEntry). six ++ es) none
