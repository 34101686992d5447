-- The plan of a copy: its turns are of its two ends alone, and it polls.
use Rattle.std.specs.Prelude.{All, Option, Some, None, ◌||◌, ◌==◌, if◌then◌else◌, find}
use Rattle.std.proofs.Common.{◌≡◌, ℕ, Bool, true, false, List, [], ◌∷◌, ◌++◌, map, refl, sym, ◌∙◌, subst}
use Rattle.std.proofs.lemmas.Bool.{and_parts, eqb-true, false≢true}
use Rattle.std.proofs.lemmas.List.Elements.{All-nil, All-cons, All-append}
use Rattle.nc_num.specs.declared.names.ChanNo.{ChanNo}
use Rattle.nc_plan.specs.Plans.{full}
use Rattle.nc_memcpy.specs.Copy.{transfer}
use Rattle.nc_memcpy.specs.declared.copy.CopyStep.{CopyStep}
use Rattle.nc_memcpy.specs.declared.copy.CopyStep.TheVariants as copy_ops
use Rattle.nc_rules.specs.declared.lots.Lot.{Lot}
use Rattle.nc_rules.specs.declared.lots.LotId.{LotId}
use Rattle.nc_rules.specs.declared.steps.Step.{Step}
use Rattle.nc_rules.specs.declared.steps.Turn.{Turn}
use Rattle.nc_rules.specs.declared.steps.Turn.TheVariants as turns
use Rattle.nc_rules.specs.Copies as copies
use Rattle.nc_rules.specs.Copies.{source, target, copy_step, claim_step, back_steps, end_part, copy_steps, copy_steps_of}
use Rattle.nc_rules.specs.Lots.{DriverConfig, is_lot, parts}
use Rattle.nc_rules.specs.Operations.{meaning, plan_of}
use Rattle.nc_rules.specs.Plans.{hart_step, op_steps, turning, ending, carried, token_steps, lending_end, lend_steps, return_steps}
use Rattle.nc_scripts.specs.Drivers.{IsEndName}
use Rattle.nc_scripts.proofs.Lists.{found, all_to, all_in}
use Rattle.nc_holds.proofs.tokens.QuietSteps.{IsQuiet, ending_quiet, beginning_quiet, return_quiet, carried_steps_quiet}
use Rattle.nc_flatness.specs.Copying.{CopyOp, copy_op, is_poll, polls}

-- ---- turns of ends

-- there is none, or it is of an end of a copy
abbrev pub OfEnd : Turn → Type 0
OfEnd turns.Stay = Unit {0}
OfEnd (turns.Pass range to) = ⊥
OfEnd (turns.Own range) = ⊥
OfEnd (turns.Lend id) = IsEndName id
OfEnd (turns.Give id) = IsEndName id
OfEnd (turns.Return id) = IsEndName id
OfEnd (turns.Sync id) = IsEndName id
OfEnd (turns.Settle id) = IsEndName id
OfEnd (turns.End id) = IsEndName id

pub record TurnsEnds (s : Step) : Type 0 where
  pub first : OfEnd s.first
  pub last : OfEnd s.last

quiet_turns : (steps : List Step) → All (IsQuiet OfEnd) steps → All TurnsEnds steps
quiet_turns steps all = all_to (IsQuiet OfEnd) TurnsEnds steps all (λ s q. record { first = q.first; last = q.last })

one : (s : Step) → TurnsEnds s → All TurnsEnds (s ∷ [])
one s is = All-cons TurnsEnds s [] is (All-nil TurnsEnds)

end_by : (lot : Lot) (light : Bool) → IsEndName lot.id → All TurnsEnds (if light then token_steps lot else turning (turns.Give lot.id) (hart_step full) ∷ [])
end_by lot true end = All-cons TurnsEnds _ (_ ∷ []) (record { first = tt; last = tt }) (one _ (record { first = tt; last = tt }))
end_by lot false end = one (turning (turns.Give lot.id) (hart_step full)) (record { first = tt; last = end })

lend_turns : (f : DriverConfig) (lot : Lot) → IsEndName lot.id → All TurnsEnds (lend_steps f lot)
lend_turns f lot end =
    All-append TurnsEnds (op_steps (carried f.effects f.size (parts f lot))) (lending_end f lot) (quiet_turns (op_steps (carried f.effects f.size (parts f lot))) (carried_steps_quiet OfEnd f lot tt)) (end_by lot f.light end)

back_turns : (f : DriverConfig) (lot : Lot) → IsEndName lot.id → All TurnsEnds (back_steps f lot)
back_turns f lot end =
    quiet_turns (back_steps f lot)
    (beginning_quiet OfEnd (turns.Return lot.id) (ending (turns.End lot.id) (return_steps f lot)) end (ending_quiet OfEnd (turns.End lot.id) (return_steps f lot) end (return_quiet OfEnd f lot tt)))

copied_turns : (chan : ChanNo) (c : CopyStep) → TurnsEnds (copy_step chan c)
copied_turns chan (copy_ops.Op op) = record { first = tt; last = tt }
copied_turns chan copy_ops.Poll = record { first = tt; last = tt }

transfer_turns : (chan : ChanNo) (cs : List CopyStep) → All TurnsEnds (map (copy_step chan) cs)
transfer_turns chan [] = All-nil TurnsEnds
transfer_turns chan (c ∷ cs) = All-cons TurnsEnds (copy_step chan c) (map (copy_step chan) cs) (copied_turns chan c) (transfer_turns chan cs)

abbrev set_steps : DriverConfig → ChanNo → ℕ → Lot → Lot → List Step
set_steps f chan cfg src dst = map (copy_step chan) (transfer chan (end_part f src) (end_part f dst) cfg)

steps_turns : (f : DriverConfig) (chan : ChanNo) (cfg : ℕ) (src dst : Lot) → IsEndName src.id → IsEndName dst.id → All TurnsEnds (copy_steps f chan cfg src dst)
steps_turns f chan cfg src dst from to =
    let set = set_steps f chan cfg src dst in
    let lends = All-append TurnsEnds (lend_steps f src) (lend_steps f dst) (lend_turns f src from) (lend_turns f dst to) in
    let run = All-append TurnsEnds (lend_steps f src ++ lend_steps f dst) set lends (transfer_turns chan (transfer chan (end_part f src) (end_part f dst) cfg)) in
    let one_back = All-append TurnsEnds ((lend_steps f src ++ lend_steps f dst) ++ set) (back_steps f dst) run (back_turns f dst to) in
    let all = All-append TurnsEnds (((lend_steps f src ++ lend_steps f dst) ++ set) ++ back_steps f dst) (back_steps f src) one_back (back_turns f src from) in
    All-cons TurnsEnds (claim_step chan) ((((lend_steps f src ++ lend_steps f dst) ++ set) ++ back_steps f dst) ++ back_steps f src) (record { first = refl; last = refl }) all

-- ---- the poll

or_left : (t a b : Bool) → (a ≡ true → b ≡ true) → (t || a) ≡ true → (t || b) ≡ true
or_left true a b on is = refl
or_left false a b on is = on is

or_more : (t b : Bool) → b ≡ true → (t || b) ≡ true
or_more true b is = refl
or_more false b is = is

polls_left : (xs ys : List Step) → polls xs ≡ true → polls (xs ++ ys) ≡ true
polls_left [] ys is = absurd (false≢true is)
polls_left (x ∷ xs) ys is = or_left (is_poll x.act) (polls xs) (polls (xs ++ ys)) (polls_left xs ys) is

polls_right : (xs ys : List Step) → polls ys ≡ true → polls (xs ++ ys) ≡ true
polls_right [] ys is = is
polls_right (x ∷ xs) ys is = or_more (is_poll x.act) (polls (xs ++ ys)) (polls_right xs ys is)

steps_poll : (f : DriverConfig) (chan : ChanNo) (cfg : ℕ) (src dst : Lot) → polls (copy_steps f chan cfg src dst) ≡ true
steps_poll f chan cfg src dst =
    let set = set_steps f chan cfg src dst in
    let run : polls ((lend_steps f src ++ lend_steps f dst) ++ set) ≡ true = polls_right (lend_steps f src ++ lend_steps f dst) set refl in
    polls_left (((lend_steps f src ++ lend_steps f dst) ++ set) ++ back_steps f dst) (back_steps f src) (polls_left ((lend_steps f src ++ lend_steps f dst) ++ set) (back_steps f dst) run)

-- ---- the whole

-- what the steps of a copy's plan are, where it has some
pub record IsCopyPlan (steps : List Step) : Type 0 where
  pub turns : All TurnsEnds steps
  pub polls : polls steps ≡ true

named_end : (id : LotId) (lots : List Lot) (lot : Lot) → IsEndName id → find (is_lot id) lots ≡ Some lot → IsEndName lot.id
named_end id lots lot end e =
    let k = found (λ (l : Lot). Unit {0}) (is_lot id) lots lot (all_in (λ (l : Lot). Unit {0}) lots (λ l here. tt)) e in
    eqb-true lot.id.label.0 id.label.0 (and_parts (lot.id.label.0 == id.label.0) (lot.id.first == id.first) k.passes).0 ∙ end

plan_by : (f : DriverConfig) (lots : List Lot) (k : CopyOp) (s t : Option Lot) (first : Step) (more : List Step) → find (is_lot source) lots ≡ s → find (is_lot target) lots ≡ t → first ∷ more ≡ copy_steps_of f k.chan k.config s t → IsCopyPlan (copy_steps_of f k.chan k.config s t)
plan_by f lots k None t first more from to is = absurd cc
plan_by f lots k (Some src) None first more from to is = absurd cc
plan_by f lots k (Some src) (Some dst) first more from to is =
    record { turns = steps_turns f k.chan k.config src dst (named_end source lots src refl from) (named_end target lots dst refl to); polls = steps_poll f k.chan k.config src dst }

pub copy_plan : (f : DriverConfig) (lots : List Lot) (k : CopyOp) (s : Step) (more : List Step) → s ∷ more ≡ plan_of f lots (copy_op k) → IsCopyPlan (s ∷ more)
unfolding plan_of meaning copies.copy
copy_plan f lots k s more is =
    subst IsCopyPlan (sym is) (plan_by f lots k (find (is_lot source) lots) (find (is_lot target) lots) s more refl refl is)
