-- The steps of plans that queue no message and no token, and the turns that they make.
use Rattle.std.specs.Prelude.{All, None, if◌then◌else◌, ◌&&◌}
use Rattle.std.specs.Result.{result_unwrap_or}
use Rattle.std.proofs.Common.{◌≡◌, ℕ, Bool, true, false, List, [], ◌∷◌, ◌++◌, map, flat_map, refl}
use Rattle.std.proofs.lemmas.List.Elements.{All-nil, All-cons, All-head, All-tail, All-append}
use Rattle.nc_num.specs.Places.{pieces}
use Rattle.nc_num.specs.declared.names.MemType.TheVariants.{Pma}
use Rattle.nc_num.specs.declared.places.Span.{Span}
use Rattle.nc_env.specs.declared.CboOp.{CboOp}
use Rattle.nc_env.specs.declared.CboOp.TheVariants as cbo_ops
use Rattle.nc_plan.specs.Parts.{is_bounced, comes_back}
use Rattle.nc_plan.specs.Plans.{blocks, cbo, cbos, full, moved, copy_piece, copies, lend_op, return_op, copied_in, written_back, dropped, copied_back, returning}
use Rattle.nc_plan.specs.declared.effects.Effects.{Effects}
use Rattle.nc_plan.specs.declared.ops.HartOp.{HartOp}
use Rattle.nc_plan.specs.declared.ops.HartOp.TheVariants as hart
use Rattle.nc_plan.specs.declared.ops.Payload.TheVariants.{Last}
use Rattle.nc_plan.specs.declared.parts.Part.{Part}
use Rattle.nc_coherent.specs.Areas.{allocating}
use Rattle.nc_rules.specs.declared.lots.Lot.{Lot}
use Rattle.nc_rules.specs.declared.steps.Act.{Act}
use Rattle.nc_rules.specs.declared.steps.Act.TheVariants as acts
use Rattle.nc_rules.specs.declared.steps.Step.{Step}
use Rattle.nc_rules.specs.declared.steps.Turn.{Turn}
use Rattle.nc_rules.specs.declared.steps.Turn.TheVariants as turns
use Rattle.nc_rules.specs.Lots.{DriverConfig, parts}
use Rattle.nc_rules.specs.Plans.{hart_step, op_steps, turning, ending, beginning, carried, return_steps}
use Rattle.nc_holds.specs.Messages.{is_mail_op, is_mail_act}
use Rattle.nc_holds.specs.Tokens.{token_op, token_act}

-- no message, and no token
pub record IsQuietOp (op : HartOp) : Type 0 where
  pub mail : (b : ℕ) → is_mail_op b op ≡ false
  pub token : token_op op ≡ None

pub record IsQuietAct (act : Act) : Type 0 where
  pub mail : (b : ℕ) → is_mail_act b act ≡ false
  pub token : token_act act ≡ None

-- a quiet step with turns such as these
pub record IsQuiet (P : Turn → Type 0) (s : Step) : Type 0 where
  pub act : IsQuietAct s.act
  pub first : P s.first
  pub last : P s.last

pub quiet_act : (op : HartOp) → IsQuietOp op → IsQuietAct (acts.Op op)
quiet_act op h = record { mail = h.mail; token = h.token }

-- ---- operations

pub all_cbos : (op : CboOp) (size : ℕ) (span : Span) → All IsQuietOp (cbos op size span)
all_cbos op size span = each (blocks size span)
  where
    each : (bs : List ℕ) → All IsQuietOp (map (cbo op) bs)
    each [] = All-nil IsQuietOp
    each (b ∷ bs) = All-cons IsQuietOp (cbo op b) (map (cbo op) bs) (record { mail = λ b. refl; token = refl }) (each bs)

all_pieces : (from to : ℕ) (ps : List Span) → All IsQuietOp (flat_map (copy_piece from to) ps)
all_pieces from to [] = All-nil IsQuietOp
all_pieces from to (p ∷ ps) =
    All-cons IsQuietOp (hart.Load p Pma) (hart.Store (moved from to p) Pma Last ∷ flat_map (copy_piece from to) ps) (record { mail = λ b. refl; token = refl })
    (All-cons IsQuietOp (hart.Store (moved from to p) Pma Last) (flat_map (copy_piece from to) ps) (record { mail = λ b. refl; token = refl }) (all_pieces from to ps))

if_quiet : (t : Bool) (ops : List HartOp) → All IsQuietOp ops → All IsQuietOp (if t then ops else [])
if_quiet true ops h = h
if_quiet false ops h = All-nil IsQuietOp

one_fence : All IsQuietOp (full ∷ [])
one_fence = All-cons IsQuietOp full [] (record { mail = λ b. refl; token = refl }) (All-nil IsQuietOp)

in_quiet : (p : Part) → All IsQuietOp (copied_in p)
unfolding copied_in
in_quiet p = if_quiet (is_bounced p) (copies p.buffer p.device) (all_pieces p.buffer.at p.device.at (pieces p.buffer))

back_quiet : (p : Part) → All IsQuietOp (copied_back p)
unfolding copied_back
back_quiet p = if_quiet (comes_back p.dir && is_bounced p) (copies p.device p.buffer) (all_pieces p.device.at p.buffer.at (pieces p.device))

written_quiet : (e : Effects) (size : ℕ) (p : Part) → All IsQuietOp (written_back e size p)
unfolding written_back
written_quiet e size p = all_cbos (lend_op e p.dir) size p.device

dropped_quiet : (e : Effects) (size : ℕ) (p : Part) → All IsQuietOp (dropped e size p)
unfolding dropped
dropped_quiet e size p = if_quiet (comes_back p.dir) (cbos (return_op e) size p.device) (all_cbos (return_op e) size p.device)

each_quiet : (g : Part → List HartOp) (ps : List Part) → ((p : Part) → All IsQuietOp (g p)) → All IsQuietOp (flat_map g ps)
each_quiet g [] h = All-nil IsQuietOp
each_quiet g (p ∷ ps) h = All-append IsQuietOp (g p) (flat_map g ps) (h p) (each_quiet g ps h)

pub carried_quiet : (e : Effects) (size : ℕ) (ps : List Part) → All IsQuietOp (carried e size ps)
carried_quiet e size ps =
    All-append IsQuietOp (flat_map copied_in ps) (flat_map (written_back e size) ps) (each_quiet copied_in ps in_quiet) (each_quiet (written_back e size) ps (written_quiet e size))

pub returning_quiet : (e : Effects) (size : ℕ) (ps : List Part) → All IsQuietOp (returning e size ps)
unfolding returning
returning_quiet e size ps =
    All-append IsQuietOp (flat_map (dropped e size) ps ++ full ∷ []) (flat_map copied_back ps)
    (All-append IsQuietOp (flat_map (dropped e size) ps) (full ∷ []) (each_quiet (dropped e size) ps (dropped_quiet e size)) one_fence)
    (each_quiet copied_back ps back_quiet)

pub allocating_quiet : (e : Effects) (size : ℕ) (span : Span) → All IsQuietOp (allocating e size span)
unfolding allocating
allocating_quiet e size span =
    All-append IsQuietOp (cbos (result_unwrap_or e.zero cbo_ops.Zero) size span ++ cbos (result_unwrap_or e.flush cbo_ops.Flush) size span) (full ∷ [])
    (All-append IsQuietOp (cbos (result_unwrap_or e.zero cbo_ops.Zero) size span) (cbos (result_unwrap_or e.flush cbo_ops.Flush) size span)
    (all_cbos (result_unwrap_or e.zero cbo_ops.Zero) size span) (all_cbos (result_unwrap_or e.flush cbo_ops.Flush) size span))
    one_fence

-- ---- steps

pub op_quiet : (P : Turn → Type 0) (op : HartOp) → P turns.Stay → IsQuietOp op → IsQuiet P (hart_step op)
op_quiet P op stay h = record { act = quiet_act op h; first = stay; last = stay }

pub ops_quiet : (P : Turn → Type 0) (ops : List HartOp) → P turns.Stay → All IsQuietOp ops → All (IsQuiet P) (op_steps ops)
ops_quiet P [] stay all = All-nil (IsQuiet P)
ops_quiet P (op ∷ ops) stay all =
    All-cons (IsQuiet P) (hart_step op) (op_steps ops) (op_quiet P op stay (All-head IsQuietOp op ops all)) (ops_quiet P ops stay (All-tail IsQuietOp op ops all))

pub turning_quiet : (P : Turn → Type 0) (t : Turn) (s : Step) → P t → IsQuiet P s → IsQuiet P (turning t s)
turning_quiet P t s th h = record { act = h.act; first = h.first; last = th }

pub ending_quiet : (P : Turn → Type 0) (t : Turn) (steps : List Step) → P t → All (IsQuiet P) steps → All (IsQuiet P) (ending t steps)
ending_quiet P t [] th all = all
ending_quiet P t (s ∷ []) th all = All-cons (IsQuiet P) (turning t s) [] (turning_quiet P t s th (All-head (IsQuiet P) s [] all)) (All-nil (IsQuiet P))
ending_quiet P t (s ∷ u ∷ rest) th all =
    All-cons (IsQuiet P) s (ending t (u ∷ rest)) (All-head (IsQuiet P) s (u ∷ rest) all) (ending_quiet P t (u ∷ rest) th (All-tail (IsQuiet P) s (u ∷ rest) all))

pub beginning_quiet : (P : Turn → Type 0) (t : Turn) (steps : List Step) → P t → All (IsQuiet P) steps → All (IsQuiet P) (beginning t steps)
beginning_quiet P t [] th all = all
beginning_quiet P t (s ∷ rest) th all =
    let h = All-head (IsQuiet P) s rest all in
    All-cons (IsQuiet P) (record s { first = t }) rest (record { act = h.act; first = th; last = h.last }) (All-tail (IsQuiet P) s rest all)

pub return_quiet : (P : Turn → Type 0) (f : DriverConfig) (lot : Lot) → P turns.Stay → All (IsQuiet P) (return_steps f lot)
return_quiet P f lot stay = ops_quiet P (returning f.effects f.size (parts f lot)) stay (returning_quiet f.effects f.size (parts f lot))

pub carried_steps_quiet : (P : Turn → Type 0) (f : DriverConfig) (lot : Lot) → P turns.Stay → All (IsQuiet P) (op_steps (carried f.effects f.size (parts f lot)))
carried_steps_quiet P f lot stay = ops_quiet P (carried f.effects f.size (parts f lot)) stay (carried_quiet f.effects f.size (parts f lot))
