-- The steps of plans are there, fit the loads before them, and claim no channel.
use Rattle.std.proofs.Common.{◌≡◌, ℕ, ◌+◌, ◌-◌, ◌%◌, ◌<◌, ◌≤◌, Bool, true, false, List, [], ◌∷◌, ◌++◌, length, map, flat_map, refl, sym, ◌∙◌, subst, arith, inl, inr}
use Rattle.std.specs.Prelude.{All, ◌&&◌, if◌then◌else◌}
use Rattle.std.proofs.lemmas.Bool.{false≢true}
use Rattle.std.proofs.lemmas.List.{length-append, length-map, map-append}
use Rattle.std.proofs.lemmas.List.Elements.{All-nil, All-cons, All-head, All-tail, All-append, All-map}
use Rattle.nc_num.specs.Places.{pieces, Tiles}
use Rattle.nc_num.specs.declared.places.Span.{Span}
use Rattle.nc_num.specs.declared.names.MemType.TheVariants.{Pma}
use Rattle.nc_num.proofs.Blocks.{whole_block, page_whole}
use Rattle.nc_num.proofs.Tiling.{tiles}
use Rattle.nc_env.specs.declared.CboOp.{CboOp}
use Rattle.nc_env.specs.declared.CboOp.TheVariants as cbo_ops
use Rattle.std.specs.Result.{result_unwrap_or}
use Rattle.nc_plan.specs.Parts.{is_bounced, comes_back}
use Rattle.nc_plan.specs.Plans.{In, blocks, cbo, cbos, full, moved, copy_piece, copies, lend_op, return_op, copied_in, written_back, dropped, copied_back, returning}
use Rattle.nc_plan.specs.declared.ops.HartOp.{HartOp}
use Rattle.nc_plan.specs.declared.ops.HartOp.TheVariants as hart
use Rattle.nc_plan.specs.declared.ops.IoTarget.TheVariants as io
use Rattle.nc_plan.specs.declared.ops.Payload.TheVariants.{Last}
use Rattle.nc_plan.specs.declared.parts.Part.{Part}
use Rattle.nc_plan.proofs.PlanLaws.{pieces_move, blocks_are_met}
use Rattle.nc_coherent.specs.Areas.{allocating}
use Rattle.nc_sg.specs.Lists.{waits, part_of}
use Rattle.nc_rules.specs.declared.lots.Lot.{Lot}
use Rattle.nc_rules.specs.declared.steps.Step.{Step}
use Rattle.nc_rules.specs.declared.steps.Turn.{Turn}
use Rattle.nc_rules.specs.declared.steps.Turn.TheVariants as turns
use Rattle.nc_rules.specs.Lots.{DriverConfig, parts}
use Rattle.nc_rules.specs.Plans.{hart_step, op_steps, turning, ending, beginning, carried, token_steps, lending_end, lend_steps, return_steps}
use Rattle.nc_rules.specs.Sound.{IsBlockIn, IsPieceIn}
use Rattle.nc_scripts.specs.Scripts.{IsRangeIn}
use Rattle.nc_scripts.specs.Drivers.{IsFixed, IsEntryIn, IsLotIn, FitsLast, LoadsFit, loaded_by, HartOpIsThere, TurnIsThere, StepIsThere, ClaimsNothing, ClaimsFirst, is_claim, turns_of}
use Rattle.nc_scripts.proofs.Lists.{all_in, all_both}
use Rattle.nc_scripts.proofs.LotLaws.{IsPlaced}
use Rattle.nc_scripts.proofs.LotMoves.{IsPartIn, entry_part, placed_entries}

-- ---- plans

-- steps that fit whatever was loaded before them
pub record IsPlan (ram harts : ℕ) (f : DriverConfig) (steps : List Step) : Type 0 where
  pub there : All (StepIsThere ram harts f) steps
  pub fits : (n : ℕ) → LoadsFit n steps
  pub free : ClaimsNothing steps

abbrev IsFree : Step → Type 0
IsFree s = is_claim s.act ≡ false

pub no_plan : (ram harts : ℕ) (f : DriverConfig) → IsPlan ram harts f []
no_plan ram harts f = record { there = All-nil (StepIsThere ram harts f); fits = λ n. tt; free = All-nil IsFree }

fits_join : (n : ℕ) (xs ys : List Step) → LoadsFit n xs → ((m : ℕ) → LoadsFit m ys) → LoadsFit n (xs ++ ys)
fits_join n [] ys h k = k n
fits_join n (s ∷ xs) ys h k = (h.0, fits_join (loaded_by s.act n) xs ys h.1 k)

pub plan_join : (ram harts : ℕ) (f : DriverConfig) (xs ys : List Step) → IsPlan ram harts f xs → IsPlan ram harts f ys → IsPlan ram harts f (xs ++ ys)
plan_join ram harts f xs ys h k = record {
  there = All-append (StepIsThere ram harts f) xs ys h.there k.there;
  fits = λ n. fits_join n xs ys (h.fits n) k.fits;
  free = All-append IsFree xs ys h.free k.free;
}

-- an operation with a turn
pub turn_plan : (ram harts : ℕ) (f : DriverConfig) (op : HartOp) (t : Turn) → HartOpIsThere ram harts f op → ((n : ℕ) → FitsLast n op) → TurnIsThere ram t → IsPlan ram harts f (turning t (hart_step op) ∷ [])
turn_plan ram harts f op t h k th = record {
  there = All-cons (StepIsThere ram harts f) (turning t (hart_step op)) [] (record { act = h; first = tt; last = th }) (All-nil (StepIsThere ram harts f));
  fits = λ n. (k n, tt);
  free = All-cons IsFree (turning t (hart_step op)) [] refl (All-nil IsFree);
}

pub op_plan : (ram harts : ℕ) (f : DriverConfig) (op : HartOp) → HartOpIsThere ram harts f op → ((n : ℕ) → FitsLast n op) → IsPlan ram harts f (hart_step op ∷ [])
op_plan ram harts f op h k = turn_plan ram harts f op turns.Stay h k tt

ops_join : (ram harts : ℕ) (f : DriverConfig) (xs ys : List HartOp) → IsPlan ram harts f (op_steps xs) → IsPlan ram harts f (op_steps ys) → IsPlan ram harts f (op_steps (xs ++ ys))
ops_join ram harts f xs ys h k = rw (map-append hart_step xs ys) (plan_join ram harts f (op_steps xs) (op_steps ys) h k)

full_plan : (ram harts : ℕ) (f : DriverConfig) → IsPlan ram harts f (op_steps (full ∷ []))
full_plan ram harts f = op_plan ram harts f full (λ m h d fits. tt) (λ n. tt)

-- ---- blocks

cbo_plan : (ram harts : ℕ) (f : DriverConfig) (op : CboOp) (bs : List ℕ) → All (IsBlockIn f.size ram) bs → IsPlan ram harts f (op_steps (map (cbo op) bs))
cbo_plan ram harts f op [] all = no_plan ram harts f
cbo_plan ram harts f op (b ∷ bs) all =
    plan_join ram harts f (hart_step (cbo op b) ∷ []) (op_steps (map (cbo op) bs))
    (op_plan ram harts f (cbo op b) (λ m h d fits. rw (d.memory, d.block) (All-head (IsBlockIn f.size ram) b bs all)) (λ n. tt))
    (cbo_plan ram harts f op bs (All-tail (IsBlockIn f.size ram) b bs all))

blocks_in : (ram harts : ℕ) (f : DriverConfig) (span : Span) → IsFixed ram harts f → IsRangeIn ram span → All (IsBlockIn f.size ram) (blocks f.size span)
blocks_in ram harts f span h k =
    all_in (IsBlockIn f.size ram) (blocks f.size span) (λ b has.
    let x = (blocks_are_met f.size span h.sized).only b has in
    let lt : x.0 < ram = omega (arith, x.2, k.ends) in
    let inside = whole_block ram x.0 h.sized (page_whole ram h.sized (inl h.ram_whole)) lt in
    subst (λ (b : ℕ). IsBlockIn f.size ram b) x.3 inside)

cbos_plan : (ram harts : ℕ) (f : DriverConfig) (op : CboOp) (span : Span) → IsFixed ram harts f → IsRangeIn ram span → IsPlan ram harts f (op_steps (cbos op f.size span))
cbos_plan ram harts f op span h k = cbo_plan ram harts f op (blocks f.size span) (blocks_in ram harts f span h k)

-- ---- pieces

tiles_in : (ram at len : ℕ) (ps : List Span) → Tiles at len ps → at + len ≤ ram → All (IsPieceIn ram) ps
tiles_in ram at len [] h le = All-nil (IsPieceIn ram)
tiles_in ram at len (p ∷ ps) h le =
    All-cons (IsPieceIn ram) p ps
    (record { len = h.0.size; aligned = rw h.0.starts_here h.0.aligned; inside = omega (arith, h.0.starts_here, h.0.within, le) })
    (tiles_in ram (at + p.len) (len - p.len) ps h.1 (omega (arith, h.0.within, le)))

pieces_in : (ram : ℕ) (span : Span) → IsRangeIn ram span → All (IsPieceIn ram) (pieces span)
pieces_in ram span h = tiles_in ram span.at span.len (pieces span) (tiles span) h.ends

load_plan : (ram harts : ℕ) (f : DriverConfig) (from to : ℕ) (p : Span) → IsPieceIn ram p → IsPieceIn ram (moved from to p) → IsPlan ram harts f (op_steps (copy_piece from to p))
load_plan ram harts f from to p h k = record {
  there =
      All-cons (StepIsThere ram harts f) (hart_step (hart.Load p Pma)) (hart_step (hart.Store (moved from to p) Pma Last) ∷ []) (record { act = λ m me d fits. rw d.memory h; first = tt; last = tt })
      (All-cons (StepIsThere ram harts f) (hart_step (hart.Store (moved from to p) Pma Last)) [] (record { act = λ m me d fits. record { piece = rw d.memory k; whole = fits }; first = tt; last = tt })
      (All-nil (StepIsThere ram harts f)));
  fits = λ n. (tt, (refl, tt));
  free = All-cons IsFree (hart_step (hart.Load p Pma)) (hart_step (hart.Store (moved from to p) Pma Last) ∷ []) refl (All-cons IsFree (hart_step (hart.Store (moved from to p) Pma Last)) [] refl (All-nil IsFree));
}

pieces_plan : (ram harts : ℕ) (f : DriverConfig) (from to : ℕ) (ps : List Span) → All (IsPieceIn ram) ps → All (IsPieceIn ram) (map (moved from to) ps) → IsPlan ram harts f (op_steps (flat_map (copy_piece from to) ps))
pieces_plan ram harts f from to [] all moves = no_plan ram harts f
pieces_plan ram harts f from to (p ∷ ps) all moves =
    plan_join ram harts f (op_steps (copy_piece from to p)) (op_steps (flat_map (copy_piece from to) ps))
    (load_plan ram harts f from to p (All-head (IsPieceIn ram) p ps all) (All-head (IsPieceIn ram) (moved from to p) (map (moved from to) ps) moves))
    (pieces_plan ram harts f from to ps (All-tail (IsPieceIn ram) p ps all) (All-tail (IsPieceIn ram) (moved from to p) (map (moved from to) ps) moves))

copies_plan : (ram harts : ℕ) (f : DriverConfig) (from to : Span) → IsRangeIn ram from → IsRangeIn ram to → from.len ≡ to.len → from.at % 8 ≡ to.at % 8 → IsPlan ram harts f (op_steps (copies from to))
copies_plan ram harts f from to h k e o =
    pieces_plan ram harts f from.at to.at (pieces from) (pieces_in ram from h)
    (subst (λ (ps : List Span). All (IsPieceIn ram) ps) (sym (pieces_move from to e o)) (pieces_in ram to k))

-- ---- the parts of plans

if_plan : (ram harts : ℕ) (f : DriverConfig) (t : Bool) (ops : List HartOp) → IsPlan ram harts f (op_steps ops) → IsPlan ram harts f (op_steps (if t then ops else []))
if_plan ram harts f true ops h = h
if_plan ram harts f false ops h = no_plan ram harts f

in_plan : (ram harts : ℕ) (f : DriverConfig) (p : Part) → IsPartIn ram p → IsPlan ram harts f (op_steps (copied_in p))
unfolding copied_in
in_plan ram harts f p k = if_plan ram harts f (is_bounced p) (copies p.buffer p.device) (copies_plan ram harts f p.buffer p.device k.buffer k.device k.lengths k.offset)

back_plan : (ram harts : ℕ) (f : DriverConfig) (p : Part) → IsPartIn ram p → IsPlan ram harts f (op_steps (copied_back p))
unfolding copied_back
back_plan ram harts f p k = if_plan ram harts f (comes_back p.dir && is_bounced p) (copies p.device p.buffer) (copies_plan ram harts f p.device p.buffer k.device k.buffer (sym k.lengths) (sym k.offset))

written_plan : (ram harts : ℕ) (f : DriverConfig) (p : Part) → IsFixed ram harts f → IsPartIn ram p → IsPlan ram harts f (op_steps (written_back f.effects f.size p))
unfolding written_back
written_plan ram harts f p h k = cbos_plan ram harts f (lend_op f.effects p.dir) p.device h k.device

dropped_plan : (ram harts : ℕ) (f : DriverConfig) (p : Part) → IsFixed ram harts f → IsPartIn ram p → IsPlan ram harts f (op_steps (dropped f.effects f.size p))
unfolding dropped
dropped_plan ram harts f p h k = if_plan ram harts f (comes_back p.dir) (cbos (return_op f.effects) f.size p.device) (cbos_plan ram harts f (return_op f.effects) p.device h k.device)

each_plan : (ram harts : ℕ) (f : DriverConfig) (g : Part → List HartOp) (ps : List Part) → All (IsPartIn ram) ps → ((p : Part) → IsPartIn ram p → IsPlan ram harts f (op_steps (g p))) → IsPlan ram harts f (op_steps (flat_map g ps))
each_plan ram harts f g [] all h = no_plan ram harts f
each_plan ram harts f g (p ∷ ps) all h = ops_join ram harts f (g p) (flat_map g ps) (h p (All-head (IsPartIn ram) p ps all)) (each_plan ram harts f g ps (All-tail (IsPartIn ram) p ps all) h)

-- ---- lots

pub parts_in : (ram harts : ℕ) (f : DriverConfig) (lot : Lot) → IsFixed ram harts f → IsLotIn ram f lot → IsPlaced lot → All (IsPartIn ram) (parts f lot)
parts_in ram harts f lot h k placed =
    All-map (IsPartIn ram) (part_of lot.list.dir f.slots_at) lot.list.entries
    (all_both (IsEntryIn ram f.slots) (λ e. waits e ≡ false) (λ e. IsPartIn ram (part_of lot.list.dir f.slots_at e)) lot.list.entries k.entries (placed_entries lot placed)
    (λ e is off. entry_part ram harts f lot.list.dir e h is off))

carried_plan : (ram harts : ℕ) (f : DriverConfig) (ps : List Part) → IsFixed ram harts f → All (IsPartIn ram) ps → IsPlan ram harts f (op_steps (carried f.effects f.size ps))
carried_plan ram harts f ps h all =
    ops_join ram harts f (flat_map copied_in ps) (flat_map (written_back f.effects f.size) ps)
    (each_plan ram harts f copied_in ps all (in_plan ram harts f))
    (each_plan ram harts f (written_back f.effects f.size) ps all (λ p k. written_plan ram harts f p h k))

token_plan : (ram harts : ℕ) (f : DriverConfig) (lot : Lot) → IsPlan ram harts f (token_steps lot)
token_plan ram harts f lot =
    plan_join ram harts f (hart_step (hart.Mark 1 4) ∷ []) (hart_step (hart.IoStore (io.Lend lot.id.label lot.id.first (length lot.list.entries))) ∷ [])
    (op_plan ram harts f (hart.Mark 1 4) (λ m h d fits. tt) (λ n. tt))
    (op_plan ram harts f (hart.IoStore (io.Lend lot.id.label lot.id.first (length lot.list.entries))) (λ m h d fits. tt) (λ n. tt))

end_by : (ram harts : ℕ) (f : DriverConfig) (lot : Lot) (light : Bool) → IsPlan ram harts f (if light then token_steps lot else turning (turns.Give lot.id) (hart_step full) ∷ [])
end_by ram harts f lot true = token_plan ram harts f lot
end_by ram harts f lot false = turn_plan ram harts f full (turns.Give lot.id) (λ m h d fits. tt) (λ n. tt) tt

pub lending_end_plan : (ram harts : ℕ) (f : DriverConfig) (lot : Lot) → IsPlan ram harts f (lending_end f lot)
lending_end_plan ram harts f lot = end_by ram harts f lot f.light

pub lend_plan : (ram harts : ℕ) (f : DriverConfig) (lot : Lot) → IsFixed ram harts f → IsLotIn ram f lot → IsPlaced lot → IsPlan ram harts f (lend_steps f lot)
lend_plan ram harts f lot h k placed =
    plan_join ram harts f (op_steps (carried f.effects f.size (parts f lot))) (lending_end f lot)
    (carried_plan ram harts f (parts f lot) h (parts_in ram harts f lot h k placed))
    (lending_end_plan ram harts f lot)

pub return_plan : (ram harts : ℕ) (f : DriverConfig) (lot : Lot) → IsFixed ram harts f → IsLotIn ram f lot → IsPlaced lot → IsPlan ram harts f (return_steps f lot)
unfolding returning
return_plan ram harts f lot h k placed =
    let all = parts_in ram harts f lot h k placed in
    ops_join ram harts f (flat_map (dropped f.effects f.size) (parts f lot) ++ full ∷ []) (flat_map copied_back (parts f lot))
    (ops_join ram harts f (flat_map (dropped f.effects f.size) (parts f lot)) (full ∷ []) (each_plan ram harts f (dropped f.effects f.size) (parts f lot) all (λ p is. dropped_plan ram harts f p h is)) (full_plan ram harts f))
    (each_plan ram harts f copied_back (parts f lot) all (back_plan ram harts f))

pub allocating_plan : (ram harts : ℕ) (f : DriverConfig) (span : Span) → IsFixed ram harts f → IsRangeIn ram span → IsPlan ram harts f (op_steps (allocating f.effects f.size span))
unfolding allocating
allocating_plan ram harts f span h k =
    let zero_op = result_unwrap_or f.effects.zero cbo_ops.Zero in
    let flush_op = result_unwrap_or f.effects.flush cbo_ops.Flush in
    ops_join ram harts f (cbos (result_unwrap_or f.effects.zero cbo_ops.Zero) f.size span ++ cbos (result_unwrap_or f.effects.flush cbo_ops.Flush) f.size span) (full ∷ [])
    (ops_join ram harts f (cbos (result_unwrap_or f.effects.zero cbo_ops.Zero) f.size span) (cbos (result_unwrap_or f.effects.flush cbo_ops.Flush) f.size span) (cbos_plan ram harts f zero_op span h k) (cbos_plan ram harts f flush_op span h k))
    (full_plan ram harts f)

-- ---- turns at the ends

ending_there : (ram harts : ℕ) (f : DriverConfig) (t : Turn) (steps : List Step) → TurnIsThere ram t → All (StepIsThere ram harts f) steps → All (StepIsThere ram harts f) (ending t steps)
ending_there ram harts f t [] th all = all
ending_there ram harts f t (s ∷ []) th all =
    let h = All-head (StepIsThere ram harts f) s [] all in
    All-cons (StepIsThere ram harts f) (turning t s) [] (record { act = h.act; first = h.first; last = th }) (All-nil (StepIsThere ram harts f))
ending_there ram harts f t (s ∷ u ∷ rest) th all =
    All-cons (StepIsThere ram harts f) s (ending t (u ∷ rest)) (All-head (StepIsThere ram harts f) s (u ∷ rest) all)
    (ending_there ram harts f t (u ∷ rest) th (All-tail (StepIsThere ram harts f) s (u ∷ rest) all))

ending_fits : (n : ℕ) (t : Turn) (steps : List Step) → LoadsFit n steps → LoadsFit n (ending t steps)
ending_fits n t [] h = h
ending_fits n t (s ∷ []) h = h
ending_fits n t (s ∷ u ∷ rest) h = (h.0, ending_fits (loaded_by s.act n) t (u ∷ rest) h.1)

ending_free : (t : Turn) (steps : List Step) → ClaimsNothing steps → ClaimsNothing (ending t steps)
ending_free t [] all = all
ending_free t (s ∷ []) all = All-cons IsFree (turning t s) [] (All-head IsFree s [] all) (All-nil IsFree)
ending_free t (s ∷ u ∷ rest) all = All-cons IsFree s (ending t (u ∷ rest)) (All-head IsFree s (u ∷ rest) all) (ending_free t (u ∷ rest) (All-tail IsFree s (u ∷ rest) all))

pub ending_plan : (ram harts : ℕ) (f : DriverConfig) (t : Turn) (steps : List Step) → TurnIsThere ram t → IsPlan ram harts f steps → IsPlan ram harts f (ending t steps)
ending_plan ram harts f t steps th h = record {
  there = ending_there ram harts f t steps th h.there;
  fits = λ n. ending_fits n t steps (h.fits n);
  free = ending_free t steps h.free;
}

beginning_there : (ram harts : ℕ) (f : DriverConfig) (t : Turn) (steps : List Step) → TurnIsThere ram t → All (StepIsThere ram harts f) steps → All (StepIsThere ram harts f) (beginning t steps)
beginning_there ram harts f t [] th all = all
beginning_there ram harts f t (s ∷ rest) th all =
    let h = All-head (StepIsThere ram harts f) s rest all in
    All-cons (StepIsThere ram harts f) (record s { first = t }) rest (record { act = h.act; first = th; last = h.last }) (All-tail (StepIsThere ram harts f) s rest all)

beginning_fits : (n : ℕ) (t : Turn) (steps : List Step) → LoadsFit n steps → LoadsFit n (beginning t steps)
beginning_fits n t [] h = h
beginning_fits n t (s ∷ rest) h = h

beginning_free : (t : Turn) (steps : List Step) → ClaimsNothing steps → ClaimsNothing (beginning t steps)
beginning_free t [] all = all
beginning_free t (s ∷ rest) all = All-cons IsFree (record s { first = t }) rest (All-head IsFree s rest all) (All-tail IsFree s rest all)

pub beginning_plan : (ram harts : ℕ) (f : DriverConfig) (t : Turn) (steps : List Step) → TurnIsThere ram t → IsPlan ram harts f steps → IsPlan ram harts f (beginning t steps)
beginning_plan ram harts f t steps th h = record {
  there = beginning_there ram harts f t steps th h.there;
  fits = λ n. beginning_fits n t steps (h.fits n);
  free = beginning_free t steps h.free;
}

-- ---- the turn at the end is one of the plan's

abbrev last_turns : List Step → List Turn
last_turns steps = map (λ s. s.last) steps

in_turns : (t : Turn) (steps : List Step) → In t (last_turns steps) → In t (turns_of steps)
in_turns t [] h = elim h [ ]
in_turns t (s ∷ rest) (inl e) = inr (inl e)
in_turns t (s ∷ rest) (inr h) = inr (inr (in_turns t rest h))

ending_last : (t : Turn) (steps : List Step) → 0 < length steps → In t (last_turns (ending t steps))
ending_last t [] lt = absurd (omega arith)
ending_last t (s ∷ []) lt = inl refl
ending_last t (s ∷ u ∷ rest) lt = inr (ending_last t (u ∷ rest) (omega arith))

beginning_last : (t u : Turn) (steps : List Step) → In u (last_turns steps) → In u (last_turns (beginning t steps))
beginning_last t u [] h = h
beginning_last t u (s ∷ rest) h = h

some_returning : (f : DriverConfig) (lot : Lot) → 0 < length (return_steps f lot)
unfolding returning
some_returning f lot =
    let ps = parts f lot in
    let before = flat_map (dropped f.effects f.size) ps ++ full ∷ [] in
    omega (arith, length-map (before ++ flat_map copied_back ps) hart_step, length-append before (flat_map copied_back ps), length-append (flat_map (dropped f.effects f.size) ps) (full ∷ []))

-- of a lot's way back, with a turn at each end
pub back_turn : (t u : Turn) (f : DriverConfig) (lot : Lot) → In u (turns_of (beginning t (ending u (return_steps f lot))))
back_turn t u f lot =
    in_turns u (beginning t (ending u (return_steps f lot)))
    (beginning_last t u (ending u (return_steps f lot)) (ending_last u (return_steps f lot) (some_returning f lot)))

pub in_turns_left : (t : Turn) (xs ys : List Step) → In t (turns_of xs) → In t (turns_of (xs ++ ys))
in_turns_left t [] ys h = elim h [ ]
in_turns_left t (s ∷ xs) ys (inl e) = inl e
in_turns_left t (s ∷ xs) ys (inr (inl e)) = inr (inl e)
in_turns_left t (s ∷ xs) ys (inr (inr h)) = inr (inr (in_turns_left t xs ys h))

pub in_turns_right : (t : Turn) (xs ys : List Step) → In t (turns_of ys) → In t (turns_of (xs ++ ys))
in_turns_right t [] ys h = h
in_turns_right t (s ∷ xs) ys h = inr (inr (in_turns_right t xs ys h))

-- ---- a plan claims nothing

pub claims_none : (ram harts : ℕ) (f : DriverConfig) (lots : List Lot) (steps : List Step) → IsPlan ram harts f steps → ClaimsFirst lots steps
claims_none ram harts f lots [] h = tt
claims_none ram harts f lots (s ∷ rest) h = (λ e. absurd (false≢true (sym (All-head IsFree s rest h.free) ∙ e)), All-tail IsFree s rest h.free)
