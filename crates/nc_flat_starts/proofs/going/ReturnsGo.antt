-- The plan with which a lot is taken back goes through: what each of its steps is for, at its start.
use Rattle.std.specs.Prelude.{Some, ◌||◌, Bool, true, false, All, flat_map, slice_get}
use Rattle.std.specs.List.{list_any}
use Rattle.std.proofs.Common.{◌≡◌, ℕ, ◌<◌, List, [], ◌∷◌, ◌++◌, refl, sym, ap, ◌∙◌, inl, inr, subst, arith}
use Rattle.std.proofs.lemmas.Bool.{both_ways, or_left, or_right, or_from, false_from_ne_true, cond-false}
use Rattle.std.proofs.lemmas.List.{append-nil}
use Rattle.std.proofs.lemmas.List.Elements.{All-nil, All-cons, All-head, All-tail}
use Rattle.std.proofs.lemmas.List.Folds.{list_any-append}
use Rattle.std.proofs.lemmas.Grind.{flat_map-append}
use Rattle.nc_num.specs.Places.{covers}
use Rattle.nc_num.specs.declared.names.MapId.{MapId}
use Rattle.nc_num.specs.declared.names.MemType.TheVariants.{Pma}
use Rattle.nc_num.specs.declared.places.Span.{Span}
use Rattle.nc_queue.specs.declared.entry.Entry.{Entry as QueueEntry}
use Rattle.nc_queue.specs.declared.entry.Entry.TheVariants as entries
use Rattle.nc_lines.specs.Lines.{gives_at}
use Rattle.nc_model.proofs.Faults.{covers-from}
use Rattle.nc_plan.specs.Parts.{comes_back}
use Rattle.nc_plan.specs.Plans.{In, full, copied_back, dropped, returning}
use Rattle.nc_plan.specs.declared.ops.HartOp.{HartOp}
use Rattle.nc_plan.specs.declared.ops.HartOp.TheVariants as hart
use Rattle.nc_plan.specs.declared.ops.Payload.TheVariants.{Last}
use Rattle.nc_sg.specs.declared.list.Entry.{Entry}
use Rattle.nc_rules.specs.declared.lots.Lot.{Lot}
use Rattle.nc_rules.specs.declared.lots.LotId.{LotId}
use Rattle.nc_rules.specs.declared.lots.Side.TheVariants as sides
use Rattle.nc_rules.specs.declared.steps.Step.{Step}
use Rattle.nc_rules.specs.declared.steps.Turn.{Turn}
use Rattle.nc_rules.specs.declared.steps.Turn.TheVariants as turns
use Rattle.nc_rules.specs.Lots.{DriverConfig, parts}
use Rattle.nc_rules.specs.Plans.{hart_step, op_steps, turning, ending, return_steps}
use Rattle.nc_rules.specs.Turns.{lots_after}
use Rattle.nc_scripts.proofs.Lists.{all_in, all_to}
use Rattle.nc_holds.specs.Held.{SharesNone}
use Rattle.nc_holds.proofs.lists.Members.{get_at}
use Rattle.nc_rows.specs.Ahead.{same_lot, turns_lot, gives_lot, ends, is_full, op_coming, token, coming}
use Rattle.nc_rows.proofs.Steps.{next, last, steps_ahead}
use Rattle.nc_row_plans.specs.Plans.{DropsBlocks}
use Rattle.nc_flatness.specs.Tokens.{ends_lending}
use Rattle.nc_flatness.specs.Plans.{IsStill, IsInHand, HasFull, LoadsFirst, IsBack, Loads, Stores, Fences, Ends, PlanGoes, device_of}
use Rattle.nc_flat_starts.proofs.going.Pieces.{Move, stored, moves_of, IsMove, MovesApart, moves_are, moves_apart, move_at, pairs_apart}
use Rattle.nc_flat_starts.proofs.going.PlanComes.{ops_of, unlent_ops, only_ops, ends_behind, silent_ops, full_behind, copies_are, copies_give, ending_last, steps_append, append_steps}
use Rattle.nc_flat_starts.proofs.turning.Sides.{Others, IsSingly, back_still}
use Rattle.nc_flat_starts.proofs.going.PlanOps.{out_cut, IsPlanned, out_even, IsPlan, same_id, outs_of, outs_are, IsDropping, dropped_are, dropping_are_plain, drops_first}
use Rattle.nc_flat_starts.proofs.going.NoBytes.{IsOfBytes, all_coming, ops_none, copies_none, droppings_none}
use Rattle.nc_flat_starts.proofs.going.PlanEnds.{only_turn}
use Rattle.nc_flat_starts.proofs.going.PlansGo.{drops_go, copies_first, copies_byte, copies_go, some_gives}

-- ---- a lot is taken back

pub back_turns : (id : LotId) (turn : Turn) → IsBack id turn → (turns_lot id turn ≡ true) × (gives_lot id turn ≡ false)
back_turns id turn (inl is) = (ap (turns_lot id) is ∙ same_id id, ap (gives_lot id) is)
back_turns id turn (inr is) = (ap (turns_lot id) is ∙ same_id id, ap (gives_lot id) is)

-- it is a turn of no other
back_same : (id : LotId) (turn : Turn) → IsBack id turn → (b : LotId) → turns_lot b turn ≡ same_lot b id
back_same id turn (inl is) b = ap (turns_lot b) is
back_same id turn (inr is) b = ap (turns_lot b) is

-- the step that makes the turn
turn_ends : (id : LotId) (turn : Turn) (o : HartOp) (rest : List Step) → IsBack id turn → ends id (turning turn (hart_step o)) ≡ true
turn_ends id turn o rest back = or_left (turns_lot id turn) _ (back_turns id turn back).0

turn_comes : (n : MapId) (id : LotId) (turn : Turn) (o : HartOp) (more : List Step) → IsBack id turn → coming n id (turning turn (hart_step o) ∷ more) ≡ op_coming o ++ []
turn_comes n id turn o more back =
    last n id (turning turn (hart_step o)) more (turn_ends id turn o more back) ∙ ap (λ (es : List QueueEntry). op_coming o ++ es) (cond-false (gives_lot id turn) (token n ∷ []) [] (back_turns id turn back).1)

-- ---- what is left behind it

-- it goes from the lots behind the turn on, and does not end the lot again
pub record IsBehind (f : DriverConfig) (id : LotId) (lots : List Lot) (more : List Step) : Type 0 where
  pub goes : PlanGoes f lots more
  pub first : LoadsFirst more
  pub unended : list_any (ends id) more ≡ false

-- nothing, where all lots are still then
still_behind : (f : DriverConfig) (id : LotId) (lots : List Lot) → All (IsStill f) lots → IsBehind f id lots []
still_behind f id lots still = record { goes = still; first = refl; unended = refl }

-- ---- nothing comes out of a slot

none_bounces : (f : DriverConfig) (es : List Entry) → ((i : ℕ) (e : Entry) → slice_get es i ≡ Some e → 0 < e.span.len) → moves_of (out_cut f) es ≡ [] → All (λ e. e.bounced ≡ false) es
none_bounces f es some none =
    all_in (λ (e : Entry). e.bounced ≡ false) es
    (λ e here.
    let at = get_at es e here in
    false_from_ne_true e.bounced
    (λ bounced.
    let m = move_at (out_cut f) es at.0 e e.span.at (out_even f) at.1 bounced (covers-from e.span e.span.at (omega arith) (omega (arith, some at.0 e at.1))) in
    subst (λ (ms : List Move). In m.0 ms) none m.1))

straight_so : (f : DriverConfig) (lot : Lot) (t : Bool) → comes_back lot.list.dir ≡ t → IsPlanned f lot → outs_of f t lot.list.entries ≡ [] → comes_back lot.list.dir ≡ true → All (λ e. e.bounced ≡ false) lot.list.entries
straight_so f lot true back is none comes = none_bounces f lot.list.entries is.some none
straight_so f lot false back is none comes = absurd (both_ways (comes_back lot.list.dir) back comes)

direct_end : (f : DriverConfig) (lots : List Lot) (lot : Lot) (turn : Turn) (more : List Step) → IsInHand f lots lot false sides.Returning → IsBack lot.id turn → (comes_back lot.list.dir ≡ true → All (λ e. e.bounced ≡ false) lot.list.entries) → IsBehind f lot.id (lots_after turn lots) more
    → PlanGoes f lots (turning turn (hart_step full) ∷ more)
direct_end f lots lot turn more hand back straight behind = (Ends (record { lot = lot; hand = hand; turn = turn; is_back = back; step = refl; next = behind.first; straight = straight }), behind.goes)

-- ---- the last copy

abbrev pub last_copy : (Entry → Span × Span) → Turn → Move → List Step
last_copy cut turn m = hart_step (hart.Load m.piece Pma) ∷ turning turn (hart_step (hart.Store (stored cut m) Pma Last)) ∷ []

last_ends : (cut : Entry → Span × Span) (id : LotId) (turn : Turn) (m : Move) (more : List Step) → IsBack id turn → list_any (ends id) (last_copy cut turn m ++ more) ≡ true
last_ends cut id turn m more back =
    or_right (ends id (hart_step (hart.Load m.piece Pma))) _
    (or_left (ends id (turning turn (hart_step (hart.Store (stored cut m) Pma Last)))) (list_any (ends id) more) (turn_ends id turn (hart.Store (stored cut m) Pma Last) more back))

last_comes : (cut : Entry → Span × Span) (n : MapId) (id : LotId) (turn : Turn) (m : Move) (more : List Step) → IsBack id turn → coming n id (last_copy cut turn m ++ more) ≡ entries.Store (stored cut m) [] Pma ∷ []
last_comes cut n id turn m more back =
    next n id (hart_step (hart.Load m.piece Pma)) (turning turn (hart_step (hart.Store (stored cut m) Pma Last)) ∷ more) refl
    (or_left (ends id (turning turn (hart_step (hart.Store (stored cut m) Pma Last)))) (list_any (ends id) more) (turn_ends id turn (hart.Store (stored cut m) Pma Last) more back))
    ∙ turn_comes n id turn (hart.Store (stored cut m) Pma Last) more back

last_goes : (f : DriverConfig) (lots : List Lot) (lot : Lot) (turn : Turn) (m : Move) (more : List Step) → IsInHand f lots lot false sides.Returning → comes_back lot.list.dir ≡ true → IsBack lot.id turn → IsBehind f lot.id (lots_after turn lots) more → IsMove (out_cut f) lot.list.entries m
    → PlanGoes f lots (last_copy (out_cut f) turn m ++ more)
last_goes f lots lot turn m more hand comes back behind is =
    let from = device_of f m.entry in
    let to = m.entry.span in
    let none : (n : MapId) → coming n lot.id more ≡ [] = λ n. steps_ahead.none n lot.id more behind.unended in (
      Loads (record {
        from = from;
        to = to;
        copied = record {
          lot = lot;
          i = is.i;
          entry = m.entry;
          here = record { lot_in = hand.here; entry = is.entry };
          bounced = is.bounced;
          way = inr (record { hand = hand; back = comes; fenced = λ n. ap (list_any is_full) (turn_comes n lot.id turn (hart.Store (stored (out_cut f) m) Pma Last) more back); from_is = refl; to_is = refl });
        };
        span = m.piece;
        step = refl;
        within = is.within;
        next = refl;
      }),
      (
        Stores (record {
          from = from;
          to = to;
          copied = record {
            lot = lot;
            i = is.i;
            entry = m.entry;
            here = record { lot_in = hand.here; entry = is.entry };
            bounced = is.bounced;
            way = inr (record { hand = hand; back = comes; fenced = λ n. ap (list_any is_full) (none n); from_is = refl; to_is = refl });
          };
          span = m.piece;
          act = refl;
          first = refl;
          within = is.within;
          once = λ x on n. ap (list_any (gives_at f.size x)) (none n);
          next = behind.first;
          last = inr (back, hand.side_is);
        }),
        behind.goes,
      ),
    )

-- ---- behind the full fence

data IsSplit (ms : List Move) : Type 0 where
  NoMove : ms ≡ [] → IsSplit ms
  Before : (init : List Move) (m : Move) → ms ≡ init ++ m ∷ [] → IsSplit ms

split : (ms : List Move) → IsSplit ms
split [] = NoMove refl
split (m ∷ ms) = more (split ms)
  where
    more : IsSplit ms → IsSplit (m ∷ ms)
    more (NoMove none) = Before [] m (ap (λ (ks : List Move). m ∷ ks) none)
    more (Before init k is) = Before (m ∷ init) k (ap (λ (ks : List Move). m ∷ ks) is)

all_init : (P : Move → Type 0) (init : List Move) (m : Move) → All P (init ++ m ∷ []) → All P init × P m
all_init P [] m all = (All-nil P, All-head P m [] all)
all_init P (k ∷ init) m all = let r = all_init P init m (All-tail P k (init ++ m ∷ []) all) in (All-cons P k init (All-head P k (init ++ m ∷ []) all) r.0, r.1)

-- the last gives nothing that those before give
init_apart : (cut : Entry → Span × Span) (init : List Move) (m : Move) → MovesApart cut (init ++ m ∷ []) → MovesApart cut init × ((k : Move) → In k init → SharesNone (stored cut k) (stored cut m))
init_apart cut [] m apart = (tt, λ k here. absurd here)
init_apart cut (k ∷ init) m apart =
    let r = init_apart cut init m apart.1 in
    let a = all_init (λ (j : Move). SharesNone (stored cut k) (stored cut j)) init m apart.0 in
    ((a.0, r.0), λ j here. elim here [ inl same ↦ subst (λ (i : Move). SharesNone (stored cut i) (stored cut m)) same a.1 | inr there ↦ r.1 j there ])

outs_steps : (cut : Entry → Span × Span) (turn : Turn) (init : List Move) (m : Move) (before : List HartOp) → ending turn (op_steps (before ++ flat_map (ops_of cut) (init ++ m ∷ []))) ≡ op_steps before ++ (op_steps (flat_map (ops_of cut) init) ++ last_copy cut turn m)
outs_steps cut turn init m before =
    let load = hart.Load m.piece Pma in
    let store = hart.Store (stored cut m) Pma Last in
    let ops = flat_map (ops_of cut) init in
    ap (λ (k : List HartOp). ending turn (op_steps (before ++ k))) (flat_map-append (ops_of cut) init (m ∷ []))
    ∙ ap (λ (k : List HartOp). ending turn (op_steps k)) (shift before ops load store) ∙ ending_last (before ++ (ops ++ load ∷ [])) store turn
    ∙ ap (λ (ss : List Step). ss ++ turning turn (hart_step store) ∷ []) (steps_append before (ops ++ load ∷ []) ∙ ap (λ (ss : List Step). op_steps before ++ ss) (steps_append ops (load ∷ [])))
    ∙ append_steps (op_steps before) (op_steps ops ++ hart_step load ∷ []) (turning turn (hart_step store) ∷ [])
    ∙ ap (λ (ss : List Step). op_steps before ++ ss) (append_steps (op_steps ops) (hart_step load ∷ []) (turning turn (hart_step store) ∷ []))
  where
    inner : (b : List HartOp) (load store : HartOp) → b ++ load ∷ store ∷ [] ≡ (b ++ load ∷ []) ++ store ∷ []
    inner [] load store = refl
    inner (o ∷ b) load store = ap (λ (k : List HartOp). o ∷ k) (inner b load store)

    shift : (a b : List HartOp) (load store : HartOp) → a ++ (b ++ load ∷ store ∷ []) ≡ (a ++ (b ++ load ∷ [])) ++ store ∷ []
    shift [] b load store = inner b load store
    shift (o ∷ a) b load store = ap (λ (k : List HartOp). o ∷ k) (shift a b load store)

-- what comes out, behind a fence that makes no turn
outs_go : (f : DriverConfig) (lots : List Lot) (lot : Lot) (turn : Turn) (init : List Move) (m : Move) (more : List Step) → IsInHand f lots lot false sides.Returning → IsPlanned f lot → comes_back lot.list.dir ≡ true → IsBack lot.id turn → moves_of (out_cut f) lot.list.entries ≡ init ++ m ∷ []
    → IsBehind f lot.id (lots_after turn lots) more → PlanGoes f lots (hart_step full ∷ (op_steps (flat_map (ops_of (out_cut f)) init) ++ (last_copy (out_cut f) turn m ++ more)))
outs_go f lots lot turn init m more hand is comes back ms behind =
    let es = lot.list.entries in
    let cut = out_cut f in
    let id = lot.id in
    let end = last_copy cut turn m ++ more in
    let ops = flat_map (ops_of cut) init in
    let rest = op_steps ops ++ end in
    let ended = last_ends cut id turn m more back in
    let all = all_init (IsMove cut es) init m (subst (λ (ks : List Move). All (IsMove cut es) ks) ms (moves_are cut es)) in
    let apart = init_apart cut init m (subst (λ (ks : List Move). MovesApart cut ks) ms (moves_apart cut es (out_even f) (pairs_apart cut es is.buffers))) in
    let unfenced : HasFull id end false = λ n. ap (list_any is_full) (last_comes cut n id turn m more back) in
    let byte : (x : ℕ) (n : MapId) → list_any (gives_at f.size x) (coming n id end) ≡ covers (stored cut m) x =
    λ x n. ap (list_any (gives_at f.size x)) (last_comes cut n id turn m more back) ∙ copies_give f.size x cut (m ∷ []) ∙ or_none (covers (stored cut m) x) in (
      Fences (record {
        lot = lot;
        hand = hand;
        step = refl;
        only = λ n. full_behind n id ops end false (copies_are cut init) ended (unfenced n);
        next = copies_first cut init end refl;
        out = λ i e x here bounced comes_too on n.
            let k = move_at cut es i e x (out_even f) here.entry bounced on in
            copies_byte f id cut init end x n ended ∙ ap (λ (t : Bool). list_any (λ j. covers (stored cut j) x) init || t) (byte x n) ∙ sym (last_one (λ j. covers (stored cut j) x) init m)
            ∙ some_gives cut (init ++ m ∷ []) k.0 x (subst (λ (ks : List Move). In k.0 ks) ms k.1) k.2;
      }),
      copies_go f lots lot cut init end hand.here (λ e before plain. inr (record { hand = hand; back = comes; fenced = λ n. full_behind n id before end false plain ended (unfenced n); from_is = refl; to_is = refl })) all.0 apart.0 ended refl
          (λ k x there on n. byte x n ∙ false_from_ne_true (covers (stored cut m) x) (λ also. apart.1 k there x on also)) (last_goes f lots lot turn m more hand comes back behind all.1),
    )
  where
    or_none : (b : Bool) → (b || false) ≡ b
    or_none true = refl
    or_none false = refl

    last_one : (p : Move → Bool) (ks : List Move) (k : Move) → list_any p (ks ++ k ∷ []) ≡ (list_any p ks || p k)
    last_one p ks k = list_any-append p ks (k ∷ []) ∙ ap (λ (t : Bool). list_any p ks || t) (or_none (p k))

-- ---- the plan

fence_comes : (n : MapId) (id : LotId) (rest : List Step) → list_any (ends id) rest ≡ true → list_any is_full (coming n id (hart_step full ∷ rest)) ≡ true
fence_comes n id rest ended = ap (list_any is_full) (next n id (hart_step full) rest refl ended)

no_out : (f : DriverConfig) (es : List Entry) (t : Bool) (init : List Move) (m : Move) → outs_of f t es ≡ init ++ m ∷ [] → (t ≡ true) × (moves_of (out_cut f) es ≡ init ++ m ∷ [])
no_out f es true init m is = (refl, is)
no_out f es false init m is = absurd (never init m is)
  where
    never : (init : List Move) (m : Move) → ◌≡◌ {A = List Move} [] (init ++ m ∷ []) → ⊥
    never [] m e = absurd cc
    never (k ∷ init) m e = absurd cc

-- the blocks that are dropped
abbrev pub drops_of : DriverConfig → Lot → List HartOp
drops_of f lot = flat_map (dropped f.effects f.size) (parts f lot)

-- the plan: the fence makes the turn, or the last store of what comes out
pub data IsReturn (f : DriverConfig) (lot : Lot) (turn : Turn) : Type 0 where
  Straight : ending turn (return_steps f lot) ≡ op_steps (drops_of f lot) ++ turning turn (hart_step full) ∷ [] → (comes_back lot.list.dir ≡ true → All (λ e. e.bounced ≡ false) lot.list.entries) → IsReturn f lot turn
  CopiedOut : (init : List Move) (m : Move) → comes_back lot.list.dir ≡ true → moves_of (out_cut f) lot.list.entries ≡ init ++ m ∷ []
      → ending turn (return_steps f lot) ≡ op_steps (drops_of f lot) ++ (hart_step full ∷ (op_steps (flat_map (ops_of (out_cut f)) init) ++ last_copy (out_cut f) turn m)) → IsReturn f lot turn

return_by : (f : DriverConfig) (lot : Lot) (turn : Turn) (ms : List Move) → IsPlanned f lot → outs_of f (comes_back lot.list.dir) lot.list.entries ≡ ms → IsSplit ms → flat_map copied_back (parts f lot) ≡ flat_map (ops_of (out_cut f)) ms → IsReturn f lot turn
unfolding returning
return_by f lot turn ms is from (NoMove none) outs =
    let ops = drops_of f lot in
    Straight
    (ap (λ (k : List HartOp). ending turn (op_steps ((ops ++ full ∷ []) ++ k))) (outs ∙ ap (flat_map (ops_of (out_cut f))) none)
    ∙ ap (λ (k : List HartOp). ending turn (op_steps k)) (append-nil (ops ++ full ∷ [])) ∙ ending_last ops full turn)
    (straight_so f lot (comes_back lot.list.dir) refl is (from ∙ none))
return_by f lot turn ms is from (Before init m sp) outs =
    let cut = out_cut f in
    let ops = drops_of f lot in
    let rest = op_steps (flat_map (ops_of cut) init) ++ last_copy cut turn m in
    let comes = no_out f lot.list.entries (comes_back lot.list.dir) init m (from ∙ sp) in
    CopiedOut init m comes.0 comes.1
    (ap (λ (k : List HartOp). ending turn (op_steps ((ops ++ full ∷ []) ++ k))) (outs ∙ ap (flat_map (ops_of cut)) sp)
    ∙ outs_steps cut turn init m (ops ++ full ∷ []) ∙ ap (λ (ss : List Step). ss ++ rest) (steps_append ops (full ∷ [])) ∙ append_steps (op_steps ops) (hart_step full ∷ []) rest)

pub return_is : (f : DriverConfig) (lot : Lot) (turn : Turn) → IsPlanned f lot → IsReturn f lot turn
return_is f lot turn is =
    let ms = outs_of f (comes_back lot.list.dir) lot.list.entries in
    return_by f lot turn ms is refl (split ms) (outs_are f lot.list.dir lot.list.entries (comes_back lot.list.dir) refl is.off)

-- what is behind the drops, with more behind it
pub record ReturnTail (f : DriverConfig) (lots : List Lot) (lot : Lot) (turn : Turn) (more : List Step) : Type 0 where
  pub tail : List Step
  pub is : ending turn (return_steps f lot) ≡ op_steps (drops_of f lot) ++ tail
  pub goes : PlanGoes f lots (tail ++ more)
  pub ended : list_any (ends lot.id) (tail ++ more) ≡ true
  pub fenced : HasFull lot.id (tail ++ more) true
  pub first : LoadsFirst (tail ++ more)

tail_by : (f : DriverConfig) (lots : List Lot) (lot : Lot) (turn : Turn) (more : List Step) → IsInHand f lots lot false sides.Returning → IsPlanned f lot → IsBack lot.id turn → IsBehind f lot.id (lots_after turn lots) more → IsReturn f lot turn → ReturnTail f lots lot turn more
tail_by f lots lot turn more hand is back behind (Straight whole straight) = record {
  tail = turning turn (hart_step full) ∷ [];
  is = whole;
  goes = direct_end f lots lot turn more hand back straight behind;
  ended = or_left (ends lot.id (turning turn (hart_step full))) (list_any (ends lot.id) more) (turn_ends lot.id turn full more back);
  fenced = λ n. ap (list_any is_full) (turn_comes n lot.id turn full more back);
  first = refl;
}
tail_by f lots lot turn more hand is back behind (CopiedOut init m comes ms whole) =
    let cut = out_cut f in
    let ops = flat_map (ops_of cut) init in
    let end = last_copy cut turn m ++ more in
    let shift : (op_steps ops ++ last_copy cut turn m) ++ more ≡ op_steps ops ++ end = append_steps (op_steps ops) (last_copy cut turn m) more in
    let ended = ends_behind lot.id ops end (last_ends cut lot.id turn m more back) in
    record {
      tail = hart_step full ∷ (op_steps ops ++ last_copy cut turn m);
      is = whole;
      goes = subst (λ (ss : List Step). PlanGoes f lots (hart_step full ∷ ss)) (sym shift) (outs_go f lots lot turn init m more hand is comes back ms behind);
      ended = ap (λ (ss : List Step). list_any (ends lot.id) (hart_step full ∷ ss)) shift ∙ or_right (ends lot.id (hart_step full)) (list_any (ends lot.id) (op_steps ops ++ end)) ended;
      fenced = λ n. ap (λ (ss : List Step). list_any is_full (coming n lot.id (hart_step full ∷ ss))) shift ∙ fence_comes n lot.id (op_steps ops ++ end) ended;
      first = refl;
    }

pub tail_so : (f : DriverConfig) (lots : List Lot) (lot : Lot) (turn : Turn) (more : List Step) → IsInHand f lots lot false sides.Returning → IsPlanned f lot → IsBack lot.id turn → IsBehind f lot.id (lots_after turn lots) more → ReturnTail f lots lot turn more
tail_so f lots lot turn more hand is back behind = tail_by f lots lot turn more hand is back behind (return_is f lot turn is)

-- ---- what is known of the plan beside

plan_by : (f : DriverConfig) (lot : Lot) (turn : Turn) → All (IsDropping f lot) (drops_of f lot) → IsBack lot.id turn → IsReturn f lot turn → IsPlan lot.id (ending turn (return_steps f lot))
plan_by f lot turn all back (Straight whole straight) =
    let ops = drops_of f lot in
    let end = turning turn (hart_step full) ∷ [] in
    let ended : list_any (ends lot.id) end ≡ true = or_left (ends lot.id (turning turn (hart_step full))) false (turn_ends lot.id turn full [] back) in
    subst (λ (ss : List Step). IsPlan lot.id ss) (sym whole)
    (record { ended = ends_behind lot.id ops end ended; only = only_ops lot.id ops end (dropping_are_plain f lot ops all) (only_turn lot.id turn full (back_same lot.id turn back) (λ b. refl)); silent = λ b. silent_ops b ops end (dropping_are_plain f lot ops all) refl; first = drops_first f lot ops end all refl })
plan_by f lot turn all back (CopiedOut init m comes ms whole) =
    let cut = out_cut f in
    let ops = drops_of f lot in
    let copied = flat_map (ops_of cut) init in
    let rest = op_steps copied ++ last_copy cut turn m in
    let ended = ends_behind lot.id copied (last_copy cut turn m) (last_ends cut lot.id turn m [] back) in
    let later : list_any (ends lot.id) (hart_step full ∷ rest) ≡ true = or_right (ends lot.id (hart_step full)) (list_any (ends lot.id) rest) ended in
    subst (λ (ss : List Step). IsPlan lot.id ss) (sym whole) (record {
      ended = ends_behind lot.id ops (hart_step full ∷ rest) later;
      only = only_ops lot.id ops (hart_step full ∷ rest) (dropping_are_plain f lot ops all)
          (only_ops lot.id copied (last_copy cut turn m) (copies_are cut init) (only_turn lot.id turn (hart.Store (stored cut m) Pma Last) (back_same lot.id turn back) (λ b. refl)));
      silent = λ b. silent_ops b ops (hart_step full ∷ rest) (dropping_are_plain f lot ops all) (silent_ops b copied (last_copy cut turn m) (copies_are cut init) refl);
      first = drops_first f lot ops (hart_step full ∷ rest) all refl;
    })

pub return_plan : (f : DriverConfig) (lot : Lot) (turn : Turn) → IsPlanned f lot → DropsBlocks f.effects → IsBack lot.id turn → IsPlan lot.id (ending turn (return_steps f lot))
return_plan f lot turn is drops back = plan_by f lot turn (dropped_are f lot is.size drops) back (return_is f lot turn is)

-- ---- what it puts in the queue, and what it lends

-- no byte that passes the test, where what comes out of slots gives none
none_by : (f : DriverConfig) (lot : Lot) (turn : Turn) (more : List Step) (p : QueueEntry → Bool) → All (IsDropping f lot) (drops_of f lot) → IsOfBytes p → (comes_back lot.list.dir ≡ true → (m : Move) → IsMove (out_cut f) lot.list.entries m → p (entries.Store (stored (out_cut f) m) [] Pma) ≡ false)
    → list_any p (all_coming more) ≡ false → IsReturn f lot turn → list_any p (all_coming (ending turn (return_steps f lot) ++ more)) ≡ false
none_by f lot turn more p all of stores none (Straight whole straight) =
    let end = turning turn (hart_step full) ∷ [] in
    ap (λ (ss : List Step). list_any p (all_coming (ss ++ more))) whole ∙ ap (λ (ss : List Step). list_any p (all_coming ss)) (append_steps (op_steps (drops_of f lot)) end more)
    ∙ ops_none p (drops_of f lot) (end ++ more) (droppings_none p f lot (drops_of f lot) of all) (or_from (p (entries.Mark 15 15)) (list_any p (all_coming more)) (of.marks 15 15) none)
none_by f lot turn more p all of stores none (CopiedOut init m comes ms whole) =
    let cut = out_cut f in
    let es = lot.list.entries in
    let end = last_copy cut turn m in
    let copied = flat_map (ops_of cut) init in
    let moves = all_init (IsMove cut es) init m (subst (λ (ks : List Move). All (IsMove cut es) ks) ms (moves_are cut es)) in
    let last_none : list_any p (all_coming (end ++ more)) ≡ false = or_from (p (entries.Store (stored cut m) [] Pma)) (list_any p (all_coming more)) (stores comes m moves.1) none in
    let outs : list_any p (all_coming (op_steps copied ++ (end ++ more))) ≡ false =
    ops_none p copied (end ++ more) (copies_none p cut init (all_to (IsMove cut es) (λ (k : Move). p (entries.Store (stored cut k) [] Pma) ≡ false) init moves.0 (stores comes))) last_none in
    let shift : (hart_step full ∷ (op_steps copied ++ end)) ++ more ≡ hart_step full ∷ (op_steps copied ++ (end ++ more)) = ap (λ (ss : List Step). hart_step full ∷ ss) (append_steps (op_steps copied) end more) in
    ap (λ (ss : List Step). list_any p (all_coming (ss ++ more))) whole
    ∙ ap (λ (ss : List Step). list_any p (all_coming ss)) (append_steps (op_steps (drops_of f lot)) (hart_step full ∷ (op_steps copied ++ end)) more ∙ ap (λ (ss : List Step). op_steps (drops_of f lot) ++ ss) shift)
    ∙ ops_none p (drops_of f lot) (hart_step full ∷ (op_steps copied ++ (end ++ more))) (droppings_none p f lot (drops_of f lot) of all)
    (or_from (p (entries.Mark 15 15)) (list_any p (all_coming (op_steps copied ++ (end ++ more)))) (of.marks 15 15) outs)

pub return_none : (f : DriverConfig) (lot : Lot) (turn : Turn) (more : List Step) (p : QueueEntry → Bool) → IsPlanned f lot → DropsBlocks f.effects → IsOfBytes p → (comes_back lot.list.dir ≡ true → (m : Move) → IsMove (out_cut f) lot.list.entries m → p (entries.Store (stored (out_cut f) m) [] Pma) ≡ false)
    → list_any p (all_coming more) ≡ false → list_any p (all_coming (ending turn (return_steps f lot) ++ more)) ≡ false
return_none f lot turn more p is drops of stores none = none_by f lot turn more p (dropped_are f lot is.size drops) of stores none (return_is f lot turn is)

unlent_by : (f : DriverConfig) (lot : Lot) (more : List Step) (id : LotId) → All (IsDropping f lot) (drops_of f lot) → list_any (ends_lending id) more ≡ false → IsReturn f lot (turns.End lot.id) → list_any (ends_lending id) (ending (turns.End lot.id) (return_steps f lot) ++ more) ≡ false
unlent_by f lot more id all none (Straight whole straight) =
    let end = turning (turns.End lot.id) (hart_step full) ∷ [] in
    ap (λ (ss : List Step). list_any (ends_lending id) (ss ++ more)) whole ∙ ap (list_any (ends_lending id)) (append_steps (op_steps (drops_of f lot)) end more)
    ∙ unlent_ops id (drops_of f lot) (end ++ more) (dropping_are_plain f lot (drops_of f lot) all) none
unlent_by f lot more id all none (CopiedOut init m comes ms whole) =
    let cut = out_cut f in
    let end = last_copy cut (turns.End lot.id) m in
    let copied = flat_map (ops_of cut) init in
    let shift : (hart_step full ∷ (op_steps copied ++ end)) ++ more ≡ hart_step full ∷ (op_steps copied ++ (end ++ more)) = ap (λ (ss : List Step). hart_step full ∷ ss) (append_steps (op_steps copied) end more) in
    ap (λ (ss : List Step). list_any (ends_lending id) (ss ++ more)) whole
    ∙ ap (list_any (ends_lending id)) (append_steps (op_steps (drops_of f lot)) (hart_step full ∷ (op_steps copied ++ end)) more ∙ ap (λ (ss : List Step). op_steps (drops_of f lot) ++ ss) shift)
    ∙ unlent_ops id (drops_of f lot) (hart_step full ∷ (op_steps copied ++ (end ++ more))) (dropping_are_plain f lot (drops_of f lot) all) (unlent_ops id copied (end ++ more) (copies_are cut init) none)

-- it lends nothing
pub return_unlent : (f : DriverConfig) (lot : Lot) (more : List Step) (id : LotId) → IsPlanned f lot → DropsBlocks f.effects → list_any (ends_lending id) more ≡ false → list_any (ends_lending id) (ending (turns.End lot.id) (return_steps f lot) ++ more) ≡ false
return_unlent f lot more id is drops none = unlent_by f lot more id (dropped_are f lot is.size drops) none (return_is f lot (turns.End lot.id) is)

-- ---- the whole

pub record Returns (f : DriverConfig) (lots : List Lot) (lot : Lot) (steps : List Step) : Type 0 where
  pub goes : PlanGoes f lots steps
  pub plan : IsPlan lot.id steps

pub return_so : (f : DriverConfig) (lots : List Lot) (lot : Lot) (turn : Turn) → IsInHand f lots lot false sides.Returning → Others (IsStill f) lot.id lots → IsPlanned f lot → DropsBlocks f.effects → IsBack lot.id turn → IsSingly lot.id turn lots → Returns f lots lot (ending turn (return_steps f lot))
return_so f lots lot turn hand others is drops back single =
    let t = tail_so f lots lot turn [] hand is back (still_behind f lot.id (lots_after turn lots) (back_still f lot.id turn lots back single others)) in
    let whole : op_steps (drops_of f lot) ++ (t.tail ++ []) ≡ ending turn (return_steps f lot) = ap (λ (ss : List Step). op_steps (drops_of f lot) ++ ss) (append-nil t.tail) ∙ sym t.is in
    record {
      goes = subst (λ (ss : List Step). PlanGoes f lots ss) whole (drops_go f lots lot (drops_of f lot) (t.tail ++ []) hand (dropped_are f lot is.size drops) t.ended t.fenced t.first t.goes);
      plan = return_plan f lot turn is drops back;
    }
