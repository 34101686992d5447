-- The plans of areas go through: an area that is allocated is zeroed block by block, then flushed block by block, and then
-- all is fenced; one that is taken back is fenced.
use Rattle.std.specs.Prelude.{Some, ◌==◌, ◌-◌, ◌/◌, Bool, true, false, if◌then◌else◌, All, map, flat_map, slice_get}
use Rattle.std.specs.List.{list_any, find, range_with_len}
use Rattle.std.specs.Result.{result_unwrap_or}
use Rattle.std.proofs.Common.{◌≡◌, ℕ, zero, suc, ◌+◌, ◌<◌, ◌≤◌, List, [], ◌∷◌, ◌++◌, refl, sym, ap, ◌∙◌, inl, inr, subst, arith, append_assoc}
use Rattle.std.proofs.lemmas.Bool.{eq-eqb, eqb-true, or_left, or_right, or_from, false_from_ne_true, cond-false}
use Rattle.std.proofs.lemmas.List.Folds.{list_any-append}
use Rattle.std.proofs.lemmas.List.Elements.{All-nil, All-cons, All-head, All-tail}
use Rattle.nc_num.specs.Sizes.{IsBlockSize}
use Rattle.nc_num.specs.Places.{covers}
use Rattle.nc_num.specs.declared.names.MapId.{MapId}
use Rattle.nc_num.specs.declared.places.Span.{Span}
use Rattle.nc_env.specs.declared.CboOp.{CboOp}
use Rattle.nc_env.specs.declared.CboOp.TheVariants.{Flush, Zero}
use Rattle.nc_model.proofs.Faults.{covers-from, covers-low, covers-high}
use Rattle.nc_queue.specs.Entries.{has_op, is_zero}
use Rattle.nc_queue.specs.Laws.{Stands, Covered}
use Rattle.nc_queue.specs.declared.entry.Entry.{Entry as QueueEntry}
use Rattle.nc_queue.specs.declared.entry.Entry.TheVariants as entries
use Rattle.nc_queue.proofs.FenceLaws.{covered-none}
use Rattle.nc_coherent.specs.Areas.{allocating}
use Rattle.nc_plan.specs.Plans.{In, full, blocks, cbo}
use Rattle.nc_plan.specs.declared.effects.Effects.{Effects}
use Rattle.nc_plan.specs.declared.ops.HartOp.{HartOp}
use Rattle.nc_plan.proofs.PlanLaws.{blocks_are_met}
use Rattle.nc_sg.specs.declared.list.Entry.{Entry}
use Rattle.nc_rules.specs.declared.lots.Lot.{Lot}
use Rattle.nc_rules.specs.declared.lots.LotId.{LotId}
use Rattle.nc_rules.specs.declared.lots.Side.TheVariants as sides
use Rattle.nc_rules.specs.declared.steps.Step.{Step}
use Rattle.nc_rules.specs.declared.steps.Turn.{Turn}
use Rattle.nc_rules.specs.declared.steps.Turn.TheVariants as turns
use Rattle.nc_rules.specs.Areas.{calloc_steps, fenced}
use Rattle.nc_rules.specs.Lots.{DriverConfig, only_entry}
use Rattle.nc_rules.specs.Plans.{hart_step, op_steps, ending}
use Rattle.nc_holds.specs.Held.{IsEntryOf}
use Rattle.nc_rules.specs.Machine.{MachineState}
use Rattle.nc_rows.specs.Ahead.{same_lot, turns_lot, is_settling, ends, names, op_coming, settling, coming}
use Rattle.nc_rows.specs.Rows.{is_flush, flushes, gives_block}
use Rattle.nc_rows.proofs.Steps.{next}
use Rattle.nc_row_plans.proofs.LendingPlans.{is_plain, Are, cbos_are, stands_some}
use Rattle.nc_row_plans.proofs.PlanBegins.{stands_behind, covered_behind}
use Rattle.nc_flatness.specs.Plans.{IsStill, IsInHand, HasZero, LoadsFirst, IsAreaBack, Zeroes, Flushes, Settles, TakesBack, PlanGoes}
use Rattle.nc_flat_starts.proofs.going.PlanComes.{plain_ends, only_ops, ends_behind, silent_ops, comes_ops, ending_last, steps_append, append_steps}
use Rattle.nc_flat_starts.proofs.going.PlanEnds.{EndsIn, alone_ends, alone_settles, alone_comes, only_turn}
use Rattle.nc_flat_starts.proofs.going.PlanOps.{IsPlan, same_id}
use Rattle.nc_flat_starts.proofs.turning.Sides.{Others, NamesArea, settled_still, area_still}

-- ---- the blocks of a span rise

-- each is below those behind it
abbrev pub Rises : List ℕ → Type 0
Rises [] = Unit {0}
Rises (b ∷ bs) = All (λ c. b < c) bs × Rises bs

range_above : (a b n : ℕ) → b ≤ a → All (λ c. b ≤ c) (range_with_len a n)
range_above a b zero le = All-nil (λ c. b ≤ c)
range_above a b (suc n) le = All-cons (λ c. b ≤ c) a (range_with_len (a + 1) n) le (range_above (a + 1) b n (omega (arith, le)))

below_all : (b : ℕ) (cs : List ℕ) → All (λ c. b + 1 ≤ c) cs → All (λ c. b < c) cs
below_all b [] all = All-nil (λ c. b < c)
below_all b (c ∷ cs) all = let first = All-head (λ c. b + 1 ≤ c) c cs all in All-cons (λ c. b < c) c cs (omega (arith, first)) (below_all b cs (All-tail (λ c. b + 1 ≤ c) c cs all))

range_rises : (a n : ℕ) → Rises (range_with_len a n)
range_rises a zero = tt
range_rises a (suc n) = (below_all a (range_with_len (a + 1) n) (range_above (a + 1) (a + 1) n (omega arith)), range_rises (a + 1) n)

if_rises : (t : Bool) (bs : List ℕ) → Rises bs → Rises (if t then [] else bs)
if_rises true bs all = tt
if_rises false bs all = all

blocks_rise : (size : ℕ) (span : Span) → Rises (blocks size span)
blocks_rise size span =
    let from = span.at / size in
    let n = (span.at + span.len - 1) / size + 1 - from in
    if_rises (span.len == 0) (range_with_len from n) (range_rises from n)

-- ---- operations of a plan that settles

pub settling_ops : (id : LotId) (ops : List HartOp) (rest : List Step) → Are is_plain ops → settling id (op_steps ops ++ rest) ≡ settling id rest
settling_ops id [] rest all = refl
settling_ops id (o ∷ ops) rest all =
    ap (is_settling id) (cond-false (ends id (hart_step o)) (Some (hart_step o)) (find (ends id) (op_steps ops ++ rest)) (plain_ends id o (All-head (λ (k : HartOp). is_plain k ≡ true) o ops all)))
    ∙ settling_ops id ops rest (All-tail (λ (k : HartOp). is_plain k ≡ true) o ops all)

coming_ops : (n : MapId) (id : LotId) (ops : List HartOp) (rest : List Step) → Are is_plain ops → list_any (ends id) rest ≡ true → coming n id (op_steps ops ++ rest) ≡ flat_map op_coming ops ++ coming n id rest
coming_ops n id [] rest all some = refl
coming_ops n id (o ∷ ops) rest all some =
    next n id (hart_step o) (op_steps ops ++ rest) (plain_ends id o (All-head (λ (k : HartOp). is_plain k ≡ true) o ops all)) (ends_behind id ops rest some)
    ∙ ap (λ (es : List QueueEntry). op_coming o ++ es) (coming_ops n id ops rest (All-tail (λ (k : HartOp). is_plain k ≡ true) o ops all) some)
    ∙ sym (append_assoc (op_coming o) (flat_map op_coming ops) (coming n id rest))

-- ---- zeros and flushes

abbrev pub zeros : List ℕ → List HartOp
zeros bs = map (cbo Zero) bs

abbrev pub flushings : List ℕ → List HartOp
flushings bs = map (cbo Flush) bs

cbos_plain : (op : CboOp) (bs : List ℕ) → Are is_plain (map (cbo op) bs)
cbos_plain op bs = cbos_are is_plain op bs (λ b. refl)

cbos_first : (op : CboOp) (bs : List ℕ) (tail : List Step) → LoadsFirst tail → LoadsFirst (op_steps (map (cbo op) bs) ++ tail)
cbos_first op [] tail first = first
cbos_first op (b ∷ bs) tail first = refl

cbos_unnamed : (n : MapId) (op : CboOp) (bs : List ℕ) → list_any (names n) (flat_map op_coming (map (cbo op) bs)) ≡ false
cbos_unnamed n op [] = refl
cbos_unnamed n op (b ∷ bs) = cbos_unnamed n op bs

-- a block that is below is not zeroed again
zeros_lack : (b : ℕ) (bs : List ℕ) → All (λ c. b < c) bs → list_any (has_op is_zero b) (flat_map op_coming (zeros bs)) ≡ false
zeros_lack b [] all = refl
zeros_lack b (c ∷ bs) all =
    let lt = All-head (λ c. b < c) c bs all in
    or_from (c == b) (list_any (has_op is_zero b) (flat_map op_coming (zeros bs))) (false_from_ne_true (c == b) (λ is. omega (arith, lt, eqb-true c b is))) (zeros_lack b bs (All-tail (λ c. b < c) c bs all))

flushings_lack : (b : ℕ) (bs : List ℕ) → list_any (has_op is_zero b) (flat_map op_coming (flushings bs)) ≡ false
flushings_lack b [] = refl
flushings_lack b (c ∷ bs) = flushings_lack b bs

flushings_give : (m : MachineState) (x : ℕ) (bs : List ℕ) → list_any (gives_block m x) (flat_map op_coming (flushings bs)) ≡ false
flushings_give m x [] = refl
flushings_give m x (b ∷ bs) = flushings_give m x bs

some_flush : (b : ℕ) (bs : List ℕ) → In b bs → list_any (has_op is_flush b) (flat_map op_coming (flushings bs)) ≡ true
some_flush b [] here = absurd here
some_flush b (c ∷ bs) (inl same) = or_left (c == b) (list_any (has_op is_flush b) (flat_map op_coming (flushings bs))) (eq-eqb c b same)
some_flush b (c ∷ bs) (inr later) = or_right (c == b) (list_any (has_op is_flush b) (flat_map op_coming (flushings bs))) (some_flush b bs later)

-- ---- their steps go

zeros_go : (f : DriverConfig) (lots : List Lot) (lot : Lot) (i : ℕ) (e : Entry) (bs : List ℕ) (tail : List Step) → IsInHand f lots lot true sides.Lending → IsEntryOf lots lot i e → ((b : ℕ) → In b bs → (x : ℕ) → x / f.size ≡ b → covers e.span x ≡ true) → Rises bs
    → list_any (ends lot.id) tail ≡ true → settling lot.id tail ≡ true → ((b : ℕ) → HasZero lot.id tail b false) → LoadsFirst tail → PlanGoes f lots tail → PlanGoes f lots (op_steps (zeros bs) ++ tail)
zeros_go f lots lot i e [] tail hand here whole rises ended settles none first go = go
zeros_go f lots lot i e (b ∷ bs) tail hand here whole rises ended settles none first go = (
  Zeroes (record {
    lot = lot;
    hand = hand;
    block = record { 0 = b };
    step = refl;
    i = i;
    entry = e;
    here = here;
    whole = λ x same. whole b (inl refl) x same;
    once = λ n. comes_ops (has_op is_zero b) n lot.id (zeros bs) tail (cbos_plain Zero bs) ended
        ∙ or_from (list_any (has_op is_zero b) (flat_map op_coming (zeros bs))) (list_any (has_op is_zero b) (coming n lot.id tail)) (zeros_lack b bs rises.0) (none b n);
    settles = settling_ops lot.id (zeros bs) tail (cbos_plain Zero bs) ∙ settles;
    next = cbos_first Zero bs tail first;
  }),
  zeros_go f lots lot i e bs tail hand here (λ c there. whole c (inr there)) rises.1 ended settles none first go,
)

flushings_go : (f : DriverConfig) (lots : List Lot) (lot : Lot) (bs : List ℕ) (tail : List Step) → IsInHand f lots lot true sides.Lending → settling lot.id tail ≡ true → LoadsFirst tail → PlanGoes f lots tail → PlanGoes f lots (op_steps (flushings bs) ++ tail)
flushings_go f lots lot [] tail hand settles first go = go
flushings_go f lots lot (b ∷ bs) tail hand settles first go = (
  Flushes (record {
    lot = lot;
    hand = hand;
    block = record { 0 = b };
    step = refl;
    settles = settling_ops lot.id (flushings bs) tail (cbos_plain Flush bs) ∙ settles;
    next = cbos_first Flush bs tail first;
  }),
  flushings_go f lots lot bs tail hand settles first go,
)

-- ---- an allocation

-- a hart's plans zero and flush by the operations themselves
pub record IsZeroing (e : Effects) : Type 0 where
  pub zeroes : result_unwrap_or e.zero Zero ≡ Zero
  pub flushes : result_unwrap_or e.flush Flush ≡ Flush

calloc_is : (f : DriverConfig) (lot : Lot) (bs : List ℕ) → blocks f.size (only_entry lot).span ≡ bs → IsZeroing f.effects → calloc_steps f lot ≡ op_steps (zeros bs) ++ (op_steps (flushings bs) ++ fenced (turns.Settle lot.id))
unfolding allocating
calloc_is f lot bs same is =
    let turn = turns.Settle lot.id in
    ap (λ (cs : List ℕ). ending turn (op_steps ((map (cbo (result_unwrap_or f.effects.zero Zero)) cs ++ map (cbo (result_unwrap_or f.effects.flush Flush)) cs) ++ full ∷ []))) same
    ∙ ap (λ (op : CboOp). ending turn (op_steps ((map (cbo op) bs ++ map (cbo (result_unwrap_or f.effects.flush Flush)) bs) ++ full ∷ []))) is.zeroes
    ∙ ap (λ (op : CboOp). ending turn (op_steps ((zeros bs ++ map (cbo op) bs) ++ full ∷ []))) is.flushes
    ∙ ending_last (zeros bs ++ flushings bs) full turn ∙ ap (λ (ss : List Step). ss ++ fenced turn) (steps_append (zeros bs) (flushings bs)) ∙ append_steps (op_steps (zeros bs)) (op_steps (flushings bs)) (fenced turn)

pub record Allocates (f : DriverConfig) (lots : List Lot) (lot : Lot) (steps : List Step) : Type 0 where
  pub goes : PlanGoes f lots steps
  pub plan : IsPlan lot.id steps
  pub settles : settling lot.id steps ≡ true
  pub behind : (n : MapId) (m : MachineState) (x : ℕ) → f.size ≡ m.size → covers (only_entry lot).span x ≡ true → Covered (gives_block m x) (flushes m x) (names n) (coming n lot.id steps)
  pub flushed : (n : MapId) (m : MachineState) (x : ℕ) → f.size ≡ m.size → covers (only_entry lot).span x ≡ true → Stands (flushes m x) (names n) (coming n lot.id steps)

pub allocate_so : (f : DriverConfig) (lots : List Lot) (lot : Lot) → IsInHand f lots lot true sides.Lending → Others (IsStill f) lot.id lots → NamesArea lot.id lots → IsZeroing f.effects → IsBlockSize f.size → slice_get lot.list.entries 0 ≡ Some (only_entry lot)
    → ((x y : ℕ) → y / f.size ≡ x / f.size → covers (only_entry lot).span x ≡ true → covers (only_entry lot).span y ≡ true) → Allocates f lots lot (calloc_steps f lot)
allocate_so f lots lot hand others area is size there whole =
    let id = lot.id in
    let span = (only_entry lot).span in
    let bs = blocks f.size span in
    let met = blocks_are_met f.size span size in
    let turn = turns.Settle id in
    let end = fenced turn in
    let tail = op_steps (flushings bs) ++ end in
    let zs = flat_map op_coming (zeros bs) in
    let fs = flat_map op_coming (flushings bs) in
    let last_mark = entries.Mark 15 15 ∷ [] in
    let end_ended = alone_ends id turn (same_id id) in
    let ended = ends_behind id (flushings bs) end end_ended in
    let end_settles : settling id end ≡ true = alone_settles id turn (same_id id) ∙ same_id id in
    let settles : settling id tail ≡ true = settling_ops id (flushings bs) end (cbos_plain Flush bs) ∙ end_settles in
    let unzeroed : (b : ℕ) → HasZero id tail b false =
    λ b n. comes_ops (has_op is_zero b) n id (flushings bs) end (cbos_plain Flush bs) end_ended
    ∙ or_from (list_any (has_op is_zero b) fs) (list_any (has_op is_zero b) (coming n id end)) (flushings_lack b bs) (ap (list_any (has_op is_zero b)) (alone_comes n id turn (same_id id))) in
    let line : (n : MapId) → coming n id (op_steps (zeros bs) ++ tail) ≡ zs ++ (fs ++ last_mark) =
    λ n. coming_ops n id (zeros bs) tail (cbos_plain Zero bs) ended
    ∙ ap (λ (es : List QueueEntry). zs ++ es) (coming_ops n id (flushings bs) end (cbos_plain Flush bs) end_ended ∙ ap (λ (es : List QueueEntry). fs ++ es) (alone_comes n id turn (same_id id))) in
    let some : (m : MachineState) (x : ℕ) → f.size ≡ m.size → covers span x ≡ true → list_any (flushes m x) fs ≡ true =
    λ m x same on. some_flush (x / m.size) bs (subst (λ (s : ℕ). In (x / s) bs) same (met.all x (covers-low span x on) (covers-high span x on))) in
    let stands : (n : MapId) (m : MachineState) (x : ℕ) → f.size ≡ m.size → covers span x ≡ true → Stands (flushes m x) (names n) (fs ++ last_mark) =
    λ n m x same on. stands_some (flushes m x) (names n) fs last_mark (some m x same on) (cbos_unnamed n Flush bs) in
    let none : (m : MachineState) (x : ℕ) → list_any (gives_block m x) (fs ++ last_mark) ≡ false =
    λ m x. list_any-append (gives_block m x) fs last_mark ∙ or_from (list_any (gives_block m x) fs) (list_any (gives_block m x) last_mark) (flushings_give m x bs) refl in
    subst (λ (ss : List Step). Allocates f lots lot ss) (sym (calloc_is f lot bs refl is)) (record {
      goes = zeros_go f lots lot 0 (only_entry lot) bs tail hand (record { lot_in = hand.here; entry = there })
          (λ b here x same. let p = met.only b here in whole p.0 x (same ∙ sym p.3) (covers-from span p.0 p.1 p.2)) (blocks_rise f.size span) ended settles unzeroed (cbos_first Flush bs end refl)
          (flushings_go f lots lot bs end hand end_settles refl (Settles (record { lot = lot; hand = hand; step = refl; over = refl }), settled_still f id lots area others));
      plan = record {
        ended = ends_behind id (zeros bs) tail ended;
        only = only_ops id (zeros bs) tail (cbos_plain Zero bs) (only_ops id (flushings bs) end (cbos_plain Flush bs) (only_turn id turn full (λ b. refl) (λ b. refl)));
        silent = λ b. silent_ops b (zeros bs) tail (cbos_plain Zero bs) (silent_ops b (flushings bs) end (cbos_plain Flush bs) refl);
        first = cbos_first Zero bs tail (cbos_first Flush bs end refl);
      };
      settles = settling_ops id (zeros bs) tail (cbos_plain Zero bs) ∙ settles;
      behind = λ n m x same on. subst (λ (es : List QueueEntry). Covered (gives_block m x) (flushes m x) (names n) es) (sym (line n))
          (covered_behind (gives_block m x) (flushes m x) (names n) zs (fs ++ last_mark) (cbos_unnamed n Zero bs) (stands n m x same on) (covered-none (gives_block m x) (flushes m x) (names n) (fs ++ last_mark) (none m x)));
      flushed = λ n m x same on. subst (λ (es : List QueueEntry). Stands (flushes m x) (names n) es) (sym (line n)) (stands_behind (flushes m x) (names n) zs (fs ++ last_mark) (cbos_unnamed n Zero bs) (stands n m x same on));
    })

-- ---- an area that is taken back

area_turns : (id : LotId) (turn : Turn) → IsAreaBack id turn → EndsIn id turn
area_turns id turn (inl is) = ap (turns_lot id) is ∙ same_id id
area_turns id turn (inr is) = ap (turns_lot id) is ∙ same_id id

area_same : (id : LotId) (turn : Turn) → IsAreaBack id turn → (b : LotId) → turns_lot b turn ≡ same_lot b id
area_same id turn (inl is) b = ap (turns_lot b) is
area_same id turn (inr is) b = ap (turns_lot b) is

pub record TakesAway (f : DriverConfig) (lots : List Lot) (lot : Lot) (steps : List Step) : Type 0 where
  pub goes : PlanGoes f lots steps
  pub plan : IsPlan lot.id steps

pub take_so : (f : DriverConfig) (lots : List Lot) (lot : Lot) (turn : Turn) → IsInHand f lots lot true sides.Returning → Others (IsStill f) lot.id lots → IsAreaBack lot.id turn → NamesArea lot.id lots → TakesAway f lots lot (fenced turn)
take_so f lots lot turn hand others back area = record {
  goes = (TakesBack (record { lot = lot; hand = hand; turn = turn; is_back = back; step = refl; over = refl }), area_still f lot.id turn lots back area others);
  plan = record { ended = alone_ends lot.id turn (area_turns lot.id turn back); only = only_turn lot.id turn full (area_same lot.id turn back) (λ b. refl); silent = λ b. refl; first = refl };
}
