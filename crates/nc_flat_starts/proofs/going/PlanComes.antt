-- What is to come of operations and the steps behind them.
use Rattle.std.specs.Prelude.{Option, Some, None, ◌==◌, ◌||◌, ◌-◌, is_some, Bool, true, false, flat_map}
use Rattle.std.specs.List.{list_any}
use Rattle.std.proofs.Common.{◌≡◌, ℕ, List, [], ◌∷◌, ◌++◌, refl, sym, ap, ◌∙◌, inl, inr}
use Rattle.std.proofs.lemmas.Bool.{and_parts, or_right, or_from, cases_Bool, cond-true, cond-false, eqb-true, false_from_ne_true}
use Rattle.std.proofs.lemmas.List.Elements.{All-nil, All-cons, All-head, All-tail}
use Rattle.std.proofs.lemmas.List.Folds.{list_any-append}
use Rattle.nc_num.specs.Memory.{byte}
use Rattle.nc_num.specs.Places.{covers}
use Rattle.nc_num.specs.declared.names.MapId.{MapId}
use Rattle.nc_num.specs.declared.names.MemType.TheVariants.{Pma}
use Rattle.nc_num.specs.declared.places.Span.{Span}
use Rattle.nc_queue.specs.declared.entry.Entry.{Entry}
use Rattle.nc_queue.specs.declared.entry.Entry.TheVariants as entries
use Rattle.nc_lines.specs.Lines.{gives_at}
use Rattle.nc_plan.specs.Plans.{copy_piece}
use Rattle.nc_plan.specs.declared.ops.HartOp.{HartOp}
use Rattle.nc_plan.specs.declared.ops.HartOp.TheVariants as hart
use Rattle.nc_plan.specs.declared.ops.Payload.TheVariants.{Last}
use Rattle.nc_sg.specs.declared.list.Entry.{Entry as SgEntry}
use Rattle.nc_rules.specs.declared.lots.LotId.{LotId}
use Rattle.nc_rules.specs.declared.steps.Step.{Step}
use Rattle.nc_rules.specs.declared.steps.Turn.{Turn}
use Rattle.nc_rules.specs.Plans.{hart_step, op_steps, turning, ending}
use Rattle.nc_rows.specs.Ahead.{same_lot, ends, posts, is_full, op_coming, coming}
use Rattle.nc_rows.proofs.Steps.{next}
use Rattle.nc_row_plans.proofs.LendingPlans.{is_plain, Are, are_flat}
use Rattle.nc_flatness.specs.Plans.{EndsOne, HasLend}
use Rattle.nc_flatness.specs.Tokens.{ends_lending}
use Rattle.nc_flatness.proofs.plans.Rests.{plain_unlent}
use Rattle.nc_flat_starts.proofs.going.Pieces.{Move, stored}

-- ---- operations

pub plain_ends : (id : LotId) (o : HartOp) → is_plain o ≡ true → ends id (hart_step o) ≡ false
plain_ends id (hart.Load span kind) is = refl
plain_ends id (hart.Store span kind bytes) is = refl
plain_ends id (hart.Cbo op block) is = refl
plain_ends id (hart.Fence pred succ) is = absurd cc
plain_ends id (hart.IoLoad chan off width) is = absurd cc
plain_ends id (hart.IoStore target) is = absurd cc
plain_ends id (hart.Mark pred succ) is = absurd cc

pub ends_behind : (id : LotId) (ops : List HartOp) (rest : List Step) → list_any (ends id) rest ≡ true → list_any (ends id) (op_steps ops ++ rest) ≡ true
ends_behind id [] rest some = some
ends_behind id (o ∷ ops) rest some = or_right (ends id (hart_step o)) (list_any (ends id) (op_steps ops ++ rest)) (ends_behind id ops rest some)

pub lends_behind : (id : LotId) (ops : List HartOp) (rest : List Step) → HasLend id rest → HasLend id (op_steps ops ++ rest)
lends_behind id [] rest some = some
lends_behind id (o ∷ ops) rest some = or_right (ends_lending id (hart_step o)) (list_any (ends_lending id) (op_steps ops ++ rest)) (lends_behind id ops rest some)

pub unlent_ops : (id : LotId) (ops : List HartOp) (rest : List Step) → Are is_plain ops → list_any (ends_lending id) rest ≡ false → list_any (ends_lending id) (op_steps ops ++ rest) ≡ false
unlent_ops id [] rest all none = none
unlent_ops id (o ∷ ops) rest all none =
    or_from (ends_lending id (hart_step o)) (list_any (ends_lending id) (op_steps ops ++ rest)) (plain_unlent id (hart_step o) (plain_ends id o (All-head (λ (k : HartOp). is_plain k ≡ true) o ops all)))
    (unlent_ops id ops rest (All-tail (λ (k : HartOp). is_plain k ≡ true) o ops all) none)

-- it ends the stay of no lot of another name
abbrev pub EndsOnly : LotId → List Step → Type 0
EndsOnly id rest = (b : LotId) → list_any (ends b) rest ≡ true → same_lot b id ≡ true

pub only_ops : (id : LotId) (ops : List HartOp) (rest : List Step) → Are is_plain ops → EndsOnly id rest → EndsOnly id (op_steps ops ++ rest)
only_ops id [] rest all only b ended = only b ended
only_ops id (o ∷ ops) rest all only b ended =
    only_ops id ops rest (All-tail (λ (k : HartOp). is_plain k ≡ true) o ops all) only b
    (sym (ap (λ (t : Bool). t || list_any (ends b) (op_steps ops ++ rest)) (plain_ends b o (All-head (λ (k : HartOp). is_plain k ≡ true) o ops all))) ∙ ended)

same_name : (a b : LotId) → same_lot a b ≡ true → a ≡ b
same_name a b same =
    let both = and_parts (a.label.0 == b.label.0) (a.first == b.first) same in
    let label = eqb-true a.label.0 b.label.0 both.0 in
    let first = eqb-true a.first b.first both.1 in
    λ i. record { label = record { 0 = label i }; first = first i }

pub only_one : (id : LotId) (rest : List Step) → EndsOnly id rest → EndsOne rest
only_one id rest only a b here there = inl (same_name a id (only a here) ∙ sym (same_name b id (only b there)))

-- none of another name
pub only_far : (id other : LotId) (rest : List Step) → EndsOnly id rest → (same_lot other id ≡ true → ⊥) → list_any (ends other) rest ≡ false
only_far id other rest only far = false_from_ne_true (list_any (ends other) rest) (λ ended. far (only other ended))

or_assoc : (a b c : Bool) → (a || (b || c)) ≡ ((a || b) || c)
or_assoc true b c = refl
or_assoc false b c = refl

-- what passes a test is of the operations, or of the steps behind them
pub comes_ops : (p : Entry → Bool) (n : MapId) (id : LotId) (ops : List HartOp) (rest : List Step) → Are is_plain ops → list_any (ends id) rest ≡ true
    → list_any p (coming n id (op_steps ops ++ rest)) ≡ (list_any p (flat_map op_coming ops) || list_any p (coming n id rest))
comes_ops p n id [] rest all some = refl
comes_ops p n id (o ∷ ops) rest all some =
    let more = comes_ops p n id ops rest (All-tail (λ (k : HartOp). is_plain k ≡ true) o ops all) some in
    ap (list_any p) (next n id (hart_step o) (op_steps ops ++ rest) (plain_ends id o (All-head (λ (k : HartOp). is_plain k ≡ true) o ops all)) (ends_behind id ops rest some))
    ∙ list_any-append p (op_coming o) (coming n id (op_steps ops ++ rest)) ∙ ap (λ (b : Bool). list_any p (op_coming o) || b) more
    ∙ or_assoc (list_any p (op_coming o)) (list_any p (flat_map op_coming ops)) (list_any p (coming n id rest))
    ∙ ap (λ (b : Bool). b || list_any p (coming n id rest)) (sym (list_any-append p (op_coming o) (flat_map op_coming ops)))

plain_unfenced : (o : HartOp) → is_plain o ≡ true → list_any is_full (op_coming o) ≡ false
plain_unfenced (hart.Load span kind) is = refl
plain_unfenced (hart.Store span kind bytes) is = refl
plain_unfenced (hart.Cbo op block) is = refl
plain_unfenced (hart.Fence pred succ) is = absurd cc
plain_unfenced (hart.IoLoad chan off width) is = absurd cc
plain_unfenced (hart.IoStore target) is = absurd cc
plain_unfenced (hart.Mark pred succ) is = absurd cc

pub unfenced_ops : (ops : List HartOp) → Are is_plain ops → list_any is_full (flat_map op_coming ops) ≡ false
unfenced_ops [] all = refl
unfenced_ops (o ∷ ops) all =
    list_any-append is_full (op_coming o) (flat_map op_coming ops) ∙ ap (λ (b : Bool). b || list_any is_full (flat_map op_coming ops)) (plain_unfenced o (All-head (λ (k : HartOp). is_plain k ≡ true) o ops all))
    ∙ unfenced_ops ops (All-tail (λ (k : HartOp). is_plain k ≡ true) o ops all)

-- a full fence comes as it does behind them
pub full_behind : (n : MapId) (id : LotId) (ops : List HartOp) (rest : List Step) (t : Bool) → Are is_plain ops → list_any (ends id) rest ≡ true → list_any is_full (coming n id rest) ≡ t → list_any is_full (coming n id (op_steps ops ++ rest)) ≡ t
full_behind n id ops rest t all some is = comes_ops is_full n id ops rest all some ∙ ap (λ (b : Bool). b || list_any is_full (coming n id rest)) (unfenced_ops ops all) ∙ is

-- ---- copies

abbrev pub ops_of : (SgEntry → Span × Span) → Move → List HartOp
ops_of cut m = copy_piece (cut m.entry).0.at (cut m.entry).1.at m.piece

pub copies_are : (cut : SgEntry → Span × Span) (ms : List Move) → Are is_plain (flat_map (ops_of cut) ms)
copies_are cut ms = are_flat is_plain (ops_of cut) ms (λ m.
    All-cons (λ (k : HartOp). is_plain k ≡ true) (hart.Load m.piece Pma) (hart.Store (stored cut m) Pma Last ∷ []) refl
    (All-cons (λ (k : HartOp). is_plain k ≡ true) (hart.Store (stored cut m) Pma Last) [] refl (All-nil (λ (k : HartOp). is_plain k ≡ true))))

pub store_gives : (s x : ℕ) (span : Span) → gives_at s x (entries.Store span [] Pma) ≡ covers span x
store_gives s x span = elim (cases_Bool (covers span x)) [
  | inl on ↦ ap (λ (o : Option ℕ). is_some o) (cond-true (covers span x) (Some (byte [] (x - span.at))) None on) ∙ sym on
  | inr off ↦ ap (λ (o : Option ℕ). is_some o) (cond-false (covers span x) (Some (byte [] (x - span.at))) None off) ∙ sym off
]

-- what they give at a place
pub copies_give : (s x : ℕ) (cut : SgEntry → Span × Span) (ms : List Move) → list_any (gives_at s x) (flat_map op_coming (flat_map (ops_of cut) ms)) ≡ list_any (λ m. covers (stored cut m) x) ms
copies_give s x cut [] = refl
copies_give s x cut (m ∷ ms) = ap (λ (b : Bool). b || list_any (gives_at s x) (flat_map op_coming (flat_map (ops_of cut) ms))) (store_gives s x (stored cut m)) ∙ ap (λ (b : Bool). covers (stored cut m) x || b) (copies_give s x cut ms)

-- ---- the last operation makes the turn

pub ending_last : (ops : List HartOp) (o : HartOp) (turn : Turn) → ending turn (op_steps (ops ++ o ∷ [])) ≡ op_steps ops ++ turning turn (hart_step o) ∷ []
ending_last [] o turn = refl
ending_last (p ∷ []) o turn = refl
ending_last (p ∷ q ∷ ops) o turn = ap (λ (ss : List Step). hart_step p ∷ ss) (ending_last (q ∷ ops) o turn)

pub steps_append : (a b : List HartOp) → op_steps (a ++ b) ≡ op_steps a ++ op_steps b
steps_append [] b = refl
steps_append (o ∷ a) b = ap (λ (ss : List Step). hart_step o ∷ ss) (steps_append a b)

pub append_steps : (a b c : List Step) → (a ++ b) ++ c ≡ a ++ (b ++ c)
append_steps [] b c = refl
append_steps (s ∷ a) b c = ap (λ (ss : List Step). s ∷ ss) (append_steps a b c)

-- ---- no message comes

plain_posts : (b : ℕ) (o : HartOp) → is_plain o ≡ true → posts b (hart_step o) ≡ false
plain_posts b (hart.Load span kind) is = refl
plain_posts b (hart.Store span kind bytes) is = refl
plain_posts b (hart.Cbo op block) is = refl
plain_posts b (hart.Fence pred succ) is = absurd cc
plain_posts b (hart.IoLoad chan off width) is = absurd cc
plain_posts b (hart.IoStore target) is = absurd cc
plain_posts b (hart.Mark pred succ) is = absurd cc

pub silent_ops : (b : ℕ) (ops : List HartOp) (rest : List Step) → Are is_plain ops → list_any (posts b) rest ≡ false → list_any (posts b) (op_steps ops ++ rest) ≡ false
silent_ops b [] rest all none = none
silent_ops b (o ∷ ops) rest all none =
    ap (λ (t : Bool). t || list_any (posts b) (op_steps ops ++ rest)) (plain_posts b o (All-head (λ (k : HartOp). is_plain k ≡ true) o ops all)) ∙ silent_ops b ops rest (All-tail (λ (k : HartOp). is_plain k ≡ true) o ops all) none
