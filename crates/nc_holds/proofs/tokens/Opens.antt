-- What each operation opens with, as tokens and messages go.
use Rattle.std.specs.Prelude.{All, Option, Some, None, find, if◌then◌else◌, ◌≤◌, ◌==◌}
use Rattle.std.specs.List.{list_any}
use Rattle.std.proofs.Common.{◌≡◌, ℕ, Bool, true, false, List, [], ◌∷◌, refl, sym, ap, ◌∙◌, inr, subst, cond, arith}
use Rattle.std.proofs.lemmas.Bool.{false≢true, and_parts, or_left, or_right}
use Rattle.std.proofs.lemmas.Bool.Decides.{nat_tests}
use Rattle.std.proofs.lemmas.List.Elements.{All-nil, All-cons}
use Rattle.nc_num.specs.declared.names.HartNo.{HartNo}
use Rattle.nc_num.specs.declared.names.Label.{Label}
use Rattle.nc_num.specs.declared.places.Span.{Span}
use Rattle.nc_values.specs.Values.{FitsLabel}
use Rattle.nc_plan.specs.Plans.{full}
use Rattle.nc_plan.specs.declared.ops.HartOp.TheVariants as hart
use Rattle.nc_plan.specs.declared.ops.IoTarget.TheVariants as io
use Rattle.nc_coherent.specs.Areas.{allocating}
use Rattle.nc_ops.specs.declared.ops.Op.{Op}
use Rattle.nc_ops.specs.declared.ops.Op.TheVariants as ops
use Rattle.nc_sg.specs.declared.list.Entry.{Entry}
use Rattle.nc_rules.specs.declared.lots.Kind.{Kind}
use Rattle.nc_rules.specs.declared.lots.Kind.TheVariants as kinds
use Rattle.nc_rules.specs.declared.lots.Lot.{Lot}
use Rattle.nc_rules.specs.declared.lots.LotId.{LotId}
use Rattle.nc_rules.specs.declared.steps.Step.{Step}
use Rattle.nc_rules.specs.declared.steps.Turn.{Turn}
use Rattle.nc_rules.specs.declared.steps.Turn.TheVariants as turns
use Rattle.nc_rules.specs.Lots.{DriverConfig, lot_id, is_lot, is_named, is_labelled, same_kind, lot_named, only_entry}
use Rattle.nc_rules.specs.Refusals.{buffer_of}
use Rattle.nc_rules.specs.Plans.{hart_step, op_steps, turning, ending, lend_steps, return_steps}
use Rattle.nc_rules.specs.Mappings.{with_lot}
use Rattle.nc_rules.specs.Areas.{calloc_steps, fenced}
use Rattle.nc_rules.specs.Handing.{hand_steps}
use Rattle.nc_rules.specs.Operations.{waited_label}
use Rattle.nc_scripts.specs.Drivers.{IsLotIn, IsNamed, FitsKind}
use Rattle.nc_scripts.proofs.Lists.{found}
use Rattle.nc_scripts.proofs.LotLaws.{its_name}
use Rattle.nc_holds.specs.Rests.{TokenIsLight}
use Rattle.nc_holds.proofs.tokens.QuietSteps.{IsQuiet, ops_quiet, allocating_quiet, ending_quiet, return_quiet, turning_quiet, op_quiet}
use Rattle.nc_holds.proofs.tokens.Rests.{stays_by}
use Rattle.nc_holds.proofs.tokens.Plans.{EndsWaited, OpensSo, quiet_opens, none_opens, lend_opens}

-- ---- the lot of a label

any_by : (q : Lot → Bool) (x lot : Lot) (xs : List Lot) (o : Option Lot) (t : Bool) → cond t (Some x) o ≡ Some lot → q lot ≡ true → (o ≡ Some lot → list_any q xs ≡ true) → list_any q (x ∷ xs) ≡ true
any_by q x lot xs o true e is more = let same : x ≡ lot = cc in or_left (q x) (list_any q xs) (subst (λ (l : Lot). q l ≡ true) (sym same) is)
any_by q x lot xs o false e is more = or_right (q x) (list_any q xs) (more e)

pub find_any : (p q : Lot → Bool) (lots : List Lot) (lot : Lot) → find p lots ≡ Some lot → q lot ≡ true → list_any q lots ≡ true
find_any p q [] lot e is = absurd cc
find_any p q (x ∷ xs) lot e is = any_by q x lot xs (find p xs) (p x) e is (λ more. find_any p q xs lot more is)

-- a lot of a script's label has a script's name
script_name : (pool : Span) (k : Kind) (id : LotId) (es : List Entry) → FitsKind pool k id es → id.label.0 ≤ 999 → IsNamed id
script_name pool kinds.Single id es h le = h.0
script_name pool kinds.List id es h le = h.0
script_name pool kinds.Area id es h le = h.0
script_name pool kinds.Copy id es h le = let label = h.0.label in absurd (omega arith)

label_is : (m n : ℕ) → (m == n) ≡ true → m ≡ n
label_is m n e = grind (arith, nat_tests)

pub labelled : (label : Label) (k : Kind) (lot : Lot) → is_named label k lot ≡ true → lot.id.label.0 ≡ label.0
labelled label k lot e = label_is lot.id.label.0 label.0 (and_parts (is_labelled label lot) (same_kind k lot.kind) e).0

name_of : (id : LotId) (label : Label) → id.label.0 ≡ label.0 → id.first ≡ 0 → id ≡ lot_id label 0
name_of id label l z = λ i. record { label = record { 0 = l i }; first = z i }

-- what is known of the lot that is found
pub record IsFoundLot (label : Label) (lots : List Lot) (lot : Lot) : Type 0 where
  pub labelled : lot.id.label.0 ≡ label.0
  pub there : list_any (is_lot lot.id) lots ≡ true
  pub named : FitsLabel label → lot.id ≡ lot_id label 0

pub found_lot : (ram : ℕ) (f : DriverConfig) (label : Label) (k : Kind) (lots : List Lot) (lot : Lot) → All (IsLotIn ram f) lots → lot_named lots label k ≡ Some lot → IsFoundLot label lots lot
found_lot ram f label k lots lot all e =
    let h = found (IsLotIn ram f) (is_named label k) lots lot all e in
    let l = labelled label k lot h.passes in
    record {
      labelled = l;
      there = find_any (is_named label k) (is_lot lot.id) lots lot e (its_name lot lot.id refl);
      named = λ fits. name_of lot.id label l (script_name f.pool lot.kind lot.id lot.list.entries h.is.kind (subst (λ (n : ℕ). n ≤ 999) (sym l) fits)).first;
    }

-- ---- forms

pub by_lot : (f : DriverConfig) (lots : List Lot) (o : Op) (gt : Lot → Turn) (gs : Lot → List Step) (r : Option Lot) → ((lot : Lot) → r ≡ Some lot → OpensSo f lots o (gt lot) (gs lot)) → OpensSo f lots o (with_lot turns.Stay gt r) (with_lot [] gs r)
by_lot f lots o gt gs None h = none_opens f lots o turns.Stay tt (λ i free e. absurd cc)
by_lot f lots o gt gs (Some lot) h = h lot refl

pub by_made : (f : DriverConfig) (lots : List Lot) (o : Op) (id : LotId) (gs : Lot → List Step) (r : Option Lot) → ((lot : Lot) → r ≡ Some lot → OpensSo f lots o (turns.Lend id) (gs lot)) → OpensSo f lots o (turns.Lend id) (with_lot [] gs r)
by_made f lots o id gs None h = none_opens f lots o (turns.Lend id) tt (λ i free e. absurd cc)
by_made f lots o id gs (Some lot) h = h lot refl

pub if_opens : (f : DriverConfig) (lots : List Lot) (o : Op) (b : Bool) (t u : Turn) (xs ys : List Step) → OpensSo f lots o t xs → OpensSo f lots o u ys → OpensSo f lots o (if b then t else u) (if b then xs else ys)
if_opens f lots o true t u xs ys h k = h
if_opens f lots o false t u xs ys h k = k

-- a lot of the label for which the operation waits may end
pub ends_own : (o : Op) (label : Label) (lot : Lot) → waited_label o ≡ Some label → lot.id.label.0 ≡ label.0 → EndsWaited o (turns.End lot.id)
ends_own o label lot waits l i free e = let same : lot.id ≡ i = cc in free label waits (ap (λ (j : LotId). j.label.0) (sym same) ∙ l)

stay_ends : (o : Op) → EndsWaited o turns.Stay
stay_ends o i free e = absurd cc

-- a plan that takes a lot back and then makes this turn
pub back_opens : (f : DriverConfig) (lots : List Lot) (o : Op) (lot : Lot) (t : Turn) → EndsWaited o t → OpensSo f lots o (turns.Return lot.id) (ending t (return_steps f lot))
back_opens f lots o lot t ends =
    quiet_opens f lots o (turns.Return lot.id) (ending t (return_steps f lot)) tt (λ i free e. absurd cc)
    (ending_quiet (EndsWaited o) t (return_steps f lot) ends (return_quiet (EndsWaited o) f lot (stay_ends o)))

pub fence_opens : (f : DriverConfig) (lots : List Lot) (o : Op) (lot : Lot) (t : Turn) → EndsWaited o t → OpensSo f lots o (turns.Return lot.id) (fenced t)
fence_opens f lots o lot t ends =
    quiet_opens f lots o (turns.Return lot.id) (fenced t) tt (λ i free e. absurd cc)
    (All-cons (IsQuiet (EndsWaited o)) (turning t (hart_step full)) []
    (turning_quiet (EndsWaited o) t (hart_step full) ends (op_quiet (EndsWaited o) full (stay_ends o) (record { mail = λ b. refl; token = refl })))
    (All-nil (IsQuiet (EndsWaited o))))

pub map_opens : (ram : ℕ) (f : DriverConfig) (lots : List Lot) (o : Op) (label : Label) (k : Kind) → All (IsLotIn ram f) lots → FitsLabel label → OpensSo f lots o (turns.Lend (lot_id label 0)) (with_lot [] (lend_steps f) (lot_named lots label k))
map_opens ram f lots o label k all fits =
    by_made f lots o (lot_id label 0) (lend_steps f) (lot_named lots label k) (λ lot e.
    let h = found_lot ram f label k lots lot all e in
    subst (λ (i : LotId). OpensSo f lots o (turns.Lend i) (lend_steps f lot)) (h.named fits) (lend_opens f lots o lot h.there))

pub calloc_opens : (f : DriverConfig) (lots : List Lot) (o : Op) (label : Label) (lot : Lot) → OpensSo f lots o (turns.Lend (lot_id label 0)) (calloc_steps f lot)
calloc_opens f lots o label lot =
    quiet_opens f lots o (turns.Lend (lot_id label 0)) (calloc_steps f lot) tt (λ i free e. absurd cc)
    (ending_quiet (EndsWaited o) (turns.Settle lot.id) (op_steps (allocating f.effects f.size (only_entry lot).span)) (λ i free e. absurd cc)
    (ops_quiet (EndsWaited o) (allocating f.effects f.size (only_entry lot).span) (stay_ends o) (allocating_quiet f.effects f.size (only_entry lot).span)))

pub hand_opens : (f : DriverConfig) (lots : List Lot) (buf : ℕ) (to : HartNo) → OpensSo f lots (ops.Hand buf to) (turns.Pass (buffer_of f buf) to) (hand_steps buf to)
hand_opens f lots buf to =
    record {
      of_lots = λ other. absurd (other buf to refl);
      light = All-cons (TokenIsLight f.light) (hart_step (hart.Mark 1 4)) (hart_step (hart.IoStore (io.Mail buf to)) ∷ []) (λ i e. absurd (none_some i e))
          (All-cons (TokenIsLight f.light) (hart_step (hart.IoStore (io.Mail buf to))) [] (λ i e. absurd (none_some i e)) (All-nil (TokenIsLight f.light)));
      claims = λ e. absurd (false≢true e);
      mails = λ other. absurd (other buf to refl);
      follows = ((λ i e. absurd (none_some i e)), ((λ i e. absurd (none_some i e)), tt));
      stays = λ i free has. stays_by i lots (hand_steps buf to) has (inr ((λ e. absurd cc), (λ e. absurd cc), inr ((λ e. absurd cc), (λ e. absurd cc), tt)));
    }
  where
    none_some : (i : LotId) → ◌≡◌ {A = Option LotId} None (Some i) → ⊥
    none_some i e = absurd cc
