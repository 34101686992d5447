-- Lists of steps, and the parts of a lot.
use Rattle.std.proofs.Common.{◌≡◌, ℕ, zero, suc, ◌+◌, ◌*◌, ◌<◌, ◌≤◌, ◌∙◌, Bool, true, false, List, [], ◌∷◌, ◌++◌, length, take, drop, get_or, set, refl, ap, sym, append_assoc, arith}
use Rattle.std.specs.Prelude.{All, map, unwrap_or, if◌then◌else◌}
use Rattle.std.proofs.lemmas.List.{map-append}
use Rattle.std.proofs.lemmas.List.Elements.{All-map, All-weaker}
use Rattle.nc_num.specs.declared.names.Dir.{Dir}
use Rattle.nc_plan.specs.Parts.{IsPart, in_slot, slot_len}
use Rattle.nc_plan.specs.declared.ops.HartOp.{HartOp}
use Rattle.nc_plan.specs.declared.parts.Part.{Part}
use Rattle.nc_sg.specs.Lists.{IsEntry, part_of}
use Rattle.nc_sg.specs.declared.list.Entry.{Entry}
use Rattle.nc_rules.specs.declared.steps.Step.{Step}
use Rattle.nc_rules.specs.declared.steps.Turn.{Turn}
use Rattle.nc_rules.specs.Plans.{hart_step, op_steps, ending, beginning, turning}

-- ---- turns at the ends of a list

ending_last : (t : Turn) (xs : List Step) (s : Step) → ending t (xs ++ s ∷ []) ≡ xs ++ turning t s ∷ []
ending_last t [] s = refl
ending_last t (x ∷ []) s = refl
ending_last t (x ∷ y ∷ xs) s = ap (λ (r : List Step). x ∷ r) (ending_last t (y ∷ xs) s)

-- the step of the last operation turns
pub ending_ops : (t : Turn) (os : List HartOp) (o : HartOp) → ending t (op_steps (os ++ o ∷ [])) ≡ op_steps os ++ turning t (hart_step o) ∷ []
ending_ops t os o = ap (ending t) (map-append hart_step os (o ∷ [])) ∙ ending_last t (op_steps os) (hart_step o)

-- steps for all operations but the last, then a step for that one, which turns
pub ended : (t : Turn) (old new : List Step) (os front : List HartOp) (o : HartOp) (s : Step) → os ≡ front ++ o ∷ [] → new ≡ old ++ op_steps front → s ≡ turning t (hart_step o)
    → new ++ s ∷ [] ≡ old ++ ending t (op_steps os)
ended t old new os front o s eo en es =
    ap (λ (n : List Step). n ++ s ∷ []) en
    ∙ ap (λ (r : Step). (old ++ op_steps front) ++ r ∷ []) es
    ∙ append_assoc old (op_steps front) (turning t (hart_step o) ∷ [])
    ∙ ap (λ (r : List Step). old ++ r) (sym (ending_ops t front o) ∙ ap (λ (r : List HartOp). ending t (op_steps r)) (sym eo))

-- the step at a place turns
pub begun_at : (t : Turn) (xs : List Step) (i : ℕ) (d : Step) → i < length xs → set xs i (record (get_or xs i d) { first = t }) ≡ take i xs ++ beginning t (drop i xs)
begun_at t [] i d lt = absurd (omega arith)
begun_at t (x ∷ xs) zero d lt = refl
begun_at t (x ∷ xs) (suc i) d lt = ap (λ (r : List Step). x ∷ r) (begun_at t xs i d (omega arith))

-- ---- the parts of a lot

part_by : Dir → ℕ → Entry → Bool → Part
part_by dir slots_at e b = record { buffer = e.span; device = if b then in_slot (slots_at + slot_len * unwrap_or e.slot 0) e.span else e.span; dir = dir }

is_part_by : (dir : Dir) (slots_at : ℕ) (e : Entry) (b : Bool) → slots_at ≤ 1048576 → IsEntry e → IsPart (part_by dir slots_at e b)
unfolding part_by
is_part_by dir slots_at e false few h = record { buffer = omega (arith, h.range.ends); device = omega (arith, h.range.ends); length = refl }
is_part_by dir slots_at e true few h = record { buffer = omega (arith, h.range.ends); device = omega (arith, h.range.ends, h.slot); length = refl }

pub is_part : (dir : Dir) (slots_at : ℕ) (e : Entry) → slots_at ≤ 1048576 → IsEntry e → IsPart (part_of dir slots_at e)
unfolding part_by
is_part dir slots_at e few h = is_part_by dir slots_at e e.bounced few h

pub are_parts : (dir : Dir) (slots_at : ℕ) (es : List Entry) → slots_at ≤ 1048576 → All IsEntry es → All IsPart (map (part_of dir slots_at) es)
are_parts dir slots_at es few h = All-map IsPart (part_of dir slots_at) es (All-weaker IsEntry (λ e. IsPart (part_of dir slots_at e)) (λ e k. is_part dir slots_at e few k) es h)
