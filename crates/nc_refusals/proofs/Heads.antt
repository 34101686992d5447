-- A plan that begins with a claim is a copy's, whose opening makes no turn.
use Rattle.std.proofs.Common.{◌≡◌, Bool, true, false, List, [], ◌∷◌, ◌++◌, refl, sym, Option, Some, None}
use Rattle.std.specs.Prelude.{if◌then◌else◌}
use Rattle.std.proofs.lemmas.Bool.{false≢true}
use Rattle.nc_plan.specs.declared.ops.HartOp.{HartOp}
use Rattle.nc_ops.specs.declared.ops.Op.{Op}
use Rattle.nc_ops.specs.declared.ops.Op.TheVariants as ops
use Rattle.nc_rules.specs.declared.lots.Kind.TheVariants as kinds
use Rattle.nc_rules.specs.declared.lots.Lot.{Lot}
use Rattle.nc_rules.specs.declared.steps.Step.{Step}
use Rattle.nc_rules.specs.declared.steps.Turn.{Turn}
use Rattle.nc_rules.specs.declared.steps.Turn.TheVariants as turns
use Rattle.nc_rules.specs.Lots.{DriverConfig, lot_named, is_synced, is_own, parts}
use Rattle.nc_rules.specs.Plans.{op_steps, ending, carried, token_steps, lending_end, lend_steps, return_steps}
use Rattle.nc_rules.specs.Mappings.{with_lot, unmap_steps, to_cpu_steps, to_dev_steps}
use Rattle.nc_rules.specs.Mappings as mappings
use Rattle.nc_rules.specs.ScatterLists.{unmap_sg_steps}
use Rattle.nc_rules.specs.ScatterLists as lists
use Rattle.nc_rules.specs.Areas.{calloc_steps, give_steps, take_steps, free_steps}
use Rattle.nc_rules.specs.Areas as areas
use Rattle.nc_rules.specs.Accesses as accesses
use Rattle.nc_rules.specs.CacheOps as cache_ops
use Rattle.nc_rules.specs.Channels as channels
use Rattle.nc_rules.specs.Handing as handing
use Rattle.nc_rules.specs.Copies as copies
use Rattle.nc_rules.specs.Operations.{meaning, opening, plan_of}
use Rattle.nc_scripts.specs.Drivers.{is_claim}

abbrev pub begins_claim : List Step → Bool
begins_claim [] = false
begins_claim (s ∷ rest) = is_claim s.act

ops_then : (xs : List HartOp) (rest : List Step) → begins_claim rest ≡ false → begins_claim (op_steps xs ++ rest) ≡ false
ops_then [] rest h = h
ops_then (x ∷ xs) rest h = refl

ops_none : (xs : List HartOp) → begins_claim (op_steps xs) ≡ false
ops_none [] = refl
ops_none (x ∷ xs) = refl

either : (t : Bool) (xs ys : List Step) → begins_claim xs ≡ false → begins_claim ys ≡ false → begins_claim (if t then xs else ys) ≡ false
either true xs ys h k = h
either false xs ys h k = k

end_none : (f : DriverConfig) (lot : Lot) → begins_claim (lending_end f lot) ≡ false
end_none f lot = either f.light (token_steps lot) _ refl refl

lend_none : (f : DriverConfig) (lot : Lot) → begins_claim (lend_steps f lot) ≡ false
lend_none f lot = ops_then (carried f.effects f.size (parts f lot)) (lending_end f lot) (end_none f lot)

ending_none : (t : Turn) (steps : List Step) → begins_claim steps ≡ false → begins_claim (ending t steps) ≡ false
ending_none t [] h = refl
ending_none t (s ∷ []) h = h
ending_none t (s ∷ u ∷ rest) h = h

return_none : (f : DriverConfig) (t : Turn) (lot : Lot) → begins_claim (ending t (return_steps f lot)) ≡ false
return_none f t lot = ending_none t (return_steps f lot) (ops_none _)

with_none : (g : Lot → List Step) (o : Option Lot) → ((lot : Lot) → begins_claim (g lot) ≡ false) → begins_claim (with_lot [] g o) ≡ false
with_none g None h = refl
with_none g (Some lot) h = h lot

off : {X : Type 0} (t : Bool) → t ≡ false → t ≡ true → X
off true e h = absurd (false≢true (sym e))
off false e h = absurd (false≢true h)

pub quiet_opening : (f : DriverConfig) (lots : List Lot) (o : Op) → begins_claim (plan_of f lots o) ≡ true → opening f lots o ≡ turns.Stay
unfolding opening plan_of meaning accesses.load accesses.store cache_ops.cache_operation cache_ops.fence handing.take handing.hand channels.claim channels.free channels.set_up channels.run channels.poll channels.read_register channels.write_register mappings.map_single mappings.unmap_single mappings.sync_for_cpu mappings.sync_for_device lists.map_sg lists.unmap_sg areas.calloc areas.give_area areas.take_area areas.free_area copies.copy
quiet_opening f lots (ops.Map label buf o len dir chan) e = off (begins_claim (with_lot [] (lend_steps f) (lot_named lots label kinds.Single))) (with_none (lend_steps f) (lot_named lots label kinds.Single) (lend_none f)) e
quiet_opening f lots (ops.Unmap label) e =
    off (begins_claim (with_lot [] (unmap_steps f) (lot_named lots label kinds.Single))) (with_none (unmap_steps f) (lot_named lots label kinds.Single) (λ lot. either (is_synced lot.side) [] (ending (turns.End lot.id) (return_steps f lot)) refl (return_none f (turns.End lot.id) lot))) e
quiet_opening f lots (ops.ToCpu label) e =
    off (begins_claim (with_lot [] (to_cpu_steps f) (lot_named lots label kinds.Single))) (with_none (to_cpu_steps f) (lot_named lots label kinds.Single) (λ lot. either (is_synced lot.side) [] (ending (turns.Sync lot.id) (return_steps f lot)) refl (return_none f (turns.Sync lot.id) lot))) e
quiet_opening f lots (ops.ToDev label) e =
    off (begins_claim (with_lot [] (to_dev_steps f) (lot_named lots label kinds.Single))) (with_none (to_dev_steps f) (lot_named lots label kinds.Single) (λ lot. either (is_synced lot.side) (lend_steps f lot) [] (lend_none f lot) refl)) e
quiet_opening f lots (ops.MapSg label entries dir chan) e = off (begins_claim (with_lot [] (lend_steps f) (lot_named lots label kinds.List))) (with_none (lend_steps f) (lot_named lots label kinds.List) (lend_none f)) e
quiet_opening f lots (ops.UnmapSg label count) e =
    off (begins_claim (with_lot [] (unmap_sg_steps f) (lot_named lots label kinds.List))) (with_none (unmap_sg_steps f) (lot_named lots label kinds.List) (λ lot. return_none f (turns.End lot.id) lot)) e
quiet_opening f lots (ops.Calloc label count chan) e =
    off (begins_claim (with_lot [] (calloc_steps f) (lot_named lots label kinds.Area))) (with_none (calloc_steps f) (lot_named lots label kinds.Area) (λ lot. ending_none (turns.Settle lot.id) _ (ops_none _))) e
quiet_opening f lots (ops.Cgive label) e =
    off (begins_claim (with_lot [] (give_steps f) (lot_named lots label kinds.Area))) (with_none (give_steps f) (lot_named lots label kinds.Area) (λ lot. either (is_own lot.side) (lending_end f lot) [] (end_none f lot) refl)) e
quiet_opening f lots (ops.Ctake label) e =
    off (begins_claim (with_lot [] take_steps (lot_named lots label kinds.Area))) (with_none take_steps (lot_named lots label kinds.Area) (λ lot. either (is_own lot.side) [] _ refl refl)) e
quiet_opening f lots (ops.Cfree label) e = off (begins_claim (with_lot [] free_steps (lot_named lots label kinds.Area))) (with_none free_steps (lot_named lots label kinds.Area) (λ lot. refl)) e
quiet_opening f lots (ops.Copy chan src src_off dst dst_off len cfg) e = refl
quiet_opening f lots _ e = absurd (false≢true e)
