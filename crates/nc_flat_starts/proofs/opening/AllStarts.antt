-- The start of each operation that lends and takes back: flat memory's bytes stand behind it.
use Rattle.std.specs.Prelude.{Option, true}
use Rattle.std.proofs.Common.{◌≡◌, ℕ, List, refl, sym, subst}
use Rattle.std.proofs.lemmas.Bool.{cond-true}
use Rattle.nc_num.specs.declared.names.HartNo.{HartNo}
use Rattle.nc_ops.specs.declared.ops.Op.{Op}
use Rattle.nc_ops.specs.declared.ops.Op.TheVariants as ops
use Rattle.nc_scen.specs.declared.scenario.Scenario.{Scenario}
use Rattle.nc_rules.specs.Operations.{has_start, begin, step_at}
use Rattle.nc_rules.specs.Driver.{Went, begun, started, started_of, refused_step, steps_done}
use Rattle.nc_rules.specs.World.{WorldState, driver_of}
use Rattle.nc_flatness.specs.Copying.{CopyOp, copy_op}
use Rattle.nc_flatness.specs.Lending.{is_lending}
use Rattle.nc_flatness.specs.Flatness.{BytesStand}
use Rattle.nc_flatness.proofs.worlds.Outcomes.{gone}
use Rattle.nc_flat_starts.proofs.areas.AllocStarts.{calloc_bytes}
use Rattle.nc_flat_starts.proofs.areas.AreaStarts.{give_bytes, take_bytes, free_bytes}
use Rattle.nc_flat_starts.proofs.opening.Calls.{OneMap, ListMap, TwoEnds}
use Rattle.nc_flat_starts.proofs.opening.Lendings.{lending_starts}
use Rattle.nc_flat_starts.proofs.opening.MakeStarts.{map_bytes}
use Rattle.nc_flat_starts.proofs.opening.Starts.{IsStart}
use Rattle.nc_flat_starts.proofs.opening.MapStarts.{dev_bytes, cpu_bytes, unmap_bytes, list_bytes}

begun_bytes : (sc : Scenario) (f : List ℕ) (w : WorldState) (h : HartNo) (o : Op) → IsStart sc f w h o → is_lending o ≡ true → BytesStand sc f (gone w h w.machine (begun (driver_of w h.0) o (begin (driver_of w h.0).fixed (driver_of w h.0).lots w.owners w.pages o)))
begun_bytes sc f w h (ops.Map label buf off len dir chan) s is = map_bytes sc f w h (ops.Map label buf off len dir chan) (begin (driver_of w h.0).fixed (driver_of w h.0).lots w.owners w.pages (ops.Map label buf off len dir chan)) s (OneMap label buf off len dir chan refl) refl
begun_bytes sc f w h (ops.MapSg label es dir chan) s is = map_bytes sc f w h (ops.MapSg label es dir chan) (begin (driver_of w h.0).fixed (driver_of w h.0).lots w.owners w.pages (ops.MapSg label es dir chan)) s (ListMap label es dir chan refl) refl
begun_bytes sc f w h (ops.Unmap label) s is = unmap_bytes sc f w h label (begin (driver_of w h.0).fixed (driver_of w h.0).lots w.owners w.pages (ops.Unmap label)) s refl
begun_bytes sc f w h (ops.ToCpu label) s is = cpu_bytes sc f w h label (begin (driver_of w h.0).fixed (driver_of w h.0).lots w.owners w.pages (ops.ToCpu label)) s refl
begun_bytes sc f w h (ops.ToDev label) s is = dev_bytes sc f w h label (begin (driver_of w h.0).fixed (driver_of w h.0).lots w.owners w.pages (ops.ToDev label)) s refl
begun_bytes sc f w h (ops.UnmapSg label count) s is = list_bytes sc f w h label count (begin (driver_of w h.0).fixed (driver_of w h.0).lots w.owners w.pages (ops.UnmapSg label count)) s refl
begun_bytes sc f w h (ops.Ld spot off len) s is = absurd cc
begun_bytes sc f w h (ops.St spot off bytes) s is = absurd cc
begun_bytes sc f w h (ops.Cbo op buf off) s is = absurd cc
begun_bytes sc f w h (ops.Fence pred succ) s is = absurd cc
begun_bytes sc f w h (ops.Calloc label count chan) s is = calloc_bytes sc f w h label count chan (begin (driver_of w h.0).fixed (driver_of w h.0).lots w.owners w.pages (ops.Calloc label count chan)) s refl
begun_bytes sc f w h (ops.Cgive label) s is = give_bytes sc f w h label (begin (driver_of w h.0).fixed (driver_of w h.0).lots w.owners w.pages (ops.Cgive label)) s refl
begun_bytes sc f w h (ops.Ctake label) s is = take_bytes sc f w h label (begin (driver_of w h.0).fixed (driver_of w h.0).lots w.owners w.pages (ops.Ctake label)) s refl
begun_bytes sc f w h (ops.Cfree label) s is = free_bytes sc f w h label (begin (driver_of w h.0).fixed (driver_of w h.0).lots w.owners w.pages (ops.Cfree label)) s refl
begun_bytes sc f w h (ops.Hand buf to) s is = absurd cc
begun_bytes sc f w h (ops.Take buf) s is = absurd cc
begun_bytes sc f w h (ops.Claim chan) s is = absurd cc
begun_bytes sc f w h (ops.Free chan) s is = absurd cc
begun_bytes sc f w h (ops.Regs chan src dst len cfg) s is = absurd cc
begun_bytes sc f w h (ops.Run chan) s is = absurd cc
begun_bytes sc f w h (ops.Poll chan) s is = absurd cc
begun_bytes sc f w h (ops.Regr chan off width) s is = absurd cc
begun_bytes sc f w h (ops.Regw chan off width value) s is = absurd cc
begun_bytes sc f w h (ops.Copy chan src src_off dst dst_off len cfg) s is =
    let k : CopyOp = record { chan = chan; src = src; src_off = src_off; dst = dst; dst_off = dst_off; len = len; config = cfg } in
    map_bytes sc f w h (copy_op k) (begin (driver_of w h.0).fixed (driver_of w h.0).lots w.owners w.pages (copy_op k)) s (TwoEnds k refl) refl

pub start_bytes : (sc : Scenario) (f : List ℕ) (w : WorldState) (h : HartNo) (o : Op) → IsStart sc f w h o → BytesStand sc f (gone w h w.machine (started (driver_of w h.0) w.owners w.pages))
unfolding started
start_bytes sc f w h o s =
    let d = driver_of w h.0 in
    subst (λ (k : Option Op). BytesStand sc f (gone w h w.machine (started_of d w.owners w.pages k))) (sym s.hand)
    (subst (λ (went : Went). BytesStand sc f (gone w h w.machine went)) (sym (cond-true (has_start o) (begun d o (begin d.fixed d.lots w.owners w.pages o)) (refused_step d o (step_at d.fixed d.lots o (steps_done d.phase))) (lending_starts o s.lends)))
    (begun_bytes sc f w h o s s.lends))
