-- The operations of a script: what each of them means. Each family has a file: Accesses, CacheOps, Mappings,
-- ScatterLists, Areas, Handing, Channels, Copies. This project's own, but for the standards that the files name.
use Rattle.std.specs.Prelude.{ℕ, Bool, true, false, List, Option, Some, None, Result}
use Rattle.nc_num.specs.declared.names.Label.{Label}
use Rattle.nc_model.specs.declared.owners.Owner.{Owner}
use Rattle.nc_coherent.specs.Pages.{PageMap}
use Rattle.nc_ops.specs.declared.ops.Op.{Op}
use Rattle.nc_ops.specs.declared.ops.Op.TheVariants as ops
use Rattle.nc_rules.specs.declared.answers.Answer.{Answer}
use Rattle.nc_rules.specs.declared.answers.Refusal.{Refusal}
use Rattle.nc_rules.specs.declared.lots.Lot.{Lot}
use Rattle.nc_rules.specs.declared.steps.Seen.{Seen}
use Rattle.nc_rules.specs.declared.steps.Step.{Step}
use Rattle.nc_rules.specs.declared.steps.Turn.{Turn}
use Rattle.nc_rules.specs.Lots.{DriverConfig}
use Rattle.nc_rules.specs.Meanings.{Meaning, step_of_way, begin_of_way, opening_of_way, plan_of_way}
use Rattle.nc_rules.specs.Accesses as accesses
use Rattle.nc_rules.specs.CacheOps as cache_ops
use Rattle.nc_rules.specs.Mappings as mappings
use Rattle.nc_rules.specs.ScatterLists as lists
use Rattle.nc_rules.specs.Areas as areas
use Rattle.nc_rules.specs.Handing as handing
use Rattle.nc_rules.specs.Channels as channels
use Rattle.nc_rules.specs.Copies as copies

-- what an operation means, where the hart has these lots
unfoldable pub meaning : DriverConfig → List Lot → Op → Meaning
meaning f lots (ops.Ld spot off len) = accesses.load f lots spot off len
meaning f lots (ops.St spot off bytes) = accesses.store f lots spot off bytes
meaning f lots (ops.Cbo op buf off) = cache_ops.cache_operation f op buf off
meaning f lots (ops.Fence pred succ) = cache_ops.fence pred succ
meaning f lots (ops.Map label buf off len dir chan) = mappings.map_single f lots label (record { buf = buf; off = off; len = len }) dir chan
meaning f lots (ops.Unmap label) = mappings.unmap_single f lots label
meaning f lots (ops.ToCpu label) = mappings.sync_for_cpu f lots label
meaning f lots (ops.ToDev label) = mappings.sync_for_device f lots label
meaning f lots (ops.MapSg label entries dir chan) = lists.map_sg f lots label entries dir chan
meaning f lots (ops.UnmapSg label count) = lists.unmap_sg f lots label count
meaning f lots (ops.Calloc label pages chan) = areas.calloc f lots label pages chan
meaning f lots (ops.Cgive label) = areas.give_area f lots label
meaning f lots (ops.Ctake label) = areas.take_area f lots label
meaning f lots (ops.Cfree label) = areas.free_area f lots label
meaning f lots (ops.Hand buf to) = handing.hand f buf to
meaning f lots (ops.Take buf) = handing.take f buf
meaning f lots (ops.Claim chan) = channels.claim chan
meaning f lots (ops.Free chan) = channels.free chan
meaning f lots (ops.Regs chan src dst len cfg) = channels.set_up f lots chan src dst len cfg
meaning f lots (ops.Run chan) = channels.run chan
meaning f lots (ops.Poll chan) = channels.poll chan
meaning f lots (ops.Regr chan off width) = channels.read_register chan off width
meaning f lots (ops.Regw chan off width value) = channels.write_register chan off width value
meaning f lots (ops.Copy chan src src_off dst dst_off len cfg) =
    copies.copy f lots chan (record { buf = src; off = src_off; len = len }) (record { buf = dst; off = dst_off; len = len }) cfg

-- ---- its parts

-- it has a start step of its own
abbrev pub has_start : Op → Bool
has_start (ops.Ld spot off len) = false
has_start (ops.St spot off bytes) = false
has_start (ops.Cbo op buf off) = false
has_start (ops.Fence pred succ) = false
has_start (ops.Map label buf off len dir chan) = true
has_start (ops.Unmap label) = true
has_start (ops.ToCpu label) = true
has_start (ops.ToDev label) = true
has_start (ops.MapSg label entries dir chan) = true
has_start (ops.UnmapSg label count) = true
has_start (ops.Calloc label pages chan) = true
has_start (ops.Cgive label) = true
has_start (ops.Ctake label) = true
has_start (ops.Cfree label) = true
has_start (ops.Hand buf to) = true
has_start (ops.Take buf) = false
has_start (ops.Claim chan) = false
has_start (ops.Free chan) = false
has_start (ops.Regs chan src dst len cfg) = false
has_start (ops.Run chan) = false
has_start (ops.Poll chan) = false
has_start (ops.Regr chan off width) = false
has_start (ops.Regw chan off width value) = false
has_start (ops.Copy chan src src_off dst dst_off len cfg) = true

-- step n, counted from 0, of an operation without a start step
unfoldable pub step_at : DriverConfig → List Lot → Op → ℕ → Result (Option Step) Refusal
step_at f lots o n = step_of_way (meaning f lots o).way n

-- the tests of a start step, and the lots that it makes
unfoldable pub begin : DriverConfig → List Lot → List Owner → PageMap → Op → Result (List Lot) Refusal
begin f lots owners pages o = begin_of_way (meaning f lots o).way owners pages

-- what comes with the last slot that was wanted, or with the start where none was
unfoldable pub opening : DriverConfig → List Lot → Op → Turn
opening f lots o = opening_of_way (meaning f lots o).way

unfoldable pub plan_of : DriverConfig → List Lot → Op → List Step
plan_of f lots o = plan_of_way (meaning f lots o).way

-- the answer of an operation that was not refused, by what its steps saw last
unfoldable pub good_answer : DriverConfig → List Lot → Op → Seen → Option Answer
good_answer f lots o saw = (meaning f lots o).good saw

unfoldable pub bad_answer : DriverConfig → List Lot → Op → Refusal → Answer
bad_answer f lots o r = (meaning f lots o).bad r

-- ---- light fences

-- the label whose token an operation waits for before its first step: it takes back, gives or ends what the token
-- is still to lend
abbrev pub waited_label : Op → Option Label
waited_label (ops.Unmap label) = Some label
waited_label (ops.UnmapSg label count) = Some label
waited_label (ops.ToCpu label) = Some label
waited_label (ops.ToDev label) = Some label
waited_label (ops.Cgive label) = Some label
waited_label (ops.Ctake label) = Some label
waited_label (ops.Cfree label) = Some label
waited_label (ops.Ld spot off len) = None
waited_label (ops.St spot off bytes) = None
waited_label (ops.Cbo op buf off) = None
waited_label (ops.Fence pred succ) = None
waited_label (ops.Map label buf off len dir chan) = None
waited_label (ops.MapSg label entries dir chan) = None
waited_label (ops.Calloc label pages chan) = None
waited_label (ops.Hand buf to) = None
waited_label (ops.Take buf) = None
waited_label (ops.Claim chan) = None
waited_label (ops.Free chan) = None
waited_label (ops.Regs chan src dst len cfg) = None
waited_label (ops.Run chan) = None
waited_label (ops.Poll chan) = None
waited_label (ops.Regr chan off width) = None
waited_label (ops.Regw chan off width value) = None
waited_label (ops.Copy chan src src_off dst dst_off len cfg) = None
