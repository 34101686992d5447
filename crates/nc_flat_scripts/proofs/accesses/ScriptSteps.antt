-- The steps of an operation without a start step: no message among them, no cache operation on the coherent pool, and only
-- a take changes owners.
use Rattle.std.specs.Prelude.{Option, Some, None, Result, Ok, Err, slice_get, option_map, Bool, true}
use Rattle.std.proofs.Common.{◌≡◌, ◌⊎◌, ℕ, zero, suc, ◌+◌, List, length, refl, ap, inl, inr, subst, arith}
use Rattle.nc_num.specs.Places.{covers}
use Rattle.nc_num.specs.declared.names.ChanNo.{ChanNo}
use Rattle.nc_num.specs.declared.names.MemType.{MemType}
use Rattle.nc_num.specs.declared.places.Place.{Place}
use Rattle.nc_num.specs.declared.places.Span.{Span}
use Rattle.nc_env.specs.declared.CboOp.{CboOp}
use Rattle.nc_pte.specs.declared.translation.PageFault.{PageFault}
use Rattle.nc_plan.specs.Accesses.{step_of, piece_op, load_op, store_op, range, found, load_step, store_step}
use Rattle.nc_plan.specs.Registers.{regs_step}
use Rattle.nc_plan.specs.declared.access.At.{At}
use Rattle.nc_plan.specs.declared.ops.HartOp.{HartOp}
use Rattle.nc_plan.specs.declared.ops.HartOp.TheVariants as hart
use Rattle.nc_plan.specs.declared.ops.IoTarget.{IoTarget}
use Rattle.nc_plan.specs.declared.ops.IoTarget.TheVariants as io
use Rattle.nc_model.proofs.Faults.{covers-from}
use Rattle.nc_ops.specs.declared.ops.Op.{Op}
use Rattle.nc_ops.specs.declared.ops.Op.TheVariants as ops
use Rattle.nc_rules.specs.declared.answers.Refusal.{Refusal}
use Rattle.nc_rules.specs.declared.steps.Act.{Act}
use Rattle.nc_rules.specs.declared.steps.Act.TheVariants as acts
use Rattle.nc_rules.specs.declared.steps.Step.{Step}
use Rattle.nc_rules.specs.declared.steps.Turn.TheVariants as turns
use Rattle.nc_rules.specs.declared.lots.Lot.{Lot}
use Rattle.nc_rules.specs.Lots.{DriverConfig}
use Rattle.nc_rules.specs.Refusals.{◌>>=◌, buffer_of, part_of, legal}
use Rattle.nc_rules.specs.Plans.{step, hart_step, single, control_step}
use Rattle.nc_rules.specs.Accesses.{spot_at, piece_step}
use Rattle.nc_rules.specs.Accesses as accesses
use Rattle.nc_rules.specs.CacheOps.{effect_of, cbo_blocks, cbo_step}
use Rattle.nc_rules.specs.CacheOps as cache_ops
use Rattle.nc_rules.specs.Handing.{take_step}
use Rattle.nc_rules.specs.Handing as handing
use Rattle.nc_rules.specs.Channels.{bus_of, known}
use Rattle.nc_rules.specs.Channels as channels
use Rattle.nc_rules.specs.Mappings as mappings
use Rattle.nc_rules.specs.ScatterLists as lists
use Rattle.nc_rules.specs.Areas as areas
use Rattle.nc_rules.specs.Copies as copies
use Rattle.nc_rules.specs.Operations.{meaning, step_at}
use Rattle.nc_scripts.specs.Drivers.{IsFixed}
use Rattle.nc_scripts.proofs.DriverSteps.{passed, part_is}
use Rattle.nc_holds.specs.Held.{AreRegions}
use Rattle.nc_rows.specs.Parts.{IsBeside}
use Rattle.nc_flat_scripts.proofs.accesses.ScriptBlocks.{script_block}

-- an operation of a hart that sends no message, nor works on a block of the coherent pool
abbrev pub IsNoTarget : IoTarget → Type 0
IsNoTarget (io.Reg chan off width value) = Unit {0}
IsNoTarget (io.Mail buf to) = ⊥
IsNoTarget (io.Lend label first count) = ⊥

abbrev pub IsScriptOp : DriverConfig → HartOp → Type 0
IsScriptOp f (hart.IoStore target) = IsNoTarget target
IsScriptOp f (hart.Load span kind) = Unit {0}
IsScriptOp f (hart.Store span kind bytes) = Unit {0}
IsScriptOp f (hart.Cbo op block) = IsBeside f.pool f.size block.0
IsScriptOp f (hart.Fence pred succ) = Unit {0}
IsScriptOp f (hart.IoLoad chan off width) = Unit {0}
IsScriptOp f (hart.Mark pred succ) = Unit {0}

abbrev pub IsNoTake : DriverConfig → Act → Type 0
IsNoTake f (acts.Op op) = IsScriptOp f op
IsNoTake f (acts.Claim chan) = Unit {0}
IsNoTake f (acts.Poll chan) = Unit {0}
IsNoTake f (acts.Take buf) = ⊥

pub record IsOwn (f : DriverConfig) (s : Step) : Type 0 where
  pub first : s.first ≡ turns.Stay
  pub last : s.last ≡ turns.Stay
  pub act : IsNoTake f s.act

pub record Takes (f : DriverConfig) (o : Op) (s : Step) : Type 0 where
  pub buf : ℕ
  pub op : o ≡ ops.Take buf
  pub is : s ≡ take_step f buf

-- ---- chains of checks

through : {A : Type 0} (f : DriverConfig) (r : Result A Refusal) (g : A → Result (Option Step) Refusal) (s : Step) → ((x : A) → g x ≡ Ok (Some s) → IsOwn f s) → r >>= g ≡ Ok (Some s) → IsOwn f s
through f (Ok x) g s rest e = rest x e
through f (Err r) g s rest e = absurd cc

own_hart : (f : DriverConfig) (op : HartOp) (s : Step) → IsScriptOp f op → hart_step op ≡ s → IsOwn f s
own_hart f op s quiet e = subst (IsOwn f) e (record { first = refl; last = refl; act = quiet })

own_single : (f : DriverConfig) (t : Step) (n : ℕ) (s : Step) → IsOwn f t → ◌≡◌ {A = Result (Option Step) Refusal} (Ok (single t n)) (Ok (Some s)) → IsOwn f s
own_single f t zero s own e = let same : t ≡ s = cc in subst (IsOwn f) same own
own_single f t (suc n) s own e = absurd cc

none_such : (f : DriverConfig) (s : Step) → ◌≡◌ {A = Result (Option Step) Refusal} (Ok None) (Ok (Some s)) → IsOwn f s
none_such f s e = absurd cc

-- ---- pieces

piece_quiet : (f : DriverConfig) (op : Span → MemType → HartOp) (len : ℕ) (r : Result (MemType × Place) PageFault) (a : HartOp) → ((there : Span) (kind : MemType) → IsScriptOp f (op there kind)) → piece_op op len r ≡ Ok (Some a) → IsScriptOp f a
piece_quiet f op len (Ok there) a quiet e = let same : op (record { at = there.1.0; len = len }) there.0 ≡ a = cc in subst (IsScriptOp f) same (quiet (record { at = there.1.0; len = len }) there.0)
piece_quiet f op len (Err fault) a quiet e = absurd cc

steps_quiet : (f : DriverConfig) (op : Span → Span → MemType → HartOp) (to : At) (pbmte : Bool) (table : List ℕ) (o : Option Span) (a : HartOp) → ((piece there : Span) (kind : MemType) → IsScriptOp f (op piece there kind)) → step_of op to pbmte table o ≡ Ok (Some a) → IsScriptOp f a
steps_quiet f op to pbmte table None a quiet e = absurd cc
steps_quiet f op to pbmte table (Some piece) a quiet e = piece_quiet f (op piece) piece.len (found to pbmte table piece.at) a (quiet piece) e

own_piece : (f : DriverConfig) (r : Result (Option HartOp) PageFault) (s : Step) → ((a : HartOp) → r ≡ Ok (Some a) → IsScriptOp f a) → piece_step r ≡ Ok (Some s) → IsOwn f s
own_piece f (Ok None) s quiet e = absurd cc
own_piece f (Ok (Some op)) s quiet e = let same : hart_step op ≡ s = cc in own_hart f op s (quiet op refl) same
own_piece f (Err fault) s quiet e = absurd cc

load_quiet : (f : DriverConfig) (to : At) (pbmte : Bool) (table : List ℕ) (len n : ℕ) (a : HartOp) → load_step to pbmte table len n ≡ Ok (Some a) → IsScriptOp f a
unfolding load_step
load_quiet f to pbmte table len n a e = steps_quiet f load_op to pbmte table _ a (λ piece there kind. tt) e

store_quiet : (f : DriverConfig) (to : At) (pbmte : Bool) (table bytes : List ℕ) (n : ℕ) (a : HartOp) → store_step to pbmte table bytes n ≡ Ok (Some a) → IsScriptOp f a
unfolding store_step
store_quiet f to pbmte table bytes n a e = steps_quiet f (store_op (range to (length bytes)).at bytes) to pbmte table _ a (λ piece there kind. tt) e

-- ---- the rest

own_block : (f : DriverConfig) (effect : CboOp) (o : Option ℕ) (s : Step) → ((b : ℕ) → o ≡ Some b → IsBeside f.pool f.size b) → ◌≡◌ {A = Result (Option Step) Refusal} (Ok (option_map (cbo_step effect) o)) (Ok (Some s)) → IsOwn f s
own_block f effect None s beside e = absurd cc
own_block f effect (Some b) s beside e = let same : cbo_step effect b ≡ s = cc in subst (IsOwn f) same (record { first = refl; last = refl; act = beside b refl })

-- the byte that it names is one of the buffer
part_at : (range : Span) (off : ℕ) (byte : Span) → part_of range off 1 ≡ Ok byte → covers range byte.at ≡ true
part_at range off byte e =
    let is = part_is range off 1 byte e in
    let at : byte.at ≡ range.at + off = ap (λ (s : Span). s.at) is.0 in
    covers-from range byte.at (omega (arith, at)) (omega (arith, at, is.1))

own_cbo : (ram harts : ℕ) (f : DriverConfig) (op : CboOp) (buf off n : ℕ) (s : Step) → IsFixed ram harts f → AreRegions f
    → (part_of (buffer_of f buf) off 1 >>= λ byte. legal (effect_of f.effects op) >>= λ effect. Ok (option_map (cbo_step effect) (slice_get (cbo_blocks f op byte.at) n))) ≡ Ok (Some s) → IsOwn f s
own_cbo ram harts f op buf off n s fixed regions e =
    let p = passed (part_of (buffer_of f buf) off 1) (λ byte. legal (effect_of f.effects op) >>= λ effect. Ok (option_map (cbo_step effect) (slice_get (cbo_blocks f op byte.at) n))) (Some s) e in
    let on = part_at (buffer_of f buf) off p.value p.first in
    through f (legal (effect_of f.effects op)) (λ effect. Ok (option_map (cbo_step effect) (slice_get (cbo_blocks f op p.value.at) n))) s
    (λ effect q. own_block f effect (slice_get (cbo_blocks f op p.value.at) n) s (λ b is. script_block ram harts f op buf p.value.at n b fixed regions on is) q) p.rest

own_reg : (f : DriverConfig) (o : Option HartOp) (s : Step) → ((op : HartOp) → o ≡ Some op → IsScriptOp f op) → ◌≡◌ {A = Result (Option Step) Refusal} (Ok (option_map hart_step o)) (Ok (Some s)) → IsOwn f s
own_reg f None s quiet e = absurd cc
own_reg f (Some op) s quiet e = let same : hart_step op ≡ s = cc in own_hart f op s (quiet op refl) same

some_same : (f : DriverConfig) (a b : HartOp) → Some a ≡ Some b → IsScriptOp f a → IsScriptOp f b
some_same f a b e quiet = let same : a ≡ b = cc in subst (IsScriptOp f) same quiet

regs_quiet : (f : DriverConfig) (chan : ChanNo) (source target len cfg n : ℕ) (op : HartOp) → regs_step chan source target len cfg n ≡ Some op → IsScriptOp f op
regs_quiet f chan source target len cfg zero op e = some_same f _ op e tt
regs_quiet f chan source target len cfg (suc zero) op e = some_same f _ op e tt
regs_quiet f chan source target len cfg (suc (suc zero)) op e = some_same f _ op e tt
regs_quiet f chan source target len cfg (suc (suc (suc zero))) op e = some_same f _ op e tt
regs_quiet f chan source target len cfg (suc (suc (suc (suc n)))) op e = absurd cc

take_is : (f : DriverConfig) (buf n : ℕ) (s : Step) → ◌≡◌ {A = Result (Option Step) Refusal} (Ok (single (take_step f buf) n)) (Ok (Some s)) → s ≡ take_step f buf
take_is f buf zero s e = cc
take_is f buf (suc n) s e = absurd cc

pub script_step : (ram harts : ℕ) (f : DriverConfig) (lots : List Lot) (o : Op) (n : ℕ) (s : Step) → IsFixed ram harts f → AreRegions f → step_at f lots o n ≡ Ok (Some s) → IsOwn f s ⊎ Takes f o s
unfolding step_at meaning accesses.load accesses.store cache_ops.cache_operation cache_ops.fence handing.take handing.hand channels.claim channels.free channels.set_up channels.run channels.poll channels.read_register channels.write_register mappings.map_single mappings.unmap_single mappings.sync_for_cpu mappings.sync_for_device lists.map_sg lists.unmap_sg areas.calloc areas.give_area areas.take_area areas.free_area copies.copy
script_step ram harts f lots (ops.Ld spot off len) n s fixed regions e = inl (through f (spot_at f lots spot off len) _ s (λ to p. own_piece f (load_step to f.pbmte f.table len n) s (load_quiet f to f.pbmte f.table len n) p) e)
script_step ram harts f lots (ops.St spot off bytes) n s fixed regions e = inl (through f (spot_at f lots spot off (length bytes)) _ s (λ to p. own_piece f (store_step to f.pbmte f.table bytes n) s (store_quiet f to f.pbmte f.table bytes n) p) e)
script_step ram harts f lots (ops.Cbo op buf off) n s fixed regions e = inl (own_cbo ram harts f op buf off n s fixed regions e)
script_step ram harts f lots (ops.Fence pred succ) n s fixed regions e = inl (own_single f (hart_step (hart.Fence pred succ)) n s (record { first = refl; last = refl; act = tt }) e)
script_step ram harts f lots (ops.Take buf) n s fixed regions e = inr (record { buf = buf; op = refl; is = take_is f buf n s e })
script_step ram harts f lots (ops.Claim chan) n s fixed regions e = inl (own_single f (step (acts.Claim chan)) n s (record { first = refl; last = refl; act = tt }) e)
script_step ram harts f lots (ops.Free chan) n s fixed regions e = inl (own_single f (control_step chan 0) n s (record { first = refl; last = refl; act = tt }) e)
script_step ram harts f lots (ops.Regs chan src dst len cfg) n s fixed regions e =
    inl (through f (bus_of f lots src) _ s (λ source p. through f (bus_of f lots dst) _ s (λ target q. own_reg f (regs_step chan source target len cfg n) s (regs_quiet f chan source target len cfg n) q) p) e)
script_step ram harts f lots (ops.Run chan) n s fixed regions e = inl (own_single f (control_step chan 3) n s (record { first = refl; last = refl; act = tt }) e)
script_step ram harts f lots (ops.Poll chan) n s fixed regions e = inl (own_single f (step (acts.Poll chan)) n s (record { first = refl; last = refl; act = tt }) e)
script_step ram harts f lots (ops.Regr chan off width) n s fixed regions e = inl (through f (known off width) _ s (λ _ p. own_single f (hart_step (hart.IoLoad chan off width)) n s (record { first = refl; last = refl; act = tt }) p) e)
script_step ram harts f lots (ops.Regw chan off width value) n s fixed regions e = inl (through f (known off width) _ s (λ _ p. own_single f (hart_step (hart.IoStore (io.Reg chan off width value))) n s (record { first = refl; last = refl; act = tt }) p) e)
script_step ram harts f lots (ops.Hand buf to) n s fixed regions e = inl (none_such f s e)
script_step ram harts f lots (ops.Map label buf off len dir chan) n s fixed regions e = inl (none_such f s e)
script_step ram harts f lots (ops.Unmap label) n s fixed regions e = inl (none_such f s e)
script_step ram harts f lots (ops.ToCpu label) n s fixed regions e = inl (none_such f s e)
script_step ram harts f lots (ops.ToDev label) n s fixed regions e = inl (none_such f s e)
script_step ram harts f lots (ops.MapSg label entries dir chan) n s fixed regions e = inl (none_such f s e)
script_step ram harts f lots (ops.UnmapSg label count) n s fixed regions e = inl (none_such f s e)
script_step ram harts f lots (ops.Calloc label pages chan) n s fixed regions e = inl (none_such f s e)
script_step ram harts f lots (ops.Cgive label) n s fixed regions e = inl (none_such f s e)
script_step ram harts f lots (ops.Ctake label) n s fixed regions e = inl (none_such f s e)
script_step ram harts f lots (ops.Cfree label) n s fixed regions e = inl (none_such f s e)
script_step ram harts f lots (ops.Copy chan src src_off dst dst_off len cfg) n s fixed regions e = inl (none_such f s e)
