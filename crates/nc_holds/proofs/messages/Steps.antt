-- The steps of operations without a plan: none queues a message or a token, and only a take turns a range.
use Rattle.std.specs.Prelude.{Option, Some, None, Result, Ok, Err, slice_get, option_map}
use Rattle.std.proofs.Common.{◌≡◌, ℕ, zero, suc, Bool, List, length, refl, subst}
use Rattle.nc_num.specs.Places.{pieces}
use Rattle.nc_num.specs.declared.names.ChanNo.{ChanNo}
use Rattle.nc_num.specs.declared.names.MemType.{MemType}
use Rattle.nc_num.specs.declared.places.Place.{Place}
use Rattle.nc_num.specs.declared.places.Span.{Span}
use Rattle.nc_env.specs.declared.CboOp.{CboOp}
use Rattle.nc_pte.specs.declared.translation.PageFault.{PageFault}
use Rattle.nc_plan.specs.Accesses.{range, found, piece_op, load_op, store_op, step_of, load_step, store_step}
use Rattle.nc_plan.specs.Registers as registers
use Rattle.nc_plan.specs.declared.access.At.{At}
use Rattle.nc_plan.specs.declared.ops.HartOp.{HartOp}
use Rattle.nc_plan.specs.declared.ops.HartOp.TheVariants as hart
use Rattle.nc_plan.specs.declared.ops.IoTarget.TheVariants as io
use Rattle.nc_ops.specs.declared.ops.Op.{Op}
use Rattle.nc_ops.specs.declared.ops.Op.TheVariants as ops
use Rattle.nc_rules.specs.declared.answers.Refusal.{Refusal}
use Rattle.nc_rules.specs.declared.lots.Lot.{Lot}
use Rattle.nc_rules.specs.declared.steps.Act.TheVariants as acts
use Rattle.nc_rules.specs.declared.steps.Step.{Step}
use Rattle.nc_rules.specs.declared.steps.Turn.TheVariants as turns
use Rattle.nc_rules.specs.Lots.{DriverConfig}
use Rattle.nc_rules.specs.Refusals.{◌>>=◌, buffer_of, part_of, legal}
use Rattle.nc_rules.specs.Plans.{step, hart_step, single, control_step}
use Rattle.nc_rules.specs.Accesses as accesses
use Rattle.nc_rules.specs.Accesses.{spot_at, piece_step}
use Rattle.nc_rules.specs.CacheOps as cache_ops
use Rattle.nc_rules.specs.CacheOps.{effect_of, cbo_blocks, cbo_step}
use Rattle.nc_rules.specs.Channels as channels
use Rattle.nc_rules.specs.Channels.{bus_of, known}
use Rattle.nc_rules.specs.Handing as handing
use Rattle.nc_rules.specs.Handing.{take_step}
use Rattle.nc_rules.specs.Mappings as mappings
use Rattle.nc_rules.specs.ScatterLists as lists
use Rattle.nc_rules.specs.Areas as areas
use Rattle.nc_rules.specs.Copies as copies
use Rattle.nc_rules.specs.Operations.{meaning, step_at}
use Rattle.nc_scripts.proofs.DriverSteps.{passed}
use Rattle.nc_holds.proofs.tokens.QuietSteps.{IsQuiet, IsQuietOp, op_quiet}
use Rattle.nc_holds.proofs.tokens.Rests.{IsStay}

-- it is quiet, or it is the step of a take
pub data Numbered (f : DriverConfig) (o : Op) (s : Step) : Type 0 where
  Quietly : IsQuiet IsStay s → Numbered f o s
  Takes : (buf : ℕ) → o ≡ ops.Take buf → take_step f buf ≡ s → Numbered f o s

-- no such step turns anything at its beginning
pub numbered_first : (f : DriverConfig) (o : Op) (s : Step) → Numbered f o s → s.first ≡ turns.Stay
numbered_first f o s (Quietly h) = h.first
numbered_first f o s (Takes buf op e) = subst (λ (u : Step). u.first ≡ turns.Stay) e refl

-- ---- forms

same_quiet : (s t : Step) → IsQuiet IsStay s → s ≡ t → IsQuiet IsStay t
same_quiet s t h e = subst (λ (u : Step). IsQuiet IsStay u) e h

one_step : (s t : Step) (n : ℕ) → ◌≡◌ {A = Result (Option Step) Refusal} (Ok (single s n)) (Ok (Some t)) → s ≡ t
one_step s t zero e = cc
one_step s t (suc n) e = absurd cc

single_quiet : (f : DriverConfig) (o : Op) (s t : Step) (n : ℕ) → IsQuiet IsStay s → ◌≡◌ {A = Result (Option Step) Refusal} (Ok (single s n)) (Ok (Some t)) → Numbered f o t
single_quiet f o s t n h e = Quietly (same_quiet s t h (one_step s t n e))

op_stays : (op : HartOp) → IsQuietOp op → IsQuiet IsStay (hart_step op)
op_stays op h = op_quiet IsStay op refl h

-- ---- pieces

place_quiet : (op : Span → MemType → HartOp) (len : ℕ) (r : Result (MemType × Place) PageFault) (s : Step) → ((t : Span) (k : MemType) → IsQuietOp (op t k)) → piece_step (piece_op op len r) ≡ Ok (Some s) → IsQuiet IsStay s
place_quiet op len (Ok there) s h e =
    let same : hart_step (op (record { at = there.1.0; len = len }) there.0) ≡ s = cc in
    same_quiet _ s (op_stays (op (record { at = there.1.0; len = len }) there.0) (h (record { at = there.1.0; len = len }) there.0)) same
place_quiet op len (Err fault) s h e = absurd cc

piece_quiet : (op : Span → Span → MemType → HartOp) (to : At) (pbmte : Bool) (table : List ℕ) (o : Option Span) (s : Step) → ((p t : Span) (k : MemType) → IsQuietOp (op p t k)) → piece_step (step_of op to pbmte table o) ≡ Ok (Some s) → IsQuiet IsStay s
piece_quiet op to pbmte table None s h e = absurd cc
piece_quiet op to pbmte table (Some piece) s h e = place_quiet (op piece) piece.len (found to pbmte table piece.at) s (h piece) e

load_quiet : (f : DriverConfig) (to : At) (len n : ℕ) (s : Step) → piece_step (load_step to f.pbmte f.table len n) ≡ Ok (Some s) → IsQuiet IsStay s
unfolding load_step
load_quiet f to len n s e = piece_quiet load_op to f.pbmte f.table (slice_get (pieces (range to len)) n) s (λ p t k. record { mail = λ b. refl; token = refl }) e

store_quiet : (f : DriverConfig) (to : At) (bytes : List ℕ) (n : ℕ) (s : Step) → piece_step (store_step to f.pbmte f.table bytes n) ≡ Ok (Some s) → IsQuiet IsStay s
unfolding store_step
store_quiet f to bytes n s e =
    piece_quiet (store_op (range to (length bytes)).at bytes) to f.pbmte f.table (slice_get (pieces (range to (length bytes))) n) s (λ p t k. record { mail = λ b. refl; token = refl }) e

-- ---- cache operations and registers

cbo_quiet : (f : DriverConfig) (effect : CboOp) (o : Option ℕ) (s : Step) → ◌≡◌ {A = Result (Option Step) Refusal} (Ok (option_map (cbo_step effect) o)) (Ok (Some s)) → IsQuiet IsStay s
cbo_quiet f effect None s e = absurd cc
cbo_quiet f effect (Some b) s e =
    let same : cbo_step effect b ≡ s = cc in
    same_quiet (cbo_step effect b) s (op_stays (hart.Cbo effect (record { 0 = b })) (record { mail = λ b. refl; token = refl })) same

reg_stays : (chan : ChanNo) (off width value : ℕ) → IsQuiet IsStay (hart_step (hart.IoStore (io.Reg chan off width value)))
reg_stays chan off width value = op_stays (hart.IoStore (io.Reg chan off width value)) (record { mail = λ b. refl; token = refl })

regs_quiet : (chan : ChanNo) (from to len cfg n : ℕ) (s : Step) → ◌≡◌ {A = Result (Option Step) Refusal} (Ok (option_map hart_step (registers.regs_step chan from to len cfg n))) (Ok (Some s)) → IsQuiet IsStay s
regs_quiet chan from to len cfg zero s e = same_quiet _ s (reg_stays chan 0x004 4 cfg) (cc)
regs_quiet chan from to len cfg (suc zero) s e = same_quiet _ s (reg_stays chan 0x008 8 len) (cc)
regs_quiet chan from to len cfg (suc (suc zero)) s e = same_quiet _ s (reg_stays chan 0x010 8 to) (cc)
regs_quiet chan from to len cfg (suc (suc (suc zero))) s e = same_quiet _ s (reg_stays chan 0x018 8 from) (cc)
regs_quiet chan from to len cfg (suc (suc (suc (suc n)))) s e = absurd (cc)

-- ---- every operation

pub numbered : (f : DriverConfig) (lots : List Lot) (o : Op) (n : ℕ) (s : Step) → step_at f lots o n ≡ Ok (Some s) → Numbered f o s
unfolding step_at meaning accesses.load accesses.store cache_ops.cache_operation cache_ops.fence handing.take handing.hand channels.claim channels.free channels.set_up channels.run channels.poll channels.read_register channels.write_register mappings.map_single mappings.unmap_single mappings.sync_for_cpu mappings.sync_for_device lists.map_sg lists.unmap_sg areas.calloc areas.give_area areas.take_area areas.free_area copies.copy
numbered f lots (ops.Ld spot off len) n s e =
    let p = passed (spot_at f lots spot off len) (λ to. piece_step (load_step to f.pbmte f.table len n)) (Some s) e in
    Quietly (load_quiet f p.value len n s p.rest)
numbered f lots (ops.St spot off bytes) n s e =
    let p = passed (spot_at f lots spot off (length bytes)) (λ to. piece_step (store_step to f.pbmte f.table bytes n)) (Some s) e in
    Quietly (store_quiet f p.value bytes n s p.rest)
numbered f lots (ops.Cbo op buf off) n s e =
    let p = passed (part_of (buffer_of f buf) off 1) (λ byte. legal (effect_of f.effects op) >>= λ effect. Ok (option_map (cbo_step effect) (slice_get (cbo_blocks f op byte.at) n))) (Some s) e in
    let q = passed (legal (effect_of f.effects op)) (λ effect. Ok (option_map (cbo_step effect) (slice_get (cbo_blocks f op p.value.at) n))) (Some s) p.rest in
    Quietly (cbo_quiet f q.value (slice_get (cbo_blocks f op p.value.at) n) s q.rest)
numbered f lots (ops.Fence pred succ) n s e = single_quiet f _ (hart_step (hart.Fence pred succ)) s n (op_stays (hart.Fence pred succ) (record { mail = λ b. refl; token = refl })) e
numbered f lots (ops.Take buf) n s e = Takes buf refl (one_step (take_step f buf) s n e)
numbered f lots (ops.Claim chan) n s e = single_quiet f _ (step (acts.Claim chan)) s n (record { act = record { mail = λ b. refl; token = refl }; first = refl; last = refl }) e
numbered f lots (ops.Free chan) n s e = single_quiet f _ (control_step chan 0) s n (reg_stays chan 0 4 0) e
numbered f lots (ops.Regs chan src dst len cfg) n s e =
    let p = passed (bus_of f lots src) (λ source. bus_of f lots dst >>= λ target. Ok (option_map hart_step (registers.regs_step chan source target len cfg n))) (Some s) e in
    let q = passed (bus_of f lots dst) (λ target. Ok (option_map hart_step (registers.regs_step chan p.value target len cfg n))) (Some s) p.rest in
    Quietly (regs_quiet chan p.value q.value len cfg n s q.rest)
numbered f lots (ops.Run chan) n s e = single_quiet f _ (control_step chan 3) s n (reg_stays chan 0 4 3) e
numbered f lots (ops.Poll chan) n s e = single_quiet f _ (step (acts.Poll chan)) s n (record { act = record { mail = λ b. refl; token = refl }; first = refl; last = refl }) e
numbered f lots (ops.Regr chan off width) n s e =
    let p = passed (known off width) (λ _. Ok (single (hart_step (hart.IoLoad chan off width)) n)) (Some s) e in
    single_quiet f _ (hart_step (hart.IoLoad chan off width)) s n (op_stays (hart.IoLoad chan off width) (record { mail = λ b. refl; token = refl })) p.rest
numbered f lots (ops.Regw chan off width value) n s e =
    let p = passed (known off width) (λ _. Ok (single (hart_step (hart.IoStore (io.Reg chan off width value))) n)) (Some s) e in
    single_quiet f _ (hart_step (hart.IoStore (io.Reg chan off width value))) s n (reg_stays chan off width value) p.rest
numbered f lots _ n s e = absurd cc
