-- What comes of a plan lies in one block, piece by piece.
use Rattle.std.specs.Prelude.{◌/◌, ◌==◌, All, flat_map, replicate, if◌then◌else◌}
use Rattle.std.specs.List.{list_any}
use Rattle.std.proofs.Common.{◌≡◌, ℕ, ◌<◌, Bool, true, false, List, [], ◌∷◌, length, refl, sym, ap, ◌∙◌}
use Rattle.std.proofs.lemmas.Bool.{eqb-true, eq-eqb}
use Rattle.std.proofs.lemmas.List.{get_or-set_same, length-set, length-replicate}
use Rattle.std.proofs.lemmas.List.Elements.{All-nil, All-cons, All-head, All-tail, All-append}
use Rattle.nc_num.specs.Places.{covers}
use Rattle.nc_num.specs.Sizes.{IsBlockSize}
use Rattle.nc_num.specs.declared.names.MapId.{MapId}
use Rattle.nc_num.specs.declared.names.MemType.{MemType}
use Rattle.nc_num.specs.declared.places.Block.{Block}
use Rattle.nc_num.specs.declared.places.Span.{Span}
use Rattle.nc_num.proofs.Blocks.{within_block, piece_in_block}
use Rattle.nc_env.specs.declared.CboOp.{CboOp}
use Rattle.nc_env.specs.declared.CboOp.TheVariants as cbos
use Rattle.nc_queue.specs.declared.entry.Entry.{Entry}
use Rattle.nc_queue.specs.declared.entry.Entry.TheVariants as entries
use Rattle.nc_plan.specs.declared.ops.HartOp.{HartOp}
use Rattle.nc_plan.specs.declared.ops.HartOp.TheVariants as hart
use Rattle.nc_plan.specs.declared.ops.IoTarget.{IoTarget}
use Rattle.nc_plan.specs.declared.ops.IoTarget.TheVariants as io
use Rattle.nc_plan.specs.declared.ops.Payload.{Payload}
use Rattle.nc_plan.specs.declared.ops.Payload.TheVariants as payloads
use Rattle.nc_hart.specs.HartState.{HartState}
use Rattle.nc_hart.specs.Issue.{marks, marker, io_entry}
use Rattle.nc_model.proofs.Faults.{covers-low, covers-high}
use Rattle.nc_rules.specs.declared.lots.LotId.{LotId}
use Rattle.nc_rules.specs.declared.steps.Act.{Act}
use Rattle.nc_rules.specs.declared.steps.Act.TheVariants as acts
use Rattle.nc_rules.specs.declared.steps.Step.{Step}
use Rattle.nc_rules.specs.Lots.{DriverConfig}
use Rattle.nc_rules.specs.Machine.{MachineState, hart_of, no_hart, with_hart}
use Rattle.nc_rules.specs.Calls.{has_loaded}
use Rattle.nc_rules.specs.Sound.{IsPieceIn}
use Rattle.nc_scripts.specs.Scripts.{IsDriven}
use Rattle.nc_scripts.specs.Drivers.{FitsLast, HartOpIsThere, ActIsThere, StepIsThere}
use Rattle.nc_rows.specs.Ahead.{ends, upto, op_coming, act_coming, token, gives_lot, step_coming, coming}
use Rattle.nc_row_moves.specs.Laws.{InBlock}

-- ---- an operation, in a machine whose last load is as long as it wants

abbrev loaded : MachineState → ℕ → MachineState
loaded m n = with_hart m 0 (has_loaded (hart_of m 0) (replicate n 0))

loaded_long : (m : MachineState) (n : ℕ) → 0 < length m.harts → length (hart_of (loaded m n) 0).last ≡ n
loaded_long m n some =
    ap (λ (s : HartState). length s.last) (get_or-set_same m.harts 0 (has_loaded (hart_of m 0) (replicate n 0)) no_hart some) ∙ length-replicate {A = ℕ} n 0

loaded_driven : (ram harts : ℕ) (f : DriverConfig) (m : MachineState) (n : ℕ) → IsDriven ram harts f m → IsDriven ram harts f (loaded m n)
loaded_driven ram harts f m n is = record {
  memory = is.memory;
  block = is.block;
  processors = length-set m.harts 0 (has_loaded (hart_of m 0) (replicate n 0)) ∙ is.processors;
  boxes = is.boxes;
}

fits_last : (n : ℕ) (span : Span) (kind : MemType) (bytes : Payload) → n ≡ span.len → FitsLast n (hart.Store span kind bytes)
fits_last n span kind payloads.Last e = e
fits_last n span kind (payloads.Given bytes) e = tt

store_piece : (ram harts : ℕ) (f : DriverConfig) (m : MachineState) (span : Span) (kind : MemType) (bytes : Payload) → IsDriven ram harts f m → 0 < length m.harts → HartOpIsThere ram harts f (hart.Store span kind bytes) → IsPieceIn (length m.cache.ram) span
store_piece ram harts f m span kind bytes is some there =
    (there (loaded m span.len) 0 (loaded_driven ram harts f m span.len is) (fits_last (length (hart_of (loaded m span.len) 0).last) span kind bytes (loaded_long m span.len some))).piece

-- ---- entries

store_in : (m : MachineState) (y : ℕ) (span : Span) (kind : MemType) → IsBlockSize m.size → IsPieceIn (length m.cache.ram) span → (b : Bool) → covers span y ≡ b → InBlock m y (entries.Store span [] kind)
store_in m y span kind size piece true over = λ here.
    let within = within_block {s = m.size} span.at span.len y size (piece_in_block {s = m.size} span.at span.len size piece.len piece.aligned) (covers-low span y over) (covers-high span y over) in
    rw (eq-eqb (span.at / m.size) (y / m.size) (sym within.block)) refl
store_in m y span kind size piece false off = λ here. absurd (let no : false ≡ true = rw off at here in cc)

zero_in : (m : MachineState) (y : ℕ) (block : Block) (b : Bool) → (y / m.size == block.0) ≡ b → InBlock m y (entries.Cbo block cbos.Zero)
zero_in m y block true same = λ here. eq-eqb block.0 (y / m.size) (sym (eqb-true (y / m.size) block.0 same))
zero_in m y block false other = λ here. absurd (let no : false ≡ true = rw other at here in cc)

op_in : (m : MachineState) (y : ℕ) (block : Block) (op : CboOp) → InBlock m y (entries.Cbo block op)
op_in m y block cbos.Zero = zero_in m y block (y / m.size == block.0) refl
op_in m y block cbos.Clean = λ here. absurd cc
op_in m y block cbos.Flush = λ here. absurd cc
op_in m y block cbos.Inval = λ here. absurd cc

io_in : (m : MachineState) (y : ℕ) (target : IoTarget) → InBlock m y (io_entry target)
io_in m y (io.Reg chan off width value) = λ here. absurd cc
io_in m y (io.Mail buf to) = λ here. absurd cc
io_in m y (io.Lend label first count) = λ here. absurd cc

fence_in : (m : MachineState) (y : ℕ) (b : Bool) (pred succ : ℕ) → InBlock m y (if b then marker pred succ else entries.Mark pred succ)
fence_in m y true pred succ = λ here. absurd cc
fence_in m y false pred succ = λ here. absurd cc

one : (m : MachineState) (y : ℕ) (e : Entry) → InBlock m y e → All (InBlock m y) (e ∷ [])
one m y e is = All-cons (InBlock m y) e [] is (All-nil (InBlock m y))

-- what is known of the machine
record Knows (ram harts : ℕ) (f : DriverConfig) (m : MachineState) : Type 0 where
  driven : IsDriven ram harts f m
  some : 0 < length m.harts
  size : IsBlockSize m.size

op_comes : (ram harts : ℕ) (f : DriverConfig) (m : MachineState) (y : ℕ) (op : HartOp) → Knows ram harts f m → HartOpIsThere ram harts f op → All (InBlock m y) (op_coming op)
op_comes ram harts f m y (hart.Load span kind) k there = All-nil (InBlock m y)
op_comes ram harts f m y (hart.Store span kind bytes) k there =
    one m y (entries.Store span [] kind) (store_in m y span kind k.size (store_piece ram harts f m span kind bytes k.driven k.some there) (covers span y) refl)
op_comes ram harts f m y (hart.Cbo op block) k there = one m y (entries.Cbo block op) (op_in m y block op)
op_comes ram harts f m y (hart.Fence pred succ) k there = one m y _ (fence_in m y (marks pred succ) pred succ)
op_comes ram harts f m y (hart.IoLoad chan off width) k there = All-nil (InBlock m y)
op_comes ram harts f m y (hart.IoStore target) k there = one m y (io_entry target) (io_in m y target)
op_comes ram harts f m y (hart.Mark pred succ) k there = one m y (marker pred succ) (fence_in m y true pred succ)

act_comes : (ram harts : ℕ) (f : DriverConfig) (m : MachineState) (y : ℕ) (act : Act) → Knows ram harts f m → ActIsThere ram harts f act → All (InBlock m y) (act_coming act)
act_comes ram harts f m y (acts.Op op) k there = op_comes ram harts f m y op k there
act_comes ram harts f m y (acts.Claim chan) k there = All-nil (InBlock m y)
act_comes ram harts f m y (acts.Poll chan) k there = All-nil (InBlock m y)
act_comes ram harts f m y (acts.Take buf) k there = All-nil (InBlock m y)

token_comes : (m : MachineState) (y : ℕ) (n : MapId) (b : Bool) → All (InBlock m y) (if b then token n ∷ [] else [])
token_comes m y n true = one m y (token n) (λ here. absurd cc)
token_comes m y n false = All-nil (InBlock m y)

-- ---- a plan

upto_there : (ram harts : ℕ) (f : DriverConfig) (p : Step → Bool) (rest : List Step) → All (StepIsThere ram harts f) rest → All (StepIsThere ram harts f) (upto p rest)
upto_there ram harts f p [] there = there
upto_there ram harts f p (s ∷ rest) there =
    let P = StepIsThere ram harts f in
    let first = All-head P s rest there in
    elim (p s) as (λ (t : Bool). All P (if t then s ∷ [] else (if list_any p rest then s ∷ upto p rest else []))) [
      | true ↦ All-cons P s [] first (All-nil P)
      | false ↦
          elim (list_any p rest) as (λ (t : Bool). All P (if t then s ∷ upto p rest else [])) [
            | true ↦ All-cons P s (upto p rest) first (upto_there ram harts f p rest (All-tail P s rest there))
            | false ↦ All-nil P
          ]
    ]

steps_come : (ram harts : ℕ) (f : DriverConfig) (m : MachineState) (y : ℕ) (n : MapId) (lot : LotId) (steps : List Step) → Knows ram harts f m → All (StepIsThere ram harts f) steps → All (InBlock m y) (flat_map (step_coming n lot) steps)
steps_come ram harts f m y n lot [] k there = All-nil (InBlock m y)
steps_come ram harts f m y n lot (s ∷ steps) k there =
    let first = All-head (StepIsThere ram harts f) s steps there in
    All-append (InBlock m y) (step_coming n lot s) (flat_map (step_coming n lot) steps)
    (All-append (InBlock m y) (act_coming s.act) (if gives_lot lot s.last then token n ∷ [] else []) (act_comes ram harts f m y s.act k first.act) (token_comes m y n (gives_lot lot s.last)))
    (steps_come ram harts f m y n lot steps k (All-tail (StepIsThere ram harts f) s steps there))

pub comes_in_block : (ram harts : ℕ) (f : DriverConfig) (m : MachineState) (y : ℕ) (n : MapId) (lot : LotId) (rest : List Step) → IsDriven ram harts f m → 0 < length m.harts → IsBlockSize m.size → All (StepIsThere ram harts f) rest → All (InBlock m y) (coming n lot rest)
comes_in_block ram harts f m y n lot rest driven some size there =
    steps_come ram harts f m y n lot (upto (ends lot) rest) (record { driven = driven; some = some; size = size }) (upto_there ram harts f (ends lot) rest there)
