-- What a plan is still to put in its hart's queue, whichever lot its steps are of: what gives no byte there.
use Rattle.std.specs.Prelude.{Bool, true, false, if◌then◌else◌, All, flat_map}
use Rattle.std.specs.List.{list_any}
use Rattle.std.proofs.Common.{◌≡◌, ℕ, List, [], ◌∷◌, ◌++◌, refl, sym, ap, ◌∙◌, inl, inr}
use Rattle.std.proofs.lemmas.Bool.{or_parts, or_from, cases_Bool}
use Rattle.std.proofs.lemmas.List.Elements.{All-head, All-tail}
use Rattle.std.proofs.lemmas.List.Folds.{list_any-append}
use Rattle.nc_num.specs.declared.names.ChanNo.{ChanNo}
use Rattle.nc_num.specs.declared.names.Label.{Label}
use Rattle.nc_num.specs.declared.names.MapId.{MapId}
use Rattle.nc_num.specs.declared.names.MemType.TheVariants.{Pma}
use Rattle.nc_num.specs.declared.places.Block.{Block}
use Rattle.nc_num.specs.declared.places.Span.{Span}
use Rattle.nc_env.specs.declared.CboOp.{CboOp}
use Rattle.nc_env.specs.declared.CboOp.TheVariants as kinds
use Rattle.nc_queue.specs.Entries.{gives_in, writes_back}
use Rattle.nc_queue.specs.declared.entry.Entry.{Entry}
use Rattle.nc_queue.specs.declared.entry.Entry.TheVariants as entries
use Rattle.nc_lines.specs.Lines.{gives_at}
use Rattle.nc_plan.specs.declared.ops.HartOp.{HartOp}
use Rattle.nc_calls.specs.PlaceLaws.{drops_copies}
use Rattle.nc_sg.specs.declared.list.Entry.{Entry as SgEntry}
use Rattle.nc_rules.specs.declared.lots.Lot.{Lot}
use Rattle.nc_rules.specs.declared.lots.LotId.{LotId}
use Rattle.nc_rules.specs.declared.steps.Step.{Step}
use Rattle.nc_rules.specs.Lots.{DriverConfig}
use Rattle.nc_rules.specs.Plans.{op_steps}
use Rattle.nc_rows.specs.Ahead.{gives_lot, ends, token, op_coming, act_coming, coming}
use Rattle.nc_rows.proofs.Steps.{next, last, steps_ahead}
use Rattle.nc_flat_starts.proofs.going.Pieces.{Move, stored}
use Rattle.nc_flat_starts.proofs.going.PlanComes.{ops_of}
use Rattle.nc_flat_starts.proofs.going.PlanOps.{IsWriting, IsDropping}

-- ---- tests

-- a test of what gives bytes: no cache operation that writes back or drops passes it, and nothing that is no store
pub record IsOfBytes (p : Entry → Bool) : Type 0 where
  pub writes : (op : CboOp) (block : Block) → writes_back op ≡ true → p (entries.Cbo block op) ≡ false
  pub drops : (op : CboOp) (block : Block) → drops_copies op ≡ true → p (entries.Cbo block op) ≡ false
  pub marks : (pred succ : ℕ) → p (entries.Mark pred succ) ≡ false
  pub registers : (chan : ChanNo) (off width value : ℕ) → p (entries.Reg chan off width value) ≡ false
  pub lends : (label : Label) (first count : ℕ) → p (entries.Lend label first count) ≡ false

-- one that no clean, flush or invalidate passes
by_ops : (p : Entry → Bool) → ((block : Block) → p (entries.Cbo block kinds.Clean) ≡ false) → ((block : Block) → p (entries.Cbo block kinds.Flush) ≡ false) → ((block : Block) → p (entries.Cbo block kinds.Inval) ≡ false) → ((pred succ : ℕ) → p (entries.Mark pred succ) ≡ false)
    → ((chan : ChanNo) (off width value : ℕ) → p (entries.Reg chan off width value) ≡ false) → ((label : Label) (first count : ℕ) → p (entries.Lend label first count) ≡ false) → IsOfBytes p
by_ops p clean flush inval marks registers lends = record { writes = written; drops = dropped_op; marks = marks; registers = registers; lends = lends }
  where
    written : (op : CboOp) (block : Block) → writes_back op ≡ true → p (entries.Cbo block op) ≡ false
    written kinds.Clean block is = clean block
    written kinds.Flush block is = flush block
    written kinds.Inval block is = absurd cc
    written kinds.Zero block is = absurd cc

    dropped_op : (op : CboOp) (block : Block) → drops_copies op ≡ true → p (entries.Cbo block op) ≡ false
    dropped_op kinds.Inval block is = inval block
    dropped_op kinds.Flush block is = flush block
    dropped_op kinds.Clean block is = absurd cc
    dropped_op kinds.Zero block is = absurd cc

-- a byte at a place, and one of a block
pub of_place : (s x : ℕ) → IsOfBytes (gives_at s x)
of_place s x = by_ops (gives_at s x) (λ block. refl) (λ block. refl) (λ block. refl) (λ pred succ. refl) (λ chan off width value. refl) (λ label first count. refl)

pub of_block : (s b : ℕ) → IsOfBytes (gives_in s b)
of_block s b = by_ops (gives_in s b) (λ block. refl) (λ block. refl) (λ block. refl) (λ pred succ. refl) (λ chan off width value. refl) (λ label first count. refl)

-- ---- all that comes

abbrev pub all_coming : List Step → List Entry
all_coming rest = flat_map (λ s. act_coming s.act) rest

token_none : (p : Entry → Bool) (n : MapId) (t : Bool) → p (token n) ≡ false → list_any p (if t then token n ∷ [] else []) ≡ false
token_none p n true off = or_from (p (token n)) false off refl
token_none p n false off = refl

-- what passes none of it passes nothing of what comes for a lot
pub none_comes : (p : Entry → Bool) (n : MapId) (id : LotId) (rest : List Step) → p (token n) ≡ false → list_any p (all_coming rest) ≡ false → list_any p (coming n id rest) ≡ false
none_comes p n id [] off none = refl
none_comes p n id (s ∷ rest) off none =
    let parts = or_parts (list_any p (act_coming s.act)) (list_any p (all_coming rest)) (sym (list_any-append p (act_coming s.act) (all_coming rest)) ∙ none) in
    elim (cases_Bool (ends id s)) [
      | inl is ↦
          ap (list_any p) (last n id s rest is) ∙ list_any-append p (act_coming s.act) (if gives_lot id s.last then token n ∷ [] else [])
          ∙ or_from (list_any p (act_coming s.act)) (list_any p (if gives_lot id s.last then token n ∷ [] else [])) parts.0 (token_none p n (gives_lot id s.last) off)
      | inr other ↦
          elim (cases_Bool (list_any (ends id) rest)) [
            | inl some ↦
                ap (list_any p) (next n id s rest other some) ∙ list_any-append p (act_coming s.act) (coming n id rest)
                ∙ or_from (list_any p (act_coming s.act)) (list_any p (coming n id rest)) parts.0 (none_comes p n id rest off parts.1)
            | inr never ↦ ap (list_any p) (steps_ahead.none n id (s ∷ rest) (or_from (ends id s) (list_any (ends id) rest) other never))
          ]
    ]

pub ops_none : (p : Entry → Bool) (ops : List HartOp) (rest : List Step) → list_any p (flat_map op_coming ops) ≡ false → list_any p (all_coming rest) ≡ false → list_any p (all_coming (op_steps ops ++ rest)) ≡ false
ops_none p [] rest none later = later
ops_none p (o ∷ ops) rest none later =
    let parts = or_parts (list_any p (op_coming o)) (list_any p (flat_map op_coming ops)) (sym (list_any-append p (op_coming o) (flat_map op_coming ops)) ∙ none) in
    list_any-append p (op_coming o) (all_coming (op_steps ops ++ rest)) ∙ or_from (list_any p (op_coming o)) (list_any p (all_coming (op_steps ops ++ rest))) parts.0 (ops_none p ops rest parts.1 later)

-- ---- operations

pub copies_none : (p : Entry → Bool) (cut : SgEntry → Span × Span) (ms : List Move) → All (λ m. p (entries.Store (stored cut m) [] Pma) ≡ false) ms → list_any p (flat_map op_coming (flat_map (ops_of cut) ms)) ≡ false
copies_none p cut [] all = refl
copies_none p cut (m ∷ ms) all =
    let P : Move → Type 0 = λ (m : Move). p (entries.Store (stored cut m) [] Pma) ≡ false in
    or_from (p (entries.Store (stored cut m) [] Pma)) (list_any p (flat_map op_coming (flat_map (ops_of cut) ms))) (All-head P m ms all) (copies_none p cut ms (All-tail P m ms all))

pub writings_none : (p : Entry → Bool) (ops : List HartOp) → IsOfBytes p → All IsWriting ops → list_any p (flat_map op_coming ops) ≡ false
writings_none p [] of all = refl
writings_none p (o ∷ ops) of all =
    let w = All-head IsWriting o ops all in
    ap (λ (k : HartOp). list_any p (op_coming k ++ flat_map op_coming ops)) w.is
    ∙ or_from (p (entries.Cbo w.block w.op)) (list_any p (flat_map op_coming ops)) (of.writes w.op w.block w.writes) (writings_none p ops of (All-tail IsWriting o ops all))

pub droppings_none : (p : Entry → Bool) (f : DriverConfig) (lot : Lot) (ops : List HartOp) → IsOfBytes p → All (IsDropping f lot) ops → list_any p (flat_map op_coming ops) ≡ false
droppings_none p f lot [] of all = refl
droppings_none p f lot (o ∷ ops) of all =
    let d = All-head (IsDropping f lot) o ops all in
    ap (λ (k : HartOp). list_any p (op_coming k ++ flat_map op_coming ops)) d.is
    ∙ or_from (p (entries.Cbo d.block d.op)) (list_any p (flat_map op_coming ops)) (of.drops d.op d.block d.drops) (droppings_none p f lot ops of (All-tail (IsDropping f lot) o ops all))
