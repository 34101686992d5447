-- What the plans of a lot are made of: its copies, write-backs and drops.
use Rattle.std.specs.Prelude.{Some, ◌&&◌, ◌==◌, ◌/◌, Bool, true, false, if◌then◌else◌, All, map, flat_map, slice_get}
use Rattle.std.specs.List.{list_any}
use Rattle.std.proofs.Common.{◌≡◌, ◌≢◌, ℕ, suc, ◌<◌, List, [], ◌∷◌, ◌++◌, refl, sym, ap, ◌∙◌, subst}
use Rattle.std.proofs.lemmas.Bool.{and_from, eq-eqb, or_from, cond-true, cond-false}
use Rattle.std.proofs.lemmas.List.Elements.{All-head, All-tail}
use Rattle.std.proofs.lemmas.List.Folds.{flat_map-map}
use Rattle.std.proofs.lemmas.Grind.{flat_map-append}
use Rattle.nc_num.specs.Sizes.{IsBlockSize}
use Rattle.nc_num.specs.Places.{covers, pieces}
use Rattle.nc_num.specs.declared.names.Dir.{Dir}
use Rattle.nc_num.specs.declared.places.Block.{Block}
use Rattle.nc_num.specs.declared.places.Span.{Span}
use Rattle.nc_env.specs.declared.CboOp.{CboOp}
use Rattle.nc_env.specs.declared.CboOp.TheVariants as kinds
use Rattle.nc_queue.specs.Entries.{writes_back}
use Rattle.nc_queue.specs.declared.entry.Entry.TheVariants as entries
use Rattle.nc_lines.specs.Lines.{gives_at}
use Rattle.nc_model.proofs.Faults.{covers-from}
use Rattle.nc_plan.specs.Parts.{is_bounced, comes_back}
use Rattle.nc_plan.specs.Plans.{In, copies, copied_in, copied_back, written_back, dropped, lend_op, return_op, blocks, cbo, cbos}
use Rattle.nc_plan.specs.declared.ops.HartOp.{HartOp}
use Rattle.nc_plan.specs.declared.ops.HartOp.TheVariants as hart
use Rattle.nc_plan.specs.declared.parts.Part.{Part}
use Rattle.nc_plan.proofs.PlanLaws.{blocks_are_met}
use Rattle.nc_sg.specs.Lists as sg
use Rattle.nc_sg.specs.declared.list.Entry.{Entry}
use Rattle.nc_rules.specs.declared.lots.Lot.{Lot}
use Rattle.nc_rules.specs.declared.lots.LotId.{LotId}
use Rattle.nc_rules.specs.declared.steps.Step.{Step}
use Rattle.nc_rules.specs.Lots.{DriverConfig, parts}
use Rattle.nc_rules.specs.Plans.{hart_step, op_steps}
use Rattle.nc_calls.specs.PlaceLaws.{drops_copies}
use Rattle.nc_scripts.proofs.Lists.{all_in, all_to}
use Rattle.nc_holds.proofs.lists.Members.{of_map, of_flat_map, get_at}
use Rattle.nc_rows.specs.Ahead.{ends, posts, op_coming}
use Rattle.nc_rows.specs.Parts.{rest_last}
use Rattle.nc_row_plans.specs.Plans.{WritesBack, DropsBlocks}
use Rattle.nc_row_plans.proofs.LendingPlans.{is_plain, Are}
use Rattle.nc_flatness.specs.Plans.{LoadsFirst, device_of}
use Rattle.nc_flat_starts.proofs.going.Pieces.{Move, piece_of, moves_of, AreCutApart, CutsEven}
use Rattle.nc_flat_starts.proofs.going.PlanComes.{EndsOnly, ops_of}

-- ---- what the plans of a lot need of it

-- the buffer's range into the slot, and out of it again
abbrev pub in_cut : DriverConfig → Entry → Span × Span
in_cut f e = (e.span, device_of f e)

abbrev pub out_cut : DriverConfig → Entry → Span × Span
out_cut f e = (device_of f e, e.span)

pub record IsPlanned (f : DriverConfig) (lot : Lot) : Type 0 where
  pub size : IsBlockSize f.size
  pub some : (i : ℕ) (e : Entry) → slice_get lot.list.entries i ≡ Some e → 0 < e.span.len
  pub off : (i : ℕ) (e : Entry) → slice_get lot.list.entries i ≡ Some e → is_bounced (sg.part_of lot.list.dir f.slots_at e) ≡ e.bounced
  pub slots : (i j : ℕ) (d e : Entry) → i ≢ j → slice_get lot.list.entries i ≡ Some d → slice_get lot.list.entries j ≡ Some e → AreCutApart (in_cut f) d e
  pub buffers : (i j : ℕ) (d e : Entry) → i ≢ j → slice_get lot.list.entries i ≡ Some d → slice_get lot.list.entries j ≡ Some e → AreCutApart (out_cut f) d e

device_len : (f : DriverConfig) (e : Entry) (t : Bool) → e.bounced ≡ t → (device_of f e).len ≡ e.span.len
device_len f e true is = ap (λ (s : Span). s.len) (cond-true e.bounced _ e.span is)
device_len f e false is = ap (λ (s : Span). s.len) (cond-false e.bounced _ e.span is)

pub in_even : (f : DriverConfig) → CutsEven (in_cut f)
in_even f e = device_len f e e.bounced refl

pub out_even : (f : DriverConfig) → CutsEven (out_cut f)
out_even f e = sym (device_len f e e.bounced refl)

-- what is known of a plan at its start beside: it ends the lot's stay and no other's, it has no message, and a store comes
-- first nowhere
pub record IsPlan (id : LotId) (plan : List Step) : Type 0 where
  pub ended : list_any (ends id) plan ≡ true
  pub only : EndsOnly id plan
  pub silent : (b : ℕ) → list_any (posts b) plan ≡ false
  pub first : LoadsFirst plan

-- ---- the operations

pub same_id : (id : LotId) → (id.label.0 == id.label.0 && id.first == id.first) ≡ true
same_id id = and_from (id.label.0 == id.label.0) (id.first == id.first) (eq-eqb id.label.0 id.label.0 refl) (eq-eqb id.first id.first refl)

-- the copies of one entry
one_copies : (cut : Entry → Span × Span) (e : Entry) (t : Bool) → flat_map (ops_of cut) (if t then map (piece_of e) (pieces (cut e).0) else []) ≡ (if t then copies (cut e).0 (cut e).1 else [])
one_copies cut e true = flat_map-map (ops_of cut) (piece_of e) (pieces (cut e).0)
one_copies cut e false = refl

in_one : (f : DriverConfig) (dir : Dir) (e : Entry) → is_bounced (sg.part_of dir f.slots_at e) ≡ e.bounced → copied_in (sg.part_of dir f.slots_at e) ≡ flat_map (ops_of (in_cut f)) (if e.bounced then map (piece_of e) (pieces e.span) else [])
unfolding copied_in
in_one f dir e off = ap (λ (t : Bool). if t then copies e.span (device_of f e) else []) off ∙ sym (one_copies (in_cut f) e e.bounced)

pub ins_are : (f : DriverConfig) (dir : Dir) (es : List Entry) → ((i : ℕ) (e : Entry) → slice_get es i ≡ Some e → is_bounced (sg.part_of dir f.slots_at e) ≡ e.bounced)
    → flat_map copied_in (map (sg.part_of dir f.slots_at) es) ≡ flat_map (ops_of (in_cut f)) (moves_of (in_cut f) es)
ins_are f dir [] off = refl
ins_are f dir (e ∷ es) off =
    ap (λ (ops : List HartOp). ops ++ flat_map copied_in (map (sg.part_of dir f.slots_at) es)) (in_one f dir e (off 0 e refl))
    ∙ ap (λ (ops : List HartOp). flat_map (ops_of (in_cut f)) (if e.bounced then map (piece_of e) (pieces e.span) else []) ++ ops) (ins_are f dir es (λ i d there. off (suc i) d there))
    ∙ sym (flat_map-append (ops_of (in_cut f)) (if e.bounced then map (piece_of e) (pieces e.span) else []) (moves_of (in_cut f) es))

-- those that come out, where the direction comes back
abbrev pub outs_of : DriverConfig → Bool → List Entry → List Move
outs_of f true es = moves_of (out_cut f) es
outs_of f false es = []

out_one : (f : DriverConfig) (dir : Dir) (e : Entry) → comes_back dir ≡ true → is_bounced (sg.part_of dir f.slots_at e) ≡ e.bounced → copied_back (sg.part_of dir f.slots_at e) ≡ flat_map (ops_of (out_cut f)) (if e.bounced then map (piece_of e) (pieces (device_of f e)) else [])
unfolding copied_back
out_one f dir e back off =
    ap (λ (t : Bool). if t && is_bounced (sg.part_of dir f.slots_at e) then copies (device_of f e) e.span else []) back
    ∙ ap (λ (t : Bool). if t then copies (device_of f e) e.span else []) off ∙ sym (one_copies (out_cut f) e e.bounced)

out_none : (f : DriverConfig) (dir : Dir) (e : Entry) → comes_back dir ≡ false → copied_back (sg.part_of dir f.slots_at e) ≡ []
unfolding copied_back
out_none f dir e stays = ap (λ (t : Bool). if t && is_bounced (sg.part_of dir f.slots_at e) then copies (device_of f e) e.span else []) stays

pub outs_are : (f : DriverConfig) (dir : Dir) (es : List Entry) (t : Bool) → comes_back dir ≡ t → ((i : ℕ) (e : Entry) → slice_get es i ≡ Some e → is_bounced (sg.part_of dir f.slots_at e) ≡ e.bounced)
    → flat_map copied_back (map (sg.part_of dir f.slots_at) es) ≡ flat_map (ops_of (out_cut f)) (outs_of f t es)
outs_are f dir [] true back off = refl
outs_are f dir [] false back off = refl
outs_are f dir (e ∷ es) true back off =
    ap (λ (ops : List HartOp). ops ++ flat_map copied_back (map (sg.part_of dir f.slots_at) es)) (out_one f dir e back (off 0 e refl))
    ∙ ap (λ (ops : List HartOp). flat_map (ops_of (out_cut f)) (if e.bounced then map (piece_of e) (pieces (device_of f e)) else []) ++ ops) (outs_are f dir es true back (λ i d there. off (suc i) d there))
    ∙ sym (flat_map-append (ops_of (out_cut f)) (if e.bounced then map (piece_of e) (pieces (device_of f e)) else []) (moves_of (out_cut f) es))
outs_are f dir (e ∷ es) false back off =
    ap (λ (ops : List HartOp). ops ++ flat_map copied_back (map (sg.part_of dir f.slots_at) es)) (out_none f dir e back) ∙ outs_are f dir es false back (λ i d there. off (suc i) d there)

-- ---- cache operations

pub record IsWriting (o : HartOp) : Type 0 where
  pub op : CboOp
  pub block : Block
  pub is : o ≡ hart.Cbo op block
  pub writes : writes_back op ≡ true

pub written_are : (f : DriverConfig) (lot : Lot) → WritesBack f.effects → All IsWriting (flat_map (written_back f.effects f.size) (parts f lot))
unfolding written_back
written_are f lot writes =
    all_in IsWriting (flat_map (written_back f.effects f.size) (parts f lot))
    (λ o here.
    let p = of_flat_map (written_back f.effects f.size) o (parts f lot) here in
    let b = of_map (cbo (lend_op f.effects p.0.dir)) o (blocks f.size p.0.device) p.2 in
    record { op = lend_op f.effects p.0.dir; block = record { 0 = b.0 }; is = sym b.2; writes = writes p.0.dir })

pub record IsDropping (f : DriverConfig) (lot : Lot) (o : HartOp) : Type 0 where
  pub back : comes_back lot.list.dir ≡ true
  pub op : CboOp
  pub block : Block
  pub is : o ≡ hart.Cbo op block
  pub drops : drops_copies op ≡ true
  pub i : ℕ
  pub entry : Entry
  pub there : slice_get lot.list.entries i ≡ Some entry
  pub place : ℕ
  pub covered : covers (device_of f entry) place ≡ true
  pub met : place / f.size ≡ block.0

of_if : (t : Bool) (xs : List HartOp) (o : HartOp) → In o (if t then xs else []) → (t ≡ true) × In o xs
of_if true xs o here = (refl, here)
of_if false xs o here = absurd here

pub dropped_are : (f : DriverConfig) (lot : Lot) → IsBlockSize f.size → DropsBlocks f.effects → All (IsDropping f lot) (flat_map (dropped f.effects f.size) (parts f lot))
unfolding dropped
dropped_are f lot size drops =
    all_in (IsDropping f lot) (flat_map (dropped f.effects f.size) (parts f lot))
    (λ o here.
    let p = of_flat_map (dropped f.effects f.size) o (parts f lot) here in
    let e = of_map (sg.part_of lot.list.dir f.slots_at) p.0 lot.list.entries p.1 in
    let at = get_at lot.list.entries e.0 e.1 in
    let some = of_if (comes_back p.0.dir) (cbos (return_op f.effects) f.size p.0.device) o p.2 in
    let b = of_map (cbo (return_op f.effects)) o (blocks f.size p.0.device) some.1 in
    let met = (blocks_are_met f.size p.0.device size).only b.0 b.1 in
    let device : p.0.device ≡ device_of f e.0 = ap (λ (q : Part). q.device) (sym e.2) in
    record {
      back = ap (λ (q : Part). comes_back q.dir) e.2 ∙ some.0;
      op = return_op f.effects;
      block = record { 0 = b.0 };
      is = sym b.2;
      drops = drops;
      i = at.0;
      entry = e.0;
      there = at.1;
      place = met.0;
      covered = subst (λ (s : Span). covers s met.0 ≡ true) device (covers-from p.0.device met.0 met.1 met.2);
      met = met.3;
    })

-- they are plain, and none stores what was loaded last
writing_plain : (o : HartOp) → IsWriting o → is_plain o ≡ true
writing_plain o w = ap is_plain w.is

pub dropping_plain : (f : DriverConfig) (lot : Lot) (o : HartOp) → IsDropping f lot o → is_plain o ≡ true
dropping_plain f lot o d = ap is_plain d.is

pub writing_are_plain : (ops : List HartOp) → All IsWriting ops → Are is_plain ops
writing_are_plain ops all = all_to IsWriting (λ (o : HartOp). is_plain o ≡ true) ops all writing_plain

pub dropping_are_plain : (f : DriverConfig) (lot : Lot) (ops : List HartOp) → All (IsDropping f lot) ops → Are is_plain ops
dropping_are_plain f lot ops all = all_to (IsDropping f lot) (λ (o : HartOp). is_plain o ≡ true) ops all (dropping_plain f lot)

pub cbo_last : (o : HartOp) (op : CboOp) (block : Block) (rest : List Step) → o ≡ hart.Cbo op block → LoadsFirst (hart_step o ∷ rest)
cbo_last o op block rest is = ap (λ (k : HartOp). rest_last (hart_step k ∷ rest)) is

pub writes_first : (ops : List HartOp) (rest : List Step) → All IsWriting ops → LoadsFirst rest → LoadsFirst (op_steps ops ++ rest)
writes_first [] rest all first = first
writes_first (o ∷ ops) rest all first = let w = All-head IsWriting o ops all in cbo_last o w.op w.block (op_steps ops ++ rest) w.is

pub drops_first : (f : DriverConfig) (lot : Lot) (ops : List HartOp) (rest : List Step) → All (IsDropping f lot) ops → LoadsFirst rest → LoadsFirst (op_steps ops ++ rest)
drops_first f lot [] rest all first = first
drops_first f lot (o ∷ ops) rest all first = let d = All-head (IsDropping f lot) o ops all in cbo_last o d.op d.block (op_steps ops ++ rest) d.is

-- a clean or a flush gives no byte
writing_gives : (s x : ℕ) (op : CboOp) (block : Block) → writes_back op ≡ true → gives_at s x (entries.Cbo block op) ≡ false
writing_gives s x kinds.Clean block is = refl
writing_gives s x kinds.Flush block is = refl
writing_gives s x kinds.Inval block is = absurd cc
writing_gives s x kinds.Zero block is = absurd cc

pub writings_give : (s x : ℕ) (ops : List HartOp) → All IsWriting ops → list_any (gives_at s x) (flat_map op_coming ops) ≡ false
writings_give s x [] all = refl
writings_give s x (o ∷ ops) all =
    let w = All-head IsWriting o ops all in
    ap (λ (k : HartOp). list_any (gives_at s x) (op_coming k ++ flat_map op_coming ops)) w.is
    ∙ or_from (gives_at s x (entries.Cbo w.block w.op)) (list_any (gives_at s x) (flat_map op_coming ops)) (writing_gives s x w.op w.block w.writes) (writings_give s x ops (All-tail IsWriting o ops all))
