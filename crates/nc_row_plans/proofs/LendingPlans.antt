-- The plan that lends a lot: copies, then a cache operation on each block, then a marker or a full fence, and the token.
use Rattle.std.specs.Prelude.{Option, Some, None, ◌/◌, ◌+◌, ◌==◌, ◌&&◌, ◌||◌, nat_le, nat_lt, map, flat_map, if◌then◌else◌, All}
use Rattle.std.specs.List.{list_any}
use Rattle.std.proofs.Common.{◌≡◌, ◌⊎◌, ℕ, ◌<◌, ◌≤◌, Bool, true, false, List, [], ◌∷◌, ◌++◌, length, refl, sym, ap, ◌∙◌, inl, inr, subst, arith}
use Rattle.std.proofs.lemmas.Bool.{cases_Bool, both_ways, or_parts, or_from, or_left, or_right, and_from, eq-eqb, le-leb, lt-ltb}
use Rattle.std.proofs.lemmas.List.Folds.{list_any-append}
use Rattle.std.proofs.lemmas.List.Elements.{All-nil, All-cons, All-head, All-tail}
use Rattle.nc_num.specs.Sizes.{IsBlockSize}
use Rattle.nc_num.specs.Places.{pieces}
use Rattle.nc_num.specs.declared.names.MapId.{MapId}
use Rattle.nc_num.specs.declared.places.Span.{Span}
use Rattle.nc_env.specs.declared.CboOp.{CboOp}
use Rattle.nc_env.specs.declared.CboOp.TheVariants as cbos
use Rattle.nc_queue.specs.Entries.{has_op, gives_in, is_w, is_wo, is_zero, writes_back}
use Rattle.nc_queue.specs.Laws.{Stands, Covered}
use Rattle.nc_queue.specs.declared.entry.Entry.{Entry}
use Rattle.nc_queue.specs.declared.entry.Entry.TheVariants as entries
use Rattle.nc_queue.proofs.FenceLaws.{covered-none}
use Rattle.nc_hart.specs.Issue.{marker}
use Rattle.nc_lines.specs.Lines.{gives_at, Marked}
use Rattle.nc_plan.specs.Plans as plans
use Rattle.nc_plan.specs.Plans.{In, blocks, cbo, copies, copy_piece, copied_in, written_back, lend_op}
use Rattle.nc_plan.specs.Parts.{is_bounced}
use Rattle.nc_plan.specs.declared.effects.Effects.{Effects}
use Rattle.nc_num.specs.declared.names.MemType.TheVariants.{Pma}
use Rattle.nc_plan.specs.declared.ops.Payload.TheVariants.{Last}
use Rattle.nc_plan.specs.declared.ops.HartOp.{HartOp}
use Rattle.nc_plan.specs.declared.ops.HartOp.TheVariants as hart
use Rattle.nc_plan.specs.declared.parts.Part.{Part}
use Rattle.nc_plan.proofs.PlanLaws.{blocks_are_met}
use Rattle.nc_rules.specs.declared.lots.Lot.{Lot}
use Rattle.nc_rules.specs.declared.lots.LotId.{LotId}
use Rattle.nc_rules.specs.declared.steps.Step.{Step}
use Rattle.nc_rules.specs.Lots.{DriverConfig, parts}
use Rattle.nc_rules.specs.Machine.{MachineState}
use Rattle.nc_plan.specs.declared.ops.IoTarget.TheVariants as io
use Rattle.nc_rules.specs.declared.steps.Turn.TheVariants as turns
use Rattle.nc_rules.specs.Plans.{hart_step, op_steps, turning, token_steps, lend_steps}
use Rattle.nc_rows.specs.Ahead.{ends, op_coming, token, names, coming}
use Rattle.nc_rows.specs.Rows.{back, gives_here, gives_block}
use Rattle.nc_rows.proofs.Steps.{next, last}
use Rattle.nc_row_moves.proofs.Tests.{op_w, gives_w, in_w}
use Rattle.nc_row_plans.specs.Begins.{LendsAhead}
use Rattle.nc_row_plans.specs.Plans.{IsEntryOf, WritesBack, IsPlaceOf, PlansLend}
use Rattle.nc_row_plans.proofs.PlanBegins.{stands_behind, covered_behind, marked_behind}
use Rattle.nc_row_plans.proofs.PlanEnds.{named}

append_assoc : (a b c : List Entry) → (a ++ b) ++ c ≡ a ++ (b ++ c)
append_assoc [] b c = refl
append_assoc (e ∷ a) b c = ap (λ (l : List Entry). e ∷ l) (append_assoc a b c)

-- ---- lines of a plan that lends

pub stands_some : (w t : Entry → Bool) (y c : List Entry) → list_any w y ≡ true → list_any t y ≡ false → Stands w t (y ++ c)
stands_some w t [] c some none = absurd cc
stands_some w t (a ∷ y) c some none =
    let parts = or_parts (t a) (list_any t y) none in
    elim (cases_Bool (w a)) [
      | inl is ↦ inl is
      | inr other ↦ inr (parts.0, stands_some w t y c (sym (ap (λ (b : Bool). b || list_any w y) other) ∙ some) parts.1)
    ]

none_both : (p : Entry → Bool) (x y : List Entry) → list_any p x ≡ false → list_any p y ≡ false → list_any p (x ++ y) ≡ false
none_both p x y a b = list_any-append p x y ∙ or_from (list_any p x) (list_any p y) a b

-- what comes is copies x, then cache operations y, then a marker and the token
pub record Comes (p w : Entry → Bool) (n : MapId) (x y : List Entry) (mark out : Entry) : Type 0 where
  pub of_p : (a : Entry) → p a ≡ true → is_w a ≡ true
  pub of_w : (a : Entry) → w a ≡ true → is_w a ≡ true
  pub no_token : (list_any (names n) x ≡ false) × (list_any (names n) y ≡ false)
  pub none_given : list_any p y ≡ false
  pub written : list_any w y ≡ true
  pub marks : is_wo mark ≡ true
  pub no_write : (is_w mark ≡ false) × (is_w out ≡ false)
  pub mark_unnamed : names n mark ≡ false
  pub named : names n out ≡ true

not_w : (p : Entry → Bool) (a : Entry) → ((b : Entry) → p b ≡ true → is_w b ≡ true) → is_w a ≡ false → p a ≡ false
not_w p a of_p none = elim (cases_Bool (p a)) [ inl is ↦ absurd (both_ways (is_w a) none (of_p a is)) | inr other ↦ other ]

pub lends_ahead : (p w : Entry → Bool) (n : MapId) (x y : List Entry) (mark out : Entry) → Comes p w n x y mark out → LendsAhead p w n (x ++ (y ++ mark ∷ out ∷ []))
lends_ahead p w n x y mark out c =
    let tail = mark ∷ out ∷ [] in
    let p_mark = not_w p mark c.of_p c.no_write.0 in
    let p_out = not_w p out c.of_p c.no_write.1 in
    let w_mark = not_w w mark c.of_w c.no_write.0 in
    let none_tail : list_any p tail ≡ false = or_from (p mark) (list_any p (out ∷ [])) p_mark (or_from (p out) false p_out refl) in
    let marked_tail : Marked w (names n) tail = inr (λ is. absurd (both_ways (w mark) w_mark is), inl c.named) in
    let stands = stands_some w (names n) y tail c.written c.no_token.1 in
    record {
      behind = covered_behind p w (names n) x (y ++ tail) c.no_token.0 stands (covered-none p w (names n) (y ++ tail) (none_both p y tail c.none_given none_tail));
      written = stands_behind w (names n) x (y ++ tail) c.no_token.0 stands;
      marked = marked_behind w (names n) x (y ++ tail) c.no_token.0 (stands_behind is_wo (names n) y tail c.no_token.1 (inl c.marks)) (marked_behind w (names n) y tail c.no_token.1 (inl c.marks) marked_tail);
      marker = stands_behind is_wo (names n) x (y ++ tail) c.no_token.0 (stands_behind is_wo (names n) y tail c.no_token.1 (inl c.marks));
    }

-- ---- operations of a plan

-- a load, a store or a cache operation
abbrev pub is_plain : HartOp → Bool
is_plain (hart.Load span kind) = true
is_plain (hart.Store span kind bytes) = true
is_plain (hart.Cbo op block) = true
is_plain (hart.Fence pred succ) = false
is_plain (hart.IoLoad chan off width) = false
is_plain (hart.IoStore target) = false
is_plain (hart.Mark pred succ) = false

-- a clean or a flush
abbrev pub is_back : HartOp → Bool
is_back (hart.Cbo op block) = writes_back op
is_back (hart.Load span kind) = false
is_back (hart.Store span kind bytes) = false
is_back (hart.Fence pred succ) = false
is_back (hart.IoLoad chan off width) = false
is_back (hart.IoStore target) = false
is_back (hart.Mark pred succ) = false

abbrev pub Are : (HartOp → Bool) → List HartOp → Type 0
Are p ops = All (λ o. p o ≡ true) ops

pub are_append : (p : HartOp → Bool) (a b : List HartOp) → Are p a → Are p b → Are p (a ++ b)
are_append p [] b x y = y
are_append p (o ∷ a) b x y = All-cons (λ (k : HartOp). p k ≡ true) o (a ++ b) (All-head (λ (k : HartOp). p k ≡ true) o a x) (are_append p a b (All-tail (λ (k : HartOp). p k ≡ true) o a x) y)

pub are_flat : {A : Type 0} (p : HartOp → Bool) (f : A → List HartOp) (ps : List A) → ((a : A) → Are p (f a)) → Are p (flat_map f ps)
are_flat p f [] each = All-nil (λ (k : HartOp). p k ≡ true)
are_flat p f (a ∷ ps) each = are_append p (f a) (flat_map f ps) (each a) (are_flat p f ps each)

pub copies_plain : (from to : Span) → Are is_plain (copies from to)
copies_plain from to = are_flat is_plain (copy_piece from.at to.at) (pieces from)
    (λ piece.
    let store = hart.Store (plans.moved from.at to.at piece) Pma Last in
    All-cons (λ (k : HartOp). is_plain k ≡ true) (hart.Load piece Pma) (store ∷ []) refl (All-cons (λ (k : HartOp). is_plain k ≡ true) store [] refl (All-nil (λ (k : HartOp). is_plain k ≡ true))))

pub if_plain : (t : Bool) (ops : List HartOp) → Are is_plain ops → Are is_plain (if t then ops else [])
if_plain true ops all = all
if_plain false ops all = All-nil (λ (k : HartOp). is_plain k ≡ true)

copied_plain : (p : Part) → Are is_plain (copied_in p)
unfolding copied_in
copied_plain p = if_plain (is_bounced p) (copies p.buffer p.device) (copies_plain p.buffer p.device)

pub cbos_are : (p : HartOp → Bool) (op : CboOp) (bs : List ℕ) → ((b : ℕ) → p (cbo op b) ≡ true) → Are p (map (cbo op) bs)
cbos_are p op [] each = All-nil (λ (k : HartOp). p k ≡ true)
cbos_are p op (b ∷ bs) each = All-cons (λ (k : HartOp). p k ≡ true) (cbo op b) (map (cbo op) bs) (each b) (cbos_are p op bs each)

written_plain : (e : Effects) (size : ℕ) (p : Part) → Are is_plain (written_back e size p)
unfolding written_back
written_plain e size p = cbos_are is_plain (lend_op e p.dir) (blocks size p.device) (λ b. refl)

written_are_back : (e : Effects) (size : ℕ) (p : Part) → WritesBack e → Are is_back (written_back e size p)
unfolding written_back
written_are_back e size p writes = cbos_are is_back (lend_op e p.dir) (blocks size p.device) (λ b. writes p.dir)

-- ---- their entries

op_unnamed : (n : MapId) (o : HartOp) → is_plain o ≡ true → list_any (names n) (op_coming o) ≡ false
op_unnamed n (hart.Load span kind) is = refl
op_unnamed n (hart.Store span kind bytes) is = refl
op_unnamed n (hart.Cbo op block) is = refl
op_unnamed n (hart.Fence pred succ) is = absurd cc
op_unnamed n (hart.IoLoad chan off width) is = absurd cc
op_unnamed n (hart.IoStore target) is = absurd cc
op_unnamed n (hart.Mark pred succ) is = absurd cc

no_zero : (op : CboOp) → writes_back op ≡ true → is_zero op ≡ false
no_zero cbos.Clean is = refl
no_zero cbos.Flush is = refl
no_zero cbos.Inval is = absurd cc
no_zero cbos.Zero is = absurd cc

-- a test that no clean and no flush is of
abbrev pub LacksBack : (Entry → Bool) → Type 0
LacksBack p = (o : HartOp) → is_back o ≡ true → list_any p (op_coming o) ≡ false

pub none_of : (p : Entry → Bool) (q : HartOp → Bool) (ops : List HartOp) → ((o : HartOp) → q o ≡ true → list_any p (op_coming o) ≡ false) → Are q ops → list_any p (flat_map op_coming ops) ≡ false
none_of p q [] lacks all = refl
none_of p q (o ∷ ops) lacks all =
    none_both p (op_coming o) (flat_map op_coming ops) (lacks o (All-head (λ (k : HartOp). q k ≡ true) o ops all)) (none_of p q ops lacks (All-tail (λ (k : HartOp). q k ≡ true) o ops all))

cbo_gives : (s x : ℕ) (op : CboOp) (b : ℕ) → writes_back op ≡ true → gives_at s x (entries.Cbo (record { 0 = b }) op) ≡ false
cbo_gives s x cbos.Clean b is = refl
cbo_gives s x cbos.Flush b is = refl
cbo_gives s x cbos.Inval b is = absurd cc
cbo_gives s x cbos.Zero b is = absurd cc

cbo_in : (s x : ℕ) (op : CboOp) (b : ℕ) → writes_back op ≡ true → gives_in s x (entries.Cbo (record { 0 = b }) op) ≡ false
cbo_in s x cbos.Clean b is = refl
cbo_in s x cbos.Flush b is = refl
cbo_in s x cbos.Inval b is = absurd cc
cbo_in s x cbos.Zero b is = absurd cc

here_lacks : (m : MachineState) (y : ℕ) → LacksBack (gives_here m y)
here_lacks m y (hart.Cbo op block) is = or_from (gives_here m y (entries.Cbo block op)) false (cbo_gives m.size y op block.0 is) refl
here_lacks m y (hart.Load span kind) is = absurd cc
here_lacks m y (hart.Store span kind bytes) is = absurd cc
here_lacks m y (hart.Fence pred succ) is = absurd cc
here_lacks m y (hart.IoLoad chan off width) is = absurd cc
here_lacks m y (hart.IoStore target) is = absurd cc
here_lacks m y (hart.Mark pred succ) is = absurd cc

block_lacks : (m : MachineState) (y : ℕ) → LacksBack (gives_block m y)
block_lacks m y (hart.Cbo op block) is = or_from (gives_block m y (entries.Cbo block op)) false (cbo_in m.size (y / m.size) op block.0 is) refl
block_lacks m y (hart.Load span kind) is = absurd cc
block_lacks m y (hart.Store span kind bytes) is = absurd cc
block_lacks m y (hart.Fence pred succ) is = absurd cc
block_lacks m y (hart.IoLoad chan off width) is = absurd cc
block_lacks m y (hart.IoStore target) is = absurd cc
block_lacks m y (hart.Mark pred succ) is = absurd cc

-- ---- the operation of the place's block

pub flat_append : (a b : List HartOp) → flat_map op_coming (a ++ b) ≡ flat_map op_coming a ++ flat_map op_coming b
flat_append [] b = refl
flat_append (o ∷ a) b = ap (λ (es : List Entry). op_coming o ++ es) (flat_append a b) ∙ sym (append_assoc (op_coming o) (flat_map op_coming a) (flat_map op_coming b))

some_block : (op : CboOp) (b : ℕ) (bs : List ℕ) → writes_back op ≡ true → In b bs → list_any (has_op writes_back b) (flat_map op_coming (map (cbo op) bs)) ≡ true
some_block op b [] is here = absurd here
some_block op b (c ∷ bs) is (inl same) =
    or_left (has_op writes_back b (entries.Cbo (record { 0 = c }) op)) (list_any (has_op writes_back b) (flat_map op_coming (map (cbo op) bs))) (and_from (writes_back op) (c == b) is (eq-eqb c b same))
some_block op b (c ∷ bs) is (inr later) =
    or_right (has_op writes_back b (entries.Cbo (record { 0 = c }) op)) (list_any (has_op writes_back b) (flat_map op_coming (map (cbo op) bs))) (some_block op b bs is later)

pub some_append : (p : Entry → Bool) (a b : List Entry) → (list_any p a ≡ true) ⊎ (list_any p b ≡ true) → list_any p (a ++ b) ≡ true
some_append p a b (inl is) = list_any-append p a b ∙ or_left (list_any p a) (list_any p b) is
some_append p a b (inr is) = list_any-append p a b ∙ or_right (list_any p a) (list_any p b) is

some_part : (e : Effects) (size b : ℕ) (p : Part) → WritesBack e → In b (blocks size p.device) → list_any (has_op writes_back b) (flat_map op_coming (written_back e size p)) ≡ true
unfolding written_back
some_part e size b p writes here = some_block (lend_op e p.dir) b (blocks size p.device) (writes p.dir) here

some_written : (e : Effects) (size b : ℕ) (p : Part) (ps : List Part) → WritesBack e → In p ps → In b (blocks size p.device) → list_any (has_op writes_back b) (flat_map op_coming (flat_map (written_back e size) ps)) ≡ true
some_written e size b p [] writes part here = absurd part
some_written e size b p (q ∷ ps) writes (inl same) here =
    ap (list_any (has_op writes_back b)) (flat_append (written_back e size q) (flat_map (written_back e size) ps))
    ∙ some_append (has_op writes_back b) (flat_map op_coming (written_back e size q)) (flat_map op_coming (flat_map (written_back e size) ps)) (inl (rw same (some_part e size b p writes here)))
some_written e size b p (q ∷ ps) writes (inr later) here =
    ap (list_any (has_op writes_back b)) (flat_append (written_back e size q) (flat_map (written_back e size) ps))
    ∙ some_append (has_op writes_back b) (flat_map op_coming (written_back e size q)) (flat_map op_coming (flat_map (written_back e size) ps)) (inr (some_written e size b p ps writes later here))

-- ---- the steps of the plan

op_ends : (lot : LotId) (o : HartOp) → is_plain o ≡ true → ends lot (hart_step o) ≡ false
op_ends lot (hart.Load span kind) is = refl
op_ends lot (hart.Store span kind bytes) is = refl
op_ends lot (hart.Cbo op block) is = refl
op_ends lot (hart.Fence pred succ) is = absurd cc
op_ends lot (hart.IoLoad chan off width) is = absurd cc
op_ends lot (hart.IoStore target) is = absurd cc
op_ends lot (hart.Mark pred succ) is = absurd cc

ends_later : (lot : LotId) (ops : List HartOp) (rest : List Step) → list_any (ends lot) rest ≡ true → list_any (ends lot) (op_steps ops ++ rest) ≡ true
ends_later lot [] rest some = some
ends_later lot (o ∷ ops) rest some = or_right (ends lot (hart_step o)) (list_any (ends lot) (op_steps ops ++ rest)) (ends_later lot ops rest some)

coming_ops : (n : MapId) (lot : LotId) (ops : List HartOp) (rest : List Step) → Are is_plain ops → list_any (ends lot) rest ≡ true → coming n lot (op_steps ops ++ rest) ≡ flat_map op_coming ops ++ coming n lot rest
coming_ops n lot [] rest all some = refl
coming_ops n lot (o ∷ ops) rest all some =
    next n lot (hart_step o) (op_steps ops ++ rest) (op_ends lot o (All-head (λ (k : HartOp). is_plain k ≡ true) o ops all)) (ends_later lot ops rest some)
    ∙ ap (λ (es : List Entry). op_coming o ++ es) (coming_ops n lot ops rest (All-tail (λ (k : HartOp). is_plain k ≡ true) o ops all) some)
    ∙ sym (append_assoc (op_coming o) (flat_map op_coming ops) (coming n lot rest))

-- ---- its end

same_id : (lot : LotId) → (lot.label.0 == lot.label.0 && lot.first == lot.first) ≡ true
same_id lot = and_from (lot.label.0 == lot.label.0) (lot.first == lot.first) (eq-eqb lot.label.0 lot.label.0 refl) (eq-eqb lot.first lot.first refl)

-- the marker, and the token
abbrev pub end_mark : Bool → Entry
end_mark true = marker 1 4
end_mark false = entries.Mark 15 15

abbrev pub end_token : Bool → Lot → MapId → Entry
end_token true lot n = entries.Lend lot.id.label lot.id.first (length lot.list.entries)
end_token false lot n = token n

abbrev pub end_steps : Bool → Lot → List Step
end_steps light lot = if light then token_steps lot else turning (turns.Give lot.id) (hart_step plans.full) ∷ []

end_ends : (light : Bool) (lot : Lot) → list_any (ends lot.id) (end_steps light lot) ≡ true
end_ends true lot = or_right false _ (or_left _ false (same_id lot.id))
end_ends false lot = or_left _ false (or_left _ false (same_id lot.id))

given_if : (t : Bool) (n : MapId) → t ≡ true → (if t then token n ∷ [] else []) ≡ token n ∷ []
given_if true n is = refl
given_if false n is = absurd cc

end_coming : (light : Bool) (lot : Lot) (n : MapId) → coming n lot.id (end_steps light lot) ≡ end_mark light ∷ end_token light lot n ∷ []
end_coming true lot n =
    next n lot.id (hart_step (hart.Mark 1 4)) (hart_step (hart.IoStore (io.Lend lot.id.label lot.id.first (length lot.list.entries))) ∷ []) refl (or_left _ false (same_id lot.id))
    ∙ ap (λ (es : List Entry). marker 1 4 ∷ es) (last n lot.id (hart_step (hart.IoStore (io.Lend lot.id.label lot.id.first (length lot.list.entries)))) [] (same_id lot.id))
end_coming false lot n =
    last n lot.id (turning (turns.Give lot.id) (hart_step plans.full)) [] (or_left _ false (same_id lot.id))
    ∙ ap (λ (es : List Entry). entries.Mark 15 15 ∷ es) (given_if (lot.id.label.0 == lot.id.label.0 && lot.id.first == lot.id.first) n (same_id lot.id))

end_named : (light : Bool) (lot : Lot) (n : MapId) → IsEntryOf n lot → names n (end_token light lot n) ≡ true
end_named true lot n is =
    and_from (lot.id.label.0 == n.label.0) (nat_le lot.id.first n.entry && nat_lt n.entry (lot.id.first + length lot.list.entries)) (eq-eqb lot.id.label.0 n.label.0 (sym is.label))
    (and_from (nat_le lot.id.first n.entry) (nat_lt n.entry (lot.id.first + length lot.list.entries)) (le-leb lot.id.first n.entry is.from) (lt-ltb n.entry (lot.id.first + length lot.list.entries) is.before))
end_named false lot n is = named n

end_marks : (light : Bool) → is_wo (end_mark light) ≡ true
end_marks true = refl
end_marks false = refl

end_bare : (light : Bool) (lot : Lot) (n : MapId) → (is_w (end_mark light) ≡ false) × (is_w (end_token light lot n) ≡ false) × (names n (end_mark light) ≡ false)
end_bare true lot n = (refl, refl, refl)
end_bare false lot n = (refl, refl, refl)

-- ---- the whole

lends : (p : Entry → Bool) (f : DriverConfig) (lot : Lot) (n : MapId) (q : Part) (m : MachineState) (y : ℕ) → ((a : Entry) → p a ≡ true → is_w a ≡ true) → LacksBack p → IsBlockSize m.size → f.size ≡ m.size → WritesBack f.effects → IsEntryOf n lot
    → IsPlaceOf f lot q y → LendsAhead p (back m y) n (coming n lot.id (lend_steps f lot))
lends p f lot n q m y of_p lacks z size writes entry place =
    let ps = parts f lot in
    let first = flat_map copied_in ps in
    let second = flat_map (written_back f.effects f.size) ps in
    let plain_first = are_flat is_plain copied_in ps copied_plain in
    let plain_second = are_flat is_plain (written_back f.effects f.size) ps (written_plain f.effects f.size) in
    let back_second = are_flat is_back (written_back f.effects f.size) ps (λ r. written_are_back f.effects f.size r writes) in
    let x = flat_map op_coming first in
    let c = flat_map op_coming second in
    let tail = end_mark f.light ∷ end_token f.light lot n ∷ [] in
    let bare_ends = end_bare f.light lot n in
    let whole : coming n lot.id (lend_steps f lot) ≡ x ++ (c ++ tail) =
    coming_ops n lot.id (first ++ second) (end_steps f.light lot) (are_append is_plain first second plain_first plain_second) (end_ends f.light lot)
    ∙ ap (λ (es : List Entry). es ++ coming n lot.id (end_steps f.light lot)) (flat_append first second)
    ∙ ap (λ (es : List Entry). (x ++ c) ++ es) (end_coming f.light lot n)
    ∙ append_assoc x c tail in
    let met : In (y / m.size) (blocks f.size q.device) = rw size ((blocks_are_met m.size q.device z).all y place.from place.before) in
    subst (λ (es : List Entry). LendsAhead p (back m y) n es) (sym whole)
    (lends_ahead p (back m y) n x c (end_mark f.light) (end_token f.light lot n) (record {
      of_p = of_p;
      of_w = λ a is. op_w writes_back (y / m.size) a is;
      no_token = (none_of (names n) is_plain first (op_unnamed n) plain_first, none_of (names n) is_plain second (op_unnamed n) plain_second);
      none_given = none_of p is_back second lacks back_second;
      written = some_written f.effects f.size (y / m.size) q ps writes place.part met;
      marks = end_marks f.light;
      no_write = (bare_ends.0, bare_ends.1);
      mark_unnamed = bare_ends.2;
      named = end_named f.light lot n entry;
    }))

pub plans_lend : PlansLend
plans_lend = record {
  to = λ f lot n p m y z size writes entry place. lends (gives_here m y) f lot n p m y (λ a is. gives_w m.size y a is) (here_lacks m y) z size writes entry place;
  from = λ f lot n p m y z size writes entry place. lends (gives_block m y) f lot n p m y (λ a is. in_w m.size (y / m.size) a is) (block_lacks m y) z size writes entry place;
}
