-- What the plan of a copy is to put in the queue for each of its ends, once both are being lent: for the target what is put
-- for the source comes in front.
use Rattle.std.specs.Prelude.{flat_map, slice_get}
use Rattle.std.specs.List.{list_any}
use Rattle.std.proofs.Common.{◌≡◌, ℕ, Bool, true, false, List, [], ◌∷◌, ◌++◌, refl, sym, ap, ◌∙◌, inl, inr, subst, append_assoc, Some}
use Rattle.std.proofs.lemmas.Bool.{both_ways, cases_Bool, cond-true, cond-false, or_left, or_right, or_from, or_parts}
use Rattle.std.proofs.lemmas.List.Elements.{All-head, All-tail}
use Rattle.std.proofs.lemmas.List.Folds.{list_any-append}
use Rattle.nc_num.specs.Places.{covers}
use Rattle.nc_num.specs.Sizes.{IsBlockSize}
use Rattle.nc_num.specs.declared.names.MapId.{MapId}
use Rattle.nc_queue.specs.Entries.{is_wo}
use Rattle.nc_queue.specs.declared.entry.Entry.{Entry as QueueEntry}
use Rattle.nc_lines.specs.Lines.{gives_at}
use Rattle.nc_plan.specs.Parts.{is_bounced}
use Rattle.nc_plan.specs.Plans.{In, blocks, copies, copied_in, full, lend_op, written_back}
use Rattle.nc_plan.specs.declared.effects.Effects.{Effects}
use Rattle.nc_plan.specs.declared.ops.HartOp.{HartOp}
use Rattle.nc_plan.specs.declared.ops.HartOp.TheVariants as hart
use Rattle.nc_plan.specs.declared.parts.Part.{Part}
use Rattle.nc_sg.specs.declared.list.Entry.{Entry}
use Rattle.nc_rules.specs.declared.lots.Lot.{Lot}
use Rattle.nc_rules.specs.declared.lots.LotId.{LotId}
use Rattle.nc_rules.specs.declared.lots.Side.TheVariants as sides
use Rattle.nc_rules.specs.declared.steps.Step.{Step}
use Rattle.nc_rules.specs.declared.steps.Turn.TheVariants as turns
use Rattle.nc_rules.specs.Lots.{DriverConfig, is_lot, parts}
use Rattle.nc_rules.specs.Machine.{MachineState}
use Rattle.nc_rules.specs.Plans.{hart_step, op_steps, turning, carried, token_steps, lending_end, lend_steps}
use Rattle.nc_rules.specs.Turns.{is_area}
use Rattle.nc_scripts.proofs.Lists.{all_in}
use Rattle.nc_scripts.proofs.LotLaws.{its_name}
use Rattle.nc_rows.specs.Ahead.{ends, names, op_coming, act_coming, coming}
use Rattle.nc_rows.specs.Rows.{back, gives_here, gives_block}
use Rattle.nc_rows.proofs.Steps.{next}
use Rattle.nc_row_plans.specs.Begins.{LendsAhead}
use Rattle.nc_row_plans.specs.Plans.{WritesBack, IsPlaceOf, IsEntryOf}
use Rattle.nc_row_plans.proofs.LendingPlans.{is_plain, Are, are_append, are_flat, copies_plain, if_plain, cbos_are, none_of, plans_lend}
use Rattle.nc_row_plans.proofs.PlanBegins.{stands_behind, covered_behind, marked_behind}
use Rattle.nc_flatness.specs.Plans.{IsStill, IsBeside, device_of}
use Rattle.nc_flatness.specs.Tokens.{lot_token}
use Rattle.nc_flatness.proofs.plans.Rests.{lend_ends}
use Rattle.nc_flat_starts.proofs.going.CopyPlans.{coming_front}
use Rattle.nc_flat_starts.proofs.going.PlanComes.{append_steps, plain_ends, ends_behind}
use Rattle.nc_flat_starts.proofs.going.PlanOps.{IsPlanned}
use Rattle.nc_flat_starts.proofs.going.PlansGo.{Lends, lend_so}
use Rattle.nc_flat_starts.proofs.turning.Sides.{turned_lot}

-- a rest lends the lot: behind what gives a byte of it, or a block, comes a write-back, and then a marker, before its token
pub record LendsEnd (f : DriverConfig) (m : MachineState) (lot : Lot) (rest : List Step) : Type 0 where
  pub ended : list_any (ends lot.id) rest ≡ true
  pub to : (n : MapId) (p : Part) (y : ℕ) → IsEntryOf n lot → IsPlaceOf f lot p y → LendsAhead (gives_here m y) (back m y) n (coming n lot.id rest)
  pub from : (n : MapId) (p : Part) (y : ℕ) → IsEntryOf n lot → IsPlaceOf f lot p y → LendsAhead (gives_block m y) (back m y) n (coming n lot.id rest)
  pub stores : (n : MapId) (i : ℕ) (e : Entry) (y : ℕ) → slice_get lot.list.entries i ≡ Some e → e.bounced ≡ true → covers (device_of f e) y ≡ true → list_any (gives_at f.size y) (coming n lot.id rest) ≡ true

-- what is known of the hart and its machine
pub record MayLend (f : DriverConfig) (m : MachineState) : Type 0 where
  pub block : IsBlockSize m.size
  pub size : f.size ≡ m.size
  pub writes : WritesBack f.effects

-- ---- the steps that lend

in_plain : (p : Part) → Are is_plain (copied_in p)
unfolding copied_in
in_plain p = if_plain (is_bounced p) (copies p.buffer p.device) (copies_plain p.buffer p.device)

back_plain : (e : Effects) (size : ℕ) (p : Part) → Are is_plain (written_back e size p)
unfolding written_back
back_plain e size p = cbos_are is_plain (lend_op e p.dir) (blocks size p.device) (λ b. refl)

-- loads, stores and cache operations, and then a full fence, or with light fences a marker and the token
abbrev pub lending_ops : DriverConfig → Lot → List HartOp
lending_ops f lot = carried f.effects f.size (parts f lot)

abbrev pub give_step : LotId → Step
give_step id = turning (turns.Give id) (hart_step full)

pub lending_plain : (f : DriverConfig) (lot : Lot) → Are is_plain (lending_ops f lot)
lending_plain f lot =
    let ps = parts f lot in
    are_append is_plain (flat_map copied_in ps) (flat_map (written_back f.effects f.size) ps) (are_flat is_plain copied_in ps in_plain) (are_flat is_plain (written_back f.effects f.size) ps (back_plain f.effects f.size))

pub lending_is : (f : DriverConfig) (lot : Lot) (more : List Step) → lend_steps f lot ++ more ≡ op_steps (lending_ops f lot) ++ (lending_end f lot ++ more)
lending_is f lot more = append_steps (op_steps (lending_ops f lot)) (lending_end f lot) more

-- what holds of a marker and the token, and of a full fence, holds of the end of a lending
pub lending_end_by : (P : List Step → Type 0) (f : DriverConfig) (lot : Lot) → P (token_steps lot) → P (give_step lot.id ∷ []) → P (lending_end f lot)
lending_end_by P f lot light full_fences = elim (cases_Bool f.light) [
  | inl is ↦ subst P (sym (cond-true f.light (token_steps lot) (give_step lot.id ∷ []) is)) light
  | inr off ↦ subst P (sym (cond-false f.light (token_steps lot) (give_step lot.id ∷ []) off)) full_fences
]

-- ---- the lot that is lent first

-- as the one lot of a hart it is lent
lent_alone : (f : DriverConfig) (lot : Lot) → is_area lot.kind ≡ false → IsPlanned f lot → WritesBack f.effects → Lends f (turned_lot sides.Lending lot ∷ []) (turned_lot sides.Lending lot) (lend_steps f lot)
lent_alone f lot plain is writes =
    let now = turned_lot sides.Lending lot in
    let never : (other : Lot) → In other (now ∷ []) → is_lot now.id other ≡ false → ⊥ =
    λ other there off. elim there [ inl same ↦ both_ways (is_lot now.id other) off (its_name other now.id (ap (λ (l : Lot). l.id) (sym same))) | inr none ↦ none ] in
    lend_so f (now ∷ []) now
    (record { here = inl refl; area_is = plain; side_is = refl; others = all_in (λ (other : Lot). is_lot now.id other ≡ false → IsBeside f now other) (now ∷ []) (λ other there off. absurd (never other there off)) })
    (all_in (λ (other : Lot). is_lot now.id other ≡ false → IsStill f other) (now ∷ []) (λ other there off. absurd (never other there off)))
    (λ other there named. elim there [ inl same ↦ ap (λ (l : Lot). l.side) (sym same) | inr none ↦ absurd none ])
    (record { size = is.size; some = is.some; off = is.off; slots = is.slots; buffers = is.buffers }) writes

pub first_lent : (f : DriverConfig) (m : MachineState) (lot : Lot) (more : List Step) → MayLend f m → is_area lot.kind ≡ false → IsPlanned f lot → LendsEnd f m lot (lend_steps f lot ++ more)
first_lent f m lot more k plain is =
    let ended = lend_ends f lot in
    let front : (n : MapId) → coming n lot.id (lend_steps f lot) ≡ coming n lot.id (lend_steps f lot ++ more) = λ n. sym (coming_front n lot.id (lend_steps f lot) more ended) in
    record {
      ended = list_any-append (ends lot.id) (lend_steps f lot) more ∙ or_left (list_any (ends lot.id) (lend_steps f lot)) (list_any (ends lot.id) more) ended;
      to = λ n p y entry at. subst (λ (es : List QueueEntry). LendsAhead (gives_here m y) (back m y) n es) (front n) (plans_lend.to f lot n p m y k.block k.size k.writes entry at);
      from = λ n p y entry at. subst (λ (es : List QueueEntry). LendsAhead (gives_block m y) (back m y) n es) (front n) (plans_lend.from f lot n p m y k.block k.size k.writes entry at);
      stores = λ n i e y there bounced on. subst (λ (es : List QueueEntry). list_any (gives_at f.size y) es ≡ true) (front n) ((lent_alone f lot plain is k.writes).stores i e y there bounced on n);
    }

-- ---- what is put before a lot is lent

plain_unnamed : (n : MapId) (o : HartOp) → is_plain o ≡ true → list_any (names n) (op_coming o) ≡ false
plain_unnamed n (hart.Load span kind) is = refl
plain_unnamed n (hart.Store span kind bytes) is = refl
plain_unnamed n (hart.Cbo op block) is = refl
plain_unnamed n (hart.Fence pred succ) is = absurd cc
plain_unnamed n (hart.IoLoad chan off width) is = absurd cc
plain_unnamed n (hart.IoStore target) is = absurd cc
plain_unnamed n (hart.Mark pred succ) is = absurd cc

ops_coming : (n : MapId) (id : LotId) (ops : List HartOp) (rest : List Step) → Are is_plain ops → list_any (ends id) rest ≡ true → coming n id (op_steps ops ++ rest) ≡ flat_map op_coming ops ++ coming n id rest
ops_coming n id [] rest all some = refl
ops_coming n id (o ∷ ops) rest all some =
    next n id (hart_step o) (op_steps ops ++ rest) (plain_ends id o (All-head (λ (k : HartOp). is_plain k ≡ true) o ops all)) (ends_behind id ops rest some)
    ∙ ap (λ (es : List QueueEntry). op_coming o ++ es) (ops_coming n id ops rest (All-tail (λ (k : HartOp). is_plain k ≡ true) o ops all) some) ∙ sym (append_assoc (op_coming o) (flat_map op_coming ops) (coming n id rest))

-- the same of steps
steps_coming : (n : MapId) (id : LotId) (steps rest : List Step) → list_any (ends id) steps ≡ false → list_any (ends id) rest ≡ true → coming n id (steps ++ rest) ≡ flat_map (λ (s : Step). act_coming s.act) steps ++ coming n id rest
steps_coming n id [] rest none some = refl
steps_coming n id (s ∷ steps) rest none some =
    let off = or_parts (ends id s) (list_any (ends id) steps) none in
    let later = list_any-append (ends id) steps rest ∙ or_right (list_any (ends id) steps) (list_any (ends id) rest) some in
    next n id s (steps ++ rest) off.0 later ∙ ap (λ (es : List QueueEntry). act_coming s.act ++ es) (steps_coming n id steps rest off.1 some)
    ∙ sym (append_assoc (act_coming s.act) (flat_map (λ (t : Step). act_coming t.act) steps) (coming n id rest))

-- entries that name none of the mappings of the lot that comes behind, where a token in front of it does not
record PutsFirst (n : MapId) (id : LotId) (first : Lot) (steps rest : List Step) : Type 0 where
  puts : List QueueEntry
  comes : coming n id (steps ++ rest) ≡ puts ++ coming n id rest
  unnamed : names n (lot_token first) ≡ false → list_any (names n) puts ≡ false

puts_first : (f : DriverConfig) (lot : Lot) (n : MapId) (id : LotId) (rest : List Step) → list_any (ends id) (lending_end f lot) ≡ false → list_any (ends id) rest ≡ true → PutsFirst n id lot (lend_steps f lot) rest
puts_first f lot n id rest off ended =
    let ops = lending_ops f lot in
    let end = lending_end f lot in
    let plain = lending_plain f lot in
    let a = flat_map op_coming ops in
    let b = flat_map (λ (s : Step). act_coming s.act) end in
    let last = coming n id rest in
    let later = list_any-append (ends id) end rest ∙ or_right (list_any (ends id) end) (list_any (ends id) rest) ended in
    let whole : coming n id (lend_steps f lot ++ rest) ≡ a ++ (b ++ last) = ap (coming n id) (lending_is f lot rest) ∙ ops_coming n id ops (end ++ rest) plain later ∙ ap (λ (es : List QueueEntry). a ++ es) (steps_coming n id end rest off ended) in
    record {
      puts = a ++ b;
      comes = whole ∙ sym (append_assoc a b last);
      unnamed = λ free.
          list_any-append (names n) a b
          ∙ or_from (list_any (names n) a) (list_any (names n) b) (none_of (names n) is_plain ops (plain_unnamed n) plain)
          (lending_end_by (λ (ss : List Step). list_any (names n) (flat_map (λ (s : Step). act_coming s.act) ss) ≡ false) f lot (or_from (names n (lot_token lot)) false free refl) refl);
    }

ahead_behind : (p w : QueueEntry → Bool) (n : MapId) (q c : List QueueEntry) → list_any (names n) q ≡ false → LendsAhead p w n c → LendsAhead p w n (q ++ c)
ahead_behind p w n q c none is = record {
  behind = covered_behind p w (names n) q c none is.written is.behind;
  written = stands_behind w (names n) q c none is.written;
  marked = marked_behind w (names n) q c none is.marker is.marked;
  marker = stands_behind is_wo (names n) q c none is.marker;
}

-- ---- the lot that is lent behind another

pub later_lent : (f : DriverConfig) (m : MachineState) (first lot : Lot) (rest : List Step) → list_any (ends lot.id) (lending_end f first) ≡ false → ((n : MapId) → IsEntryOf n lot → names n (lot_token first) ≡ false) → LendsEnd f m lot rest → LendsEnd f m lot (lend_steps f first ++ rest)
later_lent f m first lot rest off free l =
    let put : (n : MapId) → PutsFirst n lot.id first (lend_steps f first) rest = λ n. puts_first f first n lot.id rest off l.ended in
    record {
      ended = list_any-append (ends lot.id) (lend_steps f first) rest ∙ or_right (list_any (ends lot.id) (lend_steps f first)) (list_any (ends lot.id) rest) l.ended;
      to = λ n p y entry at. let b = put n in subst (λ (es : List QueueEntry). LendsAhead (gives_here m y) (back m y) n es) (sym b.comes) (ahead_behind (gives_here m y) (back m y) n b.puts (coming n lot.id rest) (b.unnamed (free n entry)) (l.to n p y entry at));
      from = λ n p y entry at. let b = put n in subst (λ (es : List QueueEntry). LendsAhead (gives_block m y) (back m y) n es) (sym b.comes) (ahead_behind (gives_block m y) (back m y) n b.puts (coming n lot.id rest) (b.unnamed (free n entry)) (l.from n p y entry at));
      stores = λ n i e y there bounced on.
          let b = put n in
          ap (list_any (gives_at f.size y)) b.comes ∙ list_any-append (gives_at f.size y) b.puts (coming n lot.id rest)
          ∙ or_right (list_any (gives_at f.size y) b.puts) (list_any (gives_at f.size y) (coming n lot.id rest)) (l.stores n i e y there bounced on);
    }
