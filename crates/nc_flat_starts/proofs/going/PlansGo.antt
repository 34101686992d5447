-- The plan with which a lot is lent goes through: what each of its steps is for, at its start.
use Rattle.std.specs.Prelude.{Some, ◌||◌, Bool, true, false, if◌then◌else◌, All, length, flat_map, slice_get}
use Rattle.std.specs.List.{list_any}
use Rattle.std.proofs.Common.{◌≡◌, ◌⊎◌, ℕ, List, [], ◌∷◌, ◌++◌, refl, sym, ap, ◌∙◌, inl, inr, subst}
use Rattle.std.proofs.lemmas.Bool.{or_left, or_right, or_from, both_ways, cases_Bool, false_from_ne_true, cond-true, cond-false}
use Rattle.std.proofs.lemmas.List.Elements.{All-cons, All-head, All-tail}
use Rattle.nc_num.specs.Places.{covers}
use Rattle.nc_num.specs.declared.names.MapId.{MapId}
use Rattle.nc_num.specs.declared.names.MemType.TheVariants.{Pma}
use Rattle.nc_num.specs.declared.places.Span.{Span}
use Rattle.nc_lines.specs.Lines.{gives_at}
use Rattle.nc_queue.specs.declared.entry.Entry.{Entry as QueueEntry}
use Rattle.nc_queue.specs.declared.entry.Entry.TheVariants as entries
use Rattle.nc_hart.specs.Issue.{marker}
use Rattle.nc_plan.specs.Plans.{In, full, written_back}
use Rattle.nc_plan.specs.declared.ops.HartOp.{HartOp}
use Rattle.nc_plan.specs.declared.ops.HartOp.TheVariants as hart
use Rattle.nc_plan.specs.declared.ops.Payload.TheVariants.{Last}
use Rattle.nc_sg.specs.declared.list.Entry.{Entry}
use Rattle.nc_rules.specs.declared.lots.Lot.{Lot}
use Rattle.nc_rules.specs.declared.lots.LotId.{LotId}
use Rattle.nc_rules.specs.declared.lots.Side.TheVariants as sides
use Rattle.nc_rules.specs.declared.steps.Step.{Step}
use Rattle.nc_rules.specs.declared.steps.Turn.TheVariants as turns
use Rattle.nc_rules.specs.Lots.{DriverConfig, is_lot, parts}
use Rattle.nc_rules.specs.Plans.{hart_step, op_steps, turning, carried, token_steps, lending_end, lend_steps}
use Rattle.nc_rules.specs.Turns.{is_area, lots_after}
use Rattle.nc_scripts.proofs.Lists.{all_to}
use Rattle.nc_holds.specs.Held.{SharesNone}
use Rattle.nc_rows.specs.Ahead.{turns_lot, gives_lot, ends, posts, op_coming, coming}
use Rattle.nc_rows.proofs.Steps.{next, last}
use Rattle.nc_row_plans.specs.Plans.{WritesBack}
use Rattle.nc_row_plans.proofs.LendingPlans.{is_plain, Are}
use Rattle.nc_flatness.specs.Tokens.{lot_token, ends_lending}
use Rattle.nc_flatness.proofs.plans.Rests.{by_token, give_lends, lend_has_end}
use Rattle.nc_flatness.specs.Plans.{IsStill, IsInHand, IsQuiet, HasLend, Marks, Posts, token_step, HasFull, HasByte, LoadsFirst, GoesIn, ComesOut, IsDrop, Loads, Stores, WritesBack as WritesBackGoes, Drops, Gives, PlanGoes, device_of}
use Rattle.nc_flat_starts.proofs.going.Pieces.{Move, stored, moves_of, IsMove, MovesApart, moves_are, moves_apart, move_at, pairs_apart}
use Rattle.nc_flat_starts.proofs.going.PlanComes.{EndsOnly, unlent_ops, ops_of, only_ops, ends_behind, lends_behind, silent_ops, comes_ops, full_behind, copies_are, copies_give, steps_append, append_steps}
use Rattle.nc_flat_starts.proofs.turning.Sides.{Others, NamesLent}
use Rattle.nc_flat_starts.proofs.going.PlanOps.{in_cut, IsPlanned, in_even, IsPlan, same_id, ins_are, IsWriting, written_are, IsDropping, writing_are_plain, dropping_are_plain, writes_first, drops_first, writings_give}
use Rattle.nc_flat_starts.proofs.going.PlanEnds.{LendingEnd, lending_only, token_lent, fence_byte, lending_end_so}
use Rattle.nc_flat_starts.proofs.going.NoBytes.{IsOfBytes, all_coming, ops_none, copies_none, writings_none}

-- ---- write-backs go

writes_go : (f : DriverConfig) (lots : List Lot) (lot : Lot) (ops : List HartOp) (rest : List Step) → IsInHand f lots lot false sides.Lending → All IsWriting ops → HasLend lot.id rest → LoadsFirst rest → PlanGoes f lots rest → PlanGoes f lots (op_steps ops ++ rest)
writes_go f lots lot [] rest hand all lends first go = go
writes_go f lots lot (o ∷ ops) rest hand all lends first go =
    let w = All-head IsWriting o ops all in
    let more = All-tail IsWriting o ops all in
    (WritesBackGoes (record { lot = lot; hand = hand; op = w.op; block = w.block; step = ap hart_step w.is; writes = w.writes; later = lends_behind lot.id ops rest lends; next = writes_first ops rest more first }), writes_go f lots lot ops rest hand more lends first go)

-- ---- drops go

unfoldable pub drop_at : (f : DriverConfig) (lots : List Lot) (lot : Lot) (o : HartOp) (ops : List HartOp) (rest : List Step) → IsInHand f lots lot false sides.Returning → IsDropping f lot o → All (IsDropping f lot) ops → list_any (ends lot.id) rest ≡ true → HasFull lot.id rest true → LoadsFirst rest
    → IsDrop f lots (hart_step o) (op_steps ops ++ rest)
drop_at f lots lot o ops rest hand d more ended fenced first = record {
  lot = lot;
  hand = hand;
  back = d.back;
  op = d.op;
  block = d.block;
  step = ap hart_step d.is;
  drops = d.drops;
  i = d.i;
  entry = d.entry;
  here = record { lot_in = hand.here; entry = d.there };
  place = d.place;
  covered = d.covered;
  met = d.met;
  ahead = λ n. full_behind n lot.id ops rest true (dropping_are_plain f lot ops more) ended (fenced n);
  next = drops_first f lot ops rest more first;
}

pub drops_go : (f : DriverConfig) (lots : List Lot) (lot : Lot) (ops : List HartOp) (rest : List Step) → IsInHand f lots lot false sides.Returning → All (IsDropping f lot) ops → list_any (ends lot.id) rest ≡ true → HasFull lot.id rest true → LoadsFirst rest → PlanGoes f lots rest
    → PlanGoes f lots (op_steps ops ++ rest)
drops_go f lots lot [] rest hand all ended fenced first go = go
drops_go f lots lot (o ∷ ops) rest hand all ended fenced first go =
    let d = All-head (IsDropping f lot) o ops all in
    let more = All-tail (IsDropping f lot) o ops all in
    (Drops (drop_at f lots lot o ops rest hand d more ended fenced first), drops_go f lots lot ops rest hand more ended fenced first go)

-- ---- copies go

-- which way an entry is copied, whatever of the plan is before
abbrev Ways : DriverConfig → List Lot → Lot → (Entry → Span × Span) → List Step → Type 0
Ways f lots lot cut rest = (e : Entry) (ops : List HartOp) → Are is_plain ops → GoesIn f lots lot e (op_steps ops ++ rest) (cut e).0 (cut e).1 ⊎ ComesOut f lots lot e (op_steps ops ++ rest) (cut e).0 (cut e).1

pub copies_first : (cut : Entry → Span × Span) (ms : List Move) (rest : List Step) → LoadsFirst rest → LoadsFirst (op_steps (flat_map (ops_of cut) ms) ++ rest)
copies_first cut [] rest first = first
copies_first cut (m ∷ ms) rest first = refl

pub none_gives : (cut : Entry → Span × Span) (m : Move) (ms : List Move) (x : ℕ) → All (λ k. SharesNone (stored cut m) (stored cut k)) ms → covers (stored cut m) x ≡ true → list_any (λ k. covers (stored cut k) x) ms ≡ false
none_gives cut m [] x all on = refl
none_gives cut m (k ∷ ms) x all on =
    let P : Move → Type 0 = λ (k : Move). SharesNone (stored cut m) (stored cut k) in
    or_from (covers (stored cut k) x) (list_any (λ k. covers (stored cut k) x) ms) (false_from_ne_true (covers (stored cut k) x) (λ there. All-head P k ms all x on there)) (none_gives cut m ms x (All-tail P k ms all) on)

pub copies_byte : (f : DriverConfig) (id : LotId) (cut : Entry → Span × Span) (ms : List Move) (rest : List Step) (x : ℕ) (n : MapId) → list_any (ends id) rest ≡ true
    → list_any (gives_at f.size x) (coming n id (op_steps (flat_map (ops_of cut) ms) ++ rest)) ≡ (list_any (λ k. covers (stored cut k) x) ms || list_any (gives_at f.size x) (coming n id rest))
copies_byte f id cut ms rest x n ended =
    comes_ops (gives_at f.size x) n id (flat_map (ops_of cut) ms) rest (copies_are cut ms) ended ∙ ap (λ (t : Bool). t || list_any (gives_at f.size x) (coming n id rest)) (copies_give f.size x cut ms)

pub copies_go : (f : DriverConfig) (lots : List Lot) (lot : Lot) (cut : Entry → Span × Span) (ms : List Move) (rest : List Step) → In lot lots → Ways f lots lot cut rest → All (IsMove cut lot.list.entries) ms → MovesApart cut ms → list_any (ends lot.id) rest ≡ true → LoadsFirst rest
    → ((m : Move) (x : ℕ) → In m ms → covers (stored cut m) x ≡ true → HasByte f lot.id rest x false) → PlanGoes f lots rest → PlanGoes f lots (op_steps (flat_map (ops_of cut) ms) ++ rest)
copies_go f lots lot cut [] rest here ways all apart ended first once go = go
copies_go f lots lot cut (m ∷ ms) rest here ways all apart ended first once go =
    let is = All-head (IsMove cut lot.list.entries) m ms all in
    let from = (cut m.entry).0 in
    let to = (cut m.entry).1 in
    let store = hart.Store (stored cut m) Pma Last in
    let ops = flat_map (ops_of cut) ms in
    let plain = copies_are cut ms in (
      Loads (record {
        from = from;
        to = to;
        copied = record { lot = lot; i = is.i; entry = m.entry; here = record { lot_in = here; entry = is.entry }; bounced = is.bounced; way = ways m.entry (store ∷ ops) (All-cons (λ (k : HartOp). is_plain k ≡ true) store ops refl plain) };
        span = m.piece;
        step = refl;
        within = is.within;
        next = refl;
      }),
      (
        Stores (record {
          from = from;
          to = to;
          copied = record { lot = lot; i = is.i; entry = m.entry; here = record { lot_in = here; entry = is.entry }; bounced = is.bounced; way = ways m.entry ops plain };
          span = m.piece;
          act = refl;
          first = refl;
          within = is.within;
          once = λ x on n. copies_byte f lot.id cut ms rest x n ended ∙ or_from (list_any (λ k. covers (stored cut k) x) ms) (list_any (gives_at f.size x) (coming n lot.id rest)) (none_gives cut m ms x apart.0 on) (once m x (inl refl) on n);
          next = copies_first cut ms rest first;
          last = inl refl;
        }),
        copies_go f lots lot cut ms rest here ways (All-tail (IsMove cut lot.list.entries) m ms all) apart.1 ended first (λ k x there on. once k x (inr there) on) go,
      ),
    )

-- ---- a lot is lent

pub some_gives : (cut : Entry → Span × Span) (ms : List Move) (m : Move) (x : ℕ) → In m ms → covers (stored cut m) x ≡ true → list_any (λ k. covers (stored cut k) x) ms ≡ true
some_gives cut [] m x here on = absurd here
some_gives cut (k ∷ ms) m x (inl same) on = or_left (covers (stored cut k) x) (list_any (λ k. covers (stored cut k) x) ms) (subst (λ (j : Move). covers (stored cut j) x ≡ true) (sym same) on)
some_gives cut (k ∷ ms) m x (inr later) on = or_right (covers (stored cut k) x) (list_any (λ k. covers (stored cut k) x) ms) (some_gives cut ms m x later on)

-- it goes through, and puts each byte into its slot
pub record Lends (f : DriverConfig) (lots : List Lot) (lot : Lot) (steps : List Step) : Type 0 where
  pub goes : PlanGoes f lots steps
  pub plan : IsPlan lot.id steps
  pub stores : (i : ℕ) (e : Entry) (y : ℕ) → slice_get lot.list.entries i ≡ Some e → e.bounced ≡ true → covers (device_of f e) y ≡ true → HasByte f lot.id steps y true

-- what is done before it may be lent, in front of these steps
abbrev copied_ops : DriverConfig → Lot → List HartOp
copied_ops f lot = flat_map (ops_of (in_cut f)) (moves_of (in_cut f) lot.list.entries)

abbrev backs_ops : DriverConfig → Lot → List HartOp
backs_ops f lot = flat_map (written_back f.effects f.size) (parts f lot)

carried_is : (f : DriverConfig) (lot : Lot) (end : List Step) → IsPlanned f lot → op_steps (carried f.effects f.size (parts f lot)) ++ end ≡ op_steps (copied_ops f lot) ++ (op_steps (backs_ops f lot) ++ end)
carried_is f lot end is =
    ap (λ (ops : List HartOp). op_steps (ops ++ backs_ops f lot) ++ end) (ins_are f lot.list.dir lot.list.entries is.off) ∙ ap (λ (ss : List Step). ss ++ end) (steps_append (copied_ops f lot) (backs_ops f lot))
    ∙ append_steps (op_steps (copied_ops f lot)) (op_steps (backs_ops f lot)) end

carried_goes : (f : DriverConfig) (lots : List Lot) (lot : Lot) (end : List Step) → IsInHand f lots lot false sides.Lending → IsPlanned f lot → WritesBack f.effects → HasLend lot.id end → LoadsFirst end → ((x : ℕ) (n : MapId) → list_any (gives_at f.size x) (coming n lot.id end) ≡ false) → PlanGoes f lots end
    → PlanGoes f lots (op_steps (copied_ops f lot) ++ (op_steps (backs_ops f lot) ++ end))
carried_goes f lots lot end hand is writes lends first byte go =
    let es = lot.list.entries in
    let cut = in_cut f in
    let ms = moves_of cut es in
    let backs = backs_ops f lot in
    let all = written_are f lot writes in
    let tail = op_steps backs ++ end in
    let plain = writing_are_plain backs all in
    let ended = lend_has_end lot.id end lends in
    let later = ends_behind lot.id backs end ended in
    let given = lends_behind lot.id backs end lends in
    copies_go f lots lot cut ms tail hand.here (λ e ops all_plain. inl (record { hand = hand; later = lends_behind lot.id ops tail given; from_is = refl; to_is = refl })) (moves_are cut es) (moves_apart cut es (in_even f) (pairs_apart cut es is.slots)) later (writes_first backs end all first)
    (λ m x there on n.
    comes_ops (gives_at f.size x) n lot.id backs end plain ended ∙ or_from (list_any (gives_at f.size x) (flat_map op_coming backs)) (list_any (gives_at f.size x) (coming n lot.id end)) (writings_give f.size x backs all) (byte x n))
    (writes_go f lots lot backs end hand all lends first go)

carried_first : (f : DriverConfig) (lot : Lot) (end : List Step) → WritesBack f.effects → LoadsFirst end → LoadsFirst (op_steps (copied_ops f lot) ++ (op_steps (backs_ops f lot) ++ end))
carried_first f lot end writes first = copies_first (in_cut f) (moves_of (in_cut f) lot.list.entries) (op_steps (backs_ops f lot) ++ end) (writes_first (backs_ops f lot) end (written_are f lot writes) first)

carried_silent : (f : DriverConfig) (lot : Lot) (end : List Step) (b : ℕ) → WritesBack f.effects → list_any (posts b) end ≡ false → list_any (posts b) (op_steps (copied_ops f lot) ++ (op_steps (backs_ops f lot) ++ end)) ≡ false
carried_silent f lot end b writes silent =
    silent_ops b (copied_ops f lot) (op_steps (backs_ops f lot) ++ end) (copies_are (in_cut f) (moves_of (in_cut f) lot.list.entries)) (silent_ops b (backs_ops f lot) end (writing_are_plain (backs_ops f lot) (written_are f lot writes)) silent)

pub lend_so : (f : DriverConfig) (lots : List Lot) (lot : Lot) → IsInHand f lots lot false sides.Lending → Others (IsStill f) lot.id lots → NamesLent lot.id lots → IsPlanned f lot → WritesBack f.effects → Lends f lots lot (lend_steps f lot)
lend_so f lots lot hand others named is writes =
    let es = lot.list.entries in
    let cut = in_cut f in
    let ms = moves_of cut es in
    let copied = copied_ops f lot in
    let backs = backs_ops f lot in
    let all = written_are f lot writes in
    let end = lending_end f lot in
    let k : LendingEnd f lots lot end = lending_end_so f lots lot false hand others named in
    let tail = op_steps backs ++ end in
    let plain = writing_are_plain backs all in
    let ended = ends_behind lot.id backs end k.plan.ended in
    subst (λ (ss : List Step). Lends f lots lot ss) (sym (carried_is f lot end is)) (record {
      goes = carried_goes f lots lot end hand is writes k.lends k.plan.first (λ x n. k.byte f.size x n) k.goes;
      plan = record {
        ended = ends_behind lot.id copied tail ended;
        only = only_ops lot.id copied tail (copies_are cut ms) (only_ops lot.id backs end plain k.plan.only);
        silent = λ b. carried_silent f lot end b writes (k.plan.silent b);
        first = carried_first f lot end writes k.plan.first;
      };
      stores = λ i e y there bounced on n.
          let to = move_at cut es i e y (in_even f) there bounced on in
          copies_byte f lot.id cut ms tail y n ended ∙ or_left (list_any (λ j. covers (stored cut j) y) ms) (list_any (gives_at f.size y) (coming n lot.id tail)) (some_gives cut ms to.0 y to.1 to.2);
    })

-- ---- a lot is lent, and more is behind it

abbrev give_step : LotId → Step
give_step id = turning (turns.Give id) (hart_step full)

-- the lots behind the steps that lend it: with light fences its token is queued then
abbrev pub lots_lent : DriverConfig → LotId → List Lot → List Lot
lots_lent f id lots = if f.light then lots else lots_after (turns.Give id) lots

lent_is : (f : DriverConfig) (lot : Lot) (end more : List Step) → IsPlanned f lot → lending_end f lot ≡ end → lend_steps f lot ++ more ≡ op_steps (copied_ops f lot) ++ (op_steps (backs_ops f lot) ++ (end ++ more))
lent_is f lot end more is same =
    append_steps (op_steps (carried f.effects f.size (parts f lot))) (lending_end f lot) more ∙ ap (λ (ss : List Step). op_steps (carried f.effects f.size (parts f lot)) ++ (ss ++ more)) same
    ∙ carried_is f lot (end ++ more) is

give_ended : (id : LotId) → ends id (give_step id) ≡ true
give_ended id = or_left (turns_lot id (turns.Give id)) _ (same_id id)

-- what is behind a token that is queued
pub record IsBehindToken (f : DriverConfig) (lot : Lot) (more : List Step) : Type 0 where
  pub lent : list_any (ends_lending lot.id) more ≡ false
  pub quiet : IsQuiet f lot more

token_byte : (s x : ℕ) (n : MapId) (lot : Lot) (more : List Step) → list_any (gives_at s x) (coming n lot.id (token_steps lot ++ more)) ≡ false
token_byte s x n lot more =
    ap (list_any (gives_at s x))
    (next n lot.id (hart_step (hart.Mark 1 4)) (token_step lot ∷ more) refl (or_left (ends lot.id (token_step lot)) (list_any (ends lot.id) more) (by_token lot))
    ∙ ap (λ (es : List QueueEntry). marker 1 4 ∷ es) (last n lot.id (token_step lot) more (by_token lot)))

pub lend_goes : (f : DriverConfig) (lots : List Lot) (lot : Lot) (more : List Step) → IsInHand f lots lot false sides.Lending → IsPlanned f lot → WritesBack f.effects → (f.light ≡ true → IsBehindToken f lot more) → LoadsFirst more → PlanGoes f (lots_lent f lot.id lots) more
    → PlanGoes f lots (lend_steps f lot ++ more)
lend_goes f lots lot more hand is writes behind first go = elim (cases_Bool f.light) [
  | inl light ↦
      let b = behind light in
      let end = token_steps lot ++ more in
      let its : IsInHand f lots lot (is_area lot.kind) sides.Lending = record { here = hand.here; area_is = refl; side_is = hand.side_is; others = hand.others } in
      let later : PlanGoes f lots more = subst (λ (ls : List Lot). PlanGoes f ls more) (cond-true f.light lots (lots_after (turns.Give lot.id) lots) light) go in
      subst (λ (ss : List Step). PlanGoes f lots ss) (sym (lent_is f lot (token_steps lot) more is (cond-true f.light (token_steps lot) (give_step lot.id ∷ []) light)))
      (carried_goes f lots lot end hand is writes (token_lent lot more) refl (λ x n. token_byte f.size x n lot more) (
        Marks (record { lot = lot; hand = its; light = light; step = refl; more = more; left = refl }),
        (
          Posts (record {
            lot = lot;
            hand = its;
            light = light;
            step = refl;
            lent = b.lent;
            next = first;
            quiet = b.quiet;
            over = λ area. absurd (both_ways (is_area lot.kind) hand.area_is area);
          }),
          later,
        ),
      ))
  | inr full_fences ↦
      let end = give_step lot.id ∷ more in
      let later = subst (λ (ls : List Lot). PlanGoes f ls more) (cond-false f.light lots (lots_after (turns.Give lot.id) lots) full_fences) go in
      subst (λ (ss : List Step). PlanGoes f lots ss) (sym (lent_is f lot (give_step lot.id ∷ []) more is (cond-false f.light (token_steps lot) (give_step lot.id ∷ []) full_fences)))
      (carried_goes f lots lot end hand is writes (give_lends lot.id (give_step lot.id) more refl) refl
      (λ x n. ap (list_any (gives_at f.size x)) (last n lot.id (give_step lot.id) more (give_ended lot.id)) ∙ fence_byte f.size x n (gives_lot lot.id (turns.Give lot.id))) (Gives (record { lot = lot; hand = hand; step = refl; next = first }), later))
]

pub lend_first : (f : DriverConfig) (lot : Lot) (more : List Step) → IsPlanned f lot → WritesBack f.effects → LoadsFirst (lend_steps f lot ++ more)
lend_first f lot more is writes = elim (cases_Bool f.light) [
  | inl light ↦ subst LoadsFirst (sym (lent_is f lot (token_steps lot) more is (cond-true f.light (token_steps lot) (give_step lot.id ∷ []) light))) (carried_first f lot (token_steps lot ++ more) writes refl)
  | inr full_fences ↦ subst LoadsFirst (sym (lent_is f lot (give_step lot.id ∷ []) more is (cond-false f.light (token_steps lot) (give_step lot.id ∷ []) full_fences))) (carried_first f lot (give_step lot.id ∷ more) writes refl)
]

pub lend_silent : (f : DriverConfig) (lot : Lot) (more : List Step) (b : ℕ) → IsPlanned f lot → WritesBack f.effects → list_any (posts b) more ≡ false → list_any (posts b) (lend_steps f lot ++ more) ≡ false
lend_silent f lot more b is writes silent = elim (cases_Bool f.light) [
  | inl light ↦ ap (list_any (posts b)) (lent_is f lot (token_steps lot) more is (cond-true f.light (token_steps lot) (give_step lot.id ∷ []) light)) ∙ carried_silent f lot (token_steps lot ++ more) b writes silent
  | inr full_fences ↦ ap (list_any (posts b)) (lent_is f lot (give_step lot.id ∷ []) more is (cond-false f.light (token_steps lot) (give_step lot.id ∷ []) full_fences)) ∙ carried_silent f lot (give_step lot.id ∷ more) b writes silent
]

-- they end the stay of no other lot
pub lend_only : (f : DriverConfig) (lot : Lot) → IsPlanned f lot → WritesBack f.effects → EndsOnly lot.id (lend_steps f lot)
lend_only f lot is writes =
    subst (λ (ss : List Step). EndsOnly lot.id ss) (sym (carried_is f lot (lending_end f lot) is))
    (only_ops lot.id (copied_ops f lot) (op_steps (backs_ops f lot) ++ lending_end f lot) (copies_are (in_cut f) (moves_of (in_cut f) lot.list.entries))
    (only_ops lot.id (backs_ops f lot) (lending_end f lot) (writing_are_plain (backs_ops f lot) (written_are f lot writes)) (lending_only f lot)))

-- they lend no other lot
pub lend_unlent : (f : DriverConfig) (lot : Lot) (more : List Step) (id : LotId) → IsPlanned f lot → WritesBack f.effects → f.light ≡ true → is_lot id lot ≡ false → list_any (ends_lending id) more ≡ false → list_any (ends_lending id) (lend_steps f lot ++ more) ≡ false
lend_unlent f lot more id is writes light other none =
    ap (list_any (ends_lending id)) (lent_is f lot (token_steps lot) more is (cond-true f.light (token_steps lot) (give_step lot.id ∷ []) light))
    ∙ unlent_ops id (copied_ops f lot) (op_steps (backs_ops f lot) ++ (token_steps lot ++ more)) (copies_are (in_cut f) (moves_of (in_cut f) lot.list.entries))
    (unlent_ops id (backs_ops f lot) (token_steps lot ++ more) (writing_are_plain (backs_ops f lot) (written_are f lot writes)) (or_from (ends_lending id (token_step lot)) (list_any (ends_lending id) more) other none))

-- ---- what the steps that lend it put in the queue

-- no byte that passes the test, where its copies into slots give none
pub lend_none : (f : DriverConfig) (lot : Lot) (more : List Step) (p : QueueEntry → Bool) → IsPlanned f lot → WritesBack f.effects → IsOfBytes p → ((m : Move) → IsMove (in_cut f) lot.list.entries m → p (entries.Store (stored (in_cut f) m) [] Pma) ≡ false)
    → list_any p (all_coming more) ≡ false → list_any p (all_coming (lend_steps f lot ++ more)) ≡ false
lend_none f lot more p is writes of stores none = elim (cases_Bool f.light) [
  | inl light ↦
      ap (λ (ss : List Step). list_any p (all_coming ss)) (lent_is f lot (token_steps lot) more is (cond-true f.light (token_steps lot) (give_step lot.id ∷ []) light))
      ∙ carried_none (token_steps lot ++ more) (or_from (p (marker 1 4)) (p (lot_token lot) || list_any p (all_coming more)) (of.marks 1 4) (or_from (p (lot_token lot)) (list_any p (all_coming more)) (of.lends lot.id.label lot.id.first (length lot.list.entries)) none))
  | inr full_fences ↦
      ap (λ (ss : List Step). list_any p (all_coming ss)) (lent_is f lot (give_step lot.id ∷ []) more is (cond-false f.light (token_steps lot) (give_step lot.id ∷ []) full_fences))
      ∙ carried_none (give_step lot.id ∷ more) (or_from (p (entries.Mark 15 15)) (list_any p (all_coming more)) (of.marks 15 15) none)
]
  where
    cut : Entry → Span × Span
    cut = in_cut f

    carried_none : (end : List Step) → list_any p (all_coming end) ≡ false → list_any p (all_coming (op_steps (copied_ops f lot) ++ (op_steps (backs_ops f lot) ++ end))) ≡ false
    carried_none end last_none =
        ops_none p (copied_ops f lot) (op_steps (backs_ops f lot) ++ end) (copies_none p cut (moves_of cut lot.list.entries) (all_to (IsMove cut lot.list.entries) (λ (m : Move). p (entries.Store (stored cut m) [] Pma) ≡ false) (moves_of cut lot.list.entries) (moves_are cut lot.list.entries) stores))
        (ops_none p (backs_ops f lot) end (writings_none p (backs_ops f lot) of (written_are f lot writes)) last_none)
