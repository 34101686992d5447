-- A hart's step leaves the bytes of flat memory that another hart's copy has, and those of its own copy.
use Rattle.std.specs.Prelude.{Option, Some, None, Bool, true, false, if◌then◌else◌, unwrap_or, ◌/◌}
use Rattle.std.proofs.Common.{◌≡◌, ◌≢◌, ℕ, List, [], ◌∷◌, ◌++◌, refl, sym, ap, ◌∙◌, inl, inr, arith}
use Rattle.std.proofs.lemmas.Bool.{ne_eqb}
use Rattle.nc_num.specs.Memory.{byte}
use Rattle.nc_num.specs.declared.names.HartNo.{HartNo}
use Rattle.nc_num.specs.declared.places.Block.{Block}
use Rattle.nc_env.specs.declared.CboOp.TheVariants as cbos
use Rattle.nc_queue.specs.Entries.{entry_gives}
use Rattle.nc_queue.specs.declared.entry.Entry.{Entry}
use Rattle.nc_queue.specs.declared.entry.Entry.TheVariants as entries
use Rattle.nc_plan.specs.declared.ops.HartOp.{HartOp}
use Rattle.nc_plan.specs.declared.ops.HartOp.TheVariants as hart
use Rattle.nc_hart.specs.Issue.{marks, payload}
use Rattle.nc_model.specs.Flat.{TraceItem, Did, named}
use Rattle.nc_model.specs.declared.deeds.Deed.TheVariants.{Read}
use Rattle.nc_model.specs.declared.owners.Access.TheVariants as accesses
use Rattle.nc_model.specs.declared.owners.Grant.{Grant}
use Rattle.nc_ops.specs.declared.ops.Op.{Op}
use Rattle.nc_scen.specs.declared.scenario.Scenario.{Scenario}
use Rattle.nc_rules.specs.declared.records.Record.{Record}
use Rattle.nc_rules.specs.declared.steps.Act.{Act}
use Rattle.nc_rules.specs.declared.steps.Act.TheVariants as acts
use Rattle.nc_rules.specs.declared.steps.Next.TheVariants as nexts
use Rattle.nc_rules.specs.declared.steps.Phase.{Phase}
use Rattle.nc_rules.specs.declared.steps.Phase.TheVariants.{Steps, Search, Work}
use Rattle.nc_rules.specs.declared.steps.Step.{Step}
use Rattle.nc_rules.specs.Calls.{load_transfers}
use Rattle.nc_rules.specs.Driver.{DriverState, in_hand, next_of, next_of_op, next_in, next_act, next_rest, is_script}
use Rattle.nc_rules.specs.Flat.{records_trace}
use Rattle.nc_rules.specs.Machine.{MachineState, hart_of}
use Rattle.nc_rules.specs.Records.{transfer_records, op_records, load_record}
use Rattle.nc_rules.specs.Sound.{OpIsThere}
use Rattle.nc_rules.specs.View.{bytes_seen}
use Rattle.nc_rules.specs.EventTouches.{owner_of, op_touch, issue_touch}
use Rattle.nc_rules.specs.World.{WorldState, driver_of}
use Rattle.nc_flatness.specs.Books.{book_of}
use Rattle.nc_flatness.specs.Copying.{IsItsOwn}
use Rattle.nc_flatness.specs.Flatness.{Flatness}
use Rattle.nc_flatness.proofs.worlds.FlatBytes.{byte_stored, byte_zeroed}
use Rattle.nc_flatness.proofs.worlds.Trace.{append_none, trace-append, transfers_silent, fence_silent}
use Rattle.nc_flat_scripts.specs.Entering.{GivesOwn}
use Rattle.nc_flat_scripts.proofs.accesses.ActRows.{not_anothers}
use Rattle.nc_flat_scripts.proofs.accesses.OwnPlaces.{own_piece, store_own, zero_own}
use Rattle.nc_flat_scripts.proofs.accesses.ScriptEvents.{IsHere, next_there}
use Rattle.nc_copied.proofs.events.EventTrace.{Leaves, leaves_as}
use Rattle.nc_copied.proofs.events.ZeroSteps.{zeroes, zero_of, zero_apart}

-- ---- a write

-- what is another hart's own, it does not give
given_not : (sc : Scenario) (f : List ℕ) (w : WorldState) (g h : ℕ) (e : Entry) (x : ℕ) → h ≢ g → GivesOwn (book_of w) (owner_of w) w.machine.size g e → IsItsOwn h (owner_of w x) → unwrap_or (entry_gives w.machine.size e x) (byte f x) ≡ byte f x
given_not sc f w g h e x ne gives own = elim (gives x) [
  | inl none ↦ ap (λ (o : Option ℕ). unwrap_or o (byte f x)) none
  | inr mine ↦ absurd (not_anothers (book_of w) g h (owner_of w x) ne own mine)
]

read_leaves : (f : List ℕ) (m : MachineState) (grants : List Grant) (rs : List Record) (ms : List TraceItem) (x : ℕ) → records_trace m.size grants rs ≡ [] → (r : Record) → records_trace m.size grants (r ∷ []) ≡ ms → Leaves f ms x → Leaves f (records_trace m.size grants (rs ++ r ∷ [])) x
read_leaves f m grants rs ms x silent r is left =
    leaves_as f (records_trace m.size grants (rs ++ r ∷ [])) ms x (trace-append m.size grants rs (r ∷ []) ∙ ap (λ (ns : List TraceItem). ns ++ records_trace m.size grants (r ∷ [])) silent ∙ is) left

-- ---- a script's operation

script_leaves : (sc : Scenario) (f : List ℕ) (w : WorldState) (g : HartNo) (h x : ℕ) (op : HartOp) → Flatness sc f w → OpIsThere w.machine g.0 op → op_touch w g op ≡ None → h ≢ g.0 → IsItsOwn h (owner_of w x) → Leaves f (records_trace w.machine.size w.grants (op_records w.machine g true op)) x
unfolding op_touch op_records
script_leaves sc f w g h x (hart.Load span kind) flat there none ne own =
    let m = w.machine in
    read_leaves f m w.grants (transfer_records m.size (load_transfers m g.0 span kind)) (Did (Read (named span.at (bytes_seen m g.0 kind span))) ∷ []) x (transfers_silent m.size m.size w.grants (load_transfers m g.0 span kind))
    (load_record true g span.at (bytes_seen m g.0 kind span)) refl refl
script_leaves sc f w g h x (hart.Store span kind bytes) flat there none ne own =
    let m = w.machine in
    let stored = payload (hart_of m g.0).last bytes in
    byte_stored f span stored x (omega (arith, flat.bytes.flat_size, flat.world.of_scenario.ram, there.piece.inside)) there.whole
    ∙ given_not sc f w g.0 h (entries.Store span stored kind) x ne (store_own w g.0 span stored kind (own_piece sc f w g accesses.Write span kind flat none there.piece)) own
script_leaves sc f w g h x (hart.Cbo cbos.Zero block) flat there none ne own =
    let m = w.machine in
    byte_zeroed {s = m.size} f block.0 x flat.world.machine.block_size (omega (arith, flat.bytes.flat_size, flat.world.of_scenario.ram, there))
    ∙ given_not sc f w g.0 h (entries.Cbo block cbos.Zero) x ne (zero_own sc f w g block flat none there) own
script_leaves sc f w g h x (hart.Cbo cbos.Clean block) flat there none ne own = refl
script_leaves sc f w g h x (hart.Cbo cbos.Flush block) flat there none ne own = refl
script_leaves sc f w g h x (hart.Cbo cbos.Inval block) flat there none ne own = refl
script_leaves sc f w g h x (hart.Fence pred succ) flat there none ne own = leaves_as f _ [] x (append_none _ ∙ fence_silent w.machine.size w.grants (marks pred succ) g _ _ pred succ) refl
script_leaves sc f w g h x (hart.IoLoad chan off width) flat there none ne own = refl
script_leaves sc f w g h x (hart.IoStore target) flat there none ne own = refl
script_leaves sc f w g h x (hart.Mark pred succ) flat there none ne own = refl

-- ---- a plan's

-- its zeros are of no place of a copy
plan_leaves : (sc : Scenario) (f : List ℕ) (w : WorldState) (g : HartNo) (x : ℕ) (op : HartOp) → Flatness sc f w → OpIsThere w.machine g.0 op → ((block : Block) → op ≡ hart.Cbo cbos.Zero block → x / w.machine.size ≡ block.0 → ⊥)
    → Leaves f (records_trace w.machine.size w.grants (op_records w.machine g false op)) x
unfolding op_records
plan_leaves sc f w g x (hart.Load span kind) flat there off =
    let m = w.machine in
    read_leaves f m w.grants (transfer_records m.size (load_transfers m g.0 span kind)) [] x (transfers_silent m.size m.size w.grants (load_transfers m g.0 span kind))
    (load_record false g span.at (bytes_seen m g.0 kind span)) refl refl
plan_leaves sc f w g x (hart.Store span kind bytes) flat there off = refl
plan_leaves sc f w g x (hart.Cbo cbos.Zero block) flat there off =
    let m = w.machine in
    byte_zeroed {s = m.size} f block.0 x flat.world.machine.block_size (omega (arith, flat.bytes.flat_size, flat.world.of_scenario.ram, there))
    ∙ ap (λ (t : Bool). unwrap_or (if t then Some 0 else None) (byte f x)) (ne_eqb (x / m.size) block.0 (off block refl))
plan_leaves sc f w g x (hart.Cbo cbos.Clean block) flat there off = refl
plan_leaves sc f w g x (hart.Cbo cbos.Flush block) flat there off = refl
plan_leaves sc f w g x (hart.Cbo cbos.Inval block) flat there off = refl
plan_leaves sc f w g x (hart.Fence pred succ) flat there off = leaves_as f _ [] x (append_none _ ∙ fence_silent w.machine.size w.grants (marks pred succ) g _ _ pred succ) refl
plan_leaves sc f w g x (hart.IoLoad chan at width) flat there off = refl
plan_leaves sc f w g x (hart.IoStore target) flat there off = refl
plan_leaves sc f w g x (hart.Mark pred succ) flat there off = refl

-- ---- the operation that comes next

op_next : (a : Act) (op : HartOp) → next_act a ≡ nexts.Op op → a ≡ acts.Op op
op_next (acts.Op o) op is = let same : o ≡ op = cc in ap acts.Op same
op_next (acts.Claim chan) op is = absurd cc
op_next (acts.Poll chan) op is = absurd cc
op_next (acts.Take buf) op is = absurd cc

-- of a plan
record IsFirst (d : DriverState) (op : HartOp) : Type 0 where
  step : Step
  rest : List Step
  is : d.rest ≡ step ∷ rest
  act : step.act ≡ acts.Op op

first_by : (d : DriverState) (op : HartOp) (rest : List Step) → d.rest ≡ rest → next_rest rest ≡ nexts.Op op → IsFirst d op
first_by d op [] is nx = absurd cc
first_by d op (s ∷ rest) is nx = record { step = s; rest = rest; is = is; act = op_next s.act op nx }

end_not : {A : Type 0} (op : HartOp) → nexts.End ≡ nexts.Op op → A
end_not op e = absurd cc

search_not : {A : Type 0} (k : ℕ) (op : HartOp) → nexts.Search k ≡ nexts.Op op → A
search_not k op e = absurd cc

zero_far : (sc : Scenario) (f : List ℕ) (w : WorldState) (g : HartNo) (h x : ℕ) (op : HartOp) (o : Op) (block : Block) → IsHere sc f w g → in_hand (driver_of w g.0) ≡ Some o → (driver_of w g.0).phase ≡ Work → IsFirst (driver_of w g.0) op → IsItsOwn h (owner_of w x) → op ≡ hart.Cbo cbos.Zero block
    → x / w.machine.size ≡ block.0 → ⊥
zero_far sc f w g h x op o block here hand phase first own zero met =
    let d = driver_of w g.0 in
    let flat = here.now.flat in
    let act : first.step.act ≡ acts.Op (hart.Cbo cbos.Zero block) = first.act ∙ ap acts.Op zero in
    let z = zero_of d o first.step first.rest (flat.bytes.drives g.0 here.lt) hand phase first.is (ap zeroes act) in
    let both : acts.Op (hart.Cbo cbos.Zero z.block) ≡ acts.Op (hart.Cbo cbos.Zero block) = sym (ap (λ (t : Step). t.act) z.step) ∙ act in
    let same : z.block ≡ block = cc in
    let size : d.fixed.size ≡ w.machine.size = sym (flat.world.holds.each g.0 here.there).setting.block in
    zero_apart sc f w g.0 h first.step first.rest x flat z (ap (λ (s : ℕ). x / s) size ∙ met ∙ ap (λ (b : Block). b.0) (sym same)) own

op_by : (sc : Scenario) (f : List ℕ) (w : WorldState) (g : HartNo) (h x : ℕ) (op : HartOp) (o : Op) (p : Phase) → IsHere sc f w g → next_of (driver_of w g.0) ≡ nexts.Op op → in_hand (driver_of w g.0) ≡ Some o → (driver_of w g.0).phase ≡ p → next_in (driver_of w g.0) o p ≡ nexts.Op op
    → issue_touch w g (is_script p) op ≡ None → (h ≡ g.0 → (n : ℕ) → (driver_of w g.0).phase ≡ Steps n → ⊥) → IsItsOwn h (owner_of w x) → Leaves f (records_trace w.machine.size w.grants (op_records w.machine g (is_script p) op)) x
op_by sc f w g h x op o (Steps n) here nx hand phase at none other own =
    script_leaves sc f w g h x op here.now.flat (next_there sc f w g op here nx) none (λ same. other same n phase) own
op_by sc f w g h x op o (Search k) here nx hand phase at none other own = search_not k op at
op_by sc f w g h x op o Work here nx hand phase at none other own =
    let d = driver_of w g.0 in
    let first = first_by d op d.rest refl at in
    plan_leaves sc f w g x op here.now.flat (next_there sc f w g op here nx) (λ block zero met. zero_far sc f w g h x op o block here hand phase first own zero met)

next_is : (d : DriverState) (o : Option Op) → in_hand d ≡ o → next_of d ≡ next_of_op d o
unfolding next_of
next_is d o hand = ap (next_of_op d) hand

op_in : (sc : Scenario) (f : List ℕ) (w : WorldState) (g : HartNo) (h x : ℕ) (op : HartOp) (o : Option Op) → IsHere sc f w g → next_of (driver_of w g.0) ≡ nexts.Op op → in_hand (driver_of w g.0) ≡ o → next_of_op (driver_of w g.0) o ≡ nexts.Op op
    → issue_touch w g (is_script (driver_of w g.0).phase) op ≡ None → (h ≡ g.0 → (n : ℕ) → (driver_of w g.0).phase ≡ Steps n → ⊥) → IsItsOwn h (owner_of w x) → Leaves f (records_trace w.machine.size w.grants (op_records w.machine g (is_script (driver_of w g.0).phase) op)) x
op_in sc f w g h x op None here nx hand at none other own = end_not op at
op_in sc f w g h x op (Some o) here nx hand at none other own = op_by sc f w g h x op o (driver_of w g.0).phase here nx hand refl at none other own

-- where hart h is in no script's step, a place of its copy keeps its byte
pub op_leaves : (sc : Scenario) (f : List ℕ) (w : WorldState) (g : HartNo) (h x : ℕ) (op : HartOp) → IsHere sc f w g → next_of (driver_of w g.0) ≡ nexts.Op op → issue_touch w g (is_script (driver_of w g.0).phase) op ≡ None → (h ≡ g.0 → (n : ℕ) → (driver_of w g.0).phase ≡ Steps n → ⊥)
    → IsItsOwn h (owner_of w x) → Leaves f (records_trace w.machine.size w.grants (op_records w.machine g (is_script (driver_of w g.0).phase) op)) x
op_leaves sc f w g h x op here nx none other own =
    let o = in_hand (driver_of w g.0) in
    op_in sc f w g h x op o here nx refl (sym (next_is (driver_of w g.0) o refl) ∙ nx) none other own
