-- A hart's driver goes on: tokens, what is left of its plan, and loads.
use Rattle.std.specs.Prelude.{All, Option, Some, None, Result, Ok, Err, ◌⊎◌, ◌==◌, if◌then◌else◌}
use Rattle.std.proofs.Common.{◌≡◌, ℕ, Bool, true, false, List, [], ◌∷◌, refl, sym, ap, ◌∙◌, inl, inr, subst, arith}
use Rattle.std.proofs.lemmas.Bool.{false≢true}
use Rattle.std.proofs.lemmas.Bool.Decides.{nat_tests}
use Rattle.std.proofs.lemmas.List.Elements.{All-head}
use Rattle.nc_num.specs.declared.names.Label.{Label}
use Rattle.nc_model.specs.declared.owners.Owner.{Owner}
use Rattle.nc_coherent.specs.Pages.{PageMap}
use Rattle.nc_queue.specs.Entries.{lends_label}
use Rattle.nc_queue.specs.Rules as queues
use Rattle.nc_queue.specs.declared.entry.Entry.{Entry}
use Rattle.nc_queue.specs.declared.entry.Entry.TheVariants as entries
use Rattle.nc_plan.specs.Plans.{In}
use Rattle.nc_ops.specs.declared.ops.Op.{Op}
use Rattle.nc_rules.specs.declared.answers.Refusal.{Refusal}
use Rattle.nc_rules.specs.declared.lots.LotId.{LotId}
use Rattle.nc_rules.specs.declared.steps.Next.TheVariants as nexts
use Rattle.nc_rules.specs.declared.steps.Phase.{Phase}
use Rattle.nc_rules.specs.declared.steps.Phase.TheVariants.{Steps, Search, Work}
use Rattle.nc_rules.specs.declared.steps.Seen.{Seen}
use Rattle.nc_rules.specs.declared.steps.Step.{Step}
use Rattle.nc_rules.specs.Lots.{DriverConfig, lot_id}
use Rattle.nc_rules.specs.Operations.{step_at, has_start, waited_label}
use Rattle.nc_rules.specs.Driver.{DriverState, in_hand, next_of, next_of_op, next_in, next_step, next_rest, waited_in, waits_for, started, told, done, lent}
use Rattle.nc_scripts.specs.Scripts.{is_act}
use Rattle.nc_scripts.specs.Drivers.{LoadsFit, ArePagesOf, IsPhase, IsDriver, IsSeenAt, IsLentAt, loaded_next}
use Rattle.nc_scripts.proofs.EveryDriver.{drivers_stay}
use Rattle.nc_holds.specs.Tokens.{token_of}
use Rattle.nc_holds.specs.Rests.{TokenIsLight, RestAgrees}
use Rattle.nc_holds.proofs.lists.Changes.{in_none}
use Rattle.nc_holds.proofs.tokens.Calls.{Unwaited, next_rest_not, started_leaves, told_leaves}
use Rattle.nc_holds.proofs.tokens.Done.{waits_next, token_next, QueuedBy, next_token, step_token, done_leaves, lent_leaves}
use Rattle.nc_holds.proofs.tokens.Harts.{HartSo, Queued, before, so_left}

-- ---- a start

-- where a start step comes next, the operation waits for the tokens of its label
waited_at : (d : DriverState) (o : Op) (p : Phase) → IsPhase d p → next_in d o p ≡ nexts.Start → waited_in (Some o) p ≡ waited_label o
waited_at d o (Steps n) h e = refl
waited_at d o (Search k) h e = absurd (cc)
waited_at d o Work h e = absurd (next_rest_not d.rest h.some e)

is_token : (e : Entry) (i : LotId) (label : ℕ) → token_of e ≡ Some i → i.label.0 ≡ label → lends_label label e ≡ true
is_token (entries.Lend of first count) i label is l =
    let same : of.0 ≡ i.label.0 = let ids : lot_id of first ≡ i = cc in ap (λ (j : LotId). j.label.0) ids in
    test of.0 label (same ∙ l)
  where
    test : (m n : ℕ) → m ≡ n → (m == n) ≡ true
    test m n e = grind (arith, nat_tests)
is_token (entries.Store span bytes kind) i label is l = absurd cc
is_token (entries.Cbo block op) i label is l = absurd cc
is_token (entries.Reg chan off width value) i label is l = absurd cc
is_token (entries.Mail buf to) i label is l = absurd cc
is_token (entries.Mark pred succ) i label is l = absurd cc

-- with light fences the tokens for which it waits are out
abbrev pub TokensAreOut : DriverState → List Entry → Type 0
TokensAreOut d q = (label : Label) → waits_for d ≡ Some label → queues.lends q label.0 ≡ false

waits_in : (d : DriverState) (o : Op) (label : Label) (t : Bool) → d.fixed.light ≡ t → t ≡ true → in_hand d ≡ Some o → waited_in (Some o) d.phase ≡ Some label → (if t then waited_in (in_hand d) d.phase else None) ≡ Some label
waits_in d o label true e l hand is = ap (λ (p : Option Op). waited_in p d.phase) hand ∙ is
waits_in d o label false e l hand is = absurd (false≢true l)

waits_is : (d : DriverState) (o : Op) (label : Label) → d.fixed.light ≡ true → in_hand d ≡ Some o → waited_in (Some o) d.phase ≡ Some label → waits_for d ≡ Some label
unfolding waits_for
waits_is d o label l hand is = waits_in d o label d.fixed.light refl l hand is

start_in : (d : DriverState) (o : Op) → next_of d ≡ nexts.Start → in_hand d ≡ Some o → next_in d o d.phase ≡ nexts.Start
unfolding next_of
start_in d o start hand = subst (λ (p : Option Op). next_of_op d p ≡ nexts.Start) hand start

unwaited : (ram harts : ℕ) (d : DriverState) (q : List Entry) (n : ℕ) → IsDriver ram harts d → HartSo d q n → next_of d ≡ nexts.Start → TokensAreOut d q → Unwaited (Queued q) d
unwaited ram harts d q n h so start out i has o hand label waits l =
    let at = waited_at d o d.phase h.phase (start_in d o start hand) in
    let none = out label (waits_is d o label (so.light has.0 i has.1 has.2) hand (at ∙ waits)) in
    false≢true (sym (in_none (lends_label label.0) has.0 q none has.1) ∙ is_token has.0 i label.0 has.2 l)

light_kept : (d now : DriverState) (q : List Entry) (n : ℕ) → HartSo d q n → now.fixed ≡ d.fixed → (e : Entry) (i : LotId) → In e q → token_of e ≡ Some i → now.fixed.light ≡ true
light_kept d now q n so same e i here is = ap (λ (f : DriverConfig). f.light) same ∙ so.light e i here is

pub so_started : (ram harts : ℕ) (d : DriverState) (q : List Entry) (n : ℕ) (ws : List Owner) (pool : PageMap) → IsDriver ram harts d → HartSo d q n → ArePagesOf d.fixed pool → next_of d ≡ nexts.Start → TokensAreOut d q → HartSo (started d ws pool).driver q n
so_started ram harts d q n ws pool h so of start out =
    let k = (drivers_stay ram harts d h).start ws pool start of in
    so_left _ (started d ws pool).driver q n (started_leaves ram harts (Queued q) d ws pool h (before d q n so) of start (unwaited ram harts d q n h so start out)) (light_kept d (started d ws pool).driver q n so k.fixed) (k.loads n so.loads)

-- ---- a slot word

pub so_told : (ram harts : ℕ) (d : DriverState) (q : List Entry) (n : ℕ) (got : Bool) → IsDriver ram harts d → HartSo d q n → HartSo (told d got).driver q n
so_told ram harts d q n got h so =
    let k = (drivers_stay ram harts d h).hears got in
    so_left _ (told d got).driver q n (told_leaves ram harts (Queued q) d got h (before d q n so)) (light_kept d (told d got).driver q n so k.fixed) (k.loads n so.loads)

-- ---- a token

pub so_lent : (ram harts : ℕ) (d : DriverState) (q : List Entry) (n : ℕ) (label : Label) (first : ℕ) → IsDriver ram harts d → IsLentAt d.lots (lot_id label first) → HartSo d q n → HartSo (lent d label first).driver q n
so_lent ram harts d q n label first h at so =
    let k = (drivers_stay ram harts d h).lends label first at in
    so_left _ (lent d label first).driver q n (lent_leaves (Queued q) d label first (before d q n so)) (light_kept d (lent d label first).driver q n so k.fixed) (k.loads n so.loads)

-- ---- a step

none_some : (i : LotId) → ◌≡◌ {A = Option LotId} None (Some i) → ⊥
none_some i e = absurd cc

rest_light : (light : Bool) (rest : List Step) (i : LotId) → All (TokenIsLight light) rest → token_next (next_rest rest) ≡ Some i → light ≡ true
rest_light light [] i all e = absurd (none_some i e)
rest_light light (s ∷ rest) i all e = All-head (TokenIsLight light) s rest all i (sym (next_token s.act) ∙ e)

unless_token : (d : DriverState) (o : Op) (n : ℕ) (i : LotId) (r : Result (Option Step) Refusal) (t : Bool) → step_at d.fixed d.lots o n ≡ r → token_next (if t then nexts.Start else next_step r) ≡ Some i → ⊥
unless_token d o n i r true e is = none_some i is
unless_token d o n i (Err x) false e is = none_some i is
unless_token d o n i (Ok None) false e is = none_some i is
unless_token d o n i (Ok (Some s)) false e is =
    none_some i (sym (step_token d o n s false e) ∙ ap (λ (r : Result (Option Step) Refusal). token_next (next_step r)) e ∙ is)

light_in : (d : DriverState) (o : Op) (p : Phase) (i : LotId) → RestAgrees d → token_next (next_in d o p) ≡ Some i → d.fixed.light ≡ true
light_in d o (Steps n) i b e = absurd (unless_token d o n i (step_at d.fixed d.lots o n) (has_start o) refl e)
light_in d o (Search k) i b e = absurd (none_some i e)
light_in d o Work i b e = rest_light d.fixed.light d.rest i b.tokens e

light_by : (d : DriverState) (o : Option Op) (i : LotId) → RestAgrees d → token_next (next_of_op d o) ≡ Some i → d.fixed.light ≡ true
light_by d None i b e = absurd (none_some i e)
light_by d (Some o) i b e = light_in d o d.phase i b e

-- a token comes next with light fences alone
pub next_light : (d : DriverState) (i : LotId) → RestAgrees d → token_next (next_of d) ≡ Some i → d.fixed.light ≡ true
unfolding next_of
next_light d i b e = light_by d (in_hand d) i b e

-- what is queued behind the step was queued before it, where it does not wait, or is its token
abbrev pub QueuedThen : DriverState → List Entry → List Entry → Type 0
QueuedThen d q u = (e : Entry) (i : LotId) → In e u → token_of e ≡ Some i → (In e q × (waits_next (next_of d) ≡ true → ⊥)) ⊎ (token_next (next_of d) ≡ Some i)

queued_by : (d : DriverState) (q u : List Entry) (n : ℕ) → HartSo d q n → QueuedThen d q u → (i : LotId) → Queued u i → QueuedBy d (next_of d) i
queued_by d q u n so behind i has = elim (behind has.0 i has.1 has.2) [
  | inl old ↦ inl (so.queued has.0 i old.0 has.2, old.1)
  | inr new ↦ inr new
]

light_then : (d now : DriverState) (q u : List Entry) (n : ℕ) → HartSo d q n → QueuedThen d q u → now.fixed ≡ d.fixed → (e : Entry) (i : LotId) → In e u → token_of e ≡ Some i → now.fixed.light ≡ true
light_then d now q u n so behind same e i here is = ap (λ (f : DriverConfig). f.light) same ∙ elim (behind e i here is) [
  | inl old ↦ so.light e i old.0 is
  | inr new ↦ next_light d i so.rest new
]

pub so_done : (ram harts : ℕ) (d : DriverState) (q u : List Entry) (n m : ℕ) (saw : Seen) → IsDriver ram harts d → HartSo d q n → is_act (next_of d) ≡ true → IsSeenAt (next_of d) saw → loaded_next (next_of d) n ≡ m → QueuedThen d q u
    → HartSo (done d saw).driver u m
so_done ram harts d q u n m saw h so act at loaded behind =
    let k = (drivers_stay ram harts d h).goes_on saw act at in
    so_left _ (done d saw).driver u m (done_leaves ram harts (Queued u) d saw h so.rest so.follows act at (queued_by d q u n so behind)) (light_then d (done d saw).driver q u n so behind k.fixed)
    (subst (λ (j : ℕ). LoadsFit j (done d saw).driver.rest) loaded (k.loads n so.loads))
