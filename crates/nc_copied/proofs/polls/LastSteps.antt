-- An answer that a copy is done, or failed, comes with the last step of its plan, and tells what its poll saw.
use Rattle.std.proofs.Common.{◌≡◌, ◌⊎◌, ℕ, ◌+◌, Bool, true, false, List, [], ◌∷◌, ◌++◌, map, refl, sym, ap, ◌∙◌, subst, inl, inr, Option, Some, None, Result, Ok, Err}
use Rattle.std.specs.Prelude.{if◌then◌else◌, nat_lt}
use Rattle.std.specs.List.{find}
use Rattle.std.proofs.lemmas.Bool.{false≢true}
use Rattle.nc_plan.specs.Plans.{In}
use Rattle.nc_model.specs.declared.owners.Owner.{Owner}
use Rattle.nc_coherent.specs.Pages.{PageMap}
use Rattle.nc_ops.specs.declared.ops.Op.{Op}
use Rattle.nc_rules.specs.declared.answers.Answer.{Answer}
use Rattle.nc_rules.specs.declared.answers.Answer.TheVariants as answers
use Rattle.nc_rules.specs.declared.answers.Refusal.{Refusal}
use Rattle.nc_rules.specs.declared.answers.Refusal.TheVariants as refusals
use Rattle.nc_rules.specs.declared.lots.Lot.{Lot}
use Rattle.nc_rules.specs.declared.lots.LotId.{LotId}
use Rattle.nc_rules.specs.declared.steps.Phase.{Phase}
use Rattle.nc_rules.specs.declared.steps.Phase.TheVariants.{Steps, Search, Work}
use Rattle.nc_rules.specs.declared.steps.Seen.{Seen}
use Rattle.nc_rules.specs.declared.steps.Seen.TheVariants as seen
use Rattle.nc_rules.specs.declared.steps.Step.{Step}
use Rattle.nc_rules.specs.Lots.{DriverConfig, is_lot, slot_given, some_lot_waits}
use Rattle.nc_rules.specs.Copies.{source, target, copied, copy_steps_of}
use Rattle.nc_rules.specs.Copies as copies
use Rattle.nc_rules.specs.Operations.{meaning, has_start, step_at, begin, plan_of, good_answer, bad_answer}
use Rattle.nc_rules.specs.Driver.{DriverState, in_hand, next_of, next_of_op, next_in, stays, give_up, answered, opened, searches, placed, with_lots, begun, refused_step, steps_done, started, started_of, told, told_of, told_in, told_word, kept, busy, stepped, step_answer, worked, done, done_of, done_unless, done_in}
use Rattle.nc_rules.specs.Turns.{turned_by}
use Rattle.nc_scripts.specs.Scripts.{is_act}
use Rattle.nc_scripts.specs.Drivers.{AreMade}
use Rattle.nc_scripts.proofs.LotLaws.{its_name}
use Rattle.nc_scripts.proofs.Answers.{is_plain, plainly, IsCopySaw, good_plain, bad_refuses}
use Rattle.nc_flatness.specs.Copying.{CopyOp, copy_op}

-- ---- answers of copies

abbrev pub tells_copy : Answer → Bool
tells_copy answers.CopyDone = true
tells_copy (answers.CopyFailed control) = true
tells_copy _ = false

abbrev pub tells : Option Answer → Bool
tells None = false
tells (Some a) = tells_copy a

-- the copy that it is
abbrev copy_of : {o : Op} {saw : Seen} {b : Option Answer} → IsCopySaw o saw b → CopyOp
copy_of k = record { chan = k.chan; src = k.src; src_off = k.src_off; dst = k.dst; dst_off = k.dst_off; len = k.len; config = k.config }

plain_tells : (a : Answer) → is_plain a ≡ true → tells_copy a ≡ false
plain_tells answers.CopyDone plain = absurd (false≢true plain)
plain_tells (answers.CopyFailed control) plain = absurd (false≢true plain)
plain_tells _ plain = refl

good_tells : (f : DriverConfig) (lots : List Lot) (o : Op) (saw : Seen) → tells (good_answer f lots o saw) ≡ true → IsCopySaw o saw (good_answer f lots o saw)
good_tells f lots o saw t = by (good_answer f lots o saw) (good_plain f lots o saw) t
  where
    by : (a : Option Answer) → (plainly a ≡ true) ⊎ IsCopySaw o saw a → tells a ≡ true → IsCopySaw o saw a
    by None k t = absurd (false≢true t)
    by (Some a) (inl plain) t = absurd (false≢true (sym (plain_tells a plain) ∙ t))
    by (Some a) (inr k) t = k

bad_tells : (f : DriverConfig) (lots : List Lot) (o : Op) (r : Refusal) → tells_copy (bad_answer f lots o r) ≡ false
bad_tells f lots o r = elim (bad_refuses f lots o r) [
  | inl e ↦ ap tells_copy e
  | inr e ↦ ap tells_copy e
]

-- ---- the plan of a copy has steps, where both ends are there

-- the lot of this name, where one of these has it
abbrev Found : LotId → List Lot → Type 0
Found id lots = (x : Lot) × (find (is_lot id) lots ≡ Some x)

found_by : (id : LotId) (lot : Lot) (lots : List Lot) (t : Bool) → is_lot id lot ≡ t → (lot.id ≡ id) ⊎ Found id lots → Found id (lot ∷ lots)
found_by id lot lots true e k = (lot, rw e refl)
found_by id lot lots false e (inl same) = absurd (false≢true (sym e ∙ its_name lot id same))
found_by id lot lots false e (inr more) = (more.0, rw e more.1)

found_id : (id : LotId) (lots : List Lot) → In id (map (λ (lot : Lot). lot.id) lots) → Found id lots
found_id id [] here = absurd here
found_id id (lot ∷ lots) (inl same) = found_by id lot lots (is_lot id lot) refl (inl same)
found_id id (lot ∷ lots) (inr here) = found_by id lot lots (is_lot id lot) refl (inr (found_id id lots here))

plan_empty : (f : DriverConfig) (lots : List Lot) (k : CopyOp) (s t : Lot) → find (is_lot source) lots ≡ Some s → find (is_lot target) lots ≡ Some t → plan_of f lots (copy_op k) ≡ [] → ⊥
unfolding plan_of meaning copies.copy
plan_empty f lots k s t first second e = some (subst (λ (o : Option Lot). copy_steps_of f k.chan k.config (Some s) o ≡ []) second (subst (λ (o : Option Lot). copy_steps_of f k.chan k.config o (find (is_lot target) lots) ≡ []) first e))
  where
    some : copy_steps_of f k.chan k.config (Some s) (Some t) ≡ [] → ⊥
    some e = cc

made_ids : (lots : List Lot) (k : CopyOp) (id : LotId) → AreMade (copy_op k) lots → In id (source ∷ target ∷ []) → In id (map (λ (lot : Lot). lot.id) lots)
made_ids lots k id made here =
    subst (λ (ls : List Lot). In id (map (λ (lot : Lot). lot.id) ls)) (sym made.all)
    (among made.old (subst (λ (ids : List LotId). In id ids) (sym made.names) here))
  where
    among : (old : List Lot) → In id (map (λ (lot : Lot). lot.id) made.new) → In id (map (λ (lot : Lot). lot.id) (old ++ made.new))
    among [] h = h
    among (x ∷ old) h = inr (among old h)

no_empty_plan : (f : DriverConfig) (lots : List Lot) (k : CopyOp) → AreMade (copy_op k) lots → plan_of f lots (copy_op k) ≡ [] → ⊥
no_empty_plan f lots k made e =
    let s = found_id source lots (made_ids lots k source made (inl refl)) in
    let t = found_id target lots (made_ids lots k target made (inr (inl refl))) in
    plan_empty f lots k s.0 t.0 s.1 t.1 e

-- ---- a start, and what a search is told, give no such answer

opened_not : (d : DriverState) (o : Op) → AreMade o d.lots → tells (opened d o).moves.answer ≡ false
unfolding turned_by
opened_not d o made = by (plan_of d.fixed d.lots o) refl (tells (good_answer d.fixed d.lots o d.saw)) refl
  where
    by : (rest : List Step) → plan_of d.fixed d.lots o ≡ rest → (t : Bool) → tells (good_answer d.fixed d.lots o d.saw) ≡ t → tells (answered d o d.saw rest) ≡ false
    by (s ∷ rest) e t is = refl
    by [] e false is = is
    by [] e true is =
        let k = good_tells d.fixed d.lots o d.saw is in
        absurd (no_empty_plan d.fixed d.lots (copy_of k) (subst (λ (p : Op). AreMade p d.lots) k.is made) (ap (plan_of d.fixed d.lots) (sym k.is) ∙ e))

placed_not : (d : DriverState) (o : Op) → AreMade o d.lots → tells (placed d o).moves.answer ≡ false
placed_not d o made = by (some_lot_waits d.lots)
  where
    by : (t : Bool) → tells (if t then stays (searches d 0) else opened d o).moves.answer ≡ false
    by true = refl
    by false = opened_not d o made

begun_not : (d : DriverState) (o : Op) (r : Result (List Lot) Refusal) → ((new : List Lot) → r ≡ Ok new → AreMade o (d.lots ++ new)) → tells (begun d o r).moves.answer ≡ false
begun_not d o (Err r) made = bad_tells d.fixed d.lots o r
begun_not d o (Ok new) made = placed_not (with_lots d (d.lots ++ new)) o (made new refl)

refused_not : (d : DriverState) (o : Op) (r : Result (Option Step) Refusal) → tells (refused_step d o r).moves.answer ≡ false
refused_not d o (Err r) = bad_tells d.fixed d.lots o r
refused_not d o (Ok s) = refl

-- what a start step of an operation makes
abbrev pub MakesLots : DriverState → List Owner → PageMap → Op → Type 0
MakesLots d owners pages o = (new : List Lot) → begin d.fixed d.lots owners pages o ≡ Ok new → AreMade o (d.lots ++ new)

pub start_not : (d : DriverState) (owners : List Owner) (pages : PageMap) → ((o : Op) → in_hand d ≡ Some o → has_start o ≡ true → MakesLots d owners pages o) → tells (started d owners pages).moves.answer ≡ false
unfolding started
start_not d owners pages made = by (in_hand d) refl
  where
    of : (o : Op) → in_hand d ≡ Some o → (t : Bool) → has_start o ≡ t → tells (if t then begun d o (begin d.fixed d.lots owners pages o) else refused_step d o (step_at d.fixed d.lots o (steps_done d.phase))).moves.answer ≡ false
    of o e true starts = begun_not d o (begin d.fixed d.lots owners pages o) (made o e starts)
    of o e false starts = refused_not d o (step_at d.fixed d.lots o (steps_done d.phase))

    by : (o : Option Op) → in_hand d ≡ o → tells (started_of d owners pages o).moves.answer ≡ false
    by None e = refl
    by (Some o) e = of o e (has_start o) refl

word_not : (d : DriverState) (o : Op) (k : ℕ) (got : Bool) → AreMade o (slot_given k d.lots) → tells (told_word d o k got).moves.answer ≡ false
word_not d o k true made = placed_not (with_lots d (slot_given k d.lots)) o made
word_not d o k false made = by (nat_lt (k + 1) d.fixed.slots)
  where
    by : (t : Bool) → tells (if t then stays (searches d (k + 1)) else give_up d o refusals.NoSlot).moves.answer ≡ false
    by true = refl
    by false = bad_tells d.fixed d.lots o refusals.NoSlot

pub told_not : (d : DriverState) (got : Bool) → ((o : Op) (k : ℕ) → in_hand d ≡ Some o → d.phase ≡ Search k → AreMade o (slot_given k d.lots)) → tells (told d got).moves.answer ≡ false
unfolding told
told_not d got made = by (in_hand d) refl
  where
    in_phase : (o : Op) (p : Phase) → in_hand d ≡ Some o → d.phase ≡ p → tells (told_in d o p got).moves.answer ≡ false
    in_phase o (Steps n) e phase = refl
    in_phase o (Search k) e phase = word_not d o k got (made o k e phase)
    in_phase o Work e phase = refl

    by : (o : Option Op) → in_hand d ≡ o → tells (told_of d o got).moves.answer ≡ false
    by None e = refl
    by (Some o) e = in_phase o d.phase e refl

-- ---- a step

-- it is the last of the plan of a copy
pub record IsLastOf (d : DriverState) (saw : Seen) (b : Option Answer) : Type 0 where
  pub copy : CopyOp
  pub hand : in_hand d ≡ Some (copy_op copy)
  pub phase : d.phase ≡ Work
  pub step : Step
  pub rest : d.rest ≡ step ∷ []
  pub control : ℕ
  pub saw_is : kept d.saw saw ≡ seen.Control control
  pub answer : b ≡ Some (copied control)

last_not : (d : DriverState) (o : Op) (n : ℕ) (k : CopyOp) → o ≡ copy_op k → is_act (next_in d o (Steps n)) ≡ true → ⊥
last_not d o n k is act = false≢true (subst (λ (p : Op). is_act (next_in d p (Steps n)) ≡ true) is act)

worked_last : (d : DriverState) (o : Op) (saw : Seen) (rest : List Step) → in_hand d ≡ Some o → d.phase ≡ Work → d.rest ≡ rest → tells (worked d o (kept d.saw saw) rest).moves.answer ≡ true → IsLastOf d saw (worked d o (kept d.saw saw) rest).moves.answer
unfolding turned_by
worked_last d o saw [] hand phase e t = absurd (false≢true t)
worked_last d o saw (s ∷ more) hand phase e t = by more e t
  where
    by : (more : List Step) → d.rest ≡ s ∷ more → tells (answered d o (kept d.saw saw) more) ≡ true → IsLastOf d saw (answered d o (kept d.saw saw) more)
    by (x ∷ more) e t = absurd (false≢true t)
    by [] e t =
        let k = good_tells d.fixed d.lots o (kept d.saw saw) t in
        record { copy = copy_of k; hand = hand ∙ ap Some k.is; phase = phase; step = s; rest = e; control = k.control; saw_is = k.saw_is; answer = k.answer }

stepped_last : (d : DriverState) (o : Op) (n : ℕ) (saw : Seen) (r next : Result (Option Step) Refusal) → is_act (next_in d o (Steps n)) ≡ true → tells (stepped d o (n + 1) saw r next).moves.answer ≡ true → ⊥
unfolding turned_by
stepped_last d o n saw (Err r) next act t = false≢true t
stepped_last d o n saw (Ok None) next act t = false≢true t
stepped_last d o n saw (Ok (Some s)) next act t = by next t
  where
    by : (next : Result (Option Step) Refusal) → tells (step_answer d o saw next) ≡ true → ⊥
    by (Err r) t = false≢true t
    by (Ok (Some s)) t = false≢true t
    by (Ok None) t = let k = good_tells d.fixed d.lots o saw t in last_not d o n (copy_of k) k.is act

done_in_last : (d : DriverState) (o : Op) (saw : Seen) (p : Phase) → in_hand d ≡ Some o → d.phase ≡ p → is_act (next_in d o p) ≡ true → tells (done_in d o (kept d.saw saw) p).moves.answer ≡ true → IsLastOf d saw (done_in d o (kept d.saw saw) p).moves.answer
done_in_last d o saw (Steps n) hand phase act t = absurd (stepped_last d o n (kept d.saw saw) (step_at d.fixed d.lots o n) (step_at d.fixed d.lots o (n + 1)) act t)
done_in_last d o saw (Search k) hand phase act t = absurd (false≢true t)
done_in_last d o saw Work hand phase act t = worked_last d o saw d.rest hand phase refl t

pub done_last : (d : DriverState) (saw : Seen) → is_act (next_of d) ≡ true → tells (done d saw).moves.answer ≡ true → IsLastOf d saw (done d saw).moves.answer
unfolding done next_of
done_last d saw act t = by (in_hand d) refl act t
  where
    unless : (o : Op) (r : Option Refusal) → in_hand d ≡ Some o → is_act (next_in d o d.phase) ≡ true → tells (done_unless d o saw r).moves.answer ≡ true → IsLastOf d saw (done_unless d o saw r).moves.answer
    unless o (Some r) e a t = absurd (false≢true (sym (bad_tells d.fixed d.lots o r) ∙ t))
    unless o None e a t = done_in_last d o saw d.phase e refl a t

    by : (o : Option Op) → in_hand d ≡ o → is_act (next_of_op d o) ≡ true → tells (done_of d saw o).moves.answer ≡ true → IsLastOf d saw (done_of d saw o).moves.answer
    by None e a t = absurd (false≢true t)
    by (Some o) e a t = unless o (busy saw) e a t
