-- Behind the poll of a copy its channel is still to be released.
use Rattle.std.specs.Prelude.{◌||◌, Bool, filter, flat_map}
use Rattle.std.proofs.Common.{◌≡◌, true, false, List, [], ◌∷◌, ◌++◌, sym, ap, ◌∙◌, inl, inr}
use Rattle.std.proofs.lemmas.Bool.{cases_Bool, both_ways, false≢true}
use Rattle.std.proofs.lemmas.List.Elements.{filter-append}
use Rattle.nc_num.specs.declared.names.ChanNo.{ChanNo}
use Rattle.nc_queue.specs.declared.entry.Entry.{Entry}
use Rattle.nc_rules.specs.declared.lots.Lot.{Lot}
use Rattle.nc_rules.specs.declared.steps.Step.{Step}
use Rattle.nc_rules.specs.Copies.{claim_step}
use Rattle.nc_rules.specs.Lots.{DriverConfig}
use Rattle.nc_rules.specs.Plans.{control_step}
use Rattle.nc_rules.specs.Turns.{lots_after_both}
use Rattle.nc_rows.specs.Ahead.{act_coming}
use Rattle.nc_flatness.specs.Copying.{is_poll, polls, is_register, registers_coming}
use Rattle.nc_flatness.proofs.plans.Rests.{plan_next}
use Rattle.nc_flatness.specs.Plans.{StepGoes, Loads, Stores, WritesBack, Drops, Gives, Fences, Ends, Zeroes, Flushes, Settles, GivesArea, TakesBack, Marks, Posts, Claims, Registers, Polls, TakesTarget, TakesSource, PlanGoes}

record IsReleased (rest : List Step) : Type 0 where
  chan : ChanNo
  more : List Step
  is : rest ≡ control_step chan 0 ∷ more

never : (b : Bool) (p : Type 0) → b ≡ true → b ≡ false → p
never b p on off = absurd (both_ways b off on)

first_step : (s t : Step) (rest more : List Step) → s ∷ rest ≡ t ∷ more → s ≡ t
first_step s t rest more same = cc

polled : (f : DriverConfig) (lots : List Lot) (s : Step) (rest : List Step) → StepGoes f lots s rest → is_poll s.act ≡ true → IsReleased rest
polled f lots s rest (Polls is) on = record { chan = is.chan; more = is.more; is = is.release }
polled f lots s rest (Loads is) on = never _ _ on (ap (λ (t : Step). is_poll t.act) is.step)
polled f lots s rest (Stores is) on = never _ _ on (ap is_poll is.act)
polled f lots s rest (WritesBack is) on = never _ _ on (ap (λ (t : Step). is_poll t.act) is.step)
polled f lots s rest (Drops is) on = never _ _ on (ap (λ (t : Step). is_poll t.act) is.step)
polled f lots s rest (Gives is) on = never _ _ on (ap (λ (t : Step). is_poll t.act) is.step)
polled f lots s rest (Fences is) on = never _ _ on (ap (λ (t : Step). is_poll t.act) is.step)
polled f lots s rest (Ends is) on = never _ _ on (ap (λ (t : Step). is_poll t.act) is.step)
polled f lots s rest (Zeroes is) on = never _ _ on (ap (λ (t : Step). is_poll t.act) is.step)
polled f lots s rest (Flushes is) on = never _ _ on (ap (λ (t : Step). is_poll t.act) is.step)
polled f lots s rest (Settles is) on = never _ _ on (ap (λ (t : Step). is_poll t.act) is.step)
polled f lots s rest (GivesArea is) on = never _ _ on (ap (λ (t : Step). is_poll t.act) is.step)
polled f lots s rest (TakesBack is) on = never _ _ on (ap (λ (t : Step). is_poll t.act) is.step)
polled f lots s rest (Marks is) on = never _ _ on (ap (λ (t : Step). is_poll t.act) is.step)
polled f lots s rest (Posts is) on = never _ _ on (ap (λ (t : Step). is_poll t.act) is.step)
polled f lots s rest (Claims is) on = never _ _ on (ap (λ (t : Step). is_poll t.act) (first_step s (claim_step is.chan) rest _ is.steps))
polled f lots s rest (Registers is) on = never _ _ on (ap (λ (t : Step). is_poll t.act) is.step)
polled f lots s rest (TakesTarget is) on = never _ _ on (ap (λ (t : Step). is_poll t.act) is.goes.step)
polled f lots s rest (TakesSource is) on = never _ _ on (ap (λ (t : Step). is_poll t.act) is.goes.step)

pub none_behind : (xs ys : List Entry) → xs ++ ys ≡ [] → ys ≡ []
none_behind [] ys none = none
none_behind (x ∷ xs) ys none = absurd cc

later : (s : Step) (rest : List Step) → registers_coming (s ∷ rest) ≡ filter is_register (act_coming s.act) ++ registers_coming rest
later s rest = filter-append is_register (act_coming s.act) (flat_map (λ s. act_coming s.act) rest)

released : (chan : ChanNo) (more : List Step) → registers_coming (control_step chan 0 ∷ more) ≡ [] → ⊥
released chan more none = let no = sym (later (control_step chan 0) more) ∙ none in absurd cc

later_polls : (b c : Bool) → (b || c) ≡ true → b ≡ false → c ≡ true
later_polls true c on off = absurd (false≢true (sym off))
later_polls false c on off = on

pub more_registers : (f : DriverConfig) (lots : List Lot) (rest : List Step) → PlanGoes f lots rest → polls rest ≡ true → registers_coming rest ≡ [] → ⊥
more_registers f lots [] goes on none = false≢true on
more_registers f lots (s ∷ rest) goes on none =
    let behind = none_behind (filter is_register (act_coming s.act)) (registers_coming rest) (sym (later s rest) ∙ none) in
    elim (cases_Bool (is_poll s.act)) [
      | inl poll ↦ let r = polled f lots s rest goes.0 poll in released r.chan r.more (ap registers_coming (sym r.is) ∙ behind)
      | inr off ↦ more_registers f (lots_after_both s.first s.last lots) rest (plan_next f lots s rest goes off) (later_polls (is_poll s.act) (polls rest) on off) behind
    ]
