-- What an operation opens with: its messages and tokens, and the lots that end.
use Rattle.std.specs.Prelude.{All, Option, Some, None, if◌then◌else◌}
use Rattle.std.specs.List.{list_any}
use Rattle.std.proofs.Common.{◌≡◌, ℕ, Bool, true, false, List, [], ◌∷◌, ◌++◌, length, refl, sym, ◌∙◌, inr}
use Rattle.std.proofs.lemmas.List.Elements.{All-nil, All-cons, All-head, All-tail, All-append}
use Rattle.nc_num.specs.declared.names.HartNo.{HartNo}
use Rattle.nc_num.specs.declared.names.Label.{Label}
use Rattle.nc_plan.specs.Plans.{full}
use Rattle.nc_plan.specs.declared.ops.HartOp.TheVariants as hart
use Rattle.nc_plan.specs.declared.ops.IoTarget.TheVariants as io
use Rattle.nc_ops.specs.declared.ops.Op.{Op}
use Rattle.nc_ops.specs.declared.ops.Op.TheVariants as ops
use Rattle.nc_rules.specs.declared.lots.Lot.{Lot}
use Rattle.nc_rules.specs.declared.lots.LotId.{LotId}
use Rattle.nc_rules.specs.declared.steps.Step.{Step}
use Rattle.nc_rules.specs.declared.steps.Turn.{Turn}
use Rattle.nc_rules.specs.declared.steps.Turn.TheVariants as turns
use Rattle.nc_rules.specs.Lots.{DriverConfig, is_lot, parts}
use Rattle.nc_rules.specs.Turns.{lots_after}
use Rattle.nc_rules.specs.Plans.{hart_step, op_steps, turning, carried, token_steps, lend_steps}
use Rattle.nc_rules.specs.Operations.{waited_label}
use Rattle.nc_holds.specs.Messages.{is_mail_act, mail_steps}
use Rattle.nc_holds.specs.Tokens.{HasLent, TokenStays, TokensFollow}
use Rattle.nc_holds.specs.Rests.{TokenIsLight, ClaimsAlone}
use Rattle.nc_holds.proofs.lists.Changes.{none_kept}
use Rattle.nc_holds.proofs.tokens.QuietSteps.{IsQuiet, carried_steps_quiet, turning_quiet, op_quiet}
use Rattle.nc_holds.proofs.tokens.Lots.{after_has, lend_has}
use Rattle.nc_holds.proofs.tokens.Rests.{NotEnd, NoEnd, stays_by, end_join, end_none, follow_quiet, IsStay, follow_join, follow_token}

-- the turn is of lots, or there is none
abbrev pub OfLots : Turn → Type 0
OfLots turns.Stay = Unit {0}
OfLots (turns.Pass range to) = ⊥
OfLots (turns.Own range) = ⊥
OfLots (turns.Lend id) = Unit {0}
OfLots (turns.Give id) = Unit {0}
OfLots (turns.Return id) = Unit {0}
OfLots (turns.Sync id) = Unit {0}
OfLots (turns.Settle id) = Unit {0}
OfLots (turns.End id) = Unit {0}

-- the operation does not wait for tokens of this name
abbrev pub NotWaited : Op → LotId → Type 0
NotWaited o i = (label : Label) → waited_label o ≡ Some label → i.label.0 ≡ label.0 → ⊥

-- it ends no lot of a name for whose tokens it does not wait
abbrev pub EndsWaited : Op → Turn → Type 0
EndsWaited o t = (i : LotId) → NotWaited o i → NotEnd i t

abbrev pub NoHand : Op → Type 0
NoHand o = (buf : ℕ) (to : HartNo) → o ≡ ops.Hand buf to → ⊥

pub record OpensSo (f : DriverConfig) (lots : List Lot) (o : Op) (turn : Turn) (plan : List Step) : Type 0 where
  pub of_lots : NoHand o → OfLots turn
  pub light : All (TokenIsLight f.light) plan
  pub claims : ClaimsAlone plan
  pub mails : NoHand o → (b : ℕ) → mail_steps b plan ≡ []
  pub follows : TokensFollow (lots_after turn lots) plan
  pub stays : (i : LotId) → NotWaited o i → HasLent lots i → TokenStays i (lots_after turn lots) plan

-- ---- steps without messages

abbrev pub IsMailless : Step → Type 0
IsMailless s = (b : ℕ) → is_mail_act b s.act ≡ false

pub no_mails : (xs : List Step) → All IsMailless xs → (b : ℕ) → mail_steps b xs ≡ []
no_mails xs all b = none_kept (λ (s : Step). is_mail_act b s.act) xs (each xs all)
  where
    each : (xs : List Step) → All IsMailless xs → All (λ (s : Step). is_mail_act b s.act ≡ false) xs
    each [] all = All-nil (λ (s : Step). is_mail_act b s.act ≡ false)
    each (s ∷ xs) all = All-cons (λ (s : Step). is_mail_act b s.act ≡ false) s xs (All-head IsMailless s xs all b) (each xs (All-tail IsMailless s xs all))

pub claims_alone : (xs : List Step) → ((b : ℕ) → mail_steps b xs ≡ []) → ClaimsAlone xs
claims_alone [] h = tt
claims_alone (s ∷ xs) h = λ _. h

pub quiet_mailless : (P : Turn → Type 0) (xs : List Step) → All (IsQuiet P) xs → All IsMailless xs
quiet_mailless P [] all = All-nil IsMailless
quiet_mailless P (s ∷ xs) all = All-cons IsMailless s xs (All-head (IsQuiet P) s xs all).act.mail (quiet_mailless P xs (All-tail (IsQuiet P) s xs all))

none_some : (i : LotId) → ◌≡◌ {A = Option LotId} None (Some i) → ⊥
none_some i e = absurd cc

pub quiet_light : (P : Turn → Type 0) (light : Bool) (xs : List Step) → All (IsQuiet P) xs → All (TokenIsLight light) xs
quiet_light P light [] all = All-nil (TokenIsLight light)
quiet_light P light (s ∷ xs) all =
    All-cons (TokenIsLight light) s xs (λ i e. absurd (none_some i (sym (All-head (IsQuiet P) s xs all).act.token ∙ e))) (quiet_light P light xs (All-tail (IsQuiet P) s xs all))

pub all_light : (light : Bool) (xs : List Step) → light ≡ true → All (TokenIsLight light) xs
all_light light [] e = All-nil (TokenIsLight light)
all_light light (s ∷ xs) e = All-cons (TokenIsLight light) s xs (λ i k. e) (all_light light xs e)

pub quiet_to : (P Q : Turn → Type 0) (xs : List Step) → ((t : Turn) → P t → Q t) → All (IsQuiet P) xs → All (IsQuiet Q) xs
quiet_to P Q [] f all = All-nil (IsQuiet Q)
quiet_to P Q (s ∷ xs) f all =
    let here = All-head (IsQuiet P) s xs all in
    All-cons (IsQuiet Q) s xs (record { act = here.act; first = f s.first here.first; last = f s.last here.last }) (quiet_to P Q xs f (All-tail (IsQuiet P) s xs all))

-- ---- a quiet plan

pub quiet_opens : (f : DriverConfig) (lots : List Lot) (o : Op) (turn : Turn) (plan : List Step) → OfLots turn → EndsWaited o turn → All (IsQuiet (EndsWaited o)) plan → OpensSo f lots o turn plan
quiet_opens f lots o turn plan of ends all = record {
  of_lots = λ _. of;
  light = quiet_light (EndsWaited o) f.light plan all;
  claims = claims_alone plan (no_mails plan (quiet_mailless (EndsWaited o) plan all));
  mails = λ _. no_mails plan (quiet_mailless (EndsWaited o) plan all);
  follows = follow_quiet (EndsWaited o) (lots_after turn lots) plan all;
  stays = λ i free has. stays_by i (lots_after turn lots) plan (after_has turn lots i (ends i free) has) (end_none i plan (quiet_to (EndsWaited o) (NotEnd i) plan (λ t h. h i free) all));
}

pub none_opens : (f : DriverConfig) (lots : List Lot) (o : Op) (turn : Turn) → OfLots turn → EndsWaited o turn → OpensSo f lots o turn []
none_opens f lots o turn of ends = quiet_opens f lots o turn [] of ends (All-nil (IsQuiet (EndsWaited o)))

-- ---- a plan that lends one lot

pub token_mailless : (lot : Lot) → All IsMailless (token_steps lot)
token_mailless lot =
    All-cons IsMailless (hart_step (hart.Mark 1 4)) (hart_step (hart.IoStore (io.Lend lot.id.label lot.id.first (length lot.list.entries))) ∷ []) (λ b. refl)
    (All-cons IsMailless (hart_step (hart.IoStore (io.Lend lot.id.label lot.id.first (length lot.list.entries)))) [] (λ b. refl) (All-nil IsMailless))

pub token_ends : (i : LotId) (lot : Lot) (ys : List Step) → NoEnd i ys → NoEnd i (token_steps lot ++ ys)
token_ends i lot ys h = inr ((λ e. absurd cc), (λ e. absurd cc), inr ((λ e. absurd cc), (λ e. absurd cc), h))

pub stay_ends : (i : LotId) (xs : List Step) → All (IsQuiet IsStay) xs → All (IsQuiet (NotEnd i)) xs
stay_ends i xs all = quiet_to IsStay (NotEnd i) xs (λ t h e. let same : turns.Stay ≡ turns.End i = sym h ∙ e in absurd cc) all

pub give_quiet : (P : Turn → Type 0) (i : LotId) → P turns.Stay → P (turns.Give i) → IsQuiet P (turning (turns.Give i) (hart_step full))
give_quiet P i stay give = turning_quiet P (turns.Give i) (hart_step full) give (op_quiet P full stay (record { mail = λ b. refl; token = refl }))

stay_waited : (o : Op) (t : Turn) → IsStay t → EndsWaited o t
stay_waited o t h i free e = let same : turns.Stay ≡ turns.End i = sym h ∙ e in absurd cc

pub lent_opens : (f : DriverConfig) (lots : List Lot) (o : Op) (lot : Lot) (xs : List Step) (light : Bool) → f.light ≡ light → list_any (is_lot lot.id) lots ≡ true → All (IsQuiet IsStay) xs
    → OpensSo f lots o (turns.Lend lot.id) (xs ++ (if light then token_steps lot else turning (turns.Give lot.id) (hart_step full) ∷ []))
lent_opens f lots o lot xs true e there all =
    let mailless = All-append IsMailless xs (token_steps lot) (quiet_mailless IsStay xs all) (token_mailless lot) in
    record {
      of_lots = λ _. tt;
      light = all_light f.light (xs ++ token_steps lot) e;
      claims = claims_alone (xs ++ token_steps lot) (no_mails (xs ++ token_steps lot) mailless);
      mails = λ _. no_mails (xs ++ token_steps lot) mailless;
      follows = follow_join (lots_after (turns.Lend lot.id) lots) xs (token_steps lot) all (follow_token (lots_after (turns.Lend lot.id) lots) lot [] (lend_has lots lot.id there) tt tt);
      stays = λ i free has. stays_by i (lots_after (turns.Lend lot.id) lots) (xs ++ token_steps lot) (after_has (turns.Lend lot.id) lots i (λ e. absurd cc) has)
          (end_join i xs (token_steps lot) (stay_ends i xs all) (token_ends i lot [] tt));
    }
lent_opens f lots o lot xs false e there all =
    quiet_opens f lots o (turns.Lend lot.id) (xs ++ turning (turns.Give lot.id) (hart_step full) ∷ []) tt (λ i free e. absurd cc)
    (All-append (IsQuiet (EndsWaited o)) xs (turning (turns.Give lot.id) (hart_step full) ∷ [])
    (quiet_to IsStay (EndsWaited o) xs (stay_waited o) all)
    (All-cons (IsQuiet (EndsWaited o)) (turning (turns.Give lot.id) (hart_step full)) [] (give_quiet (EndsWaited o) lot.id (λ i free e. absurd cc) (λ i free e. absurd cc)) (All-nil (IsQuiet (EndsWaited o)))))

pub lend_opens : (f : DriverConfig) (lots : List Lot) (o : Op) (lot : Lot) → list_any (is_lot lot.id) lots ≡ true → OpensSo f lots o (turns.Lend lot.id) (lend_steps f lot)
lend_opens f lots o lot there = lent_opens f lots o lot (op_steps (carried f.effects f.size (parts f lot))) f.light refl there (carried_steps_quiet IsStay f lot refl)
