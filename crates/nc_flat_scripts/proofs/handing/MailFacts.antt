-- What a hart still has to send, where it passes a buffer on and where it does not.
use Rattle.std.specs.Prelude.{Bool, true, false, if◌then◌else◌, ◌==◌, filter, map, slice_index_or}
use Rattle.std.specs.List.{list_any}
use Rattle.std.proofs.Common.{◌≡◌, ◌≢◌, ◌⊎◌, ℕ, zero, suc, ◌<◌, List, [], ◌∷◌, length, refl, sym, ap, ◌∙◌, inl, inr, subst, arith}
use Rattle.std.proofs.lemmas.Bool.{cases_Bool, eq-eqb, ne_eqb, or_from, false≢true}
use Rattle.std.proofs.lemmas.List.Folds.{list_any-append}
use Rattle.nc_num.specs.Places.{covers}
use Rattle.nc_num.specs.declared.names.HartNo.{HartNo}
use Rattle.nc_num.specs.declared.places.Span.{Span}
use Rattle.nc_queue.specs.Entries.{is_wo}
use Rattle.nc_queue.specs.Laws.{Stands, Covered}
use Rattle.nc_queue.specs.declared.entry.Entry.{Entry}
use Rattle.nc_queue.specs.declared.entry.Entry.TheVariants.{Store, Cbo, Reg, Mail, Lend, Mark}
use Rattle.nc_plan.specs.declared.ops.HartOp.{HartOp}
use Rattle.nc_plan.specs.declared.ops.HartOp.TheVariants as hart
use Rattle.nc_plan.specs.declared.ops.IoTarget.{IoTarget}
use Rattle.nc_plan.specs.declared.ops.IoTarget.TheVariants as io
use Rattle.nc_hart.specs.Issue.{marker}
use Rattle.nc_lines.specs.Lines.{bare, line}
use Rattle.nc_lines.proofs.Bared.{any_bare}
use Rattle.nc_rules.specs.declared.steps.Act.{Act}
use Rattle.nc_rules.specs.declared.steps.Act.TheVariants as acts
use Rattle.nc_rules.specs.declared.steps.Step.{Step}
use Rattle.nc_rules.specs.Handing.{hand_steps}
use Rattle.nc_rules.specs.Plans.{hart_step}
use Rattle.nc_holds.specs.Messages as messages
use Rattle.nc_holds.specs.Messages.{mails, mail_steps, Quiet}
use Rattle.nc_rows.specs.Ahead.{is_mail, sends, stores_io, posts, sending}
use Rattle.nc_rows.proofs.Steps.{steps_ahead}
use Rattle.nc_flatness.specs.Books.{number_in}
use Rattle.nc_flatness.specs.Flatness.{mail_step}
use Rattle.nc_flat_scripts.proofs.steps.StillLots.{EndsNone}

-- ---- no message queued, nor to come

mail_is : (b : ℕ) (e : Entry) → is_mail b e ≡ messages.is_mail b e
mail_is b (Mail buf to) = refl
mail_is b (Store span bytes kind) = refl
mail_is b (Cbo block op) = refl
mail_is b (Reg chan off width value) = refl
mail_is b (Lend label first count) = refl
mail_is b (Mark pred succ) = refl

to_is : (b : ℕ) (t : IoTarget) → sends b t ≡ messages.is_mail_to b t
to_is b (io.Mail buf to) = refl
to_is b (io.Reg chan off width value) = refl
to_is b (io.Lend label first count) = refl

op_is : (b : ℕ) (op : HartOp) → stores_io (sends b) (acts.Op op) ≡ messages.is_mail_op b op
op_is b (hart.IoStore target) = to_is b target
op_is b (hart.Load span kind) = refl
op_is b (hart.Store span kind bytes) = refl
op_is b (hart.Cbo op block) = refl
op_is b (hart.Fence pred succ) = refl
op_is b (hart.IoLoad chan off width) = refl
op_is b (hart.Mark pred succ) = refl

act_is : (b : ℕ) (a : Act) → stores_io (sends b) a ≡ messages.is_mail_act b a
act_is b (acts.Op op) = op_is b op
act_is b (acts.Claim chan) = refl
act_is b (acts.Poll chan) = refl
act_is b (acts.Take buf) = refl

none_of : {X : Type 0} (p q : X → Bool) (xs : List X) → ((x : X) → p x ≡ q x) → filter q xs ≡ [] → list_any p xs ≡ false
none_of p q [] same none = refl
none_of p q (x ∷ xs) same none = elim (cases_Bool (q x)) [
  | inl is ↦ let no : x ∷ filter q xs ≡ [] = sym (ap (λ (t : Bool). if t then x ∷ filter q xs else filter q xs) is) ∙ none in absurd cc
  | inr not ↦ or_from (p x) (list_any p xs) (same x ∙ not) (none_of p q xs same (sym (ap (λ (t : Bool). if t then x ∷ filter q xs else filter q xs) not) ∙ none))
]

pub none_queued : (b : ℕ) (q : List Entry) → mails b q ≡ [] → list_any (is_mail b) q ≡ false
none_queued b q none = none_of (is_mail b) (messages.is_mail b) q (mail_is b) none

pub none_posted : (b : ℕ) (rest : List Step) → mail_steps b rest ≡ [] → list_any (posts b) rest ≡ false
none_posted b rest none = none_of (posts b) (λ s. messages.is_mail_act b s.act) rest (λ s. act_is b s.act) none

bare_mail : (b : ℕ) (e : Entry) → is_mail b (bare e) ≡ is_mail b e
bare_mail b (Mail buf to) = refl
bare_mail b (Store span bytes kind) = refl
bare_mail b (Cbo block op) = refl
bare_mail b (Reg chan off width value) = refl
bare_mail b (Lend label first count) = refl
bare_mail b (Mark pred succ) = refl

-- a message that is out stands nowhere in its hart's line
pub none_in_line : (b : ℕ) (q : List Entry) (rest : List Step) → Quiet b rest q → list_any (is_mail b) (line q (sending b rest)) ≡ false
none_in_line b q rest quiet =
    let none : sending b rest ≡ [] = steps_ahead.send_none b rest (none_posted b rest quiet.steps) in
    list_any-append (is_mail b) (map bare q) (sending b rest)
    ∙ or_from (list_any (is_mail b) (map bare q)) (list_any (is_mail b) (sending b rest)) (any_bare (is_mail b) (bare_mail b) q ∙ none_queued b q quiet.queue) (ap (list_any (is_mail b)) none)

-- ---- the steps with which a buffer is passed on

pub trace_none : (buf : ℕ) (to : HartNo) → EndsNone (hand_steps buf to)
trace_none buf to lot = refl

pub mails_none : (buf : ℕ) (to : HartNo) → EndsNone (mail_step buf to ∷ [])
mails_none buf to lot = refl

not_its : (c buf : ℕ) (to : HartNo) → c ≢ buf → list_any (posts c) (mail_step buf to ∷ []) ≡ false
not_its c buf to ne = or_from (buf == c) false (ne_eqb buf c (λ e. ne (sym e))) refl

pub sends_other : (c buf : ℕ) (to : HartNo) → c ≢ buf → sending c (hand_steps buf to) ≡ []
sends_other c buf to ne = steps_ahead.send_none c (hand_steps buf to) (not_its c buf to ne)

pub mails_other : (c buf : ℕ) (to : HartNo) → c ≢ buf → sending c (mail_step buf to ∷ []) ≡ []
mails_other c buf to ne = steps_ahead.send_none c (mail_step buf to ∷ []) (not_its c buf to ne)

pub sends_none : (c : ℕ) → sending c [] ≡ []
sends_none c = refl

its : (buf : ℕ) (to : HartNo) → posts buf (mail_step buf to) ≡ true
its buf to = eq-eqb buf buf refl

pub sends_mail : (buf : ℕ) (to : HartNo) → sending buf (mail_step buf to ∷ []) ≡ bare (Mail buf to) ∷ sending buf []
sends_mail buf to = steps_ahead.send_last buf (mail_step buf to) [] (its buf to)

pub sends_mark : (buf : ℕ) (to : HartNo) → sending buf (hand_steps buf to) ≡ bare (marker 1 4) ∷ sending buf (mail_step buf to ∷ [])
sends_mark buf to = steps_ahead.send_next buf (hart_step (hart.Mark 1 4)) (mail_step buf to ∷ []) refl (ap (λ (t : Bool). list_any (λ (u : Bool). u) (t ∷ [])) (its buf to))

-- both of them
pub sends_both : (buf : ℕ) (to : HartNo) → sending buf (hand_steps buf to) ≡ marker 1 4 ∷ Mail buf to ∷ []
sends_both buf to = sends_mark buf to ∙ ap (λ (q : List Entry). marker 1 4 ∷ q) (sends_mail buf to)

pub mail_comes : (buf : ℕ) (to : HartNo) → list_any (is_mail buf) (sending buf (hand_steps buf to)) ≡ true
mail_comes buf to = ap (list_any (is_mail buf)) (sends_both buf to) ∙ ap (λ (t : Bool). list_any (λ (u : Bool). u) (false ∷ t ∷ [])) (eq-eqb buf buf refl)

pub marker_comes : (buf : ℕ) (to : HartNo) → Stands is_wo (is_mail buf) (sending buf (hand_steps buf to))
marker_comes buf to = subst (Stands is_wo (is_mail buf)) (sym (sends_both buf to)) (inl refl)

-- what gives neither of them gives nothing that is to be covered
pub bare_comes : (buf : ℕ) (to : HartNo) (p : Entry → Bool) → p (marker 1 4) ≡ false → p (Mail buf to) ≡ false → Covered p is_wo (is_mail buf) (sending buf (hand_steps buf to))
bare_comes buf to p no_mark no_mail =
    subst (Covered p is_wo (is_mail buf)) (sym (sends_both buf to))
    (λ e. absurd (false≢true (sym no_mark ∙ e)), λ e. absurd (false≢true e), (λ e. absurd (false≢true (sym no_mail ∙ e)), λ e. refl, tt))

-- ---- the number of a buffer

number_found : (s : Span) (ss : List Span) (x b : ℕ) (t : Bool) → covers s x ≡ t → (if t then 0 else suc (number_in ss x)) ≡ b → (t ≡ true × (b ≡ 0)) ⊎ (t ≡ false × (suc (number_in ss x) ≡ b))
number_found s ss x b true is e = inl (refl, sym e)
number_found s ss x b false is e = inr (refl, e)

-- the buffer of this number has the place
pub number_covers : (ss : List Span) (x b : ℕ) → number_in ss x ≡ b → b < length ss → covers (slice_index_or ss b (record { at = 0; len = 0 })) x ≡ true
number_covers [] x b is lt = absurd (omega (arith, lt))
number_covers (s ∷ ss) x zero is lt = elim (number_found s ss x zero (covers s x) refl is) [ inl on ↦ on.0 | inr off ↦ absurd (omega (arith, off.1)) ]
number_covers (s ∷ ss) x (suc b) is lt = elim (number_found s ss x (suc b) (covers s x) refl is) [
  | inl on ↦ absurd (omega (arith, on.1))
  | inr off ↦ number_covers ss x b (omega (arith, off.1)) (omega (arith, lt))
]
