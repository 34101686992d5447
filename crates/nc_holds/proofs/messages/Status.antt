-- What an event does to the one message of a buffer.
use Rattle.std.specs.Prelude.{Option, Some, None}
use Rattle.std.proofs.Common.{◌≡◌, ◌≢◌, ℕ, List, [], ◌∷◌, length, refl, sym, ap, ◌∙◌, subst, arith, inl, inr}
use Rattle.std.proofs.lemmas.Bool.{cases_eq}
use Rattle.nc_num.specs.declared.names.HartNo.{HartNo}
use Rattle.nc_model.specs.declared.owners.Owner.TheVariants as owners
use Rattle.nc_queue.specs.declared.entry.Entry.{Entry}
use Rattle.nc_queue.specs.declared.entry.Entry.TheVariants as entries
use Rattle.nc_rules.specs.declared.steps.Step.{Step}
use Rattle.nc_rules.specs.Machine.{queue_of, box_of}
use Rattle.nc_rules.specs.Refusals.{buffer_of}
use Rattle.nc_rules.specs.World.{WorldState, driver_of}
use Rattle.nc_holds.specs.Held.{IsOwnedBy}
use Rattle.nc_holds.specs.Messages.{mails, mail_steps, mail_act, Quiet, ToIssue, Stage, rest_of, IsPassed, Status, Still, Passed}

-- ---- a buffer that no message of which moves

pub record Stays (w n : WorldState) (b : ℕ) : Type 0 where
  pub steps : (g : ℕ) → mail_steps b (rest_of n g) ≡ mail_steps b (rest_of w g)
  pub queue : (g : ℕ) → mails b (queue_of n.machine g) ≡ mails b (queue_of w.machine g)
  pub box_is : box_of n.machine b ≡ box_of w.machine b
  pub owners : (h to : HartNo) → IsOwnedBy w.owners (buffer_of (driver_of w 0).fixed b) (owners.Passing h to) → IsOwnedBy n.owners (buffer_of (driver_of n 0).fixed b) (owners.Passing h to)

pub quiet_kept : (b : ℕ) (r s : List Step) (q u : List Entry) → mail_steps b s ≡ mail_steps b r → mails b u ≡ mails b q → Quiet b r q → Quiet b s u
quiet_kept b r s q u steps queue h = record { steps = steps ∙ h.steps; queue = queue ∙ h.queue }

to_issue_kept : (b : ℕ) (to : HartNo) (r s : List Step) (q u : List Entry) (x y : Option HartNo) → mail_steps b s ≡ mail_steps b r → mails b u ≡ mails b q → y ≡ x → ToIssue b to r q x → ToIssue b to s u y
to_issue_kept b to r s q u x y steps queue box h = record {
  one = ap length steps ∙ h.one;
  each = λ t e. h.each t (sym steps ∙ e);
  queue = queue ∙ h.queue;
  box_is = box ∙ h.box_is;
}

stage_kept : (b : ℕ) (to : HartNo) (r s : List Step) (q u : List Entry) (x y : Option HartNo) → mail_steps b s ≡ mail_steps b r → mails b u ≡ mails b q → y ≡ x → Stage b to r q x → Stage b to s u y
stage_kept b to r s q u x y steps queue box stage = elim stage [
  | inl issue ↦ inl (to_issue_kept b to r s q u x y steps queue box issue)
  | inr later ↦ elim later [
    | inl queued ↦ inr (inl (record { steps = steps ∙ queued.steps; queue = queue ∙ queued.queue; box_is = box ∙ queued.box_is }))
    | inr waits ↦ inr (inr (record { quiet = quiet_kept b r s q u steps queue waits.quiet; box_is = box ∙ waits.box_is }))
  ]
]

pub status_kept : (w n : WorldState) (b : ℕ) → Stays w n b → Status w b → Status n b
status_kept w n b m (Still h) = Still (record {
  quiet = λ g. quiet_kept b (rest_of w g) (rest_of n g) (queue_of w.machine g) (queue_of n.machine g) (m.steps g) (m.queue g) (h.quiet g);
  box_is = m.box_is ∙ h.box_is;
})
status_kept w n b m (Passed h to p) = Passed h to (record {
  owners = m.owners h to p.owners;
  quiet = λ g ne. quiet_kept b (rest_of w g) (rest_of n g) (queue_of w.machine g) (queue_of n.machine g) (m.steps g) (m.queue g) (p.quiet g ne);
  stage = stage_kept b to (rest_of w h.0) (rest_of n h.0) (queue_of w.machine h.0) (queue_of n.machine h.0) (box_of w.machine b) (box_of n.machine b) (m.steps h.0) (m.queue h.0) m.box_is p.stage;
})

-- ---- hart h's driver, queue or box alone moves, and the owners stay

pub record OneHart (w n : WorldState) (b h : ℕ) : Type 0 where
  pub steps : (g : ℕ) → g ≢ h → mail_steps b (rest_of n g) ≡ mail_steps b (rest_of w g)
  pub queue : (g : ℕ) → g ≢ h → mails b (queue_of n.machine g) ≡ mails b (queue_of w.machine g)

away : (w n : WorldState) (b h g : ℕ) → OneHart w n b h → g ≢ h → Quiet b (rest_of w g) (queue_of w.machine g) → Quiet b (rest_of n g) (queue_of n.machine g)
away w n b h g one ne q = quiet_kept b (rest_of w g) (rest_of n g) (queue_of w.machine g) (queue_of n.machine g) (one.steps g ne) (one.queue g ne) q

one_not_none : (s : Step) (xs ys : List Step) → xs ≡ s ∷ ys → xs ≡ [] → ⊥
one_not_none s xs ys e none = let both : s ∷ ys ≡ [] = sym e ∙ none in absurd cc

no_more : (xs : List Step) (s : Step) → length (s ∷ xs) ≡ 1 → xs ≡ []
no_more [] s e = refl
no_more (t ∷ xs) s e = absurd (omega arith)

-- the message is issued: it was to be, by this hart
pub status_issued : (w n : WorldState) (b h : ℕ) (s : Step) (e : Entry) → OneHart w n b h → mail_steps b (rest_of w h) ≡ s ∷ mail_steps b (rest_of n h) → ((to : HartNo) → s.act ≡ mail_act b to → e ≡ entries.Mail b to)
    → ((to : HartNo) → mails b (queue_of w.machine h) ≡ [] → e ≡ entries.Mail b to → mails b (queue_of n.machine h) ≡ e ∷ []) → box_of n.machine b ≡ box_of w.machine b
    → ((k to : HartNo) → IsOwnedBy w.owners (buffer_of (driver_of w 0).fixed b) (owners.Passing k to) → IsOwnedBy n.owners (buffer_of (driver_of n 0).fixed b) (owners.Passing k to))
    → Status w b → Status n b
status_issued w n b h s e one first is pushed box own (Still k) = absurd (one_not_none s (mail_steps b (rest_of w h)) (mail_steps b (rest_of n h)) first (k.quiet h).steps)
status_issued w n b h s e one first is pushed box own (Passed k to p) = elim (cases_eq h k.0) [
  | inr ne ↦ absurd (one_not_none s (mail_steps b (rest_of w h)) (mail_steps b (rest_of n h)) first (p.quiet h ne).steps)
  | inl same ↦ Passed k to (record {
    owners = own k to p.owners;
    quiet = λ g ne. away w n b h g one (λ i. ne (i ∙ same)) (p.quiet g ne);
    stage = subst (λ (j : ℕ). Stage b to (rest_of n j) (queue_of n.machine j) (box_of n.machine b)) same (issued (subst (λ (j : ℕ). Stage b to (rest_of w j) (queue_of w.machine j) (box_of w.machine b)) (sym same) p.stage));
  })
]
  where
    issued : Stage b to (rest_of w h) (queue_of w.machine h) (box_of w.machine b) → Stage b to (rest_of n h) (queue_of n.machine h) (box_of n.machine b)
    issued (inl issue) =
        let none = no_more (mail_steps b (rest_of n h)) s (ap length (sym first) ∙ issue.one) in
        let act = issue.each s (first ∙ ap (λ (xs : List Step). s ∷ xs) none) in
        let entry = is to act in
        inr (inl (record { steps = none; queue = pushed to issue.queue entry ∙ ap (λ (x : Entry). x ∷ []) entry; box_is = box ∙ issue.box_is }))
    issued (inr (inl queued)) = absurd (one_not_none s (mail_steps b (rest_of w h)) (mail_steps b (rest_of n h)) first queued.steps)
    issued (inr (inr waits)) = absurd (one_not_none s (mail_steps b (rest_of w h)) (mail_steps b (rest_of n h)) first waits.quiet.steps)

-- the message leaves the queue: the hart had it queued
pub status_sent : (w n : WorldState) (b h : ℕ) (to : HartNo) → OneHart w n b h → mail_steps b (rest_of n h) ≡ mail_steps b (rest_of w h) → (mails b (queue_of w.machine h) ≡ [] → ⊥)
    → ((a : Entry) → mails b (queue_of w.machine h) ≡ a ∷ [] → (entries.Mail b to ≡ a) × (mails b (queue_of n.machine h) ≡ [])) → box_of n.machine b ≡ Some to
    → ((k for : HartNo) → IsOwnedBy w.owners (buffer_of (driver_of w 0).fixed b) (owners.Passing k for) → IsOwnedBy n.owners (buffer_of (driver_of n 0).fixed b) (owners.Passing k for))
    → Status w b → Status n b
status_sent w n b h to one steps some gone box own (Still k) = absurd (some (k.quiet h).queue)
status_sent w n b h to one steps some gone box own (Passed k for p) = elim (cases_eq h k.0) [
  | inr ne ↦ absurd (some (p.quiet h ne).queue)
  | inl same ↦ Passed k for (record {
    owners = own k for p.owners;
    quiet = λ g ne. away w n b h g one (λ i. ne (i ∙ same)) (p.quiet g ne);
    stage = subst (λ (j : ℕ). Stage b for (rest_of n j) (queue_of n.machine j) (box_of n.machine b)) same (sent (subst (λ (j : ℕ). Stage b for (rest_of w j) (queue_of w.machine j) (box_of w.machine b)) (sym same) p.stage));
  })
]
  where
    sent : Stage b for (rest_of w h) (queue_of w.machine h) (box_of w.machine b) → Stage b for (rest_of n h) (queue_of n.machine h) (box_of n.machine b)
    sent (inl issue) = absurd (some issue.queue)
    sent (inr (inl queued)) =
        let it = gone (entries.Mail b for) queued.queue in
        let mail : entries.Mail b to ≡ entries.Mail b for = it.0 in
        let hart : to ≡ for = cc in
        inr (inr (record { quiet = record { steps = steps ∙ queued.steps; queue = it.1 }; box_is = box ∙ ap (λ (x : HartNo). Some x) hart }))
    sent (inr (inr waits)) = absurd (some waits.quiet.queue)

-- the message in the box is for this hart: nobody has another
pub record IsGiven (w : WorldState) (b : ℕ) (to : HartNo) : Type 0 where
  pub from : HartNo
  pub owners : IsOwnedBy w.owners (buffer_of (driver_of w 0).fixed b) (owners.Passing from to)
  pub quiet : (g : ℕ) → Quiet b (rest_of w g) (queue_of w.machine g)

given_by : (w : WorldState) (b : ℕ) (to from for : HartNo) → box_of w.machine b ≡ Some to → IsPassed w b from for → Stage b for (rest_of w from.0) (queue_of w.machine from.0) (box_of w.machine b) → IsGiven w b to
given_by w b to from for box p (inl issue) = let both : ◌≡◌ {A = Option HartNo} (Some to) None = sym box ∙ issue.box_is in absurd cc
given_by w b to from for box p (inr (inl queued)) = let both : ◌≡◌ {A = Option HartNo} (Some to) None = sym box ∙ queued.box_is in absurd cc
given_by w b to from for box p (inr (inr waits)) =
    let same : for ≡ to = let both : ◌≡◌ {A = Option HartNo} (Some to) (Some for) = sym box ∙ waits.box_is in cc in
    record {
      from = from;
      owners = subst (λ (t : HartNo). IsOwnedBy w.owners (buffer_of (driver_of w 0).fixed b) (owners.Passing from t)) same p.owners;
      quiet = λ g. elim (cases_eq g from.0) [
        | inl e ↦ subst (λ (j : ℕ). Quiet b (rest_of w j) (queue_of w.machine j)) (sym e) waits.quiet
        | inr ne ↦ p.quiet g ne
      ];
    }

pub given_from : (w : WorldState) (b : ℕ) (to : HartNo) → box_of w.machine b ≡ Some to → Status w b → IsGiven w b to
given_from w b to box (Still k) = let both : ◌≡◌ {A = Option HartNo} (Some to) None = sym box ∙ k.box_is in absurd cc
given_from w b to box (Passed from for p) = given_by w b to from for box p p.stage

-- it is taken: nobody has a message
pub status_taken : (w n : WorldState) (b : ℕ) (to : HartNo) → ((g : ℕ) → mail_steps b (rest_of n g) ≡ mail_steps b (rest_of w g)) → ((g : ℕ) → mails b (queue_of n.machine g) ≡ mails b (queue_of w.machine g))
    → box_of w.machine b ≡ Some to → box_of n.machine b ≡ None → Status w b → Status n b
status_taken w n b to steps queue was box st =
    let given = given_from w b to was st in
    Still (record { quiet = λ g. quiet_kept b (rest_of w g) (rest_of n g) (queue_of w.machine g) (queue_of n.machine g) (steps g) (queue g) (given.quiet g); box_is = box })

-- a hart passes its own buffer on
pub status_begun : (w n : WorldState) (b : ℕ) (h to : HartNo) → OneHart w n b h.0 → ((k for : HartNo) → IsOwnedBy w.owners (buffer_of (driver_of w 0).fixed b) (owners.Passing k for) → ⊥)
    → IsOwnedBy n.owners (buffer_of (driver_of n 0).fixed b) (owners.Passing h to) → length (mail_steps b (rest_of n h.0)) ≡ 1 → ((s : Step) → mail_steps b (rest_of n h.0) ≡ s ∷ [] → s.act ≡ mail_act b to)
    → mails b (queue_of n.machine h.0) ≡ mails b (queue_of w.machine h.0) → box_of n.machine b ≡ box_of w.machine b → Status w b → Status n b
status_begun w n b h to one mine own steps each queue box (Passed k for p) = absurd (mine k for p.owners)
status_begun w n b h to one mine own steps each queue box (Still k) = Passed h to (record {
  owners = own;
  quiet = λ g ne. away w n b h.0 g one ne (k.quiet g);
  stage = inl (record { one = steps; each = each; queue = queue ∙ (k.quiet h.0).queue; box_is = box ∙ k.box_is });
})
