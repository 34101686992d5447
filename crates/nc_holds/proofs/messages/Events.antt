-- Messages after a step of a driver.
use Rattle.std.specs.Prelude.{Option, Some, None, ◌<◌, ◌==◌, slice_index_or, if◌then◌else◌}
use Rattle.std.proofs.Common.{◌≡◌, ℕ, Bool, true, false, List, [], ◌∷◌, ◌++◌, length, refl, sym, ap, ◌∙◌, subst, inl, inr}
use Rattle.std.proofs.lemmas.Bool.{false≢true, cases_Bool, cases_eq}
use Rattle.nc_num.specs.Places.{covers}
use Rattle.nc_num.specs.declared.names.HartNo.{HartNo}
use Rattle.nc_queue.specs.QueueState.{QueueState}
use Rattle.nc_queue.specs.declared.entry.Entry.{Entry}
use Rattle.nc_queue.specs.declared.entry.Entry.TheVariants as entries
use Rattle.nc_plan.specs.declared.ops.HartOp.{HartOp}
use Rattle.nc_plan.specs.declared.ops.HartOp.TheVariants as hart
use Rattle.nc_plan.specs.declared.ops.IoTarget.{IoTarget}
use Rattle.nc_plan.specs.declared.ops.IoTarget.TheVariants as io
use Rattle.nc_hart.specs.HartState.{HartState}
use Rattle.nc_hart.specs.Issue.{entry_of, io_entry, marker, marks, payload, pushed}
use Rattle.nc_rules.specs.declared.answers.Issued.{Issued}
use Rattle.nc_rules.specs.declared.steps.Act.{Act}
use Rattle.nc_rules.specs.declared.steps.Next.{Next}
use Rattle.nc_rules.specs.declared.steps.Next.TheVariants as nexts
use Rattle.nc_rules.specs.declared.steps.Seen.{Seen}
use Rattle.nc_rules.specs.declared.steps.Step.{Step}
use Rattle.nc_rules.specs.Machine.{MachineState, hart_of, queue_of, box_of}
use Rattle.nc_rules.specs.Calls.{issue_next}
use Rattle.nc_rules.specs.Refusals.{buffer_of}
use Rattle.nc_rules.specs.Driver.{DriverState, next_of, next_act, done}
use Rattle.nc_rules.specs.World.{WorldState, driver_of}
use Rattle.nc_rules.specs.Outcomes.{seen_of}
use Rattle.nc_scripts.specs.Scripts.{is_act}
use Rattle.nc_scripts.specs.Drivers.{IsSeenAt}
use Rattle.nc_scripts.proofs.EveryDriver.{drivers_stay}
use Rattle.nc_holds.specs.Messages.{is_mail, is_mail_to, is_mail_op, mails, mail_steps, mail_act, Status}
use Rattle.nc_holds.proofs.lists.Changes.{last_gone, last_kept}
use Rattle.nc_holds.proofs.messages.Owners.{Spares}
use Rattle.nc_holds.proofs.messages.Calls.{IsPassing}
use Rattle.nc_holds.proofs.messages.Moves.{TakesOther, done_off}
use Rattle.nc_holds.proofs.messages.Rests.{mail_next, done_mails}
use Rattle.nc_holds.proofs.messages.Status.{status_kept, status_issued}
use Rattle.nc_holds.proofs.messages.Goes.{GoesOn, rest_here, rest_away, steps_stay, owners_stay, lots_off, turns_lots}
use Rattle.nc_holds.proofs.messages.Starts.{AllStatus}
use Rattle.nc_holds.proofs.messages.Worlds.{SameHarts, issue_is}
use Rattle.nc_holds.proofs.tokens.Worlds.{At, here, seen_at, hart_same}

-- ---- the entry of an operation

mark_mail : (b : ℕ) (t : Bool) (pred succ : ℕ) (e : Entry) → (if t then Some (marker pred succ) else None) ≡ Some e → is_mail b e ≡ false
mark_mail b true pred succ e is = let same : marker pred succ ≡ e = cc in subst (λ (f : Entry). is_mail b f ≡ false) same refl
mark_mail b false pred succ e is = absurd cc

io_mail : (b : ℕ) (target : IoTarget) → is_mail b (io_entry target) ≡ is_mail_to b target
io_mail b (io.Mail buf to) = refl
io_mail b (io.Reg chan off width value) = refl
io_mail b (io.Lend label first count) = refl

entry_mail : (b : ℕ) (last : List ℕ) (op : HartOp) (e : Entry) → entry_of last op ≡ Some e → is_mail_op b op ≡ false → is_mail b e ≡ false
entry_mail b last (hart.IoStore target) e is off = let same : io_entry target ≡ e = cc in ap (is_mail b) (sym same) ∙ io_mail b target ∙ off
entry_mail b last (hart.Load span kind) e is off = absurd cc
entry_mail b last (hart.IoLoad chan width value) e is off = absurd cc
entry_mail b last (hart.Store span kind bytes) e is off = let same : entries.Store span (payload last bytes) kind ≡ e = cc in ap (is_mail b) (sym same)
entry_mail b last (hart.Cbo op block) e is off = let same : entries.Cbo block op ≡ e = cc in ap (is_mail b) (sym same)
entry_mail b last (hart.Fence pred succ) e is off = mark_mail b (marks pred succ) pred succ e is
entry_mail b last (hart.Mark pred succ) e is off = let same : marker pred succ ≡ e = cc in ap (is_mail b) (sym same)

pushed_mails : (b : ℕ) (q : QueueState) (o : Option Entry) → ((e : Entry) → o ≡ Some e → is_mail b e ≡ false) → mails b (pushed q o).entries ≡ mails b q.entries
pushed_mails b q None h = refl
pushed_mails b q (Some e) h = last_gone (is_mail b) q.entries e (h e refl)

-- ---- a step in general

seen_op : (d : DriverState) (op : HartOp) (r : Issued) → IsSeenAt (next_of d) (seen_of r)
seen_op d op r = seen_at (next_of d) r

pub done_fixed : (w : WorldState) (h : HartNo) (saw : Seen) → At w h → is_act (next_of (driver_of w h.0)) ≡ true → IsSeenAt (next_of (driver_of w h.0)) saw → (done (driver_of w h.0) saw).driver.fixed ≡ (driver_of w h.0).fixed
done_fixed w h saw a act at = ((drivers_stay _ _ (driver_of w h.0) (here w h a).driver).goes_on saw act at).fixed

-- the bytes that are passed keep their owners
pub done_spares : (w : WorldState) (h : HartNo) (saw : Seen) (b : ℕ) → At w h → is_act (next_of (driver_of w h.0)) ≡ true → ((x : ℕ) → covers (buffer_of (driver_of w h.0).fixed b) x ≡ true → TakesOther (driver_of w h.0) (next_of (driver_of w h.0)) x)
    → (x : ℕ) → covers (buffer_of (driver_of w h.0).fixed b) x ≡ true → IsPassing (driver_of w h.0).fixed w.owners x → Spares x (done (driver_of w h.0) saw).moves.transfers
done_spares w h saw b a act takes x on p = done_off (driver_of w h.0) saw x (turns_lots (driver_of w h.0).lots (driver_of w h.0).rest (here w h a).turns) act (lots_off w h x a p) (takes x on)

no_take : (d : DriverState) (nx : Next) (x : ℕ) → next_of d ≡ nx → ((buf : ℕ) → nx ≡ nexts.Take buf → ⊥) → TakesOther d (next_of d) x
no_take d nx x e not_take buf is = absurd (not_take buf (sym e ∙ is))

-- ---- a claim or a poll

pub still_step : (w n : WorldState) (h : HartNo) (m : MachineState) (nx : Next) (saw : Seen) → At w h → next_of (driver_of w h.0) ≡ nx → is_act nx ≡ true → IsSeenAt (next_of (driver_of w h.0)) saw → ((b : ℕ) → mail_next b nx ≡ false) → ((buf : ℕ) → nx ≡ nexts.Take buf → ⊥)
    → GoesOn w n h m (done (driver_of w h.0) saw) → SameHarts w.machine m → AllStatus w n
still_step w n h m nx saw a e act at off not_take k same b lt =
    let s = here w h a in
    let acts : is_act (next_of (driver_of w h.0)) ≡ true = ap is_act e ∙ act in
    status_kept w n b (record {
      steps = steps_stay w n h m (done (driver_of w h.0) saw) b a k ((done_mails (driver_of w h.0) saw b s.rest acts at).other (ap (mail_next b) e ∙ off b));
      queue = λ g. ap (λ (v : MachineState). mails b (queue_of v g)) k.machine ∙ ap (λ (t : HartState). mails b t.queue.entries) (hart_same w.machine m g same.harts);
      box_is = ap (λ (v : MachineState). box_of v b) k.machine ∙ ap (λ (bs : List (Option HartNo)). slice_index_or bs b None) same.boxes;
      owners = owners_stay w n h m (done (driver_of w h.0) saw) b a k (done_spares w h saw b a acts (λ x on. no_take (driver_of w h.0) nx x e not_take));
    }) (a.holds.messages b lt)

-- ---- an operation of the hart

op_not_take : (op : HartOp) (buf : ℕ) → nexts.Op op ≡ nexts.Take buf → ⊥
op_not_take op buf e = absurd cc

op_other : (w n : WorldState) (h : HartNo) (op : HartOp) (saw : Seen) (b : ℕ) → At w h → next_of (driver_of w h.0) ≡ nexts.Op op → IsSeenAt (next_of (driver_of w h.0)) saw → is_mail_op b op ≡ false
    → GoesOn w n h (issue_next w.machine h.0 op) (done (driver_of w h.0) saw) → b < length w.machine.boxes → Status n b
op_other w n h op saw b a e at off k lt =
    let s = here w h a in
    let i = issue_is w.machine h.0 op a.lt in
    let acts : is_act (next_of (driver_of w h.0)) ≡ true = ap is_act e in
    status_kept w n b (record {
      steps = steps_stay w n h (issue_next w.machine h.0 op) (done (driver_of w h.0) saw) b a k ((done_mails (driver_of w h.0) saw b s.rest acts at).other (ap (mail_next b) e ∙ off));
      queue = λ g. ap (λ (v : MachineState). mails b (queue_of v g)) k.machine ∙ elim (cases_eq g h.0) [
        | inl same ↦ subst (λ (j : ℕ). mails b (queue_of (issue_next w.machine h.0 op) j) ≡ mails b (queue_of w.machine j)) (sym same)
            (ap (mails b) i.own ∙ pushed_mails b (hart_of w.machine h.0).queue (entry_of (hart_of w.machine h.0).last op) (λ x is. entry_mail b (hart_of w.machine h.0).last op x is off))
        | inr ne ↦ ap (λ (t : HartState). mails b t.queue.entries) (i.others g ne)
      ];
      box_is = ap (λ (v : MachineState). box_of v b) k.machine ∙ ap (λ (bs : List (Option HartNo)). slice_index_or bs b None) i.boxes;
      owners = owners_stay w n h (issue_next w.machine h.0 op) (done (driver_of w h.0) saw) b a k (done_spares w h saw b a acts (λ x on. no_take (driver_of w h.0) (nexts.Op op) x e (op_not_take op)));
    }) (a.holds.messages b lt)

its_entry : (b buf : ℕ) (to for : HartNo) (act : Act) → nexts.Op (hart.IoStore (io.Mail buf to)) ≡ next_act act → act ≡ mail_act b for → entries.Mail buf to ≡ entries.Mail b for
its_entry b buf to for act e is =
    let both : nexts.Op (hart.IoStore (io.Mail buf to)) ≡ nexts.Op (hart.IoStore (io.Mail b for)) = e ∙ ap next_act is in
    let op : hart.IoStore (io.Mail buf to) ≡ hart.IoStore (io.Mail b for) = cc in
    let target : io.Mail buf to ≡ io.Mail b for = cc in
    let same : buf ≡ b = cc in
    let hart_same : to ≡ for = cc in
    λ i. entries.Mail (same i) (hart_same i)

op_mail : (w n : WorldState) (h : HartNo) (buf : ℕ) (to : HartNo) (saw : Seen) (b : ℕ) → At w h → next_of (driver_of w h.0) ≡ nexts.Op (hart.IoStore (io.Mail buf to)) → IsSeenAt (next_of (driver_of w h.0)) saw → (buf == b) ≡ true
    → GoesOn w n h (issue_next w.machine h.0 (hart.IoStore (io.Mail buf to))) (done (driver_of w h.0) saw) → b < length w.machine.boxes → Status n b
op_mail w n h buf to saw b a e at on k lt =
    let s = here w h a in
    let op = hart.IoStore (io.Mail buf to) in
    let i = issue_is w.machine h.0 (hart.IoStore (io.Mail buf to)) a.lt in
    let acts : is_act (next_of (driver_of w h.0)) ≡ true = ap is_act e in
    let left = (done_mails (driver_of w h.0) saw b s.rest acts at).mail (ap (mail_next b) e ∙ on) in
    status_issued w n b h.0 left.0 (entries.Mail buf to)
    (record {
      steps = λ g ne. ap (mail_steps b) (rest_away w n h (issue_next w.machine h.0 (hart.IoStore (io.Mail buf to))) (done (driver_of w h.0) saw) g k ne);
      queue = λ g ne. ap (λ (v : MachineState). mails b (queue_of v g)) k.machine ∙ ap (λ (t : HartState). mails b t.queue.entries) (i.others g ne);
    })
    (left.1.first ∙ ap (λ (r : List Step). left.0 ∷ mail_steps b r) (sym (rest_here w n h (issue_next w.machine h.0 (hart.IoStore (io.Mail buf to))) (done (driver_of w h.0) saw) a k)))
    (λ for act. its_entry b buf to for left.0.act (sym e ∙ left.1.act) act)
    (λ for none same.
    ap (λ (v : MachineState). mails b (queue_of v h.0)) k.machine ∙ ap (mails b) i.own ∙ last_kept (is_mail b) (queue_of w.machine h.0) (entries.Mail buf to) on ∙ ap (λ (q : List Entry). q ++ entries.Mail buf to ∷ []) none)
    (ap (λ (v : MachineState). box_of v b) k.machine ∙ ap (λ (bs : List (Option HartNo)). slice_index_or bs b None) i.boxes)
    (owners_stay w n h (issue_next w.machine h.0 (hart.IoStore (io.Mail buf to))) (done (driver_of w h.0) saw) b a k (done_spares w h saw b a acts (λ x on. no_take (driver_of w h.0) (nexts.Op (hart.IoStore (io.Mail buf to))) x e (op_not_take (hart.IoStore (io.Mail buf to))))))
    (a.holds.messages b lt)

op_by : (w n : WorldState) (h : HartNo) (op : HartOp) (saw : Seen) (b : ℕ) → At w h → next_of (driver_of w h.0) ≡ nexts.Op op → IsSeenAt (next_of (driver_of w h.0)) saw
    → GoesOn w n h (issue_next w.machine h.0 op) (done (driver_of w h.0) saw) → b < length w.machine.boxes → is_mail_op b op ≡ true → Status n b
op_by w n h (hart.IoStore (io.Mail buf to)) saw b a e at k lt on = op_mail w n h buf to saw b a e at on k lt
op_by w n h (hart.IoStore (io.Reg chan off width value)) saw b a e at k lt on = absurd (false≢true on)
op_by w n h (hart.IoStore (io.Lend label first count)) saw b a e at k lt on = absurd (false≢true on)
op_by w n h (hart.Load span kind) saw b a e at k lt on = absurd (false≢true on)
op_by w n h (hart.Store span kind bytes) saw b a e at k lt on = absurd (false≢true on)
op_by w n h (hart.Cbo op block) saw b a e at k lt on = absurd (false≢true on)
op_by w n h (hart.Fence pred succ) saw b a e at k lt on = absurd (false≢true on)
op_by w n h (hart.IoLoad chan off width) saw b a e at k lt on = absurd (false≢true on)
op_by w n h (hart.Mark pred succ) saw b a e at k lt on = absurd (false≢true on)

pub op_messages : (w n : WorldState) (h : HartNo) (op : HartOp) (saw : Seen) → At w h → next_of (driver_of w h.0) ≡ nexts.Op op → IsSeenAt (next_of (driver_of w h.0)) saw → GoesOn w n h (issue_next w.machine h.0 op) (done (driver_of w h.0) saw) → AllStatus w n
op_messages w n h op saw a e at k b lt = elim (cases_Bool (is_mail_op b op)) [
  | inl on ↦ op_by w n h op saw b a e at k lt on
  | inr off ↦ op_other w n h op saw b a e at off k lt
]
