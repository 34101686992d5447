-- A buffer that one hart passes to another: where its one message stands. This project's own.
use Rattle.std.specs.Prelude.{ℕ, ◌≡◌, ◌≢◌, ◌<◌, ◌⊎◌, ◌==◌, Bool, false, List, [], ◌∷◌, filter, length, Option, Some, None}
use Rattle.nc_num.specs.declared.names.HartNo.{HartNo}
use Rattle.nc_queue.specs.declared.entry.Entry.{Entry}
use Rattle.nc_queue.specs.declared.entry.Entry.TheVariants as entries
use Rattle.nc_plan.specs.declared.ops.HartOp.{HartOp}
use Rattle.nc_plan.specs.declared.ops.HartOp.TheVariants as hart
use Rattle.nc_plan.specs.declared.ops.IoTarget.{IoTarget}
use Rattle.nc_plan.specs.declared.ops.IoTarget.TheVariants as io
use Rattle.nc_model.specs.declared.owners.Owner.TheVariants.{Passing}
use Rattle.nc_rules.specs.declared.steps.Act.{Act}
use Rattle.nc_rules.specs.declared.steps.Act.TheVariants as acts
use Rattle.nc_rules.specs.declared.steps.Step.{Step}
use Rattle.nc_rules.specs.Machine.{queue_of, box_of}
use Rattle.nc_rules.specs.Refusals.{buffer_of}
use Rattle.nc_rules.specs.World.{WorldState, driver_of}
use Rattle.nc_holds.specs.Held.{IsOwnedBy}

-- a message of buffer b, queued and as a step
abbrev pub is_mail : ℕ → Entry → Bool
is_mail b (entries.Mail buf to) = buf == b
is_mail b (entries.Store span bytes kind) = false
is_mail b (entries.Cbo block op) = false
is_mail b (entries.Reg chan off width value) = false
is_mail b (entries.Lend label first count) = false
is_mail b (entries.Mark pred succ) = false

abbrev pub is_mail_to : ℕ → IoTarget → Bool
is_mail_to b (io.Mail buf to) = buf == b
is_mail_to b (io.Reg chan off width value) = false
is_mail_to b (io.Lend label first count) = false

abbrev pub is_mail_op : ℕ → HartOp → Bool
is_mail_op b (hart.IoStore target) = is_mail_to b target
is_mail_op b (hart.Load span kind) = false
is_mail_op b (hart.Store span kind bytes) = false
is_mail_op b (hart.Cbo op block) = false
is_mail_op b (hart.Fence pred succ) = false
is_mail_op b (hart.IoLoad chan off width) = false
is_mail_op b (hart.Mark pred succ) = false

abbrev pub is_mail_act : ℕ → Act → Bool
is_mail_act b (acts.Op op) = is_mail_op b op
is_mail_act b (acts.Claim chan) = false
is_mail_act b (acts.Poll chan) = false
is_mail_act b (acts.Take buf) = false

abbrev pub mails : ℕ → List Entry → List Entry
mails b q = filter (is_mail b) q

abbrev pub mail_steps : ℕ → List Step → List Step
mail_steps b rest = filter (λ s. is_mail_act b s.act) rest

abbrev pub mail_act : ℕ → HartNo → Act
mail_act b to = acts.Op (hart.IoStore (io.Mail b to))

-- a hart has no message of the buffer to issue or queued
pub record Quiet (b : ℕ) (rest : List Step) (q : List Entry) : Type 0 where
  pub steps : mail_steps b rest ≡ []
  pub queue : mails b q ≡ []

-- where the one message of a buffer stands that is passed to hart `to`: it is to be issued, queued, or in the box
pub record ToIssue (b : ℕ) (to : HartNo) (rest : List Step) (q : List Entry) (box : Option HartNo) : Type 0 where
  pub one : length (mail_steps b rest) ≡ 1
  pub each : (s : Step) → mail_steps b rest ≡ s ∷ [] → s.act ≡ mail_act b to
  pub queue : mails b q ≡ []
  pub box_is : box ≡ None

pub record IsQueued (b : ℕ) (to : HartNo) (rest : List Step) (q : List Entry) (box : Option HartNo) : Type 0 where
  pub steps : mail_steps b rest ≡ []
  pub queue : mails b q ≡ entries.Mail b to ∷ []
  pub box_is : box ≡ None

pub record IsWaiting (b : ℕ) (to : HartNo) (rest : List Step) (q : List Entry) (box : Option HartNo) : Type 0 where
  pub quiet : Quiet b rest q
  pub box_is : box ≡ Some to

abbrev pub Stage : ℕ → HartNo → List Step → List Entry → Option HartNo → Type 0
Stage b to rest q box = ToIssue b to rest q box ⊎ IsQueued b to rest q box ⊎ IsWaiting b to rest q box

abbrev pub rest_of : WorldState → ℕ → List Step
rest_of w h = (driver_of w h).rest

-- nobody has a message of the buffer
pub record HasNone (w : WorldState) (b : ℕ) : Type 0 where
  pub quiet : (g : ℕ) → Quiet b (rest_of w g) (queue_of w.machine g)
  pub box_is : box_of w.machine b ≡ None

-- the whole buffer is passed from one hart to another, and has one message
pub record IsPassed (w : WorldState) (b : ℕ) (h to : HartNo) : Type 0 where
  pub owners : IsOwnedBy w.owners (buffer_of (driver_of w 0).fixed b) (Passing h to)
  pub quiet : (g : ℕ) → g ≢ h.0 → Quiet b (rest_of w g) (queue_of w.machine g)
  pub stage : Stage b to (rest_of w h.0) (queue_of w.machine h.0) (box_of w.machine b)

pub data Status (w : WorldState) (b : ℕ) : Type 0 where
  Still : HasNone w b → Status w b
  Passed : (h to : HartNo) → IsPassed w b h to → Status w b

abbrev pub MessagesAgree : WorldState → Type 0
MessagesAgree w = (b : ℕ) → b < length w.machine.boxes → Status w b
