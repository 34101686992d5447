-- What the rest of a plan is still to put in its hart's queue, up to the step that ends a mapping's stay with its owner.
-- This project's own.
use Rattle.std.specs.Prelude.{ℕ, ◌==◌, ◌&&◌, ◌||◌, ◌+◌, nat_le, nat_lt, Bool, false, if◌then◌else◌, List, [], ◌∷◌, ◌++◌, flat_map, Option, Some, None}
use Rattle.std.specs.List.{list_any, find}
use Rattle.nc_num.specs.declared.names.MapId.{MapId}
use Rattle.nc_queue.specs.declared.entry.Entry.{Entry}
use Rattle.nc_queue.specs.declared.entry.Entry.TheVariants as entries
use Rattle.nc_plan.specs.declared.ops.HartOp.{HartOp}
use Rattle.nc_plan.specs.declared.ops.HartOp.TheVariants as hart
use Rattle.nc_plan.specs.declared.ops.IoTarget.{IoTarget}
use Rattle.nc_plan.specs.declared.ops.IoTarget.TheVariants as io
use Rattle.nc_hart.specs.Issue.{marks, marker, io_entry}
use Rattle.nc_rules.specs.declared.lots.LotId.{LotId}
use Rattle.nc_rules.specs.declared.steps.Act.{Act}
use Rattle.nc_rules.specs.declared.steps.Act.TheVariants as acts
use Rattle.nc_rules.specs.declared.steps.Step.{Step}
use Rattle.nc_rules.specs.declared.steps.Turn.{Turn}
use Rattle.nc_rules.specs.declared.steps.Turn.TheVariants as turns

-- ---- the end of a stay

abbrev pub same_lot : LotId → LotId → Bool
same_lot a b = a.label.0 == b.label.0 && a.first == b.first

-- a turn of this lot, which changes the owner of its bytes
abbrev pub turns_lot : LotId → Turn → Bool
turns_lot lot turns.Stay = false
turns_lot lot (turns.Pass range to) = false
turns_lot lot (turns.Own range) = false
turns_lot lot (turns.Lend id) = same_lot lot id
turns_lot lot (turns.Give id) = same_lot lot id
turns_lot lot (turns.Return id) = same_lot lot id
turns_lot lot (turns.Sync id) = same_lot lot id
turns_lot lot (turns.Settle id) = same_lot lot id
turns_lot lot (turns.End id) = same_lot lot id

-- the turn with which it is the device's, and that with which an area is its hart's
abbrev pub gives_lot : LotId → Turn → Bool
gives_lot lot turns.Stay = false
gives_lot lot (turns.Pass range to) = false
gives_lot lot (turns.Own range) = false
gives_lot lot (turns.Lend id) = false
gives_lot lot (turns.Give id) = same_lot lot id
gives_lot lot (turns.Return id) = false
gives_lot lot (turns.Sync id) = false
gives_lot lot (turns.Settle id) = false
gives_lot lot (turns.End id) = false

abbrev pub settles_lot : LotId → Turn → Bool
settles_lot lot turns.Stay = false
settles_lot lot (turns.Pass range to) = false
settles_lot lot (turns.Own range) = false
settles_lot lot (turns.Lend id) = false
settles_lot lot (turns.Give id) = false
settles_lot lot (turns.Return id) = false
settles_lot lot (turns.Sync id) = false
settles_lot lot (turns.Settle id) = same_lot lot id
settles_lot lot (turns.End id) = false

-- the issue of its token, and that of a message of buffer b
abbrev pub tokens_lot : LotId → IoTarget → Bool
tokens_lot lot (io.Lend label first count) = label.0 == lot.label.0 && first == lot.first
tokens_lot lot (io.Reg chan off width value) = false
tokens_lot lot (io.Mail buf to) = false

abbrev pub sends : ℕ → IoTarget → Bool
sends b (io.Mail buf to) = buf == b
sends b (io.Reg chan off width value) = false
sends b (io.Lend label first count) = false

abbrev pub stores_io : (IoTarget → Bool) → Act → Bool
stores_io p (acts.Op (hart.IoStore target)) = p target
stores_io p (acts.Op (hart.Load span kind)) = false
stores_io p (acts.Op (hart.Store span kind bytes)) = false
stores_io p (acts.Op (hart.Cbo op block)) = false
stores_io p (acts.Op (hart.Fence pred succ)) = false
stores_io p (acts.Op (hart.IoLoad chan off width)) = false
stores_io p (acts.Op (hart.Mark pred succ)) = false
stores_io p (acts.Claim chan) = false
stores_io p (acts.Poll chan) = false
stores_io p (acts.Take buf) = false

-- the step ends the lot's stay, or sends the message
abbrev pub ends : LotId → Step → Bool
ends lot s = turns_lot lot s.last || stores_io (tokens_lot lot) s.act

abbrev pub posts : ℕ → Step → Bool
posts b s = stores_io (sends b) s.act

-- the steps up to the first of a test, and with it; none where there is no such step
abbrev pub upto : (Step → Bool) → List Step → List Step
upto p [] = []
upto p (s ∷ rest) = if p s then s ∷ [] else (if list_any p rest then s ∷ upto p rest else [])

-- the last of them settles an area: it is one that is allocated
abbrev pub is_settling : LotId → Option Step → Bool
is_settling lot None = false
is_settling lot (Some s) = settles_lot lot s.last

abbrev pub settling : LotId → List Step → Bool
settling lot rest = is_settling lot (find (ends lot) rest)

-- ---- entries to come, without bytes

-- a fence that waits is told as a marker of its whole sets: no entry of a queue is that
abbrev pub op_coming : HartOp → List Entry
op_coming (hart.Load span kind) = []
op_coming (hart.Store span kind bytes) = entries.Store span [] kind ∷ []
op_coming (hart.Cbo op block) = entries.Cbo block op ∷ []
op_coming (hart.Fence pred succ) = (if marks pred succ then marker pred succ else entries.Mark pred succ) ∷ []
op_coming (hart.IoLoad chan off width) = []
op_coming (hart.IoStore target) = io_entry target ∷ []
op_coming (hart.Mark pred succ) = marker pred succ ∷ []

abbrev pub act_coming : Act → List Entry
act_coming (acts.Op op) = op_coming op
act_coming (acts.Claim chan) = []
act_coming (acts.Poll chan) = []
act_coming (acts.Take buf) = []

-- FENCE iorw, iorw
abbrev pub is_full : Entry → Bool
is_full (entries.Mark pred succ) = pred == 15 && succ == 15
is_full (entries.Store span bytes kind) = false
is_full (entries.Cbo block op) = false
is_full (entries.Reg chan off width value) = false
is_full (entries.Mail buf to) = false
is_full (entries.Lend label first count) = false

-- a token of mapping n
abbrev pub token : MapId → Entry
token n = entries.Lend n.label n.entry 1

abbrev pub names : MapId → Entry → Bool
names n (entries.Lend label first count) = label.0 == n.label.0 && (nat_le first n.entry && nat_lt n.entry (first + count))
names n (entries.Store span bytes kind) = false
names n (entries.Cbo block op) = false
names n (entries.Reg chan off width value) = false
names n (entries.Mail buf to) = false
names n (entries.Mark pred succ) = false

-- a full fence with which the lot is the device's stands for a token behind it
abbrev pub step_coming : MapId → LotId → Step → List Entry
step_coming n lot s = act_coming s.act ++ (if gives_lot lot s.last then token n ∷ [] else [])

abbrev pub coming : MapId → LotId → List Step → List Entry
coming n lot rest = flat_map (step_coming n lot) (upto (ends lot) rest)

-- the same up to a message
abbrev pub sending : ℕ → List Step → List Entry
sending b rest = flat_map (λ s. act_coming s.act) (upto (posts b) rest)

-- a message of the buffer
abbrev pub is_mail : ℕ → Entry → Bool
is_mail b (entries.Mail buf to) = buf == b
is_mail b (entries.Store span bytes kind) = false
is_mail b (entries.Cbo block op) = false
is_mail b (entries.Reg chan off width value) = false
is_mail b (entries.Lend label first count) = false
is_mail b (entries.Mark pred succ) = false
