-- Tokens of light fences: each that is queued, or is still to be queued, is of a lot that is lent, and the lot stays until
-- the token is out of the queue. This project's own.
use Rattle.std.specs.Prelude.{ℕ, ◌≡◌, ◌⊎◌, ◌==◌, ◌&&◌, Bool, true, false, List, [], ◌∷◌, Option, Some, None}
use Rattle.std.specs.List.{list_any}
use Rattle.nc_plan.specs.Plans.{In}
use Rattle.nc_queue.specs.declared.entry.Entry.{Entry}
use Rattle.nc_queue.specs.declared.entry.Entry.TheVariants as entries
use Rattle.nc_plan.specs.declared.ops.HartOp.{HartOp}
use Rattle.nc_plan.specs.declared.ops.HartOp.TheVariants as hart
use Rattle.nc_plan.specs.declared.ops.IoTarget.{IoTarget}
use Rattle.nc_plan.specs.declared.ops.IoTarget.TheVariants as io
use Rattle.nc_rules.specs.declared.lots.Lot.{Lot}
use Rattle.nc_rules.specs.declared.lots.LotId.{LotId}
use Rattle.nc_rules.specs.declared.steps.Act.{Act}
use Rattle.nc_rules.specs.declared.steps.Act.TheVariants as acts
use Rattle.nc_rules.specs.declared.steps.Step.{Step}
use Rattle.nc_rules.specs.Lots.{is_lot, lot_id}
use Rattle.nc_rules.specs.Machine.{queue_of}
use Rattle.nc_rules.specs.Turns.{lots_after_both}
use Rattle.nc_rules.specs.World.{WorldState, driver_of}
use Rattle.nc_holds.specs.Held.{AreLent}

-- a lot of this name is there, and is lent
pub record HasLent (lots : List Lot) (id : LotId) : Type 0 where
  pub there : list_any (is_lot id) lots ≡ true
  pub lent : AreLent lots id

-- the name of the lot whose token an entry, or a step, is
abbrev pub token_of : Entry → Option LotId
token_of (entries.Lend label first count) = Some (lot_id label first)
token_of (entries.Store span bytes kind) = None
token_of (entries.Cbo block op) = None
token_of (entries.Reg chan off width value) = None
token_of (entries.Mail buf to) = None
token_of (entries.Mark pred succ) = None

abbrev pub token_to : IoTarget → Option LotId
token_to (io.Lend label first count) = Some (lot_id label first)
token_to (io.Reg chan off width value) = None
token_to (io.Mail buf to) = None

abbrev pub token_op : HartOp → Option LotId
token_op (hart.IoStore target) = token_to target
token_op (hart.Load span kind) = None
token_op (hart.Store span kind bytes) = None
token_op (hart.Cbo op block) = None
token_op (hart.Fence pred succ) = None
token_op (hart.IoLoad chan off width) = None
token_op (hart.Mark pred succ) = None

abbrev pub token_act : Act → Option LotId
token_act (acts.Op op) = token_op op
token_act (acts.Claim chan) = None
token_act (acts.Poll chan) = None
token_act (acts.Take buf) = None

-- a step is made only while no entry of class O is queued
abbrev pub waits_op : HartOp → Bool
waits_op (hart.Fence pred succ) = pred == 15 && succ == 15
waits_op (hart.Load span kind) = false
waits_op (hart.Store span kind bytes) = false
waits_op (hart.Cbo op block) = false
waits_op (hart.IoLoad chan off width) = false
waits_op (hart.IoStore target) = false
waits_op (hart.Mark pred succ) = false

abbrev pub waits_act : Act → Bool
waits_act (acts.Op op) = waits_op op
waits_act (acts.Claim chan) = true
waits_act (acts.Poll chan) = true
waits_act (acts.Take buf) = true

-- the lot of a queued token is lent, and stays so along the rest of a plan until a step waits for the token
abbrev pub TokenStays : LotId → List Lot → List Step → Type 0
TokenStays id lots [] = HasLent lots id
TokenStays id lots (s ∷ rest) = HasLent lots id × ((waits_act s.act ≡ true) ⊎ TokenStays id (lots_after_both s.first s.last lots) rest)

-- the same of each token that the rest is still to queue
abbrev pub TokensFollow : List Lot → List Step → Type 0
TokensFollow lots [] = Unit {0}
TokensFollow lots (s ∷ rest) =
    ((id : LotId) → token_act s.act ≡ Some id → TokenStays id (lots_after_both s.first s.last lots) rest) × TokensFollow (lots_after_both s.first s.last lots) rest

-- of hart h
pub record TokensAgree (w : WorldState) (h : ℕ) : Type 0 where
  pub queued : (e : Entry) (id : LotId) → In e (queue_of w.machine h) → token_of e ≡ Some id → TokenStays id (driver_of w h).lots (driver_of w h).rest
  pub to_queue : TokensFollow (driver_of w h).lots (driver_of w h).rest
  -- with light fences alone
  pub light : (e : Entry) (id : LotId) → In e (queue_of w.machine h) → token_of e ≡ Some id → (driver_of w h).fixed.light ≡ true
