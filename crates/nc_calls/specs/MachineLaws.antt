-- What each call of the machine keeps of it as a whole.
use Rattle.std.specs.Prelude.{ℕ, ◌≡◌, ◌<◌, true, length}
use Rattle.nc_num.specs.declared.names.HartNo.{HartNo}
use Rattle.nc_plan.specs.declared.ops.HartOp.{HartOp}
use Rattle.nc_scen.specs.declared.scenario.Scenario.{Scenario}
use Rattle.nc_scen.specs.Accepted.{IsAccepted}
use Rattle.nc_rules.specs.Machine.{MachineState}
use Rattle.nc_rules.specs.Calls.{may_issue, issue_next, drain_next, fill_next, evict_next, chan_read_next, chan_write_next, claim_next, take_next}
use Rattle.nc_rules.specs.Sound.{IsBlockIn, IsMachine, OpIsThere}
use Rattle.nc_rules.specs.Start.{first_machine}

-- the sizes, the pool, and how many places, harts, channels and boxes there are
pub record SameShape (m n : MachineState) : Type 0 where
  pub size : n.size ≡ m.size
  pub pool : n.pool ≡ m.pool
  pub ram : length n.cache.ram ≡ length m.cache.ram
  pub harts : length n.harts ≡ length m.harts
  pub channels : length n.channels ≡ length m.channels
  pub grantees : length n.grantees ≡ length m.grantees
  pub boxes : length n.boxes ≡ length m.boxes

-- the channels, their grants and the boxes
pub record SameDevices (m n : MachineState) : Type 0 where
  pub channels : n.channels ≡ m.channels
  pub grantees : n.grantees ≡ m.grantees
  pub boxes : n.boxes ≡ m.boxes

-- what an issue, and a fill or an eviction, are called with
pub record IsIssue (m : MachineState) (h : ℕ) (op : HartOp) : Type 0 where
  pub hart : h < length m.harts
  pub there : OpIsThere m h op
  pub may : may_issue m h op ≡ true

pub record IsMove (m : MachineState) (h b : ℕ) : Type 0 where
  pub hart : h < length m.harts
  pub block : IsBlockIn m.size (length m.cache.ram) b

-- a machine is sound at the start of an accepted scenario, and after each call
pub record MachineStaysSound : Type 0 where
  pub at_first : (sc : Scenario) → IsAccepted sc → IsMachine (first_machine sc)
  pub of_issue : (m : MachineState) (h : ℕ) (op : HartOp) → IsMachine m → IsIssue m h op → IsMachine (issue_next m h op)
  pub of_drain : (m : MachineState) (h i : ℕ) → IsMachine m → h < length m.harts → IsMachine (drain_next m h i)
  pub of_fill : (m : MachineState) (h b : ℕ) → IsMachine m → IsMove m h b → IsMachine (fill_next m h b)
  pub of_evict : (m : MachineState) (h b : ℕ) → IsMachine m → IsMove m h b → IsMachine (evict_next m h b)
  pub of_chan_read : (m : MachineState) (c : ℕ) → IsMachine m → c < 4 → IsMachine (chan_read_next m c)
  pub of_chan_write : (m : MachineState) (c : ℕ) → IsMachine m → c < 4 → IsMachine (chan_write_next m c)
  pub of_claim : (m : MachineState) (h : HartNo) (c : ℕ) → IsMachine m → h.0 < length m.harts → c < 4 → IsMachine (claim_next m h c)
  pub of_take : (m : MachineState) (h buf : ℕ) → IsMachine m → IsMachine (take_next m h buf)

-- no call changes the machine's shape
pub record CallsKeepShape : Type 0 where
  pub of_issue : (m : MachineState) (h : ℕ) (op : HartOp) → IsMachine m → IsIssue m h op → SameShape m (issue_next m h op)
  pub of_drain : (m : MachineState) (h i : ℕ) → IsMachine m → h < length m.harts → SameShape m (drain_next m h i)
  pub of_fill : (m : MachineState) (h b : ℕ) → IsMachine m → IsMove m h b → SameShape m (fill_next m h b)
  pub of_evict : (m : MachineState) (h b : ℕ) → IsMachine m → IsMove m h b → SameShape m (evict_next m h b)
  pub of_chan_read : (m : MachineState) (c : ℕ) → SameShape m (chan_read_next m c)
  pub of_chan_write : (m : MachineState) (c : ℕ) → IsMachine m → c < 4 → SameShape m (chan_write_next m c)
  pub of_claim : (m : MachineState) (h : HartNo) (c : ℕ) → SameShape m (claim_next m h c)
  pub of_take : (m : MachineState) (h buf : ℕ) → SameShape m (take_next m h buf)
