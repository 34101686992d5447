-- The world after an event that may happen, and the machine's harts and boxes after each of its calls.
use Rattle.std.specs.Prelude.{Option, Some, None, Bool, true, false, ◌<◌, if◌then◌else◌, slice_set, slice_index_or}
use Rattle.std.proofs.Common.{◌≡◌, ◌≢◌, ℕ, List, length, refl, sym, ap, subst}
use Rattle.std.proofs.lemmas.List.{get_or-set_same}
use Rattle.nc_num.specs.declared.names.HartNo.{HartNo}
use Rattle.nc_model.specs.declared.touches.Touch.{Touch}
use Rattle.nc_plan.specs.declared.ops.HartOp.{HartOp}
use Rattle.nc_plan.specs.declared.ops.HartOp.TheVariants as hart
use Rattle.nc_hart.specs.HartState.{HartState}
use Rattle.nc_hart.specs.Issue.{entry_of, issued, pushed}
use Rattle.nc_scen.specs.declared.events.Event.{Event}
use Rattle.nc_rules.specs.Machine.{MachineState, hart_of, queue_of, with_hart, with_cache, with_box}
use Rattle.nc_rules.specs.Calls.{cache_loaded, has_loaded, issue_next, claimed_by, claim_next, may_take, take_next, may_fill, fill_next, evict_next, chan_read_next, chan_write_next}
use Rattle.nc_rules.specs.Machine.{grantee_of}
use Rattle.nc_rules.specs.View.{bytes_seen}
use Rattle.nc_rules.specs.Driver.{DriverState}
use Rattle.nc_rules.specs.World.{WorldState, no_driver, owners_moved, with_moves}
use Rattle.nc_rules.specs.Events.{enabled}
use Rattle.nc_rules.specs.Outcomes.{Outcome, outcome}
use Rattle.nc_rules.specs.Next.{touched_by, performed, counted, next}
use Rattle.nc_calls.proofs.MachineParts.{hart_here, hart_away}

-- the world after an outcome
pub record Comes (w n : WorldState) (o : Outcome) : Type 0 where
  pub machine : n.machine ≡ o.machine
  pub drivers : n.drivers ≡ o.drivers
  pub owners : n.owners ≡ owners_moved w.owners o.moves.transfers

touched : (w v : WorldState) (o : Outcome) (t : Option Touch) → v.machine ≡ o.machine → v.drivers ≡ o.drivers → v.owners ≡ owners_moved w.owners o.moves.transfers → Comes w (counted (touched_by v t)) o
touched w v o None m d k = record { machine = m; drivers = d; owners = k }
touched w v o (Some t) m d k = record { machine = m; drivers = d; owners = k }

pub comes : (w : WorldState) (e : Event) → enabled w e ≡ true → Comes w (next w e) (outcome w e)
unfolding next performed
comes w e en =
    let o = outcome w e in
    subst (λ (t : Bool). Comes w (if t then counted (performed w e) else w) (outcome w e)) (sym en)
    (touched w (with_moves (record w { machine = (outcome w e).machine; drivers = (outcome w e).drivers; slots = (outcome w e).slots }) (outcome w e).moves) (outcome w e) (outcome w e).touch refl refl refl)

-- ---- drivers

pub driver_here : (ds : List DriverState) (h : ℕ) (d : DriverState) → h < length ds → slice_index_or (slice_set ds h d) h no_driver ≡ d
driver_here ds h d lt = get_or-set_same ds h d no_driver lt

-- ---- the machine's calls

-- the harts and the boxes stay
pub record SameHarts (m n : MachineState) : Type 0 where
  pub harts : n.harts ≡ m.harts
  pub boxes : n.boxes ≡ m.boxes

pub same_harts : (m : MachineState) → SameHarts m m
same_harts m = record { harts = refl; boxes = refl }

if_same : (m n : MachineState) (t : Bool) → SameHarts m n → SameHarts m (if t then n else m)
if_same m n true h = h
if_same m n false h = same_harts m

pub fill_same : (m : MachineState) (h b : ℕ) → SameHarts m (fill_next m h b)
unfolding fill_next
fill_same m h b = if_same m _ (may_fill m h b) (record { harts = refl; boxes = refl })

pub evict_same : (m : MachineState) (h b : ℕ) → SameHarts m (evict_next m h b)
unfolding evict_next
evict_same m h b = record { harts = refl; boxes = refl }

pub read_same : (m : MachineState) (c : ℕ) → SameHarts m (chan_read_next m c)
unfolding chan_read_next
read_same m c = record { harts = refl; boxes = refl }

pub write_same : (m : MachineState) (c : ℕ) → SameHarts m (chan_write_next m c)
unfolding chan_write_next
write_same m c = record { harts = refl; boxes = refl }

claimed_same : (m : MachineState) (h : HartNo) (c : ℕ) (g : Option HartNo) → SameHarts m (claimed_by m h c g)
claimed_same m h c None = record { harts = refl; boxes = refl }
claimed_same m h c (Some g) = record { harts = refl; boxes = refl }

pub claim_same : (m : MachineState) (h : HartNo) (c : ℕ) → SameHarts m (claim_next m h c)
unfolding claim_next
claim_same m h c = claimed_same m h c (grantee_of m c)

-- a take empties the box
if_harts : (m n : MachineState) (t : Bool) → n.harts ≡ m.harts → (if t then n else m).harts ≡ m.harts
if_harts m n true h = h
if_harts m n false h = refl

pub take_harts : (m : MachineState) (h buf : ℕ) → (take_next m h buf).harts ≡ m.harts
unfolding take_next
take_harts m h buf = if_harts m (with_box m buf None) (may_take m h buf) refl

pub take_boxes : (m : MachineState) (h buf : ℕ) → may_take m h buf ≡ true → (take_next m h buf).boxes ≡ slice_set m.boxes buf None
unfolding take_next
take_boxes m h buf e = ap (λ (t : Bool). (if t then with_box m buf None else m).boxes) e

-- an operation of a hart puts its entry in the hart's queue
pub record Issues (m n : MachineState) (h : ℕ) (op : HartOp) : Type 0 where
  pub own : queue_of n h ≡ (pushed (hart_of m h).queue (entry_of (hart_of m h).last op)).entries
  pub others : (g : ℕ) → g ≢ h → hart_of n g ≡ hart_of m g
  pub boxes : n.boxes ≡ m.boxes

issued_is : (m : MachineState) (h : ℕ) (op : HartOp) → h < length m.harts → Issues m (with_hart m h (issued (hart_of m h) op)) h op
unfolding issued
issued_is m h op lt = record {
  own = ap (λ (s : HartState). s.queue.entries) (hart_here m h h (issued (hart_of m h) op) lt refl);
  others = λ g ne. hart_away m h g (issued (hart_of m h) op) ne;
  boxes = refl;
}

pub issue_is : (m : MachineState) (h : ℕ) (op : HartOp) → h < length m.harts → Issues m (issue_next m h op) h op
unfolding issue_next
issue_is m h (hart.Load span kind) lt =
    let s = has_loaded (hart_of m h) (bytes_seen m h kind span) in
    let c = with_cache m (cache_loaded m h span kind) in
    record {
      own = ap (λ (s : HartState). s.queue.entries) (hart_here (with_cache m (cache_loaded m h span kind)) h h (has_loaded (hart_of m h) (bytes_seen m h kind span)) lt refl);
      others = λ g ne. hart_away (with_cache m (cache_loaded m h span kind)) h g (has_loaded (hart_of m h) (bytes_seen m h kind span)) ne;
      boxes = refl;
    }
issue_is m h (hart.IoLoad chan off width) lt = record { own = refl; others = λ g ne. refl; boxes = refl }
issue_is m h (hart.Store span kind bytes) lt = issued_is m h (hart.Store span kind bytes) lt
issue_is m h (hart.Cbo op block) lt = issued_is m h (hart.Cbo op block) lt
issue_is m h (hart.Fence pred succ) lt = issued_is m h (hart.Fence pred succ) lt
issue_is m h (hart.IoStore target) lt = issued_is m h (hart.IoStore target) lt
issue_is m h (hart.Mark pred succ) lt = issued_is m h (hart.Mark pred succ) lt
