-- What an operation of a hart records, and the places that it names.
use Rattle.std.proofs.Common.{◌≡◌, ℕ, Bool, true, false, [], ◌∷◌, refl, ap}
use Rattle.std.specs.Prelude.{if◌then◌else◌}
use Rattle.nc_num.specs.declared.names.HartNo.{HartNo}
use Rattle.nc_plan.specs.declared.ops.HartOp.{HartOp}
use Rattle.nc_plan.specs.declared.ops.HartOp.TheVariants.{Load, Store, Cbo, Fence, IoLoad, IoStore, Mark}
use Rattle.nc_hart.specs.Issue.{marks}
use Rattle.nc_rules.specs.declared.answers.Issued.TheVariants.{Queued, Passed}
use Rattle.nc_rules.specs.declared.records.Record.{Record}
use Rattle.nc_rules.specs.declared.records.Record.TheVariants as records
use Rattle.nc_rules.specs.Machine.{MachineState, hart_of}
use Rattle.nc_rules.specs.Calls.{issue_answer}
use Rattle.nc_rules.specs.Records.{op_records, mark_record}
use Rattle.nc_rules.specs.Sound.{IsMachine, OpIsThere}
use Rattle.nc_log.specs.Logs.{OpHasPlace, IssuedHasPlaces, fence_record, issued_records}
use Rattle.nc_world.proofs.Transfers.{load_places, block_small}

fence_case : (h : HartNo) (pred succ : ℕ) (t : Bool) → (if t then mark_record h pred succ else records.Fence h pred succ) ≡ fence_record h pred succ (if t then Queued else Passed)
fence_case h pred succ true = refl
fence_case h pred succ false = refl

pub op_records_is : (m : MachineState) (h : HartNo) (by_script : Bool) (op : HartOp) → op_records m h by_script op ≡ issued_records m.size h by_script op (hart_of m h.0).last (issue_answer m h.0 op)
unfolding op_records
op_records_is m h by_script (Load span kind) = refl
op_records_is m h by_script (Store span kind bytes) = refl
op_records_is m h by_script (Cbo op block) = refl
op_records_is m h by_script (Fence pred succ) = ap (λ (r : Record). r ∷ []) (fence_case h pred succ (marks pred succ))
op_records_is m h by_script (IoLoad chan off width) = refl
op_records_is m h by_script (IoStore target) = refl
op_records_is m h by_script (Mark pred succ) = refl

-- ---- the places that it names

fence_places : (size : ℕ) (t : Bool) → IssuedHasPlaces size (if t then Queued else Passed)
fence_places size true = tt
fence_places size false = tt

pub issued_places : (m : MachineState) (h : HartNo) (op : HartOp) → IsMachine m → OpIsThere m h.0 op → IssuedHasPlaces m.size (issue_answer m h.0 op)
issued_places m h (Load span kind) is there = load_places m h.0 span kind is there.inside
issued_places m h (Store span kind bytes) is there = tt
issued_places m h (Cbo op block) is there = tt
issued_places m h (Fence pred succ) is there = fence_places m.size (marks pred succ)
issued_places m h (IoLoad chan off width) is there = tt
issued_places m h (IoStore target) is there = tt
issued_places m h (Mark pred succ) is there = tt

pub op_place : (m : MachineState) (h : HartNo) (op : HartOp) → IsMachine m → OpIsThere m h.0 op → OpHasPlace m.size op
op_place m h (Load span kind) is there = tt
op_place m h (Store span kind bytes) is there = tt
op_place m h (Cbo op block) is there = block_small m block.0 is there
op_place m h (Fence pred succ) is there = tt
op_place m h (IoLoad chan off width) is there = tt
op_place m h (IoStore target) is there = tt
op_place m h (Mark pred succ) is there = tt
