-- The machine behind a claim: bytes and queues stay, and so do the channels of other harts.
use Rattle.std.specs.Prelude.{All, true}
use Rattle.std.specs.List.{list_any}
use Rattle.std.proofs.Common.{◌≡◌, ℕ, List, sym, ap, ◌∙◌, subst}
use Rattle.nc_num.specs.Memory.{byte}
use Rattle.nc_num.specs.Places.{covers}
use Rattle.nc_num.specs.declared.names.HartNo.{HartNo}
use Rattle.nc_num.specs.declared.places.Span.{Span}
use Rattle.nc_queue.specs.declared.entry.Entry.{Entry as QueueEntry}
use Rattle.nc_hart.specs.HartState.{HartState}
use Rattle.nc_model.specs.declared.owners.Owner.{Owner}
use Rattle.nc_model.specs.declared.owners.Owner.TheVariants.{Pool}
use Rattle.nc_ops.specs.declared.ops.Op.{Op}
use Rattle.nc_scen.specs.Regions.{slots_of}
use Rattle.nc_scen.specs.declared.scenario.Scenario.{Scenario}
use Rattle.nc_rules.specs.declared.steps.Step.{Step}
use Rattle.nc_rules.specs.Machine.{MachineState, no_hart, queue_of}
use Rattle.std.specs.Prelude.{slice_index_or}
use Rattle.nc_rules.specs.EventTouches.{owner_of}
use Rattle.nc_rules.specs.World.{WorldState}
use Rattle.nc_calls.specs.MachineLaws.{SameShape}
use Rattle.nc_calls.specs.PlaceLaws.{Stays}
use Rattle.nc_rows.specs.Ahead.{is_full}
use Rattle.nc_rows.specs.Parts.{IsQueued}
use Rattle.nc_rows.specs.Places.{CalmRow}
use Rattle.nc_rows.specs.Rows.{Book}
use Rattle.nc_flatness.specs.Books.{book_of}
use Rattle.nc_flatness.specs.Flatness.{IsUnseen, BytesStand}
use Rattle.nc_flat_scripts.proofs.accesses.ActRows.{calm_at, stays_row}
use Rattle.nc_flat_scripts.proofs.copies.OtherCopies.{KeepsCopy}
use Rattle.nc_flat_starts.proofs.turning.Frames.{GoesBy}
use Rattle.nc_flat_claims.proofs.Claimings.{IsClaiming, its_queued}

-- no byte, no queue and no channel of another hart changes
pub record IsClaimNext (w : WorldState) (m : MachineState) : Type 0 where
  pub shape : SameShape w.machine m
  pub stays : Stays w.machine m
  pub keeps : (k : HartNo) → KeepsCopy w.machine m k.0

pub claim_goes_by : (sc : Scenario) (f : List ℕ) (w : WorldState) (h : HartNo) (m : MachineState) → BytesStand sc f w → IsClaimNext w m → GoesBy w h m
claim_goes_by sc f w h m s is = record {
  size = is.shape.size;
  pool = is.shape.pool;
  queues = λ g ne. is.stays.queues g;
  lasts = λ g ne. ap (λ (hs : List HartState). (slice_index_or hs g no_hart).last) is.stays.harts;
  unfenced = ap (list_any is_full) (is.stays.queues h.0) ∙ s.unfenced h.0;
  free = λ x over free. (is.stays.places x).line ∙ free;
  channels = λ c k granted ne. ((is.keeps k).channels c granted, (is.keeps k).granted c granted);
}

pub claim_queued : (sc : Scenario) (f : List ℕ) (w : WorldState) (h : HartNo) (o : Op) (s : Step) (rest : List Step) (m : MachineState) (c : Book) (owner : ℕ → Owner) → IsClaiming sc f w h o s rest → IsClaimNext w m → All (IsQueued c owner m.pool m.size h.0) (queue_of m h.0)
claim_queued sc f w h o s rest m c owner k is =
    subst (λ (q : List QueueEntry). All (IsQueued c owner m.pool m.size h.0) q) (sym (is.stays.queues h.0))
    (subst (λ (p : Span). All (IsQueued c owner p m.size h.0) (queue_of w.machine h.0)) (sym is.shape.pool)
    (subst (λ (z : ℕ). All (IsQueued c owner w.machine.pool z h.0) (queue_of w.machine h.0)) (sym is.shape.size) (its_queued sc f w h o s rest c owner k)))

-- a place of a slot that no channel sees stays as it is
pub claim_calm : (sc : Scenario) (f : List ℕ) (w : WorldState) (m : MachineState) (z : ℕ) → BytesStand sc f w → IsClaimNext w m → covers (slots_of sc) z ≡ true → IsUnseen (book_of w) (owner_of w) (slots_of sc) z → CalmRow m z
claim_calm sc f w m z s is over unseen = calm_at m (byte w.machine.cache.ram z) z (stays_row (book_of w) Pool (byte w.machine.cache.ram z) w.machine m z is.shape is.stays (s.calm z over unseen))
