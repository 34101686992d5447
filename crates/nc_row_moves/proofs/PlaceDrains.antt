-- What a row says of one place, after an entry drained.
use Rattle.std.specs.Prelude.{Option, Some, None, ◌/◌, unwrap_or, remove}
use Rattle.std.specs.List.{list_any}
use Rattle.std.proofs.Common.{◌≡◌, ◌≢◌, ◌⊎◌, ℕ, ◌<◌, Bool, true, false, List, length, refl, sym, ap, ◌∙◌, inl, inr, subst}
use Rattle.std.proofs.lemmas.Bool.{cases_eq, cases_Bool, both_ways}
use Rattle.nc_num.specs.Memory.{byte}
use Rattle.nc_queue.specs.Entries.{entry_gives, gives_in, AllFit}
use Rattle.nc_queue.specs.Rules.{gives}
use Rattle.nc_queue.specs.declared.entry.Entry.{Entry}
use Rattle.nc_queue.proofs.GivesLaws.{entry_gives-none}
use Rattle.nc_queue.proofs.TestLaws.{none_at}
use Rattle.nc_rules.specs.Machine.{MachineState, queue_of}
use Rattle.nc_rules.specs.Calls.{leaving, drain_next}
use Rattle.nc_rules.specs.Sound.{IsMachine}
use Rattle.nc_calls.specs.PlaceLaws.{FreshAt, NotHeld, KeepsCoherence, Drains, may_leave_stale_copy}
use Rattle.nc_rules.specs.View.{middle, view}
use Rattle.nc_calls.proofs.DrainPlaces.{drain_is}
use Rattle.nc_calls.proofs.SoundDrain.{shape_drain}
use Rattle.nc_rows.specs.Places.{given, ThreadRow, QuietRow, PoolRow, CalmRow, OpenRow, Alone}
use Rattle.nc_rows.proofs.PlaceFrames.{view_is}
use Rattle.nc_row_moves.specs.Laws.{IsDrain}

-- entry i, e, of hart h's queue leaves, and k is the machine after it
pub record Leaves (m k : MachineState) (h i : ℕ) (e : Entry) : Type 0 where
  pub drain : IsDrain m h i e
  pub drains : Drains m k h i e
  pub size : k.size ≡ m.size

pub leaves : (m : MachineState) (h i : ℕ) (e : Entry) → IsDrain m h i e → Leaves m (drain_next m h i) h i e
leaves m h i e is = record { drain = is; drains = drain_is m h i e is.sound is.hart is.out; size = (shape_drain m h i is.sound is.hart).size }

-- what the draining hart's queue does not give, the entry does not
pub not_given : (m k : MachineState) (h i : ℕ) (e : Entry) (x : ℕ) → Leaves m k h i e → given m h x ≡ None → entry_gives m.size e x ≡ None
not_given m k h i e x l none = entry_gives-none m.size (queue_of m h) i e x none l.drains.queues.stood

pub still_none : (m k : MachineState) (h i : ℕ) (e : Entry) (g x : ℕ) → Leaves m k h i e → given m g x ≡ None → given k g x ≡ None
still_none m k h i e g x l none = l.drains.queues.silent g x none

pub quiet_drained : (m k : MachineState) (h i : ℕ) (e : Entry) (g x : ℕ) → Leaves m k h i e → KeepsCoherence m e x → QuietRow g m x → QuietRow g k x
quiet_drained m k h i e g x l loses row = record {
  fresh = ((l.drains.places x).fresh loses row.fresh).0;
  others = λ j ne. still_none m k h i e j x l (row.others j ne);
}

pub thread_drained : (m k : MachineState) (h i : ℕ) (e : Entry) (g v x : ℕ) → Leaves m k h i e → KeepsCoherence m e x → ThreadRow g v m x → ThreadRow g v k x
thread_drained m k h i e g v x l loses row = record {
  shows = elim (cases_eq g h) [
    | inl same ↦ ap (λ (j : ℕ). view k j x) same ∙ (l.drains.places x).own_view loses row.quiet.fresh ∙ ap (λ (j : ℕ). view m j x) (sym same) ∙ row.shows
    | inr ne ↦ (l.drains.places x).other_views loses row.quiet.fresh g ne (not_given m k h i e x l (row.quiet.others h (λ is. ne (sym is)))) ∙ row.shows
  ];
  quiet = quiet_drained m k h i e g x l loses row.quiet;
}

pub pool_drained : (m k : MachineState) (h i : ℕ) (e : Entry) (v x : ℕ) → Leaves m k h i e → PoolRow v m x → PoolRow v k x
pool_drained m k h i e v x l row = record {
  both = (l.drains.places x).both v (not_given m k h i e x l (row.none h)) row.both;
  none = λ g. still_none m k h i e g x l (row.none g);
}

pub calm_drained : (m k : MachineState) (h i : ℕ) (e : Entry) (x : ℕ) → Leaves m k h i e → CalmRow m x → CalmRow k x
calm_drained m k h i e x l row =
    let kept = pool_drained m k h i e (byte m.cache.ram x) x l row in subst (λ (v : ℕ). PoolRow v k x) (sym kept.both.memory) kept

-- an entry of a test that a queue has not
pub not_there : (m k : MachineState) (h i : ℕ) (e : Entry) (p : Entry → Bool) → Leaves m k h i e → list_any p (queue_of m h) ≡ false → p e ≡ false
not_there m k h i e p l none = none_at p (queue_of m h) i e none l.drains.queues.stood

pub open_drained : (m k : MachineState) (h i : ℕ) (e : Entry) (v x : ℕ) → Leaves m k h i e → OpenRow v m x → OpenRow v k x
open_drained m k h i e v x l row =
    let after = (l.drains.places x).clear (not_there m k h i e (gives_in m.size (x / m.size)) l (row.none h)) row.clear in
    record {
      clear = after.0;
      memory = after.1 ∙ row.memory;
      none = λ g. rw l.size (l.drains.queues.none (gives_in m.size (x / m.size)) g (row.none g));
    }

pub alone_drained : (m k : MachineState) (h i : ℕ) (e : Entry) (g x : ℕ) → Leaves m k h i e → Alone g m x → Alone g k x
alone_drained m k h i e g x l alone = λ j ne. rw l.size (l.drains.queues.none (gives_in m.size (x / m.size)) j (alone j ne))
