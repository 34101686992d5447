-- What is seen after a call, in short, and the order that the queues keep.
use Rattle.std.specs.Prelude.{Option, Some, None, Bool, true, false, slice_get, filter}
use Rattle.std.specs.List.{list_any}
use Rattle.std.proofs.Common.{◌≡◌, ◌≢◌, ℕ, ◌<◌, List, ◌∷◌, length, refl, inl, inr, ap, subst}
use Rattle.std.proofs.lemmas.Bool.{cases_eq, both_ways}
use Rattle.nc_num.specs.declared.places.Span.{Span}
use Rattle.nc_queue.specs.Entries.{is_w, is_o, is_wo}
use Rattle.nc_queue.specs.Rules.{gives}
use Rattle.nc_queue.specs.Laws.{Covered}
use Rattle.nc_queue.specs.declared.entry.Entry.{Entry}
use Rattle.nc_queue.proofs.DrainLaws.{outputs-drained}
use Rattle.nc_queue.proofs.FenceLaws.{covered-push, covered-last, covered-drained, covered-empties}
use Rattle.nc_queue.proofs.GivesLaws.{entry_gives-none}
use Rattle.nc_queue.proofs.TestLaws.{none_at}
use Rattle.nc_plan.specs.declared.ops.HartOp.{HartOp}
use Rattle.nc_hart.specs.Issue.{entry_of}
use Rattle.nc_pdma.specs.declared.channel.ChanStep.{ChanStep}
use Rattle.nc_pdma.specs.declared.channel.ChanStep.TheVariants.{Moved}
use Rattle.nc_rules.specs.Machine.{MachineState, hart_of, queue_of}
use Rattle.nc_rules.specs.View.{view}
use Rattle.nc_rules.specs.Calls.{leaving, issue_next, drain_next, chan_write_step, chan_write_next}
use Rattle.nc_rules.specs.Sound.{IsMachine}
use Rattle.nc_calls.specs.PlaceLaws.{FreshAt, KeepsCoherence, may_leave_stale_copy, WritesSpan, RamAfter}
use Rattle.nc_calls.specs.CallLaws.{PartsNone, ViewsStay, QueuesKeepOrder}
use Rattle.nc_calls.proofs.IssuePlaces.{load_is, push_is}
use Rattle.nc_calls.proofs.DrainPlaces.{drain_is, drain_none}
use Rattle.nc_calls.proofs.StepPlaces.{fill_views, evict_is, chan_write_ram}

-- ---- what is seen

pub loses_none : (m : MachineState) (h i x : ℕ) (e : Entry) → slice_get (queue_of m h) i ≡ Some e → PartsNone m h x → KeepsCoherence m e x
loses_none m h i x e stood (inl none) = λ is. absurd (both_ways (may_leave_stale_copy m.size e x) (none_at (λ a. may_leave_stale_copy m.size a x) (queue_of m h) i e none stood) is)
loses_none m h i x e stood (inr free) = λ is. free

own_drained : (m : MachineState) (h i x : ℕ) (o : Option Entry) → IsMachine m → h < length m.harts → FreshAt m x → PartsNone m h x → leaving m h i ≡ o → view (drain_next m h i) h x ≡ view m h x
own_drained m h i x None is lt f together out = ap (λ (n : MachineState). view n h x) (drain_none m h i out)
own_drained m h i x (Some e) is lt f together out = let d = drain_is m h i e is lt out in (d.places x).own_view (loses_none m h i x e d.queues.stood together) f

other_drained : (m : MachineState) (h i g x : ℕ) (o : Option Entry) → IsMachine m → h < length m.harts → FreshAt m x → PartsNone m h x → g ≢ h → gives m.size (queue_of m h) x ≡ None → leaving m h i ≡ o
    → view (drain_next m h i) g x ≡ view m g x
other_drained m h i g x None is lt f together ne none out = ap (λ (n : MachineState). view n g x) (drain_none m h i out)
other_drained m h i g x (Some e) is lt f together ne none out =
    let d = drain_is m h i e is lt out in
    (d.places x).other_views (loses_none m h i x e d.queues.stood together) f g ne (entry_gives-none m.size (queue_of m h) i e x none d.queues.stood)

pub writes : (m : MachineState) (c : ℕ) (span : Span) (bytes : List ℕ) (done : Bool) → IsMachine m → c < 4 → chan_write_step m c ≡ Moved span bytes done → WritesSpan m (chan_write_next m c) span bytes
writes m c span bytes done is lt told = subst (λ (t : ChanStep). RamAfter m (chan_write_next m c) t) told (chan_write_ram m c is lt)

pub views_stay : ViewsStay
views_stay = record {
  of_drain = λ m h i x is lt f together. own_drained m h i x (leaving m h i) is lt f together refl;
  of_drain_others = λ m h i g x is lt f together ne none. other_drained m h i g x (leaving m h i) is lt f together ne none refl;
  of_load = λ m h span kind g x is lt piece. (load_is m h span kind is lt piece).views g x;
  of_fill = λ m h b g x is by. fill_views m h b g x is by.block;
  of_evict = λ m h b g x is by f. ((evict_is m h b is by.block).places x).views f g;
  of_write = λ m c span bytes done x is lt told from to. (writes m c span bytes done is lt told).here x from to;
  of_write_beside = λ m c span bytes done x is lt told beside. (writes m c span bytes done is lt told).away x beside;
}

-- ---- order

covered_by : (m : MachineState) (h i g : ℕ) (p t : Entry → Bool) (o : Option Entry) → IsMachine m → h < length m.harts → ((a : Entry) → p a ≡ true → is_w a ≡ true) → leaving m h i ≡ o
    → Covered p is_wo t (queue_of m g) → Covered p is_wo t (queue_of (drain_next m h i) g)
covered_by m h i g p t None is lt all out cover = rw (drain_none m h i out) cover
covered_by m h i g p t (Some e) is lt all out cover =
    let d = drain_is m h i e is lt out in
    elim (cases_eq g h) [
      | inl own ↦ rw (own, d.queues.own) (covered-drained m.size p t (queue_of m h) i e all (subst (λ (k : ℕ). Covered p is_wo t (queue_of m k)) own cover) out)
      | inr ne ↦ rw (d.queues.others g ne) cover
    ]

emptied_by : (m : MachineState) (h i : ℕ) (e : Entry) (p t : Entry → Bool) → IsMachine m → h < length m.harts → ((a : Entry) → p a ≡ true → is_w a ≡ true) → Covered p is_wo t (queue_of m h) → leaving m h i ≡ Some e → t e ≡ true → is_o e ≡ true
    → list_any p (queue_of (drain_next m h i) h) ≡ false
emptied_by m h i e p t is lt all cover out of output = rw ((drain_is m h i e is lt out).queues.own) (covered-empties m.size p t (queue_of m h) i e all cover out of output)

covered_pushed : (m : MachineState) (h g : ℕ) (op : HartOp) (e : Entry) (p t : Entry → Bool) → h < length m.harts → entry_of (hart_of m h).last op ≡ Some e → p e ≡ false → Covered p is_wo t (queue_of m g)
    → Covered p is_wo t (queue_of (issue_next m h op) g)
covered_pushed m h g op e p t lt of other cover =
    let d = push_is m h op e lt of in
    elim (cases_eq g h) [
      | inl own ↦ rw (own, d.queues.own) (covered-push p is_wo t (queue_of m h) e (subst (λ (k : ℕ). Covered p is_wo t (queue_of m k)) own cover) other)
      | inr ne ↦ rw (d.queues.others g ne) cover
    ]

covered_marked : (m : MachineState) (h : ℕ) (op : HartOp) (e : Entry) (p t : Entry → Bool) → h < length m.harts → entry_of (hart_of m h).last op ≡ Some e → list_any t (queue_of m h) ≡ false → is_wo e ≡ true → p e ≡ false
    → Covered p is_wo t (queue_of (issue_next m h op) h)
covered_marked m h op e p t lt of none mark other = rw ((push_is m h op e lt of).queues.own) (covered-last p is_wo t (queue_of m h) e none mark other)

in_order : (m : MachineState) (h i : ℕ) (e : Entry) → IsMachine m → h < length m.harts → leaving m h i ≡ Some e → is_o e ≡ true → filter is_o (queue_of m h) ≡ e ∷ filter is_o (queue_of (drain_next m h i) h)
in_order m h i e is lt out output = rw ((drain_is m h i e is lt out).queues.own) (outputs-drained m.size (queue_of m h) i e out output)

pub queues_keep_order : QueuesKeepOrder
queues_keep_order = record {
  covered = λ m h i g p t is lt all cover. covered_by m h i g p t (leaving m h i) is lt all refl cover;
  emptied = emptied_by;
  pushed = covered_pushed;
  marked = covered_marked;
  in_order = in_order;
}
