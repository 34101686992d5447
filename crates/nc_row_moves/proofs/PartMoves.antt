-- What holds beside the rows, after a drain, a fill and an eviction.
use Rattle.std.specs.Prelude.{Option, Some, None, ◌/◌, ◌==◌, ◌+◌, All, remove, slice_get}
use Rattle.std.proofs.Common.{◌≡◌, ◌≢◌, ◌⊎◌, ℕ, zero, suc, ◌<◌, Bool, true, false, List, [], ◌∷◌, length, refl, sym, ap, ◌∙◌, inl, inr, subst, arith}
use Rattle.std.proofs.lemmas.Bool.{cases_eq, cases_Bool, both_ways, eqb-true}
use Rattle.std.proofs.lemmas.List.Elements.{All-nil, All-cons, All-head, All-tail}
use Rattle.nc_num.specs.Places.{block_at, covers}
use Rattle.nc_num.specs.declared.places.Span.{Span}
use Rattle.nc_num.specs.declared.names.MapId.{MapId}
use Rattle.nc_num.specs.declared.names.MemType.TheVariants.{Pma, Nc, Io}
use Rattle.nc_env.specs.declared.CboOp.TheVariants as cbos
use Rattle.nc_queue.specs.Entries.{Fits}
use Rattle.nc_queue.specs.declared.entry.Entry.{Entry}
use Rattle.nc_queue.specs.declared.entry.Entry.TheVariants.{Store, Cbo, Reg, Mail, Lend, Mark}
use Rattle.nc_hart.specs.HartState.{HartState}
use Rattle.nc_model.proofs.Faults.{covers-from}
use Rattle.nc_model.specs.declared.owners.Owner.{Owner}
use Rattle.nc_model.specs.declared.owners.Owner.TheVariants.{Lending}
use Rattle.nc_rules.specs.Machine.{MachineState, hart_of, no_hart, queue_of}
use Rattle.nc_rules.specs.Calls.{drain_next, fill_next, evict_next}
use Rattle.nc_rules.specs.Sound.{IsMachine}
use Rattle.nc_calls.specs.MachineLaws.{SameShape, IsMove}
use Rattle.nc_calls.specs.PlaceLaws.{NotHeld, Moves, brings}
use Rattle.nc_calls.proofs.SoundDrain.{shape_drain}
use Rattle.nc_calls.proofs.SoundSteps.{shape_fill, shape_evict}
use Rattle.nc_calls.proofs.StepPlaces.{fill_is, fill_not_held, evict_is, evict_not_held}
use Rattle.nc_rows.specs.Ahead.{settling}
use Rattle.nc_rows.specs.Rows.{Loan, Book}
use Rattle.nc_rows.specs.Parts.{IsQueued, IsZeroed, Queued, Uncached, MayBeHeld, IsAllocating, LastIs, Lasts, rest_last}
use Rattle.nc_row_moves.specs.Laws.{IsDrain}
use Rattle.nc_row_moves.specs.Parts.{WholePool, PartsStay}
use Rattle.nc_row_moves.proofs.PlaceDrains.{Leaves, leaves}

All-gone : (P : Entry → Type 0) (q : List Entry) (i : ℕ) → All P q → All P (remove q i)
All-gone P [] zero all = All-nil P
All-gone P [] (suc i) all = All-nil P
All-gone P (e ∷ q) zero all = All-tail P e q all
All-gone P (e ∷ q) (suc i) all = All-cons P e (remove q i) (All-head P e q all) (All-gone P q i (All-tail P e q all))

All-here : (P : Entry → Type 0) (q : List Entry) (i : ℕ) (e : Entry) → All P q → slice_get q i ≡ Some e → P e
All-here P [] i e all is = absurd cc
All-here P (a ∷ q) zero e all is = let same : a ≡ e = cc in subst P same (All-head P a q all)
All-here P (a ∷ q) (suc i) e all is = All-here P q i e (All-tail P a q all) is

-- ---- queues

queued_drain : (a : Book) (owner : ℕ → Owner) (m : MachineState) (h i : ℕ) (e : Entry) → IsDrain m h i e → Queued a owner m → Queued a owner (drain_next m h i)
queued_drain a owner m h i e is queued = λ g.
    let l = leaves m h i e is in
    let shape = shape_drain m h i is.sound is.hart in
    rw (shape.pool, shape.size) (elim (cases_eq g h) [
      | inl same ↦ rw (same, l.drains.queues.own) (All-gone (IsQueued a owner m.pool m.size h) (queue_of m h) i (queued h))
      | inr ne ↦ rw (l.drains.queues.others g ne) (queued g)
    ])

queued_moved : (a : Book) (owner : ℕ → Owner) (m k : MachineState) (b : ℕ) → SameShape m k → Moves m k b → Queued a owner m → Queued a owner k
queued_moved a owner m k b shape moves queued = λ g. rw (shape.pool, shape.size, moves.queues g) (queued g)

-- ---- the pool

-- a store through the caches lies beside the pool, and with it its block
store_beside : (m : MachineState) (a : Book) (owner : ℕ → Owner) (h x : ℕ) (span : Span) (bytes : List ℕ) → WholePool m → Fits m.size (Store span bytes Pma) → covers m.pool x ≡ true → IsQueued a owner m.pool m.size h (Store span bytes Pma)
    → brings m.size (x / m.size) (Store span bytes Pma) ≡ true → ⊥
store_beside m a owner h x span bytes pool fits over queued is =
    let some = fits.some in
    let at : covers span span.at ≡ true = covers-from span span.at (omega arith) (omega (arith, some)) in
    both_ways (covers m.pool span.at) (queued span.at at) (pool.block x span.at over (sym (eqb-true (span.at / m.size) (x / m.size) is)))

held_by : (a : Book) (n : MapId) (l : Loan) (o : Option Loan) → o ≡ Some l → l.area ≡ true → settling l.lot (a.rest n.hart.0) ≡ true → IsAllocating a n o
held_by a n l None is area settles = absurd cc
held_by a n l (Some k) is area settles = let same : k ≡ l = cc in rw same (area, settles)

-- what brings a block of the pool zeroes an area that is allocated
brought : (m : MachineState) (a : Book) (owner : ℕ → Owner) (h x : ℕ) (e : Entry) → WholePool m → Fits m.size e → covers m.pool x ≡ true → IsQueued a owner m.pool m.size h e → brings m.size (x / m.size) e ≡ true → MayBeHeld a (owner x)
brought m a owner h x (Store span bytes Pma) pool fits over queued is = absurd (store_beside m a owner h x span bytes pool fits over queued is)
brought m a owner h x (Store span bytes Nc) pool fits over queued is = absurd cc
brought m a owner h x (Store span bytes Io) pool fits over queued is = absurd cc
brought m a owner h x (Cbo block cbos.Zero) pool fits over queued is =
    let at : x / m.size ≡ block.0 = sym (eqb-true block.0 (x / m.size) is) in
    elim queued [
      | inl away ↦ absurd (both_ways (covers m.pool x) (away x at) over)
      | inr zeroed ↦ subst (MayBeHeld a) (sym (zeroed.owned x at)) (held_by a zeroed.id zeroed.loan (a.loan zeroed.id) zeroed.lent zeroed.area zeroed.ahead)
    ]
brought m a owner h x (Cbo block cbos.Clean) pool fits over queued is = absurd cc
brought m a owner h x (Cbo block cbos.Flush) pool fits over queued is = absurd cc
brought m a owner h x (Cbo block cbos.Inval) pool fits over queued is = absurd cc
brought m a owner h x (Reg chan off width value) pool fits over queued is = absurd cc
brought m a owner h x (Mail buf to) pool fits over queued is = absurd cc
brought m a owner h x (Lend label first count) pool fits over queued is = absurd cc
brought m a owner h x (Mark pred succ) pool fits over queued is = absurd cc

uncached_drain : (a : Book) (owner : ℕ → Owner) (m : MachineState) (h i : ℕ) (e : Entry) → IsDrain m h i e → WholePool m → Queued a owner m → Uncached a owner m → Uncached a owner (drain_next m h i)
uncached_drain a owner m h i e is pool queued uncached = λ x over.
    let l = leaves m h i e is in
    let here : covers m.pool x ≡ true = sym (ap (λ (p : Span). covers p x) (shape_drain m h i is.sound is.hart).pool) ∙ over in
    elim (uncached x here) [
      | inl free ↦ elim (cases_Bool (brings m.size (x / m.size) e)) [
        | inl comes ↦ inr (brought m a owner h x e pool l.drains.fits here (All-here (IsQueued a owner m.pool m.size h) (queue_of m h) i e (queued h) l.drains.queues.stood) comes)
        | inr other ↦ inl ((l.drains.places x).not_held other free)
      ]
      | inr held ↦ inr held
    ]

uncached_kept : (a : Book) (owner : ℕ → Owner) (m k : MachineState) → SameShape m k → ((x : ℕ) → covers m.pool x ≡ true → NotHeld m x → NotHeld k x) → Uncached a owner m → Uncached a owner k
uncached_kept a owner m k shape kept uncached = λ x over.
    let here : covers m.pool x ≡ true = sym (ap (λ (p : Span). covers p x) shape.pool) ∙ over in
    elim (uncached x here) [ inl free ↦ inl (kept x here free) | inr held ↦ inr held ]

-- ---- last loads

lasts_drain : (a : Book) (f : List ℕ) (m : MachineState) (h i : ℕ) (e : Entry) → IsDrain m h i e → Lasts a f m → Lasts a f (drain_next m h i)
lasts_drain a f m h i e is lasts = λ g.
    let l = leaves m h i e is in
    let same : (hart_of (drain_next m h i) g).last ≡ (hart_of m g).last = elim (cases_eq g h) [
      | inl here ↦ ap (λ (j : ℕ). (hart_of (drain_next m h i) j).last) here ∙ l.drains.last ∙ ap (λ (j : ℕ). (hart_of m j).last) (sym here)
      | inr ne ↦ ap (λ (s : HartState). s.last) (l.drains.others g ne)
    ] in
    subst (λ (bytes : List ℕ). LastIs a f g bytes (rest_last (a.rest g))) (sym same) (lasts g)

lasts_moved : (a : Book) (f : List ℕ) (m k : MachineState) (b : ℕ) → Moves m k b → Lasts a f m → Lasts a f k
lasts_moved a f m k b moves lasts = λ g. rw moves.harts (lasts g)

pub parts_stay : PartsStay
parts_stay = record {
  queued_drain = queued_drain;
  uncached_drain = uncached_drain;
  lasts_drain = lasts_drain;
  queued_fill = λ a owner m h b is by queued. queued_moved a owner m (fill_next m h b) b (shape_fill m h b is by.hart by.block) (fill_is m h b is by.block) queued;
  uncached_fill = λ a owner m h b is by pool uncached. uncached_kept a owner m (fill_next m h b) (shape_fill m h b is by.hart by.block) (λ x over free. fill_not_held m h b x is by.block (pool.pooled x over) free) uncached;
  lasts_fill = λ a f m h b is by lasts. lasts_moved a f m (fill_next m h b) b (fill_is m h b is by.block) lasts;
  queued_evict = λ a owner m h b is by queued. queued_moved a owner m (evict_next m h b) b (shape_evict m h b is by.hart by.block) (evict_is m h b is by.block) queued;
  uncached_evict = λ a owner m h b is by uncached. uncached_kept a owner m (evict_next m h b) (shape_evict m h b is by.hart by.block) (λ x over free. evict_not_held m h b x is by.block free) uncached;
  lasts_evict = λ a f m h b is by lasts. lasts_moved a f m (evict_next m h b) b (evict_is m h b is by.block) lasts;
}
