-- What an issue does, at one place and as a whole.
use Rattle.std.specs.Prelude.{Option, Some, None, Bool, true, false, if◌then◌else◌}
use Rattle.std.proofs.Common.{◌≡◌, ◌≢◌, ℕ, ◌/◌, ◌<◌, [], ◌∷◌, ◌++◌, length, refl, sym, ap, ◌∙◌, subst, inl, inr}
use Rattle.std.proofs.lemmas.Bool.{cases_eq}
use Rattle.nc_num.specs.declared.names.ChanNo.{ChanNo}
use Rattle.nc_num.specs.Places.{block_at}
use Rattle.nc_num.specs.declared.places.Span.{Span}
use Rattle.nc_num.specs.declared.names.MemType.{MemType}
use Rattle.nc_num.specs.declared.names.MemType.TheVariants.{Pma, Nc, Io}
use Rattle.nc_cache.specs.Cache as caches
use Rattle.nc_cache.specs.Facts.{Keeps}
use Rattle.nc_cache.proofs.Places.{keeps_same, keeps_load, middle-load}
use Rattle.nc_queue.specs.declared.entry.Entry.{Entry}
use Rattle.nc_plan.specs.declared.ops.HartOp.{HartOp}
use Rattle.nc_plan.specs.declared.ops.HartOp.TheVariants.{Load, Store, Cbo, Fence, IoLoad, IoStore, Mark}
use Rattle.nc_hart.specs.HartState.{HartState}
use Rattle.nc_hart.specs.Issue.{entry_of, issued, pushed}
use Rattle.nc_rules.specs.Machine.{MachineState, hart_of, queue_of, with_hart, with_cache}
use Rattle.nc_rules.specs.View.{middle, bytes_seen}
use Rattle.nc_rules.specs.Calls.{asks_caches, cache_loaded, has_loaded, issue_next}
use Rattle.nc_rules.specs.Sound.{IsPieceIn, IsMachine}
use Rattle.nc_calls.specs.PlaceLaws.{Loads, Pushes}
use Rattle.nc_calls.proofs.MachineParts.{hart_here, hart_away, same_hart}
use Rattle.nc_calls.proofs.SoundWith.{devices_hart}
use Rattle.nc_calls.proofs.SoundIssue.{piece_block}
use Rattle.nc_calls.proofs.CacheFrames.{Untouched, untouched_same, untouched_load}
use Rattle.nc_calls.proofs.PlaceParts.{same_at, same_caches, same_view, keeps_at, gains, view_gains}

-- ---- a load

keeps_loaded : (m : MachineState) (h : ℕ) (span : Span) (kind : MemType) (x : ℕ) → IsMachine m → IsPieceIn (length m.cache.ram) span → Keeps m.size m.cache (cache_loaded m h span kind) x
keeps_loaded m h span kind x is piece =
    elim (asks_caches m h span kind) as (λ t. Keeps m.size m.cache (if t then caches.load m.size m.cache h (block_at span.at m.size) else m.cache) x) [
      | true ↦ keeps_load m.size (length m.harts) (length m.cache.ram) m.cache h (block_at span.at m.size) x is.cache (piece_block m span is piece)
      | false ↦ keeps_same m.size m.cache x
    ]

untouched_asked : (m : MachineState) (h : ℕ) (span : Span) (t : Bool) (x : ℕ) → IsMachine m → IsPieceIn (length m.cache.ram) span → x / m.size ≢ block_at span.at m.size
    → Untouched m.size m.cache (if t then caches.load m.size m.cache h (block_at span.at m.size) else m.cache) x
untouched_asked m h span true x is piece ne = untouched_load m.size (length m.harts) (length m.cache.ram) m.cache h (block_at span.at m.size) x is.cache (piece_block m span is piece) ne
untouched_asked m h span false x is piece ne = untouched_same m.size m.cache x

untouched_loaded : (m : MachineState) (h : ℕ) (span : Span) (kind : MemType) (x : ℕ) → IsMachine m → IsPieceIn (length m.cache.ram) span → (kind ≡ Pma → x / m.size ≢ block_at span.at m.size)
    → Untouched m.size m.cache (cache_loaded m h span kind) x
untouched_loaded m h span Pma x is piece apart = untouched_asked m h span (asks_caches m h span Pma) x is piece (apart refl)
untouched_loaded m h span Nc x is piece apart = untouched_same m.size m.cache x
untouched_loaded m h span Io x is piece apart = untouched_same m.size m.cache x

abbrev loaded : MachineState → ℕ → Span → MemType → MachineState
loaded m h span kind = with_hart (with_cache m (cache_loaded m h span kind)) h (has_loaded (hart_of m h) (bytes_seen m h kind span))

own_loaded : (m : MachineState) (h : ℕ) (span : Span) (kind : MemType) → h < length m.harts → hart_of (loaded m h span kind) h ≡ has_loaded (hart_of m h) (bytes_seen m h kind span)
own_loaded m h span kind lt = hart_here (with_cache m (cache_loaded m h span kind)) h h (has_loaded (hart_of m h) (bytes_seen m h kind span)) lt refl

other_loaded : (m : MachineState) (h g : ℕ) (span : Span) (kind : MemType) → g ≢ h → hart_of (loaded m h span kind) g ≡ hart_of m g
other_loaded m h g span kind ne = hart_away (with_cache m (cache_loaded m h span kind)) h g (has_loaded (hart_of m h) (bytes_seen m h kind span)) ne

queue_loaded : (m : MachineState) (h g : ℕ) (span : Span) (kind : MemType) → h < length m.harts → queue_of (loaded m h span kind) g ≡ queue_of m g
queue_loaded m h g span kind lt = elim (cases_eq g h) [
  | inl e ↦ rw e (ap (λ (s : HartState). s.queue.entries) (own_loaded m h span kind lt))
  | inr ne ↦ ap (λ (s : HartState). s.queue.entries) (other_loaded m h g span kind ne)
]

-- no byte below the queues changes
middle_loaded : (m : MachineState) (h : ℕ) (span : Span) (kind : MemType) (x : ℕ) → IsMachine m → IsPieceIn (length m.cache.ram) span → middle (loaded m h span kind) x ≡ middle m x
unfolding middle
middle_loaded m h span kind x is piece =
    elim (asks_caches m h span kind) as (λ t. caches.middle m.size (if t then caches.load m.size m.cache h (block_at span.at m.size) else m.cache) x ≡ caches.middle m.size m.cache x) [
      | true ↦ middle-load m.size (length m.harts) (length m.cache.ram) m.cache h (block_at span.at m.size) x is.cache (piece_block m span is piece)
      | false ↦ refl
    ]

pub load_is : (m : MachineState) (h : ℕ) (span : Span) (kind : MemType) → IsMachine m → h < length m.harts → IsPieceIn (length m.cache.ram) span → Loads m (issue_next m h (Load span kind)) h span kind
unfolding issue_next
load_is m h span kind is lt piece = record {
  devices = record { channels = refl; grantees = refl; boxes = refl };
  queues = λ g. queue_loaded m h g span kind lt;
  last = ap (λ (s : HartState). s.last) (own_loaded m h span kind lt);
  others = λ g ne. other_loaded m h g span kind ne;
  places = λ x. keeps_at m (loaded m h span kind) x refl (λ g. queue_loaded m h g span kind lt) (keeps_loaded m h span kind x is piece);
  views = λ g x. same_view m (loaded m h span kind) g x refl (queue_loaded m h g span kind lt) (middle_loaded m h span kind x is piece);
  apart = λ x away. same_at m (loaded m h span kind) x refl (untouched_loaded m h span kind x is piece away);
}

-- ---- an entry

abbrev with_entry : HartState → Entry → HartState
with_entry s e = record { queue = record { size = s.queue.size; entries = s.queue.entries ++ e ∷ [] }; last = s.last }

pushes : (m : MachineState) (h : ℕ) (e : Entry) → h < length m.harts → Pushes m (with_hart m h (with_entry (hart_of m h) e)) h e
pushes m h e lt =
    let s = with_entry (hart_of m h) e in
    let n = with_hart m h s in
    let own : queue_of n h ≡ queue_of m h ++ e ∷ [] = ap (λ (t : HartState). t.queue.entries) (hart_here m h h s lt refl) in
    let others : (g : ℕ) → g ≢ h → hart_of n g ≡ hart_of m g = λ g ne. hart_away m h g s ne in
    record {
      cache = refl;
      devices = devices_hart m h s;
      queues = gains m n h e refl own (λ g ne. ap (λ (t : HartState). t.queue.entries) (others g ne));
      last = ap (λ (t : HartState). t.last) (hart_here m h h s lt refl);
      others = others;
      places = λ x. same_caches m n x refl refl;
      own_view = λ x. view_gains m n h e x refl own (same_caches m n x refl refl).copy;
      other_views = λ g x ne. same_view m n g x refl (ap (λ (t : HartState). t.queue.entries) (others g ne)) (same_caches m n x refl refl).copy;
    }

issued_with : (s : HartState) (op : HartOp) (e : Entry) → entry_of s.last op ≡ Some e → issued s op ≡ with_entry s e
unfolding issued
issued_with s op e of = ap (λ (o : Option Entry). record { queue = pushed s.queue o; last = s.last }) of

hart_pushes : (m : MachineState) (h : ℕ) (op : HartOp) (e : Entry) → h < length m.harts → entry_of (hart_of m h).last op ≡ Some e → Pushes m (with_hart m h (issued (hart_of m h) op)) h e
hart_pushes m h op e lt of = subst (λ (s : HartState). Pushes m (with_hart m h s) h e) (sym (issued_with (hart_of m h) op e of)) (pushes m h e lt)

pub push_is : (m : MachineState) (h : ℕ) (op : HartOp) (e : Entry) → h < length m.harts → entry_of (hart_of m h).last op ≡ Some e → Pushes m (issue_next m h op) h e
unfolding issue_next
push_is m h (Load span kind) e lt of = absurd cc
push_is m h (Store span kind bytes) e lt of = hart_pushes m h (Store span kind bytes) e lt of
push_is m h (Cbo op block) e lt of = hart_pushes m h (Cbo op block) e lt of
push_is m h (Fence pred succ) e lt of = hart_pushes m h (Fence pred succ) e lt of
push_is m h (IoLoad chan off width) e lt of = absurd cc
push_is m h (IoStore target) e lt of = hart_pushes m h (IoStore target) e lt of
push_is m h (Mark pred succ) e lt of = hart_pushes m h (Mark pred succ) e lt of

-- ---- an operation without an entry, that is no load of memory

issued_without : (s : HartState) (op : HartOp) → entry_of s.last op ≡ None → issued s op ≡ s
unfolding issued
issued_without s op of = ap (λ (o : Option Entry). record { queue = pushed s.queue o; last = s.last }) of

hart_stays : (m : MachineState) (h : ℕ) (op : HartOp) → entry_of (hart_of m h).last op ≡ None → with_hart m h (issued (hart_of m h) op) ≡ m
hart_stays m h op of = ap (with_hart m h) (issued_without (hart_of m h) op of) ∙ same_hart m h

pub fence_stays : (m : MachineState) (h pred succ : ℕ) → entry_of (hart_of m h).last (Fence pred succ) ≡ None → issue_next m h (Fence pred succ) ≡ m
unfolding issue_next
fence_stays m h pred succ of = hart_stays m h (Fence pred succ) of

pub io_load_stays : (m : MachineState) (h : ℕ) (chan : ChanNo) (off width : ℕ) → issue_next m h (IoLoad chan off width) ≡ m
unfolding issue_next
io_load_stays m h chan off width = refl
