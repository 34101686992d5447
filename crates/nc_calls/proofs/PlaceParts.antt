-- From a cache's facts at one place to a machine's: what is seen, by queues that stay, gain an entry or lose one.
use Rattle.std.specs.Prelude.{Option, Some, None, false, slice_get, slice_index_or, remove, unwrap_or}
use Rattle.std.specs.List.{list_any}
use Rattle.std.specs.Option.{option_or}
use Rattle.std.proofs.Common.{◌≡◌, ◌≢◌, ℕ, [], ◌∷◌, ◌++◌, refl, inl, inr, ap, subst}
use Rattle.std.proofs.lemmas.Bool.{cases_eq}
use Rattle.nc_cache.specs.Facts.{Keeps}
use Rattle.nc_cache.proofs.Places.{keeps_both}
use Rattle.nc_queue.specs.Entries.{entry_gives}
use Rattle.nc_queue.specs.Rules.{gives}
use Rattle.nc_queue.specs.declared.entry.Entry.{Entry}
use Rattle.nc_queue.proofs.GivesLaws.{gives-push, gives-remove_none}
use Rattle.nc_queue.proofs.TestLaws.{none-push, none-remove}
use Rattle.nc_rules.specs.Machine.{MachineState, no_hart, queue_of}
use Rattle.nc_rules.specs.View.{middle, seen, view}
use Rattle.nc_calls.specs.PlaceLaws.{SameAt, KeepsAt, QueueGains, QueueLoses, Stays}
use Rattle.nc_calls.proofs.CacheFrames.{Untouched, untouched_same, untouched_copy, untouched_fresh, untouched_clear, untouched_both}

-- ---- a place that stays

pub same_at : (m n : MachineState) (x : ℕ) → n.size ≡ m.size → Untouched m.size m.cache n.cache x → SameAt m n x
unfolding middle
same_at m n x size u = record {
  line = rw size u.line;
  memory = u.memory;
  copy = rw size (untouched_copy m.size m.cache n.cache x u);
  fresh = λ f. rw size (untouched_fresh m.size m.cache n.cache x u f);
  clear = λ f. rw size (untouched_clear m.size m.cache n.cache x u f);
  both = λ v b. rw size (untouched_both m.size m.cache n.cache v x u b);
}

-- what is seen depends on the queue and on the copies
pub same_view : (m n : MachineState) (g x : ℕ) → n.size ≡ m.size → queue_of n g ≡ queue_of m g → middle n x ≡ middle m x → view n g x ≡ view m g x
unfolding seen
same_view m n g x size queue copy = rw (copy, size, queue) refl

-- the same caches
pub same_caches : (m n : MachineState) (x : ℕ) → n.size ≡ m.size → n.cache ≡ m.cache → SameAt m n x
same_caches m n x size cache = same_at m n x size (rw cache (untouched_same m.size m.cache x))

pub stays : (m n : MachineState) → n.size ≡ m.size → n.cache ≡ m.cache → n.harts ≡ m.harts → Stays m n
stays m n size cache harts =
    let queue : (g : ℕ) → queue_of n g ≡ queue_of m g = λ g. ap (λ hs. (slice_index_or hs g no_hart).queue.entries) harts in
    record {
      cache = cache;
      harts = harts;
      queues = queue;
      places = λ x. same_caches m n x size cache;
      views = λ g x. same_view m n g x size (queue g) (same_caches m n x size cache).copy;
    }

-- ---- a place where copies move

pub keeps_at : (m n : MachineState) (x : ℕ) → n.size ≡ m.size → ((g : ℕ) → queue_of n g ≡ queue_of m g) → Keeps m.size m.cache n.cache x → KeepsAt m n x
unfolding middle
keeps_at m n x size queues k = record {
  cache = k;
  fresh = λ f. let r = k.fresh f in (rw size r.0, rw size r.1);
  clear = λ f. let r = k.clear f in (rw size r.0, r.1);
  both = λ v b. rw size (keeps_both m.size m.cache n.cache v x k b);
  views = λ f g. same_view m n g x size (queues g) (rw size (k.fresh f).1);
}

-- ---- a queue that gains an entry

seen_or : (o p : Option ℕ) (d : ℕ) → unwrap_or (option_or o p) d ≡ unwrap_or o (unwrap_or p d)
seen_or None p d = refl
seen_or (Some v) p d = refl

pub gains : (m n : MachineState) (h : ℕ) (e : Entry) → n.size ≡ m.size → queue_of n h ≡ queue_of m h ++ e ∷ [] → ((g : ℕ) → g ≢ h → queue_of n g ≡ queue_of m g) → QueueGains m n h e
gains m n h e size own others = record {
  own = own;
  others = others;
  silent = λ g x none. elim (cases_eq g h) [
    | inl is ↦ rw (size, is, own, gives-push m.size (queue_of m h) e x, none) refl
    | inr ne ↦ rw (size, others g ne) refl
  ];
  none = λ p g other lacks. elim (cases_eq g h) [
    | inl is ↦ rw (is, own) (none-push p (queue_of m h) e (subst (λ (k : ℕ). list_any p (queue_of m k) ≡ false) is lacks) other)
    | inr ne ↦ rw (others g ne) lacks
  ];
}

pub view_gains : (m n : MachineState) (h : ℕ) (e : Entry) (x : ℕ) → n.size ≡ m.size → queue_of n h ≡ queue_of m h ++ e ∷ [] → middle n x ≡ middle m x → view n h x ≡ unwrap_or (entry_gives m.size e x) (view m h x)
unfolding seen
view_gains m n h e x size own copy = rw (copy, size, own, gives-push m.size (queue_of m h) e x) (seen_or (entry_gives m.size e x) (gives m.size (queue_of m h) x) (middle m x))

-- ---- a queue that loses one

pub loses : (m n : MachineState) (h i : ℕ) (e : Entry) → n.size ≡ m.size → slice_get (queue_of m h) i ≡ Some e → queue_of n h ≡ remove (queue_of m h) i → ((g : ℕ) → g ≢ h → queue_of n g ≡ queue_of m g) → QueueLoses m n h i e
loses m n h i e size stood own others = record {
  stood = stood;
  own = own;
  others = others;
  silent = λ g x none. elim (cases_eq g h) [
    | inl is ↦ rw (size, is, own) (gives-remove_none m.size (queue_of m h) i x (subst (λ (k : ℕ). gives m.size (queue_of m k) x ≡ None) is none))
    | inr ne ↦ rw (size, others g ne) none
  ];
  none = λ p g lacks. elim (cases_eq g h) [
    | inl is ↦ rw (is, own) (none-remove p (queue_of m h) i (subst (λ (k : ℕ). list_any p (queue_of m k) ≡ false) is lacks))
    | inr ne ↦ rw (others g ne) lacks
  ];
}
