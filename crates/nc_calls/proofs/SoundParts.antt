-- A machine of the same shape is sound where its caches, queues, channels and boxes are.
use Rattle.std.specs.Prelude.{Some, None, All, remove, slice_get, slice_index_or}
use Rattle.std.proofs.Common.{◌≡◌, ℕ, zero, suc, ◌<◌, ◌≤◌, List, [], ◌∷◌, ◌++◌, length, sym, ap, ◌∙◌, arith, length-append, subst}
use Rattle.std.proofs.lemmas.List.Elements.{All-weaker, All-push, All-nil, All-cons, All-head, All-tail}
use Rattle.nc_num.specs.declared.names.HartNo.{HartNo}
use Rattle.nc_cache.specs.Facts.{Whole}
use Rattle.nc_queue.specs.Entries.{Fits}
use Rattle.nc_queue.specs.QueueState.{QueueState}
use Rattle.nc_queue.specs.declared.entry.Entry.{Entry}
use Rattle.nc_queue.specs.declared.entry.Entry.TheVariants.{Store, Cbo, Reg, Mail, Lend, Mark}
use Rattle.nc_queue.proofs.Fit.{fits-push, fits-remove}
use Rattle.nc_pdma.specs.Channel.{new_channel}
use Rattle.nc_rules.specs.Machine.{MachineState, hart_of, channel_of, grantee_of, box_of}
use Rattle.nc_rules.specs.Sound.{EntryIsThere, IsQueueIn, IsGranted, IsMachine}
use Rattle.nc_calls.specs.MachineLaws.{SameShape, SameDevices}

pub there_same : (m n : MachineState) (e : Entry) → SameShape m n → EntryIsThere m e → EntryIsThere n e
there_same m n (Store span bytes kind) same is = omega (arith, same.ram)
there_same m n (Cbo block op) same is = rw (same.size, same.ram) is
there_same m n (Reg chan off width value) same is = is
there_same m n (Mail buf to) same is = record { box = omega (arith, same.boxes, is.box); hart = omega (arith, same.harts, is.hart) }
there_same m n (Lend label first count) same is = tt
there_same m n (Mark pred succ) same is = tt

pub queue_same : (m n : MachineState) (q : QueueState) → SameShape m n → IsQueueIn m q → IsQueueIn n q
queue_same m n q same is = record {
  size = is.size ∙ sym same.size;
  few = is.few;
  fit = rw same.size is.fit;
  there = All-weaker (EntryIsThere m) (EntryIsThere n) (λ e p. there_same m n e same p) q.entries is.there;
}

pub queue_push : (m : MachineState) (q : QueueState) (e : Entry) → IsQueueIn m q → length q.entries < 8 → Fits m.size e → EntryIsThere m e
    → IsQueueIn m (record { size = q.size; entries = q.entries ++ e ∷ [] })
queue_push m q e is room fits there = record {
  size = is.size;
  few = omega (arith, length-append q.entries (e ∷ []));
  fit = fits-push m.size q.entries e is.fit fits;
  there = All-push (EntryIsThere m) q.entries e is.there there;
}

-- an entry less, or as many where there is none of that number
few-remove : (q : List Entry) (i : ℕ) → length (remove q i) ≤ length q
few-remove [] zero = omega arith
few-remove [] (suc i) = omega arith
few-remove (e ∷ q) zero = omega arith
few-remove (e ∷ q) (suc i) = omega (arith, few-remove q i)

All-remove : (P : Entry → Type 0) (q : List Entry) (i : ℕ) → All P q → All P (remove q i)
All-remove P [] zero all = All-nil P
All-remove P [] (suc i) all = All-nil P
All-remove P (e ∷ q) zero all = All-tail P e q all
All-remove P (e ∷ q) (suc i) all = All-cons P e (remove q i) (All-head P e q all) (All-remove P q i (All-tail P e q all))

pub queue_remove : (m : MachineState) (q : QueueState) (i : ℕ) → IsQueueIn m q → IsQueueIn m (record { size = q.size; entries = remove q.entries i })
queue_remove m q i is = record {
  size = is.size;
  few = omega (arith, few-remove q.entries i, is.few);
  fit = fits-remove m.size q.entries i is.fit;
  there = All-remove (EntryIsThere m) q.entries i is.there;
}

-- an entry that stands in a queue names what is there
There-at : (P : Entry → Type 0) (q : List Entry) (i : ℕ) (e : Entry) → All P q → slice_get q i ≡ Some e → P e
There-at P [] i e all is = absurd cc
There-at P (a ∷ q) zero e all is = let same : a ≡ e = cc in subst P same (All-head P a q all)
There-at P (a ∷ q) (suc i) e all is = There-at P q i e (All-tail P a q all) is

pub there_at : (m : MachineState) (q : QueueState) (i : ℕ) (e : Entry) → IsQueueIn m q → slice_get q.entries i ≡ Some e → EntryIsThere m e
there_at m q i e is at = There-at (EntryIsThere m) q.entries i e is.there at

pub granted_same : (m n : MachineState) (c : ℕ) → length n.harts ≡ length m.harts → channel_of n c ≡ channel_of m c → grantee_of n c ≡ grantee_of m c → IsGranted m c → IsGranted n c
granted_same m n c harts channel grantee is = record {
  channel = rw channel is.channel;
  claimed = rw (channel, grantee) is.claimed;
  hart = λ g e. rw harts (is.hart g (sym grantee ∙ e));
}

pub devices_granted : (m n : MachineState) → IsMachine m → SameShape m n → SameDevices m n → (c : ℕ) → c < 4 → IsGranted n c
devices_granted m n is shape same c lt =
    granted_same m n c shape.harts (ap (λ cs. slice_index_or cs c new_channel) same.channels) (ap (λ gs. slice_index_or gs c None) same.grantees) (is.granted c lt)

-- what a sound machine has, part by part
pub record SoundFrom (m n : MachineState) : Type 0 where
  pub shape : SameShape m n
  pub cache : Whole m.size (length m.harts) (length m.cache.ram) n.cache
  pub queues : (h : ℕ) → h < length m.harts → IsQueueIn m (hart_of n h).queue
  pub granted : (c : ℕ) → c < 4 → IsGranted n c
  pub waiting : (buf : ℕ) (g : HartNo) → box_of n buf ≡ Some g → g.0 < length m.harts

pub machine_from : (m n : MachineState) → IsMachine m → SoundFrom m n → IsMachine n
machine_from m n is from = let same = from.shape in record {
  block_size = rw same.size is.block_size;
  some = rw same.harts is.some;
  few = rw same.harts is.few;
  cache = rw (same.size, same.harts, same.ram) from.cache;
  small = rw same.ram is.small;
  queues = λ h lt. queue_same m n (hart_of n h).queue same (from.queues h (omega (arith, same.harts, lt)));
  four = same.channels ∙ is.four;
  grants = same.grantees ∙ is.grants;
  granted = from.granted;
  boxes = rw same.boxes is.boxes;
  waiting = λ buf g e. rw same.harts (from.waiting buf g e);
}
