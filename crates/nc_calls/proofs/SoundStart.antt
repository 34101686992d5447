-- The machine that an accepted scenario starts with is sound.
use Rattle.std.specs.Prelude.{Option, Some, None, All, replicate, slice_index_or, ◌+◌, ◌*◌, ◌%◌}
use Rattle.std.proofs.Common.{◌≡◌, ℕ, ◌<◌, List, [], ◌∷◌, length, refl, inl, inr, sym, ◌∙◌, arith}
use Rattle.std.proofs.lemmas.Bool.{cases_lt}
use Rattle.std.proofs.lemmas.List.{get_or-replicate, get_or_past, length-replicate}
use Rattle.std.proofs.lemmas.List.Elements.{All-nil, All-head, All-tail}
use Rattle.std.proofs.lemmas.List.FromFn.{length-map-range_with_len}
use Rattle.nc_num.specs.Memory.{splice}
use Rattle.nc_num.specs.declared.names.HartNo.{HartNo}
use Rattle.nc_num.specs.declared.places.Span.{Span}
use Rattle.nc_num.proofs.Blocks.{page_whole}
use Rattle.nc_num.proofs.MemoryLaws.{length-splice}
use Rattle.nc_cache.proofs.Wholes.{whole_start}
use Rattle.nc_pdma.specs.Channel.{new_channel}
use Rattle.nc_pdma.proofs.Sound.{new_sound}
use Rattle.nc_scen.specs.declared.scenario.BufferSpec.{BufferSpec}
use Rattle.nc_scen.specs.declared.scenario.Scenario.{Scenario}
use Rattle.nc_scen.specs.Accepted.{FitsBuffer, IsAccepted}
use Rattle.nc_scen.specs.Regions.{pool_of}
use Rattle.nc_rules.specs.Machine.{MachineState, no_hart, hart_of, fresh_hart, fresh}
use Rattle.nc_rules.specs.Start.{pattern, filled, memory, first_machine}
use Rattle.nc_rules.specs.Sound.{EntryIsThere, IsQueueIn, IsGranted, IsMachine}

-- what a list of the same elements has at each place
pub blank : {X : Type 0} (n k : ℕ) (x : X) → slice_index_or (replicate n x) k x ≡ x
blank n k x = elim (cases_lt k n) [
  | inl lt ↦ get_or-replicate n k x x lt
  | inr le ↦ get_or_past (replicate n x) k x (omega (arith, length-replicate n x))
]

abbrev nobody : Option HartNo
nobody = None

-- memory
length-pattern : (b : BufferSpec) → length (pattern b) ≡ b.span.len
length-pattern b = length-map-range_with_len (λ i. (b.fill + i * b.step) % 256) 0 b.span.len

length-filled : (harts : ℕ) (m : List ℕ) (bs : List BufferSpec) → All (FitsBuffer (length m) harts) bs → length (filled m bs) ≡ length m
length-filled harts m [] all = refl
length-filled harts m (b ∷ bs) all =
    let fits = All-head (FitsBuffer (length m) harts) b bs all in
    let same : length (splice m b.span.at (pattern b)) ≡ length m = length-splice m b.span.at (pattern b) (omega (arith, length-pattern b, fits.ends)) in
    length-filled harts (splice m b.span.at (pattern b)) bs (rw same (All-tail (FitsBuffer (length m) harts) b bs all)) ∙ same

pub length-memory : (sc : Scenario) → IsAccepted sc → length (memory sc) ≡ sc.ram
unfolding memory
length-memory sc ok =
    let start : length (replicate sc.ram 0) ≡ sc.ram = length-replicate sc.ram 0 in
    length-filled (length sc.harts) (replicate sc.ram 0) sc.buffers (rw start ok.buffers) ∙ start

queue_start : (m : MachineState) → IsQueueIn m (fresh_hart m.size).queue
queue_start m = record { size = refl; few = omega arith; fit = tt; there = All-nil (EntryIsThere m) }

fresh_queue : (size : ℕ) (pool : Span) (ram : List ℕ) (harts boxes h : ℕ) → h < harts → hart_of (fresh size pool ram harts boxes) h ≡ fresh_hart size
fresh_queue size pool ram harts boxes h lt = get_or-replicate harts h (fresh_hart size) no_hart lt

granted_start : (size : ℕ) (pool : Span) (ram : List ℕ) (harts boxes c : ℕ) → IsGranted (fresh size pool ram harts boxes) c
granted_start size pool ram harts boxes c = record {
  channel = rw (blank 4 c new_channel) new_sound;
  claimed = rw (blank 4 c new_channel, blank 4 c nobody) refl;
  hart = λ g e. absurd (let p : None ≡ Some g = sym (blank 4 c nobody) ∙ e in cc);
}

pub sound_fresh : (sc : Scenario) (ram : List ℕ) → IsAccepted sc → length ram ≡ sc.ram → IsMachine (fresh sc.block_size (pool_of sc) ram (length sc.harts) (length sc.buffers))
sound_fresh sc ram ok len =
    let m = fresh sc.block_size (pool_of sc) ram (length sc.harts) (length sc.buffers) in
    let harts : length m.harts ≡ length sc.harts = length-replicate (length sc.harts) (fresh_hart sc.block_size) in
    let boxes : length m.boxes ≡ length sc.buffers = length-replicate (length sc.buffers) nobody in
    record {
      block_size = ok.sized;
      some = omega (arith, harts, ok.harts_some);
      few = omega (arith, harts, ok.harts_few);
      cache = whole_start sc.block_size (length m.harts) (length ram) ram ok.sized (omega (arith, harts, ok.harts_few)) refl (rw len (page_whole sc.ram ok.sized (inl ok.ram_whole)));
      small = omega (arith, len, ok.ram_small);
      queues = λ h lt. rw (fresh_queue sc.block_size (pool_of sc) ram (length sc.harts) (length sc.buffers) h (omega (arith, harts, lt))) (queue_start m);
      four = length-replicate 4 new_channel;
      grants = length-replicate 4 nobody;
      granted = λ c lt. granted_start sc.block_size (pool_of sc) ram (length sc.harts) (length sc.buffers) c;
      boxes = omega (arith, boxes, ok.buffers_few);
      waiting = λ b g e. absurd (let p : None ≡ Some g = sym (blank (length sc.buffers) b nobody) ∙ e in cc);
    }

pub sound_start : (sc : Scenario) → IsAccepted sc → IsMachine (first_machine sc)
unfolding first_machine
sound_start sc ok = sound_fresh sc (memory sc) ok (length-memory sc ok)
