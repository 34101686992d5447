-- What a call leaves is a sound machine, whose caches have its block size and its harts.
use Rattle.std.specs.Prelude.{Option, Some, None, IfSome, IfNone, slice_set}
use Rattle.std.proofs.Common.{◌≡◌, ℕ, ◌<◌, List, length, refl, sym, ap, subst, ◌∙◌}
use Rattle.nc_cache.specs.Cache.{Cache}
use Rattle.nc_cache.specs.State.{DomainState}
use Rattle.nc_cache.specs.Facts.{Whole}
use Rattle.nc_queue.specs.declared.entry.Entry.{Entry}
use Rattle.nc_hart.specs.HartState.{HartState}
use Rattle.nc_rules.specs.Machine.{MachineState, hart_of, with_cache, with_hart}
use Rattle.nc_rules.specs.Calls.{leaving, without_entry}
use Rattle.nc_rules.specs.Sound.{IsMachine, EntryIsThere}
use Rattle.nc_calls.specs.MachineLaws.{SameShape}
use Rattle.nc_calls.proofs.SoundParts.{there_same}
use Rattle.nc_calls.proofs.SoundWith.{sound_cache, shape_cache, shape_hart}
use Rattle.nc_calls.proofs.SoundDrain.{leaving_is, sound_without, shape_without, without}
use Rattle.nc_machine.specs.State.{MachineInvariant}

-- the machine p, which has the shape of m
pub kept : (m n p : MachineState) (d e : DomainState) → MachineInvariant m d → n ≡ p → IsMachine p → SameShape m p → e.size ≡ d.size → e.harts ≡ d.harts → MachineInvariant n e
kept m n p d e k same sound shape size harts = record {
  machine = subst IsMachine (sym same) sound;
  size = size ∙ k.size ∙ sym (ap (λ (t : MachineState). t.size) same ∙ shape.size);
  harts = harts ∙ k.harts ∙ sym (ap (λ (t : MachineState). length t.harts) same ∙ shape.harts);
}

-- other caches, for a block size
pub kept_cache : (m : MachineState) (d e : DomainState) (ram : List ℕ) (next : ℕ → Cache) → MachineInvariant m d → Whole m.size (length m.harts) (length m.cache.ram) (next m.size)
    → record { ram = ram; lines = e.lines } ≡ next d.size → e.size ≡ d.size → e.harts ≡ d.harts → MachineInvariant (with_cache m (record { ram = ram; lines = e.lines })) e
kept_cache m d e ram next k whole state size harts =
    kept m (with_cache m (record { ram = ram; lines = e.lines })) (with_cache m (next m.size)) d e k (ap (with_cache m) (state ∙ ap next k.size)) (sound_cache m (next m.size) k.machine whole)
    (shape_cache m (next m.size) k.machine whole) size harts

-- other harts
pub kept_harts : (m : MachineState) (d : DomainState) (h : ℕ) (s : HartState) (harts : List HartState) → MachineInvariant m d → harts ≡ slice_set m.harts h s → IsMachine (with_hart m h s) → MachineInvariant (record m { harts = harts }) d
kept_harts m d h s harts k same sound =
    kept m (record m { harts = harts }) (with_hart m h s) d d k (ap (λ (hs : List HartState). record m { harts = hs }) same) sound (shape_hart m h s) refl refl

-- an entry has left, where it may
pub kept_left : (m : MachineState) (d : DomainState) (h i : ℕ) (o : Option Entry) (harts : List HartState) → MachineInvariant m d → h < length m.harts → IfNone o (harts ≡ m.harts) → IfSome o (λ _. harts ≡ slice_set m.harts h (without_entry (hart_of m h) i))
    → MachineInvariant (record m { harts = harts }) d
kept_left m d h i None harts k lt none some = kept m (record m { harts = harts }) m d d k (ap (λ (hs : List HartState). record m { harts = hs }) none) k.machine (record { size = refl; pool = refl; ram = refl; harts = refl; channels = refl; grantees = refl; boxes = refl }) refl refl
kept_left m d h i (Some e) harts k lt none some = kept_harts m d h (without_entry (hart_of m h) i) harts k some (sound_without m h i k.machine lt)

pub left_there : (m : MachineState) (h i : ℕ) (o : Option Entry) (harts : List HartState) → IsMachine m → h < length m.harts → leaving m h i ≡ o → IfSome o (λ _. harts ≡ slice_set m.harts h (without_entry (hart_of m h) i))
    → IfSome o (EntryIsThere (record m { harts = harts }))
left_there m h i None harts is lt out some = tt
left_there m h i (Some e) harts is lt out some =
    let there : EntryIsThere (without m h i) e = there_same m (without m h i) e (shape_without m h i) (leaving_is m h i e is lt out).there in
    subst (λ (hs : List HartState). EntryIsThere (record m { harts = hs }) e) (sym some) there
