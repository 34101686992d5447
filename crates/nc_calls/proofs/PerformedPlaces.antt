-- What an entry does at one place when it leaves its queue.
use Rattle.std.specs.Prelude.{None, true, false, ◌==◌, ◌&&◌, unwrap_or}
use Rattle.std.proofs.Common.{◌≡◌, ◌≢◌, ℕ, ◌/◌, length, refl, sym}
use Rattle.std.proofs.lemmas.Bool.{and_parts, or_parts}
use Rattle.nc_num.specs.Memory.{byte}
use Rattle.nc_env.specs.declared.CboOp.{CboOp}
use Rattle.nc_env.specs.declared.CboOp.TheVariants.{Clean, Flush, Inval, Zero}
use Rattle.nc_cache.specs.Cache as caches
use Rattle.nc_cache.specs.Cache.{Cache, line_at}
use Rattle.nc_cache.specs.Facts.{Fresh, Clear, Both, Drops}
use Rattle.nc_queue.specs.Entries.{entry_gives, has_block, has_op, gives_in, is_inval, is_zero, writes_back, is_w, Fits}
use Rattle.nc_queue.specs.declared.entry.Entry.{Entry}
use Rattle.nc_queue.specs.declared.entry.Entry.TheVariants.{Store, Cbo, Reg, Mail, Lend, Mark}
use Rattle.nc_rules.specs.Machine.{MachineState}
use Rattle.nc_rules.specs.Calls.{performed}
use Rattle.nc_rules.specs.Sound.{IsBlockIn, EntryIsThere, IsMachine}
use Rattle.nc_calls.specs.PlaceLaws.{FreshAt, ClearAt, BothAt, NotHeld, KeepsCoherence, brings, drops_copies}
use Rattle.nc_calls.proofs.CacheFrames.{Untouched, untouched_same, untouched_clear}
use Rattle.nc_calls.proofs.PerformedStores.{stores, fresh_stored, untouched_stored, both_stored, not_held_stored}
use Rattle.nc_calls.proofs.PerformedOps.{Operates, fresh_operated, untouched_operated, clear_operated, both_operated, not_held_operated, cleared_operated, written_operated, gone_operated, dropped_operated}
use Rattle.nc_calls.proofs.Spans.{is_same, is_other}

-- an entry of a sound machine that names what is there
pub record Performs (m : MachineState) (e : Entry) : Type 0 where
  pub sound : IsMachine m
  pub fits : Fits m.size e
  pub there : EntryIsThere m e

operates : (m : MachineState) (b : ℕ) → IsMachine m → IsBlockIn m.size (length m.cache.ram) b → Operates m b
operates m b is there = record { sound = is; there = there }

pub fresh_performed : (m : MachineState) (h : ℕ) (e : Entry) (x : ℕ) → Performs m e → KeepsCoherence m e x → FreshAt m x
    → Fresh m.size (performed m h e).cache x × (caches.middle m.size (performed m h e).cache x ≡ unwrap_or (entry_gives m.size e x) (caches.middle m.size m.cache x))
unfolding performed
fresh_performed m h (Store span bytes kind) x p lone f = fresh_stored m h span bytes kind x (stores m span bytes p.sound p.fits p.there) lone f
fresh_performed m h (Cbo block op) x p lone f = fresh_operated m h op block.0 x (operates m block.0 p.sound p.there) lone f
fresh_performed m h (Reg chan off width value) x p lone f = (f, refl)
fresh_performed m h (Mail buf to) x p lone f = (f, refl)
fresh_performed m h (Lend label first count) x p lone f = (f, refl)
fresh_performed m h (Mark pred succ) x p lone f = (f, refl)

pub untouched_performed : (m : MachineState) (h : ℕ) (e : Entry) (x : ℕ) → Performs m e → has_block m.size (x / m.size) e ≡ false → Untouched m.size m.cache (performed m h e).cache x
unfolding performed
untouched_performed m h (Store span bytes kind) x p other = untouched_stored m h span bytes kind x (stores m span bytes p.sound p.fits p.there) (λ e. is_other (span.at / m.size) (x / m.size) other (sym e))
untouched_performed m h (Cbo block op) x p other = untouched_operated m h op block.0 x (operates m block.0 p.sound p.there) (λ e. is_other block.0 (x / m.size) other (sym e))
untouched_performed m h (Reg chan off width value) x p other = untouched_same m.size m.cache x
untouched_performed m h (Mail buf to) x p other = untouched_same m.size m.cache x
untouched_performed m h (Lend label first count) x p other = untouched_same m.size m.cache x
untouched_performed m h (Mark pred succ) x p other = untouched_same m.size m.cache x

clear_untouched : (m : MachineState) (d : Cache) (x : ℕ) → Untouched m.size m.cache d x → ClearAt m x → Clear m.size d x × (byte d.ram x ≡ byte m.cache.ram x)
clear_untouched m d x u k = (untouched_clear m.size m.cache d x u k, u.memory)

zero_block : (op : CboOp) (b c : ℕ) → (is_zero op && b == c) ≡ false → is_zero op ≡ true → c ≢ b
zero_block Zero b c other is e = is_other b c other (sym e)
zero_block Clean b c other is e = absurd cc
zero_block Flush b c other is e = absurd cc
zero_block Inval b c other is e = absurd cc

pub clear_performed : (m : MachineState) (h : ℕ) (e : Entry) (x : ℕ) → Performs m e → gives_in m.size (x / m.size) e ≡ false → ClearAt m x
    → Clear m.size (performed m h e).cache x × (byte (performed m h e).cache.ram x ≡ byte m.cache.ram x)
unfolding performed
clear_performed m h (Store span bytes kind) x p none k =
    let other = (or_parts (span.at / m.size == x / m.size) false none).0 in
    clear_untouched m (performed m h (Store span bytes kind)).cache x (untouched_stored m h span bytes kind x (stores m span bytes p.sound p.fits p.there) (λ e. is_other (span.at / m.size) (x / m.size) other (sym e))) k
clear_performed m h (Cbo block op) x p none k = clear_operated m h op block.0 x (operates m block.0 p.sound p.there) (zero_block op block.0 (x / m.size) none) k
clear_performed m h (Reg chan off width value) x p none k = (k, refl)
clear_performed m h (Mail buf to) x p none k = (k, refl)
clear_performed m h (Lend label first count) x p none k = (k, refl)
clear_performed m h (Mark pred succ) x p none k = (k, refl)

pub both_performed : (m : MachineState) (h : ℕ) (e : Entry) (v x : ℕ) → Performs m e → entry_gives m.size e x ≡ None → BothAt m v x → Both m.size (performed m h e).cache v x
unfolding performed
both_performed m h (Store span bytes kind) v x p none b = both_stored m h span bytes kind v x (stores m span bytes p.sound p.fits p.there) none b
both_performed m h (Cbo block op) v x p none b = both_operated m h op block.0 v x (operates m block.0 p.sound p.there) none b
both_performed m h (Reg chan off width value) v x p none b = b
both_performed m h (Mail buf to) v x p none b = b
both_performed m h (Lend label first count) v x p none b = b
both_performed m h (Mark pred succ) v x p none b = b

pub not_held_performed : (m : MachineState) (h : ℕ) (e : Entry) (x : ℕ) → Performs m e → brings m.size (x / m.size) e ≡ false → NotHeld m x → line_at (performed m h e).cache (x / m.size) ≡ None
unfolding performed
not_held_performed m h (Store span bytes kind) x p other none = not_held_stored m h span bytes kind x other none
not_held_performed m h (Cbo block op) x p other none = not_held_operated m h op block.0 x (operates m block.0 p.sound p.there) other none
not_held_performed m h (Reg chan off width value) x p other none = none
not_held_performed m h (Mail buf to) x p other none = none
not_held_performed m h (Lend label first count) x p other none = none
not_held_performed m h (Mark pred succ) x p other none = none

-- a cache operation of a kind on the block of the place
pub cleared_performed : (m : MachineState) (h : ℕ) (e : Entry) (x : ℕ) → has_op writes_back (x / m.size) e ≡ true → Clear m.size (performed m h e).cache x
unfolding performed
cleared_performed m h (Cbo block op) x is = let both = and_parts (writes_back op) (block.0 == x / m.size) is in cleared_operated m h op block.0 x both.0 (sym (is_same block.0 (x / m.size) both.1))
cleared_performed m h (Store span bytes kind) x is = absurd cc
cleared_performed m h (Reg chan off width value) x is = absurd cc
cleared_performed m h (Mail buf to) x is = absurd cc
cleared_performed m h (Lend label first count) x is = absurd cc
cleared_performed m h (Mark pred succ) x is = absurd cc

pub written_performed : (m : MachineState) (h : ℕ) (e : Entry) (x : ℕ) → Performs m e → has_op writes_back (x / m.size) e ≡ true → FreshAt m x → byte (performed m h e).cache.ram x ≡ caches.middle m.size m.cache x
unfolding performed
written_performed m h (Cbo block op) x p is f =
    let both = and_parts (writes_back op) (block.0 == x / m.size) is in
    written_operated m h op block.0 x (operates m block.0 p.sound p.there) both.0 (sym (is_same block.0 (x / m.size) both.1)) f
written_performed m h (Store span bytes kind) x p is f = absurd cc
written_performed m h (Reg chan off width value) x p is f = absurd cc
written_performed m h (Mail buf to) x p is f = absurd cc
written_performed m h (Lend label first count) x p is f = absurd cc
written_performed m h (Mark pred succ) x p is f = absurd cc

pub gone_performed : (m : MachineState) (h : ℕ) (e : Entry) (x : ℕ) → has_op drops_copies (x / m.size) e ≡ true → line_at (performed m h e).cache (x / m.size) ≡ None
unfolding performed
gone_performed m h (Cbo block op) x is = let both = and_parts (drops_copies op) (block.0 == x / m.size) is in gone_operated m h op block.0 x both.0 (sym (is_same block.0 (x / m.size) both.1))
gone_performed m h (Store span bytes kind) x is = absurd cc
gone_performed m h (Reg chan off width value) x is = absurd cc
gone_performed m h (Mail buf to) x is = absurd cc
gone_performed m h (Lend label first count) x is = absurd cc
gone_performed m h (Mark pred succ) x is = absurd cc

pub dropped_performed : (m : MachineState) (h : ℕ) (e : Entry) (x : ℕ) → has_op is_inval (x / m.size) e ≡ true → Drops m.size m.cache (performed m h e).cache x
unfolding performed
dropped_performed m h (Cbo block op) x is = let both = and_parts (is_inval op) (block.0 == x / m.size) is in dropped_operated m h op block.0 x both.0 (sym (is_same block.0 (x / m.size) both.1))
dropped_performed m h (Store span bytes kind) x is = absurd cc
dropped_performed m h (Reg chan off width value) x is = absurd cc
dropped_performed m h (Mail buf to) x is = absurd cc
dropped_performed m h (Lend label first count) x is = absurd cc
dropped_performed m h (Mark pred succ) x is = absurd cc

-- an entry that is not of class W changes no byte
pub quiet_performed : (m : MachineState) (h : ℕ) (e : Entry) → is_w e ≡ false → (performed m h e).cache ≡ m.cache
unfolding performed
quiet_performed m h (Store span bytes kind) is = absurd cc
quiet_performed m h (Cbo block op) is = absurd cc
quiet_performed m h (Reg chan off width value) is = refl
quiet_performed m h (Mail buf to) is = refl
quiet_performed m h (Lend label first count) is = refl
quiet_performed m h (Mark pred succ) is = refl
