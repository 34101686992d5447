-- What a hart performs for the cache operations of its plans, whatever its enables: a clean or a flush writes back, and
-- an invalidate, or the flush in its place, drops.
use Rattle.std.specs.Prelude.{◌||◌, Bool, true, false, if◌then◌else◌, Result, Ok, Err}
use Rattle.std.specs.Result.{result_unwrap_or}
use Rattle.std.proofs.Common.{◌≡◌, ℕ, refl}
use Rattle.nc_num.specs.declared.names.Dir.TheVariants.{Both, ToDev, FromDev}
use Rattle.nc_env.specs.declared.Mode.{Mode}
use Rattle.nc_env.specs.declared.Mode.TheVariants.{M, S, U}
use Rattle.nc_env.specs.declared.CboOp.{CboOp}
use Rattle.nc_env.specs.declared.CboOp.TheVariants.{Clean, Flush, Inval, Zero}
use Rattle.nc_env.specs.declared.Illegal.{Illegal}
use Rattle.nc_env.specs.Enables.{forbids, as_flush, performed, m_field, s_field, decided}
use Rattle.nc_plan.specs.Effects.{effects_of}
use Rattle.nc_queue.specs.Entries.{is_zero, writes_back}
use Rattle.nc_calls.specs.PlaceLaws.{drops_copies}
use Rattle.nc_rows.specs.Rows.{is_flush}
use Rattle.nc_row_plans.specs.Plans.{WritesBack, DropsBlocks}
use Rattle.nc_flat_starts.proofs.areas.AreaPlans.{IsZeroing}

-- the operation itself, a flush for an invalidate, or none
abbrev pub IsOrFlush : CboOp → Result CboOp Illegal → Type 0
IsOrFlush op r = (p : CboOp → Bool) → p op ≡ true → p (performed op true) ≡ true → p (result_unwrap_or r op) ≡ true

by_if : (op : CboOp) (t : Bool) (i : Illegal) (r : Result CboOp Illegal) → IsOrFlush op r → IsOrFlush op (if t then Err i else r)
by_if op true i r more = λ p is flush. is
by_if op false i r more = more

by_performed : (op : CboOp) (t : Bool) → IsOrFlush op (Ok (performed op t))
by_performed op true = λ p is flush. flush
by_performed Clean false = λ p is flush. is
by_performed Flush false = λ p is flush. is
by_performed Inval false = λ p is flush. is
by_performed Zero false = λ p is flush. is

decided_is : (mode : Mode) (menvcfg senvcfg : ℕ) (op : CboOp) → IsOrFlush op (decided mode menvcfg senvcfg op)
unfolding decided
decided_is M menvcfg senvcfg op = λ p is flush. is
decided_is S menvcfg senvcfg op = by_if op (forbids op menvcfg) (record { 0 = m_field op }) (Ok (performed op (as_flush menvcfg))) (by_performed op (as_flush menvcfg))
decided_is U menvcfg senvcfg op =
    by_if op (forbids op menvcfg) (record { 0 = m_field op }) (if forbids op senvcfg then Err (record { 0 = s_field op }) else Ok (performed op (as_flush menvcfg || as_flush senvcfg)))
    (by_if op (forbids op senvcfg) (record { 0 = s_field op }) (Ok (performed op (as_flush menvcfg || as_flush senvcfg))) (by_performed op (as_flush menvcfg || as_flush senvcfg)))

pub writes : (mode : Mode) (menvcfg senvcfg : ℕ) → WritesBack (effects_of mode menvcfg senvcfg)
writes mode menvcfg senvcfg ToDev = decided_is mode menvcfg senvcfg Clean writes_back refl refl
writes mode menvcfg senvcfg Both = decided_is mode menvcfg senvcfg Flush writes_back refl refl
writes mode menvcfg senvcfg FromDev = decided_is mode menvcfg senvcfg Flush writes_back refl refl

pub drops : (mode : Mode) (menvcfg senvcfg : ℕ) → DropsBlocks (effects_of mode menvcfg senvcfg)
drops mode menvcfg senvcfg = decided_is mode menvcfg senvcfg Inval drops_copies refl refl

-- a zero and a flush are what they are
zero_only : (op : CboOp) → is_zero op ≡ true → op ≡ Zero
zero_only Zero is = refl
zero_only Clean is = absurd cc
zero_only Flush is = absurd cc
zero_only Inval is = absurd cc

flush_only : (op : CboOp) → is_flush op ≡ true → op ≡ Flush
flush_only Flush is = refl
flush_only Clean is = absurd cc
flush_only Inval is = absurd cc
flush_only Zero is = absurd cc

pub zeroing : (mode : Mode) (menvcfg senvcfg : ℕ) → IsZeroing (effects_of mode menvcfg senvcfg)
zeroing mode menvcfg senvcfg = record {
  zeroes = zero_only (result_unwrap_or (decided mode menvcfg senvcfg Zero) Zero) (decided_is mode menvcfg senvcfg Zero is_zero refl refl);
  flushes = flush_only (result_unwrap_or (decided mode menvcfg senvcfg Flush) Flush) (decided_is mode menvcfg senvcfg Flush is_flush refl refl);
}
