-- The registers of a copy's channel, from the claim to the start.
use Rattle.std.proofs.Common.{◌≡◌, ℕ, zero, suc, ◌+◌, ◌<◌, ◌==◌, Bool, true, false, List, [], Some, refl, sym, ap, ◌∙◌, subst, arith}
use Rattle.std.specs.Prelude.{◌&&◌, not, if◌then◌else◌, slice_get}
use Rattle.std.proofs.Math.Bool.{and-false}
use Rattle.std.proofs.lemmas.Bool.Decides.{nat_tests}
use Rattle.nc_num.specs.declared.names.ChanNo.{ChanNo}
use Rattle.nc_plan.specs.declared.ops.HartOp.TheVariants.{IoStore}
use Rattle.nc_plan.specs.declared.ops.IoTarget.TheVariants.{Reg}
use Rattle.nc_pdma_regs.specs.Control.{ControlBits}
use Rattle.nc_pdma_regs.specs.declared.config.Transfer.{Transfer}
use Rattle.nc_pdma_regs.specs.Config.{config_kept}
use Rattle.nc_pdma_regs.specs.Laws.{claimed}
use Rattle.nc_pdma_regs.specs.Writes.{control_after, control_write, empties_fifo, is_empty, low}
use Rattle.nc_pdma_regs.proofs.Claims.{idle_is}
use Rattle.nc_pdma.specs.Bus.{ram_base}
use Rattle.nc_pdma.specs.Channel.{ChannelState, IsChannel, channel_write}
use Rattle.nc_transfers.specs.Transfers.{Ends, register_stores, next_set, IsSet, IsMoving, IsMoved}
use Rattle.nc_transfers.specs.Laws.{CopiesSetUp}
use Rattle.nc_transfers.proofs.ConfigValues.{kept-low}

claim : (e : Ends) (c : ChannelState) → IsChannel c → c.regs.control.claim ≡ false → IsSet e 0 (record { regs = claimed c.regs; fifo = c.fifo })
claim e c h free =
    let idle = idle_is c.regs.control.run c.regs.control.claim h.claimed free in record { claimed = refl; idle = idle; empty = h.idle idle; next = refl }

-- ---- the stores to Next

next_stored : (e : Ends) (k : ℕ) (c : ChannelState) (t : Transfer) (b : Bool) → b ≡ true → IsSet e k c → t ≡ next_set e (suc k)
    → IsSet e (suc k) (record { regs = if b then record c.regs { next = t } else c.regs; fifo = c.fifo })
next_stored e k c t true is h same = record { claimed = h.claimed; idle = h.idle; empty = h.empty; next = same }
next_stored e k c t false is h same = absurd (cc)

config_stored : (e : Ends) (c : ChannelState) → IsSet e 0 c → IsSet e 1 (channel_write c 4 4 e.config)
config_stored e c h =
    next_stored e 0 c (record c.regs.next { config = config_kept (low e.config) }) c.regs.control.claim h.claimed h
    (ap (λ (t : Transfer). record t { config = config_kept (low e.config) }) h.next ∙ ap (λ (n : ℕ). record { config = n; bytes = 0; destination = 0; source = 0 }) (kept-low e.config))

bytes_stored : (e : Ends) (c : ChannelState) → IsSet e 1 c → IsSet e 2 (channel_write c 8 8 e.len)
bytes_stored e c h = next_stored e 1 c (record c.regs.next { bytes = e.len }) c.regs.control.claim h.claimed h (ap (λ (t : Transfer). record t { bytes = e.len }) h.next)

destination_stored : (e : Ends) (c : ChannelState) → IsSet e 2 c → IsSet e 3 (channel_write c 16 8 (ram_base + e.writes_at))
destination_stored e c h =
    next_stored e 2 c (record c.regs.next { destination = ram_base + e.writes_at }) c.regs.control.claim h.claimed h (ap (λ (t : Transfer). record t { destination = ram_base + e.writes_at }) h.next)

source_stored : (e : Ends) (c : ChannelState) → IsSet e 3 c → IsSet e 4 (channel_write c 24 8 (ram_base + e.reads_at))
source_stored e c h = next_stored e 3 c (record c.regs.next { source = ram_base + e.reads_at }) c.regs.control.claim h.claimed h (ap (λ (t : Transfer). record t { source = ram_base + e.reads_at }) h.next)

-- the channel after a store that the plan names
pub same_store : (c : ChannelState) (chan named : ChanNo) (o n u off width v : ℕ) → Some (IoStore (Reg chan o n u)) ≡ Some (IoStore (Reg named off width v)) → channel_write c o n u ≡ channel_write c off width v
same_store c chan named o n u off width v is =
    let at : o ≡ off = cc in
    let wide : n ≡ width = cc in
    let value : u ≡ v = cc in
    λ i. channel_write c (at i) (wide i) (value i)

pub store : (e : Ends) (c : ChannelState) (k : ℕ) (chan named : ChanNo) (off width v : ℕ) → k < 4 → slice_get (register_stores chan e) k ≡ Some (IoStore (Reg named off width v)) → IsSet e k c
    → IsSet e (suc k) (channel_write c off width v)
store e c zero chan named off width v lt is h = subst (λ (d : ChannelState). IsSet e 1 d) (same_store c chan named 4 4 e.config off width v is) (config_stored e c h)
store e c (suc zero) chan named off width v lt is h = subst (λ (d : ChannelState). IsSet e 2 d) (same_store c chan named 8 8 e.len off width v is) (bytes_stored e c h)
store e c (suc (suc zero)) chan named off width v lt is h =
    subst (λ (d : ChannelState). IsSet e 3 d) (same_store c chan named 16 8 (ram_base + e.writes_at) off width v is) (destination_stored e c h)
store e c (suc (suc (suc zero))) chan named off width v lt is h =
    subst (λ (d : ChannelState). IsSet e 4 d) (same_store c chan named 24 8 (ram_base + e.reads_at) off width v is) (source_stored e c h)
store e c (suc (suc (suc (suc k)))) chan named off width v lt is h = absurd (omega arith)

-- ---- the start

-- the flags after a start: it runs, or is done where there are no bytes
flags : Bool → ControlBits
flags none = record { claim = true; run = not none; done_ie = false; error_ie = false; done = none; error = false }

flags_started : (c : ControlBits) (none : Bool) → c.claim ≡ true → c.run ≡ false → control_after c none 3 ≡ flags none
unfolding flags
flags_started c none claimed idle = rw (idle, claimed, and-false c.done, and-false c.error) refl

pub emptied : (b : Bool) (fifo : List ℕ) → fifo ≡ [] → (if b then [] else fifo) ≡ []
emptied true fifo none = refl
emptied false fifo none = none

started : (e : Ends) (c : ChannelState) (none : Bool) → IsSet e 4 c → (e.len == 0) ≡ none
    → channel_write c 0 4 3 ≡ record { regs = record { control = flags none; next = next_set e 4; exec = next_set e 4 }; fifo = [] }
unfolding control_write
started e c none h is =
    let no_bytes : is_empty c.regs.next ≡ none = ap is_empty h.next ∙ is in
    let control : control_after c.regs.control (is_empty c.regs.next) 3 ≡ flags none = ap (λ (b : Bool). control_after c.regs.control b 3) no_bytes ∙ flags_started c.regs.control none h.claimed h.idle in
    let next : (if not c.regs.control.claim && (if c.regs.control.run then c.regs.control.claim else true) then record { config = 0; bytes = 0; destination = 0; source = 0 } else c.regs.next) ≡ next_set e 4 = rw (h.claimed) h.next in
    let exec : (if not c.regs.control.run && true && c.regs.control.claim && (if c.regs.control.run then c.regs.control.claim else true) then c.regs.next else c.regs.exec) ≡ next_set e 4 = rw (h.idle, h.claimed) h.next in
    let fifo = emptied (empties_fifo c.regs.control 3) c.fifo h.empty in
    λ i. record { regs = record { control = control i; next = next i; exec = exec i }; fifo = fifo i }

pub start : (e : Ends) (f : List ℕ) (c : ChannelState) → 0 < e.len → IsSet e 4 c → IsMoving e f 0 (channel_write c 0 4 3)
unfolding flags
start e f c some h =
    subst (λ (d : ChannelState). IsMoving e f 0 d) (sym (started e c false h (grind (arith, nat_tests)))) (record {
      claimed = refl;
      runs = refl;
      not_done = refl;
      no_error = refl;
      config = refl;
      source = omega arith;
      destination = omega arith;
      bytes = omega arith;
      left = some;
      within = omega arith;
      fifo = λ i lt. absurd (omega (arith, lt));
      copied = record { seen = λ i lt. refl; same = λ i lt. absurd (omega (arith, lt)) };
    })

start_of_none : (e : Ends) (f : List ℕ) (c : ChannelState) → e.len ≡ 0 → IsSet e 4 c → IsMoved e f (channel_write c 0 4 3)
unfolding flags
start_of_none e f c none h =
    subst (λ (d : ChannelState). IsMoved e f d) (sym (started e c true h (ap (λ (n : ℕ). n == 0) none))) (record {
      claimed = refl;
      idle = refl;
      done = refl;
      no_error = refl;
      empty = refl;
      copied = record { seen = λ i lt. refl; same = λ i lt. absurd (omega (arith, lt, none)) };
    })

pub copies_set_up : CopiesSetUp
copies_set_up = record { claim = claim; store = store; start = start; start_of_none = start_of_none }
