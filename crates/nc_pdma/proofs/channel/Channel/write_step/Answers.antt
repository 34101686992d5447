-- What the code finds is what the definition tells.
use Rattle.std.proofs.Common.{◌≡◌, ◌-◌, ◌==◌, length, take, drop, true, sym, ◌∙◌, ap, subst}
use Rattle.std.specs.Prelude.{Some, None}
use Rattle.nc_num.specs.Memory.{splice}
use Rattle.nc_pdma_regs.specs.Moves.{written_on}
use Rattle.nc_pdma.specs.declared.channel.ChanStep.TheVariants.{Moved, Error}
use Rattle.nc_pdma.specs.Bus.{place_of}
use Rattle.nc_pdma.specs.Channel.{ChannelState, IsChannel}
use Rattle.nc_pdma.specs.Steps.{may_write, ram_after, write_len, write_next, write_step}
use Rattle.nc_pdma.proofs.StepLaws.{moved_out_is, write_idle, write_goes}
use Rattle.nc_pdma.proofs.channel.Channel.write_step.Goals as goal

pub returns-then-not-may_write-clause-step : goal.returns-then-not-may_write-clause-step
returns-then-not-may_write-clause-step c = sym (write_idle c.args.self.now (length c.args.ram.now) (sym c.may_write.ensures ∙ c.if-not-may_write.true))

pub returns-then-not-may_write-clause-state : goal.returns-then-not-may_write-clause-state
returns-then-not-may_write-clause-state c =
    sym (ap (write_next c.args.self.now) (write_idle c.args.self.now (length c.args.ram.now) (sym c.may_write.ensures ∙ c.if-not-may_write.true)))

pub returns-then-not-may_write-clause-memory : goal.returns-then-not-may_write-clause-memory
returns-then-not-may_write-clause-memory c =
    sym (ap (ram_after c.args.ram.now) (write_idle c.args.self.now (length c.args.ram.now) (sym c.may_write.ensures ∙ c.if-not-may_write.true)))

error : (c : goal.After-fail) → write_step c.args.self.now (length c.args.ram.now) ≡ Error c.args.self.now.regs.exec.destination (write_len c.args.self.now)
error c =
    let s : ChannelState = c.args.self.now in
    let may : may_write s ≡ true = sym c.may_write.ensures ∙ c.if-not-may_write.false in
    let bus : c.exec-bus.result.destination ≡ s.regs.exec.destination =
    ap (λ t. t.destination) c.exec-bus.ensures ∙ ap (λ (v : ChannelState). v.regs.exec.destination) c.self.view_is in
    let same : place_of c.len.result c.exec-bus.result.destination c.write_len-len.result ≡ place_of (length c.args.ram.now) s.regs.exec.destination (write_len s) =
    λ i. place_of (c.len.ensures.value i) (bus i) (c.write_len-len.ensures i) in
    write_goes s (length c.args.ram.now) None may (sym same ∙ (sym c.place_on_bus.ensures ∙ c.in_default.is))

pub returns-in_default-clause-step : goal.returns-in_default-clause-step
returns-in_default-clause-step c =
    let bus : c.exec-bus.result.destination ≡ c.args.self.now.regs.exec.destination =
    ap (λ t. t.destination) c.exec-bus.ensures ∙ ap (λ (v : ChannelState). v.regs.exec.destination) c.self.view_is in
    (λ i. Error (bus i) (c.write_len-len.ensures i)) ∙ sym (error c)

pub returns-in_default-clause-state : goal.returns-in_default-clause-state
returns-in_default-clause-state c = c.fail.ensures ∙ sym (ap (write_next c.args.self.now) (error c))

pub returns-in_default-clause-memory : goal.returns-in_default-clause-memory
returns-in_default-clause-memory c = sym (ap (ram_after c.args.ram.now) (error c))

moved : (c : goal.After-write_on-done) → let s : ChannelState = c.args.self.now in write_step s (length c.args.ram.now)
    ≡ Moved (record { at = c.in-Some.at; len = write_len s }) (take (write_len s) s.fifo) (s.regs.exec.bytes - write_len s == 0)
moved c =
    let s : ChannelState = c.args.self.now in
    let may : may_write s ≡ true = sym c.may_write.ensures ∙ c.if-not-may_write.false in
    let bus : c.exec-bus.result.destination ≡ s.regs.exec.destination =
    ap (λ t. t.destination) c.exec-bus.ensures ∙ ap (λ (v : ChannelState). v.regs.exec.destination) c.self.view_is in
    let same : place_of c.len.result c.exec-bus.result.destination c.write_len-len.result ≡ place_of (length c.args.ram.now) s.regs.exec.destination (write_len s) =
    λ i. place_of (c.len.ensures.value i) (bus i) (c.write_len-len.ensures i) in
    write_goes s (length c.args.ram.now) (Some c.in-Some.at) may (sym same ∙ (sym c.place_on_bus.ensures ∙ c.in-Some.is))

bytes_are : (c : goal.After-write_on-done) → c.take_out-bytes.result ≡ take (write_len c.args.self.now) c.args.self.now.fifo
bytes_are c = c.take_out-bytes.ensures.bytes ∙ (λ i. take (c.write_len-len.ensures i) (ap (λ (v : ChannelState). v.fifo) c.self.view_is i))

fifo_is : (c : goal.After-write_on-done) → c.take_out-bytes.new.fifo.items ≡ drop (write_len c.args.self.now) c.args.self.now.fifo
fifo_is c = c.take_out-bytes.ensures.rest ∙ (λ i. drop (c.write_len-len.ensures i) (ap (λ (v : ChannelState). v.fifo) c.self.view_is i))

regs_are : (c : goal.After-write_on-done) → c.write_on-done.new.self ≡ written_on c.args.self.now.regs (write_len c.args.self.now)
regs_are c =
    let len : c.from.result ≡ write_len c.args.self.now = c.from.ensures ∙ c.write_len-len.ensures in
    c.write_on-done.ensures.registers ∙ (λ i. written_on (ap (λ (v : ChannelState). v.regs) c.self.view_is i) (len i))

pub invariant_of-self : goal.invariant_of-self
invariant_of-self c =
    let sound : IsChannel c.args.self.now = subst IsChannel c.self.view_is c.self.invariant in
    moved_out_is c.args.self.now (write_len c.args.self.now) c.write_on-done.new.self c.take_out-bytes.new.fifo.items sound (regs_are c) (fifo_is c)

pub returns-clause-step : goal.returns-clause-step
returns-clause-step c =
    let s : ChannelState = c.args.self.now in
    let len : c.from.result ≡ write_len s = c.from.ensures ∙ c.write_len-len.ensures in
    let left : c.self.inside.regs.exec.bytes ≡ s.regs.exec.bytes = ap (λ (v : ChannelState). v.regs.exec.bytes) c.self.view_is in
    let last : c.write_on-done.result ≡ (s.regs.exec.bytes - write_len s == 0) = c.write_on-done.ensures.done ∙ (λ i. left i - len i == 0) in
    (λ i. Moved (record { at = c.in-Some.at; len = c.write_len-len.ensures i }) (bytes_are c i) (last i)) ∙ sym (moved c)

pub returns-clause-state : goal.returns-clause-state
returns-clause-state c = (λ i. record { regs = regs_are c i; fifo = fifo_is c i }) ∙ sym (ap (write_next c.args.self.now) (moved c))

pub returns-clause-memory : goal.returns-clause-memory
returns-clause-memory c =
    c.write.ensures.value ∙ (ap (splice c.args.ram.now c.in-Some.at) (c.as_slice.ensures.value ∙ bytes_are c) ∙ sym (ap (ram_after c.args.ram.now) (moved c)))
