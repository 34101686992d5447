-- The FIFO is emptied unless a transfer runs, which is where a start or a stop empties it.
use Rattle.std.proofs.Common.{◌≡◌, true, false, sym, ◌∙◌, ap, subst}
use Rattle.nc_pdma_regs.specs.Writes.{write_of}
use Rattle.nc_pdma.specs.Channel.{ChannelState, IsChannel, channel_write}
use Rattle.nc_pdma.proofs.Sound.{written_idle, written_running, write_sound}
use Rattle.nc_pdma.proofs.channel.Channel.write.Goals as goal

running : (c : goal.Else-not-is_running)
    → record { regs = c.write-answer.new.self; fifo = c.self.inside.fifo.items } ≡ channel_write c.args.self.now c.args.off c.args.width c.args.value
running c =
    let s : ChannelState = c.args.self.now in
    let d : ChannelState = record { regs = c.write-answer.new.self; fifo = c.self.inside.fifo.items } in
    let sound : IsChannel s = subst IsChannel c.self.view_is c.self.invariant in
    let regs : d.regs ≡ write_of s.regs c.args.off c.args.width c.args.value =
    c.write-answer.ensures.registers ∙ ap (λ (v : ChannelState). write_of v.regs c.args.off c.args.width c.args.value) c.self.view_is in
    let runs : d.regs.control.run ≡ true = sym c.is_running.ensures ∙ c.if-not-is_running.false in
    let fifo : d.fifo ≡ s.fifo = ap (λ (v : ChannelState). v.fifo) c.self.view_is in
    written_running s d c.args.off c.args.width c.args.value sound regs runs fifo

pub invariant_of-self-else-not-is_running : goal.invariant_of-self-else-not-is_running
invariant_of-self-else-not-is_running c =
    let sound : IsChannel c.args.self.now = subst IsChannel c.self.view_is c.self.invariant in
    subst IsChannel (sym (running c)) (write_sound c.args.self.now c.args.off c.args.width c.args.value sound)

pub returns-then-not-is_running-clause-state : goal.returns-then-not-is_running-clause-state
returns-then-not-is_running-clause-state c =
    let s : ChannelState = c.args.self.now in
    let d : ChannelState = record { regs = c.write-answer.new.self; fifo = c.clear.new.self.items } in
    let sound : IsChannel s = subst IsChannel c.self.view_is c.self.invariant in
    let regs : d.regs ≡ write_of s.regs c.args.off c.args.width c.args.value =
    c.write-answer.ensures.registers ∙ ap (λ (v : ChannelState). write_of v.regs c.args.off c.args.width c.args.value) c.self.view_is in
    let idle : d.regs.control.run ≡ false = sym c.is_running.ensures ∙ c.if-not-is_running.true in
    written_idle s d c.args.off c.args.width c.args.value sound regs idle c.clear.ensures

pub returns-else-not-is_running-clause-state : goal.returns-else-not-is_running-clause-state
returns-else-not-is_running-clause-state c = running c
