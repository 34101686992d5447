use Rattle.std.proofs.Common.{◌≡◌, ◌∙◌, ap, arith, subst, slice_index_or, slice_set, bit_or}
use Rattle.std.proofs.lemmas.Grind.{common_steps}
use Rattle.nc_pdma_regs.specs.Control.{number_of}
use Rattle.nc_pdma.specs.Channel.{ChannelState, IsChannel, new_channel, channel_write}
use Rattle.nc_pdma.proofs.Claim.{claim_by_control}
use Rattle.nc_machine.proofs.Claims.{claim_set}
use Rattle.nc_machine.proofs.engine.claim.Goals as goal

pub returns : goal.returns
returns c =
    let s : ChannelState = slice_index_or c.args.channels.now.items c.args.c.0 new_channel in
    let same : c.index-channel.result.now ≡ s = grind (arith, common_steps) in
    let value : c.from-2.result ≡ bit_or (number_of s.regs.control) 1 = c.from-2.ensures ∙ ap (λ n. bit_or n 1) (c.control-value.ensures.value ∙ ap (λ (t : ChannelState). number_of t.regs.control) same) in
    let law = claim_by_control s (subst IsChannel same c.control-value.ensures.sound) c.requires.free in
    c.write.ensures ∙ ap (slice_set c.args.channels.now.items c.args.c.0) (ap (channel_write s 0 4) (value ∙ claim_set s.regs c.requires.free) ∙ law)
