-- What the code finds is what the definition tells.
use Rattle.std.proofs.Common.{◌≡◌, ◌++◌, length, true, false, sym, ◌∙◌, ap}
use Rattle.std.specs.Prelude.{Some, None}
use Rattle.nc_num.specs.Memory.{span}
use Rattle.nc_pdma_regs.specs.Moves.{bytes_read}
use Rattle.nc_pdma.specs.declared.channel.ChanStep.TheVariants.{Moved, Error}
use Rattle.nc_pdma.specs.Bus.{place_of}
use Rattle.nc_pdma.specs.Channel.{ChannelState}
use Rattle.nc_pdma.specs.Steps.{may_read, read_len, read_next, read_step}
use Rattle.nc_pdma.proofs.StepLaws.{read_idle, read_goes}
use Rattle.nc_pdma.proofs.channel.Channel.read_step.Goals as goal

pub returns-then-not-may_read-clause-step : goal.returns-then-not-may_read-clause-step
returns-then-not-may_read-clause-step c = sym (read_idle c.args.self.now c.args.ram.now (sym c.may_read.ensures ∙ c.if-not-may_read.true))

pub returns-then-not-may_read-clause-state : goal.returns-then-not-may_read-clause-state
returns-then-not-may_read-clause-state c =
    sym (ap (read_next c.args.self.now) (read_idle c.args.self.now c.args.ram.now (sym c.may_read.ensures ∙ c.if-not-may_read.true)))

error : (c : goal.After-fail) → read_step c.args.self.now c.args.ram.now ≡ Error c.args.self.now.regs.exec.source (read_len c.args.self.now)
error c =
    let s : ChannelState = c.args.self.now in
    let may : may_read s ≡ true = sym c.may_read.ensures ∙ c.if-not-may_read.false in
    let source : c.exec-bus.result.source ≡ s.regs.exec.source = ap (λ t. t.source) c.exec-bus.ensures ∙ ap (λ (v : ChannelState). v.regs.exec.source) c.self.view_is in
    let same : place_of c.len.result c.exec-bus.result.source c.read_len-len.result ≡ place_of (length c.args.ram.now) s.regs.exec.source (read_len s) =
    λ i. place_of (c.len.ensures.value i) (source i) (c.read_len-len.ensures i) in
    read_goes s c.args.ram.now None may (sym same ∙ (sym c.place_on_bus.ensures ∙ c.in_default.is))

pub returns-in_default-clause-step : goal.returns-in_default-clause-step
returns-in_default-clause-step c =
    let source : c.exec-bus.result.source ≡ c.args.self.now.regs.exec.source =
    ap (λ t. t.source) c.exec-bus.ensures ∙ ap (λ (v : ChannelState). v.regs.exec.source) c.self.view_is in
    (λ i. Error (source i) (c.read_len-len.ensures i)) ∙ sym (error c)

pub returns-in_default-clause-state : goal.returns-in_default-clause-state
returns-in_default-clause-state c = c.fail.ensures ∙ sym (ap (read_next c.args.self.now) (error c))

moved : (c : goal.After-read_on) → read_step c.args.self.now c.args.ram.now
    ≡ Moved (record { at = c.in-Some.at; len = read_len c.args.self.now }) (span c.args.ram.now c.in-Some.at (read_len c.args.self.now)) false
moved c =
    let s : ChannelState = c.args.self.now in
    let may : may_read s ≡ true = sym c.may_read.ensures ∙ c.if-not-may_read.false in
    let source : c.exec-bus.result.source ≡ s.regs.exec.source = ap (λ t. t.source) c.exec-bus.ensures ∙ ap (λ (v : ChannelState). v.regs.exec.source) c.self.view_is in
    let same : place_of c.len.result c.exec-bus.result.source c.read_len-len.result ≡ place_of (length c.args.ram.now) s.regs.exec.source (read_len s) =
    λ i. place_of (c.len.ensures.value i) (source i) (c.read_len-len.ensures i) in
    read_goes s c.args.ram.now (Some c.in-Some.at) may (sym same ∙ (sym c.place_on_bus.ensures ∙ c.in-Some.is))

bytes_are : (c : goal.After-read_on) → c.read-bytes.result ≡ span c.args.ram.now c.in-Some.at (read_len c.args.self.now)
bytes_are c = c.read-bytes.ensures.value ∙ ap (span c.args.ram.now c.in-Some.at) c.read_len-len.ensures

pub returns-clause-step : goal.returns-clause-step
returns-clause-step c = (λ i. Moved (record { at = c.in-Some.at; len = c.read_len-len.ensures i }) (bytes_are c i) false) ∙ sym (moved c)

pub returns-clause-state : goal.returns-clause-state
returns-clause-state c =
    let s : ChannelState = c.args.self.now in
    let len : c.from.result ≡ read_len s = c.from.ensures ∙ c.read_len-len.ensures in
    let before : c.self.inside.regs ≡ s.regs = ap (λ (v : ChannelState). v.regs) c.self.view_is in
    let regs : c.read_on.new.self ≡ bytes_read s.regs (read_len s) = c.read_on.ensures ∙ (λ i. bytes_read (before i) (len i)) in
    let held : c.self.inside.fifo.items ≡ s.fifo = ap (λ (v : ChannelState). v.fifo) c.self.view_is in
    let bytes = c.as_slice.ensures.value ∙ bytes_are c in
    let fifo : c.put_in.new.fifo.items ≡ s.fifo ++ span c.args.ram.now c.in-Some.at (read_len s) = c.put_in.ensures ∙ (λ i. held i ++ bytes i) in
    (λ i. record { regs = regs i; fifo = fifo i }) ∙ sym (ap (read_next s) (moved c))
