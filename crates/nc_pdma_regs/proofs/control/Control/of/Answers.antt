use Rattle.nc_pdma_regs.proofs.Bits.{flags_of_six}
use Rattle.nc_pdma_regs.proofs.control.Control.of.Goals as goal

pub returns : goal.returns
returns c =
    let flags =
    flags_of_six c.empty-c.result.0 c.set.new.self.0 c.set-2.new.self.0 c.set-3.new.self.0 c.set-4.new.self.0 c.set-5.new.self.0 c.set-6.new.self.0
    c.args.claim c.args.run c.args.done_ie c.args.error_ie c.args.done c.args.error
    (c.empty-c.ensures tt) (c.set.ensures tt) (c.set-2.ensures tt) (c.set-3.ensures tt) (c.set-4.ensures tt) (c.set-5.ensures tt) (c.set-6.ensures tt) in
    record { bits = flags.0; others = flags.1 }
