use Rattle.std.proofs.Common.{arith}
use Rattle.nc_model.proofs.Faults.{fault_found, fault_none}
use Rattle.nc_model.specs.Rights.{channel_may}
use Rattle.nc_own.specs.Books.{owner_in}
use Rattle.nc_own.proofs.Runs.{faults_skipped}
use Rattle.nc_own.proofs.book.Book.channel_fault.Goals as goal

pub returns-in-None-clause-first : goal.returns-in-None-clause-first
returns-in-None-clause-first c =
    fault_found (channel_may (owner_in c.args.self.now.owners) c.args.self.now.grants c.args.c c.args.access) c.args.span c.loop-at.at c.end_of-end.result
    c.loop-at.invariant (omega arith) c.in-None.ensures

pub loop-at-preserved : goal.loop-at-preserved
loop-at-preserved c =
    faults_skipped (channel_may (owner_in c.args.self.now.owners) c.args.self.now.grants c.args.c c.args.access) c.args.span c.loop-at.at c.in-Some.next c.end_of-end.result
    c.loop-at.invariant c.in-Some.ensures

pub returns-clause-first : goal.returns-clause-first
returns-clause-first c =
    fault_none (channel_may (owner_in c.args.self.now.owners) c.args.self.now.grants c.args.c c.args.access) c.args.span c.loop-at.at c.end_of-end.result c.loop-at.invariant (omega arith)
