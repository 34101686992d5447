use Rattle.std.proofs.Common.{rules, ◌-◌, arith}
use Rattle.nc_turns.specs.declared.threads.Turner.TheVariants.{Driver, Channels, Caches}
use Rattle.nc_turns.proofs.Counted.{is_channels, is_caches, is_driver}
use Rattle.nc_turns.proofs.counts.Counts.count.Goals as goal

pub overflow_add-self : goal.overflow_add-self
overflow_add-self c = let few = c.requires.few Channels tt (is_channels c.args.e c.in-ChanRead.is) in search rules

pub overflow_add-self-in-Fill : goal.overflow_add-self-in-Fill
overflow_add-self-in-Fill c = let few = c.requires.few Caches tt (is_caches c.args.e c.in-Fill.is) in search rules

pub bounds-self-from : goal.bounds-self-from
bounds-self-from c = omega (arith, c.from.ensures, c.requires.there c.in-Issue.h (is_driver c.args.e c.in-Issue.h c.in-Issue.is))

pub overflow_add-self-in-Issue : goal.overflow_add-self-in-Issue
overflow_add-self-in-Issue c =
    let mine = is_driver c.args.e c.in-Issue.h c.in-Issue.is in
    let few = c.requires.few (Driver c.in-Issue.h) (c.requires.there c.in-Issue.h mine) mine in
    let same = c.from.ensures in
    rw same (search rules)

pub bounds-self-from-in-Issue : goal.bounds-self-from-in-Issue
bounds-self-from-in-Issue c = omega (arith, c.from.ensures, c.requires.there c.in-Issue.h (is_driver c.args.e c.in-Issue.h c.in-Issue.is))
