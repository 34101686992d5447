use Rattle.std.proofs.Common.{◌≡◌, drop}
use Rattle.nc_rules.specs.World.{slots_back}
use Rattle.nc_holds.specs.Holds.{AreBack}
use Rattle.nc_world.proofs.steps.give_back.Given as goal

abbrev pub invariant-loop-k : goal.invariant-loop-k
invariant-loop-k l = record {
  back : slots_back l.slots (drop l.k-index l.words) ≡ slots_back l.fn.slots l.words;
  held : AreBack l.h l.slots (drop l.k-index l.words);
}
