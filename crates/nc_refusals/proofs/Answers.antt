-- An operation that comes to its end is not answered with a refusal.
use Rattle.std.proofs.Common.{◌≡◌, true, false, List, refl}
use Rattle.std.proofs.lemmas.Bool.{false≢true}
use Rattle.nc_ops.specs.declared.ops.Op.{Op}
use Rattle.nc_rules.specs.declared.answers.Answer.{Answer}
use Rattle.nc_rules.specs.declared.answers.Answer.TheVariants as answers
use Rattle.nc_rules.specs.declared.lots.Lot.{Lot}
use Rattle.nc_rules.specs.declared.steps.Seen.{Seen}
use Rattle.nc_rules.specs.Lots.{DriverConfig}
use Rattle.nc_rules.specs.Operations.{good_answer}
use Rattle.nc_scripts.proofs.Answers.{is_plain, good_fails}
use Rattle.nc_refusals.specs.Refused.{is_refusal, refuses}

plain_good : (a : Answer) → is_plain a ≡ true → is_refusal a ≡ false
plain_good (answers.Refused r) plain = absurd (false≢true plain)
plain_good (answers.NoSegments r) plain = absurd (false≢true plain)
plain_good _ plain = refl

pub good_is : (f : DriverConfig) (lots : List Lot) (o : Op) (saw : Seen) → refuses (good_answer f lots o saw) ≡ false
good_is f lots o saw = good_fails is_refusal plain_good refl (λ control. refl) f lots o saw
