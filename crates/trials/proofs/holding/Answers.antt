use Rattle.std.proofs.Common.{refl}
use Rattle.trials.proofs.holding.Goals as goal

pub returns : goal.returns
returns c = record {
  same = refl;
  hold = (refl, (refl, (refl, (refl, (refl, (refl, (refl, (refl, (refl, (refl, (refl, (refl, (refl, (refl, (refl, (refl, tt))))))))))))))));
}
