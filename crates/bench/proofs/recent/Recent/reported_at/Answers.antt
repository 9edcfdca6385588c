use Rattle.std.proofs.Common.{refl}
use Rattle.bench.specs.Noted.{noted}
use Rattle.bench.proofs.recent.Recent.reported_at.Goals as goal

pub returns : goal.returns
unfolding noted
returns c n = refl
