use Rattle.std.proofs.Common.{false, refl}
use Rattle.finders.proofs.Marks.{never}
use Rattle.finders.proofs.rows.places.no_runs.Goals as goal

pub returns : goal.returns
returns c = record { long = refl; none = never false 1023 }
