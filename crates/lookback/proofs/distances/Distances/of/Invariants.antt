use Rattle.std.proofs.Common.{◌≡◌, ◌++◌}
use Rattle.columns.specs.Numbers.{rising, to_come}
use Rattle.lookback.specs.Distances.{listed}
use Rattle.lookback.proofs.distances.Distances.of.Given as goal

-- what is listed, and what is to come, are all
abbrev pub invariant-loop-distance : goal.invariant-loop-distance
invariant-loop-distance l = listed l.distances ++ to_come l.distance-iterator ≡ rising l.fn.near
