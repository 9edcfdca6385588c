use Rattle.std.proofs.Common.{length, sym, ap, ◌∙◌, length-append, arith}
use Rattle.columns.specs.Numbers.{to_come}
use Rattle.columns.proofs.Laws.{length-rising}
use Rattle.lookback.specs.Distances.{listed}
use Rattle.lookback.proofs.distances.Distances.of.Goals as goal

pub push-requires : goal.push-requires
push-requires c =
    let before = listed c.loop-distance.distances in
    let steps = c.in-Some.ensures.steps in
    let all = ap length (sym c.loop-distance.invariant) ∙ length-append before (to_come c.loop-distance.distance-iterator) in
    omega (arith, all, ap length steps, length-rising c.args.near)
