use Rattle.std.proofs.Common.{◌≡◌, ◌*◌, ◌≤◌, drop, length, pos, ◌+ℤ◌, neg_ℤ, ◌≤ℤ◌}
use Rattle.bench.specs.Due.{due_points}
use Rattle.bench.proofs.desks.Desk.points_due.Given as goal

abbrev pub invariant-loop-line : goal.invariant-loop-line
invariant-loop-line l = record {
  sum : l.points +ℤ due_points l.self.recent l.self.count (drop l.line-index l.line-items) ≡ due_points l.self.recent l.self.count l.line-items;
  low : neg_ℤ (pos (32768 * l.line-index)) ≤ℤ l.points;
  high : l.points ≤ℤ pos (32768 * l.line-index);
  few : length l.line-items ≤ 128;
}
