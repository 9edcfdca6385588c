use Rattle.std.proofs.Common.{◌≡◌, ℕ, ◌&&◌, ltb}
use Rattle.columns.specs.Marks.{mark}
use Rattle.finders.specs.Runs.{ends}
use Rattle.finders.proofs.finding.Finder.ended_all.Given as goal

abbrev pub invariant-loop-keyword : goal.invariant-loop-keyword
invariant-loop-keyword g l = (k : ℕ) → mark l.all k ≡ (ltb k l.keyword && ends (g.Self.Finder.book l.self) (g.Self.Finder.stands l.self) k)
