use Rattle.std.proofs.Common.{◌≡◌, ℕ, ◌||◌, drop}
use Rattle.columns.specs.Numbers.{member}
use Rattle.bench.specs.Firing.{any_fires}
use Rattle.bench.proofs.desks.Desk.reported.Given as goal

abbrev pub invariant-loop-line : goal.invariant-loop-line
invariant-loop-line l = (n : ℕ) → (member l.reported n || any_fires l.column l.self.standings l.self.count (drop l.line-index l.line-items) n) ≡ any_fires l.column l.self.standings l.self.count l.line-items n
