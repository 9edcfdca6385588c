use Rattle.std.proofs.Common.{◌≡◌, ℕ, ◌<◌, take}
use Rattle.columns.specs.Marks.{mark}
use Rattle.lookback.specs.Prefixes.{opens}
use Rattle.lookback.proofs.links.linking.first_keywords.Given as goal

abbrev pub invariant-loop-line : goal.invariant-loop-line
invariant-loop-line l = (k : ℕ) → k < 512 → mark l.firsts k ≡ opens (take l.line-index l.lines) k
