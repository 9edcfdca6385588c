use Rattle.std.proofs.Common.{◌≡◌, ℕ, length, take}
use Rattle.standings.specs.Turning.{placed, first_standing}
use Rattle.standings.proofs.tables.turning.all_armed.Given as goal

abbrev pub invariant-loop-line : goal.invariant-loop-line
invariant-loop-line l = record {
  whole : length l.at ≡ 128;
  standings : (n : ℕ) → placed l.at n ≡ first_standing (take l.line-index l.lines) n;
}
