use Rattle.std.proofs.Common.{◌≡◌, map, take}
use Rattle.bench.specs.Listed.{watched_row}
use Rattle.bench.proofs.lines.listing.watched_lines.Given as goal

abbrev pub invariant-loop-line : goal.invariant-loop-line
invariant-loop-line g l = l.all.items ≡ map (watched_row l.keywords) (take l.line-index l.lines)
