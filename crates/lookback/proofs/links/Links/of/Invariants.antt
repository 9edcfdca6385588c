use Rattle.std.proofs.Common.{◌+◌, length}
use Rattle.lookback.specs.Linked.{LinkedTo}
use Rattle.lookback.proofs.links.Links.of.Given as goal

abbrev pub invariant-loop-before : goal.invariant-loop-before
invariant-loop-before l = LinkedTo l.links l.lines l.keywords (length l.yielded + 1)
