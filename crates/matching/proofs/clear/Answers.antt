use Rattle.std.proofs.Common.{rules}
use Rattle.matching.proofs.Matched.{ring_cleared}
use Rattle.matching.proofs.clear.Goals as goal

pub returns : goal.returns
returns g c b newest r = record {
  finder = c.restart.ensures.finder b r.finder.of r.finder.proper;
  ring = ring_cleared g.C.Cell.hears b newest r.ring (search rules);
}
