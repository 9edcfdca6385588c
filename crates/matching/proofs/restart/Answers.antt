use Rattle.std.proofs.Common.{rules}
use Rattle.matching.proofs.Matched.{had_none}
use Rattle.matching.proofs.restart.Goals as goal

pub returns-clause-finder : goal.returns-clause-finder
returns-clause-finder g c = had_none g.C.Cell g.F.Finder c.args.finder.now _ (search rules) (search rules)
