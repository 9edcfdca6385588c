use Rattle.std.proofs.Common.{rules}
use Rattle.queue.proofs.Turns.{adds}
use Rattle.queue.proofs.Queue.back.Goals as goal

pub returns-clause-adds : goal.returns-clause-adds
returns-clause-adds g c = search (rules, adds)
