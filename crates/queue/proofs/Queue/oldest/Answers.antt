use Rattle.std.proofs.Common.{rules}
use Rattle.queue.proofs.Turns.{begins}
use Rattle.queue.proofs.Queue.oldest.Goals as goal

pub returns : goal.returns
returns g c = search (rules, begins)
