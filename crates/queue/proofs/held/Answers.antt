use Rattle.std.proofs.Common.{sym, ◌∙◌}
use Rattle.queue.proofs.Turns.{length-waiting}
use Rattle.queue.proofs.held.Goals as goal

pub returns-clause-value : goal.returns-clause-value
returns-clause-value g c = λ head. c.min.ensures ∙ sym (length-waiting c.args.slots.now head c.args.count)
