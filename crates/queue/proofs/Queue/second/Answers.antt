use Rattle.std.proofs.Common.{rules}
use Rattle.queue.proofs.Turns.{in_slots, goes_on}
use Rattle.queue.proofs.Queue.second.Goals as goal

pub past-requires : goal.past-requires
past-requires g c = search (rules, in_slots)

pub returns : goal.returns
returns g c = search (rules, goes_on)
