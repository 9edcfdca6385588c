use Rattle.std.proofs.Common.{◌≡◌, ◌<◌}
use Rattle.automaton.specs.Memory.{at}
use Rattle.automaton.specs.Standing.{State}
use Rattle.automaton.specs.Walk.{meets}
use Rattle.automaton.proofs.tables.Tables.meets.Given as goal

abbrev pub invariant-loop-met : goal.invariant-loop-met
invariant-loop-met l = (l.met < 1024) × State l.self l.met × (meets (at l.self.fail.now) l.state l.goal ≡ meets (at l.self.fail.now) l.met l.goal)

abbrev pub decreases-loop-met : goal.decreases-loop-met
decreases-loop-met l = at l.self.turns.now l.met
