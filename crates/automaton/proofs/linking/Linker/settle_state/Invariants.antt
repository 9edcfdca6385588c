use Rattle.std.proofs.Common.{◌≡◌}
use Rattle.automaton.specs.Linking.{Inside, StaysLent}
use Rattle.automaton.specs.Memory.{at}
use Rattle.automaton.specs.Places.{Places}
use Rattle.automaton.proofs.linking.Linker.settle_state.Given as goal

abbrev pub invariant-loop-letter : goal.invariant-loop-letter
invariant-loop-letter l = record {
  within : (w : Places) → Inside w l.initial.self l.state 0 → Inside w l.self l.state l.letter;
  turn : at l.self.turns.now l.state ≡ at l.initial.self.turns.now l.state;
  lent : StaysLent l.initial.self l.self;
}
