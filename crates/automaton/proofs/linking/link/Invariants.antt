use Rattle.std.proofs.Common.{◌-◌, [], ◌∷◌, length}
use Rattle.queue.specs.Queued.{queued}
use Rattle.automaton.specs.Breadth.{Between}
use Rattle.automaton.specs.Linking.{Outside, StaysLent}
use Rattle.automaton.specs.Places.{Places}
use Rattle.automaton.proofs.linking.link.Given as goal

abbrev pub invariant-loop-state : goal.invariant-loop-state
invariant-loop-state l = record {
  outside : (w : Places) → Between w l.initial.linker.next.now l.initial.linker.fail.now l.initial.linker.turns.now (0 ∷ []) 1 → Outside w l.linker;
  lent : StaysLent l.initial.linker l.linker;
}

abbrev pub decreases-loop-state : goal.decreases-loop-state
decreases-loop-state l = 1024 - (l.linker.turn - length (queued l.linker.queue))
