use Rattle.std.proofs.Common.{◌≡◌, ◌-◌, cond, eqb}
use Rattle.book.specs.Stored.{sealed_book}
use Rattle.automaton.specs.Memory.{at}
use Rattle.automaton.specs.Planting.{HasPlanted, StaysLent}
use Rattle.automaton.proofs.trie.Planter.plant_keyword.Given as goal

abbrev pub invariant-loop-place : goal.invariant-loop-place
invariant-loop-place l = record {
  planted : HasPlanted (sealed_book l.book) l.self l.place;
  state : l.state ≡ cond (eqb (l.place - l.first) 0) 0 (at l.self.states.now (l.place - 1));
  lent : StaysLent l.initial.self l.self;
}
