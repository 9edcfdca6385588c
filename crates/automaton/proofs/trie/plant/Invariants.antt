use Rattle.std.proofs.Common.{take}
use Rattle.book.specs.Cutting.{total}
use Rattle.book.specs.Stored.{sealed_book}
use Rattle.automaton.specs.Planting.{HasPlanted, StaysLent}
use Rattle.automaton.proofs.Keywords.{lengths}
use Rattle.automaton.proofs.trie.plant.Given as goal

abbrev pub invariant-loop-keyword : goal.invariant-loop-keyword
invariant-loop-keyword l = record {
  planted : HasPlanted (sealed_book l.book) l.planter (total (take l.keyword-index (lengths (sealed_book l.book))));
  lent : StaysLent l.initial.planter l.planter;
}
