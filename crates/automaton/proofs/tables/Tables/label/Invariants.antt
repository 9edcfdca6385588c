use Rattle.std.proofs.Common.{◌≡◌, ℕ, ◌+◌, ◌<◌, get_or, take}
use Rattle.book.specs.Cutting.{total}
use Rattle.automaton.specs.Memory.{at}
use Rattle.automaton.specs.Standing.{book_of}
use Rattle.automaton.proofs.Keywords.{lengths}
use Rattle.automaton.proofs.tables.Tables.label.Given as goal

abbrev pub invariant-loop-keyword : goal.invariant-loop-keyword
invariant-loop-keyword l =
    (k : ℕ) → k < l.keyword-index → (i : ℕ) → i < get_or (lengths (book_of l.self)) k 0 → at l.self.states.now (total (take k (lengths (book_of l.self))) + i) ≡ l.state → ⊥
