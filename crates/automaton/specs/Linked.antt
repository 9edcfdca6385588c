-- The tables of an automaton, and where runs stand in a state.
use Rattle.std.specs.Prelude.{◌≡◌, ℕ, Bool, ◌&&◌, List, length, nat_lt}
use Rattle.book.specs.Book.{Book, all_cells}
use Rattle.cells.specs.declared.letters.LetterCell.{LetterCell}
use Rattle.automaton.specs.Memory.{at, leads}
use Rattle.automaton.specs.Pass.{Automaton}
use Rattle.automaton.specs.Places.{places}
use Rattle.automaton.specs.Walk.{meets}

-- the parts of the memory: 16 numbers a state, and then one
abbrev pub Sized : List ℕ → List ℕ → List ℕ → List ℕ → Type 0
Sized next fail states turns = (length next ≡ 16384) × (length fail ≡ 1024) × (length states ≡ 1024) × (length turns ≡ 1024)

-- the automaton of a book, in memory
pub record Linked (b : Book LetterCell) (next fail states turns : List ℕ) : Type 0 where
  pub automaton : Automaton (places b states (length (all_cells b))) (leads next) (at fail) (at turns)

-- in a state a run stands at the places of a book whose states are met on the walk of fail links
abbrev pub stands_at : Book LetterCell → List ℕ → List ℕ → ℕ → ℕ → Bool
stands_at b fail states x p = nat_lt p (length (all_cells b)) && meets (at fail) x (at states p)
