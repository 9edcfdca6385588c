-- What a letter automaton means.
use Rattle.std.specs.Prelude.{◌≡◌, ℕ, Bool, List}
use Rattle.book.specs.Book.{Book}
use Rattle.cells.specs.declared.letters.Letter.{Letter}
use Rattle.cells.specs.declared.letters.LetterCell.{LetterCell}
use Rattle.cells.specs.Letters.{letter_admits}
use Rattle.finders.specs.Latest.{run}
use Rattle.automaton.specs.declared.letters.LetterAutomaton.{LetterAutomaton}
use Rattle.automaton.specs.Standing.{book_of, stands_in}

-- the book that it was made from
abbrev pub automaton_book : LetterAutomaton → Book LetterCell
automaton_book a = book_of a.tables

-- the places at which a run stands
abbrev pub stands : LetterAutomaton → ℕ → Bool
stands a = stands_in a.tables a.state

-- it took these letters since the making or the latest clear: its runs are those of the letters
abbrev pub Took : LetterAutomaton → List Letter → Type 0
Took a letters = (p : ℕ) → stands a p ≡ run letter_admits (automaton_book a) letters p
