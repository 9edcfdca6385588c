-- What the tables of an automaton hold.
use Rattle.std.specs.Prelude.{ℕ, ◌<◌, Bool}
use Rattle.book.specs.Book.{Book}
use Rattle.book.specs.Stored.{sealed_book}
use Rattle.cells.specs.declared.letters.LetterCell.{LetterCell}
use Rattle.automaton.specs.declared.tables.Tables.{Tables}
use Rattle.automaton.specs.Linked.{stands_at}
use Rattle.automaton.specs.Memory.{at}

-- the book that they were made from
abbrev pub book_of : Tables → Book LetterCell
book_of t = sealed_book t.book

-- the states that there are: those that were given a turn
abbrev pub State : Tables → ℕ → Type 0
State t x = 0 < at t.turns.now x

-- the places at which a run stands in a state
abbrev pub stands_in : Tables → ℕ → ℕ → Bool
stands_in t = stands_at (book_of t) t.fail.now t.states.now
