-- The places of a book, each with a state.
use Rattle.std.specs.Prelude.{ℕ, ◌-◌, ◌<◌, cond, List, map}
use Rattle.book.specs.Book.{Book, all_cells}
use Rattle.cells.specs.declared.letters.LetterCell.{LetterCell}
use Rattle.finders.specs.Runs.{begins}
use Rattle.automaton.specs.Memory.{at}

-- How many places there are; and of each its letter, from 0 to 15, the state that stands for it, and the state before
-- it: that of the place before, or the root, state 0, for the first place of a keyword.
pub record Places : Type 0 where
  pub count : ℕ
  pub letter : ℕ → ℕ
  pub state : ℕ → ℕ
  pub before : ℕ → ℕ

-- There are 1,024 states at most, and the root stands for no place.
pub record Sound (w : Places) : Type 0 where
  pub state : (p : ℕ) → p < w.count → (0 < w.state p) × (w.state p < 1024)
  pub before : (p : ℕ) → p < w.count → w.before p < 1024
  pub letter : (p : ℕ) → p < w.count → w.letter p < 16

-- the letters of cells, by their places in the alphabet
abbrev pub letters : List LetterCell → List ℕ
letters cells = map (λ c. c.letter.byte - 65) cells

-- the state before a place, by the states of all
abbrev pub before : Book LetterCell → List ℕ → ℕ → ℕ
before b states p = cond (begins b p) 0 (at states (p - 1))

-- the first `count` places of a book
abbrev pub places : Book LetterCell → List ℕ → ℕ → Places
places b states count = record { count = count; letter = at (letters (all_cells b)); state = at states; before = before b states }
