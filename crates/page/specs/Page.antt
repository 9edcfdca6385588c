-- Entering a page: the answer, and the book and the cell memory after it.
use Rattle.std.specs.Prelude.{ℕ, ◌+◌, List, [], ◌∷◌, length, Some, None, Ok, Err, Option, Result}
use Rattle.cells.specs.declared.letters.LetterCell.{LetterCell}
use Rattle.book.specs.Book.{Book}
use Rattle.book.specs.Entering.{entered, cells_after}
use Rattle.page.specs.declared.faults.Fault.{Fault}
use Rattle.page.specs.declared.faults.Flaw.{Flaw}
use Rattle.page.specs.Row.{row_request}
use Rattle.page.specs.Rows.{rows_of}
use Rattle.page.specs.Told.{entry_flaw}

-- the flaw of the row of that number
abbrev pub fault_at : ℕ → Flaw → Fault
fault_at n f = record { refusal = f.refusal; layer = f.layer; row = n; column = f.column }

-- what comes of entering rows
pub record Outcome : Type 0 where
  pub answer : Result (Unit {0}) Fault
  pub book : Book LetterCell
  pub cells : List LetterCell

-- a flaw stops the page, with book and cells as they are; without one the rows behind follow
abbrev pub after_row : Option Flaw → ℕ → Book LetterCell → List LetterCell → Outcome → Outcome
after_row None n b cells rest = rest
after_row (Some f) n b cells rest = record { answer = Err (fault_at n f); book = b; cells = cells }

-- row after row, the first of them with that number
unfoldable pub enter_rows : ℕ → List (List ℕ) → Book LetterCell → List LetterCell → Outcome
enter_rows n [] b cells = record { answer = Ok tt; book = b; cells = cells }
enter_rows n (row ∷ rows) b cells =
    after_row (entry_flaw b (length cells) row) n b cells
    (enter_rows (n + 1) rows (entered b (length cells) (row_request row)) (cells_after b cells (row_request row)))

-- the rows of a page count from 1
abbrev pub page_outcome : Book LetterCell → List LetterCell → List ℕ → Outcome
page_outcome b cells page = enter_rows 1 (rows_of page) b cells

-- the answer of a page
abbrev pub page_answer : Book LetterCell → List LetterCell → List ℕ → Result (Unit {0}) Fault
page_answer b cells page = (page_outcome b cells page).answer

-- the book after it: the lines of the rows before the first bad one stand behind those before
abbrev pub page_book : Book LetterCell → List LetterCell → List ℕ → Book LetterCell
page_book b cells page = (page_outcome b cells page).book

-- the cell memory after it
abbrev pub page_cells : Book LetterCell → List LetterCell → List ℕ → List LetterCell
page_cells b cells page = (page_outcome b cells page).cells
