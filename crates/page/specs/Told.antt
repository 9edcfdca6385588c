-- What the page tells of a row that the book refuses.
use Rattle.std.specs.Prelude.{ℕ, ◌+◌, ◌*◌, List, Some, None, Ok, Err, Option, Result}
use Rattle.std.specs.Option.{option_or}
use Rattle.std.specs.List.{prefix_len}
use Rattle.refusals.specs.declared.Refusal.{Refusal}
use Rattle.refusals.specs.declared.Refusal.TheVariants.{NumberOutOfRange, NumberTaken, PointsOutOfRange, LagTooLong, KeywordCount, KeywordLength, GapTooLong, BookFull, RowLength, BadDecimal, BadKeyword, NoSymbol, BadBounds, TicksSpent, NoSuchLine, AlreadyArmed, AlreadyResting, TrayFull}
use Rattle.cells.specs.declared.letters.LetterCell.{LetterCell}
use Rattle.book.specs.Book.{Book}
use Rattle.book.specs.Entering.{enter_answer}
use Rattle.book.specs.Rules.{gap_ok}
use Rattle.page.specs.declared.faults.Flaw.{Flaw}
use Rattle.page.specs.declared.faults.Layer.TheVariants as layer
use Rattle.page.specs.Flaws.{row_flaw}
use Rattle.page.specs.Row.{row_request}

-- the column of a refusal by the book, for a line with these gaps: the field that it speaks of, or where the keywords
-- begin; a gap too long is told at the first gap field that holds one. No other refusal arises from a page.
abbrev pub book_column : List ℕ → Refusal → ℕ
book_column gaps NumberOutOfRange = 1
book_column gaps NumberTaken = 1
book_column gaps PointsOutOfRange = 4
book_column gaps LagTooLong = 9
book_column gaps GapTooLong = 12 + 21 * (1 + prefix_len gap_ok gaps)
book_column gaps BookFull = 12
book_column gaps KeywordCount = 12
book_column gaps KeywordLength = 12
book_column gaps RowLength = 12
book_column gaps BadDecimal = 12
book_column gaps BadKeyword = 12
book_column gaps NoSymbol = 12
book_column gaps BadBounds = 12
book_column gaps TicksSpent = 12
book_column gaps NoSuchLine = 12
book_column gaps AlreadyArmed = 12
book_column gaps AlreadyResting = 12
book_column gaps TrayFull = 12

-- the book's own refusal, unaltered, with its column
abbrev pub book_flaw : List ℕ → Result (Unit {0}) Refusal → Option Flaw
book_flaw gaps (Ok x) = None
book_flaw gaps (Err r) = Some (record { refusal = r; layer = layer.Book; column = book_column gaps r })

-- the flaw of a row for a book over a memory of so many places: the row's own, and then the book's
unfoldable pub entry_flaw : Book LetterCell → ℕ → List ℕ → Option Flaw
entry_flaw b memory row = option_or (row_flaw row) (book_flaw (row_request row).gaps (enter_answer b memory (row_request row)))
