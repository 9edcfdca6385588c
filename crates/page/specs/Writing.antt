-- A line written as a row, and the law that reading it gives the line back.
use Rattle.std.specs.Prelude.{◌≡◌, ℕ, ◌+◌, ◌-◌, List, [], ◌∷◌, ◌++◌, map, length, replicate, None, Ok, decimal}
use Rattle.std.specs.List.{flat_map, AllByRecursion}
use Rattle.std.specs.Fmt.{signed_decimal}
use Rattle.cells.specs.declared.letters.LetterCell.{LetterCell}
use Rattle.book.specs.Book.{Line, Book}
use Rattle.book.specs.Entering.{Request, line_of, enter_answer, entered, cells_after}
use Rattle.book.specs.Proper.{ProperLine}
use Rattle.page.specs.Flaws.{row_flaw}
use Rattle.page.specs.Page.{Outcome, after_row, page_outcome}
use Rattle.page.specs.Row.{row_request}
use Rattle.page.specs.Told.{book_flaw}

-- text at the end of a field, behind blanks
abbrev pub right : ℕ → List ℕ → List ℕ
right width text = replicate (width - length text) 32 ++ text

-- text at the start of a field, before blanks
abbrev pub left : ℕ → List ℕ → List ℕ
left width text = text ++ replicate (width - length text) 32

-- the letters of a keyword
abbrev pub letters_in : List LetterCell → List ℕ
letters_in keyword = map (λ c. c.letter.byte) keyword

-- the 21 columns of a keyword, with the text of the gap before it
unfoldable pub block_of : List ℕ → List LetterCell → List ℕ
block_of gap keyword = right 4 gap ++ (32 ∷ left 16 (letters_in keyword))

-- keyword after keyword, each with the text of its gap
abbrev pub blocks_of : List (List ℕ) → List (List LetterCell) → List ℕ
blocks_of gaps [] = []
blocks_of [] (w ∷ ws) = block_of [] w ++ blocks_of [] ws
blocks_of (g ∷ gs) (w ∷ ws) = block_of g w ++ blocks_of gs ws

-- the texts of the gaps: none before the first keyword
abbrev pub gap_texts : List ℕ → List (List ℕ)
gap_texts gaps = [] ∷ map decimal gaps

-- number, points and lag, then the keywords
unfoldable pub row_of : Line LetterCell → List ℕ
row_of l =
    right 3 (decimal l.number) ++ (right 5 (signed_decimal l.points) ++ (right 3 (decimal l.lag) ++ blocks_of (gap_texts l.gaps) l.keywords))

-- the row of a line within its limits has no flaw, and holds that line
abbrev pub ReadsBack : Type 0
ReadsBack = (l : Line LetterCell) → ProperLine l → (row_flaw (row_of l) ≡ None) × (line_of (row_request (row_of l)) ≡ l)

-- lines written as a page: a row each, closed by byte 10
abbrev pub page_of : List (Line LetterCell) → List ℕ
page_of [] = []
page_of (l ∷ ls) = row_of l ++ (10 ∷ page_of ls)

-- a line as it is handed to the book
abbrev pub line_request : Line LetterCell → Request LetterCell
line_request l = record {
  number = l.number;
  points = l.points;
  lag = l.lag;
  lengths = map length l.keywords;
  gaps = l.gaps;
  cells = flat_map (λ w. w) l.keywords;
}

-- lines entered one after another, up to the first that the book refuses
unfoldable pub enter_lines : ℕ → List (Line LetterCell) → Book LetterCell → List LetterCell → Outcome
enter_lines n [] b cells = record { answer = Ok tt; book = b; cells = cells }
enter_lines n (l ∷ ls) b cells =
    after_row (book_flaw l.gaps (enter_answer b (length cells) (line_request l))) n b cells
    (enter_lines (n + 1) ls (entered b (length cells) (line_request l)) (cells_after b cells (line_request l)))

-- a page of lines within their limits does what entering the lines in turn does, for every book and memory
abbrev pub EntersLines : Type 0
EntersLines = (ls : List (Line LetterCell)) → AllByRecursion ProperLine ls → (b : Book LetterCell) (cells : List LetterCell) → page_outcome b cells (page_of ls) ≡ enter_lines 1 ls b cells
