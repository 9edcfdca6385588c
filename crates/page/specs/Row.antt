-- The line that a row without flaw holds.
use Rattle.std.specs.Prelude.{ℕ, List, map, length, drop, pos}
use Rattle.std.specs.List.{range_with_len, flat_map}
use Rattle.std.specs.Option.{unwrap_or}
use Rattle.cells.specs.declared.letters.LetterCell.{LetterCell}
use Rattle.book.specs.Entering.{Request}
use Rattle.page.specs.Decimals.{decimal_in, points_in}
use Rattle.page.specs.Letters.{letters_of}
use Rattle.page.specs.Columns.{number_field, points_field, lag_field, gap_field, letter_field, keywords_in}

-- the gap before a keyword
abbrev pub gap_of : List ℕ → ℕ → ℕ
gap_of row k = unwrap_or (decimal_in (gap_field row k)) 0

-- the cells of a keyword
abbrev pub cells_of : List ℕ → ℕ → List LetterCell
cells_of row k = letters_of (letter_field row k)

-- what the first keywords of a row give, so many of them
abbrev pub lengths_up_to : List ℕ → ℕ → List ℕ
lengths_up_to row n = map (λ k. length (cells_of row k)) (range_with_len 0 n)

abbrev pub gaps_up_to : List ℕ → ℕ → List ℕ
gaps_up_to row n = map (gap_of row) (range_with_len 0 n)

abbrev pub cells_up_to : List ℕ → ℕ → List LetterCell
cells_up_to row n = flat_map (cells_of row) (range_with_len 0 n)

-- the line: its fields' readings; the first keyword has no gap before it
unfoldable pub row_request : List ℕ → Request LetterCell
row_request row = record {
  number = unwrap_or (decimal_in (number_field row)) 0;
  points = unwrap_or (points_in (points_field row)) (pos 0);
  lag = unwrap_or (decimal_in (lag_field row)) 0;
  lengths = lengths_up_to row (keywords_in (length row));
  gaps = drop 1 (gaps_up_to row (keywords_in (length row)));
  cells = cells_up_to row (keywords_in (length row));
}
