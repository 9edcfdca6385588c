-- The rows by which a book tells its lines and keywords.
use Rattle.std.specs.Prelude.{ℕ, ◌+◌, List, [], ◌∷◌, map, length}
use Rattle.book.specs.declared.rows.LineRow.{LineRow}
use Rattle.book.specs.declared.rows.KeywordRow.{KeywordRow}
use Rattle.book.specs.Book.{Book, all_keywords, all_gaps}

-- a row for each line, from the position of its first keyword on
abbrev pub line_rows_from : {C : Type 0} → ℕ → Book C → List LineRow
line_rows_from first [] = []
line_rows_from first (l ∷ ls) =
    record { number = l.number; points = l.points; lag = l.lag; first = first; keywords = length l.keywords }
    ∷ line_rows_from (first + length l.keywords) ls

-- a row for each keyword, from the gaps and lengths, and the place of the first on
abbrev pub keyword_rows_from : ℕ → List ℕ → List ℕ → List KeywordRow
keyword_rows_from first gaps [] = []
keyword_rows_from first [] (n ∷ lengths) = record { gap = 0; first = first; length = n } ∷ keyword_rows_from (first + n) [] lengths
keyword_rows_from first (g ∷ gaps) (n ∷ lengths) = record { gap = g; first = first; length = n } ∷ keyword_rows_from (first + n) gaps lengths

-- the lines of a book
abbrev pub line_rows : {C : Type 0} → Book C → List LineRow
line_rows b = line_rows_from 0 b

-- the keywords of a book
abbrev pub keyword_rows : {C : Type 0} → Book C → List KeywordRow
keyword_rows b = keyword_rows_from 0 (all_gaps b) (map length (all_keywords b))
