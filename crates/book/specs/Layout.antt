-- How a book's tables must lie, as tests of the rows: what the tables' type promises.
use Rattle.std.specs.Prelude.{ℕ, ◌+◌, Bool, true, not, ◌&&◌, List, [], ◌∷◌, take, drop, ◌==◌}
use Rattle.book.specs.declared.rows.LineRow.{LineRow}
use Rattle.book.specs.declared.rows.KeywordRow.{KeywordRow}
use Rattle.book.specs.Rules.{number_ok, points_ok, lag_ok, count_ok, length_ok, gap_ok}
use Rattle.book.specs.Book.{among}

-- parts that lie one after another, given by their firsts and sizes, from one position to another
abbrev pub laid : {X : Type 0} → (X → ℕ) → (X → ℕ) → List X → ℕ → ℕ → Bool
laid first size [] from to = from == to
laid first size (x ∷ xs) from to = first x == from && laid first size xs (from + size x) to

-- lines over the table of keywords
abbrev pub lines_laid : List LineRow → ℕ → ℕ → Bool
lines_laid = laid (λ l. l.first) (λ l. l.keywords)

-- keywords over the places
abbrev pub keywords_laid : List KeywordRow → ℕ → ℕ → Bool
keywords_laid = laid (λ k. k.first) (λ k. k.length)

-- no gap stands before the first of these keywords
abbrev pub opens : List KeywordRow → Bool
opens [] = true
opens (k ∷ ks) = k.gap == 0

-- each line's keywords open so
abbrev pub opened : List LineRow → List KeywordRow → Bool
opened [] ks = true
opened (l ∷ ls) ks = opens (take l.keywords ks) && opened ls (drop l.keywords ks)

-- a line within its limits
abbrev pub line_ok : LineRow → Bool
line_ok l = number_ok l.number && (points_ok l.points && (lag_ok l.lag && count_ok l.keywords))

-- a keyword within its limits
abbrev pub keyword_ok : KeywordRow → Bool
keyword_ok k = length_ok k.length && gap_ok k.gap

-- no number stands twice
abbrev pub distinct : List ℕ → Bool
distinct [] = true
distinct (n ∷ ns) = not (among n ns) && distinct ns
