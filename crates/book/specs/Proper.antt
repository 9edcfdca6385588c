-- What every book keeps to.
use Rattle.std.specs.Prelude.{◌≡◌, ℕ, ◌+◌, ◌<◌, ◌≤◌, true, List, map, length, slice_index_or}
use Rattle.std.specs.List.{list_all, AllByRecursion}
use Rattle.book.specs.declared.rows.KeywordRow.{KeywordRow}
use Rattle.book.specs.Book.{Line, Book, all_keywords, all_cells}
use Rattle.book.specs.Layout.{distinct}
use Rattle.book.specs.Rules.{number_ok, points_ok, lag_ok, count_ok, length_ok, gap_ok}

-- a line within its limits, with one gap between each keyword and the next
pub record ProperLine {C : Type 0} (l : Line C) : Type 0 where
  pub number : number_ok l.number ≡ true
  pub points : points_ok l.points ≡ true
  pub lag : lag_ok l.lag ≡ true
  pub count : count_ok (length l.keywords) ≡ true
  pub between : length l.gaps + 1 ≡ length l.keywords
  pub lengths : list_all (λ k. length_ok (length k)) l.keywords ≡ true
  pub gaps : list_all gap_ok l.gaps ≡ true

-- a book of such lines, whose numbers are distinct, within the book's own limits
pub record Proper {C : Type 0} (b : Book C) : Type 0 where
  pub each : AllByRecursion ProperLine b
  pub apart : distinct (map (λ l. l.number) b) ≡ true
  pub lines : length b ≤ 128
  pub keywords : length (all_keywords b) ≤ 512
  pub cells : length (all_cells b) ≤ 1023

-- a keyword within its limits, whose places are among those that a book may have
pub record Fits (k : KeywordRow) : Type 0 where
  pub some : 1 ≤ k.length
  pub short : k.length ≤ 16
  pub narrow : k.gap ≤ 112
  pub inside : k.first + k.length ≤ 1023

-- each of some keywords
abbrev pub AllFit : List KeywordRow → Type 0
AllFit rows = (k : ℕ) (d : KeywordRow) → k < length rows → Fits (slice_index_or rows k d)
