-- The lines of a book, by what a bench asks of them.
use Rattle.std.specs.Prelude.{◌≡◌, ℕ, ◌+◌, ◌-◌, ◌<◌, ◌≤◌, true, List, [], ◌∷◌, map, length, take, drop, slice_index_or}
use Rattle.book.specs.declared.rows.LineRow.{LineRow}
use Rattle.book.specs.declared.rows.KeywordRow.{KeywordRow}
use Rattle.book.specs.Book.{Book}
use Rattle.book.specs.Cutting.{total}
use Rattle.book.specs.Rules.{points_ok}
use Rattle.occurrences.specs.Occurring.{span}
use Rattle.bench.specs.declared.lines.Watched.{Watched}

-- the span of a line by its rows: the gap before each keyword, and its length
unfoldable pub row_span : List KeywordRow → LineRow → ℕ
row_span keywords l = total (map (λ k. k.gap + k.length) (take l.keywords (drop l.first keywords)))

-- a line by its rows
abbrev pub watched_row : List KeywordRow → LineRow → Watched
watched_row keywords l = record {
  number = l.number;
  points = l.points;
  lag = l.lag;
  last = l.first + l.keywords - 1;
  span = row_span keywords l;
}

-- the lines of a book whose keywords count from a first one on
abbrev pub watched_from : {C : Type 0} → ℕ → Book C → List Watched
watched_from first [] = []
watched_from first (l ∷ b) =
    record { number = l.number; points = l.points; lag = l.lag; last = first + (length l.keywords - 1); span = span l }
    ∷ watched_from (first + length l.keywords) b

-- the lines of a book
abbrev pub watched : {C : Type 0} → Book C → List Watched
watched b = watched_from 0 b

-- a line whose keywords are there, and whose points are within their limits
pub record ListableRow (keywords : List KeywordRow) (l : LineRow) : Type 0 where
  pub inside : l.first + l.keywords ≤ length keywords
  pub points : points_ok l.points ≡ true

-- at most 128 such lines
pub record Listable (lines : List LineRow) (keywords : List KeywordRow) : Type 0 where
  pub few : length lines ≤ 128
  pub each : (i : ℕ) (d : LineRow) → i < length lines → ListableRow keywords (slice_index_or lines i d)
