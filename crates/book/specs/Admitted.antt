-- What a line keeps to that is taken, and the rows that it is given.
use Rattle.std.specs.Prelude.{◌≡◌, ℕ, ◌+◌, ◌≤◌, true, false, List, map, length}
use Rattle.std.specs.List.{list_all}
use Rattle.book.specs.declared.rows.LineRow.{LineRow}
use Rattle.book.specs.declared.ledgers.Ledger.{Ledger}
use Rattle.book.specs.Book.{among}
use Rattle.book.specs.Cutting.{total}
use Rattle.book.specs.Entering.{Request}
use Rattle.book.specs.Rules.{number_ok, points_ok, lag_ok, count_ok, length_ok, gap_ok}
use Rattle.book.specs.Tables.{items}

-- the row of a line whose first keyword has that position
abbrev pub line_row : {C : Type 0} → ℕ → Request C → LineRow
line_row first q = record { number = q.number; points = q.points; lag = q.lag; first = first; keywords = length q.lengths }

-- a line that breaks no rule, for a ledger
pub record Admitted {C : Type 0} (b : Ledger) (q : Request C) : Type 0 where
  pub number : number_ok q.number ≡ true
  pub fresh : among q.number (map (λ l. l.number) (items b.lines)) ≡ false
  pub points : points_ok q.points ≡ true
  pub lag : lag_ok q.lag ≡ true
  pub count : count_ok (length q.lengths) ≡ true
  pub between : length q.gaps + 1 ≡ length q.lengths
  pub lengths : list_all length_ok q.lengths ≡ true
  pub cells : total q.lengths ≡ length q.cells
  pub gaps : list_all gap_ok q.gaps ≡ true
  pub keyword_room : length (items b.keywords) + length q.lengths ≤ 512
  pub cell_room : b.cell_count + length q.cells ≤ 1023

-- keywords that a table of so many rows has room for, and whose numbers fit a row
pub record Writable (rows place : ℕ) (lengths gaps : List ℕ) : Type 0 where
  pub between : length gaps + 1 ≡ length lengths
  pub short : list_all length_ok lengths ≡ true
  pub narrow : list_all gap_ok gaps ≡ true
  pub row_room : rows + length lengths ≤ 512
  pub cell_room : place + total lengths ≤ 1023
