-- Entering a line: the answer, and the book and the memory after it.
use Rattle.std.specs.Prelude.{ℕ, ◌+◌, min, Bool, cond, not, ◌&&◌, List, [], ◌∷◌, ◌++◌, length, ℤ, is_ok, Ok, Err, Result, ◌==◌, nat_le}
use Rattle.std.specs.List.{list_all}
use Rattle.refusals.specs.declared.Refusal.{Refusal}
use Rattle.refusals.specs.declared.Refusal.TheVariants.{NumberOutOfRange, NumberTaken, PointsOutOfRange, LagTooLong, KeywordCount, KeywordLength, GapTooLong, BookFull}
use Rattle.book.specs.declared.entries.Entry.{Entry}
use Rattle.book.specs.Book.{Line, Book, all_keywords, all_cells, has_number}
use Rattle.book.specs.Cutting.{total, cut, filled}
use Rattle.book.specs.Rules.{number_ok, points_ok, lag_ok, count_ok, length_ok, gap_ok}

-- a line that is handed in: the keywords' lengths, the gaps between them, and all cells
pub record Request (C : Type 0) : Type 0 where
  pub number : ℕ
  pub points : ℤ
  pub lag : ℕ
  pub lengths : List ℕ
  pub gaps : List ℕ
  pub cells : List C

-- what an entry asks for
abbrev pub request : {C : Type 0} → Entry C → Request C
request e = record {
  number = e.number;
  points = e.points;
  lag = e.lag;
  lengths = e.lengths.now;
  gaps = e.gaps.now;
  cells = e.cells.now;
}

-- 1 to 16 keywords, and one gap fewer
abbrev pub counts_ok : {C : Type 0} → Request C → Bool
counts_ok q = count_ok (length q.lengths) && length q.gaps + 1 == length q.lengths

-- keywords of 1 to 16 cells, which make up the cells given
abbrev pub lengths_ok : {C : Type 0} → Request C → Bool
lengths_ok q = list_all length_ok q.lengths && total q.lengths == length q.cells

-- a book takes 512 keywords, and as many cells as its memory has places, but never over 1,023
abbrev pub has_room : {C : Type 0} → Book C → ℕ → Request C → Bool
has_room b memory q =
    nat_le (length (all_keywords b) + length q.lengths) 512
    && nat_le (length (all_cells b) + length q.cells) (min memory 1023)

-- the rules in the order in which they are checked, each with the refusal where it is broken
abbrev pub rules : {C : Type 0} → Book C → ℕ → Request C → List (Bool × Refusal)
rules b memory q =
    (number_ok q.number, NumberOutOfRange)
    ∷ (not (has_number q.number b), NumberTaken)
    ∷ (points_ok q.points, PointsOutOfRange)
    ∷ (lag_ok q.lag, LagTooLong)
    ∷ (counts_ok q, KeywordCount)
    ∷ (lengths_ok q, KeywordLength)
    ∷ (list_all gap_ok q.gaps, GapTooLong)
    ∷ (has_room b memory q, BookFull)
    ∷ []

-- the refusal of the first rule that is broken
abbrev pub judged : List (Bool × Refusal) → Result (Unit {0}) Refusal
judged [] = Ok tt
judged (r ∷ rs) = cond r.0 (judged rs) (Err r.1)

-- the answer of a book over a memory of that many places
abbrev pub enter_answer : {C : Type 0} → Book C → ℕ → Request C → Result (Unit {0}) Refusal
enter_answer b memory q = judged (rules b memory q)

-- the line that is asked for
abbrev pub line_of : {C : Type 0} → Request C → Line C
line_of q = record {
  number = q.number;
  points = q.points;
  lag = q.lag;
  keywords = cut q.lengths q.cells;
  gaps = q.gaps;
}

-- the book after the call: the line stands behind the others, or nothing changed
abbrev pub entered : {C : Type 0} → Book C → ℕ → Request C → Book C
entered b memory q = cond (is_ok (enter_answer b memory q)) (b ++ line_of q ∷ []) b

-- the memory after the call: the cells fill the next free places, or nothing changed
abbrev pub cells_after : {C : Type 0} → Book C → List C → Request C → List C
cells_after b cells q = cond (is_ok (enter_answer b (length cells) q)) (filled cells (length (all_cells b)) q.cells) cells
