use Rattle.std.proofs.Common.{◌≡◌, ◌+◌, ◌∷◌, ◌++◌, length, drop}
use Rattle.book.specs.Cutting.{total}
use Rattle.book.specs.Rows.{keyword_rows_from}
use Rattle.book.specs.Tables.{items}
use Rattle.book.proofs.entries.Entry.push_keywords.Given as goal

-- the rows so far, and those of what is still to come, make up all
abbrev pub invariant-loop-i : goal.invariant-loop-i
invariant-loop-i g l = record {
  rows : items l.rows ++ keyword_rows_from l.first (drop l.i (0 ∷ l.self.gaps.now)) (drop l.i l.self.lengths.now) ≡ items l.initial.rows ++ keyword_rows_from l.place (0 ∷ l.self.gaps.now) l.self.lengths.now;
  first : l.first + total (drop l.i l.self.lengths.now) ≡ l.place + total l.self.lengths.now;
  count : length (items l.rows) ≡ length (items l.initial.rows) + l.i;
}
