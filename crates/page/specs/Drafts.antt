-- The line of a draft.
use Rattle.std.specs.Prelude.{drop}
use Rattle.cells.specs.declared.letters.LetterCell.{LetterCell}
use Rattle.book.specs.Entering.{Request}
use Rattle.page.specs.declared.drafts.Draft.{Draft}

-- the line that a draft holds; the first keyword has no gap before it
abbrev pub draft_request : Draft → Request LetterCell
draft_request d = record {
  number = d.number;
  points = d.points;
  lag = d.lag;
  lengths = d.lengths.items;
  gaps = drop 1 d.gaps.items;
  cells = d.cells.items;
}
