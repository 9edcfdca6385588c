-- What a finder and a look-back ring have seen.
use Rattle.std.specs.Prelude.{◌≡◌, ℕ, ◌+◌, ◌-◌, Bool, List, ◌∷◌, ◌++◌, reverse, length}
use Rattle.cells.specs.declared.kinds.Cell as Cell
use Rattle.book.specs.Book.{Line, Book, all_keywords}
use Rattle.book.specs.Proper.{Proper}
use Rattle.book.specs.Rows.{line_rows, keyword_rows}
use Rattle.columns.specs.declared.marks.Column.{Column}
use Rattle.columns.specs.Marks.{mark}
use Rattle.finders.specs.declared.finding.Finder as Finder
use Rattle.finders.specs.Latest.{runs_among}
use Rattle.lookback.specs.declared.lookbacks.Lookback.{Lookback}
use Rattle.lookback.specs.Represented.{Represents}
use Rattle.lookback.specs.Ticking.{Ended}
use Rattle.occurrences.specs.Occurring.{occurs}
use Rattle.occurrences.specs.Spotting.{spotted_among, pasts}

-- over a kind of cell and a sort of finder, by what their traits say of them
module _ {C F S X Y : Type 0} (kind : Cell.Ghosts C S X) (sort : Finder.Ghosts F C Y S X) where
  -- a symbol is what a sample was read as: the cells that admit the one hear the other
  pub record Heard (y : Y) (s : S) : Type 0 where
    pub alike : (c : C) → sort.admits c y ≡ kind.hears c s

  -- a finder of a book has had some samples, the newest first, and has their runs
  pub record Has (f : F) (b : Book C) (newest : List S) : Type 0 where
    pub of : sort.book f ≡ b
    pub proper : Proper b
    pub runs : (p : ℕ) → sort.stands f p ≡ runs_among kind.hears (all_keywords b) newest p

  -- a finder of a book and a ring have seen some samples: the finder has had them, and the ring shows the prefixes
  pub record Sees (f : F) (r : Lookback) (b : Book C) (newest : List S) : Type 0 where
    pub finder : Has f b newest
    pub ring : Represents r (line_rows b) (keyword_rows b) (pasts kind.hears b newest)

module _ {C S : Type 0} (hears : C → S → Bool) where
  -- a column has just the keywords of a book that end with the newest sample
  pub record Spots (column : Column) (b : Book C) (newest : List S) : Type 0 where
    pub ended : Ended column (keyword_rows b) (spotted_among hears (all_keywords b) newest)

  -- the mark of each line's last keyword tells whether the line occurs ending at the newest tick
  pub record Occur (column : Column) (b : Book C) (newest : List S) : Type 0 where
    pub tells : (before : Book C) (l : Line C) (behind : Book C) → b ≡ before ++ l ∷ behind
        → mark column (length (all_keywords before) + (length l.keywords - 1)) ≡ occurs hears l (reverse newest) (length newest)
