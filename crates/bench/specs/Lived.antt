-- What a bench has been through.
use Rattle.cells.specs.declared.kinds.Cell as Cell
use Rattle.book.specs.Book.{Book}
use Rattle.finders.specs.declared.finding.Finder as Finder
use Rattle.history.specs.Calls.{History}
use Rattle.bench.specs.declared.benches.Bench.{Bench}
use Rattle.bench.specs.Life.{Lives}

-- over a kind of cell and a sort of finder, by what their traits say of them
module _ {C F S X Y : Type 0} (kind : Cell.Ghosts C S X) (sort : Finder.Ghosts F C Y S X) where
  -- a bench of a book has been through a history
  pub record Represents (bench : Bench C F S X Y kind sort) (b : Book C) (h : History S) : Type 0 where
    pub lives : Lives kind sort bench.finder bench.desk b h
