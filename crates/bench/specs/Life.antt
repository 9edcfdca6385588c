-- What a finder and a desk have been through.
use Rattle.std.specs.Prelude.{◌≡◌, ℕ, ◌+◌, ◌<◌, ◌≤◌}
use Rattle.cells.specs.declared.kinds.Cell as Cell
use Rattle.book.specs.Book.{Book, among}
use Rattle.finders.specs.declared.finding.Finder as Finder
use Rattle.history.specs.Calls.{History, samples, count}
use Rattle.history.specs.Reports.{numbers_reported}
use Rattle.standings.specs.Turning.{standing_at}
use Rattle.bench.specs.declared.desks.Desk.{Desk}
use Rattle.bench.specs.Listed.{watched}
use Rattle.bench.specs.Noted.{noted}
use Rattle.matching.specs.Seen.{Sees}
use Rattle.bench.specs.Standings.{standing_in}

-- over a kind of cell and a sort of finder, by what their traits say of them
module _ {C F S X Y : Type 0} (kind : Cell.Ghosts C S X) (sort : Finder.Ghosts F C Y S X) where
  -- a finder and a desk are those of a bench of a book after a history
  pub record Lives (f : F) (d : Desk) (b : Book C) (h : History S) : Type 0 where
    pub sees : Sees kind sort f d.lookback b (samples h)
    pub lines : d.lines.items ≡ watched b
    pub ticks : d.count ≡ count h
    pub standings : (n : ℕ) → standing_at d.standings n ≡ standing_in b h n
    pub recent : (i : ℕ) → i ≤ count h → count h < i + 64 → (n : ℕ) → noted d.recent i n ≡ among n (numbers_reported kind.hears b h i)

  -- a finder and a desk have been through some history of a book
  abbrev pub Lived : F → Desk → Type 0
  Lived f d = (b : Book C) × (h : History S) × Lives f d b h
