-- The book that the tables and the cell memory hold.
use Rattle.std.specs.Prelude.{ℕ, List, [], ◌∷◌, map, length, take, drop}
use Rattle.book.specs.declared.rows.LineRow.{LineRow}
use Rattle.book.specs.declared.ledgers.Ledger.{Ledger}
use Rattle.book.specs.declared.open.OpenBook.{OpenBook}
use Rattle.book.specs.declared.sealed.SealedBook.{SealedBook}
use Rattle.book.specs.Book.{Book}
use Rattle.book.specs.Cutting.{cut}
use Rattle.book.specs.Tables.{items}

-- lines made of the keywords one after another, with the gap before each
abbrev pub lines_from : {C : Type 0} → List LineRow → List ℕ → List (List C) → Book C
lines_from [] gaps keywords = []
lines_from (l ∷ ls) gaps keywords =
    record {
      number = l.number;
      points = l.points;
      lag = l.lag;
      keywords = take l.keywords keywords;
      gaps = drop 1 (take l.keywords gaps);
    }
    ∷ lines_from ls (drop l.keywords gaps) (drop l.keywords keywords)

-- the book in a ledger, whose cells are in a memory
unfoldable pub held : {C : Type 0} → Ledger → List C → Book C
held b memory = lines_from (items b.lines) (map (λ k. k.gap) (items b.keywords)) (cut (map (λ k. k.length) (items b.keywords)) memory)

-- what an open book holds
abbrev pub open_book : {C : Type 0} → OpenBook C → Book C
open_book b = held b.ledger b.cells.now

-- what a sealed book holds
abbrev pub sealed_book : {C : Type 0} → SealedBook C → Book C
sealed_book b = held b.ledger b.cells.now

-- the places of an open book's memory
abbrev pub places : {C : Type 0} → OpenBook C → ℕ
places b = length b.cells.now
