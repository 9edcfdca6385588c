-- The law that ties the look-back ring's marks to occurrences.
use Rattle.std.specs.Prelude.{◌≡◌, ◌+◌, ◌-◌, Bool, List, ◌∷◌, ◌++◌, reverse, length}
use Rattle.std.specs.List.{AllByRecursion}
use Rattle.book.specs.Book.{Line, Book, all_keywords}
use Rattle.book.specs.Proper.{ProperLine}
use Rattle.book.specs.Rows.{line_rows, keyword_rows}
use Rattle.lookback.specs.Prefixes.{prefix_ends}
use Rattle.occurrences.specs.Occurring.{occurs}
use Rattle.occurrences.specs.Spotting.{pasts}

-- Of a book's lines take one, with some lines before it and some behind it, and any samples, the newest first. The
-- prefix up to the line's last keyword ends with the newest tick exactly when the line occurs ending there.
abbrev pub LastMark : {C S : Type 0} → (C → S → Bool) → Type 0
LastMark {C} {S} hears =
    (before : Book C) (l : Line C) (behind : Book C) (newest : List S) → AllByRecursion ProperLine before → ProperLine l
    → prefix_ends (line_rows (before ++ l ∷ behind)) (keyword_rows (before ++ l ∷ behind)) (pasts hears (before ++ l ∷ behind) newest) (length (all_keywords before) + (length l.keywords - 1))
    ≡ occurs hears l (reverse newest) (length newest)
