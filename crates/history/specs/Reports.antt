-- Reports.
use Rattle.std.specs.Prelude.{ℕ, ◌+◌, ◌-◌, Bool, true, false, ◌&&◌, List, [], ◌∷◌, reverse, ◌==◌, nat_lt}
use Rattle.book.specs.Book.{Line, Book}
use Rattle.occurrences.specs.Occurring.{span, occurs}
use Rattle.history.specs.Calls.{feed, arm, rest, clear, History, samples, count}
use Rattle.history.specs.Standing.{is_armed, mark}

module _ {C S : Type 0} (hears : C → S → Bool) where
  -- whether a feed of a sample, accepted after a history, reports a line: the line is armed, it occurs ending at the new
  -- tick, and its start is greater than its mark
  abbrev pub reports : History S → S → Line C → Bool
  reports h s l = is_armed h l.number && (occurs hears l (reverse (s ∷ samples h)) (count h + 1) && nat_lt (mark h l.number) (count h + 1 - span l + 1))

  -- whether a line is reported at tick i
  abbrev pub reported : History S → Line C → ℕ → Bool
  reported [] l i = false
  reported (feed s ∷ h) l i = elim (i == count h + 1) [ true ↦ reports h s l | false ↦ reported h l i ]
  reported (arm n ∷ h) l i = reported h l i
  reported (rest n ∷ h) l i = reported h l i
  reported (clear ∷ h) l i = false

  -- the numbers of a book's lines that are reported at tick i, in entry order
  abbrev pub numbers_reported : Book C → History S → ℕ → List ℕ
  numbers_reported [] h i = []
  numbers_reported (l ∷ b) h i = elim (reported h l i) [ true ↦ l.number ∷ numbers_reported b h i | false ↦ numbers_reported b h i ]
