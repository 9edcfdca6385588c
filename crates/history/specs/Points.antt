-- Points.
use Rattle.std.specs.Prelude.{ℕ, ◌-◌, Bool, true, false, [], ◌∷◌, ℤ, pos, ◌+ℤ◌}
use Rattle.book.specs.Book.{Book}
use Rattle.history.specs.Calls.{History}
use Rattle.history.specs.Reports.{reported}

-- the points of tick i: the sum, over the lines of the book reported at tick i - lag, of their points
abbrev pub points : {C S : Type 0} → (C → S → Bool) → Book C → History S → ℕ → ℤ
points hears [] h i = pos 0
points hears (l ∷ b) h i = elim (reported hears h l (i - l.lag)) [ true ↦ l.points | false ↦ pos 0 ] +ℤ points hears b h i
