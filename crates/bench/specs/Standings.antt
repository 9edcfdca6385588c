-- Standings by the history.
use Rattle.std.specs.Prelude.{ℕ, cond, Some, None, Option}
use Rattle.book.specs.Book.{Book, has_number}
use Rattle.history.specs.Calls.{History}
use Rattle.history.specs.Standing.{is_armed, mark}
use Rattle.standings.specs.declared.turns.Standing.{Standing}
use Rattle.standings.specs.declared.turns.Standing.TheVariants.{Armed, Resting}
use Rattle.bench.specs.declared.states.LineState.{LineState}
use Rattle.bench.specs.declared.states.LineState.TheVariants as state

-- the standing of a number, with its mark
abbrev pub standing_in : {C S : Type 0} → Book C → History S → ℕ → Option Standing
standing_in b h n = cond (has_number n b) (Some (cond (is_armed h n) (Armed (mark h n)) Resting)) None

-- what the standing question answers: armed or resting, or absent where the book has no such number
abbrev pub standing_answer : {C S : Type 0} → Book C → History S → ℕ → Option LineState
standing_answer b h n = cond (has_number n b) (Some (cond (is_armed h n) state.Armed state.Resting)) None

-- what is shown of a line's standing: not its mark
abbrev pub shown_of : Standing → LineState
shown_of (Armed m) = state.Armed
shown_of Resting = state.Resting

-- and of a number's
abbrev pub shown : Option Standing → Option LineState
shown None = None
shown (Some s) = Some (shown_of s)
