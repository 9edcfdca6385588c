-- What arming and resting do to a standing.
use Rattle.std.specs.Prelude.{ℕ, ◌-◌, cond, ◌&&◌, List, map, Some, None, Option, Ok, Err, Result, slice_index_or, slice_set}
use Rattle.refusals.specs.declared.Refusal.{Refusal}
use Rattle.refusals.specs.declared.Refusal.TheVariants.{NoSuchLine, AlreadyArmed, AlreadyResting}
use Rattle.book.specs.declared.rows.LineRow.{LineRow}
use Rattle.book.specs.Book.{among}
use Rattle.book.specs.Rules.{within}
use Rattle.standings.specs.declared.turns.Standing.{Standing}
use Rattle.standings.specs.declared.turns.Standing.TheVariants.{Armed, Resting}
use Rattle.standings.specs.declared.turns.Turn.{Turn}
use Rattle.standings.specs.declared.turns.Turn.TheVariants.{Arm, Rest}
use Rattle.standings.specs.declared.tables.Standings.{Standings}

-- whether a turn is accepted, or its refusal; a number without a line has no standing, and is refused
abbrev pub answer : Option Standing → Turn → Result (Unit {0}) Refusal
answer None t = Err NoSuchLine
answer (Some (Armed m)) Arm = Err AlreadyArmed
answer (Some (Armed m)) Rest = Ok tt
answer (Some Resting) Arm = Ok tt
answer (Some Resting) Rest = Err AlreadyResting

-- the standing after a turn at a tick count: an accepted arm sets the mark to the count
abbrev pub turned : Option Standing → Turn → ℕ → Option Standing
turned None t count = None
turned (Some (Armed m)) Arm count = Some (Armed m)
turned (Some (Armed m)) Rest count = Some Resting
turned (Some Resting) Arm count = Some (Armed count)
turned (Some Resting) Rest count = Some Resting

-- the standing of a number in a list that has number 1 first: none outside 1 to 128
abbrev pub placed : List (Option Standing) → ℕ → Option Standing
placed at n = cond (within 1 128 n) (slice_index_or at (n - 1) None) None

-- the standing of a number in a table
abbrev pub standing_at : Standings → ℕ → Option Standing
standing_at s n = placed s.at n

-- the table after a turn: the place of the number alone is touched
abbrev pub turned_at : Standings → ℕ → Turn → ℕ → List (Option Standing)
turned_at s n t count = cond (within 1 128 n) (slice_set s.at (n - 1) (turned (slice_index_or s.at (n - 1) None) t count)) s.at

-- just made: each line of a book is armed with mark 0
abbrev pub first_standing : List LineRow → ℕ → Option Standing
first_standing lines n = cond (within 1 128 n && among n (map (λ l. l.number) lines)) (Some (Armed 0)) None
