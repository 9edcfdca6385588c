-- The parts of an automaton's memory, as lists of numbers.
use Rattle.std.specs.Prelude.{ℕ, ◌+◌, ◌*◌, List, slice_index}

-- the number at a position, and 0 past the end
abbrev pub at : List ℕ → ℕ → ℕ
at numbers i = slice_index numbers i

-- where a letter leads from a state: each state has 16 numbers in the table, one a letter
abbrev pub leads : List ℕ → ℕ → ℕ → ℕ
leads next x c = slice_index next (x * 16 + c)
