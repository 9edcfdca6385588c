-- A row written into the caller's memory.
use Rattle.std.specs.Prelude.{ℕ, cond, List, ◌++◌, length, drop, Some, None, Option, nat_le}

-- the answer: the row's length, where the memory is long enough
abbrev pub answer : List ℕ → List ℕ → Option ℕ
answer row out = cond (nat_le (length row) (length out)) (Some (length row)) None

-- the memory then: the row at its front and the rest as it was, or all as it was where it is too short
abbrev pub memory : List ℕ → List ℕ → List ℕ
memory row out = cond (nat_le (length row) (length out)) (row ++ drop (length row) out) out
