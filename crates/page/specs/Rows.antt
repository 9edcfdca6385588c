-- The rows of a page.
use Rattle.std.specs.Prelude.{ℕ, cond, List, [], ◌∷◌, ◌==◌}

-- a byte in front of the first row
abbrev pub byte_before : ℕ → List (List ℕ) → List (List ℕ)
byte_before b [] = (b ∷ []) ∷ []
byte_before b (row ∷ rows) = (b ∷ row) ∷ rows

-- byte 10 closes a row, and is no part of it; the last row may lack it
unfoldable pub rows_of : List ℕ → List (List ℕ)
rows_of [] = []
rows_of (b ∷ bs) = cond (b == 10) ([] ∷ rows_of bs) (byte_before b (rows_of bs))
