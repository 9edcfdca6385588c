-- What a row finder keeps of the places: rows of marks.
use Rattle.std.specs.Prelude.{ℕ, Bool, false, List, slice_index_or}

-- whether a place is marked in a row of marks; past the end none is
abbrev pub marked : List Bool → ℕ → Bool
marked marks p = slice_index_or marks p false
