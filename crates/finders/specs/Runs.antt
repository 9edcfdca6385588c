-- What a finder does: runs at the places of a book.
use Rattle.std.specs.Prelude.{ℕ, zero, suc, ◌+◌, ◌-◌, Bool, false, ◌&&◌, ◌||◌, List, [], ◌∷◌, map, nat_lt}
use Rattle.book.specs.declared.rows.KeywordRow.{KeywordRow}
use Rattle.book.specs.Book.{Book, all_cells, among}
use Rattle.book.specs.Rows.{keyword_rows}

-- whether there is an element at a position, and it passes a test
abbrev pub passes : {X : Type 0} → (X → Bool) → List X → ℕ → Bool
passes test [] p = false
passes test (x ∷ xs) zero = test x
passes test (x ∷ xs) (suc p) = passes test xs p

-- whether a place is the first of its keyword
abbrev pub begins : {C : Type 0} → Book C → ℕ → Bool
begins b p = among p (map (λ k. k.first) (keyword_rows b))

-- Whether a run stands at a place once a symbol was taken that just the cells of `admits` admit: the place's cell is
-- one of them, and the place is the first of its keyword or a run stood one place earlier.
abbrev pub taken : {C : Type 0} → Book C → (C → Bool) → (ℕ → Bool) → ℕ → Bool
taken b admits stood p = passes admits (all_cells b) p && (begins b p || (nat_lt 0 p && stood (p - 1)))

-- whether a run stands at the last place of the k-th of some keywords; no where there is no such keyword
abbrev pub ends_among : List KeywordRow → (ℕ → Bool) → ℕ → Bool
ends_among [] stands k = false
ends_among (r ∷ rs) stands zero = stands (r.first + r.length - 1)
ends_among (r ∷ rs) stands (suc k) = ends_among rs stands k

-- whether a keyword of a book has ended
abbrev pub ends : {C : Type 0} → Book C → (ℕ → Bool) → ℕ → Bool
ends b stands k = ends_among (keyword_rows b) stands k
