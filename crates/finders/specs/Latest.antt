-- Runs by the symbols that were taken: the law that every finder keeps over whole runs.
use Rattle.std.specs.Prelude.{ℕ, ◌+◌, ◌-◌, Bool, true, false, cond, ◌&&◌, List, [], ◌∷◌, reverse, length, take, nat_lt}
use Rattle.book.specs.Book.{Book, all_keywords}

-- whether cells admit symbols, one for one, from the front; symbols left over do not matter
abbrev pub admit_all : {C S : Type 0} → (C → S → Bool) → List C → List S → Bool
admit_all admits [] symbols = true
admit_all admits (c ∷ cs) [] = false
admit_all admits (c ∷ cs) (y ∷ ys) = admits c y && admit_all admits cs ys

-- Whether a run stands at a place of some keywords after symbols, the newest first: the keyword's cells up to that
-- place admit the latest symbols, one for one, the cell there the newest.
abbrev pub runs_among : {C S : Type 0} → (C → S → Bool) → List (List C) → List S → ℕ → Bool
runs_among admits [] newest p = false
runs_among admits (w ∷ ws) newest p =
    cond (nat_lt p (length w)) (admit_all admits (reverse (take (p + 1) w)) newest) (runs_among admits ws newest (p - length w))

-- whether a run stands at a place of a book after symbols, in the order in which they were taken
abbrev pub run : {C S : Type 0} → (C → S → Bool) → Book C → List S → ℕ → Bool
run admits b symbols p = runs_among admits (all_keywords b) (reverse symbols) p
