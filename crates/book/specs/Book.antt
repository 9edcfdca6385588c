-- The start book.
use Rattle.std.specs.Prelude.{ℕ, Bool, false, ◌||◌, List, [], ◌∷◌, map, ℤ, ◌==◌}
use Rattle.std.specs.List.{flat_map}

-- A line: a gapped pattern. Its keywords are lists of cells, and one gap lies between each keyword and the next.
-- An occurrence counts its points, as many ticks later as its lag.
pub record Line (C : Type 0) : Type 0 where
  pub number : ℕ
  pub points : ℤ
  pub lag : ℕ
  pub keywords : List (List C)
  pub gaps : List ℕ

-- A book is its lines, in the order in which they were entered.
abbrev pub Book : Type 0 → Type 0
Book C = List (Line C)

-- the keywords of a book, line after line; a keyword is named by its position here, from 0
abbrev pub all_keywords : {C : Type 0} → Book C → List (List C)
all_keywords b = flat_map (λ l. l.keywords) b

-- the cells of a book, keyword after keyword; a place is a position here, from 0
abbrev pub all_cells : {C : Type 0} → Book C → List C
all_cells b = flat_map (λ k. k) (all_keywords b)

-- the gap before each keyword of a book, which is 0 before the first of a line
abbrev pub all_gaps : {C : Type 0} → Book C → List ℕ
all_gaps b = flat_map (λ l. 0 ∷ l.gaps) b

-- whether a number is among others
abbrev pub among : ℕ → List ℕ → Bool
among n [] = false
among n (m ∷ ms) = m == n || among n ms

-- whether a book has a line of that number
abbrev pub has_number : {C : Type 0} → ℕ → Book C → Bool
has_number n b = among n (map (λ l. l.number) b)
