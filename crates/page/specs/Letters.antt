-- Letter fields.
use Rattle.std.specs.Prelude.{ℕ, ◌+◌, cond, List, [], ◌∷◌, length, drop, Some, None, Ok, Err, Option, Result, ◌==◌}
use Rattle.refusals.specs.declared.Refusal.{Refusal}
use Rattle.cells.specs.declared.letters.LetterCell.{LetterCell}
use Rattle.cells.specs.Letters.{letter_cell_of}
use Rattle.page.specs.Bytes.{blanks}

-- a cell before others; where a byte makes no cell, the letters end
abbrev pub cell_before : Result LetterCell Refusal → List LetterCell → List LetterCell
cell_before (Ok c) cs = c ∷ cs
cell_before (Err r) cs = []

-- the cells of the letters that stand first
unfoldable pub letters_of : List ℕ → List LetterCell
letters_of [] = []
letters_of (b ∷ bs) = cell_before (letter_cell_of b) (letters_of bs)

-- where letters and the blanks behind them end
abbrev pub letters_end : List ℕ → ℕ
letters_end field = length (letters_of field) + blanks (drop (length (letters_of field)) field)

-- the position, from 0, of the first byte that breaks the rule of a letter field: one or more letters, then blanks to
-- its end
unfoldable pub bad_letter : List ℕ → Option ℕ
bad_letter field =
    cond (length (letters_of field) == 0) (Some 0)
    (cond (letters_end field == length field) None (Some (letters_end field)))
