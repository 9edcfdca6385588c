-- What letters and letter cells mean.
use Rattle.std.specs.Prelude.{ℕ, Bool, Option, Result, ◌==◌}
use Rattle.std.specs.Option.{option_map, ok_or}
use Rattle.refusals.specs.declared.Refusal.{Refusal}
use Rattle.refusals.specs.declared.Refusal.TheVariants.{NoSymbol}
use Rattle.cells.specs.declared.letters.Letter.{Letter}
use Rattle.cells.specs.declared.letters.LetterCell.{LetterCell}
use Rattle.cells.specs.Alphabet.{is_letter}
use Rattle.cells.specs.When.{when}

-- the letter that a byte is read as
abbrev pub letter_of : ℕ → Option Letter
letter_of b = when (is_letter b) (λ ok. record { byte = b; ok = ok })

-- the cell of a byte's letter, or the refusal
abbrev pub letter_cell_of : ℕ → Result LetterCell Refusal
letter_cell_of b = ok_or (option_map (λ l. record { letter = l }) (letter_of b)) NoSymbol

-- a letter cell admits its own letter only
abbrev pub letter_admits : LetterCell → Letter → Bool
letter_admits c y = c.letter.byte == y.byte

-- so of all bytes it admits the one of its letter
abbrev pub letter_hears : LetterCell → ℕ → Bool
letter_hears c b = c.letter.byte == b
