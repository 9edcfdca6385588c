-- What is wrong with a row, field by field.
use Rattle.std.specs.Prelude.{ℕ, ◌+◌, ◌*◌, cond, List, [], ◌∷◌, map, length, Some, None, Option, ◌==◌}
use Rattle.std.specs.List.{range_with_len}
use Rattle.std.specs.Option.{option_map, option_or}
use Rattle.refusals.specs.declared.Refusal.{Refusal}
use Rattle.refusals.specs.declared.Refusal.TheVariants.{RowLength, BadDecimal, BadKeyword}
use Rattle.page.specs.declared.faults.Flaw.{Flaw}
use Rattle.page.specs.declared.faults.Layer.TheVariants.{Row}
use Rattle.page.specs.Bytes.{blanks}
use Rattle.page.specs.Decimals.{decimal_in, points_in}
use Rattle.page.specs.Letters.{bad_letter}
use Rattle.page.specs.Columns.{number_field, points_field, lag_field, gap_field, between_field, letter_field, keywords_in, is_row_length}

-- a refusal by the row's own bytes
abbrev pub at_column : Refusal → ℕ → Flaw
at_column refusal column = record { refusal = refusal; layer = Row; column = column }

-- a row of a wrong length: told behind its last column
abbrev pub length_flaw : List ℕ → Option Flaw
length_flaw row = cond (is_row_length (length row)) None (Some (at_column RowLength (length row + 1)))

-- a decimal that cannot be read: told at the field's first column
abbrev pub decimal_flaw : {X : Type 0} → ℕ → Option X → Option Flaw
decimal_flaw column (Some x) = None
decimal_flaw column None = Some (at_column BadDecimal column)

-- columns that must be blank: told at the first byte that is not
abbrev pub blank_flaw : ℕ → List ℕ → Option Flaw
blank_flaw column field = cond (blanks field == length field) None (Some (at_column BadKeyword (column + blanks field)))

-- letters that break the rule: told at the first byte that does
abbrev pub letter_flaw : ℕ → List ℕ → Option Flaw
letter_flaw column field = option_map (λ i. at_column BadKeyword (column + i)) (bad_letter field)

-- a gap: blank for the first keyword, and a decimal for the others
unfoldable pub gap_flaw : List ℕ → ℕ → Option Flaw
gap_flaw row k = cond (k == 0) (blank_flaw 12 (gap_field row 0)) (decimal_flaw (12 + 21 * k) (decimal_in (gap_field row k)))

-- a keyword: its gap, its blank, its letters
unfoldable pub keyword_flaw : List ℕ → ℕ → Option Flaw
keyword_flaw row k =
    option_or (gap_flaw row k)
    (option_or (blank_flaw (16 + 21 * k) (between_field row k)) (letter_flaw (17 + 21 * k) (letter_field row k)))

-- the keywords from left to right
abbrev pub keyword_flaws : List ℕ → List (Option Flaw)
keyword_flaws row = map (keyword_flaw row) (range_with_len 0 (keywords_in (length row)))

-- the first that there is
abbrev pub first_of : {X : Type 0} → List (Option X) → Option X
first_of [] = None
first_of (o ∷ os) = option_or o (first_of os)

-- the first flaw of a row: its length, then its fields from left to right
unfoldable pub row_flaw : List ℕ → Option Flaw
row_flaw row = first_of (
    length_flaw row
    ∷ decimal_flaw 1 (decimal_in (number_field row))
    ∷ decimal_flaw 4 (points_in (points_field row))
    ∷ decimal_flaw 9 (decimal_in (lag_field row))
    ∷ keyword_flaws row
    )
