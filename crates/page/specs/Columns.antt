-- The columns of a row. Columns count from 1, keywords from 0.
use Rattle.std.specs.Prelude.{◌≡◌, ℕ, ◌+◌, ◌-◌, ◌*◌, ◌/◌, ◌≤◌, Bool, ◌&&◌, List, length, take, drop, ◌==◌}
use Rattle.book.specs.Rules.{count_ok}

-- so many bytes of a row, from a column on
unfoldable pub from_column : ℕ → ℕ → List ℕ → List ℕ
from_column column width row = take width (drop (column - 1) row)

abbrev pub number_field : List ℕ → List ℕ
number_field row = from_column 1 3 row

abbrev pub points_field : List ℕ → List ℕ
points_field row = from_column 4 5 row

abbrev pub lag_field : List ℕ → List ℕ
lag_field row = from_column 9 3 row

-- each keyword has 21 columns: 4 for the gap before it
abbrev pub gap_field : List ℕ → ℕ → List ℕ
gap_field row k = from_column (12 + 21 * k) 4 row

-- 1 that is blank
abbrev pub between_field : List ℕ → ℕ → List ℕ
between_field row k = from_column (16 + 21 * k) 1 row

-- and 16 for letters
abbrev pub letter_field : List ℕ → ℕ → List ℕ
letter_field row k = from_column (17 + 21 * k) 16 row

-- the keywords that a row of so many bytes has room for
abbrev pub keywords_in : ℕ → ℕ
keywords_in bytes = (bytes - 11) / 21

-- a row has 11 + 21 x keywords bytes, for 1 to 16 keywords
abbrev pub is_row_length : ℕ → Bool
is_row_length bytes = count_ok (keywords_in bytes) && bytes == 11 + 21 * keywords_in bytes

-- a row of a right length
pub record Sized (row : List ℕ) : Type 0 where
  pub exact : length row ≡ 11 + 21 * keywords_in (length row)
  pub some : 1 ≤ keywords_in (length row)
  pub few : keywords_in (length row) ≤ 16
