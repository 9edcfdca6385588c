-- The rows that are printed. `decimal` and `signed` are the library's, which its formatting writes: decimals without
-- leading zeros, and a minus directly before the first digit of a negative one.
use Rattle.std.specs.Prelude.{ℕ, List, [], ◌∷◌, ◌++◌, ℤ, codes, decimal}
use Rattle.std.specs.List.{flat_map}
use Rattle.std.specs.Fmt.{signed_decimal}
use Rattle.refusals.specs.declared.Refusal.{Refusal}
use Rattle.refusals.specs.Numbers.{number_of}
use Rattle.printout.specs.Fields.{right}

-- line numbers in their order, each in 4 columns
unfoldable pub number_fields : List ℕ → List ℕ
number_fields numbers = flat_map (λ n. right 4 (decimal n)) numbers

-- the row of a tick: the tick in 10 columns, the points in 8, each reported number in 4, and byte 10
abbrev pub tick_row : ℕ → ℤ → List ℕ → List ℕ
tick_row tick points numbers = right 10 (decimal tick) ++ right 8 (signed_decimal points) ++ number_fields numbers ++ 10 ∷ []

-- the row of a refusal: the word, the refusal's number in 4 columns, the row in 6, the column in 11, and byte 10
abbrev pub refusal_row : Refusal → ℕ → ℕ → List ℕ
refusal_row refusal row column = codes "refused" ++ right 4 (decimal (number_of refusal)) ++ right 6 (decimal row) ++ right 11 (decimal column) ++ 10 ∷ []
