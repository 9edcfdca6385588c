-- Pages and rows in an input.
use Rattle.std.specs.Prelude.{ℕ, suc, Bool, cond, ◌&&◌, List, [], ◌∷◌, ◌==◌}
use Rattle.std.specs.List.{position_or_len}

-- How many bytes lie before the first empty row: byte 10 closes a row, and the row is empty where the byte stands at the
-- start of it. `start` says whether these bytes are at the start of a row. Without an empty row they are all bytes.
abbrev pub page_length : Bool → List ℕ → ℕ
page_length start [] = 0
page_length start (b ∷ bs) = cond (start && b == 10) 0 (suc (page_length (b == 10) bs))

-- how many bytes lie before the first byte 10: all bytes where there is none
abbrev pub row_length : List ℕ → ℕ
row_length bytes = position_or_len (λ b. b == 10) bytes
