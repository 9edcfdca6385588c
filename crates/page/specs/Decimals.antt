-- Decimals, right-justified in their fields.
use Rattle.std.specs.Prelude.{ℕ, zero, suc, ◌+◌, ◌-◌, ◌*◌, Bool, cond, not, ◌&&◌, ◌||◌, List, [], ◌∷◌, length, drop, ℤ, pos, negsuc, Some, None, Option, ◌==◌, nat_lt, slice_index}
use Rattle.std.specs.List.{list_all}
use Rattle.page.specs.Bytes.{is_digit, behind_blanks}

-- one byte, or more of which the first is no 0
abbrev pub begins_well : List ℕ → Bool
begins_well ds = length ds == 1 || (nat_lt 1 (length ds) && not (slice_index ds 0 == 48))

-- a whole number as it is written: one digit or more, and no leading zero
abbrev pub is_whole : List ℕ → Bool
is_whole ds = begins_well ds && list_all is_digit ds

-- the number that digits write behind a number that is already read
unfoldable pub value_after : ℕ → List ℕ → ℕ
value_after n [] = n
value_after n (d ∷ ds) = value_after (n * 10 + (d - 48)) ds

-- the whole number that bytes write, where they do
unfoldable pub whole_of : List ℕ → Option ℕ
whole_of ds = cond (is_whole ds) (Some (value_after 0 ds)) None

-- a number below 0, where there was a minus; -0 is improper
abbrev pub below_zero : Option ℕ → Option ℤ
below_zero None = None
below_zero (Some zero) = None
below_zero (Some (suc n)) = Some (negsuc n)

-- a number with no minus
abbrev pub not_below : Option ℕ → Option ℤ
not_below None = None
not_below (Some n) = Some (pos n)

-- a whole number with at most one minus (byte 45) directly before its first digit
abbrev pub signed_of : List ℕ → Option ℤ
signed_of bytes = cond (slice_index bytes 0 == 45) (below_zero (whole_of (drop 1 bytes))) (not_below (whole_of bytes))

-- the reading of a decimal field: a whole number behind blanks, up to the end of the field
unfoldable pub decimal_in : List ℕ → Option ℕ
decimal_in field = whole_of (behind_blanks field)

-- the reading of the points: the same, and a minus may stand
unfoldable pub points_in : List ℕ → Option ℤ
points_in field = signed_of (behind_blanks field)
