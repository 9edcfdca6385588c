-- The limits of a line, as tests of plain numbers.
use Rattle.std.specs.Prelude.{ℕ, Bool, ◌&&◌, ℤ, pos, negsuc, int_le, nat_le}

-- a number from a lowest to a highest, ends counted
abbrev pub within : ℕ → ℕ → ℕ → Bool
within lowest highest n = nat_le lowest n && nat_le n highest

-- line numbers are 1 to 128
abbrev pub number_ok : ℕ → Bool
number_ok n = within 1 128 n

-- points are -999 to 999 (`negsuc 998` is -999)
abbrev pub points_ok : ℤ → Bool
points_ok p = int_le (negsuc 998) p && int_le p (pos 999)

-- a lag is 0 to 63 ticks
abbrev pub lag_ok : ℕ → Bool
lag_ok t = nat_le t 63

-- a line has 1 to 16 keywords
abbrev pub count_ok : ℕ → Bool
count_ok n = within 1 16 n

-- a keyword has 1 to 16 cells
abbrev pub length_ok : ℕ → Bool
length_ok n = within 1 16 n

-- a gap is 0 to 112 ticks
abbrev pub gap_ok : ℕ → Bool
gap_ok g = within 0 112 g
