-- The alphabet of letters.
use Rattle.std.specs.Prelude.{ℕ, Bool, ◌&&◌, nat_le}

-- the letters A to P are the bytes 65 to 80
abbrev pub is_letter : ℕ → Bool
is_letter b = nat_le 65 b && nat_le b 80
