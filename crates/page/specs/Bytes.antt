-- The bytes of a page.
use Rattle.std.specs.Prelude.{ℕ, Bool, ◌&&◌, List, drop, ◌==◌, nat_le}
use Rattle.std.specs.List.{prefix_len}

-- a blank is byte 32
abbrev pub is_blank : ℕ → Bool
is_blank b = b == 32

-- a digit is a byte 48 to 57
abbrev pub is_digit : ℕ → Bool
is_digit b = nat_le 48 b && nat_le b 57

-- how many blanks stand first
abbrev pub blanks : List ℕ → ℕ
blanks bytes = prefix_len is_blank bytes

-- what stands behind the blanks
abbrev pub behind_blanks : List ℕ → List ℕ
behind_blanks bytes = drop (blanks bytes) bytes
