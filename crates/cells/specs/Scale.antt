-- The scale of the two gauges.
use Rattle.std.specs.Prelude.{ℕ, Bool, ◌&&◌, nat_le}

-- both gauges read 0 to 9,999
abbrev pub on_scale : ℕ → ℕ → Bool
on_scale rpm oil = nat_le rpm 9999 && nat_le oil 9999

-- a lowest and a highest value on the scale, the lowest not above the highest
abbrev pub are_bounds : ℕ → ℕ → Bool
are_bounds lowest highest = nat_le lowest highest && nat_le highest 9999
