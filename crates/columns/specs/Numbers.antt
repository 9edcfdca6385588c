-- Sets of small numbers.
use Rattle.std.specs.Prelude.{ℕ, Bool, ◌&&◌, List, nat_le}
use Rattle.columns.specs.declared.numbers.Numbers.{Numbers}
use Rattle.columns.specs.declared.numbers.Members.{Members}
use Rattle.columns.specs.Bits.{bit}
use Rattle.columns.specs.Passing.{passing}

-- the numbers that a set can have, as line numbers and distances between keywords are
abbrev pub is_number : ℕ → Bool
is_number n = nat_le 1 n && nat_le n 128

-- whether a number is a member: only 1 to 128 can be
unfoldable pub member : Numbers → ℕ → Bool
member s = bit s.0

-- the members, in rising order
abbrev pub rising : Numbers → List ℕ
rising s = passing (member s) 1 128

-- the members that an iterator has still to give
abbrev pub to_come : Members → List ℕ
to_come m = rising m.rest
