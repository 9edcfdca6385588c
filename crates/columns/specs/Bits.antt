-- Bits in words of 64, one word after another.
use Rattle.std.specs.Prelude.{ℕ, ◌+◌, ◌-◌, ◌*◌, ◌/◌, ◌%◌, ◌^◌, Bool, ◌&&◌, ◌==◌, nat_le, nat_lt, slice_index}
use Rattle.columns.specs.declared.bits.Bits.{Bits}

-- whether binary digit j of a word is set
unfoldable pub digit : ℕ → ℕ → Bool
digit w j = w / 2 ^ j % 2 == 1

-- the numbers that have a bit in n words: 64 for each word, from the first on
abbrev pub inside : ℕ → ℕ → ℕ → Bool
inside first n k = nat_le first k && nat_lt k (first + 64 * n)

-- whether the bit with the number k is set
unfoldable pub bit : {first n : ℕ} → Bits first n → ℕ → Bool
bit {first} {n} b k = inside first n k && digit (slice_index b.words ((k - first) / 64)) ((k - first) % 64)
