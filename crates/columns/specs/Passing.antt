-- Tests of numbers, and which numbers pass.
use Rattle.std.specs.Prelude.{◌≡◌, ℕ, zero, suc, ◌+◌, ◌<◌, Bool, true, false, cond, List, filter}
use Rattle.std.specs.List.{range_with_len}

-- a test moved up by one: a number passes if the one before it did
abbrev pub one_up : (ℕ → Bool) → ℕ → Bool
one_up p zero = false
one_up p (suc k) = p k

-- how many numbers below n pass
unfoldable pub how_many : (ℕ → Bool) → ℕ → ℕ
how_many p zero = 0
how_many p (suc n) = cond (p n) 1 0 + how_many p n

-- those of the n numbers from a on that pass, in rising order
unfoldable pub passing : (ℕ → Bool) → ℕ → ℕ → List ℕ
passing p a n = filter p (range_with_len a n)

-- m is the least number that passes
abbrev pub IsLeast : (ℕ → Bool) → ℕ → Type 0
IsLeast p m = (p m ≡ true) × ((k : ℕ) → k < m → p k ≡ false)
