-- Lists cut into parts.
use Rattle.std.specs.Prelude.{ℕ, ◌+◌, List, [], ◌∷◌, length, take, drop}
use Rattle.std.proofs.Math.Seq.{paste}

-- the sum of some numbers
abbrev pub total : List ℕ → ℕ
total [] = 0
total (n ∷ ns) = n + total ns

-- a list cut into parts of the given lengths, from its start
abbrev pub cut : {X : Type 0} → List ℕ → List X → List (List X)
cut [] xs = []
cut (n ∷ ns) xs = take n xs ∷ cut ns (drop n xs)

-- a memory with the elements at the places from `at` on, and as it was elsewhere
abbrev pub filled : {X : Type 0} → List X → ℕ → List X → List X
filled memory at xs = paste memory at xs (length xs)
