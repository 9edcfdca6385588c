-- Calls, and histories of them.
use Rattle.std.specs.Prelude.{ℕ, ◌+◌, List, [], ◌∷◌}

-- a call of a bench whose samples are of the type S
pub data Call (S : Type 0) : Type 0 where
  feed : S → Call S
  arm : ℕ → Call S
  rest : ℕ → Call S
  clear : Call S

-- what a bench has been through since its making: the accepted calls, the newest first
abbrev pub History : Type 0 → Type 0
History S = List (Call S)

-- the samples of the ticks since the making or the latest clear, the newest first
abbrev pub samples : {S : Type 0} → History S → List S
samples [] = []
samples (feed s ∷ h) = s ∷ samples h
samples (arm n ∷ h) = samples h
samples (rest n ∷ h) = samples h
samples (clear ∷ h) = []

-- how many ticks were counted since then
abbrev pub count : {S : Type 0} → History S → ℕ
count [] = 0
count (feed s ∷ h) = count h + 1
count (arm n ∷ h) = count h
count (rest n ∷ h) = count h
count (clear ∷ h) = 0
