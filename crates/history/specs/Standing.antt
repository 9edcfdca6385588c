-- Standing and mark of a line, by the accepted calls.
use Rattle.std.specs.Prelude.{ℕ, Bool, true, false, cond, [], ◌∷◌, ◌==◌}
use Rattle.history.specs.Calls.{feed, arm, rest, clear, History, count}

-- whether the line of a number is armed: it is from the making or a clear on, until a rest, and from an arm on again
abbrev pub is_armed : {S : Type 0} → History S → ℕ → Bool
is_armed [] n = true
is_armed (feed s ∷ h) n = is_armed h n
is_armed (arm m ∷ h) n = cond (m == n) true (is_armed h n)
is_armed (rest m ∷ h) n = cond (m == n) false (is_armed h n)
is_armed (clear ∷ h) n = true

-- its mark: the count at its latest arming, 0 where there was none since the making or the latest clear
abbrev pub mark : {S : Type 0} → History S → ℕ → ℕ
mark [] n = 0
mark (feed s ∷ h) n = mark h n
mark (arm m ∷ h) n = cond (m == n) (count h) (mark h n)
mark (rest m ∷ h) n = mark h n
mark (clear ∷ h) n = 0
