-- The walk of fail links, from a state to the root.
use Rattle.std.specs.Prelude.{◌≡◌, ℕ, zero, suc, ◌<◌, ◌≤◌, Bool, ◌||◌, ◌==◌}

-- whether a state is met on the way from another, itself counted, by at most so many links
unfoldable pub meets_within : ℕ → (ℕ → ℕ) → ℕ → ℕ → Bool
meets_within zero fail x y = x == y
meets_within (suc n) fail x y = x == y || meets_within n fail (fail x) y

-- whether it is met at all: no way has more links than there are states
unfoldable pub meets : (ℕ → ℕ) → ℕ → ℕ → Bool
meets fail x y = meets_within 1024 fail x y

-- The root has the first turn. Each other state that has a turn has a fail link, to a state of an earlier turn.
-- A state that has no turn yet has the number 0 for it.
pub record Links (fail turn : ℕ → ℕ) : Type 0 where
  pub root : (turn 0 ≡ 1) × (fail 0 ≡ 0)
  pub few : (x : ℕ) → turn x ≤ 1024
  pub back : (x : ℕ) → 0 < x → 0 < turn x → (0 < turn (fail x)) × (turn (fail x) < turn x)
