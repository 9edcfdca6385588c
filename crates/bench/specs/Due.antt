-- Points that fall due at a tick, by the noted reports.
use Rattle.std.specs.Prelude.{ℕ, ◌-◌, cond, List, [], ◌∷◌, ℤ, pos, ◌+ℤ◌}
use Rattle.bench.specs.declared.lines.Watched.{Watched}
use Rattle.bench.specs.declared.recent.Recent.{Recent}
use Rattle.bench.specs.Noted.{noted}

-- the points of a line, if it was reported its lag back
abbrev pub due_of : Recent → ℕ → Watched → ℤ
due_of recent tick w = cond (noted recent (tick - w.lag) w.number) w.points (pos 0)

-- the sum of these
abbrev pub due_points : Recent → ℕ → List Watched → ℤ
due_points recent tick [] = pos 0
due_points recent tick (w ∷ ws) = due_of recent tick w +ℤ due_points recent tick ws
