-- Prefixes of lines, by the keywords that end at each tick.
use Rattle.std.specs.Prelude.{ℕ, zero, suc, ◌+◌, Bool, false, ◌&&◌, ◌||◌, List, [], ◌∷◌, map, drop}
use Rattle.book.specs.declared.rows.LineRow.{LineRow}
use Rattle.book.specs.declared.rows.KeywordRow.{KeywordRow}
use Rattle.book.specs.Book.{among}

-- whether a keyword is the first of its line
abbrev pub opens : List LineRow → ℕ → Bool
opens lines k = among k (map (λ l. l.first) lines)

-- the distance from the end of the keyword before a keyword to its own end: the gap between them and its length
abbrev pub reach : List KeywordRow → ℕ → ℕ
reach [] k = 0
reach (r ∷ rs) zero = r.gap + r.length
reach (r ∷ rs) (suc k) = reach rs k

-- A past has the ticks, the newest first: for each, which keywords ended at it. Whether keyword k ended at the newest:
abbrev pub ended_now : List (ℕ → Bool) → ℕ → Bool
ended_now [] k = false
ended_now (e ∷ past) k = e k

-- Whether the prefix of a line up to keyword k ends with the newest tick: the keyword ends there, and it is the first of
-- its line or the prefix before it ended at its own distance back.
unfoldable pub prefix_ends : List LineRow → List KeywordRow → List (ℕ → Bool) → ℕ → Bool
prefix_ends lines keywords past zero = ended_now past zero && opens lines zero
prefix_ends lines keywords past (suc k) = ended_now past (suc k) && (opens lines (suc k) || prefix_ends lines keywords (drop (reach keywords (suc k)) past) k)
