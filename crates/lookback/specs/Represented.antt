-- What a look-back ring says of a book and a past.
use Rattle.std.specs.Prelude.{◌≡◌, ℕ, ◌+◌, ◌-◌, ◌%◌, ◌<◌, Bool, ◌&&◌, List, length, drop}
use Rattle.std.specs.List.{list_any}
use Rattle.book.specs.declared.rows.LineRow.{LineRow}
use Rattle.book.specs.declared.rows.KeywordRow.{KeywordRow}
use Rattle.book.specs.Proper.{AllFit}
use Rattle.columns.specs.Numbers.{rising}
use Rattle.lookback.specs.declared.lookbacks.Lookback.{Lookback}
use Rattle.lookback.specs.Linked.{LinkedTo, mark_at}
use Rattle.lookback.specs.Prefixes.{prefix_ends}

-- the slot of the column that came some ticks before the one in a slot
abbrev pub slot : ℕ → ℕ → ℕ
slot from ago = (from + 256 - ago) % 128

-- what the distances in use show, looking back from a slot
abbrev pub looked_back : Lookback → ℕ → ℕ → Bool
looked_back l from k = list_any (λ d. mark_at l.ring (slot from d) k && mark_at l.links.follow (d % 128) k) (rising l.links.near)

-- the ring is one of these keywords after this past
pub record Represents (l : Lookback) (lines : List LineRow) (keywords : List KeywordRow) (past : List (ℕ → Bool)) : Type 0 where
  pub linked : LinkedTo l.links lines keywords (length keywords)
  pub fit : AllFit keywords
  pub seen : (ago : ℕ) → ago < 128 → (k : ℕ) → k < 512 → mark_at l.ring (slot l.newest ago) k ≡ prefix_ends lines keywords (drop ago past) k
