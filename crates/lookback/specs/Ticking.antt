-- One tick of a look-back ring, whatever the book and the past.
use Rattle.std.specs.Prelude.{◌≡◌, ℕ, ◌<◌, ◌≤◌, Bool, false, List, ◌∷◌, length}
use Rattle.book.specs.declared.rows.LineRow.{LineRow}
use Rattle.book.specs.declared.rows.KeywordRow.{KeywordRow}
use Rattle.columns.specs.declared.marks.Column.{Column}
use Rattle.columns.specs.Marks.{mark}
use Rattle.lookback.specs.declared.lookbacks.Lookback.{Lookback}
use Rattle.lookback.specs.Prefixes.{prefix_ends}
use Rattle.lookback.specs.Represented.{Represents}

-- a column has just the keywords of a book that end at a tick
abbrev pub Ended : Column → List KeywordRow → (ℕ → Bool) → Type 0
Ended ended keywords e = ((k : ℕ) → mark ended k ≡ e k) × ((k : ℕ) → length keywords ≤ k → e k ≡ false)

-- a column shows the keywords up to which a prefix of a line ends at the tick to come, at which some keywords end
pub record Shows (l : Lookback) (ended column : Column) : Type 0 where
  pub prefixes : (lines : List LineRow) (keywords : List KeywordRow) (past : List (ℕ → Bool)) (e : ℕ → Bool) → Represents l lines keywords past → Ended ended keywords e
      → (k : ℕ) → k < 512 → mark column k ≡ prefix_ends lines keywords (e ∷ past) k

-- one ring is another one tick later
pub record Ticks (l : Lookback) (ended : Column) (later : Lookback) : Type 0 where
  pub represents : (lines : List LineRow) (keywords : List KeywordRow) (past : List (ℕ → Bool)) (e : ℕ → Bool) → Represents l lines keywords past → Ended ended keywords e
      → Represents later lines keywords (e ∷ past)
