-- The lines' marks stay apart, though they are packed side by side.
use Rattle.std.specs.Prelude.{◌≡◌, ℕ, ◌≤◌, Bool, true, List, drop}
use Rattle.book.specs.declared.rows.LineRow.{LineRow}
use Rattle.book.specs.declared.rows.KeywordRow.{KeywordRow}
use Rattle.lookback.specs.Prefixes.{opens, ended_now, prefix_ends}

-- Let a line's first keyword be f, and k one of its keywords. Two pasts in which the line's keywords f to k ended at the
-- same ticks show the same mark at k, whatever the keywords of other lines did.
abbrev pub OwnMarks : Type 0
OwnMarks =
    (lines : List LineRow) (keywords : List KeywordRow) (p q : List (ℕ → Bool)) (f k : ℕ)
    → f ≤ k → opens lines f ≡ true
    → ((ago j : ℕ) → f ≤ j → j ≤ k → ended_now (drop ago p) j ≡ ended_now (drop ago q) j)
    → prefix_ends lines keywords p k ≡ prefix_ends lines keywords q k
