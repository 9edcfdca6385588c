-- What links say of a book's keywords.
use Rattle.std.specs.Prelude.{◌≡◌, ℕ, suc, ◌%◌, ◌<◌, Bool, true, false, not, ◌&&◌, List, ◌==◌, nat_lt, slice_index_or}
use Rattle.book.specs.declared.rows.LineRow.{LineRow}
use Rattle.book.specs.declared.rows.KeywordRow.{KeywordRow}
use Rattle.columns.specs.declared.marks.Column.{Column}
use Rattle.columns.specs.Marks.{mark, blank}
use Rattle.columns.specs.Numbers.{member}
use Rattle.lookback.specs.declared.links.Links.{Links}
use Rattle.lookback.specs.Prefixes.{opens, reach}

-- mark k of column i
abbrev pub mark_at : List Column → ℕ → ℕ → Bool
mark_at columns i k = mark (slice_index_or columns i blank) k

-- whether keyword k + 1, of the first n, follows keyword k at a distance with that remainder by 128
abbrev pub follows_at : List LineRow → List KeywordRow → ℕ → ℕ → ℕ → Bool
follows_at lines keywords n d k = nat_lt (suc k) n && (not (opens lines (suc k)) && reach keywords (suc k) % 128 == d)

-- the links are those of the first n keywords: the distances in use are those at which a keyword follows another, and no others
pub record LinkedTo (links : Links) (lines : List LineRow) (keywords : List KeywordRow) (n : ℕ) : Type 0 where
  pub firsts : (k : ℕ) → k < 512 → mark links.firsts k ≡ opens lines k
  pub followed : (d : ℕ) → d < 128 → (k : ℕ) → k < 512 → mark_at links.follow d k ≡ follows_at lines keywords n d k
  pub listed : (k : ℕ) → suc k < n → opens lines (suc k) ≡ false → member links.near (reach keywords (suc k)) ≡ true
  pub used : (d : ℕ) → member links.near d ≡ true → (k : ℕ) × (suc k < n) × (opens lines (suc k) ≡ false) × (reach keywords (suc k) ≡ d)
