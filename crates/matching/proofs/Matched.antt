-- One tick of a finder and a ring, and a ring that is cleared, put together from what the parts promise.
use Rattle.std.proofs.Common.{◌≡◌, ℕ, Bool, false, sym, List, [], ◌∷◌, ◌+◌, ◌-◌, length, ap, ◌∙◌, subst, arith}
use Rattle.std.specs.List.{AllByRecursion}
use Rattle.cells.specs.declared.kinds.Cell as Cell
use Rattle.book.specs.declared.rows.LineRow.{LineRow}
use Rattle.book.specs.declared.rows.KeywordRow.{KeywordRow}
use Rattle.book.specs.Book.{Book, all_keywords}
use Rattle.book.specs.Proper.{Proper, ProperLine}
use Rattle.book.specs.Rows.{line_rows, keyword_rows}
use Rattle.columns.specs.declared.marks.Column.{Column}
use Rattle.finders.specs.declared.finding.Finder as Finder
use Rattle.finders.proofs.LatestRuns.{no_run}
use Rattle.lookback.specs.declared.lookbacks.Lookback.{Lookback}
use Rattle.lookback.specs.Prefixes.{prefix_ends}
use Rattle.lookback.specs.Represented.{Represents}
use Rattle.lookback.specs.Ticking.{Shows, Ticks}
use Rattle.occurrences.specs.Spotting.{spotted_among, pasts}
use Rattle.occurrences.proofs.InBook.{line_occurs}
use Rattle.matching.specs.Seen.{Has, Spots, Occur}
use Rattle.matching.proofs.Spots.{all_split, last_below}

module _ {C S : Type 0} (hears : C → S → Bool) (b : Book C) (newest : List S) (s : S) {l : Lookback} {ended : Column} (shown : Represents l (line_rows b) (keyword_rows b) (pasts hears b newest)) (spots : Spots hears ended b (s ∷ newest)) where
  -- the ring one tick later shows the prefixes one tick later
  pub ring_later : {later : Lookback} → Ticks l ended later → Represents later (line_rows b) (keyword_rows b) (pasts hears b (s ∷ newest))
  ring_later t = t.represents (line_rows b) (keyword_rows b) (pasts hears b newest) (spotted_among hears (all_keywords b) (s ∷ newest)) shown spots.ended

  -- the column of the new tick tells which lines occur
  pub lines_occur : {column : Column} → Proper b → Shows l ended column → Occur hears column b (s ∷ newest)
  lines_occur proper t = record {
    tells = λ before line behind e.
        let k = length (all_keywords before) + (length line.keywords - 1) in
        let q = all_split ProperLine before line behind (subst (AllByRecursion ProperLine) e proper.each) in
        let below = last_below before line behind q.1 in
        let n = ap (λ x. length (all_keywords x)) e in
        t.prefixes (line_rows b) (keyword_rows b) (pasts hears b newest) (spotted_among hears (all_keywords b) (s ∷ newest)) shown spots.ended k (omega (arith, proper.keywords))
        ∙ ap (λ x. prefix_ends (line_rows x) (keyword_rows x) (pasts hears x (s ∷ newest)) k) e
        ∙ line_occurs hears before line behind q.0 q.1 (s ∷ newest);
  }

-- a ring that is cleared shows no tick, whichever it showed
pub ring_cleared : {C S : Type 0} (hears : C → S → Bool) (b : Book C) (newest : List S) {l later : Lookback} → Represents l (line_rows b) (keyword_rows b) (pasts hears b newest)
    → ((lines : List LineRow) (keywords : List KeywordRow) (past : List (ℕ → Bool)) → Represents l lines keywords past → Represents later lines keywords []) → Represents later (line_rows b) (keyword_rows b) []
ring_cleared hears b newest shown f = f (line_rows b) (keyword_rows b) (pasts hears b newest) shown

-- a finder whose runs are cleared has had no sample
pub had_none : {C F S X Y : Type 0} (kind : Cell.Ghosts C S X) (sort : Finder.Ghosts F C Y S X) (f later : F) → sort.book later ≡ sort.book f → ((p : ℕ) → sort.stands later p ≡ false)
    → (b : Book C) → sort.book f ≡ b → Proper b → Has kind sort later b []
had_none kind sort f later same none b of proper = record { of = same ∙ of; proper = proper; runs = λ p. none p ∙ sym (no_run kind.hears (all_keywords b) p) }
