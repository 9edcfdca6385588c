-- What a call leaves of a bench's life as it was.
use Rattle.std.proofs.Common.{◌≡◌, ℕ, ◌+◌, ◌<◌, ◌≤◌, Bool, true, false, cond, ◌&&◌, eqb, List, [], ◌∷◌, map, Some, None, is_ok, sym, refl, ap, ◌∙◌, subst}
use Rattle.cells.specs.declared.kinds.Cell as Cell
use Rattle.book.specs.declared.rows.LineRow.{LineRow}
use Rattle.book.specs.Book.{Book, among}
use Rattle.book.specs.Rows.{line_rows}
use Rattle.book.specs.Rules.{within}
use Rattle.finders.specs.declared.finding.Finder as Finder
use Rattle.history.specs.Answers.{verdict, after}
use Rattle.history.specs.Calls.{arm, rest, clear, History, samples, count}
use Rattle.history.specs.Reports.{numbers_reported}
use Rattle.standings.specs.declared.tables.Standings.{Standings}
use Rattle.standings.specs.declared.turns.Turn.{Turn}
use Rattle.standings.specs.declared.turns.Turn.TheVariants.{Arm, Rest}
use Rattle.standings.specs.declared.turns.Standing.TheVariants.{Armed}
use Rattle.standings.specs.Turning.{turned, placed, standing_at, turned_at, first_standing}
use Rattle.bench.specs.declared.desks.Desk.{Desk}
use Rattle.bench.specs.Keeping.{turn_of}
use Rattle.bench.specs.Listed.{watched}
use Rattle.bench.specs.Life.{Lives}
use Rattle.bench.specs.Noted.{noted}
use Rattle.matching.specs.Seen.{Sees}
use Rattle.bench.proofs.Histories.{none_reported, alike}
use Rattle.bench.proofs.Numbered.{row_numbers, has_within}
use Rattle.bench.proofs.Turns.{placed_turned, stands_after}

module _ {C S : Type 0} (hears : C → S → Bool) (takes : S → Bool) (b : Book C) (h : History S) (n : ℕ) where
  -- a turn of a line is no tick
  same_samples : (t : Turn) → samples (after takes b h (turn_of t n)) ≡ samples h
  same_samples Arm = go (is_ok (verdict takes b h (arm n)))
    where
      go : (x : Bool) → samples (elim x [ true ↦ arm n ∷ h | false ↦ h ]) ≡ samples h
      go true = refl
      go false = refl
  same_samples Rest = go (is_ok (verdict takes b h (rest n)))
    where
      go : (x : Bool) → samples (elim x [ true ↦ rest n ∷ h | false ↦ h ]) ≡ samples h
      go true = refl
      go false = refl

  same_count : (t : Turn) → count (after takes b h (turn_of t n)) ≡ count h
  same_count Arm = go (is_ok (verdict takes b h (arm n)))
    where
      go : (x : Bool) → count (elim x [ true ↦ arm n ∷ h | false ↦ h ]) ≡ count h
      go true = refl
      go false = refl
  same_count Rest = go (is_ok (verdict takes b h (rest n)))
    where
      go : (x : Bool) → count (elim x [ true ↦ rest n ∷ h | false ↦ h ]) ≡ count h
      go true = refl
      go false = refl

  same_reports : (t : Turn) (i : ℕ) → numbers_reported hears b (after takes b h (turn_of t n)) i ≡ numbers_reported hears b h i
  same_reports Arm i = go (is_ok (verdict takes b h (arm n)))
    where
      go : (x : Bool) → numbers_reported hears b (elim x [ true ↦ arm n ∷ h | false ↦ h ]) i ≡ numbers_reported hears b h i
      go true = alike hears b (arm n ∷ h) h i i (λ l. refl)
      go false = refl
  same_reports Rest i = go (is_ok (verdict takes b h (rest n)))
    where
      go : (x : Bool) → numbers_reported hears b (elim x [ true ↦ rest n ∷ h | false ↦ h ]) i ≡ numbers_reported hears b h i
      go true = alike hears b (rest n ∷ h) h i i (λ l. refl)
      go false = refl

module _ {C F S X Y : Type 0} (kind : Cell.Ghosts C S X) (sort : Finder.Ghosts F C Y S X) where
  -- a turn of a line changes the standings alone
  pub turn_kept : (takes : S → Bool) (f : F) (d : Desk) (b : Book C) (h : History S) → Lives kind sort f d b h → (n : ℕ) (t : Turn) (st : Standings)
      → st.at ≡ turned_at d.standings n t d.count
      → Lives kind sort f (record { lines = d.lines; lookback = d.lookback; standings = st; recent = d.recent; count = d.count }) b (after takes b h (turn_of t n))
  turn_kept takes f d b h r n t st e =
      let later = after takes b h (turn_of t n) in
      let c = same_count kind.hears takes b h n t in
      record {
        sees = subst (Sees kind sort f d.lookback b) (sym (same_samples kind.hears takes b h n t)) r.sees;
        lines = r.lines;
        ticks = r.ticks ∙ sym c;
        standings = λ m.
            ap (λ at. placed at m) e
            ∙ placed_turned d.standings n m t d.count
            ∙ (λ i. cond (eqb n m) (turned (r.standings n i) t (r.ticks i)) (r.standings m i))
            ∙ stands_after takes b h n m t;
        recent = λ i low near m.
            r.recent i (subst (λ x. i ≤ x) c low) (subst (λ x. x < i + 64) c near) m
            ∙ ap (among m) (sym (same_reports kind.hears takes b h n t i));
      }

  -- a desk that has just been made, or made anew, has been through nothing
  pub fresh : (f : F) (d : Desk) (b : Book C) → Sees kind sort f d.lookback b [] → d.lines.items ≡ watched b → d.count ≡ 0 → (rows : List LineRow) → rows ≡ line_rows b
      → ((n : ℕ) → standing_at d.standings n ≡ first_standing rows n) → ((i n : ℕ) → noted d.recent i n ≡ false) → Lives kind sort f d b []
  fresh f d b sees lines ticks rows same standings none = record {
    sees = sees;
    lines = lines;
    ticks = ticks;
    standings = λ n.
        standings n
        ∙ (λ i. cond (within 1 128 n && among n ((ap (map (λ l. l.number)) same ∙ row_numbers 0 b) i)) (Some (Armed 0)) None)
        ∙ ap (λ t. cond t (Some (Armed 0)) None) (has_within b n sees.finder.proper.each);
    recent = λ i low near n. none i n ∙ sym (none_reported kind.hears b i n);
  }

  -- and after a clear it is the same
  pub cleared : (f : F) (d : Desk) (b : Book C) (h : History S) → Lives kind sort f d b [] → Lives kind sort f d b (clear ∷ h)
  cleared f d b h r = record {
    sees = r.sees;
    lines = r.lines;
    ticks = r.ticks;
    standings = r.standings;
    recent = λ i low near n. r.recent i low near n ∙ ap (among n) (alike kind.hears b [] (clear ∷ h) i i (λ l. refl));
  }
