-- The lines that fire are those that are reported, and the points that are due are the tick's.
use Rattle.std.proofs.Common.{◌≡◌, ℕ, ◌+◌, ◌-◌, ◌≤◌, Bool, true, false, cond, ◌&&◌, ◌||◌, ltb, leb, [], ◌∷◌, ◌++◌, map, reverse, length, Some, None, ℤ, pos, ◌+ℤ◌, sym, refl, ap, ◌∙◌, subst, ⊎_elim, arith}
use Rattle.std.specs.List.{AllByRecursion}
use Rattle.std.proofs.lemmas.Bool.{and_parts, leb-true, cases_lt, lt-ltb, le-ltb, le-leb, lt-leb}
use Rattle.book.specs.Book.{Line, Book, all_keywords, among, has_number}
use Rattle.book.specs.Layout.{distinct}
use Rattle.book.specs.Proper.{ProperLine, Proper}
use Rattle.columns.specs.declared.marks.Column.{Column}
use Rattle.columns.specs.Marks as marks
use Rattle.history.specs.Calls.{feed, History, samples, count}
use Rattle.history.specs.Points.{points}
use Rattle.history.specs.Reports.{reported, reports, numbers_reported}
use Rattle.history.specs.Standing.{is_armed, mark}
use Rattle.occurrences.specs.Occurring.{span, occurs}
use Rattle.standings.specs.declared.tables.Standings.{Standings}
use Rattle.standings.specs.declared.turns.Standing.TheVariants.{Armed, Resting}
use Rattle.standings.specs.Turning.{standing_at}
use Rattle.bench.specs.declared.recent.Recent.{Recent}
use Rattle.bench.specs.Due.{due_points}
use Rattle.bench.specs.Firing.{starts_after, fires, any_fires}
use Rattle.bench.specs.Listed.{watched_from, watched}
use Rattle.bench.specs.Noted.{noted}
use Rattle.matching.specs.Seen.{Occur}
use Rattle.bench.specs.Standings.{standing_in}
use Rattle.bench.proofs.Histories.{count-samples, newest, among_reported}
use Rattle.bench.proofs.Listings.{longer, moved}
use Rattle.bench.proofs.Numbered.{eqb_swap, has_here, own_number}
use Rattle.matching.proofs.Spots.{all_split}

-- the start lies after the mark exactly when the end lies a span after it
after_mark : (m sp t : ℕ) → sp ≤ t → leb (m + sp) t ≡ ltb m (t - sp + 1)
after_mark m sp t h = ⊎_elim (λ l. le-leb (m + sp) t (omega arith) ∙ sym (lt-ltb m (t - sp + 1) l)) (λ l. lt-leb (m + sp) t (omega arith) ∙ sym (le-ltb m (t - sp + 1) l)) (cases_lt m (t - sp + 1))

decides : (o a : Bool) (m sp t : ℕ) → (o ≡ true → sp ≤ t) → (o && starts_after (Some (cond a (Armed m) Resting)) sp t) ≡ (a && (o && ltb m (t - sp + 1)))
decides true true m sp t h = after_mark m sp t (h refl)
decides true false m sp t h = refl
decides false true m sp t h = refl
decides false false m sp t h = refl

module _ {C S : Type 0} (hears : C → S → Bool) (b : Book C) (proper : Proper b) (h : History S) where
  module _ (s : S) (column : Column) (st : Standings) (occ : Occur hears column b (s ∷ samples h)) (standing : (n : ℕ) → standing_at st n ≡ standing_in b h n) where
    one : (before : Book C) (l : Line C) (behind : Book C) → b ≡ before ++ l ∷ behind
        → fires column st (count h + 1) (record { number = l.number; points = l.points; lag = l.lag; last = length (all_keywords before) + (length l.keywords - 1); span = span l }) ≡ reports hears h s l
    one before l behind e =
        let k = length (all_keywords before) + (length l.keywords - 1) in
        let t = count h + 1 in
        let n = count-samples h in
        let long : length (s ∷ samples h) ≡ t = omega (arith, n) in
        let o = occurs hears l (reverse (s ∷ samples h)) t in
        let told : marks.mark column k ≡ o = occ.tells before l behind e ∙ ap (occurs hears l (reverse (s ∷ samples h))) long in
        let here : has_number l.number b ≡ true = ap (has_number l.number) e ∙ has_here before l behind in
        let stands = standing l.number ∙ ap (λ x. cond x (Some (cond (is_armed h l.number) (Armed (mark h l.number)) Resting)) None) here in
        (λ i. told i && starts_after (stands i) (span l) t)
        ∙ decides o (is_armed h l.number) (mark h l.number) (span l) t (λ y. leb-true (span l) t (and_parts (leb (span l) t) _ y).0)

    any : (before rest : Book C) → b ≡ before ++ rest → (n : ℕ)
        → any_fires column st (count h + 1) (watched_from (length (all_keywords before)) rest) n ≡ among n (numbers_reported hears rest (feed s ∷ h) (count h + 1))
    any before [] e n = refl
    any before (l ∷ rest) e n =
        let q = all_split ProperLine before l rest (subst (AllByRecursion ProperLine) e proper.each) in
        let fired = one before l rest e ∙ sym (newest hears h s l) in
        let same = e ∙ sym (moved before l rest) in
        let rs = reported hears (feed s ∷ h) l (count h + 1) in
        let more = ap (λ x. any_fires column st (count h + 1) (watched_from x rest) n) (sym (longer before l)) ∙ any (before ++ l ∷ []) rest same n in
        (λ i. (fired i && (q.1.number i && eqb_swap n l.number i)) || more i)
        ∙ sym (among_reported hears l rest (feed s ∷ h) (count h + 1) n)

    -- the numbers of the lines that fire are those that are reported
    pub fired : (n : ℕ) → any_fires column st (count h + 1) (watched b) n ≡ among n (numbers_reported hears b (feed s ∷ h) (count h + 1))
    fired = any [] b refl

  chosen : (t : Bool) (p : ℤ) → cond t p (pos 0) ≡ elim t [ true ↦ p | false ↦ pos 0 ]
  chosen true p = refl
  chosen false p = refl

  module _ (recent : Recent) (tick : ℕ) (known : (lag n : ℕ) → lag ≤ 63 → noted recent (tick - lag) n ≡ among n (numbers_reported hears b h (tick - lag))) where
    sums : (before rest : Book C) → b ≡ before ++ rest → due_points recent tick (watched_from (length (all_keywords before)) rest) ≡ points hears rest h tick
    sums before [] e = refl
    sums before (l ∷ rest) e =
        let q = all_split ProperLine before l rest (subst (AllByRecursion ProperLine) e proper.each) in
        let i = tick - l.lag in
        let own = known l.lag l.number (leb-true l.lag 63 q.1.lag)
        ∙ ap (λ x. among l.number (numbers_reported hears x h i)) e
        ∙ own_number hears h i before l rest (ap (λ x. distinct (map (λ y. y.number) x)) (sym e) ∙ proper.apart) in
        let same = e ∙ sym (moved before l rest) in
        let more = ap (λ x. due_points recent tick (watched_from x rest)) (sym (longer before l)) ∙ sums (before ++ l ∷ []) rest same in
        (λ j. (ap (λ t. cond t l.points (pos 0)) own ∙ chosen (reported hears h l i) l.points) j +ℤ more j)

    -- the points that fall due are those of the tick
    pub due : due_points recent tick (watched b) ≡ points hears b h tick
    due = sums [] b refl
