-- The lines of a book by its rows.
use Rattle.std.proofs.Common.{◌≡◌, ℕ, suc, ◌+◌, ◌-◌, ◌≤◌, leb, List, [], ◌∷◌, ◌++◌, map, length, take, drop, sym, refl, ap, ◌∙◌, subst, append_assoc, arith}
use Rattle.std.specs.List.{AllByRecursion}
use Rattle.std.proofs.ByRecursion.{All-get_or}
use Rattle.std.proofs.lemmas.List.{length-append, length-map, map-append, take_at, drop_at}
use Rattle.std.proofs.lemmas.Bool.{and_parts, leb-true}
use Rattle.book.specs.declared.rows.LineRow.{LineRow}
use Rattle.book.specs.declared.rows.KeywordRow.{KeywordRow}
use Rattle.book.specs.Book.{Line, Book, all_keywords, all_gaps}
use Rattle.book.specs.Cutting.{total}
use Rattle.book.specs.Proper.{ProperLine, Proper}
use Rattle.book.specs.Rows.{line_rows, line_rows_from, keyword_rows, keyword_rows_from}
use Rattle.occurrences.specs.Occurring.{span}
use Rattle.occurrences.proofs.InBook.{joined-append, gaps_even}
use Rattle.bench.specs.Listed.{row_span, watched_row, watched_from, watched, ListableRow, Listable}
use Rattle.matching.proofs.Spots.{rows_count, all_split}

rows_append : (p : ℕ) (gs hs ns ms : List ℕ) → length gs ≡ length ns → keyword_rows_from p (gs ++ hs) (ns ++ ms) ≡ keyword_rows_from p gs ns ++ keyword_rows_from (p + total ns) hs ms
rows_append p [] hs [] ms e = let z : p ≡ p + 0 = omega arith in ap (λ x. keyword_rows_from x hs ms) z
rows_append p [] hs (n ∷ ns) ms e = absurd (let z : ⊥ = omega arith in z)
rows_append p (g ∷ gs) hs [] ms e = absurd (let z : ⊥ = omega arith in z)
rows_append p (g ∷ gs) hs (n ∷ ns) ms e =
    let z : p + n + total ns ≡ p + (n + total ns) = omega arith in
    ap (λ x. record { gap = g; first = p; length = n } ∷ x) (rows_append (p + n) gs hs ns ms (omega arith) ∙ ap (λ x. keyword_rows_from (p + n) gs ns ++ keyword_rows_from x hs ms) z)

rows_wide : (p : ℕ) (gs ns : List ℕ) → length gs ≡ length ns → total (map (λ k. k.gap + k.length) (keyword_rows_from p gs ns)) ≡ total ns + total gs
rows_wide p [] [] e = refl
rows_wide p [] (n ∷ ns) e = absurd (let z : ⊥ = omega arith in z)
rows_wide p (g ∷ gs) [] e = absurd (let z : ⊥ = omega arith in z)
rows_wide p (g ∷ gs) (n ∷ ns) e = let r = rows_wide (p + n) gs ns (omega arith) in omega arith

module _ {C : Type 0} where
  row : ℕ → Line C → LineRow
  row first l = record { number = l.number; points = l.points; lag = l.lag; first = first; keywords = length l.keywords }

  -- the span of a line by its rows is its span
  row_wide : (before : Book C) (l : Line C) (behind : Book C) → AllByRecursion ProperLine before → ProperLine l
      → row_span (keyword_rows (before ++ l ∷ behind)) (row (length (all_keywords before)) l) ≡ span l
  unfolding row_span row
  row_wide before l behind q p =
      let gs = all_gaps before in
      let ns = map length (all_keywords before) in
      let hs = 0 ∷ l.gaps in
      let ms = map length l.keywords in
      let n = length-map (all_keywords before) length in
      let m = length-map l.keywords length in
      let even : length gs ≡ length ns = gaps_even before q ∙ sym n in
      let own : length hs ≡ length ms = omega (arith, p.between, m) in
      let lengths = ap (map length) (joined-append (λ x. x.keywords) before (l ∷ behind)) ∙ map-append length (all_keywords before) (l.keywords ++ all_keywords behind) ∙ ap (λ x. ns ++ x) (map-append length l.keywords (all_keywords behind)) in
      let rest = map length (all_keywords behind) in
      let first = keyword_rows_from 0 gs ns in
      let second = keyword_rows_from (0 + total ns) hs ms in
      let third = keyword_rows_from (0 + total ns + total ms) (all_gaps behind) rest in
      let rows : keyword_rows (before ++ l ∷ behind) ≡ first ++ (second ++ third) =
      (λ i. keyword_rows_from 0 (joined-append (λ x. 0 ∷ x.gaps) before (l ∷ behind) i) (lengths i))
      ∙ rows_append 0 gs (hs ++ all_gaps behind) ns (ms ++ rest) even
      ∙ ap (λ x. first ++ x) (rows_append (0 + total ns) hs (all_gaps behind) ms rest own) in
      let wide : List KeywordRow → ℕ = λ ks. total (map (λ k. k.gap + k.length) ks) in
      let f = length (all_keywords before) in
      let k = length l.keywords in
      ap (λ ks. wide (take k (drop f ks))) rows
      ∙ ap (λ ks. wide (take k ks)) (drop_at first (second ++ third) f (rows_count 0 gs ns ∙ n))
      ∙ ap wide (take_at second third k (rows_count (0 + total ns) hs ms ∙ m))
      ∙ rows_wide (0 + total ns) hs ms own
      ∙ (let z : total ms + (0 + total l.gaps) ≡ total ms + total l.gaps = omega arith in z)

  some : (l : Line C) → ProperLine l → 1 ≤ length l.keywords
  some l q = leb-true 1 _ (and_parts (leb 1 (length l.keywords)) _ q.count).0

  -- one line more before the rest
  pub longer : (before : Book C) (l : Line C) → length (all_keywords (before ++ l ∷ [])) ≡ length (all_keywords before) + length l.keywords
  longer before l =
      let e = ap length (joined-append (λ x. x.keywords) before (l ∷ [])) in
      let a = length-append (all_keywords before) (l.keywords ++ []) in
      let b = length-append l.keywords [] in
      omega (arith, e, a, b)

  pub moved : (before : Book C) (l : Line C) (rest : Book C) → (before ++ l ∷ []) ++ rest ≡ before ++ l ∷ rest
  moved before l rest = append_assoc before (l ∷ []) rest

  all_watched : (before rest : Book C) → AllByRecursion ProperLine (before ++ rest)
      → map (watched_row (keyword_rows (before ++ rest))) (line_rows_from (length (all_keywords before)) rest) ≡ watched_from (length (all_keywords before)) rest
  unfolding row
  all_watched before [] q = refl
  all_watched before (l ∷ rest) q =
      let s = all_split ProperLine before l rest q in
      let f = length (all_keywords before) in
      let n = length l.keywords in
      let one = some l s.1 in
      let last : f + n - 1 ≡ f + (n - 1) = omega arith in
      let here : watched_row (keyword_rows (before ++ l ∷ rest)) (row f l) ≡ record { number = l.number; points = l.points; lag = l.lag; last = f + (n - 1); span = span l } =
      λ i. record { number = l.number; points = l.points; lag = l.lag; last = last i; span = row_wide before l rest s.0 s.1 i } in
      let same = moved before l rest in
      let up = longer before l in
      let back = sym same in
      let down = sym up in
      let more = all_watched (before ++ l ∷ []) rest (subst (AllByRecursion ProperLine) (sym same) q) in
      let tail : map (watched_row (keyword_rows (before ++ l ∷ rest))) (line_rows_from (f + n) rest) ≡ watched_from (f + n) rest =
      (λ i. map (watched_row (keyword_rows (back i))) (line_rows_from (down i) rest)) ∙ more ∙ ap (λ x. watched_from x rest) up in
      λ i. here i ∷ tail i

  -- what is taken down of a book's rows are its lines
  pub listed_book : (b : Book C) → AllByRecursion ProperLine b → map (watched_row (keyword_rows b)) (line_rows b) ≡ watched b
  listed_book b q = all_watched [] b q

  all_listable : (before rest : Book C) → AllByRecursion ProperLine (before ++ rest) → AllByRecursion (ListableRow (keyword_rows (before ++ rest))) (line_rows_from (length (all_keywords before)) rest)
  all_listable before [] q = tt
  all_listable before (l ∷ rest) q =
      let s = all_split ProperLine before l rest q in
      let f = length (all_keywords before) in
      let n = length l.keywords in
      let b = before ++ l ∷ rest in
      let rows = rows_count 0 (all_gaps b) (map length (all_keywords b)) ∙ length-map (all_keywords b) length in
      let words = ap length (joined-append (λ x. x.keywords) before (l ∷ rest)) in
      let x = length-append (all_keywords before) (l.keywords ++ all_keywords rest) in
      let y = length-append l.keywords (all_keywords rest) in
      let same = moved before l rest in
      let up = longer before l in
      let more = all_listable (before ++ l ∷ []) rest (subst (AllByRecursion ProperLine) (sym same) q) in
      (record { inside = omega (arith, rows, words, x, y); points = s.1.points }, subst (λ x. AllByRecursion (ListableRow (keyword_rows x)) (line_rows_from (f + n) rest)) same (subst (λ x. AllByRecursion (ListableRow (keyword_rows ((before ++ l ∷ []) ++ rest))) (line_rows_from x rest)) up more))

  count-rows : (from : ℕ) (b : Book C) → length (line_rows_from from b) ≡ length b
  count-rows from [] = refl
  count-rows from (l ∷ b) = ap suc (count-rows (from + length l.keywords) b)

  pub listable : (b : Book C) → Proper b → Listable (line_rows b) (keyword_rows b)
  listable b p = record {
    few = let n = count-rows 0 b in omega (arith, n, p.lines);
    each = λ i d h. All-get_or (ListableRow (keyword_rows b)) (line_rows b) i d h (all_listable [] b p.each);
  }
