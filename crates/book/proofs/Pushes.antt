-- A line that goes behind the others.
use Rattle.std.proofs.Common.{◌≡◌, ℕ, ◌+◌, ◌<◌, ◌≤◌, true, ◌&&◌, List, [], ◌∷◌, ◌++◌, map, length, take, drop, sym, refl, ap, ◌∙◌, arith}
use Rattle.std.specs.List.{list_all}
use Rattle.std.proofs.lemmas.List.{length-map, length_push, map-append, take_all, take-append-le, drop-append-le, nil_from_length}
use Rattle.std.proofs.lemmas.Bool.{and_parts, and_from, eq-eqb}
use Rattle.book.specs.declared.rows.LineRow.{LineRow}
use Rattle.book.specs.declared.rows.KeywordRow.{KeywordRow}
use Rattle.book.specs.declared.ledgers.Ledger.{Ledger}
use Rattle.book.specs.Admitted.{Admitted, line_row}
use Rattle.book.specs.Cutting.{total, cut, filled}
use Rattle.book.specs.Entering.{Request, line_of}
use Rattle.book.specs.Layout.{lines_laid, keywords_laid, opens, opened, distinct, line_ok, keyword_ok}
use Rattle.book.specs.Rows.{keyword_rows_from}
use Rattle.book.specs.Rules.{number_ok, within}
use Rattle.book.specs.Stored.{held, lines_from}
use Rattle.book.specs.Tables.{items}
use Rattle.book.proofs.Cuts.{laid-append, length_cut, cut-append, cut_same, take-filled, cut-filled}
use Rattle.book.proofs.Few.{few, distinct_push}
use Rattle.book.proofs.Holdings.{lengths_in, gaps_in, size_is, total_is, sized_gaps, sized_keywords}
use Rattle.book.proofs.Lines.{size, rest, lines_push}
use Rattle.book.proofs.NewRows.{rows-length, rows_lengths, rows_gaps, rows_laid, rows_ok, rows_open}
use Rattle.book.proofs.Passes.{pass_append, pass_map, pass_weaker}

opened_push : (ls : List LineRow) (l : LineRow) (ks js : List KeywordRow) → size ls ≡ length ks → opened ls ks ≡ true → opens (take l.keywords js) ≡ true → opened (ls ++ l ∷ []) (ks ++ js) ≡ true
opened_push [] l ks js e h k = let z = nil_from_length ks (sym e) in ap (λ xs. opens (take l.keywords (xs ++ js)) && true) z ∙ and_from _ _ k refl
opened_push (x ∷ ls) l ks js e h k =
    let n : ℕ = x.keywords in
    let p = and_parts (opens (take n ks)) _ h in
    let a = take-append-le n ks js (omega arith) in
    let b = drop-append-le n ks js (omega arith) in
    and_from _ _ (ap opens a ∙ p.0) (ap (opened (ls ++ l ∷ [])) b ∙ opened_push ls l (drop n ks) js (rest n (size ls) ks e) p.1 k)

module _ {C : Type 0} (b : Ledger) (q : Request C) (a : Admitted b q) where
  abbrev pub row : LineRow
  row = line_row (length (items b.keywords)) q

  abbrev pub rows : List KeywordRow
  rows = keyword_rows_from b.cell_count (0 ∷ q.gaps) q.lengths

  pub numbers_apart : distinct (map (λ l. l.number) (items b.lines ++ row ∷ [])) ≡ true
  numbers_apart = ap distinct (map-append (λ l. l.number) (items b.lines) (row ∷ [])) ∙ distinct_push (map (λ l. l.number) (items b.lines)) q.number b.apart a.fresh

  row_ok : line_ok row ≡ true
  row_ok = and_from _ _ a.number (and_from _ _ a.points (and_from _ _ a.lag a.count))

  pub lines_ok : list_all line_ok (items b.lines ++ row ∷ []) ≡ true
  lines_ok = pass_append line_ok (items b.lines) (row ∷ []) b.proper (and_from _ _ row_ok refl)

  -- distinct numbers up to 128 leave room for one more
  pub line_room : length (items b.lines) < 128
  line_room =
      let ok = pass_weaker line_ok (λ l. number_ok l.number) (λ l h. (and_parts (number_ok l.number) _ h).0) (items b.lines ++ row ∷ []) lines_ok in
      let n = few 128 (map (λ l. l.number) (items b.lines ++ row ∷ [])) numbers_apart (pass_map (within 1 128) (λ l. l.number) (items b.lines ++ row ∷ []) ∙ ok) in
      let m = length-map (items b.lines ++ row ∷ []) (λ l. l.number) ∙ length_push (items b.lines) row in
      omega arith

  gap_count : length (0 ∷ q.gaps) ≡ length q.lengths
  gap_count = omega (arith, a.between)

  pub row_count : length rows ≡ length q.lengths
  row_count = rows-length b.cell_count (0 ∷ q.gaps) q.lengths

  pub joined_after : lines_laid (items b.lines ++ row ∷ []) 0 (length (items b.keywords) + length q.lengths) ≡ true
  joined_after = laid-append (λ l. l.first) (λ l. l.keywords) (items b.lines) (row ∷ []) 0 (length (items b.keywords)) _ b.joined (let k : ℕ = length (items b.keywords) in and_from _ _ (eq-eqb k k refl) (eq-eqb (k + length q.lengths) (k + length q.lengths) refl))

  pub laid_after : keywords_laid (items b.keywords ++ rows) 0 (b.cell_count + length q.cells) ≡ true
  laid_after =
      ap (λ n. keywords_laid (items b.keywords ++ rows) 0 (b.cell_count + n)) (sym a.cells)
      ∙ laid-append (λ k. k.first) (λ k. k.length) (items b.keywords) rows 0 b.cell_count _ b.laid (rows_laid b.cell_count (0 ∷ q.gaps) q.lengths)

  pub opened_after : opened (items b.lines ++ row ∷ []) (items b.keywords ++ rows) ≡ true
  opened_after = opened_push (items b.lines) row (items b.keywords) rows (size_is b) b.openings (rows_open b.cell_count q.gaps q.lengths (length q.lengths))

  pub sized_after : list_all keyword_ok (items b.keywords ++ rows) ≡ true
  sized_after = pass_append keyword_ok (items b.keywords) rows b.sized (rows_ok b.cell_count (0 ∷ q.gaps) q.lengths a.gaps a.lengths)

  -- the book that is then held
  pub held_after : (b' : Ledger) (m : List C) → b.cell_count ≤ length m → items b'.lines ≡ items b.lines ++ row ∷ [] → items b'.keywords ≡ items b.keywords ++ rows
      → held b' (filled m b.cell_count q.cells) ≡ held b m ++ line_of q ∷ []
  unfolding held
  held_after b' m room el ek =
      let m' : List C = filled m b.cell_count q.cells in
      let ns : List ℕ = q.lengths in
      let gs : List ℕ = 0 ∷ q.gaps in
      let eg = ap (map (λ k. k.gap)) ek ∙ map-append (λ k. k.gap) (items b.keywords) rows ∙ ap (λ xs. gaps_in b ++ xs) (rows_gaps b.cell_count gs ns gap_count) in
      let en = ap (map (λ k. k.length)) ek ∙ map-append (λ k. k.length) (items b.keywords) rows ∙ ap (λ xs. lengths_in b ++ xs) (rows_lengths b.cell_count gs ns) in
      let old = cut_same (lengths_in b) b.cell_count m' m (omega (arith, total_is b)) (take-filled m q.cells b.cell_count room) in
      let new = ap (λ n. cut ns (drop n m')) (total_is b) ∙ cut-filled ns m q.cells b.cell_count room a.cells in
      let ec = ap (λ xs. cut xs m') en ∙ cut-append (lengths_in b) ns m' ∙ ap (λ xs. xs ++ cut ns (drop (total (lengths_in b)) m')) old ∙ ap (λ xs. cut (lengths_in b) m ++ xs) new in
      let push = lines_push (items b.lines) row (gaps_in b) gs (cut (lengths_in b) m) (cut ns q.cells) (sized_gaps b m) (sized_keywords b m) in
      let whole = take_all (length ns) (cut ns q.cells) (omega (arith, length_cut ns q.cells)) in
      let gaps = ap (drop 1) (take_all (length ns) gs (omega (arith, gap_count))) in
      let last : lines_from (row ∷ []) gs (cut ns q.cells) ≡ line_of q ∷ [] = λ i. record { number = q.number; points = q.points; lag = q.lag; keywords = whole i; gaps = gaps i } ∷ [] in
      ap (λ ls. lines_from ls (gaps_in b') (cut (lengths_in b') m')) el
      ∙ ap (λ xs. lines_from (items b.lines ++ row ∷ []) xs (cut (lengths_in b') m')) eg
      ∙ ap (lines_from (items b.lines ++ row ∷ []) (gaps_in b ++ gs)) ec
      ∙ push ∙ ap (λ xs. held b m ++ xs) last
