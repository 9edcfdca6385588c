use Rattle.std.proofs.Common.{◌+◌, [], ◌∷◌, ◌++◌, map, length, ap, ◌∙◌, length-append, arith}
use Rattle.std.specs.List.{list_all}
use Rattle.book.specs.Admitted.{line_row}
use Rattle.book.specs.Entering.{request}
use Rattle.book.specs.Layout.{lines_laid, keywords_laid, opened, distinct, line_ok, keyword_ok}
use Rattle.book.specs.Rows.{keyword_rows_from}
use Rattle.book.specs.Tables.{items}
use Rattle.book.proofs.Pushes.{line_room, rows, row_count, joined_after, laid_after, opened_after, lines_ok, sized_after, numbers_apart}
use Rattle.book.proofs.ledgers.Ledger.push.Goals as goal

pub push-requires : goal.push-requires
push-requires g c =
    let room = line_room c.args.self.now (request c.args.entry.now) c.requires in
    omega (arith, room)

pub invariant_of-self : goal.invariant_of-self
invariant_of-self g c =
    let b = c.args.self.now in
    let q = request c.args.entry.now in
    let a = c.requires in
    let el = c.push.ensures.items ∙ ap (λ r. items b.lines ++ r ∷ []) (c.row.ensures ∙ ap (λ n. line_row n q) c.counts-used.ensures.keywords) in
    let ek = c.push_keywords.ensures ∙ ap (λ n. items b.keywords ++ keyword_rows_from n (0 ∷ q.gaps) q.lengths) c.counts-used.ensures.cells in
    let room = line_room b q a in
    let n = ap length ek ∙ length-append (items b.keywords) (rows b q a) ∙ ap (λ m. length (items b.keywords) + m) (row_count b q a) in
    let l = c.push.ensures.len in
    record {
      few = (omega (arith, l, room), omega (arith, n, a.keyword_room), a.cell_room);
      joined = (λ i. lines_laid (el i) 0 (n i)) ∙ joined_after b q a;
      laid = ap (λ ks. keywords_laid ks 0 (b.cell_count + length q.cells)) ek ∙ laid_after b q a;
      openings = (λ i. opened (el i) (ek i)) ∙ opened_after b q a;
      proper = ap (list_all line_ok) el ∙ lines_ok b q a;
      sized = ap (list_all keyword_ok) ek ∙ sized_after b q a;
      apart = ap (λ ls. distinct (map (λ l. l.number) ls)) el ∙ numbers_apart b q a;
    }

pub returns-clause-lines : goal.returns-clause-lines
returns-clause-lines g c =
    let q = request c.args.entry.now in
    c.push.ensures.items ∙ ap (λ r. items c.args.self.now.lines ++ r ∷ []) (c.row.ensures ∙ ap (λ n. line_row n q) c.counts-used.ensures.keywords)
