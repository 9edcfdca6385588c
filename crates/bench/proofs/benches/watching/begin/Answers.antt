use Rattle.std.proofs.Common.{◌≡◌, List, map, sym, refl, ap, ◌∙◌, subst}
use Rattle.book.specs.declared.rows.LineRow.{LineRow}
use Rattle.book.specs.declared.rows.KeywordRow.{KeywordRow}
use Rattle.book.specs.Book.{Book}
use Rattle.book.specs.Rows.{line_rows, keyword_rows}
use Rattle.bench.specs.Listed.{watched_row, Listable}
use Rattle.bench.proofs.Kept.{fresh}
use Rattle.bench.proofs.Listings.{listed_book, listable}
use Rattle.bench.proofs.benches.watching.begin.Goals as goal

pub watched_lines-requires : goal.watched_lines-requires
watched_lines-requires g c =
    let b = g.F.Finder.book c.start-lookback.new.finder in
    subst (λ (ks : List KeywordRow). Listable c.lines-lines.result.now ks) (sym c.keywords.ensures.rows)
    (subst (λ (ls : List LineRow). Listable ls (keyword_rows b)) (sym c.lines-lines.ensures.rows) (listable b c.lines-lines.ensures.proper))

pub returns : goal.returns
returns g c =
    let b : Book g.row.C.Denot = g.F.Finder.book c.args.finder.now in
    let sees = c.start-lookback.ensures in
    let same : g.F.Finder.book c.start-lookback.new.finder ≡ b = sees.finder.of in
    let rows = c.lines-lines.ensures.rows ∙ ap line_rows same in
    let keys = c.keywords.ensures.rows ∙ ap keyword_rows same in
    let lines = c.watched_lines.ensures ∙ (λ i. map (watched_row (keys i)) (rows i)) ∙ listed_book b sees.finder.proper.each in
    fresh g.C.Cell g.F.Finder c.start-lookback.new.finder _ b sees lines refl c.lines-lines.result.now rows c.new.ensures c.none.ensures
