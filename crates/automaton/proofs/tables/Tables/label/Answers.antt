use Rattle.std.proofs.Common.{◌≡◌, ℕ, ◌+◌, ◌-◌, ◌<◌, ◌≤◌, List, [], length, get_or, take, sym, refl, ap, ◌∙◌, subst, inl, arith, below_more}
use mathlib.Core.Logic.{∥∥₁_elim}
use denote.Struct.Props.{props}
use Rattle.std.proofs.lemmas.List.{get_or-map, length-map}
use Rattle.book.specs.declared.rows.KeywordRow.{KeywordRow}
use Rattle.book.specs.Book.{all_keywords}
use Rattle.book.specs.Proper.{AllFit}
use Rattle.book.specs.Rows.{keyword_rows}
use Rattle.cells.specs.declared.letters.LetterCell.{LetterCell}
use Rattle.automaton.specs.Labels.{word, spelt, keyword_words, Label}
use Rattle.automaton.specs.Memory.{at}
use Rattle.automaton.specs.Standing.{book_of}
use Rattle.automaton.proofs.Keywords.{Told, told, row_count}
use Rattle.automaton.proofs.Longest.{Spot, keyword, place, begins_here, label_found, label_none, no_place, slice_is}
use Rattle.automaton.proofs.tables.Tables.label.Goals as goal

abbrev none : KeywordRow
none = record { gap = 0; first = 0; length = 0 }

pub slice_bounds-result-end : goal.slice_bounds-result-end
slice_bounds-result-end c =
    let b = book_of c.args.self.now in
    let rows = c.keywords-keyword-items.ensures in
    let t = told b _ c.loop-keyword.keyword-index none rows.rows rows.fit c.loop-keyword-test.true in
    omega (arith, t.lies.inside, ap length c.cells-cells.ensures.cells, c.in-Some.ensures.1)

pub returns-in-Some : goal.returns-in-Some
returns-in-Some c taken stood =
    let s = c.args.self.now in
    let b = book_of s in
    let k = c.loop-keyword.keyword-index in
    let rows = c.keywords-keyword-items.ensures in
    let row : KeywordRow = get_or c.keywords-keyword-items.result.now k none in
    let n = c.in-Some.count in
    let found = c.in-Some.ensures in
    let t : Told b row k = told b _ k none rows.rows rows.fit c.loop-keyword-test.true in
    let fit : AllFit (keyword_rows b) = subst (λ (rs : List KeywordRow). AllFit rs) rows.rows rows.fit in
    let some : k < length (all_keywords b) = omega (arith, t.count, length-map (all_keywords b) length) in
    let fits : n ≤ length (keyword b k) = omega (arith, found.1, t.long, get_or-map length (all_keywords b) k [] 0 some) in
    let r : Spot b k (n - 1) = record { some = some; inside = omega (arith, found.0) } in
    let where_is : place b k (n - 1) ≡ row.first + n - 1 = omega (arith, found.0, t.first) in
    let is : at s.states.now (place b k (n - 1)) ≡ c.args.state = ap (at s.states.now) where_is ∙ found.2 in
    let one : n - 1 + 1 ≡ n = omega (arith, found.0) in
    let cells = slice_is b c.cells-cells.result.now row.first n k c.cells-cells.ensures.cells t.first some fits in
    let label : Label (keyword_words b) (word taken) (spelt (take (n - 1 + 1) (keyword b k))) = record {
      suffix = ∥∥₁_elim s.linked (hlevel props) (λ L. (label_found b _ _ _ _ L fit c.args.state k (n - 1) r is taken stood).suffix);
      begins = begins_here b k (n - 1) r;
      longest = ∥∥₁_elim s.linked (hlevel props) (λ L. (label_found b _ _ _ _ L fit c.args.state k (n - 1) r is taken stood).longest);
    } in
    subst (λ (cs : List LetterCell). Label (keyword_words b) (word taken) (spelt cs)) (ap (λ m. take m (keyword b k)) one ∙ sym cells) label

pub loop-keyword-preserved : goal.loop-keyword-preserved
loop-keyword-preserved c =
    let b = book_of c.args.self.now in
    let rows = c.keywords-keyword-items.ensures in
    let t = told b _ c.loop-keyword.keyword-index none rows.rows rows.fit c.loop-keyword-test.true in
    below_more _ _ c.loop-keyword.invariant
    (λ i h e. c.in_default.ensures i (omega (arith, t.long, h)) (ap (λ f. at c.args.self.now.states.now (f + i)) t.first ∙ e))

pub returns : goal.returns
returns c taken stood =
    let s = c.args.self.now in
    let b = book_of s in
    let rows = c.keywords-keyword-items.ensures in
    let fit : AllFit (keyword_rows b) = subst (λ (rs : List KeywordRow). AllFit rs) rows.rows rows.fit in
    let absent : (k i : ℕ) → Spot b k i → at s.states.now (place b k i) ≡ c.args.state → ⊥ = λ k i r. c.loop-keyword.invariant k
    (omega (arith, r.some, row_count b, length-map (all_keywords b) length, ap length rows.rows, c.loop-keyword-test.false)) i
    (omega (arith, r.inside, get_or-map length (all_keywords b) k [] 0 r.some)) in
    record {
      suffix = ∥∥₁_elim s.linked (hlevel props) (λ L. (label_none b _ _ _ _ L fit c.args.state (no_place b _ _ _ _ L fit c.args.state c.requires absent) taken stood).suffix);
      begins = inl refl;
      longest = ∥∥₁_elim s.linked (hlevel props) (λ L. (label_none b _ _ _ _ L fit c.args.state (no_place b _ _ _ _ L fit c.args.state c.requires absent) taken stood).longest);
    }
