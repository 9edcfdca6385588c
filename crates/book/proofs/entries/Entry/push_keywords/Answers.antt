use Rattle.std.proofs.Common.{◌≡◌, ℕ, ◌+◌, ◌<◌, ◌≤◌, leb, List, [], ◌∷◌, ◌++◌, length, get_or, drop, sym, refl, ap, ◌∙◌, append_assoc, append-nil, arith}
use Rattle.std.proofs.lemmas.List.{at_drop_more, drop_all}
use Rattle.std.proofs.lemmas.Bool.{and_parts, leb-true}
use Rattle.book.specs.declared.rows.KeywordRow.{KeywordRow}
use Rattle.book.specs.Admitted.{Writable}
use Rattle.book.specs.Cutting.{total}
use Rattle.book.specs.Rows.{keyword_rows_from}
use Rattle.book.specs.Rules.{gap_ok, length_ok}
use Rattle.book.specs.Tables.{items}
use Rattle.book.proofs.Passes.{pass_at}
use Rattle.book.proofs.entries.Entry.push_keywords.Goals as goal

module _ {rows place : ℕ} {lengths gaps : List ℕ} (w : Writable rows place lengths gaps) (i : ℕ) (h : i < length lengths) where
  short : get_or lengths i 0 ≤ 16
  short = leb-true _ _ (and_parts (leb 1 (get_or lengths i 0)) _ (pass_at length_ok lengths i 0 h w.short)).1

  narrow : get_or (0 ∷ gaps) i 0 ≤ 112
  narrow = leb-true _ _ (and_parts (leb 0 (get_or (0 ∷ gaps) i 0)) _ (pass_at gap_ok (0 ∷ gaps) i 0 (omega (arith, w.between)) w.narrow)).1

-- the sum of what is still to come, and its rows, from one keyword to the next
next_total : (ns : List ℕ) (i : ℕ) → i < length ns → total (drop i ns) ≡ get_or ns i 0 + total (drop (i + 1) ns)
next_total ns i h = at_drop_more total ns i 0 h

next_rows : (p : ℕ) (gs ns : List ℕ) (i : ℕ) → i < length gs → i < length ns
    → keyword_rows_from p (drop i gs) (drop i ns) ≡ record { gap = get_or gs i 0; first = p; length = get_or ns i 0 } ∷ keyword_rows_from (p + get_or ns i 0) (drop (i + 1) gs) (drop (i + 1) ns)
next_rows p gs ns i h k = at_drop_more (λ xs. keyword_rows_from p xs (drop i ns)) gs i 0 h ∙ at_drop_more (λ xs. keyword_rows_from p (get_or gs i 0 ∷ drop (i + 1) gs) xs) ns i 0 k

pub push-requires : goal.push-requires
push-requires g c = let n = c.loop-i.invariant.count in omega (arith, n, c.requires.row_room)

pub overflow_add-first : goal.overflow_add-first
overflow_add-first g c =
    let n = next_total c.args.self.now.lengths.now c.loop-i.i c.loop-i-test.true in
    omega (arith, n, c.loop-i.invariant.first, c.requires.cell_room, c.from-first.ensures)

pub loop-i-init : goal.loop-i-init
loop-i-init g c = record { rows = refl; first = refl; count = omega arith }

pub loop-i-preserved : goal.loop-i-preserved
loop-i-preserved g c =
    let i = c.loop-i.i in
    let ns = c.args.self.now.lengths.now in
    let gs : List ℕ = 0 ∷ c.args.self.now.gaps.now in
    let short : i < length gs = omega (arith, c.requires.between) in
    let x : KeywordRow = record { gap = c.gap_before-gap.result; first = c.loop-i.first; length = get_or ns i 0 } in
    let next = next_rows c.loop-i.first gs ns i short c.loop-i-test.true in
    let is : x ≡ record { gap = get_or gs i 0; first = c.loop-i.first; length = get_or ns i 0 } = λ k. record { gap = c.gap_before-gap.ensures k; first = c.loop-i.first; length = get_or ns i 0 } in
    let rest : List KeywordRow = keyword_rows_from (c.loop-i.first + c.from-first.result) (drop (i + 1) gs) (drop (i + 1) ns) in
    let e : rest ≡ keyword_rows_from (c.loop-i.first + get_or ns i 0) (drop (i + 1) gs) (drop (i + 1) ns) = ap (λ n. keyword_rows_from (c.loop-i.first + n) (drop (i + 1) gs) (drop (i + 1) ns)) c.from-first.ensures in
    let joined : items c.loop-i.rows ++ x ∷ [] ++ rest ≡ items c.loop-i.rows ++ keyword_rows_from c.loop-i.first (drop i gs) (drop i ns) =
    append_assoc (items c.loop-i.rows) (x ∷ []) rest ∙ ap (λ ys. items c.loop-i.rows ++ ys) ((λ k. is k ∷ e k) ∙ sym next) in
    record {
      rows = ap (λ ys. ys ++ rest) c.push.ensures.items ∙ joined ∙ c.loop-i.invariant.rows;
      first = let n = next_total ns i c.loop-i-test.true in omega (arith, n, c.loop-i.invariant.first, c.from-first.ensures);
      count = omega (arith, c.push.ensures.len, c.loop-i.invariant.count);
    }

pub returns : goal.returns
returns g c =
    let i = c.loop-i.i in
    let none = ap (keyword_rows_from c.loop-i.first (drop i (0 ∷ c.args.self.now.gaps.now))) (drop_all i c.args.self.now.lengths.now c.loop-i-test.false) in
    sym (append-nil (items c.loop-i.rows)) ∙ ap (λ ys. items c.loop-i.rows ++ ys) (sym none) ∙ c.loop-i.invariant.rows
