use Rattle.std.proofs.Common.{◌<◌, true, false, map, get_or, take, sym, refl, ap, ◌∙◌, arith}
use Rattle.std.proofs.lemmas.List.{length-set, map_more}
use Rattle.book.specs.declared.rows.KeywordRow.{KeywordRow}
use Rattle.book.specs.Book.{among}
use Rattle.finders.proofs.Marks.{never}
use Rattle.finders.proofs.Steps.{first_more}
use Rattle.finders.proofs.rows.places.first_places.Goals as goal

pub loop-keyword-init : goal.loop-keyword-init
loop-keyword-init g c = (refl, λ p h. never false 1023 p)

pub loop-keyword-preserved : goal.loop-keyword-preserved
loop-keyword-preserved g c =
    let d : KeywordRow = record { gap = 0; first = 0; length = 0 } in
    let ks = c.keywords-keyword-items.result.now in
    let i = c.loop-keyword.keyword-index in
    let I = c.loop-keyword.invariant in
    let n = (get_or ks i d).first in
    let f = c.keywords-keyword-items.ensures.fit i d c.loop-keyword-test.true in
    let lt : n < 1023 = omega (arith, f.inside, f.some) in
    let step = map_more (λ k. k.first) ks i d c.loop-keyword-test.true in
    (length-set c.loop-keyword.firsts n true ∙ I.0, λ p h. first_more c.loop-keyword.firsts (map (λ k. k.first) (take i ks)) n p I.0 lt (I.1 p h) ∙ ap (among p) (sym step))
