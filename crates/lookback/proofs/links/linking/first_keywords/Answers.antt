use Rattle.std.proofs.Common.{◌≡◌, ℕ, ◌<◌, Bool, ◌&&◌, ◌||◌, eqb, ltb, map, get_or, take, pos, sym, ap, ◌∙◌, arith}
use Rattle.std.proofs.lemmas.List.{map_more, take_all}
use Rattle.std.proofs.lemmas.Bool.Decides.{nat_tests}
use Rattle.book.specs.declared.rows.LineRow.{LineRow}
use Rattle.book.specs.Book.{among}
use Rattle.book.proofs.Amongs.{among_push}
use Rattle.lookback.specs.Prefixes.{opens}
use Rattle.lookback.proofs.links.linking.first_keywords.Goals as goal

-- a mark below 512 that is put in
put : (f k : ℕ) (old : Bool) → k < 512 → ((ltb f 512 && eqb k f) || old) ≡ (eqb f k || old)
put f k old h = grind (arith, nat_tests)

pub loop-line-preserved : goal.loop-line-preserved
loop-line-preserved c k h =
    let ls = c.args.lines.now in
    let i = c.loop-line.line-index in
    let d : LineRow = record { number = 0; points = pos 0; lag = 0; first = 0; keywords = 0 } in
    c.with-firsts.ensures k
    ∙ ap (λ b. (ltb (get_or ls i d).first 512 && eqb k (get_or ls i d).first) || b) (c.loop-line.invariant k h)
    ∙ put (get_or ls i d).first k (opens (take i ls) k) h
    ∙ sym (ap (among k) (map_more (λ l. l.first) ls i d c.loop-line-test.true) ∙ among_push k (map (λ l. l.first) (take i ls)) (get_or ls i d).first)

pub returns : goal.returns
returns c k h = c.loop-line.invariant k h ∙ ap (λ ls. opens ls k) (take_all c.loop-line.line-index c.args.lines.now c.loop-line-test.false)
