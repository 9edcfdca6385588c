use Rattle.std.proofs.Common.{◌≡◌, ℕ, ◌+◌, ◌-◌, List, [], ◌∷◌, sum, fold, map, take, drop, ap, ◌∙◌, arith}
use Rattle.book.specs.Cutting.{total}
use Rattle.bench.specs.Listed.{row_span}
use Rattle.bench.proofs.lines.listing.span.Goals as goal

fold_total : (a : ℕ) (ns : List ℕ) → fold (λ a n. a + n) a ns ≡ a + total ns
fold_total a [] = omega arith
fold_total a (n ∷ ns) = let e = fold_total (a + n) ns in omega (arith, e)

pub returns : goal.returns
unfolding row_span
returns c =
    let f = c.args.line.now.first in
    let n = c.args.line.now.keywords in
    let own : List ℕ = map (λ k. k.gap + k.length) (take n (drop f c.args.keywords.now)) in
    let same : f + n - f ≡ n = omega arith in
    c.reach.ensures
    ∙ ap (λ k. sum (map (λ k. k.gap + k.length) (take k (drop f c.args.keywords.now)))) same
    ∙ fold_total 0 own
    ∙ (let z : 0 + total own ≡ total own = omega arith in z)
