use Rattle.std.proofs.Common.{◌≡◌, ◌+◌, ◌*◌, ◌^◌, ◌<◌, sym, ◌∙◌, arith, rules}
use lib.Count.{ones}
use Rattle.std.specs.List.{sum_by}
use Rattle.columns.specs.Bits.{bit}
use Rattle.columns.proofs.Tallies.{how_many-le, how_many-words}
use Rattle.columns.proofs.bits.Bits.count.Goals as goal

pub sum-requires-clause-fits : goal.sum-requires-clause-fits
sum-requires-clause-fits g c =
    let all = how_many-words c.args.self (search rules) (λ i. search rules) in
    let few = how_many-le (bit c.args.self) (g.row.FIRST + 64 * g.row.N) in
    let fits : sum_by ones c.args.self.words < 2 ^ 64 = omega (arith, all, few) in
    search rules

pub returns : goal.returns
returns g c =
    let total : c.sum.result ≡ sum_by ones c.args.self.words = search rules in
    total ∙ sym (how_many-words c.args.self (search rules) (λ i. search rules))
