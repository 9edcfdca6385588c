use Rattle.std.proofs.Common.{rules, ◌≡◌, nat_eq, ap, ◌∙◌}
use Rattle.std.specs.List.{sum_by}
use Rattle.book.proofs.Cuts.{total_is_sum}
use Rattle.book.proofs.entering.add_up_to.Goals as goal

pub returns : goal.returns
returns c =
    let e : c.sum.result ≡ sum_by (λ n. n) c.args.numbers.now = search rules in
    ap (λ n. nat_eq n c.args.sum) (e ∙ total_is_sum c.args.numbers.now)
