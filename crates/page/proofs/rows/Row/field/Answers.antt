use Rattle.std.proofs.Common.{◌≡◌, ◌+◌, ◌-◌, take, drop, ap, arith}
use Rattle.page.specs.Columns.{from_column}
use Rattle.page.proofs.rows.Row.field.Goals as goal

pub returns-clause-bytes : goal.returns-clause-bytes
unfolding from_column
returns-clause-bytes c =
    let from = c.args.column - 1 in
    let n : (from + c.args.width) - from ≡ c.args.width = omega arith in
    ap (λ k. take k (drop from c.args.self.now.bytes.now)) n
