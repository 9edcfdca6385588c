use Rattle.std.proofs.Common.{length, decimal, ap, arith}
use Rattle.std.proofs.lemmas.Fmt.{length-decimal-le}
use Rattle.refusals.specs.Numbers.{number_of}
use Rattle.printout.specs.Fields.{right}
use Rattle.printout.proofs.Fields.{length_right, length_fields}
use Rattle.printout.proofs.refusal_row.Goals as goal

pub returns-clause-columns : goal.returns-clause-columns
returns-clause-columns c few_rows few_columns =
    let number = decimal c.number.result in
    let row = decimal c.args.row in
    let column = decimal c.args.column in
    let same = ap (λ n. length (right 4 (decimal n))) c.number.ensures in
    let in_four = length_right 4 number (omega (arith, c.number-2.ensures.short)) in
    let in_six = length_right 6 row (length-decimal-le 6 c.args.row (omega arith) few_rows (omega arith)) in
    let in_eleven = length_right 11 column (length-decimal-le 11 c.args.column (omega arith) few_columns (omega arith)) in
    omega (arith, length_fields (right 4 (decimal (number_of c.args.refusal))) (right 6 row) (right 11 column) 10)
