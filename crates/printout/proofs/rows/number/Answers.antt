use Rattle.std.proofs.Common.{◌≡◌, ◌-◌, length, rules, arith}
use Rattle.std.proofs.lemmas.List.{append_assoc}
use Rattle.printout.specs.Fields.{right}
use Rattle.printout.proofs.rows.number.Goals as goal

pub push_str-requires : goal.push_str-requires
push_str-requires g c = (omega arith, omega arith)

pub returns-clause-text : goal.returns-clause-text
unfolding right
returns-clause-text g c =
    let filled : c.loop.counter ≡ c.args.width - length c.format-decimal.result.now = omega arith in
    search (rules, append_assoc, filled)
