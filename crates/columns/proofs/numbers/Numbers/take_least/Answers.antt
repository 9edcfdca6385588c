use Rattle.std.proofs.Common.{◌<◌, arith}
use Rattle.columns.specs.Numbers.{member}
use Rattle.columns.proofs.Places.{set_below, set_from}
use Rattle.columns.proofs.Rises.{passing_none, passing_least}
use Rattle.columns.proofs.numbers.Numbers.take_least.Goals as goal

pub returns-in_err-number : goal.returns-in_err-number
unfolding member
returns-in_err-number c =
    let e = c.in_err-number.ensures in
    let none = passing_none (member c.args.self.now) 1 128 e.0 in
    rw (c.from_residual.ensures, e.1) (none, none)

below : (c : goal.In_ok-number) → c.in_ok-number.number < 129
below c = set_below c.args.self.now.0 _ c.in_ok-number.ensures.0.0

pub overflow_cast-result : goal.overflow_cast-result
overflow_cast-result c = record { fits = omega (arith, below c) }

pub returns : goal.returns
unfolding member
returns c =
    let e = c.in_ok-number.ensures in
    passing_least (member c.args.self.now) _ c.in_ok-number.number e.0 e.1 1 128 (set_from c.args.self.now.0 _ e.0.0) (omega (arith, below c))
