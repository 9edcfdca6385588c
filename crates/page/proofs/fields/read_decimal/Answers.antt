use Rattle.std.proofs.Common.{rules}
use Rattle.page.specs.Decimals.{decimal_in}
use Rattle.page.proofs.fields.read_decimal.Goals as goal

pub returns : goal.returns
unfolding decimal_in
returns c = search rules
