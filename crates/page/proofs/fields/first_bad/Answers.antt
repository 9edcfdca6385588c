use Rattle.std.proofs.Common.{arith}
use Rattle.std.proofs.lemmas.Bool.Decides.{nat_tests}
use Rattle.page.specs.Letters.{bad_letter}
use Rattle.page.proofs.Steps.{blanks_step, blanks_end}
use Rattle.page.proofs.fields.first_bad.Goals as goal

pub returns-then-letters-eq0-clause-value : goal.returns-then-letters-eq0-clause-value
unfolding bad_letter
returns-then-letters-eq0-clause-value c = grind (arith, nat_tests)

pub returns-then-column-field-clause-value : goal.returns-then-column-field-clause-value
unfolding bad_letter
returns-then-column-field-clause-value c = grind (arith, nat_tests, blanks_end)

pub returns-then-field-column-ne-BLANK-clause-value : goal.returns-then-field-column-ne-BLANK-clause-value
unfolding bad_letter
returns-then-field-column-ne-BLANK-clause-value c = grind (arith, nat_tests, blanks_step)
