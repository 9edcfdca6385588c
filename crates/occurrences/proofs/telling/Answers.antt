use Rattle.std.proofs.Common.{refl}
use Rattle.occurrences.proofs.InBook.{line_occurs}
use Rattle.occurrences.proofs.telling.Goals as goal

pub returns : goal.returns
returns g c = record { same = refl; tells = λ before l behind newest q₁ q. line_occurs g.C.Cell.hears before l behind q₁ q newest }
