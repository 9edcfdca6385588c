use Rattle.std.proofs.Common.{sym}
use Rattle.cells.specs.Alphabet.{is_letter}
use Rattle.cells.specs.Whens.{when_passes}
use Rattle.cells.proofs.letters.Letter.new.Goals as goal

pub returns-then-contains : goal.returns-then-contains
returns-then-contains c = sym (when_passes (is_letter c.args.byte) _ _)
