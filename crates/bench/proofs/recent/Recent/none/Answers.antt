use Rattle.std.proofs.Common.{◌%◌, ap, ◌∙◌, arith}
use Rattle.std.proofs.lemmas.List.{get_or-replicate}
use Rattle.columns.specs.Numbers.{member}
use Rattle.bench.specs.Noted.{noted, nobody}
use Rattle.bench.proofs.recent.Recent.none.Goals as goal

pub returns : goal.returns
unfolding noted
returns c i n = ap (λ x. member x n) (get_or-replicate 64 (i % 64) c.none-none.result nobody (omega arith)) ∙ c.none-none.ensures n
