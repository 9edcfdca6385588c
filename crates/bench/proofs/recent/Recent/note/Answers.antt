use Rattle.std.proofs.Common.{◌≡◌, ◌%◌, length, ap, arith}
use Rattle.std.proofs.lemmas.List.{get_or-set_same, get_or-set_other}
use Rattle.columns.specs.Numbers.{member}
use Rattle.bench.specs.Noted.{noted, nobody}
use Rattle.bench.proofs.recent.Recent.note.Goals as goal

pub returns : goal.returns
unfolding noted
returns c =
    let at = c.args.self.now.at in
    let whole : length at ≡ 64 = c.args.self.now.whole in
    record {
      newest = λ n. ap (λ x. member x n) (get_or-set_same at (c.args.tick % 64) c.args.reported nobody (omega arith));
      others = λ i n before near. ap (λ x. member x n) (get_or-set_other at (c.args.tick % 64) (i % 64) c.args.reported nobody (λ same. omega (arith, same)));
    }
