use Rattle.std.proofs.Common.{ap, ◌∙◌}
use Rattle.std.proofs.Math.Logic.{∥∥₁_map}
use Rattle.history.specs.Answers.{after}
use Rattle.standings.specs.Turning.{answer}
use Rattle.bench.specs.Keeping.{takes, turn_of}
use Rattle.bench.proofs.Kept.{turn_kept}
use Rattle.bench.proofs.Turns.{answers}
use Rattle.bench.proofs.benches.Bench.turn.Goals as goal

pub invariant_of-self : goal.invariant_of-self
invariant_of-self g c =
    let reads = takes g.F.Finder.reads in
    let n = c.args.number in
    let t = c.args.turn in
    record {
      lived = ∥∥₁_map c.args.self.now.lived (λ l.
          (l.0, after reads l.0 l.1 (turn_of t n), turn_kept g.C.Cell g.F.Finder reads c.args.self.now.finder c.args.self.now.desk l.0 l.1 l.2 n t c.turn.new.self c.turn.ensures.table));
    }

pub returns : goal.returns
returns g c =
    let reads = takes g.F.Finder.reads in
    let n = c.args.number in
    let t = c.args.turn in
    record {
      answer = λ b h r. c.turn.ensures.answer ∙ ap (λ s. answer s t) (r.lives.standings n) ∙ answers reads b h n t;
      history = λ b h r. record { lives = turn_kept g.C.Cell g.F.Finder reads c.args.self.now.finder c.args.self.now.desk b h r.lives n t c.turn.new.self c.turn.ensures.table };
    }
