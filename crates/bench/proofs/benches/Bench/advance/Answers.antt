use Rattle.std.proofs.Common.{◌≡◌, ◌<◌, ◌∷◌, true, is_some, Ok, sym, ap, ◌∙◌, subst, arith}
use Rattle.std.proofs.Math.Logic.{∥∥₁_map}
use Rattle.history.specs.Calls.{feed, samples, count}
use Rattle.bench.specs.Keeping.{takes}
use Rattle.bench.specs.Life.{Lives}
use Rattle.bench.proofs.Feeds.{tells, lives_on, fed_answer, fed_after}
use Rattle.bench.proofs.benches.Bench.advance.Goals as goal

pub tick-requires : goal.tick-requires
tick-requires g c = c.requires.1.room

pub invariant_of-self : goal.invariant_of-self
invariant_of-self g c =
    let s = c.requires.0 in
    let ready = c.requires.1 in
    record {
      lived = ∥∥₁_map c.args.self.now.lived (λ l.
          let b = l.0 in
          let h = l.1 in
          (b, feed s ∷ h, lives_on g.C.Cell g.F.Finder c.args.self.now.finder c.args.self.now.desk b h l.2 s c.take-column.new.lookback c.take-column.result c.tick.result c.tick.new.self (c.take-column.ensures.occur b (samples h) s l.2.sees ready.heard) c.tick.ensures c.take-column.new.finder (c.take-column.ensures.sees b (samples h) s l.2.sees ready.heard)));
    }

pub returns : goal.returns
returns g c s ready =
    let hears = g.C.Cell.hears in
    let reads = takes g.F.Finder.reads in
    let f = c.args.self.now.finder in
    let d = c.args.self.now.desk in
    let taken : is_some (g.F.Finder.reads s) ≡ true = ap is_some ready.read in
    record {
      answer = λ b h r.
          let room : count h < 4000000000 = omega (arith, r.lives.ticks, ready.room) in
          ap Ok (tells g.C.Cell g.F.Finder f d b h r.lives s c.take-column.new.lookback c.take-column.result c.tick.result c.tick.new.self (c.take-column.ensures.occur b (samples h) s r.lives.sees ready.heard) c.tick.ensures reads)
          ∙ sym (fed_answer hears reads b h s taken room);
      history = λ b h r.
          let room : count h < 4000000000 = omega (arith, r.lives.ticks, ready.room) in
          record {
            lives = subst (λ x. Lives g.C.Cell g.F.Finder c.take-column.new.finder c.tick.new.self b x) (sym (fed_after hears reads b h s taken room))
                (lives_on g.C.Cell g.F.Finder f d b h r.lives s c.take-column.new.lookback c.take-column.result c.tick.result c.tick.new.self (c.take-column.ensures.occur b (samples h) s r.lives.sees ready.heard) c.tick.ensures c.take-column.new.finder (c.take-column.ensures.sees b (samples h) s r.lives.sees ready.heard));
          };
    }
