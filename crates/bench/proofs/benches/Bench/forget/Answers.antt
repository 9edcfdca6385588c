use Rattle.std.proofs.Common.{refl, ap, ◌∙◌, ◌∷◌}
use Rattle.std.proofs.Math.Logic.{∥∥₁_map}
use Rattle.book.specs.Rows.{line_rows}
use Rattle.history.specs.Calls.{clear, samples}
use Rattle.bench.proofs.Kept.{fresh, cleared}
use Rattle.bench.proofs.benches.Bench.forget.Goals as goal

pub invariant_of-self : goal.invariant_of-self
invariant_of-self g c = record {
  lived = ∥∥₁_map c.args.self.now.lived (λ l.
      let b = l.0 in
      let h = l.1 in
      let sees = c.clear.ensures b (samples h) l.2.sees in
      let rows = c.lines.ensures.rows ∙ ap line_rows sees.finder.of in (
        b,
        clear ∷ h,
        cleared g.C.Cell g.F.Finder c.clear.new.finder _ b h
            (fresh g.C.Cell g.F.Finder c.clear.new.finder _ b sees l.2.lines refl c.lines.result.now rows c.new-self.ensures c.none-self.ensures),
      ));
}

pub returns : goal.returns
returns g c = record {
  answer = λ b h r. refl;
  history = λ b h r. record {
    lives =
        let sees = c.clear.ensures b (samples h) r.lives.sees in
        let rows = c.lines.ensures.rows ∙ ap line_rows sees.finder.of in
        cleared g.C.Cell g.F.Finder c.clear.new.finder _ b h
        (fresh g.C.Cell g.F.Finder c.clear.new.finder _ b sees r.lives.lines refl c.lines.result.now rows c.new-self.ensures c.none-self.ensures);
  };
}
