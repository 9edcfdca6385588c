use Rattle.std.proofs.Common.{◌≡◌, get_or, pos, sym, ap, arith}
use Rattle.std.proofs.lemmas.List.{at_drop_more, at_drop_all}
use Rattle.std.proofs.lemmas.Int.{ints}
use Rattle.bench.specs.declared.lines.Watched.{Watched}
use Rattle.bench.specs.Due.{due_of, due_points}
use Rattle.bench.proofs.desks.Desk.points_due.Goals as goal

none : Watched
none = record { number = 0; points = pos 0; lag = 0; last = 0; span = 0 }

pub loop-line-preserved : goal.loop-line-preserved
unfolding none
loop-line-preserved c =
    let lines = c.as_slice-line-items.result.now in
    let i = c.loop-line.line-index in
    let desk = c.args.self.now in
    let inv = c.loop-line.invariant in
    let e = at_drop_more (due_points desk.recent desk.count) lines i none c.loop-line-test.true in
    let here : due_of desk.recent desk.count (get_or lines i none) ≡ c.points_of.result = sym c.points_of.ensures in
    record {
      sum = omega (arith, ints, e, here, inv.sum);
      low = omega (arith, ints, inv.low);
      high = omega (arith, ints, inv.high);
      few = inv.few;
    }

pub returns : goal.returns
returns c =
    let desk = c.args.self.now in
    let e = at_drop_all (due_points desk.recent desk.count) c.as_slice-line-items.result.now c.loop-line.line-index c.loop-line-test.false in
    let whole = ap (due_points desk.recent desk.count) c.as_slice-line-items.ensures.value in
    omega (arith, ints, e, c.loop-line.invariant.sum, whole)
