use Rattle.std.proofs.Common.{sym, refl, ◌∙◌, arith}
use mathlib.Core.Logic.{∥∥₁_elim}
use denote.Struct.Props.{props}
use Rattle.automaton.proofs.Stands.{within_turns}
use Rattle.automaton.proofs.Walks.{meets_on, meets_here}
use Rattle.automaton.proofs.tables.Tables.meets.Goals as goal

pub loop-met-init : goal.loop-met-init
loop-met-init c = let t = c.args.self.now in (omega (arith, within_turns t.turns.now c.args.state c.requires.state, t.sized.3), c.requires.state, refl)

pub bounds-self-goal : goal.bounds-self-goal
bounds-self-goal c = within_turns _ _ c.requires.goal

pub loop-met-smaller : goal.loop-met-smaller
loop-met-smaller c = let t = c.args.self.now in ∥∥₁_elim t.linked (hlevel props) (λ L. (meets_on _ _ L.automaton.links _ _ c.requires.goal c.loop-met-test.true).1)

pub loop-met-preserved : goal.loop-met-preserved
loop-met-preserved c =
    let t = c.args.self.now in
    ∥∥₁_elim t.linked (hlevel props) (λ L.
    let m = meets_on _ _ L.automaton.links _ _ c.requires.goal c.loop-met-test.true in
    (omega (arith, within_turns t.turns.now _ m.0, t.sized.3), m.0, c.loop-met.invariant.2 ∙ m.2))

pub returns : goal.returns
returns c =
    let t = c.args.self.now in
    ∥∥₁_elim t.linked (hlevel props) (λ L. meets_here _ _ L.automaton.links _ _ c.loop-met.invariant.1 c.loop-met-test.false ∙ sym c.loop-met.invariant.2)
