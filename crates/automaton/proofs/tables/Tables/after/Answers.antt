use Rattle.std.proofs.Common.{ℕ, ◌-◌, ◌<◌, eqb, sym, ap, ◌∙◌, subst, arith}
use mathlib.Core.Logic.{∥∥₁_elim}
use denote.Struct.Props.{props}
use Rattle.cells.specs.Letters.{letter_admits}
use Rattle.automaton.specs.Memory.{at}
use Rattle.automaton.specs.Standing.{stands_in}
use Rattle.automaton.proofs.Stands.{within_turns, same_letter, takes}
use Rattle.automaton.proofs.tables.Tables.after.Goals as goal

pub bounds-self-edge : goal.bounds-self-edge
bounds-self-edge c =
    let t = c.args.self.now in
    omega (arith, t.sized.0, t.sized.3, within_turns t.turns.now c.args.state c.requires, c.edge.ensures, c.index.ensures.bound)

pub returns : goal.returns
returns c =
    let t = c.args.self.now in
    let x = c.args.state in
    let e = ap (at t.next.now) c.edge.ensures in
    record {
      state = ∥∥₁_elim t.linked (hlevel props) (λ L. subst (λ (y : ℕ). 0 < at t.turns.now y) (sym e) (L.automaton.settled x c.index.result c.index.ensures.bound c.requires).seen);
      stands = ∥∥₁_elim t.linked (hlevel props) (λ L p.
          ap (λ y. stands_in t y p) e
          ∙ takes _ _ _ _ _ L x c.index.result c.index.ensures.bound c.requires (λ d. letter_admits d c.args.letter)
          (λ d. same_letter d.letter c.args.letter ∙ ap (eqb (d.letter.byte - 65)) (sym c.index.ensures.value)) p);
    }
