use mathlib.Core.Logic.{∥∥₁_elim}
use denote.Struct.Props.{props}
use Rattle.automaton.proofs.Stands.{root_turned, none_stands}
use Rattle.automaton.proofs.tables.Tables.root.Goals as goal

pub returns : goal.returns
returns c =
    let t = c.args.self.now in
    record {
      state = ∥∥₁_elim t.linked (hlevel props) (λ L. root_turned _ _ _ _ _ L);
      none = ∥∥₁_elim t.linked (hlevel props) (λ L. none_stands _ _ _ _ _ L);
    }
