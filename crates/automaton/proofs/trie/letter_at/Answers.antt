use Rattle.std.proofs.Common.{◌-◌, length, sym, ap, ◌∙◌, arith}
use Rattle.std.proofs.lemmas.List.{get_or-map}
use Rattle.automaton.specs.Memory.{at}
use Rattle.automaton.specs.Places.{letters}
use Rattle.automaton.proofs.trie.letter_at.Goals as goal

pub returns : goal.returns
returns c =
    let cells = c.cells.result.now in
    let x = c.index-cells-place.result in
    record {
      value = ap (λ xs. at (letters xs) c.args.place) (sym c.cells.ensures.cells)
          ∙ get_or-map (λ d. d.letter.byte - 65) cells c.args.place x 0 (omega (arith, ap length c.cells.ensures.cells, c.requires))
          ∙ ap (λ d. d.letter.byte - 65) (sym c.index-cells-place.is)
          ∙ ap (λ l. l.byte - 65) (sym c.letter.ensures)
          ∙ sym c.index.ensures.value;
      bound = c.index.ensures.bound;
      few = omega (arith, ap length c.cells.ensures.cells, c.cells.ensures.few);
    }
