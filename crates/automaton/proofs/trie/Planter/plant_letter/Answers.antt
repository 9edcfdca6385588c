use Rattle.std.proofs.Common.{refl, arith}
use Rattle.automaton.proofs.Grows.{edge_inside, plant_old, plant_new}
use Rattle.automaton.proofs.trie.Planter.plant_letter.Goals as goal

pub bounds-self-edge : goal.bounds-self-edge
bounds-self-edge c = edge_inside _ _ _ _ _ _ _ _ c.requires.planted c.requires.place c.letter_at.ensures.few c.requires.from c.letter_at.ensures.value c.letter_at.ensures.bound c.edge-edge.ensures

pub bounds-self-edge-then-found-eq-ROOT : goal.bounds-self-edge-then-found-eq-ROOT
bounds-self-edge-then-found-eq-ROOT c = edge_inside _ _ _ _ _ _ _ _ c.requires.planted c.requires.place c.letter_at.ensures.few c.requires.from c.letter_at.ensures.value c.letter_at.ensures.bound c.edge-edge.ensures

pub returns-then-found-eq-ROOT-clause-planted : goal.returns-then-found-eq-ROOT-clause-planted
returns-then-found-eq-ROOT-clause-planted c = plant_new _ _ _ _ _ _ _ _ c.requires.planted c.requires.place c.letter_at.ensures.few c.requires.from c.letter_at.ensures.value c.letter_at.ensures.bound c.edge-edge.ensures c.if-found-eq-ROOT.true

pub returns-else-found-eq-ROOT-clause-planted : goal.returns-else-found-eq-ROOT-clause-planted
returns-else-found-eq-ROOT-clause-planted c =
    plant_old _ _ _ _ _ _ _ _ c.requires.planted c.requires.place c.letter_at.ensures.few c.requires.from c.letter_at.ensures.value c.letter_at.ensures.bound c.edge-edge.ensures _ refl (omega arith)
