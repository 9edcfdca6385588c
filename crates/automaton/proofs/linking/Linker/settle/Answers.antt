use Rattle.std.proofs.Common.{refl, ap, ◌∙◌, arith, get_or-set_other}
use Rattle.automaton.specs.Memory.{at}
use Rattle.automaton.proofs.Breadths.{child_fresh, child_other, within_none, within_child, within_same}
use Rattle.automaton.proofs.linking.Linker.settle.Goals as goal

pub give_turn-requires : goal.give_turn-requires
give_turn-requires c =
    let R = c.requires.within.1 in
    let f = child_fresh _ _ _ _ _ _ _ _ R c.requires.letter _ _ c.edge-edge.ensures refl (omega arith) in
    record { fail = omega (arith, f.0, R.stored.fail_long); turns = omega (arith, f.0, R.stored.turns_long); room = omega (arith, f.2, R.last, c.requires.room); turn = f.2 }

pub returns-then-found-eq-ROOT-clause-within : goal.returns-then-found-eq-ROOT-clause-within
returns-then-found-eq-ROOT-clause-within c w R = within_none w _ _ _ _ _ _ _ R c.requires.letter _ _ c.edge-edge.ensures c.fall_back-back.ensures c.if-found-eq-ROOT.true

pub returns-else-found-eq-ROOT-clause-within : goal.returns-else-found-eq-ROOT-clause-within
returns-else-found-eq-ROOT-clause-within c w R =
    let given = c.give_turn.ensures in
    within_same w _ _ given.next given.fail given.turns given.queue given.turn
    (within_child w _ _ _ _ _ _ _ R c.requires.letter _ _ _ c.edge-edge.ensures c.fall_back-back.ensures refl (omega arith))

pub returns-else-found-eq-ROOT-clause-turn : goal.returns-else-found-eq-ROOT-clause-turn
returns-else-found-eq-ROOT-clause-turn c =
    ap (λ l. at l c.args.state) c.give_turn.ensures.turns
    ∙ get_or-set_other c.args.self.now.turns.now _ c.args.state _ 0 (child_other _ _ _ _ _ _ _ _ c.requires.within.1 c.requires.letter _ _ c.edge-edge.ensures refl (omega arith))
