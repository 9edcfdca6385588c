use Rattle.std.proofs.Common.{◌∙◌}
use Rattle.automaton.proofs.tables.Tables.new.Goals as goal

pub invariant_of-result : goal.invariant_of-result
invariant_of-result c = record {
  sized = (
    c.link.auto.next ∙ c.plant.auto.next ∙ c.split_at_mut-next.ensures.front_len,
    c.link.auto.fail ∙ c.split_at_mut-fail.ensures.front_len,
    c.plant.auto.states ∙ c.split_at_mut-states.ensures.front_len,
    c.link.auto.turns ∙ c.split_at_mut-turns.ensures.front_len,
  );
  linked = ∣ record { automaton = c.link.ensures _ _ c.plant.ensures.1.trie } ∣₁;
}
