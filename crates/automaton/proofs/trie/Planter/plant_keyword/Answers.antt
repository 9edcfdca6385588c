use Rattle.std.proofs.Common.{◌≡◌, ◌+◌, ◌-◌, cond, sym, ap, ◌∙◌, arith}
use Rattle.book.specs.Stored.{sealed_book}
use Rattle.finders.specs.Runs.{begins}
use Rattle.automaton.specs.Memory.{at}
use Rattle.automaton.proofs.Grows.{planted_to}
use Rattle.automaton.proofs.trie.Planter.plant_keyword.Goals as goal

pub plant_letter-state-requires-clause-from : goal.plant_letter-state-requires-clause-from
plant_letter-state-requires-clause-from c =
    let p = c.loop-place.place in
    let f = c.args.keyword.first in
    let e : p ≡ f + (p - f) = omega arith in
    ap (λ b. cond b 0 (at c.loop-place.self.states.now (p - 1))) (ap (begins (sealed_book c.args.book.now)) e ∙ c.requires.lies.first (p - f) (omega arith))
    ∙ sym c.loop-place.invariant.state

pub returns-clause-planted : goal.returns-clause-planted
returns-clause-planted c = planted_to _ _ _ _ _ _ (let e : c.loop-place.place ≡ c.args.keyword.first + c.args.keyword.length = omega arith in e) c.loop-place.invariant.planted
