use Rattle.std.proofs.Common.{◌≡◌, ℕ, subst, arith}
use Rattle.automaton.specs.Linking.{Inside}
use Rattle.automaton.proofs.linking.Linker.settle_state.Goals as goal

pub returns-clause-within : goal.returns-clause-within
returns-clause-within c w R =
    subst (λ (k : ℕ). Inside w c.loop-letter.self c.args.state k) (let e : c.loop-letter.letter ≡ 16 = omega arith in e) (c.loop-letter.invariant.within w R)
