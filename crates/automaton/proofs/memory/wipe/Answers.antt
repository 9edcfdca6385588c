use Rattle.std.proofs.Common.{◌≡◌, ℕ, zero, suc, replicate, refl, ap, ◌∙◌}
use Rattle.automaton.specs.Memory.{at}
use Rattle.automaton.proofs.memory.wipe.Goals as goal

all_zero : (n i : ℕ) → at (replicate n 0) i ≡ 0
all_zero zero i = refl
all_zero (suc n) zero = refl
all_zero (suc n) (suc i) = all_zero n i

pub returns : goal.returns
returns c i = ap (λ part. at part i) (c.fill.ensures.after (λ number same. same)) ∙ all_zero _ i
