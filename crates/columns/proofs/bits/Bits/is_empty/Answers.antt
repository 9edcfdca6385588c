use Rattle.std.proofs.Common.{◌≡◌, ℕ, ◌^◌, ◌<◌, Bool, true, false, not, ◌≢◌, Option, None, Some, MatchOption, is_some, Decides, get_or, refl, rules}
use Rattle.columns.specs.declared.bits.Bits.{Bits}
use Rattle.columns.specs.Bits.{bit}
use Rattle.columns.proofs.Places.{bits_none, word_clear}
use Rattle.columns.proofs.bits.Bits.is_empty.Goals as goal

empty : {first n : ℕ} (b : Bits first n) (fits : (i : ℕ) → get_or b.words i 0 < 2 ^ 64) (o : Option ℕ) (r : Bool)
    → MatchOption o ((i : ℕ) → i < n → get_or b.words i 0 ≡ 0) (λ i. (i < n) × (get_or b.words i 0 ≢ 0) × ((k : ℕ) → k < i → get_or b.words k 0 ≡ 0))
    → is_some o ≡ not r
    → Decides r ((k : ℕ) → bit b k ≡ false)
empty b fits None true m e = (λ _. bits_none b m, λ _. refl)
empty b fits None false m e = cc
empty b fits (Some i) true m e = cc
empty b fits (Some i) false m e = (λ f. cc, λ none. absurd (m.1 (word_clear b i m.0 (fits i) none)))

pub returns : goal.returns
returns g c = empty c.args.self (λ i. search rules) c.first_word.result c.is_none.result c.first_word.ensures c.is_none.ensures
