-- When a line occurs: the gapped pattern, laid keyword after keyword from its start.
use Rattle.std.specs.Prelude.{ℕ, ◌+◌, ◌-◌, Bool, true, ◌&&◌, List, [], ◌∷◌, map, length, nat_le}
use Rattle.book.specs.Book.{Line}
use Rattle.book.specs.Cutting.{total}
use Rattle.finders.specs.Runs.{passes}

module _ {C S : Type 0} (hears : C → S → Bool) where
  -- whether a cell admits tick t of some ticks, the oldest first; ticks count from 1
  abbrev pub admits_tick : List S → ℕ → C → Bool
  admits_tick ticks t c = passes (hears c) ticks (t - 1)

  -- whether the cells of a keyword admit the ticks from t on, one for one
  abbrev pub keyword_at : List S → List C → ℕ → Bool
  keyword_at ticks [] t = true
  keyword_at ticks (c ∷ cs) t = admits_tick ticks t c && keyword_at ticks cs (t + 1)

  -- whether keywords and gaps, laid in turn from tick t on, meet ticks that the cells admit
  abbrev pub laid_from : List S → List (List C) → List ℕ → ℕ → Bool
  laid_from ticks [] gaps t = true
  laid_from ticks (w ∷ ws) [] t = keyword_at ticks w t && laid_from ticks ws [] (t + length w)
  laid_from ticks (w ∷ ws) (g ∷ gaps) t = keyword_at ticks w t && laid_from ticks ws gaps (t + length w + g)

-- the span of a line: all its cells and all its gaps
abbrev pub span : {C : Type 0} → Line C → ℕ
span l = total (map length l.keywords) + total l.gaps

-- Whether a line occurs ending at tick i: its start, i - span + 1, is at least 1, and laid from there its cells admit
-- their ticks.
abbrev pub occurs : {C S : Type 0} → (C → S → Bool) → Line C → List S → ℕ → Bool
occurs hears l ticks i = nat_le (span l) i && laid_from hears ticks l.keywords l.gaps (i - span l + 1)
